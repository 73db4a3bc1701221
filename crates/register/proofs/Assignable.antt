-- An answer of E5 has a value exactly where it is not refused.
-- Assumes nothing.
use Rattle.std.specs.Prelude.{◌≡◌, ℕ, eqb, Option, Some, None, is_some}
use mathlib.Core.Path.{refl}
use Rattle.raster.specs.Raster.{raster_refusal}

pub has_value : (o : Option ℕ) → is_some o ≡ eqb (raster_refusal o) 0
has_value None = refl
has_value (Some x) = refl

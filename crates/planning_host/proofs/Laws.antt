-- What a host gets is the table's (document 02, E5): 0 and the value where a row has it, and 14 and 0 where none does.
-- Assumes nothing.
use mathlib.Core.Path.{◌≡◌, refl}
use Prim.Native.Nat.{ℕ}
use Rattle.std.specs.Prelude.{Option, Some, None}
use Rattle.std.specs.Option.{ok_or}
use Rattle.raster.specs.Raster.{not_on_raster}
use Rattle.raster.specs.Table.{OnRaster}
use Rattle.raster.proofs.ByTable.{on_raster_khz, off_raster_khz, raster_number_refused, on_raster_carrier, off_raster_carrier, raster_frequency_refused}
use Rattle.calendar.specs.Calendar.{not_in_calendar}
use Rattle.planning_host.specs.Conversions.{flat_value, flat_raster, flat_khz, flat_carrier_number, flat_minute_answer}

-- an answer, computed as a result
pub raster_as_result : (answer : Option ℕ) → flat_value not_on_raster (ok_or answer (record {})) ≡ flat_raster answer
raster_as_result (Some value) = refl
raster_as_result None = refl

pub minute_as_result : (answer : Option ℕ) → flat_value not_in_calendar (ok_or answer (record {})) ≡ flat_minute_answer answer
minute_as_result (Some minute) = refl
minute_as_result None = refl

pub flat_khz_lem : (n f : ℕ) → OnRaster n f → flat_khz n ≡ record { refusal = 0; value = f }
flat_khz_lem n f row = simp ((on_raster_khz n f row).0, (on_raster_khz n f row).1)

pub flat_khz_refused : (n : ℕ) → ((f : ℕ) → OnRaster n f → ⊥) → flat_khz n ≡ record { refusal = 14; value = 0 }
flat_khz_refused n off = simp (raster_number_refused n off, off_raster_khz n off)

pub flat_number_lem : (n f : ℕ) → OnRaster n f → flat_carrier_number f ≡ record { refusal = 0; value = n }
flat_number_lem n f row = simp ((on_raster_carrier n f row).0, (on_raster_carrier n f row).1)

pub flat_number_refused : (f : ℕ) → ((n : ℕ) → OnRaster n f → ⊥) → flat_carrier_number f ≡ record { refusal = 14; value = 0 }
flat_number_refused f off = simp (raster_frequency_refused f off, off_raster_carrier f off)

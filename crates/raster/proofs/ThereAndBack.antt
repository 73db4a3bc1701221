-- "Each number has its own frequency, and going there and back loses nothing." For every natural number, so for every number of 64 bits.
-- Assumes nothing.
use mathlib.Core.Path.{◌≡◌, refl, sym, ◌∙◌}
use mathlib.Core.Logic.{inl, inr}
use Prim.Native.Nat.{ℕ, ◌<◌}
use native.Mathlib.Omega.{arith}
use Rattle.std.specs.Prelude.{Some, None}
use Rattle.raster.specs.Table.{OnRaster}
use Rattle.raster.specs.Raster.{frequency_of, whole_steps, number_of, raster_refusal}
use Rattle.raster.proofs.ByTable.{frequency_on_raster, on_raster_frequency, number_on_raster, on_raster_number, raster_frequency_refused}

-- from a number to its frequency and back
pub back_to_number : (n f : ℕ) → frequency_of n ≡ Some f → number_of f ≡ Some n
back_to_number n f e = on_raster_number n f (frequency_on_raster n f e)

-- from a frequency to its number and back
pub back_to_frequency : (f n : ℕ) → number_of f ≡ Some n → frequency_of n ≡ Some f
back_to_frequency f n e = on_raster_frequency n f (number_on_raster n f e)

-- "Each number has its own frequency"
pub own_frequency : (m n f : ℕ) → frequency_of m ≡ Some f → frequency_of n ≡ Some f → m ≡ n
own_frequency m n f p q = same (sym (back_to_number m f p) ∙ back_to_number n f q)
  where
    same : Some m ≡ Some n → m ≡ n
    same e = cc

-- between the second and the third range, and past the last number, no frequency has a number
pub gap : (f : ℕ) → 24249990 < f → f < 24250080 → raster_refusal (number_of f) ≡ 14
gap f after before = raster_frequency_refused f off
  where
    off : (n : ℕ) → OnRaster n f → ⊥
    off n (inl row) = omega arith
    off n (inr (inl row)) = omega arith
    off n (inr (inr row)) = omega arith

pub past_the_last : (f : ℕ) → 99999960 < f → raster_refusal (number_of f) ≡ 14
past_the_last f after = raster_frequency_refused f off
  where
    off : (n : ℕ) → OnRaster n f → ⊥
    off n (inl row) = omega arith
    off n (inr (inl row)) = omega arith
    off n (inr (inr row)) = omega arith

-- the ends of the ranges, computed
pub ends :
    (frequency_of 0 ≡ Some 0)
    × (frequency_of 599999 ≡ Some 2999995)
    × (frequency_of 600000 ≡ Some 3000000)
    × (frequency_of 2016666 ≡ Some 24249990)
    × (frequency_of 2016667 ≡ Some 24250080)
    × (frequency_of 3279165 ≡ Some 99999960)
    × (frequency_of 3279166 ≡ None)
    × (number_of 3000005 ≡ None)
unfolding frequency_of number_of whole_steps
ends = (refl, refl, refl, refl, refl, refl, refl, refl)

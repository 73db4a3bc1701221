-- The global raster table of 3GPP TS 38.104 (document 02, E5): what it says, without a computation.
-- Assumes nothing.
use Rattle.std.specs.Prelude.{◌≡◌, ◌⊎◌, ℕ, ◌+◌, ◌*◌, ◌-◌, ◌≤◌}

-- a row: numbers `first` to `last` step `step` kHz from `start` kHz, and n has f kHz
pub record RasterRow (first last step start n f : ℕ) : Type 0 where
  pub from : first ≤ n
  pub to : n ≤ last
  pub khz : f ≡ start + step * (n - first)

-- "Numbers 0 to 599999 step 5 kHz from 0. Numbers 600000 to 2016666 step 15 kHz from 3,000,000 kHz. Numbers 2016667 to 3279165 step
-- 60 kHz from 24,250,080 kHz."
abbrev pub OnRaster : ℕ → ℕ → Type 0
OnRaster n f =
    RasterRow 0 599999 5 0 n f
    ⊎ (RasterRow 600000 2016666 15 3000000 n f
    ⊎ RasterRow 2016667 3279165 60 24250080 n f)

-- Frequencies rise with numbers across the three ranges of the raster, and the first number at an edge or above it.
-- Assumes nothing.
use mathlib.Core.Path.{◌≡◌, refl, ap, subst⁻¹}
use mathlib.Core.Logic.{◌⊎◌, inl, inr}
use mathlib.Core.Bool.{true, false}
use Prim.Native.Nat.{ℕ, ◌+◌, ◌*◌, ◌-◌, ◌/◌, ◌≤◌, ◌<◌}
use native.Mathlib.Omega.{arith}
use lib.Dec.{leb}
use borrow.Author.Tests.{leb-true, leb-false}
use Rattle.basics.proofs.Tests.{either}
use Rattle.raster.specs.Table.{RasterRow, OnRaster}
use Rattle.std.specs.Prelude.{Option, Some, None}
use Rattle.raster.specs.Raster.{frequency_of, raster_value}
use Rattle.raster.proofs.ByTable.{frequency_on_raster, on_raster_frequency}
use Rattle.reach.specs.Reach.{khz_at}
use Rattle.reach.specs.Search.{FirstFrom}

-- the table's frequency is the one that is computed
pub khz_is : (n f : ℕ) → OnRaster n f → khz_at n ≡ f
khz_is n f row = ap raster_value (on_raster_frequency n f row)

-- every number up to the last is on the raster
pub on_raster : (n : ℕ) → n ≤ 3279165 → OnRaster n (khz_at n)
on_raster n h = go (either (leb n 599999)) (either (leb n 2016666))
  where
    is : (f : ℕ) → OnRaster n f → OnRaster n (khz_at n)
    is f row = subst⁻¹ (λ (g : ℕ). OnRaster n g) (khz_is n f row) row

    go : (leb n 599999 ≡ true) ⊎ (leb n 599999 ≡ false) → (leb n 2016666 ≡ true) ⊎ (leb n 2016666 ≡ false) → OnRaster n (khz_at n)
    go (inl a) b = is (0 + 5 * (n - 0)) (inl (record { from = omega arith; to = leb-true _ _ a; khz = refl }))
    go (inr a) (inl b) = is (3000000 + 15 * (n - 600000)) (inr (inl (record { from = leb-false _ _ a; to = leb-true _ _ b; khz = refl })))
    go (inr a) (inr b) = is (24250080 + 60 * (n - 2016667)) (inr (inr (record { from = leb-false _ _ b; to = h; khz = refl })))

-- no frequency is above the last
most : (n f : ℕ) → OnRaster n f → f ≤ 99999960
most n f (inl r) = omega arith
most n f (inr (inl r)) = omega arith
most n f (inr (inr r)) = omega arith

pub khz_most : (n : ℕ) → khz_at n ≤ 99999960
khz_most n = go (frequency_of n) refl
  where
    go : (answer : Option ℕ) → frequency_of n ≡ answer → raster_value answer ≤ 99999960
    go (Some f) e = most n f (frequency_on_raster n f e)
    go None e = omega arith

pub rises : (m n f g : ℕ) → OnRaster m f → OnRaster n g → m ≤ n → f ≤ g
rises m n f g (inl a) (inl b) h = omega arith
rises m n f g (inl a) (inr (inl b)) h = omega arith
rises m n f g (inl a) (inr (inr b)) h = omega arith
rises m n f g (inr (inl a)) (inl b) h = omega arith
rises m n f g (inr (inl a)) (inr (inl b)) h = omega arith
rises m n f g (inr (inl a)) (inr (inr b)) h = omega arith
rises m n f g (inr (inr a)) (inl b) h = omega arith
rises m n f g (inr (inr a)) (inr (inl b)) h = omega arith
rises m n f g (inr (inr a)) (inr (inr b)) h = omega arith

-- ---- the branches of `first_number_from`

-- a number below r has a frequency below the edge, and one from r on does not
abbrev PartedAt : ℕ → ℕ → ℕ → ℕ → Type 0
PartedAt e r n f = (n < r → 2 * f < e) × (r ≤ n → e ≤ 2 * f)

by_rows : (e r : ℕ) → ((n f : ℕ) → RasterRow 0 599999 5 0 n f → PartedAt e r n f) → ((n f : ℕ) → RasterRow 600000 2016666 15 3000000 n f → PartedAt e r n f)
    → ((n f : ℕ) → RasterRow 2016667 3279165 60 24250080 n f → PartedAt e r n f) → r ≤ 3279166 → FirstFrom e r
by_rows e r first second third within = record { below = λ n f row. (parted n f row).0; from = λ n f row. (parted n f row).1; within = within }
  where
    parted : (n f : ℕ) → OnRaster n f → PartedAt e r n f
    parted n f (inl row) = first n f row
    parted n f (inr (inl row)) = second n f row
    parted n f (inr (inr row)) = third n f row

pub in_first : (e : ℕ) → e ≤ 5999990 → FirstFrom e ((e + 9) / 10)
in_first e h =
    by_rows e ((e + 9) / 10) (λ n f row. (λ k. omega arith, λ k. omega arith)) (λ n f row. (λ k. omega arith, λ k. omega arith))
    (λ n f row. (λ k. omega arith, λ k. omega arith)) (omega arith)

pub at_second : (e : ℕ) → 5999990 < e → e ≤ 6000000 → FirstFrom e 600000
at_second e g h =
    by_rows e 600000 (λ n f row. (λ k. omega arith, λ k. omega arith)) (λ n f row. (λ k. omega arith, λ k. omega arith))
    (λ n f row. (λ k. omega arith, λ k. omega arith)) (omega arith)

pub in_second : (e : ℕ) → 6000000 < e → e ≤ 48499980 → FirstFrom e (600000 + (e - 6000000 + 29) / 30)
in_second e g h =
    by_rows e (600000 + (e - 6000000 + 29) / 30) (λ n f row. (λ k. omega arith, λ k. omega arith)) (λ n f row. (λ k. omega arith, λ k. omega arith))
    (λ n f row. (λ k. omega arith, λ k. omega arith)) (omega arith)

pub at_third : (e : ℕ) → 48499980 < e → e ≤ 48500160 → FirstFrom e 2016667
at_third e g h =
    by_rows e 2016667 (λ n f row. (λ k. omega arith, λ k. omega arith)) (λ n f row. (λ k. omega arith, λ k. omega arith))
    (λ n f row. (λ k. omega arith, λ k. omega arith)) (omega arith)

pub in_third : (e : ℕ) → 48500160 < e → e ≤ 199999920 → FirstFrom e (2016667 + (e - 48500160 + 119) / 120)
in_third e g h =
    by_rows e (2016667 + (e - 48500160 + 119) / 120) (λ n f row. (λ k. omega arith, λ k. omega arith)) (λ n f row. (λ k. omega arith, λ k. omega arith))
    (λ n f row. (λ k. omega arith, λ k. omega arith)) (omega arith)

pub past_last : (e : ℕ) → 199999920 < e → FirstFrom e 3279166
past_last e g =
    by_rows e 3279166 (λ n f row. (λ k. omega arith, λ k. omega arith)) (λ n f row. (λ k. omega arith, λ k. omega arith))
    (λ n f row. (λ k. omega arith, λ k. omega arith)) (omega arith)

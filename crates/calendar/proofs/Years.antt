-- The days of the first years without a sum: leap years are counted by divisions, one lemma for each divisor.
-- Assumes nothing.
use mathlib.Core.Path.{◌≡◌, refl}
use mathlib.Core.Bool.{Bool, true, false, cond, ◌&&◌, ◌||◌, not}
use mathlib.Core.Logic.{◌⊎◌, inl, inr}
use Prim.Native.Nat.{ℕ, zero, suc, ◌+◌, ◌*◌, ◌-◌, ◌/◌, ◌%◌, ◌≤◌, ◌<◌}
use native.Mathlib.Omega.{arith}
use native.Mathlib.Nat.{pos_of_ne-zero}
use lib.Dec.{eqb}
use borrow.Author.Tests.{eqb-true, eqb-false, eq-eqb}
use Rattle.basics.proofs.Tests.{either, not_both}
use Rattle.calendar.specs.Calendar.{is_leap, year_days, days_of_years, EarlyYear}

-- 1 where the test passes
abbrev one_if : Bool → ℕ
one_if t = cond t 1 0

-- the multiples of 4, 100 and 400 from 1970 on, one more at each
by_4 : (k : ℕ) → (suc k + 1) / 4 ≡ (k + 1) / 4 + one_if (eqb ((1970 + k) % 4) 0)
by_4 k = go (either (eqb ((1970 + k) % 4) 0))
  where
    go : (eqb ((1970 + k) % 4) 0 ≡ true) ⊎ (eqb ((1970 + k) % 4) 0 ≡ false) → (suc k + 1) / 4 ≡ (k + 1) / 4 + one_if (eqb ((1970 + k) % 4) 0)
    go (inl a) = let x = eqb-true ((1970 + k) % 4) 0 a in simp a (omega arith)
    go (inr a) = let x : 1 ≤ (1970 + k) % 4 = pos_of_ne-zero (eqb-false ((1970 + k) % 4) 0 a) in simp a (omega arith)

by_100 : (k : ℕ) → (suc k + 69) / 100 ≡ (k + 69) / 100 + one_if (eqb ((1970 + k) % 100) 0)
by_100 k = go (either (eqb ((1970 + k) % 100) 0))
  where
    go : (eqb ((1970 + k) % 100) 0 ≡ true) ⊎ (eqb ((1970 + k) % 100) 0 ≡ false)
        → (suc k + 69) / 100 ≡ (k + 69) / 100 + one_if (eqb ((1970 + k) % 100) 0)
    go (inl a) = let x = eqb-true ((1970 + k) % 100) 0 a in simp a (omega arith)
    go (inr a) = let x : 1 ≤ (1970 + k) % 100 = pos_of_ne-zero (eqb-false ((1970 + k) % 100) 0 a) in simp a (omega arith)

by_400 : (k : ℕ) → (suc k + 369) / 400 ≡ (k + 369) / 400 + one_if (eqb ((1970 + k) % 400) 0)
by_400 k = go (either (eqb ((1970 + k) % 400) 0))
  where
    go : (eqb ((1970 + k) % 400) 0 ≡ true) ⊎ (eqb ((1970 + k) % 400) 0 ≡ false)
        → (suc k + 369) / 400 ≡ (k + 369) / 400 + one_if (eqb ((1970 + k) % 400) 0)
    go (inl a) = let x = eqb-true ((1970 + k) % 400) 0 a in simp a (omega arith)
    go (inr a) = let x : 1 ≤ (1970 + k) % 400 = pos_of_ne-zero (eqb-false ((1970 + k) % 400) 0 a) in simp a (omega arith)

-- 100 is a multiple of 4, and 400 of 100
of_100 : (y : ℕ) → y % 100 ≡ 0 → y % 4 ≡ 0
of_100 y h = omega arith

of_400 : (y : ℕ) → y % 400 ≡ 0 → y % 100 ≡ 0
of_400 y h = omega arith

-- so a leap year counts once by 4, less once by 100, and once by 400
counted : (a b c : Bool) → (b ≡ true → a ≡ true) → (c ≡ true → b ≡ true)
    → year_days (a && (not b || c)) + one_if b ≡ 365 + one_if a + one_if c
unfolding year_days
counted true true true p q = refl
counted true true false p q = refl
counted true false true p q = absurd (not_both (q refl) refl)
counted true false false p q = refl
counted false true c p q = absurd (not_both (p refl) refl)
counted false false true p q = absurd (not_both (q refl) refl)
counted false false false p q = refl

year_counted : (y : ℕ) → year_days (is_leap y) + one_if (eqb (y % 100) 0) ≡ 365 + one_if (eqb (y % 4) 0) + one_if (eqb (y % 400) 0)
unfolding is_leap
year_counted y =
    counted (eqb (y % 4) 0) (eqb (y % 100) 0) (eqb (y % 400) 0) (λ e. eq-eqb (y % 4) 0 (of_100 y (eqb-true (y % 100) 0 e)))
    (λ e. eq-eqb (y % 100) 0 (of_400 y (eqb-true (y % 400) 0 e)))

-- one year more: a, b and c are the multiples of 4, 100 and 400
one_more : (k days year a b c a' b' c' x y z : ℕ) → days + b ≡ 365 * k + a + c → a' ≡ a + x → b' ≡ b + y → c' ≡ c + z
    → year + y ≡ 365 + x + z → days + year + b' ≡ 365 * suc k + a' + c'
one_more k days year a b c a' b' c' x y z h p q r s = omega arith

-- the sum over the years, and the same without a sum
pub without_sum : (k : ℕ) → days_of_years k + (k + 69) / 100 ≡ 365 * k + (k + 1) / 4 + (k + 369) / 400
unfolding days_of_years
without_sum zero = refl
without_sum (suc k) =
    one_more k _ _ _ _ _ _ _ _ _ _ _ (without_sum k) (by_4 k) (by_100 k) (by_400 k) (year_counted (1970 + k))

-- all the years from 1970 to 9999
pub all_years : days_of_years 8030 ≡ 2932897
all_years = let h = without_sum 8030 in omega arith

pub closed : (k : ℕ) → 365 * k + (k + 1) / 4 + (k + 369) / 400 - (k + 69) / 100 ≡ days_of_years k
closed k = sum_less (days_of_years k) _ _ (without_sum k)
  where
    sum_less : (days less all : ℕ) → days + less ≡ all → all - less ≡ days
    sum_less days less all h = omega arith

-- a year more has no fewer days
pub years_rise : (k : ℕ) → days_of_years k ≤ days_of_years (suc k)
unfolding days_of_years
years_rise k = omega arith

-- 400 years have 146,097 days: by so much the first k years can have more than their share
quarters : (k : ℕ) → 4 * ((k + 1) / 4) ≤ k + 1
quarters k = omega arith

hundreds : (k : ℕ) → k ≤ 100 * ((k + 69) / 100) + 30
hundreds k = omega arith

four_hundreds : (k : ℕ) → 400 * ((k + 369) / 400) ≤ k + 369
four_hundreds k = omega arith

pub share : (k : ℕ) → 400 * days_of_years k ≤ 146097 * k + 589
share k = sum_up (days_of_years k) _ _ _ (without_sum k) (quarters k) (hundreds k) (four_hundreds k)
  where
    sum_up : (days a b c : ℕ) → days + b ≡ 365 * k + a + c → 4 * a ≤ k + 1 → k ≤ 100 * b + 30 → 400 * c ≤ k + 369 → 400 * days ≤ 146097 * k + 589
    sum_up days a b c h p q r = omega arith

-- the year before the guess, or the first year, begins on the day or before
pub early : (day : ℕ) → day < 2932897 → EarlyYear day (400 * day / 146097 - 1)
unfolding days_of_years
early day h = from_guess (400 * day / 146097) (omega arith) (omega arith)
  where
    from_guess : (guess : ℕ) → 146097 * guess ≤ 400 * day → guess ≤ 8030 → EarlyYear day (guess - 1)
    from_guess zero low high = record { has_begun = omega arith; within = omega arith }
    from_guess (suc guess) low high = let s = share (suc guess - 1) in record { has_begun = omega arith; within = omega arith }

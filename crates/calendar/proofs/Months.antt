-- The days of the first months: by a division, and those of all twelve are the year's.
-- Assumes nothing.
use mathlib.Core.Path.{◌≡◌, refl, ap, ◌∙◌}
use mathlib.Core.Bool.{Bool, true, false, cond, ◌&&◌}
use mathlib.Core.Logic.{◌⊎◌, inl, inr}
use Prim.Native.Nat.{ℕ, zero, suc, ◌+◌, ◌-◌, ◌*◌, ◌/◌, ◌≤◌, ◌<◌}
use native.Mathlib.Nat.{le_of_suc-le-suc, not-suc-le-zero, eq-or-lt_of_le}
use native.Mathlib.Omega.{arith}
use lib.Dec.{eqb, ltb}
use borrow.Author.Tests.{eqb-true, lt-ltb, le-ltb}
use Rattle.basics.proofs.Tests.{and_left, and_right}
use Rattle.calendar.specs.Calendar.{year_days, month_days, days_of_months}

pub all_months : (leap : Bool) → days_of_months leap 12 ≡ year_days leap
unfolding year_days month_days days_of_months
all_months true = refl
all_months false = refl

pub months_rise : (leap : Bool) (k : ℕ) → days_of_months leap k ≤ days_of_months leap (suc k)
unfolding days_of_months
months_rise leap k = omega arith

-- a test that each number below n passes
abbrev each : (ℕ → Bool) → ℕ → Bool
each test zero = true
each test (suc n) = each test n && test n

passes : (test : ℕ → Bool) (n k : ℕ) → each test n ≡ true → k < n → test k ≡ true
passes test zero k t l = absurd (not-suc-le-zero l)
passes test (suc n) k t l = go (λ (h : k < n). passes test n k (and_left (each test n) (test n) t) h) (eq-or-lt_of_le (le_of_suc-le-suc l))
  where
    go : (k < n → test k ≡ true) → (k ≡ n) ⊎ (k < n) → test k ≡ true
    go before (inl e) = ap test e ∙ and_right (each test n) (test n) t
    go before (inr h) = before h

-- the division gives February 30 days
abbrev by_division : Bool → ℕ → ℕ
by_division leap k = (367 * k + 5) / 12 - cond (ltb k 2) 0 (cond leap 1 2)

agrees : (leap : Bool) → each (λ k. eqb (by_division leap k) (days_of_months leap k)) 13 ≡ true
unfolding days_of_months month_days
agrees true = refl
agrees false = refl

divided : (leap : Bool) (k : ℕ) → k ≤ 12 → by_division leap k ≡ days_of_months leap k
divided leap k h = eqb-true (by_division leap k) (days_of_months leap k) (passes (λ j. eqb (by_division leap j) (days_of_months leap j)) 13 k (agrees leap) (omega arith))

pub short_months : (leap : Bool) (k : ℕ) → k < 2 → (367 * k + 5) / 12 ≡ days_of_months leap k
short_months leap k h = let e = simp (lt-ltb k 2 h) at (divided leap k (omega arith)) in omega arith

pub leap_months : (leap : Bool) (k : ℕ) → k ≤ 12 → 2 ≤ k → leap ≡ true → (367 * k + 5) / 12 - 1 ≡ days_of_months leap k
leap_months leap k l h e = simp e (simp (le-ltb k 2 h, e) at (divided leap k l))

pub other_months : (leap : Bool) (k : ℕ) → k ≤ 12 → 2 ≤ k → leap ≡ false → (367 * k + 5) / 12 - 2 ≡ days_of_months leap k
other_months leap k l h e = simp e (simp (le-ltb k 2 h, e) at (divided leap k l))

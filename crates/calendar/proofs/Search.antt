-- Where the searches for the year and the month of a day end, they have it.
-- Assumes nothing.
use mathlib.Core.Path.{◌≡◌, sym, ap, subst, ◌∙◌}
use mathlib.Core.Bool.{Bool}
use mathlib.Core.Logic.{◌⊎◌, inl, inr}
use Prim.Native.Nat.{ℕ, suc, ◌+◌, ◌-◌, ◌≤◌, ◌<◌}
use native.Mathlib.Nat.{le_refl, eq-or-lt_of_le}
use native.Mathlib.Numerals.{add-one}
use native.Mathlib.Omega.{arith}
use lib.Dec.{leb}
use Rattle.std.specs.Prelude.{Option, None, Some, MatchOption, unwrap_or}
use Rattle.calendar.specs.Calendar.{year_days, days_of_years, days_of_months, last_passing, year_of, month_of}
use Rattle.calendar.proofs.Years.{all_years}
use Rattle.calendar.proofs.Months.{all_months}
use Rattle.calendar.proofs.LastPassing.{last_passing_is, last_passing_within, last_passing_reached, last_passing_last}

-- where each number before k passes on, the sum at k is reached
reached_from : (sum : ℕ → ℕ) (day from : ℕ) → sum from ≤ day → (k : ℕ) → from ≤ k → ((j : ℕ) → from ≤ j → j < k → sum (j + 1) ≤ day) → sum k ≤ day
reached_from sum day from begun k low before = go (eq-or-lt_of_le low)
  where
    go : (from ≡ k) ⊎ (from < k) → sum k ≤ day
    go (inl e) = subst (λ (x : ℕ). sum x ≤ day) e begun
    go (inr l) =
        let last : k - 1 + 1 ≡ k = omega arith in
        subst (λ (x : ℕ). sum x ≤ day) last (before (k - 1) (omega arith) (omega arith))

-- the first number from `from` on whose successor's sum is past the day, or n where there is none: it is the last one whose sum is reached
pub first_past : (sum : ℕ → ℕ) → ((k : ℕ) → sum k ≤ sum (suc k)) → (day n from : ℕ) (found : Option ℕ) → from ≤ n → sum from ≤ day
    → MatchOption found ((k : ℕ) → from ≤ k → k < n → sum (k + 1) ≤ day)
    (λ i. (from ≤ i) × (i < n) × (day < sum (i + 1)) × ((k : ℕ) → from ≤ k → k < i → sum (k + 1) ≤ day))
    → unwrap_or found n ≡ last_passing (λ k. leb (sum k) day) n
first_past sum rises day n from None within begun none =
    sym (last_passing_is sum day rises n n (le_refl _) (reached_from sum day from begun n within none) (λ below. absurd (omega arith)))
first_past sum rises day n from (Some i) within begun (low, high, past, before) =
    sym (last_passing_is sum day rises n i (omega arith) (reached_from sum day from begun i low before) (λ _. rw add-one at past))

no_years : (day : ℕ) → days_of_years 0 ≤ day
unfolding days_of_years
no_years day = omega arith

pub no_months : (leap : Bool) (day : ℕ) → days_of_months leap 0 ≤ day
unfolding days_of_months
no_months leap day = omega arith

-- what is found begins on the day or before
pub year_within : (day k : ℕ) → k ≡ year_of day → k ≤ 8029
unfolding year_of
year_within day k e = subst (λ (x : ℕ). x ≤ 8029) (sym e) (last_passing_within days_of_years day 8029)

pub year_begun : (day k days : ℕ) → k ≡ year_of day → days ≡ days_of_years k → days ≤ day
unfolding year_of
year_begun day k days e d =
    subst (λ (x : ℕ). x ≤ day) (sym (d ∙ ap days_of_years e)) (last_passing_reached days_of_years day 8029 (no_years day))

pub month_within : (leap : Bool) (day k : ℕ) → k ≡ month_of leap day → k ≤ 11
unfolding month_of
month_within leap day k e = subst (λ (x : ℕ). x ≤ 11) (sym e) (last_passing_within (days_of_months leap) day 11)

pub month_begun : (leap : Bool) (day k days : ℕ) → k ≡ month_of leap day → days ≡ days_of_months leap k → days ≤ day
unfolding month_of
month_begun leap day k days e d =
    subst (λ (x : ℕ). x ≤ day) (sym (d ∙ ap (days_of_months leap) e)) (last_passing_reached (days_of_months leap) day 11 (no_months leap day))

-- and the next one after it
pub year_not_ended : (day : ℕ) → day < 2932897 → day < days_of_years (suc (year_of day))
unfolding year_of
year_not_ended day h = last_passing_last days_of_years day 8029 (subst (λ (x : ℕ). day < x) (sym all_years) h)

pub month_not_ended : (leap : Bool) (day : ℕ) → day < year_days leap → day < days_of_months leap (suc (month_of leap day))
unfolding month_of
month_not_ended leap day h = last_passing_last (days_of_months leap) day 11 (subst (λ (x : ℕ). day < x) (sym (all_months leap)) h)

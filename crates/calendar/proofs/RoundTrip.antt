-- "Dates become minutes since 1970-01-01 and back without loss."
-- Assumes nothing.
use Rattle.std.specs.Prelude.{Option, Some, None}
use Rattle.std.specs.Option.{ok_or}
use Rattle.basics.specs.refusals.Refusals as refusals
use mathlib.Core.Path.{◌≡◌, refl, sym, ap, subst, ◌∙◌}
use mathlib.Core.Bool.{true, false}
use mathlib.Core.Logic.{◌⊎◌, inl, inr}
use Prim.Native.Nat.{ℕ, ◌+◌, ◌-◌, ◌*◌, ◌/◌, ◌%◌, ◌≤◌, ◌<◌}
use native.Mathlib.Nat.{div-div-eq-div-mul}
use native.Mathlib.Omega.{arith}
use lib.Dec.{ltb}
use borrow.Author.Tests.{ltb-true, lt-ltb, le-ltb}
use Rattle.basics.proofs.Tests.{either}
use Rattle.calendar.specs.Calendar.{is_leap, year_days, days_of_years, month_days, days_of_months, is_date, days_before, minute_of, to_minute, year_of, month_of, date_in_year, date_of, to_date, not_in_calendar, date_refusal}
use Rattle.calendar.specs.declared.Date.{Date}
use Rattle.calendar.proofs.Years.{years_rise}
use Rattle.calendar.proofs.Months.{months_rise}
use Rattle.calendar.proofs.LastPassing.{last_passing_is}
use Rattle.calendar.proofs.Search.{year_within, year_begun, year_not_ended, month_within, month_begun, month_not_ended}
use Rattle.calendar.proofs.Dates.{Numbers, numbers, is_date_lem, day_of_year, month_end, before_next_year, minute_bound}

-- a date from its numbers
abbrev pub date : ℕ → ℕ → ℕ → ℕ → ℕ → Date
date y mo da h mi = record { year = y; month = mo; day = da; hour = h; minute = mi }

equal : {y y' mo mo' da da' h h' mi mi' : ℕ} → y ≡ y' → mo ≡ mo' → da ≡ da' → h ≡ h' → mi ≡ mi' → date y mo da h mi ≡ date y' mo' da' h' mi'
equal a b c d e = cc

-- ---- from a date to its minute and back

module _ (d : Date) (n : Numbers d) where
  day_again : minute_of d / 1440 ≡ days_before d
  unfolding minute_of
  day_again = let h = n.hours in let m = n.minutes in omega arith

  hours_again : minute_of d / 60 ≡ days_before d * 24 + d.hour
  unfolding minute_of
  hours_again = let m = n.minutes in omega arith

  hour_again : minute_of d / 60 % 24 ≡ d.hour
  hour_again = let h = n.hours in rw hours_again (omega arith)

  minute_again : minute_of d % 60 ≡ d.minute
  unfolding minute_of
  minute_again = let m = n.minutes in omega arith

  year_again : year_of (days_before d) ≡ d.year - 1970
  unfolding year_of days_before
  year_again =
      last_passing_is days_of_years (days_before d) years_rise 8029 (d.year - 1970) (omega (arith, n.last_year)) (omega arith) (λ _. before_next_year d n)

  rest_again : days_before d - days_of_years (d.year - 1970) ≡ day_of_year d
  unfolding days_before
  rest_again = omega arith

  month_again : month_of (is_leap d.year) (day_of_year d) ≡ d.month - 1
  unfolding month_of
  month_again =
      last_passing_is (days_of_months (is_leap d.year)) (day_of_year d) (months_rise (is_leap d.year)) 11 (d.month - 1) (omega (arith, n.last_month))
      (omega arith) (λ _. month_end d n)

  by_year : date_of (minute_of d) ≡ date_in_year (minute_of d) (d.year - 1970) (day_of_year d)
  unfolding date_of
  by_year =
      ap (λ (x : ℕ). date_in_year (minute_of d) (year_of x) (x - days_of_years (year_of x))) day_again
      ∙ ap (λ (x : ℕ). date_in_year (minute_of d) x (days_before d - days_of_years x)) year_again
      ∙ ap (date_in_year (minute_of d) (d.year - 1970)) rest_again

  same_year : 1970 + (d.year - 1970) ≡ d.year
  same_year = omega (arith, n.first_year)

  same_month : 1 + month_of (is_leap d.year) (day_of_year d) ≡ d.month
  same_month = let e = month_again in omega (arith, n.first_month)

  same_day : 1 + (day_of_year d - days_of_months (is_leap d.year) (month_of (is_leap d.year) (day_of_year d))) ≡ d.day
  same_day = let e = ap (days_of_months (is_leap d.year)) month_again in omega (arith, n.first_day)

  in_its_year : date_in_year (minute_of d) (d.year - 1970) (day_of_year d) ≡ d
  unfolding date_in_year
  in_its_year =
      equal same_year (ap (λ (y : ℕ). 1 + month_of (is_leap y) (day_of_year d)) same_year ∙ same_month)
      (ap (λ (y : ℕ). 1 + (day_of_year d - days_of_months (is_leap y) (month_of (is_leap y) (day_of_year d)))) same_year ∙ same_day) hour_again minute_again

-- the date of a date's minute is the date
pub same_date : (d : Date) → is_date d ≡ true → date_of (minute_of d) ≡ d
same_date d v = by_year d (numbers d v) ∙ in_its_year d (numbers d v)

-- ---- from a minute to its date and back

less_first : (first n : ℕ) → first + n - first ≡ n
less_first first n = omega arith

hour_part : (minute : ℕ) → (date_of minute).hour ≡ minute / 60 % 24
unfolding date_of date_in_year
hour_part minute = refl

minute_part : (minute : ℕ) → (date_of minute).minute ≡ minute % 60
unfolding date_of date_in_year
minute_part minute = refl

-- days, hours and minutes make up the minute again, one divisor a lemma
hours_of : (minute : ℕ) → minute / 1440 * 24 + minute / 60 % 24 ≡ minute / 60
hours_of minute = by_24 (minute / 60) (minute / 1440) (div-div-eq-div-mul minute 60 24)
  where
    by_24 : (hours days : ℕ) → hours / 24 ≡ days → days * 24 + hours % 24 ≡ hours
    by_24 hours days e = omega arith

minutes_of : (minute : ℕ) → minute / 60 * 60 + minute % 60 ≡ minute
minutes_of minute = omega arith

parts : (d : Date) {minute : ℕ} → days_before d ≡ minute / 1440 → d.hour ≡ minute / 60 % 24 → d.minute ≡ minute % 60 → minute_of d ≡ minute
unfolding minute_of
parts d {minute} a b c =
    ap (λ (x : ℕ). (x * 24 + d.hour) * 60 + d.minute) a ∙ ap (λ (x : ℕ). (minute / 1440 * 24 + x) * 60 + d.minute) b
    ∙ ap (λ (x : ℕ). x * 60 + d.minute) (hours_of minute) ∙ ap (λ (x : ℕ). minute / 60 * 60 + x) c ∙ minutes_of minute

-- the date on day `rest` of the year 1970 + k, both counted from 0
module _ (minute k rest : ℕ) (within : k ≤ 8029) (in_year : rest < year_days (is_leap (1970 + k))) where
  begun : days_of_months (is_leap (1970 + k)) (month_of (is_leap (1970 + k)) rest) ≤ rest
  begun = month_begun (is_leap (1970 + k)) rest _ _ refl refl

  not_ended : rest < days_of_months (is_leap (1970 + k)) (month_of (is_leap (1970 + k)) rest) + month_days (is_leap (1970 + k)) (1 + month_of (is_leap (1970 + k)) rest)
  unfolding days_of_months
  not_ended = month_not_ended (is_leap (1970 + k)) rest in_year

  pub date_fits_numbers : Numbers (date_in_year minute k rest)
  unfolding date_in_year
  date_fits_numbers =
      let m = month_within (is_leap (1970 + k)) rest _ refl in
      let b = begun in
      let e = not_ended in
      record {
        first_year = omega arith;
        last_year = omega arith;
        first_month = omega arith;
        last_month = omega arith;
        first_day = omega arith;
        last_day = omega arith;
        hours = omega arith;
        minutes = omega arith;
      }

  pub date_in_days : days_before (date_in_year minute k rest) ≡ days_of_years k + rest
  unfolding days_before date_in_year
  date_in_days =
      let y : days_of_years (1970 + k - 1970) ≡ days_of_years k = ap days_of_years (less_first 1970 k) in
      let m = ap (days_of_months (is_leap (1970 + k))) (less_first 1 (month_of (is_leap (1970 + k)) rest)) in
      let b = begun in
      omega arith

module _ (minute : ℕ) (before : minute < 4223371680) where
  days : minute / 1440 < 2932897
  days = omega arith

  year_begun_by : days_of_years (year_of (minute / 1440)) ≤ minute / 1440
  year_begun_by = year_begun (minute / 1440) _ _ refl refl

  rest_in_year : minute / 1440 - days_of_years (year_of (minute / 1440)) < year_days (is_leap (1970 + year_of (minute / 1440)))
  unfolding days_of_years
  rest_in_year = let e = year_not_ended (minute / 1440) days in let b = year_begun_by in omega arith

  pub date_of_numbers : Numbers (date_of minute)
  unfolding date_of
  date_of_numbers = date_fits_numbers minute _ _ (year_within (minute / 1440) _ refl) rest_in_year

  days_again : days_before (date_of minute) ≡ minute / 1440
  unfolding date_of
  days_again =
      let e = date_in_days minute (year_of (minute / 1440)) (minute / 1440 - days_of_years (year_of (minute / 1440))) (year_within (minute / 1440) _ refl) rest_in_year in
      let b = year_begun_by in
      omega arith

  -- the minute of a minute's date is the minute
  pub same_minute : minute_of (date_of minute) ≡ minute
  same_minute = parts (date_of minute) days_again (hour_part minute) (minute_part minute)

-- ---- the answers

-- each date of the calendar has its minute, and any other gives 17
pub has_minute : (d : Date) → is_date d ≡ true → to_minute d ≡ Some (minute_of d)
unfolding to_minute
has_minute d v = simp v

pub has_no_minute : (d : Date) → is_date d ≡ false → date_refusal (to_minute d) ≡ 17
unfolding to_minute
has_no_minute d v = simp v

-- each minute before the year 10000 has its date, and any other, however large, gives 17
pub has_date : (m : ℕ) → m < 4223371680 → to_date m ≡ Some (date_of m)
unfolding to_date
has_date m h = simp (lt-ltb m 4223371680 h)

pub has_no_date : (m : ℕ) → 4223371680 ≤ m → date_refusal (to_date m) ≡ 17
unfolding to_date
has_no_date m h = simp (le-ltb m 4223371680 h)

-- the number as it is computed: of an answer as a result
pub refusal_as_result : {T : Type 0} (answer : Option T) → refusals.refusal not_in_calendar (ok_or answer (record {})) ≡ date_refusal answer
refusal_as_result (Some x) = refl
refusal_as_result None = refl

-- from a date to its minute and back
pub there_and_back : (d : Date) (m : ℕ) → to_minute d ≡ Some m → to_date m ≡ Some d
unfolding to_minute
there_and_back d m h = go (either (is_date d))
  where
    go : (is_date d ≡ true) ⊎ (is_date d ≡ false) → to_date m ≡ Some d
    go (inl v) =
        let e : Some (minute_of d) ≡ Some m = simp v at h in
        let f : minute_of d ≡ m = cc in
        has_date m (subst (λ (x : ℕ). x < 4223371680) f (minute_bound d (numbers d v))) ∙ ap Some (ap date_of (sym f) ∙ same_date d v)
    go (inr v) = let e : None ≡ Some m = simp v at h in cc

-- from a minute to its date and back
pub back_and_there : (m : ℕ) (d : Date) → to_date m ≡ Some d → to_minute d ≡ Some m
unfolding to_date
back_and_there m d h = go (either (ltb m 4223371680))
  where
    go : (ltb m 4223371680 ≡ true) ⊎ (ltb m 4223371680 ≡ false) → to_minute d ≡ Some m
    go (inl v) =
        let before : m < 4223371680 = ltb-true m 4223371680 v in
        let e : Some (date_of m) ≡ Some d = simp v at h in
        let f : date_of m ≡ d = cc in
        subst (λ (x : Date). to_minute x ≡ Some m) f
        (has_minute (date_of m) (is_date_lem (date_of m) (date_of_numbers m before)) ∙ ap Some (same_minute m before))
    go (inr v) = let e : None ≡ Some d = simp v at h in cc

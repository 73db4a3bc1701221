-- What the test of a date says of its numbers, and how many days and minutes lie before it.
-- Assumes nothing.
use mathlib.Core.Path.{◌≡◌, ap, subst}
use mathlib.Core.Bool.{Bool, true, ◌&&◌}
use Prim.Native.Nat.{ℕ, suc, ◌+◌, ◌-◌, ◌≤◌, ◌<◌}
use native.Mathlib.Nat.{le_trans}
use native.Mathlib.Omega.{arith}
use lib.Dec.{ltb, leb}
use borrow.Author.Tests.{ltb-true, leb-true, lt-ltb, le-leb}
use Rattle.basics.proofs.Tests.{and_left, and_right, and_both}
use Rattle.calendar.specs.Calendar.{is_leap, year_days, days_of_years, month_days, days_of_months, is_month, is_day, is_time, is_date, days_before, minute_of}
use Rattle.calendar.specs.declared.Date.{Date}
use Rattle.calendar.proofs.Years.{years_rise, all_years}
use Rattle.calendar.proofs.Months.{months_rise, all_months}
use Rattle.calendar.proofs.LastPassing.{grows}

pub record Numbers (d : Date) : Type 0 where
  pub first_year : 1970 ≤ d.year
  pub last_year : d.year ≤ 9999
  pub first_month : 1 ≤ d.month
  pub last_month : d.month ≤ 12
  pub first_day : 1 ≤ d.day
  pub last_day : d.day ≤ month_days (is_leap d.year) d.month
  pub hours : d.hour < 24
  pub minutes : d.minute < 60

pub numbers : (d : Date) → is_date d ≡ true → Numbers d
unfolding is_date is_month is_day is_time
numbers d e =
    let a : Bool = leb 1970 d.year in
    let b : Bool = leb d.year 9999 in
    let f : Bool = leb 1 d.month in
    let g : Bool = leb d.month 12 in
    let h : Bool = leb 1 d.day in
    let i : Bool = leb d.day (month_days (is_leap d.year) d.month) in
    let j : Bool = ltb d.hour 24 in
    let k : Bool = ltb d.minute 60 in
    let month = and_left (a && b && f && g) (h && i) (and_left (a && b && f && g && (h && i)) (j && k) e) in
    let day = and_right (a && b && f && g) (h && i) (and_left (a && b && f && g && (h && i)) (j && k) e) in
    let time = and_right (a && b && f && g && (h && i)) (j && k) e in
    let abf = and_left (a && b && f) g month in
    let ab = and_left (a && b) f abf in
    record {
      first_year = leb-true 1970 d.year (and_left a b ab);
      last_year = leb-true d.year 9999 (and_right a b ab);
      first_month = leb-true 1 d.month (and_right (a && b) f abf);
      last_month = leb-true d.month 12 (and_right (a && b && f) g month);
      first_day = leb-true 1 d.day (and_left h i day);
      last_day = leb-true d.day (month_days (is_leap d.year) d.month) (and_right h i day);
      hours = ltb-true d.hour 24 (and_left j k time);
      minutes = ltb-true d.minute 60 (and_right j k time);
    }

-- numbers within those limits make a date
pub is_date_lem : (d : Date) → Numbers d → is_date d ≡ true
unfolding is_date is_month is_day is_time
is_date_lem d n =
    and_both
    (and_both
    (and_both
    (and_both (and_both (le-leb 1970 d.year n.first_year) (le-leb d.year 9999 n.last_year)) (le-leb 1 d.month n.first_month))
    (le-leb d.month 12 n.last_month))
    (and_both (le-leb 1 d.day n.first_day) (le-leb d.day (month_days (is_leap d.year) d.month) n.last_day)))
    (and_both (lt-ltb d.hour 24 n.hours) (lt-ltb d.minute 60 n.minutes))

-- the days of the year before the date's day, both counted from 0
abbrev pub day_of_year : Date → ℕ
day_of_year d = days_of_months (is_leap d.year) (d.month - 1) + (d.day - 1)

-- a number and its predecessor
next : (n : ℕ) → 1 ≤ n → suc (n - 1) ≡ n
next n h = omega arith

module _ (d : Date) (n : Numbers d) where
  pub month_end : day_of_year d < days_of_months (is_leap d.year) (suc (d.month - 1))
  unfolding days_of_months
  month_end =
      let same : 1 + (d.month - 1) ≡ d.month = omega (arith, n.first_month) in
      let e : month_days (is_leap d.year) (1 + (d.month - 1)) ≡ month_days (is_leap d.year) d.month = ap (month_days (is_leap d.year)) same in
      omega (arith, n.first_day, n.last_day)

  -- the day is in its month
  pub in_month : day_of_year d < days_of_months (is_leap d.year) d.month
  in_month = subst (λ (m : ℕ). day_of_year d < days_of_months (is_leap d.year) m) (next d.month n.first_month) month_end

  -- and in its year
  pub in_year : day_of_year d < year_days (is_leap d.year)
  in_year =
      subst (λ (m : ℕ). day_of_year d < m) (all_months (is_leap d.year))
      (le_trans in_month (grows (days_of_months (is_leap d.year)) (months_rise (is_leap d.year)) d.month 12 n.last_month))

  pub before_next_year : days_before d < days_of_years (suc (d.year - 1970))
  unfolding days_before days_of_years
  before_next_year =
      let same : 1970 + (d.year - 1970) ≡ d.year = omega (arith, n.first_year) in
      let e : year_days (is_leap (1970 + (d.year - 1970))) ≡ year_days (is_leap d.year) = ap (λ (y : ℕ). year_days (is_leap y)) same in
      let h = in_year in
      omega arith

  -- before the year 10000
  pub days_bound : days_before d < 2932897
  days_bound =
      subst (λ (m : ℕ). days_before d < m) all_years
      (le_trans before_next_year (grows days_of_years years_rise (suc (d.year - 1970)) 8030 (omega (arith, n.last_year))))

  pub minute_bound : minute_of d < 4223371680
  unfolding minute_of
  minute_bound = let h = days_bound in omega (arith, n.hours, n.minutes)

-- the days as the code adds them up
pub added_days : (d : Date) (leap : Bool) (years months : ℕ) → leap ≡ is_leap d.year → years ≡ days_of_years (d.year - 1970)
    → months ≡ days_of_months leap (d.month - 1) → years + months + (d.day - 1) ≡ days_before d
unfolding days_before
added_days d leap years months l y m = let e = ap (λ (t : Bool). days_of_months t (d.month - 1)) l in omega arith

pub added_fit : (d : Date) (leap : Bool) (years months : ℕ) → is_date d ≡ true → leap ≡ is_leap d.year → years ≡ days_of_years (d.year - 1970)
    → months ≡ days_of_months leap (d.month - 1) → years + months + (d.day - 1) < 2932897
added_fit d leap years months v l y m = let e = added_days d leap years months l y m in let h = days_bound d (numbers d v) in omega arith

-- Dates computed: what the laws assume of a date and of a minute holds of these.
-- Assumes nothing.
use Rattle.std.specs.Prelude.{Some}
use mathlib.Core.Path.{◌≡◌, refl}
use mathlib.Core.Bool.{true, false}
use mathlib.Core.List.{[], ◌∷◌, map}
use Rattle.calendar.specs.Calendar.{is_leap, year_days, days_of_years, month_days, days_of_months, is_month, is_day, is_time, is_date, days_before, minute_of, to_minute, to_date, date_refusal}
use Rattle.calendar.proofs.RoundTrip.{date, there_and_back}

first_minute : to_minute (date 1970 1 1 0 0) ≡ Some 0
unfolding to_minute is_date is_month is_day is_time minute_of days_before month_days is_leap days_of_years days_of_months
first_minute = refl

-- 2000 is a leap year
leap_day : to_minute (date 2000 2 29 12 34) ≡ Some 15863794
unfolding to_minute is_date is_month is_day is_time minute_of days_before month_days year_days is_leap days_of_years days_of_months
leap_day = refl

leap_day_back : to_date 15863794 ≡ Some (date 2000 2 29 12 34)
leap_day_back = there_and_back (date 2000 2 29 12 34) 15863794 leap_day

-- the days up to the end of each month, in a year that is no leap year and in one that is: so each month has its own length
ends_of_months : map (days_of_months false) (1 ∷ 2 ∷ 3 ∷ 4 ∷ 5 ∷ 6 ∷ 7 ∷ 8 ∷ 9 ∷ 10 ∷ 11 ∷ 12 ∷ [])
    ≡ (31 ∷ 59 ∷ 90 ∷ 120 ∷ 151 ∷ 181 ∷ 212 ∷ 243 ∷ 273 ∷ 304 ∷ 334 ∷ 365 ∷ [])
unfolding days_of_months month_days
ends_of_months = refl

ends_in_a_leap_year : map (days_of_months true) (1 ∷ 2 ∷ 3 ∷ 4 ∷ 5 ∷ 6 ∷ 7 ∷ 8 ∷ 9 ∷ 10 ∷ 11 ∷ 12 ∷ [])
    ≡ (31 ∷ 60 ∷ 91 ∷ 121 ∷ 152 ∷ 182 ∷ 213 ∷ 244 ∷ 274 ∷ 305 ∷ 335 ∷ 366 ∷ [])
unfolding days_of_months month_days
ends_in_a_leap_year = refl

-- the last minute that has a date
last_minute : to_minute (date 9999 12 31 23 59) ≡ Some 4223371679
unfolding to_minute is_date is_month is_day is_time minute_of days_before month_days year_days is_leap days_of_years days_of_months
last_minute = refl

-- 2100 is no leap year, an hour has no minute 60, 10000 is past the years
no_leap_day : date_refusal (to_minute (date 2100 2 29 0 0)) ≡ 17
unfolding to_minute is_date is_month is_day is_time month_days is_leap
no_leap_day = refl

no_minute_60 : date_refusal (to_minute (date 2026 1 1 23 60)) ≡ 17
unfolding to_minute is_date is_month is_day is_time month_days is_leap
no_minute_60 = refl

no_year_10000 : date_refusal (to_minute (date 10000 1 1 0 0)) ≡ 17
unfolding to_minute is_date is_month is_day is_time month_days is_leap
no_year_10000 = refl

past_all : date_refusal (to_date 4223371680) ≡ 17
unfolding to_date
past_all = refl

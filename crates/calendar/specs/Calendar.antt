-- The Gregorian calendar of the years 1970 to 9999, and minutes since 1970-01-01 00:00 UTC (document 02, E8).
-- Assumes nothing.
use Rattle.std.specs.Prelude.{◌≡◌, Option, Some, None, ◌⊎◌, Bool, cond, ◌&&◌, ◌||◌, not, ℕ, zero, suc, ◌+◌, ◌-◌, ◌*◌, ◌/◌, ◌%◌, ◌≤◌, ◌<◌, eqb, ltb, leb}
use Rattle.calendar.specs.declared.Date.{Date}
use Rattle.calendar.specs.declared.NotInCalendar.{NotInCalendar}

-- "Gregorian calendar": a leap year is divisible by 4, and not by 100 unless by 400
unfoldable pub is_leap : ℕ → Bool
is_leap year = eqb (year % 4) 0 && (not (eqb (year % 100) 0) || eqb (year % 400) 0)

unfoldable pub year_days : Bool → ℕ
year_days leap = cond leap 366 365

-- the days of the first k years from 1970 on
unfoldable pub days_of_years : ℕ → ℕ
days_of_years zero = 0
days_of_years (suc k) = days_of_years k + year_days (is_leap (1970 + k))

-- the days of a month, 1 to 12
unfoldable pub month_days : Bool → ℕ → ℕ
month_days leap month = cond (eqb month 2) (cond leap 29 28) (cond (eqb month 4 || eqb month 6 || eqb month 9 || eqb month 11) 30 31)

-- the days of the first k months
unfoldable pub days_of_months : Bool → ℕ → ℕ
days_of_months leap zero = 0
days_of_months leap (suc k) = days_of_months leap k + month_days leap (1 + k)

-- "years 1970 to 9999"
unfoldable pub is_month : Date → Bool
is_month d = leb 1970 d.year && leb d.year 9999 && leb 1 d.month && leb d.month 12

unfoldable pub is_day : Date → Bool
is_day d = leb 1 d.day && leb d.day (month_days (is_leap d.year) d.month)

-- "hour (0 to 23) and minute"
unfoldable pub is_time : Date → Bool
is_time d = ltb d.hour 24 && ltb d.minute 60

-- the calendar has the day, and the day the time
unfoldable pub is_date : Date → Bool
is_date d = is_month d && is_day d && is_time d

-- the days from 1970-01-01 to the date's day
unfoldable pub days_before : Date → ℕ
days_before d = days_of_years (d.year - 1970) + days_of_months (is_leap d.year) (d.month - 1) + (d.day - 1)

-- "minutes since 1970-01-01"
unfoldable pub minute_of : Date → ℕ
minute_of d = (days_before d * 24 + d.hour) * 60 + d.minute

unfoldable pub to_minute : Date → Option ℕ
to_minute d = cond (is_date d) (Some (minute_of d)) None

-- the last of 0 to n that passes the test, 0 where none does
unfoldable pub last_passing : (ℕ → Bool) → ℕ → ℕ
last_passing test zero = 0
last_passing test (suc n) = cond (test (suc n)) (suc n) (last_passing test n)

-- the year of a day, counted from 1970: the last that begins on the day or before
unfoldable pub year_of : ℕ → ℕ
year_of day = last_passing (λ k. leb (days_of_years k) day) 8029

-- a year, counted from 1970, from which the day's is looked for: it begins on the day or before
pub record EarlyYear (day k : ℕ) : Type 0 where
  pub has_begun : days_of_years k ≤ day
  pub within : k ≤ 8029

-- the month of the day of a year, counted from 0: the last that begins on the day or before
unfoldable pub month_of : Bool → ℕ → ℕ
month_of leap day = last_passing (λ k. leb (days_of_months leap k) day) 11

-- the date in the year 1970 + k, on its day `day`, both counted from 0
unfoldable pub date_in_year : ℕ → ℕ → ℕ → Date
date_in_year minute k day =
    record {
      year = 1970 + k;
      month = 1 + month_of (is_leap (1970 + k)) day;
      day = 1 + (day - days_of_months (is_leap (1970 + k)) (month_of (is_leap (1970 + k)) day));
      hour = minute / 60 % 24;
      minute = minute % 60;
    }

-- "and back": the date of a minute, by the day that it is in
unfoldable pub date_of : ℕ → Date
date_of minute = date_in_year minute (year_of (minute / 1440)) (minute / 1440 - days_of_years (year_of (minute / 1440)))

-- "a minute past the year 9999, however large, has no date": the years have 2,932,897 days of 1,440 minutes
unfoldable pub to_date : ℕ → Option Date
to_date minute = cond (ltb minute 4223371680) (Some (date_of minute)) None

-- a is the earlier date: by the year, then the month, the day, the hour, the minute
abbrev pub Earlier : Date → Date → Type 0
Earlier a b =
    (a.year < b.year)
    ⊎ ((a.year ≡ b.year)
    × ((a.month < b.month)
    ⊎ ((a.month ≡ b.month)
    × ((a.day < b.day)
    ⊎ ((a.day ≡ b.day) × ((a.hour < b.hour) ⊎ ((a.hour ≡ b.hour) × (a.minute < b.minute))))))))

-- "17, a date that the calendar or those years lack, a time outside the day"
abbrev pub not_in_calendar : NotInCalendar → ℕ
not_in_calendar why = 17

-- document 02's number of an answer, and 0 where it gives none
abbrev pub date_refusal : {T : Type 0} → Option T → ℕ
date_refusal (Some x) = 0
date_refusal None = 17

-- Three windows that overlap and stand in no order, computed: what the laws assume of windows and minutes holds of these.
-- Assumes nothing.
use Rattle.std.specs.Prelude.{Ok}
use mathlib.Core.Path.{◌≡◌, refl}
use mathlib.Core.List.{[], ◌∷◌}
use Prim.Native.Nat.{ℕ}
use Rattle.calendar.specs.Calendar.{is_leap, year_days, days_of_years, month_days, days_of_months, is_month, is_day, is_time, is_date, days_before, minute_of}
use Rattle.calendar.specs.declared.Date.{Date}
use Rattle.windows.specs.Windows.{is_window, all_fit, check_windows, holds_minute, some_holds, nearer, nearest_start, next_after, ask_minutes, ask_checked, ask_windows, window_check_number}
use Rattle.windows.specs.declared.Window.{Window}
use Rattle.windows.specs.declared.Windows.{Windows}
use Rattle.windows.specs.declared.WindowAnswer.TheVariants.{Inside, Next, NoneFollows}

-- a time of January 1970
abbrev january : ℕ → ℕ → Date
january day hour = record { year = 1970; month = 1; day = day; hour = hour; minute = 0 }

abbrev window : Date → Date → Window
window start end = record { start = start; end = end }

abbrev three : Windows
three =
    record {
      places = window (january 3 0) (january 4 0) ∷ window (january 2 8) (january 2 10) ∷ window (january 2 9) (january 2 12) ∷ window (january 40 0) (january 1 0) ∷ [];
      count = 3;
    }

three_made : check_windows three ≡ Ok tt
unfolding check_windows all_fit is_window is_date is_month is_day is_time minute_of days_before month_days year_days is_leap days_of_years days_of_months
three_made = refl

-- the fourth window is none
four_refused : window_check_number (check_windows (record { places = three.places; count = 4 })) ≡ 17
unfolding check_windows all_fit is_window is_date is_month is_day is_time minute_of days_before month_days year_days is_leap days_of_years days_of_months
four_refused = refl

-- more than 128 give 1, whatever they are
many_refused : window_check_number (check_windows (record { places = three.places; count = 129 })) ≡ 1
unfolding check_windows
many_refused = refl

-- 2 January 08:00 is in the second window
first_minute_inside : ask_windows three 1920 ≡ Ok Inside
unfolding ask_windows ask_checked ask_minutes check_windows all_fit is_window some_holds holds_minute is_date is_month is_day is_time minute_of days_before month_days year_days is_leap days_of_years days_of_months
first_minute_inside = refl

-- before it, and between the windows, the nearest start follows
nearest_next : ask_windows three 1000 ≡ Ok (Next 1920)
unfolding ask_windows ask_checked ask_minutes next_after nearest_start nearer check_windows all_fit is_window some_holds holds_minute is_date is_month is_day is_time minute_of days_before month_days year_days is_leap days_of_years days_of_months
nearest_next = refl

-- 2 January 12:00 is the last minute of the third window
last_minute_outside : ask_windows three 2160 ≡ Ok (Next 2880)
unfolding ask_windows ask_checked ask_minutes next_after nearest_start nearer check_windows all_fit is_window some_holds holds_minute is_date is_month is_day is_time minute_of days_before month_days year_days is_leap days_of_years days_of_months
last_minute_outside = refl

after_all : ask_windows three 4320 ≡ Ok NoneFollows
unfolding ask_windows ask_checked ask_minutes next_after nearest_start nearer check_windows all_fit is_window some_holds holds_minute is_date is_month is_day is_time minute_of days_before month_days year_days is_leap days_of_years days_of_months
after_all = refl

past_all_years : window_check_number (ask_windows three 4223371680) ≡ 17
unfolding ask_windows ask_checked ask_minutes check_windows all_fit is_window is_date is_month is_day is_time minute_of days_before month_days year_days is_leap days_of_years days_of_months
past_all_years = refl

-- Group settings of three offices with one window, in numbers, computed: 0, 1 and 17 are all given.
-- Assumes nothing.
use mathlib.Core.Path.{◌≡◌, refl}
use mathlib.Core.List.{[], ◌∷◌}
use Prim.Native.Nat.{ℕ}
use Rattle.basics.specs.sets.Sets.{contains, count, size}
use Rattle.message.specs.Modes.{mode_of_number}
use Rattle.settings.specs.Settings.{within_limits, counts_fit, members_fit, committers_fit, mode_fits}
use Rattle.calendar.specs.Calendar.{is_leap, year_days, days_of_years, month_days, days_of_months, is_month, is_day, is_time, is_date, days_before, minute_of}
use Rattle.windows.specs.Windows.{is_window, all_fit, check_windows}
use Rattle.windows.specs.declared.Window.{Window}
use Rattle.flat.specs.Encode.{encoded_made, encoded_outcome}
use Rattle.flat.specs.Decode.{decoded_option}
use Rattle.flat.specs.declared.FlatSettings.{FlatSettings}
use Rattle.group_settings.specs.GroupSettings.{settings_outcome, flat_settings_number}
use Rattle.group_settings.specs.declared.FlatGroupSettings.{FlatGroupSettings}

three : FlatSettings
three =
    record {
      process_count = 3;
      replica_count = 3;
      my_pid = 0;
      alive_replicas = 7;
      first_leader = 0;
      mode = 0;
      quorum = record { given = 0; n = 0 };
      has_committers = 0;
      committers = [];
      delegates = [];
    }

-- an hour and a half of a day of February 2023
abbrev night : ℕ → Window
night day =
    record {
      start = record { year = 2023; month = 2; day = day; hour = 22; minute = 0 };
      end = record { year = 2023; month = 2; day = day; hour = 23; minute = 30 };
    }

-- with this slot of whole MHz and so many windows, of which the first is this one
abbrev settings_with : ℕ → ℕ → Window → FlatGroupSettings
settings_with slot windows window = record { settings = three; whole_mhz_from = slot; windows = record { places = window ∷ []; count = windows } }

fits_0 : flat_settings_number (settings_with 9223372036854775806 1 (night 28)) ≡ 0
unfolding three flat_settings_number settings_outcome encoded_made encoded_outcome decoded_option mode_of_number within_limits counts_fit members_fit committers_fit mode_fits contains count size check_windows all_fit is_window is_date is_month is_day is_time minute_of days_before month_days year_days is_leap days_of_years days_of_months
fits_0 = refl

-- 2023 is no leap year
unfit_17 : flat_settings_number (settings_with 9223372036854775806 1 (night 29)) ≡ 17
unfolding three flat_settings_number settings_outcome encoded_made encoded_outcome decoded_option mode_of_number within_limits counts_fit members_fit committers_fit mode_fits contains count size check_windows all_fit is_window is_date is_month is_day is_time minute_of days_before month_days year_days is_leap days_of_years days_of_months
unfit_17 = refl

-- a place that is not counted is not looked at
not_counted_0 : flat_settings_number (settings_with 9223372036854775806 0 (night 29)) ≡ 0
unfolding three flat_settings_number settings_outcome encoded_made encoded_outcome decoded_option mode_of_number within_limits counts_fit members_fit committers_fit mode_fits contains count size check_windows all_fit is_window is_date is_month is_day is_time minute_of days_before month_days year_days is_leap days_of_years days_of_months
not_counted_0 = refl

-- 1 comes before 17
late_slot_1 : flat_settings_number (settings_with 9223372036854775807 1 (night 29)) ≡ 1
unfolding three flat_settings_number settings_outcome encoded_made encoded_outcome decoded_option mode_of_number within_limits counts_fit members_fit committers_fit mode_fits contains count size check_windows all_fit is_window is_date is_month is_day is_time minute_of days_before month_days year_days is_leap days_of_years days_of_months
late_slot_1 = refl

many_1 : flat_settings_number (settings_with 9223372036854775806 129 (night 29)) ≡ 1
unfolding three flat_settings_number settings_outcome encoded_made encoded_outcome decoded_option mode_of_number within_limits counts_fit members_fit committers_fit mode_fits contains count size check_windows all_fit is_window is_date is_month is_day is_time minute_of days_before month_days year_days is_leap days_of_years days_of_months
many_1 = refl

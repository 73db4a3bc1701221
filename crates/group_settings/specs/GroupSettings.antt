-- The settings of a group above the engine's, and their number (document 01, "Group settings" and row 1 of its table of refusals; document 02, E8 and E13).
-- Assumes nothing.
use Rattle.std.specs.Prelude.{◌≡◌, true, false, cond, ◌&&◌, ◌⊎◌, ℕ, ◌≤◌, ◌<◌, leb, Result, Ok, Err}
use Rattle.message.specs.Outcomes.{Outcome}
use Rattle.message.specs.declared.Refusal.TheVariants.{SettingsOutsideLimits, NotInCalendar}
use Rattle.settings.specs.Settings.{within_limits}
use Rattle.windows.specs.Windows.{agreed_windows, check_windows, AllFitting, SomeUnfitting}
use Rattle.windows.specs.declared.WindowRefusal.{WindowRefusal}
use Rattle.windows.specs.declared.WindowRefusal.TheVariants.{TooManyWindows, NotInCalendar as OutsideCalendar}
use Rattle.flat.specs.Encode.{encoded_made, encoded_outcome}
use Rattle.flat.specs.Decode.{decoded_settings}
use Rattle.group_settings.specs.declared.FlatGroupSettings.{FlatGroupSettings}
use Rattle.group_settings.specs.declared.GroupSettings.{GroupSettings}

-- "More than 128 windows give 1"; 17 is "checked when settings are made"
abbrev pub windows_outcome : Result (Unit {0}) WindowRefusal → Outcome
windows_outcome (Ok made) = Ok tt
windows_outcome (Err TooManyWindows) = Err SettingsOutsideLimits
windows_outcome (Err OutsideCalendar) = Err NotInCalendar

-- "settings outside the limits above" give 1, and so does a slot of whole MHz above 2^63−2 ("one above 2^63−2 gives 1"); what the windows give comes behind
-- both: 17 is "checked .. after 1"
unfoldable pub settings_outcome : GroupSettings → Outcome
settings_outcome g =
    cond (within_limits g.settings && leb g.whole_mhz_from 9223372036854775806) (windows_outcome (check_windows g.windows)) (Err SettingsOutsideLimits)

-- 0, or the number of the refusal
abbrev pub settings_number : GroupSettings → ℕ
settings_number g = encoded_outcome (settings_outcome g)

-- the causes of 1: the engine's settings are outside document 01's limits, the slot is later than the last one, or there are more than 128 windows
abbrev pub OutsideLimits : GroupSettings → Type 0
OutsideLimits g = (within_limits g.settings ≡ false) ⊎ ((9223372036854775806 < g.whole_mhz_from) ⊎ (128 < g.windows.count))

-- there is none of them
abbrev pub InsideLimits : GroupSettings → Type 0
InsideLimits g = (within_limits g.settings ≡ true) × ((g.whole_mhz_from ≤ 9223372036854775806) × (g.windows.count ≤ 128))

-- the number in words: 0, with no cause of 1, and each window has dates of the calendar and an end after its start; 1, with a cause of 1; or 17, with none, and
-- some window is not so
abbrev pub NumberBySettings : GroupSettings → ℕ → Type 0
NumberBySettings g n =
    ((n ≡ 0) × (InsideLimits g × AllFitting (agreed_windows g.windows)))
    ⊎ (((n ≡ 1) × OutsideLimits g) ⊎ ((n ≡ 17) × (InsideLimits g × SomeUnfitting (agreed_windows g.windows))))

-- ---- in numbers only

abbrev pub decoded_group_settings : FlatGroupSettings → GroupSettings
decoded_group_settings f = record { settings = decoded_settings f.settings; whole_mhz_from = f.whole_mhz_from; windows = f.windows }

-- a mode that there is not is outside the limits
unfoldable pub flat_settings_number : FlatGroupSettings → ℕ
flat_settings_number f = encoded_made (settings_outcome (decoded_group_settings f)) f.settings.mode

-- the number in words: as that of the settings that the numbers stand for, with a mode that there is; a mode that there is not is a cause of 1 more
abbrev pub FlatNumberBySettings : FlatGroupSettings → ℕ → Type 0
FlatNumberBySettings f n =
    ((f.settings.mode ≤ 5) × NumberBySettings (decoded_group_settings f) n) ⊎ ((5 < f.settings.mode) × (n ≡ 1))

-- The number of group settings, in the documents' words.
-- Assumes nothing.
use Rattle.std.specs.Prelude.{Result, Ok, Err}
use mathlib.Core.Path.{◌≡◌, refl}
use mathlib.Core.Bool.{Bool, true, false, cond, ◌&&◌}
use mathlib.Core.Logic.{inl, inr}
use lib.Dec.{leb}
use borrow.Author.Tests.{leb-true, leb-false}
use Rattle.message.specs.declared.Refusal.TheVariants.{SettingsOutsideLimits}
use Rattle.settings.specs.Settings.{within_limits}
use Rattle.windows.specs.Windows.{check_windows, CheckedWindows}
use Rattle.windows.specs.declared.WindowRefusal.{WindowRefusal}
use Rattle.windows.specs.declared.WindowRefusal.TheVariants.{TooManyWindows, NotInCalendar as OutsideCalendar}
use Rattle.windows.proofs.Laws.{checked_windows_lem}
use Rattle.flat.specs.Encode.{encoded_made, encoded_outcome}
use Rattle.flat.specs.Decode.{IsMark}
use Rattle.group_settings.specs.GroupSettings.{windows_outcome, settings_outcome, settings_number, decoded_group_settings, flat_settings_number, NumberBySettings, FlatNumberBySettings}
use Rattle.group_settings.specs.declared.FlatGroupSettings.{FlatGroupSettings}
use Rattle.group_settings.specs.declared.GroupSettings.{GroupSettings}

pub number_by_settings : (g : GroupSettings) → NumberBySettings g (settings_number g)
unfolding settings_outcome encoded_outcome
number_by_settings g =
    go (within_limits g.settings) (leb g.whole_mhz_from 9223372036854775806) (check_windows g.windows) refl refl (checked_windows_lem g.windows)
  where
    go : (t u : Bool) (c : Result (Unit {0}) WindowRefusal) → within_limits g.settings ≡ t → leb g.whole_mhz_from 9223372036854775806 ≡ u → CheckedWindows g.windows c
        → NumberBySettings g (encoded_outcome (cond (t && u) (windows_outcome c) (Err SettingsOutsideLimits)))
    go true true (Ok made) e f (few, fit) = inl (refl, ((e, (leb-true _ _ f, few)), fit))
    go true true (Err TooManyWindows) e f many = inr (inl (refl, inr (inr many)))
    go true true (Err OutsideCalendar) e f (few, unfit) = inr (inr (refl, ((e, (leb-true _ _ f, few)), unfit)))
    go true false c e f checked = inr (inl (refl, inr (inl (leb-false _ _ f))))
    go false u c e f checked = inr (inl (refl, inl e))

pub flat_number_by_settings : (f : FlatGroupSettings) → FlatNumberBySettings f (flat_settings_number f)
unfolding flat_settings_number encoded_made
flat_number_by_settings f = go (leb f.settings.mode 5) refl
  where
    go : (m : Bool) → leb f.settings.mode 5 ≡ m → FlatNumberBySettings f (cond m (settings_number (decoded_group_settings f)) 1)
    go true e = inl (leb-true _ _ e, number_by_settings (decoded_group_settings f))
    go false e = inr (leb-false _ _ e, refl)

-- a shard is marked with 0, 1 or 17 of them, so that its mark crosses to numbers and back
pub is_mark_lem : (g : GroupSettings) → IsMark (settings_outcome g)
unfolding settings_outcome
is_mark_lem g = go (within_limits g.settings && leb g.whole_mhz_from 9223372036854775806) (check_windows g.windows)
  where
    go : (t : Bool) (c : Result (Unit {0}) WindowRefusal) → IsMark (cond t (windows_outcome c) (Err SettingsOutsideLimits))
    go true (Ok made) = inl refl
    go true (Err TooManyWindows) = inr (inl refl)
    go true (Err OutsideCalendar) = inr (inr refl)
    go false c = inr (inl refl)

-- A register gives the number of the settings that it was begun from, the same that a shard gives: 1, or 17 of a window (document 02, E13 and E8).
-- Assumes nothing.
use mathlib.Core.Path.{◌≡◌, refl, ap, ◌∙◌}
use mathlib.Core.Bool.{cond}
use mathlib.Core.List.{List, reverse_aux}
use mathlib.Core.Logic.{◌⊎◌, inl, inr}
use Prim.Native.Nat.{ℕ}
use lib.Dec.{eqb}
use Rattle.register.specs.History.{register_after}
use Rattle.register.specs.declared.CellEntry.{CellEntry}
use Rattle.register.specs.stored.Stored.{stored_of, OldEntries}
use Rattle.register.specs.declared.stored.StoredRegister.{StoredRegister}
use Rattle.group_register.specs.Settings.{unmade_number, settings_refusal}
use Rattle.group_register.specs.GroupRegister.{group_outcome_number, apply_in_group}
use Rattle.group_register.specs.GroupTaken.{group_number_for}
use Rattle.group_register.specs.GroupHistory.{group_after, apply_all_in_group, AllBefore}
use Rattle.group_register.specs.declared.GroupRegister.{GroupRegister}
use Rattle.group_register.specs.declared.UnmadeBy.TheVariants.{OutsideLimits, NotInCalendar}
use Rattle.group_register.proofs.GroupLaws.{number_given_lem}
use Rattle.group_settings.specs.GroupSettings.{decoded_group_settings, flat_settings_number, NumberBySettings, FlatNumberBySettings}
use Rattle.group_settings.specs.declared.FlatGroupSettings.{FlatGroupSettings}
use Rattle.register_arrays.proofs.in_group.StoredLaws.{stored_then_applied}
use Rattle.group_settings.proofs.Numbers.{flat_number_by_settings}
use Rattle.planning_host.specs.Begun.{register_settings, widened_with}

-- the settings have no other number than 0, 1 and 17
abbrev pub NumberIs : ℕ → Type 0
NumberIs n = (n ≡ 0) ⊎ ((n ≡ 1) ⊎ (n ≡ 17))

pub number_is : (f : FlatGroupSettings) → NumberIs (flat_settings_number f)
number_is f = of_all (flat_settings_number f) (flat_number_by_settings f)
  where
    of_one : (n : ℕ) → NumberBySettings (decoded_group_settings f) n → NumberIs n
    of_one n (inl made) = inl made.0
    of_one n (inr (inl outside)) = inr (inl outside.0)
    of_one n (inr (inr unfit)) = inr (inr unfit.0)

    of_all : (n : ℕ) → FlatNumberBySettings f n → NumberIs n
    of_all n (inl known) = of_one n known.1
    of_all n (inr unknown) = inr (inl unknown.1)

pub same_number : (f : FlatGroupSettings) → settings_refusal (register_settings f) ≡ flat_settings_number f
unfolding settings_refusal
same_number f = go (flat_settings_number f) (number_is f)
  where
    go : (n : ℕ) → NumberIs n → cond (eqb n 0) 0 (unmade_number (cond (eqb n 17) NotInCalendar OutsideLimits)) ≡ n
    go n (inl e) = rw e refl
    go n (inr (inl e)) = rw e refl
    go n (inr (inr e)) = rw e refl

-- and an entry gives what the settings that the host gave and the entries before it say: the settings' number, or that of the entries at the slot that they name
pub number_by_group : (f : FlatGroupSettings) (before : List CellEntry) (e : CellEntry)
    → group_outcome_number (apply_in_group (group_after (register_settings f) before) e).outcome
    ≡ cond (eqb (flat_settings_number f) 0) (group_number_for f.whole_mhz_from before e) (flat_settings_number f)
number_by_group f before e =
    number_given_lem (register_settings f) before e
    ∙ ap (λ (n : ℕ). cond (eqb n 0) (group_number_for f.whole_mhz_from before e) n) (same_number f)

-- A stored register has the number and the slot of the settings that it is read with (E7), whatever was stored, ..
pub widened_settings : (f : FlatGroupSettings) (stored : StoredRegister) → (widened_with f stored).settings ≡ register_settings f
widened_settings f stored = refl

-- .. and where its entries all stood before that slot, an entry behind it has the number
-- that this slot, its old entries and the new ones say.
pub stored_number_by_group : (f : FlatGroupSettings) → flat_settings_number f ≡ 0 → (old : List CellEntry) → OldEntries old → AllBefore f.whole_mhz_from old
    → (new : List CellEntry) (e : CellEntry)
    → group_outcome_number (apply_in_group (apply_all_in_group (widened_with f (stored_of (register_after old))) new) e).outcome
    ≡ group_number_for f.whole_mhz_from (reverse_aux new old) e
stored_number_by_group f within old few early new e =
    ap (λ (g : GroupRegister). group_outcome_number (apply_in_group g e).outcome)
    (stored_then_applied (register_settings f) (ap (λ (n : ℕ). eqb n 0) (same_number f ∙ within)) old few early new)
    ∙ number_by_group f (reverse_aux new old) e
    ∙ ap (λ (n : ℕ). cond (eqb n 0) (group_number_for f.whole_mhz_from (reverse_aux new old) e) n) within

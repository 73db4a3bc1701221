-- The arrays of a shard that begins stand for the shard that begins from the same group settings, and are marked with the number of these.
-- Assumes nothing.
use Rattle.std.specs.Prelude.{Ok, Err}
use Rattle.message.specs.Outcomes.{Outcome}
use mathlib.Core.Path.{◌≡◌, refl, ap, ap₂}
use mathlib.Core.Logic.{◌⊎◌, inl, inr}
use mathlib.Core.Bool.{true, false, cond}
use Prim.Native.Nat.{ℕ}
use lib.Dec.{leb}
use Rattle.basics.proofs.Tests.{either}
use Rattle.message.specs.Refusals.{refusal_number}
use Rattle.message.specs.declared.Refusal.{Refusal}
use Rattle.message.specs.declared.Refusal.TheVariants.{SettingsOutsideLimits}
use Rattle.fast_state.specs.Fast.{no_answers}
use Rattle.read_tracker.specs.Reads.{new_table}
use Rattle.steps.specs.declared.Core.{Core}
use Rattle.consensus.specs.Call.{new_core}
use Rattle.consensus.specs.declared.Shard.{Shard}
use Rattle.flat.specs.Encode.{encoded_made, encoded_outcome}
use Rattle.flat.specs.Decode.{decoded_made, decoded_option, decoded_settings}
use Rattle.flat.proofs.Encoded.{mark_encoded, core_encoded}
use Rattle.group_settings.specs.GroupSettings.{settings_outcome, decoded_group_settings, flat_settings_number}
use Rattle.group_settings.specs.declared.FlatGroupSettings.{FlatGroupSettings}
use Rattle.group_settings.proofs.Numbers.{is_mark_lem}
use Rattle.group_shard.specs.Begin.{begin_shard}
use Rattle.direct.specs.Stands.{shard_of}
use Rattle.host.specs.Begun.{new_memory}

-- a new shard of these settings, but for its mark and its core
abbrev begun : FlatGroupSettings → Outcome → Core → Shard
begun g made core =
    record { made = made; settings = decoded_settings g.settings; state = record { rounds = record { core = core; fast = no_answers }; table = new_table } }

-- in a mode that there is, the arrays of a shard that begins stand for the shard that begins from these settings
pub new_stands : (g : FlatGroupSettings) → leb g.settings.mode 5 ≡ true → shard_of (new_memory g) ≡ begin_shard (decoded_group_settings g)
unfolding new_memory flat_settings_number begin_shard decoded_option
new_stands g known =
    ap₂ (begun g)
    (mark_encoded (settings_outcome (decoded_group_settings g)) g.settings.mode (is_mark_lem (decoded_group_settings g)) known)
    (core_encoded (new_core (decoded_settings g.settings)))

-- in another mode it is not made
pub unknown_mode_unmade : (g : FlatGroupSettings) → leb g.settings.mode 5 ≡ false → (shard_of (new_memory g)).made ≡ Err SettingsOutsideLimits
unfolding new_memory decoded_made
unknown_mode_unmade g unknown = simp unknown

-- in every mode: it is made, and the number of its settings is 0; or it is marked with the refusal of that number
abbrev pub MarkedBy : Outcome → ℕ → Type 0
MarkedBy made number = ((made ≡ Ok tt) × (number ≡ 0)) ⊎ ((why : Refusal) × ((made ≡ Err why) × (number ≡ refusal_number why)))

pub marked_by_number : (g : FlatGroupSettings) → MarkedBy (shard_of (new_memory g)).made (flat_settings_number g)
unfolding new_memory flat_settings_number begin_shard encoded_made encoded_outcome
marked_by_number g = go (either (leb g.settings.mode 5))
  where
    outcome : Outcome
    outcome = settings_outcome (decoded_group_settings g)

    known_mode : (o : Outcome) → outcome ≡ o → (shard_of (new_memory g)).made ≡ o → leb g.settings.mode 5 ≡ true
        → MarkedBy (shard_of (new_memory g)).made (cond (leb g.settings.mode 5) (encoded_outcome outcome) 1)
    known_mode (Ok tt) e made known = inl (made, simp (known, e))
    known_mode (Err why) e made known = inr (why, (made, simp (known, e)))

    go : (leb g.settings.mode 5 ≡ true) ⊎ (leb g.settings.mode 5 ≡ false)
        → MarkedBy (shard_of (new_memory g)).made (cond (leb g.settings.mode 5) (encoded_outcome outcome) 1)
    go (inl known) = known_mode outcome refl (ap (λ (s : Shard). s.made) (new_stands g known)) known
    go (inr unknown) = inr (SettingsOutsideLimits, (unknown_mode_unmade g unknown, simp unknown))

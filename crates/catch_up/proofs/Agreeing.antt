-- "Lists from one group run .. that meet never give 20": over any commits that have one value for each slot. group_settings_runs::catching_up has it for the
-- commits of a group run.
-- Assumes nothing.
use Rattle.std.specs.Prelude.{Ok, Err}
use mathlib.Core.Path.{◌≡◌}
use mathlib.Core.Logic.{⊎_elim}
use Prim.Native.Nat.{ℕ}
use Rattle.basics.specs.Lists.{In}
use Rattle.catch_up.specs.Causes.{CommitList, listed_commits, JoinCause}
use Rattle.catch_up.specs.Joining.{joining}
use Rattle.catch_up.specs.declared.JoinRefusal.TheVariants.{NumberTooLarge, OutsideLimits, Gap, TwoValues}
use Rattle.catch_up.proofs.Exact.{number_joined, joined_otherwise, is_join, no_more}

module _ (Committed : ℕ → ℕ → Type 0) where
  -- one value for each slot
  abbrev pub OneValue : Type 0
  OneValue = (slot v w : ℕ) → Committed slot v → Committed slot w → v ≡ w

  -- the list's entries are such commits
  abbrev pub Lists : CommitList → Type 0
  Lists l = (slot v : ℕ) → In (record { slot = slot; value = v }) (listed_commits l) → Committed slot v

  module _ (one : OneValue) (a b : CommitList) (from-a : Lists a) (from-b : Lists b) (places : ℕ) where
    agree : JoinCause TwoValues a b places → ⊥
    agree d = d.5 (one d.0 d.1 d.2 (from-a d.0 d.1 d.3) (from-b d.0 d.2 d.4))

    pub never_two_values : joining a b places ≡ Err TwoValues → ⊥
    never_two_values e = agree ((number_joined a b places TwoValues).0 e).0

    -- and where they meet, within the limits, they are joined
    pub joined_where_they_meet : (JoinCause NumberTooLarge a b places → ⊥) → (JoinCause OutsideLimits a b places → ⊥) → (JoinCause Gap a b places → ⊥)
        → (l : CommitList) × (joining a b places ≡ Ok l) × Lists l
    joined_where_they_meet p q r =
        let j = (joined_otherwise a b places).1 (no_more a b places p q r agree) in
        (j.0, j.1, λ slot v m. ⊎_elim (from-a slot v) (from-b slot v) (((is_join a b places j.0 j.1).holds _).0 m))

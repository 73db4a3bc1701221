-- "Lists from one group run, in any mode but SwiftPaxos, that meet never give 20", whichever of the best-scored proposers each adoption of EPaxos takes.
-- Assumes nothing.
use Rattle.std.specs.Prelude.{Ok, Err}
use mathlib.Core.Path.{◌≡◌, refl}
use mathlib.Core.List.{List}
use Prim.Native.Nat.{ℕ}
use Rattle.settings.specs.declared.Settings.{Settings}
use Rattle.catch_up.specs.Causes.{CommitList, JoinCause}
use Rattle.catch_up.specs.Joining.{joining}
use Rattle.catch_up.specs.declared.JoinRefusal.TheVariants.{NumberTooLarge, OutsideLimits, Gap, TwoValues}
use Rattle.catch_up.proofs.Agreeing as agreeing
use Rattle.group.specs.Claim.{MemberCall, Entry, ProposerChoices, PicksBest, NotSwift, entries_with, LegalWith, CommitAt, Claim}
use Rattle.group.proofs.Agreement.{agreement_ties}
use Rattle.group_settings.specs.declared.GroupSettings.{GroupSettings}
use Rattle.group_settings_runs.specs.Groups.{group_entries, GroupLegal}
use Rattle.group_settings_runs.proofs.Agreeing.{agreement_from}
use Rattle.group_settings_runs.specs.catching_up.Runs.{FromRun}

-- a run that meets the claim
module _ (run : List Entry) (claim : Claim run) where
  one_value : agreeing.OneValue (λ slot v. CommitAt slot v run)
  one_value slot v w c d = ((claim.agree slot v slot w c d).0 refl).1

-- a legal run, from the engine's settings, and two lists of its commits
module _ (s : Settings) (not_swift : NotSwift s.mode) (choices : ProposerChoices) (best : (place : ℕ) → PicksBest (choices place)) (calls : List MemberCall)
    (legal : LegalWith choices s calls) (a b : CommitList) (from-a : FromRun (entries_with choices s calls) a) (from-b : FromRun (entries_with choices s calls) b)
    (places : ℕ) where
  pub never_two_values : joining a b places ≡ Err TwoValues → ⊥
  never_two_values =
      agreeing.never_two_values (λ slot v. CommitAt slot v (entries_with choices s calls))
      (one_value (entries_with choices s calls) (agreement_ties s not_swift choices best calls legal)) a b from-a from-b places

  -- where they meet, within the limits, they are joined, and the join is from the run too
  pub joined_where_they_meet : (JoinCause NumberTooLarge a b places → ⊥) → (JoinCause OutsideLimits a b places → ⊥) → (JoinCause Gap a b places → ⊥)
      → (l : CommitList) × (joining a b places ≡ Ok l) × FromRun (entries_with choices s calls) l
  joined_where_they_meet =
      agreeing.joined_where_they_meet (λ slot v. CommitAt slot v (entries_with choices s calls))
      (one_value (entries_with choices s calls) (agreement_ties s not_swift choices best calls legal)) a b from-a from-b places

-- the same of a group that is begun from group settings, as hosts begin it
module _ (g : GroupSettings) (not_swift : NotSwift g.settings.mode) (choices : ProposerChoices) (best : (place : ℕ) → PicksBest (choices place))
    (calls : List MemberCall) (legal : GroupLegal choices g calls) (a b : CommitList) (from-a : FromRun (group_entries choices g calls) a)
    (from-b : FromRun (group_entries choices g calls) b) (places : ℕ) where
  pub never_two_values_from : joining a b places ≡ Err TwoValues → ⊥
  never_two_values_from =
      agreeing.never_two_values (λ slot v. CommitAt slot v (group_entries choices g calls))
      (one_value (group_entries choices g calls) (agreement_from g not_swift choices best calls legal)) a b from-a from-b places

  pub joined_where_they_meet_from : (JoinCause NumberTooLarge a b places → ⊥) → (JoinCause OutsideLimits a b places → ⊥) → (JoinCause Gap a b places → ⊥)
      → (l : CommitList) × (joining a b places ≡ Ok l) × FromRun (group_entries choices g calls) l
  joined_where_they_meet_from =
      agreeing.joined_where_they_meet (λ slot v. CommitAt slot v (group_entries choices g calls))
      (one_value (group_entries choices g calls) (agreement_from g not_swift choices best calls legal)) a b from-a from-b places

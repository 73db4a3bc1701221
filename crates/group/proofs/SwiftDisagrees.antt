-- In SwiftPaxos two values can be committed in one slot, so `agreement` (Agreement.antt) leaves that mode out: a legal run of seven calls, computed,
-- of a group in which 0 and 1 are the live replicas, 0 is the leader, and 2 is the committer of all; 2 commits 10 in slot 0, and 0 commits 6 there.
-- Assumes nothing.
use Rattle.std.specs.Prelude.{None, Some}
use mathlib.Core.Path.{◌≡◌, refl}
use mathlib.Core.Bool.{true, false}
use mathlib.Core.List.{List, [], ◌∷◌}
use mathlib.Core.Logic.{inl, inr}
use Prim.Native.Nat.{ℕ}
use lib.Dec.{lit<}
use Rattle.message.specs.Rounds.{round_of}
use Rattle.message.specs.declared.ConsensusMsg.{ConsensusMsg}
use Rattle.message.specs.declared.ConsensusMsg.TheVariants.{Prepare, Accept}
use Rattle.message.specs.declared.RoundV.TheVariants.{FastV}
use Rattle.settings.specs.declared.Settings.{Settings}
use Rattle.agreement.proofs.Tests.{neqb→ne}
use Rattle.group.specs.Claim.{MemberCall, entries, Legal, CommitAt, Claim}
use Rattle.group.proofs.Example.{proposal_call, hears_for, commits_of_entries, none, member_commit, first}
use Rattle.group.proofs.Computed.{computed}
use Rattle.group.proofs.SwiftSets.{with_client}

abbrev with_committer : Settings
with_committer = with_client true 2

-- a message from a member to another: of 10, which 2 has requested, and of 6, which 0 has
abbrev hears10 : ℕ → ℕ → ConsensusMsg → MemberCall
hears10 member source = hears_for (Some 2) member source None

abbrev hears6 : ℕ → ℕ → ConsensusMsg → MemberCall
hears6 member source = hears_for (Some 0) member source None

-- member 2 counts the leader's Accept of 6 as an answer to its own proposal of 10, and commits 10 with member 1's answer; then member 1 accepts 6 too
abbrev calls : List MemberCall
calls =
    proposal_call 2 10
    ∷ proposal_call 0 6
    ∷ hears6 2 0 (Accept 0 (round_of 0 0) 6)
    ∷ hears10 1 2 (Prepare 0 (round_of 0 0) (FastV 2 10))
    ∷ hears10 2 1 (Prepare 0 (round_of 0 0) (FastV 2 10))
    ∷ hears6 1 0 (Accept 0 (round_of 0 0) 6)
    ∷ hears6 0 1 (Accept 0 (round_of 0 0) 6)
    ∷ []

-- what is shown of the run
pub record SwiftShown : Type 0 where
  pub legal : Legal with_committer calls
  pub commits_listed : commits_of_entries (entries with_committer calls) ≡ (member_commit 0 0 6 false ∷ none 1 ∷ member_commit 2 0 10 true ∷ none 1 ∷ none 2 ∷ none 0 ∷ none 2 ∷ [])
  pub commits_10 : CommitAt 0 10 (entries with_committer calls)
  pub commits_6 : CommitAt 0 6 (entries with_committer calls)

pub swift_example_shown : SwiftShown
unfolding computed
swift_example_shown = record {
  legal =
      first (lit< tt) tt
      (first (lit< tt) tt
      (first (lit< tt) (_, _, inl refl, refl, inl refl, refl, neqb→ne 0 2 tt)
      (first (lit< tt) (_, _, inr (inr (inl refl)), refl, inl refl, refl, neqb→ne 2 1 tt)
      (first (lit< tt) (_, _, inl refl, refl, inl refl, refl, refl)
      (first (lit< tt) (_, _, inr (inr (inr (inl refl))), refl, inl refl, refl, neqb→ne 0 1 tt)
      (first (lit< tt) (_, _, inl refl, refl, inr (inl refl), refl, refl) tt))))));
  commits_listed = refl;
  commits_10 = record { entry = _; earlier = _; stands = inr (inr (inl (refl, refl))); fast = true; commit = refl };
  commits_6 = record { entry = _; earlier = _; stands = inl (refl, refl); fast = false; commit = refl };
}

pub swift_disagrees : Claim (entries with_committer calls) → ⊥
swift_disagrees claim = neqb→ne 10 6 tt ((claim.agree 0 10 0 6 swift_example_shown.commits_10 swift_example_shown.commits_6).0 refl).1

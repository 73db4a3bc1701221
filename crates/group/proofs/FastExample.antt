-- A run of three members in EPaxos mode, computed with two choices: it is legal; member 0 commits 10 in slot 0 on the fast path, a read is opened
-- and served, and in slot 1, where 0 and 1 propose 20 and 21 and their scores tie, member 1 adopts a value and commits it on the slow path. By our
-- choice this is 20, and by one that prefers member 1 it is 21.
-- Assumes nothing.
use Rattle.std.specs.Prelude.{None, Some}
use mathlib.Core.Path.{◌≡◌, refl}
use mathlib.Core.Bool.{true, false}
use mathlib.Core.List.{List, [], ◌∷◌}
use mathlib.Core.Logic.{inl, inr}
use Prim.Native.Nat.{ℕ}
use lib.Dec.{lit<}
use Rattle.message.specs.Rounds.{round_of}
use Rattle.message.specs.declared.ConsensusMsg.TheVariants.{Prepare, Accept, Commit, ReadRequest, ReadResponse}
use Rattle.message.specs.declared.PFMode.TheVariants.{EPaxos}
use Rattle.message.specs.declared.RoundV.TheVariants.{FastV}
use Rattle.read_tracker.specs.Reads.{read_id}
use Rattle.agreement.proofs.Tests.{neqb→ne}
use Rattle.group.specs.Claim.{begun, ProposerChoices, ours, MemberCall, entries_with, entries, LegalWith, Claim}
use Rattle.group.proofs.Agreement.{agreement, agreement_ties}
use Rattle.group.proofs.Ties.{prefer, prefer_picks_best}
use Rattle.group.proofs.Computed.{computed}
use Rattle.group.proofs.Example.{three, proposal_call, hears_message, commits_of_entries, none, member_commit, first}
use Rattle.group.proofs.RunReads.{opens, served_from, serves}

-- slot 0: member 0 proposes 10, member 1 answers for it, and that is a fast quorum; then member 2 opens a read, and member 0's response serves it
-- slot 1: members 0 and 1 propose 20 and 21; member 1 hears that 0 holds 20: one answer for each, a tie; it adopts one of them, and 2 accepts that
abbrev calls : ℕ → List MemberCall
calls adopts =
    proposal_call 0 10
    ∷ hears_message 1 0 None (Prepare 0 (round_of 0 0) (FastV 0 10))
    ∷ hears_message 0 1 None (Prepare 0 (round_of 0 0) (FastV 0 10))
    ∷ hears_message 1 0 None (Commit 0 10)
    ∷ hears_message 2 0 None (Commit 0 10)
    ∷ opens 2 7 0
    ∷ hears_message 0 2 (Some 10) (ReadRequest (read_id 0))
    ∷ hears_message 2 0 None (ReadResponse (read_id 0) 1)
    ∷ proposal_call 0 20
    ∷ proposal_call 1 21
    ∷ hears_message 0 1 (Some 10) (Prepare 1 (round_of 0 1) (FastV 1 21))
    ∷ hears_message 1 0 (Some 10) (Prepare 1 (round_of 0 1) (FastV 0 20))
    ∷ hears_message 2 1 (Some 10) (Accept 1 (round_of 0 1) adopts)
    ∷ hears_message 1 2 (Some 10) (Accept 1 (round_of 0 1) adopts)
    ∷ []

-- member 1 adopts its own value
abbrev prefer_one : ProposerChoices
prefer_one place = prefer 1

-- what is shown of the run with some choices, where member 1 adopts a value
pub record FastShown (choices : ProposerChoices) (adopts : ℕ) : Type 0 where
  pub legal : LegalWith choices (three EPaxos) (calls adopts)
  pub commits_listed : commits_of_entries (entries_with choices (three EPaxos) (calls adopts))
      ≡ (member_commit 1 1 adopts false ∷ none 2 ∷ none 1 ∷ none 0 ∷ none 1 ∷ none 0
      ∷ none 2 ∷ none 0 ∷ none 2 ∷ member_commit 2 0 10 true ∷ member_commit 1 0 10 true ∷ member_commit 0 0 10 true ∷ none 1 ∷ none 0 ∷ [])
  pub reads_served : served_from choices (begun (three EPaxos)) (calls adopts) ≡ (serves 2 7 1 ∷ [])

-- The two lists of legality read the same and are proofs about other states; to part the run at the adoption takes as many lines for the types as it saves.
pub fast_examples_shown : FastShown ours 20 × FastShown prefer_one 21
unfolding prefer served_from computed
fast_examples_shown = (
  record {
    legal =
        first (lit< tt) tt
        (first (lit< tt) (_, _, inl refl, refl, inl refl, refl, neqb→ne 0 1 tt)
        (first (lit< tt) (_, _, inl refl, refl, inl refl, refl, refl)
        (first (lit< tt) (_, _, inl refl, refl, inl refl, refl, neqb→ne 0 1 tt)
        (first (lit< tt) (_, _, inr (inl refl), refl, inl refl, refl, neqb→ne 0 2 tt)
        (first (lit< tt) tt
        (first (lit< tt) (_, _, inl refl, refl, inl refl, refl, neqb→ne 2 0 tt)
        (first (lit< tt) (_, _, inl refl, refl, inl refl, refl, refl)
        (first (lit< tt) tt
        (first (lit< tt) tt
        (first (lit< tt) (_, _, inl refl, refl, inl refl, refl, neqb→ne 1 0 tt)
        (first (lit< tt) (_, _, inl refl, refl, inl refl, refl, refl)
        (first (lit< tt) (_, _, inl refl, refl, inl refl, refl, neqb→ne 1 2 tt)
        (first (lit< tt) (_, _, inl refl, refl, inl refl, refl, refl) tt)))))))))))));
    commits_listed = refl;
    reads_served = refl;
  },
  record {
    legal =
        first (lit< tt) tt
        (first (lit< tt) (_, _, inl refl, refl, inl refl, refl, neqb→ne 0 1 tt)
        (first (lit< tt) (_, _, inl refl, refl, inl refl, refl, refl)
        (first (lit< tt) (_, _, inl refl, refl, inl refl, refl, neqb→ne 0 1 tt)
        (first (lit< tt) (_, _, inr (inl refl), refl, inl refl, refl, neqb→ne 0 2 tt)
        (first (lit< tt) tt
        (first (lit< tt) (_, _, inl refl, refl, inl refl, refl, neqb→ne 2 0 tt)
        (first (lit< tt) (_, _, inl refl, refl, inl refl, refl, refl)
        (first (lit< tt) tt
        (first (lit< tt) tt
        (first (lit< tt) (_, _, inl refl, refl, inl refl, refl, neqb→ne 1 0 tt)
        (first (lit< tt) (_, _, inl refl, refl, inl refl, refl, refl)
        (first (lit< tt) (_, _, inl refl, refl, inl refl, refl, neqb→ne 1 2 tt)
        (first (lit< tt) (_, _, inl refl, refl, inl refl, refl, refl) tt)))))))))))));
    commits_listed = refl;
    reads_served = refl;
  },
)

pub fast_example_claim : Claim (entries (three EPaxos) (calls 20))
fast_example_claim = agreement (three EPaxos) tt (calls 20) fast_examples_shown.0.legal

pub tie_claim : Claim (entries_with prefer_one (three EPaxos) (calls 21))
tie_claim = agreement_ties (three EPaxos) tt prefer_one (λ place. prefer_picks_best 1) (calls 21) fast_examples_shown.1.legal

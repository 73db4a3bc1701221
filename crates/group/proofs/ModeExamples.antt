-- Runs of three members in MultiPaxos, MultiPaxos3P and Pando, computed: they are legal, all members commit 10 in slot 0 and 20 in slot 1, and a
-- read is opened and served. In MultiPaxos3P member 2, the committer, counts the accepts and commits by itself; in Pando member 1, the delegate,
-- gathers the promises.
-- Assumes nothing.
use Rattle.std.specs.Prelude.{Option, None, Some}
use mathlib.Core.Path.{◌≡◌, refl}
use mathlib.Core.Bool.{true, false}
use mathlib.Core.List.{List, [], ◌∷◌}
use mathlib.Core.Logic.{inl, inr}
use Prim.Native.Nat.{ℕ}
use lib.Dec.{lit<}
use Rattle.message.specs.Rounds.{round_of}
use Rattle.message.specs.declared.ConsensusMsg.{ConsensusMsg}
use Rattle.message.specs.declared.ConsensusMsg.TheVariants.{Prepare, Accept, Commit, ReadRequest, ReadResponse}
use Rattle.message.specs.declared.PFMode.TheVariants.{MultiPaxos, MultiPaxos3P, Pando}
use Rattle.message.specs.declared.RoundV.TheVariants.{PaxosV}
use Rattle.settings.specs.declared.Settings.{Settings}
use Rattle.read_tracker.specs.Reads.{read_id}
use Rattle.agreement.proofs.Tests.{neqb→ne}
use Rattle.group.specs.Claim.{begun, ours, MemberCall, entries, Legal, Claim}
use Rattle.group.proofs.Agreement.{agreement}
use Rattle.group.proofs.Computed.{computed}
use Rattle.group.proofs.Example.{three_with, three, proposal_call, hears_for, hears_message, MemberCommit, commits_of_entries, none, member_commit, first}
use Rattle.group.proofs.RunReads.{opens, MemberRead, served_from, serves}

-- what is shown of a run
pub record Shown (s : Settings) (calls : List MemberCall) (listed : List MemberCommit) (reads : List MemberRead) : Type 0 where
  pub legal : Legal s calls
  pub commits_listed : commits_of_entries (entries s calls) ≡ listed
  pub reads_served : served_from ours (begun s) calls ≡ reads

-- ---- MultiPaxos: member 0 leads, and needs no promises

-- slot 0: member 0 proposes 10, member 1 accepts it, and all commit it; then member 2 opens a read, and member 0's response serves it
-- slot 1: member 0 proposes 20, member 2 accepts it, and all commit it
abbrev led : List MemberCall
led =
    proposal_call 0 10
    ∷ hears_message 1 0 None (Accept 0 (round_of 0 0) 10)
    ∷ hears_message 0 1 None (Accept 0 (round_of 0 0) 10)
    ∷ hears_message 1 0 None (Commit 0 10)
    ∷ hears_message 2 0 None (Commit 0 10)
    ∷ opens 2 7 0
    ∷ hears_message 0 2 (Some 10) (ReadRequest (read_id 0))
    ∷ hears_message 2 0 None (ReadResponse (read_id 0) 1)
    ∷ proposal_call 0 20
    ∷ hears_message 2 0 (Some 10) (Accept 1 (round_of 0 0) 20)
    ∷ hears_message 0 2 (Some 10) (Accept 1 (round_of 0 0) 20)
    ∷ hears_message 1 0 (Some 10) (Commit 1 20)
    ∷ hears_message 2 0 (Some 10) (Commit 1 20)
    ∷ []

abbrev led_commits : List MemberCommit
led_commits =
    member_commit 2 1 20 false ∷ member_commit 1 1 20 false ∷ member_commit 0 1 20 false ∷ none 2 ∷ none 0 ∷ none 2 ∷ none 0 ∷ none 2 ∷ member_commit 2 0 10 false ∷ member_commit 1 0 10 false ∷ member_commit 0 0 10 false ∷ none 1 ∷ none 0 ∷ []

-- ---- MultiPaxos3P: member 0 leads, and member 2 is the committer of all; the values are member 1's

abbrev with_committer : Settings
with_committer = three_with MultiPaxos3P true 2

abbrev hears1 : ℕ → ℕ → Option ℕ → ConsensusMsg → MemberCall
hears1 = hears_for (Some 1)

-- slot 0: member 0 proposes 10, member 1 accepts it and tells the committer, who accepts it too, commits it and tells the others
-- slot 1: member 0 proposes 20, member 1 accepts it, and so opens a read without an answer of its own; the committer responds to the read,
-- hears the leader's accept, answers it and commits; the commit is member 1's own answer and serves the read
abbrev committed_by_third : List MemberCall
committed_by_third =
    proposal_call 0 10
    ∷ hears1 1 0 None (Accept 0 (round_of 0 0) 10)
    ∷ hears1 2 1 None (Accept 0 (round_of 0 0) 10)
    ∷ hears1 0 2 None (Commit 0 10)
    ∷ hears1 1 2 None (Commit 0 10)
    ∷ proposal_call 0 20
    ∷ hears1 1 0 (Some 10) (Accept 1 (round_of 0 0) 20)
    ∷ opens 1 8 1
    ∷ hears1 2 1 (Some 10) (ReadRequest (read_id 0))
    ∷ hears1 1 2 None (ReadResponse (read_id 0) 1)
    ∷ hears1 2 0 (Some 10) (Accept 1 (round_of 0 0) 20)
    ∷ hears1 0 2 (Some 10) (Commit 1 20)
    ∷ hears1 1 2 (Some 10) (Commit 1 20)
    ∷ []

abbrev committed_by_third_commits : List MemberCommit
committed_by_third_commits =
    member_commit 1 1 20 false ∷ member_commit 0 1 20 false ∷ member_commit 2 1 20 false ∷ none 1 ∷ none 2 ∷ none 1 ∷ none 1 ∷ none 0 ∷ member_commit 1 0 10 false ∷ member_commit 0 0 10 false ∷ member_commit 2 0 10 false ∷ none 1 ∷ none 0 ∷ []

-- ---- Pando: member 1 is the delegate of all

abbrev with_delegate : Settings
with_delegate = three_with Pando false 1

-- slot 0: member 0 proposes 10, member 2 promises to the delegate, who with its own promise has a majority, accepts 10 and tells all; member 0,
-- the leader, accepts it too and commits it
-- slot 1: member 2 proposes 20, and its promise and the delegate's are a majority; member 0 opens a read, to which the delegate responds for
-- slot 2, since it holds 20; all commit 20, and then member 0 hears the response, which serves the read
abbrev delegated : List MemberCall
delegated =
    proposal_call 0 10
    ∷ hears_message 2 0 None (Prepare 0 (round_of 0 0) (PaxosV None 10))
    ∷ hears_message 1 2 None (Prepare 0 (round_of 0 0) (PaxosV None 10))
    ∷ hears_message 0 1 None (Accept 0 (round_of 0 0) 10)
    ∷ hears_message 1 0 None (Commit 0 10)
    ∷ hears_message 2 0 None (Commit 0 10)
    ∷ proposal_call 2 20
    ∷ hears_message 1 2 (Some 10) (Prepare 1 (round_of 0 2) (PaxosV None 20))
    ∷ opens 0 9 1
    ∷ hears_message 1 0 (Some 10) (ReadRequest (read_id 0))
    ∷ hears_message 2 1 (Some 10) (Accept 1 (round_of 0 2) 20)
    ∷ hears_message 0 2 (Some 10) (Commit 1 20)
    ∷ hears_message 1 2 (Some 10) (Commit 1 20)
    ∷ hears_message 0 1 None (ReadResponse (read_id 0) 2)
    ∷ []

abbrev delegated_commits : List MemberCommit
delegated_commits =
    none 0 ∷ member_commit 1 1 20 false ∷ member_commit 0 1 20 false ∷ member_commit 2 1 20 false ∷ none 1 ∷ none 0 ∷ none 1 ∷ none 2 ∷ member_commit 2 0 10 false ∷ member_commit 1 0 10 false ∷ member_commit 0 0 10 false ∷ none 1 ∷ none 2 ∷ none 0 ∷ []

-- ---- all three

pub examples_shown : Shown (three MultiPaxos) led led_commits (serves 2 7 1 ∷ [])
    × Shown with_committer committed_by_third committed_by_third_commits (serves 1 8 1 ∷ [])
    × Shown with_delegate delegated delegated_commits (serves 0 9 1 ∷ [])
unfolding served_from computed
examples_shown = (
  record {
    legal =
        first (lit< tt) tt
        (first (lit< tt) (_, _, inl refl, refl, inl refl, refl, neqb→ne 0 1 tt)
        (first (lit< tt) (_, _, inl refl, refl, inl refl, refl, refl)
        (first (lit< tt) (_, _, inl refl, refl, inl refl, refl, neqb→ne 0 1 tt)
        (first (lit< tt) (_, _, inr (inl refl), refl, inl refl, refl, neqb→ne 0 2 tt)
        (first (lit< tt) tt
        (first (lit< tt) (_, _, inl refl, refl, inl refl, refl, neqb→ne 2 0 tt)
        (first (lit< tt) (_, _, inl refl, refl, inl refl, refl, refl)
        (first (lit< tt) tt
        (first (lit< tt) (_, _, inl refl, refl, inl refl, refl, neqb→ne 0 2 tt)
        (first (lit< tt) (_, _, inl refl, refl, inl refl, refl, refl)
        (first (lit< tt) (_, _, inl refl, refl, inl refl, refl, neqb→ne 0 1 tt)
        (first (lit< tt) (_, _, inr (inl refl), refl, inl refl, refl, neqb→ne 0 2 tt) tt))))))))))));
    commits_listed = refl;
    reads_served = refl;
  },
  record {
    legal =
        first (lit< tt) tt
        (first (lit< tt) (_, _, inl refl, refl, inl refl, refl, neqb→ne 0 1 tt)
        (first (lit< tt) (_, _, inl refl, refl, inl refl, refl, refl)
        (first (lit< tt) (_, _, inl refl, refl, inl refl, refl, neqb→ne 2 0 tt)
        (first (lit< tt) (_, _, inr (inl refl), refl, inl refl, refl, neqb→ne 2 1 tt)
        (first (lit< tt) tt
        (first (lit< tt) (_, _, inl refl, refl, inl refl, refl, neqb→ne 0 1 tt)
        (first (lit< tt) tt
        (first (lit< tt) (_, _, inl refl, refl, inl refl, refl, neqb→ne 1 2 tt)
        (first (lit< tt) (_, _, inl refl, refl, inl refl, refl, refl)
        (first (lit< tt) (_, _, inr (inr (inr (inr (inl refl)))), refl, inl refl, refl, neqb→ne 0 2 tt)
        (first (lit< tt) (_, _, inl refl, refl, inr (inl refl), refl, neqb→ne 2 0 tt)
        (first (lit< tt) (_, _, inr (inl refl), refl, inr (inl refl), refl, neqb→ne 2 1 tt) tt))))))))))));
    commits_listed = refl;
    reads_served = refl;
  },
  record {
    legal =
        first (lit< tt) tt
        (first (lit< tt) (_, _, inl refl, refl, inl refl, refl, neqb→ne 0 2 tt)
        (first (lit< tt) (_, _, inl refl, refl, inl refl, refl, refl)
        (first (lit< tt) (_, _, inl refl, refl, inl refl, refl, neqb→ne 1 0 tt)
        (first (lit< tt) (_, _, inl refl, refl, inl refl, refl, neqb→ne 0 1 tt)
        (first (lit< tt) (_, _, inr (inl refl), refl, inl refl, refl, neqb→ne 0 2 tt)
        (first (lit< tt) tt
        (first (lit< tt) (_, _, inl refl, refl, inl refl, refl, neqb→ne 2 1 tt)
        (first (lit< tt) tt
        (first (lit< tt) (_, _, inl refl, refl, inl refl, refl, neqb→ne 0 1 tt)
        (first (lit< tt) (_, _, inr (inr (inl refl)), refl, inl refl, refl, neqb→ne 1 2 tt)
        (first (lit< tt) (_, _, inl refl, refl, inl refl, refl, neqb→ne 2 0 tt)
        (first (lit< tt) (_, _, inr (inl refl), refl, inl refl, refl, neqb→ne 2 1 tt)
        (first (lit< tt) (_, _, inr (inr (inr (inl refl))), refl, inl refl, refl, refl) tt)))))))))))));
    commits_listed = refl;
    reads_served = refl;
  },
)

pub multi_paxos_claim : Claim (entries (three MultiPaxos) led)
multi_paxos_claim = agreement (three MultiPaxos) tt led examples_shown.0.legal

pub committer_claim : Claim (entries with_committer committed_by_third)
committer_claim = agreement with_committer tt committed_by_third examples_shown.1.legal

pub delegate_claim : Claim (entries with_delegate delegated)
delegate_claim = agreement with_delegate tt delegated examples_shown.2.legal

-- A run of three members in Paxos mode, computed: it is legal, and all three members commit 10 in slot 0 and 20 in slot 1. So the claim is
-- about something.
-- Assumes nothing.
use Rattle.std.specs.Prelude.{cond, Option, None, Some}
use Rattle.calls.specs.Commits.{committed_slot}
use Rattle.calls.specs.declared.CommittedSlot.{CommittedSlot}
use mathlib.Core.Path.{◌≡◌, refl}
use mathlib.Core.Bool.{Bool, true, false}
use mathlib.Core.List.{List, [], ◌∷◌}
use mathlib.Core.Logic.{inl, inr}
use Prim.Native.Nat.{ℕ}
use lib.Dec.{lit<}
use lib.ListN.{replicate}
use Rattle.message.specs.Rounds.{round_of}
use Rattle.message.specs.declared.ConsensusMsg.{ConsensusMsg}
use Rattle.message.specs.declared.ConsensusMsg.TheVariants.{Prepare, Accept, Commit}
use Rattle.message.specs.declared.PFMode.{PFMode}
use Rattle.message.specs.declared.PFMode.TheVariants.{Paxos}
use Rattle.message.specs.declared.RoundV.TheVariants.{PaxosV}
use Rattle.settings.specs.declared.Settings.{Settings}
use Rattle.calls.specs.declared.Call.TheVariants.{Propose, Receive}
use Rattle.agreement.proofs.Tests.{neqb→ne}
use Rattle.group.specs.Claim.{MemberCall, Entry, entries, Legal, Claim}
use Rattle.group.proofs.Computed.{computed}
use Rattle.group.proofs.Agreement.{agreement}

-- three members in a mode, the first of them replicas, with the set of live ones; of the committers' table, where it is given, one process is the committer
-- of all, and one is the delegate of all
abbrev pub three_members : PFMode → ℕ → ℕ → Bool → ℕ → ℕ → Settings
three_members mode replicas live given committer delegate =
    record {
      process_count = 3;
      replica_count = replicas;
      my_pid = 0;
      alive_replicas = live;
      first_leader = 0;
      mode = mode;
      quorum = None;
      committers = cond given (Some (replicate 64 committer)) None;
      delegates = replicate 64 delegate;
    }

-- all three are live replicas; p is the committer of all, where there are committers, and the delegate of all
abbrev pub three_with : PFMode → Bool → ℕ → Settings
three_with mode committers p = three_members mode 3 7 committers p p

abbrev pub three : PFMode → Settings
three mode = three_with mode false 0

-- the calls: a proposal, and a message from a member, with the last value that this one has committed; the host names a requester or none
abbrev pub proposal_call : ℕ → ℕ → MemberCall
proposal_call member v = record { member = member; call = Propose v }

abbrev pub hears_for : Option ℕ → ℕ → ℕ → Option ℕ → ConsensusMsg → MemberCall
hears_for requester member source last msg =
    record {
      member = member;
      call =
          Receive
          (record {
            message = record { msg = msg; src = source; last_v = last };
            said = record { value_held = true; requester = requester; fast = false };
            held_requester = None;
          });
    }

abbrev pub hears_message : ℕ → ℕ → Option ℕ → ConsensusMsg → MemberCall
hears_message = hears_for None

-- slot 0: member 0 proposes 10, members 0 and 1 prepare and accept it, and all commit it
-- slot 1: member 1 proposes 20, members 1 and 2 prepare and accept it, and all commit it
abbrev calls : List MemberCall
calls =
    proposal_call 0 10
    ∷ hears_message 1 0 None (Prepare 0 (round_of 0 0) (PaxosV None 10))
    ∷ hears_message 0 1 None (Prepare 0 (round_of 0 0) (PaxosV None 10))
    ∷ hears_message 1 0 None (Accept 0 (round_of 0 0) 10)
    ∷ hears_message 0 1 None (Accept 0 (round_of 0 0) 10)
    ∷ hears_message 1 0 None (Commit 0 10)
    ∷ hears_message 2 0 None (Commit 0 10)
    ∷ proposal_call 1 20
    ∷ hears_message 2 1 (Some 10) (Prepare 1 (round_of 0 1) (PaxosV None 20))
    ∷ hears_message 1 2 (Some 10) (Prepare 1 (round_of 0 1) (PaxosV None 20))
    ∷ hears_message 2 1 (Some 10) (Accept 1 (round_of 0 1) 20)
    ∷ hears_message 1 2 (Some 10) (Accept 1 (round_of 0 1) 20)
    ∷ hears_message 0 1 (Some 10) (Commit 1 20)
    ∷ hears_message 2 1 (Some 10) (Commit 1 20)
    ∷ []

-- the member and the commit of each entry
pub record MemberCommit : Type 0 where
  pub member : ℕ
  pub commit : Option CommittedSlot

abbrev pub commits_of_entries : List Entry → List MemberCommit
commits_of_entries [] = []
commits_of_entries (e ∷ es) = record { member = e.member; commit = e.reply.commit } ∷ commits_of_entries es

abbrev pub none : ℕ → MemberCommit
none i = record { member = i; commit = None }

-- with the mark of the fast path
abbrev pub member_commit : ℕ → ℕ → ℕ → Bool → MemberCommit
member_commit i slot v fast = record { member = i; commit = committed_slot slot v fast }

pub example_commits : commits_of_entries (entries (three Paxos) calls)
    ≡ (member_commit 2 1 20 false ∷ member_commit 0 1 20 false ∷ member_commit 1 1 20 false ∷ none 2 ∷ none 1 ∷ none 2 ∷ none 1 ∷ member_commit 2 0 10 false ∷ member_commit 1 0 10 false ∷ member_commit 0 0 10 false ∷ none 1 ∷ none 0 ∷ none 1 ∷ none 0 ∷ [])
unfolding computed
example_commits = refl

-- a call that is of a member and may stand, before a legal list
pub first : {A B C : Type 0} → A → B → C → A × B × C
first below stands rest = (below, stands, rest)

pub example_legal : Legal (three Paxos) calls
unfolding computed
example_legal =
    first (lit< tt) tt
    (first (lit< tt) (_, _, inl refl, refl, inl refl, refl, neqb→ne 0 1 tt)
    (first (lit< tt) (_, _, inl refl, refl, inl refl, refl, refl)
    (first (lit< tt) (_, _, inl refl, refl, inl refl, refl, neqb→ne 0 1 tt)
    (first (lit< tt) (_, _, inl refl, refl, inl refl, refl, refl)
    (first (lit< tt) (_, _, inl refl, refl, inl refl, refl, neqb→ne 0 1 tt)
    (first (lit< tt) (_, _, inr (inl refl), refl, inl refl, refl, neqb→ne 0 2 tt)
    (first (lit< tt) tt
    (first (lit< tt) (_, _, inl refl, refl, inl refl, refl, neqb→ne 1 2 tt)
    (first (lit< tt) (_, _, inl refl, refl, inl refl, refl, refl)
    (first (lit< tt) (_, _, inl refl, refl, inl refl, refl, neqb→ne 1 2 tt)
    (first (lit< tt) (_, _, inl refl, refl, inl refl, refl, refl)
    (first (lit< tt) (_, _, inl refl, refl, inl refl, refl, neqb→ne 1 0 tt)
    (first (lit< tt) (_, _, inr (inl refl), refl, inl refl, refl, neqb→ne 1 2 tt) tt)))))))))))))

-- and so the run meets the claim
pub example_claim : Claim (entries (three Paxos) calls)
example_claim = agreement (three Paxos) tt calls example_legal

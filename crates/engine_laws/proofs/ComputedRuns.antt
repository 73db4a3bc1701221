-- Computed runs of `engine`: what each call commits or sends. An engine that is equal to the right one has these answers in whatever words it is put,
-- and of each engine of the edits an answer here is another, or what is left or served. An edit names its engine in `in_runs`, so that the run is computed
-- with it.
-- Assumes nothing.
use Rattle.std.specs.Prelude.{None, Some, Err}
use mathlib.Core.Path.{◌≡◌, refl}
use mathlib.Core.Bool.{true, false}
use mathlib.Core.List.{List, [], ◌∷◌}
use mathlib.Core.Logic.{inl}
use Prim.Native.Nat.{ℕ}
use lib.Dec.{lit<}
use Rattle.message.specs.Rounds.{round_of}
use Rattle.message.specs.declared.ConsensusMsg.{ConsensusMsg}
use Rattle.message.specs.declared.ConsensusMsg.TheVariants.{Prepare, Accept, Commit}
use Rattle.message.specs.declared.PFMode.TheVariants.{Paxos, MultiPaxos, SwiftPaxos}
use Rattle.message.specs.declared.Refusal.TheVariants.{NoSuchProcess}
use Rattle.message.specs.declared.RoundV.TheVariants.{PaxosV}
use Rattle.fast_state.specs.Fast.{no_answers}
use Rattle.read_tracker.specs.Reads.{read_id, new_read, open_reads}
use Rattle.read_tracker.specs.declared.OpenRead.{OpenRead}
use Rattle.read_tracker.proofs.serving.IdOrder.{served_ids}
use Rattle.steps.specs.Steps.{to_all}
use Rattle.steps.specs.declared.Destination.{Destination}
use Rattle.steps.specs.declared.Destination.TheVariants.{One}
use Rattle.steps.specs.declared.Outgoing.{Outgoing}
use Rattle.agreement.proofs.Tests.{neqb→ne}
use Rattle.calls.specs.declared.Call.TheVariants.{Receive}
use Rattle.consensus.specs.declared.Shard.{Shard}
use Rattle.group.specs.Claim.{begun, MemberCall, Entry, entries_made, Legal, messages_of}
use Rattle.group.specs.Steps.{shards_made}
use Rattle.group.proofs.Computed.{computed}
use Rattle.group.proofs.Example.{three, proposal_call, hears_message, commits_of_entries, none, member_commit, first}
use Rattle.group.proofs.Invariants.{served_by_call}
use Rattle.group.proofs.RunReads.{opens}
use Rattle.wrong_engines.specs.Laws.{entries_by, shards_by}
use Rattle.wrong_engines.proofs.Answers.{paxos_group, five, told_by_64}
use Rattle.wrong_engines.proofs.Runs.{alone_settings, told_once, two_reads, forwarded}
use Rattle.engine_laws.specs.Engine.{engine}

-- what a run computes with
unfoldable in_runs : Unit {0}
unfolding entries_made shards_made computed
in_runs = tt

-- ---- commits

-- MultiPaxos: in slot 0 member 0, the leader, hears the accept of member 1 and commits 10, and member 2 hears it; in slot 1 it commits 20 with member 2's
abbrev led : List MemberCall
led =
    proposal_call 0 10
    ∷ hears_message 1 0 None (Accept 0 (round_of 0 0) 10)
    ∷ hears_message 0 1 None (Accept 0 (round_of 0 0) 10)
    ∷ hears_message 2 0 None (Commit 0 10)
    ∷ proposal_call 0 20
    ∷ hears_message 2 0 (Some 10) (Accept 1 (round_of 0 0) 20)
    ∷ hears_message 0 2 (Some 10) (Accept 1 (round_of 0 0) 20)
    ∷ []

pub led_legal : Legal (three MultiPaxos) led
unfolding computed
led_legal =
    first (lit< tt) tt
    (first (lit< tt) (_, _, inl refl, refl, inl refl, refl, neqb→ne 0 1 tt)
    (first (lit< tt) (_, _, inl refl, refl, inl refl, refl, refl)
    (first (lit< tt) (_, _, inl refl, refl, inl refl, refl, neqb→ne 0 2 tt)
    (first (lit< tt) tt
    (first (lit< tt) (_, _, inl refl, refl, inl refl, refl, neqb→ne 0 2 tt)
    (first (lit< tt) (_, _, inl refl, refl, inl refl, refl, refl) tt))))))

pub engine_commits_twice : commits_of_entries (entries_by engine (begun (three MultiPaxos)) [] led)
    ≡ (member_commit 0 1 20 false ∷ none 2 ∷ none 0 ∷ member_commit 2 0 10 false ∷ member_commit 0 0 10 false ∷ none 1 ∷ none 0 ∷ [])
unfolding in_runs
engine_commits_twice = refl

-- of five members 0 hears the promise of 1 twice, that of 2 once, and the accept of 1 twice: two have promised until 2 has, and two have accepted in the end
abbrev heard_twice : List MemberCall
heard_twice =
    proposal_call 0 10
    ∷ hears_message 1 0 None (Prepare 0 (round_of 0 0) (PaxosV None 10))
    ∷ hears_message 0 1 None (Prepare 0 (round_of 0 0) (PaxosV None 10))
    ∷ hears_message 0 1 None (Prepare 0 (round_of 0 0) (PaxosV None 10))
    ∷ hears_message 2 0 None (Prepare 0 (round_of 0 0) (PaxosV None 10))
    ∷ hears_message 0 2 None (Prepare 0 (round_of 0 0) (PaxosV None 10))
    ∷ hears_message 1 0 None (Accept 0 (round_of 0 0) 10)
    ∷ hears_message 0 1 None (Accept 0 (round_of 0 0) 10)
    ∷ hears_message 0 1 None (Accept 0 (round_of 0 0) 10)
    ∷ []

pub engine_commits_late : commits_of_entries (entries_by engine (begun five) [] heard_twice)
    ≡ (none 0 ∷ none 0 ∷ none 1 ∷ none 0 ∷ none 2 ∷ none 0 ∷ none 0 ∷ none 1 ∷ none 0 ∷ [])
unfolding in_runs
engine_commits_late = refl

-- in SwiftPaxos member 1 hears of the commit of slot 0
pub engine_commits_told : commits_of_entries (entries_by engine (begun (three SwiftPaxos)) [] told_once) ≡ (member_commit 1 0 10 true ∷ [])
unfolding in_runs
engine_commits_told = refl

-- ---- messages

-- the messages of each entry
abbrev sent_of : List Entry → List (List Outgoing)
sent_of [] = []
sent_of (e ∷ es) = messages_of e.reply.messages ∷ sent_of es

abbrev sends_none : List Outgoing
sends_none = []

-- one message of a member that has committed nothing
abbrev sends_one : ℕ → Destination → ConsensusMsg → List Outgoing
sends_one source destination msg = record { destination = destination; message = record { msg = msg; src = source; last_v = None } } ∷ []

-- of three members 0 and 1 accept 10, which 0 commits; 1 holds it when it promises to 2
abbrev promised : List MemberCall
promised =
    proposal_call 0 10
    ∷ hears_message 1 0 None (Prepare 0 (round_of 0 0) (PaxosV None 10))
    ∷ hears_message 0 1 None (Prepare 0 (round_of 0 0) (PaxosV None 10))
    ∷ hears_message 1 0 None (Accept 0 (round_of 0 0) 10)
    ∷ hears_message 0 1 None (Accept 0 (round_of 0 0) 10)
    ∷ proposal_call 2 20
    ∷ hears_message 1 2 None (Prepare 0 (round_of 0 2) (PaxosV None 20))
    ∷ []

pub engine_sends : sent_of (entries_by engine (begun (three Paxos)) [] promised)
    ≡ (sends_one 1 (One 2) (Prepare 0 (round_of 0 2) (PaxosV (Some (round_of 0 0)) 10))
    ∷ sends_one 2 to_all (Prepare 0 (round_of 0 2) (PaxosV None 20))
    ∷ sends_one 0 to_all (Commit 0 10)
    ∷ sends_one 1 (One 0) (Accept 0 (round_of 0 0) 10)
    ∷ sends_one 0 to_all (Accept 0 (round_of 0 0) 10)
    ∷ sends_one 1 (One 0) (Prepare 0 (round_of 0 0) (PaxosV None 10))
    ∷ sends_one 0 to_all (Prepare 0 (round_of 0 0) (PaxosV None 10))
    ∷ [])
unfolding in_runs
engine_sends = refl

-- in MultiPaxos the first leader asks for accepts at once
pub engine_proposes : sent_of (entries_by engine (begun (three MultiPaxos)) [] (proposal_call 0 10 ∷ [])) ≡ (sends_one 0 to_all (Accept 0 (round_of 0 0) 10) ∷ [])
unfolding in_runs
engine_proposes = refl

-- no majority has promised before 2 has: only then does 0 ask for accepts
pub engine_accepts_late : sent_of (entries_by engine (begun five) [] heard_twice)
    ≡ (sends_none
    ∷ sends_none
    ∷ sends_one 1 (One 0) (Accept 0 (round_of 0 0) 10)
    ∷ sends_one 0 to_all (Accept 0 (round_of 0 0) 10)
    ∷ sends_one 2 (One 0) (Prepare 0 (round_of 0 0) (PaxosV None 10))
    ∷ sends_none
    ∷ sends_none
    ∷ sends_one 1 (One 0) (Prepare 0 (round_of 0 0) (PaxosV None 10))
    ∷ sends_one 0 to_all (Prepare 0 (round_of 0 0) (PaxosV None 10))
    ∷ [])
unfolding in_runs
engine_accepts_late = refl

-- ---- what is left in a shard, and what is served

-- of a group of three in Paxos, the shard of member 0 after calls
abbrev left_of : List MemberCall → Shard
left_of cs = shards_by engine (begun (three Paxos)) cs 0

abbrev reads_left : Shard → List OpenRead
reads_left shard = open_reads shard.state.rounds.core.tracker shard.state.table

-- with a new read a proposer holds what it held, and its fast half is as new
abbrev proposed_and_read : List MemberCall
proposed_and_read = proposal_call 0 10 ∷ opens 0 7 0 ∷ []

pub engine_holds : (left_of proposed_and_read).state.rounds.core.paxos.max_rv ≡ Some (PaxosV None 10)
unfolding in_runs
engine_holds = refl

pub engine_leaves_fast_half : (left_of (proposal_call 0 10 ∷ [])).state.rounds.fast ≡ no_answers
unfolding in_runs
engine_leaves_fast_half = refl

-- two reads are open, in the order in which they came, each with the own answer
pub engine_opens : reads_left (left_of two_reads) ≡ (new_read (read_id 0) 7 0 true ∷ new_read (read_id 1) 8 0 true ∷ [])
unfolding in_runs
engine_opens = refl

-- in a group of one a commit serves both in that order
pub engine_serves : served_ids (served_by_call (engine (shards_by engine (begun alone_settings) two_reads 0) (hears_message 0 0 None (Commit 0 10)).call)) ≡ (0 ∷ 1 ∷ [])
unfolding in_runs
engine_serves = refl

-- of three processes 0 and 1 are live: 2 answers 0 all the same, and is not counted
pub engine_counts_live :
    (shards_by engine (begun (paxos_group 3 3)) (proposal_call 0 10 ∷ hears_message 0 2 None (Prepare 0 (round_of 0 0) (PaxosV None 10)) ∷ []) 0).state.rounds.core.paxos.prepared_set
    ≡ 1
unfolding in_runs
engine_counts_live = refl

-- in SwiftPaxos a forwarded request counts for nothing
pub engine_counts_no_promise : (shards_by engine (begun (three SwiftPaxos)) forwarded 1).state.rounds.core.paxos.prepared_set ≡ 0
unfolding in_runs
engine_counts_no_promise = refl

pub engine_counts_no_accept : (shards_by engine (begun (three SwiftPaxos)) forwarded 1).state.rounds.core.paxos.accepted_set ≡ 0
unfolding in_runs
engine_counts_no_accept = refl

-- what process 64 tells a group of three is refused
pub engine_refuses_64 : (engine (begun (three Paxos) 1) (Receive told_by_64)).reply.outcome ≡ Err NoSuchProcess
unfolding in_runs
engine_refuses_64 = refl

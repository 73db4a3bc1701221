-- The starred instances of document 01, as rows of one table. A row has what a definition gives and what the document says that it gives.
-- One theorem, `every_row_holds` (proofs/Starred.antt), says that the two are equal in every row.
-- Assumes nothing.
use Rattle.std.specs.Prelude.{◌≡◌, true, false, List, [], ◌∷◌, ℕ, replicate, Option, None, Some, Result, Ok, Err}
use Rattle.message.specs.declared.Refusal.{Refusal}
use Rattle.basics.specs.sets.Sets.{size}
use Rattle.basics.specs.tables.Tables.{look_up}
use Rattle.quorum.specs.Quorum.{row_of}
use Rattle.message.specs.declared.ConsensusMsg.{ConsensusMsg}
use Rattle.message.specs.declared.ConsensusMsg.TheVariants.{Prepare, Commit, ReadRequest, ReadResponse}
use Rattle.message.specs.declared.PFMode.TheVariants.{Paxos}
use Rattle.message.specs.Rounds.{round_of, before, next_leader_round}
use Rattle.message.specs.declared.Refusal.TheVariants.{AcceptUnlikeHeld}
use Rattle.message.specs.declared.RoundV.{RoundV}
use Rattle.message.specs.declared.RoundV.TheVariants.{PaxosV}
use Rattle.message.specs.Refusals.{refusal_number}
use Rattle.fast_state.specs.declared.FastChange.{FastChange}
use Rattle.fast_state.specs.declared.FastState.{FastState}
use Rattle.round_state.specs.declared.Member.{Member}
use Rattle.round_state.specs.declared.PaxosState.{PaxosState}
use Rattle.round_state.specs.Paxos.{receive_promise, receive_accept, state_left}
use Rattle.fast_state.specs.Fast.{answers_of, unchanged, changed, no_answers, epaxos_answered, epaxos_propose_v}
use Rattle.fast_state.specs.Adopt.{lowest_best, epaxos_try_adopt_after}
use Rattle.fast_state.specs.RoundState.{new_round_state}
use Rattle.read_tracker.specs.declared.Inserted.{Inserted}
use Rattle.read_tracker.specs.Reads.{read_id, new_tracker, new_table, opening, inserted, insert_read}
use Rattle.read_tracker.specs.serving.Serving.{receive_ready, serve_at_commit}
use Rattle.settings.specs.declared.Settings.{Settings}
use Rattle.steps.specs.Steps.{no_messages, one_message, to_all}
use Rattle.consensus.specs.Call.{new_shard, call_of}
use Rattle.calls.specs.Commits.{committed_slot}
use Rattle.calls.specs.declared.Call.TheVariants.{Propose, StartRead, Receive}
use Rattle.calls.specs.declared.Reply.{Reply}
use Rattle.consensus.specs.declared.Shard.{Shard}

pub record StarredRow : Type 1 where
  pub Answer : Type 0
  pub given : Answer
  pub expected : Answer

abbrev pub starred_row : {A : Type 0} → A → A → StarredRow
starred_row a b = record { Answer = _; given = a; expected = b }

abbrev pub AllHold : List StarredRow → Type 0
AllHold [] = Unit {0}
AllHold (r ∷ rs) = (r.given ≡ r.expected) × AllHold rs

-- ---- quorums

-- 5 replicas give 3, 3, 4
abbrev pub five_replicas : StarredRow
five_replicas = starred_row (row_of 5) (record { majority = 3; epaxos = 3; fast = 4 })

-- ---- rounds

-- none < (0,4) < (1,0)
abbrev pub none_first : StarredRow
none_first = starred_row (before None (Some (round_of 0 4))) true

abbrev pub group_first : StarredRow
group_first = starred_row (before (Some (round_of 0 4)) (Some (round_of 1 0))) true

-- (2,3) next for 3 is (2,3), for 1 is (3,1)
abbrev pub next_for_leader : StarredRow
next_for_leader = starred_row (next_leader_round (round_of 2 3) 3) (round_of 2 3)

abbrev pub next_for_lower : StarredRow
next_for_lower = starred_row (next_leader_round (round_of 2 3) 1) (round_of 3 1)

-- ---- the round state of a replica of five

abbrev pub replica_member : ℕ → Member
replica_member p = record { my_pid = p; replica = true; quorums = row_of 5 }

abbrev pub fresh_paxos : PaxosState
fresh_paxos = (new_round_state None).paxos

abbrev pub after_received_promise : ℕ → RoundV → PaxosState → PaxosState
after_received_promise src rv s = receive_promise (replica_member 0) src rv s

-- Promises value 7 no round, then 9 of (0,1), then 5 no round: 9 is held
abbrev pub highest_held : StarredRow
highest_held =
    starred_row (after_received_promise 3 (PaxosV None 5) (after_received_promise 2 (PaxosV (Some (round_of 0 1)) 9) (after_received_promise 1 (PaxosV None 7) fresh_paxos))).max_rv
    (Some (PaxosV (Some (round_of 0 1)) 9))

-- Replica 0 hears accept (0,2) value 9 twice from 1: count 2
abbrev pub heard_accept : ℕ → PaxosState → Result PaxosState Refusal
heard_accept v s = receive_accept (replica_member 0) 1 (round_of 0 2) v s

abbrev pub after_heard : ℕ → PaxosState → PaxosState
after_heard v s = state_left s (heard_accept v s)

abbrev pub accepted_twice : PaxosState
accepted_twice = after_heard 9 (after_heard 9 fresh_paxos)

abbrev pub counted_once : StarredRow
counted_once = starred_row (size accepted_twice.accepted_set) 2

-- Then value 8: refusal 9
abbrev pub other_value : StarredRow
other_value = starred_row (heard_accept 8 accepted_twice) (Err AcceptUnlikeHeld)

abbrev pub other_value_number : StarredRow
other_value_number = starred_row (refusal_number AcceptUnlikeHeld) 9

-- EPaxos, five: 4 proposes 40; 1 answers proposer 0, value 10
abbrev pub change_left : FastState → Result FastChange Refusal → FastChange
change_left f (Ok change) = change
change_left f (Err why) = unchanged (answers_of f)

abbrev pub starred_epaxos_answer : ℕ → ℕ → ℕ → FastState → FastChange
starred_epaxos_answer src proposer v f = change_left f (epaxos_answered (replica_member 4) src proposer v (answers_of f) f.epaxos_proposer_scores)

abbrev pub after_fast_answer : ℕ → ℕ → ℕ → FastState → FastState
after_fast_answer src proposer v f = changed (starred_epaxos_answer src proposer v f) f

abbrev pub proposed_and_answered : FastState
proposed_and_answered =
    after_fast_answer 1 0 10
    (changed (change_left no_answers (epaxos_propose_v (replica_member 4) 40 (answers_of no_answers) no_answers.epaxos_proposer_scores)) no_answers)

-- what is adopted when one more answer comes
abbrev pub adopted_after : ℕ → ℕ → ℕ → Result (Option ℕ) Refusal
adopted_after src proposer v =
    epaxos_try_adopt_after lowest_best (replica_member 4) (starred_epaxos_answer src proposer v proposed_and_answered) proposed_and_answered.fast_proposer_to_v proposed_and_answered.epaxos_proposer_scores

-- 2 answers proposer 4: adopt 10 (scores 3 and 2)
abbrev pub adopts_best : StarredRow
adopts_best = starred_row (adopted_after 2 4 40) (Ok (Some 10))

abbrev pub other_score : StarredRow
other_score = starred_row (look_up (after_fast_answer 2 4 40 proposed_and_answered).epaxos_proposer_scores 0) 3

abbrev pub own_score : StarredRow
own_score = starred_row (look_up (after_fast_answer 2 4 40 proposed_and_answered).epaxos_proposer_scores 4) 2

-- If instead of 2, 3 answers proposer 2 value 20: a tie, adopt 10
abbrev pub tied_score : StarredRow
tied_score = starred_row (look_up (after_fast_answer 3 2 20 proposed_and_answered).epaxos_proposer_scores 0) 3

abbrev pub tied_other_score : StarredRow
tied_other_score = starred_row (look_up (after_fast_answer 3 2 20 proposed_and_answered).epaxos_proposer_scores 2) 3

abbrev pub adopts_lowest : StarredRow
adopts_lowest = starred_row (adopted_after 3 2 20) (Ok (Some 10))

-- ---- reads

-- Quorum 1, nothing held: a new read waits for the next response or commit
abbrev pub read_opened : Inserted
read_opened = inserted new_tracker new_table (opening new_tracker 7 0 true)

abbrev pub read_taken : StarredRow
read_taken = starred_row (insert_read new_tracker new_table 7 0 true) (Ok read_opened)

abbrev pub read_waits : StarredRow
read_waits = starred_row read_opened.tracker.open_count 1

abbrev pub response_serves : StarredRow
response_serves = starred_row (receive_ready read_opened.tracker read_opened.table (read_id 0) 1 0 true).served_count 1

abbrev pub commit_serves : StarredRow
commit_serves = starred_row (serve_at_commit read_opened.tracker read_opened.table 1 1).served_count 1

-- ---- a group of one, in Paxos

-- a group in Paxos, with its processes, its replica count, its live set and its first leader; own number 0
abbrev pub paxos_settings : ℕ → ℕ → ℕ → ℕ → Settings
paxos_settings processes replicas live leader =
    record {
      process_count = processes;
      replica_count = replicas;
      my_pid = 0;
      alive_replicas = live;
      first_leader = leader;
      mode = Paxos;
      quorum = None;
      committers = None;
      delegates = replicate 64 0;
    }

abbrev pub alone : Shard
alone = new_shard (paxos_settings 1 1 1 0)

-- what a call hands back that sends one message to all others, commits nothing and serves no read
abbrev pub sends_to_all : ConsensusMsg → Reply
sends_to_all msg =
    record {
      outcome = Ok tt;
      messages = one_message (record { destination = to_all; message = record { msg = msg; src = 0; last_v = None } });
      commit = None;
      served_count = 0;
    }

-- The first half of the instance: the proposal sends Prepare. The second half, "never commits", is `group_of_one` (crates/group/proofs/GroupOfOne.antt),
-- since no finite row can say it.
abbrev pub alone_proposes : StarredRow
alone_proposes = starred_row (call_of alone (Propose 10)).reply (sends_to_all (Prepare 0 (round_of 0 0) (PaxosV None 10)))

-- a new read is asked of all others, and waits
abbrev pub alone_reads : StarredRow
alone_reads = starred_row (call_of alone (StartRead 7 0)).reply (sends_to_all (ReadRequest (read_id 0)))

abbrev pub alone_waits : StarredRow
alone_waits = starred_row (call_of alone (StartRead 7 0)).shard.state.rounds.core.tracker.open_count 1

-- with a process more, which is no replica, the quorum is 1 still, and the next response or commit from there serves the read
abbrev pub after_read : ConsensusMsg → Reply
after_read msg =
    (call_of (call_of (new_shard (paxos_settings 2 1 1 0)) (StartRead 7 0)).shard
    (Receive
    (record {
      message = record { msg = msg; src = 1; last_v = None };
      said = record { value_held = true; requester = None; fast = true };
      held_requester = None;
    }))
    ).reply

abbrev pub response_after_read : StarredRow
response_after_read =
    starred_row (after_read (ReadResponse (read_id 0) 0)) (record { outcome = Ok tt; messages = no_messages; commit = None; served_count = 1 })

abbrev pub commit_after_read : StarredRow
commit_after_read =
    starred_row (after_read (Commit 0 10)) (record { outcome = Ok tt; messages = no_messages; commit = committed_slot 0 10 false; served_count = 1 })

-- ---- the table

abbrev pub starred : List StarredRow
starred =
    five_replicas
    ∷ none_first
    ∷ group_first
    ∷ next_for_leader
    ∷ next_for_lower
    ∷ highest_held
    ∷ counted_once
    ∷ other_value
    ∷ other_value_number
    ∷ adopts_best
    ∷ other_score
    ∷ own_score
    ∷ tied_score
    ∷ tied_other_score
    ∷ adopts_lowest
    ∷ read_taken
    ∷ read_waits
    ∷ response_serves
    ∷ commit_serves
    ∷ alone_proposes
    ∷ alone_reads
    ∷ alone_waits
    ∷ response_after_read
    ∷ commit_after_read
    ∷ []

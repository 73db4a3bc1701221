-- Wrong engines: those of document 01, "These must be rejected" (list c), and others. Each is the right one, `call_of`, with one thing changed.
-- Assumes nothing.
use Rattle.std.specs.Prelude.{Bool, true, false, cond, ◌&&◌, List, ℕ, eqb, leb, bit_and, get_or, set, Option, None, Some, Ok, Err}
use Rattle.std.specs.Int.{w64, bit_not, trailing_zeros}
use Rattle.message.specs.Modes.{has_fast_path, is_multi_paxos, is_swift_paxos}
use Rattle.message.specs.Outcomes.{Outcome}
use Rattle.message.specs.Rounds.{default_round, equal, increment}
use Rattle.message.specs.declared.ConsensusMsg.{ConsensusMsg}
use Rattle.message.specs.declared.ConsensusMsg.TheVariants.{Prepare, Accept, ForwardRequest, Commit, ReadRequest, ReadResponse}
use Rattle.message.specs.declared.Refusal.{Refusal}
use Rattle.message.specs.declared.Refusal.TheVariants.{SettingsOutsideLimits}
use Rattle.message.specs.declared.RoundV.{RoundV}
use Rattle.message.specs.declared.RoundV.TheVariants.{PaxosV}
use Rattle.calls.specs.Decision.{is_proposal}
use Rattle.read_tracker.specs.Reads.{read_id, no_read, with_count}
use Rattle.read_tracker.specs.declared.OpenRead.{OpenRead}
use Rattle.read_tracker.specs.declared.ReadTable.{ReadTable}
use Rattle.read_tracker.specs.declared.ServedRead.{ServedRead}
use Rattle.round_state.specs.Paxos.{with_held}
use Rattle.round_state.specs.declared.PaxosState.{PaxosState}
use Rattle.settings.specs.declared.Settings.{Settings}
use Rattle.fast_state.specs.declared.FastState.{FastState}
use Rattle.steps.specs.Steps.{no_messages, one_message, to_all, with_paxos}
use Rattle.steps.specs.declared.Destination.{Destination}
use Rattle.steps.specs.declared.Destination.TheVariants.{One, All}
use Rattle.steps.specs.declared.SentMessages.{SentMessages}
use Rattle.steps.specs.declared.Outgoing.{Outgoing}
use Rattle.calls.specs.Commits.{committed_slot}
use Rattle.calls.specs.declared.Call.{Call}
use Rattle.calls.specs.declared.Call.TheVariants.{Propose, StartRead, Receive}
use Rattle.calls.specs.declared.CommittedSlot.{CommittedSlot}
use Rattle.calls.specs.Replies.{sent_reply}
use Rattle.consensus.specs.Answers.{state_with_rounds}
use Rattle.consensus.specs.Call.{with_state, call_of}
use Rattle.consensus.specs.FirstCause.{number_alone}
use Rattle.consensus.specs.declared.Answer.{Answer}
use Rattle.consensus.specs.declared.Shard.{Shard}
use Rattle.wrong_engines.specs.Laws.{AnyEngine}
use Rattle.wrong_engines.specs.declared.FixedContents.{FixedContents}

-- ---- kinds of calls

abbrev pub is_new_read : Call → Bool
is_new_read (Propose v) = false
is_new_read (StartRead tag arrival) = true
is_new_read (Receive d) = false

abbrev pub is_message : Call → Bool
is_message (Propose v) = false
is_message (StartRead tag arrival) = false
is_message (Receive d) = true

-- a Prepare, or an Accept, of a round that the process leads
abbrev pub is_prepare_for : ℕ → ConsensusMsg → Bool
is_prepare_for p (Prepare slot round rv) = eqb round.leader p
is_prepare_for p (Accept slot round v) = false
is_prepare_for p (ForwardRequest v) = false
is_prepare_for p (Commit slot v) = false
is_prepare_for p (ReadRequest id) = false
is_prepare_for p (ReadResponse id next) = false

abbrev pub is_accept_for : ℕ → ConsensusMsg → Bool
is_accept_for p (Prepare slot round rv) = false
is_accept_for p (Accept slot round v) = eqb round.leader p
is_accept_for p (ForwardRequest v) = false
is_accept_for p (Commit slot v) = false
is_accept_for p (ReadRequest id) = false
is_accept_for p (ReadResponse id next) = false

abbrev pub is_forward : ConsensusMsg → Bool
is_forward (Prepare slot round rv) = false
is_forward (Accept slot round v) = false
is_forward (ForwardRequest v) = true
is_forward (Commit slot v) = false
is_forward (ReadRequest id) = false
is_forward (ReadResponse id next) = false

abbrev pub brings_message : (ConsensusMsg → Bool) → Call → Bool
brings_message test (Propose v) = false
brings_message test (StartRead tag arrival) = false
brings_message test (Receive d) = test d.message.msg

-- ---- what is changed of a call, of a shard, of an answer

-- its message, if it has one, comes from another
abbrev pub from_another : (ℕ → ℕ) → Call → Call
from_another source (Propose v) = Propose v
from_another source (StartRead tag arrival) = StartRead tag arrival
from_another source (Receive d) =
    Receive
    (record {
      message = record { msg = d.message.msg; src = source d.message.src; last_v = d.message.last_v };
      said = d.said;
      held_requester = d.held_requester;
    })

abbrev pub own_pid : Shard → ℕ
own_pid shard = shard.settings.my_pid

abbrev pub shard_slot : Shard → ℕ
shard_slot shard = shard.state.rounds.core.slot

abbrev pub paxos_half : Shard → PaxosState
paxos_half shard = shard.state.rounds.core.paxos

-- another Paxos half; something else is held, or nothing
abbrev pub with_paxos_half : PaxosState → Shard → Shard
with_paxos_half paxos shard =
    with_state shard (state_with_rounds shard.state (record { core = with_paxos paxos shard.state.rounds.core; fast = shard.state.rounds.fast }))

abbrev pub shard_holding : Option RoundV → Shard → Shard
shard_holding held shard = with_paxos_half (with_held held (paxos_half shard)) shard

abbrev pub with_settings : Settings → Shard → Shard
with_settings s shard = record { made = shard.made; settings = s; state = shard.state }

-- another number of replicas, or another live set
abbrev pub with_replicas : ℕ → ℕ → Settings → Settings
with_replicas n live s =
    record {
      process_count = s.process_count;
      replica_count = n;
      my_pid = s.my_pid;
      alive_replicas = live;
      first_leader = s.first_leader;
      mode = s.mode;
      quorum = s.quorum;
      committers = s.committers;
      delegates = s.delegates;
    }

-- another number of processes
abbrev pub with_processes : ℕ → Settings → Settings
with_processes n s =
    record {
      process_count = n;
      replica_count = s.replica_count;
      my_pid = s.my_pid;
      alive_replicas = s.alive_replicas;
      first_leader = s.first_leader;
      mode = s.mode;
      quorum = s.quorum;
      committers = s.committers;
      delegates = s.delegates;
    }

-- the lowest process of a set; or else the source
abbrev pub lowest_or : ℕ → ℕ → ℕ
lowest_or set source = cond (eqb set 0) source (trailing_zeros w64 set)

-- the message of a call counted as one of the lowest live replica that is not in the set
abbrev pub as_uncounted : Shard → ℕ → Call → Call
as_uncounted shard set c = from_another (lowest_or (bit_and shard.settings.alive_replicas (bit_not w64 set))) c

-- the call with other settings, for this once
abbrev pub call_under : Settings → Shard → Call → Answer
call_under s shard c =
    record {
      shard = with_settings shard.settings (call_of (with_settings s shard) c).shard;
      reply = (call_of (with_settings s shard) c).reply;
    }

-- other messages, or another commit
abbrev pub answer_with_messages : SentMessages → Answer → Answer
answer_with_messages messages r =
    record {
      shard = r.shard;
      reply = record { outcome = r.reply.outcome; messages = messages; commit = r.reply.commit; served_count = r.reply.served_count };
    }

abbrev pub answer_with_commit : Option CommittedSlot → Answer → Answer
answer_with_commit commit r =
    record {
      shard = r.shard;
      reply = record { outcome = r.reply.outcome; messages = r.reply.messages; commit = commit; served_count = r.reply.served_count };
    }

-- each message changed
abbrev pub change_message : (Outgoing → Outgoing) → Option Outgoing → Option Outgoing
change_message f None = None
change_message f (Some o) = Some (f o)

abbrev pub change_messages : (Outgoing → Outgoing) → SentMessages → SentMessages
change_messages f ms = record { first = change_message f ms.first; second = change_message f ms.second; third = change_message f ms.third }

-- what is refused stays so, and what is taken gets another answer
abbrev pub where_taken : Answer → Answer → Outcome → Answer
where_taken other r (Ok tt) = other
where_taken other r (Err why) = r

abbrev pub other_if_taken : Answer → Answer → Answer
other_if_taken other r = where_taken other r r.reply.outcome

-- another shard, where the call is taken
abbrev pub leaving : Shard → Answer → Answer
leaving shard r = other_if_taken (record { shard = shard; reply = r.reply }) r

-- the shard as it was, and nothing handed back but these messages; or not even these
abbrev pub sends_only : SentMessages → Shard → Answer
sends_only messages shard = record { shard = shard; reply = sent_reply messages }

abbrev pub idles : Shard → Answer
idles shard = sends_only no_messages shard

-- ---- lacking demand 2; they refuse what has to be refused

-- "a member that hears everything and does nothing"
unfoldable pub does_nothing : AnyEngine
does_nothing shard c = other_if_taken (idles shard) (call_of shard c)

-- "or sends one fixed message", whatever it is, or none, and does nothing else
unfoldable pub sends_fixed : SentMessages → AnyEngine
sends_fixed fixed shard c = other_if_taken (sends_only fixed shard) (call_of shard c)

-- such a message: that 0 is committed in slot 0
abbrev pub commit_of_zero : SentMessages
commit_of_zero = one_message (record { destination = to_all; message = record { msg = Commit 0 0; src = 0; last_v = None } })

-- each kind of message always with the same content, whatever that is
abbrev pub fixed_content : FixedContents → ConsensusMsg → ConsensusMsg
fixed_content fixed (Prepare slot round rv) = fixed.prepare
fixed_content fixed (Accept slot round v) = fixed.accept
fixed_content fixed (ForwardRequest v) = fixed.forward
fixed_content fixed (Commit slot v) = fixed.commit
fixed_content fixed (ReadRequest id) = fixed.request
fixed_content fixed (ReadResponse id next) = fixed.response

abbrev pub with_fixed_content : FixedContents → Outgoing → Outgoing
with_fixed_content fixed o =
    record {
      destination = o.destination;
      message = record { msg = fixed_content fixed o.message.msg; src = o.message.src; last_v = o.message.last_v };
    }

unfoldable pub sends_fixed_contents : FixedContents → AnyEngine
sends_fixed_contents fixed shard c =
    answer_with_messages (change_messages (with_fixed_content fixed) (call_of shard c).reply.messages) (call_of shard c)

-- such contents
abbrev pub all_zero : FixedContents
all_zero =
    record {
      prepare = Prepare 0 default_round (PaxosV None 0);
      accept = Accept 0 default_round 0;
      forward = ForwardRequest 0;
      commit = Commit 0 0;
      request = ReadRequest (read_id 0);
      response = ReadResponse (read_id 0) 0;
    }

-- in MultiPaxos and MultiPaxos3P it never proposes: a proposal that is taken does nothing
unfoldable pub multi_paxos_never_proposes : AnyEngine
multi_paxos_never_proposes shard c =
    cond (is_multi_paxos shard.settings.mode && is_proposal c) (other_if_taken (idles shard) (call_of shard c)) (call_of shard c)

-- it proposes, and does nothing with what it hears
unfoldable pub hears_nothing : AnyEngine
hears_nothing shard c = cond (is_message c) (other_if_taken (idles shard) (call_of shard c)) (call_of shard c)

-- it proposes, and answers no message
unfoldable pub answers_no_message : AnyEngine
answers_no_message shard c = cond (is_message c) (answer_with_messages no_messages (call_of shard c)) (call_of shard c)

-- "one that works in slot 0 and then idles"
unfoldable pub idles_after_slot_zero : AnyEngine
idles_after_slot_zero shard c = cond (leb 1 (shard_slot shard)) (other_if_taken (idles shard) (call_of shard c)) (call_of shard c)

-- ---- lacking demand 1

-- "or refuses each frame"; "one that says 5, 6 or 12 while nothing is ahead, awaited or full". Calls of a kind are refused, with whichever number.
unfoldable pub refuses_each : (Call → Bool) → Refusal → AnyEngine
refuses_each kind why shard c = cond (kind c) (number_alone why shard) (call_of shard c)

-- ---- lacking demand 3

-- "one that commits on the first accept": where the leader counts accepts, a majority is that of one replica
unfoldable pub commits_on_first_accept : AnyEngine
commits_on_first_accept shard c =
    cond (brings_message (is_accept_for (own_pid shard)) c)
    (call_under (with_replicas 1 shard.settings.alive_replicas shard.settings) shard c)
    (call_of shard c)

-- "one whose prepared or accepted figure has no set behind it": each message adds one to it, whosever it is. It is counted as
-- one of a live replica that is not in the set yet, while there is one.
unfoldable pub prepared_figure_without_set : AnyEngine
prepared_figure_without_set shard c =
    cond (brings_message (is_prepare_for (own_pid shard)) c)
    (other_if_taken (call_of shard (as_uncounted shard (paxos_half shard).prepared_set c)) (call_of shard c))
    (call_of shard c)

unfoldable pub accepted_figure_without_set : AnyEngine
accepted_figure_without_set shard c =
    cond (brings_message (is_accept_for (own_pid shard)) c)
    (other_if_taken (call_of shard (as_uncounted shard (paxos_half shard).accepted_set c)) (call_of shard c))
    (call_of shard c)

-- "Clearing the held promise with the round: accepted values are then forgotten." What brings the member into another round finds nothing held.
unfoldable pub forgets_held_with_round : AnyEngine
forgets_held_with_round shard c =
    cond (equal (paxos_half (call_of shard c).shard).round (paxos_half shard).round) (call_of shard c) (call_of (shard_holding None shard) c)

-- ---- lacking a law of what is sent

-- the first message, three times
unfoldable pub sends_thrice : AnyEngine
sends_thrice shard c =
    let m = (call_of shard c).reply.messages.first in
    answer_with_messages (record { first = m; second = m; third = m }) (call_of shard c)

-- in the name of process 0
abbrev pub from_zero : Outgoing → Outgoing
from_zero o = record { destination = o.destination; message = record { msg = o.message.msg; src = 0; last_v = o.message.last_v } }

unfoldable pub sends_as_zero : AnyEngine
sends_as_zero shard c = answer_with_messages (change_messages from_zero (call_of shard c).reply.messages) (call_of shard c)

-- to itself
abbrev pub redirected_to : ℕ → Outgoing → Outgoing
redirected_to p o = record { destination = One p; message = o.message }

unfoldable pub sends_to_itself : AnyEngine
sends_to_itself shard c = answer_with_messages (change_messages (redirected_to (own_pid shard)) (call_of shard c).reply.messages) (call_of shard c)

-- first to itself, where it goes to all
abbrev pub first_to : ℕ → Destination → Destination
first_to p (One q) = One q
first_to p (All first) = All (Some p)

abbrev pub sent_first_to : ℕ → Outgoing → Outgoing
sent_first_to p o = record { destination = first_to p o.destination; message = o.message }

unfoldable pub sends_first_to_itself : AnyEngine
sends_first_to_itself shard c =
    answer_with_messages (change_messages (sent_first_to (own_pid shard)) (call_of shard c).reply.messages) (call_of shard c)

-- ---- lacking the law of a group of one

-- a proposal that is taken commits at once
abbrev pub proposed_value : Call → ℕ
proposed_value (Propose v) = v
proposed_value (StartRead tag arrival) = 0
proposed_value (Receive d) = 0

unfoldable pub commits_at_once : AnyEngine
commits_at_once shard c =
    cond (is_proposal c)
    (other_if_taken (answer_with_commit (committed_slot (shard_slot shard) (proposed_value c) false) (call_of shard c)) (call_of shard c))
    (call_of shard c)

-- ---- lacking a law of every run, or of what a call leaves

-- the answer with the shard that a commit brings
abbrev pub with_shard_at : Shard → Answer → Option CommittedSlot → Answer
with_shard_at shard r None = r
with_shard_at shard r (Some commit) = record { shard = shard; reply = r.reply }

abbrev pub if_commits : Shard → Answer → Answer
if_commits shard r = with_shard_at shard r r.reply.commit

-- a commit leaves the member where it is
unfoldable pub stays_in_slot : AnyEngine
stays_in_slot shard c = if_commits shard (call_of shard c)

-- or holding what it held
unfoldable pub keeps_held_after_commit : AnyEngine
keeps_held_after_commit shard c = if_commits (shard_holding (paxos_half shard).max_rv (call_of shard c).shard) (call_of shard c)

-- a commit leaves the member marked unmade: it works in slot 0, and then refuses every call with 1
abbrev pub marked_unmade : Shard → Shard
marked_unmade shard = record { made = Err SettingsOutsideLimits; settings = shard.settings; state = shard.state }

unfoldable pub unmakes : AnyEngine
unmakes shard c = if_commits (marked_unmade (call_of shard c).shard) (call_of shard c)

-- or with the settings of one replica, process 0
unfoldable pub loses_replicas : AnyEngine
loses_replicas shard c = if_commits (with_settings (with_replicas 1 1 shard.settings) (call_of shard c).shard) (call_of shard c)

-- a new read leaves nothing held
unfoldable pub forgets_held_with_read : AnyEngine
forgets_held_with_read shard c = cond (is_new_read c) (other_if_taken (call_of (shard_holding None shard) c) (call_of shard c)) (call_of shard c)

-- promises and accepts are taken of every process
unfoldable pub counts_every_process : AnyEngine
counts_every_process shard c = call_under (with_replicas shard.settings.replica_count 18446744073709551615 shard.settings) shard c

-- ---- lacking a law of what lists of calls leave in a shard, or of what is served

-- In the classic modes too a proposal is noted for the fast path, as one answer for it, until the next call.
abbrev pub with_preaccepted : ℕ → FastState → FastState
with_preaccepted n f =
    record {
      fast_answer_set = f.fast_answer_set;
      fast_preaccepted = n;
      fast_proposers = f.fast_proposers;
      fast_proposer_to_v = f.fast_proposer_to_v;
      epaxos_proposer_scores = f.epaxos_proposer_scores;
      swift_proposer_scores = f.swift_proposer_scores;
      swift_leader_answer = f.swift_leader_answer;
    }

abbrev pub counting_answers : ℕ → Shard → Shard
counting_answers n shard =
    with_state shard (state_with_rounds shard.state (record { core = shard.state.rounds.core; fast = with_preaccepted n shard.state.rounds.fast }))

abbrev pub answers_noted : Call → ℕ
answers_noted (Propose v) = 1
answers_noted (StartRead tag arrival) = 0
answers_noted (Receive d) = 0

unfoldable pub notes_proposals : AnyEngine
notes_proposals shard c =
    cond (has_fast_path shard.settings.mode) (call_of shard c) (leaving (counting_answers (answers_noted c) (call_of shard c).shard) (call_of shard c))

-- Between calls the first two open reads stand the other way round; it answers as the right one.
abbrev pub shard_with_table : ReadTable → Shard → Shard
shard_with_table table shard = with_state shard (record { rounds = shard.state.rounds; table = table })

abbrev pub first_two_turned : List OpenRead → List OpenRead
first_two_turned reads = set (set reads 0 (get_or reads 1 no_read)) 1 (get_or reads 0 no_read)

abbrev pub turned : Shard → Shard
turned shard =
    cond (leb 2 shard.state.rounds.core.tracker.open_count)
    (shard_with_table (record { reads = first_two_turned shard.state.table.reads; served = shard.state.table.served }) shard)
    shard

unfoldable pub keeps_reads_turned : AnyEngine
keeps_reads_turned shard c =
    other_if_taken (record { shard = turned (call_of (turned shard) c).shard; reply = (call_of (turned shard) c).reply }) (call_of shard c)

-- where a call serves two reads or more, the first two stand the other way round
abbrev pub nothing_served : ServedRead
nothing_served = record { id = read_id 0; tag = 0; waited_for = 0; fast = false }

abbrev pub first_two_served_turned : List ServedRead → List ServedRead
first_two_served_turned served = set (set served 0 (get_or served 1 nothing_served)) 1 (get_or served 0 nothing_served)

abbrev pub with_served_turned : Answer → Answer
with_served_turned r =
    record {
      shard = shard_with_table (record { reads = r.shard.state.table.reads; served = first_two_served_turned r.shard.state.table.served }) r.shard;
      reply = r.reply;
    }

unfoldable pub serves_turned : AnyEngine
serves_turned shard c = cond (leb 2 (call_of shard c).reply.served_count) (with_served_turned (call_of shard c)) (call_of shard c)

-- with a new read the first open read has as many responses as a number can say, so that the next one would be lost in the sum
abbrev pub full_reads : List OpenRead → List OpenRead
full_reads reads = set reads 0 (with_count (get_or reads 0 no_read) 18446744073709551615 (get_or reads 0 no_read).local_ready)

abbrev pub with_full_read : Shard → Shard
with_full_read shard = shard_with_table (record { reads = full_reads shard.state.table.reads; served = shard.state.table.served }) shard

unfoldable pub fills_first_read : AnyEngine
fills_first_read shard c = cond (is_new_read c) (leaving (with_full_read (call_of shard c).shard) (call_of shard c)) (call_of shard c)

-- In SwiftPaxos a forwarded request is taken for the promises, or for the accepts, of all live replicas.
abbrev pub with_prepared : ℕ → PaxosState → PaxosState
with_prepared members s = record { round = s.round; max_rv = s.max_rv; prepared_set = members; accepted_set = s.accepted_set }

abbrev pub with_accepted : ℕ → PaxosState → PaxosState
with_accepted members s = record { round = s.round; max_rv = s.max_rv; prepared_set = s.prepared_set; accepted_set = members }

abbrev pub swift_forward : Shard → Call → Bool
swift_forward shard c = is_swift_paxos shard.settings.mode && brings_message is_forward c

unfoldable pub counts_forwards_as_promises : AnyEngine
counts_forwards_as_promises shard c =
    cond (swift_forward shard c)
    (leaving (with_paxos_half (with_prepared shard.settings.alive_replicas (paxos_half shard)) shard) (call_of shard c))
    (call_of shard c)

unfoldable pub counts_forwards_as_accepts : AnyEngine
counts_forwards_as_accepts shard c =
    cond (swift_forward shard c)
    (leaving (with_paxos_half (with_accepted shard.settings.alive_replicas (paxos_half shard)) shard) (call_of shard c))
    (call_of shard c)

-- a process of any number below 2^64-1 is taken for one of the group
unfoldable pub takes_every_process : AnyEngine
takes_every_process shard c = call_under (with_processes 18446744073709551615 shard.settings) shard c

-- in SwiftPaxos a commit is told as one of the next slot
abbrev pub of_next_slot : CommittedSlot → CommittedSlot
of_next_slot commit = record { slot = increment commit.slot; v = commit.v; fast = commit.fast }

abbrev pub told_as_next : Option CommittedSlot → Option CommittedSlot
told_as_next None = None
told_as_next (Some commit) = Some (of_next_slot commit)

unfoldable pub commits_next_slot : AnyEngine
commits_next_slot shard c =
    cond (is_swift_paxos shard.settings.mode) (answer_with_commit (told_as_next (call_of shard c).reply.commit) (call_of shard c)) (call_of shard c)

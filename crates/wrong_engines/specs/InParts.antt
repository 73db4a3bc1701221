-- The right engine in other words: what is decided of a call, and then by the parts of a shard. In the classic modes the core alone is handled, and the fast half
-- and the table of the reads stay as they are, but where a read is opened, or where a commit or a ReadResponse finds one open; what is left over, and every call
-- of EPaxos and SwiftPaxos, goes on with the whole state.
-- Assumes nothing.
use Rattle.std.specs.Prelude.{Bool, true, cond, ℕ, eqb, ltb, Result, Ok, Err}
use Rattle.message.specs.Modes.{has_fast_path}
use Rattle.message.specs.declared.ConsensusMsg.{ConsensusMsg}
use Rattle.message.specs.declared.ConsensusMsg.TheVariants.{Prepare, Accept, ForwardRequest, Commit, ReadRequest, ReadResponse}
use Rattle.message.specs.declared.Refusal.{Refusal}
use Rattle.message.specs.declared.Refusal.TheVariants.{ValueNotHeld}
use Rattle.fast_state.specs.Adopt.{lowest_best}
use Rattle.steps.specs.Steps.{CoreStep, no_messages}
use Rattle.steps.specs.declared.Asked.{Asked}
use Rattle.steps.specs.declared.Core.{Core}
use Rattle.steps.specs.declared.Heard.{Heard}
use Rattle.steps.specs.declared.SentMessages.{SentMessages}
use Rattle.steps.specs.declared.Next.{Next}
use Rattle.steps.specs.declared.Next.TheVariants.{Stays, Continues, Commits}
use Rattle.steps.specs.declared.Rounds.{Rounds}
use Rattle.propose.specs.Propose.{propose_classic}
use Rattle.paxos_family.specs.Commit.{next_core}
use Rattle.paxos_family.specs.Process.{process_classic}
use Rattle.calls.specs.declared.delivery.Delivery.{Delivery}
use Rattle.calls.specs.Replies.{committed_reply}
use Rattle.calls.specs.declared.Call.{Call}
use Rattle.calls.specs.declared.Call.TheVariants.{Propose, StartRead, Receive}
use Rattle.calls.specs.declared.Taken.{Taken}
use Rattle.consensus.specs.Answers.{state_with_rounds, refused, sent_answer, nothing, committed}
use Rattle.consensus.specs.Call.{in_shard, call_decision}
use Rattle.consensus.specs.Handle.{on_read_request, on_read_response, start_read, handle_call}
use Rattle.consensus.specs.declared.State.{State}
use Rattle.consensus.specs.declared.StateAnswer.{StateAnswer}
use Rattle.wrong_engines.specs.Laws.{AnyEngine}

-- ---- the core alone; held says that the host holds the value that is committed

-- another core, with the fast half as it is
abbrev pub around : State → Core → Rounds
around state core = record { core = core; fast = state.rounds.fast }

-- where a read is open, some may have become ready
abbrev pub core_commit : State → Asked → ℕ → Core → SentMessages → StateAnswer
core_commit state a v core messages =
    cond (ltb 0 core.tracker.open_count) (committed state a v (around state core) messages)
    (record { state = state_with_rounds state (around state (next_core a v core)); reply = committed_reply a v core messages })

abbrev pub core_end : State → Asked → Bool → Core → SentMessages → Next → StateAnswer
core_end state a held core messages Stays = sent_answer (state_with_rounds state (around state core)) messages
core_end state a held core messages Continues = sent_answer (state_with_rounds state (around state core)) messages
core_end state a held core messages (Commits v) = cond held (core_commit state a v core messages) (refused ValueNotHeld state)

abbrev pub core_step_answer : State → Asked → Bool → Result CoreStep Refusal → StateAnswer
core_step_answer state a held (Ok step) = core_end state a held step.state step.messages step.next
core_step_answer state a held (Err why) = refused why state

abbrev pub core_message : State → Asked → Heard → Delivery → StateAnswer
core_message state a h d = core_step_answer state a d.said.value_held (process_classic a h d.message.msg state.rounds.core)

unfoldable pub core_handle : State → Asked → Heard → Delivery → ConsensusMsg → StateAnswer
core_handle state a h d (Prepare slot round rv) = core_message state a h d
core_handle state a h d (Accept slot round v) = core_message state a h d
core_handle state a h d (ForwardRequest v) = core_message state a h d
core_handle state a h d (Commit slot v) = cond (ltb slot state.rounds.core.slot) (nothing state) (core_commit state a v state.rounds.core no_messages)
core_handle state a h d (ReadRequest id) = on_read_request state a d.message.src id
core_handle state a h d (ReadResponse id next) =
    cond (eqb state.rounds.core.tracker.open_count 0) (nothing state) (on_read_response state a id d.said.fast)

unfoldable pub core_call : State → Asked → Heard → Call → StateAnswer
core_call state a h (Propose v) = core_step_answer state a true (propose_classic a v state.rounds.core)
core_call state a h (StartRead tag arrival) = start_read state a tag arrival
core_call state a h (Receive d) = core_handle state a h d d.message.msg

-- ---- calls

unfoldable pub parts_call : State → Result Taken Refusal → StateAnswer
parts_call state (Err why) = refused why state
parts_call state (Ok t) =
    cond (has_fast_path t.asked.mode) (handle_call lowest_best state t.asked t.heard t.call) (core_call state t.asked t.heard t.call)

abbrev pub in_parts : AnyEngine
in_parts shard c = in_shard shard (parts_call shard.state (call_decision shard c))

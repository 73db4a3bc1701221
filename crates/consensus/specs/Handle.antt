-- Handling a call that is taken: a proposal, start_read, and an admitted message (the Rust's full_process_message).
-- Assumes nothing.
use Rattle.std.specs.Prelude.{Bool, true, cond, not, ℕ, eqb, ltb, None, Result, Ok, Err, is_some}
use Rattle.message.specs.declared.Refusal.{Refusal}
use Rattle.message.specs.Modes.{has_fast_path}
use Rattle.message.specs.declared.ConsensusMsg.{ConsensusMsg}
use Rattle.message.specs.declared.ConsensusMsg.TheVariants.{Prepare, Accept, ForwardRequest, Commit, ReadRequest, ReadResponse}
use Rattle.message.specs.declared.ReadId.{ReadId}
use Rattle.message.specs.declared.Refusal.TheVariants.{Panic}
use Rattle.fast_state.specs.Adopt.{ProposerChoice}
use Rattle.read_tracker.specs.Reads.{insert_read}
use Rattle.read_tracker.specs.serving.Serving.{receive_ready}
use Rattle.read_tracker.specs.declared.Inserted.{Inserted}
use Rattle.paxos_family.specs.Process.{process_classic, process_fast}
use Rattle.propose.specs.Propose.{propose_classic, propose_fast}
use Rattle.steps.specs.Steps.{RoundsStep, no_messages, one_message, sends, to_all, map_step, on_rounds}
use Rattle.steps.specs.declared.Asked.{Asked}
use Rattle.steps.specs.declared.Heard.{Heard}
use Rattle.steps.specs.declared.Rounds.{Rounds}
use Rattle.calls.specs.Replies.{sent_reply, read_answer}
use Rattle.calls.specs.declared.Call.{Call}
use Rattle.calls.specs.declared.Call.TheVariants.{Propose, StartRead, Receive}
use Rattle.consensus.specs.Answers.{track, refused, sent_answer, nothing, served_answer, committed, finish}
use Rattle.consensus.specs.declared.State.{State}
use Rattle.consensus.specs.declared.StateAnswer.{StateAnswer}
use Rattle.calls.specs.declared.delivery.Delivery.{Delivery}

-- ---- Commit

-- an older one does nothing; the own slot's commits, from any source and at any member
unfoldable pub on_commit : State → Asked → ℕ → ℕ → StateAnswer
on_commit state a slot v = cond (ltb slot state.rounds.core.slot) (nothing state) (committed state a v state.rounds no_messages)

-- ---- reads

-- answered at any member; the Rust's sink asserts that nothing is sent to oneself. A ReadResponse carries no last value.
unfoldable pub on_read_request : State → Asked → ℕ → ReadId → StateAnswer
on_read_request state a src id =
    cond (eqb src a.member.my_pid) (refused Panic state)
    (sent_answer state (one_message (read_answer a.member.my_pid src id state.rounds.core)))

-- a response of an older slot still counts
unfoldable pub on_read_response : State → Asked → ReadId → Bool → StateAnswer
on_read_response state a id fast =
    served_answer state.rounds
    (receive_ready state.rounds.core.tracker state.table id a.member.quorums.majority state.rounds.core.slot fast)
    no_messages
    None

-- start_read: a place and an id, or refusal 12
abbrev pub after_insert : State → Asked → Result Inserted Refusal → StateAnswer
after_insert state a (Err why) = refused why state
after_insert state a (Ok ins) =
    record {
      state = record { rounds = track ins.tracker state.rounds; table = ins.table };
      reply = sent_reply (one_message (sends a state.rounds.core to_all (ReadRequest ins.id)));
    }

-- the own answer counts at once where nothing is held
abbrev pub read_inserted : State → ℕ → ℕ → Result Inserted Refusal
read_inserted state tag arrival = insert_read state.rounds.core.tracker state.table tag arrival (not (is_some state.rounds.core.paxos.max_rv))

unfoldable pub start_read : State → Asked → ℕ → ℕ → StateAnswer
start_read state a tag arrival = after_insert state a (read_inserted state tag arrival)

-- ---- proposals: 11 among their refusals

unfoldable pub proposing : Asked → ℕ → Rounds → Result RoundsStep Refusal
proposing a v s = cond (has_fast_path a.mode) (propose_fast a v s) (map_step (on_rounds s.fast) (propose_classic a v s.core))

-- ---- Prepare, Accept and ForwardRequest; the choice among the best proposers of EPaxos is a parameter

module _ (choose : ProposerChoice) where
  unfoldable pub processed : Asked → Heard → ConsensusMsg → Rounds → Result RoundsStep Refusal
  processed a h msg s = cond (has_fast_path a.mode) (process_fast choose a h msg s) (map_step (on_rounds s.fast) (process_classic a h msg s.core))

  unfoldable pub process_message : State → Asked → Heard → Delivery → StateAnswer
  process_message state a h d = finish state a d.said.value_held (processed a h d.message.msg state.rounds)

  -- full_process_message
  unfoldable pub handle : State → Asked → Heard → Delivery → ConsensusMsg → StateAnswer
  handle state a h d (Prepare slot round rv) = process_message state a h d
  handle state a h d (Accept slot round v) = process_message state a h d
  handle state a h d (ForwardRequest v) = process_message state a h d
  handle state a h d (Commit slot v) = on_commit state a slot v
  handle state a h d (ReadRequest id) = on_read_request state a d.message.src id
  handle state a h d (ReadResponse id next) = on_read_response state a id d.said.fast

  -- a call that is taken; the host holds the value that it proposes
  unfoldable pub handle_call : State → Asked → Heard → Call → StateAnswer
  handle_call state a h (Propose v) = finish state a true (proposing a v state.rounds)
  handle_call state a h (StartRead tag arrival) = start_read state a tag arrival
  handle_call state a h (Receive d) = handle state a h d d.message.msg

-- A call with its sums, differences, look-ups and stores as parameters, and a shard as it begins. Each `name_by` is the definition `name` of the engine:
-- the crate consensus has it. With the engine's own sums it is the engine's call (`call_by_own`, proofs/Own.antt).
-- Assumes nothing.
use Rattle.std.specs.Prelude.{Bool, true, false, cond, not, is_some, ℕ, eqb, ltb, None, Result, Ok, Err}
use Rattle.message.specs.Modes.{has_fast_path}
use Rattle.message.specs.Outcomes.{Outcome}
use Rattle.message.specs.declared.ConsensusMsg.{ConsensusMsg}
use Rattle.message.specs.declared.ConsensusMsg.TheVariants.{Prepare, Accept, ForwardRequest, Commit, ReadRequest, ReadResponse}
use Rattle.message.specs.declared.ReadId.{ReadId}
use Rattle.message.specs.declared.Refusal.{Refusal}
use Rattle.message.specs.declared.Refusal.TheVariants.{SettingsOutsideLimits, ValueNotHeld, Panic}
use Rattle.settings.specs.Settings.{within_limits}
use Rattle.settings.specs.declared.Settings.{Settings}
use Rattle.fast_state.specs.RoundState.{new_round_state}
use Rattle.read_tracker.specs.Reads.{new_tracker, new_table}
use Rattle.read_tracker.specs.declared.Inserted.{Inserted}
use Rattle.steps.specs.Steps.{RoundsStep, no_messages, one_message, map_step, on_rounds}
use Rattle.steps.specs.declared.Asked.{Asked}
use Rattle.steps.specs.declared.Core.{Core}
use Rattle.steps.specs.declared.Heard.{Heard}
use Rattle.steps.specs.declared.SentMessages.{SentMessages}
use Rattle.steps.specs.declared.Next.{Next}
use Rattle.steps.specs.declared.Next.TheVariants.{Stays, Continues, Commits}
use Rattle.steps.specs.declared.Rounds.{Rounds}
use Rattle.paxos_family.specs.Process.{process_classic}
use Rattle.calls.specs.declared.delivery.Delivery.{Delivery}
use Rattle.calls.specs.Commits.{committed_slot}
use Rattle.calls.specs.Decision.{unless_unmade}
use Rattle.calls.specs.Replies.{is_fast}
use Rattle.calls.specs.declared.Call.{Call}
use Rattle.calls.specs.declared.Call.TheVariants.{Propose, StartRead, Receive}
use Rattle.calls.specs.declared.Taken.{Taken}
use Rattle.consensus.specs.Answers.{state_with_rounds, refused, sent_answer, nothing, served_answer}
use Rattle.consensus.specs.Call.{in_shard}
use Rattle.consensus.specs.Handle.{after_insert}
use Rattle.consensus.specs.declared.Answer.{Answer}
use Rattle.consensus.specs.declared.Shard.{Shard}
use Rattle.consensus.specs.declared.State.{State}
use Rattle.consensus.specs.declared.StateAnswer.{StateAnswer}
use Rattle.sums.specs.Sums.{Sums}
use Rattle.sums.specs.Parts.{starting_round_by, asked_of_by, heard_in_by, insert_read_by, receive_ready_by, serve_at_commit_by, read_answer_by, next_slot_by}
use Rattle.sums.specs.Handlers.{process_fast_by, propose_classic_by, propose_fast_by}

module _ (m : Sums) where
  -- ---- new

  -- `new_shard`, whose state is begun in the starting round
  abbrev pub new_state_by : Settings → State
  new_state_by s =
      record {
        rounds =
            record {
              core =
                  record {
                    slot = 0;
                    last_v = None;
                    slot_left_fast_path = false;
                    paxos = (new_round_state (starting_round_by m s.mode s.first_leader)).paxos;
                    tracker = new_tracker;
                  };
              fast = (new_round_state (starting_round_by m s.mode s.first_leader)).fast;
            };
        table = new_table;
      }

  unfoldable pub new_shard_by : Settings → Shard
  new_shard_by s = record { made = cond (within_limits s) (Ok tt) (Err SettingsOutsideLimits); settings = s; state = new_state_by s }

  -- ---- the end of a call

  unfoldable pub committed_by : State → Asked → ℕ → Rounds → SentMessages → StateAnswer
  committed_by state a v s messages =
      served_answer (next_slot_by m a v s) (serve_at_commit_by m s.core.tracker state.table a.member.quorums.majority (next_slot_by m a v s).core.slot) messages
      (committed_slot s.core.slot v (is_fast a s.core))

  abbrev pub finish_at_by : State → Asked → Bool → Rounds → SentMessages → Next → StateAnswer
  finish_at_by state a held s messages Stays = sent_answer (state_with_rounds state s) messages
  finish_at_by state a held s messages Continues = sent_answer (state_with_rounds state s) messages
  finish_at_by state a held s messages (Commits v) = cond held (committed_by state a v s messages) (refused ValueNotHeld state)

  abbrev pub finish_by : State → Asked → Bool → Result RoundsStep Refusal → StateAnswer
  finish_by state a held (Ok step) = finish_at_by state a held step.state step.messages step.next
  finish_by state a held (Err why) = refused why state

  -- ---- Commit

  unfoldable pub on_commit_by : State → Asked → ℕ → ℕ → StateAnswer
  on_commit_by state a slot v = cond (ltb slot state.rounds.core.slot) (nothing state) (committed_by state a v state.rounds no_messages)

  -- ---- reads

  unfoldable pub on_read_request_by : State → Asked → ℕ → ReadId → StateAnswer
  on_read_request_by state a src id =
      cond (eqb src a.member.my_pid) (refused Panic state) (sent_answer state (one_message (read_answer_by m a.member.my_pid src id state.rounds.core)))

  unfoldable pub on_read_response_by : State → Asked → ReadId → Bool → StateAnswer
  on_read_response_by state a id fast =
      served_answer state.rounds
      (receive_ready_by m state.rounds.core.tracker state.table id a.member.quorums.majority state.rounds.core.slot fast)
      no_messages
      None

  abbrev pub read_inserted_by : State → ℕ → ℕ → Result Inserted Refusal
  read_inserted_by state tag arrival = insert_read_by m state.rounds.core.tracker state.table tag arrival (not (is_some state.rounds.core.paxos.max_rv))

  unfoldable pub start_read_by : State → Asked → ℕ → ℕ → StateAnswer
  start_read_by state a tag arrival = after_insert state a (read_inserted_by state tag arrival)

  -- ---- proposals

  unfoldable pub proposing_by : Asked → ℕ → Rounds → Result RoundsStep Refusal
  proposing_by a v s = cond (has_fast_path a.mode) (propose_fast_by m a v s) (map_step (on_rounds s.fast) (propose_classic_by m a v s.core))

  -- ---- Prepare, Accept and ForwardRequest, at our choice among the best proposers of EPaxos

  unfoldable pub processed_by : Asked → Heard → ConsensusMsg → Rounds → Result RoundsStep Refusal
  processed_by a h msg s = cond (has_fast_path a.mode) (process_fast_by m a h msg s) (map_step (on_rounds s.fast) (process_classic a h msg s.core))

  unfoldable pub process_message_by : State → Asked → Heard → Delivery → StateAnswer
  process_message_by state a h d = finish_by state a d.said.value_held (processed_by a h d.message.msg state.rounds)

  unfoldable pub handle_by : State → Asked → Heard → Delivery → ConsensusMsg → StateAnswer
  handle_by state a h d (Prepare slot round rv) = process_message_by state a h d
  handle_by state a h d (Accept slot round v) = process_message_by state a h d
  handle_by state a h d (ForwardRequest v) = process_message_by state a h d
  handle_by state a h d (Commit slot v) = on_commit_by state a slot v
  handle_by state a h d (ReadRequest id) = on_read_request_by state a d.message.src id
  handle_by state a h d (ReadResponse id next) = on_read_response_by state a id d.said.fast

  -- ---- calls

  unfoldable pub handle_call_by : State → Asked → Heard → Call → StateAnswer
  handle_call_by state a h (Propose v) = finish_by state a true (proposing_by a v state.rounds)
  handle_call_by state a h (StartRead tag arrival) = start_read_by state a tag arrival
  handle_call_by state a h (Receive d) = handle_by state a h d d.message.msg

  unfoldable pub state_call_by : State → Result Taken Refusal → StateAnswer
  state_call_by state (Err why) = refused why state
  state_call_by state (Ok t) = handle_call_by state t.asked t.heard t.call

  -- no number of a call is summed or looked up before it is decided on; what the handlers ask is
  abbrev pub decision_for_by : Settings → Call → Outcome → Result Taken Refusal
  decision_for_by s c (Ok tt) = Ok (record { asked = asked_of_by m s; heard = heard_in_by m s c; call = c })
  decision_for_by s c (Err why) = Err why

  unfoldable pub decision_of_by : Outcome → Settings → Core → Call → Result Taken Refusal
  decision_of_by made s core c = decision_for_by s c (unless_unmade made s.process_count s.my_pid core c)

  abbrev pub call_decision_by : Shard → Call → Result Taken Refusal
  call_decision_by shard c = decision_of_by shard.made shard.settings shard.state.rounds.core c

  -- `call_of`
  unfoldable pub call_by : Shard → Call → Answer
  call_by shard c = in_shard shard (state_call_by shard.state (call_decision_by shard c))

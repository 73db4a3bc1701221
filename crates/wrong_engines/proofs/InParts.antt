-- The right engine in other words (specs/InParts.antt) is the right one, on every call.
-- Assumes nothing.
use Rattle.std.specs.Prelude.{None, Result, Ok, Err}
use mathlib.Core.Path.{◌≡◌, refl, sym, ap, ◌∙◌}
use mathlib.Core.Bool.{Bool, true, false, cond}
use Prim.Native.Nat.{ℕ}
use native.Mathlib.Omega.{arith}
use lib.Dec.{eqb, ltb}
use borrow.Author.Tests.{eqb-true, ltb-false}
use Rattle.message.specs.Modes.{has_fast_path}
use Rattle.message.specs.declared.ConsensusMsg.{ConsensusMsg}
use Rattle.message.specs.declared.ConsensusMsg.TheVariants.{Prepare, Accept, ForwardRequest, Commit, ReadRequest, ReadResponse}
use Rattle.message.specs.declared.Refusal.{Refusal}
use Rattle.message.specs.declared.Refusal.TheVariants.{ValueNotHeld}
use Rattle.fast_state.specs.Adopt.{lowest_best}
use Rattle.fast_state.specs.Fast.{no_answers}
use Rattle.read_tracker.proofs.serving.NoReads.{commit_untouched, response_untouched}
use Rattle.read_tracker.specs.declared.serving.Tracked.{Tracked}
use Rattle.steps.specs.Steps.{RoundsStep, CoreStep, no_messages, map_step, on_rounds}
use Rattle.steps.specs.declared.Asked.{Asked}
use Rattle.steps.specs.declared.Core.{Core}
use Rattle.steps.specs.declared.Heard.{Heard}
use Rattle.steps.specs.declared.SentMessages.{SentMessages}
use Rattle.steps.specs.declared.Next.{Next}
use Rattle.steps.specs.declared.Next.TheVariants.{Stays, Continues, Commits}
use Rattle.propose.specs.Propose.{propose_classic, propose_fast}
use Rattle.paxos_family.specs.Commit.{commit_slot, next_core, next_slot}
use Rattle.paxos_family.specs.Process.{process_classic, process_fast}
use Rattle.calls.specs.declared.delivery.Delivery.{Delivery}
use Rattle.calls.specs.Commits.{committed_slot}
use Rattle.calls.specs.Replies.{is_fast, committed_reply}
use Rattle.calls.specs.declared.Call.{Call}
use Rattle.calls.specs.declared.Call.TheVariants.{Propose, StartRead, Receive}
use Rattle.calls.specs.declared.Taken.{Taken}
use Rattle.consensus.specs.Answers.{state_with_rounds, refused, nothing, served_answer, committed, finish_at, finish}
use Rattle.consensus.specs.Call.{state_call, in_shard, call_decision, call_with, call_of}
use Rattle.consensus.specs.Handle.{on_commit, on_read_response, proposing, processed, process_message, handle, handle_call}
use Rattle.consensus.specs.declared.Shard.{Shard}
use Rattle.consensus.specs.declared.State.{State}
use Rattle.consensus.specs.declared.StateAnswer.{StateAnswer}
use Rattle.agreement.proofs.Tests.{by_choice}
use Rattle.wrong_engines.specs.InParts.{around, core_commit, core_end, core_step_answer, core_message, core_handle, core_call, parts_call, in_parts}

module _ (state : State) (a : Asked) (classic : has_fast_path a.mode ≡ false) where
  abbrev core : Core
  core = state.rounds.core

  -- ---- the end of a call

  commit_same : (v : ℕ) (c : Core) (messages : SentMessages) → core_commit state a v c messages ≡ committed state a v (around state c) messages
  unfolding committed commit_slot
  commit_same v c messages =
      by_choice (λ (r : StateAnswer). r ≡ committed state a v (around state c) messages) (ltb 0 c.tracker.open_count) (λ e. refl)
      (λ e. ap
      (λ (t : Bool). record {
        state = state_with_rounds state (record { core = next_core a v c; fast = cond t no_answers state.rounds.fast });
        reply = committed_reply a v c messages;
      })
      (sym classic)
      ∙ sym
      (ap (λ (t : Tracked). served_answer (next_slot a v (around state c)) t messages (committed_slot c.slot v (is_fast a c)))
      (commit_untouched c.tracker state.table (let z = ltb-false 0 c.tracker.open_count e in omega arith) a.member.quorums.majority
      (next_slot a v (around state c)).core.slot)))

  step_same : (held : Bool) (r : Result CoreStep Refusal) → core_step_answer state a held r ≡ finish state a held (map_step (on_rounds state.rounds.fast) r)
  step_same held (Err why) = refl
  step_same held (Ok step) = go step.next
    where
      go : (n : Next) → core_end state a held step.state step.messages n ≡ finish_at state a held (around state step.state) step.messages n
      go Stays = refl
      go Continues = refl
      go (Commits v) = ap (λ (r : StateAnswer). cond held r (refused ValueNotHeld state)) (commit_same v step.state step.messages)

  -- in the classic modes the fast path plays no part
  classic_step : (held : Bool) (fast : Result RoundsStep Refusal) (r : Result CoreStep Refusal)
      → core_step_answer state a held r ≡ finish state a held (cond (has_fast_path a.mode) fast (map_step (on_rounds state.rounds.fast) r))
  classic_step held fast r =
      step_same held r ∙ ap (λ (t : Bool). finish state a held (cond t fast (map_step (on_rounds state.rounds.fast) r))) (sym classic)

  -- ---- calls

  module _ (h : Heard) where
    message_same : (d : Delivery) → core_message state a h d ≡ process_message lowest_best state a h d
    unfolding process_message processed
    message_same d =
        classic_step d.said.value_held (process_fast lowest_best a h d.message.msg state.rounds) (process_classic a h d.message.msg core)

    handle_same : (d : Delivery) (msg : ConsensusMsg) → core_handle state a h d msg ≡ handle lowest_best state a h d msg
    unfolding core_handle handle on_commit on_read_response
    handle_same d (Prepare slot round rv) = message_same d
    handle_same d (Accept slot round v) = message_same d
    handle_same d (ForwardRequest v) = message_same d
    handle_same d (Commit slot v) = ap (λ (r : StateAnswer). cond (ltb slot core.slot) (nothing state) r) (commit_same v core no_messages)
    handle_same d (ReadRequest id) = refl
    handle_same d (ReadResponse id next) =
        by_choice (λ (r : StateAnswer). r ≡ on_read_response state a id d.said.fast) (eqb core.tracker.open_count 0)
        (λ e. sym
        (ap (λ (t : Tracked). served_answer state.rounds t no_messages None)
        (response_untouched core.tracker state.table (eqb-true _ _ e) id a.member.quorums.majority core.slot d.said.fast)))
        (λ e. refl)

    call_same : (c : Call) → core_call state a h c ≡ handle_call lowest_best state a h c
    unfolding core_call handle_call proposing
    call_same (Propose v) = classic_step true (propose_fast a v state.rounds) (propose_classic a v core)
    call_same (StartRead tag arrival) = refl
    call_same (Receive d) = handle_same d d.message.msg

parts_same : (state : State) (d : Result Taken Refusal) → parts_call state d ≡ state_call lowest_best state d
unfolding parts_call state_call
parts_same state (Err why) = refl
parts_same state (Ok t) =
    by_choice (λ (r : StateAnswer). r ≡ handle_call lowest_best state t.asked t.heard t.call) (has_fast_path t.asked.mode) (λ e. refl) (λ e. call_same state t.asked e t.heard t.call)

pub in_parts_same : (shard : Shard) (c : Call) → in_parts shard c ≡ call_of shard c
unfolding call_with
in_parts_same shard c = ap (in_shard shard) (parts_same shard.state (call_decision shard c))

-- A message whose value the host does not hold commits nothing, in every mode and on every shard.
-- Assumes nothing.
use Rattle.std.specs.Prelude.{None, Result, Ok, Err}
use Rattle.message.specs.Outcomes.{Outcome}
use mathlib.Core.Path.{◌≡◌, refl}
use mathlib.Core.Bool.{Bool, true, false, cond, not, ◌&&◌}
use Prim.Native.Nat.{ℕ, ◌≤◌}
use native.Mathlib.Omega.{arith}
use lib.Dec.{eqb, ltb, leb}
use borrow.Author.Tests.{lt-ltb, ltb-false, eqb-false}
use Rattle.basics.proofs.Tests.{of-both, not_both}
use Rattle.message.specs.Messages.{msg_slot}
use Rattle.message.specs.declared.ConsensusMsg.{ConsensusMsg}
use Rattle.message.specs.declared.ConsensusMsg.TheVariants.{Prepare, Accept, ForwardRequest, Commit, ReadRequest, ReadResponse}
use Rattle.message.specs.declared.Refusal.{Refusal}
use Rattle.message.specs.declared.Refusal.TheVariants.{NumberTooLarge, NoSuchProcess, SlotAhead, OtherLastValue, ValueNotHeld}
use Rattle.fast_state.specs.Adopt.{ProposerChoice}
use Rattle.steps.specs.declared.Core.{Core}
use Rattle.steps.specs.declared.SentMessages.{SentMessages}
use Rattle.steps.specs.declared.Next.{Next}
use Rattle.steps.specs.declared.Next.TheVariants.{Stays, Continues, Commits}
use Rattle.steps.specs.declared.Rounds.{Rounds}
use Rattle.steps.specs.Steps.{RoundsStep}
use Rattle.calls.specs.delivery.Admit.{is_ahead, is_own_slot, needs_value, other_last_value, value_awaited, ready, admit}
use Rattle.calls.specs.delivery.Limits.{numbers_fit, processes_fit}
use Rattle.calls.specs.declared.delivery.Delivery.{Delivery}
use Rattle.calls.specs.Asked.{asked_of, heard_of}
use Rattle.calls.specs.Decision.{admission_of, unless_spent, unless_unmade, decision_for, decision_of}
use Rattle.calls.specs.declared.Call.TheVariants.{Receive}
use Rattle.consensus.specs.Answers.{finish_at, finish}
use Rattle.consensus.specs.Call.{state_call, call_with}
use Rattle.consensus.specs.Handle.{on_commit, on_read_request, on_read_response, processed, process_message, handle, handle_call}
use Rattle.consensus.specs.declared.Shard.{Shard}
use Rattle.consensus.specs.declared.State.{State}
use Rattle.consensus.specs.declared.StateAnswer.{StateAnswer}
use Rattle.steps.specs.declared.Asked.{Asked}
use Rattle.steps.specs.declared.Heard.{Heard}

abbrev NoCommit : StateAnswer → Type 0
NoCommit r = r.reply.commit ≡ None

-- a Commit that is not ahead and does not wait is of an older slot
older : (own slot : ℕ) → ltb own slot ≡ false → eqb slot own ≡ false → ltb slot own ≡ true
older own slot a e = let le : slot ≤ own = ltb-false own slot a in let other : slot ≡ own → ⊥ = eqb-false slot own e in lt-ltb slot own (omega arith)

module _ (choose : ProposerChoice) (shard : Shard) (d : Delivery) (lacks : d.said.value_held ≡ false) where
  abbrev state : State
  state = shard.state

  abbrev core : Core
  core = shard.state.rounds.core

  abbrev asked : Asked
  asked = asked_of shard.settings

  abbrev heard : Heard
  heard = heard_of shard.settings d

  processed_none : NoCommit (process_message choose state asked heard d)
  unfolding process_message
  processed_none = ended (processed choose asked heard d.message.msg state.rounds)
    where
      go : (s : Rounds) (messages : SentMessages) (n : Next) (held : Bool) → held ≡ false → NoCommit (finish_at state asked held s messages n)
      go s messages Stays held e = refl
      go s messages Continues held e = refl
      go s messages (Commits v) true e = absurd (not_both refl e)
      go s messages (Commits v) false e = refl

      ended : (r : Result RoundsStep Refusal) → NoCommit (finish state asked d.said.value_held r)
      ended (Ok step) = go step.state step.messages step.next d.said.value_held lacks
      ended (Err why) = refl

  handled_none : (m : ConsensusMsg) → is_ahead core (msg_slot m) ≡ false
      → (is_own_slot core (msg_slot m) && needs_value shard.settings.my_pid m && not d.said.value_held) ≡ false → NoCommit (handle choose state asked heard d m)
  unfolding handle on_commit on_read_request on_read_response
  handled_none (Prepare slot round rv) a w = processed_none
  handled_none (Accept slot round v) a w = processed_none
  handled_none (ForwardRequest v) a w = processed_none
  handled_none (Commit slot v) a w = simp (older core.slot slot a (go (eqb slot core.slot) d.said.value_held lacks w))
    where
      go : (t held : Bool) → held ≡ false → (t && true && not held) ≡ false → t ≡ false
      go false held e f = refl
      go true true e f = absurd (not_both refl e)
      go true false e f = f
  handled_none (ReadRequest id) a w = of-both NoCommit (eqb d.message.src shard.settings.my_pid) refl refl
  handled_none (ReadResponse id next) a w = refl

  -- by what is decided of the message
  abbrev answered : Outcome → StateAnswer
  answered o = state_call choose state (decision_for shard.settings (Receive d) o)

  receive_none : NoCommit (answered (admit shard.settings.process_count shard.settings.my_pid core d))
  unfolding state_call handle_call admit ready value_awaited
  receive_none =
      go (numbers_fit d) (processes_fit shard.settings.process_count d) (is_ahead core (msg_slot d.message.msg)) (other_last_value core d)
      (is_own_slot core (msg_slot d.message.msg) && needs_value shard.settings.my_pid d.message.msg && not d.said.value_held) refl refl
    where
      go : (numbers processes ahead other awaited : Bool) → is_ahead core (msg_slot d.message.msg) ≡ ahead
          → (is_own_slot core (msg_slot d.message.msg) && needs_value shard.settings.my_pid d.message.msg && not d.said.value_held) ≡ awaited
          → NoCommit
          (answered
          (cond numbers
          (cond processes (cond ahead (Err SlotAhead) (cond other (Err OtherLastValue) (cond awaited (Err ValueNotHeld) (Ok tt)))) (Err NoSuchProcess))
          (Err NumberTooLarge)))
      go false processes ahead other awaited a w = refl
      go true false ahead other awaited a w = refl
      go true true true other awaited a w = refl
      go true true false true awaited a w = refl
      go true true false false true a w = refl
      go true true false false false a w = handled_none d.message.msg a w

  pub not_held_not_committed : (call_with choose shard (Receive d)).reply.commit ≡ None
  unfolding call_with decision_of unless_spent admission_of state_call
  not_held_not_committed = go shard.made
    where
      go : (o : Outcome) → NoCommit (answered (unless_unmade o shard.settings.process_count shard.settings.my_pid core (Receive d)))
      go (Ok tt) =
          of-both (λ (o : Outcome). NoCommit (answered o)) (leb 9223372036854775807 core.slot) refl receive_none
      go (Err why) = refl

-- Each call on a shard of the group is the model's call, or is refused, or has no part in the agreement.
-- Assumes nothing.
use Rattle.std.specs.Prelude.{Option, None, Some, Result, Ok, Err, IfOk}
use Rattle.std.proofs.lemmas.Result.{IfOk-weaker}
use Rattle.message.specs.Outcomes.{Outcome}
use Rattle.calls.specs.declared.CommittedSlot.{CommittedSlot}
use mathlib.Core.Path.{◌≡◌, refl, sym, ap, subst, fun_ext, ◌∙◌}
use mathlib.Core.Logic.{◌⊎◌, inl, inr}
use mathlib.Core.Bool.{Bool, true, false, cond, not, ◌&&◌}
use Prim.Native.Nat.{ℕ, ◌≤◌, ◌<◌}
use native.Mathlib.Nat.{lt_of_lt_of_le}
use native.Mathlib.Numerals.{add-one}
use native.Mathlib.Omega.{arith}
use lib.Dec.{eqb, ltb}
use borrow.Author.Tests.{ltb-true, ltb-false, eq-eqb}
use Rattle.basics.proofs.Tests.{of-both, not_both}
use Rattle.message.specs.Messages.{msg_slot}
use Rattle.message.specs.Modes.{has_fast_path, is_multi_paxos, is_swift_paxos}
use Rattle.message.specs.Promises.{value_of, accept_round_of}
use Rattle.message.proofs.NextLeader.{increment_next}
use Rattle.message.specs.declared.ConsensusMessage.{ConsensusMessage}
use Rattle.message.specs.declared.ConsensusMsg.{ConsensusMsg}
use Rattle.message.specs.declared.ConsensusMsg.TheVariants.{Prepare, Accept, ForwardRequest, Commit, ReadRequest, ReadResponse}
use Rattle.message.specs.declared.PFMode.{PFMode}
use Rattle.message.specs.declared.PFMode.TheVariants.{Paxos, MultiPaxos, MultiPaxos3P, EPaxos, Pando, SwiftPaxos}
use Rattle.message.specs.declared.PaxosRound.{PaxosRound}
use Rattle.message.specs.declared.ReadId.{ReadId}
use Rattle.message.specs.declared.Refusal.{Refusal}
use Rattle.message.specs.declared.Refusal.TheVariants.{NumberTooLarge, NoSuchProcess, OtherLastValue, SlotAhead, ValueNotHeld}
use Rattle.message.specs.declared.RoundV.{RoundV}
use Rattle.message.specs.declared.RoundV.TheVariants.{FastV, PaxosV}
use Rattle.round_state.specs.Paxos.{get_last_accepted_round}
use Rattle.fast_state.specs.Adopt.{ProposerChoice}
use Rattle.fast_state.specs.Fast.{answers_of, unchanged, changed, no_answers}
use Rattle.fast_state.specs.declared.FastState.{FastState}
use Rattle.settings.specs.Questions.{delegate_of, starting_round_of, delegate_in}
use Rattle.settings.specs.Settings.{within_limits}
use Rattle.settings.specs.declared.Settings.{Settings}
use Rattle.settings.proofs.Limits.{within_counts, within_members}
use Rattle.paxos_family.specs.Commit.{commit_slot}
use Rattle.read_tracker.specs.declared.Inserted.{Inserted}
use Rattle.classic.specs.accept.Accept.{accepting}
use Rattle.paxos_family.specs.Process.{on_prepare, on_accept, process_classic, on_fast_prepare, on_fast_accept, process_change, process_fast}
use Rattle.propose.specs.Propose.{propose_classic, propose_change, propose_fast}
use Rattle.steps.specs.Steps.{RoundsStep, CoreStep, no_messages, stays, map_step, with_change, on_rounds, change_rounds}
use Rattle.steps.specs.declared.ChangeStep.{ChangeStep}
use Rattle.steps.specs.declared.Core.{Core}
use Rattle.steps.specs.declared.Heard.{Heard}
use Rattle.steps.specs.declared.SentMessages.{SentMessages}
use Rattle.steps.specs.declared.Next.{Next}
use Rattle.steps.specs.declared.Next.TheVariants.{Stays, Continues, Commits}
use Rattle.steps.specs.declared.Rounds.{Rounds}
use Rattle.calls.specs.delivery.Admit.{is_ahead, other_last_value, value_awaited, ready, admit}
use Rattle.consensus.proofs.Decided.{admission, handled, by_decision, settings_kept}
use Rattle.consensus.specs.Answers.{committed, finish_at, finish}
use Rattle.consensus.specs.Call.{in_shard, call_with}
use Rattle.calls.specs.Asked.{gatherer_of, heard_of, gatherer_in}
use Rattle.calls.specs.Decision.{admission_of}
use Rattle.consensus.specs.Handle.{on_commit, on_read_request, on_read_response, after_insert, read_inserted, start_read, proposing, processed, process_message, handle, handle_call}
use Rattle.calls.specs.delivery.Limits.{numbers_fit, processes_fit}
use Rattle.consensus.specs.declared.Answer.{Answer}
use Rattle.calls.specs.declared.Call.{Call}
use Rattle.calls.specs.declared.Call.TheVariants.{Propose, StartRead, Receive}
use Rattle.calls.specs.declared.delivery.Delivery.{Delivery}
use Rattle.consensus.specs.declared.Shard.{Shard}
use Rattle.consensus.specs.declared.State.{State}
use Rattle.consensus.specs.declared.StateAnswer.{StateAnswer}
use Rattle.agreement.proofs.Tests.{by_both}
use Rattle.agreement.specs.Engine.{CallKind, proposes, delivers, reads, Engine, EngineAnswer}
use Rattle.agreement.specs.Model.{View, ModelAnswers, quiet, model_refused, advanced, ModelSetup, ModelOutcome, model_no_answers, model_on_prepare, model_on_accept, model_on_commit, model_on_propose, model_on_message}
use Rattle.agreement.specs.Model as model
use Rattle.agreement.specs.Refinement.{meanings, seen_as_model, AsModel, model_outcome, deliver}
use Rattle.group.specs.Claim.{member_settings, begun, PicksBest, MemberCall, NotSwift}
pub use Rattle.group.specs.Steps.{is_done}
use Rattle.group.proofs.View.{round_number, LeaderIn, LeaderFits, process_number, no_member, meaning_of, meaning_is, proposer_of, is_e_paxos, model_answers_of, envelopes, view_of, Leaders, model_setup_of, SeenAs, Follows}
use Rattle.group.proofs.Preparing.{asked_by, same_steps, on_prepare_follows}
use Rattle.group.proofs.Accepting.{committer_same, on_accept_follows}
use Rattle.group.proofs.Proposing.{propose_follows}
use Rattle.group.proofs.Answering.{FastFits, begins_with, values_begin, FollowsChange, lifted, host_for, host-allows}
use Rattle.group.proofs.FastPath.{fast_prepare_follows, fast_accept_follows, fast_propose_follows}
use Rattle.group.proofs.StepBounds.{MessageFits}
use Rattle.group.proofs.Invariants.{admit_cond, source_below, message_numbers, message_fits, LeadsIn, Lasts, CallLasts, proposed_slot, processed_slot, call_lasts}

-- ---- the group as an engine

abbrev pub kind_of : Call → CallKind ConsensusMessage
kind_of (Propose v) = proposes v
kind_of (StartRead tag arrival) = reads
kind_of (Receive d) = delivers d.message.src d.message

abbrev pub model_decision_of : Option CommittedSlot → model.Decision
model_decision_of None = model.undecided
model_decision_of (Some commit) = model.decided commit.slot commit.v

abbrev pub answer_from : Answer → EngineAnswer Shard ConsensusMessage
answer_from r =
    record {
      shard = r.shard;
      outgoing = envelopes r.reply.messages;
      decision = model_decision_of r.reply.commit;
      taken = is_done r.reply.outcome;
    }

-- a call of a list, with a choice that takes one of the best
pub record ChosenCall : Type 0 where
  pub of_member : MemberCall
  pub choose : ProposerChoice
  pub picks_best : PicksBest choose

abbrev pub engine_of : Settings → Engine
engine_of s =
    record {
      Shard = Shard;
      Message = ConsensusMessage;
      Call = ChosenCall;
      size = s.process_count;
      member = λ c. c.of_member.member;
      kind = λ c. kind_of c.of_member.call;
      answer = λ shard c. answer_from (call_with c.choose shard c.of_member.call);
      initial = begun s;
    }

abbrev pub core_of_shard : Shard → Core
core_of_shard shard = shard.state.rounds.core

-- the fast half as the model sees it: only EPaxos has one there
abbrev pub answers_for : PFMode → FastState → ModelAnswers
answers_for mode fast = cond (is_e_paxos mode) (model_answers_of fast) model_no_answers

abbrev pub view_shard : Shard → View
view_shard shard = view_of (answers_for shard.settings.mode shard.state.rounds.fast) (core_of_shard shard)

abbrev pub seen_answer : Answer → ModelOutcome
seen_answer r = seen_as_model view_shard meaning_of (answer_from r)

-- a shard of member i
abbrev shard_of : Settings → ℕ → Outcome → State → Shard
shard_of s i made state = record { made = made; settings = member_settings s i; state = state }

-- ---- modes

-- a mode is classic, or EPaxos
pub data ModeIs (m : PFMode) : Type 0 where
  is_classic : has_fast_path m ≡ false → is_e_paxos m ≡ false → ModeIs m
  is_fast : has_fast_path m ≡ true → is_e_paxos m ≡ true → is_multi_paxos m ≡ false → ModeIs m

pub mode_is : (m : PFMode) → NotSwift m → ModeIs m
mode_is Paxos c = is_classic refl refl
mode_is MultiPaxos c = is_classic refl refl
mode_is MultiPaxos3P c = is_classic refl refl
mode_is EPaxos c = is_fast refl refl refl
mode_is Pando c = is_classic refl refl
mode_is SwiftPaxos c = absurd c

pub not_swift : (m : PFMode) → NotSwift m → is_swift_paxos m ≡ false
not_swift Paxos c = refl
not_swift MultiPaxos c = refl
not_swift MultiPaxos3P c = refl
not_swift EPaxos c = refl
not_swift Pando c = refl
not_swift SwiftPaxos c = absurd c

pub no_answers_seen : model_answers_of no_answers ≡ model_no_answers
no_answers_seen = λ z. record {
  answered = no_member z;
  preaccepted = 0;
  proposers = no_member z;
  values = fun_ext values_begin z;
  scores = fun_ext (begins_with 2) z;
}

-- after a commit the fast half begins anew
cleared_seen : (m : PFMode) (f : FastState) → answers_for m (cond (has_fast_path m) no_answers f) ≡ model_no_answers
cleared_seen Paxos f = refl
cleared_seen MultiPaxos f = refl
cleared_seen MultiPaxos3P f = refl
cleared_seen EPaxos f = no_answers_seen
cleared_seen Pando f = refl
cleared_seen SwiftPaxos f = refl

pub begins_seen : (m : PFMode) → answers_for m no_answers ≡ model_no_answers
begins_seen m = of-both (λ (a : ModelAnswers). a ≡ model_no_answers) (is_e_paxos m) no_answers_seen refl

-- ---- refusals

pub refuse_as_model : (S : ModelSetup) (i : ℕ) (x : View) (k : CallKind ConsensusMessage) → AsModel meaning_of S i x k (model_refused x)
unfolding model_outcome
refuse_as_model S i x (proposes v) = (record { allows = false; requester = 0; adoptee = 0 }, refl)
refuse_as_model S i x (delivers source c) = inl (record { allows = false; requester = 0; adoptee = 0 }, refl)
refuse_as_model S i x reads = (refl, refl, tt)

-- ---- the end of a call

-- a step on the rounds is the model's
record StepFollows (s : Settings) (step : Result RoundsStep Refusal) (r : ModelOutcome) : Type 0 where
  seen_as : IfOk step (λ x. SeenAs (model_setup_of s) (answers_for s.mode x.state.fast) x.state.core x.messages x.next r)

module _ (s : Settings) (i : ℕ) (made : Outcome) (state : State) where
  -- what is seen of an answer of the member's shard
  abbrev seen_of : StateAnswer → ModelOutcome
  seen_of r = seen_answer (in_shard (shard_of s i made state) r)

  commit_seen : (v : ℕ) (rounds : Rounds) (ms : SentMessages) → rounds.core.slot < 9223372036854775807
      → seen_of (committed state (asked_by s i) v rounds ms)
      ≡ record { view = advanced (model_setup_of s).voters.start (view_of (answers_for s.mode rounds.fast) rounds.core); outgoing = meanings meaning_of (envelopes ms); decision = model.decided rounds.core.slot v; taken = true }
  unfolding committed commit_slot
  commit_seen v rounds ms l = λ z. record {
    view = record {
      slot = (increment_next rounds.core.slot (omega arith) ∙ add-one rounds.core.slot) z;
      round = round_number (starting_round_of s);
      holds = false;
      held_round = 0;
      held_proposer = 0;
      held_value = 0;
      prepared = no_member z;
      accepted = no_member z;
      answers = cleared_seen s.mode rounds.fast z;
    };
    outgoing = meanings meaning_of (envelopes ms);
    decision = model.decided rounds.core.slot v;
    taken = true;
  }

  finish_seen : (held : Bool) (step : Result RoundsStep Refusal) (r : ModelOutcome) → StepFollows s step r → IfOk step (λ x. x.state.core.slot < 9223372036854775807)
      → (seen_of (finish state (asked_by s i) held step) ≡ r) ⊎ (seen_of (finish state (asked_by s i) held step) ≡ model_refused (view_shard (shard_of s i made state)))
  finish_seen held (Err why) r f l = inr refl
  finish_seen held (Ok step) r f l = go step.next held f.seen_as
    where
      go : (n : Next) (held : Bool) → SeenAs (model_setup_of s) (answers_for s.mode step.state.fast) step.state.core step.messages n r
          → (seen_of (finish_at state (asked_by s i) held step.state step.messages n) ≡ r)
          ⊎ (seen_of (finish_at state (asked_by s i) held step.state step.messages n) ≡ model_refused (view_shard (shard_of s i made state)))
      go Stays held e = inl e
      go Continues held e = absurd e
      go (Commits v) true e = inl (commit_seen v step.state step.messages l ∙ e)
      go (Commits v) false e = inr refl

-- ---- what is known of an admitted message

ready_cond : (b : Bool) (o : Outcome) (why : Refusal) → cond b (Err why) o ≡ Ok tt → b ≡ false
ready_cond true o why e = let z : ◌≡◌ {A = Bool} true false = ap is_done (sym e) in absurd (not_both refl z)
ready_cond false o why e = refl

pub record Admitted (n : ℕ) (core : Core) (d : Delivery) : Type 0 where
  pub numbers : numbers_fit d ≡ true
  pub processes : processes_fit n d ≡ true
  pub not_ahead : is_ahead core (msg_slot d.message.msg) ≡ false

admitted_facts : (count own : ℕ) (core : Core) (d : Delivery) → admit count own core d ≡ Ok tt → Admitted count core d
unfolding admit ready
admitted_facts count own core d e =
    let n = admit_cond (numbers_fit d) (cond (processes_fit count d) (ready own core d) (Err NoSuchProcess)) NumberTooLarge e in
    let p = admit_cond (processes_fit count d) (ready own core d) NoSuchProcess n.1 in
    record { numbers = n.0; processes = p.0; not_ahead = ready_cond (is_ahead core (msg_slot d.message.msg)) (cond (other_last_value core d) (Err OtherLastValue) (cond (value_awaited own core d) (Err ValueNotHeld) (Ok tt))) SlotAhead p.1 }

delegate_same : (s : Settings) (i : ℕ) (m : PFMode) (l : ℕ) → delegate_of (member_settings s i) m l ≡ delegate_of s m l
unfolding delegate_in
delegate_same s i Paxos l = refl
delegate_same s i MultiPaxos l = refl
delegate_same s i MultiPaxos3P l = refl
delegate_same s i EPaxos l = refl
delegate_same s i Pando l = refl
delegate_same s i SwiftPaxos l = refl

-- of a shard that was made, the leaders of rounds are below 64
pub leaders_small : (shard : Shard) → Lasts shard → shard.made ≡ Ok tt → Leaders shard.state.rounds.core
leaders_small shard lasts done =
    record {
      in_round_lem = led_fits shard.state.rounds.core.paxos.round lasts.sets_fit.round_led;
      in_held = led_fits (get_last_accepted_round shard.state.rounds.core.paxos.max_rv) lasts.sets_fit.held_led;
    }
  where
    led_fits : (r : Option PaxosRound) → LeaderIn (LeadsIn shard.made) r → LeaderFits r
    led_fits None led = tt
    led_fits (Some r) led = led done

module _ (s : Settings) (i : ℕ) (claimed : NotSwift s.mode) (choose : ProposerChoice) (picks_best : PicksBest choose) (limits : within_limits (member_settings s i) ≡ true) where
  few : s.process_count ≤ 64
  few = (within_counts (member_settings s i) limits).most_processes

  own_small : i < 64
  own_small = lt_of_lt_of_le (within_members (member_settings s i) limits).own_below few

  leader_small : s.first_leader < 64
  leader_small = lt_of_lt_of_le (within_members (member_settings s i) limits).leader_below few

  source_small : (d : Delivery) → processes_fit s.process_count d ≡ true → d.message.src < 64
  source_small d e = lt_of_lt_of_le (ltb-true d.message.src s.process_count (source_below s.process_count d e).0) few

  numbers_small : (core : Core) (d : Delivery) → Admitted s.process_count core d → MessageFits (λ p. p < 64) d.message.msg
  numbers_small core d adm =
      message_fits (λ p. p < 64) s.process_count few (λ p l. lt_of_lt_of_le l few) d.message.msg (message_numbers d adm.numbers) (source_below s.process_count d adm.processes).1

  -- who gathers
  gatherer : (slot : ℕ) (round : PaxosRound) (rv : RoundV) → gatherer_of (member_settings s i) (Prepare slot round rv) ≡ delegate_of s s.mode round.leader
  unfolding gatherer_in
  gatherer slot round (FastV proposer v) =
      ap (λ (t : Bool). cond (t && not (eqb round.leader i)) proposer (delegate_of (member_settings s i) s.mode round.leader)) (not_swift s.mode claimed)
      ∙ delegate_same s i s.mode round.leader
  gatherer slot round (PaxosV at v) = delegate_same s i s.mode round.leader

  accept_gatherer : (slot : ℕ) (round : PaxosRound) (v : ℕ) → gatherer_of (member_settings s i) (Accept slot round v) ≡ delegate_of s s.mode round.leader
  unfolding gatherer_in
  accept_gatherer slot round v = delegate_same s i s.mode round.leader

  slot_of : (core : Core) (slot : ℕ) → ltb core.slot slot ≡ false → slot ≤ core.slot
  slot_of core slot e = ltb-false core.slot slot e

  -- ---- messages

  module _ (made : Outcome) (state : State) (lasts : Lasts (shard_of s i made state)) (done : made ≡ Ok tt) (room : state.rounds.core.slot < 9223372036854775807) where
    abbrev shard : Shard
    shard = shard_of s i made state

    abbrev core : Core
    core = state.rounds.core

    abbrev fast_state : FastState
    fast_state = state.rounds.fast

    ok : Leaders core
    ok = leaders_small shard lasts done

    fits : FastFits fast_state
    fits = lasts.fast_fits

    abbrev as_model : CallKind ConsensusMessage → StateAnswer → Type 0
    as_model k r = AsModel meaning_of (model_setup_of s) i (view_shard shard) k (seen_of s i made state r)

    -- the slot of a step is that of the shard, which has one after it
    has_room : (step : Result RoundsStep Refusal) → IfOk step (λ x. x.state.core.slot ≡ core.slot) → IfOk step (λ x. x.state.core.slot < 9223372036854775807)
    has_room step = IfOk-weaker step _ _ (λ x same. subst (λ (n : ℕ). n < 9223372036854775807) (sym same) room)

    -- a step that is the model's ends as the model's call, or is refused
    deliver_ends : (held : Bool) (source : ℕ) (message : ConsensusMessage) (host : model.Host) (step : Result RoundsStep Refusal)
        → StepFollows s step (model_outcome (model_setup_of s) (view_shard shard) (deliver i source (meaning_of message) host)) → IfOk step (λ x. x.state.core.slot ≡ core.slot)
        → as_model (delivers source message) (finish state (asked_by s i) held step)
    deliver_ends held source message host step f same =
        go (finish_seen s i made state held step (model_outcome (model_setup_of s) (view_shard shard) (deliver i source (meaning_of message) host)) f (has_room step same))
      where
        result : ModelOutcome
        result = seen_of s i made state (finish state (asked_by s i) held step)

        go : (result ≡ model_outcome (model_setup_of s) (view_shard shard) (deliver i source (meaning_of message) host)) ⊎ (result ≡ model_refused (view_shard shard))
            → AsModel meaning_of (model_setup_of s) i (view_shard shard) (delivers source message) result
        go (inl r) = inl (host, r)
        go (inr r) = subst (AsModel meaning_of (model_setup_of s) i (view_shard shard) (delivers source message)) (sym r) (refuse_as_model (model_setup_of s) i (view_shard shard) (delivers source message))

    fast_view : is_e_paxos s.mode ≡ true → (f : FastState) → answers_for s.mode f ≡ model_answers_of f
    fast_view e f = ap (λ (t : Bool). cond t (model_answers_of f) model_no_answers) e

    -- a step of the core alone
    classic_step_lem : (step : Result CoreStep Refusal) (r : ModelOutcome) → Follows (model_setup_of s) (answers_for s.mode fast_state) step r → StepFollows s (map_step (on_rounds fast_state) step) r
    classic_step_lem (Ok step) r f = record { seen_as = f.seen_as }
    classic_step_lem (Err why) r f = record { seen_as = tt }

    -- a step of EPaxos
    fast_step_lem : is_e_paxos s.mode ≡ true → (step : Result ChangeStep Refusal) (r : View → ModelOutcome) → FollowsChange (model_setup_of s) fast_state step (r (view_of (model_answers_of fast_state) core))
        → StepFollows s (map_step (change_rounds fast_state) step) (r (view_shard shard))
    fast_step_lem e (Err why) r f = record { seen_as = tt }
    fast_step_lem e (Ok step) r f =
        record {
          seen_as =
              subst (λ (a : ModelAnswers). SeenAs (model_setup_of s) a step.core step.messages step.next (r (view_shard shard))) (sym (fast_view e (changed step.change fast_state)))
              (subst (λ (a : ModelAnswers). SeenAs (model_setup_of s) (model_answers_of (changed step.change fast_state)) step.core step.messages step.next (r (view_of a core))) (sym (fast_view e fast_state)) f.seen_as);
        }

    -- a step of the classic modes or of EPaxos
    mode_step_lem : (classic : Result CoreStep Refusal) (fast : Result ChangeStep Refusal) (r : View → ModelOutcome)
        → (is_e_paxos s.mode ≡ false → Follows (model_setup_of s) (answers_for s.mode fast_state) classic (r (view_shard shard)))
        → (is_e_paxos s.mode ≡ true → is_multi_paxos s.mode ≡ false → FollowsChange (model_setup_of s) fast_state fast (r (view_of (model_answers_of fast_state) core)))
        → StepFollows s (cond (has_fast_path s.mode) (map_step (change_rounds fast_state) fast) (map_step (on_rounds fast_state) classic)) (r (view_shard shard))
    mode_step_lem classic fast r in_classic in_fast = go (mode_is s.mode claimed)
      where
        FollowsWhere : Bool → Type 0
        FollowsWhere t = StepFollows s (cond t (map_step (change_rounds fast_state) fast) (map_step (on_rounds fast_state) classic)) (r (view_shard shard))

        go : ModeIs s.mode → FollowsWhere (has_fast_path s.mode)
        go (is_classic no-fast no-epaxos) = subst FollowsWhere (sym no-fast) (classic_step_lem classic (r (view_shard shard)) (in_classic no-epaxos))
        go (is_fast has-fast epaxos single) = subst FollowsWhere (sym has-fast) (fast_step_lem epaxos fast r (in_fast epaxos single))

    module _ (d : Delivery) (adm : Admitted s.process_count core d) where
      abbrev h : Heard
      h = heard_of (member_settings s i) d

      same_slot : (m : ConsensusMsg) → d.message.msg ≡ m → IfOk (processed choose (asked_by s i) h m state.rounds) (λ x. x.state.core.slot ≡ core.slot)
      same_slot m e =
          subst (λ (m : ConsensusMsg). IfOk (processed choose (asked_by s i) h m state.rounds) (λ x. x.state.core.slot ≡ core.slot)) e
          (processed_slot choose shard lasts limits room d adm.numbers adm.processes)

      -- the host of an Accept
      abbrev host : model.Host
      host = record { allows = true; requester = process_number d.said.requester; adoptee = 0 }

      not_ahead_of : (m : ConsensusMsg) → d.message.msg ≡ m → is_ahead core (msg_slot m) ≡ false
      not_ahead_of m e = sym (ap (λ (x : ConsensusMsg). is_ahead core (msg_slot x)) e) ∙ adm.not_ahead

      prepare_ok : (slot : ℕ) (round : PaxosRound) (rv : RoundV) → d.message.msg ≡ Prepare slot round rv
          → StepFollows s (processed choose (asked_by s i) h (Prepare slot round rv) state.rounds)
          (model_outcome (model_setup_of s) (view_shard shard)
          (deliver i d.message.src (model.prepare slot (round_number (Some round)) (round_number (accept_round_of rv)) (proposer_of rv) (value_of rv)) (host_for choose s i d.message.src fast_state rv)))
      unfolding processed process_fast process_classic process_change model_outcome model_on_message
      prepare_ok slot round rv e =
          host-allows choose s i d.message.src fast_state rv
          (λ (b : Bool). StepFollows s (processed choose (asked_by s i) h (Prepare slot round rv) state.rounds) (cond b (outcome (view_shard shard)) (model_refused (view_shard shard))))
          (mode_step_lem (on_prepare (asked_by s i) h slot round rv core)
          (on_fast_prepare choose (asked_by s i) h slot round rv core (answers_of fast_state) fast_state.fast_proposer_to_v fast_state.epaxos_proposer_scores fast_state.swift_proposer_scores) outcome
          (λ slow. on_prepare_follows (answers_for s.mode fast_state) s i (not_swift s.mode claimed) slow own_small h (source_small d adm.processes) slot round parts.0.1 rv parts.1 refl delegate_of_lem core ok le
          (host_for choose s i d.message.src fast_state rv))
          (λ epaxos single. fast_prepare_follows choose picks_best s i (not_swift s.mode claimed) epaxos own_small fast_state fits h (source_small d adm.processes) round parts.0.1 slot rv parts.1 parts.2 refl delegate_of_lem core ok le))
        where
          outcome : View → ModelOutcome
          outcome x =
              model_on_prepare (model_setup_of s) i x d.message.src slot (round_number (Some round)) (round_number (accept_round_of rv)) (proposer_of rv) (value_of rv) (host_for choose s i d.message.src fast_state rv)

          parts : MessageFits (λ p. p < 64) (Prepare slot round rv)
          parts = subst (MessageFits (λ p. p < 64)) e (numbers_small core d adm)

          delegate_of_lem : h.delegate ≡ delegate_of s s.mode round.leader
          delegate_of_lem = ap (gatherer_of (member_settings s i)) e ∙ gatherer slot round rv

          le : slot ≤ core.slot
          le = slot_of core slot (not_ahead_of (Prepare slot round rv) e)

      accept_ok : (slot : ℕ) (round : PaxosRound) (v : ℕ) → d.message.msg ≡ Accept slot round v
          → StepFollows s (processed choose (asked_by s i) h (Accept slot round v) state.rounds)
          (model_outcome (model_setup_of s) (view_shard shard) (deliver i d.message.src (model.accept slot (round_number (Some round)) v) host))
      unfolding processed process_fast process_classic process_change model_outcome model_on_message on_accept
      accept_ok slot round v e =
          mode_step_lem (on_accept (asked_by s i) h slot round v core) (on_fast_accept (asked_by s i) h slot round v core (answers_of fast_state) fast_state.swift_proposer_scores)
          (λ x. model_on_accept (model_setup_of s) i x d.message.src slot (round_number (Some round)) v host)
          (λ slow. on_accept_follows (answers_for s.mode fast_state) s i (not_swift s.mode claimed) own_small h (source_small d adm.processes) slot round leader v refl delegate_of_lem (committer_same s i d.said.requester)
          CoreStep (λ t. t) (Follows (model_setup_of s) (answers_for s.mode fast_state)) (same_steps (model_setup_of s) (answers_for s.mode fast_state)) (accepting (asked_by s i) h round v) (λ alive c r f. f) core ok le)
          (λ epaxos single.
          fast_accept_follows choose picks_best s i (not_swift s.mode claimed) epaxos own_small fast_state fits h (source_small d adm.processes) round leader slot v refl delegate_of_lem (committer_same s i d.said.requester) core ok le)
        where
          leader : round.leader < 64
          leader = (subst (MessageFits (λ p. p < 64)) e (numbers_small core d adm)).1

          delegate_of_lem : h.delegate ≡ delegate_of s s.mode round.leader
          delegate_of_lem = ap (gatherer_of (member_settings s i)) e ∙ accept_gatherer slot round v

          le : slot ≤ core.slot
          le = slot_of core slot (not_ahead_of (Accept slot round v) e)

      -- a ForwardRequest does nothing
      forward_ok : (v : ℕ) → StepFollows s (processed choose (asked_by s i) h (ForwardRequest v) state.rounds) (quiet (view_shard shard))
      unfolding processed process_fast process_classic process_change
      forward_ok v =
          mode_step_lem (Ok (stays core no_messages)) (Ok (with_change (unchanged (answers_of fast_state)) (stays core no_messages))) quiet (λ slow. record { seen_as = refl })
          (λ epaxos single. lifted (model_setup_of s) fast_state (Ok (stays core no_messages)) (quiet (view_of (model_answers_of fast_state) core)) (record { seen_as = refl }))

      processed_step : (m : ConsensusMsg) → d.message.msg ≡ m
          → process_message choose state (asked_by s i) h d ≡ finish state (asked_by s i) d.said.value_held (processed choose (asked_by s i) h m state.rounds)
      unfolding process_message
      processed_step m e = ap (λ (m : ConsensusMsg). finish state (asked_by s i) d.said.value_held (processed choose (asked_by s i) h m state.rounds)) e

      -- a message whose step is the model's, with some host, is handled as the model's call
      processed_ok : (m : ConsensusMsg) → d.message.msg ≡ m → (host : model.Host)
          → StepFollows s (processed choose (asked_by s i) h m state.rounds)
          (model_outcome (model_setup_of s) (view_shard shard) (deliver i d.message.src (meaning_of (record { msg = m; src = d.message.src; last_v = d.message.last_v })) host))
          → as_model (kind_of (Receive d)) (process_message choose state (asked_by s i) h d)
      processed_ok m e host f =
          subst (as_model (delivers d.message.src d.message)) (sym (processed_step m e))
          (subst (λ (x : ConsensusMsg). as_model (delivers d.message.src (record { msg = x; src = d.message.src; last_v = d.message.last_v })) (finish state (asked_by s i) d.said.value_held (processed choose (asked_by s i) h m state.rounds))) (sym e)
          (deliver_ends d.said.value_held d.message.src (record { msg = m; src = d.message.src; last_v = d.message.last_v }) host (processed choose (asked_by s i) h m state.rounds) f (same_slot m e)))

      on_prepare_lem : (slot : ℕ) (round : PaxosRound) (rv : RoundV) → d.message.msg ≡ Prepare slot round rv → as_model (kind_of (Receive d)) (process_message choose state (asked_by s i) h d)
      on_prepare_lem slot round rv e = processed_ok (Prepare slot round rv) e (host_for choose s i d.message.src fast_state rv) (prepare_ok slot round rv e)

      on_accept_lem : (slot : ℕ) (round : PaxosRound) (v : ℕ) → d.message.msg ≡ Accept slot round v → as_model (kind_of (Receive d)) (process_message choose state (asked_by s i) h d)
      on_accept_lem slot round v e = processed_ok (Accept slot round v) e host (accept_ok slot round v e)

      on_forward : (v : ℕ) → d.message.msg ≡ ForwardRequest v → as_model (kind_of (Receive d)) (process_message choose state (asked_by s i) h d)
      unfolding model_outcome model_on_message
      on_forward v e = processed_ok (ForwardRequest v) e (record { allows = true; requester = 0; adoptee = 0 }) (forward_ok v)

    on_commit_lem : (source : ℕ) (last : Option ℕ) (slot v : ℕ) → slot ≤ core.slot
        → as_model (delivers source (record { msg = Commit slot v; src = source; last_v = last })) (on_commit state (asked_by s i) slot v)
    unfolding on_commit model_outcome model_on_message model_on_commit
    on_commit_lem source last slot v le =
        inl (
          record { allows = true; requester = 0; adoptee = 0 },
          by_both (λ (r : StateAnswer) (o : ModelOutcome). seen_of s i made state r ≡ o) (ltb slot core.slot) (ltb slot core.slot) refl (λ e. refl)
              (λ e. let ge : core.slot ≤ slot = ltb-false slot core.slot e in
              let same : slot ≡ core.slot = omega arith in
              let q : eqb slot core.slot ≡ true = eq-eqb slot core.slot same in
              commit_seen s i made state v state.rounds no_messages room ∙ simp q),
        )

    on_read_request_lem : (source : ℕ) (message : ConsensusMessage) (id : ReadId) → meaning_of message ≡ model.other
        → as_model (delivers source message) (on_read_request state (asked_by s i) source id)
    unfolding on_read_request
    on_read_request_lem source message id no_part =
        of-both (as_model (delivers source message)) (eqb source i) (inr (no_part, refl, refl, tt)) (inr (no_part, refl, refl, (refl, tt)))

    on_read_response_lem : (source : ℕ) (message : ConsensusMessage) (id : ReadId) (fast : Bool) → meaning_of message ≡ model.other
        → as_model (delivers source message) (on_read_response state (asked_by s i) id fast)
    unfolding on_read_response
    on_read_response_lem source message id fast no_part = inr (no_part, refl, refl, tt)

    message_handled : (d : Delivery) → Admitted s.process_count core d → (m : ConsensusMsg) → d.message.msg ≡ m
        → as_model (kind_of (Receive d)) (handle choose state (asked_by s i) (heard_of (member_settings s i) d) d m)
    unfolding handle
    message_handled d adm (Prepare slot round rv) e = on_prepare_lem d adm slot round rv e
    message_handled d adm (Accept slot round v) e = on_accept_lem d adm slot round v e
    message_handled d adm (ForwardRequest v) e = on_forward d adm v e
    message_handled d adm (Commit slot v) e =
        subst (λ (m : ConsensusMsg). as_model (delivers d.message.src (record { msg = m; src = d.message.src; last_v = d.message.last_v })) (on_commit state (asked_by s i) slot v)) (sym e)
        (on_commit_lem d.message.src d.message.last_v slot v (slot_of core slot (not_ahead_of d adm (Commit slot v) e)))
    message_handled d adm (ReadRequest id) e = on_read_request_lem d.message.src d.message id (meaning_is d.message (ReadRequest id) e)
    message_handled d adm (ReadResponse id next) e = on_read_response_lem d.message.src d.message id d.said.fast (meaning_is d.message (ReadResponse id next) e)

    -- ---- proposals

    propose_ok : (v : ℕ) → StepFollows s (proposing (asked_by s i) v state.rounds) (model_on_propose (model_setup_of s) i (view_shard shard) v)
    unfolding proposing propose_fast
    propose_ok v =
        mode_step_lem (propose_classic (asked_by s i) v core) (propose_change (asked_by s i) v core (answers_of fast_state) fast_state.epaxos_proposer_scores fast_state.swift_proposer_scores)
        (λ x. model_on_propose (model_setup_of s) i x v) (λ slow. propose_follows (answers_for s.mode fast_state) s i (not_swift s.mode claimed) own_small leader_small v core ok slow)
        (λ epaxos single. fast_propose_follows choose picks_best s i (not_swift s.mode claimed) epaxos own_small fast_state fits leader_small v core ok single)

    propose_ends : (v : ℕ) → as_model (proposes v) (finish state (asked_by s i) true (proposing (asked_by s i) v state.rounds))
    unfolding model_outcome
    propose_ends v = go (finish_seen s i made state true (proposing (asked_by s i) v state.rounds) (model_on_propose (model_setup_of s) i (view_shard shard) v) (propose_ok v) (has_room _ (proposed_slot choose shard lasts limits room v)))
      where
        result : ModelOutcome
        result = seen_of s i made state (finish state (asked_by s i) true (proposing (asked_by s i) v state.rounds))

        go : (result ≡ model_on_propose (model_setup_of s) i (view_shard shard) v) ⊎ (result ≡ model_refused (view_shard shard)) → AsModel meaning_of (model_setup_of s) i (view_shard shard) (proposes v) result
        go (inl r) = (record { allows = true; requester = 0; adoptee = 0 }, r)
        go (inr r) = (record { allows = false; requester = 0; adoptee = 0 }, r)

    -- ---- reads

    read_opened : (r : Result Inserted Refusal) → as_model reads (after_insert state (asked_by s i) r)
    read_opened (Err why) = (refl, refl, tt)
    read_opened (Ok ins) = (refl, refl, (refl, tt))

    call_handled : (c : Call) → admission shard c ≡ Ok tt → AsModel meaning_of (model_setup_of s) i (view_shard shard) (kind_of c) (seen_answer (handled choose shard c))
    unfolding admission_of handle_call start_read
    call_handled (Propose v) e = propose_ends v
    call_handled (StartRead tag arrival) e = read_opened (read_inserted state tag arrival)
    call_handled (Receive d) e = message_handled d (admitted_facts s.process_count i core d e) d.message.msg refl

-- ---- every call

-- a shard of member i, and what lasts of it
pub record Valid (s : Settings) (i : ℕ) (shard : Shard) : Type 0 where
  pub own_settings : shard.settings ≡ member_settings s i
  pub lasting : Lasts shard

pub valid_within : (s : Settings) (i : ℕ) (shard : Shard) → Valid s i shard → shard.made ≡ Ok tt → within_limits (member_settings s i) ≡ true
valid_within s i _ valid e = subst (λ (x : Settings). within_limits x ≡ true) valid.own_settings (valid.lasting.made_within e)

-- what is shown of each call on a shard: it is the model's, and the shard stays valid
pub record CallOk (s : Settings) (i : ℕ) (shard : Shard) (k : CallKind ConsensusMessage) (r : Answer) : Type 0 where
  pub as_model_lem : AsModel meaning_of (model_setup_of s) i (view_shard shard) k (seen_answer r)
  pub valid : Valid s i r.shard

member_call : (s : Settings) (i : ℕ) → NotSwift s.mode → (choose : ProposerChoice) → PicksBest choose → (made : Outcome) (state : State) (c : Call) → Lasts (shard_of s i made state)
    → AsModel meaning_of (model_setup_of s) i (view_shard (shard_of s i made state)) (kind_of c) (seen_answer (call_with choose (shard_of s i made state) c))
member_call s i claimed choose picks_best made state c lasts =
    by_decision choose (shard_of s i made state) (λ r. AsModel meaning_of (model_setup_of s) i (view_shard (shard_of s i made state)) (kind_of c) (seen_answer r)) c
    (λ why. refuse_as_model (model_setup_of s) i (view_shard (shard_of s i made state)) (kind_of c))
    (λ done room e. call_handled s i claimed choose picks_best (lasts.made_within done) made state lasts done room c e)

-- Each call is the model's, and the shard stays valid.
pub call_ok : (s : Settings) (i : ℕ) → NotSwift s.mode → (choose : ProposerChoice) → PicksBest choose → (shard : Shard) → Valid s i shard → (c : Call) → CallOk s i shard (kind_of c) (call_with choose shard c)
call_ok s i claimed choose picks_best shard valid c =
    record { as_model_lem = seen_as; valid = record { own_settings = settings_kept choose shard c ∙ valid.own_settings; lasting = left.lasts } }
  where
    left : CallLasts shard (call_with choose shard c)
    left = call_lasts choose shard valid.lasting c

    with_settings : Settings → Shard
    with_settings x = record { made = shard.made; settings = x; state = shard.state }

    seen_as : AsModel meaning_of (model_setup_of s) i (view_shard shard) (kind_of c) (seen_answer (call_with choose shard c))
    seen_as =
        subst (λ (x : Settings). (y : Lasts (with_settings x)) → AsModel meaning_of (model_setup_of s) i (view_shard (with_settings x)) (kind_of c) (seen_answer (call_with choose (with_settings x) c)))
        (sym valid.own_settings)
        (member_call s i claimed choose picks_best shard.made shard.state c)
        valid.lasting

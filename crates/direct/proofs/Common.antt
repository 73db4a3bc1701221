-- What the theorems on the two functions for hosts have in common: the call that is made, the numbers of refusals, the kinds of a message, and what the engine
-- makes of a message of each kind.
-- Assumes nothing.
use Rattle.std.specs.Prelude.{Ok}
use Rattle.message.specs.Outcomes.{Outcome}
use mathlib.Core.Bool.{Bool, true, false}
use mathlib.Core.Logic.{◌⊎◌, inl, inr}
use mathlib.Core.Path.{◌≡◌, refl, ap, ◌∙◌}
use Prim.Native.Nat.{ℕ}
use borrow.Author.Tests.{eqb-true}
use lib.Dec.{eqb}
use Rattle.basics.proofs.Tests.{either}
use Rattle.arrays.specs.Arrays.{settings_of, core_of}
use Rattle.calls.specs.Asked.{asked_of, heard_in, heard_of}
use Rattle.calls.specs.Decision.{unless_unmade}
use Rattle.calls.specs.declared.Call.{Call}
use Rattle.calls.specs.declared.Call.TheVariants.{Receive}
use Rattle.consensus.specs.Answers.{finish}
use Rattle.consensus.specs.Call.{state_call}
use Rattle.consensus.specs.Handle.{on_commit, on_read_request, on_read_response, processed, process_message, handle, handle_call}
use Rattle.consensus.specs.declared.Shard.{Shard}
use Rattle.consensus.specs.declared.State.{State}
use Rattle.consensus.specs.declared.StateAnswer.{StateAnswer}
use Rattle.questions.specs.counted.Counting.{round_in}
use Rattle.calls.specs.declared.delivery.Delivery.{Delivery}
use Rattle.direct.specs.Stands.{Memory, shard_of, call_in}
use Rattle.direct.specs.handlers.Handled.{passed_on}
use Rattle.fast_state.specs.Adopt.{lowest_best}
use Rattle.message.specs.Refusals.{refusal_number}
use Rattle.message.specs.declared.ConsensusMsg.{ConsensusMsg}
use Rattle.message.specs.declared.ConsensusMsg.TheVariants.{Prepare, Accept, ForwardRequest, Commit, ReadRequest, ReadResponse}
use Rattle.message.specs.declared.PaxosRound.{PaxosRound}
use Rattle.message.specs.declared.Refusal.{Refusal}
use Rattle.message.specs.declared.Refusal.TheVariants.{SettingsOutsideLimits, NumberTooLarge, NoSuchProcess, OtherLastValue, SlotAhead, ValueNotHeld, SourceNotLive, Panic, AcceptUnlikeHeld, SecondFastAnswer, ProposalNotAllowed, NoRoomForRead, NotInCalendar}
use Rattle.settings.specs.declared.Settings.{Settings}
use Rattle.steps.specs.declared.Asked.{Asked}
use Rattle.steps.specs.declared.Heard.{Heard}
use Rattle.steps.specs.declared.Core.{Core}
use Rattle.flat.specs.Decode.{is_yes, decoded_core, decoded_delivery, decoded_made, decoded_msg, decoded_promise, decoded_settings, decoded_source}
use Rattle.flat.specs.declared.FlatCall.{FlatCall}

-- ---- the call

pub record CallOn : Type 0 where
  pub decoded : Core
  pub settings : Settings
  pub shard : Shard
  pub called : Call
  -- whether the call is refused before it is handled
  pub outcome : Outcome
  -- the message, if the call is one, with its round, its source, and whether its value is held
  pub delivered : Delivery
  pub msg : ConsensusMsg
  pub round : PaxosRound
  pub source : ℕ
  pub held : Bool
  -- what the handlers ask, and hear of the message
  pub asked : Asked
  pub heard : Heard
  -- what the engine makes of the state where a call is not refused
  pub answered : Call → StateAnswer

abbrev pub call_on : Memory → FlatCall → CallOn
call_on m f =
    record {
      decoded = decoded_core (core_of m.core);
      settings = decoded_settings (settings_of m.setup m.committers m.delegates);
      shard = shard_of m;
      called = call_in m f;
      outcome = unless_unmade (decoded_made m.setup.made m.setup.mode) m.setup.process_count m.setup.my_pid (decoded_core (core_of m.core)) (call_in m f);
      delivered = decoded_delivery m.setup.process_count m.setup.my_pid f;
      msg = decoded_msg f.message;
      round = round_in f.message;
      source = decoded_source m.setup.process_count m.setup.my_pid f.message;
      held = is_yes f.value_held;
      asked = asked_of (decoded_settings (settings_of m.setup m.committers m.delegates));
      heard =
          heard_of (decoded_settings (settings_of m.setup m.committers m.delegates))
          (decoded_delivery m.setup.process_count m.setup.my_pid f);
      answered =
          λ c. state_call lowest_best (shard_of m).state
          (Ok
          (record {
            asked = asked_of (decoded_settings (settings_of m.setup m.committers m.delegates));
            heard = heard_in (decoded_settings (settings_of m.setup m.committers m.delegates)) c;
            call = c;
          }));
    }

-- ---- numbers of refusals

-- no refusal has the number of a call that is passed on
pub not_passed_on : (why : Refusal) → eqb (refusal_number why) passed_on ≡ false
not_passed_on SettingsOutsideLimits = refl
not_passed_on NumberTooLarge = refl
not_passed_on NoSuchProcess = refl
not_passed_on OtherLastValue = refl
not_passed_on SlotAhead = refl
not_passed_on ValueNotHeld = refl
not_passed_on SourceNotLive = refl
not_passed_on Panic = refl
not_passed_on AcceptUnlikeHeld = refl
not_passed_on SecondFastAnswer = refl
not_passed_on ProposalNotAllowed = refl
not_passed_on NoRoomForRead = refl
not_passed_on NotInCalendar = refl

-- ---- kinds of messages

-- a kind that is n is not m
pub other_kind : (kind n m : ℕ) → eqb kind n ≡ true → eqb n m ≡ false → eqb kind m ≡ false
other_kind kind n m e d = ap (λ (x : ℕ). eqb x m) (eqb-true kind n e) ∙ d

-- what holds of a Prepare, an Accept, a ForwardRequest, a Commit, and of whatever else, holds
pub by_kind : (P : Type 0) (kind : ℕ)
    → (eqb kind 1 ≡ true → P)
    → (eqb kind 1 ≡ false → eqb kind 2 ≡ true → P)
    → (eqb kind 1 ≡ false → eqb kind 2 ≡ false → eqb kind 3 ≡ true → P)
    → (eqb kind 1 ≡ false → eqb kind 2 ≡ false → eqb kind 3 ≡ false → eqb kind 4 ≡ true → P)
    → (eqb kind 1 ≡ false → eqb kind 2 ≡ false → eqb kind 3 ≡ false → eqb kind 4 ≡ false → P)
    → P
by_kind P kind prepare accept forward commit other = one (either (eqb kind 1))
  where
    four : eqb kind 1 ≡ false → eqb kind 2 ≡ false → eqb kind 3 ≡ false → (eqb kind 4 ≡ true) ⊎ (eqb kind 4 ≡ false) → P
    four k1 k2 k3 (inl k4) = commit k1 k2 k3 k4
    four k1 k2 k3 (inr k4) = other k1 k2 k3 k4

    three : eqb kind 1 ≡ false → eqb kind 2 ≡ false → (eqb kind 3 ≡ true) ⊎ (eqb kind 3 ≡ false) → P
    three k1 k2 (inl k3) = forward k1 k2 k3
    three k1 k2 (inr k3) = four k1 k2 k3 (either (eqb kind 4))

    two : eqb kind 1 ≡ false → (eqb kind 2 ≡ true) ⊎ (eqb kind 2 ≡ false) → P
    two k1 (inl k2) = accept k1 k2
    two k1 (inr k2) = three k1 k2 (either (eqb kind 3))

    one : (eqb kind 1 ≡ true) ⊎ (eqb kind 1 ≡ false) → P
    one (inl k1) = prepare k1
    one (inr k1) = two k1 (either (eqb kind 2))

-- ---- what the engine makes of a message

-- what the rounds handle
abbrev pub ForRounds : ConsensusMsg → Type 0
ForRounds (Prepare slot round rv) = Unit {0}
ForRounds (Accept slot round v) = Unit {0}
ForRounds (ForwardRequest v) = Unit {0}
ForRounds (Commit slot v) = ⊥
ForRounds (ReadRequest id) = ⊥
ForRounds (ReadResponse id next) = ⊥

by_rounds : (state : State) (a : Asked) (h : Heard) (d : Delivery) (x : ConsensusMsg) → ForRounds x
    → handle lowest_best state a h d x ≡ process_message lowest_best state a h d
unfolding handle
by_rounds state a h d (Prepare slot round rv) t = refl
by_rounds state a h d (Accept slot round v) t = refl
by_rounds state a h d (ForwardRequest v) t = refl
by_rounds state a h d (Commit _ _) t = elim t [ ]
by_rounds state a h d (ReadRequest _) t = elim t [ ]
by_rounds state a h d (ReadResponse _ _) t = elim t [ ]

module _ (m : Memory) (f : FlatCall) where
  open call_on m f use {shard, delivered, msg, round, source, held, asked, heard, answered}

  abbrev kind : ℕ
  kind = f.message.kind

  pub prepare_of_kind : eqb kind 1 ≡ true → msg ≡ Prepare f.message.slot round (decoded_promise f.message.rv)
  unfolding decoded_msg
  prepare_of_kind k1 = simp (k1)

  pub accept_of_kind : eqb kind 1 ≡ false → eqb kind 2 ≡ true → msg ≡ Accept f.message.slot round f.message.v
  unfolding decoded_msg
  accept_of_kind k1 k2 = simp (k1, k2)

  pub forward_of_kind : eqb kind 1 ≡ false → eqb kind 2 ≡ false → eqb kind 3 ≡ true → msg ≡ ForwardRequest f.message.v
  unfolding decoded_msg
  forward_of_kind k1 k2 k3 = simp (k1, k2, k3)

  pub commit_of_kind : eqb kind 1 ≡ false → eqb kind 2 ≡ false → eqb kind 3 ≡ false → eqb kind 4 ≡ true → msg ≡ Commit f.message.slot f.message.v
  unfolding decoded_msg
  commit_of_kind k1 k2 k3 k4 = simp (k1, k2, k3, k4)

  is_response : eqb kind 1 ≡ false → eqb kind 2 ≡ false → eqb kind 3 ≡ false → eqb kind 4 ≡ false → eqb kind 6 ≡ true
      → msg ≡ ReadResponse (record { 0 = f.message.id }) f.message.next_readable_slot
  unfolding decoded_msg
  is_response k1 k2 k3 k4 k6 = simp (k1, k2, k3, k4, k6)

  is_request : eqb kind 1 ≡ false → eqb kind 2 ≡ false → eqb kind 3 ≡ false → eqb kind 4 ≡ false → eqb kind 6 ≡ false
      → msg ≡ ReadRequest (record { 0 = f.message.id })
  unfolding decoded_msg
  is_request k1 k2 k3 k4 k6 = simp (k1, k2, k3, k4, k6)

  -- a call that is a message is handled by what the message is
  received : {x : ConsensusMsg} → msg ≡ x → answered (Receive delivered) ≡ handle lowest_best shard.state asked heard delivered x
  unfolding state_call handle_call
  received e = ap (handle lowest_best shard.state asked heard delivered) e

  pub rounds_handle : {x : ConsensusMsg} → msg ≡ x → ForRounds x
      → answered (Receive delivered) ≡ finish shard.state asked held (processed lowest_best asked heard x shard.state.rounds)
  unfolding process_message
  rounds_handle {x} e t =
      received e ∙ by_rounds shard.state asked heard delivered x t
      ∙ ap (λ (y : ConsensusMsg). finish shard.state asked held (processed lowest_best asked heard y shard.state.rounds)) e

  pub commit_handled : msg ≡ Commit f.message.slot f.message.v → answered (Receive delivered) ≡ on_commit shard.state asked f.message.slot f.message.v
  unfolding handle
  commit_handled e = received e

  pub request_handled : eqb kind 1 ≡ false → eqb kind 2 ≡ false → eqb kind 3 ≡ false → eqb kind 4 ≡ false → eqb kind 6 ≡ false
      → answered (Receive delivered) ≡ on_read_request shard.state asked source (record { 0 = f.message.id })
  unfolding handle
  request_handled k1 k2 k3 k4 k6 = received (is_request k1 k2 k3 k4 k6)

  pub response_handled : eqb kind 1 ≡ false → eqb kind 2 ≡ false → eqb kind 3 ≡ false → eqb kind 4 ≡ false → eqb kind 6 ≡ true
      → answered (Receive delivered) ≡ on_read_response shard.state asked (record { 0 = f.message.id }) (is_yes f.fast)
  unfolding handle
  response_handled k1 k2 k3 k4 k6 = received (is_response k1 k2 k3 k4 k6)

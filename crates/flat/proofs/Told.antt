-- What the engine writes of a reply is read as what it handed back: so the kinds of destinations and of messages that it writes are those that the header names.
-- Assumes nothing.
use Rattle.std.specs.Prelude.{Option, None, Some, Ok, Err}
use mathlib.Core.Path.{◌≡◌, refl, sym, ap, ap₂, ◌∙◌}
use mathlib.Core.Bool.{true, false}
use Prim.Native.Nat.{ℕ}
use lib.Dec.{eqb}
use Rattle.message.specs.Outcomes.{Outcome}
use Rattle.message.specs.Refusals.{refusal_number}
use Rattle.message.specs.declared.ConsensusMessage.{ConsensusMessage}
use Rattle.message.specs.declared.ConsensusMsg.{ConsensusMsg}
use Rattle.message.specs.declared.ConsensusMsg.TheVariants.{Prepare, Accept, ForwardRequest, Commit, ReadRequest, ReadResponse}
use Rattle.message.specs.declared.Refusal.{Refusal}
use Rattle.message.specs.declared.Refusal.TheVariants.{SettingsOutsideLimits, NumberTooLarge, NoSuchProcess, OtherLastValue, SlotAhead, ValueNotHeld, SourceNotLive, Panic, AcceptUnlikeHeld, SecondFastAnswer, ProposalNotAllowed, NoRoomForRead, NotInCalendar}
use Rattle.steps.specs.declared.Destination.{Destination}
use Rattle.steps.specs.declared.Destination.TheVariants.{One, All}
use Rattle.steps.specs.declared.Outgoing.{Outgoing}
use Rattle.calls.specs.Commits.{committed_slot}
use Rattle.calls.specs.declared.CommittedSlot.{CommittedSlot}
use Rattle.flat.specs.Encode.{encoded_outcome, encoded_msg, encoded_message, encoded_to, encoded_outgoing, encoded_commit}
use Rattle.flat.specs.Decode.{is_known, decoded_source, decoded_message}
use Rattle.flat.specs.Told.{refusal_by_number, decoded_outcome, sent_message, decoded_outgoing, decoded_commit}
use Rattle.flat.specs.declared.FlatMessage.{FlatMessage}
use Rattle.flat.proofs.Encoded.{yes_encoded, value_encoded, message_encoded}

-- ---- the outcome

-- no refusal has the number 0
pub never_zero : (why : Refusal) → eqb (refusal_number why) 0 ≡ false
never_zero SettingsOutsideLimits = refl
never_zero NumberTooLarge = refl
never_zero NoSuchProcess = refl
never_zero OtherLastValue = refl
never_zero SlotAhead = refl
never_zero ValueNotHeld = refl
never_zero SourceNotLive = refl
never_zero Panic = refl
never_zero AcceptUnlikeHeld = refl
never_zero SecondFastAnswer = refl
never_zero ProposalNotAllowed = refl
never_zero NoRoomForRead = refl
never_zero NotInCalendar = refl

pub refusal_read : (why : Refusal) → refusal_by_number (refusal_number why) ≡ why
unfolding refusal_by_number
refusal_read SettingsOutsideLimits = refl
refusal_read NumberTooLarge = refl
refusal_read NoSuchProcess = refl
refusal_read OtherLastValue = refl
refusal_read SlotAhead = refl
refusal_read ValueNotHeld = refl
refusal_read SourceNotLive = refl
refusal_read Panic = refl
refusal_read AcceptUnlikeHeld = refl
refusal_read SecondFastAnswer = refl
refusal_read ProposalNotAllowed = refl
refusal_read NoRoomForRead = refl
refusal_read NotInCalendar = refl

pub outcome_read : (o : Outcome) → decoded_outcome (encoded_outcome o) ≡ o
unfolding decoded_outcome encoded_outcome
outcome_read (Ok tt) = refl
outcome_read (Err why) = simp (never_zero why, refusal_read why)

-- ---- messages

-- the message that a host reads is the one that a member reads to which it is handed in
pub read_at_both : (count own : ℕ) (f : FlatMessage) → is_known f.kind ≡ true → decoded_message count own f ≡ sent_message f
unfolding decoded_source
read_at_both count own f known = simp known

-- every message that is sent has a kind from 1 to 6
pub kind_is_known : (msg : ConsensusMsg) → is_known (encoded_msg msg).kind ≡ true
unfolding encoded_msg
kind_is_known (Prepare slot round rv) = refl
kind_is_known (Accept slot round v) = refl
kind_is_known (ForwardRequest v) = refl
kind_is_known (Commit slot v) = refl
kind_is_known (ReadRequest id) = refl
kind_is_known (ReadResponse id next) = refl

message_read : (m : ConsensusMessage) → sent_message (encoded_message m) ≡ m
message_read m = sym (read_at_both 0 0 (encoded_message m) (kind_is_known m.msg)) ∙ message_encoded 0 0 m

sent_read : (d : Destination) (m : ConsensusMessage) → decoded_outgoing (encoded_to d (encoded_message m)) ≡ Some (record { destination = d; message = m })
unfolding decoded_outgoing encoded_to
sent_read (One p) m = ap (λ (x : ConsensusMessage). Some (record { destination = One p; message = x })) (message_read m)
sent_read (All first) m =
    ap₂ (λ (o : Option ℕ) (x : ConsensusMessage). Some (record { destination = All o; message = x })) (value_encoded first) (message_read m)

-- a message that is sent, or none
pub outgoing_read : (o : Option Outgoing) → decoded_outgoing (encoded_outgoing o) ≡ o
unfolding decoded_outgoing encoded_outgoing
outgoing_read None = refl
outgoing_read (Some o) = sent_read o.destination o.message

-- ---- the commit

pub commit_read : (c : Option CommittedSlot) → decoded_commit (encoded_commit c) ≡ c
unfolding decoded_commit encoded_commit
commit_read None = refl
commit_read (Some c) = ap (committed_slot c.slot c.v) (yes_encoded c.fast)

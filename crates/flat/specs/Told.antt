-- What a host reads in the flat forms of a reply, by the header alone (crates/host/include/chanbook_shard.h) and the numbers of document 01's table. Nothing
-- here says how the engine writes them: that it is read as what was handed back are laws (proofs/Told.antt). A message is read here as it is where it is
-- handed in (Decode.antt), since the header has one struct for both.
-- Assumes nothing.
use Rattle.std.specs.Prelude.{cond, ℕ, eqb, Option, None, Some, Ok, Err}
use Rattle.message.specs.Outcomes.{Outcome}
use Rattle.message.specs.declared.ConsensusMessage.{ConsensusMessage}
use Rattle.message.specs.declared.Refusal.{Refusal}
use Rattle.message.specs.declared.Refusal.TheVariants.{SettingsOutsideLimits, NumberTooLarge, NoSuchProcess, OtherLastValue, SlotAhead, ValueNotHeld, SourceNotLive, Panic, AcceptUnlikeHeld, SecondFastAnswer, ProposalNotAllowed, NoRoomForRead, NotInCalendar}
use Rattle.steps.specs.declared.Destination.{Destination}
use Rattle.steps.specs.declared.Destination.TheVariants.{One, All}
use Rattle.steps.specs.declared.Outgoing.{Outgoing}
use Rattle.calls.specs.Commits.{committed_slot}
use Rattle.calls.specs.declared.CommittedSlot.{CommittedSlot}
use Rattle.flat.specs.Decode.{is_yes, decoded_option, decoded_msg}
use Rattle.flat.specs.declared.FlatCommit.{FlatCommit}
use Rattle.flat.specs.declared.FlatMessage.{FlatMessage}
use Rattle.flat.specs.declared.FlatOutgoing.{FlatOutgoing}

-- the refusal of a number other than 0. The last line is that of 17, and of every number that no call gives
unfoldable pub refusal_by_number : ℕ → Refusal
refusal_by_number n =
    cond (eqb n 1) SettingsOutsideLimits
    (cond (eqb n 2) NumberTooLarge
    (cond (eqb n 3) NoSuchProcess
    (cond (eqb n 4) OtherLastValue
    (cond (eqb n 5) SlotAhead
    (cond (eqb n 6) ValueNotHeld
    (cond (eqb n 7) SourceNotLive
    (cond (eqb n 8) Panic
    (cond (eqb n 9) AcceptUnlikeHeld
    (cond (eqb n 10) SecondFastAnswer
    (cond (eqb n 11) ProposalNotAllowed
    (cond (eqb n 12) NoRoomForRead
    NotInCalendar)))))))))))

-- "0, or the refusal's number"
unfoldable pub decoded_outcome : ℕ → Outcome
decoded_outcome n = cond (eqb n 0) (Ok tt) (Err (refusal_by_number n))

-- ---- messages

-- the message, with its source and its last value
abbrev pub sent_message : FlatMessage → ConsensusMessage
sent_message f = record { msg = decoded_msg f; src = f.src; last_v = decoded_option f.last_v }

abbrev pub outgoing_to : Destination → FlatOutgoing → Option Outgoing
outgoing_to destination f = Some (record { destination = destination; message = sent_message f.message })

-- "To the process `to`, or to every other process, with the one that is served first": CHANBOOK_TO_ONE is 1 and CHANBOOK_TO_ALL 2. CHANBOOK_NO_MESSAGE is 0,
-- and a host sends nothing for a kind that the header does not name.
unfoldable pub decoded_outgoing : FlatOutgoing → Option Outgoing
decoded_outgoing f =
    cond (eqb f.kind 1) (outgoing_to (One f.to) f) (cond (eqb f.kind 2) (outgoing_to (All (decoded_option f.first)) f) None)

-- ---- the commit

unfoldable pub decoded_commit : FlatCommit → Option CommittedSlot
decoded_commit f = cond (eqb f.given 0) None (committed_slot f.slot f.v (is_yes f.fast))

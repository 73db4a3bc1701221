-- How long a reply is.
-- Assumes nothing.
use Rattle.std.specs.Prelude.{Option, None, Ok, Err, Some}
use Rattle.message.specs.Outcomes.{Outcome}
use Rattle.calls.specs.declared.CommittedSlot.{CommittedSlot}
use mathlib.Core.List.{List}
use Prim.Native.Nat.{◌≤◌}
use native.Mathlib.Omega.{arith}
use lib.ListN.{length, length-append}
use Rattle.message.specs.Refusals.{refusal_number}
use Rattle.message.specs.declared.Refusal.{Refusal}
use Rattle.message.specs.declared.Refusal.TheVariants.{SettingsOutsideLimits, NumberTooLarge, NoSuchProcess, OtherLastValue, SlotAhead, ValueNotHeld, SourceNotLive, Panic, AcceptUnlikeHeld, SecondFastAnswer, ProposalNotAllowed, NoRoomForRead, NotInCalendar}
use Rattle.read_tracker.specs.declared.ServedRead.{ServedRead}
use Rattle.calls.specs.declared.Reply.{Reply}
use Rattle.texts.specs.Text.{field, each, fields}
use Rattle.lines_written.specs.replies.Reply.{outcome_text, commit_text, served_text, reply_text}
use Rattle.texts.proofs.Lengths.{number, short, flag, places_length}
use Rattle.lines_written.proofs.messages.Lengths.{messages}

refusal_short : (why : Refusal) → length (field (refusal_number why)) ≤ 3
refusal_short SettingsOutsideLimits = short 1 (omega arith)
refusal_short NumberTooLarge = short 2 (omega arith)
refusal_short NoSuchProcess = short 3 (omega arith)
refusal_short OtherLastValue = short 4 (omega arith)
refusal_short SlotAhead = short 5 (omega arith)
refusal_short ValueNotHeld = short 6 (omega arith)
refusal_short SourceNotLive = short 7 (omega arith)
refusal_short Panic = short 8 (omega arith)
refusal_short AcceptUnlikeHeld = short 9 (omega arith)
refusal_short SecondFastAnswer = short 10 (omega arith)
refusal_short ProposalNotAllowed = short 11 (omega arith)
refusal_short NoRoomForRead = short 12 (omega arith)
refusal_short NotInCalendar = short 17 (omega arith)

outcome : (o : Outcome) → length (outcome_text o) ≤ 10
unfolding outcome_text fields each
outcome (Ok tt) = omega arith
outcome (Err why) = simp length-append (omega (arith, refusal_short why))

commit : (c : Option CommittedSlot) → length (commit_text c) ≤ 53
unfolding commit_text fields each
commit None = omega arith
commit (Some c) = simp length-append (omega (arith, number c.slot, number c.v, flag c.fast))

served : (r : ServedRead) → length (served_text r) ≤ 74
unfolding served_text fields each
served r = simp length-append (omega (arith, number r.id.0, number r.tag, number r.waited_for, flag r.fast))

pub reply : (r : Reply) (table : List ServedRead) → length (reply_text r table) ≤ 10114
unfolding reply_text
reply r table =
    simp length-append
    (omega (arith, outcome r.outcome, messages r.messages, commit r.commit, places_length served_text 74 served table r.served_count))

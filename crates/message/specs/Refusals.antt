-- The refusals and their numbers (document 01, the table of "Message and answer"; document 02, E8).
-- Assumes nothing.
use Rattle.std.specs.Prelude.{ℕ}
use Rattle.message.specs.declared.Refusal.{Refusal}
use Rattle.message.specs.declared.Refusal.TheVariants.{SettingsOutsideLimits, NumberTooLarge, NoSuchProcess, OtherLastValue, SlotAhead, ValueNotHeld, SourceNotLive, Panic, AcceptUnlikeHeld, SecondFastAnswer, ProposalNotAllowed, NoRoomForRead, NotInCalendar}

abbrev pub refusal_number : Refusal → ℕ
-- settings outside the limits
refusal_number SettingsOutsideLimits = 1
-- slot above 2^63−2, or other number above 2^63−1; own slot spent
refusal_number NumberTooLarge = 2
-- process number not below the count
refusal_number NoSuchProcess = 3
-- own slot, last value given and different
refusal_number OtherLastValue = 4
-- slot ahead of own
refusal_number SlotAhead = 5
-- value not held, and the call waits for it or would commit it
refusal_number ValueNotHeld = 6
-- source not a live replica (not SwiftPaxos)
refusal_number SourceNotLive = 7
-- a panic of the Rust that no other row names
refusal_number Panic = 8
-- accept unlike the held one, or self accept after a counted accept
refusal_number AcceptUnlikeHeld = 9
-- second fast answer from another process
refusal_number SecondFastAnswer = 10
-- proposal: not `can_propose`, round not starting, a promise held already, MultiPaxos by another than the leader, or another assertion of
-- `propose`
refusal_number ProposalNotAllowed = 11
-- 128 reads open, or ids spent
refusal_number NoRoomForRead = 12
-- "17, a date that the calendar or those years lack, a time outside the day, or a window whose end is not after its start, checked when settings are made"
refusal_number NotInCalendar = 17

-- What the contract of `chanbook_fast_call` says, and which of the two functions for hosts makes a call.
-- Assumes nothing.
use Rattle.std.specs.Prelude.{true, false, ◌≡◌, ℕ}
use Rattle.arrays.specs.declared.FastArrays.{FastArrays}
use Rattle.arrays.specs.declared.Setup.{Setup}
use Rattle.direct.specs.Direct.{ArraysAfter, fast_half_acts}
use Rattle.direct.specs.Stands.{Memory, HostAnswer, left_by, unwritten, CallIsMade, by_direct}
use Rattle.direct.specs.handlers.Handled.{passed_on}
use Rattle.direct.specs.declared.handlers.ReplyInArrays.{ReplyInArrays}
use Rattle.direct_fast.specs.DirectFast.{fast_call}
use Rattle.message.specs.Modes.{has_fast_path, mode_of_number}
use Rattle.flat.specs.declared.FlatCall.{FlatCall}

-- where the fast half has a part in the call, it is made; where it has none, the number is `passed_on` and nothing is written
abbrev pub MadeOrDeclined : Memory → FlatCall → ReplyInArrays → HostAnswer → Type 0
MadeOrDeclined m f w x = (fast_half_acts m.setup f ≡ true → CallIsMade m f w x) × (fast_half_acts m.setup f ≡ false → x ≡ unwritten m w passed_on)

-- as the contract says it
unfoldable pub FastStands : Memory → FlatCall → ReplyInArrays → HostAnswer → Type 0
FastStands m f w x = MadeOrDeclined m f w x

abbrev pub fast_left : Memory → FlatCall → ReplyInArrays → ArraysAfter ℕ FastArrays
fast_left m f w = fast_call m.setup m.committers m.delegates m.core m.fast m.table f w

abbrev pub by_fast : Memory → FlatCall → ReplyInArrays → HostAnswer
by_fast m f w = left_by m (fast_left m f w).half (fast_left m f w)

-- where the fast half has a part in the call, `chanbook_fast_call` makes it; where it has none, `chanbook_direct_call` makes it, and `chanbook_fast_call`
-- declines it if it is asked first
abbrev pub OneOfBoth : Type 0
OneOfBoth =
    (m : Memory) (f : FlatCall) (w : ReplyInArrays)
    → (fast_half_acts m.setup f ≡ true → CallIsMade m f w (by_fast m f w))
    × (fast_half_acts m.setup f ≡ false → (by_fast m f w ≡ unwritten m w passed_on) × CallIsMade m f w (by_direct m f w))

-- where `chanbook_fast_call` gives `passed_on` the fast half has no part in the call
abbrev pub DeclinedIsDirect : Type 0
DeclinedIsDirect = (m : Memory) (f : FlatCall) (w : ReplyInArrays) → (by_fast m f w).number ≡ passed_on → fast_half_acts m.setup f ≡ false

-- in the classic modes the fast half has no part in any call: a host goes to `chanbook_direct_call` at once
abbrev pub ClassicIsDirect : Type 0
ClassicIsDirect = (s : Setup) (f : FlatCall) → has_fast_path (mode_of_number s.mode) ≡ false → fast_half_acts s f ≡ false

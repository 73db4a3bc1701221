-- Document 02's numbers for the refusals of an entry (E6).
-- Assumes nothing.
use Rattle.std.specs.Prelude.{ℕ, Result, Ok, Err}
use Rattle.register.specs.declared.EntryRefusal.{EntryRefusal}
use Rattle.register.specs.declared.EntryRefusal.TheVariants.{NumberTooLarge, NotAssignable, NoRoomForCell, CellNotLive}
use Rattle.register.specs.declared.Entered.{Entered}
use Rattle.register.specs.declared.Entered.TheVariants.{Done, Older}

abbrev pub entry_refusal_number : EntryRefusal → ℕ
-- slot above 2^63−2
entry_refusal_number NumberTooLarge = 2
-- no raster number, or a width outside its limits
entry_refusal_number NotAssignable = 14
-- a new cell with 512 live
entry_refusal_number NoRoomForCell = 15
-- release of a cell that is not live
entry_refusal_number CellNotLive = 16

-- document 02's number for what became of an entry, by the numbers of the refusals. Where it gives none the number is ours: 0, the entry was done;
-- 64, its slot is "not after the last one seen"
abbrev pub outcome_number : {E : Type 0} → (E → ℕ) → Result Entered E → ℕ
outcome_number number (Ok Done) = 0
outcome_number number (Ok Older) = 64
outcome_number number (Err why) = number why

abbrev pub entry_number : Result Entered EntryRefusal → ℕ
entry_number outcome = outcome_number entry_refusal_number outcome

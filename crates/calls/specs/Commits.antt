-- The commit that a call hands back: the slot, the value and the fast mark (document 01, "Message and answer").
-- Assumes nothing.
use Rattle.std.specs.Prelude.{Bool, ℕ, Option, Some}
use Rattle.calls.specs.declared.CommittedSlot.{CommittedSlot}

abbrev pub committed_slot : ℕ → ℕ → Bool → Option CommittedSlot
committed_slot slot v fast = Some (record { slot = slot; v = v; fast = fast })

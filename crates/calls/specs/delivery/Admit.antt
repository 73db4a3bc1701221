-- What is decided of a message before it is handled: the first part of document 01's Order line, "2, 3, then 5, or 4 before 6" (the Rust's
-- ready_to_process).
-- Assumes nothing.
use Rattle.std.specs.Prelude.{Bool, true, false, cond, not, ◌&&◌, ℕ, eqb, ltb, Option, None, Some, Ok, Err}
use Rattle.message.specs.Outcomes.{Outcome}
use Rattle.message.specs.Messages.{msg_slot}
use Rattle.message.specs.Promises.{same_value}
use Rattle.message.specs.declared.ConsensusMsg.{ConsensusMsg}
use Rattle.message.specs.declared.ConsensusMsg.TheVariants.{Prepare, Accept, ForwardRequest, Commit, ReadRequest, ReadResponse}
use Rattle.message.specs.declared.Refusal.TheVariants.{NumberTooLarge, NoSuchProcess, OtherLastValue, SlotAhead, ValueNotHeld}
use Rattle.steps.specs.declared.Core.{Core}
use Rattle.calls.specs.delivery.Limits.{numbers_fit, processes_fit}
use Rattle.calls.specs.declared.delivery.Delivery.{Delivery}

abbrev pub is_ahead : Core → Option ℕ → Bool
is_ahead core None = false
is_ahead core (Some slot) = ltb core.slot slot

abbrev pub is_own_slot : Core → Option ℕ → Bool
is_own_slot core None = false
is_own_slot core (Some slot) = eqb slot core.slot

-- the last value is given and is not the own one: `msg.last_v.is_none() || msg.last_v == self.last_v`
abbrev pub is_other_last : Core → Option ℕ → Bool
is_other_last core None = false
is_other_last core (Some v) = not (same_value (Some v) core.last_v)

-- the messages that wait for their value: Commit, and Prepare or Accept of a round that oneself leads
abbrev pub needs_value : ℕ → ConsensusMsg → Bool
needs_value own (Prepare slot round rv) = eqb round.leader own
needs_value own (Accept slot round v) = eqb round.leader own
needs_value own (ForwardRequest v) = false
needs_value own (Commit slot v) = true
needs_value own (ReadRequest id) = false
needs_value own (ReadResponse id next) = false

-- 4: own slot, last value given and different
unfoldable pub other_last_value : Core → Delivery → Bool
other_last_value core d = is_own_slot core (msg_slot d.message.msg) && is_other_last core d.message.last_v

-- 6, first form: own slot, and the value is awaited
unfoldable pub value_awaited : ℕ → Core → Delivery → Bool
value_awaited own core d =
    is_own_slot core (msg_slot d.message.msg) && needs_value own d.message.msg && not d.said.value_held

-- 5, or 4 before 6
unfoldable pub ready : ℕ → Core → Delivery → Outcome
ready own core d =
    cond (is_ahead core (msg_slot d.message.msg)) (Err SlotAhead)
    (cond (other_last_value core d) (Err OtherLastValue) (cond (value_awaited own core d) (Err ValueNotHeld) (Ok tt)))

-- of a member with the number own in a group of so many processes
unfoldable pub admit : ℕ → ℕ → Core → Delivery → Outcome
admit count own core d =
    cond (numbers_fit d) (cond (processes_fit count d) (ready own core d) (Err NoSuchProcess)) (Err NumberTooLarge)

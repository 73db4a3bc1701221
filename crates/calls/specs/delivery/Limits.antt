-- Refusals 2 and 3 of a message with what the host adds to it (document 01, the table of "Message and answer").
-- Assumes nothing.
use Rattle.std.specs.Prelude.{Bool, ◌&&◌, ℕ, ltb}
pub use Rattle.message.specs.limits.Limits.{is_number, is_slot}
unfoldable pub use Rattle.message.specs.limits.Limits.{round_numbers, rv_numbers, msg_numbers, number_given, rv_processes, msg_processes, requester_below}
use Rattle.calls.specs.declared.delivery.Delivery.{Delivery}

-- every number of the message, its source and its last value, and of both requesters
unfoldable pub numbers_fit : Delivery → Bool
numbers_fit d =
    msg_numbers d.message.msg && is_number d.message.src && number_given d.message.last_v && number_given d.said.requester
    && number_given d.held_requester

-- source, leader of the round, leader of the accept round, proposer, both requesters
unfoldable pub processes_fit : ℕ → Delivery → Bool
processes_fit n d =
    ltb d.message.src n && msg_processes n d.message.msg && requester_below n d.said.requester && requester_below n d.held_requester

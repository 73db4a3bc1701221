-- The slot that a message names (ConsensusMessage::get_slot of the Rust's consensus/message.rs).
-- Assumes nothing.
use Rattle.std.specs.Prelude.{ℕ, Option, None, Some}
use Rattle.message.specs.declared.ConsensusMsg.{ConsensusMsg}
use Rattle.message.specs.declared.ConsensusMsg.TheVariants.{Prepare, Accept, ForwardRequest, Commit, ReadRequest, ReadResponse}

-- get_slot: a ReadResponse names the next slot that its sender can read
abbrev pub msg_slot : ConsensusMsg → Option ℕ
msg_slot (Prepare slot round rv) = Some slot
msg_slot (Accept slot round v) = Some slot
msg_slot (ForwardRequest v) = None
msg_slot (Commit slot v) = Some slot
msg_slot (ReadRequest id) = None
msg_slot (ReadResponse id next) = Some next

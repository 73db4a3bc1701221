-- How long the messages are.
-- Assumes nothing.
use Rattle.std.specs.Prelude.{Option, None, Some}
use Rattle.steps.specs.declared.Outgoing.{Outgoing}
use mathlib.Core.List.{[], ◌∷◌}
use Prim.Native.Nat.{◌≤◌}
use native.Mathlib.Omega.{arith}
use lib.ListN.{length, length-append}
use Rattle.message.specs.declared.ConsensusMsg.{ConsensusMsg}
use Rattle.message.specs.declared.ConsensusMsg.TheVariants.{Prepare, Accept, ForwardRequest, Commit, ReadRequest, ReadResponse}
use Rattle.steps.specs.declared.Destination.{Destination}
use Rattle.steps.specs.declared.Destination.TheVariants.{One, All}
use Rattle.steps.specs.declared.SentMessages.{SentMessages}
use Rattle.texts.specs.Text.{ascii}
use Rattle.lines_written.specs.messages.Messages.{message_text, destination_text, outgoing_text, optional_message_text, messages_text}
use Rattle.texts.proofs.Lengths.{number, fields_length}
use Rattle.lines_written.proofs.promises.Lengths.{value, promise}

message : (m : ConsensusMsg) → length (message_text m) ≤ 140
unfolding message_text
message (Prepare slot r rv) =
    simp length-append (omega (arith, fields_length (ascii " prepare") (slot ∷ r.round_group ∷ r.leader ∷ []), promise rv))
message (Accept slot r v) = omega (arith, fields_length (ascii " accept") (slot ∷ r.round_group ∷ r.leader ∷ v ∷ []))
message (ForwardRequest v) = omega (arith, fields_length (ascii " forward") (v ∷ []))
message (Commit slot v) = omega (arith, fields_length (ascii " commit") (slot ∷ v ∷ []))
message (ReadRequest id) = omega (arith, fields_length (ascii " read_request") (id.0 ∷ []))
message (ReadResponse id slot) = omega (arith, fields_length (ascii " read_response") (id.0 ∷ slot ∷ []))

destination : (d : Destination) → length (destination_text d) ≤ 25
unfolding destination_text
destination (One p) = simp length-append (omega (arith, number p))
destination (All first) = simp length-append (omega (arith, value first))

optional_message : (m : Option Outgoing) → length (optional_message_text m) ≤ 193
unfolding optional_message_text outgoing_text
optional_message None = omega arith
optional_message (Some o) =
    simp length-append (omega (arith, destination o.destination, value o.message.last_v, message o.message.msg))

pub messages : (m : SentMessages) → length (messages_text m) ≤ 579
unfolding messages_text
messages m = simp length-append (omega (arith, optional_message m.first, optional_message m.second, optional_message m.third))

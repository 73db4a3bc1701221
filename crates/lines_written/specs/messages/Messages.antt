-- The messages of a reply (docs/ORACLE.md, "Answer lines", 2). Each text begins with a space, or with the bar that joins two parts.
-- Assumes nothing.
use Rattle.std.specs.Prelude.{List, [], ◌∷◌, ◌++◌, ℕ, Option, None, Some}
use Rattle.message.specs.declared.ConsensusMsg.{ConsensusMsg}
use Rattle.message.specs.declared.ConsensusMsg.TheVariants.{Prepare, Accept, ForwardRequest, Commit, ReadRequest, ReadResponse}
use Rattle.steps.specs.declared.Destination.{Destination}
use Rattle.steps.specs.declared.Destination.TheVariants.{One, All}
use Rattle.steps.specs.declared.SentMessages.{SentMessages}
use Rattle.steps.specs.declared.Outgoing.{Outgoing}
use Rattle.texts.specs.Text.{ascii, field, fields}
use Rattle.lines_written.specs.promises.Promises.{optional_value_text, promise_text}

-- MESSAGE
unfoldable pub message_text : ConsensusMsg → List ℕ
message_text (Prepare slot round rv) = fields (ascii " prepare") (slot ∷ round.round_group ∷ round.leader ∷ []) ++ promise_text rv
message_text (Accept slot round v) = fields (ascii " accept") (slot ∷ round.round_group ∷ round.leader ∷ v ∷ [])
message_text (ForwardRequest v) = fields (ascii " forward") (v ∷ [])
message_text (Commit slot v) = fields (ascii " commit") (slot ∷ v ∷ [])
message_text (ReadRequest id) = fields (ascii " read_request") (id.0 ∷ [])
message_text (ReadResponse id slot) = fields (ascii " read_response") (id.0 ∷ slot ∷ [])

-- `DEST FIRST`: FIRST, which may be none, is written as a value is
unfoldable pub destination_text : Destination → List ℕ
destination_text (One process) = field process ++ ascii " -"
destination_text (All first) = ascii " all" ++ optional_value_text first

-- `send DEST FIRST LAST MESSAGE`
unfoldable pub outgoing_text : Outgoing → List ℕ
outgoing_text o = ascii " | send" ++ destination_text o.destination ++ optional_value_text o.message.last_v ++ message_text o.message.msg

unfoldable pub optional_message_text : Option Outgoing → List ℕ
optional_message_text None = []
optional_message_text (Some o) = outgoing_text o

unfoldable pub messages_text : SentMessages → List ℕ
messages_text m = optional_message_text m.first ++ optional_message_text m.second ++ optional_message_text m.third

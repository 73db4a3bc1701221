-- A reply (docs/ORACLE.md, "Answer lines", 1 to 4). Each text begins with a space, or with the bar that joins two parts, but for that of the
-- outcome, which is the first of the line.
-- Assumes nothing.
use Rattle.std.specs.Prelude.{List, [], ◌∷◌, ◌++◌, ℕ, Option, None, Ok, Err, Some}
use Rattle.message.specs.Outcomes.{Outcome}
use Rattle.calls.specs.declared.CommittedSlot.{CommittedSlot}
use Rattle.message.specs.Refusals.{refusal_number}
use Rattle.read_tracker.specs.declared.ServedRead.{ServedRead}
use Rattle.calls.specs.declared.Reply.{Reply}
use Rattle.texts.specs.Text.{ascii, fields, flag_number, first_places}
use Rattle.lines_written.specs.messages.Messages.{messages_text}

unfoldable pub outcome_text : Outcome → List ℕ
outcome_text (Ok tt) = ascii "done"
outcome_text (Err why) = fields (ascii "refused") (refusal_number why ∷ [])

-- `commit slot v FAST`
unfoldable pub commit_text : Option CommittedSlot → List ℕ
commit_text None = []
commit_text (Some c) = fields (ascii " | commit") (c.slot ∷ c.v ∷ flag_number c.fast ∷ [])

-- `served id tag waited_for FAST`
unfoldable pub served_text : ServedRead → List ℕ
served_text r = fields (ascii " | served") (r.id.0 ∷ r.tag ∷ r.waited_for ∷ flag_number r.fast ∷ [])

-- 1 to 4
unfoldable pub reply_text : Reply → List ServedRead → List ℕ
reply_text r served = outcome_text r.outcome ++ messages_text r.messages ++ commit_text r.commit ++ first_places served_text served r.served_count

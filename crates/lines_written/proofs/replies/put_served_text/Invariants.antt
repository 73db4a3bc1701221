-- `lines_written::replies::put_served_text` meets its contract: after so many turns so many reads are put.
-- Assumes nothing.
use Rattle.lines_written.specs.replies.Reply.{served_text}
use Rattle.texts.proofs.Putting.{PutSoFar}
use Rattle.lines_written.proofs.replies.put_served_text.Given as goal

abbrev pub invariant-loop-read : goal.invariant-loop-read
invariant-loop-read l = PutSoFar served_text l.reads l.read-index l.out l.initial.out

-- `texts::Output::put_fields` meets its contract: after so many turns the word and so many numbers are put.
-- Assumes nothing.
use Rattle.texts.specs.Text.{field}
use Rattle.texts.proofs.Putting.{PutSoFar}
use Rattle.texts.proofs.Output.put_fields.Given as goal

abbrev pub invariant-loop-n : goal.invariant-loop-n
invariant-loop-n l = PutSoFar field l.numbers l.n-index l.self l.initial.self

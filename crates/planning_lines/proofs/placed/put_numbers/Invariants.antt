-- `planning_lines::placed::put_numbers` meets its contract: after so many turns so many numbers are put.
-- Assumes nothing.
use Rattle.texts.specs.Text.{field}
use Rattle.texts.proofs.Putting.{PutSoFar}
use Rattle.planning_lines.proofs.placed.put_numbers.Given as goal

abbrev pub invariant-loop-n : goal.invariant-loop-n
invariant-loop-n l = PutSoFar field l.numbers l.n-index l.out l.initial.out

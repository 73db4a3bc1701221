-- `planning_lines::placed::put_cells` meets its contract: after so many turns so many live cells are put.
-- Assumes nothing.
use Rattle.texts.proofs.Putting.{PutSoFar}
use Rattle.reach.specs.Cells.{cells_of}
use Rattle.planning_lines.specs.placed.Answers.{cell_text}
use Rattle.planning_lines.proofs.placed.put_cells.Given as goal

abbrev pub invariant-loop-i : goal.invariant-loop-i
invariant-loop-i l = PutSoFar cell_text (cells_of l.placed) l.i l.out l.initial.out

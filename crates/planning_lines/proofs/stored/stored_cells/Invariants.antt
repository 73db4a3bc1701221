-- `planning_lines::stored::stored_cells` meets its contract: the first i cells are read.
-- Assumes nothing.
use mathlib.Core.Path.{◌≡◌}
use Rattle.basics.specs.elements.Places.{at_front}
use Rattle.planning_lines.specs.stored.Lines.{stored_cells, empty_cells}
use Rattle.planning_lines.proofs.stored.stored_cells.Given as goal

abbrev pub invariant-loop-i : goal.invariant-loop-i
invariant-loop-i l = l.cells ≡ at_front (stored_cells l.numbers l.i) empty_cells

-- `reach::list_cells` meets its contract: the numbers of the first i cells that are in conflict.
-- Assumes nothing.
use Rattle.reach.specs.Reach.{clashes}
use Rattle.reach.proofs.Lists.{PickedSoFar}
use Rattle.reach.proofs.list_cells.Given as goal

abbrev pub invariant-loop-i : goal.invariant-loop-i
invariant-loop-i g l = PickedSoFar (clashes l.question l.khz) (λ c. c.number) (g.C.PlacedCells.cells l.cells) l.initial.numbers l.numbers l.count l.i

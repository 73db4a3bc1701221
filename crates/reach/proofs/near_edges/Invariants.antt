-- `reach::near_edges` meets its contract: the edges of the near ones of the first i cells.
-- Assumes nothing.
use Rattle.reach.specs.Reach.{is_near}
use Rattle.reach.specs.Search.{edges_of}
use Rattle.reach.proofs.Lists.{PickedSoFar}
use Rattle.reach.proofs.near_edges.Given as goal

abbrev pub invariant-loop-i : goal.invariant-loop-i
invariant-loop-i g l =
    PickedSoFar (λ c. is_near l.question c.position) (edges_of l.question.width) (g.C.PlacedCells.cells l.cells) l.initial.edges l.edges l.count l.i

-- `reach::in_the_way` meets its contract: the first ones do not contain the centre.
-- Assumes nothing.
use mathlib.Core.Path.{◌≡◌}
use lib.ListN.{drop}
use Rattle.reach.specs.Search.{in_the_way}
use Rattle.reach.proofs.in_the_way.Given as goal

abbrev pub invariant-loop-cell : goal.invariant-loop-cell
invariant-loop-cell l = in_the_way l.centre l.edges ≡ in_the_way l.centre (drop l.cell-index l.edges)

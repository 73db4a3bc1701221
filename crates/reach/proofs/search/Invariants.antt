-- `reach::search` meets its contract: `number` is reached, and what is below it is in the way; the measure is how many numbers are left to the last.
-- Assumes nothing.
use Prim.Native.Nat.{◌+◌, ◌-◌}
use Rattle.reach.proofs.Ways.{SearchedTo}
use Rattle.reach.proofs.search.Given as goal

abbrev pub invariant-loop-number : goal.invariant-loop-number
invariant-loop-number l = SearchedTo l.edges l.first l.last l.number

abbrev pub decreases-loop-number : goal.decreases-loop-number
decreases-loop-number l = l.last + 1 - l.number

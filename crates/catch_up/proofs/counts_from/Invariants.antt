-- `catch_up::counts_from` meets its contract: all slots before i are in their order.
-- Assumes nothing.
use Rattle.std.proofs.Common.{◌≡◌, ◌&&◌, ◌+◌, drop}
use Rattle.catch_up.specs.Joining.{counts_from}
use Rattle.catch_up.proofs.counts_from.Given as goal

abbrev pub invariant-loop-i : goal.invariant-loop-i
invariant-loop-i l = (l.all && counts_from (l.first + l.i) (drop l.i l.slots)) ≡ counts_from l.first l.slots

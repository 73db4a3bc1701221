-- `planning_lines::lists::put_join` meets its contract: a join is no longer than the places.
-- Tried without: with `using(joined_count)` on the function the search gives up at one of its limits.
-- Assumes nothing.
use Rattle.std.proofs.Common.{arith}
use Rattle.planning_lines.proofs.lists.JoinsRead.{joined_count}
use Rattle.planning_lines.proofs.lists.put_join.Goals as goal

pub put_joined-requires : goal.put_joined-requires
put_joined-requires c = let few = joined_count c.args.asked.now _ _ _ _ _ c.join_kept-joined.ensures in (omega arith, omega arith)

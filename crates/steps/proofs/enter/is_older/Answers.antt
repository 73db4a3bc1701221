-- `steps::enter::is_older` meets its contract.
-- Tried without, as `||` and as `if`: the search gives up where the slot is not older; it needs `le-ltb`, which no `using` names.
-- Assumes nothing.
use borrow.Author.Tests.{le-ltb}
use Rattle.message.proofs.Comparisons.{rounds_before}
use Rattle.steps.specs.enter.Enter.{is_older}
use Rattle.steps.proofs.enter.is_older.Goals as goal

pub returns-else-slot-core : goal.returns-else-slot-core
unfolding is_older
returns-else-slot-core c = simp (le-ltb _ _ c.if-slot-core.false, c.lt.ensures, rounds_before)

-- `read_tracker::serving::find` meets its contract: none of the first i reads has the id.
-- Assumes nothing.
use Rattle.read_tracker.proofs.serving.Responses.{NoReadBefore}
use Rattle.read_tracker.proofs.serving.find.Given as goal

abbrev pub invariant-loop-i : goal.invariant-loop-i
invariant-loop-i g l = NoReadBefore l.id (g.O.OpenReads.reads l.open) l.i

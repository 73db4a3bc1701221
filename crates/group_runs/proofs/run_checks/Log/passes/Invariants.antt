-- `group_runs::run_checks::Log::passes` meets its contract: the events before place i have passed.
-- Assumes nothing.
use Rattle.std.proofs.Common.{◌≡◌, true}
use Rattle.group_runs.specs.run_checks.Log.{passes}
use Rattle.group_runs.proofs.run_checks.Log.passes.Given as goal

abbrev pub invariant-loop-i : goal.invariant-loop-i
invariant-loop-i l = passes l.events l.i ≡ true

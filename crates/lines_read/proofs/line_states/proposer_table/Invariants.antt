-- `lines_read::line_states::proposer_table` meets its contract: after i turns the first i are there.
-- Assumes nothing.
use mathlib.Core.Path.{◌≡◌}
use Rattle.lines_read.specs.line_states.States.{proposers_to}
use Rattle.lines_read.proofs.line_states.proposer_table.Given as goal

abbrev pub invariant-loop-i : goal.invariant-loop-i
invariant-loop-i l = l.table ≡ proposers_to l.numbers l.which l.i

-- `lines_read::line_states::reads_at` meets its contract: after i turns the first i are there.
-- Assumes nothing.
use mathlib.Core.Path.{◌≡◌}
use Rattle.lines_read.specs.line_states.States.{reads_to}
use Rattle.lines_read.proofs.line_states.reads_at.Given as goal

abbrev pub invariant-loop-i : goal.invariant-loop-i
invariant-loop-i l = l.reads ≡ reads_to l.numbers l.at l.i

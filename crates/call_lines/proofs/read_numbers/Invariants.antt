-- `call_lines::read_numbers` meets its contract: after so many turns so many bytes are read.
-- Assumes nothing.
use mathlib.Core.Path.{◌≡◌}
use Rattle.call_lines.specs.Reading.{scan_to, numbers_to}
use Rattle.call_lines.proofs.read_numbers.Given as goal

abbrev pub invariant-loop-b : goal.invariant-loop-b
invariant-loop-b l = (l.scan ≡ scan_to l.line l.b-index) × (l.numbers ≡ numbers_to l.line l.initial.numbers l.b-index)

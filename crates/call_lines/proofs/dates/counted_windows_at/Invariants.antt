-- `call_lines::dates::counted_windows_at` meets its contract: the first i windows are read.
-- Assumes nothing.
use mathlib.Core.Path.{◌≡◌}
use Prim.Native.Nat.{◌+◌}
use Rattle.basics.specs.elements.Places.{at_front}
use Rattle.call_lines.specs.dates.Numbers.{windows_to}
use Rattle.call_lines.proofs.dates.counted_windows_at.Given as goal

abbrev pub invariant-loop-i : goal.invariant-loop-i
invariant-loop-i l = l.places ≡ at_front (windows_to l.numbers (l.at + 1) l.i) l.initial.places

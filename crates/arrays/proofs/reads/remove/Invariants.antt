-- `arrays::reads::remove` meets its contract: before the read at place i is moved, those before it stand without the one at `at`.
-- Assumes nothing.
use mathlib.Core.Path.{◌≡◌}
use lib.ListN.{take}
use Rattle.basics.specs.elements.Places.{at_front, without}
use Rattle.arrays.specs.reads.Rows.{open_rows}
use Rattle.arrays.proofs.reads.remove.Given as goal

abbrev pub invariant-loop-i : goal.invariant-loop-i
invariant-loop-i l = open_rows l.«open» ≡ at_front (without l.at (take l.i (open_rows l.initial.«open»))) (open_rows l.initial.«open»)

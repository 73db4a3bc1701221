-- `register::find` meets its contract: the first i numbers are lower.
-- Assumes nothing.
use Rattle.register.proofs.Places.{PassedPlaces}
use Rattle.register.proofs.find.Given as goal

abbrev pub invariant-loop-i : goal.invariant-loop-i
invariant-loop-i g l = PassedPlaces g.T.Numbered.number_of l.number l.list l.i

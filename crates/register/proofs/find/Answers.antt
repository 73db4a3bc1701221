-- `register::find` meets its contract.
-- Tried without, with the four lemmas named on the function: `returns-else-here-number-2-clause-found` (above the number) and `loop-i-preserved` stay open.
-- Assumes nothing.
use native.Mathlib.Omega.{arith}
use Rattle.register.proofs.Places.{search_found, search_above, search_more, search_none}
use Rattle.register.proofs.find.Goals as goal

pub returns-then-here-number-2-clause-found : goal.returns-then-here-number-2-clause-found
returns-then-here-number-2-clause-found g c =
    search_found _ _ _ _ _ _ c.index-list-i.is c.number-here.ensures c.loop-i-test.true c.loop-i.invariant c.if-here-number.true c.if-here-number-2.true

pub returns-else-here-number-2-clause-found : goal.returns-else-here-number-2-clause-found
returns-else-here-number-2-clause-found g c =
    search_above _ _ _ _ _ _ c.index-list-i.is c.number-here.ensures c.loop-i-test.true c.loop-i.invariant c.if-here-number.true c.if-here-number-2.false

pub loop-i-preserved : goal.loop-i-preserved
loop-i-preserved g c =
    search_more _ _ _ _ _ _ c.index-list-i.is c.number-here.ensures c.loop-i-test.true c.loop-i.invariant c.if-here-number.false

pub returns-clause-found : goal.returns-clause-found
returns-clause-found g c = search_none _ _ _ c.loop-i.i (omega arith) (omega arith) c.loop-i.invariant

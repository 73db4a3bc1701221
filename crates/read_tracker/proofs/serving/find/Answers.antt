-- `read_tracker::serving::find` meets its contract. Tried without, with `search_found` named on the function too: this goal stays open.
-- Assumes nothing.
use borrow.Author.Tests.{eq-eqb}
use Rattle.read_tracker.proofs.serving.Responses.{search_found}
use Rattle.read_tracker.proofs.serving.find.Goals as goal

pub returns-then-get-id : goal.returns-then-get-id
returns-then-get-id g c = search_found _ _ _ _ c.requires c.loop-i.invariant _ c.get.ensures (eq-eqb _ _ c.if-get-id.true) c.loop-i-test.true

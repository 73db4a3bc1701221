-- `direct::of_older_round` meets its contract.
-- Tried without: with `using(rounds_before)` on the function the goal stays open.
-- Assumes nothing.
use Rattle.message.proofs.Comparisons.{rounds_before}
use Rattle.direct.specs.Direct.{of_older_round}
use Rattle.direct.proofs.of_older_round.Goals as goal
use borrow.Author.Tests.{ne_eqb}

pub returns-then-m-ne-COMMIT : goal.returns-then-m-ne-COMMIT
unfolding of_older_round
returns-then-m-ne-COMMIT c = simp (c.lt.ensures, ne_eqb _ _ c.if-m-ne-COMMIT.true, ← c.round_in.ensures, ← c.decoded_round.ensures, rounds_before)

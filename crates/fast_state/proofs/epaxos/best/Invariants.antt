-- `fast_state::epaxos::best` meets its contract: after p turns the best of the proposers below p is known.
-- Assumes nothing.
use Rattle.std.proofs.Common.{◌≡◌}
use Rattle.fast_state.specs.Adopt.{best_below, score_in}
use Rattle.fast_state.proofs.epaxos.best.Given as goal

abbrev pub invariant-loop-p : goal.invariant-loop-p
invariant-loop-p l = l.best ≡ best_below l.proposers (score_in l.entry l.scores) l.p

-- `propose::proposal::round_allowed` meets its contract.
-- Tried without, as `||` and as `if`: the goal of the other modes stays open, which needs the equation of `proposal_round` turned round.
-- Assumes nothing.
use Rattle.message.proofs.Comparisons.{rounds_equal}
use Rattle.propose.proofs.proposal.round_allowed.Goals as goal

pub returns-then-is_multi_paxos : goal.returns-then-is_multi_paxos
returns-then-is_multi_paxos c = simp (← c.is_multi_paxos.ensures, c.if-is_multi_paxos.true, c.eq.ensures, rounds_equal, ← c.proposal_round.ensures)

-- The round of a proposal is one of the proposer's own rounds, as *Paxos Made Simple* asks, in every mode but SwiftPaxos. There it is a round of the
-- first leader, and two proposers may propose in one round.
-- Assumes nothing.
use mathlib.Core.Path.{◌≡◌, ap, ◌∙◌}
use mathlib.Core.Bool.{Bool, true, false, cond}
use borrow.Author.Tests.{eq-eqb}
use Rattle.message.specs.Modes.{is_swift_paxos}
use Rattle.message.specs.Rounds.{unwrap_or_default}
use Rattle.message.proofs.NextLeader.{next_leader_own}
use Rattle.message.proofs.Order.{own_round}
use Rattle.propose.specs.proposal.Proposal.{electing, proposal_round}
use Rattle.steps.specs.declared.Asked.{Asked}
use Rattle.steps.specs.declared.Core.{Core}

pub proposal_own : (a : Asked) (core : Core) → is_swift_paxos a.mode ≡ false → own_round a.member.my_pid (proposal_round a core) ≡ true
unfolding electing
proposal_own a core e =
    eq-eqb (proposal_round a core).leader a.member.my_pid
    (next_leader_own (unwrap_or_default core.paxos.round) (electing a)
    ∙ ap (λ (t : Bool). cond t a.first_leader a.member.my_pid) e)

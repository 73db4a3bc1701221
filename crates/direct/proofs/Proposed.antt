-- A proposal in a classic mode commits nothing.
-- Assumes nothing.
use Rattle.std.specs.Prelude.{None, Some, Result, Ok, Err, IfOk}
use Prim.Native.Nat.{ℕ}
use Rattle.basics.proofs.Tests.{of-both}
use Rattle.message.specs.Modes.{is_multi_paxos}
use Rattle.message.specs.declared.ConsensusMsg.TheVariants.{Prepare, Accept}
use Rattle.message.specs.declared.PaxosRound.{PaxosRound}
use Rattle.message.specs.declared.Refusal.{Refusal}
use Rattle.message.specs.declared.RoundV.{RoundV}
use Rattle.message.specs.declared.RoundV.TheVariants.{PaxosV}
use Rattle.propose.specs.proposal.Proposal.{may_propose, proposal_round}
use Rattle.propose.specs.Propose.{broadcast_own, propose_prepare, after_own_promise, propose_accept, propose_classic}
use Rattle.round_state.specs.Paxos.{goto_round, paxos_propose_v, self_accept}
use Rattle.round_state.specs.declared.PaxosState.{PaxosState}
use Rattle.steps.specs.declared.Asked.{Asked}
use Rattle.steps.specs.declared.Core.{Core}
use Rattle.steps.specs.Steps.{CoreStep}
use Rattle.steps.specs.declared.Next.{Next}
use Rattle.steps.specs.declared.Next.TheVariants.{Stays, Continues, Commits}

-- ---- a proposal commits nothing

abbrev pub Uncommitted : Next → Type 0
Uncommitted Stays = Unit {0}
Uncommitted Continues = Unit {0}
Uncommitted (Commits v) = ⊥

abbrev pub UncommittedBy : Result CoreStep Refusal → Type 0
UncommittedBy step = IfOk step (λ s. Uncommitted s.next)

module _ (a : Asked) where
  by_prepare : (round : PaxosRound) (rv : RoundV) (core : Core) → UncommittedBy (propose_prepare a round rv core)
  unfolding propose_prepare
  by_prepare round rv core = go (paxos_propose_v a.member rv (goto_round (Some round) core.paxos))
    where
      go : (promised : Result PaxosState Refusal) → UncommittedBy (broadcast_own a (Prepare core.slot round rv) core promised)
      go (Ok p) = tt
      go (Err why) = tt

  by_accept : (round : PaxosRound) (v : ℕ) (core : Core) → UncommittedBy (propose_accept a round v core)
  unfolding propose_accept
  by_accept round v core = go (paxos_propose_v a.member (PaxosV None v) (goto_round (Some round) core.paxos))
    where
      then : (accepted : Result PaxosState Refusal) → UncommittedBy (broadcast_own a (Accept core.slot round v) core accepted)
      then (Ok p) = tt
      then (Err why) = tt

      go : (promised : Result PaxosState Refusal) → UncommittedBy (after_own_promise a round v core promised)
      go (Ok p) = then (self_accept a.member round p)
      go (Err why) = tt

  pub proposal_uncommitted : (v : ℕ) (core : Core) → UncommittedBy (propose_classic a v core)
  unfolding propose_classic
  proposal_uncommitted v core =
      of-both UncommittedBy (may_propose a core)
      (of-both UncommittedBy (is_multi_paxos a.mode) (by_accept (proposal_round a core) v core) (by_prepare (proposal_round a core) (PaxosV None v) core))
      tt

-- propose of the Rust's paxos_family.rs. Every assertion that it meets is refusal 11, decided before any change.
-- Assumes nothing.
use Rattle.std.specs.Prelude.{Bool, false, cond, ◌&&◌, List, ℕ, eqb, None, Some, Ok, Err, Result}
use Rattle.message.specs.declared.Refusal.{Refusal}
use Rattle.message.specs.Modes.{is_multi_paxos, is_swift_paxos}
use Rattle.message.specs.declared.ConsensusMsg.{ConsensusMsg}
use Rattle.message.specs.declared.ConsensusMsg.TheVariants.{Prepare, Accept}
use Rattle.message.specs.declared.PaxosRound.{PaxosRound}
use Rattle.message.specs.declared.RoundV.{RoundV}
use Rattle.message.specs.declared.RoundV.TheVariants.{FastV, PaxosV}
use Rattle.round_state.specs.Paxos.{goto_round, paxos_propose_v, self_accept}
use Rattle.round_state.specs.declared.PaxosState.{PaxosState}
use Rattle.fast_state.specs.Fast.{answers_of, unchanged, epaxos_propose_v, swift_propose_v}
use Rattle.fast_state.specs.declared.FastAnswers.{FastAnswers}
use Rattle.fast_state.specs.declared.FastChange.{FastChange}
pub use Rattle.propose.specs.proposal.Proposal.{not_allowed, proposal_round}
unfoldable pub use Rattle.propose.specs.proposal.Proposal.{electing, may_propose}
use Rattle.steps.specs.Steps.{RoundsStep, CoreStep, one_message, sends, to_all, with_paxos, stays, map_step, with_change, change_rounds}
use Rattle.steps.specs.declared.Asked.{Asked}
use Rattle.steps.specs.declared.ChangeStep.{ChangeStep}
use Rattle.steps.specs.declared.Core.{Core}
use Rattle.steps.specs.declared.Rounds.{Rounds}

-- broadcast: where the own promise or the own accept is taken, the message of the proposal goes to all
abbrev pub broadcast_own : Asked → ConsensusMsg → Core → Result PaxosState Refusal → Result CoreStep Refusal
broadcast_own a msg core (Ok p) = Ok (stays (with_paxos p core) (one_message (sends a core to_all msg)))
broadcast_own a msg core (Err why) = Err not_allowed

-- goto_round, paxos_propose_v, and the Prepare of the value
unfoldable pub propose_prepare : Asked → PaxosRound → RoundV → Core → Result CoreStep Refusal
propose_prepare a round rv core =
    broadcast_own a (Prepare core.slot round rv) core (paxos_propose_v a.member rv (goto_round (Some round) core.paxos))

-- paxos_propose_v was taken: self_accept, and the Accept of the value
abbrev pub after_own_promise : Asked → PaxosRound → ℕ → Core → Result PaxosState Refusal → Result CoreStep Refusal
after_own_promise a round v core (Ok p) = broadcast_own a (Accept core.slot round v) core (self_accept a.member round p)
after_own_promise a round v core (Err why) = Err not_allowed

-- goto_round, paxos_propose_v, self_accept, and the Accept of the value: a leader from the start needs no other promise than its own
unfoldable pub propose_accept : Asked → PaxosRound → ℕ → Core → Result CoreStep Refusal
propose_accept a round v core =
    after_own_promise a round v core (paxos_propose_v a.member (PaxosV None v) (goto_round (Some round) core.paxos))

-- the classic modes
unfoldable pub propose_classic : Asked → ℕ → Core → Result CoreStep Refusal
propose_classic a v core =
    cond (may_propose a core)
    (cond (is_multi_paxos a.mode) (propose_accept a (proposal_round a core) v core) (propose_prepare a (proposal_round a core) (PaxosV None v) core))
    (Err not_allowed)

-- EPaxos and SwiftPaxos: the fast half answers the own proposal first, in epaxos_propose_v or swift_propose_v
abbrev pub after_own_answer : Asked → PaxosRound → ℕ → Core → Result FastChange Refusal → Result ChangeStep Refusal
after_own_answer a round v core (Ok change) = map_step (with_change change) (propose_prepare a round (FastV a.member.my_pid v) core)
after_own_answer a round v core (Err why) = Err not_allowed

-- epaxos_propose_v or swift_propose_v, by the scores of the mode; swift_propose_v's last argument is false: a leader does not come here, it
-- proposes in an Accept (leads_from_start)
unfoldable pub own_answer : Asked → ℕ → FastAnswers → List ℕ → List ℕ → Result FastChange Refusal
own_answer a v answers epaxos_scores swift_scores =
    cond (is_swift_paxos a.mode) (swift_propose_v a.member v a.quorum false answers swift_scores) (epaxos_propose_v a.member v answers epaxos_scores)

-- `SwiftPaxos && electing == self.my_pid`: it accepts at once
unfoldable pub leads_from_start : Asked → Bool
leads_from_start a = is_swift_paxos a.mode && eqb (electing a) a.member.my_pid

-- EPaxos and SwiftPaxos, with the scores of each
unfoldable pub propose_change : Asked → ℕ → Core → FastAnswers → List ℕ → List ℕ → Result ChangeStep Refusal
propose_change a v core answers epaxos_scores swift_scores =
    cond (may_propose a core)
    (cond (leads_from_start a) (map_step (with_change (unchanged answers)) (propose_accept a (proposal_round a core) v core))
    (after_own_answer a (proposal_round a core) v core (own_answer a v answers epaxos_scores swift_scores)))
    (Err not_allowed)

-- the same with the change made to the fast half
unfoldable pub propose_fast : Asked → ℕ → Rounds → Result RoundsStep Refusal
propose_fast a v s =
    map_step (change_rounds s.fast)
    (propose_change a v s.core (answers_of s.fast) s.fast.epaxos_proposer_scores s.fast.swift_proposer_scores)

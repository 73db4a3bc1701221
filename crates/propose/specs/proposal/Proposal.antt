-- Who may propose, and in which round: the first part of the Rust's propose. Every assertion that it meets is refusal 11.
-- Assumes nothing.
use Rattle.std.specs.Prelude.{Bool, false, cond, not, ◌&&◌, ◌||◌, ℕ, Some, is_some}
use Rattle.message.specs.Modes.{is_multi_paxos, is_swift_paxos}
use Rattle.message.specs.Rounds.{equal, next_leader_round, unwrap_or_default}
use Rattle.message.specs.declared.PaxosRound.{PaxosRound}
use Rattle.message.specs.declared.Refusal.{Refusal}
use Rattle.message.specs.declared.Refusal.TheVariants.{ProposalNotAllowed}
use Rattle.steps.specs.enter.Enter.{can_propose}
use Rattle.steps.specs.declared.Asked.{Asked}
use Rattle.steps.specs.declared.Core.{Core}

-- what every failed assertion of the Rust's propose is here
abbrev pub not_allowed : Refusal
not_allowed = ProposalNotAllowed

-- `electing`: in SwiftPaxos the first leader, and else oneself
unfoldable pub electing : Asked → ℕ
electing a = cond (is_swift_paxos a.mode) a.first_leader a.member.my_pid

-- the round of the proposal: next_leader_round
abbrev pub proposal_round : Asked → Core → PaxosRound
proposal_round a core = next_leader_round (unwrap_or_default core.paxos.round) (electing a)

-- `assert_eq!(is_multi_paxos(), Some(round) == starting_round)`: in the other modes the starting round is none, and no round is that
abbrev pub round_allowed : Asked → Core → Bool
round_allowed a core = not (is_multi_paxos a.mode) || equal (Some (proposal_round a core)) a.starting_round

-- nothing is held; can_propose; the round is the starting one; and in MultiPaxos it is one's own
unfoldable pub may_propose : Asked → Core → Bool
may_propose a core =
    cond (is_some core.paxos.max_rv) false
    (can_propose a && equal core.paxos.round a.starting_round && round_allowed a core)

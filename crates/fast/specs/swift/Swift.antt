-- Where SwiftPaxos parts from the other modes (the Rust's process_message and process_answers_at_swift_paxos_client).
-- Assumes nothing.
use Rattle.std.specs.Prelude.{Bool, true, false, cond, ◌&&◌, List, ℕ, eqb, Ok, Err, is_some, Result}
use Rattle.message.specs.declared.Refusal.{Refusal}
use Rattle.message.specs.Promises.{is_process}
use Rattle.message.specs.declared.PaxosRound.{PaxosRound}
use Rattle.message.specs.declared.Refusal.TheVariants.{Panic}
use Rattle.message.specs.declared.RoundV.{RoundV}
use Rattle.message.specs.declared.RoundV.TheVariants.{FastV, PaxosV}
use Rattle.round_state.specs.Paxos.{paxos_can_commit, receive_accept}
use Rattle.round_state.specs.declared.PaxosState.{PaxosState}
use Rattle.fast_state.specs.Fast.{unchanged, swift_answered, swift_can_commit}
use Rattle.fast_state.specs.declared.FastAnswers.{FastAnswers}
use Rattle.fast_state.specs.declared.FastChange.{FastChange}
use Rattle.classic.specs.accept.Accept.{try_commit}
use Rattle.steps.specs.Steps.{CoreStep, no_messages, with_paxos, stays, commits_with, map_step, with_change}
use Rattle.steps.specs.declared.Asked.{Asked}
use Rattle.steps.specs.declared.ChangeStep.{ChangeStep}
use Rattle.steps.specs.declared.Core.{Core}
use Rattle.steps.specs.declared.Heard.{Heard}
use Rattle.steps.specs.declared.SentMessages.{SentMessages}

-- `self.round_state.swift_can_commit(quorum.is_some())`
abbrev pub swift_commits : Asked → FastAnswers → Bool
swift_commits a answers = swift_can_commit a.member (is_some a.quorum) answers

-- a step of the fast half, and the rest of the handler with the answers that it leaves; where the step is refused, so is the call
abbrev pub after_step : (FastAnswers → Result CoreStep Refusal) → Result FastChange Refusal → Result ChangeStep Refusal
after_step rest (Ok change) = map_step (with_change change) (rest change.answers)
after_step rest (Err why) = Err why

-- ---- process_answers_at_swift_paxos_client, Prepare

-- swift_answered was taken: `if self.round_state.swift_can_commit()`
abbrev pub after_swift_answer : Asked → ℕ → Core → FastAnswers → CoreStep
after_swift_answer a v core answers = cond (swift_commits a answers) (commits_with v core no_messages) (stays core no_messages)

-- an answer to the fast proposal; "leaders don't respond with prepare messages", and a promise without a proposer is no answer
unfoldable pub swift_answer : Asked → Heard → PaxosRound → RoundV → Core → FastAnswers → List ℕ → Result ChangeStep Refusal
swift_answer a h round (FastV proposer v) core answers scores =
    cond (eqb h.src round.leader) (Err Panic)
    (after_step (λ after. Ok (after_swift_answer a v core after)) (swift_answered a.member h.src proposer v a.quorum false answers scores))
swift_answer a h round (PaxosV at v) core answers scores = Err Panic

-- `if self.get_committer(msg.get_v()) != Some(self.my_pid) { return None }`
unfoldable pub swift_client_prepare : Asked → Heard → PaxosRound → RoundV → Core → FastAnswers → List ℕ → Result ChangeStep Refusal
swift_client_prepare a h round rv core answers scores =
    cond (is_process h.committer a.member.my_pid) (swift_answer a h round rv core answers scores)
    (Ok (with_change (unchanged answers) (stays core no_messages)))

-- ---- process_answers_at_swift_paxos_client, Accept

-- receive_accept was taken: `if self.round_state.paxos_can_commit()`
abbrev pub after_client_accept : Asked → ℕ → Core → Result PaxosState Refusal → Result CoreStep Refusal
after_client_accept a v core (Ok p) =
    Ok (cond (paxos_can_commit a.member p) (commits_with v (with_paxos p core) no_messages) (stays (with_paxos p core) no_messages))
after_client_accept a v core (Err why) = Err why

-- an Accept that is received as an accept
unfoldable pub client_accept : Asked → Heard → PaxosRound → ℕ → Core → Result CoreStep Refusal
client_accept a h round v core = after_client_accept a v core (receive_accept a.member h.src round v core.paxos)

-- the leader's Accept is its answer on the fast path: swift_answered, with oneself as the proposer
unfoldable pub leader_answered : Asked → Heard → ℕ → FastAnswers → List ℕ → Result FastChange Refusal
leader_answered a h v answers scores = swift_answered a.member h.src a.member.my_pid v a.quorum true answers scores

-- `src == round.leader`
abbrev pub from_leader : Heard → PaxosRound → Bool
from_leader h round = eqb h.src round.leader

-- an Accept of another is no answer
unfoldable pub accept_answered : Asked → Heard → PaxosRound → ℕ → FastAnswers → List ℕ → Result FastChange Refusal
accept_answered a h round v answers scores = cond (from_leader h round) (leader_answered a h v answers scores) (Ok (unchanged answers))

-- the leader's Accept commits on the fast path where that is complete; otherwise, and from any other source, it is received as an accept
abbrev pub after_accept_answer : Asked → Heard → PaxosRound → ℕ → Core → FastAnswers → Result CoreStep Refusal
after_accept_answer a h round v core answers =
    cond (from_leader h round && swift_commits a answers) (Ok (commits_with v core no_messages)) (client_accept a h round v core)

-- an Accept at a client that is the committer
unfoldable pub swift_accept : Asked → Heard → PaxosRound → ℕ → Core → FastAnswers → List ℕ → Result ChangeStep Refusal
swift_accept a h round v core answers scores = after_step (after_accept_answer a h round v core) (accept_answered a h round v answers scores)

-- `if self.get_committer(msg.get_v()) != Some(self.my_pid) { return None }`
unfoldable pub swift_client_accept : Asked → Heard → PaxosRound → ℕ → Core → FastAnswers → List ℕ → Result ChangeStep Refusal
swift_client_accept a h round v core answers scores =
    cond (is_process h.committer a.member.my_pid) (swift_accept a h round v core answers scores)
    (Ok (with_change (unchanged answers) (stays core no_messages)))

-- ---- process_message, Accept, at a replica

-- swift_answered was taken: `if self.round_state.swift_can_commit()`, and else the accepts are counted
abbrev pub after_replica_answer : Asked → Heard → PaxosRound → ℕ → Core → SentMessages → FastAnswers → CoreStep
after_replica_answer a h round v core messages answers =
    cond (swift_commits a answers) (commits_with v core messages) (try_commit a h round v core messages)

-- a replica that is the committer has answered the leader's Accept, and counts it on the fast path
unfoldable pub swift_answered_accept : Asked → Heard → PaxosRound → ℕ → Core → SentMessages → FastAnswers → List ℕ → Result ChangeStep Refusal
swift_answered_accept a h round v core messages answers scores =
    after_step (λ after. Ok (after_replica_answer a h round v core messages after)) (leader_answered a h v answers scores)

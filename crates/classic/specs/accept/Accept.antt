-- Handling an Accept at a replica (the Rust's process_message, `Accept`), up to the point where SwiftPaxos parts.
-- Assumes nothing.
use Rattle.std.specs.Prelude.{Bool, true, false, cond, not, ◌&&◌, ◌||◌, ℕ, eqb, Option, None, Some, Ok, Err, Result}
use Rattle.message.specs.declared.Refusal.{Refusal}
use Rattle.message.specs.Modes.{is_swift_paxos}
use Rattle.message.specs.Promises.{is_process}
use Rattle.message.specs.declared.ConsensusMsg.TheVariants.{Accept, Commit}
use Rattle.message.specs.declared.PFMode.{PFMode}
use Rattle.message.specs.declared.PFMode.TheVariants.{Paxos, MultiPaxos, MultiPaxos3P, EPaxos, Pando, SwiftPaxos}
use Rattle.message.specs.declared.PaxosRound.{PaxosRound}
use Rattle.message.specs.declared.Refusal.TheVariants.{Panic}
use Rattle.round_state.specs.Paxos.{paxos_can_commit, receive_accept}
use Rattle.round_state.specs.declared.PaxosState.{PaxosState}
use Rattle.classic.specs.prepare.Prepare.{off_fast_path}
use Rattle.steps.specs.Steps.{CoreStep, no_messages, one_message, two_messages, also, sends, first_served, held_value, with_paxos, left_fast_path, stays, continues, commits_with}
use Rattle.steps.specs.declared.Asked.{Asked}
use Rattle.steps.specs.declared.Core.{Core}
use Rattle.steps.specs.declared.Destination.TheVariants.{One, All}
use Rattle.steps.specs.declared.Heard.{Heard}
use Rattle.steps.specs.declared.SentMessages.{SentMessages}
use Rattle.steps.specs.declared.Outgoing.{Outgoing}

-- the modes in which a committer hears the accepts: `MultiPaxos3P | SwiftPaxos`
abbrev pub tells_committer : PFMode → Bool
tells_committer Paxos = false
tells_committer MultiPaxos = false
tells_committer MultiPaxos3P = true
tells_committer EPaxos = false
tells_committer Pando = false
tells_committer SwiftPaxos = true

-- i_am_3p_commiter
unfoldable pub is_committer : Asked → Heard → Bool
is_committer a h = tells_committer a.mode && is_process h.committer a.member.my_pid

-- ---- answer_accept

abbrev pub accept_to : Asked → Core → PaxosRound → ℕ → Outgoing
accept_to a core round p = sends a core (One p) (Accept core.slot round (held_value core.paxos.max_rv))

-- the committer hears it where it is neither the leader nor oneself
unfoldable pub committer_hears : Asked → PaxosRound → ℕ → Bool
committer_hears a round p = tells_committer a.mode && (not (eqb p round.leader) && not (eqb p a.member.my_pid))

-- answer_accept: to the committer, then to the leader
unfoldable pub answer_accept : Asked → PaxosRound → Core → Option ℕ → SentMessages
answer_accept a round core None = one_message (accept_to a core round round.leader)
answer_accept a round core (Some p) =
    cond (committer_hears a round p) (two_messages (accept_to a core round p) (accept_to a core round round.leader))
    (one_message (accept_to a core round round.leader))

-- ---- the commit

-- broadcast_commit: the held value, served to its requester first
abbrev pub commit_message : Asked → Core → Option ℕ → Outgoing
commit_message a core requester = sends a core (All (first_served a requester)) (Commit core.slot (held_value core.paxos.max_rv))

-- the leader tells of the commit; a committer tells where the requester is another process
unfoldable pub tells_commit : Asked → Heard → PaxosRound → Bool
tells_commit a h round = cond (eqb round.leader a.member.my_pid) true (not (is_process h.requester a.member.my_pid))

-- with the Commit behind what was sent before, where it is told
unfoldable pub with_commit_message : Asked → Heard → PaxosRound → Core → SentMessages → SentMessages
with_commit_message a h round core messages = cond (tells_commit a h round) (also messages (commit_message a core h.requester)) messages

-- a majority of accepts commits the value: `if self.round_state.paxos_can_commit()`; from here the slot is off the fast path in every mode
unfoldable pub try_commit : Asked → Heard → PaxosRound → ℕ → Core → SentMessages → CoreStep
try_commit a h round v core messages =
    cond (paxos_can_commit a.member core.paxos) (commits_with v (left_fast_path core) (with_commit_message a h round core messages)) (stays core messages)

-- ---- the accept

-- the delegate's accept is answered; a committer goes on, in SwiftPaxos with the fast half
unfoldable pub answered_delegate : Asked → Heard → PaxosRound → ℕ → Core → CoreStep
answered_delegate a h round v core =
    cond (is_committer a h)
    (cond (is_swift_paxos a.mode) (continues core (answer_accept a round core h.committer))
    (try_commit a h round v core (answer_accept a round core h.committer)))
    (stays core (answer_accept a round core h.committer))

-- another than the leader hears another's accept as the committer alone
unfoldable pub follower : Asked → Heard → PaxosRound → ℕ → Core → Result CoreStep Refusal
follower a h round v core =
    cond (eqb h.src h.delegate) (Ok (answered_delegate a h round v core))
    (cond (is_committer a h) (Ok (try_commit a h round v core no_messages)) (Err Panic))

-- `if self.my_pid != round.leader`
unfoldable pub accept_taken : Asked → Heard → PaxosRound → ℕ → Core → Result CoreStep Refusal
accept_taken a h round v core =
    cond (eqb a.member.my_pid round.leader) (Ok (try_commit a h round v core no_messages)) (follower a h round v core)

-- ---- the same by what is answered and who counts

-- what the delegate's accept is answered with
unfoldable pub accept_answer : Asked → Heard → PaxosRound → Core → SentMessages
accept_answer a h round core =
    cond (eqb a.member.my_pid round.leader) no_messages
    (cond (eqb h.src h.delegate) (answer_accept a round core h.committer) no_messages)

-- in SwiftPaxos a committer that has answered goes on with the fast half
unfoldable pub continues_fast : Asked → Heard → PaxosRound → Bool
continues_fast a h round =
    not (eqb a.member.my_pid round.leader) && (eqb h.src h.delegate && (is_swift_paxos a.mode && is_committer a h))

-- the leader counts accepts, and a committer
unfoldable pub counts_accepts : Asked → Heard → PaxosRound → Bool
counts_accepts a h round = eqb a.member.my_pid round.leader || is_committer a h

-- receive_accept was taken: the accept phase is off the fast path, but for SwiftPaxos
abbrev pub after_accepted : Asked → Heard → PaxosRound → ℕ → Core → Result PaxosState Refusal → Result CoreStep Refusal
after_accepted a h round v core (Ok p) = accept_taken a h round v (off_fast_path a (with_paxos p core))
after_accepted a h round v core (Err why) = Err why

-- an Accept in the round of the state
unfoldable pub accepting : Asked → Heard → PaxosRound → ℕ → Core → Result CoreStep Refusal
accepting a h round v core = after_accepted a h round v core (receive_accept a.member h.src round v core.paxos)

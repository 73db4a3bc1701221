-- Handling a Prepare at a replica (the Rust's process_message, `Prepare`), up to the point where the fast modes part.
-- Assumes nothing.
use Rattle.std.specs.Prelude.{Bool, cond, not, ◌&&◌, ◌||◌, eqb, Some, Ok, Err, is_some, Result}
use Rattle.message.specs.declared.Refusal.{Refusal}
use Rattle.message.specs.Modes.{is_swift_paxos}
use Rattle.message.specs.Rounds.{equal}
use Rattle.message.specs.declared.ConsensusMsg.TheVariants.{Prepare, Accept}
use Rattle.message.specs.declared.PaxosRound.{PaxosRound}
use Rattle.message.specs.declared.Refusal.TheVariants.{Panic}
use Rattle.message.specs.declared.RoundV.{RoundV}
use Rattle.round_state.specs.Paxos.{get_last_accepted_round, is_prepared, receive_promise, paxos_propose_v, self_accept}
use Rattle.round_state.specs.declared.PaxosState.{PaxosState}
use Rattle.steps.specs.Steps.{CoreStep, no_messages, one_message, sends, to_all, held_rv, held_value, with_paxos, left_fast_path, stays, continues}
use Rattle.steps.specs.declared.Asked.{Asked}
use Rattle.steps.specs.declared.Core.{Core}
use Rattle.steps.specs.declared.Destination.TheVariants.{One}
use Rattle.steps.specs.declared.Heard.{Heard}

-- where nothing is held, the promise that came is held: `if self.get_my_v().is_none() { paxos_propose_v(rv) }`
unfoldable pub hold_first : Asked → RoundV → PaxosState → Result PaxosState Refusal
hold_first a rv p = cond (is_some p.max_rv) (Ok p) (paxos_propose_v a.member rv p)

-- what process_message asserts behind answer_prepare: `delegate_or_leader == src || delegate_or_leader != round.leader`
abbrev pub may_answer : Heard → PaxosRound → Bool
may_answer h round = eqb h.delegate h.src || not (eqb h.delegate round.leader)

-- answer_prepare, with the assertion behind it
unfoldable pub answer_prepare : Asked → Heard → PaxosRound → Core → Result CoreStep Refusal
answer_prepare a h round core =
    cond (may_answer h round)
    (Ok (stays core (one_message (sends a core (One h.delegate) (Prepare core.slot round (held_rv core.paxos.max_rv))))))
    (Err Panic)

-- in SwiftPaxos the leader is not answered
abbrev pub leaves_leader : Asked → Heard → PaxosRound → Bool
leaves_leader a h round = is_swift_paxos a.mode && eqb h.delegate round.leader

-- another than the delegate answers, unless it has accepted in the round
unfoldable pub answers_nothing : Asked → Heard → PaxosRound → Core → Bool
answers_nothing a h round core =
    leaves_leader a h round || equal (get_last_accepted_round core.paxos.max_rv) (Some round)

-- `if delegate_or_leader != self.my_pid`: another than the delegate answers, and the delegate goes on
unfoldable pub preparing : Asked → Heard → PaxosRound → Core → Result CoreStep Refusal
preparing a h round core =
    cond (eqb h.delegate a.member.my_pid) (Ok (continues core no_messages))
    (cond (answers_nothing a h round core) (Ok (stays core no_messages)) (answer_prepare a h round core))

-- behind the paxos_propose_v of hold_first, whose assertion may fail
abbrev pub after_held : Asked → Heard → PaxosRound → Core → Result PaxosState Refusal → Result CoreStep Refusal
after_held a h round core (Ok p) = preparing a h round (with_paxos p core)
after_held a h round core (Err why) = Err why

-- a Prepare up to the point where the delegate counts the promise, the part that every mode has
unfoldable pub prepare_answered : Asked → Heard → PaxosRound → RoundV → Core → Result CoreStep Refusal
prepare_answered a h round rv core = after_held a h round core (hold_first a rv core.paxos)

-- an accept phase is off the fast path; not in SwiftPaxos, whose leader accepts in every slot
abbrev pub off_fast_path : Asked → Core → Core
off_fast_path a core = cond (is_swift_paxos a.mode) core (left_fast_path core)

-- broadcast_accept
unfoldable pub broadcast_accept : Asked → PaxosRound → Core → CoreStep
broadcast_accept a round core =
    stays (off_fast_path a core)
    (one_message (sends a core to_all (Accept core.slot round (held_value core.paxos.max_rv))))

-- self_accept, or adopt_from_epaxos, and then broadcast_accept
abbrev pub after_own_accept : Asked → PaxosRound → Core → Result PaxosState Refusal → Result CoreStep Refusal
after_own_accept a round core (Ok p) = Ok (broadcast_accept a round (with_paxos p core))
after_own_accept a round core (Err why) = Err why

-- the accept phase of what is held: self_accept, and then broadcast_accept
unfoldable pub accept_phase : Asked → PaxosRound → Core → Result CoreStep Refusal
accept_phase a round core = after_own_accept a round core (self_accept a.member round core.paxos)

-- the promise counted: receive_promise
abbrev pub with_promise : Asked → Heard → RoundV → Core → Core
with_promise a h rv core = with_paxos (receive_promise a.member h.src rv core.paxos) core

-- a promise completes the majority, by the core before it and the core with it: `!was_paxos_prepared && is_prepared()`
unfoldable pub becomes_prepared : Asked → Core → Core → Bool
becomes_prepared a core promised = not (is_prepared a.member core.paxos) && is_prepared a.member promised.paxos

-- the delegate counts the promise, and starts the accept phase with the one that completes a majority
unfoldable pub gather : Asked → Heard → PaxosRound → RoundV → Core → Result CoreStep Refusal
gather a h round rv core =
    cond (becomes_prepared a core (with_promise a h rv core)) (accept_phase a round (with_promise a h rv core)) (Ok (stays (with_promise a h rv core) no_messages))

-- what is held was accepted in some round: not `get_last_accepted_round().is_none()`
abbrev pub has_accepted : Core → Bool
has_accepted core = is_some (get_last_accepted_round core.paxos.max_rv)

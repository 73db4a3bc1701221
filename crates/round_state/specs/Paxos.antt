-- The Paxos and MultiPaxos half of the round state: round, held promise, prepared and accepted sets (the Rust's round_state.rs;
-- document 01, "Round state").
-- Assumes nothing.
use Rattle.std.specs.Prelude.{Bool, false, cond, ◌&&◌, ◌||◌, ℕ, leb, eqb, Option, None, Some, is_some, Result, Ok, Err}
use Rattle.basics.specs.sets.Sets.{insert, size, is_empty}
use Rattle.message.specs.Promises.{value_of, accept_round_of}
use Rattle.message.specs.Rounds.{before, equal}
use Rattle.message.specs.declared.PaxosRound.{PaxosRound}
use Rattle.message.specs.declared.Refusal.{Refusal}
use Rattle.message.specs.declared.Refusal.TheVariants.{Panic, AcceptUnlikeHeld}
use Rattle.message.specs.declared.RoundV.{RoundV}
use Rattle.message.specs.declared.RoundV.TheVariants.{FastV, PaxosV}
use Rattle.round_state.specs.declared.Member.{Member}
use Rattle.round_state.specs.declared.PaxosState.{PaxosState}

-- ---- what is asked of the state

-- get_v
abbrev pub get_v : Option RoundV → Option ℕ
get_v None = None
get_v (Some rv) = Some (value_of rv)

-- get_last_accepted_round
abbrev pub get_last_accepted_round : Option RoundV → Option PaxosRound
get_last_accepted_round None = None
get_last_accepted_round (Some rv) = accept_round_of rv

-- is_prepared and paxos_can_commit: the counts are the sizes of their sets
abbrev pub is_prepared : Member → PaxosState → Bool
is_prepared me s = leb me.quorums.majority (size s.prepared_set)

abbrev pub paxos_can_commit : Member → PaxosState → Bool
paxos_can_commit me s = leb me.quorums.majority (size s.accepted_set)

-- ---- counting

-- the sender, unless it is oneself
unfoldable pub with_sender : Member → ℕ → ℕ → ℕ
with_sender me src set = cond (eqb src me.my_pid) set (insert set src)

-- oneself, if one is a replica
unfoldable pub with_own : Member → ℕ → ℕ
with_own me set = cond me.replica (insert set me.my_pid) set

-- "Both then count the sender, and the own process if it is a replica, once each."
abbrev pub counted : Member → ℕ → ℕ → ℕ
counted me src set = with_own me (with_sender me src set)

-- ---- another round, another held promise

abbrev pub with_round : Option PaxosRound → PaxosState → PaxosState
with_round round s = record { round = round; max_rv = s.max_rv; prepared_set = s.prepared_set; accepted_set = s.accepted_set }

abbrev pub with_held : Option RoundV → PaxosState → PaxosState
with_held held s = record { round = s.round; max_rv = held; prepared_set = s.prepared_set; accepted_set = s.accepted_set }

-- ---- rounds

-- next_round: "A new round clears both sets, not the held promise, not the fast answers", which are in the other half
abbrev pub next_round : PaxosState → PaxosState
next_round s = record { round = s.round; max_rv = s.max_rv; prepared_set = 0; accepted_set = 0 }

-- goto_round of paxos_family.rs: the round, and then next_round
abbrev pub goto_round : Option PaxosRound → PaxosState → PaxosState
goto_round round s = next_round (with_round round s)

-- full_clear: next_round, and nothing is held. "A commit clears everything"; the round is set by goto_round before, and the fast half is cleared
-- beside this one
abbrev pub full_clear : PaxosState → PaxosState
full_clear s = with_held None (next_round s)

-- ---- promises

-- "`receive_promise` replaces what is held if nothing is held or the new accept round is later"
unfoldable pub held_after_promise : Option RoundV → RoundV → Option RoundV
held_after_promise None rv = Some rv
held_after_promise (Some old) rv = cond (before (accept_round_of old) (accept_round_of rv)) (Some rv) (Some old)

-- receive_promise
unfoldable pub receive_promise : Member → ℕ → RoundV → PaxosState → PaxosState
receive_promise me src rv s =
    record {
      round = s.round;
      max_rv = held_after_promise s.max_rv rv;
      prepared_set = counted me src s.prepared_set;
      accepted_set = s.accepted_set;
    }

-- ---- steps: the state after one, or why it is refused. Where it is refused, the Rust panics, and the shard keeps the state that it had.

-- the state that a step leaves
abbrev pub state_left : PaxosState → Result PaxosState Refusal → PaxosState
state_left old (Ok next) = next
state_left old (Err why) = old

-- paxos_propose_v, with its assertions that nothing is held and nothing prepared
unfoldable pub paxos_propose_v : Member → RoundV → PaxosState → Result PaxosState Refusal
paxos_propose_v me rv s =
    cond (is_some s.max_rv) (Err Panic) (cond (is_empty s.prepared_set) (Ok (receive_promise me me.my_pid rv s)) (Err Panic))

-- ---- accepts

-- what is held is v, accepted in the round
abbrev pub held_is : Option RoundV → PaxosRound → ℕ → Bool
held_is None round v = false
held_is (Some (FastV proposer w)) round v = false
held_is (Some (PaxosV at w)) round v = equal at (Some round) && eqb w v

-- "`receive_accept` replaces it if the round is later than the last accepted one; otherwise both must be equal"
unfoldable pub accept_fits : Option RoundV → PaxosRound → ℕ → Bool
accept_fits held round v = before (get_last_accepted_round held) (Some round) || held_is held round v

-- the state after an accept that fits: v is held as accepted in the round, and the sender counted
abbrev pub after_accept : Member → ℕ → PaxosRound → ℕ → PaxosState → PaxosState
after_accept me src round v s =
    record {
      round = s.round;
      max_rv = Some (PaxosV (Some round) v);
      prepared_set = s.prepared_set;
      accepted_set = counted me src s.accepted_set;
    }

-- receive_accept
unfoldable pub receive_accept : Member → ℕ → PaxosRound → ℕ → PaxosState → Result PaxosState Refusal
receive_accept me src round v s = cond (accept_fits s.max_rv round v) (Ok (after_accept me src round v s)) (Err AcceptUnlikeHeld)

-- the value that oneself accepts is the held one; without one the Rust's unwrap panics
unfoldable pub accept_own : Member → PaxosRound → PaxosState → Option ℕ → Result PaxosState Refusal
accept_own me round s None = Err Panic
accept_own me round s (Some v) = receive_accept me me.my_pid round v s

-- self_accept, which asserts that nothing is accepted yet
unfoldable pub self_accept : Member → PaxosRound → PaxosState → Result PaxosState Refusal
self_accept me round s = cond (is_empty s.accepted_set) (accept_own me round s (get_v s.max_rv)) (Err AcceptUnlikeHeld)

-- adopt_from_epaxos: the adopted value is held, and accepted by oneself
abbrev pub adopt_from_epaxos : Member → PaxosRound → ℕ → PaxosState → Result PaxosState Refusal
adopt_from_epaxos me round v s = self_accept me round (with_held (Some (PaxosV None v)) s)

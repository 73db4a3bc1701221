-- The whole round state: both halves (the Rust's PaxosFamilyRoundState).
-- Assumes nothing.
use Rattle.std.specs.Prelude.{Option, None}
use Rattle.message.specs.declared.PaxosRound.{PaxosRound}
use Rattle.fast_state.specs.Fast.{no_answers}
use Rattle.fast_state.specs.declared.PaxosFamilyRoundState.{PaxosFamilyRoundState}

-- new: nothing held, nothing counted, in the starting round
abbrev pub new_round_state : Option PaxosRound → PaxosFamilyRoundState
new_round_state starting =
    record { paxos = record { round = starting; max_rv = None; prepared_set = 0; accepted_set = 0 }; fast = no_answers }

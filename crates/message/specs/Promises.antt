-- Promises, and equality of what is optional (document 01, "Round and held promise"; RoundV of the Rust's paxos_family/message.rs).
-- Assumes nothing.
use Rattle.std.specs.Prelude.{ℕ, Bool, true, false, eqb, Option, None, Some}
use Rattle.message.specs.declared.PaxosRound.{PaxosRound}
use Rattle.message.specs.declared.RoundV.{RoundV}
use Rattle.message.specs.declared.RoundV.TheVariants.{FastV, PaxosV}

-- RoundV::get_v
abbrev pub value_of : RoundV → ℕ
value_of (FastV proposer v) = v
value_of (PaxosV round v) = v

-- RoundV::get_accept_round: a value of the fast path was accepted in no round
abbrev pub accept_round_of : RoundV → Option PaxosRound
accept_round_of (FastV proposer v) = None
accept_round_of (PaxosV round v) = round

-- equality of two optional values, as of a last value that came with a message and the own one
abbrev pub same_value : Option ℕ → Option ℕ → Bool
same_value None None = true
same_value None (Some b) = false
same_value (Some a) None = false
same_value (Some a) (Some b) = eqb a b

-- the Rust's `x == Some(p)`
abbrev pub is_process : Option ℕ → ℕ → Bool
is_process None p = false
is_process (Some q) p = eqb q p

-- Rounds and their order (document 01, "Round and held promise"; the Rust's paxos_family/message.rs and the starting round of
-- PaxosFamilyShard::new).
-- Assumes nothing.
use Rattle.std.specs.Prelude.{ℕ, ◌+◌, Bool, true, false, cond, ◌&&◌, ◌||◌, ltb, leb, eqb, Option, None, Some}
use Rattle.message.specs.declared.PaxosRound.{PaxosRound}
use Rattle.message.specs.declared.PFMode.{PFMode}
use Rattle.message.specs.declared.PFMode.TheVariants.{Paxos, MultiPaxos, MultiPaxos3P, EPaxos, Pando, SwiftPaxos}

-- one more; the largest number of 64 bits stays
unfoldable pub increment : ℕ → ℕ
increment n = cond (ltb n 18446744073709551615) (n + 1) n

-- the round of a group and a leader
abbrev pub round_of : ℕ → ℕ → PaxosRound
round_of group leader = record { round_group = group; leader = leader }

-- PaxosRound::default
abbrev pub default_round : PaxosRound
default_round = round_of 0 0

-- next_leader_round: the group stays if the process number is at least the old leader's, and else is one more
unfoldable pub next_leader_round : PaxosRound → ℕ → PaxosRound
next_leader_round r p = round_of (cond (leb r.leader p) r.round_group (increment r.round_group)) p

-- starting_round of PaxosFamilyShard::new
abbrev pub starting_round : PFMode → ℕ → Option PaxosRound
starting_round Paxos leader = None
starting_round MultiPaxos leader = Some (next_leader_round default_round leader)
starting_round MultiPaxos3P leader = Some (next_leader_round default_round leader)
starting_round EPaxos leader = None
starting_round Pando leader = None
starting_round SwiftPaxos leader = None

-- by group, then by leader
unfoldable pub round_before : PaxosRound → PaxosRound → Bool
round_before a b = ltb a.round_group b.round_group || (eqb a.round_group b.round_group && ltb a.leader b.leader)

-- both numbers are equal
unfoldable pub round_equal : PaxosRound → PaxosRound → Bool
round_equal a b = eqb a.round_group b.round_group && eqb a.leader b.leader

-- the order of optional rounds: no round comes before every round
abbrev pub before : Option PaxosRound → Option PaxosRound → Bool
before None None = false
before None (Some b) = true
before (Some a) None = false
before (Some a) (Some b) = round_before a b

-- equality of optional rounds
abbrev pub equal : Option PaxosRound → Option PaxosRound → Bool
equal None None = true
equal None (Some b) = false
equal (Some a) None = false
equal (Some a) (Some b) = round_equal a b

-- Option::unwrap_or_default
abbrev pub unwrap_or_default : Option PaxosRound → PaxosRound
unwrap_or_default None = default_round
unwrap_or_default (Some a) = a

-- What the engine asks of the settings (the Rust's ConsensusShard and PaxosFamilyShard: replica, the delegates, get_committer,
-- starting_round).
-- Assumes nothing.
use Rattle.std.specs.Prelude.{Bool, cond, List, ℕ, Option, None, Some}
use Rattle.message.specs.declared.PaxosRound.{PaxosRound}
use Rattle.basics.specs.sets.Sets.{contains}
use Rattle.basics.specs.tables.Tables.{look_up}
use Rattle.message.specs.Modes.{is_swift_paxos}
use Rattle.message.specs.Rounds.{starting_round}
use Rattle.message.specs.declared.PFMode.{PFMode}
use Rattle.message.specs.declared.PFMode.TheVariants.{Paxos, MultiPaxos, MultiPaxos3P, EPaxos, Pando, SwiftPaxos}
use Rattle.quorum.specs.Quorum.{row_of}
use Rattle.quorum.specs.declared.QuorumRow.{QuorumRow}
use Rattle.settings.specs.declared.Settings.{Settings}

-- a process is a replica if it is in the live set
abbrev pub is_live_replica : Settings → ℕ → Bool
is_live_replica s p = contains s.alive_replicas p

abbrev pub is_replica : Settings → Bool
is_replica s = is_live_replica s s.my_pid

-- the quorums are those of the replica count
abbrev pub quorums_of : Settings → QuorumRow
quorums_of s = row_of s.replica_count

-- the delegate of a leader: in Pando that of the table, and else the leader itself; delegate_or_leader is `gatherer_of` of crates/calls
unfoldable pub delegate_in : List ℕ → PFMode → ℕ → ℕ
delegate_in delegates Paxos leader = leader
delegate_in delegates MultiPaxos leader = leader
delegate_in delegates MultiPaxos3P leader = leader
delegate_in delegates EPaxos leader = leader
delegate_in delegates Pando leader = look_up delegates leader
delegate_in delegates SwiftPaxos leader = leader

abbrev pub delegate_of : Settings → PFMode → ℕ → ℕ
delegate_of s mode leader = delegate_in s.delegates mode leader

-- the committer of a requester, where there is a requester
unfoldable pub committer_for : List ℕ → Option ℕ → Option ℕ
committer_for committers None = None
committer_for committers (Some p) = Some (look_up committers p)

-- get_committer, with the requester that the host names for the value; the table counts where the settings have committers
unfoldable pub committer_in : Option (List ℕ) → PFMode → Option ℕ → Option ℕ
committer_in None mode requester = cond (is_swift_paxos mode) requester None
committer_in (Some committers) mode requester = committer_for committers requester

abbrev pub committer_of : Settings → Option ℕ → Option ℕ
committer_of s requester = committer_in s.committers s.mode requester

abbrev pub starting_round_of : Settings → Option PaxosRound
starting_round_of s = starting_round s.mode s.first_leader

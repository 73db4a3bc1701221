-- The limits of the settings (document 01, "Group settings" and row 1 of its table of refusals).
-- Assumes nothing.
use Rattle.std.specs.Prelude.{Bool, true, ◌&&◌, List, ℕ, ltb, leb, Option, None, Some}
use Rattle.basics.specs.sets.Sets.{size, fits}
use Rattle.basics.specs.tables.Tables.{all_below}
use Rattle.message.specs.declared.PFMode.{PFMode}
use Rattle.message.specs.declared.PFMode.TheVariants.{Paxos, MultiPaxos, MultiPaxos3P, EPaxos, Pando, SwiftPaxos}
use Rattle.settings.specs.declared.Settings.{Settings}

-- "Processes 1 to 64; replica count 1 to processes"
unfoldable pub counts_fit : Settings → Bool
counts_fit s =
    leb 1 s.process_count && leb s.process_count 64 && leb 1 s.replica_count && leb s.replica_count s.process_count

-- "the live set has no more members than the replica count, and every process number and set member in the settings is below the
-- process count": own number, first leader, live set
unfoldable pub members_fit : Settings → Bool
members_fit s =
    ltb s.my_pid s.process_count && ltb s.first_leader s.process_count && fits s.alive_replicas s.process_count
    && leb (size s.alive_replicas) s.replica_count

-- "optional committer per process"
unfoldable pub committers_fit : Option (List ℕ) → ℕ → Bool
committers_fit None count = true
committers_fit (Some table) count = all_below table count

unfoldable pub quorum_fits : Option ℕ → ℕ → Bool
quorum_fits None count = true
quorum_fits (Some s) count = fits s count

-- "Pando has a delegate per process. SwiftPaxos may have a fixed quorum set." What a mode does not have is not tested.
unfoldable pub mode_fits : Settings → PFMode → Bool
mode_fits s Paxos = true
mode_fits s MultiPaxos = true
mode_fits s MultiPaxos3P = true
mode_fits s EPaxos = true
mode_fits s Pando = all_below s.delegates s.process_count
mode_fits s SwiftPaxos = quorum_fits s.quorum s.process_count

-- the limits; settings outside them are refused with 1
unfoldable pub within_limits : Settings → Bool
within_limits s = counts_fit s && members_fit s && committers_fit s.committers s.process_count && mode_fits s s.mode

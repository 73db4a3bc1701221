-- The memories that hosts begin with. `chanbook_shard_new`, at each member with the numbers of the group and its own, leaves memories by which the group
-- begins: so what `host_agreement` asks of memories is what hosts have.
-- Assumes nothing.
use mathlib.Core.Path.{◌≡◌}
use mathlib.Core.Bool.{true}
use Prim.Native.Nat.{ℕ}
use lib.Dec.{leb}
use Rattle.group_settings.specs.declared.FlatGroupSettings.{FlatGroupSettings}
use Rattle.group_settings.specs.GroupSettings.{decoded_group_settings}
use Rattle.host.specs.Begun.{new_memory}
use Rattle.host.proofs.Begun.{new_stands}
use Rattle.direct_calls.specs.Told.{MemoriesBegin}

-- the numbers of a group, at the member of that number
abbrev pub at_member : FlatGroupSettings → ℕ → FlatGroupSettings
at_member g j =
    record {
      settings = record {
        process_count = g.settings.process_count;
        replica_count = g.settings.replica_count;
        my_pid = j;
        alive_replicas = g.settings.alive_replicas;
        first_leader = g.settings.first_leader;
        mode = g.settings.mode;
        quorum = g.settings.quorum;
        has_committers = g.settings.has_committers;
        committers = g.settings.committers;
        delegates = g.settings.delegates;
      };
      whole_mhz_from = g.whole_mhz_from;
      windows = g.windows;
    }

-- in a mode that there is
pub memories_begin : (g : FlatGroupSettings) → leb g.settings.mode 5 ≡ true → MemoriesBegin (decoded_group_settings g) (λ j. new_memory (at_member g j))
memories_begin g known j member = new_stands (at_member g j) known

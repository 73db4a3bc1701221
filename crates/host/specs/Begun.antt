-- What stands in the arrays of a shard as it begins.
-- Assumes nothing.
use Rattle.arrays.specs.Arrays.{setup_of, setup_numbers, core_numbers}
use Rattle.consensus.specs.Call.{new_core}
use Rattle.direct_fast.specs.half.FastArrays.{cleared}
use Rattle.read_tracker.specs.Reads.{new_table}
use Rattle.flat.specs.Encode.{encoded_core}
use Rattle.flat.specs.Decode.{decoded_settings}
use Rattle.group_settings.specs.GroupSettings.{flat_settings_number}
use Rattle.group_settings.specs.declared.FlatGroupSettings.{FlatGroupSettings}
use Rattle.direct.specs.Stands.{Memory}

-- marked with the number of the group settings, of which it keeps the engine's; the core begins in these, no answer has come and no read is open
unfoldable pub new_memory : FlatGroupSettings → Memory
new_memory g =
    record {
      setup = setup_of (setup_numbers (flat_settings_number g) g.settings);
      committers = g.settings.committers;
      delegates = g.settings.delegates;
      core = core_numbers (encoded_core (new_core (decoded_settings g.settings)));
      fast = cleared;
      table = new_table;
    }

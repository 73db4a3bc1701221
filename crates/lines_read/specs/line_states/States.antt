-- The group settings and the state of the lines of kind 1 and 2, from their numbers (docs/ORACLE.md, "Call lines").
-- Assumes nothing.
use Rattle.std.specs.Prelude.{cond, List, ℕ, zero, suc, ◌+◌, ◌*◌, min, eqb, ltb, set, replicate, Option, None, Some}
use Rattle.message.specs.Rounds.{round_of}
use Rattle.message.specs.declared.RoundV.{RoundV}
use Rattle.basics.specs.tables.Tables.{store}
use Rattle.message.specs.Modes.{mode_of_number}
use Rattle.settings.specs.declared.Settings.{Settings}
use Rattle.call_lines.specs.dates.Numbers.{counted_windows_at}
use Rattle.group_settings.specs.declared.GroupSettings.{GroupSettings}
use Rattle.round_state.specs.declared.PaxosState.{PaxosState}
use Rattle.fast_state.specs.declared.FastState.{FastState}
use Rattle.read_tracker.specs.Reads.{read_id, new_table}
use Rattle.read_tracker.specs.declared.OpenRead.{OpenRead}
use Rattle.read_tracker.specs.declared.ReadTable.{ReadTable}
use Rattle.steps.specs.declared.Core.{Core}
use Rattle.consensus.specs.declared.State.{State}
use Rattle.lines_read.specs.line_calls.Calls.{line_number_at, optional, promise_of}

-- ---- settings

-- the number at place i of a table that begins at w and has n places
unfoldable pub table_place : List ℕ → ℕ → ℕ → ℕ → ℕ
table_place ns w n i = cond (ltb i n) (line_number_at ns (w + i)) 0

-- its first i places, with 0 in the rest of 64
unfoldable pub table_to : List ℕ → ℕ → ℕ → ℕ → List ℕ
table_to ns w n zero = replicate 64 0
table_to ns w n (suc i) = set (table_to ns w n i) i (table_place ns w n i)

-- the engine's settings of a line with these tables
unfoldable pub settings_with : List ℕ → List ℕ → List ℕ → Settings
settings_with ns committers delegates =
    record {
      process_count = line_number_at ns 1;
      replica_count = line_number_at ns 2;
      my_pid = line_number_at ns 3;
      alive_replicas = line_number_at ns 4;
      first_leader = line_number_at ns 5;
      mode = mode_of_number (line_number_at ns 6);
      quorum = optional (line_number_at ns 7) (line_number_at ns 8);
      committers = optional (line_number_at ns 9) committers;
      delegates = delegates;
    }

-- the group settings of a line with c committers and d delegates: the engine's, behind the delegates the slot of whole MHz, and behind it the windows
unfoldable pub group_settings_with : List ℕ → ℕ → ℕ → GroupSettings
group_settings_with ns c d =
    record {
      settings = settings_with ns (table_to ns 11 c 64) (table_to ns (12 + c) d 64);
      whole_mhz_from = line_number_at ns (12 + c + d);
      windows = counted_windows_at ns (13 + c + d);
    }

abbrev pub group_settings_at : List ℕ → ℕ → GroupSettings
group_settings_at ns c = group_settings_with ns c (min (line_number_at ns (11 + c)) 64)

abbrev pub group_settings_of : List ℕ → GroupSettings
group_settings_of ns = group_settings_at ns (min (line_number_at ns 10) 64)

-- ---- state

-- HELD
unfoldable pub held_of : ℕ → ℕ → ℕ → ℕ → Option RoundV
held_of kind a b v = cond (eqb kind 3) None (Some (promise_of kind a b v))

unfoldable pub paxos_in_numbers : List ℕ → PaxosState
paxos_in_numbers ns =
    record {
      round = optional (line_number_at ns 5) (round_of (line_number_at ns 6) (line_number_at ns 7));
      max_rv = held_of (line_number_at ns 8) (line_number_at ns 9) (line_number_at ns 10) (line_number_at ns 11);
      prepared_set = line_number_at ns 12;
      accepted_set = line_number_at ns 13;
    }

-- the core of a line with so many open reads
unfoldable pub core_at : List ℕ → ℕ → Core
core_at ns open-count =
    record {
      slot = line_number_at ns 1;
      last_v = optional (line_number_at ns 2) (line_number_at ns 3);
      slot_left_fast_path = eqb (line_number_at ns 4) 1;
      paxos = paxos_in_numbers ns;
      tracker = record { next_id = line_number_at ns 19; open_count = open-count };
    }

-- a number of each of the first i proposers: its value where k is 1, its scores where k is 2 and 3
unfoldable pub proposers_to : List ℕ → ℕ → ℕ → List ℕ
proposers_to ns k zero = replicate 64 0
proposers_to ns k (suc i) = store (proposers_to ns k i) (line_number_at ns (21 + 4 * i)) (line_number_at ns (21 + 4 * i + k))

-- the fast half of a line with p proposers
unfoldable pub fast_in_numbers : List ℕ → ℕ → FastState
fast_in_numbers ns p =
    record {
      fast_answer_set = line_number_at ns 14;
      fast_preaccepted = line_number_at ns 15;
      fast_proposers = line_number_at ns 16;
      fast_proposer_to_v = proposers_to ns 1 p;
      epaxos_proposer_scores = proposers_to ns 2 p;
      swift_proposer_scores = proposers_to ns 3 p;
      swift_leader_answer = optional (line_number_at ns 17) (line_number_at ns 18);
    }

unfoldable pub read_at : List ℕ → ℕ → OpenRead
read_at ns w =
    record {
      id = read_id (line_number_at ns w);
      tag = line_number_at ns (w + 1);
      arrival_slot = line_number_at ns (w + 2);
      ready_count = line_number_at ns (w + 3);
      local_ready = eqb (line_number_at ns (w + 4)) 1;
    }

-- the first i reads of a table that begins at w
unfoldable pub reads_to : List ℕ → ℕ → ℕ → List OpenRead
reads_to ns w zero = new_table.reads
reads_to ns w (suc i) = set (reads_to ns w i) i (read_at ns (w + 5 * i))

-- n of them, with none served
unfoldable pub read_table_at : List ℕ → ℕ → ℕ → ReadTable
read_table_at ns w n = record { reads = reads_to ns w n; served = new_table.served }

-- the state of a line with p proposers
unfoldable pub state_at : List ℕ → ℕ → State
state_at ns p =
    record {
      rounds = record { core = core_at ns (line_number_at ns (21 + 4 * p)); fast = fast_in_numbers ns p };
      table = read_table_at ns (22 + 4 * p) (min (line_number_at ns (21 + 4 * p)) 128);
    }

abbrev pub state_of : List ℕ → State
state_of ns = state_at ns (min (line_number_at ns 20) 64)

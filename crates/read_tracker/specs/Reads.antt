-- The open reads of a shard, a new read, and what one answer adds to a read (document 01, "Read"; the Rust's consensus/read_tracker.rs).
-- Assumes nothing.
use Rattle.std.specs.Prelude.{ℕ, ◌+◌, ◌-◌, min, Bool, true, false, cond, List, ltb, leb, take, set, replicate, Result, Ok, Err}
use Rattle.message.specs.declared.ReadId.{ReadId}
use Rattle.message.specs.declared.Refusal.{Refusal}
use Rattle.message.specs.declared.Refusal.TheVariants.{NoRoomForRead}
use Rattle.message.specs.Rounds.{increment}
use Rattle.read_tracker.specs.declared.OpenRead.{OpenRead}
use Rattle.read_tracker.specs.declared.ServedRead.{ServedRead}
use Rattle.read_tracker.specs.declared.ReadTracker.{ReadTracker}
use Rattle.read_tracker.specs.declared.ReadTable.{ReadTable}
use Rattle.read_tracker.specs.declared.Inserted.{Inserted}
use Rattle.read_tracker.specs.declared.Opening.{Opening}

-- the id of that number
abbrev pub read_id : ℕ → ReadId
read_id n = record { 0 = n }

-- ReadTracker::new
abbrev pub new_tracker : ReadTracker
new_tracker = record { next_id = 0; open_count = 0 }

-- the read as insert makes it: the own answer counts if it is there
abbrev pub new_read : ReadId → ℕ → ℕ → Bool → OpenRead
new_read id tag arrival local =
    record { id = id; tag = tag; arrival_slot = arrival; ready_count = cond local 1 0; local_ready = local }

-- serve: waited is slot minus arrival, or 0, as is the difference of natural numbers
abbrev pub serve : ℕ → Bool → OpenRead → ServedRead
serve slot fast r = record { id = r.id; tag = r.tag; waited_for = slot - r.arrival_slot; fast = fast }

-- a place with no read in it
abbrev pub no_read : OpenRead
no_read = new_read (read_id 0) 0 0 false

-- the table as it begins: 128 places (document 01, "At most 128 reads are open"), with no read in them
abbrev pub new_table : ReadTable
new_table =
    record {
      reads = replicate 128 no_read;
      served = replicate 128 (record { id = read_id 0; tag = 0; waited_for = 0; fast = false });
    }

-- the number of places that hold open reads: at most 128, whatever the count says
abbrev pub open_places : ReadTracker → ℕ
open_places tracker = min tracker.open_count 128

-- the open reads: read_commands of the Rust's tracker, in the order of its keys
abbrev pub open_reads : ReadTracker → ReadTable → List OpenRead
open_reads tracker table = take (open_places tracker) table.reads

-- the new read, under the next id, and the tracker that has counted it
abbrev pub opening : ReadTracker → ℕ → ℕ → Bool → Opening
opening tracker tag arrival local =
    record {
      read = new_read (read_id tracker.next_id) tag arrival local;
      tracker = record { next_id = tracker.next_id + 1; open_count = tracker.open_count + 1 };
    }

-- insert as far as it needs no table: refused, with 12, where there is no room, that is with 128 reads open, or ids spent (the last id is 2^63-1)
unfoldable pub open_next : ReadTracker → ℕ → ℕ → Bool → Result Opening Refusal
open_next tracker tag arrival local =
    cond (leb 128 tracker.open_count) (Err NoRoomForRead)
    (cond (ltb 9223372036854775807 tracker.next_id) (Err NoRoomForRead) (Ok (opening tracker tag arrival local)))

-- the new read behind the open ones
abbrev pub inserted : ReadTracker → ReadTable → Opening → Inserted
inserted tracker table o =
    record {
      tracker = o.tracker;
      table = record { reads = set table.reads tracker.open_count o.read; served = table.served };
      id = o.read.id;
    }

abbrev pub insert_opened : ReadTracker → ReadTable → Result Opening Refusal → Result Inserted Refusal
insert_opened tracker table (Ok o) = Ok (inserted tracker table o)
insert_opened tracker table (Err why) = Err why

-- insert: where it is refused nothing changes
unfoldable pub insert_read : ReadTracker → ReadTable → ℕ → ℕ → Bool → Result Inserted Refusal
insert_read tracker table tag arrival local = insert_opened tracker table (open_next tracker tag arrival local)

-- the read with that count and that mark
abbrev pub with_count : OpenRead → ℕ → Bool → OpenRead
with_count r count local =
    record { id = r.id; tag = r.tag; arrival_slot = r.arrival_slot; ready_count = count; local_ready = local }

-- "Each response counts one": what receive_ready adds
unfoldable pub after_response : OpenRead → OpenRead
after_response r = with_count r (increment r.ready_count) r.local_ready

-- the own answer, which commit_slot gives to each read that misses it
unfoldable pub after_commit : OpenRead → OpenRead
after_commit r = with_count r (cond r.local_ready r.ready_count (increment r.ready_count)) true

-- "ready_count >= read_quorum" of receive_ready and of commit_slot
abbrev pub has_quorum : ℕ → OpenRead → Bool
has_quorum quorum r = leb quorum r.ready_count

-- What a response and a commit do with the open reads (document 01, "Read"; the Rust's consensus/read_tracker.rs), as lists in the order
-- of the ids.
-- Assumes nothing.
use Rattle.std.specs.Prelude.{ℕ, suc, Bool, false, cond, List, [], ◌∷◌, eqb, length, take}
use Rattle.message.specs.declared.ReadId.{ReadId}
use Rattle.read_tracker.specs.Reads.{open_reads, after_response, after_commit, has_quorum, serve}
use Rattle.read_tracker.specs.declared.OpenRead.{OpenRead}
use Rattle.read_tracker.specs.declared.ServedRead.{ServedRead}
use Rattle.read_tracker.specs.declared.ReadTracker.{ReadTracker}
use Rattle.read_tracker.specs.declared.ReadTable.{ReadTable}
use Rattle.basics.specs.elements.Places.{at_front}
use Rattle.read_tracker.specs.declared.serving.Counted.{Counted}
use Rattle.read_tracker.specs.declared.serving.Tracked.{Tracked}

-- whether the read is the one of that id
abbrev pub has_id : ReadId → OpenRead → Bool
has_id id r = eqb r.id.0 id.0

-- receive_ready: the reads that stay open, in order; only the first read of that id counts
unfoldable pub kept_by_ready : ReadId → ℕ → List OpenRead → List OpenRead
kept_by_ready id quorum [] = []
kept_by_ready id quorum (r ∷ rs) =
    cond (has_id id r) (cond (has_quorum quorum (after_response r)) rs (after_response r ∷ rs)) (r ∷ kept_by_ready id quorum rs)

-- receive_ready: the read that is served, if one is
unfoldable pub served_by_ready : ReadId → ℕ → ℕ → Bool → List OpenRead → List ServedRead
served_by_ready id quorum slot fast [] = []
served_by_ready id quorum slot fast (r ∷ rs) =
    cond (has_id id r) (cond (has_quorum quorum (after_response r)) (serve slot fast (after_response r) ∷ []) []) (served_by_ready id quorum slot fast rs)

-- commit_slot: the reads that stay open, in order
unfoldable pub kept_by_commit : ℕ → List OpenRead → List OpenRead
kept_by_commit quorum [] = []
kept_by_commit quorum (r ∷ rs) =
    cond (has_quorum quorum (after_commit r)) (kept_by_commit quorum rs) (after_commit r ∷ kept_by_commit quorum rs)

-- commit_slot: the reads that are served, in order
unfoldable pub served_by_commit : ℕ → ℕ → List OpenRead → List ServedRead
served_by_commit quorum slot [] = []
served_by_commit quorum slot (r ∷ rs) =
    cond (has_quorum quorum (after_commit r)) (serve slot false (after_commit r) ∷ served_by_commit quorum slot rs) (served_by_commit quorum slot rs)

-- tracker and table once these reads are kept and those served
abbrev pub tracked : ReadTracker → ReadTable → List OpenRead → List ServedRead → Tracked
tracked tracker table kept served =
    record {
      tracker = record { next_id = tracker.next_id; open_count = length kept };
      table = record { reads = at_front kept table.reads; served = at_front served table.served };
      served_count = length served;
    }

-- what a call leaves: the tracker and the count that it hands back, with the reads in their places
abbrev pub with_table : Counted → List OpenRead → List ServedRead → Tracked
with_table r opened served = record { tracker = r.tracker; table = record { reads = opened; served = served }; served_count = r.served_count }

-- the reads that a call served
abbrev pub served_reads : Tracked → List ServedRead
served_reads t = take t.served_count t.table.served

-- receive_ready
unfoldable pub receive_ready : ReadTracker → ReadTable → ReadId → ℕ → ℕ → Bool → Tracked
receive_ready tracker table id quorum slot fast =
    tracked tracker table (kept_by_ready id quorum (open_reads tracker table)) (served_by_ready id quorum slot fast (open_reads tracker table))

-- commit_slot
unfoldable pub serve_at_commit : ReadTracker → ReadTable → ℕ → ℕ → Tracked
serve_at_commit tracker table quorum slot =
    tracked tracker table (kept_by_commit quorum (open_reads tracker table)) (served_by_commit quorum slot (open_reads tracker table))

-- the place of the first read with the id, or the list's length
unfoldable pub place_of_id : ReadId → List OpenRead → ℕ
place_of_id id [] = 0
place_of_id id (r ∷ rs) = cond (has_id id r) 0 (suc (place_of_id id rs))

-- The reads that stand in arrays of numbers: five numbers are an open read, four a served one.
-- Assumes nothing.
use Rattle.std.specs.Prelude.{ℕ, List, [], ◌∷◌}
use Rattle.read_tracker.specs.declared.OpenRead.{OpenRead}
use Rattle.read_tracker.specs.declared.ServedRead.{ServedRead}
use Rattle.read_tracker.specs.declared.ReadTable.{ReadTable}
use Rattle.flat.specs.Decode.{decoded_open, decoded_served}
use Rattle.read_tracker.specs.declared.serving.Tracked.{Tracked}
use Rattle.read_tracker.specs.declared.serving.Counted.{Counted}
use Rattle.arrays.specs.declared.reads.ReadArrays.{ReadArrays}

-- the open reads, five numbers each
unfoldable pub open_rows : List ℕ → List OpenRead
open_rows (a ∷ b ∷ c ∷ d ∷ e ∷ l) =
    decoded_open (record { id = a; tag = b; arrival_slot = c; ready_count = d; local_ready = e }) ∷ open_rows l
open_rows (a ∷ b ∷ c ∷ d ∷ []) = []
open_rows (a ∷ b ∷ c ∷ []) = []
open_rows (a ∷ b ∷ []) = []
open_rows (a ∷ []) = []
open_rows [] = []

-- the served reads, four numbers each
unfoldable pub served_rows : List ℕ → List ServedRead
served_rows (a ∷ b ∷ c ∷ d ∷ l) = decoded_served (record { id = a; tag = b; waited_for = c; fast = d }) ∷ served_rows l
served_rows (a ∷ b ∷ c ∷ []) = []
served_rows (a ∷ b ∷ []) = []
served_rows (a ∷ []) = []
served_rows [] = []

abbrev pub table_of : List ℕ → List ℕ → ReadTable
table_of opened served = record { reads = open_rows opened; served = served_rows served }

-- the reads that stand in the lent arrays
abbrev pub reads_in : ReadArrays → ReadTable
reads_in a = table_of a.reads a.served

-- what a call leaves: the tracker and the count that it hands back, with the arrays
abbrev pub tracked_in : Counted → ReadArrays → Tracked
tracked_in r a = record { tracker = r.tracker; table = reads_in a; served_count = r.served_count }

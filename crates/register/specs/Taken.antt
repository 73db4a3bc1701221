-- Which entries are taken, and what the report counts, from the entries alone (document 02, E6). Nothing here knows the register.
-- A list of entries stands latest first: behind an entry stand those before it.
-- Assumes nothing.
use Rattle.std.specs.Prelude.{Bool, true, false, cond, ◌&&◌, ◌||◌, not, List, [], ◌∷◌, ℕ, suc, ltb, leb, eqb}
use Rattle.register.specs.declared.Assignment.{Assignment}
use Rattle.register.specs.declared.Change.{Change}
use Rattle.register.specs.declared.Change.TheVariants.{Assign, Release}
use Rattle.register.specs.declared.CellEntry.{CellEntry}
use Rattle.register.specs.declared.Figures.{Figures}

-- ---- slots: the last one is 2^63−2, and "Entries apply in slot order"
abbrev pub slot_within_limit : ℕ → Bool
slot_within_limit slot = leb slot 9223372036854775806

-- the slot is above every earlier slot within the limit
unfoldable pub above : ℕ → List CellEntry → Bool
above slot [] = true
above slot (e ∷ before) = (not (slot_within_limit e.slot) || ltb e.slot slot) && above slot before

abbrev pub is_later : List CellEntry → CellEntry → Bool
is_later before e = slot_within_limit e.slot && above e.slot before

-- the entries in slot order, without repeats, older ones and slots above the limit
unfoldable pub later_entries : List CellEntry → List CellEntry
later_entries [] = []
later_entries (e ∷ before) = cond (is_later before e) (e ∷ later_entries before) (later_entries before)

-- ---- assignments: a carrier number of E5 (0 to 3279165, the three ranges together), a "width in kHz from 1 to 400,000"
abbrev pub assignment_within_limits : Assignment → Bool
assignment_within_limits a = leb a.carrier 3279165 && leb 1 a.width && leb a.width 400000

abbrev pub change_within_limits : Change → Bool
change_within_limits (Assign a) = assignment_within_limits a
change_within_limits Release = true

-- ---- cells: the latest taken assignment or release of a cell
pub data Latest : Type 0 where
  never : Latest
  is : Change → Latest

-- it is an assignment
abbrev pub is_assigned : Latest → Bool
is_assigned never = false
is_assigned (is (Assign a)) = true
is_assigned (is Release) = false

unfoldable pub among : ℕ → List ℕ → Bool
among n [] = false
among n (m ∷ ms) = cond (eqb m n) true (among n ms)

-- the cells that the entries name, each once
unfoldable pub named_cells : List CellEntry → List ℕ
named_cells [] = []
named_cells (e ∷ before) = cond (among e.cell (named_cells before)) (named_cells before) (e.cell ∷ named_cells before)

-- how many of the numbers pass the test
unfoldable pub count_in : (ℕ → Bool) → List ℕ → ℕ
count_in test [] = 0
count_in test (n ∷ ns) = cond (test n) (suc (count_in test ns)) (count_in test ns)

-- how many cells have an assignment as their latest taken assignment or release, given the latest of each cell: these are live
abbrev pub assigned_cells : (ℕ → Latest) → List CellEntry → ℕ
assigned_cells latest before = count_in (λ n. is_assigned (latest n)) (named_cells before)

abbrev pub is_assignment : Change → Bool
is_assignment (Assign a) = true
is_assignment Release = false

abbrev pub is_release : Change → Bool
is_release (Assign a) = false
is_release Release = true

-- ---- the number of an entry, given the latest of each cell: the first cause that holds, in document 02's order. 64 is ours, for an entry that
-- "gives no number", and 0 for one that is taken.
unfoldable pub entry_number_given : (ℕ → Latest) → List CellEntry → CellEntry → ℕ
entry_number_given latest before e =
    cond (not (slot_within_limit e.slot)) 2
    (cond (not (above e.slot before)) 64
    (cond (not (change_within_limits e.change)) 14
    (cond (is_assignment e.change && not (is_assigned (latest e.cell)) && leb 512 (assigned_cells latest before)) 15
    (cond (is_release e.change && not (is_assigned (latest e.cell))) 16
    0))))

unfoldable pub is_taken_given : (ℕ → Latest) → List CellEntry → CellEntry → Bool
is_taken_given latest before e = eqb (entry_number_given latest before e) 0

-- the latest taken assignment or release of cell n
unfoldable pub latest : List CellEntry → ℕ → Latest
latest [] n = never
latest (e ∷ before) n = cond (is_taken_given (latest before) before e && eqb e.cell n) (is e.change) (latest before n)

-- the number of an entry after those before it
abbrev pub entry_number_after : List CellEntry → CellEntry → ℕ
entry_number_after before e = entry_number_given (latest before) before e

-- the entry is taken after those before it
abbrev pub is_taken : List CellEntry → CellEntry → Bool
is_taken before e = is_taken_given (latest before) before e

-- ---- the report: "Each figure is counted from the committed entries alone"
-- how many entries pass a test that may look at those before them
unfoldable pub tally : (List CellEntry → CellEntry → Bool) → List CellEntry → ℕ
tally test [] = 0
tally test (e ∷ before) = cond (test before e) (suc (tally test before)) (tally test before)

-- "assignments made": the taken assignments
abbrev pub makes : List CellEntry → CellEntry → Bool
makes before e = is_taken before e && is_assignment e.change

-- "superseded": the taken assignments whose cell's latest taken assignment or release before was an assignment
abbrev pub supersedes : List CellEntry → CellEntry → Bool
supersedes before e = makes before e && is_assigned (latest before e.cell)

-- "released": the taken releases
abbrev pub is_taken_release : List CellEntry → CellEntry → Bool
is_taken_release before e = is_taken before e && is_release e.change

abbrev pub figures_of : List CellEntry → Figures
figures_of es = record { made = tally makes es; superseded = tally supersedes es; released = tally is_taken_release es }

-- "live": the cells whose latest taken assignment or release is an assignment
abbrev pub live_cell_count : List CellEntry → ℕ
live_cell_count es = assigned_cells (latest es) es

-- The register that stands in columns of numbers (document 02, E6), and an entry given as numbers.
-- Assumes nothing.
use Rattle.std.specs.Prelude.{ℕ, min, cond, ◌≡◌, List, [], ◌∷◌, eqb, length, get_or, Result}
use Rattle.register.specs.Cells.{cell_of}
use Rattle.register.specs.Refusals.{entry_number}
use Rattle.register.specs.Register.{apply}
use Rattle.register.specs.declared.Applied.{Applied}
use Rattle.register.specs.declared.Cell.{Cell}
use Rattle.register.specs.declared.CellEntry.{CellEntry}
use Rattle.register.specs.declared.Change.{Change}
use Rattle.register.specs.declared.Change.TheVariants.{Assign, Release}
use Rattle.register.specs.declared.Entered.{Entered}
use Rattle.register.specs.declared.EntryRefusal.{EntryRefusal}
use Rattle.register.specs.declared.Figures.{Figures}
use Rattle.register.specs.declared.Register.{Register}
use Rattle.register.specs.report.Report.{page_with}
use Rattle.register_arrays.specs.declared.Columns.{Columns}

-- each column has its 512 places
abbrev pub HavePlaces : List ℕ → List ℕ → List ℕ → Type 0
HavePlaces cells carriers widths = (length cells ≡ 512) × (length carriers ≡ 512) × (length widths ≡ 512)

-- the cells of three columns: number, carrier and width
unfoldable pub cells_in : List ℕ → List ℕ → List ℕ → List Cell
cells_in (n ∷ ns) (c ∷ cs) (w ∷ ws) = cell_of n (record { carrier = c; width = w }) ∷ cells_in ns cs ws
cells_in (n ∷ ns) (c ∷ cs) [] = []
cells_in (n ∷ ns) [] ws = []
cells_in [] cs ws = []

-- the figures: next slot, made, superseded, released, live
abbrev pub figures_in : List ℕ → Figures
figures_in f = record { made = get_or f 1 0; superseded = get_or f 2 0; released = get_or f 3 0 }

abbrev pub register_of : List ℕ → List ℕ → List ℕ → List ℕ → Register
register_of cells carriers widths figures =
    record { next_slot = get_or figures 0 0; figures = figures_in figures; live_count = get_or figures 4 0; cells = cells_in cells carriers widths }

-- the register in the lent arrays
abbrev pub register_in : Columns → Register
register_in c = register_of c.cells.now c.carriers.now c.widths.now c.figures.now

-- the references to them
abbrev pub lent_arrays : Columns → List ℕ
lent_arrays c = c.cells.ghost_name ∷ c.carriers.ghost_name ∷ c.widths.ghost_name ∷ c.figures.ghost_name ∷ []

-- they are the arrays that were lent: a clause, since it compares what stood before with what stands after, where a type speaks of one of them
abbrev pub SameArrays : Columns → Columns → Type 0
SameArrays c d =
    (d.cells.ghost_name ≡ c.cells.ghost_name)
    × (d.carriers.ghost_name ≡ c.carriers.ghost_name)
    × (d.widths.ghost_name ≡ c.widths.ghost_name)
    × (d.figures.ghost_name ≡ c.figures.ghost_name)

-- what a call leaves: the outcome that it hands back, with the arrays
abbrev pub applied_in : Result Entered EntryRefusal → Columns → Applied
applied_in outcome c = record { register = register_in c; outcome = outcome }

-- kind 1 is an assignment and kind 2 a release; any other kind stands for an assignment without a width, which gives 14
unfoldable pub change_of : ℕ → ℕ → ℕ → Change
change_of kind carrier width =
    cond (eqb kind 1) (Assign (record { carrier = carrier; width = width }))
    (cond (eqb kind 2) Release
    (Assign (record { carrier = 0; width = 0 })))

abbrev pub entry_from_numbers : ℕ → ℕ → ℕ → ℕ → ℕ → CellEntry
entry_from_numbers slot kind cell carrier width = record { slot = slot; cell = cell; change = change_of kind carrier width }

-- the register after an entry, and the number of what became of it
abbrev pub after_entry : Register → CellEntry → Register × ℕ
after_entry r e = ((apply r e).register, entry_number (apply r e).outcome)

-- the bytes of the report, and the number of those that are its text
abbrev pub report_in : List ℕ → List ℕ × ℕ
report_in f = ((page_with (figures_in f) (min (get_or f 4 0) 512)).bytes, (page_with (figures_in f) (min (get_or f 4 0) 512)).len)

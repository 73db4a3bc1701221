-- A register as E6 stored it, and the register that it becomes (document 02, E7): "Stored cells keep number and assignment".
-- Assumes nothing.
use Rattle.std.specs.Prelude.{◌≡◌, List, [], ◌∷◌, map, ℕ, ◌%◌, ◌<◌, min, take}
use Rattle.register.specs.Register.{live_places, live_cells}
use Rattle.register.specs.declared.Assignment.{Assignment}
use Rattle.register.specs.declared.Cell.{Cell}
use Rattle.register.specs.declared.CellEntry.{CellEntry}
use Rattle.register.specs.declared.Register.{Register}
use Rattle.register.specs.declared.stored.StoredCell.{StoredCell}
use Rattle.register.specs.declared.stored.StoredRegister.{StoredRegister}

-- ---- what E6 stored
abbrev pub stored_cell : ℕ → Assignment → StoredCell
stored_cell n a = record { number = n; assignment = a }

-- a cell: 16 bits of its number, and its assignment
abbrev pub stored_cell_of : Cell → StoredCell
stored_cell_of c = stored_cell (c.number % 65536) c.assignment

-- a register: its next slot, its figures, its live count and each of its cells
abbrev pub stored_of : Register → StoredRegister
stored_of r = record { next_slot = r.next_slot; figures = r.figures; live_count = r.live_count; cells = map stored_cell_of r.cells }

-- the live cells of a stored register
abbrev pub stored_live_cells : StoredRegister → List StoredCell
stored_live_cells s = take (min s.live_count 512) s.cells

-- entries of E6: each cell number has 16 bits
abbrev pub OldEntries : List CellEntry → Type 0
OldEntries [] = Unit {0}
OldEntries (e ∷ es) = (e.cell < 65536) × OldEntries es

-- ---- what it becomes
abbrev pub widened_cell : StoredCell → Cell
widened_cell c = record { number = c.number; assignment = c.assignment }

abbrev pub widened : StoredRegister → Register
widened s = record { next_slot = s.next_slot; figures = s.figures; live_count = s.live_count; cells = map widened_cell s.cells }

-- ---- registers with the same live cells: what stands behind these may be anything
abbrev pub Alike : Register → Register → Type 0
Alike r q = (r.next_slot ≡ q.next_slot) × (r.figures ≡ q.figures) × (live_places r ≡ live_places q) × (live_cells r ≡ live_cells q)

abbrev pub AlikeStored : StoredRegister → StoredRegister → Type 0
AlikeStored s t =
    (s.next_slot ≡ t.next_slot) × (s.figures ≡ t.figures) × (s.live_count ≡ t.live_count) × (stored_live_cells s ≡ stored_live_cells t)

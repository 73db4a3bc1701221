-- The stored register that stands in columns of numbers (document 02, E7).
-- Assumes nothing.
use Rattle.std.specs.Prelude.{List, map, ℕ, get_or}
use Rattle.register.specs.declared.Cell.{Cell}
use Rattle.register_arrays.specs.Columns.{cells_in, figures_in}
use Rattle.register.specs.stored.Stored.{stored_cell}
use Rattle.register.specs.declared.stored.StoredCell.{StoredCell}
use Rattle.register.specs.declared.stored.StoredRegister.{StoredRegister}
use Rattle.register_arrays.specs.declared.stored.StoredColumns.{StoredColumns}

-- a cell of the columns, as a stored one
abbrev pub cell_to_store : Cell → StoredCell
cell_to_store c = stored_cell c.number c.assignment

-- number, carrier and width of each cell, and the figures: next slot, made, superseded, released, live
abbrev pub stored_in : List ℕ → List ℕ → List ℕ → List ℕ → StoredRegister
stored_in cells carriers widths figures =
    record { next_slot = get_or figures 0 0; figures = figures_in figures; live_count = get_or figures 4 0; cells = map cell_to_store (cells_in cells carriers widths) }

-- in the lent arrays
abbrev pub stored_of_columns : StoredColumns → StoredRegister
stored_of_columns c = stored_in c.cells.now c.carriers.now c.widths.now c.figures.now

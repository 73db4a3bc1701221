-- The positions that stand in an array of a host, and the cells with their positions in arrays (document 02, E11).
-- Assumes nothing.
use Rattle.std.specs.Prelude.{◌≡◌, cond, ℕ, pos, eqb, List, map, Option, Some, None, Result}
use Rattle.register.specs.declared.Entered.{Entered}
use Rattle.register_arrays.specs.Columns.{entry_from_numbers, register_in}
use Rattle.register_arrays.specs.declared.Columns.{Columns}
use Rattle.group_register.specs.GroupRegister.{group_register}
use Rattle.register_arrays.specs.in_group.GroupColumns.{settings_in, group_in}
use Rattle.positions.specs.Placed.{register_with_positions, placed_applied}
use Rattle.positions.specs.declared.PlacedEntry.{PlacedEntry}
use Rattle.positions.specs.declared.PlacedEntry.TheVariants.{OfCell, OfPosition}
use Rattle.positions.specs.declared.PlacedApplied.{PlacedApplied}
use Rattle.positions.specs.declared.PlacedRegister.{PlacedRegister}
use Rattle.positions.specs.declared.Position.{Position}
use Rattle.positions.specs.declared.PositionRefusal.{PositionRefusal}
use Rattle.register_arrays.specs.declared.positioned.CellPosition.{CellPosition}
use Rattle.register_arrays.specs.declared.positioned.LentCells.{LentCells}
use Rattle.register_arrays.specs.declared.positioned.PositionRow.{PositionRow}

-- 0 is none; with any other number x and y are the position
abbrev pub position_at : CellPosition → Option Position
position_at c = cond (eqb c.given 0) None (Some (record { x = c.x; y = c.y }))

abbrev pub positions_in : List CellPosition → List (Option Position)
positions_in row = map position_at row

-- a position in numbers: zeros where there is none
abbrev pub in_numbers : Option Position → CellPosition
in_numbers None = record { given = 0; x = pos 0; y = pos 0 }
in_numbers (Some p) = record { given = 1; x = p.x; y = p.y }

-- the numbers of an array are those that its positions have, and no others
abbrev pub Plain : List CellPosition → Type 0
Plain row = map in_numbers (positions_in row) ≡ row

-- the register in the lent arrays
abbrev pub placed_register_of : List ℕ → Columns → PositionRow → PlacedRegister
placed_register_of settings c row = register_with_positions (group_register (settings_in settings) (register_in c)) (positions_in row.cells.now)

-- what a call leaves: the outcome that it hands back, with the arrays
abbrev pub placed_applied_in : List ℕ → Columns → PositionRow → Result Entered PositionRefusal → PlacedApplied
placed_applied_in settings c row outcome = placed_applied (group_register (settings_in settings) (register_in c)) (positions_in row.cells.now) outcome

-- the register in arrays that are lent to be read
abbrev pub placed_in : LentCells → PlacedRegister
placed_in c = register_with_positions (group_in c.settings.now c.cells.now c.carriers.now c.widths.now c.figures.now) (positions_in c.positions.now)

-- kind 3 is a position, kind 1 an assignment and kind 2 a release; any other kind stands for an assignment without a width, which gives 14
unfoldable pub placed_entry_of : ℕ → ℕ → ℕ → ℕ → ℕ → Position → PlacedEntry
placed_entry_of slot kind cell carrier width p =
    cond (eqb kind 3) (OfPosition (record { slot = slot; cell = cell; position = p })) (OfCell (entry_from_numbers slot kind cell carrier width))

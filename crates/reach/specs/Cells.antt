-- The live cells of a register with positions (document 02, E11).
-- Assumes nothing.
use Rattle.std.specs.Prelude.{List, [], ◌∷◌, Option}
use Rattle.register.specs.Register.{live_cells}
use Rattle.register.specs.declared.Cell.{Cell}
use Rattle.positions.specs.declared.PlacedRegister.{PlacedRegister}
use Rattle.positions.specs.declared.Position.{Position}
use Rattle.reach.specs.declared.PlacedCell.{PlacedCell}

abbrev pub placed_cell : Cell → Option Position → PlacedCell
placed_cell c p = record { number = c.number; assignment = c.assignment; position = p }

-- each with the position of its place
unfoldable pub placed_cells : List Cell → List (Option Position) → List PlacedCell
placed_cells (c ∷ cs) (p ∷ ps) = placed_cell c p ∷ placed_cells cs ps
placed_cells (c ∷ cs) [] = []
placed_cells [] ps = []

abbrev pub cells_of : PlacedRegister → List PlacedCell
cells_of p = placed_cells (live_cells p.group.register) p.positions

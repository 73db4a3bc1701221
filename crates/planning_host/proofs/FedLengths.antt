-- "Slices of unequal length" of what a host feeds (document 02, E10 and E11): which slices are asked for their length, each by its name.
-- Assumes nothing.
use Rattle.std.specs.Prelude.{◌≡◌, [], ◌∷◌, length}
use mathlib.Core.Path.{refl}
use Rattle.feeding.specs.Registers.{FedList, PlacedColumns, cell_register, placed_register}

pub cell_slices : (l : FedList) → cell_register.lengths l ≡ length l.kinds ∷ length l.cells ∷ length l.carriers ∷ length l.widths ∷ []
cell_slices l = refl

pub placed_slices : (l : PlacedColumns)
    → placed_register.lengths l
    ≡ length l.xs ∷ length l.ys ∷ length l.cells.kinds ∷ length l.cells.cells ∷ length l.cells.carriers ∷ length l.cells.widths ∷ []
placed_slices l = refl

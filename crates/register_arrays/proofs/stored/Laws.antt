-- A stored register in columns becomes the register that stands in the same columns: no number moves.
-- Assumes nothing.
use mathlib.Core.Path.{◌≡◌, refl, ap}
use mathlib.Core.List.{List, [], ◌∷◌, map}
use Prim.Native.Nat.{ℕ}
use lib.ListN.{get_or}
use Rattle.register.specs.declared.Cell.{Cell}
use Rattle.register.specs.declared.Register.{Register}
use Rattle.register_arrays.specs.Columns.{cells_in, figures_in, register_of}
use Rattle.register.specs.stored.Stored.{widened_cell, widened}
use Rattle.register_arrays.specs.stored.Columns.{cell_to_store, stored_in}

cells_same : (l : List Cell) → map widened_cell (map cell_to_store l) ≡ l
cells_same [] = refl
cells_same (c ∷ cs) = ap (λ (l : List Cell). c ∷ l) (cells_same cs)

pub same_numbers : (cells carriers widths figures : List ℕ) → widened (stored_in cells carriers widths figures) ≡ register_of cells carriers widths figures
same_numbers cells carriers widths figures =
    ap (λ (l : List Cell). register_with l) (cells_same (cells_in cells carriers widths))
  where
    register_with : List Cell → Register
    register_with l = record { next_slot = get_or figures 0 0; figures = figures_in figures; live_count = get_or figures 4 0; cells = l }

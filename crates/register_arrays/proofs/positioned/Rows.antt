-- The positions of an array after one is put, comes in or goes, and the cells with their positions in arrays.
-- Assumes nothing.
use mathlib.Core.Path.{◌≡◌, refl, sym, ap, ap₂, ◌∙◌}
use mathlib.Core.List.{List, [], ◌∷◌, ◌++◌}
use Prim.Native.Nat.{ℕ, zero, suc, min, ◌<◌}
use native.Mathlib.Omega.{arith}
use lib.ListN.{length, get_or, set, take, drop, length-map}
use Rattle.std.specs.Prelude.{Option, Some, None, map}
use Rattle.std.proofs.lemmas.List.{map-set, take-map, drop-map}
use lib.IntN.{pos}
use Rattle.basics.specs.elements.Places.{at_front, without, with_at}
use Rattle.register.specs.Cells.{cell_of}
use Rattle.register.specs.declared.Cell.{Cell}
use Rattle.register_arrays.specs.Columns.{cells_in}
use Rattle.register_arrays.proofs.Searching.{register_long}
use Rattle.positions.specs.declared.Position.{Position}
use Rattle.reach.specs.Cells.{placed_cell, placed_cells}
use Rattle.reach.specs.declared.PlacedCell.{PlacedCell}
use Rattle.reach.proofs.Cells.{live_length, live_within, live_at}
use Rattle.register_arrays.specs.positioned.Row.{position_at, positions_in, in_numbers, Plain}
use Rattle.register_arrays.specs.declared.positioned.CellPosition.{CellPosition}

pub position_read : (row : List CellPosition) (at : ℕ) (c : CellPosition) → at < length row → position_at (get_or row at c) ≡ get_or (positions_in row) at None
position_read [] at c h = absurd (omega arith)
position_read (x ∷ row) zero c h = refl
position_read (x ∷ row) (suc at) c h = position_read row at c (omega arith)

pub position_put : (row : List CellPosition) (at : ℕ) (c : CellPosition) (p : Position) → position_at c ≡ Some p
    → positions_in (set row at c) ≡ set (positions_in row) at (Some p)
position_put row at c p e = map-set position_at row at c ∙ ap (λ (x : Option Position). set (positions_in row) at x) e

-- ---- a list that is put together, each of its elements taken to another
module _ {A B : Type 0} (f : A → B) where
  map_both : (xs ys : List A) → map f (xs ++ ys) ≡ map f xs ++ map f ys
  map_both [] ys = refl
  map_both (x ∷ xs) ys = ap (λ (l : List B). f x ∷ l) (map_both xs ys)

  map_front : (l row : List A) → map f (at_front l row) ≡ at_front (map f l) (map f row)
  unfolding at_front
  map_front l row =
      map_both l (drop (length l) row)
      ∙ ap (λ (ps : List B). map f l ++ ps) (sym (drop-map f (length l) row) ∙ ap (λ (k : ℕ). drop k (map f row)) (sym (length-map l f)))

  map_with : (l : List A) (at : ℕ) (c : A) → map f (with_at at c l) ≡ with_at at (f c) (map f l)
  unfolding with_at
  map_with l at c =
      map_both (take at l) (c ∷ drop at l) ∙ ap₂ (λ (a b : List B). a ++ f c ∷ b) (sym (take-map f at l)) (sym (drop-map f at l))

  map_without : (l : List A) (at : ℕ) → map f (without at l) ≡ without at (map f l)
  unfolding without
  map_without l at =
      map_both (take at l) (drop (suc at) l) ∙ ap₂ (λ (a b : List B). a ++ b) (sym (take-map f at l)) (sym (drop-map f (suc at) l))

  module _ (row : List A) (at places : ℕ) where
    map_inserted : (c : A) → map f (at_front (with_at at c (take places row)) row) ≡ at_front (with_at at (f c) (take places (map f row))) (map f row)
    map_inserted c =
        map_front (with_at at c (take places row)) row
        ∙ ap (λ (ps : List B). at_front ps (map f row))
        (map_with (take places row) at c ∙ ap (λ (ps : List B). with_at at (f c) ps) (sym (take-map f places row)))

    map_removed : map f (at_front (without at (take places row)) row) ≡ at_front (without at (take places (map f row))) (map f row)
    map_removed =
        map_front (without at (take places row)) row
        ∙ ap (λ (ps : List B). at_front ps (map f row))
        (map_without (take places row) at ∙ ap (λ (ps : List B). without at ps) (sym (take-map f places row)))

module _ (row : List CellPosition) (at places : ℕ) where
  pub positions_inserted : (c : CellPosition) → position_at c ≡ None
      → positions_in (at_front (with_at at c (take places row)) row) ≡ at_front (with_at at None (take places (positions_in row))) (positions_in row)
  positions_inserted c none =
      map_inserted position_at row at places c
      ∙ ap (λ (p : Option Position). at_front (with_at at p (take places (positions_in row))) (positions_in row)) none

  pub positions_removed : positions_in (at_front (without at (take places row)) row) ≡ at_front (without at (take places (positions_in row))) (positions_in row)
  positions_removed = map_removed position_at row at places

  -- ---- and its numbers are still those of its positions

  pub plain_put : (p : Position) → Plain row → Plain (set row at (in_numbers (Some p)))
  plain_put p plain =
      ap (map in_numbers) (position_put row at (in_numbers (Some p)) p refl)
      ∙ map-set in_numbers (positions_in row) at (Some p)
      ∙ ap (λ (r : List CellPosition). set r at (in_numbers (Some p))) plain

  pub plain_inserted : Plain row → Plain (at_front (with_at at (in_numbers None) (take places row)) row)
  plain_inserted plain =
      ap (map in_numbers) (positions_inserted (in_numbers None) refl)
      ∙ map_inserted in_numbers (positions_in row) at places None
      ∙ ap (λ (r : List CellPosition). at_front (with_at at (in_numbers None) (take places r)) r) plain

  pub plain_removed : Plain row → Plain (at_front (without at (take places row)) row)
  plain_removed plain =
      ap (map in_numbers) positions_removed
      ∙ map_removed in_numbers (positions_in row) at places
      ∙ ap (λ (r : List CellPosition). at_front (without at (take places r)) r) plain

-- so arrays with equal positions are equal, number by number
pub plain_equal : (one other : List CellPosition) → Plain one → Plain other → positions_in one ≡ positions_in other → one ≡ other
plain_equal one other p q same = sym p ∙ ap (map in_numbers) same ∙ q

-- ---- cells with their positions, in arrays
module _ (ns cs ws figures : List ℕ) (row : List CellPosition) (places : (length ns ≡ 512) × (length cs ≡ 512) × (length ws ≡ 512) × (length row ≡ 512)) where
  abbrev cells : List Cell
  cells = cells_in ns cs ws

  abbrev live : List PlacedCell
  live = placed_cells (take (min (get_or figures 4 0) 512) cells) (positions_in row)

  cells_long : length cells ≡ 512
  cells_long = register_long ns cs ws figures (places.0, places.1, places.2)

  row_long : length (positions_in row) ≡ 512
  row_long = length-map row position_at ∙ places.3

  pub lent_live : min (get_or figures 4 0) 512 ≡ length live
  lent_live = live_length cells (positions_in row) (get_or figures 4 0) cells_long row_long

  pub lent_within : (at : ℕ) → at < length live → at < 512
  lent_within at within = live_within cells (positions_in row) (get_or figures 4 0) cells_long row_long at within

  pub lent_cell : (at : ℕ) → at < length live → (p : Option Position) → p ≡ position_at (get_or row at (record { given = 0; x = pos 0; y = pos 0 }))
      → (other : PlacedCell)
      → record { number = get_or ns at 0; assignment = record { carrier = get_or cs at 0; width = get_or ws at 0 }; position = p } ≡ get_or live at other
  unfolding cells_in
  lent_cell at within p is other =
      ap₂ (λ (c : Cell) (x : Option Position). placed_cell c x) (same ns cs ws at (omega (arith, places)) (omega (arith, places)))
      (is ∙ position_read row at (record { given = 0; x = pos 0; y = pos 0 }) (omega (arith, lent_within at within, places.3)))
      ∙ live_at cells (positions_in row) (get_or figures 4 0) cells_long row_long at within (cell_of 0 (record { carrier = 0; width = 0 })) None other
    where
      none : Cell
      none = cell_of 0 (record { carrier = 0; width = 0 })

      same : (ns cs ws : List ℕ) (at : ℕ) → length cs ≡ length ns → length ws ≡ length ns
          → cell_of (get_or ns at 0) (record { carrier = get_or cs at 0; width = get_or ws at 0 }) ≡ get_or (cells_in ns cs ws) at none
      same [] [] [] at h k = refl
      same [] [] (w ∷ ws) at h k = absurd (omega arith)
      same [] (c ∷ cs) ws at h k = absurd (omega arith)
      same (n ∷ ns) [] ws at h k = absurd (omega arith)
      same (n ∷ ns) (c ∷ cs) [] at h k = absurd (omega arith)
      same (n ∷ ns) (c ∷ cs) (w ∷ ws) zero h k = refl
      same (n ∷ ns) (c ∷ cs) (w ∷ ws) (suc at) h k = same ns cs ws at (omega arith) (omega arith)

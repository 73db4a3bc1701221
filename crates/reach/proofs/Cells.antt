-- The live cells with their positions.
-- Assumes nothing.
use mathlib.Core.Path.{◌≡◌, refl, sym, ap, ◌∙◌}
use mathlib.Core.List.{List, [], ◌∷◌}
use Prim.Native.Nat.{ℕ, zero, suc, min, ◌≤◌, ◌<◌}
use native.Mathlib.Omega.{arith}
use lib.ListN.{length, get_or, take, length-take}
use lib.Seq.{get_or-take}
use Rattle.std.specs.Prelude.{Option}
use Rattle.register.specs.declared.Cell.{Cell}
use Rattle.positions.specs.declared.Position.{Position}
use Rattle.reach.specs.Cells.{placed_cell, placed_cells}
use Rattle.reach.specs.declared.PlacedCell.{PlacedCell}

placed_length : (cs : List Cell) (ps : List (Option Position)) → length cs ≤ length ps → length (placed_cells cs ps) ≡ length cs
unfolding placed_cells
placed_length [] ps h = refl
placed_length (c ∷ cs) [] h = absurd (omega arith)
placed_length (c ∷ cs) (p ∷ ps) h = ap suc (placed_length cs ps (omega arith))

placed_at : (cs : List Cell) (ps : List (Option Position)) (at : ℕ) (c : Cell) (p : Option Position) (other : PlacedCell) → length cs ≤ length ps
    → at < length cs
    → placed_cell (get_or cs at c) (get_or ps at p) ≡ get_or (placed_cells cs ps) at other
unfolding placed_cells
placed_at [] ps at c p other h k = absurd (omega arith)
placed_at (d ∷ cs) [] at c p other h k = absurd (omega arith)
placed_at (d ∷ cs) (q ∷ ps) zero c p other h k = refl
placed_at (d ∷ cs) (q ∷ ps) (suc at) c p other h k = placed_at cs ps at c p other (omega arith) (omega arith)

-- ---- of the live cells, which stand in the first places
module _ (cells : List Cell) (ps : List (Option Position)) (live : ℕ) (places : length cells ≡ 512) (long : length ps ≡ 512) where
  abbrev front : List Cell
  front = take (min live 512) cells

  front_long : length front ≡ min live 512
  front_long = length-take (min live 512) cells ∙ omega (arith, places)

  pub live_length : min live 512 ≡ length (placed_cells front ps)
  live_length = sym (placed_length front ps (omega (arith, front_long, long)) ∙ front_long)

  module _ (at : ℕ) (within : at < length (placed_cells front ps)) where
    pub live_within : at < 512
    live_within = omega (arith, live_length)

    pub live_at : (c : Cell) (p : Option Position) (other : PlacedCell)
        → placed_cell (get_or cells at c) (get_or ps at p) ≡ get_or (placed_cells front ps) at other
    live_at c p other =
        ap (λ (x : Cell). placed_cell x (get_or ps at p)) (sym (get_or-take (min live 512) cells at c (omega (arith, live_length))))
        ∙ placed_at front ps at c p other (omega (arith, front_long, long)) (omega (arith, front_long, live_length))

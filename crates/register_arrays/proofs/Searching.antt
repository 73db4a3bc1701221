-- The search looks at the column of numbers alone, and finds the place that it has among the cells.
-- Assumes nothing.
use Prim.Native.Nat.{ℕ, zero, suc}
use mathlib.Core.Bool.{Bool, cond}
use mathlib.Core.Path.{◌≡◌, refl, ap, ◌∙◌}
use mathlib.Core.List.{List, [], ◌∷◌}
use native.Mathlib.Omega.{arith}
use lib.Dec.{leb, eqb}
use lib.ListN.{length, take}
use Rattle.register.specs.Cells.{has_number, number_place, number_of_cell, is_live_cell, cell_place, found}
use Rattle.register.specs.Register.{live_places, live_cells}
use Rattle.std.specs.Prelude.{Result}
use Rattle.register_arrays.specs.Columns.{HavePlaces, cells_in, register_of}
use Rattle.register_arrays.proofs.Levels.{Level, below, level, cells_length}

module _ (n : ℕ) where
  place_same : (k : ℕ) (ns cs ws : List ℕ) → Level ns cs ws → number_place (λ (m : ℕ). m) n (take k ns) ≡ cell_place n (take k (cells_in ns cs ws))
  unfolding cells_in number_place
  place_same zero ns cs ws h = refl
  place_same (suc k) [] cs ws h = refl
  place_same (suc k) (m ∷ ns) [] ws h = absurd (omega (arith, h.carriers))
  place_same (suc k) (m ∷ ns) (c ∷ cs) [] h = absurd (omega (arith, h.widths))
  place_same (suc k) (m ∷ ns) (c ∷ cs) (w ∷ ws) h =
      ap (λ (i : ℕ). cond (leb n m) 0 (suc i)) (place_same k ns cs ws (below m c w ns cs ws h))

  live_same : (k : ℕ) (ns cs ws : List ℕ) → Level ns cs ws → has_number (λ (m : ℕ). m) n (take k ns) ≡ is_live_cell n (take k (cells_in ns cs ws))
  unfolding cells_in has_number
  live_same zero ns cs ws h = refl
  live_same (suc k) [] cs ws h = refl
  live_same (suc k) (m ∷ ns) [] ws h = absurd (omega (arith, h.carriers))
  live_same (suc k) (m ∷ ns) (c ∷ cs) [] h = absurd (omega (arith, h.widths))
  live_same (suc k) (m ∷ ns) (c ∷ cs) (w ∷ ws) h =
      ap (λ (t : Bool). cond (leb n m) (eqb m n) t) (live_same k ns cs ws (below m c w ns cs ws h))

  pub found_in_cells : (k : ℕ) (ns cs ws : List ℕ) → Level ns cs ws → found (λ (m : ℕ). m) n (take k ns) ≡ found number_of_cell n (take k (cells_in ns cs ws))
  found_in_cells k ns cs ws h = simp (place_same k ns cs ws h, live_same k ns cs ws h)

-- ---- in the words of the register that the arrays stand for
module _ (ns cs ws figures : List ℕ) (h : HavePlaces ns cs ws) where
  pub register_long : length (register_of ns cs ws figures).cells ≡ 512
  register_long = cells_length ns cs ws (level ns cs ws h) ∙ h.0

  pub found_live : (n k : ℕ) → k ≡ live_places (register_of ns cs ws figures) → (f : Result ℕ ℕ) → f ≡ found (λ (m : ℕ). m) n (take k ns)
      → f ≡ found number_of_cell n (live_cells (register_of ns cs ws figures))
  found_live n k live f is = is ∙ found_in_cells n k ns cs ws (level ns cs ws h) ∙ ap (λ (m : ℕ). found number_of_cell n (take m (cells_in ns cs ws))) live

-- Three columns of one length are changed in the same way where the cells that stand in them are.
-- Assumes nothing.
use Prim.Native.Nat.{ℕ, zero, suc}
use mathlib.Core.Path.{◌≡◌, refl, ap, ◌∙◌}
use mathlib.Core.List.{List, [], ◌∷◌, ◌++◌}
use native.Mathlib.Omega.{arith}
use lib.ListN.{length, set, take, drop, replicate, length-take, length-drop, length-append}
use Rattle.basics.specs.elements.Places.{at_front, without, with_at}
use Rattle.register.specs.Cells.{cell_of}
use Rattle.register.specs.declared.Assignment.{Assignment}
use Rattle.register.specs.declared.Cell.{Cell}
use Rattle.register_arrays.specs.Columns.{HavePlaces, cells_in}

-- the columns are of one length
pub record Level (ns cs ws : List ℕ) : Type 0 where
  pub carriers : length cs ≡ length ns
  pub widths : length ws ≡ length ns

pub level : (ns cs ws : List ℕ) → HavePlaces ns cs ws → Level ns cs ws
level ns cs ws h = record { carriers = omega (arith, h.0, h.1); widths = omega (arith, h.0, h.2) }

abbrev cell : ℕ → ℕ → ℕ → Cell
cell n c w = cell_of n (record { carrier = c; width = w })

pub below : (n c w : ℕ) (ns cs ws : List ℕ) → Level (n ∷ ns) (c ∷ cs) (w ∷ ws) → Level ns cs ws
below n c w ns cs ws h = record { carriers = omega (arith, h.carriers); widths = omega (arith, h.widths) }

pub cells_length : (ns cs ws : List ℕ) → Level ns cs ws → length (cells_in ns cs ws) ≡ length ns
unfolding cells_in
cells_length [] cs ws h = refl
cells_length (n ∷ ns) [] ws h = absurd (omega (arith, h.carriers))
cells_length (n ∷ ns) (c ∷ cs) [] h = absurd (omega (arith, h.widths))
cells_length (n ∷ ns) (c ∷ cs) (w ∷ ws) h = ap suc (cells_length ns cs ws (below n c w ns cs ws h))

cells_append : (ns cs ws : List ℕ) (ms ds vs : List ℕ) → Level ns cs ws → cells_in (ns ++ ms) (cs ++ ds) (ws ++ vs) ≡ cells_in ns cs ws ++ cells_in ms ds vs
unfolding cells_in
cells_append [] [] [] ms ds vs h = refl
cells_append [] (c ∷ cs) ws ms ds vs h = absurd (omega (arith, h.carriers))
cells_append [] [] (w ∷ ws) ms ds vs h = absurd (omega (arith, h.widths))
cells_append (n ∷ ns) [] ws ms ds vs h = absurd (omega (arith, h.carriers))
cells_append (n ∷ ns) (c ∷ cs) [] ms ds vs h = absurd (omega (arith, h.widths))
cells_append (n ∷ ns) (c ∷ cs) (w ∷ ws) ms ds vs h =
    ap (λ (l : List Cell). cell n c w ∷ l) (cells_append ns cs ws ms ds vs (below n c w ns cs ws h))

cells_take : (k : ℕ) (ns cs ws : List ℕ) → Level ns cs ws → cells_in (take k ns) (take k cs) (take k ws) ≡ take k (cells_in ns cs ws)
unfolding cells_in
cells_take zero ns cs ws h = refl
cells_take (suc k) [] cs ws h = refl
cells_take (suc k) (n ∷ ns) [] ws h = absurd (omega (arith, h.carriers))
cells_take (suc k) (n ∷ ns) (c ∷ cs) [] h = absurd (omega (arith, h.widths))
cells_take (suc k) (n ∷ ns) (c ∷ cs) (w ∷ ws) h = ap (λ (l : List Cell). cell n c w ∷ l) (cells_take k ns cs ws (below n c w ns cs ws h))

cells_drop : (k : ℕ) (ns cs ws : List ℕ) → Level ns cs ws → cells_in (drop k ns) (drop k cs) (drop k ws) ≡ drop k (cells_in ns cs ws)
unfolding cells_in
cells_drop zero ns cs ws h = refl
cells_drop (suc k) [] cs ws h = refl
cells_drop (suc k) (n ∷ ns) [] ws h = absurd (omega (arith, h.carriers))
cells_drop (suc k) (n ∷ ns) (c ∷ cs) [] h = absurd (omega (arith, h.widths))
cells_drop (suc k) (n ∷ ns) (c ∷ cs) (w ∷ ws) h = cells_drop k ns cs ws (below n c w ns cs ws h)

-- where a column is shorter than the others, a place behind its end is no cell's
pub cells_set : (k : ℕ) (n : ℕ) (a : Assignment) (ns cs ws : List ℕ)
    → cells_in (set ns k n) (set cs k a.carrier) (set ws k a.width) ≡ set (cells_in ns cs ws) k (cell_of n a)
unfolding cells_in
cells_set k n a [] cs ws = refl
cells_set zero n a (m ∷ ns) [] ws = refl
cells_set (suc k) n a (m ∷ ns) [] ws = refl
cells_set zero n a (m ∷ ns) (c ∷ cs) [] = refl
cells_set (suc k) n a (m ∷ ns) (c ∷ cs) [] = refl
cells_set zero n a (m ∷ ns) (c ∷ cs) (w ∷ ws) = refl
cells_set (suc k) n a (m ∷ ns) (c ∷ cs) (w ∷ ws) = ap (λ (l : List Cell). cell m c w ∷ l) (cells_set k n a ns cs ws)

pub cells_replicate : (k : ℕ) → cells_in (replicate k 0) (replicate k 0) (replicate k 0) ≡ replicate k (cell 0 0 0)
unfolding cells_in
cells_replicate zero = refl
cells_replicate (suc k) = ap (λ (l : List Cell). cell 0 0 0 ∷ l) (cells_replicate k)

level_take : (k : ℕ) (ns cs ws : List ℕ) → Level ns cs ws → Level (take k ns) (take k cs) (take k ws)
level_take k ns cs ws h =
    record { carriers = simp length-take (omega (arith, h.carriers)); widths = simp length-take (omega (arith, h.widths)) }

level_drop : (k : ℕ) (ns cs ws : List ℕ) → Level ns cs ws → Level (drop k ns) (drop k cs) (drop k ws)
level_drop k ns cs ws h =
    record { carriers = simp length-drop (omega (arith, h.carriers)); widths = simp length-drop (omega (arith, h.widths)) }

level_append : (ns cs ws ms ds vs : List ℕ) → Level ns cs ws → Level ms ds vs → Level (ns ++ ms) (cs ++ ds) (ws ++ vs)
level_append ns cs ws ms ds vs h k =
    record {
      carriers = simp length-append (omega (arith, h.carriers, k.carriers));
      widths = simp length-append (omega (arith, h.widths, k.widths));
    }

cells_front : (ns cs ws ms ds vs : List ℕ) → Level ns cs ws → Level ms ds vs
    → cells_in (at_front ns ms) (at_front cs ds) (at_front ws vs) ≡ at_front (cells_in ns cs ws) (cells_in ms ds vs)
unfolding at_front
cells_front ns cs ws ms ds vs h k =
    simp (h.carriers, h.widths, cells_append ns cs ws (drop (length ns) ms) (drop (length ns) ds) (drop (length ns) vs) h, cells_drop (length ns) ms ds vs k, cells_length ns cs ws h)

-- ---- a cell more, and a cell less, in the first k places
module _ (at k : ℕ) (ns cs ws : List ℕ) (h : Level ns cs ws) where
  short : Level (take k ns) (take k cs) (take k ws)
  short = level_take k ns cs ws h

  pub cells_inserted : (n : ℕ) (a : Assignment)
      → cells_in (at_front (with_at at n (take k ns)) ns) (at_front (with_at at a.carrier (take k cs)) cs) (at_front (with_at at a.width (take k ws)) ws)
      ≡ at_front (with_at at (cell_of n a) (take k (cells_in ns cs ws))) (cells_in ns cs ws)
  unfolding with_at cells_in
  cells_inserted n a =
      let first = level_take at (take k ns) (take k cs) (take k ws) short in
      let last = level_drop at (take k ns) (take k cs) (take k ws) short in
      let more : Level (n ∷ drop at (take k ns)) (a.carrier ∷ drop at (take k cs)) (a.width ∷ drop at (take k ws)) =
      record { carriers = omega (arith, last.carriers); widths = omega (arith, last.widths) } in
      cells_front _ _ _ ns cs ws (level_append _ _ _ _ _ _ first more) h
      ∙ simp (
        cells_append (take at (take k ns)) (take at (take k cs)) (take at (take k ws)) (n ∷ drop at (take k ns)) (a.carrier ∷ drop at (take k cs)) (a.width ∷ drop at (take k ws)) first,
        cells_take at (take k ns) (take k cs) (take k ws) short,
        cells_drop at (take k ns) (take k cs) (take k ws) short,
        cells_take k ns cs ws h,
      )

  pub cells_removed :
      cells_in (at_front (without at (take k ns)) ns) (at_front (without at (take k cs)) cs) (at_front (without at (take k ws)) ws)
      ≡ at_front (without at (take k (cells_in ns cs ws))) (cells_in ns cs ws)
  unfolding without
  cells_removed =
      let first = level_take at (take k ns) (take k cs) (take k ws) short in
      let last = level_drop (suc at) (take k ns) (take k cs) (take k ws) short in
      cells_front _ _ _ ns cs ws (level_append _ _ _ _ _ _ first last) h
      ∙ simp (
        cells_append (take at (take k ns)) (take at (take k cs)) (take at (take k ws)) (drop (suc at) (take k ns)) (drop (suc at) (take k cs)) (drop (suc at) (take k ws)) first,
        cells_take at (take k ns) (take k cs) (take k ws) short,
        cells_drop (suc at) (take k ns) (take k cs) (take k ws) short,
        cells_take k ns cs ws h,
      )

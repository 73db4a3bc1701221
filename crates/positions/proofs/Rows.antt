-- The positions beside a list of cells: which one a cell has after the cells and the positions changed at the same place.
-- Assumes nothing.
use mathlib.Core.Path.{◌≡◌, refl, sym, ap, ap₂}
use mathlib.Core.Bool.{Bool, true, false, cond}
use mathlib.Core.List.{List, [], ◌∷◌, ◌++◌}
use mathlib.Core.Logic.{◌⊎◌, inl, inr}
use Prim.Native.Nat.{ℕ, suc, ◌+◌, ◌≤◌, ◌<◌}
use native.Mathlib.Omega.{arith}
use lib.Dec.{leb, eqb}
use lib.ListN.{length, get_or, set, take, drop}
use lib.Seq.{get_or-take}
use Rattle.std.proofs.lemmas.List.{get_or_append_left}
use borrow.Author.Tests.{eqb-true, eqb-false, eq-eqb, ne_eqb, leb-true, leb-false, le-leb}
use Rattle.std.specs.Prelude.{Option, None}
use Rattle.basics.proofs.Tests.{either, not_both}
use Rattle.basics.specs.elements.Places.{at_front, without, with_at}
use Rattle.register.specs.Cells.{has_number, number_place, is_live_cell, cell_place, cell_reassigned, cell_inserted, cell_removed}
use Rattle.register.specs.History.{RisingCells}
use Rattle.register.specs.declared.Assignment.{Assignment}
use Rattle.register.specs.declared.Cell.{Cell}
use Rattle.register.proofs.Places.{live_within}
use Rattle.positions.specs.declared.Position.{Position}

abbrev Positions : Type 0
Positions = List (Option Position)

-- the position of live cell m, and none of a cell that is not live
abbrev pub position_of_cell : List Cell → List (Option Position) → ℕ → Option Position
position_of_cell cs ps m = cond (is_live_cell m cs) (get_or ps (cell_place m cs) None) None

-- ---- a row in whose first places they stand
same_place : (cs : List Cell) (ps qs : List (Option Position)) (m : ℕ) → ((i : ℕ) → i < length cs → get_or ps i None ≡ get_or qs i None)
    → position_of_cell cs ps m ≡ position_of_cell cs qs m
same_place cs ps qs m same = go (is_live_cell m cs) refl
  where
    go : (t : Bool) → is_live_cell m cs ≡ t → cond t (get_or ps (cell_place m cs) None) None ≡ cond t (get_or qs (cell_place m cs) None) None
    go true h = same (cell_place m cs) (live_within m cs h)
    go false h = refl

pub put_in_front : (cs : List Cell) (l ps : List (Option Position)) (m : ℕ) → length cs ≤ length l → position_of_cell cs (at_front l ps) m ≡ position_of_cell cs l m
unfolding at_front
put_in_front cs l ps m h = same_place cs (l ++ drop (length l) ps) l m (λ i k. get_or_append_left l (drop (length l) ps) None i (omega arith))

pub in_take : (cs : List Cell) (n : ℕ) (ps : List (Option Position)) (m : ℕ) → length cs ≤ n → position_of_cell cs (take n ps) m ≡ position_of_cell cs ps m
in_take cs n ps m h = same_place cs (take n ps) ps m (λ i k. get_or-take n ps i None (omega arith))

-- ---- one cell
module _ (n m : ℕ) where
  -- a new cell, with no position beside it
  pub in_inserted : (a : Assignment) (cs : List Cell) (q : List (Option Position)) → length q ≡ length cs
      → position_of_cell (cell_inserted n a cs) (with_at (cell_place n cs) None q) m ≡ cond (eqb n m) None (position_of_cell cs q m)
  unfolding cell_inserted with_at has_number number_place
  in_inserted a [] [] h = go (leb m n) (eqb n m)
    where
      go : (t u : Bool) → cond (cond t u false) (get_or {A = Option Position} (None ∷ []) (cond t 0 1) None) None ≡ cond u None None
      go true true = refl
      go true false = refl
      go false true = refl
      go false false = refl
  in_inserted a [] (p ∷ q) h = absurd (omega arith)
  in_inserted a (c ∷ cs) [] h = absurd (omega arith)
  in_inserted a (c ∷ cs) (p ∷ q) h =
      go (either (leb n c.number)) (either (leb m n)) (either (eqb n m)) (either (leb m c.number)) (in_inserted a cs q (omega arith))
    where
      Told : List Cell → List (Option Position) → List Cell → List (Option Position) → Type 0
      Told new ps old qs = position_of_cell new ps m ≡ cond (eqb n m) None (position_of_cell old qs m)

      go : (leb n c.number ≡ true) ⊎ (leb n c.number ≡ false) → (leb m n ≡ true) ⊎ (leb m n ≡ false) → (eqb n m ≡ true) ⊎ (eqb n m ≡ false)
          → (leb m c.number ≡ true) ⊎ (leb m c.number ≡ false)
          → Told (cell_inserted n a cs) (with_at (cell_place n cs) None q) cs q
          → Told (cell_inserted n a (c ∷ cs)) (with_at (cell_place n (c ∷ cs)) None (p ∷ q)) (c ∷ cs) (p ∷ q)
      go (inl e) (inl f) (inl g) k rest = simp (e, f, g)
      go (inl e) (inl f) (inr g) k rest =
          let x = leb-true n c.number e in
          let y = leb-true m n f in
          let z = eqb-false n m g in
          let s : c.number ≡ m → ⊥ = λ w. z (omega arith) in
          simp (e, f, g, le-leb m c.number (omega arith), ne_eqb c.number m s)
      go (inl e) (inr f) (inl g) k rest = absurd (let x = eqb-true n m g in let y = leb-false m n f in omega arith)
      go (inl e) (inr f) (inr g) k rest = simp (e, f, g)
      go (inr e) f (inl g) (inl k) rest = absurd (let x = eqb-true n m g in let y = leb-false n c.number e in let z = leb-true m c.number k in omega arith)
      go (inr e) f (inr g) (inl k) rest = simp (e, g, k)
      go (inr e) f g (inr k) rest = simp (e, k) rest

  -- a cell goes, with its position
  pub in_removed : (low : ℕ) (cs : List Cell) (q : List (Option Position)) → length q ≡ length cs → RisingCells low cs → is_live_cell n cs ≡ true
      → position_of_cell (cell_removed n cs) (without (cell_place n cs) q) m ≡ cond (eqb n m) None (position_of_cell cs q m)
  unfolding cell_removed without has_number number_place
  in_removed low [] q h rise live = absurd (not_both live refl)
  in_removed low (c ∷ cs) [] h rise live = absurd (omega arith)
  in_removed low (c ∷ cs) (p ∷ q) h rise live =
      go (either (leb n c.number)) (either (leb m c.number)) (either (eqb n m)) (λ l. in_removed (c.number + 1) cs q (omega arith) rise.1 l)
    where
      Told : List Cell → List (Option Position) → List Cell → List (Option Position) → Type 0
      Told new ps old qs = position_of_cell new ps m ≡ cond (eqb n m) None (position_of_cell old qs m)

      go : (leb n c.number ≡ true) ⊎ (leb n c.number ≡ false) → (leb m c.number ≡ true) ⊎ (leb m c.number ≡ false) → (eqb n m ≡ true) ⊎ (eqb n m ≡ false)
          → (is_live_cell n cs ≡ true → Told (cell_removed n cs) (without (cell_place n cs) q) cs q)
          → Told (cell_removed n (c ∷ cs)) (without (cell_place n (c ∷ cs)) (p ∷ q)) (c ∷ cs) (p ∷ q)
      go (inl e) (inl f) g rest =
          let x = eqb-true c.number n (simp e at live) in
          let y = leb-true m c.number f in
          simp (e, f, none_below (c.number + 1) cs (omega arith) rise.1) (both g x)
        where
          none_below : (k : ℕ) (ds : List Cell) → m < k → RisingCells k ds → is_live_cell m ds ≡ false
          none_below k [] u v = refl
          none_below k (d ∷ ds) u v =
              let s : d.number ≡ m → ⊥ = λ w. omega arith in
              simp (le-leb m d.number (omega arith), ne_eqb d.number m s)

          both : (eqb n m ≡ true) ⊎ (eqb n m ≡ false) → c.number ≡ n → None ≡ cond (eqb n m) None (cond (eqb c.number m) p None)
          both (inl g) x = simp g
          both (inr g) x =
              let z = eqb-false n m g in
              let s : c.number ≡ m → ⊥ = λ w. z (omega arith) in
              simp (g, ne_eqb c.number m s)
      go (inl e) (inr f) (inl g) rest =
          absurd (let x = eqb-true c.number n (simp e at live) in let y = eqb-true n m g in let z = leb-false m c.number f in omega arith)
      go (inl e) (inr f) (inr g) rest = simp (e, f, g)
      go (inr e) (inl f) (inl g) rest = absurd (let x = eqb-true n m g in let y = leb-false n c.number e in let z = leb-true m c.number f in omega arith)
      go (inr e) (inl f) (inr g) rest = simp (e, f, g)
      go (inr e) (inr f) g rest = simp (e, f) (rest (simp e at live))

  -- a cell stays, with another assignment
  same_cell : (a : Assignment) (cs : List Cell) → is_live_cell n cs ≡ true
      → (is_live_cell m (cell_reassigned n a cs) ≡ is_live_cell m cs) × (cell_place m (cell_reassigned n a cs) ≡ cell_place m cs)
  unfolding cell_reassigned has_number number_place
  same_cell a [] live = (refl, refl)
  same_cell a (c ∷ cs) live = go (either (leb n c.number)) (λ l. same_cell a cs l)
    where
      Same : List Cell → List Cell → Type 0
      Same new old = (is_live_cell m new ≡ is_live_cell m old) × (cell_place m new ≡ cell_place m old)

      go : (leb n c.number ≡ true) ⊎ (leb n c.number ≡ false) → (is_live_cell n cs ≡ true → Same (cell_reassigned n a cs) cs)
          → Same (cell_reassigned n a (c ∷ cs)) (c ∷ cs)
      go (inl e) rest =
          let x = eqb-true c.number n (simp e at live) in (
            simp e (ap (λ (k : ℕ). cond (leb m k) (eqb k m) (is_live_cell m cs)) (sym x)),
            simp e
                (ap (λ (k : ℕ). cond (leb m k) 0 (suc (cell_place m cs))) (sym x)),
          )
      go (inr e) rest = let r = rest (simp e at live) in (simp (e, r.0), simp (e, r.1))

  pub in_reassigned : (a : Assignment) (cs : List Cell) (q : List (Option Position)) → is_live_cell n cs ≡ true
      → position_of_cell (cell_reassigned n a cs) q m ≡ position_of_cell cs q m
  in_reassigned a cs q live = let r = same_cell a cs live in ap₂ (λ (t : Bool) (k : ℕ). cond t (get_or q k None) None) r.0 r.1

  -- a live cell gets a position
  pub in_set : (x : Option Position) (cs : List Cell) (q : List (Option Position)) → length cs ≤ length q → is_live_cell n cs ≡ true
      → position_of_cell cs (set q (cell_place n cs) x) m ≡ cond (eqb n m) x (position_of_cell cs q m)
  unfolding has_number number_place
  in_set x [] q h live = absurd (not_both live refl)
  in_set x (c ∷ cs) [] h live = absurd (omega arith)
  in_set x (c ∷ cs) (p ∷ q) h live = go (either (leb n c.number)) (either (leb m c.number)) (either (eqb n m)) (λ l. in_set x cs q (omega arith) l)
    where
      Told : List Cell → List (Option Position) → List (Option Position) → Type 0
      Told ds ps qs = position_of_cell ds ps m ≡ cond (eqb n m) x (position_of_cell ds qs m)

      go : (leb n c.number ≡ true) ⊎ (leb n c.number ≡ false) → (leb m c.number ≡ true) ⊎ (leb m c.number ≡ false) → (eqb n m ≡ true) ⊎ (eqb n m ≡ false)
          → (is_live_cell n cs ≡ true → Told cs (set q (cell_place n cs) x) q) → Told (c ∷ cs) (set (p ∷ q) (cell_place n (c ∷ cs)) x) (p ∷ q)
      go (inl e) (inl f) (inl g) rest =
          let y = eqb-true c.number n (simp e at live) in
          let z = eqb-true n m g in
          simp (e, f, g, eq-eqb c.number m (omega arith))
      go (inl e) (inl f) (inr g) rest =
          let y = eqb-true c.number n (simp e at live) in
          let z = eqb-false n m g in
          let s : c.number ≡ m → ⊥ = λ w. z (omega arith) in
          simp (e, f, g, ne_eqb c.number m s)
      go (inl e) (inr f) (inl g) rest =
          absurd (let y = eqb-true c.number n (simp e at live) in let z = eqb-true n m g in let w = leb-false m c.number f in omega arith)
      go (inl e) (inr f) (inr g) rest = simp (e, f, g)
      go (inr e) (inl f) (inl g) rest = absurd (let y = eqb-true n m g in let z = leb-false n c.number e in let w = leb-true m c.number f in omega arith)
      go (inr e) (inl f) (inr g) rest = simp (e, f, g)
      go (inr e) (inr f) g rest = simp (e, f) (rest (simp e at live))

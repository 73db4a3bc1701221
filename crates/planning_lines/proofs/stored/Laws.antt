-- What a line `stored` begins, where it is one: the cells that stand in it are live, with their numbers and assignments.
-- Assumes nothing.
use mathlib.Core.Path.{◌≡◌, refl, ap, subst, sym}
use mathlib.Core.Bool.{true, false, ◌&&◌}
use mathlib.Core.List.{List, [], ◌∷◌, ◌++◌}
use mathlib.Core.Logic.{◌⊎◌, inl, inr}
use Prim.Native.Nat.{ℕ, zero, suc, ◌+◌, ◌*◌, ◌≤◌, ◌<◌, min}
use native.Mathlib.Nat.{mod-eq_of_lt}
use native.Mathlib.Omega.{arith}
use lib.Dec.{eqb, ltb, leb}
use lib.ListN.{get_or}
use lib.Seq.{take_at}
use borrow.Author.Tests.{ltb-true, ltb-false, leb-true}
use Rattle.basics.specs.Lists.{In}
use Rattle.basics.proofs.Tests.{either, and_left, and_right}
use Rattle.call_lines.specs.Reading.{scan_of}
use Rattle.basics.specs.elements.Places.{at_front}
use Rattle.register.specs.Cells.{cell_of}
use Rattle.register.specs.Register.{live_cells}
use Rattle.register.specs.stored.Stored.{stored_cell, stored_live_cells, widened}
use Rattle.register.specs.declared.stored.StoredCell.{StoredCell}
use Rattle.register.proofs.stored.Laws.{cell_kept}
use Rattle.planning_lines.specs.stored.Lines.{stored_number_at, stored_assignment_at, is_read, is_cell_at, are_cells, stored_cell_at, stored_cells, stored_of_numbers, is_stored, stored_numbers, stored_line}
use Rattle.std.specs.Prelude.{Some}
use Rattle.std.proofs.lemmas.Option.{cond_some}
use Rattle.register.specs.declared.Register.{Register}
use Rattle.planning_lines.proofs.stored.Turns.{each_cell, stored_count, few_cells}

module _ (ns : List ℕ) where
  in_front_lem : {A : Type 0} (a : A) (l m : List A) → In a l → In a (l ++ m)
  in_front_lem {A = A} a [] m x' = elim x' [ ]
  in_front_lem a (x ∷ l) m (inl h) = inl h
  in_front_lem a (x ∷ l) m (inr h) = inr (in_front_lem a l m h)

  in_last : {A : Type 0} (a : A) (l : List A) → In a (l ++ (a ∷ []))
  in_last a [] = inl refl
  in_last a (x ∷ l) = inr (in_last a l)

  cell_stored : (n i : ℕ) → i < n → In (stored_cell_at ns i) (stored_cells ns n)
  unfolding stored_cells
  cell_stored zero i h = absurd (omega arith)
  cell_stored (suc n) i h = go (either (ltb i n)) (λ k. cell_stored n i k)
    where
      go : (ltb i n ≡ true) ⊎ (ltb i n ≡ false) → (i < n → In (stored_cell_at ns i) (stored_cells ns n)) → In (stored_cell_at ns i) (stored_cells ns n ++ (stored_cell_at ns n ∷ []))
      go (inl t) rest = in_front_lem (stored_cell_at ns i) (stored_cells ns n) (stored_cell_at ns n ∷ []) (rest (ltb-true i n t))
      go (inr t) rest =
          let last : n ≡ i = omega (arith, ltb-false i n t) in
          subst (λ (k : ℕ). In (stored_cell_at ns k) (stored_cells ns n ++ (stored_cell_at ns n ∷ []))) last (in_last (stored_cell_at ns n) (stored_cells ns n))

  -- its number has 16 bits, so none is lost
  own_number_lem : (i : ℕ) → is_cell_at ns i ≡ true → stored_cell_at ns i ≡ stored_cell (stored_number_at ns i) (stored_assignment_at ns i)
  unfolding is_cell_at
  own_number_lem i h =
      let small : stored_number_at ns i ≤ 65535 = leb-true (stored_number_at ns i) 65535 (and_left _ _ (and_left _ _ h)) in
      ap (λ (n : ℕ). stored_cell n (stored_assignment_at ns i)) (mod-eq_of_lt (omega arith))

  live_stored : get_or ns 4 0 ≤ 512 → stored_live_cells (stored_of_numbers ns) ≡ stored_cells ns (get_or ns 4 0)
  unfolding at_front
  live_stored h =
      let few : min (get_or ns 4 0) 512 ≡ get_or ns 4 0 = omega arith in
      simp few (take_at (stored_cells ns (get_or ns 4 0)) _ (get_or ns 4 0) (stored_count ns (get_or ns 4 0)))

module _ (bytes : List ℕ) (r : Register) (taken : stored_line bytes ≡ Some r) where
  abbrev numbers : List ℕ
  numbers = stored_numbers bytes

  line : (is_stored (scan_of bytes) numbers ≡ true) × (widened (stored_of_numbers numbers) ≡ r)
  unfolding stored_line
  line = cond_some (is_stored (scan_of bytes) numbers) (widened (stored_of_numbers numbers)) r taken

  is_stored_lem : is_stored (scan_of bytes) numbers ≡ true
  is_stored_lem = line.0

  begun : r ≡ widened (stored_of_numbers numbers)
  begun = sym line.1

  cells : are_cells numbers (get_or numbers 4 0) ≡ true
  unfolding is_stored
  cells = and_right (leb (get_or numbers 4 0) 512 && eqb (scan_of bytes).before (3 * get_or numbers 4 0 + 4) && is_read (scan_of bytes)) (are_cells numbers (get_or numbers 4 0)) is_stored_lem

  -- each cell of the line is live, with its number and its assignment
  pub cell_read : (i : ℕ) → i < get_or numbers 4 0 → In (cell_of (stored_number_at numbers i) (stored_assignment_at numbers i)) (live_cells r)
  cell_read i h =
      let s = stored_of_numbers numbers in
      let stands : In (stored_cell (stored_number_at numbers i) (stored_assignment_at numbers i)) (stored_cells numbers (get_or numbers 4 0)) =
      subst (λ (c : StoredCell). In c (stored_cells numbers (get_or numbers 4 0))) (own_number_lem numbers i (each_cell numbers (get_or numbers 4 0) i cells h)) (cell_stored numbers (get_or numbers 4 0) i h) in
      rw begun (cell_kept s (stored_number_at numbers i) (stored_assignment_at numbers i) (rw (live_stored numbers (few_cells (scan_of bytes) numbers is_stored_lem)) stands))

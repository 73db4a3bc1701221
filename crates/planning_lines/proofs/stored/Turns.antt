-- The loops over the cells of a line, and the line.
-- Assumes nothing.
use mathlib.Core.Path.{◌≡◌, refl, sym, ap, ap₂, ◌∙◌}
use mathlib.Core.Bool.{true, false}
use mathlib.Core.List.{List, [], ◌∷◌}
use mathlib.Core.Logic.{◌⊎◌, inl, inr}
use Prim.Native.Nat.{ℕ, zero, suc, ◌+◌, ◌≤◌, ◌<◌}
use native.Mathlib.Omega.{arith}
use native.Mathlib.Numerals.{add-one}
use lib.Dec.{ltb}
use lib.ListN.{length, get_or, set, length-append}
use borrow.Author.Tests.{ltb-true, ltb-false, leb-true}
use Rattle.basics.proofs.Tests.{either, and_left, and_right}
use Rattle.call_lines.specs.Reading.{scan_of}
use Rattle.call_lines.specs.declared.Scan.{Scan}
use Rattle.basics.specs.elements.Places.{at_front}
use Rattle.basics.proofs.elements.Lists.{front_push}
use Rattle.std.specs.Prelude.{Some, None}
use Rattle.register.specs.declared.Register.{Register}
use Rattle.register.specs.stored.Stored.{widened}
use Rattle.register.specs.declared.stored.StoredCell.{StoredCell}
use Rattle.register.specs.declared.stored.StoredRegister.{StoredRegister}
use Rattle.planning_lines.specs.stored.Lines.{is_cell_at, are_cells, stored_cell_at, stored_cells, empty_cells, stored_of_numbers, is_stored, stored_numbers, stored_line}

module _ (ns : List ℕ) where
  -- where the first n are cells, each of them is one
  pub each_cell : (n i : ℕ) → are_cells ns n ≡ true → i < n → is_cell_at ns i ≡ true
  unfolding are_cells
  each_cell zero i h k = absurd (omega arith)
  each_cell (suc n) i h k = go (either (ltb i n)) (λ before. each_cell n i (and_left (are_cells ns n) (is_cell_at ns n) h) before)
    where
      go : (ltb i n ≡ true) ⊎ (ltb i n ≡ false) → (i < n → is_cell_at ns i ≡ true) → is_cell_at ns i ≡ true
      go (inl t) rest = rest (ltb-true i n t)
      go (inr t) rest =
          let last : n ≡ i = omega (arith, ltb-false i n t) in
          ap (is_cell_at ns) (sym last) ∙ and_right (are_cells ns n) (is_cell_at ns n) h

  pub stored_count : (n : ℕ) → length (stored_cells ns n) ≡ n
  unfolding stored_cells
  stored_count zero = refl
  stored_count (suc i) = length-append (stored_cells ns i) (stored_cell_at ns i ∷ []) ∙ omega (arith, stored_count i)

  pub stored_more : (out : List StoredCell) (i : ℕ) (c : StoredCell) → i < 512 → out ≡ at_front (stored_cells ns i) empty_cells → c ≡ stored_cell_at ns i
      → set out i c ≡ at_front (stored_cells ns (i + 1)) empty_cells
  unfolding stored_cells
  stored_more out i c h p q = rw add-one (simp (p, ← q) (front_push (stored_cells ns i) empty_cells i c (stored_count i) h))

-- ---- the whole line
pub few_cells : (s : Scan) (ns : List ℕ) → is_stored s ns ≡ true → get_or ns 4 0 ≤ 512
unfolding is_stored
few_cells s ns h = leb-true (get_or ns 4 0) 512 (and_left _ _ (and_left _ _ (and_left _ _ h)))

module _ (bytes ns : List ℕ) (s : Scan) (scanned : s ≡ scan_of bytes) (read : ns ≡ stored_numbers bytes) where
  same : is_stored s ns ≡ is_stored (scan_of bytes) (stored_numbers bytes)
  same = ap₂ is_stored scanned read

  pub line_taken : (stored : StoredRegister) (r : Register) → is_stored s ns ≡ true → stored ≡ stored_of_numbers ns → r ≡ widened stored → Some r ≡ stored_line bytes
  unfolding stored_line
  line_taken stored r h p q = simp (sym same ∙ h) (ap (λ (x : Register). Some x) (q ∙ ap widened (p ∙ ap stored_of_numbers read)))

  pub line_left : is_stored s ns ≡ false → None ≡ stored_line bytes
  unfolding stored_line
  line_left h = simp (sym same ∙ h)

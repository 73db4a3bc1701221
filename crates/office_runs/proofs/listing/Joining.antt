-- Texts that are joined by blanks, one more at a time.
-- Assumes nothing.
use mathlib.Core.Path.{◌≡◌, sym, ap, ◌∙◌}
use mathlib.Core.Bool.{Bool, cond}
use mathlib.Core.List.{List, [], ◌∷◌, ◌++◌, append_assoc, append-nil}
use Prim.Native.Nat.{ℕ, zero, suc, ◌+◌, ◌<◌}
use native.Mathlib.Nat.{not-suc-le-zero, le_of_suc-le-suc}
use native.Mathlib.Numerals.{add-one}
use lib.Dec.{eqb-suc-zero}
use lib.ListN.{length, take, get_or}
use Rattle.texts.specs.declared.Output.{Output}
use Rattle.texts.specs.Text.{put, ascii, each}
use Rattle.texts.proofs.Putting.{put_then}
use Rattle.office_runs.specs.listing.Lines.{joined_by_blanks, blank}

module _ {A : Type 0} where
  each_next : (f : A → List ℕ) (xs : List A) (i : ℕ) (d : A) → i < length xs → each f (take (suc i) xs) ≡ each f (take i xs) ++ f (get_or xs i d)
  unfolding each
  each_next f [] i d h = absurd (not-suc-le-zero h)
  each_next f (x ∷ xs) zero d h = append-nil (f x)
  each_next f (x ∷ xs) (suc i) d h =
      ap (λ (l : List ℕ). f x ++ l) (each_next f xs i d (le_of_suc-le-suc h)) ∙ sym (append_assoc (f x) (each f (take i xs)) (f (get_or xs i d)))

  joined_next : (text : A → List ℕ) (xs : List A) (i : ℕ) (d : A) → i < length xs
      → joined_by_blanks text (take (suc i) xs) ≡ joined_by_blanks text (take i xs) ++ (blank i ++ text (get_or xs i d))
  unfolding joined_by_blanks each blank
  joined_next text [] i d h = absurd (not-suc-le-zero h)
  joined_next text (x ∷ xs) zero d h = append-nil (text x)
  joined_next text (x ∷ xs) (suc i) d h =
      ap (λ (l : List ℕ). text x ++ l) (each_next (λ y. ascii " " ++ text y) xs i d (le_of_suc-le-suc h))
      ∙ sym (append_assoc (text x) (each (λ y. ascii " " ++ text y) (take i xs)) (ascii " " ++ text (get_or xs i d)))
      ∙ ap (λ (t : Bool). (text x ++ each (λ y. ascii " " ++ text y) (take i xs)) ++ (cond t [] (ascii " ") ++ text (get_or xs i d))) (sym (eqb-suc-zero i))

  -- the blank, and the text of the next one
  pub joined_more : (text : A → List ℕ) (xs : List A) (i : ℕ) (d : A) (p : Output) {q r s : Output} → i < length xs → q ≡ put (joined_by_blanks text (take i xs)) p
      → r ≡ put (blank i) q → s ≡ put (text (get_or xs i d)) r → s ≡ put (joined_by_blanks text (take (i + 1) xs)) p
  joined_more text xs i d p h a b c =
      put_then (joined_by_blanks text (take i xs)) (blank i ++ text (get_or xs i d)) p a (put_then (blank i) (text (get_or xs i d)) _ b c)
      ∙ ap (λ (l : List ℕ). put l p) (sym (joined_next text xs i d h) ∙ ap (λ (n : ℕ). joined_by_blanks text (take n xs)) (sym (add-one i)))

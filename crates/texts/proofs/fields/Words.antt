-- The library's `starts_with` compares a line with a word as `begins` does; so what stands behind a word begins with it, and with no other word.
-- Assumes nothing.
use mathlib.Core.Path.{◌≡◌, refl, sym, ap, ◌∙◌}
use mathlib.Core.Bool.{Bool, true, false, ◌&&◌, and_assoc}
use mathlib.Core.List.{List, [], ◌∷◌, ◌++◌}
use mathlib.Core.Logic.{◌⊎◌, inl, inr}
use Prim.Native.Nat.{ℕ, zero, suc}
use native.Mathlib.Omega.{arith}
use borrow.Author.Tests.{ltb-true, ltb-false, lt-ltb, le-ltb, eq-eqb}
use lib.Dec.{eqb, ltb}
use lib.ListN.{length, get_or}
use Rattle.std.specs.List.{starts_with}
use Rattle.basics.proofs.Tests.{either, and_both, fails, not_both, and_right}
use Rattle.texts.specs.fields.Fields.{same_to, begins, is_line}

same_first : (w b : ℕ) (word line : List ℕ) (i : ℕ) → same_to (w ∷ word) (b ∷ line) (suc i) ≡ (eqb w b && same_to word line i)
unfolding same_to
same_first w b word line zero = elim (eqb w b) as (λ t. (true && t) ≡ (t && true)) [ true ↦ refl | false ↦ refl ]
same_first w b word line (suc i) =
    ap (λ (t : Bool). t && eqb (get_or word i 0) (get_or line i 0)) (same_first w b word line i)
    ∙ and_assoc (eqb w b) (same_to word line i) (eqb (get_or word i 0) (get_or line i 0))

pub starts : (line word : List ℕ) → starts_with eqb line word ≡ begins word line
unfolding begins same_to
starts line [] = simp (le-ltb (length line) 0 (omega arith))
starts [] (w ∷ word) = simp (lt-ltb 0 (suc (length word)) (omega arith))
starts (b ∷ line) (w ∷ word) =
    ap (λ (t : Bool). eqb w b && t) (starts line word) ∙ go (either (ltb (length line) (length word)))
  where
    go : (ltb (length line) (length word) ≡ true) ⊎ (ltb (length line) (length word) ≡ false) → (eqb w b && begins word line) ≡ begins (w ∷ word) (b ∷ line)
    go (inl t) = let short = ltb-true (length line) (length word) t in simp (t, lt-ltb (suc (length line)) (suc (length word)) (omega arith)) (elim (eqb w b) as (λ t. (t && false) ≡ false) [ true ↦ refl | false ↦ refl ])
    go (inr t) = let long = ltb-false (length line) (length word) t in simp (t, le-ltb (suc (length line)) (suc (length word)) (omega arith)) (sym (same_first w b word line (length word)))

-- ---- of a word that is written before anything

starts_with_it : (word rest : List ℕ) → starts_with eqb (word ++ rest) word ≡ true
starts_with_it [] rest = refl
starts_with_it (w ∷ word) rest = and_both (eq-eqb w w refl) (starts_with_it word rest)

pub word_begins : (word rest : List ℕ) → begins word (word ++ rest) ≡ true
word_begins word rest = sym (starts (word ++ rest) word) ∙ starts_with_it word rest

-- a line whose bytes are others does not begin with the word, and is not the word
pub other_word : (word line : List ℕ) → starts_with eqb line word ≡ false → begins word line ≡ false
other_word word line e = sym (starts line word) ∙ e

pub other_line : (word line : List ℕ) → starts_with eqb line word ≡ false → is_line word line ≡ false
unfolding is_line
other_line word line e = fails (λ h. not_both (and_right (eqb (length line) (length word)) (begins word line) h) (other_word word line e))

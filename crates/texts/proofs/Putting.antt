-- Text that is put into a buffer, part by part.
-- Assumes nothing.
use mathlib.Core.Path.{◌≡◌, refl, sym, ap, ◌∙◌}
use mathlib.Core.List.{List, [], ◌∷◌, ◌++◌}
use Prim.Native.Nat.{ℕ, ◌+◌, ◌≤◌, ◌<◌}
use native.Mathlib.Numerals.{add-one}
use lib.ListN.{length, drop, get_or, drop_of_length-le}
use lib.Seq.{drop-cons}
use Rattle.texts.specs.declared.Output.{Output}
use Rattle.texts.specs.Text.{put_byte, put, each}

pub put_nothing : (p : Output) → put [] p ≡ p
unfolding put
put_nothing p = refl

pub put_append : (xs ys : List ℕ) (p : Output) → put (xs ++ ys) p ≡ put ys (put xs p)
unfolding put
put_append [] ys p = refl
put_append (x ∷ xs) ys p = put_append xs ys (put_byte x p)

-- one text, and another at the place after it
pub put_then : (t u : List ℕ) (p : Output) {q s : Output} → q ≡ put t p → s ≡ put u q → s ≡ put (t ++ u) p
put_then t u p e f = f ∙ ap (put u) e ∙ sym (put_append t u p)

-- The texts of the list's first i elements are put: with those of the others, the buffer p becomes what the buffer q becomes with all.
pub record PutSoFar {A : Type 0} (f : A → List ℕ) (xs : List A) (i : ℕ) (p q : Output) : Type 0 where
  pub rest : put (each f (drop i xs)) p ≡ put (each f xs) q

module _ {A : Type 0} {f : A → List ℕ} {xs : List A} where
  pub reached_next : {i : ℕ} (d : A) {p q r : Output} → PutSoFar f xs i p q → r ≡ put (f (get_or xs i d)) p → i < length xs → PutSoFar f xs (i + 1) r q
  unfolding each
  reached_next {i} d {p} h e l =
      let step : put (each f (drop i xs)) p ≡ put (each f (drop (i + 1) xs)) (put (f (get_or xs i d)) p) = rw (add-one, drop-cons xs i d, put_append) in
      record { rest = rw e (sym step ∙ h.rest) }

  pub reached_all : {i : ℕ} {p q : Output} → PutSoFar f xs i p q → length xs ≤ i → p ≡ put (each f xs) q
  unfolding each
  reached_all {i} {p} h l = sym (rw (drop_of_length-le xs l, put_nothing)) ∙ h.rest

-- The loops over the live cells: what stands in the first places after i cells.
-- Assumes nothing.
use mathlib.Core.Path.{◌≡◌, refl, sym, ap, ◌∙◌}
use mathlib.Core.Bool.{Bool, true, false, cond}
use mathlib.Core.List.{List, [], ◌∷◌, ◌++◌, append-nil, map}
use Prim.Native.Nat.{ℕ, ◌+◌, ◌≤◌, ◌<◌}
use native.Mathlib.Omega.{arith}
use lib.ListN.{length, get_or, set, take, drop, length-append}
use lib.Seq.{take_at}
use Rattle.std.specs.List.{filter}
use Rattle.std.proofs.lemmas.List.{take_all}
use Rattle.std.proofs.lemmas.List.Elements.{filter_more}
use Rattle.basics.specs.elements.Places.{at_front}
use Rattle.basics.proofs.elements.Lists.{front_push, front_none}

module _ {A B : Type 0} (test : A → Bool) (f : A → B) (l : List A) (start : List B) where
  -- of the first i those that pass
  abbrev first : ℕ → List B
  first i = map f (filter test (take i l))

  pub record PickedSoFar (places : List B) (count i : ℕ) : Type 0 where
    pub few : count ≤ i
    pub counted : count ≡ length (first i)
    pub are : places ≡ at_front (first i) start

  pub picked_none : PickedSoFar start 0 0
  picked_none = record { few = omega arith; counted = refl; are = sym (front_none start) }

  module _ (places : List B) (count i : ℕ) (x : A) (is : (d : A) → x ≡ get_or l i d) (more : i < length l) (so_far : PickedSoFar places count i) where
    next : first (i + 1) ≡ map f (filter test (take i l) ++ cond (test x) (x ∷ []) [])
    next = ap (map f) (filter_more test l i x more ∙ ap (λ (y : A). filter test (take i l) ++ cond (test y) (y ∷ []) []) (sym (is x)))

    map_last : (ys : List A) → map f (ys ++ x ∷ []) ≡ map f ys ++ f x ∷ []
    map_last [] = refl
    map_last (y ∷ ys) = ap (λ (zs : List B). f y ∷ zs) (map_last ys)

    pub picked_pass : test x ≡ false → PickedSoFar places count (i + 1)
    picked_pass t =
        let same : first (i + 1) ≡ first i = next ∙ simp (t, append-nil) in
        record {
          few = omega (arith, so_far.few);
          counted = so_far.counted ∙ ap length (sym same);
          are = so_far.are
              ∙ ap (λ (zs : List B). at_front zs start) (sym same);
        }

    pub picked_more : length start ≡ 512 → i < 512 → test x ≡ true → PickedSoFar (set places count (f x)) (count + 1) (i + 1)
    picked_more long room t =
        let grown : first (i + 1) ≡ first i ++ (f x ∷ []) = next ∙ simp t (map_last (filter test (take i l))) in
        let size : length (first i ++ (f x ∷ [])) ≡ count + 1 = length-append (first i) (f x ∷ []) ∙ omega (arith, so_far.counted) in
        record {
          few = omega (arith, so_far.few);
          counted = sym (ap length grown ∙ size);
          are =
              ap (λ (zs : List B). set zs count (f x)) so_far.are
              ∙ front_push (first i) start count (f x) (sym so_far.counted) (omega (arith, long, so_far.few))
              ∙ ap (λ (zs : List B). at_front zs start) (sym grown);
        }

  pub picked_all : (places : List B) (count i : ℕ) → length l ≤ i → PickedSoFar places count i
      → (count ≡ length (map f (filter test l))) × (places ≡ at_front (map f (filter test l)) start)
  picked_all places count i h so_far =
      let all : first i ≡ map f (filter test l) = ap (λ (ys : List A). map f (filter test ys)) (take_all i l h) in
      (so_far.counted ∙ ap length all, so_far.are ∙ ap (λ (zs : List B). at_front zs start) all)

  -- the first places hold them
  pub picked_front : (places : List B) (count i : ℕ) → length l ≤ i → PickedSoFar places count i → take count places ≡ map f (filter test l)
  unfolding at_front
  picked_front places count i h so_far =
      let all = picked_all places count i h so_far in
      simp all.1 (take_at (map f (filter test l)) (drop (length (map f (filter test l))) start) count (sym all.0))

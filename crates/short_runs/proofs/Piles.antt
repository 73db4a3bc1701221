-- Piles: the first places of an array that has room for more.
-- Assumes nothing.
use mathlib.Core.Path.{◌≡◌, refl, sym, ap, subst, ◌∙◌}
use mathlib.Core.List.{List, [], ◌∷◌, ◌++◌}
use mathlib.Core.Option.{some}
use Prim.Native.Nat.{ℕ, zero, suc, ◌+◌, ◌<◌}
use native.Mathlib.Nat.{not-suc-le-zero, le_of_suc-le-suc}
use native.Mathlib.Numerals.{add-one}
use lib.ListN.{length, take, get_or, set, length-set, length-append}
use Rattle.enabled_runs.specs.Listing.{at_place}

pub record Pile {A : Type 0} (places : List A) (count room : ℕ) (kept : List A) : Type 0 where
  pub long : length places ≡ room
  pub first : take count places ≡ kept
  pub counted : count ≡ length kept

module _ {A : Type 0} where
  take_set : (xs : List A) (k : ℕ) (x : A) → k < length xs → take (suc k) (set xs k x) ≡ take k xs ++ (x ∷ [])
  take_set [] k x h = absurd (not-suc-le-zero h)
  take_set (y ∷ ys) zero x h = refl
  take_set (y ∷ ys) (suc k) x h = ap (λ (l : List A). y ∷ l) (take_set ys k x (le_of_suc-le-suc h))

  pub pushed : {xs : List A} {count room : ℕ} {kept : List A} (x : A) → Pile xs count room kept → count < room
      → Pile (set xs count x) (count + 1) room (kept ++ (x ∷ []))
  pushed {xs} {count} {room} {kept} x p h =
      record {
        long = length-set xs count x ∙ p.long;
        first =
            ap (λ (n : ℕ). take n (set xs count x)) (add-one count) ∙ take_set xs count x (subst (λ (n : ℕ). count < n) (sym p.long) h)
            ∙ ap (λ (l : List A). l ++ (x ∷ [])) p.first;
        counted = ap (λ (n : ℕ). n + 1) p.counted ∙ sym (length-append kept (x ∷ []));
      }

  -- what stands at a place of the pile stands there in the array
  place_taken : (xs : List A) (count k : ℕ) (d : A) → k < count → k < length xs → at_place (take count xs) k ≡ some (get_or xs k d)
  unfolding at_place
  place_taken [] count k d h m = absurd (not-suc-le-zero m)
  place_taken (x ∷ xs) zero k d h m = absurd (not-suc-le-zero h)
  place_taken (x ∷ xs) (suc count) zero d h m = refl
  place_taken (x ∷ xs) (suc count) (suc k) d h m = place_taken xs count k d (le_of_suc-le-suc h) (le_of_suc-le-suc m)

  pub at_place_lem : {xs : List A} {count room : ℕ} {kept : List A} (k : ℕ) (d : A) → Pile xs count room kept → k < count → k < room
      → at_place kept k ≡ some (get_or xs k d)
  at_place_lem {xs} {count} {room} {kept} k d p h m =
      ap (λ (l : List A). at_place l k) (sym p.first) ∙ place_taken xs count k d h (subst (λ (n : ℕ). k < n) (sym p.long) m)

-- What an index below the length reads: it does not depend on what lies past the end, and after a place was set it is the new element there
-- and the old one elsewhere.
-- Assumes nothing.
use mathlib.Core.Path.{◌≡◌, refl, sym, ap, ◌∙◌}
use mathlib.Core.Bool.{Bool, cond}
use mathlib.Core.List.{List, [], ◌∷◌}
use Prim.Native.Nat.{ℕ, zero, suc, ◌<◌}
use native.Mathlib.Nat.{not-suc-le-zero, le_of_suc-le-suc}
use lib.Dec.{eqb, eqb-zero-suc, eqb-suc-suc, eqb-suc-zero}
use lib.ListN.{length, get_or, set}

pub past : {A : Type 0} (l : List A) (i : ℕ) (d e : A) → i < length l → get_or l i d ≡ get_or l i e
past [] i d e h = absurd (not-suc-le-zero h)
past (x ∷ xs) zero d e h = refl
past (x ∷ xs) (suc i) d e h = past xs i d e (le_of_suc-le-suc h)

pub get_set : {A : Type 0} (l : List A) (i j : ℕ) (x d : A) → i < length l → get_or (set l i x) j d ≡ cond (eqb j i) x (get_or l j d)
get_set [] i j x d h = absurd (not-suc-le-zero h)
get_set (y ∷ l) zero zero x d h = refl
get_set (y ∷ l) zero (suc j) x d h = ap (λ (t : Bool). cond t x (get_or l j d)) (sym (eqb-suc-zero j))
get_set (y ∷ l) (suc i) zero x d h = ap (λ (t : Bool). cond t x y) (sym (eqb-zero-suc i))
get_set (y ∷ l) (suc i) (suc j) x d h = get_set l i j x d (le_of_suc-le-suc h) ∙ ap (λ (t : Bool). cond t x (get_or l j d)) (sym (eqb-suc-suc j i))

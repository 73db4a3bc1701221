-- Membership in joined lists.
-- Assumes nothing.
use mathlib.Core.Path.{◌≡◌, subst}
use mathlib.Core.Logic.{◌⊎◌, inl, inr}
use mathlib.Core.Bool.{true, false}
use mathlib.Core.List.{List, [], ◌∷◌, ◌++◌}
use Prim.Native.Nat.{ℕ, zero, suc, ◌<◌}
use native.Mathlib.Nat.{not-suc-le-zero}
use native.Mathlib.Omega.{arith}
use lib.Dec.{eqb}
use borrow.Author.Tests.{eqb-true, eqb-false}
use Rattle.basics.specs.Lists.{In}
use Rattle.basics.proofs.Tests.{either}
use Rattle.enabled_runs.specs.Listing.{each_below}

module _ {A : Type 0} where
  pub in_left : (x : A) (xs ys : List A) → In x xs → In x (xs ++ ys)
  in_left x [] ys h = absurd h
  in_left x (y ∷ xs) ys (inl e) = inl e
  in_left x (y ∷ xs) ys (inr h) = inr (in_left x xs ys h)

  pub in_right : (x : A) (xs ys : List A) → In x ys → In x (xs ++ ys)
  in_right x [] ys h = h
  in_right x (y ∷ xs) ys h = inr (in_right x xs ys h)

  pub in_either : (x : A) (xs ys : List A) → In x (xs ++ ys) → In x xs ⊎ In x ys
  in_either x [] ys h = inr h
  in_either x (y ∷ xs) ys (inl e) = inl (inl e)
  in_either x (y ∷ xs) ys (inr h) = more (in_either x xs ys h)
    where
      more : In x xs ⊎ In x ys → In x (y ∷ xs) ⊎ In x ys
      more (inl k) = inl (inr k)
      more (inr k) = inr k

  pub in_up_to : (x : A) (n : ℕ) (f : ℕ → List A) (k : ℕ) → k < n → In x (f k) → In x (each_below n f)
  unfolding each_below
  in_up_to x zero f k h i = absurd (not-suc-le-zero h)
  in_up_to x (suc n) f k h i = go (λ m. in_up_to x n f k m i) (either (eqb k n))
    where
      go : (k < n → In x (each_below n f)) → (eqb k n ≡ true) ⊎ (eqb k n ≡ false) → In x (each_below n f ++ f n)
      go earlier (inl e) = in_right x (each_below n f) (f n) (subst (λ m. In x (f m)) (eqb-true k n e) i)
      go earlier (inr e) = let other = eqb-false k n e in in_left x (each_below n f) (f n) (earlier (omega (arith, other, h)))

  pub from_up_to : (x : A) (n : ℕ) (f : ℕ → List A) → In x (each_below n f) → (k : ℕ) × (k < n) × In x (f k)
  unfolding each_below
  from_up_to x zero f h = absurd h
  from_up_to x (suc n) f h = go (λ m. from_up_to x n f m) (in_either x (each_below n f) (f n) h)
    where
      go : (In x (each_below n f) → (k : ℕ) × (k < n) × In x (f k)) → In x (each_below n f) ⊎ In x (f n) → (k : ℕ) × (k < suc n) × In x (f k)
      go earlier (inl i) = let found = earlier i in (found.0, omega (arith, found.1), found.2)
      go earlier (inr i) = (n, omega arith, i)

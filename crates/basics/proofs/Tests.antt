-- Tests: what a test's outcome says, and choices between two cases.
-- Assumes nothing.
use mathlib.Core.Path.{◌≡◌, refl, sym, ap, ◌∙◌}
use mathlib.Core.Logic.{◌⊎◌, inl, inr}
use mathlib.Core.Bool.{Bool, true, false, cond, ◌&&◌, ◌||◌}
use Prim.Native.Nat.{ℕ}
use native.Mathlib.Omega.{arith}

-- a test passes or fails
pub either : (t : Bool) → (t ≡ true) ⊎ (t ≡ false)
either true = inl refl
either false = inr refl

-- a choice by what a test says
pub by_cases : {P : Type 0} (t : Bool) → (t ≡ true → P) → (t ≡ false → P) → P
by_cases true p q = p refl
by_cases false p q = q refl

-- and not both
pub not_both : {t : Bool} → t ≡ true → t ≡ false → ⊥
not_both p q = let z : ◌≡◌ {A = ℕ} 0 1 = cc in omega arith

-- what fails where it would pass, fails
pub fails : {t : Bool} → (t ≡ true → ⊥) → t ≡ false
fails {t} h = go (either t)
  where
    go : (t ≡ true) ⊎ (t ≡ false) → t ≡ false
    go (inl e) = absurd (h e)
    go (inr e) = e

-- two tests that pass together are equal
pub same_test : {s t : Bool} → (s ≡ true → t ≡ true) → (t ≡ true → s ≡ true) → s ≡ t
same_test {s} {t} f g = go (either s) (either t)
  where
    go : (s ≡ true) ⊎ (s ≡ false) → (t ≡ true) ⊎ (t ≡ false) → s ≡ t
    go (inl a) b = a ∙ sym (f a)
    go (inr a) (inl b) = g b ∙ sym b
    go (inr a) (inr b) = a ∙ sym b

pub and_left : (a b : Bool) → (a && b) ≡ true → a ≡ true
and_left true b e = refl
and_left false b e = e

pub and_right : (a b : Bool) → (a && b) ≡ true → b ≡ true
and_right true b e = e
and_right false b e = absurd (not_both e refl)

pub and_both : {a b : Bool} → a ≡ true → b ≡ true → (a && b) ≡ true
and_both {a} {b} p q = ap (λ (x : Bool). x && b) p ∙ q

pub or_cases : (a b : Bool) → (a || b) ≡ true → (a ≡ true) ⊎ (b ≡ true)
or_cases true b e = inl refl
or_cases false b e = inr e

pub or_left : {a : Bool} (b : Bool) → a ≡ true → (a || b) ≡ true
or_left b p = ap (λ (x : Bool). x || b) p

pub or_right : (a : Bool) {b : Bool} → b ≡ true → (a || b) ≡ true
or_right true p = refl
or_right false p = p

-- what holds of both cases of a choice holds of the choice
pub of-both {ℓ} : {A : Type 0} (P : A → Type ℓ) (t : Bool) {x y : A} → P x → P y → P (cond t x y)
of-both P true p q = p
of-both P false p q = q

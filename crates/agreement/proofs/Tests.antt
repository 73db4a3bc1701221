-- Tests in the form `T`: what their outcomes say, and choices between two cases. The laws of `t ≡ true` are those of the crate basics.
-- Assumes nothing.
use Prim.Native.Nat.{ℕ}
use mathlib.Core.Path.{◌≡◌, refl, sym, subst}
use mathlib.Core.Bool.{Bool, true, false, not, ◌&&◌, ◌||◌, cond}
use lib.Dec.{T, eqb, eqb_refl, T_not}
use Rattle.basics.proofs.Tests.{not_both}

-- `T b` and `b ≡ true` say the same (the other way is the library's `passes`)
pub is_true : (b : Bool) → T b → b ≡ true
is_true true t = refl
is_true false t = absurd t

-- what holds of both branches of a test holds of the test
pub by_test {ℓ} : {A : Type 0} (P : A → Type ℓ) (b : Bool) (x y : A) → (T b → P x) → (T (not b) → P y) → P (cond b x y)
by_test P true x y f g = f tt
by_test P false x y f g = g tt

-- the same in the form `t ≡ true`
pub by_choice : {A : Type 0} (P : A → Type 0) (t : Bool) {x y : A} → (t ≡ true → P x) → (t ≡ false → P y) → P (cond t x y)
by_choice P true f g = f refl
by_choice P false f g = g refl

-- ---- what relates two nests of tests, test by test

-- both ask the same
pub by_both : {A B : Type 0} (P : A → B → Type 0) (s t : Bool) {x y : A} {p q : B} → s ≡ t → (s ≡ true → P x p) → (s ≡ false → P y q) → P (cond s x y) (cond t p q)
by_both P true true e f g = f refl
by_both P true false e f g = absurd (not_both refl e)
by_both P false true e f g = absurd (not_both e refl)
by_both P false false e f g = g refl

-- one asks what the other denies
pub by_turned : {A B : Type 0} (P : A → B → Type 0) (s t : Bool) {x y : A} {p q : B} → not s ≡ t → (s ≡ true → P x q) → (s ≡ false → P y p) → P (cond s x y) (cond t p q)
by_turned P true true e f g = absurd (not_both e refl)
by_turned P true false e f g = f refl
by_turned P false true e f g = g refl
by_turned P false false e f g = absurd (not_both refl e)

-- what is equal to related things is related
pub by_equals : {A B : Type 0} (P : A → B → Type 0) {x y : A} {p q : B} → x ≡ y → p ≡ q → P y q → P x p
by_equals {A} P {x} {y} {p} {q} e d f = subst (λ (a : A). P a p) (sym e) (subst (P y) (sym d) f)

-- ---- conjunctions and inequalities

pub both_hold : (a b : Bool) → T (a && b) → T a × T b
both_hold true b t = (tt, t)
both_hold false b t = absurd t

pub nor_both : (a b : Bool) → T (not (a || b)) → T (not a) × T (not b)
nor_both true b t = absurd t
nor_both false b t = (tt, t)

pub neqb→ne : (m n : ℕ) → T (not (eqb m n)) → m ≡ n → ⊥
neqb→ne m n t e = T_not (eqb m n) t (subst (λ (k : ℕ). T (eqb m k)) e (eqb_refl m))

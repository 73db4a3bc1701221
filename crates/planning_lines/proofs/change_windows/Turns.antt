-- How many numbers a line with windows has.
-- Assumes nothing.
use mathlib.Core.Path.{◌≡◌, refl, sym, ◌∙◌}
use mathlib.Core.Bool.{Bool, true, false, ◌&&◌}
use mathlib.Core.Logic.{◌⊎◌, inl, inr}
use Prim.Native.Nat.{ℕ, ◌*◌, ◌/◌, ◌%◌}
use native.Mathlib.Omega.{arith}
use lib.Dec.{eqb}
use borrow.Author.Tests.{eqb-true, eqb-false, eq-eqb}
use Rattle.basics.proofs.Tests.{either, and_both}

-- ---- ten numbers for each window
pub ten_each : (blanks count : ℕ) → (eqb (blanks % 10) 0 && eqb (blanks / 10) count) ≡ eqb blanks (10 * count)
ten_each blanks count = go (either (eqb blanks (10 * count)))
  where
    tens : (a b : Bool) → eqb (blanks % 10) 0 ≡ a → eqb (blanks / 10) count ≡ b → eqb blanks (10 * count) ≡ false → (a && b) ≡ false
    tens true true p q e =
        absurd (let m = eqb-true (blanks % 10) 0 p in let d = eqb-true (blanks / 10) count q in eqb-false blanks (10 * count) e (omega arith))
    tens true false p q e = refl
    tens false b p q e = refl

    go : (eqb blanks (10 * count) ≡ true) ⊎ (eqb blanks (10 * count) ≡ false) → (eqb (blanks % 10) 0 && eqb (blanks / 10) count) ≡ eqb blanks (10 * count)
    go (inl e) =
        let is = eqb-true blanks (10 * count) e in
        and_both (eq-eqb (blanks % 10) 0 (omega arith)) (eq-eqb (blanks / 10) count (omega arith)) ∙ sym e
    go (inr e) = tens (eqb (blanks % 10) 0) (eqb (blanks / 10) count) refl refl e ∙ sym e

-- The library's copy puts the bytes that are kept at the start.
-- Assumes nothing.
use mathlib.Core.Logic.{inl, inr}
use native.Mathlib.Nat.{eq-zero-or-pos}
use Rattle.std.proofs.Common.{◌≡◌, List, ℕ, ◌-◌, arith, zero-add}
use Rattle.std.specs.List.{copy_within}
use Rattle.texts.specs.blocks.Lines.{move_to_start}

pub moved : (used end left from : ℕ) (l : List ℕ) → left ≡ end - used → from ≡ end - left → copy_within l from end 0 ≡ move_to_start used left l
unfolding move_to_start
moved used end left from l e f =
    elim (eq-zero-or-pos (end - used)) [
      | inl z ↦ let none : left ≡ 0 = omega (arith, e, z) in let same : end - from ≡ 0 = omega (arith, f, none) in simp (none, same)
      | inr p ↦ let here : from ≡ used = omega (arith, e, f, p) in let same : end - used ≡ left = omega (arith, e) in simp (here, same, zero-add)
    ]

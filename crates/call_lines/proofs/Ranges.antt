-- What the library's `all` says of the numbers below a bound, where whether the first ones pass is a definition by recursion.
-- Assumes nothing.
use mathlib.Core.Path.{◌≡◌, refl, sym, subst, ◌∙◌}
use mathlib.Core.Bool.{Bool, true, false, ◌&&◌}
use mathlib.Core.Logic.{◌⊎◌, inl, inr}
use Prim.Native.Nat.{ℕ, zero, suc, ◌-◌, ◌<◌}
use native.Mathlib.Nat.{zero-add, eq-zero-or-pos}
use native.Mathlib.Omega.{arith}
use lib.ListN.{length}
use Rattle.std.specs.Bool.{MatchBool}
use Rattle.std.specs.List.{AllWithin, HoldsAt, range_with_len}
use Rattle.std.proofs.lemmas.List.FromFn.{length-range_with_len, get_or-range_with_len}

module _ (passes : ℕ → Bool) (test : ℕ → Bool) (none : passes 0 ≡ true) (one_more : (i : ℕ) → passes (suc i) ≡ (passes i && test i)) where
  each_passes : (n : ℕ) → ((k : ℕ) → k < n → test k ≡ true) → passes n ≡ true
  each_passes zero h = none
  each_passes (suc n) h = one_more n ∙ simp (each_passes n (λ k l. h k (omega arith)), h n (omega arith))

  one_fails : (n k : ℕ) → k < n → test k ≡ false → passes n ≡ false
  one_fails zero k l e = absurd (omega arith)
  one_fails (suc n) k l e = one_more n ∙ go (eq-zero-or-pos (n - k)) (λ before. one_fails n k before e)
    where
      go : (n - k ≡ 0) ⊎ (0 < n - k) → (k < n → passes n ≡ false) → (passes n && test n) ≡ false
      go (inr t) before = simp (before (omega (arith, t)))
      go (inl t) before =
          let last : k ≡ n = omega (arith, t) in
          rw (← last, e) (elim (passes k) as (λ b. (b && false) ≡ false) [ true ↦ refl | false ↦ refl ])

  pub range_passes : (n : ℕ) (r : Bool)
      → MatchBool r (AllWithin (λ i. test i ≡ true) (range_with_len 0 n) 0 (length (range_with_len 0 n)))
      ((k : ℕ) × (k < length (range_with_len 0 n)) × HoldsAt (λ i. test i ≡ false) (range_with_len 0 n) k)
      → r ≡ passes n
  range_passes n true h =
      sym (each_passes n (λ k l. subst (λ i. test i ≡ true) (get_or-range_with_len 0 n k 0 l ∙ zero-add k) (h k 0 (omega arith) (rw length-range_with_len l))))
  range_passes n false h =
      let below : h.0 < n = subst (λ m. h.0 < m) (length-range_with_len 0 n) h.1 in
      sym (one_fails n h.0 below (subst (λ i. test i ≡ false) (get_or-range_with_len 0 n h.0 0 below ∙ zero-add h.0) (h.2 0)))

-- Two lists of consecutive slots with the same entries are equal.
-- Assumes nothing.
use mathlib.Core.Path.{◌≡◌, refl, sym, ap, ap₂, ◌∙◌}
use mathlib.Core.Logic.{◌⊎◌, inl, inr, ◌↔◌}
use Prim.Native.Nat.{ℕ, ◌+◌, ◌-◌, ◌≤◌, ◌<◌}
use native.Mathlib.Omega.{arith}
use lib.ListN.{length, get_or}
use lib.Seq.{ext_get_or}
use Rattle.basics.specs.Lists.{In}
use Rattle.catch_up.specs.Causes.{CommitList, ListedCommit, Consecutive, listed_commits}
use Rattle.catch_up.specs.Joining.{list_of, first_slot}
use Rattle.catch_up.proofs.Deciding.{below, from_first}
use Rattle.catch_up.proofs.Indices.{in_stands, stands_in}

-- a list as the join is
pub record Orderly (l : CommitList) : Type 0 where
  pub same : length l.slots ≡ length l.values
  pub consecutive : Consecutive l.slots

module _ (a b : CommitList) (A : Orderly a) (B : Orderly b) (all : (c : ListedCommit) → In c (listed_commits a) → In c (listed_commits b)) where
  -- the place in the second list of the entry at a place of the first
  there : (i : ℕ) → i < length a.slots → (k : ℕ) × (k < length b.slots) × (first_slot b.slots + k ≡ first_slot a.slots + i) × (get_or b.values k 0 ≡ get_or a.values i 0)
  there i h =
      let same = A.same in
      let c : ListedCommit = record { slot = get_or a.slots i 0; value = get_or a.values i 0 } in
      let r = in_stands b.slots b.values c (all c (stands_in a.slots a.values c (i, h, omega arith, refl, refl))) in
      (r.0, r.1, omega (arith, r.3, from_first b.slots B.consecutive r.0 r.1, from_first a.slots A.consecutive i h), r.4)

  -- the first list lies within the second
  pub lies_within : 0 < length a.slots → (first_slot b.slots ≤ first_slot a.slots) × (first_slot a.slots + length a.slots ≤ first_slot b.slots + length b.slots) × (0 < length b.slots)
  lies_within h =
      let p = there 0 h in
      let q = there (length a.slots - 1) (omega arith) in
      (omega (arith, p.2), omega (arith, q.1, q.2), omega (arith, p.1))

  pub value_there : (i : ℕ) → i < length a.slots → first_slot a.slots ≡ first_slot b.slots → get_or a.values i 0 ≡ get_or b.values i 0
  value_there i h e =
      let p = there i h in
      let k : p.0 ≡ i = omega (arith, p.2) in
      sym p.3 ∙ ap (λ (n : ℕ). get_or b.values n 0) k

module _ (a b : CommitList) (A : Orderly a) (B : Orderly b) (all : (c : ListedCommit) → In c (listed_commits a) ↔ In c (listed_commits b)) where
  equal_length : (length a.slots ≡ length b.slots) × (0 < length a.slots → first_slot a.slots ≡ first_slot b.slots)
  equal_length = go (below 0 (length a.slots)) (below 0 (length b.slots))
    where
      go : (0 < length a.slots) ⊎ (length a.slots ≤ 0) → (0 < length b.slots) ⊎ (length b.slots ≤ 0)
          → (length a.slots ≡ length b.slots) × (0 < length a.slots → first_slot a.slots ≡ first_slot b.slots)
      go (inl p) q =
          let w = lies_within a b A B (λ c. (all c).0) p in
          let v = lies_within b a B A (λ c. (all c).1) w.2 in
          (omega arith, λ h. omega arith)
      go (inr p) (inl q) = let v = lies_within b a B A (λ c. (all c).1) q in absurd (omega arith)
      go (inr p) (inr q) = (omega arith, λ h. absurd (omega arith))

  pub alike : a ≡ b
  alike =
      let long = equal_length in
      let same-a = A.same in
      let same-b = B.same in
      ap₂ list_of
      (ext_get_or 0 a.slots b.slots long.0
      (λ i h. omega (arith, from_first a.slots A.consecutive i h, from_first b.slots B.consecutive i (omega (arith, long.0)), long.1 (omega arith))))
      (ext_get_or 0 a.values b.values (omega (arith, long.0))
      (λ i h. value_there a b A B (λ c. (all c).0) i (omega arith) (long.1 (omega arith))))

-- What is copied of a line is the table that begins there.
-- Assumes nothing.
use mathlib.Core.Path.{◌≡◌, refl, sym, ◌∙◌}
use mathlib.Core.Bool.{cond}
use mathlib.Core.List.{List, ◌++◌}
use mathlib.Core.Logic.{◌⊎◌, inl, inr}
use Prim.Native.Nat.{ℕ, zero, suc, ◌+◌, ◌-◌, ◌≤◌, ◌<◌, min}
use native.Mathlib.Nat.{eq-zero-or-pos}
use native.Mathlib.Omega.{arith}
use borrow.Author.Tests.{lt-ltb, le-ltb}
use lib.Dec.{ltb}
use lib.ListN.{length, get_or, take, drop, set, replicate, length-append, length-take, length-drop, length-set}
use lib.Seq.{take_all}
use Rattle.std.proofs.Common.{◌≢◌, get_or-set_other, get_or-set_same}
use Rattle.std.proofs.Math.ListN.{get_or-eq_default}
use Rattle.std.proofs.lemmas.List.{ext_get_or, get_or-replicate, get_or-take, get_or-drop, get_or_append_left, get_or-append_right}
use Rattle.lines_read.specs.line_states.States.{table_place, table_to}

module _ (ns : List ℕ) (w n : ℕ) where
  places : (j : ℕ) → length (table_to ns w n j) ≡ 64
  unfolding table_to
  places zero = refl
  places (suc j) = length-set (table_to ns w n j) j (table_place ns w n j) ∙ places j

  entry_there : (j i : ℕ) → j ≤ 64 → i < j → get_or (table_to ns w n j) i 0 ≡ table_place ns w n i
  unfolding table_to
  entry_there zero i h l = absurd (omega arith)
  entry_there (suc j) i h l = go (eq-zero-or-pos (j - i)) (λ before. entry_there j i (omega arith) before)
    where
      go : (j - i ≡ 0) ⊎ (0 < j - i) → (i < j → get_or (table_to ns w n j) i 0 ≡ table_place ns w n i)
          → get_or (set (table_to ns w n j) j (table_place ns w n j)) i 0 ≡ table_place ns w n i
      go (inr t) before = let other : i ≢ j = omega (arith, t) in rw get_or-set_other (before (omega (arith, t)))
      go (inl t) before =
          let last : i ≡ j = omega (arith, t) in
          let inside : j < length (table_to ns w n j) = omega (arith, places j) in
          rw (last, get_or-set_same)

  module _ (m k : ℕ) (place : m ≡ min w (length ns)) (count : k ≡ min (min n 64) (length ns - m)) where
    copied : List ℕ
    copied = take k (drop m ns)

    so_many : length copied ≡ k
    unfolding copied
    so_many = length-take k (drop m ns) ∙ rw length-drop (omega (arith, count))

    zeros : List ℕ
    zeros = replicate 64 0

    same_place : (i : ℕ) → i < 64 → get_or (copied ++ drop k zeros) i 0 ≡ table_place ns w n i
    unfolding table_place copied zeros
    same_place i h = go (eq-zero-or-pos (k - i))
      where
        nothing_there : k ≤ i → cond (ltb i n) (get_or ns (w + i) 0) 0 ≡ 0
        nothing_there t = elim (eq-zero-or-pos (n - i)) [
          | inl z ↦ simp (le-ltb i n (omega (arith, z)))
          | inr p ↦ simp (lt-ltb i n (omega (arith, p)), get_or-eq_default ns 0 {n = w + i} (omega (arith, p, t, place, count, h)))
        ]

        go : (k - i ≡ 0) ⊎ (0 < k - i) → get_or (copied ++ drop k zeros) i 0 ≡ cond (ltb i n) (get_or ns (w + i) 0) 0
        go (inr t) =
            let here : m ≡ w = omega (arith, t, place, count) in
            get_or_append_left copied (drop k zeros) 0 i (omega (arith, so_many, t))
            ∙ get_or-take k (drop m ns) i 0 (omega (arith, t))
            ∙ get_or-drop m ns i 0
            ∙ simp (here, lt-ltb i n (omega (arith, t, count)))
        go (inl t) =
            let there : k + (i - k) ≡ i = omega (arith, t) in
            get_or-append_right copied (drop k zeros) k i 0 so_many (omega (arith, t))
            ∙ get_or-drop k zeros (i - k) 0
            ∙ rw there (get_or-replicate 64 i 0 0 h)
            ∙ sym (nothing_there (omega (arith, t)))

    zeros_long : length zeros ≡ 64
    unfolding zeros
    zeros_long = refl

    long : length (copied ++ drop k zeros) ≡ 64
    long = length-append copied (drop k zeros) ∙ rw (so_many, length-drop, zeros_long) (omega (arith, count))

    copied_table : copied ++ drop k zeros ≡ table_to ns w n 64
    copied_table =
        ext_get_or 0 _ _ (long ∙ sym (places 64))
        (λ i l. same_place i (omega (arith, l, long)) ∙ sym (entry_there 64 i (omega arith) (omega (arith, l, long))))

-- the same, as the code says it
pub table_copied : (ns : List ℕ) (w n m h k : ℕ) (copied : List ℕ) → m ≡ min w (length ns) → h ≡ min n 64
    → k ≡ min h (length (take (length ns - m) (drop m ns))) → copied ≡ take k (take (length ns - m) (drop m ns))
    → copied ++ drop k (replicate 64 0) ≡ table_to ns w n 64
unfolding copied zeros
table_copied ns w n m h k copied place most count is =
    let all : take (length ns - m) (drop m ns) ≡ drop m ns = take_all (length ns - m) (drop m ns) (rw length-drop (omega arith)) in
    let few : k ≡ min (min n 64) (length ns - m) = count ∙ rw (all, length-drop, most) refl in
    rw (is, all) (copied_table ns w n m k place few)

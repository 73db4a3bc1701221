-- A list of numbers as rows of k numbers each: how many rows there are, what stands in one, and what k stores in a row change.
-- Assumes nothing.
use Prim.Native.Nat.{ℕ, zero, suc, ◌+◌, ◌*◌, ◌≤◌, ◌<◌}
use mathlib.Core.Path.{◌≡◌, refl, sym, ap, ◌∙◌}
use mathlib.Core.List.{List, [], ◌∷◌, ◌++◌, append_assoc}
use native.Mathlib.Nat.{mul-zero, mul-suc, zero-add}
use native.Mathlib.Omega.{arith}
use lib.ListN.{length, get_or, set, take, drop, length-append, length-take, length-drop}
use Rattle.std.proofs.lemmas.List.{drop-take}
use lib.Seq.{take-append-le, drop-append-le, take-take, sets, sets-eq, length-sets, take-set-le, drop-set-add, drop-drop, get_or-take, get_or-drop, take_at, drop_at}

module _ {A : Type 0} where
  -- what is read within a list is read whatever stands for its end
  pub past : (l : List A) (i : ℕ) (d e : A) → i < length l → get_or l i d ≡ get_or l i e
  past [] i d e h = absurd (omega arith)
  past (x ∷ xs) zero d e h = refl
  past (x ∷ xs) (suc i) d e h = past xs i d e (omega arith)

  -- stores behind the first k places
  take_sets : (vs l : List A) (k i : ℕ) → k ≤ i → take k (sets l i vs) ≡ take k l
  take_sets [] l k i h = refl
  take_sets (a ∷ vs) l k i h = take_sets vs (set l i a) k (suc i) (omega arith) ∙ take-set-le k l i a h

  drop_sets : (vs l : List A) (k i : ℕ) → drop k (sets l (k + i) vs) ≡ sets (drop k l) i vs
  drop_sets [] l k i = refl
  drop_sets (a ∷ vs) l k i =
      let e : suc (k + i) ≡ k + suc i = omega arith in
      rw e (drop_sets vs (set l (k + i) a) k (suc i) ∙ rw drop-set-add)

  -- the element j of the k elements from i on
  pub of_row : (l : List A) (k i j : ℕ) (d : A) → j < k → get_or (take k (drop i l)) j d ≡ get_or l (i + j) d
  of_row l k i j d h = get_or-take k (drop i l) j d h ∙ get_or-drop i l j d

module _ {A B : Type 0} (k : ℕ) (row : List A → B) (rows : List A → List B) (none : rows [] ≡ [])
    (next : (l : List A) → k ≤ length l → rows l ≡ row (take k l) ∷ rows (drop k l)) where
  pub rows_length : (n : ℕ) (l : List A) → length l ≡ k * n → length (rows l) ≡ n
  rows_length zero [] e = simp none
  rows_length zero (a ∷ l) e = let z : k * 0 ≡ 0 = mul-zero k in absurd (omega arith)
  rows_length (suc n) l e =
      let s : k * suc n ≡ k * n + k = mul-suc k n in
      simp (next l (omega arith)) (ap suc (rows_length n (drop k l) (rw length-drop (omega arith))))

  pub rows_at : (i : ℕ) (l : List A) (d : B) → k * i + k ≤ length l → get_or (rows l) i d ≡ row (take k (drop (k * i) l))
  rows_at zero l d h = let z : k * 0 ≡ 0 = mul-zero k in simp (next l (omega arith), z)
  rows_at (suc i) l d h =
      let s : k * suc i ≡ k + k * i = omega (arith, mul-suc k i) in
      simp (next l (omega arith), s) (rows_at i (drop k l) d (rw length-drop (omega arith)) ∙ simp drop-drop)

  -- a row that is stored whole
  pub rows_set : (i : ℕ) (l vs : List A) → length vs ≡ k → k * i + k ≤ length l → rows (sets l (k * i) vs) ≡ set (rows l) i (row vs)
  rows_set zero l vs e h =
      let z : k * 0 ≡ 0 = mul-zero k in
      let front : sets l 0 vs ≡ vs ++ drop k l = sets-eq vs l 0 (omega arith) ∙ simp (e, zero-add) in
      let long : k ≤ length (vs ++ drop k l) = rw length-append (omega arith) in
      simp (z, front, next (vs ++ drop k l) long, next l (omega arith), take_at vs (drop k l) k e, drop_at vs (drop k l) k e)
  rows_set (suc i) l vs e h =
      let s : k * suc i ≡ k + k * i = omega (arith, mul-suc k i) in
      let long : k ≤ length (sets l (k + k * i) vs) = rw length-sets (omega arith) in
      simp (s, next (sets l (k + k * i) vs) long, next l (omega arith), take_sets vs l k (k + k * i) (omega arith), drop_sets)
      (ap (λ (m : List B). row (take k l) ∷ m) (rows_set i (drop k l) vs e (rw length-drop (omega arith))))

  -- whole rows in front, and the rest
  rows_append : (m : ℕ) (a b : List A) → length a ≡ k * m → rows (a ++ b) ≡ rows a ++ rows b
  rows_append zero [] b e = simp none
  rows_append zero (x ∷ a) b e = let z : k * 0 ≡ 0 = mul-zero k in absurd (omega arith)
  rows_append (suc m) a b e =
      let s : k * suc m ≡ k * m + k = mul-suc k m in
      let long : k ≤ length (a ++ b) = rw length-append (omega arith) in
      simp (next (a ++ b) long, next a (omega arith), take-append-le k a b (omega arith), drop-append-le k a b (omega arith))
      (ap (λ (l : List B). row (take k a) ∷ l) (rows_append m (drop k a) b (rw length-drop (omega arith))))

  pub rows_three : (i j : ℕ) (a b c : List A) → length a ≡ k * i → length b ≡ k * j → rows (a ++ b ++ c) ≡ rows a ++ rows b ++ rows c
  rows_three i j a b c e f =
      ap rows (append_assoc a b c) ∙ rows_append i a (b ++ c) e ∙ ap (λ (x : List B). rows a ++ x) (rows_append j b c f) ∙ sym (append_assoc (rows a) (rows b) (rows c))

  pub rows_take : (m : ℕ) (l : List A) → k * m ≤ length l → rows (take (k * m) l) ≡ take m (rows l)
  rows_take zero l h = let z : k * 0 ≡ 0 = mul-zero k in simp (z, none)
  rows_take (suc m) l h =
      let s : k * suc m ≡ k + k * m = omega (arith, mul-suc k m) in
      let long : k ≤ length (take (k + k * m) l) = rw length-take (omega arith) in
      simp (s, next (take (k + k * m) l) long, next l (omega arith), take-take k (k + k * m) l (omega arith), drop-take k (k * m) l)
      (ap (λ (x : List B). row (take k l) ∷ x) (rows_take m (drop k l) (rw length-drop (omega arith))))

  pub rows_drop : (m : ℕ) (l : List A) → k * m ≤ length l → rows (drop (k * m) l) ≡ drop m (rows l)
  rows_drop zero l h = let z : k * 0 ≡ 0 = mul-zero k in simp z
  rows_drop (suc m) l h =
      let s : k * suc m ≡ k + k * m = omega (arith, mul-suc k m) in
      simp (s, next l (omega arith), ← drop-drop) (rows_drop m (drop k l) (rw length-drop (omega arith)))

-- A list in the first places of a row, and what a move of the later elements by one place leaves there.
-- Assumes nothing.
use Rattle.std.proofs.Common.{ℕ, zero, suc, ◌+◌, ◌-◌, ◌≤◌, ◌<◌, ◌≡◌, refl, ap, ◌∙◌, List, [], ◌∷◌, ◌++◌, append_assoc, arith}
use Rattle.std.proofs.Math.ListN.{length, get_or, set, take, drop, length-append, length-take, length-drop, length-set}
use Rattle.std.proofs.Math.Seq.{paste, set-append_seam, set-append_left, set_at, take-suc, drop-cons, take-take, get_or-append-add, get_or-drop}
use Rattle.std.proofs.lemmas.List.{drop-take}
use Rattle.basics.specs.elements.Places.{at_front, without, with_at}

module _ {A : Type 0} where
  -- one more in front
  pub front_push : (l places : List A) (n : ℕ) (x : A) → length l ≡ n → n < length places → set (at_front l places) n x ≡ at_front (l ++ (x ∷ [])) places
  unfolding at_front
  front_push l places n x e h =
      let more : length (l ++ (x ∷ [])) ≡ suc (length l) = simp length-append (omega arith) in
      rw (← e) (simp (more, drop-cons places (length l) x (omega arith), set-append_seam, append_assoc))

  -- the places after the list are as they were
  pub front_later : (l places : List A) (i : ℕ) (d : A) → length l ≤ i → get_or (at_front l places) i d ≡ get_or places i d
  unfolding at_front
  front_later l places i d h =
      let e : i ≡ length l + (i - length l) = omega arith in
      rw e (get_or-append-add l (drop (length l) places) (i - length l) d ∙ get_or-drop (length l) places (i - length l) d)

  pub front_length : (l places : List A) → length l ≤ length places → length (at_front l places) ≡ length places
  unfolding at_front
  front_length l places h = simp (length-append, length-drop) (omega arith)

  -- the row itself, where its own first places are put in front
  pub front_own : (n : ℕ) (places : List A) → at_front (take n places) places ≡ places
  unfolding at_front
  front_own zero places = refl
  front_own (suc n) [] = refl
  front_own (suc n) (x ∷ xs) = ap (λ (l : List A). x ∷ l) (front_own n xs)

  pub front_none : (places : List A) → at_front [] places ≡ places
  unfolding at_front
  front_none places = refl

  pub front_first : (places : List A) (x : A) → 0 < length places → set places 0 x ≡ at_front (x ∷ []) places
  unfolding at_front
  front_first places x h = front_push [] places 0 x refl h

  pub front_set : (l places : List A) (i : ℕ) (x : A) → i < length l → set (at_front l places) i x ≡ at_front (set l i x) places
  unfolding at_front
  front_set l places i x h = simp (length-set, set-append_left l (drop (length l) places) i x h)

  -- what is left without one of the first n
  pub without_length : (l : List A) (at n : ℕ) → at < n → n ≤ length l → length (without at (take n l)) + 1 ≡ n
  unfolding without
  without_length l at n h k = simp (length-append, length-take, length-drop) (omega arith)

  pub with_length : (l : List A) (at n : ℕ) (new : A) → at ≤ n → n ≤ length l → length (with_at at new (take n l)) ≡ n + 1
  unfolding with_at
  with_length l at n new h k = simp (length-append, length-take, length-drop) (omega arith)

  -- the elements behind place `at` are moved one place down
  pub moved_down : (l : List A) (at n : ℕ) → at < n → n ≤ length l → paste l at (drop (at + 1) l) (n - (at + 1)) ≡ at_front (without at (take n l)) l
  unfolding at_front without
  moved_down l at n h k =
      let fewer : length (without at (take n l)) ≡ at + (n - (at + 1)) = omega (arith, without_length l at n h k) in
      let next : suc at ≡ at + 1 = omega arith in
      let all : at + 1 + (n - (at + 1)) ≡ n = omega arith in
      let behind : drop (at + 1) (take n l) ≡ take (n - (at + 1)) (drop (at + 1) l) = rw all at (drop-take (at + 1) (n - (at + 1)) l) in
      rw fewer (simp (next, take-take at n l (omega arith), behind, append_assoc))

  -- the elements from place `at` on are moved one place up, and a new one is written there
  pub moved_up : (l : List A) (at n : ℕ) (new : A) → at ≤ n → n < length l
      → set (paste l (at + 1) (drop at l) (n - at)) at new ≡ at_front (with_at at new (take n l)) l
  unfolding at_front with_at
  moved_up l at n new h k =
      let more : length (with_at at new (take n l)) ≡ at + 1 + (n - at) = omega (arith, with_length l at n new h (omega arith)) in
      let next : at + 1 ≡ suc at = omega arith in
      let all : at + (n - at) ≡ n = omega arith in
      let behind : drop at (take n l) ≡ take (n - at) (drop at l) = rw all at (drop-take at (n - at) l) in
      let head : length (take at l) ≡ at = length-take at l ∙ omega arith in
      let split : take (at + 1) l ≡ take at l ++ (get_or l at new ∷ []) = rw next (take-suc l at new (omega arith)) in
      rw more (simp (take-take at n l (omega arith), behind, split, append_assoc, set_at (take at l) (get_or l at new) (take (n - at) (drop at l) ++ drop (at + 1 + (n - at)) l) new at head))

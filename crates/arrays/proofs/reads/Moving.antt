-- The reads behind a place, moved one place down each, one after the other.
-- Assumes nothing.
use Prim.Native.Nat.{ℕ, suc, ◌+◌, ◌-◌, ◌≤◌, ◌<◌}
use mathlib.Core.Path.{◌≡◌, refl, sym, ap, ◌∙◌}
use mathlib.Core.List.{List, [], ◌∷◌, ◌++◌, append_assoc, append-nil}
use native.Mathlib.Omega.{arith}
use native.Mathlib.Numerals.{add-one}
use lib.ListN.{length, get_or, set, take, drop, length-take, drop_of_length-le}
use lib.Seq.{take-suc, take-append-le, drop-append-le, take-take}
use Rattle.basics.specs.elements.Places.{at_front, without}
use Rattle.basics.proofs.elements.Lists.{front_push, front_later, front_own, without_length}

module _ {A : Type 0} where
  -- one more of the first places, without the one at a place before it
  without_more : (l : List A) (at n : ℕ) (d : A) → at < n → n < length l → without at (take (n + 1) l) ≡ without at (take n l) ++ (get_or l n d ∷ [])
  unfolding without
  without_more l at n d h k =
      let long : length (take n l) ≡ n = length-take n l ∙ omega arith in
      simp (add-one, take-suc l n d k, take-append-le at (take n l) (get_or l n d ∷ []) (omega arith), drop-append-le (suc at) (take n l) (get_or l n d ∷ []) (omega arith), append_assoc)

  -- before the first is moved
  pub move_start : (l : List A) (at : ℕ) → at < length l → l ≡ at_front (without at (take (at + 1) l)) l
  unfolding without
  move_start l at h =
      let long : length (take (at + 1) l) ≡ at + 1 = length-take (at + 1) l ∙ omega arith in
      simp (take-take at (at + 1) l (omega arith), drop_of_length-le (take (at + 1) l) {i = suc at} (omega arith), append-nil, front_own)

  -- the one at place i is moved
  pub move_more : (l places : List A) (at i : ℕ) (d : A) → at < i → i < length places → l ≡ at_front (without at (take i places)) places
      → set l (i - 1) (get_or l i d) ≡ at_front (without at (take (i + 1) places)) places
  move_more l places at i d h more e =
      let front : List A = without at (take i places) in
      let n : length front + 1 ≡ i = without_length places at i h (omega arith) in
      let read : get_or (at_front front places) i d ≡ get_or places i d = front_later front places i d (omega arith) in
      simp (e, read, front_push front places (i - 1) (get_or places i d) (omega arith) (omega arith), without_more places at i d h more)

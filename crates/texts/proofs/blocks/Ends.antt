-- Where `position` finds an LF from a place on, a line ends there first.
-- Assumes nothing.
use Rattle.std.proofs.Common.{◌≡◌, ◌∙◌, refl, sym, ap, subst, ℕ, zero, suc, ◌≤◌, ◌<◌, ◌+◌, ◌-◌, List, [], ◌∷◌, take, Some, None, ◌==◌, eqb, Bool, true, false, cond, not, arith}
use borrow.Author.Tests.{eqb-true}
use lib.ListN.{length, get_or, drop, length-drop}
use lib.Seq.{take_all, get_or-drop}
use Rattle.basics.proofs.Tests.{not_both}
use Rattle.std.specs.List.{position, position_or_len}
use Rattle.texts.specs.blocks.Lines.{FirstEnd}

-- the place of the first LF of the bytes, or their length
abbrev end_of : List ℕ → ℕ
end_of s = position_or_len (λ b. b == 10) s

none_earlier : (s : List ℕ) (i : ℕ) → i < end_of s → get_or s i 0 ≡ 10 → ⊥
none_earlier [] i h e = absurd (omega (arith, h))
none_earlier (b ∷ bs) i h e = go (λ k l. none_earlier bs k l) i (eqb b 10) refl h e
  where
    go : ((k : ℕ) → k < end_of bs → get_or bs k 0 ≡ 10 → ⊥) → (i : ℕ) (t : Bool) → eqb b 10 ≡ t → i < cond (not t) (1 + end_of bs) 0
        → get_or (b ∷ bs) i 0 ≡ 10 → ⊥
    go rest i true q h e = absurd (omega (arith, h))
    go rest zero false q h e = not_both (ap (λ (k : ℕ). eqb k 10) e) q
    go rest (suc i) false q h e = rest i (omega (arith, h)) e

stands : (s : List ℕ) → end_of s < length s → get_or s (end_of s) 0 ≡ 10
stands [] h = absurd (omega (arith, h))
stands (b ∷ bs) h = go (λ l. stands bs l) (eqb b 10) refl h
  where
    go : (end_of bs < length bs → get_or bs (end_of bs) 0 ≡ 10) → (t : Bool) → eqb b 10 ≡ t → cond (not t) (1 + end_of bs) 0 < suc (length bs)
        → get_or (b ∷ bs) (cond (not t) (1 + end_of bs) 0) 0 ≡ 10
    go rest true q h = eqb-true b 10 q
    go rest false q h =
        let n : ℕ = end_of bs in
        let e : 1 + n ≡ suc n = omega arith in
        ap (λ (k : ℕ). get_or (b ∷ bs) k 0) e ∙ rest (omega (arith, h))

found : (s : List ℕ) (n : ℕ) → position (λ b. b == 10) s ≡ Some n → (n ≡ end_of s) × (n < length s)
found s n e = grind (arith, e)

not_found : (s : List ℕ) → position (λ b. b == 10) s ≡ None → length s ≤ end_of s
not_found s e = grind (arith, e)

-- a place that no LF stands before, from a place on, and that is an LF where it is no end of the input
ends_at : (input : List ℕ) (from n : ℕ) → from ≤ length input → n ≤ end_of (drop from input) → n ≤ length (drop from input)
    → (n < length (drop from input) → n ≡ end_of (drop from input)) → FirstEnd input from (from + n)
ends_at input from n l o w s =
    let len : length (drop from input) ≡ length input - from = length-drop from input in
    record {
      after = omega arith;
      within = omega (arith, len, w, l);
      none_before = λ i a h e.
          let back : from + (i - from) ≡ i = omega (arith, a) in
          none_earlier (drop from input) (i - from) (omega (arith, a, h, o))
          (get_or-drop from input (i - from) 0 ∙ ap (λ (k : ℕ). get_or input k 0) back ∙ e);
      is_end = λ h.
          let inside : n < length (drop from input) = omega (arith, h, len) in
          let at : n ≡ end_of (drop from input) = s inside in
          sym (get_or-drop from input n 0) ∙ ap (λ (k : ℕ). get_or (drop from input) k 0) at ∙ stands (drop from input) (omega (arith, inside, at));
    }

to_the_end : (from : ℕ) (input : List ℕ) → take (length input - from) (drop from input) ≡ drop from input
to_the_end from input = take_all (length input - from) (drop from input) (rw length-drop (omega arith))

pub first_behind : (input : List ℕ) (from n : ℕ) → from ≤ length input
    → Some n ≡ position (λ b. b == 10) (take (length input - from) (drop from input)) → FirstEnd input from (from + n)
first_behind input from n l e =
    let at = found (drop from input) n (ap (λ (s : List ℕ). position (λ b. b == 10) s) (sym (to_the_end from input)) ∙ sym e) in
    ends_at input from n l (omega (arith, at.0)) (omega (arith, at.1)) (λ h. at.0)

pub none_behind : (input : List ℕ) (from : ℕ) → from ≤ length input → position (λ b. b == 10) (take (length input - from) (drop from input)) ≡ None
    → FirstEnd input from (length input)
none_behind input from l e =
    let past = not_found (drop from input) (ap (λ (s : List ℕ). position (λ b. b == 10) s) (sym (to_the_end from input)) ∙ e) in
    let len : length (drop from input) ≡ length input - from = length-drop from input in
    let end : from + (length input - from) ≡ length input = omega (arith, l) in
    subst (λ (k : ℕ). FirstEnd input from k) end
    (ends_at input from (length input - from) l (omega (arith, past, len)) (omega (arith, len)) (λ h. absurd (omega (arith, h, len))))

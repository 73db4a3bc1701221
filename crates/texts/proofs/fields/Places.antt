-- Where a field ends: the steps of the loop of `field_end`, and the bytes up to there.
-- Assumes nothing.
use mathlib.Core.Path.{◌≡◌, refl, sym, ap, subst, ◌∙◌}
use mathlib.Core.Bool.{true, false}
use mathlib.Core.List.{List, [], ◌∷◌}
use mathlib.Core.Logic.{◌⊎◌, inl, inr}
use Prim.Native.Nat.{ℕ, zero, suc, ◌+◌, ◌-◌, ◌≤◌, ◌<◌, min}
use native.Mathlib.Nat.{zero-add, suc-add}
use native.Mathlib.Numerals.{add-one}
use native.Mathlib.Omega.{arith}
use borrow.Author.Tests.{ltb-true, ltb-false, ne_eqb}
use lib.Dec.{eqb, ltb}
use lib.ListN.{length, get_or, take, drop, length-take, length-drop, drop_of_length-le}
use lib.Seq.{drop-cons, take_all, take-nil}
use Rattle.basics.proofs.Tests.{either, of-both}
use Rattle.texts.specs.fields.Fields.{up_to_blank, field_from, field_end}

pub at_blank : (line : List ℕ) (i : ℕ) → i < length line → get_or line i 0 ≡ 32 → field_end line i ≡ i
unfolding field_end up_to_blank
at_blank line i h e = rw (drop-cons line i 0 h, e) (omega arith)

pub past_byte : (line : List ℕ) (i : ℕ) → i < length line → (get_or line i 0 ≡ 32 → ⊥) → field_end line i ≡ field_end line (i + 1)
unfolding field_end up_to_blank
past_byte line i h e = rw (drop-cons line i 0 h, ne_eqb (get_or line i 0) 32 e, add-one) (omega arith)

pub at_the_end : (line : List ℕ) (i : ℕ) → length line ≤ i → field_end line i ≡ length line
unfolding field_end
at_the_end line i h = omega arith

-- ---- the bytes of a line between two places

pub ends_at_end : (at : ℕ) (line : List ℕ) → take (length line - at) (drop at line) ≡ drop at line
ends_at_end at line = take_all (length line - at) (drop at line) (rw length-drop (omega arith))

-- from a place on, or from the end of the line where the place is past it
pub from_place : (from at : ℕ) (line : List ℕ) → from ≡ min at (length line) → take (length line - from) (drop from line) ≡ drop at line
from_place from at line e = ends_at_end from line ∙ go (either (ltb at (length line)))
  where
    go : (ltb at (length line) ≡ true) ⊎ (ltb at (length line) ≡ false) → drop from line ≡ drop at line
    go (inl t) = let inside = ltb-true at (length line) t in let here : from ≡ at = omega arith in ap (λ (k : ℕ). drop k line) here
    go (inr t) =
        let past = ltb-false at (length line) t in
        drop_of_length-le line {i = from} (omega arith) ∙ sym (drop_of_length-le line {i = at} (omega arith))

up_to_blank_lem : (bytes : List ℕ) → take (length (up_to_blank bytes)) bytes ≡ up_to_blank bytes
unfolding up_to_blank
up_to_blank_lem [] = refl
up_to_blank_lem (b ∷ bytes) =
    of-both (λ (l : List ℕ). take (length l) (b ∷ bytes) ≡ l) (eqb b 32) refl (ap (λ (l : List ℕ). b ∷ l) (up_to_blank_lem bytes))

no_longer : (bytes : List ℕ) → length (up_to_blank bytes) ≤ length bytes
unfolding up_to_blank
no_longer [] = omega arith
no_longer (b ∷ bytes) = of-both (λ (l : List ℕ). length l ≤ suc (length bytes)) (eqb b 32) (omega arith) (omega (arith, no_longer bytes))

drop_take : (n k : ℕ) (bytes : List ℕ) → drop n (take (n + k) bytes) ≡ take k (drop n bytes)
drop_take zero k bytes = rw zero-add refl
drop_take (suc n) k [] = rw (take-nil, take-nil) refl
drop_take (suc n) k (b ∷ bytes) = rw suc-add (drop_take n k bytes)

-- the line up to the end of the field from a place on, from that place on: the bytes of the field
pub field_bytes : (line : List ℕ) (at : ℕ) → drop at (take (field_end line at) line) ≡ field_from line at
unfolding field_end up_to_blank
field_bytes line at = go (either (ltb at (length line)))
  where
    go : (ltb at (length line) ≡ true) ⊎ (ltb at (length line) ≡ false) → drop at (take (field_end line at) line) ≡ field_from line at
    go (inl t) =
        let inside = ltb-true at (length line) t in
        let short : length (field_from line at) ≤ length line - at = subst (λ (k : ℕ). length (field_from line at) ≤ k) (length-drop at line) (no_longer (drop at line)) in
        let end : field_end line at ≡ at + length (field_from line at) = omega arith in
        ap (λ (k : ℕ). drop at (take k line)) end ∙ drop_take at (length (field_from line at)) line ∙ up_to_blank_lem (drop at line)
    go (inr t) =
        let past = ltb-false at (length line) t in
        drop_of_length-le (take (field_end line at) line) {i = at} (rw length-take (omega arith)) ∙ sym (ap up_to_blank (drop_of_length-le line past))

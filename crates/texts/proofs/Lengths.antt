-- How long the texts are, and that nothing is left out where there is room.
-- Assumes nothing.
use mathlib.Core.Logic.{inl, inr}
use mathlib.Core.Path.{◌≡◌, refl, sym, ap, ◌∙◌}
use mathlib.Core.Bool.{Bool, true, false}
use mathlib.Core.List.{List, [], ◌∷◌, ◌++◌, append_assoc}
use Prim.Native.Nat.{ℕ, zero, suc, ◌+◌, ◌-◌, ◌*◌, ◌/◌, ◌≤◌, ◌<◌, min}
use native.Mathlib.Nat.{eq-zero-or-pos, mul-le-mul_left, le_trans}
use native.Mathlib.Numerals.{add-one}
use Rattle.std.proofs.Common.{add-zero}
use native.Mathlib.Omega.{arith}
use lib.Dec.{ltb}
use lib.ListN.{length, take, drop, set, take-append-drop, drop_of_length-le, length-append, length-take, length-drop, length-set}
use lib.Seq.{sets, sets-eq, drop-drop}
use borrow.Author.Tests.{lt-ltb, le-ltb}
use borrow.Rule.Slice.PartMut.{put_mid}
use Rattle.io.specs.Digits.{last_digits}
use Rattle.texts.proofs.Putting.{put_nothing, put_append}
use Rattle.basics.proofs.Tests.{of-both}
use Rattle.texts.specs.declared.Output.{Output}
use Rattle.texts.specs.Text.{with_bytes, put, digit_count, decimal, field, each, fields, flag_number, first_places}

-- ---- where there is room, nothing is left out

stored : (bytes : List ℕ) (o : Output) → o.at + length bytes ≤ length o.bytes.now
    → put bytes o ≡ with_bytes o (sets o.bytes.now o.at bytes) (o.at + length bytes)
unfolding put
stored [] o h = ap (λ (n : ℕ). with_bytes o o.bytes.now n) (omega arith)
stored (b ∷ bytes) o h =
    let next : Output = with_bytes o (set o.bytes.now o.at b) (suc o.at) in
    simp (lt-ltb o.at (length o.bytes.now) (omega arith), add-one)
    (stored bytes next (rw length-set (omega arith))
    ∙ ap (λ (n : ℕ). with_bytes o (sets (set o.bytes.now o.at b) (suc o.at) bytes) n) (omega arith))

pub put_fits : (bytes : List ℕ) (o : Output) → o.at + length bytes ≤ length o.bytes.now
    → put bytes o ≡ with_bytes o (take o.at o.bytes.now ++ bytes ++ drop (o.at + length bytes) o.bytes.now) (o.at + length bytes)
put_fits bytes o h = stored bytes o h ∙ ap (λ (l : List ℕ). with_bytes o l (o.at + length bytes)) (sets-eq bytes o.bytes.now o.at h)

-- ---- where there is no room for all, as much is put as fits

full : (bytes : List ℕ) (o : Output) → length o.bytes.now ≤ o.at → put bytes o ≡ o
unfolding put
full [] o h = refl
full (b ∷ bytes) o h = simp (le-ltb o.at (length o.bytes.now) h) (full bytes o h)

module _ (bytes : List ℕ) (o : Output) (n : ℕ) (within : o.at ≤ length o.bytes.now) (most : n ≡ min (length bytes) (length o.bytes.now - o.at)) where
  abbrev first : Output
  first = put (take n bytes) o

  first_length : length (take n bytes) ≡ n
  first_length = length-take n bytes ∙ omega (arith, most)

  first_is : first ≡ with_bytes o (put_mid o.at n o.bytes.now (take n bytes)) (o.at + n)
  first_is =
      put_fits (take n bytes) o (rw first_length (omega (arith, most)))
      ∙ ap (λ (k : ℕ). with_bytes o (take o.at o.bytes.now ++ take n bytes ++ drop (o.at + k) o.bytes.now) (o.at + k)) first_length
      ∙ ap (λ (l : List ℕ). with_bytes o l (o.at + n))
      (append_assoc (take o.at o.bytes.now) (take n bytes) (drop (o.at + n) o.bytes.now)
      ∙ ap (λ (l : List ℕ). take o.at o.bytes.now ++ (take n bytes ++ l)) (sym (drop-drop n o.at o.bytes.now)))

  nothing_more : put (drop n bytes) first ≡ first
  nothing_more =
      elim (eq-zero-or-pos (length bytes - n)) [
        | inl e ↦ rw (drop_of_length-le bytes {i = n} (omega (arith, e)), put_nothing) refl
        | inr g ↦ full (drop n bytes) first (rw first_is (simp (length-append, length-take, length-drop) (omega (arith, most, g))))
      ]

  part_within : put bytes o ≡ with_bytes o (put_mid o.at n o.bytes.now (take n bytes)) (o.at + n)
  part_within = ap (λ (l : List ℕ). put l o) (sym (take-append-drop n bytes)) ∙ put_append (take n bytes) (drop n bytes) o ∙ nothing_more ∙ first_is

pub put_part : (bytes : List ℕ) (o : Output) (a n k : ℕ) → a ≡ min o.at (length o.bytes.now) → n ≡ min (length bytes) (length o.bytes.now - a) → k ≡ n
    → with_bytes o (put_mid a k o.bytes.now (take n bytes)) (o.at + n) ≡ put bytes o
put_part bytes o a n k e most same =
    elim (eq-zero-or-pos (o.at - length o.bytes.now)) [
      | inl z ↦ let here : a ≡ o.at = omega (arith, e, z) in
          rw (same, here) (sym (part_within bytes o n (omega (arith, z)) (omega (arith, most, here))))
      | inr g ↦ let none : n ≡ 0 = omega (arith, most, e, g) in let all : a ≡ length o.bytes.now = omega (arith, e, g) in
          rw (same, none, all) (simp (take-append-drop, add-zero) (sym (full bytes o (omega (arith, g)))))
    ]

-- ---- numbers

digits_length : (b k n : ℕ) → length (last_digits b k n) ≡ k
digits_length b zero n = refl
digits_length b (suc k) n = simp (length-append, digits_length b k) (omega arith)

digit_count_lem : (most n : ℕ) → digit_count most n ≤ suc most
unfolding digit_count
digit_count_lem zero n = omega arith
digit_count_lem (suc most) n = of-both (λ (k : ℕ). k ≤ suc (suc most)) (ltb n 10) (omega arith) (omega (arith, digit_count_lem most (n / 10)))

field_length : (n : ℕ) → length (field n) ≡ suc (digit_count 19 n)
unfolding field decimal
field_length n = ap suc (digits_length 10 (digit_count 19 n) n)

pub number : (n : ℕ) → length (field n) ≤ 21
number n = omega (arith, field_length n, digit_count_lem 19 n)

pub decimal_length : (n : ℕ) → length (decimal n) ≤ 20
unfolding field
decimal_length n = omega (arith, number n)

-- a number below 100
pub short : (n : ℕ) → n < 100 → length (field n) ≤ 3
unfolding digit_count
short n h =
    rw field_length (of-both (λ (k : ℕ). suc k ≤ 3) (ltb n 10) (omega arith) (rw (lt-ltb (n / 10) 10 (omega arith)) (omega arith)))

pub flag : (b : Bool) → length (field (flag_number b)) ≤ 2
unfolding digit_count
flag true = omega (arith, field_length 1)
flag false = omega (arith, field_length 0)

-- ---- lists

module _ {A : Type 0} (f : A → List ℕ) (k : ℕ) (h : (x : A) → length (f x) ≤ k) where
  pub each_length : (xs : List A) → length (each f xs) ≤ k * length xs
  unfolding each
  each_length [] = omega arith
  each_length (x ∷ xs) = simp length-append (omega (arith, h x, each_length xs))

  pub places_length : (table : List A) (count : ℕ) → length (first_places f table count) ≤ k * 128
  unfolding first_places
  places_length table count =
      le_trans (each_length (take (min count 128) table)) (mul-le-mul_left k (rw length-take (omega arith)))

pub fields_length : (w ns : List ℕ) → length (fields w ns) ≤ length w + 21 * length ns
unfolding fields
fields_length w ns = simp length-append (omega (arith, each_length field 21 number ns))

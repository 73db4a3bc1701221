-- A number in decimal that is a field of a line is read as that number, and what is read next is what stands behind its blank.
-- Assumes nothing.
use mathlib.Core.Path.{◌≡◌, refl, sym, ap, ◌∙◌}
use mathlib.Core.List.{List, [], ◌∷◌, ◌++◌, append-nil, append_assoc}
use mathlib.Core.Logic.{◌⊎◌, inl, inr}
use Prim.Native.Nat.{ℕ, zero, suc, ◌+◌, ◌-◌, ◌/◌, ◌%◌, ◌≤◌, ◌<◌, min}
use native.Mathlib.Omega.{arith}
use lib.ListN.{length, drop, length-append, length-drop}
use lib.Seq.{drop-drop, drop-append-add, drop-append_seam}
use borrow.Author.Tests.{lt-ltb, ne_eqb}
use Rattle.io.specs.Digits.{last_digits, hex_digit_ascii}
use Rattle.call_lines.specs.Reading.{scan_of}
use Rattle.texts.specs.Text.{digit_count, decimal}
use Rattle.std.specs.Prelude.{Some}
use Rattle.texts.specs.fields.Fields.{one_number, up_to_blank, field_from, field_end, next_field, number_field}
use Rattle.texts.proofs.fields.ReadBack.{some_digit, number_read}

-- ---- no digit is a blank

digit_passed : (d : ℕ) (rest : List ℕ) → up_to_blank (hex_digit_ascii (d % 10) ∷ rest) ≡ hex_digit_ascii (d % 10) ∷ up_to_blank rest
unfolding up_to_blank
digit_passed d rest = simp (lt-ltb (d % 10) 10 (omega arith), ne_eqb (48 + d % 10) 32 (λ q. omega arith))

digits_passed : (k n : ℕ) (rest : List ℕ) → up_to_blank (last_digits 10 k n ++ rest) ≡ last_digits 10 k n ++ up_to_blank rest
digits_passed zero n rest = refl
digits_passed (suc k) n rest =
    ap up_to_blank (append_assoc (last_digits 10 k (n / 10)) (hex_digit_ascii (n % 10) ∷ []) rest)
    ∙ digits_passed k (n / 10) (hex_digit_ascii (n % 10) ∷ rest)
    ∙ ap (λ (l : List ℕ). last_digits 10 k (n / 10) ++ l) (digit_passed n rest)
    ∙ sym (append_assoc (last_digits 10 k (n / 10)) (hex_digit_ascii (n % 10) ∷ []) (up_to_blank rest))

up_to_its_blank : (n : ℕ) (rest : List ℕ) → up_to_blank (decimal n ++ (32 ∷ rest)) ≡ decimal n
unfolding decimal up_to_blank
up_to_its_blank n rest = digits_passed (digit_count 19 n) n (32 ∷ rest) ∙ append-nil (decimal n)

up_to_the_end : (n : ℕ) → up_to_blank (decimal n) ≡ decimal n
unfolding decimal up_to_blank
up_to_the_end n = ap up_to_blank (sym (append-nil (decimal n))) ∙ digits_passed (digit_count 19 n) n [] ∙ append-nil (decimal n)

-- ---- a field with others behind it

field_holds : (line : List ℕ) (at n : ℕ) → n ≤ 18446744073709551615 → field_from line at ≡ decimal n → (number_field line at).number ≡ Some n
unfolding number_field
field_holds line at n l e = ap (λ (bytes : List ℕ). one_number (scan_of bytes)) e ∙ number_read n l

pub field_read : (line : List ℕ) (at n : ℕ) (rest : List ℕ) → n ≤ 18446744073709551615 → drop at line ≡ decimal n ++ (32 ∷ rest)
    → (number_field line at).number ≡ Some n
field_read line at n rest l e = field_holds line at n l (ap up_to_blank e ∙ up_to_its_blank n rest)

pub behind_field : (line : List ℕ) (at n : ℕ) (rest : List ℕ) → drop at line ≡ decimal n ++ (32 ∷ rest)
    → drop (next_field line (number_field line at).end) line ≡ rest
unfolding number_field field_end next_field
behind_field line at n rest e =
    let bytes : length (field_from line at) ≡ length (decimal n) = ap (λ (l : List ℕ). length (up_to_blank l)) e ∙ ap length (up_to_its_blank n rest) in
    let long : length line - at ≡ length (decimal n) + suc (length rest) = sym (length-drop at line) ∙ ap length e ∙ length-append (decimal n) (32 ∷ rest) in
    let next : next_field line (number_field line at).end ≡ at + (length (decimal n) + 1) = omega arith in
    ap (λ (k : ℕ). drop k line) next
    ∙ sym (drop-drop (length (decimal n) + 1) at line)
    ∙ ap (drop (length (decimal n) + 1)) e
    ∙ drop-append-add (decimal n) (32 ∷ rest) 1

-- ---- the last field of a line

pub last_read : (line : List ℕ) (at n : ℕ) → n ≤ 18446744073709551615 → drop at line ≡ decimal n → (number_field line at).number ≡ Some n
last_read line at n l e = field_holds line at n l (ap up_to_blank e ∙ up_to_the_end n)

pub last_ends : (line : List ℕ) (at n : ℕ) → drop at line ≡ decimal n → (number_field line at).end ≡ length line
unfolding number_field field_end
last_ends line at n e =
    let bytes : length (field_from line at) ≡ length (decimal n) = ap (λ (l : List ℕ). length (up_to_blank l)) e ∙ ap length (up_to_the_end n) in
    let long : length line - at ≡ length (decimal n) = sym (length-drop at line) ∙ ap length e in
    omega arith

-- ---- the first byte of a number is a digit

digit_range : (d : ℕ) → d < 10 → (48 ≤ hex_digit_ascii d) × (hex_digit_ascii d ≤ 57)
digit_range d h = simp (lt-ltb d 10 h) (omega arith, omega arith)

digits_first : (k n : ℕ) → (b : ℕ) × (rest : List ℕ) × (last_digits 10 (suc k) n ≡ b ∷ rest) × (48 ≤ b) × (b ≤ 57)
digits_first zero n = let r = digit_range (n % 10) (omega arith) in (hex_digit_ascii (n % 10), [], refl, r.0, r.1)
digits_first (suc k) n =
    let f = digits_first k (n / 10) in
    (f.0, f.1 ++ (hex_digit_ascii (n % 10) ∷ []), ap (λ (l : List ℕ). l ++ (hex_digit_ascii (n % 10) ∷ [])) f.2, f.3, f.4)

pub first_digit : (n : ℕ) → (b : ℕ) × (rest : List ℕ) × (decimal n ≡ b ∷ rest) × (48 ≤ b) × (b ≤ 57)
unfolding decimal
first_digit n = go (digit_count 19 n) (some_digit 19 n)
  where
    go : (k : ℕ) → 0 < k → (b : ℕ) × (rest : List ℕ) × (last_digits 10 k n ≡ b ∷ rest) × (48 ≤ b) × (b ≤ 57)
    go zero h = absurd (omega arith)
    go (suc k) h = digits_first k n

-- ---- a field that may be the last one: what stands from its end on is nothing, or begins with a blank

abbrev pub FieldEnds : List ℕ → Type 0
FieldEnds tail = (tail ≡ []) ⊎ ((rest : List ℕ) × (tail ≡ 32 ∷ rest))

module _ (line : List ℕ) (at n : ℕ) (l : n ≤ 18446744073709551615) where
  pub number_before : (tail : List ℕ) → FieldEnds tail → drop at line ≡ decimal n ++ tail → (number_field line at).number ≡ Some n
  number_before tail (inl t) e = last_read line at n l (e ∙ ap (λ (k : List ℕ). decimal n ++ k) t ∙ append-nil (decimal n))
  number_before tail (inr r) e = field_read line at n r.0 l (e ∙ ap (λ (k : List ℕ). decimal n ++ k) r.1)

  end_at : (tail : List ℕ) → FieldEnds tail → drop at line ≡ decimal n ++ tail → up_to_blank (drop at line) ≡ decimal n
  end_at tail (inl t) e = ap up_to_blank (e ∙ ap (λ (k : List ℕ). decimal n ++ k) t ∙ append-nil (decimal n)) ∙ up_to_the_end n
  end_at tail (inr r) e = ap up_to_blank (e ∙ ap (λ (k : List ℕ). decimal n ++ k) r.1) ∙ up_to_its_blank n r.0

  pub end_before : (tail : List ℕ) → FieldEnds tail → drop at line ≡ decimal n ++ tail → drop (number_field line at).end line ≡ tail
  unfolding number_field field_end
  end_before tail t e =
      let bytes : length (field_from line at) ≡ length (decimal n) = ap length (end_at tail t e) in
      let long : length line - at ≡ length (decimal n) + length tail = sym (length-drop at line) ∙ ap length e ∙ length-append (decimal n) tail in
      let some : length (decimal n) ≡ suc (length (first_digit n).1) = ap length (first_digit n).2 in
      let end : min (at + length (field_from line at)) (length line) ≡ at + length (decimal n) = omega arith in
      ap (λ (k : ℕ). drop k line) end ∙ sym (drop-drop (length (decimal n)) at line) ∙ ap (drop (length (decimal n))) e ∙ drop-append_seam (decimal n) tail

-- A number in decimal, as `texts` writes it, is read as that number.
-- Assumes nothing.
use mathlib.Core.Path.{◌≡◌, refl, ap, ◌∙◌}
use mathlib.Core.Bool.{true, false}
use mathlib.Core.List.{List, [], ◌∷◌, ◌++◌}
use mathlib.Core.Logic.{◌⊎◌, inl, inr}
use Prim.Native.Nat.{ℕ, zero, suc, ◌+◌, ◌-◌, ◌*◌, ◌/◌, ◌%◌, ◌^◌, ◌≤◌, ◌<◌}
use native.Mathlib.Omega.{arith}
use lib.Dec.{ltb}
use lib.ListN.{length, get_or, length-append}
use borrow.Author.Tests.{ltb-true, lt-ltb, le-ltb, ne_eqb}
use Rattle.io.specs.Digits.{last_digits, hex_digit_ascii}
use Rattle.basics.proofs.Tests.{either, of-both}
use Rattle.call_lines.specs.Reading.{scan_start, is_full, with_digit, after_digit, after_byte, scan_to, scan_of}
use Rattle.call_lines.specs.declared.Scan.{Scan}
use Rattle.texts.specs.Text.{digit_count, decimal}
use Rattle.texts.specs.fields.Fields.{one_number}
use Rattle.std.specs.Prelude.{Some}

-- one number is read so far, and nothing is wrong with it
abbrev reading : ℕ → Scan
reading n = record { value = n; before = 0; has_digit = true; malformed = false; above_limit = false }

-- what stands behind the first bytes does not change how they are read
get_front : (xs ys : List ℕ) (i : ℕ) → i < length xs → get_or (xs ++ ys) i 0 ≡ get_or xs i 0
get_front [] ys i h = absurd (omega arith)
get_front (x ∷ xs) ys zero h = refl
get_front (x ∷ xs) ys (suc i) h = get_front xs ys i (omega arith)

get_behind : (xs : List ℕ) (b : ℕ) → get_or (xs ++ (b ∷ [])) (length xs) 0 ≡ b
get_behind [] b = refl
get_behind (x ∷ xs) b = get_behind xs b

scan_front : (xs ys : List ℕ) (i : ℕ) → i ≤ length xs → scan_to (xs ++ ys) i ≡ scan_to xs i
unfolding scan_to
scan_front xs ys zero h = refl
scan_front xs ys (suc i) h = simp (scan_front xs ys i (omega arith), get_front xs ys i (omega arith))

scan_snoc : (xs : List ℕ) (b : ℕ) → scan_of (xs ++ (b ∷ [])) ≡ after_byte (scan_of xs) b
unfolding scan_to
scan_snoc xs b = ap (scan_to (xs ++ (b ∷ []))) long ∙ rw (scan_front xs (b ∷ []) (length xs) (omega arith), get_behind xs b) refl
  where
    long : length (xs ++ (b ∷ [])) ≡ suc (length xs)
    long = length-append xs (b ∷ []) ∙ omega arith

-- a digit behind a number
digit_byte : (s : Scan) (b d : ℕ) → b ≡ 48 + d → d < 10 → after_byte s b ≡ after_digit s d
unfolding after_byte
digit_byte s b d e h =
    let is : b - 48 ≡ d = omega arith in
    simp (ne_eqb b 32 (λ q. omega arith), le-ltb b 48 (omega arith), le-ltb 57 b (omega arith), is)

pub digit_glyph : (s : Scan) (d : ℕ) → d < 10 → after_byte s (hex_digit_ascii d) ≡ after_digit s d
digit_glyph s d h = digit_byte s (hex_digit_ascii d) d (simp (lt-ltb d 10 h)) h

next_digit : (n d : ℕ) → n * 10 + d ≤ 18446744073709551615 → after_digit (reading n) d ≡ reading (n * 10 + d)
unfolding after_digit with_digit is_full
next_digit n d h = simp (le-ltb 18446744073709551615 (n * 10 + d) h)

first_digit : (d : ℕ) → d < 10 → after_digit scan_start d ≡ reading d
unfolding after_digit with_digit is_full scan_start
first_digit d h =
    let is : 0 + d ≡ d = omega arith in
    simp (is, le-ltb 18446744073709551615 d (omega arith))

digits_read : (k n : ℕ) → n < 10 ^ suc k → n ≤ 18446744073709551615 → scan_of (last_digits 10 (suc k) n) ≡ reading n
unfolding scan_to
digits_read zero n h l = digit_glyph scan_start (n % 10) (omega arith) ∙ first_digit (n % 10) (omega arith) ∙ ap (λ (m : ℕ). reading m) (omega arith)
digits_read (suc k) n h l =
    scan_snoc (last_digits 10 (suc k) (n / 10)) (hex_digit_ascii (n % 10))
    ∙ ap (λ (s : Scan). after_byte s (hex_digit_ascii (n % 10))) (digits_read k (n / 10) (omega arith) (omega arith))
    ∙ digit_glyph (reading (n / 10)) (n % 10) (omega arith)
    ∙ next_digit (n / 10) (n % 10) (omega arith)
    ∙ ap (λ (m : ℕ). reading m) (omega arith)

-- `digit_count` counts at least one digit, and enough
pub some_digit : (most n : ℕ) → 0 < digit_count most n
unfolding digit_count
some_digit zero n = omega arith
some_digit (suc most) n = of-both (λ (k : ℕ). 0 < k) (ltb n 10) (omega arith) (omega arith)

pub enough_digits : (most n : ℕ) → n < 10 ^ suc most → n < 10 ^ digit_count most n
unfolding digit_count
enough_digits zero n h = h
enough_digits (suc most) n h = go (either (ltb n 10)) (enough_digits most (n / 10) (omega arith))
  where
    go : (ltb n 10 ≡ true) ⊎ (ltb n 10 ≡ false) → n / 10 < 10 ^ digit_count most (n / 10) → n < 10 ^ digit_count (suc most) n
    go (inl e) shorter = let few = ltb-true n 10 e in simp e (omega arith)
    go (inr e) shorter = let longer : n < 10 ^ suc (digit_count most (n / 10)) = omega arith in simp e longer

decimal_read : (n : ℕ) → n ≤ 18446744073709551615 → scan_of (decimal n) ≡ reading n
unfolding decimal
decimal_read n l = go (digit_count 19 n) (some_digit 19 n) (enough_digits 19 n (omega arith))
  where
    go : (count : ℕ) → 0 < count → n < 10 ^ count → scan_of (last_digits 10 count n) ≡ reading n
    go zero p h = absurd (omega arith)
    go (suc k) p h = digits_read k n h l

pub number_read : (n : ℕ) → n ≤ 18446744073709551615 → one_number (scan_of (decimal n)) ≡ Some n
unfolding one_number
number_read n l = ap one_number (decimal_read n l)

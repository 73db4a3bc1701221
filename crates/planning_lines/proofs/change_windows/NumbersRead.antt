-- Numbers in decimal with single blanks between them, as `texts` writes them, are read as those numbers, each in its place.
-- Assumes nothing.
use mathlib.Core.Path.{◌≡◌, refl, sym, ap, ap₂, ◌∙◌}
use mathlib.Core.Bool.{true, false}
use mathlib.Core.List.{List, [], ◌∷◌, ◌++◌}
use mathlib.Core.Logic.{◌⊎◌, inl, inr}
use Prim.Native.Nat.{ℕ, zero, suc, ◌+◌, ◌*◌, ◌/◌, ◌%◌, ◌^◌, ◌≤◌, ◌<◌}
use native.Mathlib.Omega.{arith}
use lib.Dec.{ltb, eqb}
use lib.ListN.{length, get_or, take, length-append, length-set}
use lib.Seq.{take-suc, take_all, set-set}
use borrow.Author.Tests.{lt-ltb, le-ltb, ne_eqb}
use Rattle.std.specs.List.{filter}
use Rattle.std.proofs.lemmas.List.Elements.{filter-append}
use Rattle.io.specs.Digits.{last_digits, hex_digit_ascii}
use Rattle.basics.proofs.Tests.{either}
use Rattle.call_lines.specs.Reading.{scan_start, next_place, is_full, with_digit, after_digit, after_space, after_byte, put_in_place, scan_to, scan_of, numbers_to, numbers_in_line}
use Rattle.call_lines.specs.declared.Scan.{Scan}
use Rattle.texts.specs.Text.{digit_count, decimal, field, each}
use Rattle.texts.proofs.fields.ReadBack.{digit_glyph, some_digit, enough_digits}
use Rattle.basics.specs.elements.Places.{at_front}
use Rattle.basics.proofs.elements.Lists.{front_push, front_length, front_first}
use Rattle.planning_lines.specs.stored.Lines.{is_read}
use Rattle.planning_lines.specs.change_windows.Lines.{blanks_in}
use Rattle.planning_lines.specs.change_windows.Written.{LineNumbersFit}

-- ---- reading byte by byte: how far a line is read, and its numbers so far
record Read : Type 0 where
  scan : Scan
  numbers : List ℕ

abbrev read_so : Scan → List ℕ → Read
read_so s ns = record { scan = s; numbers = ns }

abbrev byte : Read → ℕ → Read
byte r b = read_so (after_byte r.scan b) (put_in_place r.numbers (after_byte r.scan b).before (after_byte r.scan b).value)

unfoldable read : Read → List ℕ → Read
read r [] = r
read r (b ∷ bs) = read (byte r b) bs

read_append : (r : Read) (xs ys : List ℕ) → read r (xs ++ ys) ≡ read (read r xs) ys
unfolding read
read_append r [] ys = refl
read_append r (x ∷ xs) ys = read_append (byte r x) xs ys

read_last : (r : Read) (xs : List ℕ) (b : ℕ) → read r (xs ++ (b ∷ [])) ≡ byte (read r xs) b
unfolding read
read_last r xs b = read_append r xs (b ∷ [])

read_to : (line buffer : List ℕ) (i : ℕ) → i ≤ length line → read (read_so scan_start buffer) (take i line) ≡ read_so (scan_to line i) (numbers_to line buffer i)
unfolding read scan_to numbers_to
read_to line buffer zero h = refl
read_to line buffer (suc i) h =
    ap (read (read_so scan_start buffer)) (take-suc line i 0 (omega arith))
    ∙ read_last (read_so scan_start buffer) (take i line) (get_or line i 0)
    ∙ ap (λ (r : Read). byte r (get_or line i 0)) (read_to line buffer i (omega arith))

-- the whole line
read_whole : (line buffer : List ℕ) → read (read_so scan_start buffer) line ≡ read_so (scan_of line) (numbers_in_line line buffer)
read_whole line buffer = ap (read (read_so scan_start buffer)) (sym (take_all (length line) line (omega arith))) ∙ read_to line buffer (length line) (omega arith)

-- ---- one number
-- before number k, and within it
abbrev before_number : ℕ → List ℕ → Read
before_number k ns = read_so (record { value = 0; before = k; has_digit = false; malformed = false; above_limit = false }) ns

abbrev within : ℕ → ℕ → Scan
within k n = record { value = n; before = k; has_digit = true; malformed = false; above_limit = false }

abbrev in_number : ℕ → ℕ → List ℕ → Read
in_number k n ns = read_so (within k n) ns

stored_twice : (ns : List ℕ) (k a b : ℕ) → put_in_place (put_in_place ns k a) k b ≡ put_in_place ns k b
unfolding put_in_place
stored_twice ns k a b = go (either (ltb k (length ns)))
  where
    go : (ltb k (length ns) ≡ true) ⊎ (ltb k (length ns) ≡ false) → put_in_place (put_in_place ns k a) k b ≡ put_in_place ns k b
    go (inl t) = simp (t, length-set) (set-set ns k a b)
    go (inr t) = simp t

first_digit : (k d : ℕ) (ns : List ℕ) → d < 10 → byte (before_number k ns) (hex_digit_ascii d) ≡ in_number k d (put_in_place ns k d)
unfolding after_digit with_digit is_full
first_digit k d ns h =
    let is : 0 + d ≡ d = omega arith in
    ap (λ (s : Scan). read_so s (put_in_place ns s.before s.value))
    (digit_glyph (before_number k ns).scan d h ∙ simp (is, le-ltb 18446744073709551615 d (omega arith)))

next_digit : (k n d : ℕ) (ns : List ℕ) → d < 10 → n * 10 + d ≤ 18446744073709551615 → byte (in_number k n ns) (hex_digit_ascii d) ≡ in_number k (n * 10 + d) (put_in_place ns k (n * 10 + d))
unfolding after_digit with_digit is_full
next_digit k n d ns h l =
    ap (λ (s : Scan). read_so s (put_in_place ns s.before s.value))
    (digit_glyph (in_number k n ns).scan d h ∙ simp (le-ltb 18446744073709551615 (n * 10 + d) l))

digits_read : (j k n : ℕ) (ns : List ℕ) → n < 10 ^ suc j → n ≤ 18446744073709551615 → read (before_number k ns) (last_digits 10 (suc j) n) ≡ in_number k n (put_in_place ns k n)
unfolding read
digits_read zero k n ns h l =
    first_digit k (n % 10) ns (omega arith)
    ∙ ap (λ (m : ℕ). in_number k m (put_in_place ns k m)) (omega arith)
digits_read (suc j) k n ns h l =
    let whole : n / 10 * 10 + n % 10 ≡ n = omega arith in
    read_last (before_number k ns) (last_digits 10 (suc j) (n / 10)) (hex_digit_ascii (n % 10))
    ∙ ap (λ (r : Read). byte r (hex_digit_ascii (n % 10))) (digits_read j k (n / 10) ns (omega arith) (omega arith))
    ∙ next_digit k (n / 10) (n % 10) (put_in_place ns k (n / 10)) (omega arith) (omega arith)
    ∙ ap (λ (m : ℕ). in_number k m (put_in_place (put_in_place ns k (n / 10)) k m)) whole
    ∙ ap (in_number k n) (stored_twice ns k (n / 10) n)

decimal_read : (k n : ℕ) (ns : List ℕ) → n ≤ 18446744073709551615 → read (before_number k ns) (decimal n) ≡ in_number k n (put_in_place ns k n)
unfolding decimal
decimal_read k n ns l = go (digit_count 19 n) (some_digit 19 n) (enough_digits 19 n (omega arith))
  where
    go : (count : ℕ) → 0 < count → n < 10 ^ count → read (before_number k ns) (last_digits 10 count n) ≡ in_number k n (put_in_place ns k n)
    go zero p h = absurd (omega arith)
    go (suc j) p h = digits_read j k n ns h l

-- a blank and the next number
next_one : (k : ℕ) → k < 2048 → next_place k ≡ k + 1
unfolding next_place
next_one k h = simp (lt-ltb k 2048 h)

blank_read : (k n : ℕ) (ns : List ℕ) → k < 2048 → byte (in_number k n ns) 32 ≡ before_number (k + 1) (put_in_place ns (k + 1) 0)
unfolding after_byte after_space
blank_read k n ns h = ap (λ (j : ℕ). before_number j (put_in_place ns j 0)) (next_one k h)

field_read : (k n m : ℕ) (ns : List ℕ) → k < 2048 → m ≤ 18446744073709551615 → read (in_number k n ns) (field m) ≡ in_number (k + 1) m (put_in_place ns (k + 1) m)
unfolding read field
field_read k n m ns h l =
    ap (λ (r : Read). read r (decimal m)) (blank_read k n ns h)
    ∙ decimal_read (k + 1) m (put_in_place ns (k + 1) 0) l ∙ ap (in_number (k + 1) m) (stored_twice ns (k + 1) 0 m)

-- ---- numbers behind one another
-- so they stand on a line
abbrev pub numbers_text : ℕ → List ℕ → List ℕ
numbers_text n ms = decimal n ++ each field ms

abbrev last_of : ℕ → List ℕ → ℕ
last_of n [] = n
last_of n (m ∷ ms) = last_of m ms

-- as many as there are places, the first ones in front
fields_read : (front : List ℕ) (places : List ℕ) (k n : ℕ) (ms : List ℕ) → length front ≡ k + 1 → k + 1 + length ms ≤ length places → k + length ms < 2048 → LineNumbersFit ms
    → read (in_number k n (at_front front places)) (each field ms) ≡ in_number (k + length ms) (last_of n ms) (at_front (front ++ ms) places)
unfolding read each put_in_place
fields_read front places k n [] long room few fit =
    let same : k ≡ k + 0 = omega arith in
    ap₂ (λ (j : ℕ) (l : List ℕ). in_number j n (at_front l places)) same (sym (append_nil_lem front))
  where
    append_nil_lem : (l : List ℕ) → l ++ [] ≡ l
    append_nil_lem [] = refl
    append_nil_lem (x ∷ xs) = ap (λ (r : List ℕ). x ∷ r) (append_nil_lem xs)
fields_read front places k n (m ∷ ms) long room few fit =
    let next : k + 1 + length ms ≡ k + suc (length ms) = omega arith in
    read_append (in_number k n (at_front front places)) (field m) (each field ms)
    ∙ ap (λ (r : Read). read r (each field ms)) (field_read k n m (at_front front places) (omega arith) fit.0 ∙ ap (in_number (k + 1) m) push)
    ∙ fields_read (front ++ (m ∷ [])) places (k + 1) m ms (length-append front (m ∷ []) ∙ omega (arith, long)) (omega arith) (omega arith) fit.1
    ∙ ap₂ (λ (j : ℕ) (l : List ℕ). in_number j (last_of m ms) (at_front l places)) next (assoc front)
  where
    push : put_in_place (at_front front places) (k + 1) m ≡ at_front (front ++ (m ∷ [])) places
    push = simp (front_room, front_push front places (k + 1) m long (omega arith))
      where
        front_room : ltb (k + 1) (length (at_front front places)) ≡ true
        front_room = lt-ltb (k + 1) (length (at_front front places)) (rw (front_length front places (omega arith)) (omega arith))

    assoc : (l : List ℕ) → (l ++ (m ∷ [])) ++ ms ≡ l ++ (m ∷ ms)
    assoc [] = refl
    assoc (x ∷ xs) = ap (λ (r : List ℕ). x ∷ r) (assoc xs)

numbers_read : (places : List ℕ) (n : ℕ) (ms : List ℕ) → 1 + length ms ≤ length places → length ms < 2048 → n ≤ 18446744073709551615 → LineNumbersFit ms
    → read (read_so scan_start places) (numbers_text n ms) ≡ in_number (length ms) (last_of n ms) (at_front (n ∷ ms) places)
unfolding scan_start put_in_place
numbers_read places n ms room few small fit =
    read_append (before_number 0 places) (decimal n) (each field ms)
    ∙ ap (λ (r : Read). read r (each field ms)) (decimal_read 0 n places small ∙ ap (in_number 0 n) first)
    ∙ fields_read (n ∷ []) places 0 n ms refl (omega arith) (omega arith) fit
    ∙ ap (λ (j : ℕ). in_number j (last_of n ms) (at_front (n ∷ ms) places)) (omega arith)
  where
    first : put_in_place places 0 n ≡ at_front (n ∷ []) places
    first = simp (lt-ltb 0 (length places) (omega arith), front_first places n (omega arith))

module _ (places : List ℕ) (n : ℕ) (ms : List ℕ) (room : 1 + length ms ≤ length places) (few : length ms < 2048) (small : n ≤ 18446744073709551615) (fit : LineNumbersFit ms) where
  whole : read_so (scan_of (numbers_text n ms)) (numbers_in_line (numbers_text n ms) places) ≡ in_number (length ms) (last_of n ms) (at_front (n ∷ ms) places)
  whole = sym (read_whole (numbers_text n ms) places) ∙ numbers_read places n ms room few small fit

  -- nothing is wrong with them, and there are as many as there are
  pub numbers_scanned : (is_read (scan_of (numbers_text n ms)) ≡ true) × ((scan_of (numbers_text n ms)).before ≡ length ms)
  unfolding is_read
  numbers_scanned = let s = ap (λ (r : Read). r.scan) whole in (rw s refl, ap (λ (x : Scan). x.before) s)

  -- each stands in its place
  pub numbers_placed : numbers_in_line (numbers_text n ms) places ≡ at_front (n ∷ ms) places
  numbers_placed = ap (λ (r : Read). r.numbers) whole

-- ---- how many blanks stand among them
no_blank : (d : ℕ) → d < 10 → eqb (hex_digit_ascii d) 32 ≡ false
no_blank d h = ne_eqb (hex_digit_ascii d) 32 (λ e. omega (arith, digit_is d h))
  where
    digit_is : (d : ℕ) → d < 10 → hex_digit_ascii d ≡ 48 + d
    digit_is d h = simp (lt-ltb d 10 h)

digits_blanks : (j n : ℕ) → blanks_in (last_digits 10 j n) ≡ 0
digits_blanks zero n = refl
digits_blanks (suc j) n =
    ap length (filter-append (λ b. eqb b 32) (last_digits 10 j (n / 10)) (hex_digit_ascii (n % 10) ∷ []))
    ∙ length-append (filter (λ b. eqb b 32) (last_digits 10 j (n / 10))) _
    ∙ simp (digits_blanks j (n / 10), no_blank (n % 10) (omega arith))

decimal_blanks : (n : ℕ) → blanks_in (decimal n) ≡ 0
unfolding decimal
decimal_blanks n = digits_blanks (digit_count 19 n) n

blanks_append : (xs ys : List ℕ) → blanks_in (xs ++ ys) ≡ blanks_in xs + blanks_in ys
blanks_append xs ys = ap length (filter-append (λ b. eqb b 32) xs ys) ∙ length-append (filter (λ b. eqb b 32) xs) (filter (λ b. eqb b 32) ys)

fields_blanks : (ms : List ℕ) → blanks_in (each field ms) ≡ length ms
unfolding each field
fields_blanks [] = refl
fields_blanks (m ∷ ms) = blanks_append (field m) (each field ms) ∙ omega (arith, decimal_blanks m, fields_blanks ms)

pub numbers_blanks : (n : ℕ) (ms : List ℕ) → blanks_in (numbers_text n ms) ≡ length ms
numbers_blanks n ms = blanks_append (decimal n) (each field ms) ∙ omega (arith, decimal_blanks n, fields_blanks ms)

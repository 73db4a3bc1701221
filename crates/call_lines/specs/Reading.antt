-- The numbers of a line, from its bytes (docs/ORACLE.md, "Call lines").
-- Assumes nothing.
use Rattle.std.specs.Prelude.{Bool, true, false, cond, ◌||◌, List, ℕ, zero, suc, ◌+◌, ◌-◌, ◌*◌, eqb, ltb, leb, length, get_or, set, Result, Ok, Err}
use Rattle.call_lines.specs.declared.Scan.{Scan}
use Rattle.call_lines.specs.declared.Fault.{Fault}
use Rattle.call_lines.specs.declared.Fault.TheVariants.{NotDecimal, NumberAboveLimit, TooLong}

-- one more number, of which a line may have 2048
unfoldable pub next_place : ℕ → ℕ
next_place n = cond (ltb n 2048) (n + 1) n

-- the number n with the digit d behind it is above the limit
unfoldable pub is_full : ℕ → ℕ → Bool
is_full n d = ltb 18446744073709551615 (n * 10 + d)

unfoldable pub with_digit : ℕ → ℕ → ℕ
with_digit n d = cond (is_full n d) n (n * 10 + d)

unfoldable pub scan_start : Scan
scan_start = record { value = 0; before = 0; has_digit = false; malformed = false; above_limit = false }

unfoldable pub not_decimal : Scan → Scan
not_decimal s =
    record { value = s.value; before = s.before; has_digit = s.has_digit; malformed = true; above_limit = s.above_limit }

unfoldable pub after_digit : Scan → ℕ → Scan
after_digit s d =
    record {
      value = with_digit s.value d;
      before = s.before;
      has_digit = true;
      malformed = s.malformed;
      above_limit = s.above_limit || is_full s.value d;
    }

-- a space ends a number: there is none at the start of a line and behind another space
unfoldable pub after_space : Scan → Scan
after_space s =
    cond s.has_digit
    (record { value = 0; before = next_place s.before; has_digit = false; malformed = s.malformed; above_limit = s.above_limit })
    (not_decimal s)

-- 32 is the space, 48 to 57 are the digits
unfoldable pub after_byte : Scan → ℕ → Scan
after_byte s b = cond (eqb b 32) (after_space s) (cond (ltb b 48) (not_decimal s) (cond (ltb 57 b) (not_decimal s) (after_digit s (b - 48))))

-- what is wrong with the bytes of a line that is read to its end; no space stands there
unfoldable pub scan_fault : Scan → Result (Unit {0}) Fault
scan_fault s =
    cond s.malformed (Err NotDecimal)
    (cond s.has_digit
    (cond s.above_limit (Err NumberAboveLimit) (cond (leb 2048 s.before) (Err TooLong) (Ok tt)))
    (Err NotDecimal))

-- what has no place is left out
unfoldable pub put_in_place : {A : Type 0} → List A → ℕ → A → List A
put_in_place places at x = cond (ltb at (length places)) (set places at x) places

-- ---- the first bytes of a line: how far it is read, and the numbers, with the number under way behind those that have ended

unfoldable pub scan_to : List ℕ → ℕ → Scan
scan_to line zero = scan_start
scan_to line (suc i) = after_byte (scan_to line i) (get_or line i 0)

unfoldable pub numbers_to : List ℕ → List ℕ → ℕ → List ℕ
numbers_to line buffer zero = buffer
numbers_to line buffer (suc i) = put_in_place (numbers_to line buffer i) (scan_to line (suc i)).before (scan_to line (suc i)).value

-- ---- the whole line

abbrev pub scan_of : List ℕ → Scan
scan_of line = scan_to line (length line)

-- the numbers are the first of these, one more than the scan has before the last
abbrev pub numbers_in_line : List ℕ → List ℕ → List ℕ
numbers_in_line line buffer = numbers_to line buffer (length line)

-- A first line is taken exactly where it is the decimal text of a number from 1 to 64: there and back.
-- Assumes nothing.
use mathlib.Core.Path.{◌≡◌, ap, ◌∙◌}
use mathlib.Core.List.{List, [], ◌∷◌}
use Prim.Native.Nat.{ℕ, ◌+◌, ◌/◌, ◌%◌, ◌≤◌, ◌<◌}
use native.Mathlib.Decide.{dec_lt}
use native.Mathlib.Nat.{le_of_suc-le-suc, lt_of_not-le}
use native.Mathlib.Omega.{arith}
use borrow.Author.Tests.{lt-ltb, le-ltb, le-leb}
use Rattle.sheet.specs.Text.{text}
use Rattle.sheet.specs.count.Count.{count_line, two_digits, count_of_line, count_asked}
use Rattle.sheet.proofs.count.Counting.{count_range}
use Rattle.std.proofs.Common.{Some}

line_taken : (n : ℕ) → 1 ≤ n → n ≤ 64 → count_of_line (text n) ≡ Some n
unfolding count_of_line text
line_taken n h l = go (dec_lt n 10)
  where
    go : Dec (n < 10) → count_of_line (text n) ≡ Some n
    go (yes s) = simp (lt-ltb n 10 s, le-leb 49 (48 + n) (omega arith), le-leb (48 + n) 57 (omega arith)) (ap Some (omega arith))
    go (no d) =
        let s : 10 ≤ n = le_of_suc-le-suc (lt_of_not-le d) in
        let a : ℕ = 48 + n / 10 in
        let b : ℕ = 48 + n % 10 in
        let e : two_digits a b ≡ n = omega arith in
        rw (le-ltb n 10 s)
        (simp (le-leb 49 a (omega arith), le-leb a 57 (omega arith), le-leb 48 b (omega arith), le-leb b 57 (omega arith), le-leb (two_digits a b) 64 (omega arith)) (ap Some e))

counted : (l : List ℕ) (n : ℕ) → count_of_line l ≡ Some n → l ≡ text n
unfolding count_of_line text
counted [] n e = grind arith
counted (a ∷ []) n e = grind arith
counted (a ∷ b ∷ []) n e = grind arith
counted (a ∷ b ∷ d ∷ rest) n e = grind arith

-- a first line that is the decimal text of a number from 1 to 64 is taken as that number
pub decimal_taken : (s : List ℕ) (n : ℕ) → 1 ≤ n → n ≤ 64 → count_line s ≡ text n → count_asked s ≡ Some n
unfolding count_asked
decimal_taken s n h l e = ap count_of_line e ∙ line_taken n h l

-- a first line that is taken as a number is the decimal text of that number, which is from 1 to 64
pub taken_decimal : (s : List ℕ) (n : ℕ) → count_asked s ≡ Some n → (count_line s ≡ text n) × (1 ≤ n) × (n ≤ 64)
unfolding count_asked
taken_decimal s n e = let range = count_range s n e in (counted (count_line s) n e, range.0, range.1)

-- Every answer fits a page: a header of 31 bytes and 64 lines of at most 13.
-- Assumes nothing.
use Rattle.std.proofs.Common.{◌≡◌, refl, ℕ, zero, suc, ◌≤◌, ◌*◌, List, [], ◌∷◌, length, Option, Some, None, arith}
use lib.ListN.{length-append}
use Rattle.quorum.specs.Quorum.{majority_of, epaxos_of, fast_of}
use Rattle.sheet.specs.Text.{text, number_and_byte}
use Rattle.sheet.specs.Sheet.{header, sheet_line, sheet_lines, sheet_of}
use Rattle.sheet.specs.count.Count.{count_asked}
use Rattle.sheet.proofs.count.Counting.{count_range}
use Rattle.sheet.specs.Answer.{refused_line, answer_for, sheet_answer}
use Rattle.sheet.proofs.Printed.{text_length}

field_length : (v b : ℕ) → length (number_and_byte v b) ≤ 3
unfolding number_and_byte
field_length v b = omega (arith, text_length v, length-append (text v) (b ∷ []))

line_length : (n : ℕ) → length (sheet_line n) ≤ 13
unfolding sheet_line
line_length n =
    simp length-append
    (omega (arith, field_length n 44, field_length (majority_of n) 44, field_length (epaxos_of n) 44, field_length (fast_of n) 13))

lines_length : (n : ℕ) → length (sheet_lines n) ≤ 13 * n
unfolding sheet_lines
lines_length zero = omega arith
lines_length (suc n) = omega (arith, length-append (sheet_lines n) (sheet_line (suc n)), lines_length n, line_length (suc n))

answer_for_length : (o : Option ℕ) → ((n : ℕ) → o ≡ Some n → n ≤ 64) → length (answer_for o) ≤ 863
unfolding answer_for refused_line sheet_of header
answer_for_length None small = omega arith
answer_for_length (Some n) small = omega (arith, length-append header (sheet_lines n), lines_length n, small n refl)

-- every answer fits a page
pub answer_length : (s : List ℕ) → length (sheet_answer s) ≤ 863
unfolding sheet_answer
answer_length s = answer_for_length (count_asked s) (λ n e. (count_range s n e).1)

-- What a line of `planning` asks of dates and windows, and the windows that a line begins (docs/PLANNING.md; document 02, E8).
-- Assumes nothing.
use Rattle.std.specs.Prelude.{Bool, cond, ◌&&◌, ◌||◌, List, ℕ, ◌*◌, eqb, length, get_or, drop, replicate, Option, Some, None}
use Rattle.std.specs.List.{filter}
use Rattle.call_lines.specs.Reading.{scan_of, numbers_in_line}
use Rattle.call_lines.specs.declared.Scan.{Scan}
use Rattle.texts.specs.Text.{ascii}
use Rattle.texts.specs.fields.Fields.{begins, number_from}
use Rattle.planning_lines.specs.stored.Lines.{is_read}
use Rattle.windows.specs.declared.Windows.{Windows}
use Rattle.call_lines.specs.dates.Numbers.{date_at, counted_windows_at}
use Rattle.planning_lines.specs.declared.change_windows.WindowQuestion.{WindowQuestion}
use Rattle.planning_lines.specs.declared.change_windows.WindowQuestion.TheVariants.{MinuteOf, DateOf, AskAt, BadLine}

-- ---- `minute Y M D H MIN`, `date MINUTE` and `ask MINUTE`

-- five numbers of 64 bits with single blanks between them
unfoldable pub is_date_line : Scan → Bool
is_date_line s = is_read s && eqb s.before 4

unfoldable pub date_question : List ℕ → WindowQuestion
date_question bytes = cond (is_date_line (scan_of bytes)) (MinuteOf (date_at (numbers_in_line bytes (replicate 5 0)) 0)) BadLine

abbrev pub minute_question : Option ℕ → WindowQuestion
minute_question (Some minute) = DateOf minute
minute_question None = BadLine

abbrev pub ask_question : Option ℕ → WindowQuestion
ask_question (Some minute) = AskAt minute
ask_question None = BadLine

-- the line begins with one of the three words
unfoldable pub is_question : List ℕ → Bool
is_question line = begins (ascii "minute ") line || begins (ascii "date ") line || begins (ascii "ask ") line

unfoldable pub window_question_of : List ℕ → WindowQuestion
window_question_of line =
    cond (begins (ascii "minute ") line) (date_question (drop 7 line))
    (cond (begins (ascii "date ") line) (minute_question (number_from line 5)) (ask_question (number_from line 4)))

-- ---- "`windows COUNT` and ten numbers a window (start, end)"

-- 32 is the blank
abbrev pub blanks_in : List ℕ → ℕ
blanks_in bytes = length (filter (λ b. eqb b 32) bytes)

-- numbers of 64 bits with single blanks between them: a count, and ten for each window, so that as many blanks stand before those
unfoldable pub is_windows_count_line : Scan → ℕ → ℕ → Bool
is_windows_count_line s blanks count = is_read s && eqb blanks (10 * count)

-- the numbers stand in 1,281 places: the count, and ten for each of 128 windows
abbrev pub windows_line_numbers : List ℕ → List ℕ
windows_line_numbers bytes = numbers_in_line bytes (replicate 1281 0)

-- the windows that the line begins, where it is one
unfoldable pub windows_line : List ℕ → Option Windows
windows_line bytes =
    cond (is_windows_count_line (scan_of bytes) (blanks_in bytes) (get_or (windows_line_numbers bytes) 0 0)) (Some (counted_windows_at (windows_line_numbers bytes) 0)) None

-- ---- the line begins with a word of these lines
unfoldable pub is_window_line : List ℕ → Bool
is_window_line line = begins (ascii "windows ") line || is_question line

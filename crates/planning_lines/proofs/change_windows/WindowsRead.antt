-- Each date and each list of at most 128 windows, written on a line in decimal, is read as that date and as those windows.
-- Assumes nothing.
use mathlib.Core.Path.{◌≡◌, refl, ap₂, ◌∙◌}
use mathlib.Core.Bool.{Bool, true, cond}
use mathlib.Core.List.{List, [], ◌∷◌}
use Prim.Native.Nat.{ℕ, suc, ◌+◌, ◌*◌, ◌≤◌, ◌<◌}
use native.Mathlib.Omega.{arith}
use lib.ListN.{length, get_or, drop, replicate, length-replicate}
use borrow.Author.Tests.{eq-eqb}
use Rattle.std.specs.Prelude.{Option, Some, None}
use Rattle.call_lines.specs.Reading.{scan_of}
use Rattle.texts.specs.Text.{ascii, fields, each, field}
use Rattle.texts.proofs.fields.Words.{word_begins}
use Rattle.basics.specs.elements.Places.{at_front}
use Rattle.calendar.specs.declared.Date.{Date}
use Rattle.windows.specs.Windows.{agreed_windows}
use Rattle.windows.specs.declared.Window.{Window}
use Rattle.windows.specs.declared.Windows.{Windows}
use Rattle.call_lines.specs.dates.Numbers.{counted_windows_at}
use Rattle.call_lines.specs.dates.Written.{date_numbers, numbers_of_windows}
use Rattle.call_lines.proofs.dates.ReadBack.{ten_numbers, windows_as_written}
use Rattle.planning_lines.specs.change_windows.Lines.{is_date_line, date_question, window_question_of, blanks_in, is_windows_count_line, windows_line_numbers, windows_line}
use Rattle.planning_lines.specs.change_windows.Written.{minute_line, windows_line_of, LineNumbersFit}
use Rattle.planning_lines.specs.declared.change_windows.WindowQuestion.TheVariants.{MinuteOf}
use Rattle.planning_lines.proofs.change_windows.NumbersRead.{numbers_text, numbers_scanned, numbers_placed, numbers_blanks}

-- ---- a date

pub minute_asks : (d : Date) → LineNumbersFit (date_numbers d) → window_question_of (minute_line d) ≡ MinuteOf d
unfolding window_question_of date_question is_date_line fields field each at_front
minute_asks d fit =
    let ms = d.month ∷ d.day ∷ d.hour ∷ d.minute ∷ [] in
    let scanned = numbers_scanned (replicate 5 0) d.year ms (omega arith) (omega arith) fit.0 fit.1 in
    let placed = numbers_placed (replicate 5 0) d.year ms (omega arith) (omega arith) fit.0 fit.1 in
    rw (word_begins (ascii "minute ") (numbers_text d.year ms), scanned.0, scanned.1, placed) refl

-- ---- windows
module _ (ws : List Window) (few : length ws ≤ 128) (fit : LineNumbersFit (numbers_of_windows ws)) where
  abbrev line : List ℕ
  line = numbers_text (length ws) (numbers_of_windows ws)

  abbrev ns : List ℕ
  ns = at_front (length ws ∷ numbers_of_windows ws) (replicate 1281 0)

  room : 1 + length (numbers_of_windows ws) ≤ length {A = ℕ} (replicate 1281 0)
  room = rw length-replicate (omega (arith, ten_numbers ws))

  short : length (numbers_of_windows ws) < 2048
  short = omega (arith, ten_numbers ws)

  placed : windows_line_numbers line ≡ ns
  placed = numbers_placed (replicate 1281 0) (length ws) (numbers_of_windows ws) room short (omega arith) fit

  is_one : is_windows_count_line (scan_of line) (blanks_in line) (get_or (windows_line_numbers line) 0 0) ≡ true
  unfolding is_windows_count_line at_front
  is_one =
      let scanned = numbers_scanned (replicate 1281 0) (length ws) (numbers_of_windows ws) room short (omega arith) fit in
      rw (scanned.0, placed) (eq-eqb (blanks_in line) (10 * length ws) (numbers_blanks (length ws) (numbers_of_windows ws) ∙ ten_numbers ws))

  -- the line begins these windows
  pub windows_read : windows_line (drop 8 (windows_line_of ws)) ≡ Some (counted_windows_at ns 0)
  unfolding windows_line fields each field
  windows_read = ap₂ (λ (t : Bool) (l : List ℕ). cond {A = Option Windows} t (Some (counted_windows_at l 0)) None) is_one placed

  pub read_windows : agreed_windows (counted_windows_at ns 0) ≡ ws
  unfolding at_front
  read_windows = windows_as_written [] ws (drop (suc (length (numbers_of_windows ws))) (replicate 1281 0)) few

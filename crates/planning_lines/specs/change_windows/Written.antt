-- Dates and windows as they are written on a line, in decimal: what a line must be read as. No function computes these.
-- Assumes nothing.
use Rattle.std.specs.Prelude.{List, [], ◌∷◌, ℕ, ◌≤◌, length}
use Rattle.texts.specs.Text.{ascii, fields}
use Rattle.calendar.specs.declared.Date.{Date}
use Rattle.windows.specs.declared.Window.{Window}
use Rattle.call_lines.specs.dates.Written.{date_numbers, numbers_of_windows}

-- `minute Y M D H MIN`
abbrev pub minute_line : Date → List ℕ
minute_line d = fields (ascii "minute") (date_numbers d)

-- `windows COUNT` and the numbers of each
abbrev pub windows_line_of : List Window → List ℕ
windows_line_of ws = fields (ascii "windows") (length ws ∷ numbers_of_windows ws)

-- the numbers have 64 bits
abbrev pub LineNumbersFit : List ℕ → Type 0
LineNumbersFit [] = Unit {0}
LineNumbersFit (n ∷ ns) = (n ≤ 18446744073709551615) × LineNumbersFit ns

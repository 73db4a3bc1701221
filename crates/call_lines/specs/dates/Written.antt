-- Dates and windows as they are written in numbers: what numbers must be read as. No function computes these.
-- Assumes nothing.
use Rattle.std.specs.Prelude.{List, [], ◌∷◌, ◌++◌, ℕ}
use Rattle.calendar.specs.declared.Date.{Date}
use Rattle.windows.specs.declared.Window.{Window}

-- `Y M D H MIN`
abbrev pub date_numbers : Date → List ℕ
date_numbers d = d.year ∷ d.month ∷ d.day ∷ d.hour ∷ d.minute ∷ []

-- "ten numbers a window (start, end)"
abbrev pub window_numbers : Window → List ℕ
window_numbers w = date_numbers w.start ++ date_numbers w.end

unfoldable pub numbers_of_windows : List Window → List ℕ
numbers_of_windows [] = []
numbers_of_windows (w ∷ ws) = window_numbers w ++ numbers_of_windows ws

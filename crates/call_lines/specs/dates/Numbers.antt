-- Dates and change windows in the numbers of a line (document 02, E8): five numbers a date, ten a window (start, end), and windows behind their count.
-- A number that the line does not have is read as 0.
-- Assumes nothing.
use Rattle.std.specs.Prelude.{List, [], ◌∷◌, ◌++◌, ℕ, zero, suc, ◌+◌, ◌*◌, get_or}
use Rattle.calendar.specs.declared.Date.{Date}
use Rattle.windows.specs.declared.Window.{Window}
use Rattle.windows.specs.declared.Windows.{Windows}

-- the date whose numbers begin at a place
abbrev pub date_at : List ℕ → ℕ → Date
date_at ns at =
    record { year = get_or ns at 0; month = get_or ns (at + 1) 0; day = get_or ns (at + 2) 0; hour = get_or ns (at + 3) 0; minute = get_or ns (at + 4) 0 }

abbrev pub window_at : List ℕ → ℕ → Window
window_at ns at = record { start = date_at ns at; end = date_at ns (at + 5) }

-- the first windows of those that begin at a place
unfoldable pub windows_to : List ℕ → ℕ → ℕ → List Window
windows_to ns at zero = []
windows_to ns at (suc i) = windows_to ns at i ++ (window_at ns (at + 10 * i) ∷ [])

-- the windows that are counted at a place and begin behind it: those past the 128th are not read, since it is their count that refuses them
unfoldable pub counted_windows_at : List ℕ → ℕ → Windows
counted_windows_at ns at = record { places = windows_to ns (at + 1) 128; count = get_or ns at 0 }

-- The numbers behind the word of a line `stored`, and the register that they begin (docs/PLANNING.md; document 02, E7).
-- Assumes nothing.
use Rattle.std.specs.Prelude.{Bool, true, cond, ◌&&◌, not, List, [], ◌∷◌, ◌++◌, ℕ, zero, suc, ◌+◌, ◌*◌, eqb, ltb, leb, get_or, replicate, Option, Some, None}
use Rattle.call_lines.specs.Reading.{scan_of, numbers_in_line}
use Rattle.call_lines.specs.declared.Scan.{Scan}
use Rattle.basics.specs.elements.Places.{at_front}
use Rattle.register.specs.Cells.{cell_of}
use Rattle.register.specs.Register.{assignable}
use Rattle.register.specs.declared.Assignment.{Assignment}
use Rattle.register.specs.declared.Register.{Register}
use Rattle.register.specs.stored.Stored.{stored_cell, stored_cell_of, widened}
use Rattle.register.specs.declared.stored.StoredCell.{StoredCell}
use Rattle.register.specs.declared.stored.StoredRegister.{StoredRegister}

-- the bytes are numbers of 64 bits with single blanks between them
unfoldable pub is_read : Scan → Bool
is_read s = not s.malformed && not s.above_limit && s.has_digit

-- ---- cells: three numbers each, behind the first five
abbrev pub stored_number_at : List ℕ → ℕ → ℕ
stored_number_at ns i = get_or ns (3 * i + 5) 0

abbrev pub stored_assignment_at : List ℕ → ℕ → Assignment
stored_assignment_at ns i = record { carrier = get_or ns (3 * i + 6) 0; width = get_or ns (3 * i + 7) 0 }

-- the number of cell i is above that of the cell before it
unfoldable pub rises_at : List ℕ → ℕ → Bool
rises_at ns i = cond (eqb i 0) true (ltb (get_or ns (3 * i + 2) 0) (stored_number_at ns i))

-- no "cells above 65,535, not rising .., a carrier or width outside its limits"
unfoldable pub is_cell_at : List ℕ → ℕ → Bool
is_cell_at ns i = leb (stored_number_at ns i) 65535 && rises_at ns i && assignable (stored_assignment_at ns i)

-- so are the first cells
unfoldable pub are_cells : List ℕ → ℕ → Bool
are_cells ns zero = true
are_cells ns (suc i) = are_cells ns i && is_cell_at ns i

abbrev pub stored_cell_at : List ℕ → ℕ → StoredCell
stored_cell_at ns i = stored_cell_of (cell_of (stored_number_at ns i) (stored_assignment_at ns i))

-- the first cells
unfoldable pub stored_cells : List ℕ → ℕ → List StoredCell
stored_cells ns zero = []
stored_cells ns (suc i) = stored_cells ns i ++ (stored_cell_at ns i ∷ [])

-- 512 places without a cell
abbrev pub empty_cells : List StoredCell
empty_cells = replicate 512 (stored_cell 0 (record { carrier = 0; width = 0 }))

-- ---- the line
abbrev pub stored_of_numbers : List ℕ → StoredRegister
stored_of_numbers ns =
    record {
      next_slot = get_or ns 0 0;
      figures = record { made = get_or ns 1 0; superseded = get_or ns 2 0; released = get_or ns 3 0 };
      live_count = get_or ns 4 0;
      cells = at_front (stored_cells ns (get_or ns 4 0)) empty_cells;
    }

-- at most 512 cells, as many as the line has, and each is one
unfoldable pub is_stored : Scan → List ℕ → Bool
is_stored s ns = leb (get_or ns 4 0) 512 && eqb s.before (3 * get_or ns 4 0 + 4) && is_read s && are_cells ns (get_or ns 4 0)

-- the numbers stand in 1,541 places: five, and three for each of 512 cells
abbrev pub stored_numbers : List ℕ → List ℕ
stored_numbers bytes = numbers_in_line bytes (replicate 1541 0)

-- the register that the line begins, where it is one
unfoldable pub stored_line : List ℕ → Option Register
stored_line bytes = cond (is_stored (scan_of bytes) (stored_numbers bytes)) (Some (widened (stored_of_numbers (stored_numbers bytes)))) None

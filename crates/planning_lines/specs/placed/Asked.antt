-- What a line asks or tells of cells with positions (docs/PLANNING.md): an entry, `conflicts CARRIER WIDTH X Y DISTANCE`,
-- `free FIRST LAST WIDTH X Y DISTANCE` and `cells`.
-- Assumes nothing.
use Rattle.std.specs.Prelude.{cond, not, ◌&&◌, List, ℕ, ℤ, eqb, length, Option, Some, None, is_some, unwrap_or}
use Rattle.texts.specs.Text.{ascii}
use Rattle.texts.specs.fields.Fields.{begins, is_line, value_or_zero, has_number_field, next_field, number_field}
use Rattle.positions.specs.declared.PlacedEntry.{PlacedEntry}
use Rattle.register_lines.specs.entries.Signed.{signed_field, signed_value}
use Rattle.register_lines.specs.entries.Entries.{second_field, third_field, y_at, entry_in_line}
use Rattle.reach.specs.declared.Question.{Question}
use Rattle.planning_lines.specs.declared.placed.PositionLine.{PositionLine}
use Rattle.planning_lines.specs.declared.placed.PositionLine.TheVariants.{Enter, Conflicts, Free, CellList, Other}

-- ---- questions
unfoldable pub place_question : Option ℕ → Option ℤ → Option ℤ → Option ℕ → Option Question
place_question width x y distance =
    cond (has_number_field width && is_some x && is_some y && has_number_field distance)
    (Some (record { width = value_or_zero width; position = record { x = signed_value x; y = signed_value y }; distance = value_or_zero distance })) None

-- the place of the field behind a width and a position
abbrev pub behind_y : List ℕ → ℕ → ℕ
behind_y line at = next_field line (signed_field line (y_at line at)).end

-- `WIDTH X Y DISTANCE`, to the end of the line
unfoldable pub question_at : List ℕ → ℕ → Option Question
question_at line at =
    cond (not (eqb (number_field line (behind_y line at)).end (length line))) None
    (place_question (number_field line at).number (signed_field line (second_field line at)).number (signed_field line (y_at line at)).number
    (number_field line (behind_y line at)).number)

abbrev pub with_carrier : Option ℕ → Option Question → Option PositionLine
with_carrier (Some n) (Some q) = Some (Conflicts n q)
with_carrier (Some n) None = None
with_carrier None q = None

unfoldable pub conflicts_asked : List ℕ → Option PositionLine
conflicts_asked line = with_carrier (number_field line 10).number (question_at line (second_field line 10))

abbrev pub with_range : Option ℕ → Option ℕ → Option Question → Option PositionLine
with_range (Some first) (Some last) (Some q) = Some (Free first last q)
with_range (Some first) (Some last) None = None
with_range (Some first) None q = None
with_range None last q = None

unfoldable pub free_of : List ℕ → Option PositionLine
free_of line = with_range (number_field line 5).number (number_field line (second_field line 5)).number (question_at line (third_field line 5))

abbrev pub entered_line : Option PlacedEntry → PositionLine
entered_line (Some e) = Enter e
entered_line None = Other

unfoldable pub position_line_of : List ℕ → PositionLine
position_line_of line =
    cond (is_line (ascii "cells") line) CellList
    (cond (begins (ascii "conflicts ") line) (unwrap_or (conflicts_asked line) Other)
    (cond (begins (ascii "free ") line) (unwrap_or (free_of line) Other) (entered_line (entry_in_line line))))

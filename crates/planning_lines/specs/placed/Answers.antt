-- What is written of cells with positions and of their questions (docs/PLANNING.md), as bytes, and the register after a line.
-- Assumes nothing.
use Rattle.std.specs.Prelude.{Bool, true, false, cond, List, ◌++◌, ℕ, is_some, min, length, take, replicate, drop, Option, Some, None, Result, Ok, Err}
use Rattle.texts.specs.Text.{ascii, decimal, field, each}
use Rattle.texts.specs.fields.Fields.{begins, line_text}
use Rattle.register.specs.declared.Entered.{Entered}
use Rattle.register.specs.declared.Entered.TheVariants.{Done, Older}
use Rattle.group_register.specs.Settings.{settings_refusal, is_made}
use Rattle.register_lines.specs.declared.RegisterQuestion.TheVariants.{Begin, ReportLine}
use Rattle.planning_lines.specs.Questions.{plain_question_of}
use Rattle.planning_lines.specs.declared.PlainQuestion.{PlainQuestion}
use Rattle.planning_lines.specs.declared.PlainQuestion.TheVariants.{FrequencyOf, CarrierOf, OfRegister, BadLine}
use Rattle.planning_lines.specs.stored.Answers.{register_after_line, line_answer}
use Rattle.planning_lines.specs.stored.Lines.{stored_line}
use Rattle.positions.specs.Placed.{register_with_positions, without_positions, position_refusal_number, apply_entry}
use Rattle.positions.specs.declared.PlacedRegister.{PlacedRegister}
use Rattle.positions.specs.declared.Position.{Position}
use Rattle.positions.specs.declared.PositionRefusal.{PositionRefusal}
use Rattle.reach.specs.Cells.{cells_of}
use Rattle.reach.specs.Reach as reach
use Rattle.reach.specs.declared.PlacedCell.{PlacedCell}
use Rattle.reach.specs.declared.ReachRefusal.{ReachRefusal}
use Rattle.register_lines.specs.entries.Signed.{signed_text}
use Rattle.planning_lines.specs.placed.Asked.{position_line_of}
use Rattle.planning_lines.specs.declared.placed.PositionLine.{PositionLine}
use Rattle.planning_lines.specs.declared.placed.PositionLine.TheVariants.{Enter, Conflicts, Free, CellList, Other}

unfoldable pub position_text : Option Position → List ℕ
position_text None = ascii " - -"
position_text (Some p) = signed_text p.x ++ signed_text p.y

-- number, carrier, width, position
unfoldable pub cell_text : PlacedCell → List ℕ
cell_text c = ascii "; " ++ decimal c.number ++ field c.assignment.carrier ++ field c.assignment.width ++ position_text c.position

-- the number of live cells, and each of them, by number
unfoldable pub cells_text : PlacedRegister → List ℕ
cells_text p = decimal (length (cells_of p)) ++ each cell_text (cells_of p) ++ ascii "\n"

unfoldable pub made_cells_text : PlacedRegister → List ℕ
made_cells_text p = cond (is_made p.group.settings) (cells_text p) (line_text (ascii "refused") (settings_refusal p.group.settings))

unfoldable pub position_outcome_text : Result Entered PositionRefusal → List ℕ
position_outcome_text (Ok Done) = ascii "done\n"
position_outcome_text (Ok Older) = ascii "old\n"
position_outcome_text (Err why) = line_text (ascii "refused") (position_refusal_number why)

-- the count and the cells' numbers, joined by blanks
unfoldable pub list_text : Result ℕ ReachRefusal × List ℕ → List ℕ
list_text (Ok count, numbers) = decimal count ++ each field (take (min count 512) numbers) ++ ascii "\n"
list_text (Err why, numbers) = line_text (ascii "refused") (reach.reach_refusal_number why)

unfoldable pub carrier_text : Result ℕ ReachRefusal → List ℕ
carrier_text (Ok n) = line_text (ascii "free") n
carrier_text (Err why) = line_text (ascii "refused") (reach.reach_refusal_number why)

abbrev pub no_numbers : List ℕ
no_numbers = replicate 512 0

-- ---- which lines begin a register: its cells have no positions
abbrev pub begins_anew : PlainQuestion → Bool
begins_anew (FrequencyOf n) = false
begins_anew (CarrierOf f) = false
begins_anew (OfRegister (Begin slot)) = true
begins_anew (OfRegister ReportLine) = false
begins_anew BadLine = false

unfoldable pub begins_register : List ℕ → Bool
begins_register line =
    cond (begins (ascii "stored ") line) (is_some (stored_line (drop 7 line))) (cond (begins (ascii "register") line) (begins_anew (plain_question_of line)) false)

-- any other line
unfoldable pub after_other : PlacedRegister → List ℕ → PlacedRegister
after_other p line =
    cond (begins_register line) (without_positions (register_after_line p.group line)) (register_with_positions (register_after_line p.group line) p.positions)

-- ---- the register after a line, and what is written for it
abbrev pub after_asked : PlacedRegister → List ℕ → PositionLine → PlacedRegister
after_asked p line (Enter e) = (apply_entry p e).placed
after_asked p line (Conflicts n q) = p
after_asked p line (Free first last q) = p
after_asked p line CellList = p
after_asked p line Other = after_other p line

unfoldable pub placed_after_line : PlacedRegister → List ℕ → PlacedRegister
placed_after_line p line = after_asked p line (position_line_of line)

abbrev pub position_line_text : PlacedRegister → List ℕ → PositionLine → List ℕ
position_line_text p line (Enter e) = position_outcome_text (apply_entry p e).outcome
position_line_text p line (Conflicts n q) = list_text (reach.conflicts_of p.group.settings (cells_of p) n q no_numbers)
position_line_text p line (Free first last q) = carrier_text (reach.first_free p.group.settings (cells_of p) first last q)
position_line_text p line CellList = made_cells_text p
position_line_text p line Other = line_answer p.group line

unfoldable pub placed_line_answer : PlacedRegister → List ℕ → List ℕ
placed_line_answer p line = position_line_text p line (position_line_of line)

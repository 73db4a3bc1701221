-- A line of `planning`: the line `stored` (E7), or one of the requests before (crates/planning_lines).
-- Assumes nothing.
use Rattle.std.specs.Prelude.{Bool, false, cond, List, ℕ, drop, Option, Some, None, is_some}
use Rattle.texts.specs.Text.{ascii}
use Rattle.texts.specs.fields.Fields.{begins}
use Rattle.planning_lines.specs.Questions.{plain_question_of}
use Rattle.planning_lines.specs.Answers.{bad_line_text, after_line, plain_answer_text}
use Rattle.register.specs.declared.Register.{Register}
use Rattle.register_lines.specs.Answers.{begun_text}
use Rattle.group_register.specs.GroupRegister.{group_register}
use Rattle.group_register.specs.declared.GroupRegister.{GroupRegister}
use Rattle.group_register.specs.declared.RegisterSettings.{RegisterSettings}
use Rattle.planning_lines.specs.stored.Lines.{stored_line}

-- "begins the register that a stored 16-bit one widens to"; from E13 on with the settings of the register before it, which are those of the latest line
-- that named some, never a default; a bad line "changes nothing"
unfoldable pub after_stored : GroupRegister → Option Register → GroupRegister
after_stored g (Some begun) = group_register g.settings begun
after_stored g None = g

unfoldable pub stored_text : RegisterSettings → Option Register → List ℕ
stored_text s (Some begun) = begun_text s
stored_text s None = bad_line_text

-- whether a line begins a register of stored cells
unfoldable pub begins_stored : List ℕ → Bool
begins_stored line = cond (begins (ascii "stored ") line) (is_some (stored_line (drop 7 line))) false

-- the register after a line
unfoldable pub register_after_line : GroupRegister → List ℕ → GroupRegister
register_after_line g line = cond (begins (ascii "stored ") line) (after_stored g (stored_line (drop 7 line))) (after_line g (plain_question_of line))

-- what is written for it
unfoldable pub line_answer : GroupRegister → List ℕ → List ℕ
line_answer g line =
    cond (begins (ascii "stored ") line) (stored_text g.settings (stored_line (drop 7 line)))
    (plain_answer_text (plain_question_of line) (after_line g (plain_question_of line)))

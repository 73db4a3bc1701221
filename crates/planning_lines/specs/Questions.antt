-- What a line of `planning` asks (docs/PLANNING.md).
-- Assumes nothing.
use Rattle.std.specs.Prelude.{cond, List, ℕ, Option, Some, None}
use Rattle.texts.specs.Text.{ascii}
use Rattle.texts.specs.fields.Fields.{begins, is_line, number_from}
use Rattle.register_lines.specs.declared.RegisterQuestion.TheVariants.{Begin, ReportLine}
use Rattle.planning_lines.specs.declared.PlainQuestion.{PlainQuestion}
use Rattle.planning_lines.specs.declared.PlainQuestion.TheVariants.{FrequencyOf, CarrierOf, OfRegister, BadLine}

abbrev pub frequency_question : Option ℕ → PlainQuestion
frequency_question (Some n) = FrequencyOf n
frequency_question None = BadLine

abbrev pub carrier_question : Option ℕ → PlainQuestion
carrier_question (Some f) = CarrierOf f
carrier_question None = BadLine

-- E6: `register` and `report`; E13: `register SLOT`, "without it 2^63−2"
abbrev pub begin_question : Option ℕ → PlainQuestion
begin_question (Some slot) = OfRegister (Begin slot)
begin_question None = BadLine

unfoldable pub register_line_question : List ℕ → PlainQuestion
register_line_question line =
    cond (is_line (ascii "register") line) (OfRegister (Begin 9223372036854775806))
    (cond (begins (ascii "register ") line) (begin_question (number_from line 9))
    (cond (is_line (ascii "report") line) (OfRegister ReportLine) BadLine))

-- E5: `number N` and `khz F`
unfoldable pub plain_question_of : List ℕ → PlainQuestion
plain_question_of line =
    cond (begins (ascii "number ") line) (frequency_question (number_from line 7))
    (cond (begins (ascii "khz ") line) (carrier_question (number_from line 4)) (register_line_question line))

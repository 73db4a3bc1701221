-- The answer to a question, as bytes (docs/PLANNING.md): a word and a value, or `refused` and the number of document 02.
-- Assumes nothing.
use Rattle.std.specs.Prelude.{cond, List, ℕ, eqb}
use Rattle.texts.specs.Text.{ascii}
use Rattle.texts.specs.fields.Fields.{line_text}
use Rattle.group_register.specs.declared.GroupRegister.{GroupRegister}
use Rattle.register_lines.specs.Answers.{after_question, register_answer}
use Rattle.raster.specs.Raster.{frequency_of, number_of, raster_refusal, raster_value}
use Rattle.planning_lines.specs.declared.PlainQuestion.{PlainQuestion}
use Rattle.planning_lines.specs.declared.PlainQuestion.TheVariants.{FrequencyOf, CarrierOf, OfRegister, BadLine}

unfoldable pub value_text : List ℕ → ℕ → ℕ → List ℕ
value_text word refusal value = cond (eqb refusal 0) (line_text word value) (line_text (ascii "refused") refusal)

unfoldable pub bad_line_text : List ℕ
bad_line_text = ascii "bad line\n"

-- the register after a question: a bad line "changes nothing"
unfoldable pub after_line : GroupRegister → PlainQuestion → GroupRegister
after_line g (FrequencyOf n) = g
after_line g (CarrierOf f) = g
after_line g (OfRegister q) = after_question g q
after_line g BadLine = g

-- what is written, by the register after it
unfoldable pub plain_answer_text : PlainQuestion → GroupRegister → List ℕ
plain_answer_text (FrequencyOf n) g = value_text (ascii "khz") (raster_refusal (frequency_of n)) (raster_value (frequency_of n))
plain_answer_text (CarrierOf f) g = value_text (ascii "number") (raster_refusal (number_of f)) (raster_value (number_of f))
plain_answer_text (OfRegister q) g = register_answer q g
plain_answer_text BadLine g = bad_line_text

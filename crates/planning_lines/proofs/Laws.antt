-- What is written for a line. E5: `number N` and `khz F` are read as what they ask, for every number of 64 bits, and answered by the table of
-- TS 38.104. E13: so is the slot that a register is begun with.
-- Assumes nothing.
use mathlib.Core.Path.{◌≡◌, refl, ap}
use mathlib.Core.Bool.{Bool, false, ◌&&◌}
use mathlib.Core.List.{List, ◌++◌}
use Prim.Native.Nat.{ℕ, ◌+◌, ◌≤◌}
use native.Mathlib.Omega.{arith}
use lib.Dec.{eqb}
use lib.ListN.{length, take, drop, length-append}
use borrow.Author.Tests.{ne_eqb}
use Rattle.basics.proofs.Tests.{of-both}
use Rattle.raster.specs.Raster.{frequency_of, number_of, raster_refusal, raster_value}
use Rattle.raster.specs.Table.{OnRaster}
use Rattle.raster.proofs.ByTable.{on_raster_frequency, on_raster_number, raster_number_refused, raster_frequency_refused}
use Rattle.texts.specs.declared.Output.{Output}
use Rattle.texts.specs.Text.{with_bytes, ascii, put, digit_count, decimal, field}
use Rattle.texts.proofs.Lengths.{put_fits, number}
use Rattle.texts.specs.fields.Fields.{begins, is_line, number_from, line_text}
use Rattle.texts.proofs.fields.ReadBack.{number_read}
use Rattle.texts.proofs.fields.Words.{word_begins, other_word}
use Rattle.group_register.specs.declared.GroupRegister.{GroupRegister}
use Rattle.register_lines.specs.Written.{register_line}
use Rattle.register_lines.specs.declared.RegisterQuestion.TheVariants.{Begin}
use Rattle.register_lines.proofs.Lengths.{register_answer_length}
use Rattle.planning_lines.specs.declared.PlainQuestion.{PlainQuestion}
use Rattle.planning_lines.specs.declared.PlainQuestion.TheVariants.{FrequencyOf, CarrierOf, OfRegister, BadLine}
use Rattle.planning_lines.specs.Questions.{register_line_question, plain_question_of}
use Rattle.planning_lines.specs.Answers.{value_text, bad_line_text, plain_answer_text}

-- ---- the lines

abbrev number_line : ℕ → List ℕ
number_line n = ascii "number" ++ field n

abbrev khz_line : ℕ → List ℕ
khz_line f = ascii "khz" ++ field f

pub number_asks : (n : ℕ) → n ≤ 18446744073709551615 → plain_question_of (number_line n) ≡ FrequencyOf n
unfolding plain_question_of number_from field
number_asks n l = rw (word_begins (ascii "number ") (decimal n), number_read n l) refl

pub khz_asks : (f : ℕ) → f ≤ 18446744073709551615 → plain_question_of (khz_line f) ≡ CarrierOf f
unfolding plain_question_of number_from field
khz_asks f l = rw (other_word (ascii "number ") (khz_line f) refl, word_begins (ascii "khz ") (decimal f), number_read f l) refl

-- ---- "14, no raster number or no raster frequency"; else the table's value

pub number_answered : (g : GroupRegister) (n f : ℕ) → n ≤ 18446744073709551615 → OnRaster n f
    → plain_answer_text (plain_question_of (number_line n)) g ≡ line_text (ascii "khz") f
unfolding plain_answer_text value_text
number_answered g n f l row = simp (number_asks n l, on_raster_frequency n f row)

pub number_refused : (g : GroupRegister) (n : ℕ) → n ≤ 18446744073709551615 → ((f : ℕ) → OnRaster n f → ⊥)
    → plain_answer_text (plain_question_of (number_line n)) g ≡ ascii "refused 14\n"
unfolding plain_answer_text value_text line_text field decimal digit_count
number_refused g n l off = simp (number_asks n l, raster_number_refused n off)

pub khz_answered : (g : GroupRegister) (n f : ℕ) → f ≤ 18446744073709551615 → OnRaster n f
    → plain_answer_text (plain_question_of (khz_line f)) g ≡ line_text (ascii "number") n
unfolding plain_answer_text value_text
khz_answered g n f l row = simp (khz_asks f l, on_raster_number n f row)

pub khz_refused : (g : GroupRegister) (f : ℕ) → f ≤ 18446744073709551615 → ((n : ℕ) → OnRaster n f → ⊥)
    → plain_answer_text (plain_question_of (khz_line f)) g ≡ ascii "refused 14\n"
unfolding plain_answer_text value_text line_text field decimal digit_count
khz_refused g f l off = simp (khz_asks f l, raster_frequency_refused f off)

-- ---- E13, for every number of 64 bits

register_longer : (rest : List ℕ) → is_line (ascii "register") (ascii "register " ++ rest) ≡ false
unfolding is_line
register_longer rest =
    ap (λ (t : Bool). t && begins (ascii "register") (ascii "register " ++ rest)) (ne_eqb (length (ascii "register " ++ rest)) 8 (λ e. omega arith))

pub register_asks : (slot : ℕ) → slot ≤ 18446744073709551615 → plain_question_of (register_line slot) ≡ OfRegister (Begin slot)
unfolding plain_question_of register_line_question number_from field
register_asks slot small =
    let line = register_line slot in
    simp (
      other_word (ascii "number ") line refl,
      other_word (ascii "khz ") line refl,
      register_longer (decimal slot),
      word_begins (ascii "register ") (decimal slot),
      number_read slot small,
    )

-- ---- an answer of E5 has at most 29 bytes, one of E6 at most 84; it stands whole in a buffer that has room for them

line_length : (word : List ℕ) (n : ℕ) → length word ≤ 7 → length (line_text word n) ≤ 29
unfolding line_text
line_length word n h = simp length-append (omega (arith, number n))

value_length : (word : List ℕ) (refusal value : ℕ) → length word ≤ 7 → length (value_text word refusal value) ≤ 29
unfolding value_text
value_length word refusal value h =
    of-both (λ (l : List ℕ). length l ≤ 29) (eqb refusal 0) (line_length word value h) (line_length (ascii "refused") refusal (omega arith))

answer_length : (q : PlainQuestion) (g : GroupRegister) → length (plain_answer_text q g) ≤ 84
unfolding plain_answer_text bad_line_text
answer_length (FrequencyOf n) g = omega (arith, value_length (ascii "khz") (raster_refusal (frequency_of n)) (raster_value (frequency_of n)) (omega arith))
answer_length (CarrierOf f) g = omega (arith, value_length (ascii "number") (raster_refusal (number_of f)) (raster_value (number_of f)) (omega arith))
answer_length (OfRegister q) g = register_answer_length q g
answer_length BadLine g = omega arith

pub answer_whole : (q : PlainQuestion) (g : GroupRegister) (o : Output) → o.at + 84 ≤ length o.bytes.now
    → put (plain_answer_text q g) o
    ≡ with_bytes o (take o.at o.bytes.now ++ plain_answer_text q g ++ drop (o.at + length (plain_answer_text q g)) o.bytes.now) (o.at + length (plain_answer_text q g))
answer_whole q g o room = put_fits (plain_answer_text q g) o (omega (arith, answer_length q g))

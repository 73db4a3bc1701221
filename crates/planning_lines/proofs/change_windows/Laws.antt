-- What the lines about dates and windows say: `date` and `ask` are read as what they ask, for every number of 64 bits; the windows of the latest line
-- `windows` are asked as document 02 says; and an answer has at most 110 bytes.
-- Assumes nothing.
use mathlib.Core.Path.{◌≡◌, refl, ap, ◌∙◌}
use mathlib.Core.Bool.{true, false}
use mathlib.Core.List.{List, [], ◌∷◌, ◌++◌}
use Prim.Native.Nat.{ℕ, ◌+◌, ◌≤◌}
use native.Mathlib.Omega.{arith}
use lib.ListN.{length, take, drop, length-append}
use Rattle.std.specs.Prelude.{Option, Some, None, Result, Ok, Err}
use Rattle.basics.proofs.Tests.{of-both}
use Rattle.texts.specs.declared.Output.{Output}
use Rattle.texts.specs.Text.{with_bytes, ascii, put, decimal, field}
use Rattle.texts.proofs.Lengths.{put_fits, number, fields_length}
use Rattle.texts.specs.fields.Fields.{begins, number_from, line_text}
use Rattle.texts.proofs.fields.ReadBack.{number_read}
use Rattle.texts.proofs.fields.Words.{word_begins, other_word}
use Rattle.planning_lines.specs.Answers.{bad_line_text}
use Rattle.calendar.specs.Calendar.{to_minute, to_date}
use Rattle.calendar.specs.declared.Date.{Date}
use Rattle.windows.specs.Windows.{window_refusal_number, kept_windows, kept_arrays, kept_of, check_kept, ask_checked, ask_kept, ask_windows}
use Rattle.windows.specs.declared.KeptWindows.{KeptWindows}
use Rattle.windows.specs.declared.Windows.{Windows}
use Rattle.windows.specs.declared.WindowAnswer.{WindowAnswer}
use Rattle.windows.specs.declared.WindowAnswer.TheVariants.{Inside, Next, NoneFollows}
use Rattle.windows.specs.declared.WindowRefusal.{WindowRefusal}
use Rattle.windows.specs.declared.WindowRefusal.TheVariants.{TooManyWindows, NotInCalendar}
use Rattle.windows.proofs.Kept.{kept_answers}
use Rattle.planning_lines.specs.change_windows.Lines.{window_question_of, windows_line}
use Rattle.planning_lines.specs.change_windows.Answers.{minute_answer, date_text, date_answer, window_answer_text, window_asked, question_text, windows_made_text, after_windows, windows_text, after_window_line, window_line_answer}
use Rattle.planning_lines.specs.declared.change_windows.WindowQuestion.{WindowQuestion}
use Rattle.planning_lines.specs.declared.change_windows.WindowQuestion.TheVariants.{MinuteOf, DateOf, AskAt, BadLine}

-- ---- the lines
abbrev date_line : ℕ → List ℕ
date_line minute = ascii "date" ++ field minute

abbrev ask_line : ℕ → List ℕ
ask_line minute = ascii "ask" ++ field minute

pub date_asks : (minute : ℕ) → minute ≤ 18446744073709551615 → window_question_of (date_line minute) ≡ DateOf minute
unfolding window_question_of number_from field
date_asks minute l = rw (other_word (ascii "minute ") (date_line minute) refl, word_begins (ascii "date ") (decimal minute), number_read minute l) refl

pub ask_asks : (minute : ℕ) → minute ≤ 18446744073709551615 → window_question_of (ask_line minute) ≡ AskAt minute
unfolding window_question_of number_from field
ask_asks minute l = rw (other_word (ascii "minute ") (ask_line minute) refl, other_word (ascii "date ") (ask_line minute) refl, number_read minute l) refl

-- ---- the windows of the latest line
asked_kept : (k : Result KeptWindows WindowRefusal) (minute : ℕ) → window_asked k minute ≡ ask_kept (kept_arrays k) minute
unfolding window_asked ask_kept check_kept ask_checked
asked_kept (Ok kept) minute = refl
asked_kept (Err TooManyWindows) minute = refl
asked_kept (Err NotInCalendar) minute = refl

-- are asked as document 02 says, also where they are refused
pub asks_windows : (ws : Windows) (minute : ℕ) → window_asked (kept_windows ws) minute ≡ ask_windows ws minute
unfolding kept_of
asks_windows ws minute = asked_kept (kept_windows ws) minute ∙ kept_answers ws minute

pub ask_answered : (line : List ℕ) (ws : Windows) (k : Result KeptWindows WindowRefusal) → begins (ascii "windows ") line ≡ true → windows_line (drop 8 line) ≡ Some ws
    → (minute : ℕ) → minute ≤ 18446744073709551615 → window_line_answer (after_window_line k line) (ask_line minute) ≡ window_answer_text (ask_windows ws minute)
unfolding window_line_answer after_window_line after_windows question_text field
ask_answered line ws k begun read minute l =
    simp (begun, read, other_word (ascii "windows ") (ask_line minute) refl, ask_asks minute l) (ap window_answer_text (asks_windows ws minute))

-- a line that is none leaves them, and so does a question
pub bad_line_leaves : (k : Result KeptWindows WindowRefusal) (line : List ℕ) → windows_line (drop 8 line) ≡ None → after_window_line k line ≡ k
unfolding after_window_line after_windows
bad_line_leaves k line none = simp none (of-both (λ (x : Result KeptWindows WindowRefusal). x ≡ k) (begins (ascii "windows ") line) refl refl)

pub question_leaves : (k : Result KeptWindows WindowRefusal) (line : List ℕ) → begins (ascii "windows ") line ≡ false → after_window_line k line ≡ k
unfolding after_window_line
question_leaves k line other = simp other

-- ---- how long an answer may be
line_length : (word : List ℕ) (n : ℕ) → length word ≤ 7 → length (line_text word n) ≤ 110
unfolding line_text
line_length word n h = simp length-append (omega (arith, number n))

date_length : (d : Date) → length (date_text d) ≤ 110
unfolding date_text
date_length d = simp length-append (omega (arith, fields_length (ascii "date") (d.year ∷ d.month ∷ d.day ∷ d.hour ∷ d.minute ∷ [])))

minute_length : (a : Option ℕ) → length (minute_answer a) ≤ 110
unfolding minute_answer
minute_length (Some n) = line_length (ascii "minute") n (omega arith)
minute_length None = line_length (ascii "refused") 17 (omega arith)

date_answer_length : (a : Option Date) → length (date_answer a) ≤ 110
unfolding date_answer
date_answer_length (Some d) = date_length d
date_answer_length None = line_length (ascii "refused") 17 (omega arith)

window_length : (a : Result WindowAnswer WindowRefusal) → length (window_answer_text a) ≤ 110
unfolding window_answer_text
window_length (Ok Inside) = omega arith
window_length (Ok (Next n)) = line_length (ascii "next") n (omega arith)
window_length (Ok NoneFollows) = omega arith
window_length (Err why) = line_length (ascii "refused") (window_refusal_number why) (omega arith)

question_length : (k : Result KeptWindows WindowRefusal) (q : WindowQuestion) → length (question_text k q) ≤ 110
unfolding question_text bad_line_text
question_length k (MinuteOf d) = minute_length (to_minute d)
question_length k (DateOf n) = date_answer_length (to_date n)
question_length k (AskAt n) = window_length (window_asked k n)
question_length k BadLine = omega arith

made_length : (k : Result KeptWindows WindowRefusal) → length (windows_made_text k) ≤ 110
unfolding windows_made_text
made_length (Ok kept) = omega arith
made_length (Err why) = line_length (ascii "refused") (window_refusal_number why) (omega arith)

windows_length : (given : Option Windows) → length (windows_text given) ≤ 110
unfolding windows_text bad_line_text
windows_length (Some ws) = made_length (kept_windows ws)
windows_length None = omega arith

answer_length : (k : Result KeptWindows WindowRefusal) (line : List ℕ) → length (window_line_answer k line) ≤ 110
unfolding window_line_answer
answer_length k line =
    of-both (λ (l : List ℕ). length l ≤ 110) (begins (ascii "windows ") line) (windows_length (windows_line (drop 8 line)))
    (question_length k (window_question_of line))

pub window_answer_whole : (k : Result KeptWindows WindowRefusal) (line : List ℕ) (o : Output) → o.at + 110 ≤ length o.bytes.now
    → put (window_line_answer k line) o
    ≡ with_bytes o (take o.at o.bytes.now ++ window_line_answer k line ++ drop (o.at + length (window_line_answer k line)) o.bytes.now) (o.at + length (window_line_answer k line))
window_answer_whole k line o room = put_fits (window_line_answer k line) o (omega (arith, answer_length k line))

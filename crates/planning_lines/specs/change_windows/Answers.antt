-- What is written for a line about dates and windows, and the windows that are kept behind it (docs/PLANNING.md; document 02, E8).
-- Assumes nothing.
use Rattle.std.specs.Prelude.{cond, List, [], ◌∷◌, ◌++◌, ℕ, drop, Option, Some, None, Result, Ok, Err}
use Rattle.texts.specs.Text.{ascii, fields}
use Rattle.texts.specs.fields.Fields.{begins, line_text}
use Rattle.planning_lines.specs.Answers.{bad_line_text}
use Rattle.calendar.specs.Calendar.{to_minute, to_date}
use Rattle.calendar.specs.declared.Date.{Date}
use Rattle.windows.specs.Windows.{window_refusal_number, made_of, kept_arrays, kept_windows, ask_kept}
use Rattle.windows.specs.declared.KeptWindows.{KeptWindows}
use Rattle.windows.specs.declared.Windows.{Windows}
use Rattle.windows.specs.declared.WindowAnswer.{WindowAnswer}
use Rattle.windows.specs.declared.WindowAnswer.TheVariants.{Inside, Next, NoneFollows}
use Rattle.windows.specs.declared.WindowRefusal.{WindowRefusal}
use Rattle.planning_lines.specs.change_windows.Lines.{window_question_of, windows_line}
use Rattle.planning_lines.specs.declared.change_windows.WindowQuestion.{WindowQuestion}
use Rattle.planning_lines.specs.declared.change_windows.WindowQuestion.TheVariants.{MinuteOf, DateOf, AskAt, BadLine}

-- before any line: "a register without a slot and no windows"
abbrev pub first_windows : Result KeptWindows WindowRefusal
first_windows = Ok (made_of [])

-- ---- the questions

-- "`minute N` or `refused 17`"
unfoldable pub minute_answer : Option ℕ → List ℕ
minute_answer (Some minute) = line_text (ascii "minute") minute
minute_answer None = line_text (ascii "refused") 17

-- "`date Y M D H MIN` or `refused 17`"
unfoldable pub date_text : Date → List ℕ
date_text d = fields (ascii "date") (d.year ∷ d.month ∷ d.day ∷ d.hour ∷ d.minute ∷ []) ++ ascii "\n"

unfoldable pub date_answer : Option Date → List ℕ
date_answer (Some d) = date_text d
date_answer None = line_text (ascii "refused") 17

-- "`inside`, `next N`, `none` or `refused N`"
unfoldable pub window_answer_text : Result WindowAnswer WindowRefusal → List ℕ
window_answer_text (Ok Inside) = ascii "inside\n"
window_answer_text (Ok (Next minute)) = line_text (ascii "next") minute
window_answer_text (Ok NoneFollows) = ascii "none\n"
window_answer_text (Err why) = line_text (ascii "refused") (window_refusal_number why)

-- windows that are refused give their number before anything else
unfoldable pub window_asked : Result KeptWindows WindowRefusal → ℕ → Result WindowAnswer WindowRefusal
window_asked (Ok kept) minute = ask_kept (kept_arrays (Ok kept)) minute
window_asked (Err why) minute = Err why

unfoldable pub question_text : Result KeptWindows WindowRefusal → WindowQuestion → List ℕ
question_text k (MinuteOf d) = minute_answer (to_minute d)
question_text k (DateOf minute) = date_answer (to_date minute)
question_text k (AskAt minute) = window_answer_text (window_asked k minute)
question_text k BadLine = bad_line_text

-- ---- the line `windows`: "`made`, `refused 1` or `refused 17`"

unfoldable pub windows_made_text : Result KeptWindows WindowRefusal → List ℕ
windows_made_text (Ok kept) = ascii "made\n"
windows_made_text (Err why) = line_text (ascii "refused") (window_refusal_number why)

-- "the list of windows [is the one] that the latest .. `windows` line began", also where it is refused; a bad line "changes nothing"
unfoldable pub after_windows : Result KeptWindows WindowRefusal → Option Windows → Result KeptWindows WindowRefusal
after_windows k (Some given) = kept_windows given
after_windows k None = k

unfoldable pub windows_text : Option Windows → List ℕ
windows_text (Some given) = windows_made_text (kept_windows given)
windows_text None = bad_line_text

-- ---- every line about dates and windows

-- the windows that are kept behind it
unfoldable pub after_window_line : Result KeptWindows WindowRefusal → List ℕ → Result KeptWindows WindowRefusal
after_window_line k line = cond (begins (ascii "windows ") line) (after_windows k (windows_line (drop 8 line))) k

-- what is written for it
unfoldable pub window_line_answer : Result KeptWindows WindowRefusal → List ℕ → List ℕ
window_line_answer k line =
    cond (begins (ascii "windows ") line) (windows_text (windows_line (drop 8 line)))
    (question_text k (window_question_of line))

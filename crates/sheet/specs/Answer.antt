-- What the program answers to an input.
-- Assumes nothing.
use Rattle.std.specs.Prelude.{List, [], ◌∷◌, Option, Some, None, ℕ}
use Rattle.sheet.specs.count.Count.{count_asked}
use Rattle.sheet.specs.Sheet.{sheet_of}

-- "refused,1" and CR LF
unfoldable pub refused_line : List ℕ
refused_line = 114 ∷ 101 ∷ 102 ∷ 117 ∷ 115 ∷ 101 ∷ 100 ∷ 44 ∷ 49 ∷ 13 ∷ 10 ∷ []

-- the sheet for a count, and the refusal where none is asked for
unfoldable pub answer_for : Option ℕ → List ℕ
answer_for None = refused_line
answer_for (Some n) = sheet_of n

-- the text of the answer to the input s
unfoldable pub sheet_answer : List ℕ → List ℕ
sheet_answer s = answer_for (count_asked s)

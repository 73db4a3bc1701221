-- The quorum sheet for a number of replicas, as CSV.
-- Assumes nothing.
use Rattle.std.specs.Prelude.{List, [], ◌∷◌, ◌++◌, ℕ, zero, suc}
use Rattle.quorum.specs.Quorum.{majority_of, epaxos_of, fast_of}
use Rattle.sheet.specs.Text.{number_and_byte}

-- "replicas,majority,epaxos,fast" and CR LF
unfoldable pub header : List ℕ
header =
    114 ∷ 101 ∷ 112 ∷ 108 ∷ 105 ∷ 99 ∷ 97 ∷ 115 ∷ 44 ∷ 109 ∷ 97 ∷ 106 ∷ 111 ∷ 114 ∷ 105 ∷ 116 ∷ 121 ∷ 44 ∷ 101 ∷ 112 ∷ 97 ∷ 120 ∷ 111 ∷ 115 ∷ 44
    ∷ 102 ∷ 97 ∷ 115 ∷ 116 ∷ 13 ∷ 10 ∷ []

-- the line for n replicas: the four fields, with a comma, 44, after each of the first three, and CR LF, 13 and 10, at the end
unfoldable pub sheet_line : ℕ → List ℕ
sheet_line n = number_and_byte n 44 ++ number_and_byte (majority_of n) 44 ++ number_and_byte (epaxos_of n) 44 ++ number_and_byte (fast_of n) 13 ++ (10 ∷ [])

-- the lines for 1 to n replicas
unfoldable pub sheet_lines : ℕ → List ℕ
sheet_lines zero = []
sheet_lines (suc n) = sheet_lines n ++ sheet_line (suc n)

unfoldable pub sheet_of : ℕ → List ℕ
sheet_of n = header ++ sheet_lines n

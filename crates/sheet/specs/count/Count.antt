-- The number of replicas that an input asks for.
-- Assumes nothing.
use Rattle.std.specs.Prelude.{Bool, ◌&&◌, cond, List, [], ◌∷◌, Option, Some, None, ℕ, ◌+◌, ◌-◌, ◌*◌, eqb, leb}

-- the first line of the input, without the LF, 10, that ends it
unfoldable pub count_line : List ℕ → List ℕ
count_line [] = []
count_line (b ∷ bs) = cond (eqb b 10) [] (b ∷ count_line bs)

-- the byte is a digit from 1 to 9
abbrev pub is_leading_digit : ℕ → Bool
is_leading_digit b = leb 49 b && leb b 57

-- the byte is a digit from 0 to 9
abbrev pub is_digit : ℕ → Bool
is_digit b = leb 48 b && leb b 57

-- the number that two digits make
abbrev pub two_digits : ℕ → ℕ → ℕ
two_digits a b = (a - 48) * 10 + (b - 48)

-- the count that a line asks for: a decimal number from 1 to 64 with no leading zero asks for that number, and any other line for none
unfoldable pub count_of_line : List ℕ → Option ℕ
count_of_line [] = None
count_of_line (a ∷ []) = cond (is_leading_digit a) (Some (a - 48)) None
count_of_line (a ∷ b ∷ []) = cond (is_leading_digit a && is_digit b && leb (two_digits a b) 64) (Some (two_digits a b)) None
count_of_line (a ∷ b ∷ d ∷ rest) = None

-- the count that an input asks for: its first line is read
unfoldable pub count_asked : List ℕ → Option ℕ
count_asked s = count_of_line (count_line s)

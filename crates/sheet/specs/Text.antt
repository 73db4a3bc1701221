-- Small numbers in decimal.
-- Assumes nothing.
use Rattle.std.specs.Prelude.{cond, List, [], ◌∷◌, ◌++◌, ℕ, ◌+◌, ◌/◌, ◌%◌, ltb}

-- a number below 100 in decimal: 48 is the digit 0
unfoldable pub text : ℕ → List ℕ
text v = cond (ltb v 10) ((48 + v) ∷ []) ((48 + v / 10) ∷ (48 + v % 10) ∷ [])

-- the number v, and then the byte b
unfoldable pub number_and_byte : ℕ → ℕ → List ℕ
number_and_byte v b = text v ++ (b ∷ [])

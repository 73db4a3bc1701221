-- Text that is put into a buffer, and numbers in decimal.
-- Assumes nothing.
use Rattle.std.specs.Prelude.{Bool, cond, List, [], ◌∷◌, ◌++◌, ℕ, zero, suc, ◌+◌, ◌/◌, min, ltb, length, take, set}
use Prim.Native.Char.{code}
use Prim.Native.String.{String, [] as empty, ◌∷◌ as ◌before◌}
use Rattle.texts.specs.declared.Output.{Output}
use Rattle.io.specs.Digits.{last_digits}

-- a buffer with these bytes in it, and the next byte's place
abbrev pub with_bytes : Output → List ℕ → ℕ → Output
with_bytes o bytes at = record { bytes = record o.bytes { now = bytes }; at = at }

-- a byte for which there is no room is left out
abbrev pub put_byte : ℕ → Output → Output
put_byte b o = cond (ltb o.at (length o.bytes.now)) (with_bytes o (set o.bytes.now o.at b) (o.at + 1)) o

-- bytes one after another
unfoldable pub put : List ℕ → Output → Output
put [] p = p
put (b ∷ bs) p = put bs (put_byte b p)

-- the bytes of a text in ASCII
abbrev pub ascii : String → List ℕ
ascii empty = []
ascii (c before s) = code c ∷ ascii s

-- how many decimal digits n has, and suc most where it has more
unfoldable pub digit_count : ℕ → ℕ → ℕ
digit_count zero n = 1
digit_count (suc most) n = cond (ltb n 10) 1 (suc (digit_count most (n / 10)))

-- a number of 64 bits in decimal, which has at most 20 digits
unfoldable pub decimal : ℕ → List ℕ
decimal n = last_digits 10 (digit_count 19 n) n

-- a number behind a space
unfoldable pub field : ℕ → List ℕ
field n = ascii " " ++ decimal n

-- the texts of the elements, one after another
unfoldable pub each : {A : Type 0} → (A → List ℕ) → List A → List ℕ
each f [] = []
each f (x ∷ xs) = f x ++ each f xs

-- a word, and numbers behind it
unfoldable pub fields : List ℕ → List ℕ → List ℕ
fields word numbers = word ++ each field numbers

-- a flag as a number
abbrev pub flag_number : Bool → ℕ
flag_number b = cond b 1 0

-- the texts of what stands in the first places of a table, of which there are 128
unfoldable pub first_places : {A : Type 0} → (A → List ℕ) → List A → ℕ → List ℕ
first_places text table count = each text (take (min count 128) table)

-- The fields of a line (docs/PLANNING.md): words, and numbers in decimal. Places are counted in bytes of the line.
-- Assumes nothing.
use Rattle.std.specs.Prelude.{Bool, true, false, cond, ◌&&◌, List, [], ◌∷◌, ◌++◌, ℕ, zero, suc, ◌+◌, min, eqb, ltb, length, get_or, drop, Option, Some, None}
use Rattle.call_lines.specs.Reading.{scan_of}
use Rattle.call_lines.specs.declared.Scan.{Scan}
use Rattle.texts.specs.Text.{ascii, field}
use Rattle.texts.specs.declared.fields.NumberField.{NumberField}

-- ---- words

-- the first i bytes of two lists are the same
unfoldable pub same_to : List ℕ → List ℕ → ℕ → Bool
same_to word line zero = true
same_to word line (suc i) = same_to word line i && eqb (get_or word i 0) (get_or line i 0)

-- a line begins with a word
unfoldable pub begins : List ℕ → List ℕ → Bool
begins word line = cond (ltb (length line) (length word)) false (same_to word line (length word))

-- a line is a word and nothing else
unfoldable pub is_line : List ℕ → List ℕ → Bool
is_line word line = eqb (length line) (length word) && begins word line

-- ---- numbers

-- the number of a field that is read to its end: decimal digits alone, and a number of 64 bits
unfoldable pub one_number : Scan → Option ℕ
one_number s =
    cond s.malformed None
    (cond s.above_limit None (cond (ltb 0 s.before) None (cond s.has_digit (Some s.value) None)))

abbrev pub has_number_field : Option ℕ → Bool
has_number_field (Some n) = true
has_number_field None = false

-- the number, and 0 where there is none
abbrev pub value_or_zero : Option ℕ → ℕ
value_or_zero (Some n) = n
value_or_zero None = 0

-- the number that a line holds from a place to its end
unfoldable pub number_from : List ℕ → ℕ → Option ℕ
number_from line at = one_number (scan_of (drop at line))

-- ---- fields: 32 is the blank

unfoldable pub up_to_blank : List ℕ → List ℕ
up_to_blank [] = []
up_to_blank (b ∷ bs) = cond (eqb b 32) [] (b ∷ up_to_blank bs)

-- the bytes of the field from a place on
abbrev pub field_from : List ℕ → ℕ → List ℕ
field_from line at = up_to_blank (drop at line)

-- where it ends: at the first blank from there on, or with the line
unfoldable pub field_end : List ℕ → ℕ → ℕ
field_end line at = min (at + length (field_from line at)) (length line)

-- where the next one begins
unfoldable pub next_field : List ℕ → ℕ → ℕ
next_field line end = min (end + 1) (length line)

-- the field from a place on, as a number
unfoldable pub number_field : List ℕ → ℕ → NumberField
number_field line at = record { number = one_number (scan_of (field_from line at)); end = field_end line at }

-- ---- a line that is written: a word, a number and LF
unfoldable pub line_text : List ℕ → ℕ → List ℕ
line_text word n = word ++ field n ++ ascii "\n"

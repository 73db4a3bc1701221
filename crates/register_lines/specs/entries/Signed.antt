-- A number on a line that "may have a minus sign" (docs/PLANNING.md): as it is read, and as it is written.
-- Assumes nothing.
use Rattle.std.specs.Prelude.{Bool, true, false, cond, List, ◌++◌, ℕ, ℤ, pos, neg_ℤ, int_lt, unsigned_abs, ltb, drop, Option, Some, None}
use Rattle.texts.specs.Text.{ascii, decimal, field}
use Rattle.texts.specs.fields.Fields.{begins, next_field, number_field}
use Rattle.texts.specs.declared.fields.NumberField.{NumberField}
use Rattle.register_lines.specs.declared.entries.SignedField.{SignedField}

-- up to 2^63−1, with or without the sign
unfoldable pub signed_number : Bool → Option ℕ → Option ℤ
signed_number negative None = None
signed_number negative (Some n) = cond (ltb 9223372036854775807 n) None (Some (cond negative (neg_ℤ (pos n)) (pos n)))

abbrev pub with_sign : Bool → NumberField → SignedField
with_sign negative f = record { number = signed_number negative f.number; end = f.end }

unfoldable pub signed_field : List ℕ → ℕ → SignedField
signed_field line at =
    cond (begins (ascii "-") (drop at line)) (with_sign true (number_field line (next_field line at))) (with_sign false (number_field line at))

-- the number, and 0 where there is none
abbrev pub signed_value : Option ℤ → ℤ
signed_value (Some z) = z
signed_value None = pos 0

-- ---- written behind a blank
unfoldable pub sign_text : Bool → ℕ → List ℕ
sign_text negative n = cond negative (ascii " -" ++ decimal n) (field n)

abbrev pub signed_text : ℤ → List ℕ
signed_text z = sign_text (int_lt z (pos 0)) (unsigned_abs z)

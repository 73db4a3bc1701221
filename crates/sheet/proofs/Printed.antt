-- The text of a number below 100.
-- Assumes nothing.
use Rattle.std.proofs.Common.{◌≡◌, ◌∙◌, ap, ℕ, ◌<◌, ◌≤◌, ◌+◌, ◌/◌, ◌%◌, List, [], ◌∷◌, ◌++◌, length, Bool, true, false, cond, arith, ltb}
use Rattle.std.specs.Fmt.{decimal}
use Rattle.std.proofs.lemmas.Fmt.{decimal_digit, decimal_step}
use borrow.Author.Tests.{lt-ltb, le-ltb}
use native.Mathlib.Decide.{dec_lt}
use Rattle.sheet.specs.Text.{text}

-- what the library prints of it
pub decimal_text : (v : ℕ) → v < 100 → decimal v ≡ text v
unfolding text
decimal_text v h = go (dec_lt v 10)
  where
    go : Dec (v < 10) → decimal v ≡ text v
    go (yes s) = rw (lt-ltb v 10 s) (decimal_digit v s)
    go (no d) =
        let l : 10 ≤ v = omega (arith, d) in
        rw (le-ltb v 10 l) (decimal_step v l (omega arith) ∙ ap (λ (x : List ℕ). x ++ ((48 + v % 10) ∷ [])) (decimal_digit (v / 10) (omega arith)))

pub text_length : (v : ℕ) → length (text v) ≤ 2
unfolding text
text_length v = go (ltb v 10)
  where
    go : (t : Bool) → length (cond t ((48 + v) ∷ []) ((48 + v / 10) ∷ (48 + v % 10) ∷ [])) ≤ 2
    go true = omega arith
    go false = omega arith

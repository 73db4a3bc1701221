-- The number of documents 01 and 02 that a result stands for, by the numbers of the causes.
-- Assumes nothing.
use Rattle.std.specs.Prelude.{ℕ, Result, Ok, Err}

-- the number of what refuses, and 0 where nothing is refused
abbrev pub refusal : {T E : Type 0} → (E → ℕ) → Result T E → ℕ
refusal number (Ok given) = 0
refusal number (Err why) = number why

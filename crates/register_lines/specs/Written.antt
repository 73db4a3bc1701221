-- A line that begins a register, as it is written in decimal. No function computes it.
-- Assumes nothing.
use Rattle.std.specs.Prelude.{List, ◌++◌, ℕ}
use Rattle.texts.specs.Text.{ascii, field}

-- `register SLOT`
abbrev pub register_line : ℕ → List ℕ
register_line slot = ascii "register" ++ field slot

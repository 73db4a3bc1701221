-- A register after a list of entries.
-- Assumes nothing.
use Rattle.std.specs.Prelude.{List, [], ◌∷◌, ℕ, ◌+◌, ◌≤◌}
use Rattle.register.specs.Register.{new_register, apply}
use Rattle.register.specs.declared.Cell.{Cell}
use Rattle.register.specs.declared.CellEntry.{CellEntry}
use Rattle.register.specs.declared.Register.{Register}

-- the register after entries that stand latest first, from a new one
unfoldable pub register_after : List CellEntry → Register
register_after [] = new_register
register_after (e ∷ before) = (apply (register_after before) e).register

-- the register after entries in their order
unfoldable pub apply_all : Register → List CellEntry → Register
apply_all r [] = r
apply_all r (e ∷ es) = apply_all (apply r e).register es

-- the numbers of the cells rise, from `low` on
abbrev pub RisingCells : ℕ → List Cell → Type 0
RisingCells low [] = Unit {0}
RisingCells low (c ∷ cs) = (low ≤ c.number) × RisingCells (c.number + 1) cs

-- Entries as they are written on a line, in decimal: what a line must be read as. No function computes these.
-- Assumes nothing.
use Rattle.std.specs.Prelude.{List, [], ◌∷◌, ◌++◌, ℕ, ℤ, ◌≤◌, unsigned_abs}
use Rattle.texts.specs.Text.{ascii, field}
use Rattle.register.specs.declared.CellEntry.{CellEntry}
use Rattle.register.specs.declared.Change.{Change}
use Rattle.register.specs.declared.Change.TheVariants.{Assign, Release}
use Rattle.positions.specs.declared.PlacedEntry.{PlacedEntry}
use Rattle.positions.specs.declared.PlacedEntry.TheVariants.{OfCell, OfPosition}
use Rattle.positions.specs.declared.Position.{Position}
use Rattle.positions.specs.declared.PositionEntry.{PositionEntry}
use Rattle.register_lines.specs.entries.Signed.{signed_text}

-- `a CELL CARRIER WIDTH` or `r CELL`
abbrev pub change_line : ℕ → Change → List ℕ
change_line n (Assign a) = ascii "a" ++ (field n ++ (field a.carrier ++ field a.width))
change_line n Release = ascii "r" ++ field n

-- `p CELL X Y`
abbrev pub place_line : ℕ → Position → List ℕ
place_line n p = ascii "p" ++ (field n ++ (signed_text p.x ++ signed_text p.y))

-- `entry SLOT` and one of these
abbrev pub entry_line : PlacedEntry → List ℕ
entry_line (OfCell e) = ascii "entry" ++ (field e.slot ++ (ascii " " ++ change_line e.cell e.change))
entry_line (OfPosition e) = ascii "entry" ++ (field e.slot ++ (ascii " " ++ place_line e.cell e.position))

unfoldable pub entry_lines : List PlacedEntry → List (List ℕ)
entry_lines [] = []
entry_lines (e ∷ es) = entry_line e ∷ entry_lines es

-- the numbers have 64 bits, and a cell's 32; a number with its sign lies within 2^63−1 either way
abbrev pub ChangeFits : Change → Type 0
ChangeFits (Assign a) = (a.carrier ≤ 18446744073709551615) × (a.width ≤ 18446744073709551615)
ChangeFits Release = Unit {0}

abbrev pub CellEntryFits : CellEntry → Type 0
CellEntryFits e = (e.slot ≤ 18446744073709551615) × (e.cell ≤ 4294967295) × ChangeFits e.change

abbrev pub SignedFits : ℤ → Type 0
SignedFits z = unsigned_abs z ≤ 9223372036854775807

abbrev pub PlaceFits : PositionEntry → Type 0
PlaceFits e = (e.slot ≤ 18446744073709551615) × (e.cell ≤ 4294967295) × SignedFits e.position.x × SignedFits e.position.y

abbrev pub EntryFits : PlacedEntry → Type 0
EntryFits (OfCell e) = CellEntryFits e
EntryFits (OfPosition e) = PlaceFits e

abbrev pub EntriesFit : List PlacedEntry → Type 0
EntriesFit [] = Unit {0}
EntriesFit (e ∷ es) = EntryFits e × EntriesFit es

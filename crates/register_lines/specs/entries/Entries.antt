-- The entry that a line gives (docs/PLANNING.md): `entry SLOT a CELL CARRIER WIDTH`, `entry SLOT r CELL` (E6) or `entry SLOT p CELL X Y` (E11).
-- Assumes nothing.
use Rattle.std.specs.Prelude.{cond, ◌&&◌, List, ℕ, ℤ, eqb, ltb, length, drop, Option, Some, None, is_some}
use Rattle.texts.specs.Text.{ascii}
use Rattle.texts.specs.fields.Fields.{begins, has_number_field, value_or_zero, next_field, number_field}
use Rattle.register.specs.declared.Change.TheVariants.{Assign, Release}
use Rattle.positions.specs.declared.PlacedEntry.{PlacedEntry}
use Rattle.positions.specs.declared.PlacedEntry.TheVariants.{OfCell, OfPosition}
use Rattle.register_lines.specs.entries.Signed.{signed_field, signed_value}
use Rattle.register_lines.specs.declared.entries.LineSaid.{LineSaid}
use Rattle.register_lines.specs.declared.entries.CellSaid.{CellSaid}
use Rattle.register_lines.specs.declared.entries.CellSaid.TheVariants.{Changed, Placed}

-- ---- from its letter on. A cell number has 32 bits: one above 4,294,967,295 does not fit

unfoldable pub assignment_of : Option ℕ → Option ℕ → Option ℕ → ℕ → Option LineSaid
assignment_of cell carrier width end =
    cond (ltb 4294967295 (value_or_zero cell)) None
    (cond (has_number_field cell && has_number_field carrier && has_number_field width)
    (Some (record { cell = value_or_zero cell; said = Changed (Assign (record { carrier = value_or_zero carrier; width = value_or_zero width })); end = end })) None)

-- the place of the field behind the one from a place on
abbrev pub second_field : List ℕ → ℕ → ℕ
second_field line at = next_field line (number_field line at).end

abbrev pub third_field : List ℕ → ℕ → ℕ
third_field line at = second_field line (second_field line at)

-- `CELL CARRIER WIDTH`
unfoldable pub assignment_at : List ℕ → ℕ → Option LineSaid
assignment_at line at =
    assignment_of (number_field line at).number (number_field line (second_field line at)).number (number_field line (third_field line at)).number
    (number_field line (third_field line at)).end

unfoldable pub release_of : Option ℕ → ℕ → Option LineSaid
release_of cell end =
    cond (ltb 4294967295 (value_or_zero cell)) None
    (cond (has_number_field cell) (Some (record { cell = value_or_zero cell; said = Changed Release; end = end })) None)

-- `CELL`
unfoldable pub release_at : List ℕ → ℕ → Option LineSaid
release_at line at = release_of (number_field line at).number (number_field line at).end

unfoldable pub placed_said : Option ℕ → Option ℤ → Option ℤ → ℕ → Option LineSaid
placed_said cell x y end =
    cond (ltb 4294967295 (value_or_zero cell)) None
    (cond (has_number_field cell && is_some x && is_some y)
    (Some (record { cell = value_or_zero cell; said = Placed (record { x = signed_value x; y = signed_value y }); end = end })) None)

-- the place of the field behind a number and an x
abbrev pub y_at : List ℕ → ℕ → ℕ
y_at line at = next_field line (signed_field line (second_field line at)).end

-- `CELL X Y`
unfoldable pub place_at : List ℕ → ℕ → Option LineSaid
place_at line at =
    placed_said (number_field line at).number (signed_field line (second_field line at)).number (signed_field line (y_at line at)).number
    (signed_field line (y_at line at)).end

-- `a CELL CARRIER WIDTH`, `r CELL` or `p CELL X Y`: the letter and its blank are two bytes
unfoldable pub line_said_at : List ℕ → ℕ → Option LineSaid
line_said_at line at =
    cond (begins (ascii "a ") (drop at line)) (assignment_at line (next_field line (next_field line at)))
    (cond (begins (ascii "r ") (drop at line)) (release_at line (next_field line (next_field line at)))
    (cond (begins (ascii "p ") (drop at line)) (place_at line (next_field line (next_field line at))) None))

-- ---- an entry line: its last field ends the line

abbrev pub entry_said : ℕ → ℕ → CellSaid → PlacedEntry
entry_said slot cell (Changed c) = OfCell (record { slot = slot; cell = cell; change = c })
entry_said slot cell (Placed p) = OfPosition (record { slot = slot; cell = cell; position = p })

unfoldable pub entry_with : ℕ → Option LineSaid → ℕ → Option PlacedEntry
entry_with slot (Some s) length = cond (eqb s.end length) (Some (entry_said slot s.cell s.said)) None
entry_with slot None length = None

-- `SLOT` and what follows it
unfoldable pub entry_at : List ℕ → ℕ → Option PlacedEntry
entry_at line at =
    cond (has_number_field (number_field line at).number)
    (entry_with (value_or_zero (number_field line at).number) (line_said_at line (second_field line at)) (length line)) None

unfoldable pub entry_in_line : List ℕ → Option PlacedEntry
entry_in_line line = cond (begins (ascii "entry ") line) (entry_at line 6) None

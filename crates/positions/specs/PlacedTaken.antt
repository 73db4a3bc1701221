-- What an entry's number is, and which position a cell has, from the entries alone (document 02, E11). A list of entries stands latest first.
-- Assumes nothing.
use Rattle.std.specs.Prelude.{Bool, cond, ◌&&◌, ◌||◌, not, ℕ, ℤ, pos, negsuc, int_lt, eqb, List, [], ◌∷◌, map, Option, Some, None}
use Rattle.register.specs.Taken.{is_assigned, slot_within_limit, above}
use Rattle.register.specs.declared.CellEntry.{CellEntry}
use Rattle.register.specs.declared.Change.{Change}
use Rattle.register.specs.declared.Change.TheVariants.{Assign, Release}
use Rattle.group_register.specs.Settings.{settings_refusal, is_made}
use Rattle.group_register.specs.GroupTaken.{group_latest, number_in_group}
use Rattle.group_register.specs.declared.RegisterSettings.{RegisterSettings}
use Rattle.positions.specs.Placed.{new_placed, apply_entry}
use Rattle.positions.specs.declared.PlacedEntry.{PlacedEntry}
use Rattle.positions.specs.declared.PlacedEntry.TheVariants.{OfCell, OfPosition}
use Rattle.positions.specs.declared.PlacedRegister.{PlacedRegister}
use Rattle.positions.specs.declared.Position.{Position}
use Rattle.positions.specs.declared.PositionEntry.{PositionEntry}

-- ---- what the register sees of an entry: of a position its slot alone, as of an assignment without a width, which is refused with 14
abbrev pub slot_alone : PositionEntry → CellEntry
slot_alone e = record { slot = e.slot; cell = e.cell; change = Assign (record { carrier = 0; width = 0 }) }

abbrev pub cell_entry : PlacedEntry → CellEntry
cell_entry (OfCell e) = e
cell_entry (OfPosition e) = slot_alone e

abbrev pub cell_entries : List PlacedEntry → List CellEntry
cell_entries es = map cell_entry es

-- ---- numbers
-- the latest taken assignment or release of cell n is an assignment
abbrev pub assigned_in : RegisterSettings → List PlacedEntry → ℕ → Bool
assigned_in s before n = is_assigned (group_latest s.whole_mhz_from (cell_entries before) n)

-- "a position in whole metres .., signed, within 2,000,000 either way": one above that, or below it with the sign, is outside
abbrev pub is_beyond : ℤ → Bool
is_beyond x = int_lt (pos 2000000) x || int_lt x (negsuc 1999999)

abbrev pub is_outside : Position → Bool
is_outside p = is_beyond p.x || is_beyond p.y

-- of a position: 2, older (64 is ours), 21, then 16
unfoldable pub position_number : RegisterSettings → List PlacedEntry → PositionEntry → ℕ
position_number s before e =
    cond (not (slot_within_limit e.slot)) 2
    (cond (not (above e.slot (cell_entries before))) 64
    (cond (is_outside e.position) 21
    (cond (not (assigned_in s before e.cell)) 16
    0)))

-- the number of an entry after those before it; a register that is not made gives its settings' number before anything else
unfoldable pub entry_number_for : RegisterSettings → List PlacedEntry → PlacedEntry → ℕ
entry_number_for s before (OfCell e) = number_in_group s (cell_entries before) e
entry_number_for s before (OfPosition e) = cond (is_made s) (position_number s before e) (settings_refusal s)

abbrev pub entry_is_taken : RegisterSettings → List PlacedEntry → PlacedEntry → Bool
entry_is_taken s before e = eqb (entry_number_for s before e) 0

-- ---- positions
abbrev pub cell_named : PlacedEntry → ℕ
cell_named (OfCell e) = e.cell
cell_named (OfPosition e) = e.cell

abbrev pub position_behind : Change → Option Position → Option Position
-- "A new assignment keeps the position"
position_behind (Assign a) held = held
-- "a release drops it"
position_behind Release held = None

abbrev pub position_said : PlacedEntry → Option Position → Option Position
position_said (OfCell e) held = position_behind e.change held
position_said (OfPosition e) held = Some e.position

-- the position of cell n behind the entries
unfoldable pub latest_position : RegisterSettings → List PlacedEntry → ℕ → Option Position
latest_position s [] n = None
latest_position s (e ∷ before) n =
    cond (entry_is_taken s before e && eqb (cell_named e) n) (position_said e (latest_position s before n)) (latest_position s before n)

-- ---- the entries in slot order, without repeats, older ones and slots above the limit
abbrev pub is_later_entry : List PlacedEntry → PlacedEntry → Bool
is_later_entry before e = slot_within_limit (cell_entry e).slot && above (cell_entry e).slot (cell_entries before)

unfoldable pub later_placed : List PlacedEntry → List PlacedEntry
later_placed [] = []
later_placed (e ∷ before) = cond (is_later_entry before e) (e ∷ later_placed before) (later_placed before)

-- ---- the register after entries that stand latest first, from a new one of these settings
unfoldable pub placed_after : RegisterSettings → List PlacedEntry → PlacedRegister
placed_after s [] = new_placed s
placed_after s (e ∷ before) = (apply_entry (placed_after s before) e).placed

-- A list of commits on a line of `planning` (docs/PLANNING.md; document 02, E10): `s v s v ..`, and `s v ENTRY s v ENTRY ..` in one that is fed.
-- Assumes nothing.
use Rattle.std.specs.Prelude.{Bool, true, cond, ◌&&◌, List, [], ◌∷◌, map, ℕ, zero, suc, ◌+◌, pos, eqb, length, drop, Option, Some, None}
use Rattle.std.specs.Option.{option_map, option_and_then}
use Rattle.texts.specs.Text.{ascii}
use Rattle.texts.specs.fields.Fields.{has_number_field, value_or_zero, begins, next_field, number_field}
use Rattle.register.specs.declared.Change.TheVariants.{Assign, Release}
use Rattle.register_lines.specs.entries.Entries.{second_field, line_said_at}
use Rattle.register_lines.specs.declared.entries.LineSaid.{LineSaid}
use Rattle.register_lines.specs.declared.entries.CellSaid.{CellSaid}
use Rattle.register_lines.specs.declared.entries.CellSaid.TheVariants.{Changed, Placed}
use Rattle.catch_up.specs.Causes.{CommitList}
use Rattle.feeding.specs.Registers.{fed_list_of, PlacedColumns, placed_columns}
use Rattle.planning_lines.specs.declared.lists.EntryNumbers.{EntryNumbers}
use Rattle.planning_lines.specs.declared.lists.LineItem.{LineItem}

-- ---- one entry, from a place on, and where it ends

-- `s v`
unfoldable pub commit_item_at : List ℕ → ℕ → Option LineItem
commit_item_at line at =
    cond (has_number_field (number_field line at).number && has_number_field (number_field line (second_field line at)).number)
    (Some
    (record {
      slot = value_or_zero (number_field line at).number;
      value = value_or_zero (number_field line (second_field line at)).number;
      cell = 0;
      said = Changed Release;
      end = (number_field line (second_field line at)).end;
    }))
    None

-- "ENTRY as in an entry line from its letter on"
abbrev pub entry_beside : LineItem → LineSaid → LineItem
entry_beside i s = record { slot = i.slot; value = i.value; cell = s.cell; said = s.said; end = s.end }

unfoldable pub with_entry : List ℕ → LineItem → Option LineItem
with_entry line i = option_map (entry_beside i) (line_said_at line (next_field line i.end))

unfoldable pub item_at : Bool → List ℕ → ℕ → Option LineItem
item_at fed line at = cond fed (option_and_then (with_entry line) (commit_item_at line at)) (commit_item_at line at)

-- ---- a list

-- it ends where the line does, or before a blank and the bar
unfoldable pub list_ends : List ℕ → ℕ → Bool
list_ends line end = cond (eqb end (length line)) true (begins (ascii " |") (drop end line))

-- an entry, and those behind it where the list goes on
unfoldable pub with_item : List ℕ → Option LineItem → Option (List LineItem) → Option (List LineItem)
with_item line None rest = None
with_item line (Some i) rest = cond (list_ends line i.end) (Some (i ∷ [])) (option_map (λ items. i ∷ items) rest)

-- where the entry behind one begins
abbrev pub behind_item : List ℕ → Option LineItem → ℕ
behind_item line None = 0
behind_item line (Some i) = next_field line i.end

-- the entries from a place on, so many at most
unfoldable pub items_from : Bool → List ℕ → ℕ → ℕ → Option (List LineItem)
items_from fed line at zero = None
items_from fed line at (suc most) =
    with_item line (item_at fed line at) (items_from fed line (behind_item line (item_at fed line at)) most)

-- the list behind a field that ends there, which may be empty; the line has more bytes than entries
unfoldable pub list_behind : Bool → List ℕ → ℕ → Option (List LineItem)
list_behind fed line end =
    cond (list_ends line end) (Some []) (cond (begins (ascii " ") (drop end line)) (items_from fed line (end + 1) (length line)) None)

-- where a list ends that stands behind a field which ends there
abbrev pub ends_at : ℕ → List LineItem → ℕ
ends_at end [] = end
ends_at end (i ∷ items) = ends_at i.end items

-- the line ends with the list
unfoldable pub to_the_end : List ℕ → ℕ → List LineItem → Option (List LineItem)
to_the_end line end items = cond (eqb (ends_at end items) (length line)) (Some items) None

unfoldable pub last_list : Bool → List ℕ → ℕ → Option (List LineItem)
last_list fed line end = option_and_then (to_the_end line end) (list_behind fed line end)

-- ---- its columns

abbrev pub item_slots : List LineItem → List ℕ
item_slots items = map (λ (i : LineItem). i.slot) items

abbrev pub item_values : List LineItem → List ℕ
item_values items = map (λ (i : LineItem). i.value) items

abbrev pub commits_of : List LineItem → CommitList
commits_of items = record { slots = item_slots items; values = item_values items }

-- an entry in numbers: kind 1 is an assignment, kind 2 a release and kind 3 a position
abbrev pub numbers_of_entry : CellSaid → EntryNumbers
numbers_of_entry (Changed (Assign a)) = record { kind = 1; carrier = a.carrier; width = a.width; x = pos 0; y = pos 0 }
numbers_of_entry (Changed Release) = record { kind = 2; carrier = 0; width = 0; x = pos 0; y = pos 0 }
numbers_of_entry (Placed p) = record { kind = 3; carrier = 0; width = 0; x = p.x; y = p.y }

abbrev pub entries_of : List LineItem → PlacedColumns
entries_of items =
    placed_columns
    (fed_list_of (item_slots items) (item_values items) (map (λ (i : LineItem). (numbers_of_entry i.said).kind) items) (map (λ (i : LineItem). i.cell) items)
    (map (λ (i : LineItem). (numbers_of_entry i.said).carrier) items) (map (λ (i : LineItem). (numbers_of_entry i.said).width) items))
    (map (λ (i : LineItem). (numbers_of_entry i.said).x) items) (map (λ (i : LineItem). (numbers_of_entry i.said).y) items)

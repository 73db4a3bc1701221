-- The two registers that lists are fed to: that of group settings, whose entries are of cells (document 02, E10), and the one with positions, which come "by a
-- new kind of entry" (E11). Of each the lists, as slices of numbers that a host lends.
-- Assumes nothing.
use Rattle.std.specs.Prelude.{List, [], ◌∷◌, ℕ, ℤ, pos, length, get_or}
use Rattle.register.specs.declared.CellEntry.{CellEntry}
use Rattle.register_arrays.specs.Columns.{entry_from_numbers}
use Rattle.group_register.specs.GroupRegister.{group_refusal_number, apply_in_group}
use Rattle.group_register.specs.declared.GroupRefusal.{GroupRefusal}
use Rattle.group_register.specs.declared.GroupRegister.{GroupRegister}
use Rattle.catch_up.specs.Causes.{CommitList}
use Rattle.catch_up.specs.Joining.{lent_list, list_of}
use Rattle.positions.specs.Placed.{position_refusal_number, apply_entry}
use Rattle.positions.specs.PlacedTaken.{cell_entry}
use Rattle.positions.specs.declared.PlacedEntry.{PlacedEntry}
use Rattle.positions.specs.declared.PlacedRegister.{PlacedRegister}
use Rattle.positions.specs.declared.Position.{Position}
use Rattle.positions.specs.declared.PositionRefusal.{PositionRefusal}
use Rattle.register_arrays.specs.positioned.Row.{placed_entry_of}
use Rattle.feeding.specs.Feeding.{CommitRegister}
use Rattle.feeding.specs.declared.EntryList.{EntryList}
use Rattle.feeding.specs.declared.PlacedList.{PlacedList}

-- ---- entries of cells

-- six slices: an entry's kind, cell, carrier and width, in numbers as in E6, stand beside its slot and value
pub record FedList : Type 0 where
  pub commits : CommitList
  pub kinds : List ℕ
  pub cells : List ℕ
  pub carriers : List ℕ
  pub widths : List ℕ

abbrev pub fed_list_of : List ℕ → List ℕ → List ℕ → List ℕ → List ℕ → List ℕ → FedList
fed_list_of slots values kinds cells carriers widths =
    record { commits = list_of slots values; kinds = kinds; cells = cells; carriers = carriers; widths = widths }

-- what a host lends
abbrev pub fed_list : EntryList → FedList
fed_list l = record { commits = lent_list l.commits; kinds = l.kinds.now; cells = l.cells.now; carriers = l.carriers.now; widths = l.widths.now }

abbrev pub fed_lengths : FedList → List ℕ
fed_lengths l = length l.kinds ∷ length l.cells ∷ length l.carriers ∷ length l.widths ∷ []

-- the entry at a place
abbrev pub entry_in : FedList → ℕ → CellEntry
entry_in l i = entry_from_numbers (get_or l.commits.slots i 0) (get_or l.kinds i 0) (get_or l.cells i 0) (get_or l.carriers i 0) (get_or l.widths i 0)

abbrev pub cell_register : CommitRegister GroupRegister FedList CellEntry GroupRefusal
cell_register =
    record {
      group = λ g. g;
      commits = λ l. l.commits;
      lengths = fed_lengths;
      entry = entry_in;
      slot = λ e. e.slot;
      after = λ g e. (apply_in_group g e).group;
      outcome = λ g e. (apply_in_group g e).outcome;
      number = group_refusal_number;
    }

-- ---- entries of positions too: two slices of coordinates beside the six
pub record PlacedColumns : Type 0 where
  pub cells : FedList
  pub xs : List ℤ
  pub ys : List ℤ

abbrev pub placed_columns : FedList → List ℤ → List ℤ → PlacedColumns
placed_columns cells xs ys = record { cells = cells; xs = xs; ys = ys }

-- what a host lends
abbrev pub placed_list : PlacedList → PlacedColumns
placed_list l = placed_columns (fed_list l.entries) l.xs.now l.ys.now

abbrev pub listed_position : PlacedColumns → ℕ → Position
listed_position l i = record { x = get_or l.xs i (pos 0); y = get_or l.ys i (pos 0) }

-- the entry at a place
abbrev pub placed_entry_in : PlacedColumns → ℕ → PlacedEntry
placed_entry_in l i =
    placed_entry_of (get_or l.cells.commits.slots i 0) (get_or l.cells.kinds i 0) (get_or l.cells.cells i 0) (get_or l.cells.carriers i 0)
    (get_or l.cells.widths i 0) (listed_position l i)

abbrev pub placed_register : CommitRegister PlacedRegister PlacedColumns PlacedEntry PositionRefusal
placed_register =
    record {
      group = λ p. p.group;
      commits = λ l. l.cells.commits;
      lengths = λ l. length l.xs ∷ length l.ys ∷ fed_lengths l.cells;
      entry = placed_entry_in;
      slot = λ e. (cell_entry e).slot;
      after = λ p e. (apply_entry p e).placed;
      outcome = λ p e. (apply_entry p e).outcome;
      number = position_refusal_number;
    }

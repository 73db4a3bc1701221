-- Which cells are in conflict, from the entries alone (document 02, E11): the cell's latest taken assignment or release is an assignment, and its position is
-- the one that the entries say.
-- Assumes nothing.
use Rattle.std.specs.Prelude.{◌≡◌, ◌≤◌, ◌<◌, ℕ, List}
use Rattle.register.specs.Taken.{is}
use Rattle.register.specs.declared.Assignment.{Assignment}
use Rattle.register.specs.declared.Change.TheVariants.{Assign}
use Rattle.group_register.specs.GroupTaken.{group_latest}
use Rattle.group_register.specs.declared.RegisterSettings.{RegisterSettings}
use Rattle.positions.specs.PlacedTaken.{cell_entries, latest_position}
use Rattle.positions.specs.declared.PlacedEntry.{PlacedEntry}
use Rattle.reach.specs.Conflict.{Conflict}
use Rattle.reach.specs.declared.PlacedCell.{PlacedCell}
use Rattle.reach.specs.declared.Question.{Question}

-- cell m is live with that assignment
abbrev pub LiveWith : RegisterSettings → List PlacedEntry → ℕ → Assignment → Type 0
LiveWith s es m a = group_latest s.whole_mhz_from (cell_entries es) m ≡ is (Assign a)

-- cell m as the entries say
abbrev pub said_cell : RegisterSettings → List PlacedEntry → ℕ → Assignment → PlacedCell
said_cell s es m a = record { number = m; assignment = a; position = latest_position s es m }

-- cell m is live, and in conflict with carrier number n
pub record InConflict (s : RegisterSettings) (es : List PlacedEntry) (q : Question) (n m : ℕ) : Type 0 where
  pub assignment : Assignment
  pub live : LiveWith s es m assignment
  pub conflict : Conflict q n (said_cell s es m assignment)

-- some live cell is in conflict with it
pub record SomeInConflict (s : RegisterSettings) (es : List PlacedEntry) (q : Question) (n : ℕ) : Type 0 where
  pub cell : ℕ
  pub conflict : InConflict s es q n cell

-- "the lowest that conflicts with none" of a range
pub record LowestFree (s : RegisterSettings) (es : List PlacedEntry) (q : Question) (first last n : ℕ) : Type 0 where
  pub from : first ≤ n
  pub to : n ≤ last
  pub free : (m : ℕ) → InConflict s es q n m → ⊥
  pub lower : (k : ℕ) → first ≤ k → k < n → SomeInConflict s es q k

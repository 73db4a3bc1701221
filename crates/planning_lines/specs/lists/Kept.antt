-- What is kept of a list as it is read: how many entries it has and whether a number is too large, of all of them; and the first 8,192, as many as may
-- be fed. These are steps of the code: what a line asks is said of the whole list (Joins, Feeds).
-- Assumes nothing.
use Rattle.std.specs.Prelude.{Bool, ◌||◌, List, [], ◌∷◌, ℕ, ◌+◌, pos, ltb, take, replicate}
use Rattle.call_lines.specs.Reading.{put_in_place}
use Rattle.catch_up.specs.Causes.{CommitList}
use Rattle.catch_up.specs.Joining.{list_of}
use Rattle.feeding.specs.Registers.{fed_list_of, PlacedColumns, placed_columns}
use Rattle.planning_lines.specs.declared.lists.LineItem.{LineItem}
use Rattle.planning_lines.specs.declared.lists.LineList.{LineList}
use Rattle.planning_lines.specs.lists.Lists.{numbers_of_entry}

-- 2, of one entry
abbrev pub above_limits : LineItem → Bool
above_limits i = ltb 9223372036854775806 i.slot || ltb 9223372036854775807 i.value

abbrev pub nothing_kept : ℕ → LineList
nothing_kept end =
    record {
      count = 0;
      too_large = Bool.false;
      end = end;
      slots = replicate 8192 0;
      values = replicate 8192 0;
      kinds = replicate 8192 0;
      cells = replicate 8192 0;
      carriers = replicate 8192 0;
      widths = replicate 8192 0;
      xs = replicate 8192 (pos 0);
      ys = replicate 8192 (pos 0);
    }

-- one entry more, in the next place where there is one
unfoldable pub kept_more : LineItem → LineList → LineList
kept_more i l =
    record {
      count = l.count + 1;
      too_large = l.too_large || above_limits i;
      end = i.end;
      slots = put_in_place l.slots l.count i.slot;
      values = put_in_place l.values l.count i.value;
      kinds = put_in_place l.kinds l.count (numbers_of_entry i.said).kind;
      cells = put_in_place l.cells l.count i.cell;
      carriers = put_in_place l.carriers l.count (numbers_of_entry i.said).carrier;
      widths = put_in_place l.widths l.count (numbers_of_entry i.said).width;
      xs = put_in_place l.xs l.count (numbers_of_entry i.said).x;
      ys = put_in_place l.ys l.count (numbers_of_entry i.said).y;
    }

unfoldable pub kept_all : LineList → List LineItem → LineList
kept_all l [] = l
kept_all l (i ∷ items) = kept_all (kept_more i l) items

-- of a list behind a field that ends there
abbrev pub kept_items : ℕ → List LineItem → LineList
kept_items end items = kept_all (nothing_kept end) items

-- what stands in the places
abbrev pub kept_commits : LineList → CommitList
kept_commits l = list_of (take l.count l.slots) (take l.count l.values)

abbrev pub kept_entries : LineList → PlacedColumns
kept_entries l =
    placed_columns
    (fed_list_of (take l.count l.slots) (take l.count l.values) (take l.count l.kinds) (take l.count l.cells) (take l.count l.carriers)
    (take l.count l.widths))
    (take l.count l.xs) (take l.count l.ys)

-- `planning_lines::lists::read_items` meets its contract: with the entries so far, what is kept of the rest is what is kept of all.
-- Assumes nothing.
use Rattle.std.proofs.Common.{◌≡◌, ◌+◌, ◌-◌, length, option_map}
use Rattle.planning_lines.specs.lists.Lists.{items_from}
use Rattle.planning_lines.specs.lists.Kept.{kept_all, kept_items}
use Rattle.planning_lines.proofs.lists.read_items.Given as goal

abbrev pub invariant-loop-i : goal.invariant-loop-i
invariant-loop-i l = record {
  count : l.list.count ≡ l.i;
  read : option_map (kept_all l.list) (items_from l.fed l.line l.at (length l.line - l.i))
      ≡ option_map (kept_items l.end) (items_from l.fed l.line (l.end + 1) (length l.line));
}

-- `feeding::feed_all_placed` meets its contract: the entries before i are fed, and feeding the rest gives what feeding all gives.
-- Assumes nothing.
use Rattle.std.proofs.Common.{◌≡◌, ◌-◌, length, None}
use Rattle.group_register.specs.GroupRegister.{group_register}
use Rattle.positions.specs.Placed.{register_with_positions}
use Rattle.feeding.specs.Feeding.{fed_to, fed_entries_from, entries_in, feed_all}
use Rattle.feeding.specs.Registers.{placed_list, placed_entry_in, placed_register}
use Rattle.feeding.proofs.feed_all_placed.Given as goal

abbrev pub invariant-loop-i : goal.invariant-loop-i
invariant-loop-i g l = record {
  same : (g.R.RegisterPlaces.lent l.register ≡ g.R.RegisterPlaces.lent l.initial.register)
      × (g.P.PositionPlaces.lent l.positions ≡ g.P.PositionPlaces.lent l.initial.positions);
  plain : g.P.PositionPlaces.plain l.initial.positions → g.P.PositionPlaces.plain l.positions;
  fed : feed_all placed_register (fed_to l.first (register_with_positions (group_register l.settings (g.R.RegisterPlaces.register l.register)) (g.P.PositionPlaces.positions l.positions)))
      (fed_entries_from (placed_entry_in (placed_list l.list)) l.i (length l.list.entries.commits.slots.now - l.i))
      ≡ feed_all placed_register
      (fed_to None (register_with_positions (group_register l.settings (g.R.RegisterPlaces.register l.initial.register)) (g.P.PositionPlaces.positions l.initial.positions)))
      (entries_in placed_register (placed_list l.list));
}

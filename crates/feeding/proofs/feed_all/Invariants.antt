-- `feeding::feed_all` meets its contract: the entries before i are fed, and feeding the rest gives what feeding all gives.
-- Assumes nothing.
use Rattle.std.proofs.Common.{◌≡◌, ◌-◌, length, None}
use Rattle.group_register.specs.GroupRegister.{group_register}
use Rattle.feeding.specs.Feeding.{fed_to, fed_entries_from, entries_in, feed_all}
use Rattle.feeding.specs.Registers.{fed_list, entry_in, cell_register}
use Rattle.feeding.proofs.feed_all.Given as goal

abbrev pub invariant-loop-i : goal.invariant-loop-i
invariant-loop-i g l = record {
  same : g.R.RegisterPlaces.lent l.register ≡ g.R.RegisterPlaces.lent l.initial.register;
  fed : feed_all cell_register (fed_to l.first (group_register l.settings (g.R.RegisterPlaces.register l.register)))
      (fed_entries_from (entry_in (fed_list l.list)) l.i (length l.list.commits.slots.now - l.i))
      ≡ feed_all cell_register (fed_to None (group_register l.settings (g.R.RegisterPlaces.register l.initial.register))) (entries_in cell_register (fed_list l.list));
}

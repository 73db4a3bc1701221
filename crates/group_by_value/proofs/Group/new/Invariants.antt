-- `group_by_value::Group::new` meets its contract: the first i members have begun.
-- Assumes nothing.
use mathlib.Core.Path.{◌≡◌}
use Rattle.group_by_value.specs.Group.{new_members}
use Rattle.group_by_value.proofs.Group.new.Given as goal

abbrev pub invariant-loop-i : goal.invariant-loop-i
invariant-loop-i l = l.members ≡ new_members l.settings l.i

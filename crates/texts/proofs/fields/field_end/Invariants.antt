-- `texts::fields::field_end` meets its contract: from each place that it passes the field ends where it does from the first.
-- Assumes nothing.
use mathlib.Core.Path.{◌≡◌}
use Rattle.texts.specs.fields.Fields.{field_end}
use Rattle.texts.proofs.fields.field_end.Given as goal

abbrev pub invariant-loop-i : goal.invariant-loop-i
invariant-loop-i l = field_end l.line l.at ≡ field_end l.line l.i

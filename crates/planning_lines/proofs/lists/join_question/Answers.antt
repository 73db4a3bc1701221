-- `planning_lines::lists::join_question` meets its contract where both lists are read.
-- Tried without: with `using(both_asked)` on the function the search gives up at one of its limits.
-- Assumes nothing.
use Rattle.std.proofs.Common.{◌∙◌, sym}
use Rattle.planning_lines.proofs.lists.JoinsRead.{both_asked}
use Rattle.planning_lines.proofs.lists.join_question.Goals as goal

pub returns : goal.returns
returns c =
    both_asked c.args.line.now c.number_field-field.result c.number_field-field.ensures c.in_ok-places.places c.in_ok-places.was c.in_ok-first.first
    c.in_ok-first.ensures (sym c.begins_at.ensures ∙ c.if-not-begins_at.false) c.in_ok-second.second c.in_ok-second.ensures

-- `planning_lines::lists::join_in` meets its contract: where the check refuses, nothing is written; and else the kept lists are joined.
-- Tried without: with `using` of both lemmas on the function neither goal is found.
-- Assumes nothing.
use Rattle.catch_up.specs.Joining.{lent_list}
use Rattle.planning_lines.proofs.lists.JoinsRead.{refused_given, joined_given}
use Rattle.planning_lines.proofs.lists.join_in.Goals as goal

pub returns-in_err-kept_refused-clause-joined : goal.returns-in_err-kept_refused-clause-joined
returns-in_err-kept_refused-clause-joined c =
    refused_given c.args.asked.now c.args.places.now.slots.now c.args.places.now.values.now c.in_err-kept_refused.field-0.0 c.from_residual.result
    c.in_err-kept_refused.ensures c.from_residual.ensures.1

pub returns-clause-joined : goal.returns-clause-joined
returns-clause-joined c =
    joined_given c.args.asked.now c.args.places.now.slots.now c.args.places.now.values.now c.join.new.places.slots.now c.join.new.places.values.now
    c.join.result (lent_list c.commits.result) (lent_list c.commits-2.result) c.commits.ensures c.commits-2.ensures c.in_ok-kept_refused.ensures
    c.requires.0 c.requires.1 c.join.ensures.joined

-- `catch_up::join` meets its contract: where the check refuses, nothing is written.
-- Tried without: with `using(refused_call)` this goal stays open; the other eight are found.
-- Assumes nothing.
use Rattle.catch_up.specs.Joining.{lent_list, lent_places}
use Rattle.catch_up.proofs.Answers.{refused_call}
use Rattle.catch_up.proofs.join.Goals as goal

pub returns-in_err-check-clause-joined : goal.returns-in_err-check-clause-joined
returns-in_err-check-clause-joined c =
    refused_call (lent_list c.args.a) (lent_list c.args.b) (lent_places c.args.places.now) c.min.result c.in_err-check.field-0.0 c.from_residual.result
    c.min.ensures c.in_err-check.ensures c.from_residual.ensures.1

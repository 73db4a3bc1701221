-- `catch_up::LentList::check` meets its contract.
-- Tried without: with `using(usual_list)`, restated with the premises of the call, the goal stays open.
-- Assumes nothing.
use Rattle.catch_up.specs.Joining.{lent_list}
use Rattle.catch_up.proofs.Answers.{usual_list}
use Rattle.catch_up.proofs.LentList.check.Goals as goal

pub returns-then-counts_within : goal.returns-then-counts_within
returns-then-counts_within c = usual_list (lent_list c.args.self) _ _ c.counts_within.ensures c.if-counts_within.true c.value_above.ensures

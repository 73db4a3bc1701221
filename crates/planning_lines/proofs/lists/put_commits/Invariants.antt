-- `planning_lines::lists::put_commits` meets its contract: the first i entries are put.
-- Assumes nothing.
use Rattle.texts.proofs.Putting.{PutSoFar}
use Rattle.catch_up.specs.Causes.{beside}
use Rattle.planning_lines.specs.lists.Joins.{listed_commit_text}
use Rattle.planning_lines.proofs.lists.put_commits.Given as goal

abbrev pub invariant-loop-i : goal.invariant-loop-i
invariant-loop-i l = PutSoFar listed_commit_text (beside l.slots l.values) l.i l.out l.initial.out

-- `planning_lines::lists::answer_feed` meets its contract where the list is read.
-- Tried without: with `using` of both lemmas on the function neither goal is found.
-- Assumes nothing.
use Rattle.std.proofs.Common.{◌∙◌, ap, List, ℕ}
use Rattle.texts.specs.Text.{put}
use Rattle.planning_lines.proofs.lists.FeedsRead.{fed_register, fed_answer}
use Rattle.planning_lines.proofs.lists.answer_feed.Goals as goal

pub returns-in-Some-clause-placed : goal.returns-in-Some-clause-placed
returns-in-Some-clause-placed c =
    fed_register c.args.placed.now c.args.line.now c.in-Some.list c.in-Some.ensures c.feed_kept-fed.result c.feed_kept-fed.new.placed c.feed_kept-fed.ensures

pub returns-in-Some-clause-put : goal.returns-in-Some-clause-put
returns-in-Some-clause-put c =
    c.put_fed.ensures
    ∙ ap (λ (t : List ℕ). put t c.args.out.now)
    (fed_answer c.args.placed.now c.args.line.now c.in-Some.list c.in-Some.ensures c.feed_kept-fed.result c.feed_kept-fed.new.placed c.feed_kept-fed.ensures)

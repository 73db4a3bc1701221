-- The place that is found is the first end of a line. Tried without, by `using` of `first_behind`: the goal stays open, as `search` gives up.
-- Assumes nothing.
use Rattle.texts.proofs.blocks.Ends.{first_behind}
use Rattle.texts.proofs.blocks.line_end.Goals as goal

pub returns-in-Some : goal.returns-in-Some
returns-in-Some c = first_behind c.args.input.now c.args.from c.in-Some.n c.requires c.in-Some.ensures

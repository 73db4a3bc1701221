-- `lines_written::shards::put_proposers` meets its contract: the proposers below the one that is looked at are put.
-- Assumes nothing.
use mathlib.Core.Path.{◌≡◌}
use Rattle.texts.specs.Text.{put}
use Rattle.lines_written.specs.shards.Shard.{proposers_below}
use Rattle.lines_written.proofs.shards.put_proposers.Given as goal

abbrev pub invariant-loop-p : goal.invariant-loop-p
invariant-loop-p l = l.out ≡ put (proposers_below l.fast l.p) l.initial.out

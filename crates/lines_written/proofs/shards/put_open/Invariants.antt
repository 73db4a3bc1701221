-- `lines_written::shards::put_open` meets its contract: after so many turns so many reads are put.
-- Assumes nothing.
use Rattle.lines_written.specs.shards.Shard.{open_text}
use Rattle.texts.proofs.Putting.{PutSoFar}
use Rattle.lines_written.proofs.shards.put_open.Given as goal

abbrev pub invariant-loop-read : goal.invariant-loop-read
invariant-loop-read l = PutSoFar open_text l.open l.read-index l.out l.initial.out

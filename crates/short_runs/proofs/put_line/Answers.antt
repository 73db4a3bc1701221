-- `short_runs::put_line` meets its contract.
-- Tried without: with `using(put_then)`, unfolding `kept_line`, the goal stays open.
-- Assumes nothing.
use Rattle.texts.proofs.Putting.{put_then}
use Rattle.short_runs.specs.Lister.{kept_line}
use Rattle.short_runs.proofs.put_line.Goals as goal

pub returns : goal.returns
unfolding kept_line
returns c =
    put_then _ _ _ c.put_joined.ensures
    (put_then _ _ _ c.put_byte.ensures
    (put_then _ _ _ c.put_joined-2.ensures c.put_bytes.ensures))

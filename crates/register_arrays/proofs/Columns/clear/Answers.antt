-- `register_arrays::Columns::clear` meets its contract.
-- Tried without: with `using(cells_replicate)` the goal stays open.
-- Assumes nothing.
use Rattle.register_arrays.proofs.Levels.{cells_replicate}
use Rattle.register_arrays.proofs.Columns.clear.Goals as goal

pub returns-clause-cleared : goal.returns-clause-cleared
returns-clause-cleared c = simp (cells_replicate 512)

-- `register_arrays::stored::widen_numbers` meets its contract: the first i numbers are the stored ones.
-- Assumes nothing.
use Rattle.std.proofs.Common.{◌≡◌, ℕ, ◌<◌, get_or}
use Rattle.register_arrays.proofs.stored.widen_numbers.Given as goal

abbrev pub invariant-loop-i : goal.invariant-loop-i
invariant-loop-i l = (k : ℕ) → k < l.i → get_or l.numbers k 0 ≡ get_or l.stored k 0

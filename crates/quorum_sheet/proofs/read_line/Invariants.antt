-- `quorum_sheet::read_line` is safe: at each byte there is room for it.
-- Assumes nothing.
use Rattle.std.proofs.Common.{◌<◌}
use Rattle.arrayvec.specs.ArrayVec.{array_vec_len}
use Rattle.quorum_sheet.proofs.read_line.Given as goal

abbrev pub invariant-loop-byte : goal.invariant-loop-byte
invariant-loop-byte g l =
    (array_vec_len l.line < 3) × (goal.iterator-loop-byte g).can_next l.byte-iterator × (goal.iterator-loop-byte g).is_finite l.byte-iterator

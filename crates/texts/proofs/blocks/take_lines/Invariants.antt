-- Where the lines of what is left end, those of all end, and what stands behind them is the same; the measure is what is left.
-- Assumes nothing.
use mathlib.Core.Path.{◌≡◌}
use Prim.Native.Nat.{◌≤◌}
use lib.ListN.{length}
use Rattle.std.specs.List.{FoldsTo}
use Rattle.texts.specs.blocks.Lines.{ended_lines, open_line}
use Rattle.texts.proofs.blocks.take_lines.Given as goal

abbrev pub invariant-loop-line : goal.invariant-loop-line
invariant-loop-line g l =
    record {
      taken : (last : _) → FoldsTo g.L.LineTaker.takes l.taker (ended_lines l.rest) last → FoldsTo g.L.LineTaker.takes l.fn.taker (ended_lines l.bytes) last;
      left : open_line l.rest ≡ open_line l.bytes;
      within : length l.rest ≤ length l.bytes;
    }

abbrev pub decreases-loop-line : goal.decreases-loop-line
decreases-loop-line g l = length l.rest

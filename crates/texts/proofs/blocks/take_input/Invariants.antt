-- Before a block the bytes that are read have their lines taken, and the line that has not ended is kept; where nothing is left to read at the start,
-- nothing is taken and kept.
-- Assumes nothing.
use mathlib.Core.Path.{◌≡◌}
use mathlib.Core.Bool.{true}
use mathlib.Core.List.{List, []}
use Prim.Native.Nat.{ℕ, ◌≤◌}
use lib.ListN.{length}
use Rattle.std.specs.Prelude.{Some}
use Rattle.std.specs.Io.KnownBytes.{Consumes}
use Rattle.texts.specs.blocks.Lines.{lines_fit, TakenSoFar}
use Rattle.texts.proofs.blocks.take_input.Given as goal

abbrev pub invariant-loop : goal.invariant-loop
invariant-loop g l =
    record {
      at_end : g.R.Read.remaining l.fn.reader ≡ Some [] → (l.taker ≡ l.fn.taker) × (l.between.kept ≡ 0) × (g.R.Read.remaining l.reader ≡ Some []);
      same_length : length l.input ≡ length l.fn.input;
      lines : (bytes : List ℕ) × Consumes (g.R.Read.remaining l.fn.reader) (g.R.Read.remaining l.reader) bytes
          × (l.counter ≤ length bytes)
          × (lines_fit (length l.fn.input) [] bytes ≡ true → TakenSoFar g.L.LineTaker.takes l.fn.taker bytes l.input l.between l.taker);
    }

-- `call_lines::dates::counted_windows_at` meets its contract.
-- Tried without, with `all_read` named on the function: the goal stays open.
-- Assumes nothing.
use mathlib.Core.Path.{ap₂}
use mathlib.Core.List.{List}
use Prim.Native.Nat.{ℕ, ◌+◌}
use Rattle.std.proofs.Common.{arith}
use lib.ListN.{length-replicate}
use Rattle.windows.specs.declared.Window.{Window}
use Rattle.windows.specs.declared.Windows.{Windows}
use Rattle.call_lines.specs.dates.Numbers.{counted_windows_at}
use Rattle.call_lines.proofs.dates.Turns.{all_read}
use Rattle.call_lines.proofs.dates.counted_windows_at.Goals as goal

pub returns : goal.returns
unfolding counted_windows_at
returns c =
    let places = all_read c.args.numbers.now (c.args.at + 1) _ c.loop-i.places c.loop-i.i (length-replicate {A = Window} 128 c.default-places.result)
    (omega (arith, c.loop-i.auto.i-end, c.loop-i-test.false)) c.loop-i.invariant in
    ap₂ (λ (l : List Window) (n : ℕ). record { places = l; count = n }) places c.number_at.ensures

-- One more turn of each loop: what its definition says of the first i is carried to i + 1.
-- Assumes nothing.
use mathlib.Core.Path.{◌≡◌}
use mathlib.Core.List.{List}
use Prim.Native.Nat.{ℕ, ◌+◌, ◌*◌}
use native.Mathlib.Numerals.{add-one}
use lib.ListN.{set}
use Rattle.basics.specs.tables.Tables.{store}
use Rattle.read_tracker.specs.declared.OpenRead.{OpenRead}
use Rattle.lines_read.specs.line_calls.Calls.{line_number_at}
use Rattle.lines_read.specs.line_states.States.{proposers_to, read_at, reads_to}

pub proposers_next : (ns : List ℕ) (k i : ℕ) (t u : List ℕ) (p x : ℕ) → t ≡ proposers_to ns k i → p ≡ line_number_at ns (21 + 4 * i)
    → x ≡ line_number_at ns (21 + 4 * i + k) → u ≡ store t p x → u ≡ proposers_to ns k (i + 1)
unfolding proposers_to
proposers_next ns k i t u p x h e f g = simp (add-one, ← h, g, e, f)

pub reads_next : (ns : List ℕ) (w i : ℕ) (t : List OpenRead) (x : OpenRead) → t ≡ reads_to ns w i → x ≡ read_at ns (w + 5 * i)
    → set t i x ≡ reads_to ns w (i + 1)
unfolding reads_to
reads_next ns w i t x h e = simp (add-one, ← h, e)

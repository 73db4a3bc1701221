-- One more turn of the loop: what its definition says of the first i is carried to i + 1.
-- Assumes nothing.
use mathlib.Core.Path.{◌≡◌}
use mathlib.Core.List.{List}
use Prim.Native.Nat.{ℕ, ◌+◌}
use native.Mathlib.Numerals.{add-one}
use lib.ListN.{get_or}
use Rattle.call_lines.specs.declared.Scan.{Scan}
use Rattle.call_lines.specs.Reading.{after_byte, put_in_place, scan_to, numbers_to}

pub scan_next : (line : List ℕ) (i : ℕ) (s r : Scan) → s ≡ scan_to line i → r ≡ after_byte s (get_or line i 0) → r ≡ scan_to line (i + 1)
unfolding scan_to
scan_next line i s r h e = rw (add-one, ← h) e

pub numbers_next : (line buffer ns out : List ℕ) (i : ℕ) (r : Scan) → ns ≡ numbers_to line buffer i → r ≡ scan_to line (i + 1)
    → out ≡ put_in_place ns r.before r.value → out ≡ numbers_to line buffer (i + 1)
unfolding numbers_to
numbers_next line buffer ns out i r h k e = simp (add-one, ← h, e, k)

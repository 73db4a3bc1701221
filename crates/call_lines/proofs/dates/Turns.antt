-- The windows of a line, place by place.
-- Assumes nothing.
use mathlib.Core.Path.{◌≡◌, refl, sym, ap, ◌∙◌}
use mathlib.Core.List.{List, [], ◌∷◌, append-nil}
use Prim.Native.Nat.{ℕ, zero, suc, ◌+◌, ◌*◌, ◌<◌}
use native.Mathlib.Omega.{arith}
use native.Mathlib.Numerals.{add-one}
use lib.ListN.{length, get_or, set, drop, length-append, drop_of_length-le}
use Rattle.basics.specs.elements.Places.{at_front}
use Rattle.basics.proofs.elements.Lists.{front_push, front_none}
use Rattle.windows.specs.declared.Window.{Window}
use Rattle.windows.specs.declared.Windows.{Windows}
use Rattle.call_lines.specs.dates.Numbers.{window_at, windows_to, counted_windows_at}

pub windows_count : (ns : List ℕ) (at n : ℕ) → length (windows_to ns at n) ≡ n
unfolding windows_to
windows_count ns at zero = refl
windows_count ns at (suc i) = length-append (windows_to ns at i) (window_at ns (at + 10 * i) ∷ []) ∙ omega (arith, windows_count ns at i)

-- ---- the loop over the places
module _ (ns : List ℕ) (at : ℕ) (places : List Window) where
  pub none_read : places ≡ at_front (windows_to ns at 0) places
  unfolding windows_to
  none_read = sym (front_none places)

  pub window_more : (out : List Window) (i : ℕ) (w : Window) → i < length places → out ≡ at_front (windows_to ns at i) places → w ≡ window_at ns (at + 10 * i)
      → set out i w ≡ at_front (windows_to ns at (i + 1)) places
  unfolding windows_to
  window_more out i w h p q = rw add-one (simp (p, ← q) (front_push (windows_to ns at i) places i w (windows_count ns at i) h))

  -- all places
  pub all_read : (out : List Window) (i : ℕ) → length places ≡ 128 → i ≡ 128 → out ≡ at_front (windows_to ns at i) places → out ≡ windows_to ns at 128
  unfolding at_front
  all_read out i long all p =
      let none : drop (length (windows_to ns at i)) places ≡ [] = drop_of_length-le places {i = length (windows_to ns at i)} (omega (arith, windows_count ns at i, long, all)) in
      p ∙ simp (none, append-nil) (ap (windows_to ns at) all)

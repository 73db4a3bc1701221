-- Each list of at most 128 windows, written in numbers behind its count, is read as these windows, whatever stands before and behind.
-- Assumes nothing.
use mathlib.Core.Path.{◌≡◌, refl, sym, ap, ap₂, ◌∙◌}
use mathlib.Core.Bool.{true, false}
use mathlib.Core.List.{List, [], ◌∷◌, ◌++◌, append_assoc}
use mathlib.Core.Logic.{◌⊎◌, inl, inr}
use Prim.Native.Nat.{ℕ, zero, suc, ◌+◌, ◌*◌, ◌≤◌, ◌<◌}
use native.Mathlib.Omega.{arith}
use lib.Dec.{ltb}
use lib.ListN.{length, get_or, take, length-append}
use lib.Seq.{take-suc, take_all, take-append-le, get_or-append-add}
use borrow.Author.Tests.{ltb-true, ltb-false}
use Rattle.basics.proofs.Tests.{either}
use Rattle.windows.specs.Windows.{agreed_windows}
use Rattle.windows.specs.declared.Window.{Window}
use Rattle.call_lines.specs.dates.Numbers.{window_at, windows_to, counted_windows_at}
use Rattle.call_lines.specs.dates.Written.{window_numbers, numbers_of_windows}
use Rattle.call_lines.proofs.dates.Turns.{windows_count}

-- ---- one window

behind : (front l : List ℕ) (k at : ℕ) → at ≡ length front + k → get_or (front ++ l) at 0 ≡ get_or l k 0
behind front l k at e = rw e (get_or-append-add front l k 0)

window_read : (front : List ℕ) (w : Window) (rest : List ℕ) (at : ℕ) → at ≡ length front → window_at (front ++ (window_numbers w ++ rest)) at ≡ w
window_read front w rest at e =
    let l = window_numbers w ++ rest in
    rw (
      behind front l 0 at (omega (arith, e)),
      behind front l 1 (at + 1) (omega (arith, e)),
      behind front l 2 (at + 2) (omega (arith, e)),
      behind front l 3 (at + 3) (omega (arith, e)),
      behind front l 4 (at + 4) (omega (arith, e)),
      behind front l 5 (at + 5) (omega (arith, e)),
      behind front l 6 (at + 5 + 1) (omega (arith, e)),
      behind front l 7 (at + 5 + 2) (omega (arith, e)),
      behind front l 8 (at + 5 + 3) (omega (arith, e)),
      behind front l 9 (at + 5 + 4) (omega (arith, e)),
    ) refl

-- ---- and each of a list

pub ten_numbers : (ws : List Window) → length (numbers_of_windows ws) ≡ 10 * length ws
unfolding numbers_of_windows
ten_numbers [] = refl
ten_numbers (w ∷ ws) = length-append (window_numbers w) (numbers_of_windows ws) ∙ omega (arith, ten_numbers ws)

each_read : (front : List ℕ) (ws : List Window) (rest : List ℕ) (i at : ℕ) (d : Window) → i < length ws → at ≡ length front + 10 * i
    → window_at (front ++ (numbers_of_windows ws ++ rest)) at ≡ get_or ws i d
unfolding numbers_of_windows
each_read front [] rest i at d h e = absurd (omega arith)
each_read front (w ∷ ws) rest zero at d h e =
    ap (λ (l : List ℕ). window_at (front ++ l) at) (append_assoc (window_numbers w) (numbers_of_windows ws) rest)
    ∙ window_read front w (numbers_of_windows ws ++ rest) at (omega (arith, e))
each_read front (w ∷ ws) rest (suc i) at d h e =
    ap (λ (l : List ℕ). window_at (front ++ l) at) (append_assoc (window_numbers w) (numbers_of_windows ws) rest)
    ∙ ap (λ (l : List ℕ). window_at l at) (sym (append_assoc front (window_numbers w) (numbers_of_windows ws ++ rest)))
    ∙ each_read (front ++ window_numbers w) ws rest i at d (omega arith) (omega (arith, e, length-append front (window_numbers w)))

module _ (front : List ℕ) (ws : List Window) (rest : List ℕ) (few : length ws ≤ 128) where
  abbrev ns : List ℕ
  ns = front ++ (length ws ∷ (numbers_of_windows ws ++ rest))

  abbrev from : ℕ
  from = length front + 1

  window_is : (i : ℕ) (d : Window) → i < length ws → window_at ns (from + 10 * i) ≡ get_or ws i d
  window_is i d h =
      ap (λ (l : List ℕ). window_at l (from + 10 * i)) (sym (append_assoc front (length ws ∷ []) (numbers_of_windows ws ++ rest)))
      ∙ each_read (front ++ (length ws ∷ [])) ws rest i (from + 10 * i) d h (omega (arith, length-append front (length ws ∷ [])))

  windows_are : (n : ℕ) → n ≤ length ws → windows_to ns from n ≡ take n ws
  unfolding windows_to
  windows_are zero h = refl
  windows_are (suc n) h =
      let d = window_at ns (from + 10 * n) in
      ap₂ (λ (l : List Window) (w : Window). l ++ (w ∷ [])) (windows_are n (omega arith)) (window_is n d (omega arith))
      ∙ sym (take-suc ws n d (omega arith))

  first_of : (m n : ℕ) → n ≤ m → take n (windows_to ns from m) ≡ windows_to ns from n
  unfolding windows_to
  first_of zero n h = let none : n ≡ 0 = omega arith in rw none refl
  first_of (suc m) n h = go (either (ltb n (suc m))) (λ less. first_of m n less)
    where
      go : (ltb n (suc m) ≡ true) ⊎ (ltb n (suc m) ≡ false) → (n ≤ m → take n (windows_to ns from m) ≡ windows_to ns from n)
          → take n (windows_to ns from (suc m)) ≡ windows_to ns from n
      go (inl t) rest =
          let less = ltb-true n (suc m) t in
          take-append-le n (windows_to ns from m) (window_at ns (from + 10 * m) ∷ []) (omega (arith, windows_count ns from m)) ∙ rest (omega arith)
      go (inr t) rest =
          let all : n ≡ suc m = omega (arith, ltb-false n (suc m) t) in
          rw all (take_all (suc m) (windows_to ns from (suc m)) (omega (arith, windows_count ns from (suc m))))

  pub windows_as_written : agreed_windows (counted_windows_at ns (length front)) ≡ ws
  unfolding counted_windows_at
  windows_as_written =
      ap (λ (n : ℕ). take n (windows_to ns from 128)) (behind front (length ws ∷ (numbers_of_windows ws ++ rest)) 0 (length front) (omega arith))
      ∙ first_of 128 (length ws) few ∙ windows_are (length ws) (omega arith) ∙ take_all (length ws) ws (omega arith)

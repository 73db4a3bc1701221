-- What `io::decimal` ensures is the number in decimal.
-- Assumes nothing.
use mathlib.Core.Path.{◌≡◌, refl, ap, ◌∙◌}
use Prim.Native.Nat.{ℕ, zero, suc, ◌+◌, ◌/◌, ◌^◌, ◌≤◌, ◌<◌}
use native.Mathlib.Nat.{add-sub_cancel, one-le-pow}
use native.Mathlib.Numerals.{add-one}
use native.Mathlib.Omega.{arith}
use borrow.Author.Tests.{lt-ltb, le-ltb}
use Rattle.io.specs.Digits.{last_digits, IsDigitCount}
use Rattle.texts.specs.Text.{digit_count, decimal}

fewest_digits : (most k n : ℕ) → n < 10 ^ suc most → IsDigitCount 10 1 n (k + 1) → digit_count most n ≡ k + 1
unfolding digit_count
fewest_digits zero zero n h f = refl
fewest_digits (suc most) zero n h f = simp (lt-ltb n 10 (omega arith))
fewest_digits zero (suc k) n h f =
    let low : 10 ^ suc k ≤ n = rw add-sub_cancel at (f.2 (omega arith)) in
    absurd (omega (arith, one-le-pow k 10 (omega arith)))
fewest_digits (suc most) (suc k) n h f =
    let low : 10 ^ suc k ≤ n = rw add-sub_cancel at (f.2 (omega arith)) in
    let high : n < 10 ^ suc (suc k) = rw add-one at f.1 in
    let shorter : IsDigitCount 10 1 (n / 10) (k + 1) = (omega arith, rw add-one (omega arith), λ q. rw add-sub_cancel (omega arith)) in
    simp (le-ltb n 10 (omega (arith, one-le-pow k 10 (omega arith))), fewest_digits most k (n / 10) (omega arith) shorter) (omega arith)

pub decimal_digits : (n k : ℕ) → n < 2 ^ 64 → IsDigitCount 10 1 n k → decimal n ≡ last_digits 10 k n
unfolding decimal
decimal_digits n zero h f = absurd (omega arith)
decimal_digits n (suc k) h f =
    let below : n < 10 ^ 20 = omega arith in
    ap (λ (m : ℕ). last_digits 10 m n) (fewest_digits 19 k n below (rw add-one f) ∙ add-one k)

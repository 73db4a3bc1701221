-- Squares of distances: what the early tests of `is_near` leave out, and how large a square is.
-- Assumes nothing.
use mathlib.Core.Path.{◌≡◌, sym}
use mathlib.Core.Bool.{false}
use Prim.Native.Nat.{ℕ, suc, ◌+◌, ◌*◌, ◌≤◌, ◌<◌}
use native.Mathlib.Omega.{arith}
use lib.Dec.{leb}
use borrow.Author.Tests.{lt-leb}
use Rattle.std.proofs.Math.Nat.{mul-le-mul}

square_most : (a d : ℕ) → a ≤ d → a * a ≤ d * d
square_most a d h = mul-le-mul h h

pub far : (a b d : ℕ) → d < a → false ≡ leb (a * a + b * b) (d * d)
far a b d h = sym (lt-leb (a * a + b * b) (d * d) (let z = square_most (suc d) a h in let y : suc d * suc d ≡ d * d + 2 * d + 1 = omega arith in omega arith))

pub far_north : (a b d : ℕ) → d < b → false ≡ leb (a * a + b * b) (d * d)
far_north a b d h =
    sym (lt-leb (a * a + b * b) (d * d) (let z = square_most (suc d) b h in let y : suc d * suc d ≡ d * d + 2 * d + 1 = omega arith in omega arith))

pub square_fits : (a : ℕ) → a ≤ 6000000 → a * a ≤ 36000000000000
square_fits a h = square_most a 6000000 h

-- A test that the numbers of the first processes pass: all of them in order, and each of them.
-- Assumes nothing.
use mathlib.Core.Path.{◌≡◌, refl, ap, ◌∙◌}
use mathlib.Core.Bool.{Bool, ◌&&◌}
use mathlib.Core.List.{List}
use Prim.Native.Nat.{ℕ, zero, suc, ◌≤◌}
use native.Mathlib.Numerals.{add-one}
use native.Mathlib.Omega.{arith}
use lib.ListN.{length, get_or, take}
use Rattle.std.specs.List.{list_all}
use Rattle.std.proofs.lemmas.List.Folds.{list_all_more}
use Rattle.basics.specs.tables.Tables.{every}

-- the first n pass where each of them, looked at in order, passes
pub every_is_all : (test : ℕ → Bool) (table : List ℕ) (n : ℕ) → n ≤ length table → list_all test (take n table) ≡ every test table n
unfolding every
every_is_all test table zero h = refl
every_is_all test table (suc n) h = rw (← add-one) (list_all_more test table n 0 (omega arith) ∙ ap (λ (b : Bool). b && test (get_or table n 0)) (every_is_all test table n (omega arith)))

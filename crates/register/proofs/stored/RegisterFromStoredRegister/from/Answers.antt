-- `Register::from` of a stored register meets its contract: each call of `map` widens its cell.
-- Tried without: with `using(same_lists)` on the function the goal stays open.
-- Assumes nothing.
use mathlib.Core.Path.{◌≡◌, ◌∙◌, sym}
use mathlib.Core.List.{map}
use Prim.Native.Nat.{ℕ, ◌<◌}
use native.Mathlib.Omega.{arith}
use lib.ListN.{length, get_or, length-map}
use Rattle.std.proofs.lemmas.List.{same_lists, get_or-map}
use Rattle.register.specs.declared.Cell.{Cell}
use Rattle.register.specs.stored.Stored.{stored_cell, widened_cell}
use Rattle.register.proofs.stored.RegisterFromStoredRegister.from.Goals as goal

pub returns : goal.returns
returns c =
    let long : length c.args.stored.cells ≡ 512 = omega arith in
    let each : (k : ℕ) (d : Cell) → k < 512 → get_or c.map-cells.result k d ≡ widened_cell (get_or c.args.stored.cells k (stored_cell 0 d.assignment)) =
    λ k d h. (c.map-cells.ensures.items.at k (stored_cell 0 d.assignment) d h).2.met in
    let cells : c.map-cells.result ≡ map widened_cell c.args.stored.cells =
    same_lists _ _ (c.map-cells.ensures.items.long ∙ sym (length-map c.args.stored.cells widened_cell ∙ long))
    (λ k d h. each k d (omega (arith, c.map-cells.ensures.items.long)) ∙ sym (get_or-map widened_cell c.args.stored.cells k (stored_cell 0 d.assignment) d (omega (arith, c.map-cells.ensures.items.long)))) in
    simp cells

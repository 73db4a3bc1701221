-- `planning_lines::stored::are_cells` meets its contract.
-- Tried without: with `using(range_passes)` on the function the search gives up at one of its limits.
-- Assumes nothing.
use Rattle.std.proofs.Common.{◌≡◌, refl, true, false, arith, rules, tests}
use Rattle.std.proofs.lemmas.Iterator.{cases_from_all, YieldsList-from_range}
use Rattle.call_lines.proofs.Ranges.{range_passes}
use Rattle.planning_lines.specs.stored.Lines.{is_cell_at, are_cells}
use Rattle.planning_lines.proofs.stored.are_cells.Goals as goal

pub returns : goal.returns
unfolding are_cells
returns c =
    range_passes (are_cells c.args.numbers.now) (is_cell_at c.args.numbers.now) refl (λ i. refl) c.args.count c.all.result
    (cases_from_all _ _ _ (λ i. is_cell_at c.args.numbers.now i ≡ true) (λ i. is_cell_at c.args.numbers.now i ≡ false) c.all.ensures.ran
    (YieldsList-from_range 0 c.args.count c.args.count refl (omega arith)) (λ i q k. search (rules, tests)) (λ i q k. search (rules, tests)))

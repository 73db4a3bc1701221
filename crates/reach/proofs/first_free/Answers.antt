-- `reach::first_free` meets its contract.
-- Tried without, with the lemmas named on the function: the goal stays open.
-- Assumes nothing.
use mathlib.Core.Path.{sym, ap, ◌∙◌}
use Rattle.reach.specs.Reach.{question_checked}
use Rattle.reach.proofs.Laws.{searched}
use Rattle.reach.proofs.Ways.{free_by_edges}
use Rattle.reach.proofs.first_free.Goals as goal

pub returns : goal.returns
returns g c =
    c.search.ensures ∙ free_by_edges _ _ _ _ _ c.near_edges-near.ensures.edges
    ∙ sym
    (searched (g.C.PlacedCells.settings c.args.cells.now) (g.C.PlacedCells.cells c.args.cells.now) c.args.first c.args.last c.args.question
    (ap (λ kept. question_checked kept c.args.question c.args.first c.args.last) (sym c.settings.ensures) ∙ sym c.question_checked.ensures ∙ c.in_ok-question_checked.was {u = tt}))

-- `reach::list_cells` meets its contract.
-- Tried without, with the four lemmas named on the function: both goals stay open.
-- Assumes nothing.
use mathlib.Core.Path.{sym, ◌∙◌}
use borrow.Author.Rules.{rules}
use Rattle.reach.proofs.Lists.{picked_none, picked_pass, picked_more}
use Rattle.reach.proofs.list_cells.Goals as goal
use Rattle.reach.proofs.list_cells.Goals.{then-clashes, else-clashes}

pub loop-i-init : goal.loop-i-init
loop-i-init g c = picked_none _ _ _ _

pub loop-i-preserved : goal.loop-i-preserved
loop-i-preserved g c =
    elim c.if-clashes.branch [
      | then-clashes w ↦
          simp (w.numbers-is, w.count-is)
          (picked_more _ _ _ _ _ _ _ c.cell-cell.result c.cell-cell.ensures (search rules) c.loop-i.invariant (search rules) (search rules)
          (sym c.clashes.ensures ∙ w.if-clashes.true))
      | else-clashes w ↦
          simp (w.numbers-is, w.count-is)
          (picked_pass _ _ _ _ _ _ _ c.cell-cell.result c.cell-cell.ensures (search rules) c.loop-i.invariant (sym c.clashes.ensures ∙ w.if-clashes.false))
    ]

-- `reach::near_edges` meets its contract.
-- Tried without, with the four lemmas named on the function: the goals stay open.
-- Assumes nothing.
use mathlib.Core.Path.{sym, ◌∙◌}
use borrow.Author.Rules.{rules}
use Rattle.reach.proofs.Lists.{picked_none, picked_pass, picked_more, picked_front}
use Rattle.reach.proofs.near_edges.Goals as goal
use Rattle.reach.proofs.near_edges.Goals.{then-is_near, else-is_near}

pub loop-i-init : goal.loop-i-init
loop-i-init g c = picked_none _ _ _ _

pub loop-i-preserved : goal.loop-i-preserved
loop-i-preserved g c =
    elim c.if-is_near.branch [
      | then-is_near w ↦
          simp (w.edges-is, w.count-is, w.edges_of.ensures)
          (picked_more _ _ _ _ _ _ _ c.cell-cell.result c.cell-cell.ensures (search rules) c.loop-i.invariant (search rules) (search rules)
          (sym c.is_near.ensures ∙ w.if-is_near.true))
      | else-is_near w ↦
          simp (w.edges-is, w.count-is)
          (picked_pass _ _ _ _ _ _ _ c.cell-cell.result c.cell-cell.ensures (search rules) c.loop-i.invariant (sym c.is_near.ensures ∙ w.if-is_near.false))
    ]

pub returns-clause-edges : goal.returns-clause-edges
returns-clause-edges g c = picked_front _ _ _ _ _ _ _ (search rules) c.loop-i.invariant

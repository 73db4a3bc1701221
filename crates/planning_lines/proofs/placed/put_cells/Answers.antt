-- `planning_lines::placed::put_cells` meets its contract.
-- Tried without, with the lemmas named on the function: the goal stays open.
-- Assumes nothing.
use mathlib.Core.Path.{ap, ◌∙◌}
use borrow.Author.Rules.{rules}
use Rattle.texts.specs.Text.{put}
use Rattle.texts.proofs.Putting.{reached_next}
use Rattle.planning_lines.specs.placed.Answers.{cell_text}
use Rattle.planning_lines.proofs.placed.put_cells.Goals as goal

pub loop-i-preserved : goal.loop-i-preserved
loop-i-preserved c =
    reached_next c.cell.result c.loop-i.invariant
    (c.put_cell.ensures ∙ ap (λ x. put (cell_text x) c.loop-i.out) (c.cell.ensures c.cell.result)) (search rules)

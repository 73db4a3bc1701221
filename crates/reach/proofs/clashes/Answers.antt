-- `reach::clashes` meets its contract.
-- Tried without, with the lemma named on the function: both goals stay open.
-- Assumes nothing.
use mathlib.Core.Path.{sym, ap, ◌∙◌}
use mathlib.Core.Bool.{Bool, ◌&&◌}
use Prim.Native.Nat.{◌*◌}
use Rattle.reach.specs.Reach.{is_near}
use Rattle.reach.specs.Search.{edges_contain}
use Rattle.reach.proofs.Ways.{clashes_by_edges}
use Rattle.reach.proofs.clashes.Goals as goal

pub returns-then-contain : goal.returns-then-contain
returns-then-contain c =
    c.is_near.ensures
    ∙ ap (λ (t : Bool). t && is_near c.args.question c.args.cell.position)
    (sym (ap (λ e. edges_contain e (2 * c.args.khz)) (sym c.edges_of.ensures) ∙ sym c.contain.ensures ∙ c.if-contain.true))
    ∙ clashes_by_edges c.args.question c.args.khz c.args.cell c.requires.on_raster

pub returns-else-contain : goal.returns-else-contain
returns-else-contain c =
    c.if-contain.false
    ∙ ap (λ (t : Bool). t && is_near c.args.question c.args.cell.position)
    (sym (ap (λ e. edges_contain e (2 * c.args.khz)) (sym c.edges_of.ensures) ∙ sym c.contain.ensures ∙ c.if-contain.false))
    ∙ clashes_by_edges c.args.question c.args.khz c.args.cell c.requires.on_raster

-- `reach::search` meets its contract.
-- Tried without: the goal stays open.
-- Assumes nothing.
use mathlib.Core.Path.{sym, ap, ◌∙◌}
use Prim.Native.Nat.{◌*◌}
use native.Mathlib.Omega.{arith}
use Rattle.reach.specs.Search.{in_the_way}
use Rattle.reach.proofs.Ways.{search_rises}
use Rattle.reach.proofs.search.Goals as goal

pub loop-number-smaller : goal.loop-number-smaller
loop-number-smaller c =
    omega (
      arith,
      search_rises c.args.edges.now c.args.first c.args.last c.loop-number.number c.loop-number.invariant c.loop-number-test.true c.requires c.in-Some.edge c.first_number_from-number.result
          (sym c.in-Some.is ∙ c.in_the_way.ensures ∙ ap (λ k. in_the_way (2 * k) c.args.edges.now) c.khz_at.ensures) c.first_number_from-number.ensures,
    )

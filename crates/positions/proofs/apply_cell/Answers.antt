-- `positions::apply_cell` meets its contract.
-- Tried without, with the lemma named on the function: the goal stays open.
-- Assumes nothing.
use mathlib.Core.Path.{◌≡◌, sym, ap, ◌∙◌}
use borrow.Author.Rules.{rules}
use Rattle.std.specs.Prelude.{Ok}
use Rattle.register.specs.declared.Entered.TheVariants.{Done}
use Rattle.group_register.specs.GroupRegister.{group_applied}
use Rattle.positions.proofs.Became.{place_of_done}
use Rattle.positions.proofs.apply_cell.Goals as goal

pub follow-requires : goal.follow-requires
follow-requires g c =
    let done : c.apply_in-outcome.result ≡ Ok Done = search rules in
    place_of_done c.args.settings (g.R.RegisterPlaces.register c.args.register.now) c.args.entry (g.R.RegisterPlaces.register c.apply_in-outcome.new.register)
    (ap (λ o. group_applied c.args.settings (g.R.RegisterPlaces.register c.apply_in-outcome.new.register) o) (sym done) ∙ c.apply_in-outcome.ensures.applied) _
    c.find-found.ensures.found c.find-found.ensures.within _ c.live-live.ensures.live

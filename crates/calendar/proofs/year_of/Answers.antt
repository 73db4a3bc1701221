-- `calendar::year_of` meets its contract: what is found is the first year whose successor begins after the day.
-- Tried without, with `first_past` and `years_rise` named on the function and `year_of` unfolded: `returns` stays open.
-- The check does not make the fact on every number before, which `first_past` takes, from what it knows of `find`.
-- Assumes nothing.
use Rattle.std.proofs.Common.{◌≤◌, ◌<◌, ◌+◌, ◌∙◌, rules}
use Rattle.std.proofs.lemmas.Iterator.{first_from_Range}
use Rattle.calendar.specs.Calendar.{days_of_years, year_of}
use Rattle.calendar.proofs.Years.{years_rise}
use Rattle.calendar.proofs.Search.{first_past}
use Rattle.calendar.proofs.year_of.Goals as goal

pub returns : goal.returns
unfolding year_of
returns c =
    c.unwrap_or.ensures
    ∙ first_past days_of_years years_rise c.args.day 8029 c.early_year-early.result _ c.early_year-early.ensures.within c.early_year-early.ensures.has_begun
    (first_from_Range _ _ _ _ (λ k. c.args.day < days_of_years (k + 1)) (λ k. days_of_years (k + 1) ≤ c.args.day) c.find.ensures.ran (λ x q k. search rules) (λ x q k. search rules))

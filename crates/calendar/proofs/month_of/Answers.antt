-- `calendar::month_of` meets its contract: what is found is the first month whose successor begins after the day.
-- Tried without, with `first_past`, `no_months` and `months_rise` named on the function and `month_of` unfolded: `returns` stays open.
-- The check does not make the fact on every number before, which `first_past` takes, from what it knows of `find`.
-- Assumes nothing.
use Rattle.std.proofs.Common.{◌≤◌, ◌<◌, ◌+◌, ◌∙◌, rules, arith}
use Rattle.std.proofs.lemmas.Iterator.{first_from_Range}
use Rattle.calendar.specs.Calendar.{days_of_months, month_of}
use Rattle.calendar.proofs.Months.{months_rise}
use Rattle.calendar.proofs.Search.{first_past, no_months}
use Rattle.calendar.proofs.month_of.Goals as goal

pub returns : goal.returns
unfolding month_of
returns c =
    c.unwrap_or.ensures
    ∙ first_past (days_of_months c.args.leap) (months_rise c.args.leap) c.args.day 11 0 _ (omega arith) (no_months c.args.leap c.args.day)
    (first_from_Range _ _ _ _ (λ k. c.args.day < days_of_months c.args.leap (k + 1)) (λ k. days_of_months c.args.leap (k + 1) ≤ c.args.day) c.find.ensures.ran (λ x q k. search rules) (λ x q k. search rules))

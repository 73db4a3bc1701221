-- `calendar::Date::days_before` meets its contract: the days of years and months make up the days before the date.
-- Tried without: with `using(numbers, added_fit, added_days)` seven of the nine goals stay open; `numbers` gives a record, into which the search does not look.
-- Assumes nothing.
use native.Mathlib.Omega.{arith}
use Rattle.calendar.proofs.Dates.{numbers, added_days, added_fit}
use Rattle.calendar.proofs.Date.days_before.Goals as goal

pub overflow_sub-self : goal.overflow_sub-self
overflow_sub-self c = omega (arith, numbers _ c.requires)

pub days_of_years-years-requires : goal.days_of_years-years-requires
days_of_years-years-requires c = omega (arith, numbers _ c.requires)

pub overflow_sub-self-2 : goal.overflow_sub-self-2
overflow_sub-self-2 c = omega (arith, numbers _ c.requires)

pub days_of_months-months-requires : goal.days_of_months-months-requires
days_of_months-months-requires c = omega (arith, numbers _ c.requires)

pub overflow_add-result : goal.overflow_add-result
overflow_add-result c =
    omega (arith, added_fit _ _ _ _ c.requires c.is_leap-leap.ensures c.days_of_years-years.ensures c.days_of_months-months.ensures)

pub overflow_sub-result : goal.overflow_sub-result
overflow_sub-result c = omega (arith, numbers _ c.requires)

pub overflow_add-result-2 : goal.overflow_add-result-2
overflow_add-result-2 c =
    omega (arith, added_fit _ _ _ _ c.requires c.is_leap-leap.ensures c.days_of_years-years.ensures c.days_of_months-months.ensures)

pub returns : goal.returns
returns c = added_days _ _ _ _ c.is_leap-leap.ensures c.days_of_years-years.ensures c.days_of_months-months.ensures

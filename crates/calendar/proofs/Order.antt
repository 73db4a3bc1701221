-- An earlier date has the smaller minute.
-- Assumes nothing.
use mathlib.Core.Path.{◌≡◌, sym, ap}
use mathlib.Core.Bool.{true, false}
use mathlib.Core.Logic.{◌⊎◌, inl, inr}
use Prim.Native.Nat.{ℕ, suc, ◌+◌, ◌-◌, ◌<◌}
use native.Mathlib.Omega.{arith}
use lib.Dec.{ltb}
use borrow.Author.Tests.{ltb-true, ltb-false}
use Rattle.basics.proofs.Tests.{either}
use Rattle.calendar.specs.Calendar.{is_leap, days_of_years, days_of_months, is_date, days_before, minute_of, Earlier}
use Rattle.calendar.specs.declared.Date.{Date}
use Rattle.calendar.proofs.Years.{years_rise}
use Rattle.calendar.proofs.Months.{months_rise}
use Rattle.calendar.proofs.LastPassing.{grows}
use Rattle.calendar.proofs.Dates.{Numbers, numbers, in_month, before_next_year}

module _ (a b : Date) (m : Numbers a) (n : Numbers b) where
  earlier_day : days_before a < days_before b → minute_of a < minute_of b
  unfolding minute_of
  earlier_day h = let x = m.hours in let y = m.minutes in omega arith

  year_before : a.year < b.year → days_before a < days_before b
  unfolding days_before
  year_before h =
      let e = before_next_year a m in
      let g = grows days_of_years years_rise (suc (a.year - 1970)) (b.year - 1970) (omega (arith, m.first_year)) in
      omega arith

  month_before : a.year ≡ b.year → a.month < b.month → days_before a < days_before b
  unfolding days_before
  month_before y h =
      let e = in_month a m in
      let g = grows (days_of_months (is_leap a.year)) (months_rise (is_leap a.year)) a.month (b.month - 1) (omega arith) in
      let s = ap (λ (x : ℕ). days_of_years (x - 1970)) y in
      let t = ap (λ (x : ℕ). days_of_months (is_leap x) (b.month - 1)) y in
      omega arith

  same_days : a.year ≡ b.year → a.month ≡ b.month
      → days_of_years (a.year - 1970) + days_of_months (is_leap a.year) (a.month - 1) ≡ days_of_years (b.year - 1970) + days_of_months (is_leap b.year) (b.month - 1)
  same_days y h = cc

  day_before : a.year ≡ b.year → a.month ≡ b.month → a.day < b.day → days_before a < days_before b
  unfolding days_before
  day_before y h l = let e = same_days y h in let f = m.first_day in omega arith

  day_same : a.year ≡ b.year → a.month ≡ b.month → a.day ≡ b.day → days_before a ≡ days_before b
  unfolding days_before
  day_same y h l = let e = same_days y h in omega arith

  hour_before : days_before a ≡ days_before b → a.hour < b.hour → minute_of a < minute_of b
  unfolding minute_of
  hour_before e h = let y = m.minutes in omega arith

  minute_before : days_before a ≡ days_before b → a.hour ≡ b.hour → a.minute < b.minute → minute_of a < minute_of b
  unfolding minute_of
  minute_before e h l = omega arith

  by_parts : Earlier a b → minute_of a < minute_of b
  by_parts (inl y) = earlier_day (year_before y)
  by_parts (inr (y, inl o)) = earlier_day (month_before y o)
  by_parts (inr (y, inr (o, inl d))) = earlier_day (day_before y o d)
  by_parts (inr (y, inr (o, inr (d, inl h)))) = hour_before (day_same y o d) h
  by_parts (inr (y, inr (o, inr (d, inr (h, l))))) = minute_before (day_same y o d) h l

pub order_kept : (a b : Date) → is_date a ≡ true → is_date b ≡ true → Earlier a b → minute_of a < minute_of b
order_kept a b v w = by_parts a b (numbers a v) (numbers b w)

hour_and_minute : (a b : Date) → days_before a ≡ days_before b → a.hour ≡ b.hour → a.minute ≡ b.minute → minute_of a ≡ minute_of b
unfolding minute_of
hour_and_minute a b e h l = omega arith

-- ---- and the other way round: of two dates one is the earlier, or they are the same

compare : (x y : ℕ) → (x < y) ⊎ ((x ≡ y) ⊎ (y < x))
compare x y = go (either (ltb x y)) (either (ltb y x))
  where
    go : (ltb x y ≡ true) ⊎ (ltb x y ≡ false) → (ltb y x ≡ true) ⊎ (ltb y x ≡ false) → (x < y) ⊎ ((x ≡ y) ⊎ (y < x))
    go (inl e) f = inl (ltb-true x y e)
    go (inr e) (inl f) = inr (inr (ltb-true y x f))
    go (inr e) (inr f) = let p = ltb-false x y e in let q = ltb-false y x f in inr (inl (omega arith))

-- first by x and y, and then by what L, E and G say
then : {x y : ℕ} {L E G : Type 0} → (x < y) ⊎ ((x ≡ y) ⊎ (y < x)) → L ⊎ (E ⊎ G)
    → ((x < y) ⊎ ((x ≡ y) × L)) ⊎ (((x ≡ y) × E) ⊎ ((y < x) ⊎ ((y ≡ x) × G)))
then (inl l) r = inl (inl l)
then (inr (inr g)) r = inr (inr (inl g))
then (inr (inl e)) (inl l) = inl (inr (e, l))
then (inr (inl e)) (inr (inl s)) = inr (inl (e, s))
then (inr (inl e)) (inr (inr g)) = inr (inr (inr (sym e, g)))

abbrev Same : Date → Date → Type 0
Same a b = (a.year ≡ b.year) × ((a.month ≡ b.month) × ((a.day ≡ b.day) × ((a.hour ≡ b.hour) × (a.minute ≡ b.minute))))

compared : (a b : Date) → Earlier a b ⊎ (Same a b ⊎ Earlier b a)
compared a b =
    then (compare a.year b.year)
    (then (compare a.month b.month)
    (then (compare a.day b.day) (then (compare a.hour b.hour) (compare a.minute b.minute))))

pub order_told : (a b : Date) → is_date a ≡ true → is_date b ≡ true → minute_of a < minute_of b → Earlier a b
order_told a b v w l = go (compared a b)
  where
    go : Earlier a b ⊎ (Same a b ⊎ Earlier b a) → Earlier a b
    go (inl e) = e
    go (inr (inr e)) = let g = order_kept b a w v e in absurd (omega arith)
    go (inr (inl (y, (o, (d, (h, m)))))) =
        let same = hour_and_minute a b (day_same a b (numbers a v) (numbers b w) y o d) h m in
        absurd (omega arith)

-- Both conversions are the table's: a number has a frequency, and a frequency a number, exactly where a row of the table says so.
-- Assumes nothing.
use mathlib.Core.Path.{◌≡◌, refl, sym, ap, ◌∙◌}
use mathlib.Core.Bool.{Bool, true, false, cond}
use mathlib.Core.Logic.{inl, inr}
use Prim.Native.Nat.{ℕ, ◌+◌, ◌*◌, ◌-◌, ◌/◌, ◌%◌, ◌<◌, ◌≤◌}
use native.Mathlib.Omega.{arith}
use lib.Dec.{eqb}
use borrow.Author.Tests.{ltb-true, ltb-false, leb-true, leb-false, eqb-true, lt-ltb, le-ltb, le-leb, lt-leb, eq-eqb}
use Rattle.std.specs.Prelude.{Option, Some, None}
use Rattle.raster.specs.Table.{OnRaster}
use Rattle.std.specs.Option.{ok_or}
use Rattle.basics.specs.refusals.Refusals.{refusal}
use Rattle.raster.specs.Raster.{frequency_of, whole_steps, number_of, not_on_raster, raster_refusal, raster_value}

-- ---- what the conversions give, a row of the table says

-- what holds of both cases of a choice holds of the choice
chosen : {A : Type 0} (P : A → Type 0) (t : Bool) {x y : A} → (t ≡ true → P x) → (t ≡ false → P y) → P (cond t x y)
chosen P true f g = f refl
chosen P false f g = g refl

abbrev FrequencyOnRaster : ℕ → Option ℕ → Type 0
FrequencyOnRaster n (Some f) = OnRaster n f
FrequencyOnRaster n None = Unit {0}

abbrev CarrierOnRaster : ℕ → Option ℕ → Type 0
CarrierOnRaster f (Some n) = OnRaster n f
CarrierOnRaster f None = Unit {0}

frequency_by_table : (n : ℕ) → FrequencyOnRaster n (frequency_of n)
unfolding frequency_of
frequency_by_table n =
    chosen (FrequencyOnRaster n) _ (λ a. low (leb-true _ _ a))
    (λ a. chosen (FrequencyOnRaster n) _ (λ b. middle (leb-false _ _ a) (leb-true _ _ b))
    (λ b. chosen (FrequencyOnRaster n) _ (λ c. high (leb-false _ _ b) (leb-true _ _ c)) (λ c. tt)))
  where
    low : n ≤ 599999 → OnRaster n (5 * n)
    low to = inl (record { from = omega arith; to = to; khz = omega arith })

    middle : 600000 ≤ n → n ≤ 2016666 → OnRaster n (3000000 + 15 * (n - 600000))
    middle from to = inr (inl (record { from = from; to = to; khz = refl }))

    high : 2016667 ≤ n → n ≤ 3279165 → OnRaster n (24250080 + 60 * (n - 2016667))
    high from to = inr (inr (record { from = from; to = to; khz = refl }))

whole_steps_by_table : (f first step above : ℕ) → (above % step ≡ 0 → OnRaster (first + above / step) f) → CarrierOnRaster f (whole_steps first step above)
unfolding whole_steps
whole_steps_by_table f first step above row = chosen (CarrierOnRaster f) (eqb (above % step) 0) (λ t. row (eqb-true _ _ t)) (λ t. tt)

carrier_by_table : (f : ℕ) → CarrierOnRaster f (number_of f)
unfolding number_of
carrier_by_table f =
    chosen (CarrierOnRaster f) _ (λ a. low (ltb-true _ _ a))
    (λ a. chosen (CarrierOnRaster f) _ (λ b. middle (ltb-false _ _ a) (leb-true _ _ b))
    (λ b. chosen (CarrierOnRaster f) _ (λ c. tt)
    (λ c. chosen (CarrierOnRaster f) _ (λ d. high (ltb-false _ _ c) (leb-true _ _ d))
    (λ d. tt))))
  where
    low : f < 3000000 → CarrierOnRaster f (whole_steps 0 5 f)
    low h = whole_steps_by_table f 0 5 f (λ e. inl (record { from = omega arith; to = omega arith; khz = omega arith }))

    middle : 3000000 ≤ f → f ≤ 24249990 → CarrierOnRaster f (whole_steps 600000 15 (f - 3000000))
    middle g h = whole_steps_by_table f 600000 15 (f - 3000000) (λ e. inr (inl (record { from = omega arith; to = omega arith; khz = omega arith })))

    high : 24250080 ≤ f → f ≤ 99999960 → CarrierOnRaster f (whole_steps 2016667 60 (f - 24250080))
    high g h = whole_steps_by_table f 2016667 60 (f - 24250080) (λ e. inr (inr (record { from = omega arith; to = omega arith; khz = omega arith })))

pub frequency_on_raster : (n f : ℕ) → frequency_of n ≡ Some f → OnRaster n f
frequency_on_raster n f e = rw e at (frequency_by_table n)

pub number_on_raster : (n f : ℕ) → number_of f ≡ Some n → OnRaster n f
number_on_raster n f e = rw e at (carrier_by_table f)

-- ---- and what a row says, they give

pub on_raster_frequency : (n f : ℕ) → OnRaster n f → frequency_of n ≡ Some f
unfolding frequency_of
on_raster_frequency n f (inl row) =
    let is : 5 * n ≡ f = omega arith in
    simp (le-leb _ _ row.to, is)
on_raster_frequency n f (inr (inl row)) =
    let low : 599999 < n = omega arith in
    simp (lt-leb _ _ low, le-leb _ _ row.to, sym row.khz)
on_raster_frequency n f (inr (inr row)) =
    let low : 599999 < n = omega arith in
    let middle : 2016666 < n = omega arith in
    simp (lt-leb _ _ low, lt-leb _ _ middle, le-leb _ _ row.to, sym row.khz)

pub on_raster_number : (n f : ℕ) → OnRaster n f → number_of f ≡ Some n
unfolding number_of whole_steps
on_raster_number n f (inl row) =
    let below : f < 3000000 = omega arith in
    let whole : f % 5 ≡ 0 = omega arith in
    let is : 0 + f / 5 ≡ n = omega arith in
    simp (lt-ltb _ _ below, eq-eqb _ _ whole, is)
on_raster_number n f (inr (inl row)) =
    let low : 3000000 ≤ f = omega arith in
    let most : f ≤ 24249990 = omega arith in
    let whole : (f - 3000000) % 15 ≡ 0 = omega arith in
    let is : 600000 + (f - 3000000) / 15 ≡ n = omega arith in
    simp (le-ltb _ _ low, le-leb _ _ most, eq-eqb _ _ whole, is)
on_raster_number n f (inr (inr row)) =
    let low : 3000000 ≤ f = omega arith in
    let middle : 24249990 < f = omega arith in
    let least : 24250080 ≤ f = omega arith in
    let most : f ≤ 99999960 = omega arith in
    let whole : (f - 24250080) % 60 ≡ 0 = omega arith in
    let is : 2016667 + (f - 24250080) / 60 ≡ n = omega arith in
    simp (le-ltb _ _ low, lt-leb _ _ middle, le-ltb _ _ least, le-leb _ _ most, eq-eqb _ _ whole, is)

-- ---- "14, no raster number or no raster frequency": given exactly where no row of the table has the number, or the frequency

pub no_raster_number : (n : ℕ) → raster_refusal (frequency_of n) ≡ 14 → (f : ℕ) → OnRaster n f → ⊥
no_raster_number n e f row = let z = sym e ∙ ap raster_refusal (on_raster_frequency n f row) in omega arith

pub raster_number_refused : (n : ℕ) → ((f : ℕ) → OnRaster n f → ⊥) → raster_refusal (frequency_of n) ≡ 14
raster_number_refused n off = go (frequency_of n) refl
  where
    go : (answer : Option ℕ) → frequency_of n ≡ answer → raster_refusal answer ≡ 14
    go (Some f) e = absurd (off f (frequency_on_raster n f e))
    go None e = refl

pub no_raster_frequency : (f : ℕ) → raster_refusal (number_of f) ≡ 14 → (n : ℕ) → OnRaster n f → ⊥
no_raster_frequency f e n row = let z = sym e ∙ ap raster_refusal (on_raster_number n f row) in omega arith

pub raster_frequency_refused : (f : ℕ) → ((n : ℕ) → OnRaster n f → ⊥) → raster_refusal (number_of f) ≡ 14
raster_frequency_refused f off = go (number_of f) refl
  where
    go : (answer : Option ℕ) → number_of f ≡ answer → raster_refusal answer ≡ 14
    go (Some n) e = absurd (off n (number_on_raster n f e))
    go None e = refl

-- ---- an answer as two numbers: 0 and the table's value where a row has one, and 0 as the value of a refusal

pub on_raster_khz : (n f : ℕ) → OnRaster n f → (raster_refusal (frequency_of n) ≡ 0) × (raster_value (frequency_of n) ≡ f)
on_raster_khz n f row = let e = on_raster_frequency n f row in (ap raster_refusal e, ap raster_value e)

pub off_raster_khz : (n : ℕ) → ((f : ℕ) → OnRaster n f → ⊥) → raster_value (frequency_of n) ≡ 0
off_raster_khz n off = go (frequency_of n) refl
  where
    go : (answer : Option ℕ) → frequency_of n ≡ answer → raster_value answer ≡ 0
    go (Some f) e = absurd (off f (frequency_on_raster n f e))
    go None e = refl

pub on_raster_carrier : (n f : ℕ) → OnRaster n f → (raster_refusal (number_of f) ≡ 0) × (raster_value (number_of f) ≡ n)
on_raster_carrier n f row = let e = on_raster_number n f row in (ap raster_refusal e, ap raster_value e)

pub off_raster_carrier : (f : ℕ) → ((n : ℕ) → OnRaster n f → ⊥) → raster_value (number_of f) ≡ 0
off_raster_carrier f off = go (number_of f) refl
  where
    go : (answer : Option ℕ) → number_of f ≡ answer → raster_value answer ≡ 0
    go (Some n) e = absurd (off n (number_on_raster n f e))
    go None e = refl

-- ---- the number as it is computed: of an answer as a result

pub refusal_as_result : (answer : Option ℕ) → refusal not_on_raster (ok_or answer (record {})) ≡ raster_refusal answer
refusal_as_result (Some x) = refl
refusal_as_result None = refl

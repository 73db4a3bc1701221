-- The conversions of E5 and E8 as a host gets them: the number of document 02 that refuses, or 0, and the value.
-- Assumes nothing.
use Rattle.std.specs.Prelude.{ℕ, Option, Some, None, Result}
use Rattle.std.specs.Result.{result_unwrap_or}
use Rattle.basics.specs.refusals.Refusals.{refusal}
use Rattle.raster.specs.Raster.{frequency_of, number_of, raster_refusal, raster_value}
use Rattle.calendar.specs.Calendar.{to_minute, to_date}
use Rattle.calendar.specs.declared.Date.{Date}
use Rattle.planning_host.specs.declared.FlatDateAnswer.{FlatDateAnswer}
use Rattle.planning_host.specs.declared.FlatValue.{FlatValue}

-- of a result, by the numbers of its refusals
abbrev pub flat_value : {E : Type 0} → (E → ℕ) → Result ℕ E → FlatValue
flat_value number given = record { refusal = refusal number given; value = result_unwrap_or given 0 }

abbrev pub flat_raster : Option ℕ → FlatValue
flat_raster answer = record { refusal = raster_refusal answer; value = raster_value answer }

abbrev pub flat_khz : ℕ → FlatValue
flat_khz n = flat_raster (frequency_of n)

abbrev pub flat_carrier_number : ℕ → FlatValue
flat_carrier_number f = flat_raster (number_of f)

abbrev pub flat_minute_answer : Option ℕ → FlatValue
flat_minute_answer (Some minute) = record { refusal = 0; value = minute }
flat_minute_answer None = record { refusal = 17; value = 0 }

abbrev pub flat_minute : Date → FlatValue
flat_minute d = flat_minute_answer (to_minute d)

abbrev pub flat_no_date : Date
flat_no_date = record { year = 0; month = 0; day = 0; hour = 0; minute = 0 }

abbrev pub flat_date_answer : Option Date → FlatDateAnswer
flat_date_answer (Some d) = record { refusal = 0; date = d }
flat_date_answer None = record { refusal = 17; date = flat_no_date }

abbrev pub flat_date : ℕ → FlatDateAnswer
flat_date minute = flat_date_answer (to_date minute)

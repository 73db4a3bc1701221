-- What a register keeps of the group settings that it was begun from (document 02, E13 and E8).
-- Assumes nothing.
use Rattle.std.specs.Prelude.{Bool, cond, ℕ, ltb, eqb}
use Rattle.group_register.specs.declared.RegisterSettings.{RegisterSettings}
use Rattle.group_register.specs.declared.UnmadeBy.{UnmadeBy}
use Rattle.group_register.specs.declared.UnmadeBy.TheVariants.{OutsideLimits, NotInCalendar}

-- from a slot alone: "one above 2^63−2 gives 1"
unfoldable pub settings_from : ℕ → RegisterSettings
settings_from slot =
    cond (ltb 9223372036854775806 slot) (record { number = 1; whole_mhz_from = slot }) (record { number = 0; whole_mhz_from = slot })

-- document 02's number: settings outside their limits give 1, "before any 17" of a window that is none
abbrev pub unmade_number : UnmadeBy → ℕ
unmade_number OutsideLimits = 1
unmade_number NotInCalendar = 17

-- why a register that is not made is none: 17 stays 17, and any other number is read as 1
abbrev pub unmade_by : RegisterSettings → UnmadeBy
unmade_by s = cond (eqb s.number 17) NotInCalendar OutsideLimits

-- the number that every call gives before anything else, and 0 where it is made
unfoldable pub settings_refusal : RegisterSettings → ℕ
settings_refusal s = cond (eqb s.number 0) 0 (unmade_number (unmade_by s))

abbrev pub is_made : RegisterSettings → Bool
is_made s = eqb (settings_refusal s) 0

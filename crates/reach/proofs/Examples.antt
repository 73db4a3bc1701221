-- Two live cells, computed: each hypothesis of the laws holds somewhere.
-- Assumes nothing.
use mathlib.Core.Path.{◌≡◌, refl}
use mathlib.Core.Logic.{inl, inr}
use mathlib.Core.List.{List, [], ◌∷◌}
use Prim.Native.Nat.{ℕ}
use native.Mathlib.Omega.{arith}
use lib.IntN.{ℤ, pos, negsuc}
use Rattle.std.specs.Prelude.{Option, Some, None, Ok, Err}
use Rattle.raster.specs.Raster.{frequency_of}
use Rattle.register.specs.Register.{assignable}
use Rattle.basics.specs.elements.Places.{at_front}
use Rattle.positions.specs.Grid.{within_grid}
use Rattle.positions.specs.declared.Position.{Position}
use Rattle.reach.specs.Conflict.{Assigned, RisingPlaced}
use Rattle.reach.specs.Reach.{question_within_limits, is_near, overlaps, clashes, blocked, lowest_free, question_checked, conflicts_of, first_free}
use Rattle.reach.specs.declared.PlacedCell.{PlacedCell}
use Rattle.reach.specs.declared.Question.{Question}
use Rattle.reach.specs.declared.ReachRefusal.TheVariants.{Unmade, NotAssignable, OutsideLimits, NoneFree}
use Rattle.group_register.specs.Settings.{settings_refusal}
use Rattle.group_register.specs.declared.RegisterSettings.{RegisterSettings}
use Rattle.group_register.specs.declared.UnmadeBy.TheVariants.{OutsideLimits as settings_outside, NotInCalendar}
use Rattle.reach.proofs.Meaning.{may_of_test}

abbrev placed : ℕ → ℕ → ℕ → Option Position → PlacedCell
placed n carrier width position = record { number = n; assignment = record { carrier = carrier; width = width }; position = position }

-- 300 m east and 400 m south of 0, 0; 3,440,000 up to 3,460,000 kHz
abbrev here : PlacedCell
here = placed 3 630000 20000 (Some (record { x = pos 300; y = negsuc 399 }))

-- without a position; 3,470,000 up to 3,490,000 kHz
abbrev anywhere : PlacedCell
anywhere = placed 7 632000 20000 None

abbrev office : List PlacedCell
office = here ∷ anywhere ∷ []

abbrev ask : ℕ → ℤ → ℕ → Question
ask width x distance = record { width = width; position = record { x = x; y = pos 0 }; distance = distance }

-- of settings with that number
abbrev kept : ℕ → RegisterSettings
kept number = record { number = number; whole_mhz_from = 9223372036854775806 }

abbrev places : List ℕ
places = 9 ∷ 9 ∷ 9 ∷ 9 ∷ []

pub assigned : Assigned office
unfolding assignable frequency_of
assigned c (inl e) = rw e (may_of_test 630000 20000 refl)
assigned c (inr (inl e)) = rw e (may_of_test 632000 20000 refl)
assigned c (inr (inr none)) = absurd none

pub rising : RisingPlaced 0 office
rising = (omega arith, (omega arith, tt))

-- 631000 is 3,465,000 kHz: with 20,000 kHz it overlaps both cells, with 10,000 kHz it only touches them. The first is 500 m away. The places past the list
-- stay as they were.
pub lists : (conflicts_of (kept 0) office 631000 (ask 20000 (pos 0) 500) places ≡ (Ok 2, 3 ∷ 7 ∷ 9 ∷ 9 ∷ []))
    × (conflicts_of (kept 0) office 631000 (ask 20000 (pos 0) 499) places ≡ (Ok 1, 7 ∷ 9 ∷ 9 ∷ 9 ∷ []))
    × (conflicts_of (kept 0) office 631000 (ask 10000 (pos 0) 500) places ≡ (Ok 0, places))
unfolding settings_refusal conflicts_of question_checked clashes overlaps is_near question_within_limits within_grid assignable frequency_of at_front
lists = (refl, refl, refl)

pub refusals : (conflicts_of (kept 17) office 3279166 (ask 0 (negsuc 2000000) 500) places ≡ (Err (Unmade NotInCalendar), places))
    × (conflicts_of (kept 5) office 3279166 (ask 0 (negsuc 2000000) 500) places ≡ (Err (Unmade settings_outside), places))
    × (conflicts_of (kept 0) office 3279166 (ask 0 (negsuc 2000000) 500) places ≡ (Err OutsideLimits, places))
    × (conflicts_of (kept 0) office 631000 (ask 10000 (pos 0) 6000001) places ≡ (Err OutsideLimits, places))
    × (conflicts_of (kept 0) office 3279166 (ask 10000 (negsuc 1999999) 6000000) places ≡ (Err NotAssignable, places))
    × (conflicts_of (kept 0) office 631000 (ask 400001 (pos 0) 500) places ≡ (Err NotAssignable, places))
unfolding settings_refusal conflicts_of question_checked question_within_limits within_grid assignable frequency_of
refusals = (refl, refl, refl, refl, refl, refl)

pub ranges : (first_free (kept 0) office 630998 631001 (ask 10000 (pos 0) 500) ≡ Ok 631000)
    × (first_free (kept 0) office 630998 630999 (ask 10000 (pos 0) 500) ≡ Err NoneFree)
    × (first_free (kept 0) office 631001 631000 (ask 10000 (pos 0) 500) ≡ Err NoneFree)
    × (first_free (kept 0) office 631001 3279166 (ask 10000 (pos 0) 500) ≡ Err NotAssignable)
    × (first_free (kept 0) office 3279166 631000 (ask 0 (pos 2000001) 500) ≡ Err OutsideLimits)
    × (first_free (kept 17) office 3279166 631000 (ask 0 (pos 2000001) 500) ≡ Err (Unmade NotInCalendar))
unfolding settings_refusal first_free question_checked lowest_free blocked clashes overlaps is_near question_within_limits within_grid assignable frequency_of
ranges = (refl, refl, refl, refl, refl, refl)

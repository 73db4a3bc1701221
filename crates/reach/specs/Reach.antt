-- Conflicts within reach, and the first free carrier (document 02, E11): what is answered.
-- Assumes nothing.
use Rattle.std.specs.Prelude.{Bool, true, false, cond, ◌&&◌, ◌||◌, not, ℕ, zero, suc, ◌+◌, ◌*◌, ◌-◌, ltb, leb, ◌-ℤ◌, List, [], ◌∷◌, length, take, map, Option, Some, None, Result, Ok, Err}
use Rattle.std.specs.List.{filter}
use Rattle.basics.specs.elements.Places.{at_front}
use Rattle.raster.specs.Raster.{frequency_of, raster_value}
use Rattle.register.specs.Register.{assignable}
use Rattle.group_register.specs.Settings.{unmade_number, unmade_by, is_made}
use Rattle.group_register.specs.declared.RegisterSettings.{RegisterSettings}
use Rattle.positions.specs.Grid.{within_grid}
use Rattle.positions.specs.declared.Position.{Position}
use Rattle.reach.specs.Conflict.{squared}
use Rattle.reach.specs.declared.PlacedCell.{PlacedCell}
use Rattle.reach.specs.declared.Question.{Question}
use Rattle.reach.specs.declared.ReachRefusal.{ReachRefusal}
use Rattle.reach.specs.declared.ReachRefusal.TheVariants.{Unmade, NotAssignable, OutsideLimits, NoneFree}

-- document 02's number
abbrev pub reach_refusal_number : ReachRefusal → ℕ
reach_refusal_number (Unmade why) = unmade_number why
-- a carrier, width or range end outside its limits
reach_refusal_number NotAssignable = 14
-- position or distance outside the limits
reach_refusal_number OutsideLimits = 21
-- no carrier in the range is free
reach_refusal_number NoneFree = 22

-- ---- positions
-- "position or distance outside the limits": "a distance from 0 to 6,000,000 metres"
unfoldable pub question_within_limits : Question → Bool
question_within_limits q = within_grid q.position && leb q.distance 6000000

-- "within the distance of the position, equality included, squares compared"; "Cells without a position always count as near."
unfoldable pub is_near : Question → Option Position → Bool
is_near q None = true
is_near q (Some p) = leb (squared (q.position.x -ℤ p.x) + squared (q.position.y -ℤ p.y)) (q.distance * q.distance)

-- ---- carriers
-- the frequency of a raster number, in kHz, and 0 for any other number: 14 has refused those, here and in E6
abbrev pub khz_at : ℕ → ℕ
khz_at n = raster_value (frequency_of n)

-- carriers of f and g kHz with widths w and v: each begins below the other's end, in half kHz
unfoldable pub overlaps : ℕ → ℕ → ℕ → ℕ → Bool
overlaps f w g v = ltb (2 * f) (2 * g + (w + v)) && ltb (2 * g) (2 * f + (w + v))

-- a carrier of f kHz is in conflict with a cell: "overlap the carrier and lie within the distance of the position"
unfoldable pub clashes : Question → ℕ → PlacedCell → Bool
clashes q f c = overlaps f q.width (khz_at c.assignment.carrier) c.assignment.width && is_near q c.position

-- "list the cells, by number"
abbrev pub clashing : Question → ℕ → List PlacedCell → List ℕ
clashing q f cs = map (λ c. c.number) (filter (clashes q f) cs)

-- some cell is in conflict with carrier number n
unfoldable pub blocked : Question → List PlacedCell → ℕ → Bool
blocked q [] n = false
blocked q (c ∷ cs) n = clashes q (khz_at n) c || blocked q cs n

-- "the lowest that conflicts with none", of so many numbers from n on
unfoldable pub lowest_free : (ℕ → Bool) → ℕ → ℕ → Result ℕ ReachRefusal
lowest_free conflicts n zero = Err NoneFree
lowest_free conflicts n (suc more) = cond (conflicts n) (lowest_free conflicts (suc n) more) (Ok n)

-- ---- the answers
-- a carrier number of the raster, and a width "from 1 to 400,000" (E6)
abbrev pub may_ask : ℕ → ℕ → Bool
may_ask carrier width = assignable (record { carrier = carrier; width = width })

-- "21 first, then 14 for a carrier, width or range end outside its limits", behind the number of a register that is not made
unfoldable pub question_checked : RegisterSettings → Question → ℕ → ℕ → Result (Unit {0}) ReachRefusal
question_checked s q first last =
    cond (not (is_made s)) (Err (Unmade (unmade_by s)))
    (cond (not (question_within_limits q)) (Err OutsideLimits)
    (cond (not (may_ask first q.width && may_ask last q.width)) (Err NotAssignable)
    (Ok tt)))

-- how many numbers are listed, and the lent places: the numbers stand in the first ones
abbrev pub listed_in_places : Result (Unit {0}) ReachRefusal → List ℕ → List ℕ → Result ℕ ReachRefusal × List ℕ
listed_in_places (Ok u) ns places = (Ok (length ns), at_front ns places)
listed_in_places (Err why) ns places = (Err why, places)

unfoldable pub conflicts_of : RegisterSettings → List PlacedCell → ℕ → Question → List ℕ → Result ℕ ReachRefusal × List ℕ
conflicts_of s cs n q places = listed_in_places (question_checked s q n n) (clashing q (khz_at n) cs) places

abbrev pub unless_refused : Result (Unit {0}) ReachRefusal → Result ℕ ReachRefusal → Result ℕ ReachRefusal
unless_refused (Ok u) answer = answer
unless_refused (Err why) answer = Err why

-- both ends belong to the range
unfoldable pub first_free : RegisterSettings → List PlacedCell → ℕ → ℕ → Question → Result ℕ ReachRefusal
first_free s cs first last q = unless_refused (question_checked s q first last) (lowest_free (blocked q cs) first (last + 1 - first))

-- the numbers that an answer lists: none where it is refused
abbrev pub numbers_listed : Result ℕ ReachRefusal × List ℕ → List ℕ
numbers_listed (Ok count, places) = take count places
numbers_listed (Err why, places) = []

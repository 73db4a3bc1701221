-- What joining two lists of commits computes (document 02, E10), and what it leaves in the lent places.
-- Assumes nothing.
use Rattle.std.specs.Prelude.{◌≡◌, Result, Ok, Err, Bool, true, false, cond, not, ◌&&◌, ◌||◌, List, [], ◌∷◌, ◌++◌, ℕ, ◌+◌, ◌-◌, ◌≤◌, min, ltb, leb, eqb, length, get_or, take, drop}
use Rattle.std.specs.List.{list_any, zip}
use Rattle.std.specs.Result.{result_unwrap_or}
use Rattle.basics.specs.elements.Places.{at_front}
use Rattle.basics.specs.refusals.Refusals.{refusal}
use Rattle.catch_up.specs.Causes.{CommitList, join_number}
use Rattle.catch_up.specs.declared.JoinRefusal.{JoinRefusal}
use Rattle.catch_up.specs.declared.JoinRefusal.TheVariants.{NumberTooLarge, OutsideLimits, Gap, TwoValues}
use Rattle.catch_up.specs.declared.Checked.{Checked}
use Rattle.catch_up.specs.declared.LentList.{LentList}
use Rattle.catch_up.specs.declared.LentPlaces.{LentPlaces}

abbrev pub list_of : List ℕ → List ℕ → CommitList
list_of slots values = record { slots = slots; values = values }

-- what a host lends
abbrev pub lent_list : LentList → CommitList
lent_list l = list_of l.slots.now l.values.now

abbrev pub lent_places : LentPlaces → CommitList
lent_places p = list_of p.slots.now p.values.now

-- they are the places that were lent
abbrev pub SamePlaces : LentPlaces → LentPlaces → Type 0
SamePlaces p q = (q.slots.ghost_name ≡ p.slots.ghost_name) × (q.values.ghost_name ≡ p.values.ghost_name)

-- ---- tests

-- some number is above the limit
unfoldable pub some_above : ℕ → List ℕ → Bool
some_above limit numbers = list_any (λ n. ltb limit n) numbers

-- 2
unfoldable pub list_too_large : CommitList → Bool
list_too_large l = some_above 9223372036854775806 l.slots || some_above 9223372036854775807 l.values

-- the slots are n and those that follow
unfoldable pub counts_from : ℕ → List ℕ → Bool
counts_from n [] = true
counts_from n (s ∷ slots) = eqb s n && counts_from (s + 1) slots

-- the first slot; 0 where there is none
abbrev pub first_slot : List ℕ → ℕ
first_slot slots = get_or slots 0 0

-- 18
unfoldable pub outside : CommitList → Bool
outside l = ltb 4096 (length l.slots) || (not (eqb (length l.slots) (length l.values)) || not (counts_from (first_slot l.slots) l.slots))

-- what is looked for in one list alone
abbrev pub checked_of : CommitList → Checked
checked_of l = record { too_large = list_too_large l; outside = outside l }

-- the usual list's slots: no more than 4,096, consecutive, and the first at least 4,095 below the largest slot
unfoldable pub counts_within : List ℕ → Bool
counts_within slots =
    cond (ltb 4096 (length slots)) false (cond (ltb 9223372036854771711 (first_slot slots)) false (counts_from (first_slot slots) slots))

-- a list with as many values as slots, and not too many
pub record InLimits (l : CommitList) : Type 0 where
  pub same : length l.slots ≡ length l.values
  pub few : length l.slots ≤ 4096

-- two lists differ at a place that both have
unfoldable pub differ : List ℕ → List ℕ → Bool
differ xs ys = list_any (λ p. not (eqb p.0 p.1)) (zip xs ys)

-- ---- the join

module _ (earlier later : CommitList) where
  -- how many slots after the earlier list the later one begins
  abbrev pub ahead : ℕ
  ahead = first_slot later.slots - first_slot earlier.slots

  -- 19: it begins past the slot after the earlier one's last
  abbrev pub apart : Bool
  apart = ltb 0 (length earlier.slots) && ltb (length earlier.slots) ahead

  -- 20: the values of the slots that both have
  abbrev pub disagree : Bool
  disagree = differ (drop ahead earlier.values) later.values

  -- the earlier list, and of the later one what lies past its end
  abbrev pub together : List ℕ → List ℕ → List ℕ
  together e l = e ++ drop (length earlier.slots - ahead) l

  abbrev pub joined_list : CommitList
  joined_list = record { slots = together earlier.slots later.slots; values = together earlier.values later.values }

-- the list that begins earlier stands first
unfoldable pub in_order : CommitList → CommitList → Result CommitList JoinRefusal
in_order earlier later =
    cond (apart earlier later) (Err Gap) (cond (disagree earlier later) (Err TwoValues) (Ok (joined_list earlier later)))

-- 2 or 18, of two lists and that many lent places
unfoldable pub one_refused : CommitList → CommitList → ℕ → Result (Unit {0}) JoinRefusal
one_refused a b places =
    cond (list_too_large a || list_too_large b) (Err NumberTooLarge)
    (cond (outside a || (outside b || ltb places 8192)) (Err OutsideLimits) (Ok tt))

-- two lists, with that many places lent for the result: the list that the two give, or why they are not joined
unfoldable pub joining : CommitList → CommitList → ℕ → Result CommitList JoinRefusal
joining a b places =
    cond (list_too_large a || list_too_large b) (Err NumberTooLarge)
    (cond (outside a || (outside b || ltb places 8192)) (Err OutsideLimits)
    (cond (leb (first_slot a.slots) (first_slot b.slots)) (in_order a b) (in_order b a)))

-- ---- what a call answers, and what it leaves

-- how many entries the result has, or the refusal
abbrev pub join_answer : Result CommitList JoinRefusal → Result ℕ JoinRefusal
join_answer (Err why) = Err why
join_answer (Ok l) = Ok (length l.slots)

-- the number of document 02, and 0 where there is none
abbrev pub join_refusal : {T : Type 0} → Result T JoinRefusal → ℕ
join_refusal given = refusal join_number given

-- how many entries there are, and 0 for a refusal
abbrev pub join_count : Result ℕ JoinRefusal → ℕ
join_count answer = result_unwrap_or answer 0

-- what is written
abbrev pub result_of : Result CommitList JoinRefusal → CommitList
result_of (Err why) = record { slots = []; values = [] }
result_of (Ok l) = l

-- a call answers the result, and leaves it in the first of the lent places: "places past the result, and all after a refusal, are unchanged"
pub record JoinGives (result : Result CommitList JoinRefusal) (places after : CommitList) (answer : Result ℕ JoinRefusal) : Type 0 where
  pub answered : answer ≡ join_answer result
  pub slots : after.slots ≡ at_front (result_of result).slots places.slots
  pub values : after.values ≡ at_front (result_of result).values places.values

-- how many places are lent: as many as the shorter of the two slices has
abbrev pub lent : CommitList → ℕ
lent places = min (length places.slots) (length places.values)

-- what a host finds there after a call that says how many entries the result has: so many of the first places
abbrev pub handed_back : ℕ → CommitList → CommitList
handed_back count after = list_of (take count after.slots) (take count after.values)

-- the lists a and b are joined into the lent places
abbrev pub Joins : CommitList → CommitList → CommitList → CommitList → Result ℕ JoinRefusal → Type 0
Joins a b places after answer = JoinGives (joining a b (lent places)) places after answer

-- A list of commits fed to a register, whatever the two are made of (document 02, E10: "A second call feeds it to the register, with the host's entry beside
-- each value, each taken as in E6, from the slot after the last one seen (at first 0), or gives 19 and feeds nothing where it begins past that; it hands back
-- the first refused slot, if any, with its number"). Registers.antt has the two registers.
-- Assumes nothing.
use Rattle.std.specs.Prelude.{◌≡◌, Option, Some, None, Result, Ok, Err, Bool, true, cond, not, ◌&&◌, ◌||◌, List, [], ◌∷◌, ℕ, zero, suc, ◌+◌, ltb, eqb, length}
use Rattle.register.specs.declared.Entered.{Entered}
use Rattle.group_register.specs.Settings.{unmade_number, unmade_by, is_made}
use Rattle.group_register.specs.declared.GroupRegister.{GroupRegister}
use Rattle.group_register.specs.declared.RegisterSettings.{RegisterSettings}
use Rattle.catch_up.specs.Causes.{CommitList, join_number}
use Rattle.catch_up.specs.Joining.{list_too_large, counts_from, first_slot}
use Rattle.catch_up.specs.declared.JoinRefusal.{JoinRefusal}
use Rattle.catch_up.specs.declared.JoinRefusal.TheVariants.{NumberTooLarge, OutsideLimits, Gap}
use Rattle.feeding.specs.declared.FeedRefusal.{FeedRefusal}
use Rattle.feeding.specs.declared.FeedRefusal.TheVariants.{Unmade, AsList}
use Rattle.feeding.specs.declared.FirstRefused.{FirstRefused}

-- ---- what is asked of a register and of the lists that are fed to it

pub record CommitRegister (Register EntryList Entry Refusal : Type 0) : Type 0 where
  -- the register of group settings in it
  pub group : Register → GroupRegister
  -- the slots and values of a list, how long each slice of an entry's numbers beside them is, and the host's entry beside the value at a place
  pub commits : EntryList → CommitList
  pub lengths : EntryList → List ℕ
  pub entry : EntryList → ℕ → Entry
  -- the slot of an entry, the register after it, what became of it, and document 02's number of a refusal
  pub slot : Entry → ℕ
  pub after : Register → Entry → Register
  pub outcome : Register → Entry → Result Entered Refusal
  pub number : Refusal → ℕ

-- as many of each
abbrev pub AllAre : ℕ → List ℕ → Type 0
AllAre n [] = Unit {0}
AllAre n (m ∷ ms) = (n ≡ m) × AllAre n ms

unfoldable pub all_are : ℕ → List ℕ → Bool
all_are n [] = true
all_are n (m ∷ ms) = eqb n m && all_are n ms

-- ---- whether a list is fed

-- 18: "8,192 in the one fed", "or slots not consecutive within it"; and slices of unequal length
unfoldable pub outside_fed : CommitList → Bool → Bool
outside_fed c same_lengths =
    ltb 8192 (length c.slots)
    || (not (eqb (length c.slots) (length c.values)) || (not same_lengths || not (counts_from (first_slot c.slots) c.slots)))

-- 19: "where it begins past that"
abbrev pub begins_past : ℕ → List ℕ → Bool
begins_past next_slot slots = ltb 0 (length slots) && ltb next_slot (first_slot slots)

-- a register that is not made gives its number before anything else (E13); one that is: "in that order, after 2"
unfoldable pub feed_checked : RegisterSettings → ℕ → CommitList → Bool → Result (Unit {0}) FeedRefusal
feed_checked s next_slot c same_lengths =
    cond (not (is_made s)) (Err (Unmade (unmade_by s)))
    (cond (list_too_large c) (Err (AsList NumberTooLarge))
    (cond (outside_fed c same_lengths) (Err (AsList OutsideLimits))
    (cond (begins_past next_slot c.slots) (Err (AsList Gap))
    (Ok tt))))

-- document 02's number: a register that is not made gives that of its settings
abbrev pub feed_refusal_number : FeedRefusal → ℕ
feed_refusal_number (Unmade why) = unmade_number why
feed_refusal_number (AsList why) = join_number why

-- ---- entries one by one

-- a register, and the first slot that was refused on the way to it
pub record FedTo (Register Refusal : Type 0) : Type 0 where
  pub register : Register
  pub first : Option (FirstRefused Refusal)

abbrev pub fed_to : {R W : Type 0} → Option (FirstRefused W) → R → FedTo R W
fed_to first r = record { register = r; first = first }

-- the first that was refused, after one more
unfoldable pub or_refused : {W : Type 0} → Option (FirstRefused W) → ℕ → Result Entered W → Option (FirstRefused W)
or_refused None slot (Ok entered) = None
or_refused None slot (Err why) = Some (record { slot = slot; why = why })
or_refused (Some first) slot outcome = Some first

-- the slot and its number, both 0 where none was refused
abbrev pub refused_slot : {W : Type 0} → Option (FirstRefused W) → ℕ
refused_slot None = 0
refused_slot (Some first) = first.slot

abbrev pub refused_number : {W : Type 0} → (W → ℕ) → Option (FirstRefused W) → ℕ
refused_number number None = 0
refused_number number (Some first) = number first.why

-- document 02's number of a refusal: neither 0, done, nor 64, older
abbrev pub is_refusal : ℕ → Bool
is_refusal number = not (eqb number 0) && not (eqb number 64)

-- the entries from a place on, so many
unfoldable pub fed_entries_from : {E : Type 0} → (ℕ → E) → ℕ → ℕ → List E
fed_entries_from entry i zero = []
fed_entries_from entry i (suc n) = entry i ∷ fed_entries_from entry (i + 1) n

-- ---- the call

-- the register afterwards, and the answer
pub record Feeding (Register Refusal : Type 0) : Type 0 where
  pub register : Register
  pub answer : Result (Option (FirstRefused Refusal)) FeedRefusal

abbrev pub feeding_in : {R W : Type 0} → Result (Option (FirstRefused W)) FeedRefusal → R → Feeding R W
feeding_in answer r = record { register = r; answer = answer }

abbrev pub fed_unless : {R W : Type 0} → Result (Unit {0}) FeedRefusal → R → FedTo R W → Feeding R W
fed_unless (Err why) r fed = feeding_in (Err why) r
fed_unless (Ok u) r fed = feeding_in (Ok fed.first) fed.register

module _ {R L E W : Type 0} (k : CommitRegister R L E W) where
  abbrev pub SameLengths : L → Type 0
  SameLengths l = AllAre (length (k.commits l).slots) (k.lengths l)

  abbrev pub same_lengths : L → Bool
  same_lengths l = all_are (length (k.commits l).slots) (k.lengths l)

  abbrev pub entries_in : L → List E
  entries_in l = fed_entries_from (k.entry l) 0 (length (k.commits l).slots)

  -- an entry is "taken as in E6", from E13 on with 23 among its numbers
  abbrev pub fed_one : FedTo R W → E → FedTo R W
  fed_one f e = fed_to (or_refused f.first (k.slot e) (k.outcome f.register e)) (k.after f.register e)

  -- so is every entry, also those behind a refused one; what is older does nothing there
  unfoldable pub feed_all : FedTo R W → List E → FedTo R W
  feed_all f [] = f
  feed_all f (e ∷ es) = feed_all (fed_one f e) es

  abbrev pub feed_checked_for : R → L → Result (Unit {0}) FeedRefusal
  feed_checked_for r l = feed_checked (k.group r).settings (k.group r).register.next_slot (k.commits l) (same_lengths l)

  unfoldable pub feeding : R → L → Feeding R W
  feeding r l = fed_unless (feed_checked_for r l) r (feed_all (fed_to None r) (entries_in l))

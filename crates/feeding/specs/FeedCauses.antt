-- When a list is not fed (document 02, E10). This page is the statement; proofs/FeedNumbers.antt says that a call on a
-- register that is made gives each number exactly here.
-- Assumes nothing.
use Rattle.std.specs.Prelude.{◌≡◌, ◌⊎◌, ◌<◌, length, get_or}
use Rattle.catch_up.specs.Causes.{Consecutive, ListTooLarge}
use Rattle.catch_up.specs.declared.JoinRefusal.{JoinRefusal}
use Rattle.catch_up.specs.declared.JoinRefusal.TheVariants.{NumberTooLarge, OutsideLimits, Gap, TwoValues}
use Rattle.feeding.specs.Feeding.{CommitRegister, SameLengths}

module _ {R L E W : Type 0} (k : CommitRegister R L E W) where
  -- 18: "more than 4,096 entries in a list (8,192 in the one fed) or slots not consecutive within it"; slices of unequal length
  abbrev pub OutsideFed : L → Type 0
  OutsideFed l =
      (8192 < length (k.commits l).slots)
      ⊎ ((length (k.commits l).slots ≡ length (k.commits l).values → ⊥) ⊎ ((SameLengths k l → ⊥) ⊎ (Consecutive (k.commits l).slots → ⊥)))

  -- 19: "where it begins past that", the slot after the last one seen. 20 is none of a single list's.
  abbrev pub FeedCause : JoinRefusal → R → L → Type 0
  FeedCause NumberTooLarge r l = ListTooLarge (k.commits l)
  FeedCause OutsideLimits r l = OutsideFed l
  FeedCause Gap r l = (0 < length (k.commits l).slots) × ((k.group r).register.next_slot < get_or (k.commits l).slots 0 0)
  FeedCause TwoValues r l = ⊥

  -- "in that order, after 2"
  abbrev pub NoneBeforeFeed : JoinRefusal → R → L → Type 0
  NoneBeforeFeed NumberTooLarge r l = Unit {0}
  NoneBeforeFeed OutsideLimits r l = FeedCause NumberTooLarge r l → ⊥
  NoneBeforeFeed Gap r l = (FeedCause NumberTooLarge r l → ⊥) × (FeedCause OutsideLimits r l → ⊥)
  NoneBeforeFeed TwoValues r l = ⊥

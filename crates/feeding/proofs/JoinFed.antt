-- What `join` hands back, the first of the lent places, as many as it says, is a list that is fed: with as many of each of an entry's numbers beside it, to a
-- register that is made and at whose next slot it begins or before (document 02, E10).
-- Assumes nothing.
use Rattle.std.proofs.Common.{◌≡◌, sym, subst, inl, inr, ℕ, ◌≤◌, true, get_or, Option, Ok, arith}
use Rattle.group_register.specs.Settings.{is_made}
use Rattle.catch_up.specs.Causes.{CommitList, ListTooLarge}
use Rattle.catch_up.specs.Joining.{handed_back, Joins}
use Rattle.catch_up.specs.declared.JoinRefusal.{JoinRefusal}
use Rattle.catch_up.specs.declared.JoinRefusal.TheVariants.{NumberTooLarge, OutsideLimits, Gap, TwoValues}
use Rattle.catch_up.proofs.Exact.{JoinOf}
use Rattle.catch_up.proofs.Calls.{hands_join, hands_fitting}
use Rattle.feeding.specs.Feeding.{CommitRegister, SameLengths, feeding}
use Rattle.feeding.specs.FeedCauses.{OutsideFed, FeedCause}
use Rattle.feeding.specs.declared.FirstRefused.{FirstRefused}
use Rattle.feeding.proofs.FeedNumbers.{fed_otherwise}

module _ {R L E W : Type 0} (k : CommitRegister R L E W) (a b places after : CommitList) (count : ℕ) (call : Joins a b places after (Ok count)) (l : L)
    (commits : k.commits l ≡ handed_back count after) (long : SameLengths k l) where
  join : JoinOf a b (k.commits l)
  join = subst (JoinOf a b) (sym commits) (hands_join a b places after count call)

  fits : ListTooLarge (k.commits l) → ⊥
  fits t = hands_fitting a b places after count call (subst ListTooLarge commits t)

  inside : OutsideFed k l → ⊥
  inside (inl many) = omega (arith, many, join.few)
  inside (inr (inl values)) = values join.same
  inside (inr (inr (inl lengths))) = lengths long
  inside (inr (inr (inr slots))) = slots join.consecutive

  no_cause : (r : R) → get_or (k.commits l).slots 0 0 ≤ (k.group r).register.next_slot → (why : JoinRefusal) → FeedCause k why r l → ⊥
  no_cause r begins NumberTooLarge c = fits c
  no_cause r begins OutsideLimits c = inside c
  no_cause r begins Gap c = omega (arith, c.1)
  no_cause r begins TwoValues c = c

  pub join_fed : (r : R) → is_made (k.group r).settings ≡ true → get_or (k.commits l).slots 0 0 ≤ (k.group r).register.next_slot
      → (first : Option (FirstRefused W)) × ((feeding k r l).answer ≡ Ok first)
  join_fed r made begins = (fed_otherwise k r l made).1 (no_cause r begins)

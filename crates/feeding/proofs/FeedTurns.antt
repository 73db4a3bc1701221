-- One turn of the loops of `feed_all` and `feed_all_placed`, their end, and what a list is that is fed.
-- Assumes nothing.
use mathlib.Core.Path.{◌≡◌, refl}
use mathlib.Core.Bool.{Bool, true, false, cond, not}
use mathlib.Core.List.{List, [], ◌∷◌}
use Prim.Native.Nat.{ℕ, suc, ◌+◌, ◌-◌, ◌≤◌, ◌<◌}
use native.Mathlib.Omega.{arith}
use lib.Dec.{eqb, ltb}
use lib.ListN.{length}
use borrow.Author.Tests.{eqb-true, not-false}
use Rattle.std.specs.Prelude.{Result, Ok, Err}
use Rattle.std.proofs.lemmas.Bool.{or_parts}
use Rattle.basics.proofs.Tests.{and_left, and_right}
use Rattle.group_register.specs.Settings.{unmade_by, is_made}
use Rattle.group_register.specs.declared.RegisterSettings.{RegisterSettings}
use Rattle.catch_up.specs.Causes.{CommitList}
use Rattle.catch_up.specs.Joining.{lent_list, list_too_large}
use Rattle.feeding.specs.declared.EntryList.{EntryList}
use Rattle.catch_up.specs.declared.JoinRefusal.TheVariants.{NumberTooLarge, OutsideLimits, Gap}
use Rattle.feeding.specs.declared.FeedRefusal.{FeedRefusal}
use Rattle.feeding.specs.declared.FeedRefusal.TheVariants.{Unmade, AsList}
use Rattle.feeding.specs.declared.PlacedList.{PlacedList}
use Rattle.feeding.specs.Feeding.{CommitRegister, AllAre, all_are, outside_fed, begins_past, feed_checked, FedTo, fed_entries_from, SameLengths, same_lengths, fed_one, feed_all}
use Rattle.feeding.specs.Registers.{fed_list, cell_register, placed_list, placed_register}

module _ {R L E W : Type 0} (k : CommitRegister R L E W) where
  -- one entry and those behind it: the entry is applied, and the first refused one told
  pub feed_next : (entry : ℕ → E) (i n : ℕ) (f : FedTo R W) → i < n
      → feed_all k f (fed_entries_from entry i (n - i)) ≡ feed_all k (fed_one k f (entry i)) (fed_entries_from entry (i + 1) (n - (i + 1)))
  unfolding feed_all fed_entries_from
  feed_next entry i n f h = let left : n - i ≡ suc (n - (i + 1)) = omega arith in rw left refl

  pub feed_end : (entry : ℕ → E) (i n : ℕ) (f : FedTo R W) → n ≤ i → feed_all k f (fed_entries_from entry i (n - i)) ≡ f
  unfolding feed_all fed_entries_from
  feed_end entry i n f h = let none : n - i ≡ 0 = omega arith in rw none refl

-- ---- a list that is fed

-- what is looked for, in its order
abbrev looked_for : (made large outside past : Bool) → FeedRefusal → Result (Unit {0}) FeedRefusal
looked_for made large outside past why =
    cond (not made) (Err why) (cond large (Err (AsList NumberTooLarge)) (cond outside (Err (AsList OutsideLimits)) (cond past (Err (AsList Gap)) (Ok tt))))

none_found : (m l o p : Bool) (why : FeedRefusal) (u : Unit {0}) → looked_for m l o p why ≡ Ok u → (m ≡ true) × (o ≡ false)
none_found true false false false why u e = (refl, refl)
none_found true false false true why u e = cc
none_found true false true p why u e = cc
none_found true true o p why u e = cc
none_found false l o p why u e = cc

module _ (s : RegisterSettings) (next : ℕ) (c : CommitList) (same : Bool) (u : Unit {0}) (checked : feed_checked s next c same ≡ Ok u) where
  none : (is_made s ≡ true) × (outside_fed c same ≡ false)
  unfolding feed_checked
  none = none_found (is_made s) (list_too_large c) (outside_fed c same) (begins_past next c.slots) (Unmade (unmade_by s)) u checked

  -- its register is made
  pub checked_made : is_made s ≡ true
  checked_made = none.0

  -- and its slices have as many numbers as its slots
  checked_same : same ≡ true
  unfolding outside_fed
  checked_same =
      let length_said = (or_parts (ltb 8192 (length c.slots)) _ none.1).1 in
      not-false same (or_parts (not same) _ (or_parts (not (eqb (length c.slots) (length c.values))) _ length_said).1).0

pub all_same : (n : ℕ) (ms : List ℕ) → all_are n ms ≡ true → AllAre n ms
unfolding all_are
all_same n [] e = tt
all_same n (m ∷ ms) e = (eqb-true n m (and_left (eqb n m) (all_are n ms) e), all_same n ms (and_right (eqb n m) (all_are n ms) e))

pub cells_same : (l : EntryList) (s : RegisterSettings) (next : ℕ) (u : Unit {0})
    → feed_checked s next (lent_list l.commits) (same_lengths cell_register (fed_list l)) ≡ Ok u → SameLengths cell_register (fed_list l)
cells_same l s next u e = all_same _ _ (checked_same s next _ _ u e)

pub placed_same : (l : PlacedList) (s : RegisterSettings) (next : ℕ) (u : Unit {0})
    → feed_checked s next (lent_list l.entries.commits) (same_lengths placed_register (placed_list l)) ≡ Ok u → SameLengths placed_register (placed_list l)
placed_same l s next u e = all_same _ _ (checked_same s next _ _ u e)

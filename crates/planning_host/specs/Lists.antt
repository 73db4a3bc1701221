-- E10's join as a host gets it: the number of document 02 that refuses, or 0, and how many entries stand in the lent places; and what it gets of a list
-- that is fed.
-- Assumes nothing.
use Rattle.std.specs.Prelude.{◌≡◌, ℕ, Option, Result, Ok, Err}
use Rattle.catch_up.specs.Joining.{Joins}
use Rattle.catch_up.specs.declared.JoinRefusal.{JoinRefusal}
use Rattle.catch_up.specs.Causes.{CommitList, join_number}
use Rattle.feeding.specs.Feeding.{refused_slot, refused_number, feed_refusal_number, CommitRegister, feeding}
use Rattle.feeding.specs.declared.FeedRefusal.{FeedRefusal}
use Rattle.feeding.specs.declared.FirstRefused.{FirstRefused}
use Rattle.planning_host.specs.Conversions.{flat_value}
use Rattle.planning_host.specs.declared.FlatFed.{FlatFed}
use Rattle.planning_host.specs.declared.FlatValue.{FlatValue}

abbrev pub flat_join : Result ℕ JoinRefusal → FlatValue
flat_join answer = flat_value join_number answer

-- the lists a and b are joined into the lent places, and the answer is in numbers
pub record JoinsFlat (a b places after : CommitList) (answer : FlatValue) : Type 0 where
  pub joined : Result ℕ JoinRefusal
  pub numbers : answer ≡ flat_join joined
  pub call : Joins a b places after joined

-- of refusals with these numbers
abbrev pub flat_fed : {W : Type 0} → (W → ℕ) → Result (Option (FirstRefused W)) FeedRefusal → FlatFed
flat_fed number (Ok first) = record { refusal = 0; slot = refused_slot first; number = refused_number number first }
flat_fed number (Err why) = record { refusal = feed_refusal_number why; slot = 0; number = 0 }

-- the list is fed to the register, and the answer is in numbers
pub record FeedsFlat {R L E W : Type 0} (k : CommitRegister R L E W) (r : R) (l : L) (after : R) (answer : FlatFed) : Type 0 where
  pub register : after ≡ (feeding k r l).register
  pub numbers : answer ≡ flat_fed k.number (feeding k r l).answer

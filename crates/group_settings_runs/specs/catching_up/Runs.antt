-- Lists of commits from a group run (document 02, E10).
-- Assumes nothing.
use Rattle.std.specs.Prelude.{◌≡◌, List, ℕ, ◌+◌, ◌≤◌, ◌<◌, length, get_or, Option, Ok}
use Rattle.basics.specs.Lists.{In}
use Rattle.catch_up.specs.Causes.{CommitList, listed_commits}
use Rattle.catch_up.specs.Joining.{first_slot, handed_back, Joins}
use Rattle.feeding.specs.Feeding.{SameLengths, feeding}
use Rattle.feeding.specs.Registers.{FedList, entry_in, cell_register}
use Rattle.feeding.specs.declared.FirstRefused.{FirstRefused}
use Rattle.group.specs.Claim.{Entry, slot_at, CommitAt}
use Rattle.group_register.specs.declared.GroupRefusal.{GroupRefusal}
use Rattle.group_register.specs.declared.RegisterSettings.{RegisterSettings}
use Rattle.group_settings_runs.specs.registers.Members.{CellChange, entry_for_commit, register_of_member, UpTo}

-- every slot and value of the list is a commit of the run
abbrev pub FromRun : List Entry → CommitList → Type 0
FromRun run l = (slot v : ℕ) → In (record { slot = slot; value = v }) (listed_commits l) → CommitAt slot v run

-- at place i of a list that begins with slot b stands what the hosts say of the value that the run committed in slot b + i
abbrev pub FedFromRun : (ℕ → CellChange) → List Entry → FedList → ℕ → ℕ → Type 0
FedFromRun says run l b i = (v : ℕ) × (entry_in l i ≡ entry_for_commit says (b + i) v) × CommitAt (b + i) v run

-- "with the host's entry beside each value": the list that is fed has the slots and values of l and as many of each number of an entry, and beside each
-- value stands what the hosts say of it
pub record FedAsSaid (says : ℕ → CellChange) (l : CommitList) (fed : FedList) : Type 0 where
  pub commits : fed.commits ≡ l
  pub long : SameLengths cell_register fed
  pub entries : (i : ℕ) → i < length l.slots → entry_in fed i ≡ entry_for_commit says (get_or l.slots i 0) (get_or l.values i 0)

module _ (kept : RegisterSettings) (says : ℕ → CellChange) (i j : ℕ) (p q run : List Entry) where
  -- Office i, which was away since moment p of the run, feeds a list that begins no later than its next slot; another office j is, at moment q, at the slot
  -- where the list ends: i then holds the register that j holds.
  abbrev pub HoldsWhatOthersHold : Type 0
  HoldsWhatOthersHold =
      UpTo p run → UpTo q run → (l : FedList) (b : ℕ) → ((k : ℕ) → k < length l.commits.slots → FedFromRun says run l b k)
      → b ≤ slot_at i p → slot_at i p ≤ slot_at j q → b + length l.commits.slots ≡ slot_at j q → slot_at j q ≤ 9223372036854775807
      → (first : Option (FirstRefused GroupRefusal)) → (feeding cell_register (register_of_member kept says i p) l).answer ≡ Ok first
      → (feeding cell_register (register_of_member kept says i p) l).register ≡ register_of_member kept says j q

  -- So it does where a call of `join` hands that list back from two of the run, with `count` entries, and the entries that the hosts say are lent beside it.
  abbrev pub JoinsAndFeeds : Type 0
  JoinsAndFeeds =
      UpTo p run → UpTo q run → (a b places after : CommitList) (count : ℕ) → FromRun run a → FromRun run b → Joins a b places after (Ok count)
      → (fed : FedList) → FedAsSaid says (handed_back count after) fed
      → first_slot (handed_back count after).slots ≤ slot_at i p → slot_at i p ≤ slot_at j q
      → first_slot (handed_back count after).slots + count ≡ slot_at j q
      → (feeding cell_register (register_of_member kept says i p) fed).register ≡ register_of_member kept says j q

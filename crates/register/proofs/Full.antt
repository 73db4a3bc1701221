-- 512 cells, assigned one after another: a new cell then gives 15, and an assignment of a live one is taken.
-- Assumes nothing.
use mathlib.Core.Path.{◌≡◌, refl, ap, ◌∙◌}
use mathlib.Core.Bool.{true, false}
use mathlib.Core.List.{List, [], ◌∷◌}
use mathlib.Core.Logic.{◌⊎◌, inl, inr}
use Prim.Native.Nat.{ℕ, zero, suc, ◌≤◌, ◌<◌}
use native.Mathlib.Omega.{arith}
use lib.Dec.{eqb}
use borrow.Author.Tests.{lt-ltb, le-leb, lt-leb, eqb-false, ne_eqb}
use Rattle.basics.proofs.Tests.{either}
use Rattle.register.specs.Taken.{is_assigned, above, entry_number_given, entry_number_after, is_taken, latest, live_cell_count, named_cells, count_in}
use Rattle.register.specs.declared.Change.TheVariants.{Assign}
use Rattle.register.specs.declared.CellEntry.{CellEntry}
use Rattle.register.proofs.Agreement.{taken_by_number}
use Rattle.register.proofs.Entries.{latest_own, latest_other, live_more}
use Rattle.register.proofs.Examples.{narrow, entry}

-- cells 0 to k - 1, each in the slot of its number; latest first
unfoldable pub filled : ℕ → List CellEntry
filled zero = []
filled (suc k) = entry k k (Assign narrow) ∷ filled k

record Filled (k : ℕ) : Type 0 where
  slots : (slot : ℕ) → k ≤ slot → above slot (filled k) ≡ true
  free : (n : ℕ) → k ≤ n → is_assigned (latest (filled k) n) ≡ false
  held : (n : ℕ) → n < k → is_assigned (latest (filled k) n) ≡ true
  live : live_cell_count (filled k) ≡ k

module _ (k : ℕ) (room : k < 512) (before : Filled k) where
  next : entry_number_after (filled k) (entry k k (Assign narrow)) ≡ 0
  unfolding entry_number_given
  next =
      simp (
        le-leb k 9223372036854775806 (omega arith),
        before.slots k (omega arith),
        before.free k (omega arith),
        before.live,
        lt-leb 512 k (omega arith),
      )

  took : is_taken (filled k) (entry k k (Assign narrow)) ≡ true
  took = taken_by_number (filled k) (entry k k (Assign narrow)) 0 next

  one_more : Filled (suc k)
  unfolding filled above
  one_more =
      record {
        slots = λ slot h. simp (le-leb k 9223372036854775806 (omega arith), lt-ltb k slot (omega arith), before.slots slot (omega arith));
        free = λ n h.
            ap is_assigned (latest_other (filled k) (entry k k (Assign narrow)) took n (ne_eqb k n (λ e. omega arith))) ∙ before.free n (omega arith);
        held = λ n h. own n h (either (eqb k n));
        live = live_more (filled k) (entry k k (Assign narrow)) took refl (before.free k (omega arith)) ∙ ap suc before.live;
      }
    where
      own : (n : ℕ) → n < suc k → (eqb k n ≡ true) ⊎ (eqb k n ≡ false) → is_assigned (latest (entry k k (Assign narrow) ∷ filled k) n) ≡ true
      own n h (inl e) = ap is_assigned (latest_own (filled k) (entry k k (Assign narrow)) took n e)
      own n h (inr e) =
          let other = eqb-false k n e in
          ap is_assigned (latest_other (filled k) (entry k k (Assign narrow)) took n e) ∙ before.held n (below other)
        where
          below : (k ≡ n → ⊥) → n < k
          below other = omega arith

all_filled : (k : ℕ) → k ≤ 512 → Filled k
unfolding filled above latest named_cells count_in
all_filled zero h = record { slots = λ slot g. refl; free = λ n g. refl; held = λ n g. absurd (omega arith); live = refl }
all_filled (suc k) h = one_more k (omega arith) (all_filled k (omega arith))

full : Filled 512
full = all_filled 512 (omega arith)

pub new_cell_gives_15 : entry_number_after (filled 512) (entry 512 512 (Assign narrow)) ≡ 15
unfolding entry_number_given
new_cell_gives_15 = simp (full.slots 512 (omega arith), full.free 512 (omega arith), full.live)

pub live_cell_is_taken : entry_number_after (filled 512) (entry 512 0 (Assign narrow)) ≡ 0
unfolding entry_number_given
live_cell_is_taken = simp (full.slots 512 (omega arith), full.held 0 (omega arith))

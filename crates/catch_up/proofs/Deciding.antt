-- Tests that decide a cause: 2, and 18 of one list.
-- Assumes nothing.
use mathlib.Core.Path.{◌≡◌, refl, sym, ap, ◌∙◌}
use mathlib.Core.Logic.{◌⊎◌, inl, inr, ⊎_elim}
use mathlib.Core.Bool.{Bool, true, false, not, ◌||◌}
use mathlib.Core.List.{List, [], ◌∷◌}
use Prim.Native.Nat.{ℕ, zero, suc, ◌+◌, ◌≤◌, ◌<◌}
use native.Mathlib.Omega.{arith}
use native.Mathlib.Numerals.{add-one}
use lib.Dec.{ltb, eqb}
use lib.ListN.{length, get_or}
use borrow.Author.Tests.{ltb-true, ltb-false, lt-ltb, eqb-true, eq-eqb, not-false}
use Rattle.basics.specs.Lists.{In}
use Rattle.basics.proofs.Tests.{either, not_both, fails, and_left, and_right, and_both, or_cases, or_left, or_right}
use Rattle.catch_up.specs.Causes.{CommitList, Consecutive, ListTooLarge, Outside}
use Rattle.catch_up.specs.Joining.{some_above, list_too_large, counts_from, first_slot, outside}

-- a number is below another, or not
pub below : (m n : ℕ) → (m < n) ⊎ (n ≤ m)
below m n = ⊎_elim (λ t. inl (ltb-true m n t)) (λ t. inr (ltb-false m n t)) (either (ltb m n))

-- the test passes exactly where the cause holds
abbrev pub Decides : Bool → Type 0 → Type 0
Decides t C = (t ≡ true → C) × (C → t ≡ true)

-- it holds, or it does not
pub decided : (t : Bool) (C : Type 0) → Decides t C → ((t ≡ true) × C) ⊎ ((t ≡ false) × (C → ⊥))
decided t C d = ⊎_elim (λ e. inl (e, d.0 e)) (λ e. inr (e, λ c. not_both (d.1 c) e)) (either t)

pub either_decides : (s t : Bool) (A B : Type 0) → Decides s A → Decides t B → Decides (s || t) (A ⊎ B)
either_decides s t A B d e =
    (λ h. ⊎_elim (λ p. inl (d.0 p)) (λ p. inr (e.0 p)) (or_cases s t h), ⊎_elim (λ a. or_left t (d.1 a)) (λ b. or_right s (e.1 b)))

pub not_decides : (t : Bool) (A : Type 0) → Decides t A → Decides (not t) (A → ⊥)
not_decides true A d = (λ h. absurd (not_both h refl), λ n. absurd (n (d.0 refl)))
not_decides false A d = (λ h a. not_both (d.1 a) refl, λ n. refl)

pub less_decides : (m n : ℕ) → Decides (ltb m n) (m < n)
less_decides m n = (ltb-true m n, lt-ltb m n)

pub equal_decides : (m n : ℕ) → Decides (eqb m n) (m ≡ n)
equal_decides m n = (eqb-true m n, eq-eqb m n)

-- ---- 2

above_some : (limit : ℕ) (l : List ℕ) → some_above limit l ≡ true → (n : ℕ) × In n l × (limit < n)
unfolding some_above
above_some limit [] e = absurd (not_both e refl)
above_some limit (x ∷ l) e =
    ⊎_elim (λ t. (x, inl refl, ltb-true limit x t)) (λ t. let r = above_some limit l t in (r.0, inr r.1, r.2)) (or_cases (ltb limit x) (some_above limit l) e)

some_above_lem : (limit : ℕ) (l : List ℕ) (n : ℕ) → In n l → limit < n → some_above limit l ≡ true
unfolding some_above
some_above_lem limit [] n m h = absurd m
some_above_lem limit (x ∷ l) n (inl e) h = or_left (some_above limit l) (lt-ltb limit x (omega (arith, e)))
some_above_lem limit (x ∷ l) n (inr m) h = or_right (ltb limit x) (some_above_lem limit l n m h)

above_decides : (limit : ℕ) (l : List ℕ) → Decides (some_above limit l) ((n : ℕ) × In n l × (limit < n))
above_decides limit l = (above_some limit l, λ r. some_above_lem limit l r.0 r.1 r.2)

pub large_decides : (l : CommitList) → Decides (list_too_large l) (ListTooLarge l)
unfolding list_too_large
large_decides l = either_decides _ _ _ _ (above_decides 9223372036854775806 l.slots) (above_decides 9223372036854775807 l.values)

-- ---- consecutive slots

counted : (n : ℕ) (l : List ℕ) → counts_from n l ≡ true → (i : ℕ) → i < length l → get_or l i 0 ≡ n + i
unfolding counts_from
counted n [] e i h = absurd (omega arith)
counted n (s ∷ l) e zero h = omega (arith, eqb-true s n (and_left (eqb s n) (counts_from (s + 1) l) e))
counted n (s ∷ l) e (suc i) h =
    let head = eqb-true s n (and_left (eqb s n) (counts_from (s + 1) l) e) in
    omega (arith, counted (s + 1) l (and_right (eqb s n) (counts_from (s + 1) l) e) i (omega arith))

counts : (n : ℕ) (l : List ℕ) → ((i : ℕ) → i < length l → get_or l i 0 ≡ n + i) → counts_from n l ≡ true
unfolding counts_from
counts n [] at = refl
counts n (s ∷ l) at =
    let head : s ≡ n = omega (arith, at 0 (omega arith)) in
    and_both (eq-eqb s n head) (counts (s + 1) l (λ i h. omega (arith, at (suc i) (omega arith))))

-- each slot lies as far from the first as its place
pub from_first : (l : List ℕ) → Consecutive l → (i : ℕ) → i < length l → get_or l i 0 ≡ first_slot l + i
from_first l c zero h = omega arith
from_first l c (suc i) h =
    let next : get_or l (suc i) 0 ≡ get_or l i 0 + 1 = ap (λ (n : ℕ). get_or l n 0) (sym (add-one i)) ∙ c i (omega arith) in
    omega (arith, from_first l c i (omega arith))

pub one_by_one : (l : List ℕ) → ((i : ℕ) → i < length l → get_or l i 0 ≡ first_slot l + i) → Consecutive l
one_by_one l at i h = omega (arith, at i (omega arith), at (i + 1) h)

pub consecutive_decides : (l : List ℕ) → Decides (counts_from (first_slot l) l) (Consecutive l)
consecutive_decides l = (λ e. one_by_one l (counted (first_slot l) l e), λ c. counts (first_slot l) l (from_first l c))

-- ---- 18, of one list

pub outside_decides : (l : CommitList) → Decides (outside l) (Outside l)
unfolding outside
outside_decides l =
    either_decides _ _ _ _ (less_decides 4096 (length l.slots))
    (either_decides _ _ _ _ (not_decides _ _ (equal_decides (length l.slots) (length l.values))) (not_decides _ _ (consecutive_decides l.slots)))

-- what a list is that is not outside the limits
pub record IsListed (l : CommitList) : Type 0 where
  pub same : length l.slots ≡ length l.values
  pub few : length l.slots ≤ 4096
  pub at : (i : ℕ) → i < length l.slots → get_or l.slots i 0 ≡ first_slot l.slots + i

pub listed_commit : (l : CommitList) → (Outside l → ⊥) → IsListed l
listed_commit l n =
    let near : ltb 4096 (length l.slots) ≡ false = fails (λ t. n (inl (ltb-true _ _ t))) in
    let even : eqb (length l.slots) (length l.values) ≡ true = not-false _ (fails (λ t. n (inr (inl ((not_decides _ _ (equal_decides _ _)).0 t))))) in
    let steady : counts_from (first_slot l.slots) l.slots ≡ true = not-false _ (fails (λ t. n (inr (inr ((not_decides _ _ (consecutive_decides l.slots)).0 t))))) in
    record {
      same = eqb-true _ _ even;
      few = ltb-false 4096 (length l.slots) near;
      at = counted (first_slot l.slots) l.slots steady;
    }

-- A join has as many entries as there are slots in the two lists.
-- Assumes nothing.
use Rattle.std.specs.Prelude.{Ok}
use mathlib.Core.Path.{◌≡◌, refl, sym, ◌∙◌}
use mathlib.Core.Logic.{inl, inr, ⊎_elim}
use mathlib.Core.Bool.{Bool, true, false, ◌&&◌, ◌||◌}
use mathlib.Core.List.{List, [], ◌∷◌}
use Prim.Native.Nat.{ℕ, zero, suc, ◌+◌, ◌-◌, ◌≤◌, ◌<◌, min}
use native.Mathlib.Omega.{arith}
use lib.Dec.{ltb, leb, eqb}
use lib.ListN.{length, get_or}
use borrow.Author.Tests.{eqb-true, eq-eqb, leb-true, leb-false, le-leb, ltb-true, ltb-false, lt-ltb}
use Rattle.basics.specs.Lists.{In}
use Rattle.basics.proofs.Tests.{not_both, same_test, or_cases, or_left, or_right, and_left, and_right, and_both}
use Rattle.basics.specs.sets.Sets.{one, count}
use Rattle.basics.proofs.sets.Counting.{count_ext}
use Rattle.catch_up.specs.Causes.{CommitList, Consecutive, listed_commits, JoinCause}
use Rattle.catch_up.specs.Joining.{first_slot, joining}
use Rattle.catch_up.specs.declared.JoinRefusal.TheVariants.{OutsideLimits}
use Rattle.catch_up.proofs.Deciding.{listed_commit, from_first}
use Rattle.catch_up.proofs.Indices.{in_stands, stands_in}
use Rattle.catch_up.proofs.Exact.{is_join, joined_otherwise}

-- s is one of the slots
unfoldable pub has_slot : ℕ → List ℕ → Bool
has_slot s [] = false
has_slot s (t ∷ slots) = eqb s t || has_slot s slots

slot_place : (s : ℕ) (slots : List ℕ) → has_slot s slots ≡ true → (i : ℕ) × (i < length slots) × (get_or slots i 0 ≡ s)
unfolding has_slot
slot_place s [] e = absurd (not_both e refl)
slot_place s (t ∷ slots) e =
    ⊎_elim (λ p. (0, omega arith, sym (eqb-true s t p))) (λ p. let r = slot_place s slots p in (suc r.0, omega (arith, r.1), r.2)) (or_cases (eqb s t) (has_slot s slots) e)

place_slot : (s : ℕ) (slots : List ℕ) (i : ℕ) → i < length slots → get_or slots i 0 ≡ s → has_slot s slots ≡ true
unfolding has_slot
place_slot s [] i h e = absurd (omega arith)
place_slot s (t ∷ slots) zero h e = or_left (has_slot s slots) (eq-eqb s t (sym e))
place_slot s (t ∷ slots) (suc i) h e = or_right (eqb s t) (place_slot s slots i (omega arith) e)

-- as commits
slot_commit : (s : ℕ) (l : CommitList) → length l.slots ≡ length l.values → has_slot s l.slots ≡ true → (v : ℕ) × In (record { slot = s; value = v }) (listed_commits l)
slot_commit s l same e =
    let r = slot_place s l.slots e in
    (get_or l.values r.0 0, stands_in l.slots l.values _ (r.0, r.1, omega (arith, r.1), r.2, refl))

commit_slot_lem : (s v : ℕ) (l : CommitList) → In (record { slot = s; value = v }) (listed_commits l) → has_slot s l.slots ≡ true
commit_slot_lem s v l m = let r = in_stands l.slots l.values _ m in place_slot s l.slots r.0 r.1 r.3

-- consecutive slots are those between their first and their last
between : (l : List ℕ) → Consecutive l → (s : ℕ) → has_slot s l ≡ (leb (first_slot l) s && ltb s (first_slot l + length l))
between l c s =
    same_test
    (λ e. let r = slot_place s l e in
    let at = from_first l c r.0 r.1 in
    and_both (le-leb (first_slot l) s (omega (arith, r.2))) (lt-ltb s (first_slot l + length l) (omega (arith, r.1, r.2))))
    (λ e. let low = leb-true (first_slot l) s (and_left _ _ e) in
    let high = ltb-true s (first_slot l + length l) (and_right (leb (first_slot l) s) _ e) in
    place_slot s l (s - first_slot l) (omega arith) (omega (arith, from_first l c (s - first_slot l) (omega arith))))

-- how many numbers below n lie between two
one_between : (f m n c : ℕ) → c + min n f ≡ min n (f + m) → c + one (leb f n && ltb n (f + m)) + min (suc n) f ≡ min (suc n) (f + m)
one_between f m n c h = go (leb f n) (ltb n (f + m)) refl refl
  where
    go : (s t : Bool) → leb f n ≡ s → ltb n (f + m) ≡ t → c + one (s && t) + min (suc n) f ≡ min (suc n) (f + m)
    go true true p q = omega (arith, leb-true f n p, ltb-true n (f + m) q)
    go true false p q = omega (arith, leb-true f n p, ltb-false n (f + m) q)
    go false true p q = omega (arith, leb-false f n p, ltb-true n (f + m) q)
    go false false p q = omega (arith, leb-false f n p, ltb-false n (f + m) q)

count_between : (f m n : ℕ) → count (λ s. leb f s && ltb s (f + m)) n + min n f ≡ min n (f + m)
unfolding count
count_between f m zero = omega arith
count_between f m (suc n) = one_between f m n _ (count_between f m n)

-- where n is past every slot
pub as_many_as_slots : (a b : CommitList) (places : ℕ) (l : CommitList) → joining a b places ≡ Ok l
    → (n : ℕ) → first_slot l.slots + length l.slots ≤ n
    → count (λ s. has_slot s a.slots || has_slot s b.slots) n ≡ length l.slots
as_many_as_slots a b places l e n h =
    let J = is_join a b places l e in
    let none = (joined_otherwise a b places).0 (l, e) in
    let inside : JoinCause OutsideLimits a b places → ⊥ = none OutsideLimits in
    let A = listed_commit a (λ o. inside (inl o)) in
    let B = listed_commit b (λ o. inside (inr (inl o))) in
    let in-join : (s : ℕ) → (has_slot s a.slots || has_slot s b.slots) ≡ has_slot s l.slots =
    λ s. same_test
    (λ t. ⊎_elim
    (λ p. let c = slot_commit s a A.same p in commit_slot_lem s c.0 l ((J.holds _).1 (inl c.1)))
    (λ p. let c = slot_commit s b B.same p in commit_slot_lem s c.0 l ((J.holds _).1 (inr c.1)))
    (or_cases (has_slot s a.slots) (has_slot s b.slots) t))
    (λ t. let c = slot_commit s l J.same t in
    ⊎_elim (λ m. or_left (has_slot s b.slots) (commit_slot_lem s c.0 a m)) (λ m. or_right (has_slot s a.slots) (commit_slot_lem s c.0 b m)) ((J.holds _).0 c.1)) in
    count_ext _ _ n (λ s k. in-join s ∙ between l.slots J.consecutive s) ∙ omega (arith, count_between (first_slot l.slots) (length l.slots) n)

-- A log passes exactly when it meets demand 3's claim.
-- Assumes nothing.
use mathlib.Core.Path.{◌≡◌, refl, sym, ap, ◌∙◌}
use mathlib.Core.Logic.{◌⊎◌, inl, inr, ◌↔◌}
use mathlib.Core.Bool.{Bool, true, false, cond, ◌&&◌, ◌||◌}
use mathlib.Core.List.{List}
use Prim.Native.Nat.{ℕ, zero, suc, ◌+◌, ◌<◌}
use native.Mathlib.Numerals.{add-one}
use Rattle.group_runs.proofs.run_checks.Counted.{allowed_first}
use native.Mathlib.Nat.{le_of_suc-le-suc, not-suc-le-zero, eq-or-lt_of_le}
use native.Mathlib.Omega.{arith}
use lib.Dec.{eqb}
use lib.ListN.{length, take}
use borrow.Author.Tests.{eqb-true, eq-eqb}
use Rattle.basics.proofs.Tests.{not_both, and_left, and_right, and_both, or_cases, or_left, or_right}
use Rattle.group_runs.specs.declared.run_checks.Event.{Event}
use Rattle.group_runs.specs.run_checks.Log.{event_at, is_commit, slot_of, CommitEventAt, ProposedBefore, LogClaim, agrees_with_commit, is_proposal_of, all_agree, one_proposes, events_allow, passes}

-- ---- what a test that passes says

allowed : (c a p q : Bool) → cond c (a && p && q) true ≡ true → c ≡ true → (a ≡ true) × (p ≡ true) × (q ≡ true)
allowed true true true q h k = (refl, refl, h)
allowed true true false q h k = absurd (not_both h refl)
allowed true false p q h k = absurd (not_both h refl)
allowed false a p q h k = absurd (not_both k refl)

agreed : (c s w : Bool) → cond c (cond s w true) true ≡ true → c ≡ true → s ≡ true → w ≡ true
agreed true true w h k l = h
agreed true false w h k l = absurd (not_both l refl)
agreed false s w h k l = absurd (not_both k refl)

proposed : (c s w : Bool) → cond c false (s && w) ≡ true → (c ≡ false) × (s ≡ true) × (w ≡ true)
proposed true s w h = absurd (not_both h refl)
proposed false s w h = (refl, and_left s w h, and_right s w h)

-- ---- each event of those that are tested

-- a test of each of the first n places, built up place by place, was passed at each
at_each : (test : ℕ → Bool) (all : ℕ → Bool) → ((i : ℕ) → all (suc i) ≡ (all i && test i)) → (n i : ℕ) → all n ≡ true → i < n → test i ≡ true
at_each test all step zero i h l = absurd (not-suc-le-zero l)
at_each test all step (suc n) i h l =
    let both : (all n && test n) ≡ true = sym (step n) ∙ h in
    go (λ (k : i < n). at_each test all step n i (and_left (all n) (test n) both) k) (and_right (all n) (test n) both) (eq-or-lt_of_le (le_of_suc-le-suc l))
  where
    go : (i < n → test i ≡ true) → test n ≡ true → (i ≡ n) ⊎ (i < n) → test i ≡ true
    go rest last (inl d) = ap test d ∙ last
    go rest last (inr k) = rest k

passes_at : (es : List Event) (n i : ℕ) → passes es n ≡ true → i < n → events_allow (event_at es i) es i ≡ true
unfolding passes
passes_at es = at_each (λ i. events_allow (event_at es i) es i) (passes es) (λ i. refl)

agrees_at : (e : Event) (es : List Event) (n i : ℕ) → all_agree e es n ≡ true → i < n → agrees_with_commit e (event_at es i) ≡ true
unfolding all_agree
agrees_at e es = at_each (λ i. agrees_with_commit e (event_at es i)) (all_agree e es) (λ i. refl)

proposes_at : (e : Event) (es : List Event) (n : ℕ) → one_proposes e es n ≡ true → (i : ℕ) × (i < n) × (is_proposal_of e (event_at es i) ≡ true)
unfolding one_proposes
proposes_at e es zero h = absurd (not_both h refl)
proposes_at e es (suc n) h = go (λ b. later (proposes_at e es n b)) (or_cases (one_proposes e es n) (is_proposal_of e (event_at es n)) h)
  where
    later : (i : ℕ) × (i < n) × (is_proposal_of e (event_at es i) ≡ true) → (i : ℕ) × (i < suc n) × (is_proposal_of e (event_at es i) ≡ true)
    later r = (r.0, (let l = r.1 in omega (arith, l)), r.2)

    go : (one_proposes e es n ≡ true → (i : ℕ) × (i < suc n) × (is_proposal_of e (event_at es i) ≡ true))
        → (one_proposes e es n ≡ true) ⊎ (is_proposal_of e (event_at es n) ≡ true) → (i : ℕ) × (i < suc n) × (is_proposal_of e (event_at es i) ≡ true)
    go rest (inl b) = rest b
    go rest (inr b) = (n, omega arith, b)

-- ---- the claim

-- of two places one comes first, or they are the same
apart : (i j : ℕ) → (i < j) ⊎ ((i ≡ j) ⊎ (j < i))
apart zero zero = inr (inl refl)
apart zero (suc j) = inl (omega arith)
apart (suc i) zero = inr (inr (omega arith))
apart (suc i) (suc j) = up (apart i j)
  where
    up : (i < j) ⊎ ((i ≡ j) ⊎ (j < i)) → (suc i < suc j) ⊎ ((suc i ≡ suc j) ⊎ (suc j < suc i))
    up (inl l) = inl (omega (arith, l))
    up (inr (inl e)) = inr (inl (ap suc e))
    up (inr (inr l)) = inr (inr (omega (arith, l)))

-- what the check says of a commit
checked : (es : List Event) (n : ℕ) → passes es n ≡ true → (i : ℕ) → CommitEventAt es n i
    → (all_agree (event_at es i) es i ≡ true) × (one_proposes (event_at es i) es i ≡ true) × (eqb (slot_of (event_at es i).member es i) (event_at es i).slot ≡ true)
unfolding events_allow
checked es n h i c = allowed (is_commit (event_at es i)) _ _ _ (passes_at es n i h c.0) c.1

-- a commit and an earlier one of its slot
same_value_lem : (es : List Event) (n : ℕ) → passes es n ≡ true → (i j : ℕ) → i < j → CommitEventAt es n i → CommitEventAt es n j → (event_at es i).slot ≡ (event_at es j).slot
    → (event_at es i).v ≡ (event_at es j).v
unfolding agrees_with_commit
same_value_lem es n h i j l c d s =
    eqb-true _ _ (agreed (is_commit (event_at es i)) _ _ (agrees_at (event_at es j) es j i (checked es n h j d).0 l) c.1 (eq-eqb _ _ s))

proposal_of_lem : (es : List Event) (i : ℕ) → one_proposes (event_at es i) es i ≡ true → ProposedBefore es i
unfolding is_proposal_of
proposal_of_lem es i h =
    let r = proposes_at (event_at es i) es i h in
    let p = proposed (is_commit (event_at es r.0)) _ _ r.2 in
    record { at = r.0; earlier = r.1; proposal = p.0; slot = eqb-true _ _ p.1; v = eqb-true _ _ p.2 }

passing_claim : (es : List Event) (n : ℕ) → passes es n ≡ true → LogClaim es n
passing_claim es n h =
    record {
      agree = λ i j c d. ((λ s. (s, value i j c d s (apart i j))), (λ r. r.0));
      proposed = λ i c. proposal_of_lem es i (checked es n h i c).1;
      own_slot = λ i c. sym (eqb-true _ _ (checked es n h i c).2);
    }
  where
    value : (i j : ℕ) → CommitEventAt es n i → CommitEventAt es n j → (event_at es i).slot ≡ (event_at es j).slot → (i < j) ⊎ ((i ≡ j) ⊎ (j < i))
        → (event_at es i).v ≡ (event_at es j).v
    value i j c d s (inl l) = same_value_lem es n h i j l c d s
    value i j c d s (inr (inl e)) = ap (λ (k : ℕ). (event_at es k).v) e
    value i j c d s (inr (inr l)) = sym (same_value_lem es n h j i l d c (sym s))

-- ---- and the other way

all_of : (test : ℕ → Bool) (all : ℕ → Bool) → all zero ≡ true → ((i : ℕ) → all (suc i) ≡ (all i && test i)) → (n : ℕ) → ((i : ℕ) → i < n → test i ≡ true) → all n ≡ true
all_of test all none step zero f = none
all_of test all none step (suc n) f = step n ∙ and_both (all_of test all none step n (λ i l. f i (omega (arith, l)))) (f n (omega arith))

allow : (c a p q : Bool) → (c ≡ true → (a ≡ true) × (p ≡ true) × (q ≡ true)) → cond c (a && p && q) true ≡ true
allow false a p q f = refl
allow true a p q f = and_both (and_both (f refl).0 (f refl).1) (f refl).2

agree_if : (c s w : Bool) → (c ≡ true → s ≡ true → w ≡ true) → cond c (cond s w true) true ≡ true
agree_if true true w f = f refl refl
agree_if true false w f = refl
agree_if false s w f = refl

propose_if : (c s w : Bool) → c ≡ false → s ≡ true → w ≡ true → cond c false (s && w) ≡ true
propose_if c s w h k l = ap (λ (x : Bool). cond x false (s && w)) h ∙ and_both k l

proposes_of : (e : Event) (es : List Event) (n i : ℕ) → i < n → is_proposal_of e (event_at es i) ≡ true → one_proposes e es n ≡ true
unfolding one_proposes
proposes_of e es zero i l h = absurd (not-suc-le-zero l)
proposes_of e es (suc n) i l h =
    go (λ (k : i < n). proposes_of e es n i k h) (eq-or-lt_of_le (le_of_suc-le-suc l))
  where
    go : (i < n → one_proposes e es n ≡ true) → (i ≡ n) ⊎ (i < n) → (one_proposes e es n || is_proposal_of e (event_at es n)) ≡ true
    go rest (inl d) = or_right (one_proposes e es n) (sym (ap (λ (k : ℕ). is_proposal_of e (event_at es k)) d) ∙ h)
    go rest (inr k) = or_left (is_proposal_of e (event_at es n)) (rest k)

agrees_of : (es : List Event) (n : ℕ) → LogClaim es n → (i : ℕ) → CommitEventAt es n i → all_agree (event_at es i) es i ≡ true
unfolding agrees_with_commit all_agree
agrees_of es n claim i c =
    all_of (λ j. agrees_with_commit (event_at es i) (event_at es j)) (all_agree (event_at es i) es) refl (λ j. refl) i
    (λ j l. agree_if (is_commit (event_at es j)) _ _ (λ k s. eq-eqb _ _ ((claim.agree j i (before_it j l, k) c).0 (eqb-true _ _ s)).1))
  where
    before_it : (j : ℕ) → j < i → j < n
    before_it j l = let m = c.0 in omega (arith, l, m)

proposed_of : (es : List Event) (i : ℕ) → ProposedBefore es i → one_proposes (event_at es i) es i ≡ true
unfolding is_proposal_of
proposed_of es i p =
    proposes_of (event_at es i) es i p.at p.earlier
    (propose_if (is_commit (event_at es p.at)) _ _ p.proposal (eq-eqb _ _ p.slot) (eq-eqb _ _ p.v))

claim_passing : (es : List Event) (n : ℕ) → LogClaim es n → passes es n ≡ true
unfolding passes events_allow
claim_passing es n claim =
    all_of (λ i. events_allow (event_at es i) es i) (passes es) refl (λ i. refl) n
    (λ i l. allow (is_commit (event_at es i)) _ _ _ (λ k. (agrees_of es n claim i (l, k), proposed_of es i (claim.proposed i (l, k)), eq-eqb _ _ (sym (claim.own_slot i (l, k))))))

pub passes_exactly : (es : List Event) (n : ℕ) → (passes es n ≡ true) ↔ LogClaim es n
passes_exactly es n = (passing_claim es n, claim_passing es n)

-- ---- event by event, as the code goes: the event at place i, and those before it as a list of their own

-- it may follow them: one more has passed
pub passes_next : (es : List Event) (i : ℕ) → i < length es → passes es (i + 1) ≡ (passes es i && events_allow (event_at es i) (take i es) (length (take i es)))
unfolding passes
passes_next es i h =
    ap (passes es) (add-one i) ∙ ap (λ (b : Bool). passes es i && b) (sym (allowed_first (event_at es i) es i (omega (arith, h))))

-- it may not: the log doesn't pass
pub passes_stops : (es : List Event) (i : ℕ) → i < length es → events_allow (event_at es i) (take i es) (length (take i es)) ≡ false → passes es (length es) ≡ false
passes_stops es i h f = go (passes es (length es)) refl
  where
    go : (t : Bool) → passes es (length es) ≡ t → passes es (length es) ≡ false
    go true p = absurd (not_both (passes_at es (length es) i p h) (sym (allowed_first (event_at es i) es i (omega (arith, h))) ∙ f))
    go false p = p

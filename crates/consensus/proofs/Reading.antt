-- What the tests of specs/FirstCause.antt mean: some number of a list is above a limit, or not below a count; a slot is ahead; a last value is given and different;
-- and that a list of causes gives a number exactly where one of them holds is `by_first_cause` (Refusals.antt).
-- Assumes nothing.
use Rattle.std.specs.Prelude.{Option, None, Some}
use mathlib.Core.Path.{◌≡◌, refl, sym, ap, subst}
use mathlib.Core.Logic.{inl, inr}
use mathlib.Core.Bool.{Bool, true, false, ◌||◌}
use mathlib.Core.List.{List, [], ◌∷◌}
use Prim.Native.Nat.{ℕ, ◌<◌, ◌≤◌}
use native.Mathlib.Omega.{arith}
use lib.Dec.{eqb, ltb, leb}
use borrow.Author.Tests.{ltb-true, ltb-false, leb-true, leb-false, eqb-false, not-true}
use Rattle.basics.specs.Lists.{In}
use Rattle.basics.proofs.Tests.{not_both}
use Rattle.message.specs.Messages.{msg_slot}
use Rattle.message.specs.declared.ConsensusMsg.{ConsensusMsg}
use Rattle.message.specs.declared.ConsensusMsg.TheVariants.{Prepare, Accept, ForwardRequest, Commit, ReadRequest, ReadResponse}
use Rattle.basics.specs.sets.Sets.{contains}
use Rattle.fast_state.specs.Adopt.{best_below, lowest_best}
use Rattle.fast_state.specs.declared.FastAnswers.{FastAnswers}
use Rattle.fast_state.proofs.Adopting.{IsBest, best_below_lem}
use Rattle.consensus.specs.FirstCause.{any_above, any_from, ahead_of, given_and_different}
use Rattle.consensus.specs.Panics.{is_one}

-- ---- 2 and 3

pub some_above_lem : (limit : ℕ) (ns : List ℕ) → any_above limit ns ≡ true → (n : ℕ) × In n ns × (limit < n)
unfolding any_above
some_above_lem limit [] e = absurd (not_both e refl)
some_above_lem limit (n ∷ ns) e = go (ltb limit n) refl e (some_above_lem limit ns)
  where
    go : (t : Bool) → ltb limit n ≡ t → (t || any_above limit ns) ≡ true
        → (any_above limit ns ≡ true → (m : ℕ) × In m ns × (limit < m)) → (m : ℕ) × In m (n ∷ ns) × (limit < m)
    go true f e later = (n, inl refl, ltb-true limit n f)
    go false f e later = let r = later e in (r.0, inr r.1, r.2)

pub none_above : (limit : ℕ) (ns : List ℕ) → any_above limit ns ≡ false → (n : ℕ) → In n ns → n ≤ limit
unfolding any_above
none_above limit [] e n i = absurd i
none_above limit (m ∷ ns) e n i = go (ltb limit m) refl e i (none_above limit ns)
  where
    go : (t : Bool) → ltb limit m ≡ t → (t || any_above limit ns) ≡ false → In n (m ∷ ns) → (any_above limit ns ≡ false → (x : ℕ) → In x ns → x ≤ limit) → n ≤ limit
    go true f e i later = absurd (not_both refl e)
    go false f e (inl p) later = subst (λ (x : ℕ). x ≤ limit) (sym p) (ltb-false limit m f)
    go false f e (inr p) later = later e n p

pub some_from : (count : ℕ) (ns : List ℕ) → any_from count ns ≡ true → (n : ℕ) × In n ns × (count ≤ n)
unfolding any_from
some_from count [] e = absurd (not_both e refl)
some_from count (n ∷ ns) e = go (leb count n) refl e (some_from count ns)
  where
    go : (t : Bool) → leb count n ≡ t → (t || any_from count ns) ≡ true
        → (any_from count ns ≡ true → (m : ℕ) × In m ns × (count ≤ m)) → (m : ℕ) × In m (n ∷ ns) × (count ≤ m)
    go true f e later = (n, inl refl, leb-true count n f)
    go false f e later = let r = later e in (r.0, inr r.1, r.2)

pub none_from : (count : ℕ) (ns : List ℕ) → any_from count ns ≡ false → (n : ℕ) → In n ns → n < count
unfolding any_from
none_from count [] e n i = absurd i
none_from count (m ∷ ns) e n i = go (leb count m) refl e i (none_from count ns)
  where
    go : (t : Bool) → leb count m ≡ t → (t || any_from count ns) ≡ false → In n (m ∷ ns) → (any_from count ns ≡ false → (x : ℕ) → In x ns → x < count) → n < count
    go true f e i later = absurd (not_both refl e)
    go false f e (inl p) later = subst (λ (x : ℕ). x < count) (sym p) (leb-false count m f)
    go false f e (inr p) later = later e n p

-- ---- 5 and 4

pub ahead_slot : (own : ℕ) (m : ConsensusMsg) → ahead_of own m ≡ true → (slot : ℕ) × (msg_slot m ≡ Some slot) × (own < slot)
ahead_slot own (Prepare slot round rv) e = (slot, refl, ltb-true own slot e)
ahead_slot own (Accept slot round v) e = (slot, refl, ltb-true own slot e)
ahead_slot own (ForwardRequest v) e = absurd (not_both e refl)
ahead_slot own (Commit slot v) e = (slot, refl, ltb-true own slot e)
ahead_slot own (ReadRequest id) e = absurd (not_both e refl)
ahead_slot own (ReadResponse id next) e = (next, refl, ltb-true own next e)

pub different_value : (o own : Option ℕ) → given_and_different o own ≡ true → (v : ℕ) × (o ≡ Some v) × (own ≡ Some v → ⊥)
different_value None own e = absurd (not_both e refl)
different_value (Some v) None e = (v, refl, λ q. not_both (ap is_given q) refl)
  where
    is_given : Option ℕ → Bool
    is_given None = false
    is_given (Some w) = true
different_value (Some v) (Some w) e = (v, refl, λ q. eqb-false v w (not-true (eqb v w) e) (sym (ap given q)))
  where
    given : Option ℕ → ℕ
    given None = 0
    given (Some x) = x

-- ---- EPaxos: the engine's choice takes one where some proposer has a score above 0

abbrev scored : FastAnswers → (ℕ → ℕ) → ℕ → Type 0
scored answers scores p = (p < 64) × (contains answers.fast_proposers p ≡ true) × (0 < scores p)

module _ (answers : FastAnswers) (scores : ℕ → ℕ) where
  best : IsBest answers.fast_proposers scores 64 (best_below answers.fast_proposers scores 64)
  best = best_below_lem answers.fast_proposers scores 64

  pub one_scored : is_one (lowest_best answers scores) ≡ true → (p : ℕ) × scored answers scores p
  one_scored e = go (lowest_best answers scores) refl e
    where
      go : (o : Option ℕ) → lowest_best answers scores ≡ o → is_one o ≡ true → (p : ℕ) × scored answers scores p
      go None d e = absurd (not_both e refl)
      go (Some p) d e = let k = best.chosen p d in (p, (k.1, k.0.0, subst (λ (n : ℕ). 0 < n) (sym k.0.1) k.2))

  pub none_scored : is_one (lowest_best answers scores) ≡ false → (p : ℕ) → scored answers scores p → ⊥
  none_scored e p (below, there, above) = go (lowest_best answers scores) refl e
    where
      go : (o : Option ℕ) → lowest_best answers scores ≡ o → is_one o ≡ false → ⊥
      go None d e =
          let most : scores p ≤ (best_below answers.fast_proposers scores 64).score = best.none_higher p (scores p) below (there, refl) in
          let none : (best_below answers.fast_proposers scores 64).score ≡ 0 = best.nobody d in omega arith
      go (Some q) d e = not_both refl e

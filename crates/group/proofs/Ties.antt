-- Choices that take one of the best proposers: ours takes the lowest, and for each of the best there is one that takes it.
-- Assumes nothing.
use Rattle.std.specs.Prelude.{Option, None, Some}
use mathlib.Core.Path.{◌≡◌, refl, ap, subst}
use mathlib.Core.Bool.{Bool, true, false, cond, ◌&&◌}
use Prim.Native.Nat.{ℕ, ◌≤◌, ◌<◌}
use native.Mathlib.Omega.{arith}
use lib.Dec.{eqb, ltb}
use borrow.Author.Tests.{lt-ltb, ltb-true, eq-eqb, eqb-true}
use Rattle.basics.proofs.Tests.{and_left, and_right, and_both}
use Rattle.basics.specs.sets.Sets.{contains}
use Rattle.fast_state.specs.Adopt.{ProposerChoice, best_below, lowest_best}
use Rattle.fast_state.proofs.Adopting.{best_below_lem}
use Rattle.fast_state.specs.declared.FastAnswers.{FastAnswers}
use Rattle.group.specs.Claim.{PicksBest}

pub lowest_picks_best : PicksBest lowest_best
lowest_picks_best = record {
  proposer = λ f score p e. let k = (best_below_lem f.fast_proposers score 64).chosen p e in (k.1, k.0.0);
  best = λ f score p q e l c.
      let b = best_below_lem f.fast_proposers score 64 in
      let high = b.none_higher q (score q) l (c, refl) in
      let k = b.chosen p e in let same = k.0.1 in omega arith;
}

-- p where it is among the best proposers, and else the lowest of these
unfoldable pub prefer : ℕ → ProposerChoice
prefer p f score =
    cond (ltb p 64 && contains f.fast_proposers p && eqb (score p) (best_below f.fast_proposers score 64).score) (Some p) (lowest_best f score)

module _ (p : ℕ) (f : FastAnswers) (score : ℕ → ℕ) where
  abbrev present : Bool
  present = contains f.fast_proposers p

  abbrev highest : ℕ
  highest = (best_below f.fast_proposers score 64).score

  abbrev is_best : Bool
  is_best = ltb p 64 && present && eqb (score p) highest

  best_is : is_best ≡ true → (p < 64) × (present ≡ true) × (score p ≡ highest)
  best_is e =
      let both = and_left (ltb p 64 && present) (eqb (score p) highest) e in
      (ltb-true p 64 (and_left (ltb p 64) present both), and_right (ltb p 64) present both, eqb-true (score p) highest (and_right (ltb p 64 && present) (eqb (score p) highest) e))

  prefer_proposer : (q : ℕ) (t : Bool) → is_best ≡ t → cond t (Some p) (lowest_best f score) ≡ Some q → (q < 64) × (contains f.fast_proposers q ≡ true)
  prefer_proposer q true d e =
      let k = best_is d in let same : p ≡ q = cc in subst (λ (j : ℕ). (j < 64) × (contains f.fast_proposers j ≡ true)) same (k.0, k.1)
  prefer_proposer q false d e = lowest_picks_best.proposer f score q e

  prefer_best : (q r : ℕ) (t : Bool) → is_best ≡ t → cond t (Some p) (lowest_best f score) ≡ Some q → r < 64 → contains f.fast_proposers r ≡ true → score r ≤ score q
  prefer_best q r true d e l c =
      let high = (best_below_lem f.fast_proposers score 64).none_higher r (score r) l (c, refl) in
      let top = (best_is d).2 in let same : p ≡ q = cc in let z : score p ≡ score q = ap score same in omega arith
  prefer_best q r false d e l c = lowest_picks_best.best f score q r e l c

  -- where p is one of the best, it is taken
  pub prefer_takes : p < 64 → present ≡ true → ((q : ℕ) → q < 64 → contains f.fast_proposers q ≡ true → score q ≤ score p) → prefer p f score ≡ Some p
  unfolding prefer
  prefer_takes below there none_higher = ap (λ (t : Bool). cond t (Some p) (lowest_best f score)) (and_both (and_both (lt-ltb p 64 below) there) (eq-eqb (score p) highest same))
    where
      reached : (o : Option ℕ) → lowest_best f score ≡ o → highest ≤ score p
      reached None e = let none = (best_below_lem f.fast_proposers score 64).nobody e in omega arith
      reached (Some q) e =
          let k = (best_below_lem f.fast_proposers score 64).chosen q e in
          let le = none_higher q k.1 k.0.0 in let z = k.0.1 in omega arith

      same : score p ≡ highest
      same =
          let high = (best_below_lem f.fast_proposers score 64).none_higher p (score p) below (there, refl) in
          let low = reached (lowest_best f score) refl in omega arith

pub prefer_picks_best : (p : ℕ) → PicksBest (prefer p)
unfolding prefer
prefer_picks_best p = record {
  proposer = λ f score q e. prefer_proposer p f score q (is_best p f score) refl e;
  best = λ f score q r e l c. prefer_best p f score q r (is_best p f score) refl e l c;
}

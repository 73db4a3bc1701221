-- The proposer whose value an EPaxos leader adopts is present, has the best score, and is the lowest such.
-- Assumes nothing.
use Rattle.std.specs.Prelude.{None, Some}
use mathlib.Core.Path.{◌≡◌, refl, sym, ap, subst, ◌∙◌}
use mathlib.Core.Logic.{◌⊎◌, inl, inr}
use mathlib.Core.Bool.{Bool, true, false, cond, ◌&&◌}
use Prim.Native.Nat.{ℕ, zero, suc, ◌≤◌, ◌<◌}
use native.Mathlib.Nat.{not-suc-le-zero, eq-or-lt_of_le, le_of_suc-le-suc}
use native.Mathlib.Omega.{arith}
use lib.Dec.{ltb}
use borrow.Author.Tests.{ltb-true, ltb-false}
use Rattle.basics.proofs.Tests.{either, not_both, and_left, and_right, and_both}
use Rattle.basics.specs.sets.Sets.{contains}
use Rattle.fast_state.specs.Adopt.{better, best_below}
use Rattle.fast_state.specs.declared.Best.{Best}

-- p is a proposer with a score
abbrev pub Scored : ℕ → (ℕ → ℕ) → ℕ → ℕ → Type 0
Scored proposers scores p score = (contains proposers p ≡ true) × (scores p ≡ score)

-- the best of the proposers below n
pub record IsBest (proposers : ℕ) (scores : ℕ → ℕ) (n : ℕ) (best : Best) : Type 0 where
  -- none has a higher score
  pub none_higher : (q score : ℕ) → q < n → Scored proposers scores q score → score ≤ best.score
  -- where one is chosen, it has that score, and every lower proposer has a lower one
  pub chosen : (p : ℕ) → best.proposer ≡ Some p → Scored proposers scores p best.score × (p < n) × (0 < best.score)
  pub lowest : (p q score : ℕ) → best.proposer ≡ Some p → q < p → Scored proposers scores q score → score < best.score
  -- where none is chosen, every score is 0
  pub nobody : best.proposer ≡ None → best.score ≡ 0

no_process : (p : ℕ) → None ≡ Some p → ⊥
no_process p e = let z : ◌≡◌ {A = ℕ} 0 1 = cc in omega arith

same_process : (p q : ℕ) → Some p ≡ Some q → p ≡ q
same_process p q e = cc

module _ (proposers : ℕ) (scores : ℕ → ℕ) (n : ℕ) (best : Best) (h : IsBest proposers scores n best) where
  abbrev score : ℕ
  score = scores n

  abbrev present : Bool
  present = contains proposers n

  -- the next proposer is better
  taken : present ≡ true → best.score < score → IsBest proposers scores (suc n) (record { score = score; proposer = Some n })
  taken there more = record {
    none_higher = λ q s l e. higher q s e (eq-or-lt_of_le (le_of_suc-le-suc l));
    chosen = λ p e. let d : n ≡ p = same_process n p e in (subst (λ (x : ℕ). Scored proposers scores x score) d (there, refl), omega arith, omega arith);
    lowest = λ p q s e l r. let d : n ≡ p = same_process n p e in let k : s ≤ best.score = h.none_higher q s (omega arith) r in omega arith;
    nobody = λ e. absurd (no_process n (sym e));
  }
    where
      higher : (q s : ℕ) → Scored proposers scores q s → (q ≡ n) ⊎ (q < n) → s ≤ score
      higher q s e (inl d) = let z : scores q ≡ score = ap scores d in omega (arith, e.1)
      higher q s e (inr l) = let z : s ≤ best.score = h.none_higher q s l e in omega arith

  -- the next proposer is not there, or not better
  left : (present && ltb best.score score) ≡ false → IsBest proposers scores (suc n) best
  left no-better = record {
    none_higher = λ q s l e. higher q s e (eq-or-lt_of_le (le_of_suc-le-suc l));
    chosen = λ p e. let k = h.chosen p e in (k.0, omega (arith, k.1), k.2);
    lowest = h.lowest;
    nobody = h.nobody;
  }
    where
      higher : (q s : ℕ) → Scored proposers scores q s → (q ≡ n) ⊎ (q < n) → s ≤ best.score
      higher q s e (inr l) = h.none_higher q s l e
      higher q s e (inl d) = go (either (ltb best.score score))
        where
          same : s ≡ score
          same = sym e.1 ∙ ap scores d

          there : present ≡ true
          there = ap (contains proposers) (sym d) ∙ e.0

          go : (ltb best.score score ≡ true) ⊎ (ltb best.score score ≡ false) → s ≤ best.score
          go (inl t) = absurd (not_both (and_both there t) no-better)
          go (inr t) = let z : score ≤ best.score = ltb-false best.score score t in omega (arith, same)

  next : IsBest proposers scores (suc n) (better best present score n)
  unfolding better
  next = go (present && ltb best.score score) refl
    where
      go : (t : Bool) → (present && ltb best.score score) ≡ t → IsBest proposers scores (suc n) (cond t (record { score = score; proposer = Some n }) best)
      go true e = taken (and_left present (ltb best.score score) e) (ltb-true best.score score (and_right present (ltb best.score score) e))
      go false e = left e

pub best_below_lem : (proposers : ℕ) (scores : ℕ → ℕ) (n : ℕ) → IsBest proposers scores n (best_below proposers scores n)
unfolding best_below
best_below_lem proposers scores zero = record {
  none_higher = λ q s l e. absurd (not-suc-le-zero l);
  chosen = λ p e. absurd (no_process p e);
  lowest = λ p q s e l r. absurd (no_process p e);
  nobody = λ e. refl;
}
best_below_lem proposers scores (suc n) = next proposers scores n (best_below proposers scores n) (best_below_lem proposers scores n)

-- The next leader round of a process is its first round that does not come before the given one.
-- Assumes nothing.
use mathlib.Core.Path.{◌≡◌, refl, ap}
use mathlib.Core.Logic.{◌⊎◌, inl, inr}
use mathlib.Core.Bool.{Bool, true, false, cond}
use Prim.Native.Nat.{ℕ, ◌+◌, ◌≤◌, ◌<◌}
use native.Mathlib.Omega.{arith}
use native.Mathlib.Decide.{dec_lt}
use lib.Dec.{leb}
use borrow.Author.Tests.{lt-ltb, leb-true, leb-false}
use Rattle.basics.proofs.Tests.{fails}
use Rattle.message.specs.declared.PaxosRound.{PaxosRound}
use Rattle.message.specs.Rounds.{increment, round_before, next_leader_round}
use Rattle.message.proofs.Order.{EarlierRound, round_before_lem, before_round_lem}

-- a number that a call may hold has one after it
pub increment_next : (n : ℕ) → n < 18446744073709551615 → increment n ≡ n + 1
unfolding increment
increment_next n h = ap (λ (t : Bool). cond t (n + 1) n) (lt-ltb n 18446744073709551615 h)

pub next_leader_own : (r : PaxosRound) (p : ℕ) → (next_leader_round r p).leader ≡ p
unfolding next_leader_round
next_leader_own r p = refl

-- g is the group of r where p is at least its leader, and else one more
abbrev NextGroup : PaxosRound → ℕ → ℕ → Type 0
NextGroup r p g = (r.leader ≤ p × (g ≡ r.round_group)) ⊎ (p < r.leader × (g ≡ r.round_group + 1))

module _ (r : PaxosRound) (p : ℕ) (h : r.round_group < 18446744073709551615) where
  next_group : NextGroup r p (next_leader_round r p).round_group
  unfolding next_leader_round
  next_group = go (leb r.leader p) refl
    where
      go : (t : Bool) → leb r.leader p ≡ t
          → NextGroup r p (cond t r.round_group (increment r.round_group))
      go true e = inl (leb-true r.leader p e, refl)
      go false e = inr (leb-false r.leader p e, increment_next r.round_group h)

  -- it does not come before r
  pub next_leader_not_before : round_before (next_leader_round r p) r ≡ false
  next_leader_not_before = fails (λ e. go next_group (round_before_lem (next_leader_round r p) r e))
    where
      go : NextGroup r p (next_leader_round r p).round_group → EarlierRound (next_leader_round r p) r → ⊥
      go (inl g) (inl l) = omega arith
      go (inl g) (inr l) = omega (arith, next_leader_own r p)
      go (inr g) (inl l) = omega arith
      go (inr g) (inr l) = omega arith

  -- and every earlier round of p comes before r
  pub next_leader_least : (q : PaxosRound) → q.leader ≡ p → round_before q (next_leader_round r p) ≡ true → round_before q r ≡ true
  next_leader_least q own e = before_round_lem q r (go next_group (round_before_lem q (next_leader_round r p) e))
    where
      go : NextGroup r p (next_leader_round r p).round_group → EarlierRound q (next_leader_round r p) → EarlierRound q r
      go (inl g) (inl l) = inl (omega arith)
      go (inl g) (inr l) = absurd (omega (arith, next_leader_own r p))
      go (inr g) (inl l) = later (dec_lt q.round_group r.round_group)
        where
          later : Dec (q.round_group < r.round_group) → EarlierRound q r
          later (yes k) = inl k
          later (no k) = inr (omega arith, omega arith)
      go (inr g) (inr l) = absurd (omega (arith, next_leader_own r p))

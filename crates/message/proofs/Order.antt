-- Rounds are ordered, and are proposal numbers in the sense of *Paxos Made Simple*; no round comes before every round.
-- Assumes nothing.
use Rattle.std.specs.Prelude.{Option, None, Some}
use mathlib.Core.Path.{◌≡◌, refl, sym, ap, ap₂, ◌∙◌}
use mathlib.Core.Logic.{◌⊎◌, inl, inr}
use mathlib.Core.Bool.{Bool, true, false, ◌&&◌}
use Prim.Native.Nat.{ℕ, ◌<◌}
use native.Mathlib.Omega.{arith}
use lib.Dec.{ltb, eqb}
use borrow.Author.Tests.{lt-ltb, ltb-true, eqb-true, eq-eqb}
use Rattle.basics.proofs.Tests.{not_both, fails, and_left, and_right, and_both, or_cases, or_left, or_right}
use Rattle.paxos.specs.PaxosMadeSimple.{Ordered, ProposalNumbers}
use Rattle.message.specs.declared.PaxosRound.{PaxosRound}
use Rattle.message.specs.Rounds.{round_of, round_before, round_equal, before, equal}

-- a comes before b: its group is lower, or the groups are equal and its leader is lower
abbrev pub EarlierRound : PaxosRound → PaxosRound → Type 0
EarlierRound a b = (a.round_group < b.round_group) ⊎ ((a.round_group ≡ b.round_group) × (a.leader < b.leader))

pub round_before_lem : (a b : PaxosRound) → round_before a b ≡ true → EarlierRound a b
unfolding round_before
round_before_lem a b e = go (or_cases lower (same && ltb a.leader b.leader) e)
  where
    lower : Bool
    lower = ltb a.round_group b.round_group

    same : Bool
    same = eqb a.round_group b.round_group

    go : (lower ≡ true) ⊎ ((same && ltb a.leader b.leader) ≡ true) → EarlierRound a b
    go (inl l) = inl (ltb-true a.round_group b.round_group l)
    go (inr r) =
        inr
        (eqb-true a.round_group b.round_group (and_left same (ltb a.leader b.leader) r), ltb-true a.leader b.leader (and_right same (ltb a.leader b.leader) r))

pub before_round_lem : (a b : PaxosRound) → EarlierRound a b → round_before a b ≡ true
unfolding round_before
before_round_lem a b (inl l) = or_left (eqb a.round_group b.round_group && ltb a.leader b.leader) (lt-ltb a.round_group b.round_group l)
before_round_lem a b (inr r) =
    or_right (ltb a.round_group b.round_group)
    (and_both (eq-eqb a.round_group b.round_group r.0) (lt-ltb a.leader b.leader r.1))

earlier_irreflexive : (a : PaxosRound) → EarlierRound a a → ⊥
earlier_irreflexive a (inl l) = omega arith
earlier_irreflexive a (inr r) = omega arith

earlier_transitive : (a b c : PaxosRound) → EarlierRound a b → EarlierRound b c → EarlierRound a c
earlier_transitive a b c (inl l) (inl k) = inl (omega arith)
earlier_transitive a b c (inl l) (inr k) = inl (omega arith)
earlier_transitive a b c (inr l) (inl k) = inl (omega arith)
earlier_transitive a b c (inr l) (inr k) = inr (omega arith, omega arith)

earlier_connected : (a b : PaxosRound) → (EarlierRound a b → ⊥) → (EarlierRound b a → ⊥) → a ≡ b
earlier_connected a b p q =
    let low : a.round_group < b.round_group → ⊥ = λ l. p (inl l) in
    let high : b.round_group < a.round_group → ⊥ = λ l. q (inl l) in
    let group : a.round_group ≡ b.round_group = omega arith in
    let left : a.leader < b.leader → ⊥ = λ l. p (inr (group, l)) in
    let right : b.leader < a.leader → ⊥ = λ l. q (inr (sym group, l)) in
    let leader : a.leader ≡ b.leader = omega arith in
    ap₂ round_of group leader

pub rounds_ordered : Ordered round_before
rounds_ordered = record {
  irreflexive = λ a. fails (λ e. earlier_irreflexive a (round_before_lem a a e));
  transitive = λ a b c p q. before_round_lem a c (earlier_transitive a b c (round_before_lem a b p) (round_before_lem b c q));
  connected = λ a b p q. earlier_connected a b (λ l. not_both (before_round_lem a b l) p) (λ l. not_both (before_round_lem b a l) q);
}

-- the rounds of a process are those that it leads
abbrev pub own_round : ℕ → PaxosRound → Bool
own_round p r = eqb r.leader p

pub rounds_are_proposal_numbers : ProposalNumbers round_before own_round
rounds_are_proposal_numbers = record { ordered = rounds_ordered; disjoint = λ p q r e d. sym (eqb-true r.leader p e) ∙ eqb-true r.leader q d }

transitive : (a b c : Option PaxosRound) → before a b ≡ true → before b c ≡ true → before a c ≡ true
transitive None None c p q = absurd (not_both p refl)
transitive None (Some b) None p q = absurd (not_both q refl)
transitive None (Some b) (Some c) p q = refl
transitive (Some a) None c p q = absurd (not_both p refl)
transitive (Some a) (Some b) None p q = absurd (not_both q refl)
transitive (Some a) (Some b) (Some c) p q = rounds_ordered.transitive a b c p q

irreflexive : (a : Option PaxosRound) → before a a ≡ false
irreflexive None = refl
irreflexive (Some a) = rounds_ordered.irreflexive a

connected : (a b : Option PaxosRound) → before a b ≡ false → before b a ≡ false → a ≡ b
connected None None p q = refl
connected None (Some b) p q = absurd (not_both refl p)
connected (Some a) None p q = absurd (not_both refl q)
connected (Some a) (Some b) p q = ap Some (rounds_ordered.connected a b p q)

pub optional_rounds_ordered : Ordered before
optional_rounds_ordered = record { irreflexive = irreflexive; transitive = transitive; connected = connected }

pub no_round_first : (r : PaxosRound) → before None (Some r) ≡ true
no_round_first r = refl

-- the two tests of equality say what they seem to say
pub round_equal_lem : (a b : PaxosRound) → round_equal a b ≡ true → a ≡ b
unfolding round_equal
round_equal_lem a b e =
    let same : Bool = eqb a.round_group b.round_group in
    ap₂ round_of (eqb-true a.round_group b.round_group (and_left same (eqb a.leader b.leader) e))
    (eqb-true a.leader b.leader (and_right same (eqb a.leader b.leader) e))

pub equal_round : (a : PaxosRound) → round_equal a a ≡ true
unfolding round_equal
equal_round a = and_both (eq-eqb a.round_group a.round_group refl) (eq-eqb a.leader a.leader refl)

pub equal_rounds : (a b : Option PaxosRound) → equal a b ≡ true → a ≡ b
equal_rounds None None e = refl
equal_rounds None (Some b) e = absurd (not_both e refl)
equal_rounds (Some a) None e = absurd (not_both e refl)
equal_rounds (Some a) (Some b) e = ap Some (round_equal_lem a b e)

pub round_equals_itself : (a : Option PaxosRound) → equal a a ≡ true
round_equals_itself None = refl
round_equals_itself (Some a) = equal_round a

-- The proposer's choice in the paper's words: the value of one of the proposals that were reported, and no reported proposal has a higher
-- number; where none was reported, the proposer's own value.
-- Assumes nothing.
use mathlib.Core.Path.{◌≡◌, refl, sym, ap, subst, ◌∙◌}
use mathlib.Core.Logic.{◌⊎◌, inl, inr}
use mathlib.Core.Bool.{Bool, true, false, cond}
use mathlib.Core.List.{List, [], ◌∷◌, ◌++◌}
use mathlib.Core.Option.{Option, none, some}
use Rattle.basics.specs.Lists.{In}
use Rattle.basics.proofs.Tests.{either, not_both}
use Rattle.paxos.specs.PaxosMadeSimple.{Ordered, Proposal, higher, highest, value_or_own, choice}

-- the highest-numbered proposal so far is at least another one that was reported: there is one, and its number is not below the other's
abbrev pub AtLeast : {Number Value : Type 0} → (Number → Number → Bool) → Option (Proposal Number Value) → Option (Proposal Number Value) → Type 0
AtLeast before p none = Unit {0}
AtLeast before none (some q) = ⊥
AtLeast before (some p) (some q) = before p.number q.number ≡ false

module _ {Number : Type 0} (before : Number → Number → Bool) (o : Ordered before) where
  not_before_trans : (a b c : Number) → before a b ≡ false → before b c ≡ false → before a c ≡ false
  not_before_trans a b c ab bc = go (either (before a c)) (either (before c b))
    where
      go : (before a c ≡ true) ⊎ (before a c ≡ false) → (before c b ≡ true) ⊎ (before c b ≡ false) → before a c ≡ false
      go (inr e) d = e
      go (inl e) (inl d) = absurd (not_both (o.transitive a c b e d) ab)
      go (inl e) (inr d) = absurd (not_both (ap (before a) (o.connected b c bc d) ∙ e) ab)

  before_after : (a b : Number) → before a b ≡ true → before b a ≡ false
  before_after a b h = go (either (before b a))
    where
      go : (before b a ≡ true) ⊎ (before b a ≡ false) → before b a ≡ false
      go (inl e) = absurd (not_both (o.transitive a b a h e) (o.irreflexive a))
      go (inr e) = e

module _ {Number Value : Type 0} (before : Number → Number → Bool) (o : Ordered before) where
  at_least_trans : (p q r : Option (Proposal Number Value)) → AtLeast before p q → AtLeast before q r → AtLeast before p r
  at_least_trans p q none h k = tt
  at_least_trans p none (some r) h k = absurd k
  at_least_trans none (some q) (some r) h k = absurd h
  at_least_trans (some p) (some q) (some r) h k = not_before_trans before o p.number q.number r.number h k

  at_least_same : (p : Option (Proposal Number Value)) → AtLeast before p p
  at_least_same none = tt
  at_least_same (some p) = o.irreflexive p.number

  -- the higher of two is at least each of them
  higher_left : (p q : Option (Proposal Number Value)) → AtLeast before (higher before p q) p
  higher_left none q = tt
  higher_left (some p) none = o.irreflexive p.number
  higher_left (some p) (some q) = go (before p.number q.number) refl
    where
      go : (t : Bool) → before p.number q.number ≡ t → AtLeast before (cond t (some q) (some p)) (some p)
      go true e = before_after before o p.number q.number e
      go false e = o.irreflexive p.number

  higher_right : (p q : Option (Proposal Number Value)) → AtLeast before (higher before p q) q
  higher_right none q = at_least_same q
  higher_right (some p) none = tt
  higher_right (some p) (some q) = go (before p.number q.number) refl
    where
      go : (t : Bool) → before p.number q.number ≡ t → AtLeast before (cond t (some q) (some p)) (some q)
      go true e = o.irreflexive q.number
      go false e = e

  highest_start : (best : Option (Proposal Number Value)) (rs : List (Option (Proposal Number Value)))
      → AtLeast before (highest before best rs) best
  unfolding highest
  highest_start best [] = at_least_same best
  highest_start best (r ∷ rs) =
      at_least_trans (highest before (higher before best r) rs) (higher before best r) best (highest_start (higher before best r) rs) (higher_left best r)

  -- no report is higher
  pub highest_at_least : (best r : Option (Proposal Number Value)) (rs : List (Option (Proposal Number Value)))
      → In r rs → AtLeast before (highest before best rs) r
  unfolding highest
  highest_at_least best r [] h = absurd h
  highest_at_least best r (q ∷ rs) (inr h) = highest_at_least (higher before best q) r rs h
  highest_at_least best r (q ∷ rs) (inl e) =
      subst (λ (x : Option (Proposal Number Value)). AtLeast before (highest before (higher before best q) rs) x) (sym e)
      (at_least_trans (highest before (higher before best q) rs) (higher before best q) q (highest_start (higher before best q) rs) (higher_right best q))

  one_of : (p q : Option (Proposal Number Value)) → (higher before p q ≡ p) ⊎ (higher before p q ≡ q)
  one_of none q = inr refl
  one_of (some p) none = inl refl
  one_of (some p) (some q) = go (before p.number q.number)
    where
      go : (t : Bool) → (cond t (some q) (some p) ≡ some p) ⊎ (cond t (some q) (some p) ≡ some q)
      go true = inr refl
      go false = inl refl

  -- and it is the first one, or a report
  pub highest_reported : (best : Option (Proposal Number Value)) (rs : List (Option (Proposal Number Value)))
      → (highest before best rs ≡ best) ⊎ In (highest before best rs) rs
  unfolding highest
  highest_reported best [] = inl refl
  highest_reported best (r ∷ rs) = go (highest_reported (higher before best r) rs) (one_of best r)
    where
      h : Option (Proposal Number Value)
      h = highest before (higher before best r) rs

      go : (h ≡ higher before best r) ⊎ In h rs → (higher before best r ≡ best) ⊎ (higher before best r ≡ r)
          → (h ≡ best) ⊎ ((h ≡ r) ⊎ In h rs)
      go (inr m) e = inr (inr m)
      go (inl d) (inl e) = inl (d ∙ e)
      go (inl d) (inr e) = inr (inl (d ∙ e))

-- A proposer need keep no more of the responses than the highest-numbered proposal.
module _ {Number Value : Type 0} (before : Number → Number → Bool) where
  pub highest_kept : (best : Option (Proposal Number Value)) (rs ss : List (Option (Proposal Number Value)))
      → highest before (highest before best rs) ss ≡ highest before best (rs ++ ss)
  unfolding highest
  highest_kept best [] ss = refl
  highest_kept best (r ∷ rs) ss = highest_kept (higher before best r) rs ss

  pub choice_kept : (own : Value) (rs ss : List (Option (Proposal Number Value)))
      → choice before own (highest before none rs ∷ ss) ≡ choice before own (rs ++ ss)
  unfolding choice highest
  choice_kept own rs ss = ap (value_or_own before own) (highest_kept none rs ss)

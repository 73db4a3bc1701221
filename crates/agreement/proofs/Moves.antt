-- The moves of one member: each takes the member's view to the next, and the world with it.
-- Assumes nothing.
use Prim.Native.Nat.{ℕ, suc, ◌≤◌, ◌<◌}
use mathlib.Core.Path.{◌≡◌, refl, sym, ◌∙◌, subst}
use mathlib.Core.Bool.{not}
use mathlib.Core.Logic.{◌⊎◌, inl, inr}
use lib.Dec.{T}
use native.Mathlib.Omega.{arith}
use Rattle.agreement.specs.Voting.{Voters, World, NotAfter, Voted, ModelPromise, Safe, Consistent}
use Rattle.agreement.specs.Model.{View, ModelAnswers, fresh, in_later_round, advanced, holding_other_value, prepared_by, accepted_by, model_voted, with_answers}
use Rattle.agreement.proofs.Growth.{NewVote, NewPosition, Grows, promise_stays, safe_stays, TrueAnswers, answers_stay, TruePosition, TrueView, others_keep}
use Rattle.agreement.proofs.Answers.{add_case, add_self, add_old, no_answers_true}

-- ---- the world with one fact more

-- a fact of one vote holds of another that is the same in all four parts
same_vote : (P : ℕ → ℕ → ℕ → ℕ → Type 0) (m s r v m' s' r' v' : ℕ) → (m ≡ m') × (s ≡ s') × (r ≡ r') × (v ≡ v') → P m' s' r' v' → P m s r v
same_vote P m s r v m' s' r' v' e h =
    subst (λ (j : ℕ). P j s r v) (sym e.0) (subst (λ (j : ℕ). P m' j r v) (sym e.1)
    (subst (λ (j : ℕ). P m' s' j v) (sym e.2) (subst (λ (j : ℕ). P m' s' r' j) (sym e.3) h)))

-- nothing is proposed
abbrev nothing : ℕ → ℕ → Type 0
nothing s v = ⊥

-- the world in which v is proposed in s too
abbrev pub add_proposal : World → ℕ → ℕ → World
add_proposal w s v = record {
  Votes = w.Votes;
  Reached = w.Reached;
  First = w.First;
  Proposed = λ s' v'. (w.Proposed s' v') ⊎ ((s' ≡ s) × (v' ≡ v));
}

-- the world in which i has reached (s, r) too
abbrev pub add_reached : World → ℕ → ℕ → ℕ → World
add_reached w i s r = record {
  Votes = w.Votes;
  Reached = λ m s' r'. (w.Reached m s' r') ⊎ ((m ≡ i) × (s' ≡ s) × (r' ≡ r));
  First = w.First;
  Proposed = w.Proposed;
}

-- the world in which i held v first in s too, as proposed by c
abbrev pub add_first : World → ℕ → ℕ → ℕ → ℕ → World
add_first w i s c v = record {
  Votes = w.Votes;
  Reached = w.Reached;
  First = λ m s' c' v'. (w.First m s' c' v') ⊎ ((m ≡ i) × (s' ≡ s) × (c' ≡ c) × (v' ≡ v));
  Proposed = w.Proposed;
}

-- the world in which i has voted v at (s, r) too
abbrev pub add_vote : World → ℕ → ℕ → ℕ → ℕ → World
add_vote w i s r v = record {
  Votes = λ m s' r' v'. (w.Votes m s' r' v') ⊎ ((m ≡ i) × (s' ≡ s) × (r' ≡ r) × (v' ≡ v));
  Reached = w.Reached;
  First = w.First;
  Proposed = w.Proposed;
}

-- the position is not before one that i had reached
abbrev pub Onward : World → ℕ → ℕ → ℕ → Type 0
Onward w i s r = (s1 r1 : ℕ) → w.Reached i s1 r1 → NotAfter s1 r1 s r

pub add_reached_grows : (g : Voters) (P : ℕ → ℕ → Type 0) (w : World) (i s r : ℕ) → Onward w i s r → Grows g P i w (add_reached w i s r)
add_reached_grows g P w i s r on = record {
  votes = λ m s r v h. h;
  reached = λ m s r h. inl h;
  first = λ m s c v h. h;
  proposed = λ s v h. h;
  new_vote = λ m s r v h. inl h;
  new_reached = λ m s' r' h. go m s' r' h;
  new_first = λ m s c v h. inl h;
  new_proposed = λ s v h. inl h;
}
  where
    go : (m s' r' : ℕ) → (w.Reached m s' r') ⊎ ((m ≡ i) × (s' ≡ s) × (r' ≡ r)) → (w.Reached m s' r') ⊎ NewPosition w i m s' r'
    go m s' r' (inl h) = inl h
    go m s' r' (inr k) = inr (same_vote (λ m s r u. NewPosition w i m s r) m s' r' 0 i s r 0 (k.0, k.1, k.2, refl) (refl, on))

pub add_reached_consistent : (g : Voters) (w : World) (i s r : ℕ) → Onward w i s r → (T g.fast_path → 1 ≤ r → r ≡ suc (g.delegate r))
    → Consistent g w → Consistent g (add_reached w i s r)
add_reached_consistent g w i s r on own ok = record {
  one_value = ok.one_value;
  safe = λ m s' r' v h. safe_stays g nothing i w (add_reached w i s r) (add_reached_grows g nothing w i s r on) s' r' v (ok.safe m s' r' v h);
  in_round = ok.in_round;
  live = ok.live;
  reached = λ m s' r' v h. inl (ok.reached m s' r' v h);
  proposed = ok.proposed;
  delegate_reached = λ m s' r' v h. inl (ok.delegate_reached m s' r' v h);
  first_once = ok.first_once;
  first_live = ok.first_live;
  first_reached = λ m s' c v h. let k = ok.first_reached m s' c v h in (k.0, inl k.1);
  first_proposed = ok.first_proposed;
  first_owner = ok.first_owner;
  own_rounds = λ t m s' r' h l. own_rounds t m s' r' l h;
}
  where
    own_rounds : T g.fast_path → (m s' r' : ℕ) → 1 ≤ r' → (w.Reached m s' r') ⊎ ((m ≡ i) × (s' ≡ s) × (r' ≡ r)) → r' ≡ suc (g.delegate r')
    own_rounds t m s' r' l (inl h) = ok.own_rounds t m s' r' h l
    own_rounds t m s' r' l (inr k) = let e = k.2 in subst (λ (j : ℕ). j ≡ suc (g.delegate j)) (sym e) (own t (omega arith))

pub add_first_grows : (g : Voters) (P : ℕ → ℕ → Type 0) (w : World) (i s c v : ℕ) → Grows g P i w (add_first w i s c v)
add_first_grows g P w i s c v = record {
  votes = λ m s r v h. h;
  reached = λ m s r h. h;
  first = λ m s c v h. inl h;
  proposed = λ s v h. h;
  new_vote = λ m s r v h. inl h;
  new_reached = λ m s r h. inl h;
  new_first = λ m s' c' v' h. go m s' c' v' h;
  new_proposed = λ s v h. inl h;
}
  where
    go : (m s' c' v' : ℕ) → (w.First m s' c' v') ⊎ ((m ≡ i) × (s' ≡ s) × (c' ≡ c) × (v' ≡ v)) → (w.First m s' c' v') ⊎ (m ≡ i)
    go m s' c' v' (inl h) = inl h
    go m s' c' v' (inr k) = inr k.0

-- what i may hold first: nothing was held before, i is live and has come to the slot, and v was proposed there, by the proposer named
pub record MayHold (g : Voters) (w : World) (i s c v : ℕ) : Type 0 where
  pub nothing_yet : (c' v' : ℕ) → w.First i s c' v' → ⊥
  pub live : T (g.live i)
  pub came : (r : ℕ) × w.Reached i s r
  pub proposed : w.Proposed s v
  pub owner : (q : ℕ) → c ≡ suc q → (w.First q s c v) ⊎ (q ≡ i)

-- what is new in it
abbrev ThisFirst : ℕ → ℕ → ℕ → ℕ → ℕ → ℕ → ℕ → ℕ → Type 0
ThisFirst i s c v m s' c' v' = (m ≡ i) × (s' ≡ s) × (c' ≡ c) × (v' ≡ v)

pub add_first_consistent : (g : Voters) (w : World) (i s c v : ℕ) → MayHold g w i s c v → Consistent g w → Consistent g (add_first w i s c v)
add_first_consistent g w i s c v may ok = record {
  one_value = ok.one_value;
  safe = λ m s' r' v' h. safe_stays g nothing i w w⁺ (add_first_grows g nothing w i s c v) s' r' v' (ok.safe m s' r' v' h);
  in_round = ok.in_round;
  live = ok.live;
  reached = ok.reached;
  proposed = ok.proposed;
  delegate_reached = ok.delegate_reached;
  first_once = λ m s' c1 v1 c2 v2 h h'. first_once m s' c1 v1 c2 v2 h h';
  first_live = λ m s' c' v' h. first_live m s' c' v' h;
  first_reached = λ m s' c' v' h. first_reached m s' c' v' h;
  first_proposed = λ m s' c' v' h. first_proposed m s' c' v' h;
  first_owner = λ m s' q v' h. first_owner m s' q v' h;
  own_rounds = ok.own_rounds;
}
  where
    w⁺ : World
    w⁺ = add_first w i s c v

    other_slot : (m s' c1 v1 c2 v2 : ℕ) → w.First m s' c1 v1 → ThisFirst i s c v m s' c2 v2 → ⊥
    other_slot m s' c1 v1 c2 v2 h k =
        may.nothing_yet c1 v1 (subst (λ (j : ℕ). w.First j s c1 v1) k.0 (subst (λ (j : ℕ). w.First m j c1 v1) k.1 h))

    first_once : (m s' c1 v1 c2 v2 : ℕ) → (w.First m s' c1 v1) ⊎ ThisFirst i s c v m s' c1 v1 → (w.First m s' c2 v2) ⊎ ThisFirst i s c v m s' c2 v2 → (c1 ≡ c2) × (v1 ≡ v2)
    first_once m s' c1 v1 c2 v2 (inl h) (inl h') = ok.first_once m s' c1 v1 c2 v2 h h'
    first_once m s' c1 v1 c2 v2 (inl h) (inr k) = absurd (other_slot m s' c1 v1 c2 v2 h k)
    first_once m s' c1 v1 c2 v2 (inr k) (inl h) = absurd (other_slot m s' c2 v2 c1 v1 h k)
    first_once m s' c1 v1 c2 v2 (inr k) (inr k') = (k.2 ∙ sym k'.2, k.3 ∙ sym k'.3)

    first_live : (m s' c' v' : ℕ) → (w.First m s' c' v') ⊎ ThisFirst i s c v m s' c' v' → T (g.live m)
    first_live m s' c' v' (inl h) = ok.first_live m s' c' v' h
    first_live m s' c' v' (inr k) = subst (λ (j : ℕ). T (g.live j)) (sym k.0) may.live

    first_reached : (m s' c' v' : ℕ) → (w.First m s' c' v') ⊎ ThisFirst i s c v m s' c' v' → (r : ℕ) × w.Reached m s' r
    first_reached m s' c' v' (inl h) = ok.first_reached m s' c' v' h
    first_reached m s' c' v' (inr k) = same_vote (λ m s c v. (r : ℕ) × w.Reached m s r) m s' c' v' i s c v k may.came

    first_proposed : (m s' c' v' : ℕ) → (w.First m s' c' v') ⊎ ThisFirst i s c v m s' c' v' → w.Proposed s' v'
    first_proposed m s' c' v' (inl h) = ok.first_proposed m s' c' v' h
    first_proposed m s' c' v' (inr k) = same_vote (λ m s c v. w.Proposed s v) m s' c' v' i s c v k may.proposed

    owned : (m s' q v' : ℕ) → ThisFirst i s c v m s' (suc q) v' → (w.First q s c v) ⊎ (q ≡ i) → (w.First q s' (suc q) v') ⊎ ThisFirst i s c v q s' (suc q) v'
    owned m s' q v' k (inl h) = inl (same_vote (λ m s c v. w.First q s c v) m s' (suc q) v' i s c v k h)
    owned m s' q v' k (inr e) = inr (e, k.1, k.2, k.3)

    first_owner : (m s' q v' : ℕ) → (w.First m s' (suc q) v') ⊎ ThisFirst i s c v m s' (suc q) v' → (w.First q s' (suc q) v') ⊎ ThisFirst i s c v q s' (suc q) v'
    first_owner m s' q v' (inl h) = inl (ok.first_owner m s' q v' h)
    first_owner m s' q v' (inr k) = owned m s' q v' k (may.owner q (sym k.2))

pub add_proposal_grows : (g : Voters) (P : ℕ → ℕ → Type 0) (w : World) (i s v : ℕ) → P s v → Grows g P i w (add_proposal w s v)
add_proposal_grows g P w i s v p = record {
  votes = λ m s r v h. h;
  reached = λ m s r h. h;
  first = λ m s c v h. h;
  proposed = λ s v h. inl h;
  new_vote = λ m s r v h. inl h;
  new_reached = λ m s r h. inl h;
  new_first = λ m s c v h. inl h;
  new_proposed = λ s' v' h. go s' v' h;
}
  where
    go : (s' v' : ℕ) → (w.Proposed s' v') ⊎ ((s' ≡ s) × (v' ≡ v)) → (w.Proposed s' v') ⊎ P s' v'
    go s' v' (inl h) = inl h
    go s' v' (inr k) = inr (subst (λ (j : ℕ). P j v') (sym k.0) (subst (λ (j : ℕ). P s j) (sym k.1) p))

pub add_proposal_consistent : (g : Voters) (w : World) (s v : ℕ) → Consistent g w → Consistent g (add_proposal w s v)
add_proposal_consistent g w s v ok = record {
  one_value = ok.one_value;
  safe = λ m s' r' v' h. safe_stays g (λ s' v'. (s' ≡ s) × (v' ≡ v)) 0 w (add_proposal w s v)
      (add_proposal_grows g (λ s' v'. (s' ≡ s) × (v' ≡ v)) w 0 s v (refl, refl)) s' r' v' (ok.safe m s' r' v' h);
  in_round = ok.in_round;
  live = ok.live;
  reached = ok.reached;
  proposed = λ m s' r' v' h. inl (ok.proposed m s' r' v' h);
  delegate_reached = ok.delegate_reached;
  first_once = ok.first_once;
  first_live = ok.first_live;
  first_reached = ok.first_reached;
  first_proposed = λ m s' c v' h. inl (ok.first_proposed m s' c v' h);
  first_owner = ok.first_owner;
  own_rounds = ok.own_rounds;
}

-- it is the doing of no member, so every view stays true
pub add_proposal_true : (g : Voters) (w : World) (s v i : ℕ) (x : View) → TrueView g w i x → TrueView g (add_proposal w s v) i x
add_proposal_true g w s v i x o =
    others_keep g (λ s' v'. (s' ≡ s) × (v' ≡ v)) (suc i) w (add_proposal w s v)
    (add_proposal_grows g (λ s' v'. (s' ≡ s) × (v' ≡ v)) w (suc i) s v (refl, refl)) i x (λ e. omega arith) o

-- what may be voted: what was voted already in the round, or what the round's delegate picks
abbrev pub MayVote : Voters → World → ℕ → View → ℕ → Type 0
MayVote g w i x v = Voted w x.slot x.round v
    ⊎ ((i ≡ g.delegate x.round) × ((m v' : ℕ) → w.Votes m x.slot x.round v' → ⊥) × Safe g w x.slot x.round v)

-- a new slot is begun in the starting round: i has held nothing there and voted nothing, nor has anyone in that round, where i is its delegate
pub fresh_true : (g : Voters) (w : World) (i s : ℕ) → TruePosition g w i s g.start → ((c v : ℕ) → w.First i s c v → ⊥) → ((r v : ℕ) → w.Votes i s r v → ⊥)
    → ((m v : ℕ) → w.Votes m s g.start v → i ≡ g.delegate g.start → ⊥) → TrueView g w i (fresh s g.start)
fresh_true g w i s here no-first no-vote unpicked = record {
  position = here;
  held = record {
    unheld = λ t. refl;
    held_bound = omega arith;
    held_voted = λ l. absurd (omega arith);
    held_proposed = λ t. absurd t;
    unheld_first = λ t c v h. no-first c v h;
    held_first = λ t. absurd t;
    held_still = λ t z. absurd t;
    own_votes = λ r v h. absurd (no-vote r v h);
  };
  promises = λ m t. absurd t;
  accepts = λ m t. absurd t;
  picked = λ m v h d. absurd (unpicked m v h d);
  answers = no_answers_true g w i s;
}

module _ (g : Voters) (w : World) (ok : Consistent g w) (i : ℕ) (x : View) (o : TrueView g w i x) where
  -- a later round is onward
  pub later_onward : (r : ℕ) → x.round < r → Onward w i x.slot r
  later_onward r lt s1 r1 h = let k = o.position.furthest s1 r1 h in (k.0, λ q. let z = k.1 q in omega arith)

  -- so is the next slot
  pub next_onward : Onward w i (suc x.slot) g.start
  next_onward s1 r1 h = let k = (o.position.furthest s1 r1 h).0 in (omega arith, λ q. absurd (omega arith))

  -- to a later round of the slot: both sets are emptied, what is held stays
  pub joined_true : (r : ℕ) → x.round < r → TrueView g (add_reached w i x.slot r) i (in_later_round r x)
  joined_true r lt = record {
    position = record { at = inr (refl, refl, refl); furthest = λ s' r' h. furthest s' r' h; started = omega (arith, o.position.started) };
    held = record {
      unheld = o.held.unheld;
      held_bound = omega (arith, o.held.held_bound);
      held_voted = o.held.held_voted;
      held_proposed = o.held.held_proposed;
      unheld_first = o.held.unheld_first;
      held_first = λ t. let h = o.held.held_first t in let l = h.3 in (h.0, h.1, h.2, omega arith);
      held_still = o.held.held_still;
      own_votes = o.held.own_votes;
    };
    answers = answers_stay g nothing i w (add_reached w i x.slot r) (add_reached_grows g nothing w i x.slot r (later_onward r lt)) i x.slot x.answers o.answers;
    promises = λ m t. absurd t;
    accepts = λ m t. absurd t;
    picked = λ m v h d.
        let k = (o.position.furthest x.slot r (subst (λ (j : ℕ). w.Reached j x.slot r) (sym d) (ok.delegate_reached m x.slot r v h))).1 refl in absurd (omega arith);
  }
    where
      furthest : (s' r' : ℕ) → (w.Reached i s' r') ⊎ ((i ≡ i) × (s' ≡ x.slot) × (r' ≡ r)) → NotAfter s' r' x.slot r
      furthest s' r' (inl h) = let k = o.position.furthest s' r' h in (k.0, λ q. let z = k.1 q in omega arith)
      furthest s' r' (inr k) = (omega (arith, k.1), λ q. omega (arith, k.2))

  -- to the same round again, where nothing is held: both sets were empty
  pub cleared_true : T (not x.holds) → 1 ≤ x.round → TrueView g w i (in_later_round x.round x)
  cleared_true unheld in_round_lem = record {
    position = o.position;
    held = o.held;
    answers = o.answers;
    promises = λ m t. absurd t;
    accepts = λ m t. absurd t;
    picked = λ m v h d. let k = (o.accepts i (o.picked m v h d)).0 in let z = o.held.unheld unheld in absurd (omega arith);
  }

  -- the slot is done: everything is emptied
  pub advanced_true : TrueView g (add_reached w i (suc x.slot) g.start) i (advanced g.start x)
  advanced_true =
      fresh_true g (add_reached w i (suc x.slot) g.start) i (suc x.slot)
      (record { at = inr (refl, refl, refl); furthest = λ s' r' h. furthest s' r' h; started = omega arith })
      (λ c v h. let there = ok.first_reached i (suc x.slot) c v h in not_there there.0 there.1)
      (λ r v h. not_there r (ok.reached i (suc x.slot) r v h))
      (λ m v h d. not_there g.start (subst (λ (j : ℕ). w.Reached j (suc x.slot) g.start) (sym d) (ok.delegate_reached m (suc x.slot) g.start v h)))
    where
      not_there : (r : ℕ) → w.Reached i (suc x.slot) r → ⊥
      not_there r h = let k = (o.position.furthest (suc x.slot) r h).0 in omega arith

      furthest : (s' r' : ℕ) → (w.Reached i s' r') ⊎ ((i ≡ i) × (s' ≡ suc x.slot) × (r' ≡ g.start)) → NotAfter s' r' (suc x.slot) g.start
      furthest s' r' (inl h) = let k = (o.position.furthest s' r' h).0 in (omega arith, λ q. absurd (omega arith))
      furthest s' r' (inr k) = (omega (arith, k.1), λ q. omega (arith, k.2))

  -- to hold what was accepted at a later round, in place of what is held
  pub adopted_true : (a c v : ℕ) → T x.holds → x.held_round < a → a < x.round → Voted w x.slot a v → w.Proposed x.slot v → TrueView g w i (holding_other_value a c v x)
  adopted_true a c v holds le lt was-voted p = record {
    position = o.position;
    held = record {
      unheld = λ t. absurd t;
      held_bound = omega arith;
      held_voted = λ l. was-voted;
      held_proposed = λ t. p;
      unheld_first = λ t. absurd t;
      held_first = λ t. o.held.held_first holds;
      held_still = λ t z. absurd (omega arith);
      own_votes = λ r v' h. let k = o.held.own_votes r v' h in omega arith;
    };
    answers = o.answers;
    promises = λ m t. let b = o.promises m t in (b.0, b.1, (λ r' v' h l. let k = b.2 r' v' h l in omega arith), b.3);
    accepts = λ m t. let k = (o.accepts m t).0 in absurd (omega arith);
    picked = o.picked;
  }

  -- to hold something first: in the world f is its proposer
  module _ (a c f v : ℕ) (unheld : T (not x.holds)) (lt : a < x.round) (was-voted : 1 ≤ a → Voted w x.slot a v) (p : w.Proposed x.slot v)
      (same : a ≡ 0 → c ≡ f) (early : f ≤ x.round) where
    abbrev pub w¹ : World
    w¹ = add_first w i x.slot f v

    pub held_true : TrueView g w¹ i (holding_other_value a c v x)
    held_true = record {
      position = record { at = o.position.at; furthest = o.position.furthest; started = o.position.started };
      held = record {
        unheld = λ t. absurd t;
        held_bound = omega arith;
        held_voted = was-voted;
        held_proposed = λ t. p;
        unheld_first = λ t. absurd t;
        held_first = λ t. (f, v, inr (refl, refl, refl, refl), early);
        held_still = λ t z. inr (refl, refl, same z, refl);
        own_votes = λ r v' h. let k = o.held.own_votes r v' h in let z = o.held.unheld unheld in omega arith;
      };
      answers = answers_stay g nothing i w w¹ (add_first_grows g nothing w i x.slot f v) i x.slot x.answers o.answers;
      promises = λ m t. promise m (o.promises m t);
      accepts = λ m t. let k = (o.accepts m t).0 in let z = o.held.unheld unheld in absurd (omega arith);
      picked = o.picked;
    }
      where
        promise : (m : ℕ) → ModelPromise g w m x.slot x.round x.held_round → ModelPromise g w¹ m x.slot x.round a
        promise m q =
            let b = promise_stays g nothing i w w¹ (add_first_grows g nothing w i x.slot f v) m x.slot x.round x.held_round q in
            let z = o.held.unheld unheld in (b.0, b.1, (λ r' v' h l. let k = b.2 r' v' h l in omega arith), b.3)

  -- to count a promise
  pub prepared_by_true : (m : ℕ) → ModelPromise g w m x.slot x.round x.held_round → TrueView g w i (prepared_by m x)
  prepared_by_true m b = record {
    position = o.position;
    held = o.held;
    answers = o.answers;
    promises = λ k t. go k (add_case m x.prepared k t);
    accepts = o.accepts;
    picked = o.picked;
  }
    where
      go : (k : ℕ) → (k ≡ m) ⊎ T (x.prepared k) → ModelPromise g w k x.slot x.round x.held_round
      go k (inl e) = subst (λ (j : ℕ). ModelPromise g w j x.slot x.round x.held_round) (sym e) b
      go k (inr t) = o.promises k t

  -- the member's own promise
  pub own_promise : T (g.live i) → T x.holds → ModelPromise g w i x.slot x.round x.held_round
  own_promise l holds = (l, o.position.at, (λ r' v' h lt. o.held.own_votes r' v' h), o.held.held_first holds)

  -- to count an accept
  pub accepted_by_true : (m : ℕ) → x.held_round ≡ x.round → w.Votes m x.slot x.round x.held_value → TrueView g w i (accepted_by m x)
  accepted_by_true m e b = record {
    position = o.position;
    held = o.held;
    answers = o.answers;
    promises = o.promises;
    accepts = λ k t. go k (add_case m x.accepted k t);
    picked = λ k v h d. add_old m x.accepted i (o.picked k v h d);
  }
    where
      go : (k : ℕ) → (k ≡ m) ⊎ T (x.accepted k) → (x.held_round ≡ x.round) × w.Votes k x.slot x.round x.held_value
      go k (inl q) = (e, subst (λ (j : ℕ). w.Votes j x.slot x.round x.held_value) (sym q) b)
      go k (inr t) = o.accepts k t

  -- to have other answers
  pub with_answers_true : (f : ModelAnswers) → TrueAnswers g w i x.slot f → TrueView g w i (with_answers f x)
  with_answers_true f a = record {
    position = o.position;
    held = o.held;
    answers = a;
    promises = o.promises;
    accepts = o.accepts;
    picked = o.picked;
  }

  module _ (v : ℕ) (live-i : T (g.live i)) (holds : T x.holds) (in_round_lem : 1 ≤ x.round) (p : w.Proposed x.slot v) (f : MayVote g w i x v) where
    abbrev pub w⁺ : World
    w⁺ = add_vote w i x.slot x.round v

    voted_or_delegate : MayVote g w i x v → Voted w x.slot x.round v ⊎ (i ≡ g.delegate x.round)
    voted_or_delegate (inl d) = inl d
    voted_or_delegate (inr k) = inr k.0

    abbrev ThisVote : ℕ → ℕ → ℕ → ℕ → Type 0
    ThisVote m s r u = (m ≡ i) × (s ≡ x.slot) × (r ≡ x.round) × (u ≡ v)

    pub vote_grows : (P : ℕ → ℕ → Type 0) → Grows g P i w w⁺
    vote_grows P = record {
      votes = λ m s r v h. inl h;
      reached = λ m s r h. h;
      first = λ m s c v h. h;
      proposed = λ s v h. h;
      new_vote = λ m s r u h. go m s r u h;
      new_reached = λ m s r h. inl h;
      new_first = λ m s c v h. inl h;
      new_proposed = λ s v h. inl h;
    }
      where
        go : (m s r u : ℕ) → (w.Votes m s r u) ⊎ ThisVote m s r u → (w.Votes m s r u) ⊎ NewVote g w i m s r u
        go m s r u (inl h) = inl h
        go m s r u (inr k) = inr (same_vote (NewVote g w i) m s r u i x.slot x.round v k (refl, o.position.furthest, voted_or_delegate f))

    same_new : (m u : ℕ) → w.Votes m x.slot x.round u → u ≡ v
    same_new m u h = go f
      where
        go : MayVote g w i x v → u ≡ v
        go (inl d) = ok.one_value m d.0 x.slot x.round u v h d.1
        go (inr k) = absurd (k.1 m u h)

    new_same : (m s r u : ℕ) → ThisVote m s r u → (m' u' : ℕ) → w.Votes m' s r u' → u' ≡ u
    new_same m s r u k m' u' h = same_new m' u' (subst (λ (j : ℕ). w.Votes m' j x.round u') k.1 (subst (λ (j : ℕ). w.Votes m' s j u') k.2 h)) ∙ sym k.3

    pub vote_consistent : Consistent g w⁺
    vote_consistent = record {
      one_value = λ m m' s r u u' h h'. one_value m m' s r u u' h h';
      safe = λ m s r u h. safe_stays g nothing i w w⁺ (vote_grows nothing) s r u (safe m s r u h);
      in_round = λ m s r u h. in_round m s r u h;
      live = λ m s r u h. live m s r u h;
      reached = λ m s r u h. reached m s r u h;
      proposed = λ m s r u h. proposed m s r u h;
      delegate_reached = λ m s r u h. delegate_reached m s r u h;
      first_once = ok.first_once;
      first_live = ok.first_live;
      first_reached = ok.first_reached;
      first_proposed = ok.first_proposed;
      first_owner = ok.first_owner;
      own_rounds = ok.own_rounds;
    }
      where
        one_value : (m m' s r u u' : ℕ) → (w.Votes m s r u) ⊎ ThisVote m s r u → (w.Votes m' s r u') ⊎ ThisVote m' s r u' → u ≡ u'
        one_value m m' s r u u' (inl h) (inl h') = ok.one_value m m' s r u u' h h'
        one_value m m' s r u u' (inl h) (inr k) = new_same m' s r u' k m u h
        one_value m m' s r u u' (inr k) (inl h) = sym (new_same m s r u k m' u' h)
        one_value m m' s r u u' (inr k) (inr k') = k.3 ∙ sym k'.3

        safe_here : MayVote g w i x v → Safe g w x.slot x.round v
        safe_here (inl d) = ok.safe d.0 x.slot x.round v d.1
        safe_here (inr k) = k.2

        safe : (m s r u : ℕ) → (w.Votes m s r u) ⊎ ThisVote m s r u → Safe g w s r u
        safe m s r u (inl h) = ok.safe m s r u h
        safe m s r u (inr k) = same_vote (λ m s r u. Safe g w s r u) m s r u i x.slot x.round v k (safe_here f)

        in_round : (m s r u : ℕ) → (w.Votes m s r u) ⊎ ThisVote m s r u → (1 ≤ r) × (g.start ≤ r)
        in_round m s r u (inl h) = ok.in_round m s r u h
        in_round m s r u (inr k) = same_vote (λ m s r u. (1 ≤ r) × (g.start ≤ r)) m s r u i x.slot x.round v k (in_round_lem, o.position.started)

        live : (m s r u : ℕ) → (w.Votes m s r u) ⊎ ThisVote m s r u → T (g.live m)
        live m s r u (inl h) = ok.live m s r u h
        live m s r u (inr k) = same_vote (λ m s r u. T (g.live m)) m s r u i x.slot x.round v k live-i

        reached : (m s r u : ℕ) → (w.Votes m s r u) ⊎ ThisVote m s r u → w.Reached m s r
        reached m s r u (inl h) = ok.reached m s r u h
        reached m s r u (inr k) = same_vote (λ m s r u. w.Reached m s r) m s r u i x.slot x.round v k o.position.at

        proposed : (m s r u : ℕ) → (w.Votes m s r u) ⊎ ThisVote m s r u → w.Proposed s u
        proposed m s r u (inl h) = ok.proposed m s r u h
        proposed m s r u (inr k) = same_vote (λ m s r u. w.Proposed s u) m s r u i x.slot x.round v k p

        delegate_there : MayVote g w i x v → w.Reached (g.delegate x.round) x.slot x.round
        delegate_there (inl d) = ok.delegate_reached d.0 x.slot x.round v d.1
        delegate_there (inr k) = subst (λ (j : ℕ). w.Reached j x.slot x.round) k.0 o.position.at

        delegate_reached : (m s r u : ℕ) → (w.Votes m s r u) ⊎ ThisVote m s r u → w.Reached (g.delegate r) s r
        delegate_reached m s r u (inl h) = ok.delegate_reached m s r u h
        delegate_reached m s r u (inr k) = same_vote (λ m s r u. w.Reached (g.delegate r) s r) m s r u i x.slot x.round v k (delegate_there f)

    pub voted_true : TrueView g w⁺ i (model_voted i v x)
    voted_true = record {
      position = record { at = o.position.at; furthest = o.position.furthest; started = o.position.started };
      held = record {
        unheld = λ t. absurd t;
        held_bound = omega arith;
        held_voted = λ l. (i, inr (refl, refl, refl, refl));
        held_proposed = λ t. p;
        unheld_first = λ t. absurd t;
        held_first = λ t. o.held.held_first holds;
        held_still = λ t z. absurd (omega arith);
        own_votes = λ r u h. own_votes r u h;
      };
      answers = answers_stay g nothing i w w⁺ (vote_grows nothing) i x.slot x.answers o.answers;
      promises = λ m t. let b = o.promises m t in (b.0, b.1, (λ r' v' h l. omega arith), b.3);
      accepts = λ m t. accepts m (add_case i x.accepted m t);
      picked = λ m u h d. add_self i x.accepted;
    }
      where
        own_votes : (r u : ℕ) → (w.Votes i x.slot r u) ⊎ ThisVote i x.slot r u → r ≤ x.round
        own_votes r u (inl h) = let k = o.held.own_votes r u h in let c = o.held.held_bound in omega arith
        own_votes r u (inr k) = omega (arith, k.2)

        accepts : (m : ℕ) → (m ≡ i) ⊎ T (x.accepted m) → (x.round ≡ x.round) × ((w.Votes m x.slot x.round v) ⊎ ThisVote m x.slot x.round v)
        accepts m (inl e) = (refl, inr (e, refl, refl, refl))
        accepts m (inr t) = let h = (o.accepts m t).1 in (refl, inl (subst (λ (j : ℕ). w.Votes m x.slot x.round j) (same_new m x.held_value h) h))

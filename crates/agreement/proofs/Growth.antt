-- How the world grows by what one member does, what stays true of it, and what a member's view says of it.
-- Assumes nothing.
use Prim.Native.Nat.{ℕ, suc, ◌+◌, ◌≤◌, ◌<◌}
use mathlib.Core.Path.{◌≡◌, refl, sym, ◌∙◌, subst}
use mathlib.Core.Bool.{Bool, not, ◌&&◌}
use mathlib.Core.Logic.{◌⊎◌, inl, inr}
use lib.Dec.{T, eqb}
use native.Mathlib.Omega.{arith}
use Rattle.basics.specs.sets.Sets.{one, count}
use Rattle.agreement.specs.Voting.{Voters, World, NotAfter, Voted, ModelPromise, NoFastQuorum, Clear, Safe, FastChosen, Chosen}
use Rattle.agreement.specs.Model.{View, ModelAnswers}

-- why a vote may be new: i has cast it, at no position before one that it had reached; and the value was voted there already, or i is the
-- round's delegate
abbrev pub NewVote : Voters → World → ℕ → ℕ → ℕ → ℕ → ℕ → Type 0
NewVote g w i m s r v = (m ≡ i) × ((s1 r1 : ℕ) → w.Reached m s1 r1 → NotAfter s1 r1 s r) × (Voted w s r v ⊎ (i ≡ g.delegate r))

-- why a position may be new: i has come to it, and it is not before one that it had reached
abbrev pub NewPosition : World → ℕ → ℕ → ℕ → ℕ → Type 0
NewPosition w i m s r = (m ≡ i) × ((s1 r1 : ℕ) → w.Reached m s1 r1 → NotAfter s1 r1 s r)

-- from w to w' by a call of member i, which proposes what P says: nothing is lost, and what is new is the member's
pub record Grows (g : Voters) (P : ℕ → ℕ → Type 0) (i : ℕ) (w w' : World) : Type 0 where
  pub votes : (m s r v : ℕ) → w.Votes m s r v → w'.Votes m s r v
  pub reached : (m s r : ℕ) → w.Reached m s r → w'.Reached m s r
  pub first : (m s c v : ℕ) → w.First m s c v → w'.First m s c v
  pub proposed : (s v : ℕ) → w.Proposed s v → w'.Proposed s v
  pub new_vote : (m s r v : ℕ) → w'.Votes m s r v → (w.Votes m s r v) ⊎ NewVote g w i m s r v
  pub new_reached : (m s r : ℕ) → w'.Reached m s r → (w.Reached m s r) ⊎ NewPosition w i m s r
  pub new_first : (m s c v : ℕ) → w'.First m s c v → (w.First m s c v) ⊎ (m ≡ i)
  pub new_proposed : (s v : ℕ) → w'.Proposed s v → (w.Proposed s v) ⊎ P s v

pub grows_refl : (g : Voters) (P : ℕ → ℕ → Type 0) (i : ℕ) (w : World) → Grows g P i w w
grows_refl g P i w = record {
  votes = λ m s r v h. h;
  reached = λ m s r h. h;
  first = λ m s c v h. h;
  proposed = λ s v h. h;
  new_vote = λ m s r v h. inl h;
  new_reached = λ m s r h. inl h;
  new_first = λ m s c v h. inl h;
  new_proposed = λ s v h. inl h;
}

pub grows_trans : (g : Voters) (P : ℕ → ℕ → Type 0) (i : ℕ) (w w' w'' : World) → Grows g P i w w' → Grows g P i w' w'' → Grows g P i w w''
grows_trans g P i w w' w'' a b = record {
  votes = λ m s r v h. b.votes m s r v (a.votes m s r v h);
  reached = λ m s r h. b.reached m s r (a.reached m s r h);
  first = λ m s c v h. b.first m s c v (a.first m s c v h);
  proposed = λ s v h. b.proposed s v (a.proposed s v h);
  new_vote = λ m s r v h. from_vote m s r v (b.new_vote m s r v h);
  new_reached = λ m s r h. from_reached m s r (b.new_reached m s r h);
  new_first = λ m s c v h. from_first m s c v (b.new_first m s c v h);
  new_proposed = λ s v h. from_proposed s v (b.new_proposed s v h);
}
  where
    voted_or_delegate : (s r v : ℕ) → Voted w' s r v ⊎ (i ≡ g.delegate r) → Voted w s r v ⊎ (i ≡ g.delegate r)
    voted_or_delegate s r v (inr e) = inr e
    voted_or_delegate s r v (inl d) = by_vote (a.new_vote d.0 s r v d.1)
      where
        by_vote : (w.Votes d.0 s r v) ⊎ NewVote g w i d.0 s r v → Voted w s r v ⊎ (i ≡ g.delegate r)
        by_vote (inl h) = inl (d.0, h)
        by_vote (inr k) = k.2

    from_vote : (m s r v : ℕ) → (w'.Votes m s r v) ⊎ NewVote g w' i m s r v → (w.Votes m s r v) ⊎ NewVote g w i m s r v
    from_vote m s r v (inl h) = a.new_vote m s r v h
    from_vote m s r v (inr k) = inr (k.0, (λ s1 r1 h. k.1 s1 r1 (a.reached m s1 r1 h)), voted_or_delegate s r v k.2)

    from_reached : (m s r : ℕ) → (w'.Reached m s r) ⊎ NewPosition w' i m s r → (w.Reached m s r) ⊎ NewPosition w i m s r
    from_reached m s r (inl h) = a.new_reached m s r h
    from_reached m s r (inr k) = inr (k.0, λ s1 r1 h. k.1 s1 r1 (a.reached m s1 r1 h))

    from_first : (m s c v : ℕ) → (w'.First m s c v) ⊎ (m ≡ i) → (w.First m s c v) ⊎ (m ≡ i)
    from_first m s c v (inl h) = a.new_first m s c v h
    from_first m s c v (inr e) = inr e

    from_proposed : (s v : ℕ) → (w'.Proposed s v) ⊎ P s v → (w.Proposed s v) ⊎ P s v
    from_proposed s v (inl h) = a.new_proposed s v h
    from_proposed s v (inr e) = inr e

module _ (g : Voters) (P : ℕ → ℕ → Type 0) (i : ℕ) (w w' : World) (e : Grows g P i w w') where
  pub voted_stays : (s r v : ℕ) → Voted w s r v → Voted w' s r v
  voted_stays s r v d = (d.0, e.votes d.0 s r v d.1)

  pub promise_stays : (m s r a : ℕ) → ModelPromise g w m s r a → ModelPromise g w' m s r a
  promise_stays m s r a b = (
    b.0,
    e.reached m s r b.1,
    (λ r' v' h l. go r' v' l (e.new_vote m s r' v' h)),
    (b.3.0, b.3.1, e.first m s b.3.0 b.3.1 b.3.2, b.3.3),
  )
    where
      go : (r' v' : ℕ) → r' < r → (w.Votes m s r' v') ⊎ NewVote g w i m s r' v' → r' ≤ a
      go r' v' l (inl h) = b.2 r' v' h l
      go r' v' l (inr k) = let z : r ≤ r' = (k.1 s r b.1).1 refl in absurd (omega arith)

  blocked_stays : (s p : ℕ) → NoFastQuorum g w s p → NoFastQuorum g w' s p
  blocked_stays s p b = (b.0, b.1, λ m t. go m (b.2 m t))
    where
      go : (m : ℕ) → T (b.0 m) ⊎ ((c : ℕ) × (u : ℕ) × w.First m s c u × (c ≡ suc p → ⊥)) → T (b.0 m) ⊎ ((c : ℕ) × (u : ℕ) × w'.First m s c u × (c ≡ suc p → ⊥))
      go m (inl t) = inl t
      go m (inr h) = inr (h.0, h.1, e.first m s h.0 h.1 h.2, h.3)

  clear_stays : (s r v p : ℕ) → Clear g w s r v p → Clear g w' s r v p
  clear_stays s r v p (inl h) = inl (e.first p s (suc p) v h)
  clear_stays s r v p (inr (inl h)) = inr (inl (e.reached p s r h))
  clear_stays s r v p (inr (inr b)) = inr (inr (blocked_stays s p b))

  pub safe_stays : (s r v : ℕ) → Safe g w s r v → Safe g w' s r v
  safe_stays s r v (inl h) = inl h
  safe_stays s r v (inr q) = inr (
    q.0,
    q.1,
    q.2,
    (λ m t. promise_stays m s r q.1 (q.3 m t)),
    (λ l. ((q.4 l).0, voted_stays s q.1 v (q.4 l).1)),
    λ z p l. clear_stays s r v p (q.5 z p l),
  )

  -- a member that has gone to the next slot comes to no later round of the last one, and picks nothing there
  fast_stays : (s p v : ℕ) → FastChosen g w s p v → FastChosen g w' s p v
  fast_stays s p v c = (
    c.0,
    c.1,
    (λ m t. e.first m s (suc p) v (c.2 m t)),
    c.3,
    e.reached p (suc s) g.start c.4,
    (λ r h. position r (e.new_reached p s r h)),
    λ m v' h. vote m v' (e.new_vote m s (suc p) v' h),
  )
    where
      position : (r : ℕ) → (w.Reached p s r) ⊎ NewPosition w i p s r → r ≤ suc p
      position r (inl h) = c.5 r h
      position r (inr k) = let z : suc s ≤ s = (k.1 (suc s) g.start c.4).0 in absurd (omega arith)

      vote : (m v' : ℕ) → (w.Votes m s (suc p) v') ⊎ NewVote g w i m s (suc p) v' → ⊥
      vote m v' (inl h) = c.6 m v' h
      vote m v' (inr k) = by_whom k.2
        where
          by_whom : Voted w s (suc p) v' ⊎ (i ≡ g.delegate (suc p)) → ⊥
          by_whom (inl d) = c.6 d.0 v' d.1
          by_whom (inr q) =
              let there : w.Reached m (suc s) g.start = subst (λ (j : ℕ). w.Reached j (suc s) g.start) (c.3 ∙ sym q ∙ sym k.0) c.4 in
              let z : suc s ≤ s = (k.1 (suc s) g.start there).0 in omega arith

  pub chosen_stays : (s v : ℕ) → Chosen g w s v → Chosen g w' s v
  chosen_stays s v (inl c) = inl (c.0, (c.1.0, c.1.1, λ m t. e.votes m s c.0 v (c.1.2 m t)))
  chosen_stays s v (inr c) = inr (c.0, fast_stays s c.0 v c.1)

-- m has answered, and names p
abbrev pub names : ModelAnswers → (ℕ → ℕ) → ℕ → ℕ → Bool
names f name p m = f.answered m && eqb (name m) p

-- The answers f to the proposal of member i in slot s are true of the world, where `name` says which proposer each answer names: who has
-- answered is live, has come to i's round and held what it names first; the proposers are those that are named; and the figures are those
-- of the answers.
pub record TrueAnswers (g : Voters) (w : World) (i s : ℕ) (f : ModelAnswers) : Type 0 where
  pub name : ℕ → ℕ
  pub live : (m : ℕ) → T (f.answered m) → T (g.live m)
  pub came : (m : ℕ) → T (f.answered m) → w.Reached m s (suc i)
  pub says : (m : ℕ) → T (f.answered m) → w.First m s (suc (name m)) (f.values (name m))
  pub proposer : (m : ℕ) → T (f.answered m) → T (f.proposers (name m))
  pub named : (p : ℕ) → T (f.proposers p) → (m : ℕ) × T (f.answered m) × (name m ≡ p)
  pub preaccepts : f.preaccepted ≡ count (names f name i) g.count
  pub scored : (p : ℕ) → f.scores p + (one (names f name p p) + one (names f name p p)) ≡ 2 + count (names f name p) g.count

pub answers_stay : (g : Voters) (P : ℕ → ℕ → Type 0) (i : ℕ) (w w' : World) → Grows g P i w w'
    → (j s : ℕ) (f : ModelAnswers) → TrueAnswers g w j s f → TrueAnswers g w' j s f
answers_stay g P i w w' e j s f o = record {
  name = o.name;
  live = o.live;
  came = λ m t. e.reached m s (suc j) (o.came m t);
  says = λ m t. e.first m s (suc (o.name m)) (f.values (o.name m)) (o.says m t);
  proposer = o.proposer;
  named = o.named;
  preaccepts = o.preaccepts;
  scored = o.scored;
}

-- Member i stands at (s, r), and has reached no position after it.
pub record TruePosition (g : Voters) (w : World) (i s r : ℕ) : Type 0 where
  pub at : w.Reached i s r
  pub furthest : (s' r' : ℕ) → w.Reached i s' r' → NotAfter s' r' s r
  pub started : g.start ≤ r

-- What member i holds at (s, r) is true, where a, c and v are the round of the held value, its proposer and the value: it was proposed, and
-- voted in the round that it names, and i has voted in no later round of the slot. Something is held exactly where something was held first,
-- of no later round than i's own, and that is held still where no round is named.
pub record TrueHeld (w : World) (i s r : ℕ) (holds : Bool) (a c v : ℕ) : Type 0 where
  pub unheld : T (not holds) → a ≡ 0
  pub held_bound : a ≤ r
  pub held_voted : 1 ≤ a → Voted w s a v
  pub held_proposed : T holds → w.Proposed s v
  pub unheld_first : T (not holds) → (c' v' : ℕ) → w.First i s c' v' → ⊥
  pub held_first : T holds → (c' : ℕ) × (v' : ℕ) × w.First i s c' v' × (c' ≤ r)
  pub held_still : T holds → a ≡ 0 → w.First i s c v
  pub own_votes : (r' v' : ℕ) → w.Votes i s r' v' → r' ≤ a

-- The view x of member i is true of the world: its position, what it holds and its answers are; who has prepared has promised that much, and
-- who has accepted has voted for the held value. Last, a delegate knows of its own vote where anyone has voted in its round: so it picks once.
pub record TrueView (g : Voters) (w : World) (i : ℕ) (x : View) : Type 0 where
  pub position : TruePosition g w i x.slot x.round
  pub held : TrueHeld w i x.slot x.round x.holds x.held_round x.held_proposer x.held_value
  pub promises : (m : ℕ) → T (x.prepared m) → ModelPromise g w m x.slot x.round x.held_round
  pub accepts : (m : ℕ) → T (x.accepted m) → (x.held_round ≡ x.round) × w.Votes m x.slot x.round x.held_value
  pub picked : (m v : ℕ) → w.Votes m x.slot x.round v → i ≡ g.delegate x.round → T (x.accepted i)
  pub answers : TrueAnswers g w i x.slot x.answers

-- the views of the others stay true
pub others_keep : (g : Voters) (P : ℕ → ℕ → Type 0) (i : ℕ) (w w' : World) → Grows g P i w w'
    → (j : ℕ) (x : View) → (j ≡ i → ⊥) → TrueView g w j x → TrueView g w' j x
others_keep g P i w w' e j x ne o = record {
  position = record {
    at = e.reached j x.slot x.round o.position.at;
    furthest = λ s r h. furthest s r (e.new_reached j s r h);
    started = o.position.started;
  };
  held = record {
    unheld = o.held.unheld;
    held_bound = o.held.held_bound;
    held_voted = λ l. voted_stays g P i w w' e x.slot x.held_round x.held_value (o.held.held_voted l);
    held_proposed = λ t. e.proposed x.slot x.held_value (o.held.held_proposed t);
    unheld_first = λ t c v h. unheld_first t c v (e.new_first j x.slot c v h);
    held_first = λ t. let h = o.held.held_first t in (h.0, h.1, e.first j x.slot h.0 h.1 h.2, h.3);
    held_still = λ t z. e.first j x.slot x.held_proposer x.held_value (o.held.held_still t z);
    own_votes = λ r v h. own_votes r v (e.new_vote j x.slot r v h);
  };
  promises = λ m t. promise_stays g P i w w' e m x.slot x.round x.held_round (o.promises m t);
  accepts = λ m t. ((o.accepts m t).0, e.votes m x.slot x.round x.held_value (o.accepts m t).1);
  picked = λ m v h d. picked m v d (e.new_vote m x.slot x.round v h);
  answers = answers_stay g P i w w' e j x.slot x.answers o.answers;
}
  where
    furthest : (s r : ℕ) → (w.Reached j s r) ⊎ NewPosition w i j s r → NotAfter s r x.slot x.round
    furthest s r (inl h) = o.position.furthest s r h
    furthest s r (inr k) = absurd (ne k.0)

    unheld_first : T (not x.holds) → (c v : ℕ) → (w.First j x.slot c v) ⊎ (j ≡ i) → ⊥
    unheld_first t c v (inl h) = o.held.unheld_first t c v h
    unheld_first t c v (inr q) = ne q

    own_votes : (r v : ℕ) → (w.Votes j x.slot r v) ⊎ NewVote g w i j x.slot r v → r ≤ x.held_round
    own_votes r v (inl h) = o.held.own_votes r v h
    own_votes r v (inr k) = absurd (ne k.0)

    picked_first : (v : ℕ) → (j ≡ g.delegate x.round) → Voted w x.slot x.round v ⊎ (i ≡ g.delegate x.round) → T (x.accepted j)
    picked_first v d (inl h) = o.picked h.0 v h.1 d
    picked_first v d (inr q) = absurd (ne (d ∙ sym q))

    picked : (m v : ℕ) → (j ≡ g.delegate x.round) → (w.Votes m x.slot x.round v) ⊎ NewVote g w i m x.slot x.round v → T (x.accepted j)
    picked m v d (inl h) = o.picked m v h d
    picked m v d (inr k) = picked_first v d k.2

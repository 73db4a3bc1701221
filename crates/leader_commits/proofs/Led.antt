-- The model's calls in a group that is led in its starting round and has no committer: no other round is ever met, no Prepare is sent, and
-- Commits come from the leader alone. And what a call at the leader does, exactly.
-- Assumes nothing.
use mathlib.Core.Path.{◌≡◌, refl, sym, ap, subst, ◌∙◌}
use mathlib.Core.Logic.{◌⊎◌, inl, inr}
use mathlib.Core.Bool.{Bool, true, false, cond, not, ◌&&◌, ◌||◌}
use mathlib.Core.List.{List, [], ◌∷◌}
use Prim.Native.Nat.{ℕ, suc, ◌<◌}
use native.Mathlib.Omega.{arith}
use lib.Dec.{T, eqb, ltb, eqb→eq}
use borrow.Author.Tests.{ltb-true, le-ltb, eqb-true, eq-eqb, not-true}
use Rattle.basics.proofs.Tests.{either, of-both, and_right}
use Rattle.agreement.specs.Engine.{CallKind, proposes, delivers, reads}
use Rattle.agreement.specs.Model.{View, ModelSetup, ModelMessage, prepare, accept, commit, other, ModelDestination, all, ModelOutgoing, Host, undecided, ModelOutcome, in_later_round, holding_other_value, prepared_by, accepted_by, model_voted, model_refused, model_sends, quiet, enough_accepted, model_enter, model_commits, replies, model_after_accept, model_on_accept, model_on_commit, model_on_propose, model_on_message}
use Rattle.agreement.specs.Refinement.{model_outcome, OnlyOther, AsModel}
use Rattle.agreement.proofs.Tests.{by_test}

-- every slot starts in a round that member l leads, and there is no committer
pub record Led (S : ModelSetup) (l : ℕ) : Type 0 where
  pub starts_led_lem : S.starts_led ≡ true
  pub leads : S.leader S.voters.start ≡ l
  pub gathers : S.voters.delegate S.voters.start ≡ l
  pub no_committer : (q : ℕ) → S.committer q ≡ 0

-- what member i then sends: no Prepare, Accepts of the starting round, and Commits only where it is the leader, to all
abbrev pub FromLed : ℕ → ℕ → ℕ → ModelDestination → ModelMessage → Type 0
FromLed start l i d (prepare s r a c v) = ⊥
FromLed start l i d (accept s r v) = r ≡ start
FromLed start l i d (commit s v) = (i ≡ l) × (d ≡ all)
FromLed start l i d other = Unit {0}

abbrev pub AllFromLed : ℕ → ℕ → ℕ → List ModelOutgoing → Type 0
AllFromLed start l i [] = Unit {0}
AllFromLed start l i (o ∷ os) = FromLed start l i o.destination o.message × AllFromLed start l i os

-- a delivered message is such a one
abbrev pub Expected : {M : Type 0} → (M → ModelMessage) → ℕ → ℕ → CallKind M → Type 0
Expected meaning start l (proposes v) = Unit {0}
Expected meaning start l (delivers source c) = (i : ℕ) × (d : ModelDestination) × FromLed start l i d (meaning c)
Expected meaning start l reads = Unit {0}

-- what a choice is where its test passes
pub when {ℓ} : {A : Type 0} (P : A → Type ℓ) {t : Bool} {x : A} (y : A) → t ≡ true → P x → P (cond t x y)
when P {t} {x} y e p = subst (λ (b : Bool). P (cond b x y)) (sym e) p

only_other_led : (start l i : ℕ) (os : List ModelOutgoing) → OnlyOther os → AllFromLed start l i os
only_other_led start l i [] h = tt
only_other_led start l i (o ∷ os) h = (subst (FromLed start l i o.destination) (sym h.0) tt, only_other_led start l i os h.1)

-- ---- every member

-- an accept of v fits what is held
abbrev pub fits_held_view : View → ℕ → Bool
fits_held_view x v = ltb x.held_round x.round || (eqb x.held_round x.round && eqb x.held_value v)

-- the member is in the starting round after the call, and sends only such messages
pub record Kept (start l i : ℕ) (r : ModelOutcome) : Type 0 where
  pub in_round_lem : r.view.round ≡ start
  pub sends : AllFromLed start l i r.outgoing

module _ (S : ModelSetup) (l : ℕ) (led : Led S l) (i : ℕ) (x : View) (at : x.round ≡ S.voters.start) where
  abbrev start : ℕ
  start = S.voters.start

  abbrev K : ModelOutcome → Type 0
  K r = Kept start l i r

  idle : K (quiet x)
  idle = record { in_round_lem = at; sends = tt }

  refused : K (model_refused x)
  refused = record { in_round_lem = at; sends = tt }

  propose_kept : (v : ℕ) → K (model_on_propose S i x v)
  unfolding model_on_propose
  propose_kept v =
      of-both K (S.voters.live i && (eqb x.round start && not x.holds))
      (when K _ led.starts_led_lem (of-both K (eqb i (S.voters.delegate x.round)) (record { in_round_lem = at; sends = (at, tt) }) refused))
      refused

  commits_kept : i ≡ l → (y : View) → y.round ≡ start → K (model_commits S y [] true)
  unfolding model_commits
  commits_kept own y e = of-both K (enough_accepted S y) (record { in_round_lem = refl; sends = ((own, refl), tt) }) (record { in_round_lem = e; sends = tt })

  replies_led : (c : ℕ) (y : View) → y.round ≡ start → AllFromLed start l i (replies S i c y)
  unfolding replies
  replies_led c y e = of-both (AllFromLed start l i) (eqb c 0 || eqb c (suc i) || eqb c (suc (S.leader y.round))) (e, tt) (e, (e, tt))

  no_third : (h : Host) → T (eqb (cond S.three_phases (S.committer h.requester) 0) (suc i)) → ⊥
  no_third h t =
      let none : cond S.three_phases (S.committer h.requester) 0 ≡ 0 =
      of-both (λ (n : ℕ). n ≡ 0) S.three_phases (led.no_committer h.requester) refl in
      let own : cond S.three_phases (S.committer h.requester) 0 ≡ suc i = eqb→eq _ _ t in
      omega arith

  after_accept_kept : (source : ℕ) (h : Host) (y : View) → y.round ≡ start → K (model_after_accept S i source h x y)
  unfolding model_after_accept
  after_accept_kept source h y e =
      let c : ℕ = cond S.three_phases (S.committer h.requester) 0 in
      let tell : Bool = not (eqb h.requester (suc i)) in
      by_test K (eqb i (S.leader y.round)) (model_commits S y [] true)
      (cond (eqb source (S.voters.delegate y.round)) (cond (eqb c (suc i)) (model_commits S y (replies S i c y) tell) (model_sends y (replies S i c y)))
      (cond (eqb c (suc i)) (model_commits S y [] tell) (model_refused x)))
      (λ t. commits_kept (eqb→eq i (S.leader y.round) t ∙ ap S.leader e ∙ led.leads) y e)
      (λ t.
      of-both K (eqb source (S.voters.delegate y.round))
      (by_test K (eqb c (suc i)) (model_commits S y (replies S i c y) tell) (model_sends y (replies S i c y)) (λ k. absurd (no_third h k))
      (λ k. record { in_round_lem = e; sends = replies_led c y e }))
      (by_test K (eqb c (suc i)) (model_commits S y [] tell) (model_refused x) (λ k. absurd (no_third h k)) (λ k. refused)))

  accept_kept : (source s v : ℕ) (h : Host) → K (model_on_accept S i x source s start v h)
  unfolding model_on_accept model_enter
  accept_kept source s v h =
      of-both K (not (S.voters.live i)) idle
      (of-both K (ltb s x.slot || ltb start x.round) idle
      (of-both K (not (eqb s x.slot) || not (S.voters.live source)) refused
      (entered (cond (ltb x.round start) (in_later_round start x) x) (of-both (λ (y : View). y.round ≡ start) (ltb x.round start) refl at))))
    where
      entered : (y : View) → y.round ≡ start → K (cond (fits_held_view y v) (model_after_accept S i source h x (accepted_by source (model_voted i v y))) (model_refused x))
      entered y e = of-both K (fits_held_view y v) (after_accept_kept source h (accepted_by source (model_voted i v y)) e) refused

  commit_kept : (s v : ℕ) → K (model_on_commit S i x s v)
  unfolding model_on_commit
  commit_kept s v = of-both K (ltb s x.slot) idle (of-both K (eqb s x.slot) (record { in_round_lem = refl; sends = tt }) refused)

  message_kept : (source : ℕ) (h : Host) (m : ModelMessage) (j : ℕ) (d : ModelDestination) → FromLed start l j d m → K (model_on_message S i x source h m)
  unfolding model_on_message
  message_kept source h (prepare s r a c v) j d f = absurd f
  message_kept source h (accept s r v) j d f = subst (λ (r : ℕ). K (model_on_accept S i x source s r v h)) (sym f) (accept_kept source s v h)
  message_kept source h (commit s v) j d f = commit_kept s v
  message_kept source h other j d f = idle

  -- Every call keeps the member in the starting round.
  pub as_model_kept : {M : Type 0} (meaning : M → ModelMessage) (k : CallKind M) (r : ModelOutcome) → AsModel meaning S i x k r → Expected meaning S.voters.start l k
      → Kept S.voters.start l i r
  unfolding model_outcome
  as_model_kept meaning (proposes v) r e f = subst K (sym e.1) (of-both K e.0.allows (propose_kept v) refused)
  as_model_kept meaning (delivers source c) r (inl e) f =
      subst K (sym e.1) (of-both K e.0.allows (message_kept source e.0 (meaning c) f.0 f.1 f.2) refused)
  as_model_kept meaning (delivers source c) r (inr e) f =
      record { in_round_lem = ap (λ (y : View). y.round) e.1 ∙ at; sends = only_other_led start l i r.outgoing e.3 }
  as_model_kept meaning reads r e f = record { in_round_lem = ap (λ (y : View). y.round) e.0 ∙ at; sends = only_other_led start l i r.outgoing e.2 }

-- ---- the leader

-- what the leader l knows after it has proposed v
abbrev pub proposed_view : ℕ → View → ℕ → View
proposed_view l x v = model_voted l v (prepared_by l (holding_other_value 0 0 v (in_later_round x.round x)))

-- a proposal of v that is taken
pub record Proposing (l : ℕ) (x : View) (v : ℕ) (r : ModelOutcome) : Type 0 where
  pub was_free : x.holds ≡ false
  pub then_view : r.view ≡ proposed_view l x v
  pub no_commit : r.decision ≡ undecided

-- an accept of v in slot t that is taken
pub record Accepting (S : ModelSetup) (l : ℕ) (x : View) (source t v : ℕ) (r : ModelOutcome) : Type 0 where
  pub own_slot : t ≡ x.slot
  pub live_source : S.voters.live source ≡ true
  pub fitting : fits_held_view x v ≡ true
  pub result : r ≡ model_commits S (accepted_by source (model_voted l v x)) [] true

module _ (S : ModelSetup) (l : ℕ) (led : Led S l) (x : View) (at : x.round ≡ S.voters.start) where
  pub propose_leader : (v : ℕ) → (model_on_propose S l x v ≡ model_refused x) ⊎ Proposing l x v (model_on_propose S l x v)
  unfolding model_on_propose
  propose_leader v = go (either (S.voters.live l && (eqb x.round S.voters.start && not x.holds)))
    where
      own : eqb l (S.voters.delegate x.round) ≡ true
      own = eq-eqb l (S.voters.delegate x.round) (sym (ap S.voters.delegate at ∙ led.gathers))

      go : ((S.voters.live l && (eqb x.round S.voters.start && not x.holds)) ≡ true) ⊎ ((S.voters.live l && (eqb x.round S.voters.start && not x.holds)) ≡ false)
          → (model_on_propose S l x v ≡ model_refused x) ⊎ Proposing l x v (model_on_propose S l x v)
      go (inl e) =
          let r : model_on_propose S l x v ≡ model_sends (proposed_view l x v) (record { destination = all; message = accept x.slot x.round v } ∷ []) =
          simp (e, led.starts_led_lem, own) in
          inr
          (record {
            was_free =
                not-true x.holds (and_right (eqb x.round S.voters.start) (not x.holds)
                (and_right (S.voters.live l) (eqb x.round S.voters.start && not x.holds) e));
            then_view = ap (λ (o : ModelOutcome). o.view) r;
            no_commit = ap (λ (o : ModelOutcome). o.decision) r;
          })
      go (inr e) = inl (simp e)

  -- an accept of the starting round, at a live leader, is of an older slot, or refused, or taken
  pub accept_leader : S.voters.live l ≡ true → (source t v : ℕ) (h : Host)
      → ((t < x.slot) × (model_on_accept S l x source t S.voters.start v h ≡ quiet x))
      ⊎ ((model_on_accept S l x source t S.voters.start v h ≡ model_refused x) ⊎ Accepting S l x source t v (model_on_accept S l x source t S.voters.start v h))
  unfolding model_on_accept model_enter model_after_accept
  accept_leader live source t v h = older (either (ltb t x.slot))
    where
      goal : Type 0
      goal =
          ((t < x.slot) × (model_on_accept S l x source t S.voters.start v h ≡ quiet x))
          ⊎ ((model_on_accept S l x source t S.voters.start v h ≡ model_refused x) ⊎ Accepting S l x source t v (model_on_accept S l x source t S.voters.start v h))

      not_older : ltb S.voters.start x.round ≡ false
      not_older = le-ltb S.voters.start x.round (omega (arith, at))

      not_later : ltb x.round S.voters.start ≡ false
      not_later = le-ltb x.round S.voters.start (omega (arith, at))

      leads : eqb l (S.leader x.round) ≡ true
      leads = eq-eqb l (S.leader x.round) (sym (ap S.leader at ∙ led.leads))

      fit : ltb t x.slot ≡ false → eqb t x.slot ≡ true → S.voters.live source ≡ true → (fits_held_view x v ≡ true) ⊎ (fits_held_view x v ≡ false) → goal
      fit a b c (inl d) =
          inr (inr (record { own_slot = eqb-true t x.slot b; live_source = c; fitting = d; result = simp (live, a, not_older, b, c, not_later, d, leads) }))
      fit a b c (inr d) = inr (inl (simp (live, a, not_older, b, c, not_later, d)))

      from : ltb t x.slot ≡ false → eqb t x.slot ≡ true → (S.voters.live source ≡ true) ⊎ (S.voters.live source ≡ false) → goal
      from a b (inl c) = fit a b c (either (fits_held_view x v))
      from a b (inr c) = inr (inl (simp (live, a, not_older, b, c)))

      own : ltb t x.slot ≡ false → (eqb t x.slot ≡ true) ⊎ (eqb t x.slot ≡ false) → goal
      own a (inl b) = from a b (either (S.voters.live source))
      own a (inr b) = inr (inl (simp (live, a, not_older, b)))

      older : (ltb t x.slot ≡ true) ⊎ (ltb t x.slot ≡ false) → goal
      older (inl a) = inl (ltb-true t x.slot a, simp (live, a))
      older (inr a) = own a (either (eqb t x.slot))

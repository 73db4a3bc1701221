-- A call of the model hands back a commit exactly where it takes the member to its next slot, and the commit is of the member's slot.
-- Assumes nothing.
use Prim.Native.Nat.{ℕ, suc, pred}
use mathlib.Core.Path.{◌≡◌, refl}
use mathlib.Core.Bool.{Bool, true, not, ◌&&◌, ◌||◌, cond}
use mathlib.Core.List.{List, []}
use lib.Dec.{eqb, ltb}
use Rattle.basics.specs.sets.Sets.{count}
use Rattle.agreement.specs.Model.{View, ModelSetup, ModelMessage, prepare, accept, commit, other, ModelOutgoing, Host, Decision, undecided, decided, ModelOutcome, in_later_round, holding_other_value, prepared_by, accepted_by, model_voted, model_with_answer, with_answers, holds_before, enough_prepared, enough_accepted, fast_quorum_answered, may_adopt, is_best, model_enter, model_counted, casts, picks, model_adopts_best, decides, answering, model_gathers, model_promised, model_on_prepare, model_commits, replies, model_after_accept, model_on_accept, model_on_commit, model_on_propose, model_on_message}
use Rattle.basics.proofs.Tests.{of-both}

-- from slot s to s': the same without a commit, and the next with a commit in s
abbrev pub NextSlot : ℕ → ℕ → Decision → Type 0
NextSlot s s' undecided = s' ≡ s
NextSlot s s' (decided t v) = (t ≡ s) × (s' ≡ suc s)

-- from the view x by the outcome r
abbrev pub MovesOn : View → ModelOutcome → Type 0
MovesOn x r = NextSlot x.slot r.view.slot r.decision

module _ (S : ModelSetup) (i : ℕ) (x : View) where
  commits_moves_on : (y : View) (os : List ModelOutgoing) (t : Bool) → y.slot ≡ x.slot → MovesOn x (model_commits S y os t)
  unfolding model_commits
  commits_moves_on y os t e = of-both (MovesOn x) (enough_accepted S y) (e, λ j. suc (e j)) e

  after_accept_moves_on : (source : ℕ) (h : Host) (y : View) → y.slot ≡ x.slot → MovesOn x (model_after_accept S i source h x y)
  unfolding model_after_accept
  after_accept_moves_on source h y e =
      let c : ℕ = cond S.three_phases (S.committer h.requester) 0 in
      let tell : Bool = not (eqb h.requester (suc i)) in
      of-both (MovesOn x) (eqb i (S.leader y.round)) (commits_moves_on y [] true e)
      (of-both (MovesOn x) (eqb source (S.voters.delegate y.round))
      (of-both (MovesOn x) (eqb c (suc i)) (commits_moves_on y (replies S i c y) tell e) e)
      (of-both (MovesOn x) (eqb c (suc i)) (commits_moves_on y [] tell e) refl))

  casts_moves_on : (v : ℕ) (y : View) → y.slot ≡ x.slot → MovesOn x (casts S i x v y)
  unfolding casts
  casts_moves_on v y e = of-both (MovesOn x) (y.accepted i) refl e

  picks_moves_on : (old y : View) → y.slot ≡ x.slot → MovesOn x (picks S i x old y)
  unfolding picks
  picks_moves_on old y e = of-both (MovesOn x) (ltb (count old.prepared S.voters.count) S.voters.quorum && enough_prepared S y)
      (casts_moves_on y.held_value y e) e

  decides_moves_on : (v : ℕ) (h : Host) (y : View) → y.slot ≡ x.slot → MovesOn x (decides S i v h x y)
  unfolding decides model_adopts_best
  decides_moves_on v h y e = of-both (MovesOn x) (fast_quorum_answered S y.answers) (e, λ j. suc (e j))
      (of-both (MovesOn x) (may_adopt S y.answers)
      (of-both (MovesOn x) (eqb h.adoptee 0) e
      (of-both (MovesOn x) (is_best S (pred h.adoptee) y.answers && enough_prepared S y) (casts_moves_on (y.answers.values (pred h.adoptee)) y e) refl))
      e)

  gathers_moves_on : (source c v : ℕ) (h : Host) (old y : View) → y.slot ≡ x.slot → MovesOn x (model_gathers S i source c v h x old y)
  unfolding model_gathers answering
  gathers_moves_on source c v h old y e = of-both (MovesOn x) (S.voters.fast_path && eqb y.held_round 0)
      (of-both (MovesOn x) (eqb c 0) refl
      (of-both (MovesOn x) (y.answers.answered source) (of-both (MovesOn x) (eqb source i) (decides_moves_on v h y e) refl)
      (decides_moves_on v h (with_answers (model_with_answer i source (pred c) v y.answers) y) e)))
      (picks_moves_on old y e)

  promised_moves_on : (source a c v : ℕ) (h : Host) (y : View) → y.slot ≡ x.slot → MovesOn x (model_promised S i source a c v h x y)
  unfolding model_promised model_counted
  promised_moves_on source a c v h y e = of-both (MovesOn x) (eqb (S.voters.delegate y.round) i)
      (of-both (λ (z : View). MovesOn x (model_gathers S i source c v h x y (prepared_by i (prepared_by source z)))) (holds_before a y) {x = holding_other_value a c v y} {y = y}
      (gathers_moves_on source c v h y (prepared_by i (prepared_by source (holding_other_value a c v y))) e) (gathers_moves_on source c v h y (prepared_by i (prepared_by source y)) e))
      (of-both (MovesOn x) (eqb y.held_round y.round) e e)

  enter_moves_on : (source s r : ℕ) (k : View → ModelOutcome) → ((y : View) → y.slot ≡ x.slot → MovesOn x (k y)) → MovesOn x (model_enter S i x source s r k)
  unfolding model_enter
  enter_moves_on source s r k f = of-both (MovesOn x) (not (S.voters.live i)) refl
      (of-both (MovesOn x) (ltb s x.slot || ltb r x.round) refl
      (of-both (MovesOn x) (not (eqb s x.slot) || not (S.voters.live source)) refl
      (of-both (λ (z : View). MovesOn x (k z)) (ltb x.round r) {x = in_later_round r x} {y = x} (f (in_later_round r x) refl) (f x refl))))

  pub on_message_moves_on : (source : ℕ) (h : Host) (c : ModelMessage) → MovesOn x (model_on_message S i x source h c)
  unfolding model_on_message model_on_prepare model_on_accept model_on_commit
  on_message_moves_on source h (prepare s r a c v) = enter_moves_on source s r _ (λ y e.
      of-both (λ (z : View). MovesOn x (model_promised S i source a c v h x z)) y.holds {x = y} {y = prepared_by i (holding_other_value a c v y)}
      (promised_moves_on source a c v h y e) (promised_moves_on source a c v h (prepared_by i (holding_other_value a c v y)) e))
  on_message_moves_on source h (accept s r v) = enter_moves_on source s r _ (λ y e.
      of-both (MovesOn x) (ltb y.held_round y.round || (eqb y.held_round y.round && eqb y.held_value v)) (after_accept_moves_on source h (accepted_by source (model_voted i v y)) e) refl)
  on_message_moves_on source h (commit s v) = of-both (MovesOn x) (ltb s x.slot) refl (of-both (MovesOn x) (eqb s x.slot) (refl, refl) refl)
  on_message_moves_on source h other = refl

  pub on_propose_moves_on : (v : ℕ) → MovesOn x (model_on_propose S i x v)
  unfolding model_on_propose
  on_propose_moves_on v = of-both (MovesOn x) (S.voters.live i && (eqb x.round S.voters.start && not x.holds))
      (of-both (MovesOn x) S.starts_led (of-both (MovesOn x) (eqb i (S.voters.delegate x.round)) refl refl)
      (of-both (MovesOn x) S.voters.fast_path (of-both (MovesOn x) (eqb (count x.answers.answered S.voters.count) 0) refl refl) refl)) refl

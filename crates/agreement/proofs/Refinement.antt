-- The group theorem of an engine that refines the model: in any legal list of calls, all members commit the same proposed values in the same
-- order.
-- Assumes nothing.
use Prim.Native.Nat.{ℕ}
use mathlib.Core.Path.{◌≡◌, refl, sym, subst, ap}
use mathlib.Core.Logic.{inl, inr}
use mathlib.Core.List.{List}
use Rattle.agreement.specs.Voting.{World, Consistent}
use Rattle.agreement.specs.Model.{View, ModelSetup, ModelMessage, Host, undecided, ModelOutcome, model_refused, model_on_propose, model_on_message}
use Rattle.agreement.specs.Engine.{CallKind, proposes, delivers, reads, EngineClaim, Engine, empty_run, run_of_calls, LegalCalls}
use Rattle.agreement.specs.Refinement.{SetupRules, propose, deliver, model_outcome, seen_as_model, AsModel, Refines}
use Rattle.basics.proofs.Tests.{of-both}
use Rattle.agreement.proofs.Tests.{by_test}
use Rattle.agreement.proofs.Growth.{TrueView}
use Rattle.agreement.proofs.Handlers.{MessageTrue, Correct, idle_correct, on_message_correct, NewProposal, on_propose_correct}
use Rattle.agreement.proofs.Slots.{NextSlot, MovesOn, on_message_moves_on, on_propose_moves_on}
use Rattle.agreement.proofs.Group.{NewlyProposed, DeliveredTrue, Sound, group_claim}

-- ---- a call that the model makes moves on with a commit alone

module _ (S : ModelSetup) (i : ℕ) (x : View) where
  propose_moves_on : (v : ℕ) (h : Host) → MovesOn x (model_outcome S x (propose i v h))
  unfolding model_outcome
  propose_moves_on v h = of-both (MovesOn x) h.allows (on_propose_moves_on S i x v) refl

  deliver_moves_on : (source : ℕ) (c : ModelMessage) (h : Host) → MovesOn x (model_outcome S x (deliver i source c h))
  unfolding model_outcome
  deliver_moves_on source c h = of-both (MovesOn x) h.allows (on_message_moves_on S i x source h c) refl

  idle_moves_on : (r : ModelOutcome) → r.view ≡ x → r.decision ≡ undecided → MovesOn x r
  idle_moves_on r same_view no_commit = subst (NextSlot x.slot r.view.slot) (sym no_commit) (ap (λ (y : View). y.slot) same_view)

  pub as_model_moves_on : {M : Type 0} (meaning : M → ModelMessage) (k : CallKind M) (r : ModelOutcome) → AsModel meaning S i x k r → MovesOn x r
  as_model_moves_on meaning (proposes v) r e = subst (MovesOn x) (sym e.1) (propose_moves_on v e.0)
  as_model_moves_on meaning (delivers source c) r (inl e) = subst (MovesOn x) (sym e.1) (deliver_moves_on source (meaning c) e.0)
  as_model_moves_on meaning (delivers source c) r (inr e) = idle_moves_on r e.1 e.2
  as_model_moves_on meaning reads r e = idle_moves_on r e.0 e.1

-- ---- and is correct

module _ (S : ModelSetup) (rules : SetupRules S) (i : ℕ) (x : View) where
  -- a call that the host may refuse
  propose_correct : (v : ℕ) (h : Host) (w : World) → Consistent S.voters w → TrueView S.voters w i x
      → Correct S.voters (NewProposal x v (model_outcome S x (propose i v h)).taken) i w (model_outcome S x (propose i v h))
  unfolding model_outcome
  propose_correct v h w ok o = by_test (λ (r : ModelOutcome). Correct S.voters (NewProposal x v r.taken) i w r) h.allows (model_on_propose S i x v) (model_refused x)
      (λ _. on_propose_correct S rules i w ok x o v)
      (λ _. idle_correct S.voters (NewProposal x v (model_refused x).taken) i w ok x o (model_refused x) refl refl tt)

  deliver_correct : (P : ℕ → ℕ → Type 0) (source : ℕ) (c : ModelMessage) (h : Host) (w : World) → Consistent S.voters w → TrueView S.voters w i x
      → MessageTrue S.voters w source c → Correct S.voters P i w (model_outcome S x (deliver i source c h))
  unfolding model_outcome
  deliver_correct P source c h w ok o k = by_test (Correct S.voters P i w) h.allows (model_on_message S i x source h c) (model_refused x)
      (λ _. on_message_correct S rules P i w ok x o source h c k)
      (λ _. idle_correct S.voters P i w ok x o (model_refused x) refl refl tt)

  -- a call that is the model's
  module _ {M : Type 0} (meaning : M → ModelMessage) where
    as_model_correct : (k : CallKind M) (r : ModelOutcome) → AsModel meaning S i x k r → (w : World) → Consistent S.voters w → TrueView S.voters w i x
        → DeliveredTrue meaning S.voters w k → Correct S.voters (NewlyProposed x k r.taken) i w r
    as_model_correct (proposes v) r e w ok o b =
        subst (λ (r : ModelOutcome). Correct S.voters (NewProposal x v r.taken) i w r) (sym e.1) (propose_correct v e.0 w ok o)
    as_model_correct (delivers source c) r (inl e) w ok o b =
        subst (Correct S.voters (NewlyProposed {M = M} x (delivers source c) r.taken) i w) (sym e.1)
        (deliver_correct (NewlyProposed {M = M} x (delivers source c) r.taken) source (meaning c) e.0 w ok o b)
    as_model_correct (delivers source c) r (inr e) w ok o b =
        idle_correct S.voters (NewlyProposed {M = M} x (delivers source c) r.taken) i w ok x o r e.1 e.2 e.3
    as_model_correct reads r e w ok o b = idle_correct S.voters (NewlyProposed {M = M} x reads r.taken) i w ok x o r e.0 e.1 e.2

refines_sound : (S : ModelSetup) → SetupRules S → (E : Engine) → Refines S E → Sound S.voters E
refines_sound S rules E F = record {
  view = F.view;
  meaning = F.meaning;
  Valid = F.Valid;
  initial_view = F.initial_view;
  initial_valid = F.initial_valid;
  answer_valid = F.answer_valid;
  answer_moves_on = λ c x f. as_model_moves_on S (E.member c) (F.view x) F.meaning (E.kind c) (seen_as_model F.view F.meaning (E.answer x c)) (F.answer_as_model c x f);
  answer_correct = λ c x f w ok o b. as_model_correct S rules (E.member c) (F.view x) F.meaning (E.kind c) (seen_as_model F.view F.meaning (E.answer x c)) (F.answer_as_model c x f) w ok o b;
}

-- The group theorem: any engine that refines the model, with settings that keep to the rules, makes of any legal list of calls on new members a
-- log that meets the claim.
pub refines_claim : (S : ModelSetup) → SetupRules S → (E : Engine) → Refines S E → (cs : List E.Call) → LegalCalls E (empty_run E) cs → EngineClaim (run_of_calls E (empty_run E) cs).log
refines_claim S rules E F cs k = group_claim S.voters rules.voters E (refines_sound S rules E F) cs k

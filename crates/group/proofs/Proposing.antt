-- A proposal in the classic modes is the model's `model_on_propose`.
-- Assumes nothing.
use Rattle.std.specs.Prelude.{Option, None, Some, is_some, Result, Ok}
use mathlib.Core.Path.{◌≡◌, refl, sym, ap, ap₂, subst, ◌∙◌}
use mathlib.Core.Logic.{◌⊎◌, inl, inr}
use mathlib.Core.Bool.{Bool, true, false, cond, not, ◌&&◌, ◌||◌}
use mathlib.Core.List.{[], ◌∷◌}
use Prim.Native.Nat.{ℕ, suc, ◌+◌, ◌*◌, ◌<◌}
use native.Mathlib.Omega.{arith}
use lib.Dec.{eqb, leb-zero}
use borrow.Author.Tests.{eq-eqb}
use Rattle.basics.proofs.Tests.{not_both, and_left, and_right, and_both, or_cases}
use Rattle.basics.specs.sets.Sets.{contains}
use Rattle.message.specs.Promises.{value_of, accept_round_of}
use Rattle.message.specs.Modes.{is_multi_paxos, is_swift_paxos}
use Rattle.message.specs.Rounds.{increment, default_round, next_leader_round, starting_round, equal, unwrap_or_default}
use Rattle.message.proofs.Order.{equal_rounds}
use Rattle.message.specs.declared.ConsensusMsg.TheVariants.{Prepare, Accept}
use Rattle.message.specs.declared.PFMode.{PFMode}
use Rattle.message.specs.declared.PFMode.TheVariants.{Paxos, MultiPaxos, MultiPaxos3P, EPaxos, Pando, SwiftPaxos}
use Rattle.message.specs.declared.PaxosRound.{PaxosRound}
use Rattle.message.specs.declared.Refusal.{Refusal}
use Rattle.message.specs.declared.RoundV.{RoundV}
use Rattle.message.specs.declared.RoundV.TheVariants.{PaxosV}
use Rattle.round_state.specs.Paxos.{goto_round, held_after_promise, receive_promise, paxos_propose_v, accept_fits, after_accept, receive_accept, accept_own, self_accept}
use Rattle.round_state.specs.declared.PaxosState.{PaxosState}
use Rattle.settings.specs.Questions.{delegate_of, starting_round_of, delegate_in}
use Rattle.settings.specs.declared.Settings.{Settings}
use Rattle.propose.specs.Propose.{electing, proposal_round, may_propose, broadcast_own, propose_prepare, after_own_promise, propose_accept, propose_classic}
use Rattle.steps.specs.Steps.{CoreStep, one_message, sends, to_all, with_paxos, stays}
use Rattle.steps.specs.declared.Core.{Core}
use Rattle.agreement.proofs.Tests.{by_choice}
use Rattle.agreement.specs.Model.{View, ModelAnswers, in_later_round, holding_other_value, prepared_by, model_voted, model_sends, model_on_propose}
use Rattle.agreement.specs.Model as model
use Rattle.group.proofs.View.{round_number, leader_of, leader_of_lem, proposer_of, is_e_paxos, view_of, Leaders, model_setup_of, Follows}
use Rattle.group.proofs.Entering.{goto_view}
use Rattle.group.proofs.Preparing.{asked_by, nothing_held_lem, follows_both, first_view, own_accept_view}

-- ---- what the modes give

-- without a leader from the start there is no starting round
no_start_lem : (m : PFMode) (l : ℕ) → is_multi_paxos m ≡ false → starting_round m l ≡ None
no_start_lem Paxos l e = refl
no_start_lem MultiPaxos l e = absurd (not_both refl e)
no_start_lem MultiPaxos3P l e = absurd (not_both refl e)
no_start_lem EPaxos l e = refl
no_start_lem Pando l e = refl
no_start_lem SwiftPaxos l e = refl

-- with one, the leader gathers
pub leader_gathers : (s : Settings) (m : PFMode) (l : ℕ) → is_multi_paxos m ≡ true → delegate_of s m l ≡ l
unfolding delegate_in
leader_gathers s Paxos l e = absurd (not_both e refl)
leader_gathers s MultiPaxos l e = refl
leader_gathers s MultiPaxos3P l e = refl
leader_gathers s EPaxos l e = absurd (not_both e refl)
leader_gathers s Pando l e = absurd (not_both e refl)
leader_gathers s SwiftPaxos l e = absurd (not_both e refl)

-- the own round of a process
own_round_lem : (i : ℕ) → round_number (Some (next_leader_round default_round i)) ≡ suc i
unfolding next_leader_round
own_round_lem i = ap (λ (t : Bool). suc (cond t 0 (increment 0) * 64 + i)) (leb-zero i) ∙ omega arith

next_leader : (r : PaxosRound) (p : ℕ) → (next_leader_round r p).leader ≡ p
unfolding next_leader_round
next_leader r p = refl

module _ (ans : ModelAnswers) (s : Settings) (i : ℕ) (no-swift : is_swift_paxos s.mode ≡ false) (small : i < 64) (first_small : s.first_leader < 64) (v : ℕ) (core : Core) (ok : Leaders core) where
  electing_own : electing (asked_by s i) ≡ i
  unfolding electing
  electing_own = simp no-swift

  -- what a proposal that is allowed has
  pub record Allowed : Type 0 where
    pub nothing : is_some core.paxos.max_rv ≡ false
    pub alive : contains s.alive_replicas i ≡ true
    pub starts : core.paxos.round ≡ starting_round_of s
    pub led : is_multi_paxos s.mode ≡ true → Some (proposal_round (asked_by s i) core) ≡ starting_round_of s

  pub allowed : may_propose (asked_by s i) core ≡ true → Allowed
  unfolding may_propose
  allowed e =
      by_choice (λ (t : Bool). t ≡ true → Allowed) (is_some core.paxos.max_rv) (λ h t. absurd (not_both t refl))
      (λ h t. record {
        nothing = h;
        alive = live (and_left A B (and_left (A && B) C t));
        starts = equal_rounds core.paxos.round (starting_round_of s) (and_right A B (and_left (A && B) C t));
        led = leads (and_right (A && B) C t);
      })
      e
    where
      A : Bool
      A = contains s.alive_replicas i || is_swift_paxos s.mode

      B : Bool
      B = equal core.paxos.round (starting_round_of s)

      C : Bool
      C = not (is_multi_paxos s.mode) || equal (Some (proposal_round (asked_by s i) core)) (starting_round_of s)

      live : A ≡ true → contains s.alive_replicas i ≡ true
      live a = pick (or_cases (contains s.alive_replicas i) (is_swift_paxos s.mode) a)
        where
          pick : (contains s.alive_replicas i ≡ true) ⊎ (is_swift_paxos s.mode ≡ true) → contains s.alive_replicas i ≡ true
          pick (inl l) = l
          pick (inr l) = absurd (not_both l no-swift)

      leads : C ≡ true → is_multi_paxos s.mode ≡ true → Some (proposal_round (asked_by s i) core) ≡ starting_round_of s
      leads c m = pick (or_cases (not (is_multi_paxos s.mode)) (equal (Some (proposal_round (asked_by s i) core)) (starting_round_of s)) c)
        where
          pick : (not (is_multi_paxos s.mode) ≡ true) ⊎ (equal (Some (proposal_round (asked_by s i) core)) (starting_round_of s) ≡ true)
              → Some (proposal_round (asked_by s i) core) ≡ starting_round_of s
          pick (inl l) = absurd (not_both l (ap not m))
          pick (inr l) = equal_rounds (Some (proposal_round (asked_by s i) core)) (starting_round_of s) l

  -- ---- the two proposals

  module _ (may : Allowed) where
    none : core.paxos.max_rv ≡ None
    none = nothing_held_lem core.paxos.max_rv may.nothing

    -- one's own promise, in the round r
    abbrev pub promised : PaxosRound → RoundV → PaxosState
    promised r rv = (receive_promise (asked_by s i).member i rv (goto_round (Some r) core.paxos))

    propose_promise : (r : PaxosRound) (rv : RoundV) → paxos_propose_v (asked_by s i).member rv (goto_round (Some r) core.paxos) ≡ Ok (promised r rv)
    unfolding paxos_propose_v
    propose_promise r rv = simp may.nothing

    pub prepare_step : (r : PaxosRound) (rv : RoundV)
        → propose_prepare (asked_by s i) r rv core ≡ Ok (stays (with_paxos (promised r rv) core) (one_message (sends (asked_by s i) core to_all (Prepare core.slot r rv))))
    unfolding propose_prepare
    prepare_step r rv = ap (broadcast_own (asked_by s i) (Prepare core.slot r rv) core) (propose_promise r rv)

    self_accept_lem : (r : PaxosRound) → self_accept (asked_by s i).member r (promised r (PaxosV None v)) ≡ Ok (after_accept (asked_by s i).member i r v (promised r (PaxosV None v)))
    unfolding self_accept accept_own receive_accept accept_fits receive_promise held_after_promise
    self_accept_lem r = simp none

    accept_step : (r : PaxosRound)
        → propose_accept (asked_by s i) r v core
        ≡ Ok (stays (with_paxos (after_accept (asked_by s i).member i r v (promised r (PaxosV None v))) core) (one_message (sends (asked_by s i) core to_all (Accept core.slot r v))))
    unfolding propose_accept
    accept_step r =
        ap (after_own_promise (asked_by s i) r v core) (propose_promise r (PaxosV None v))
        ∙ ap (broadcast_own (asked_by s i) (Accept core.slot r v) core) (self_accept_lem r)

    -- ---- their views

    pub promised_view : (r : PaxosRound) (rv : RoundV) → view_of ans (with_paxos (promised r rv) core)
        ≡ prepared_by i (holding_other_value (round_number (accept_round_of rv)) (proposer_of rv) (value_of rv) (in_later_round (round_number (Some r)) (view_of ans core)))
    promised_view r rv =
        first_view ans s i may.alive small (with_paxos (goto_round (Some r) core.paxos) core) rv may.nothing
        ∙ ap (λ (x : View). prepared_by i (holding_other_value (round_number (accept_round_of rv)) (proposer_of rv) (value_of rv) x)) (goto_view ans (Some r) core)

    promised_round : (r : PaxosRound) → (promised r (PaxosV None v)).round ≡ Some r
    unfolding receive_promise
    promised_round r = refl

    accepted_view_lem : (r : PaxosRound)
        → view_of ans (with_paxos (after_accept (asked_by s i).member i r v (promised r (PaxosV None v))) core)
        ≡ model_voted i v (prepared_by i (holding_other_value 0 0 v (in_later_round (round_number (Some r)) (view_of ans core))))
    accepted_view_lem r =
        own_accept_view ans s i may.alive small r (with_paxos (promised r (PaxosV None v)) core) v (promised_round r) ∙ ap (model_voted i v) (promised_view r (PaxosV None v))

    -- ---- the model's proposal

    started : eqb (view_of ans core).round (model_setup_of s).voters.start ≡ true
    started = eq-eqb (view_of ans core).round (model_setup_of s).voters.start (ap round_number may.starts)

    pub may_model : (contains s.alive_replicas i && (eqb (view_of ans core).round (model_setup_of s).voters.start && not (view_of ans core).holds)) ≡ true
    may_model = and_both may.alive (and_both started (ap not may.nothing))

    model_led : is_multi_paxos s.mode ≡ true → eqb i ((model_setup_of s).voters.delegate (view_of ans core).round) ≡ true
        → model_on_propose (model_setup_of s) i (view_of ans core) v
        ≡ model_sends (model_voted i v (prepared_by i (holding_other_value 0 0 v (in_later_round (view_of ans core).round (view_of ans core))))) (record { destination = model.all; message = model.accept core.slot (view_of ans core).round v } ∷ [])
    unfolding model_on_propose
    model_led m d = simp (may_model, m, d)

    model_own : is_multi_paxos s.mode ≡ false → is_e_paxos s.mode ≡ false
        → model_on_propose (model_setup_of s) i (view_of ans core) v
        ≡ model_sends (prepared_by i (holding_other_value 0 0 v (in_later_round (suc i) (view_of ans core)))) (record { destination = model.all; message = model.prepare core.slot (suc i) 0 0 v } ∷ [])
    unfolding model_on_propose
    model_own m slow = simp (may_model, m, slow)

    abbrev pub round : PaxosRound
    round = proposal_round (asked_by s i) core

    -- in MultiPaxos the proposal's round is that of the core, and oneself leads it
    led_round : is_multi_paxos s.mode ≡ true → (view_of ans core).round ≡ round_number (Some round)
    led_round m = ap round_number (may.starts ∙ sym (may.led m))

    led_own : is_multi_paxos s.mode ≡ true → eqb i ((model_setup_of s).voters.delegate (view_of ans core).round) ≡ true
    led_own m =
        eq-eqb i (delegate_of s s.mode (leader_of (view_of ans core).round))
        (sym (leader_gathers s s.mode (leader_of (view_of ans core).round) m ∙ ap leader_of (led_round m) ∙ leader_of_lem round (subst (λ (p : ℕ). p < 64) (sym own) small) ∙ own))
      where
        own : round.leader ≡ i
        own = next_leader (unwrap_or_default core.paxos.round) (electing (asked_by s i)) ∙ electing_own

    -- elsewhere it is the first round of oneself
    pub first_own : is_multi_paxos s.mode ≡ false → round_number (Some round) ≡ suc i
    first_own m =
        ap₂ (λ (r : Option PaxosRound) (p : ℕ). round_number (Some (next_leader_round (unwrap_or_default r) p))) (may.starts ∙ no_start_lem s.mode s.first_leader m) electing_own
        ∙ own_round_lem i

    allowed_follows : is_e_paxos s.mode ≡ false → Follows (model_setup_of s) ans (cond (is_multi_paxos s.mode) (propose_accept (asked_by s i) round v core) (propose_prepare (asked_by s i) round (PaxosV None v) core))
        (model_on_propose (model_setup_of s) i (view_of ans core) v)
    allowed_follows slow =
        by_choice (λ (step : Result CoreStep Refusal). Follows (model_setup_of s) ans step (model_on_propose (model_setup_of s) i (view_of ans core) v)) (is_multi_paxos s.mode)
        (λ m. follows_both (accept_step round) (model_led m (led_own m))
        (record {
          seen_as =
              ap (λ (x : View). model_sends x (record { destination = model.all; message = model.accept core.slot (round_number (Some round)) v } ∷ [])) (accepted_view_lem round)
              ∙ ap
              (λ (r : ℕ).
              model_sends (model_voted i v (prepared_by i (holding_other_value 0 0 v (in_later_round r (view_of ans core))))) (record { destination = model.all; message = model.accept core.slot r v } ∷ []))
              (sym (led_round m));
        }))
        (λ m. follows_both (prepare_step round (PaxosV None v)) (model_own m slow)
        (record {
          seen_as =
              ap (λ (x : View). model_sends x (record { destination = model.all; message = model.prepare core.slot (round_number (Some round)) 0 0 v } ∷ [])) (promised_view round (PaxosV None v))
              ∙ ap
              (λ (r : ℕ).
              model_sends (prepared_by i (holding_other_value 0 0 v (in_later_round r (view_of ans core)))) (record { destination = model.all; message = model.prepare core.slot r 0 0 v } ∷ []))
              (first_own m);
        }))

  -- A proposal is the model's.
  pub propose_follows : is_e_paxos s.mode ≡ false → Follows (model_setup_of s) ans (propose_classic (asked_by s i) v core) (model_on_propose (model_setup_of s) i (view_of ans core) v)
  unfolding propose_classic
  propose_follows slow =
      by_choice (λ (step : Result CoreStep Refusal). Follows (model_setup_of s) ans step (model_on_propose (model_setup_of s) i (view_of ans core) v)) (may_propose (asked_by s i) core)
      (λ e. allowed_follows (allowed e) slow) (λ e. record { seen_as = tt })

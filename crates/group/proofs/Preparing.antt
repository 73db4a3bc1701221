-- Handling a Prepare in the classic modes is the model's `on_prepare`.
-- Assumes nothing.
use Rattle.std.specs.Prelude.{Option, None, Some, is_some, Result, Ok, Err}
use mathlib.Core.Path.{◌≡◌, refl, sym, ap, ap₂, subst, ◌∙◌}
use mathlib.Core.Bool.{Bool, true, false, cond, not, ◌&&◌, ◌||◌}
use mathlib.Core.List.{[], ◌∷◌}
use Prim.Native.Nat.{ℕ, ◌≤◌, ◌<◌}
use lib.Dec.{eqb, ltb, leb}
use borrow.Author.Tests.{lt-ltb, le-ltb, leb-true, leb-false, eqb-true}
use Rattle.basics.proofs.Tests.{by_cases, of-both, not_both}
use Rattle.basics.specs.sets.Sets.{contains, count, size, is_empty}
use Rattle.basics.proofs.sets.Laws.{contains_empty}
use Rattle.message.specs.Modes.{is_swift_paxos}
use Rattle.message.specs.Promises.{value_of, accept_round_of}
use Rattle.message.specs.Rounds.{before, equal}
use Rattle.message.specs.declared.ConsensusMsg.TheVariants.{Prepare, Accept}
use Rattle.message.specs.declared.PaxosRound.{PaxosRound}
use Rattle.message.specs.declared.Refusal.{Refusal}
use Rattle.message.specs.declared.Refusal.TheVariants.{Panic}
use Rattle.message.specs.declared.RoundV.{RoundV}
use Rattle.round_state.specs.Paxos.{get_v, get_last_accepted_round, held_after_promise, receive_promise, paxos_propose_v, accept_fits, after_accept, receive_accept, accept_own, self_accept}
use Rattle.round_state.specs.declared.PaxosState.{PaxosState}
use Rattle.settings.specs.Questions.{quorums_of, delegate_of}
use Rattle.settings.specs.declared.Settings.{Settings}
use Rattle.calls.specs.Asked.{asked_of}
use Rattle.steps.specs.enter.Enter.{in_round}
use Rattle.classic.specs.prepare.Prepare.{hold_first, answer_prepare, answers_nothing, preparing, after_held, prepare_answered, broadcast_accept, after_own_accept, accept_phase, with_promise, becomes_prepared, gather}
use Rattle.paxos_family.specs.Process.{entered_prepare, on_prepare}
use Rattle.steps.specs.Steps.{CoreStep, no_messages, one_message, sends, to_all, held_rv, held_value, with_paxos, left_fast_path, stays, then_in, map_step}
use Rattle.steps.specs.declared.Asked.{Asked}
use Rattle.steps.specs.declared.Core.{Core}
use Rattle.steps.specs.declared.Destination.TheVariants.{One}
use Rattle.steps.specs.declared.Heard.{Heard}
use Rattle.agreement.proofs.Tests.{by_choice, by_both, by_equals}
use Rattle.agreement.specs.Model.{View, ModelAnswers, Host, ModelOutcome, add, holding_other_value, prepared_by, model_voted, model_refused, model_sends, quiet, ModelSetup, model_on_prepare, model_gathers, model_promised, model_counted}
use Rattle.agreement.specs.Model as model
use Rattle.group.specs.Claim.{member_settings}
use Rattle.group.proofs.View.{round_number, LeaderFits, leader_of, leader_of_lem, before_number, equal_number, proposer_of, is_e_paxos, view_of, Leaders, model_setup_of, Follows}
use Rattle.group.proofs.Entering.{add_again, in_round_leaders, in_round_round, counted_add, enter_follows}

-- ---- what is held

abbrev pub asked_by : Settings → ℕ → Asked
asked_by s i = asked_of (member_settings s i)

-- the view with another promise held and another set prepared
abbrev with_held : ModelAnswers → Core → Option RoundV → (ℕ → Bool) → View
with_held ans core held f =
    record {
      slot = core.slot;
      round = round_number core.paxos.round;
      holds = is_some held;
      held_round = round_number (get_last_accepted_round held);
      held_proposer = proposer_of (held_rv held);
      held_value = held_value held;
      prepared = f;
      accepted = contains core.paxos.accepted_set;
      answers = ans;
    }

-- the view with a value accepted in the round of a number, and another set of accepts
abbrev pub view_with_accepted : ModelAnswers → Core → ℕ → ℕ → (ℕ → Bool) → View
view_with_accepted ans core v r f =
    record {
      slot = core.slot;
      round = round_number core.paxos.round;
      holds = true;
      held_round = r;
      held_proposer = 0;
      held_value = v;
      prepared = contains core.paxos.prepared_set;
      accepted = f;
      answers = ans;
    }

-- a promise replaces what is held where its accept round is later
promise_cond : (held : Option RoundV) (rv : RoundV) → is_some held ≡ true
    → held_after_promise held rv ≡ cond (before (get_last_accepted_round held) (accept_round_of rv)) (Some rv) held
unfolding held_after_promise
promise_cond None rv e = absurd (not_both e refl)
promise_cond (Some old) rv e = refl

value_held_lem : (held : Option RoundV) → is_some held ≡ true → get_v held ≡ Some (held_value held)
value_held_lem None e = absurd (not_both e refl)
value_held_lem (Some rv) e = refl

pub nothing_held_lem : (held : Option RoundV) → is_some held ≡ false → held ≡ None
nothing_held_lem None e = refl
nothing_held_lem (Some rv) e = absurd (not_both refl e)

-- the promise that is held reports what the view holds
report : (held : Option RoundV) → is_some held ≡ true
    → round_number (accept_round_of (held_rv held)) ≡ round_number (get_last_accepted_round held)
report None e = absurd (not_both e refl)
report (Some rv) e = refl

not_leb : (a b : ℕ) → not (leb a b) ≡ ltb b a
not_leb a b = by_cases (leb a b) (λ e. ap not e ∙ sym (le-ltb b a (leb-true a b e))) (λ e. ap not e ∙ sym (lt-ltb b a (leb-false a b e)))

-- a step and an outcome, each put in another's place
pub follows_both : {S : ModelSetup} {ans : ModelAnswers} {step t : Result CoreStep Refusal} {r o : ModelOutcome} → step ≡ t → r ≡ o → Follows S ans t o → Follows S ans step r
follows_both {S} {ans} e d f = by_equals (Follows S ans) e d f

-- in the classic modes a handler makes a step of the core
pub same_steps : (S : ModelSetup) (ans : ModelAnswers) (step : Result CoreStep Refusal) (r : ModelOutcome) → Follows S ans step r → Follows S ans (map_step (λ t. t) step) r
same_steps S ans (Ok step) r f = f
same_steps S ans (Err why) r f = f

-- ---- the first promise that is held, and one's own accept

module _ (ans : ModelAnswers) (s : Settings) (i : ℕ) (alive : contains s.alive_replicas i ≡ true) (small : i < 64) where
  pub first_view : (core : Core) (rv : RoundV) → is_some core.paxos.max_rv ≡ false
      → view_of ans (with_paxos (receive_promise (asked_by s i).member i rv core.paxos) core)
      ≡ prepared_by i (holding_other_value (round_number (accept_round_of rv)) (proposer_of rv) (value_of rv) (view_of ans core))
  unfolding receive_promise held_after_promise
  first_view core rv none =
      ap₂ (with_held ans core) (ap (λ (m : Option RoundV). held_after_promise m rv) (nothing_held_lem core.paxos.max_rv none))
      (counted_add (asked_by s i).member i core.paxos.prepared_set alive small small ∙ add_again i (contains core.paxos.prepared_set))

  first_leaders : (core : Core) (rv : RoundV) → Leaders core → is_some core.paxos.max_rv ≡ false → LeaderFits (accept_round_of rv)
      → Leaders (with_paxos (receive_promise (asked_by s i).member i rv core.paxos) core)
  unfolding receive_promise held_after_promise
  first_leaders core rv ok none fits =
      record {
        in_round_lem = ok.in_round_lem;
        in_held = subst (λ (m : Option RoundV). LeaderFits (get_last_accepted_round (held_after_promise m rv))) (sym (nothing_held_lem core.paxos.max_rv none)) fits;
      }

  pub first_held : (core : Core) (rv : RoundV) → is_some core.paxos.max_rv ≡ false
      → is_some (receive_promise (asked_by s i).member i rv core.paxos).max_rv ≡ true
  unfolding receive_promise held_after_promise
  first_held core rv none = ap (λ (m : Option RoundV). is_some (held_after_promise m rv)) (nothing_held_lem core.paxos.max_rv none)

  first_round : (core : Core) (rv : RoundV) → (receive_promise (asked_by s i).member i rv core.paxos).round ≡ core.paxos.round
  unfolding receive_promise
  first_round core rv = refl

  pub own_accept_view : (round : PaxosRound) (core : Core) (v : ℕ) → core.paxos.round ≡ Some round
      → view_of ans (with_paxos (after_accept (asked_by s i).member i round v core.paxos) core) ≡ model_voted i v (view_of ans core)
  own_accept_view round core v at =
      ap₂ (view_with_accepted ans core v) (ap round_number (sym at))
      (counted_add (asked_by s i).member i core.paxos.accepted_set alive small small ∙ add_again i (contains core.paxos.accepted_set))

module _ (ans : ModelAnswers) (s : Settings) (i : ℕ) (no-swift : is_swift_paxos s.mode ≡ false) (alive : contains s.alive_replicas i ≡ true) (small : i < 64) (h : Heard) (src-small : h.src < 64) (round : PaxosRound) (below : round.leader < 64) (host : Host) where
  -- ---- the accept phase

  -- the value that the delegate picks
  abbrev picked : View → ModelOutcome
  picked x = model_sends (model_voted i x.held_value x) (record { destination = model.all; message = model.accept x.slot x.round x.held_value } ∷ [])

  pub broadcast_classic : (core : Core) → broadcast_accept (asked_by s i) round core
      ≡ stays (left_fast_path core) (one_message (sends (asked_by s i) core to_all (Accept core.slot round (held_value core.paxos.max_rv))))
  unfolding broadcast_accept
  broadcast_classic core = simp no-swift

  broadcast_follows : (core : Core) → core.paxos.round ≡ Some round
      → Follows (model_setup_of s) ans (Ok (broadcast_accept (asked_by s i) round (with_paxos (after_accept (asked_by s i).member i round (held_value core.paxos.max_rv) core.paxos) core)))
      (picked (view_of ans core))
  broadcast_follows core at =
      subst (λ (t : CoreStep). Follows (model_setup_of s) ans (Ok t) (picked (view_of ans core))) (sym (broadcast_classic (with_paxos (after_accept (asked_by s i).member i round (held_value core.paxos.max_rv) core.paxos) core)))
      (record {
        seen_as =
            ap₂ (λ (x : View) (r : ℕ). model_sends x (record { destination = model.all; message = model.accept core.slot r (held_value core.paxos.max_rv) } ∷ []))
            (own_accept_view ans s i alive small round core (held_value core.paxos.max_rv) at)
            (ap round_number (sym at));
      })

  -- the accept phase: the delegate accepts what it holds, unless something is accepted already
  phase_follows : (core : Core) → core.paxos.round ≡ Some round → is_some core.paxos.max_rv ≡ true → (x0 : View)
      → Follows (model_setup_of s) ans (accept_phase (asked_by s i) round core) (cond ((view_of ans core).accepted i) (model_refused x0) (picked (view_of ans core)))
  unfolding accept_phase self_accept accept_own receive_accept
  phase_follows core at held x0 =
      by_choice (λ (p : Result PaxosState Refusal). PhaseFollows p (cond ((view_of ans core).accepted i) (model_refused x0) (picked (view_of ans core)))) (is_empty core.paxos.accepted_set)
      (λ e. by_equals PhaseFollows (ap (accept_own (asked_by s i).member round core.paxos) (value_held_lem core.paxos.max_rv held))
      (ap (λ (n : ℕ). cond (contains n i) (model_refused x0) (picked (view_of ans core))) (eqb-true core.paxos.accepted_set 0 e)
      ∙ ap (λ (t : Bool). cond t (model_refused x0) (picked (view_of ans core))) (contains_empty i))
      (by_choice (λ (p : Result PaxosState Refusal). PhaseFollows p (picked (view_of ans core))) (accept_fits core.paxos.max_rv round (held_value core.paxos.max_rv)) (λ f. broadcast_follows core at)
      (λ f. record { seen_as = tt })))
      (λ e. record { seen_as = tt })
    where
      PhaseFollows : Result PaxosState Refusal → ModelOutcome → Type 0
      PhaseFollows p r = Follows (model_setup_of s) ans (after_own_accept (asked_by s i) round core p) r

  -- ---- the promise counted

  pub promise_view : (core : Core) (rv : RoundV) → Leaders core → is_some core.paxos.max_rv ≡ true → LeaderFits (accept_round_of rv)
      → view_of ans (with_paxos (receive_promise (asked_by s i).member h.src rv core.paxos) core)
      ≡ model_counted (model_setup_of s) i h.src (round_number (accept_round_of rv)) (proposer_of rv) (value_of rv) (view_of ans core)
  unfolding receive_promise model_counted
  promise_view core rv ok held fits =
      ap₂ (with_held ans core) (promise_cond core.paxos.max_rv rv held) (counted_add (asked_by s i).member h.src core.paxos.prepared_set alive small src-small)
      ∙ by_both (λ (m : Option RoundV) (x : View). with_held ans core m (add i (add h.src (contains core.paxos.prepared_set))) ≡ prepared_by i (prepared_by h.src x))
      (before (get_last_accepted_round core.paxos.max_rv) (accept_round_of rv)) (ltb (view_of ans core).held_round (round_number (accept_round_of rv)))
      (before_number (get_last_accepted_round core.paxos.max_rv) (accept_round_of rv) ok.in_held fits) (λ t. refl) (λ t. refl)

  completes_model : (core : Core) (rv : RoundV)
      → (ltb (count (view_of ans core).prepared 64) (quorums_of s).majority && leb (quorums_of s).majority (count (view_of ans (with_promise (asked_by s i) h rv core)).prepared 64))
      ≡ becomes_prepared (asked_by s i) core (with_promise (asked_by s i) h rv core)
  unfolding becomes_prepared size
  completes_model core rv =
      ap (λ (t : Bool). t && leb (quorums_of s).majority (count (view_of ans (with_promise (asked_by s i) h rv core)).prepared 64))
      (sym (not_leb (quorums_of s).majority (count (contains core.paxos.prepared_set) 64)))

  held_promised : (held : Option RoundV) (rv : RoundV) → is_some held ≡ true → is_some (held_after_promise held rv) ≡ true
  held_promised held rv e =
      ap is_some (promise_cond held rv e) ∙ of-both (λ (m : Option RoundV). is_some m ≡ true) (before (get_last_accepted_round held) (accept_round_of rv)) refl e

  pub gather_follows : (core : Core) (rv : RoundV) → Leaders core → core.paxos.round ≡ Some round → is_some core.paxos.max_rv ≡ true → LeaderFits (accept_round_of rv) → (x0 : View)
      → Follows (model_setup_of s) ans (gather (asked_by s i) h round rv core)
      (model.picks (model_setup_of s) i x0 (view_of ans core) (model_counted (model_setup_of s) i h.src (round_number (accept_round_of rv)) (proposer_of rv) (value_of rv) (view_of ans core)))
  unfolding receive_promise gather model.picks model.casts
  gather_follows core rv ok at held fits x0 =
      subst
      (λ (x : View).
      Follows (model_setup_of s) ans (gather (asked_by s i) h round rv core) (model.picks (model_setup_of s) i x0 (view_of ans core) x))
      (promise_view core rv ok held fits)
      (by_both (Follows (model_setup_of s) ans) (becomes_prepared (asked_by s i) core promised)
      (ltb (count (view_of ans core).prepared 64) (quorums_of s).majority && leb (quorums_of s).majority (count (view_of ans promised).prepared 64)) (sym (completes_model core rv))
      (λ e. phase_follows promised at (held_promised core.paxos.max_rv rv held) x0) (λ e. record { seen_as = refl }))
    where
      promised : Core
      promised = with_promise (asked_by s i) h rv core

  -- ---- the answer to a Prepare

  delegate_number : (core : Core) → core.paxos.round ≡ Some round → h.delegate ≡ delegate_of s s.mode round.leader
      → (model_setup_of s).voters.delegate (view_of ans core).round ≡ h.delegate
  delegate_number core at d = ap (λ (r : Option PaxosRound). delegate_of s s.mode (leader_of (round_number r))) at ∙ ap (delegate_of s s.mode) (leader_of_lem round below) ∙ sym d

  answers_nothing_lem : (core : Core) → Leaders core → core.paxos.round ≡ Some round
      → answers_nothing (asked_by s i) h round core ≡ eqb (view_of ans core).held_round (view_of ans core).round
  unfolding answers_nothing
  answers_nothing_lem core ok at =
      ap (λ (t : Bool). (t && eqb h.delegate round.leader) || equal (get_last_accepted_round core.paxos.max_rv) (Some round)) no-swift
      ∙ ap (equal (get_last_accepted_round core.paxos.max_rv)) (sym at)
      ∙ equal_number (get_last_accepted_round core.paxos.max_rv) core.paxos.round ok.in_held ok.in_round_lem

  -- what the model makes of it
  abbrev promised_by : Core → RoundV → View → ModelOutcome
  promised_by core rv x0 = model_promised (model_setup_of s) i h.src (round_number (accept_round_of rv)) (proposer_of rv) (value_of rv) host x0 (view_of ans core)

  -- what the delegate makes of the promise, as the model does: `rest` is what the handler makes of it
  module _ (X : Type 0) (lift : CoreStep → X) (Fits : Result X Refusal → ModelOutcome → Type 0) (lifted : (step : Result CoreStep Refusal) (r : ModelOutcome) → Follows (model_setup_of s) ans step r → Fits (map_step lift step) r)
      (rv : RoundV) (fits : LeaderFits (accept_round_of rv)) (delegate_of_lem : h.delegate ≡ delegate_of s s.mode round.leader) (x0 : View) (rest : Core → Result X Refusal)
      (rest-follows : (core : Core) → Leaders core → core.paxos.round ≡ Some round → is_some core.paxos.max_rv ≡ true
      → Fits (rest core) (model_gathers (model_setup_of s) i h.src (proposer_of rv) (value_of rv) host x0 (view_of ans core)
      (model_counted (model_setup_of s) i h.src (round_number (accept_round_of rv)) (proposer_of rv) (value_of rv) (view_of ans core)))) where
    preparing_follows : (core : Core) → Leaders core → core.paxos.round ≡ Some round → is_some core.paxos.max_rv ≡ true
        → Fits (then_in lift (preparing (asked_by s i) h round core) rest) (promised_by core rv x0)
    unfolding preparing answer_prepare model_promised
    preparing_follows core ok at held =
        by_both ThenFits (eqb h.delegate i) (eqb ((model_setup_of s).voters.delegate (view_of ans core).round) i) (ap (λ (p : ℕ). eqb p i) (sym to_delegate))
        (λ e. rest-follows core ok at held)
        (λ e. by_both ThenFits (answers_nothing (asked_by s i) h round core) (eqb (view_of ans core).held_round (view_of ans core).round) (answers_nothing_lem core ok at)
        (λ n. lifted (Ok (stays core no_messages)) (quiet (view_of ans core)) (record { seen_as = refl }))
        (λ n. by_choice (λ (step : Result CoreStep Refusal). ThenFits step (answer ((model_setup_of s).voters.delegate (view_of ans core).round) (view_of ans core).round (view_of ans core).held_round))
        (eqb h.delegate h.src || not (eqb h.delegate round.leader))
        (λ m. lifted (Ok (stays core (one_message (sends (asked_by s i) core (One h.delegate) (Prepare core.slot round (held_rv core.paxos.max_rv)))))) _
        (record {
          seen_as =
              ap₂ (λ (p r : ℕ). answer p r (round_number (accept_round_of (held_rv core.paxos.max_rv)))) (sym to_delegate) (ap round_number (sym at))
              ∙ ap (answer ((model_setup_of s).voters.delegate (view_of ans core).round) (view_of ans core).round) (report core.paxos.max_rv held);
        }))
        (λ m. lifted (Err Panic) _ (record { seen_as = tt }))))
      where
        ThenFits : Result CoreStep Refusal → ModelOutcome → Type 0
        ThenFits step r = Fits (then_in lift step rest) r

        to_delegate : (model_setup_of s).voters.delegate (view_of ans core).round ≡ h.delegate
        to_delegate = delegate_number core at delegate_of_lem

        answer : ℕ → ℕ → ℕ → ModelOutcome
        answer p r a =
            model_sends (view_of ans core)
            (record { destination = model.to p; message = model.prepare core.slot r a (view_of ans core).held_proposer (view_of ans core).held_value } ∷ [])

    -- ---- a Prepare in the round of the core

    pub in_prepare_follows : (core : Core) → Leaders core → core.paxos.round ≡ Some round
        → Fits (then_in lift (prepare_answered (asked_by s i) h round rv core) rest)
        (model_promised (model_setup_of s) i h.src (round_number (accept_round_of rv)) (proposer_of rv) (value_of rv) host x0
        (cond (view_of ans core).holds (view_of ans core) (prepared_by i (holding_other_value (round_number (accept_round_of rv)) (proposer_of rv) (value_of rv) (view_of ans core)))))
    unfolding prepare_answered hold_first paxos_propose_v
    in_prepare_follows core ok at =
        by_both HeldFits (is_some core.paxos.max_rv) (view_of ans core).holds refl (λ e. preparing_follows core ok at e)
        (λ e. by_choice FirstFits (is_some core.paxos.max_rv) (λ f. absurd (not_both f e))
        (λ f. by_choice FirstFits (is_empty core.paxos.prepared_set)
        (λ n. subst (λ (x : View). HeldFits (Ok first) x) (first_view ans s i alive small core rv e)
        (preparing_follows (with_paxos first core) (first_leaders ans s i alive small core rv ok e fits) (first_round ans s i alive small core rv ∙ at) (first_held ans s i alive small core rv e)))
        (λ n. lifted (Err Panic) _ (record { seen_as = tt }))))
      where
        first : PaxosState
        first = receive_promise (asked_by s i).member i rv core.paxos

        HeldFits : Result PaxosState Refusal → View → Type 0
        HeldFits p x = Fits (then_in lift (after_held (asked_by s i) h round core p) rest) (model_promised (model_setup_of s) i h.src (round_number (accept_round_of rv)) (proposer_of rv) (value_of rv) host x0 x)

        FirstFits : Result PaxosState Refusal → Type 0
        FirstFits p = HeldFits p (prepared_by i (holding_other_value (round_number (accept_round_of rv)) (proposer_of rv) (value_of rv) (view_of ans core)))

  -- without a fast path the delegate picks what it holds
  gathers_classic : is_e_paxos s.mode ≡ false → (c v : ℕ) (x0 old x : View) → model_gathers (model_setup_of s) i h.src c v host x0 old x ≡ model.picks (model_setup_of s) i x0 old x
  unfolding model_gathers
  gathers_classic e c v x0 old x = simp e

-- A Prepare is the model's.
pub on_prepare_follows : (ans : ModelAnswers) (s : Settings) (i : ℕ) → is_swift_paxos s.mode ≡ false → is_e_paxos s.mode ≡ false → i < 64 → (h : Heard) → h.src < 64 → (slot : ℕ) (round : PaxosRound) → round.leader < 64 → (rv : RoundV) → LeaderFits (accept_round_of rv)
    → h.source_live ≡ contains s.alive_replicas h.src → h.delegate ≡ delegate_of s s.mode round.leader → (core : Core) → Leaders core → slot ≤ core.slot → (host : Host)
    → Follows (model_setup_of s) ans (on_prepare (asked_by s i) h slot round rv core)
    (model_on_prepare (model_setup_of s) i (view_of ans core) h.src slot (round_number (Some round)) (round_number (accept_round_of rv)) (proposer_of rv) (value_of rv) host)
unfolding on_prepare model_on_prepare entered_prepare
on_prepare_follows ans s i no-swift slow small h src slot round below rv fits live d core ok le host =
    enter_follows ans s i no-swift core h slot round CoreStep (λ t. t) (Follows (model_setup_of s) ans) (same_steps (model_setup_of s) ans) ok below live le (entered_prepare (asked_by s i) h round rv) _
    (λ alive same no-older.
    in_prepare_follows ans s i no-swift alive small h src round below host CoreStep (λ t. t) (Follows (model_setup_of s) ans) (same_steps (model_setup_of s) ans) rv fits d (view_of ans core) (gather (asked_by s i) h round rv)
    (λ core1 ok1 at1 held1.
    subst (Follows (model_setup_of s) ans (gather (asked_by s i) h round rv core1)) (sym (gathers_classic ans s i no-swift alive small h src round below host slow (proposer_of rv) (value_of rv) (view_of ans core) (view_of ans core1) _))
    (gather_follows ans s i no-swift alive small h src round below host core1 rv ok1 at1 held1 fits (view_of ans core)))
    (in_round round core) (in_round_leaders round core ok below) (in_round_round round core no-older))

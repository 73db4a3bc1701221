-- A Prepare, an Accept and a proposal in EPaxos are the model's.
-- Assumes nothing.
use Rattle.std.specs.Prelude.{Option, None, Some, is_some, Result, Ok, Err}
use Rattle.std.proofs.Math.Bool.{not-not}
use mathlib.Core.Path.{◌≡◌, refl, sym, ap, ap₂, ◌∙◌}
use mathlib.Core.Bool.{Bool, true, false, cond, not, ◌&&◌}
use mathlib.Core.List.{List, [], ◌∷◌}
use Prim.Native.Nat.{ℕ, suc, ◌+◌, ◌*◌, ◌≤◌, ◌<◌}
use lib.Dec.{eqb, eqb-suc-zero}
use borrow.Author.Tests.{eq-eqb, eqb-true}
use Rattle.basics.proofs.Tests.{by_cases, and_left, not_both}
use Rattle.basics.specs.sets.Sets.{contains, count, size, is_empty}
use Rattle.basics.proofs.sets.Laws.{contains_empty, size_empty}
use Rattle.basics.specs.tables.Tables.{look_up}
use Rattle.message.specs.Modes.{is_multi_paxos, is_swift_paxos}
use Rattle.message.specs.Promises.{value_of, accept_round_of}
use Rattle.message.specs.declared.PaxosRound.{PaxosRound}
use Rattle.message.specs.declared.Refusal.{Refusal}
use Rattle.message.specs.declared.RoundV.{RoundV}
use Rattle.message.specs.declared.RoundV.TheVariants.{FastV}
use Rattle.round_state.specs.Paxos.{get_last_accepted_round, receive_promise}
use Rattle.settings.specs.Questions.{delegate_of, committer_of}
use Rattle.settings.specs.declared.Settings.{Settings}
use Rattle.fast_state.specs.Adopt.{ProposerChoice}
use Rattle.fast_state.specs.Fast.{answers_of, unchanged, changed, is_unanswered, epaxos_counted, epaxos_answered, epaxos_propose_v}
use Rattle.fast_state.specs.declared.FastAnswers.{FastAnswers}
use Rattle.fast_state.specs.declared.FastChange.{FastChange}
use Rattle.fast_state.specs.declared.FastState.{FastState}
use Rattle.classic.specs.accept.Accept.{accepting}
use Rattle.steps.specs.enter.Enter.{in_round}
use Rattle.fast.specs.epaxos.EPaxos.{epaxos_answer}
use Rattle.classic.specs.prepare.Prepare.{prepare_answered, accept_phase, with_promise, becomes_prepared, gather, has_accepted}
use Rattle.fast.specs.swift.Swift.{swift_client_prepare, swift_answered_accept}
use Rattle.paxos_family.specs.Process.{fast_prepared, fast_promised, leads_round, starts_accept, waits, fast_answered, fast_gather, entered_fast_prepare, on_fast_prepare, after_replica_accept, replica_accept, entered_fast_accept, on_fast_accept}
use Rattle.propose.specs.Propose.{electing, proposal_round, propose_prepare, may_propose, after_own_answer, own_answer, leads_from_start, propose_change}
use Rattle.steps.specs.Steps.{CoreStep, no_messages, stays, continues, then_in, map_step, with_change}
use Rattle.steps.specs.declared.Asked.{Asked}
use Rattle.steps.specs.declared.ChangeStep.{ChangeStep}
use Rattle.steps.specs.declared.Core.{Core}
use Rattle.steps.specs.declared.Heard.{Heard}
use Rattle.agreement.proofs.Tests.{by_choice, by_both, by_equals}
use Rattle.agreement.specs.Model.{View, ModelAnswers, Host, in_later_round, holding_other_value, prepared_by, with_answers, model_sends, ModelOutcome, model_own_answer, model_on_prepare, model_on_accept, model_on_propose, model_gathers, model_promised, model_counted}
use Rattle.agreement.specs.Model as model
use Rattle.group.specs.Claim.{PicksBest}
use Rattle.group.proofs.View.{round_number, LeaderFits, process_number, proposer_of, is_e_paxos, model_answers_of, view_of, Leaders, model_setup_of, Follows}
use Rattle.group.proofs.Entering.{in_round_leaders, in_round_round, enter_follows}
use Rattle.group.proofs.Preparing.{asked_by, follows_both, promise_view, gather_follows, in_prepare_follows}
use Rattle.group.proofs.Accepting.{ends, on_accept_follows}
use Rattle.group.proofs.Proposing.{Allowed, allowed, promised, prepare_step, promised_view, may_model, first_own}
use Rattle.group.proofs.Answering.{FastFits, counted_answers, FollowsChange, changes_follow, lifted, host_for, ProposerFits, answer_follows}

-- a round is none exactly where its number is 0
round_number_lem : (r : Option PaxosRound) → is_some r ≡ not (eqb (round_number r) 0)
round_number_lem None = refl
round_number_lem (Some r) = ap not (sym (eqb-suc-zero (r.round_group * 64 + r.leader)))

-- what the delegate makes of a promise: by whether it completes a majority behind an accepted value, and whether a value was accepted
module _ (choose : ProposerChoice) (a : Asked) (h : Heard) (round : PaxosRound) (rv : RoundV) where
  abbrev pub gathered : FastAnswers → List ℕ → List ℕ → Core → Bool → Bool → Result ChangeStep Refusal
  gathered answers values scores promised starts slow =
      cond starts (map_step (with_change (unchanged answers)) (accept_phase a round promised))
      (cond slow (Ok (with_change (unchanged answers) (stays promised no_messages))) (epaxos_answer choose a h round rv promised answers values scores))

  gather_by : (core : Core) (answers : FastAnswers) (values scores swifts : List ℕ) → a.member.replica ≡ true → is_swift_paxos a.mode ≡ false
      → fast_gather choose a h round rv core answers values scores swifts
      ≡ gathered answers values scores (with_promise a h rv core) (has_accepted (with_promise a h rv core) && becomes_prepared a core (with_promise a h rv core)) (has_accepted (with_promise a h rv core))
  unfolding fast_gather starts_accept waits fast_promised fast_answered
  gather_by core answers values scores swifts replica no-swift =
      ap (λ (t : Bool). by_mode (cond t (with_promise a h rv core) core) (is_swift_paxos a.mode)) replica ∙ ap (by_mode (with_promise a h rv core)) no-swift
    where
      by_mode : Core → Bool → Result ChangeStep Refusal
      by_mode promised t =
          cond (cond t (leads_round a round && not (has_accepted promised)) (has_accepted promised && becomes_prepared a core promised)) (map_step (with_change (unchanged answers)) (accept_phase a round promised))
          (cond (cond t (leads_round a round) (has_accepted promised)) (Ok (with_change (unchanged answers) (stays promised no_messages)))
          (cond t (swift_client_prepare a h round rv promised answers swifts) (epaxos_answer choose a h round rv promised answers values scores)))

-- where nobody has answered the set of answers is empty
empty_set : (fast : FastState) → is_unanswered (answers_of fast) ≡ true → fast.fast_answer_set ≡ 0
unfolding is_unanswered
empty_set fast e =
    eqb-true fast.fast_answer_set 0
    (and_left (is_empty fast.fast_answer_set) (eqb fast.fast_preaccepted 0) (and_left (is_empty fast.fast_answer_set && eqb fast.fast_preaccepted 0) (is_empty fast.fast_proposers) e))

no_answers_lem : (fast : FastState) → is_unanswered (answers_of fast) ≡ true → eqb (count (contains fast.fast_answer_set) 64) 0 ≡ true
unfolding size
no_answers_lem fast e = eq-eqb (count (contains fast.fast_answer_set) 64) 0 (ap (λ (n : ℕ). count (contains n) 64) (empty_set fast e) ∙ size_empty)

module _ (choose : ProposerChoice) (picks_best : PicksBest choose) (s : Settings) (i : ℕ) (no-swift : is_swift_paxos s.mode ≡ false) (epaxos : is_e_paxos s.mode ≡ true) (small : i < 64) (fast : FastState) (ok : FastFits fast) where
  abbrev pub values : List ℕ
  values = fast.fast_proposer_to_v

  abbrev pub scores : List ℕ
  scores = fast.epaxos_proposer_scores

  abbrev swifts : List ℕ
  swifts = fast.swift_proposer_scores

  abbrev pub lift : CoreStep → ChangeStep
  lift = with_change (unchanged (answers_of fast))

  module _ (h : Heard) (src-small : h.src < 64) (round : PaxosRound) (below : round.leader < 64) where
    module _ (alive : contains s.alive_replicas i ≡ true) (rv : RoundV) (fits : LeaderFits (accept_round_of rv)) (proposer-fits : ProposerFits rv) (x0 : View)
        (core : Core) (leaders : Leaders core) (at : core.paxos.round ≡ Some round) (held : is_some core.paxos.max_rv ≡ true) where
      abbrev host : Host
      host = host_for choose s i h.src fast rv

      abbrev promised_core : Core
      promised_core = with_promise (asked_by s i) h rv core

      -- ---- what the delegate makes of a promise

      gather_slow : has_accepted promised_core ≡ true
          → fast_gather choose (asked_by s i) h round rv core (answers_of fast) values scores swifts ≡ map_step lift (gather (asked_by s i) h round rv core)
      unfolding gather
      gather_slow e =
          gather_by choose (asked_by s i) h round rv core (answers_of fast) values scores swifts alive no-swift
          ∙ ap (λ (t : Bool). gathered choose (asked_by s i) h round rv (answers_of fast) values scores promised_core (t && becomes_prepared (asked_by s i) core promised_core) t) e
          ∙ by_both (λ (x : Result ChangeStep Refusal) (y : Result CoreStep Refusal). x ≡ map_step lift y) (becomes_prepared (asked_by s i) core promised_core) (becomes_prepared (asked_by s i) core promised_core) refl
          (λ t. refl) (λ t. refl)

      gather_fast : has_accepted promised_core ≡ false
          → fast_gather choose (asked_by s i) h round rv core (answers_of fast) values scores swifts ≡ epaxos_answer choose (asked_by s i) h round rv promised_core (answers_of fast) values scores
      gather_fast e =
          gather_by choose (asked_by s i) h round rv core (answers_of fast) values scores swifts alive no-swift
          ∙ ap (λ (t : Bool). gathered choose (asked_by s i) h round rv (answers_of fast) values scores promised_core (t && becomes_prepared (asked_by s i) core promised_core) t) e

      abbrev counted_view : View
      counted_view = view_of (model_answers_of fast) promised_core

      held_number : eqb counted_view.held_round 0 ≡ not (has_accepted promised_core)
      held_number = sym (ap not (round_number_lem (get_last_accepted_round promised_core.paxos.max_rv)) ∙ not-not _)

      model_slow : has_accepted promised_core ≡ true → (c v : ℕ) (old : View)
          → model_gathers (model_setup_of s) i h.src c v host x0 old counted_view ≡ model.picks (model_setup_of s) i x0 old counted_view
      unfolding model_gathers
      model_slow e c v old = let z = held_number ∙ ap not e in simp (epaxos, z)

      model_fast : has_accepted promised_core ≡ false → (c v : ℕ) (old : View)
          → model_gathers (model_setup_of s) i h.src c v host x0 old counted_view ≡ model.answering (model_setup_of s) i h.src c v host x0 counted_view
      unfolding model_gathers
      model_fast e c v old = let z = held_number ∙ ap not e in simp (epaxos, z)

      abbrev old_view : View
      old_view = view_of (model_answers_of fast) core

      fast_gather_follows : FollowsChange (model_setup_of s) fast (fast_gather choose (asked_by s i) h round rv core (answers_of fast) values scores swifts)
          (model_gathers (model_setup_of s) i h.src (proposer_of rv) (value_of rv) host x0 old_view
          (model_counted (model_setup_of s) i h.src (round_number (accept_round_of rv)) (proposer_of rv) (value_of rv) old_view))
      unfolding receive_promise
      fast_gather_follows =
          by_cases (has_accepted promised_core)
          (λ e. by_equals (FollowsChange (model_setup_of s) fast) (gather_slow e)
          (ap (model_gathers (model_setup_of s) i h.src (proposer_of rv) (value_of rv) host x0 old_view) (sym counted_lem) ∙ model_slow e (proposer_of rv) (value_of rv) old_view ∙ ap (model.picks (model_setup_of s) i x0 old_view) counted_lem)
          (lifted (model_setup_of s) fast (gather (asked_by s i) h round rv core) _ (gather_follows (model_answers_of fast) s i no-swift alive small h src-small round below host core rv leaders at held fits x0)))
          (λ e. by_equals (FollowsChange (model_setup_of s) fast) (gather_fast e)
          (ap (model_gathers (model_setup_of s) i h.src (proposer_of rv) (value_of rv) host x0 old_view) (sym counted_lem) ∙ model_fast e (proposer_of rv) (value_of rv) old_view)
          (answer_follows choose picks_best s i no-swift epaxos alive small h src-small round below x0 promised_core at fast ok rv proposer-fits))
        where
          counted_lem : counted_view ≡ model_counted (model_setup_of s) i h.src (round_number (accept_round_of rv)) (proposer_of rv) (value_of rv) old_view
          counted_lem = promise_view (model_answers_of fast) s i no-swift alive small h src-small round below host core rv leaders held fits

    -- ---- a Prepare

    in_fast_prepare_follows : contains s.alive_replicas i ≡ true → (rv : RoundV) → LeaderFits (accept_round_of rv) → ProposerFits rv → h.delegate ≡ delegate_of s s.mode round.leader → (x0 : View)
        → (core : Core) → Leaders core → core.paxos.round ≡ Some round
        → FollowsChange (model_setup_of s) fast (entered_fast_prepare choose (asked_by s i) h round rv core (answers_of fast) values scores swifts)
        (model_promised (model_setup_of s) i h.src (round_number (accept_round_of rv)) (proposer_of rv) (value_of rv) (host_for choose s i h.src fast rv) x0
        (cond (view_of (model_answers_of fast) core).holds (view_of (model_answers_of fast) core) (prepared_by i (holding_other_value (round_number (accept_round_of rv)) (proposer_of rv) (value_of rv) (view_of (model_answers_of fast) core)))))
    unfolding entered_fast_prepare fast_prepared
    in_fast_prepare_follows alive rv fits proposer-fits d x0 core leaders at =
        by_equals (FollowsChange (model_setup_of s) fast)
        (ap (λ (t : Bool). then_in lift (cond t (prepare_answered (asked_by s i) h round rv core) (Ok (continues core no_messages))) (λ c. fast_gather choose (asked_by s i) h round rv c (answers_of fast) values scores swifts)) alive)
        refl
        (in_prepare_follows (model_answers_of fast) s i no-swift alive small h src-small round below (host_for choose s i h.src fast rv) ChangeStep lift (FollowsChange (model_setup_of s) fast) (lifted (model_setup_of s) fast) rv fits d x0
        (λ c. fast_gather choose (asked_by s i) h round rv c (answers_of fast) values scores swifts)
        (λ core1 leaders1 at1 held1. fast_gather_follows alive rv fits proposer-fits x0 core1 leaders1 at1 held1)
        core leaders at)

    pub fast_prepare_follows : (slot : ℕ) (rv : RoundV) → LeaderFits (accept_round_of rv) → ProposerFits rv
        → h.source_live ≡ contains s.alive_replicas h.src → h.delegate ≡ delegate_of s s.mode round.leader → (core : Core) → Leaders core → slot ≤ core.slot
        → FollowsChange (model_setup_of s) fast (on_fast_prepare choose (asked_by s i) h slot round rv core (answers_of fast) values scores swifts)
        (model_on_prepare (model_setup_of s) i (view_of (model_answers_of fast) core) h.src slot (round_number (Some round)) (round_number (accept_round_of rv)) (proposer_of rv) (value_of rv) (host_for choose s i h.src fast rv))
    unfolding on_fast_prepare model_on_prepare
    fast_prepare_follows slot rv fits proposer-fits live d core leaders le =
        enter_follows (model_answers_of fast) s i no-swift core h slot round ChangeStep lift (FollowsChange (model_setup_of s) fast) (lifted (model_setup_of s) fast) leaders below live le
        (λ c. entered_fast_prepare choose (asked_by s i) h round rv c (answers_of fast) values scores swifts) _
        (λ alive same no-older.
        in_fast_prepare_follows alive rv fits proposer-fits d (view_of (model_answers_of fast) core) (in_round round core) (in_round_leaders round core leaders below) (in_round_round round core no-older))

    -- ---- an Accept

    -- what a replica makes of an Accept goes no further
    replica_follows : (v : ℕ) (step : Result CoreStep Refusal) (r : ModelOutcome) → Follows (model_setup_of s) (model_answers_of fast) step r
        → FollowsChange (model_setup_of s) fast (after_replica_accept (asked_by s i) h round v (answers_of fast) swifts step) r
    replica_follows v (Ok step) r f =
        ends (model_setup_of s) (model_answers_of fast) ChangeStep lift (FollowsChange (model_setup_of s) fast) (lifted (model_setup_of s) fast) step r
        (λ c. swift_answered_accept (asked_by s i) h round v c step.messages (answers_of fast) swifts) f
    replica_follows v (Err why) r f = record { seen_as = tt }

    pub fast_accept_follows : (slot v : ℕ) → h.source_live ≡ contains s.alive_replicas h.src → h.delegate ≡ delegate_of s s.mode round.leader
        → h.committer ≡ committer_of s h.requester → (core : Core) → Leaders core → slot ≤ core.slot
        → FollowsChange (model_setup_of s) fast (on_fast_accept (asked_by s i) h slot round v core (answers_of fast) swifts)
        (model_on_accept (model_setup_of s) i (view_of (model_answers_of fast) core) h.src slot (round_number (Some round)) v (record { allows = true; requester = process_number h.requester; adoptee = 0 }))
    unfolding on_fast_accept entered_fast_accept replica_accept
    fast_accept_follows slot v live d c core leaders le =
        on_accept_follows (model_answers_of fast) s i no-swift small h src-small slot round below v live d c ChangeStep lift (FollowsChange (model_setup_of s) fast) (lifted (model_setup_of s) fast)
        (λ c. entered_fast_accept (asked_by s i) h round v c (answers_of fast) swifts)
        (λ alive core1 r f.
        by_choice (λ (step : Result ChangeStep Refusal). FollowsChange (model_setup_of s) fast step r) (contains s.alive_replicas i)
        (λ t. replica_follows v (accepting (asked_by s i) h round v core1) r f) (λ t. absurd (not_both alive t)))
        core leaders le

  -- ---- a proposal

  module _ (first_small : s.first_leader < 64) (v : ℕ) (core : Core) (leaders : Leaders core) (single : is_multi_paxos s.mode ≡ false) where
    abbrev counts_own : FastChange
    counts_own = epaxos_counted (asked_by s i).member i i v (answers_of fast) scores

    -- the model's proposal
    abbrev view : View
    view = view_of (model_answers_of fast) core

    model_fast_proposal : Allowed (model_answers_of fast) s i no-swift small first_small v core leaders → is_unanswered (answers_of fast) ≡ true
        → model_on_propose (model_setup_of s) i view v
        ≡ model_sends (model_own_answer (model_setup_of s) i v (prepared_by i (holding_other_value 0 (suc i) v (in_later_round (suc i) view)))) (record { destination = model.all; message = model.prepare core.slot (suc i) 0 (suc i) v } ∷ [])
    unfolding model_on_propose
    model_fast_proposal may e =
        let first = may_model (model_answers_of fast) s i no-swift small first_small v core leaders may in
        let none : eqb (count (contains fast.fast_answer_set) 64) 0 ≡ true = no_answers_lem fast e in
        simp (first, single, epaxos, none)

    follows_proposal : may_propose (asked_by s i) core ≡ true → is_unanswered (answers_of fast) ≡ true
        → FollowsChange (model_setup_of s) fast (map_step (with_change counts_own) (propose_prepare (asked_by s i) (proposal_round (asked_by s i) core) (FastV i v) core)) (model_on_propose (model_setup_of s) i view v)
    follows_proposal m e =
        let may = allowed (model_answers_of fast) s i no-swift small first_small v core leaders m in
        let r : PaxosRound = proposal_round (asked_by s i) core in
        changes_follow (model_setup_of s) fast counts_own _ (model_on_propose (model_setup_of s) i view v)
        (follows_both (prepare_step (model_answers_of fast) s i no-swift small first_small v core leaders may r (FastV i v)) (model_fast_proposal may e)
        (record {
          seen_as =
              ap (λ (x : View). model_sends (with_answers (model_answers_of (changed counts_own fast)) x) (record { destination = model.all; message = model.prepare core.slot (round_number (Some r)) 0 (suc i) v } ∷ []))
              (promised_view (model_answers_of fast) s i no-swift small first_small v core leaders may r (FastV i v))
              ∙ ap₂
              (λ (n : ℕ) (a : ModelAnswers).
              model_sends (with_answers a (prepared_by i (holding_other_value 0 (suc i) v (in_later_round n view)))) (record { destination = model.all; message = model.prepare core.slot n 0 (suc i) v } ∷ []))
              (first_own (model_answers_of fast) s i no-swift small first_small v core leaders may single)
              (counted_answers (asked_by s i).member i i v small small fast ok);
        }))

    -- the own answer is the first, or is refused
    pub fast_propose_follows : FollowsChange (model_setup_of s) fast (propose_change (asked_by s i) v core (answers_of fast) scores swifts) (model_on_propose (model_setup_of s) i view v)
    unfolding propose_change leads_from_start own_answer epaxos_propose_v epaxos_answered
    fast_propose_follows =
        by_choice ProposalFollows (may_propose (asked_by s i) core)
        (λ m. by_choice ProposalFollows (is_swift_paxos s.mode && eqb (electing (asked_by s i)) i) (λ t. absurd (not_both (and_left (is_swift_paxos s.mode) (eqb (electing (asked_by s i)) i) t) no-swift))
        (λ t. by_choice AnsweredFirst (is_swift_paxos s.mode) (λ u. absurd (not_both u no-swift))
        (λ u. by_choice AnsweredFirst (is_unanswered (answers_of fast) && eqb (look_up scores i) 2)
        (λ e. by_choice AnsweredFirst (contains fast.fast_answer_set i)
        (λ c. absurd (not_both c (ap (λ (n : ℕ). contains n i) (empty_set fast (and_left (is_unanswered (answers_of fast)) (eqb (look_up scores i) 2) e)) ∙ contains_empty i)))
        (λ c. follows_proposal m (and_left (is_unanswered (answers_of fast)) (eqb (look_up scores i) 2) e)))
        (λ e. record { seen_as = tt }))))
        (λ m. record { seen_as = tt })
      where
        ProposalFollows : Result ChangeStep Refusal → Type 0
        ProposalFollows step = FollowsChange (model_setup_of s) fast step (model_on_propose (model_setup_of s) i view v)

        AnsweredFirst : Result FastChange Refusal → Type 0
        AnsweredFirst step = ProposalFollows (after_own_answer (asked_by s i) (proposal_round (asked_by s i) core) v core step)

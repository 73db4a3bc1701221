-- What every step of every mode keeps, for any shard within its limits: slot and open reads, whom the prepared and accepted sets hold, who leads
-- rounds, and the bounds of the numbers that a call adds to or subtracts from.
-- Assumes nothing.
use Rattle.std.specs.Prelude.{Option, None, Some, Result, is_some, IfOk}
use mathlib.Core.Path.{◌≡◌, refl, sym, ap, subst, ◌∙◌}
use mathlib.Core.Logic.{◌⊎◌, inl, inr}
use mathlib.Core.Bool.{Bool, true, false, cond, not, ◌&&◌}
use Prim.Native.Nat.{ℕ, ◌+◌, ◌-◌, ◌≤◌, ◌<◌}
use native.Mathlib.Omega.{arith}
use lib.Dec.{T, eqb, eqb→eq, ltb, T_not}
use borrow.Author.Tests.{ltb-true, ltb-false, eqb-true}
use Rattle.basics.proofs.Tests.{either, not_both, fails, or_cases, of-both}
use Rattle.basics.specs.sets.Sets.{contains, insert, size, one}
use Rattle.basics.proofs.sets.Laws.{contains_empty, contains_insert, contains_insert_same, insert_none, size_insert, within_insert}
use Rattle.basics.specs.tables.Tables.{look_up, store}
use Rattle.message.specs.Modes.{has_fast_path, is_swift_paxos}
use Rattle.message.specs.Rounds.{increment, before}
use Rattle.message.proofs.NextLeader.{increment_next}
use Rattle.message.specs.declared.ConsensusMsg.{ConsensusMsg}
use Rattle.message.specs.declared.ConsensusMsg.TheVariants.{Prepare, Accept, ForwardRequest, Commit, ReadRequest, ReadResponse}
use Rattle.message.specs.declared.PaxosRound.{PaxosRound}
use Rattle.message.specs.declared.Refusal.{Refusal}
use Rattle.message.specs.declared.RoundV.{RoundV}
use Rattle.message.specs.declared.RoundV.TheVariants.{PaxosV}
use Rattle.message.specs.Promises.{accept_round_of}
use Rattle.round_state.specs.Paxos.{get_last_accepted_round, held_after_promise, with_sender, with_own, counted, with_held, goto_round, receive_promise, after_accept}
use Rattle.round_state.specs.declared.Member.{Member}
use Rattle.round_state.specs.declared.PaxosState.{PaxosState}
use Rattle.fast_state.specs.Adopt.{ProposerChoice}
use Rattle.fast_state.specs.Fast.{answers_of, changed, unchanged, to_v_after, epaxos_scores_after, swift_scores_after, preaccepted_after, second_answer, is_unanswered, score_after, epaxos_counted, epaxos_answered, epaxos_propose_v, in_quorum, swift_counted, swift_recorded, swift_uncounted, swift_first, swift_answered, swift_own, swift_unanswered, swift_propose_v}
use Rattle.fast_state.specs.declared.FastState.{FastState}
use Rattle.fast_state.specs.declared.FastChange.{FastChange}
use Rattle.steps.specs.enter.Enter.{source_taken}
use Rattle.propose.specs.Propose.{proposal_round, may_propose, own_answer}
use Rattle.steps.specs.Steps.{CoreStep, with_paxos, on_rounds, change_rounds}
use Rattle.steps.specs.declared.Asked.{Asked}
use Rattle.steps.specs.declared.ChangeStep.{ChangeStep}
use Rattle.steps.specs.declared.Core.{Core}
use Rattle.steps.specs.declared.Heard.{Heard}
use Rattle.steps.specs.declared.Rounds.{Rounds}
use Rattle.consensus.specs.Handle.{proposing, processed}
use Rattle.agreement.proofs.Tests.{by_test, by_choice, neqb→ne}
use Rattle.group.proofs.View.{LeaderIn}
use Rattle.group.proofs.Answering.{FastFits, size_bound, looked_up_after_store, stored_length, ProposerFits}
use Rattle.group.proofs.Handlers.{Any, Holds, promise_held, Keeps, Comes, processed_holds, proposing_holds}

-- ---- rounds

-- the group of a round has a number after it
abbrev pub GroupFits : Option PaxosRound → Type 0
GroupFits None = Unit {0}
GroupFits (Some r) = r.round_group ≤ 9223372036854775807

-- and its leader is one that may lead
abbrev pub RoundFits : (ℕ → Type 0) → PaxosRound → Type 0
RoundFits Leads r = GroupFits (Some r) × Leads r.leader

-- ---- what was accepted

later_round : (x y : Option PaxosRound) → T (before x y) → Holds y
later_round None None t = t
later_round (Some r) None t = t
later_round x (Some r) t = tt

-- a promise replaces an accepted one only by one that was accepted later
promise_accepted : {set : ℕ} (held : Option RoundV) (rv : RoundV) → Holds (get_last_accepted_round held) ⊎ (set ≡ 0) → Holds (get_last_accepted_round (held_after_promise held rv)) ⊎ (set ≡ 0)
unfolding held_after_promise
promise_accepted held rv (inr e) = inr e
promise_accepted None rv (inl h) = absurd h
promise_accepted (Some old) rv (inl h) =
    inl (by_test (λ (x : Option RoundV). Holds (get_last_accepted_round x)) (before (accept_round_of old) (accept_round_of rv)) (Some rv) (Some old) (later_round (accept_round_of old) (accept_round_of rv)) (λ t. h))

-- where nothing is held, or nothing accepted, none is counted
pub none_counted : {A : Type 0} {set : ℕ} (o : Option A) → T (not (is_some o)) → Holds o ⊎ (set ≡ 0) → set ≡ 0
none_counted o none (inr e) = e
none_counted o none (inl h) = absurd (T_not (is_some o) none h)

-- ---- sets that hold only what may be counted, and rounds that are led by who may lead

module _ (Counts Leads : ℕ → Type 0) where
  abbrev pub Only : ℕ → Type 0
  Only set = (p : ℕ) → contains set p ≡ true → Counts p

  pub record StateFits (s : PaxosState) : Type 0 where
    pub only_prepared : Only s.prepared_set
    pub only_accepted : Only s.accepted_set
    pub prepared_held : Holds s.max_rv ⊎ (s.prepared_set ≡ 0)
    pub accepted_held : Holds (get_last_accepted_round s.max_rv) ⊎ (s.accepted_set ≡ 0)
    pub group_fits : GroupFits s.round
    pub round_led : LeaderIn Leads s.round
    pub held_led : LeaderIn Leads (get_last_accepted_round s.max_rv)

  pub only_empty : Only 0
  only_empty p e = absurd (not_both e (contains_empty p))

  only_insert : (set p : ℕ) → Only set → Counts p → Only (insert set p)
  only_insert set p only c q e = go (either (ltb p 64))
    where
      member : (contains set q ≡ true) ⊎ (eqb p q ≡ true) → Counts q
      member (inl h) = only q h
      member (inr h) = subst Counts (eqb-true p q h) c

      go : (ltb p 64 ≡ true) ⊎ (ltb p 64 ≡ false) → Counts q
      go (inl h) = member (or_cases (contains set q) (eqb p q) (sym (contains_insert set p q (ltb-true p 64 h)) ∙ e))
      go (inr h) = only q (subst (λ (s : ℕ). contains s q ≡ true) (insert_none set p (ltb-false p 64 h)) e)

  module _ (me : Member) (own_counts : T me.replica → Counts me.my_pid) where
    abbrev CountsOther : ℕ → Type 0
    CountsOther src = (src ≡ me.my_pid → ⊥) → Counts src

    counted_only : (src set : ℕ) → CountsOther src → Only set → Only (counted me src set)
    unfolding with_sender with_own
    counted_only src set c only =
        by_test Only me.replica _ _ (λ t. only_insert _ me.my_pid sender (own_counts t)) (λ t. sender)
      where
        sender : Only (cond (eqb src me.my_pid) set (insert set src))
        sender = by_test Only (eqb src me.my_pid) set (insert set src) (λ t. only) (λ t. only_insert set src only (c (neqb→ne src me.my_pid t)))

    led_after : (held : Option RoundV) (rv : RoundV) → LeaderIn Leads (get_last_accepted_round held) → LeaderIn Leads (accept_round_of rv)
        → LeaderIn Leads (get_last_accepted_round (held_after_promise held rv))
    unfolding held_after_promise
    led_after None rv old led = led
    led_after (Some rv0) rv old led = of-both (λ (x : Option RoundV). LeaderIn Leads (get_last_accepted_round x)) (before (accept_round_of rv0) (accept_round_of rv)) led old

    promise_fits_lem : (src : ℕ) (rv : RoundV) (s : PaxosState) → CountsOther src → LeaderIn Leads (accept_round_of rv) → StateFits s → StateFits (receive_promise me src rv s)
    unfolding receive_promise
    promise_fits_lem src rv s c led f =
        record {
          only_prepared = counted_only src s.prepared_set c f.only_prepared;
          only_accepted = f.only_accepted;
          prepared_held = inl (promise_held s.max_rv rv);
          accepted_held = promise_accepted s.max_rv rv f.accepted_held;
          group_fits = f.group_fits;
          round_led = f.round_led;
          held_led = led_after s.max_rv rv f.held_led led;
        }

    accept_fits_lem : (src : ℕ) (round : PaxosRound) (v : ℕ) (s : PaxosState) → CountsOther src → Leads round.leader → StateFits s → StateFits (after_accept me src round v s)
    accept_fits_lem src round v s c led f =
        record {
          only_prepared = f.only_prepared;
          only_accepted = counted_only src s.accepted_set c f.only_accepted;
          prepared_held = inl tt;
          accepted_held = inl tt;
          group_fits = f.group_fits;
          round_led = f.round_led;
          held_led = led;
        }

  goto_fits : (round : PaxosRound) (s : PaxosState) → RoundFits Leads round → StateFits s → StateFits (goto_round (Some round) s)
  goto_fits round s fit f =
      record {
        only_prepared = only_empty;
        only_accepted = only_empty;
        prepared_held = inr refl;
        accepted_held = inr refl;
        group_fits = fit.0;
        round_led = fit.1;
        held_led = f.held_led;
      }

  -- what is adopted takes the place of what nobody has accepted
  adopt_fits : (v : ℕ) (s : PaxosState) → T (not (is_some (get_last_accepted_round s.max_rv))) → StateFits s → StateFits (with_held (Some (PaxosV None v)) s)
  adopt_fits v s fresh f =
      record {
        only_prepared = f.only_prepared;
        only_accepted = f.only_accepted;
        prepared_held = inl tt;
        accepted_held = inr (none_counted (get_last_accepted_round s.max_rv) fresh f.accepted_held);
        group_fits = f.group_fits;
        round_led = f.round_led;
        held_led = tt;
      }

-- ---- the fast half

unchanged_fits : (f : FastState) → FastFits f → FastFits (changed (unchanged (answers_of f)) f)
unfolding to_v_after epaxos_scores_after swift_scores_after
unchanged_fits f ok =
    record { long_values = ok.long_values; long_epaxos = ok.long_epaxos; long_swift = ok.long_swift; few_preaccepted = ok.few_preaccepted; epaxos_high = ok.epaxos_high; swift_high = ok.swift_high; epaxos_low = ok.epaxos_low; epaxos_first = ok.epaxos_first }

-- an answer more, from one that has not answered
module _ (me : Member) (src p v : ℕ) (src-small : src < 64) (p-small : p < 64) (f : FastState) (ok : FastFits f) (new : contains f.fast_answer_set src ≡ false) where
  abbrev answers : ℕ
  answers = f.fast_answer_set

  one_more : size (insert answers src) ≡ size answers + 1
  one_more = size_insert answers src src-small ∙ ap (λ (t : Bool). size answers + one (not t)) new

  room : (n : ℕ) → n ≤ 2 + size answers → increment n ≡ n + 1
  room n le = let b = size_bound answers in increment_next n (omega arith)

  before_it : (q : ℕ) → contains (insert answers src) q ≡ false → contains answers q ≡ false
  before_it q e = fails (λ h. not_both (within_insert answers src q h) e)

  preaccepted_fits : preaccepted_after me p f.fast_preaccepted ≤ size answers + 1
  unfolding preaccepted_after
  preaccepted_fits =
      let le = ok.few_preaccepted in
      of-both (λ (n : ℕ). n ≤ size answers + 1) (eqb p me.my_pid) (let r = room f.fast_preaccepted (omega arith) in omega arith) (omega arith)

  abbrev score : ℕ
  score = look_up f.epaxos_proposer_scores p

  abbrev new_score : ℕ
  new_score = score_after src p score

  new_score_lem : (new_score ≤ 3 + size answers) × (1 ≤ new_score) × ((src ≡ p → ⊥) → 2 ≤ new_score)
  unfolding score_after
  new_score_lem = go (either (eqb src p))
    where
      high : score ≤ 2 + size answers
      high = ok.epaxos_high p

      go : (eqb src p ≡ true) ⊎ (eqb src p ≡ false) → (new_score ≤ 3 + size answers) × (1 ≤ new_score) × ((src ≡ p → ⊥) → 2 ≤ new_score)
      go (inl e) =
          let same : src ≡ p = eqb-true src p e in
          let least : 2 ≤ score = ok.epaxos_first p p-small (subst (λ (q : ℕ). contains answers q ≡ false) same new) in
          let value : new_score ≡ score - 1 = ap (λ (t : Bool). cond t (score - 1) (increment score)) e in
          let h = high in
          (omega arith, omega arith, λ other. absurd (other same))
      go (inr e) =
          let least : 1 ≤ score = ok.epaxos_low p p-small in
          let value : new_score ≡ score + 1 = ap (λ (t : Bool). cond t (score - 1) (increment score)) e ∙ room score high in
          let h = high in
          (omega arith, omega arith, λ other. omega arith)

  epaxos_counted_fits : FastFits (changed (epaxos_counted me src p v (answers_of f) f.epaxos_proposer_scores) f)
  unfolding to_v_after epaxos_scores_after swift_scores_after
  epaxos_counted_fits =
      record {
        long_values = stored_length f.fast_proposer_to_v p v ∙ ok.long_values;
        long_epaxos = stored_length f.epaxos_proposer_scores p new_score ∙ ok.long_epaxos;
        long_swift = ok.long_swift;
        few_preaccepted = let m = one_more in let le = preaccepted_fits in omega arith;
        epaxos_high = λ q. let m = one_more in at q (λ n. n ≤ 2 + size (insert answers src)) (λ same. let h = new_score_lem.0 in omega arith) (λ other. let h = ok.epaxos_high q in omega arith);
        swift_high = λ q. let m = one_more in let h = ok.swift_high q in omega arith;
        epaxos_low = λ q l. at q (λ n. 1 ≤ n) (λ same. new_score_lem.1) (λ other. ok.epaxos_low q l);
        epaxos_first = λ q l e. at q (λ n. 2 ≤ n) (λ same. new_score_lem.2 (λ d. not_both (subst (λ (x : ℕ). contains (insert answers src) x ≡ true) (d ∙ sym same) (contains_insert_same answers src src-small)) e)) (λ other. ok.epaxos_first q l (before_it q e));
      }
    where
      at : (q : ℕ) (P : ℕ → Type 0) → (q ≡ p → P new_score) → ((q ≡ p → ⊥) → P (look_up f.epaxos_proposer_scores q)) → P (look_up (store f.epaxos_proposer_scores p new_score) q)
      at q P x y =
          subst P (sym (looked_up_after_store f.epaxos_proposer_scores ok.long_epaxos p new_score p-small q))
          (by_test P (eqb q p) new_score (look_up f.epaxos_proposer_scores q) (λ t. x (eqb→eq q p t)) (λ t. y (neqb→ne q p t)))

  abbrev swift_score : ℕ
  swift_score = increment (look_up f.swift_proposer_scores p)

  swift_counted_fits : (leader : Bool) → FastFits (changed (swift_counted me src p v leader (answers_of f) f.swift_proposer_scores) f)
  unfolding to_v_after epaxos_scores_after swift_scores_after
  swift_counted_fits leader =
      record {
        long_values = stored_length f.fast_proposer_to_v p v ∙ ok.long_values;
        long_epaxos = ok.long_epaxos;
        long_swift = stored_length f.swift_proposer_scores p swift_score ∙ ok.long_swift;
        few_preaccepted = let m = one_more in let le = preaccepted_fits in omega arith;
        epaxos_high = λ q. let m = one_more in let h = ok.epaxos_high q in omega arith;
        swift_high = λ q.
            let m = one_more in let h = ok.swift_high q in let old = ok.swift_high p in let r = room (look_up f.swift_proposer_scores p) (omega arith) in
            subst (λ (n : ℕ). n ≤ size (insert answers src)) (sym (looked_up_after_store f.swift_proposer_scores ok.long_swift p swift_score p-small q))
            (of-both (λ (n : ℕ). n ≤ size (insert answers src)) (eqb q p) (omega arith) (omega arith));
        epaxos_low = ok.epaxos_low;
        epaxos_first = λ q l e. ok.epaxos_first q l (before_it q e);
      }

  swift_recorded_fits : FastFits (changed (swift_recorded src p v (answers_of f)) f)
  unfolding to_v_after epaxos_scores_after swift_scores_after
  swift_recorded_fits =
      record {
        long_values = stored_length f.fast_proposer_to_v p v ∙ ok.long_values;
        long_epaxos = ok.long_epaxos;
        long_swift = ok.long_swift;
        few_preaccepted = let m = one_more in let le = ok.few_preaccepted in omega arith;
        epaxos_high = λ q. let m = one_more in let h = ok.epaxos_high q in omega arith;
        swift_high = λ q. let m = one_more in let h = ok.swift_high q in omega arith;
        epaxos_low = ok.epaxos_low;
        epaxos_first = λ q l e. ok.epaxos_first q l (before_it q e);
      }

abbrev FastStepFits : FastState → Result FastChange Refusal → Type 0
FastStepFits f step = IfOk step (λ change. FastFits (changed change f))

module _ (me : Member) (f : FastState) (ok : FastFits f) where
  second_fits : (src : ℕ) → FastStepFits f (second_answer me src (answers_of f))
  unfolding second_answer
  second_fits src = of-both (FastStepFits f) (eqb src me.my_pid) (unchanged_fits f ok) tt

  epaxos_answered_fits : (src p v : ℕ) → src < 64 → p < 64 → FastStepFits f (epaxos_answered me src p v (answers_of f) f.epaxos_proposer_scores)
  unfolding epaxos_answered
  epaxos_answered_fits src p v l m = by_choice (FastStepFits f) (contains f.fast_answer_set src) (λ e. second_fits src) (epaxos_counted_fits me src p v l m f ok)

  swift_answered_fits : (src p v : ℕ) → src < 64 → p < 64 → (quorum : Option ℕ) (leader : Bool) → FastStepFits f (swift_answered me src p v quorum leader (answers_of f) f.swift_proposer_scores)
  unfolding swift_answered swift_first swift_uncounted
  swift_answered_fits src p v l m quorum leader =
      by_choice (FastStepFits f) (contains f.fast_answer_set src) (λ e. second_fits src)
      (λ e. of-both (FastStepFits f) (in_quorum quorum src) (swift_counted_fits me src p v l m f ok e leader)
      (of-both (FastStepFits f) leader tt (swift_recorded_fits me src p v l m f ok e)))

-- ---- the handlers of every mode

-- the numbers of an admitted message
abbrev pub MessageFits : (ℕ → Type 0) → ConsensusMsg → Type 0
MessageFits Leads (Prepare slot round rv) = RoundFits Leads round × LeaderIn Leads (accept_round_of rv) × ProposerFits rv
MessageFits Leads (Accept slot round v) = RoundFits Leads round
MessageFits Leads (ForwardRequest v) = Unit {0}
MessageFits Leads (Commit slot v) = Unit {0}
MessageFits Leads (ReadRequest id) = Unit {0}
MessageFits Leads (ReadResponse id next) = Unit {0}

module _ (Counts Leads : ℕ → Type 0) (a : Asked) (own_counts : T a.member.replica → Counts a.member.my_pid) (own_small : a.member.my_pid < 64) (old : Core) where
  abbrev me : Member
  me = a.member

  -- slot and open reads are as they were
  pub record CoreFits (core : Core) : Type 0 where
    pub same_slot : core.slot ≡ old.slot
    pub same_tracker : core.tracker ≡ old.tracker
    pub state_fits : StateFits Counts Leads core.paxos

  with_state_lem : {core : Core} {s : PaxosState} → CoreFits core → StateFits Counts Leads s → CoreFits (with_paxos s core)
  with_state_lem k f = record { same_slot = k.same_slot; same_tracker = k.same_tracker; state_fits = f }

  -- a source that is another than oneself counts
  abbrev Source : ℕ → Type 0
  Source src = (src ≡ me.my_pid → ⊥) → Counts src

  abbrev PromiseFits : RoundV → Type 0
  PromiseFits rv = LeaderIn Leads (accept_round_of rv) × ProposerFits rv

  keeps : Keeps a Source (RoundFits Leads) PromiseFits Any (λ round. Any) CoreFits Any
  keeps =
      record {
        own_source = λ other. absurd (other refl);
        own_fast = λ v. (tt, own_small);
        enters = λ round core fit k. with_state_lem k (goto_fits Counts Leads round core.paxos fit k.state_fits);
        promises = λ src rv core c p k. with_state_lem k (promise_fits_lem Counts Leads me own_counts src rv core.paxos c p.0 k.state_fits);
        accepts = λ src round v core c fit k. with_state_lem k (accept_fits_lem Counts Leads me own_counts src round v core.paxos c fit.1 k.state_fits);
        adopts = λ v core fresh k. with_state_lem k (adopt_fits Counts Leads v core.paxos fresh k.state_fits);
        leaves = λ core k. record { same_slot = k.same_slot; same_tracker = k.same_tracker; state_fits = k.state_fits };
        prepare_to = λ round core p w other. tt;
        accept_to_all = λ round core t. tt;
        accept_to_lem = λ round v core p t k e other. tt;
        commit_to_all = λ core requester. tt;
        propose_prepare_lem = λ round rv core. tt;
        propose_accept_lem = λ v core t p k. tt;
      }

  -- in the modes without a fast path the fast half stays as it is
  pub record RoundsFit (f : FastState) (s : Rounds) : Type 0 where
    pub core_fits : CoreFits s.core
    pub fast_fits : FastFits s.fast
    pub same_fast : has_fast_path a.mode ≡ false → s.fast ≡ f

  fast_fit : (f : FastState) (step : ChangeStep) → T (has_fast_path a.mode) → CoreFits step.core → FastFits (changed step.change f) → RoundsFit f (change_rounds f step).state
  fast_fit f step t k q = record { core_fits = k; fast_fits = q; same_fast = λ e. absurd (subst T e t) }

  classic_fit : (f : FastState) → FastFits f → (step : CoreStep) → CoreFits step.state → RoundsFit f (on_rounds f step).state
  classic_fit f ok step k = record { core_fits = k; fast_fits = ok; same_fast = λ e. refl }

  module _ (h : Heard) (src-small : h.src < 64) (src-counts : T (source_taken a h) → Counts h.src) where
    comes : (core : Core) (m : ConsensusMsg) → MessageFits Leads m → Comes keeps h (λ t other. src-counts t) core m
    comes core (Prepare slot round rv) fit = (fit.0, (fit.1, fit.2), tt)
    comes core (Accept slot round v) fit = (fit, λ t. tt)
    comes core (ForwardRequest v) fit = tt
    comes core (Commit slot v) fit = tt
    comes core (ReadRequest id) fit = tt
    comes core (ReadResponse id next) fit = tt

  pub processed_fits : (choose : ProposerChoice) (h : Heard) → h.src < 64 → (T (source_taken a h) → Counts h.src) → (m : ConsensusMsg) → MessageFits Leads m → (s : Rounds) → FastFits s.fast → CoreFits s.core
      → IfOk (processed choose a h m s) (λ step. RoundsFit s.fast step.state)
  processed_fits choose h small c m fit s ok k =
      processed_holds keeps h (λ t other. c t) (λ step. RoundsFit s.fast step.state) choose s (λ change. FastFits (changed change s.fast)) (unchanged_fits s.fast ok)
      (λ p v w. epaxos_answered_fits me s.fast ok h.src p v small w.1)
      (λ p v leader w. swift_answered_fits me s.fast ok h.src p v small w.1 a.quorum leader)
      (λ step t q. fast_fit s.fast step t q.0.0 q.1) (λ step t q. classic_fit s.fast ok step q.0) m (comes h small c s.core m fit) k

  own_answer_fits : (f : FastState) → FastFits f → (v : ℕ) → FastStepFits f (own_answer a v (answers_of f) f.epaxos_proposer_scores f.swift_proposer_scores)
  unfolding own_answer epaxos_propose_v swift_propose_v swift_own
  own_answer_fits f ok v =
      of-both (FastStepFits f) (is_swift_paxos a.mode)
      (of-both (FastStepFits f) (swift_unanswered me (answers_of f) f.swift_proposer_scores)
      (of-both (FastStepFits f) me.replica (swift_answered_fits me f ok me.my_pid me.my_pid v own_small own_small a.quorum false) (unchanged_fits f ok)) tt)
      (of-both (FastStepFits f) (is_unanswered (answers_of f) && eqb (look_up f.epaxos_proposer_scores me.my_pid) 2)
      (epaxos_answered_fits me f ok me.my_pid me.my_pid v own_small own_small) tt)

  -- a proposal is made in the starting round alone, and so its round is of the first groups
  pub proposing_fits : ((core : Core) → T (may_propose a core) → RoundFits Leads (proposal_round a core)) → (v : ℕ) (s : Rounds) → FastFits s.fast → CoreFits s.core
      → IfOk (proposing a v s) (λ step. RoundsFit s.fast step.state)
  proposing_fits r v s ok k =
      proposing_holds keeps (λ step. RoundsFit s.fast step.state) r v (tt, tt) s (λ change. FastFits (changed change s.fast)) (unchanged_fits s.fast ok) (own_answer_fits s.fast ok v)
      (λ step t q. fast_fit s.fast step t q.0.0 q.1) (λ step t q. classic_fit s.fast ok step q.0) k

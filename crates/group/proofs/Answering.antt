-- An answer on the fast path of EPaxos is the model's `answering`: the fast half with the answer in it, its commit and the value that is adopted.
-- Assumes nothing.
use Rattle.std.specs.Prelude.{Option, None, Some, Result, Ok, Err, IfOk}
use Rattle.std.proofs.lemmas.List.{get_or-replicate}
use mathlib.Core.Path.{◌≡◌, refl, sym, ap, ap₂, subst, fun_ext, ◌∙◌}
use mathlib.Core.Bool.{Bool, true, false, cond, not, ◌&&◌}
use mathlib.Core.List.{List, [], ◌∷◌}
use Prim.Native.Nat.{ℕ, suc, pred, ◌+◌, ◌-◌, ◌≤◌, ◌<◌}
use native.Mathlib.Numerals.{add-one}
use native.Mathlib.Omega.{arith}
use lib.Dec.{eqb, ltb, leb, eqb-suc-zero}
use lib.ListN.{length, get_or, replicate, length-set, length-replicate}
use borrow.Author.Tests.{lt-ltb, ltb-true, ltb-false, le-leb, lt-leb, eq-eqb, ne_eqb, eqb-true}
use Rattle.basics.proofs.Tests.{by_cases, of-both, fails, and_both, and_left, and_right}
use Rattle.basics.specs.sets.Sets.{contains, count, size, is_empty}
use Rattle.basics.proofs.sets.Laws.{contains_empty}
use Rattle.basics.proofs.sets.Counting.{count_le, count_ext}
use Rattle.basics.specs.tables.Tables.{look_up, store}
use Rattle.basics.proofs.tables.Stored.{look_up_stored}
use Rattle.message.specs.Modes.{is_swift_paxos}
use Rattle.message.specs.Promises.{value_of}
use Rattle.message.specs.Rounds.{increment}
use Rattle.message.proofs.NextLeader.{increment_next}
use Rattle.message.specs.declared.PaxosRound.{PaxosRound}
use Rattle.message.specs.declared.Refusal.{Refusal}
use Rattle.message.specs.declared.RoundV.{RoundV}
use Rattle.message.specs.declared.RoundV.TheVariants.{FastV, PaxosV}
use Rattle.round_state.specs.Paxos.{is_prepared, accept_fits, after_accept, receive_accept, accept_own, self_accept, adopt_from_epaxos}
use Rattle.round_state.specs.declared.Member.{Member}
use Rattle.round_state.specs.declared.PaxosState.{PaxosState}
use Rattle.settings.specs.Questions.{quorums_of}
use Rattle.settings.specs.declared.Settings.{Settings}
use Rattle.fast_state.specs.Adopt.{ProposerChoice, value_in, score_in, adopted, epaxos_try_adopt, epaxos_try_adopt_after}
use Rattle.fast_state.specs.Fast as fast_half
use Rattle.fast_state.specs.Fast.{answers_of, unchanged, changed, no_answers, to_v_after, epaxos_scores_after, preaccepted_after, second_answer, epaxos_counted, epaxos_answered, epaxos_can_commit}
use Rattle.fast_state.proofs.Stored.{value_stored, score_stored}
use Rattle.fast_state.specs.declared.FastAnswers.{FastAnswers}
use Rattle.fast_state.specs.declared.FastChange.{FastChange}
use Rattle.fast_state.specs.declared.FastState.{FastState}
use Rattle.classic.specs.prepare.Prepare.{after_own_accept}
use Rattle.fast.specs.epaxos.EPaxos.{adopting, epaxos_adopt, epaxos_decide, after_epaxos_answer, epaxos_answer}
use Rattle.steps.specs.Steps.{CoreStep, with_paxos, map_step, with_change}
use Rattle.steps.specs.declared.ChangeStep.{ChangeStep}
use Rattle.steps.specs.declared.Core.{Core}
use Rattle.steps.specs.declared.Heard.{Heard}
use Rattle.agreement.proofs.Tests.{by_choice, by_both, by_turned}
use Rattle.agreement.specs.Model.{View, ModelAnswers, Host, ModelOutcome, model_with_answer, with_answers, quiet, model_refused, model_sends, model_voted, ModelSetup, model_score_after, model_adopts_best}
use Rattle.agreement.specs.Model as model
use Rattle.agreement.proofs.Answers.{count_none}
use Rattle.group.specs.Claim.{PicksBest}
use Rattle.group.proofs.View.{round_number, process_number, insert_add, proposer_of, is_e_paxos, model_answers_of, view_of, model_setup_of, SeenAs, Follows}
use Rattle.group.proofs.Preparing.{asked_by, follows_both, own_accept_view, broadcast_classic}

-- ---- the fast half as the engine keeps it

-- Its tables have a place for each process. No figure is larger than the number of answers, from where it begins; a score is 2 or more until its
-- proposer has answered, and then 1 or more, since no second answer of it counts.
pub record FastFits (f : FastState) : Type 0 where
  pub long_values : length f.fast_proposer_to_v ≡ 64
  pub long_epaxos : length f.epaxos_proposer_scores ≡ 64
  pub long_swift : length f.swift_proposer_scores ≡ 64
  pub few_preaccepted : f.fast_preaccepted ≤ size f.fast_answer_set
  pub epaxos_high : (p : ℕ) → look_up f.epaxos_proposer_scores p ≤ 2 + size f.fast_answer_set
  pub swift_high : (p : ℕ) → look_up f.swift_proposer_scores p ≤ size f.fast_answer_set
  pub epaxos_low : (p : ℕ) → p < 64 → 1 ≤ look_up f.epaxos_proposer_scores p
  pub epaxos_first : (p : ℕ) → p < 64 → contains f.fast_answer_set p ≡ false → 2 ≤ look_up f.epaxos_proposer_scores p

pub size_bound : (s : ℕ) → size s ≤ 64
unfolding size
size_bound s = count_le (contains s) 64

nothing_outside : (q : ℕ) → ltb q 64 ≡ false → (t : List ℕ) → look_up t q ≡ 0
unfolding look_up
nothing_outside q e t = simp e

-- what is looked up after a store, for every number
pub looked_up_after_store : (table : List ℕ) → length table ≡ 64 → (p n : ℕ) → p < 64 → (q : ℕ) → look_up (store table p n) q ≡ cond (eqb q p) n (look_up table q)
looked_up_after_store table long p n l q =
    by_cases (ltb q 64) (λ e. look_up_stored table long q (ltb-true q 64 e) p n)
    (λ e. let above : 64 ≤ q = ltb-false q 64 e in
    nothing_outside q e (store table p n) ∙ sym (ap (λ (t : Bool). cond t n (look_up table q)) (ne_eqb q p (λ d. omega arith)) ∙ nothing_outside q e table))

pub stored_length : (table : List ℕ) (p n : ℕ) → length (store table p n) ≡ length table
unfolding store
stored_length table p n = of-both (λ (x : List ℕ). length x ≡ length table) (ltb p 64) (length-set table p n) refl

-- ---- the fast half at the beginning of a slot

pub begins_with : (a p : ℕ) → cond (ltb p 64) (look_up (replicate 64 a) p) a ≡ a
unfolding look_up
begins_with a p =
    by_choice (λ (x : ℕ). x ≡ a) (ltb p 64) (λ e. ap (λ (t : Bool). cond t (get_or (replicate 64 a) p 0) 0) e ∙ get_or-replicate 64 p a 0 (ltb-true p 64 e)) (λ e. refl)

pub values_begin : (p : ℕ) → look_up (replicate 64 0) p ≡ 0
unfolding look_up
values_begin p = by_choice (λ (x : ℕ). x ≡ 0) (ltb p 64) (λ e. get_or-replicate 64 p 0 0 (ltb-true p 64 e)) (λ e. refl)

begins_at_two : (p : ℕ) → p < 64 → look_up (replicate 64 2) p ≡ 2
unfolding look_up
begins_at_two p l = ap (λ (t : Bool). cond t (get_or (replicate 64 2) p 0) 0) (lt-ltb p 64 l) ∙ get_or-replicate 64 p 2 0 l

pub no_answers_fit : FastFits no_answers
unfolding look_up
no_answers_fit =
    record {
      long_values = length-replicate {A = ℕ} 64 0;
      long_epaxos = length-replicate {A = ℕ} 64 2;
      long_swift = length-replicate {A = ℕ} 64 0;
      few_preaccepted = omega arith;
      epaxos_high = λ p. high p (ltb p 64) refl;
      swift_high = λ p. let e = values_begin p in omega arith;
      epaxos_low = λ p l. let e = begins_at_two p l in omega arith;
      epaxos_first = λ p l e. let d = begins_at_two p l in omega arith;
    }
  where
    high : (p : ℕ) (t : Bool) → ltb p 64 ≡ t → cond t (get_or (replicate 64 2) p 0) 0 ≤ 2 + size 0
    high p true e = subst (λ (n : ℕ). n ≤ 2 + size 0) (sym (get_or-replicate 64 p 2 0 (ltb-true p 64 e))) (omega arith)
    high p false e = omega arith

-- nothing is changed
pub unchanged_answers : (fast : FastState) → model_answers_of (changed (unchanged (answers_of fast)) fast) ≡ model_answers_of fast
unfolding to_v_after epaxos_scores_after
unchanged_answers fast = refl

-- ---- one answer more

module _ (me : Member) (src p v : ℕ) (src-small : src < 64) (p-small : p < 64) (fast : FastState) (ok : FastFits fast) where
  abbrev pub counts : FastChange
  counts = epaxos_counted me src p v (answers_of fast) fast.epaxos_proposer_scores

  room : (n : ℕ) → n ≤ 2 + size fast.fast_answer_set → increment n ≡ suc n
  room n le = let b = size_bound fast.fast_answer_set in increment_next n (omega arith) ∙ add-one n

  preaccepted_same : preaccepted_after me p fast.fast_preaccepted ≡ cond (eqb p me.my_pid) (suc fast.fast_preaccepted) fast.fast_preaccepted
  unfolding preaccepted_after
  preaccepted_same = let le = ok.few_preaccepted in ap (λ (n : ℕ). cond (eqb p me.my_pid) n fast.fast_preaccepted) (room fast.fast_preaccepted (omega arith))

  score_same : fast_half.score_after src p (look_up fast.epaxos_proposer_scores p) ≡ model_score_after src p ((model_answers_of fast).scores p)
  unfolding fast_half.score_after
  score_same =
      ap (λ (n : ℕ). cond (eqb src p) (look_up fast.epaxos_proposer_scores p - 1) n) (room (look_up fast.epaxos_proposer_scores p) (ok.epaxos_high p))
      ∙ ap (model_score_after src p) (sym (ap (λ (t : Bool). cond t (look_up fast.epaxos_proposer_scores p) 2) (lt-ltb p 64 p-small)))

  scores_same : (q : ℕ) → cond (ltb q 64) (look_up (store fast.epaxos_proposer_scores p (fast_half.score_after src p (look_up fast.epaxos_proposer_scores p))) q) 2
      ≡ cond (eqb q p) (model_score_after src p ((model_answers_of fast).scores p)) ((model_answers_of fast).scores q)
  scores_same q =
      by_cases (ltb q 64)
      (λ e. ap (λ (t : Bool). cond t (look_up (store fast.epaxos_proposer_scores p new) q) 2) e ∙ looked_up_after_store fast.epaxos_proposer_scores ok.long_epaxos p new p-small q
      ∙ ap₂ (λ (n m : ℕ). cond (eqb q p) n m) score_same (sym (ap (λ (t : Bool). cond t (look_up fast.epaxos_proposer_scores q) 2) e)))
      (λ e. let above : 64 ≤ q = ltb-false q 64 e in
      ap (λ (t : Bool). cond t (look_up (store fast.epaxos_proposer_scores p new) q) 2) e
      ∙ sym (ap (λ (t : Bool). cond t (model_score_after src p ((model_answers_of fast).scores p)) ((model_answers_of fast).scores q)) (ne_eqb q p (λ d. omega arith))
      ∙ ap (λ (t : Bool). cond t (look_up fast.epaxos_proposer_scores q) 2) e))
    where
      new : ℕ
      new = fast_half.score_after src p (look_up fast.epaxos_proposer_scores p)

  -- the fast half then is the model's
  pub counted_answers : model_answers_of (changed counts fast) ≡ model_with_answer me.my_pid src p v (model_answers_of fast)
  unfolding to_v_after epaxos_scores_after
  counted_answers = λ z. record {
    answered = insert_add fast.fast_answer_set src src-small z;
    preaccepted = preaccepted_same z;
    proposers = insert_add fast.fast_proposers p p-small z;
    values = fun_ext (looked_up_after_store fast.fast_proposer_to_v ok.long_values p v p-small) z;
    scores = fun_ext scores_same z;
  }

-- ---- what follows an answer

-- a step of the handlers with a fast half is the model's: with the change made to the fast half
pub record FollowsChange (S : ModelSetup) (fast : FastState) (step : Result ChangeStep Refusal) (r : ModelOutcome) : Type 0 where
  pub seen_as : IfOk step (λ x. SeenAs S (model_answers_of (changed x.change fast)) x.core x.messages x.next r)

-- a step of the core, with a change of the fast half
pub changes_follow : (S : ModelSetup) (fast : FastState) (change : FastChange) (step : Result CoreStep Refusal) (r : ModelOutcome) → Follows S (model_answers_of (changed change fast)) step r
    → FollowsChange S fast (map_step (with_change change) step) r
changes_follow S fast change (Ok step) r f = record { seen_as = f.seen_as }
changes_follow S fast change (Err why) r f = record { seen_as = tt }

-- a step that changes nothing of the fast half
pub lifted : (S : ModelSetup) (fast : FastState) (step : Result CoreStep Refusal) (r : ModelOutcome) → Follows S (model_answers_of fast) step r
    → FollowsChange S fast (map_step (with_change (unchanged (answers_of fast))) step) r
lifted S fast step r f = changes_follow S fast (unchanged (answers_of fast)) step r (subst (λ (a : ModelAnswers). Follows S a step r) (sym (unchanged_answers fast)) f)

not_ltb : (a b : ℕ) → ltb a b ≡ true → leb b a ≡ false
not_ltb a b e = lt-leb b a (ltb-true a b e)

not_ltb' : (a b : ℕ) → ltb a b ≡ false → leb b a ≡ true
not_ltb' a b e = le-leb b a (ltb-false a b e)

ltb_turned : (a b : ℕ) → not (ltb a b) ≡ leb b a
ltb_turned a b = by_cases (ltb a b) (λ e. ap not e ∙ sym (not_ltb a b e)) (λ e. ap not e ∙ sym (not_ltb' a b e))

-- the change that a step of the fast half leaves: none where the step is refused
abbrev change_left : FastAnswers → Result FastChange Refusal → FastChange
change_left answers (Ok change) = change
change_left answers (Err why) = unchanged answers

-- the host of a call whose answers are f and scores are `score`
abbrev pub host_with : ProposerChoice → FastChange → List ℕ → Host
host_with choose change scores =
    record { allows = true; requester = 0; adoptee = process_number (choose change.answers (score_in change.entry scores)) }

-- the host by the answer that came from src
abbrev pub host_for : ProposerChoice → Settings → ℕ → ℕ → FastState → RoundV → Host
host_for choose s i src fast (FastV p v) =
    host_with choose (change_left (answers_of fast) (epaxos_answered (asked_by s i).member src p v (answers_of fast) fast.epaxos_proposer_scores)) fast.epaxos_proposer_scores
host_for choose s i src fast (PaxosV at v) = record { allows = true; requester = 0; adoptee = 0 }

-- it lets the call through
pub host-allows {ℓ} : (choose : ProposerChoice) (s : Settings) (i src : ℕ) (fast : FastState) (rv : RoundV) (P : Bool → Type ℓ) → P true → P (host_for choose s i src fast rv).allows
host-allows choose s i src fast (FastV p v) P h = h
host-allows choose s i src fast (PaxosV at v) P h = h

-- the proposer that a promise names is a process
abbrev pub ProposerFits : RoundV → Type 0
ProposerFits (FastV p v) = p < 64
ProposerFits (PaxosV at v) = Unit {0}

module _ (choose : ProposerChoice) (picks_best : PicksBest choose) (s : Settings) (i : ℕ) (no-swift : is_swift_paxos s.mode ≡ false) (epaxos : is_e_paxos s.mode ≡ true)
    (alive : contains s.alive_replicas i ≡ true) (small : i < 64) (h : Heard) (src-small : h.src < 64) (round : PaxosRound) (below : round.leader < 64) (x0 : View)
    (core : Core) (at : core.paxos.round ≡ Some round) where
  -- ---- the adopted value

  adopting_follows : (ans : ModelAnswers) (v : ℕ) → Follows (model_setup_of s) ans (after_own_accept (asked_by s i) round core (adopt_from_epaxos (asked_by s i).member round v core.paxos)) (model.casts (model_setup_of s) i x0 v (view_of ans core))
  unfolding self_accept accept_own receive_accept accept_fits model.casts
  adopting_follows ans v =
      by_choice (λ (p : Result PaxosState Refusal). Follows (model_setup_of s) ans (after_own_accept (asked_by s i) round core p) (casts (contains core.paxos.accepted_set i))) (is_empty core.paxos.accepted_set)
      (λ e. follows_both (ap Ok (broadcast_classic ans s i no-swift alive small h src-small round below (record { allows = true; requester = 0; adoptee = 0 }) accepted))
      (ap (λ (n : ℕ). casts (contains n i)) (eqb-true core.paxos.accepted_set 0 e) ∙ ap casts (contains_empty i))
      (record {
        seen_as =
            ap₂ (λ (x : View) (r : ℕ). model_sends x (record { destination = model.all; message = model.accept core.slot r v } ∷ [])) (own_accept_view ans s i alive small round core v at) (ap round_number (sym at));
      }))
      (λ e. record { seen_as = tt })
    where
      accepted : Core
      accepted = with_paxos (after_accept (asked_by s i).member i round v core.paxos) core

      casts : Bool → ModelOutcome
      casts t =
          cond t (model_refused x0) (model_sends (model_voted i v (view_of ans core)) (record { destination = model.all; message = model.accept core.slot (view_of ans core).round v } ∷ []))

  -- ---- after the change

  module _ (fast : FastState) (change : FastChange) (long_values : length fast.fast_proposer_to_v ≡ 64) (long-scores : length fast.epaxos_proposer_scores ≡ 64) where
    abbrev ans : ModelAnswers
    ans = model_answers_of (changed change fast)

    abbrev adoption : Result (Option ℕ) Refusal
    adoption = epaxos_try_adopt_after choose (asked_by s i).member change fast.fast_proposer_to_v fast.epaxos_proposer_scores

    abbrev chosen : Option ℕ
    chosen = choose change.answers (score_in change.entry fast.epaxos_proposer_scores)

    abbrev host : Host
    host = host_with choose change fast.epaxos_proposer_scores

    can_commit : epaxos_can_commit (asked_by s i).member change.answers ≡ model.fast_quorum_answered (model_setup_of s) ans
    unfolding size
    can_commit = ap (λ (t : Bool). eqb (count (contains change.answers.fast_proposers) 64) 1 && leb (cond t (quorums_of s).epaxos 65) change.answers.fast_preaccepted) (sym epaxos)

    score_at : (q : ℕ) → q < 64 → ans.scores q ≡ score_in change.entry fast.epaxos_proposer_scores q
    score_at q l =
        ap (λ (t : Bool). cond t (look_up (epaxos_scores_after change.entry fast.epaxos_proposer_scores) q) 2) (lt-ltb q 64 l)
        ∙ sym (score_stored fast.epaxos_proposer_scores long-scores q l change.entry)

    -- whom the choice takes is a best proposer of the model
    best_model : (p : ℕ) → chosen ≡ Some p → model.is_best (model_setup_of s) p ans ≡ true
    best_model p e = and_both (picks_best.proposer _ _ p e).1 (eq-eqb (count better 64) 0 (count_ext better (λ q. false) 64 none ∙ count_none 64))
      where
        better : ℕ → Bool
        better q = ans.proposers q && ltb (ans.scores p) (ans.scores q)

        none : (q : ℕ) → q < 64 → better q ≡ false
        none q l = fails (λ t.
            let le = picks_best.best _ _ p q e l (and_left (ans.proposers q) (ltb (ans.scores p) (ans.scores q)) t) in
            let lt = ltb-true (ans.scores p) (ans.scores q) (and_right (ans.proposers q) (ltb (ans.scores p) (ans.scores q)) t) in
            let a = score_at q l in let b = score_at p (picks_best.proposer _ _ p e).0 in
            omega arith)

    adopt_none : (p : ℕ) → chosen ≡ Some p → eqb host.adoptee 0 ≡ false
    adopt_none p e = ap (λ (o : Option ℕ). eqb (process_number o) 0) e ∙ eqb-suc-zero p

    model_adopts : (p : ℕ) → chosen ≡ Some p → is_prepared (asked_by s i).member core.paxos ≡ true
        → model_adopts_best (model_setup_of s) i host x0 (view_of ans core) ≡ model.casts (model_setup_of s) i x0 (ans.values p) (view_of ans core)
    unfolding model_adopts_best size
    model_adopts p e prepared =
        let first = adopt_none p e in
        simp first
        (ap (λ (o : Option ℕ). cond (model.is_best (model_setup_of s) (pred (process_number o)) ans && model.enough_prepared (model_setup_of s) (view_of ans core)) (model.casts (model_setup_of s) i x0 (ans.values (pred (process_number o))) (view_of ans core)) (model_refused x0)) e
        ∙ ap (λ (t : Bool). cond t (model.casts (model_setup_of s) i x0 (ans.values p) (view_of ans core)) (model_refused x0)) (and_both (best_model p e) prepared))

    model_adopts_nobody : chosen ≡ None → model_adopts_best (model_setup_of s) i host x0 (view_of ans core) ≡ quiet (view_of ans core)
    unfolding model_adopts_best
    model_adopts_nobody e = let first : eqb host.adoptee 0 ≡ true = ap (λ (o : Option ℕ). eqb (process_number o) 0) e in simp first

    adopt_follows : (o : Option ℕ) → chosen ≡ o
        → Follows (model_setup_of s) ans (epaxos_adopt (asked_by s i) round core (adopted (value_in change.entry fast.fast_proposer_to_v) o)) (model_adopts_best (model_setup_of s) i host x0 (view_of ans core))
    unfolding adopted adopting
    adopt_follows None e = follows_both refl (model_adopts_nobody e) (record { seen_as = refl })
    adopt_follows (Some p) e =
        by_choice (λ (step : Result CoreStep Refusal). Follows (model_setup_of s) ans step (model_adopts_best (model_setup_of s) i host x0 (view_of ans core))) (is_prepared (asked_by s i).member core.paxos)
        (λ t. follows_both
        (ap (λ (v : ℕ). after_own_accept (asked_by s i) round core (adopt_from_epaxos (asked_by s i).member round v core.paxos)) (value_stored fast.fast_proposer_to_v long_values p (picks_best.proposer _ _ p e).0 change.entry))
        (model_adopts p e t) (adopting_follows ans (ans.values p)))
        (λ t. record { seen_as = tt })

    -- what epaxos_try_adopt says, as the model does
    try_follows : Follows (model_setup_of s) ans (epaxos_adopt (asked_by s i) round core adoption)
        (cond (model.may_adopt (model_setup_of s) ans) (model_adopts_best (model_setup_of s) i host x0 (view_of ans core)) (quiet (view_of ans core)))
    unfolding epaxos_try_adopt size
    try_follows =
        by_choice (λ (r : Result (Option ℕ) Refusal). Adopts r (goal (leb (quorums_of s).majority answered && leb 2 proposers))) (contains change.answers.fast_proposers i)
        (λ a. by_choice (λ (r : Result (Option ℕ) Refusal). Adopts r (goal (leb (quorums_of s).majority answered && leb 2 proposers))) (ltb answered (quorums_of s).majority)
        (λ b. follows_both refl (ap (λ (t : Bool). goal (t && leb 2 proposers)) (not_ltb answered (quorums_of s).majority b)) (record { seen_as = refl }))
        (λ b. follows_both refl (ap (λ (t : Bool). goal (t && leb 2 proposers)) (not_ltb' answered (quorums_of s).majority b))
        (by_turned Adopts (ltb proposers 2) (leb 2 proposers) (ltb_turned proposers 2) (λ c. record { seen_as = refl }) (λ c. adopt_follows chosen refl))))
        (λ a. record { seen_as = tt })
      where
        answered : ℕ
        answered = count (contains change.answers.fast_answer_set) 64

        proposers : ℕ
        proposers = count (contains change.answers.fast_proposers) 64

        goal : Bool → ModelOutcome
        goal t = cond t (model_adopts_best (model_setup_of s) i host x0 (view_of ans core)) (quiet (view_of ans core))

        Adopts : Result (Option ℕ) Refusal → ModelOutcome → Type 0
        Adopts r o = Follows (model_setup_of s) ans (epaxos_adopt (asked_by s i) round core r) o

    decide_follows : (v : ℕ) → Follows (model_setup_of s) ans (epaxos_decide choose (asked_by s i) h round v core change fast.fast_proposer_to_v fast.epaxos_proposer_scores)
        (model.decides (model_setup_of s) i v host x0 (view_of ans core))
    unfolding epaxos_decide model.decides
    decide_follows v =
        by_both (Follows (model_setup_of s) ans) (epaxos_can_commit (asked_by s i).member change.answers) (model.fast_quorum_answered (model_setup_of s) ans) can_commit (λ e. record { seen_as = refl }) (λ e. try_follows)

  -- ---- the answer

  module _ (fast : FastState) (ok : FastFits fast) where
    abbrev answered_by : ℕ → ℕ → Result FastChange Refusal
    answered_by p v = epaxos_answered (asked_by s i).member h.src p v (answers_of fast) fast.epaxos_proposer_scores

    abbrev view : View
    view = view_of (model_answers_of fast) core

    model_again : (p v : ℕ) (host : Host) → contains fast.fast_answer_set h.src ≡ true → eqb h.src i ≡ true
        → model.answering (model_setup_of s) i h.src (suc p) v host x0 view ≡ model.decides (model_setup_of s) i v host x0 view
    unfolding model.answering
    model_again p v host e d = let n = eqb-suc-zero p in simp (n, e, d)

    model_first : (p v : ℕ) (host : Host) → contains fast.fast_answer_set h.src ≡ false
        → model.answering (model_setup_of s) i h.src (suc p) v host x0 view ≡ model.decides (model_setup_of s) i v host x0 (with_answers (model_with_answer i h.src p v (model_answers_of fast)) view)
    unfolding model.answering
    model_first p v host e = let n = eqb-suc-zero p in simp (n, e)

    decided : (change : FastChange) (v : ℕ) (r : ModelOutcome) → r ≡ model.decides (model_setup_of s) i v (host_with choose change fast.epaxos_proposer_scores) x0 (view_of (model_answers_of (changed change fast)) core)
        → FollowsChange (model_setup_of s) fast (map_step (with_change change) (epaxos_decide choose (asked_by s i) h round v core change fast.fast_proposer_to_v fast.epaxos_proposer_scores)) r
    decided change v r e = changes_follow (model_setup_of s) fast change _ r (follows_both refl e (decide_follows fast change ok.long_values ok.long_epaxos v))

    fast_answer_follows : (p v : ℕ) → p < 64
        → FollowsChange (model_setup_of s) fast (epaxos_answer choose (asked_by s i) h round (FastV p v) core (answers_of fast) fast.fast_proposer_to_v fast.epaxos_proposer_scores)
        (model.answering (model_setup_of s) i h.src (suc p) v (host_for choose s i h.src fast (FastV p v)) x0 view)
    unfolding epaxos_answer epaxos_answered second_answer
    fast_answer_follows p v p-small =
        by_choice AnswerFollows (contains fast.fast_answer_set h.src)
        (λ e. by_choice AnswerFollows (eqb h.src i)
        (λ d. decided (unchanged (answers_of fast)) v _
        (model_again p v _ e d ∙ ap (λ (a : ModelAnswers). model.decides (model_setup_of s) i v (host_with choose (unchanged (answers_of fast)) fast.epaxos_proposer_scores) x0 (view_of a core)) (sym (unchanged_answers fast))))
        (λ d. record { seen_as = tt }))
        (λ e. decided change v _
        (model_first p v _ e ∙ ap (λ (a : ModelAnswers). model.decides (model_setup_of s) i v (host_with choose change fast.epaxos_proposer_scores) x0 (view_of a core)) (sym (counted_answers (asked_by s i).member h.src p v src-small p-small fast ok))))
      where
        change : FastChange
        change = epaxos_counted (asked_by s i).member h.src p v (answers_of fast) fast.epaxos_proposer_scores

        AnswerFollows : Result FastChange Refusal → Type 0
        AnswerFollows step =
            FollowsChange (model_setup_of s) fast (after_epaxos_answer choose (asked_by s i) h round v core fast.fast_proposer_to_v fast.epaxos_proposer_scores step)
            (model.answering (model_setup_of s) i h.src (suc p) v (host_with choose (change_left (answers_of fast) step) fast.epaxos_proposer_scores) x0 view)

    slow_answer_follows : (at-round : Option PaxosRound) (v : ℕ)
        → FollowsChange (model_setup_of s) fast (epaxos_answer choose (asked_by s i) h round (PaxosV at-round v) core (answers_of fast) fast.fast_proposer_to_v fast.epaxos_proposer_scores)
        (model.answering (model_setup_of s) i h.src 0 v (record { allows = true; requester = 0; adoptee = 0 }) x0 view)
    unfolding epaxos_answer
    slow_answer_follows at-round v = record { seen_as = tt }

    pub answer_follows : (rv : RoundV) → ProposerFits rv
        → FollowsChange (model_setup_of s) fast (epaxos_answer choose (asked_by s i) h round rv core (answers_of fast) fast.fast_proposer_to_v fast.epaxos_proposer_scores)
        (model.answering (model_setup_of s) i h.src (proposer_of rv) (value_of rv) (host_for choose s i h.src fast rv) x0 view)
    answer_follows (FastV p v) l = fast_answer_follows p v l
    answer_follows (PaxosV at-round v) l = slow_answer_follows at-round v

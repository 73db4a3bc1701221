-- A Prepare in EPaxos gives the numbers of the table of panics (specs/Panics.antt), row by row.
-- Assumes nothing.
use Rattle.basics.proofs.Tests.{by_cases}
use Rattle.std.specs.Prelude.{Option, None, Some, is_some}
use mathlib.Core.Path.{◌≡◌, refl, sym, ap, ap₂, subst, ◌∙◌}
use mathlib.Core.Bool.{Bool, true, false, cond, not, ◌&&◌}
use mathlib.Core.List.{List}
use Prim.Native.Nat.{ℕ}
use lib.Dec.{eqb, leb}
use Rattle.basics.specs.sets.Sets.{contains, size, is_empty}
use Rattle.message.specs.Modes.{is_swift_paxos}
use Rattle.message.specs.declared.PaxosRound.{PaxosRound}
use Rattle.message.specs.declared.RoundV.{RoundV}
use Rattle.message.specs.declared.RoundV.TheVariants.{FastV, PaxosV}
use Rattle.round_state.specs.Paxos.{is_prepared, receive_promise, accept_fits, receive_accept, accept_own, self_accept, get_last_accepted_round}
use Rattle.round_state.specs.declared.Member.{Member}
use Rattle.round_state.specs.declared.PaxosState.{PaxosState}
use Rattle.fast_state.specs.declared.FastAnswers.{FastAnswers}
use Rattle.classic.specs.prepare.Prepare.{prepare_answered, accept_phase, broadcast_accept, with_promise, has_accepted}
use Rattle.steps.specs.Steps.{map_step, with_change}
use Rattle.steps.specs.declared.Asked.{Asked}
use Rattle.steps.specs.declared.Core.{Core}
use Rattle.steps.specs.declared.Heard.{Heard}
use Rattle.consensus.specs.Panics.{Facts, is_delegate, reaches_majority, promises_then, completes, own_accept_fits, prepare_rows, own_accept_rows, unopposed, is_one, answers_again, epaxos_answers_then, epaxos_scores_then, fast_quorum_unopposed, adopts, accepted_then, epaxos_answer_rows, epaxos_prepare}
use Rattle.consensus.specs.Rows.{Row, first_of, then}
use Rattle.consensus.proofs.Admitted.{above_test}
use Rattle.fast_state.specs.Adopt.{ProposerChoice, value_in, score_in, adopted, epaxos_try_adopt}
use Rattle.fast_state.specs.Fast.{unchanged, preaccepted_after, second_answer, score_after, epaxos_counted, epaxos_answered, epaxos_can_commit}
use Rattle.fast_state.specs.declared.FastChange.{FastChange}
use Rattle.fast.specs.epaxos.EPaxos.{adopting, epaxos_adopt, epaxos_decide, epaxos_answer}
use Rattle.paxos_family.specs.Process.{fast_prepared, fast_promised, starts_accept, waits, fast_answered, fast_gather, entered_fast_prepare}
use Rattle.consensus.proofs.Handled.{facts_in, step_number, change_number, with_change_number, number_after_step, and_then_change_number, prepare_begins, promised_held, promised_enough, becomes, own_accept_number, first}

module _ (a : Asked) (h : Heard) (value_held : Bool) (round : PaxosRound) (choose : ProposerChoice) where
  abbrev pub me : Member
  me = a.member

  -- a value is adopted where one of the proposers is chosen
  adopting_number : (v : ℕ) (core : Core)
      → step_number value_held (adopting a round v core) ≡ cond (is_prepared me core.paxos) (cond (is_empty core.paxos.accepted_set) 0 9) 8
  unfolding adopting self_accept accept_own receive_accept accept_fits broadcast_accept
  adopting_number v core =
      by_cases (is_prepared me core.paxos)
      (λ p. by_cases (is_empty core.paxos.accepted_set) (λ e. simp (p, e)) (λ e. simp (p, e)))
      (λ p. simp p)

  abbrev adopt_number : Bool → Core → ℕ
  adopt_number adopts core = cond adopts (cond (is_prepared me core.paxos) (cond (is_empty core.paxos.accepted_set) 0 9) 8) 0

  chosen_number : (core : Core) (value : ℕ → ℕ) (o : Option ℕ) → step_number value_held (epaxos_adopt a round core (adopted value o)) ≡ adopt_number (is_one o) core
  unfolding adopted
  chosen_number core value None = refl
  chosen_number core value (Some p) = adopting_number (value p) core

  try_adopt_number : (core : Core) (f : FastAnswers) (value score : ℕ → ℕ)
      → step_number value_held (epaxos_adopt a round core (epaxos_try_adopt choose me f value score))
      ≡ cond (contains f.fast_proposers me.my_pid)
      (adopt_number (leb me.quorums.majority (size f.fast_answer_set) && leb 2 (size f.fast_proposers) && is_one (choose f score)) core) 8
  unfolding epaxos_try_adopt
  try_adopt_number core f value score =
      by_cases (contains f.fast_proposers me.my_pid)
      (λ c. by_cases (leb me.quorums.majority (size f.fast_answer_set))
      (λ m. by_cases (leb 2 (size f.fast_proposers))
      (λ t. simp (c, above_test, m, t) (chosen_number core value (choose f score)))
      (λ t. simp (c, above_test, m, t)))
      (λ m. simp (c, above_test, m)))
      (λ c. simp c)

  abbrev decide_number : FastAnswers → (ℕ → ℕ) → Core → ℕ
  decide_number f score core =
      cond (unopposed me.quorums.epaxos f) (cond value_held 0 6)
      (cond (contains f.fast_proposers me.my_pid)
      (adopt_number (leb me.quorums.majority (size f.fast_answer_set) && leb 2 (size f.fast_proposers) && is_one (choose f score)) core) 8)

  decide_number_lem : (v : ℕ) (core : Core) (change : FastChange) (values scores : List ℕ)
      → step_number value_held (epaxos_decide choose a h round v core change values scores) ≡ decide_number change.answers (score_in change.entry scores) core
  unfolding epaxos_decide
  decide_number_lem v core change values scores =
      by_cases (epaxos_can_commit me change.answers) (λ e. simp e)
      (λ e. simp e (try_adopt_number core change.answers (value_in change.entry values) (score_in change.entry scores)))

  module _ (answers : FastAnswers) (values scores : List ℕ) (p : PaxosState) where
    abbrev known : Facts
    known = facts_in a h value_held round p answers scores

    -- with its change, the step decides as it did
    changed_number : (v : ℕ) (core : Core) (change : FastChange)
        → change_number value_held (map_step (with_change change) (epaxos_decide choose a h round v core change values scores))
        ≡ decide_number change.answers (score_in change.entry scores) core
    changed_number v core change =
        with_change_number value_held change (epaxos_decide choose a h round v core change values scores)
        ∙ decide_number_lem v core change values scores

    answer_number_lem : (proposer v : ℕ) (core : Core)
        → change_number value_held (epaxos_answer choose a h round (FastV proposer v) core answers values scores)
        ≡ cond (answers_again known) 10 (decide_number (epaxos_answers_then known proposer) (epaxos_scores_then known proposer) core)
    unfolding epaxos_answer epaxos_answered second_answer preaccepted_after score_after score_in
    answer_number_lem proposer v core =
        by_cases (contains answers.fast_answer_set h.src)
        (λ c. by_cases (eqb h.src me.my_pid)
        (λ s. simp (c, s) (changed_number v core (unchanged answers)))
        (λ s. simp (c, s)))
        (λ c. simp c (changed_number v core (epaxos_counted me h.src proposer v answers scores)))

  off_six : (t commits : Bool) → ◌≡◌ {A = ℕ} (cond (t && false && commits) 6 0) 0
  off_six true commits = refl
  off_six false commits = refl

  delegate_table : (accepted completes empty fit : Bool) (answer : Bool → ℕ) → answer false ≡ 0
      → cond (accepted && completes) (cond empty (cond fit 0 9) 9) (cond accepted 0 (answer true))
      ≡ cond (true && accepted && completes && not empty) 9 (cond (true && accepted && completes && not fit) 9 (answer (true && not accepted)))
  delegate_table true true true true answer e = sym e
  delegate_table true true true false answer e = refl
  delegate_table true true false fit answer e = refl
  delegate_table true false empty fit answer e = sym e
  delegate_table false completes empty fit answer e = refl

  -- the rows of an answer on the fast path
  answer_table : (second commits there adopted prepared empty held : Bool)
      → ◌≡◌ {A = ℕ} (cond second 10 (cond commits (cond held 0 6) (cond there (cond adopted (cond prepared (cond empty 0 9) 8) 0) 8)))
      (cond (true && second) 10
      (cond (true && not commits && not there) 8
      (cond (true && not commits && adopted && not prepared) 8
      (cond (true && not commits && adopted && not empty) 9
      (cond (not held && true && commits) 6 0)))))
  answer_table true c t a p e h = refl
  answer_table false true t a p e true = refl
  answer_table false true t a p e false = refl
  answer_table false false false a p e h = refl
  answer_table false false true true false e h = refl
  answer_table false false true true true false h = refl
  answer_table false false true true true true true = refl
  answer_table false false true true true true false = refl
  answer_table false false true false p e true = refl
  answer_table false false true false p e false = refl

  module _ (answers : FastAnswers) (values scores swift_scores : List ℕ) (rv : RoundV) (core : Core) where
    abbrev pub facts : Facts
    facts = facts_in a h value_held round core.paxos answers scores

    abbrev pub start_score : Core
    start_score = first a h value_held round answers scores rv core

    abbrev pub promised : Core
    promised = with_promise a h rv start_score

    pub has_accepted_lem : has_accepted promised ≡ accepted_then facts rv
    has_accepted_lem = ap (λ (x : Option RoundV). is_some (get_last_accepted_round x)) (promised_held a h value_held round answers scores rv core)

    -- an answer where nothing is accepted
    fast_answer_lem : (x : RoundV) → change_number value_held (epaxos_answer choose a h round x promised answers values scores) ≡ first_of (epaxos_answer_rows choose facts true x)
    unfolding epaxos_answer first_of receive_promise
    fast_answer_lem (PaxosV at v) = refl
    fast_answer_lem (FastV proposer v) =
        answer_number_lem answers values scores core.paxos proposer v promised
        ∙ simp (promised_enough a h value_held round answers scores rv core)
        (answer_table (answers_again facts) (fast_quorum_unopposed facts proposer) (contains (epaxos_answers_then facts proposer).fast_proposers facts.own) (adopts choose facts proposer)
        (reaches_majority facts (promises_then facts)) (is_empty facts.accepts) value_held)

    -- the rows of the delegate, by whether oneself is the delegate
    abbrev delegate_rows : Bool → List Row
    delegate_rows g = then (own_accept_rows facts (g && accepted_then facts rv && completes facts) rv) (epaxos_answer_rows choose facts (g && not (accepted_then facts rv)) rv)

    -- no row of an answer is met off the path
    off_answer : (x : RoundV) → first_of (epaxos_answer_rows choose facts false x) ≡ 0
    unfolding first_of
    off_answer (PaxosV at v) = refl
    off_answer (FastV proposer v) = off_six (not value_held) (fast_quorum_unopposed facts proposer)

    abbrev pub gathered : Core → ℕ
    gathered c = change_number value_held (fast_gather choose a h round rv c answers values scores swift_scores)

    pub gather_shape : (c p : Core) → fast_promised a h rv c ≡ p
        → gathered c ≡ cond (starts_accept a round c p) (step_number value_held (accept_phase a round p))
        (cond (waits a round p) 0 (change_number value_held (fast_answered choose a h round rv p answers values scores swift_scores)))
    unfolding fast_gather
    gather_shape c p e =
        by_cases (starts_accept a round c p) (λ s. simp (e, s) (with_change_number value_held (unchanged answers) (accept_phase a round p))) (λ s. by_cases (waits a round p) (λ w. simp (e, s, w)) (λ w. simp (e, s, w)))

    -- at a replica, in EPaxos and in SwiftPaxos
    module _ (l : me.replica ≡ true) where
      pub counts : fast_promised a h rv start_score ≡ promised
      unfolding fast_promised
      counts = simp l

      prepares : fast_prepared a h round rv core ≡ prepare_answered a h round rv core
      unfolding fast_prepared
      prepares = simp l

      -- by the rows of what the delegate gathers: none is met where another is the delegate
      pub replica_prepares : (swift : Bool) → is_swift_paxos a.mode ≡ swift → (rows : Bool → List Row) → gathered start_score ≡ first_of (rows true) → first_of (rows false) ≡ 0
          → change_number value_held (entered_fast_prepare choose a h round rv core answers values scores swift_scores)
          ≡ first_of (then (prepare_rows facts swift rv) (rows (is_delegate facts)))
      unfolding entered_fast_prepare
      replica_prepares swift c rows at other =
          and_then_change_number value_held answers (fast_prepared a h round rv core) (λ x. fast_gather choose a h round rv x answers values scores swift_scores)
          ∙ ap (number_after_step value_held gathered) prepares
          ∙ prepare_begins a h value_held round answers scores rv core l swift c gathered (rows (is_delegate facts))
          (λ g. subst (λ (b : Bool). gathered start_score ≡ first_of (rows b)) (sym g) at)
          (λ g. subst (λ (b : Bool). 0 ≡ first_of (rows b)) (sym g) (sym other))

    module _ (c : is_swift_paxos a.mode ≡ false) (l : me.replica ≡ true) where
      starts : starts_accept a round start_score promised ≡ (accepted_then facts rv && completes facts)
      unfolding starts_accept
      starts = simp c (ap₂ ◌&&◌ has_accepted_lem (becomes a h value_held round answers scores rv core))

      waits_accepted : waits a round promised ≡ accepted_then facts rv
      unfolding waits
      waits_accepted = simp c has_accepted_lem

      answers_fast : change_number value_held (fast_answered choose a h round rv promised answers values scores swift_scores) ≡ first_of (epaxos_answer_rows choose facts true rv)
      unfolding fast_answered
      answers_fast = simp c (fast_answer_lem rv)

      delegate_number : gathered start_score ≡ first_of (delegate_rows true)
      unfolding first_of then
      delegate_number =
          gather_shape start_score promised (counts l)
          ∙ simp (starts, waits_accepted, own_accept_number a h value_held round answers scores rv core, answers_fast)
          (delegate_table (accepted_then facts rv) (completes facts) (is_empty facts.accepts) (own_accept_fits facts rv) (λ path. first_of (epaxos_answer_rows choose facts path rv)) (off_answer rv))

      pub epaxos_prepare_lem : change_number value_held (entered_fast_prepare choose a h round rv core answers values scores swift_scores) ≡ first_of (epaxos_prepare choose facts rv)
      unfolding first_of then
      epaxos_prepare_lem = replica_prepares l false c delegate_rows delegate_number (off_answer rv)

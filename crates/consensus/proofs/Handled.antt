-- The handlers of a Prepare and an Accept give the numbers of the table of panics (specs/Panics.antt), row by row.
-- Assumes nothing.
use Rattle.std.specs.Prelude.{Option, None, Some, Result, Ok, Err}
use mathlib.Core.Path.{◌≡◌, refl, sym, ap, ◌∙◌}
use mathlib.Core.Bool.{Bool, true, false, cond, not, ◌&&◌, ◌||◌}
use mathlib.Core.List.{List}
use Prim.Native.Nat.{ℕ, ◌+◌, ◌≤◌, ◌<◌}
use native.Mathlib.Nat.{add-zero}
use lib.Dec.{eqb, ltb, leb}
use borrow.Author.Tests.{ltb-true, ltb-false, eqb-true, eq-eqb}
use Rattle.basics.specs.sets.Sets.{insert, size, is_empty, one}
use Rattle.basics.proofs.sets.Laws.{contains_insert_same, size_insert, insert_none}
use Rattle.basics.specs.tables.Tables.{look_up}
use Rattle.message.specs.Modes.{is_swift_paxos}
use Rattle.message.specs.Promises.{value_of, accept_round_of, is_process}
use Rattle.message.specs.Refusals.{refusal_number}
use Rattle.message.specs.Rounds.{before, equal}
use Rattle.message.specs.declared.PaxosRound.{PaxosRound}
use Rattle.message.specs.declared.Refusal.{Refusal}
use Rattle.message.specs.declared.Refusal.TheVariants.{Panic, AcceptUnlikeHeld}
use Rattle.message.specs.declared.RoundV.{RoundV}
use Rattle.message.specs.declared.RoundV.TheVariants.{FastV, PaxosV}
use Rattle.round_state.specs.Paxos.{with_sender, with_own, counted, is_prepared, held_after_promise, receive_promise, paxos_propose_v, accept_fits, receive_accept, accept_own, self_accept, after_accept}
use Rattle.round_state.specs.declared.Member.{Member}
use Rattle.round_state.specs.declared.PaxosState.{PaxosState}
use Rattle.fast_state.specs.declared.FastAnswers.{FastAnswers}
use Rattle.fast_state.specs.declared.FastChange.{FastChange}
use Rattle.classic.specs.prepare.Prepare.{hold_first, may_answer, answer_prepare, answers_nothing, preparing, prepare_answered, accept_phase, broadcast_accept, with_promise, becomes_prepared, gather}
use Rattle.paxos_family.specs.Process.{entered_prepare}
use Rattle.steps.specs.Steps.{RoundsStep, CoreStep, with_paxos, goes_on, and_then, and_then_change, map_step, with_change}
use Rattle.steps.specs.declared.Asked.{Asked}
use Rattle.steps.specs.declared.ChangeStep.{ChangeStep}
use Rattle.steps.specs.declared.Core.{Core}
use Rattle.steps.specs.declared.Heard.{Heard}
use Rattle.steps.specs.declared.Next.{Next}
use Rattle.steps.specs.declared.Next.TheVariants.{Stays, Continues, Commits}
use Rattle.basics.proofs.Tests.{by_cases, same_test}
use Rattle.consensus.specs.Panics.{Facts, is_delegate, nothing_held, reaches_majority, promises_first, promises_then, completes, own_accept_fits, accepted_in_round, fits_held, with_both, held_before, held_then, classic_prepare, prepare_rows, own_accept_rows}
use Rattle.consensus.specs.Rows.{Row, first_of, then}

-- the number of a step that is taken, with whether the value is held
abbrev pub next_number : Bool → Next → ℕ
next_number held Stays = 0
next_number held Continues = 0
next_number held (Commits v) = cond held 0 6

-- the number of a step that may be refused, by how it goes on
abbrev pub number_by : {A : Type 0} → (A → Next) → Bool → Result A Refusal → ℕ
number_by next held (Ok step) = next_number held (next step)
number_by next held (Err why) = refusal_number why

abbrev pub step_number : Bool → Result CoreStep Refusal → ℕ
step_number held step = number_by (λ s. s.next) held step

abbrev pub change_number : Bool → Result ChangeStep Refusal → ℕ
change_number held step = number_by (λ s. s.next) held step

abbrev pub rounds_number : Bool → Result RoundsStep Refusal → ℕ
rounds_number held step = number_by (λ s. s.next) held step

-- a step made of another has its number
pub mapped_number : {A B : Type 0} (make : A → B) (next : B → Next) (held : Bool) (step : Result A Refusal)
    → number_by next held (map_step make step) ≡ number_by (λ s. next (make s)) held step
mapped_number make next held (Ok step) = refl
mapped_number make next held (Err why) = refl

pub with_change_number : (held : Bool) (change : FastChange) (step : Result CoreStep Refusal) → change_number held (map_step (with_change change) step) ≡ step_number held step
with_change_number held change step = mapped_number (with_change change) (λ s. s.next) held step

-- what the handlers know, by what they are given
abbrev pub facts_in : Asked → Heard → Bool → PaxosRound → PaxosState → FastAnswers → List ℕ → Facts
facts_in a h value_held round p answers scores =
    record {
      own = a.member.my_pid;
      replica = a.member.replica;
      source = h.src;
      round = round;
      delegate = h.delegate;
      committer = is_process h.committer a.member.my_pid;
      value_held = value_held;
      quorums = a.member.quorums;
      fixed = a.quorum;
      held = p.max_rv;
      promises = p.prepared_set;
      accepts = p.accepted_set;
      answers = answers;
      scores = λ q. look_up scores q;
    }

-- ---- sets and what is held

pub twice_size : (s p : ℕ) → size (insert (insert s p) p) ≡ size (insert s p)
twice_size s p = by_cases (ltb p 64) (λ e. inside (ltb-true p 64 e)) (λ e. outside (ltb-false p 64 e))
  where
    inside : p < 64 → size (insert (insert s p) p) ≡ size (insert s p)
    inside l = size_insert (insert s p) p l ∙ ap (λ (t : Bool). size (insert s p) + one (not t)) (contains_insert_same s p l) ∙ add-zero (size (insert s p))

    outside : 64 ≤ p → size (insert (insert s p) p) ≡ size (insert s p)
    outside l = ap size (insert_none (insert s p) p l)

-- the set with the sender and oneself, by its size
both_size : (me : Member) (src set : ℕ)
    → size (counted me src set) ≡ size (cond me.replica (insert (insert set src) me.my_pid) (cond (eqb src me.my_pid) set (insert set src)))
unfolding with_sender with_own
both_size me src set =
    by_cases me.replica
    (λ r. by_cases (eqb src me.my_pid) (λ e. simp (r, eqb-true src me.my_pid e, eq-eqb me.my_pid me.my_pid refl, twice_size)) (λ e. simp (r, e)))
    (λ r. simp r)

pub counted_size : (a : Asked) (h : Heard) (held : Bool) (round : PaxosRound) (p : PaxosState) (answers : FastAnswers) (scores : List ℕ) (set : ℕ)
    → size (counted a.member h.src set) ≡ size (with_both (facts_in a h held round p answers scores) set)
unfolding with_both
counted_size a h held round p answers scores set = both_size a.member h.src set

pub fits_same : (held : Option RoundV) (round : PaxosRound) (v : ℕ) → accept_fits held round v ≡ fits_held held round v
unfolding accept_fits
fits_same None round v = refl
fits_same (Some (FastV proposer w)) round v = refl
fits_same (Some (PaxosV None w)) round v = refl
fits_same (Some (PaxosV (Some r) w)) round v = refl

pub choice_same : {A : Type 0} (t : Bool) (x : A) → cond t x x ≡ x
choice_same true x = refl
choice_same false x = refl

pub promise_holds : (held : Option RoundV) (rv : RoundV) → held_after_promise held rv ≡ Some (held_then held rv)
unfolding held_after_promise
promise_holds None rv = refl
promise_holds (Some old) rv = by_cases (before (accept_round_of old) (accept_round_of rv)) (λ e. simp e) (λ e. simp e)

-- self_accept of what is held
pub self_accept_number : (me : Member) (round : PaxosRound) (p : PaxosState) (rv : RoundV) → p.max_rv ≡ Some rv
    → self_accept me round p
    ≡ cond (is_empty p.accepted_set)
    (cond (fits_held (Some rv) round (value_of rv)) (Ok (after_accept me me.my_pid round (value_of rv) p)) (Err AcceptUnlikeHeld))
    (Err AcceptUnlikeHeld)
unfolding self_accept accept_own receive_accept
self_accept_number me round p rv e =
    by_cases (is_empty p.accepted_set) (λ t. by_cases (fits_held (Some rv) round (value_of rv)) (λ u. simp (e, t, fits_same, u)) (λ u. simp (e, t, fits_same, u))) (λ t. simp t)

-- ---- steps one after another

-- the number of a step and what comes behind it
abbrev pub number_after_step : Bool → (Core → ℕ) → Result CoreStep Refusal → ℕ
number_after_step value_held rest (Ok step) = cond (goes_on step.next) (rest step.state) (next_number value_held step.next)
number_after_step value_held rest (Err why) = refusal_number why

pub and_then_number : (value_held : Bool) (step : Result CoreStep Refusal) (rest : Core → Result CoreStep Refusal)
    → step_number value_held (and_then step rest) ≡ number_after_step value_held (λ c. step_number value_held (rest c)) step
and_then_number value_held (Ok step) rest = by_cases (goes_on step.next) (λ e. simp e) (λ e. simp e)
and_then_number value_held (Err why) rest = refl

pub and_then_change_number : (value_held : Bool) (answers : FastAnswers) (step : Result CoreStep Refusal) (rest : Core → Result ChangeStep Refusal)
    → change_number value_held (and_then_change answers step rest) ≡ number_after_step value_held (λ c. change_number value_held (rest c)) step
and_then_change_number value_held answers (Ok step) rest = by_cases (goes_on step.next) (λ e. simp e) (λ e. simp e)
and_then_change_number value_held answers (Err why) rest = refl

-- ---- rows of tests

pub eqb_sym : (m n : ℕ) → eqb m n ≡ eqb n m
eqb_sym m n = same_test (λ e. eq-eqb n m (sym (eqb-true m n e))) (λ e. eq-eqb m n (sym (eqb-true n m e)))

-- a commit needs its value
abbrev pub if_enough : Bool → Bool → ℕ
if_enough value_held enough = cond enough (cond value_held 0 6) 0

pub accept_table : (fit leads delegate committer enough held : Bool)
    → ◌≡◌ {A = ℕ} (cond fit (cond leads (if_enough held enough) (cond delegate (cond committer (if_enough held enough) 0) (cond committer (if_enough held enough) 8))) 9)
    (cond (not fit) 9 (cond (not leads && not delegate && not committer) 8 (cond (not held && (leads || committer) && enough) 6 0)))
accept_table false l d c e h = refl
accept_table true true d c true true = refl
accept_table true true d c true false = refl
accept_table true true d c false true = refl
accept_table true true d c false false = refl
accept_table true false true true true true = refl
accept_table true false true true true false = refl
accept_table true false true true false true = refl
accept_table true false true true false false = refl
accept_table true false true false e true = refl
accept_table true false true false e false = refl
accept_table true false false true true true = refl
accept_table true false false true true false = refl
accept_table true false false true false true = refl
accept_table true false false true false false = refl
accept_table true false false false e h = refl

pub begin_table : (panic gathers nothing may : Bool) (x y : ℕ) → (gathers ≡ true → x ≡ y) → (gathers ≡ false → 0 ≡ y)
    → cond panic 8 (cond gathers x (cond nothing 0 (cond may 0 8))) ≡ cond panic 8 (cond (not gathers && not nothing && not may) 8 y)
begin_table true g n m x y p q = refl
begin_table false true n m x y p q = p refl
begin_table false false true m x y p q = q refl
begin_table false false false true x y p q = q refl
begin_table false false false false x y p q = refl

pub own_table : (path empty fit : Bool) → ◌≡◌ {A = ℕ} (cond path (cond empty (cond fit 0 9) 9) 0) (cond (path && not empty) 9 (cond (path && not fit) 9 0))
own_table true true true = refl
own_table true true false = refl
own_table true false fit = refl
own_table false empty fit = refl

-- a handler that ends with a step gives its number
pub stop_number : (value_held : Bool) (step : Result CoreStep Refusal) → step_number value_held step ≡ number_after_step value_held (λ c. 0) step
stop_number value_held (Ok step) = go step.next
  where
    go : (n : Next) → next_number value_held n ≡ cond (goes_on n) 0 (next_number value_held n)
    go Stays = refl
    go Continues = refl
    go (Commits v) = refl
stop_number value_held (Err why) = refl

-- ---- how a Prepare begins at a replica, in every mode

-- what hold_first leaves
abbrev pub first_state : Member → RoundV → PaxosState → PaxosState
first_state me rv p =
    record {
      round = p.round;
      max_rv = Some (held_before p.max_rv rv);
      prepared_set = cond (nothing_held p.max_rv) (insert p.prepared_set me.my_pid) p.prepared_set;
      accepted_set = p.accepted_set;
    }

pub own_counted : (me : Member) (set : ℕ) → me.replica ≡ true → counted me me.my_pid set ≡ insert set me.my_pid
unfolding with_sender with_own
own_counted me set r = simp (r, eq-eqb me.my_pid me.my_pid refl)

pub hold_first_lem : (a : Asked) (rv : RoundV) → a.member.replica ≡ true → (r : Option PaxosRound) (x : Option RoundV) (promises accepts : ℕ)
    → let p : PaxosState = record { round = r; max_rv = x; prepared_set = promises; accepted_set = accepts } in
    hold_first a rv p ≡ cond (nothing_held x && not (is_empty promises)) (Err Panic) (Ok (first_state a.member rv p))
unfolding hold_first paxos_propose_v receive_promise
hold_first_lem a rv l r (Some old) promises accepts = refl
hold_first_lem a rv l r None promises accepts =
    by_cases (is_empty promises) (λ e. simp (e, promise_holds, own_counted a.member promises l)) (λ e. simp e)

module _ (a : Asked) (h : Heard) (value_held : Bool) (round : PaxosRound) where
  abbrev pub me : Member
  me = a.member

  preparing_number : (rest : Core → ℕ) (core : Core)
      → number_after_step value_held rest (preparing a h round core)
      ≡ cond (eqb h.delegate me.my_pid) (rest core) (cond (answers_nothing a h round core) 0 (cond (may_answer h round) 0 8))
  unfolding preparing answer_prepare
  preparing_number rest core =
      by_cases (eqb h.delegate me.my_pid) (λ g. simp g)
      (λ g. by_cases (answers_nothing a h round core) (λ n. simp (g, n)) (λ n. by_cases (may_answer h round) (λ m. simp (g, n, m)) (λ m. simp (g, n, m))))

  prepared_number : (rv : RoundV) → me.replica ≡ true → (rest : Core → ℕ) (core : Core)
      → number_after_step value_held rest (prepare_answered a h round rv core)
      ≡ cond (nothing_held core.paxos.max_rv && not (is_empty core.paxos.prepared_set)) 8
      (cond (eqb h.delegate me.my_pid) (rest (with_paxos (first_state me rv core.paxos) core))
      (cond (answers_nothing a h round (with_paxos (first_state me rv core.paxos) core)) 0 (cond (may_answer h round) 0 8)))
  unfolding prepare_answered
  prepared_number rv l rest core =
      by_cases (nothing_held core.paxos.max_rv && not (is_empty core.paxos.prepared_set))
      (λ e. simp (hold_first_lem a rv l core.paxos.round core.paxos.max_rv core.paxos.prepared_set core.paxos.accepted_set, e))
      (λ e. simp (hold_first_lem a rv l core.paxos.round core.paxos.max_rv core.paxos.prepared_set core.paxos.accepted_set, e)
      (preparing_number rest (with_paxos (first_state me rv core.paxos) core)))

  -- what another than the delegate has accepted is what it holds first
  answers_nothing_lem : (rv : RoundV) (core : Core)
      → answers_nothing a h round (with_paxos (first_state me rv core.paxos) core)
      ≡ ((is_swift_paxos a.mode && eqb h.delegate round.leader) || equal (accept_round_of (held_before core.paxos.max_rv rv)) (Some round))
  unfolding answers_nothing
  answers_nothing_lem rv core = refl

  -- what is held once the promise is counted
  holds_then : (x : Option RoundV) (rv : RoundV) → held_after_promise (Some (held_before x rv)) rv ≡ Some (held_then x rv)
  unfolding held_after_promise
  holds_then None rv = choice_same (before (accept_round_of rv) (accept_round_of rv)) (Some rv)
  holds_then (Some old) rv = promise_holds (Some old) rv

  accept_phase_number : (core : Core) (x : RoundV) → core.paxos.max_rv ≡ Some x
      → step_number value_held (accept_phase a round core) ≡ cond (is_empty core.paxos.accepted_set) (cond (fits_held (Some x) round (value_of x)) 0 9) 9
  unfolding accept_phase broadcast_accept
  accept_phase_number core x e =
      by_cases (is_empty core.paxos.accepted_set)
      (λ t. by_cases (fits_held (Some x) round (value_of x)) (λ u. simp (self_accept_number me round core.paxos x e, t, u)) (λ u. simp (self_accept_number me round core.paxos x e, t, u)))
      (λ t. simp (self_accept_number me round core.paxos x e, t))

  module _ (answers : FastAnswers) (scores : List ℕ) (rv : RoundV) (core : Core) where
    abbrev pub known : Facts
    known = facts_in a h value_held round core.paxos answers scores

    -- the core once the promise is held, and once it is counted
    abbrev pub first : Core
    first = with_paxos (first_state me rv core.paxos) core

    pub promised_held : (with_promise a h rv first).paxos.max_rv ≡ Some (held_then core.paxos.max_rv rv)
    unfolding receive_promise
    promised_held = holds_then core.paxos.max_rv rv

    pub promised_enough : is_prepared me (with_promise a h rv first).paxos ≡ reaches_majority known (promises_then known)
    unfolding receive_promise
    promised_enough = ap (leb me.quorums.majority) (counted_size a h value_held round core.paxos answers scores (promises_first known))

    pub becomes : becomes_prepared a first (with_promise a h rv first) ≡ completes known
    unfolding becomes_prepared
    becomes = ap (λ (t : Bool). not (reaches_majority known (promises_first known)) && t) promised_enough

    pub own_accept_number : step_number value_held (accept_phase a round (with_promise a h rv first)) ≡ cond (is_empty core.paxos.accepted_set) (cond (own_accept_fits known rv) 0 9) 9
    unfolding receive_promise
    own_accept_number = accept_phase_number (with_promise a h rv first) (held_then core.paxos.max_rv rv) promised_held

    gather_number : step_number value_held (gather a h round rv first) ≡ cond (completes known) (cond (is_empty core.paxos.accepted_set) (cond (own_accept_fits known rv) 0 9) 9) 0
    unfolding gather
    gather_number = by_cases (completes known) (λ e. simp (becomes, e) own_accept_number) (λ e. simp (becomes, e))

    -- the rows of every mode, and those of the delegate behind them
    pub prepare_begins : me.replica ≡ true → (swift : Bool) → is_swift_paxos a.mode ≡ swift → (rest : Core → ℕ) (rows : List Row)
        → (is_delegate known ≡ true → rest first ≡ first_of rows) → (is_delegate known ≡ false → 0 ≡ first_of rows)
        → number_after_step value_held rest (prepare_answered a h round rv core) ≡ first_of (then (prepare_rows known swift rv) rows)
    unfolding first_of then
    prepare_begins l swift c rest rows at other =
        prepared_number rv l rest core
        ∙ simp (answers_nothing_lem rv core, c)
        (begin_table (nothing_held core.paxos.max_rv && not (is_empty core.paxos.prepared_set)) (is_delegate known)
        ((swift && eqb h.delegate round.leader) || accepted_in_round known rv) (eqb h.delegate h.src || not (eqb h.delegate round.leader))
        (rest first) (first_of rows) at other)

    -- the classic modes
    pub classic_prepare_lem : is_swift_paxos a.mode ≡ false → me.replica ≡ true → step_number value_held (entered_prepare a h round rv core) ≡ first_of (classic_prepare known rv)
    unfolding entered_prepare first_of then
    classic_prepare_lem c l =
        and_then_number value_held (prepare_answered a h round rv core) (gather a h round rv)
        ∙ prepare_begins l false c (λ x. step_number value_held (gather a h round rv x)) (own_accept_rows known (is_delegate known && completes known) rv)
        (λ g. simp g (gather_number ∙ own_table (completes known) (is_empty core.paxos.accepted_set) (own_accept_fits known rv))) (λ g. simp g)

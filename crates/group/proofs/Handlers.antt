-- The handlers of every mode, once: any property of the core that is kept by the few ways in which a handler changes it, and any property of a
-- message that is met where a handler sends one, hold of what every proposal and every Prepare and Accept leave. Besides, two messages at most are
-- sent, none where nothing is held (so `held_rv` of nothing is not met: "the Rust unwraps"), and no handler ends with `Continues`. A refusal leaves
-- nothing, and nothing is asked of it.
-- Assumes nothing.
use Rattle.std.specs.Prelude.{Option, None, Some, Result, Ok, Err, is_some, IfOk}
use mathlib.Core.Path.{◌≡◌, refl, sym, subst}
use mathlib.Core.Logic.{◌⊎◌, inl, inr}
use mathlib.Core.Bool.{Bool, true, false, cond, not, ◌&&◌, ◌||◌}
use mathlib.Core.List.{List, []}
use Prim.Native.Nat.{ℕ}
use lib.Dec.{T, eqb, ltb, eqb→eq, T_not}
use Rattle.basics.proofs.Tests.{of-both}
use Rattle.basics.specs.sets.Sets.{is_empty}
use Rattle.message.specs.Modes.{has_fast_path, is_multi_paxos, is_swift_paxos}
use Rattle.message.specs.Promises.{is_process, accept_round_of}
use Rattle.message.specs.Rounds.{before}
use Rattle.message.specs.declared.ConsensusMsg.{ConsensusMsg}
use Rattle.message.specs.declared.ConsensusMsg.TheVariants.{Prepare, Accept, ForwardRequest, Commit, ReadRequest, ReadResponse}
use Rattle.message.specs.declared.PFMode.{PFMode}
use Rattle.message.specs.declared.PFMode.TheVariants.{Paxos, MultiPaxos, MultiPaxos3P, EPaxos, Pando, SwiftPaxos}
use Rattle.message.specs.declared.PaxosRound.{PaxosRound}
use Rattle.message.specs.declared.ReadId.{ReadId}
use Rattle.message.specs.declared.Refusal.{Refusal}
use Rattle.message.specs.declared.Refusal.TheVariants.{Panic}
use Rattle.message.specs.declared.RoundV.{RoundV}
use Rattle.message.specs.declared.RoundV.TheVariants.{FastV, PaxosV}
use Rattle.round_state.specs.Paxos.{get_v, held_after_promise, is_prepared, paxos_can_commit, with_held, goto_round, receive_promise, paxos_propose_v, accept_fits, after_accept, receive_accept, accept_own, self_accept, adopt_from_epaxos}
use Rattle.round_state.specs.declared.Member.{Member}
use Rattle.round_state.specs.declared.PaxosState.{PaxosState}
use Rattle.fast_state.specs.Adopt.{ProposerChoice, epaxos_try_adopt_after}
use Rattle.fast_state.specs.Fast.{answers_of, unchanged, epaxos_answered, epaxos_can_commit, swift_answered}
use Rattle.fast_state.specs.declared.FastAnswers.{FastAnswers}
use Rattle.fast_state.specs.declared.FastChange.{FastChange}
use Rattle.classic.specs.accept.Accept.{tells_committer, is_committer, accept_to, committer_hears, answer_accept, commit_message, tells_commit, with_commit_message, try_commit, answered_delegate, follower, accept_taken, after_accepted, accepting}
use Rattle.steps.specs.enter.Enter.{can_propose, source_taken, in_round, is_older, from_live, enter}
use Rattle.fast.specs.epaxos.EPaxos.{requester_of, adopting, epaxos_adopt, epaxos_decide, after_epaxos_answer, epaxos_answer}
use Rattle.classic.specs.prepare.Prepare.{hold_first, may_answer, answer_prepare, answers_nothing, preparing, after_held, prepare_answered, off_fast_path, broadcast_accept, after_own_accept, accept_phase, with_promise, becomes_prepared, gather, has_accepted}
use Rattle.paxos_family.specs.Process.{entered_prepare, on_prepare, on_accept, process_classic, fast_prepared, fast_promised, leads_round, starts_accept, waits, fast_answered, fast_gather, entered_fast_prepare, on_fast_prepare, replica_accept, entered_fast_accept, on_fast_accept, process_change, process_fast, after_replica_accept}
use Rattle.propose.specs.Propose.{proposal_round, may_propose, broadcast_own, propose_prepare, after_own_promise, propose_accept, propose_classic, after_own_answer, own_answer, leads_from_start, propose_change, propose_fast}
use Rattle.steps.specs.Steps.{RoundsStep, CoreStep, no_messages, one_message, also_at, also, sends, to_all, held_rv, held_value, goes_on, and_then, then_in, map_step, and_then_change, with_change, with_paxos, left_fast_path, on_rounds, change_rounds}
use Rattle.read_tracker.specs.declared.Inserted.{Inserted}
use Rattle.steps.specs.declared.Asked.{Asked}
use Rattle.steps.specs.declared.ChangeStep.{ChangeStep}
use Rattle.steps.specs.declared.Core.{Core}
use Rattle.steps.specs.declared.Destination.TheVariants.{One}
use Rattle.steps.specs.declared.Heard.{Heard}
use Rattle.steps.specs.declared.SentMessages.{SentMessages}
use Rattle.steps.specs.declared.Next.{Next}
use Rattle.steps.specs.declared.Next.TheVariants.{Stays, Continues, Commits}
use Rattle.steps.specs.declared.Outgoing.{Outgoing}
use Rattle.steps.specs.declared.Rounds.{Rounds}
use Rattle.fast.specs.swift.Swift.{swift_commits, after_step, after_swift_answer, swift_answer, swift_client_prepare, after_client_accept, client_accept, leader_answered, from_leader, accept_answered, after_accept_answer, swift_accept, swift_client_accept, after_replica_answer, swift_answered_accept}
use Rattle.calls.specs.declared.delivery.Delivery.{Delivery}
use Rattle.calls.specs.Asked.{asked_of, heard_of}
use Rattle.calls.specs.Replies.{read_answer}
use Rattle.calls.specs.declared.Call.{Call}
use Rattle.calls.specs.declared.Call.TheVariants.{Propose, StartRead, Receive}
use Rattle.consensus.proofs.Decided.{handled, by_decision}
use Rattle.consensus.specs.Answers.{refused, sent_answer, nothing, committed, finish_at, finish}
use Rattle.consensus.specs.Call.{in_shard, call_with}
use Rattle.consensus.specs.FirstCause.{number_alone}
use Rattle.consensus.specs.Handle.{proposing, after_insert, read_inserted, start_read, on_commit, on_read_request, on_read_response, processed, process_message, handle, handle_call}
use Rattle.consensus.specs.declared.Answer.{Answer}
use Rattle.consensus.specs.declared.Shard.{Shard}
use Rattle.consensus.specs.declared.State.{State}
use Rattle.consensus.specs.declared.StateAnswer.{StateAnswer}
use Rattle.basics.specs.Lists.{In}
use Rattle.agreement.proofs.Tests.{by_test, both_hold, neqb→ne}
use Rattle.group.specs.Claim.{listed, messages_of}

-- nothing is asked
abbrev pub Any : {A : Type 0} → A → Type 0
Any x = Unit {0}

pub any_holds : {A : Type 0} (r : Result A Refusal) → IfOk r Any
any_holds (Ok x) = tt
any_holds (Err why) = tt

-- what holds of every step made of one that is taken
pub mapped : {A B : Type 0} {Q : A → Type 0} (make : A → B) (P : B → Type 0) (r : Result A Refusal) → ((x : A) → Q x → P (make x)) → IfOk r Q → IfOk (map_step make r) P
mapped make P (Ok x) f q = f x q
mapped make P (Err why) f q = tt

-- ---- what is held

abbrev pub Holds : {A : Type 0} → Option A → Type 0
Holds held = T (is_some held)

pub promise_held : (held : Option RoundV) (rv : RoundV) → Holds (held_after_promise held rv)
unfolding held_after_promise
promise_held None rv = tt
promise_held (Some old) rv = of-both Holds (before (accept_round_of old) (accept_round_of rv)) tt tt

-- ---- what is sent: two messages at most, each with the property

module _ (O : Outgoing → Type 0) where
  abbrev EachOf : Option Outgoing → Type 0
  EachOf None = Unit {0}
  EachOf (Some o) = O o

  abbrev UpToOne : Option Outgoing → Option Outgoing → Option Outgoing → Type 0
  UpToOne x None None = EachOf x
  UpToOne x None (Some o) = ⊥
  UpToOne x (Some o) z = ⊥

  abbrev pub UpToTwo : Option Outgoing → Option Outgoing → Option Outgoing → Type 0
  UpToTwo x y None = EachOf x × EachOf y
  UpToTwo x y (Some o) = ⊥

  abbrev OneAtMost : SentMessages → Type 0
  OneAtMost ms = UpToOne ms.first ms.second ms.third

  abbrev pub TwoAtMost : SentMessages → Type 0
  TwoAtMost ms = UpToTwo ms.first ms.second ms.third

  two_of_one : (ms : SentMessages) → OneAtMost ms → TwoAtMost ms
  two_of_one ms u = go ms.second ms.third u
    where
      go : (y z : Option Outgoing) → UpToOne ms.first y z → UpToTwo ms.first y z
      go None None u = (u, tt)
      go None (Some o) u = absurd u
      go (Some o) z u = absurd u

  also_sends : (ms : SentMessages) (m : Outgoing) → OneAtMost ms → O m → TwoAtMost (also ms m)
  also_sends ms m u w = go ms.first ms.second ms.third u
    where
      go : (x y z : Option Outgoing) → UpToOne x y z → TwoAtMost (also_at x y z m)
      go None None None u = (w, tt)
      go (Some o) None None u = (u, w)
      go x None (Some o) u = absurd u
      go x (Some o) z u = absurd u

  pub each_in : (ms : SentMessages) (o : Outgoing) → TwoAtMost ms → In o (messages_of ms) → O o
  each_in ms o u h = go ms.first ms.second ms.third u h
    where
      same : (x : Outgoing) → O x → o ≡ x → O o
      same x w e = subst O (sym e) w

      go : (x y z : Option Outgoing) → UpToTwo x y z → In o (listed x (listed y (listed z []))) → O o
      go None None None u h = absurd h
      go None (Some y) None u (inl e) = same y u.1 e
      go None (Some y) None u (inr h) = absurd h
      go (Some x) None None u (inl e) = same x u.0 e
      go (Some x) None None u (inr h) = absurd h
      go (Some x) (Some y) None u (inl e) = same x u.0 e
      go (Some x) (Some y) None u (inr (inl e)) = same y u.1 e
      go (Some x) (Some y) None u (inr (inr h)) = absurd h
      go x y (Some z) u h = absurd u

  -- none is sent, or something is held
  abbrev pub Sends : SentMessages → Option RoundV → Type 0
  Sends ms held = TwoAtMost ms × ((ms ≡ no_messages) ⊎ Holds held)

  -- the end of a step that may go on, where the condition holds
  abbrev EndsOr : (SentMessages → Option RoundV → Type 0) → SentMessages → Option RoundV → Next → Type 0
  EndsOr If ms held Stays = Sends ms held
  EndsOr If ms held Continues = If ms held
  EndsOr If ms held (Commits v) = Sends ms held

  abbrev Never : SentMessages → Option RoundV → Type 0
  Never ms held = ⊥

  abbrev Always : SentMessages → Option RoundV → Type 0
  Always ms held = Unit {0}

  -- a step that is over
  abbrev pub Ends : SentMessages → Option RoundV → Next → Type 0
  Ends = EndsOr Never

  -- and commits nothing
  abbrev pub EndsUncommitted : SentMessages → Option RoundV → Next → Type 0
  EndsUncommitted ms held Stays = Sends ms held
  EndsUncommitted ms held Continues = ⊥
  EndsUncommitted ms held (Commits v) = ⊥

  pub ends : (ms : SentMessages) (held : Option RoundV) (n : Next) → EndsUncommitted ms held n → Ends ms held n
  ends ms held Stays q = q
  ends ms held Continues q = q
  ends ms held (Commits v) q = absurd q

silent : {Held : Type 0} → (Unit {0} × Unit {0}) × ((no_messages ≡ no_messages) ⊎ Held)
silent = ((tt, tt), inl refl)

-- ---- the ways in which the handlers change the core, and send

-- `Source` is asked of whom is counted, `Enters` of the round that is entered, `ModelPromise` of a promise that is held, `Prepares` of the round of a
-- Prepare, `Accepts` of round and value of an Accept that is not older. `K` is the property of the core, `O` that of a message.
module _ (a : Asked) (Source : ℕ → Type 0) (Enters : PaxosRound → Type 0) (Promise : RoundV → Type 0) (Prepares : PaxosRound → Type 0) (Accepts : PaxosRound → ℕ → Type 0)
    (K : Core → Type 0) (O : Outgoing → Type 0) where
  pub record Keeps : Type 0 where
    pub own_source : Source a.member.my_pid
    pub own_fast : (v : ℕ) → Promise (FastV a.member.my_pid v)
    pub enters : (round : PaxosRound) (core : Core) → Enters round → K core → K (with_paxos (goto_round (Some round) core.paxos) core)
    pub promises : (src : ℕ) (rv : RoundV) (core : Core) → Source src → Promise rv → K core → K (with_paxos (receive_promise a.member src rv core.paxos) core)
    pub accepts : (src : ℕ) (round : PaxosRound) (v : ℕ) (core : Core) → Source src → Enters round → K core → K (with_paxos (after_accept a.member src round v core.paxos) core)
    pub adopts : (v : ℕ) (core : Core) → T (not (has_accepted core)) → K core → K (with_paxos (with_held (Some (PaxosV None v)) core.paxos) core)
    pub leaves : (core : Core) → K core → K (left_fast_path core)
    pub prepare_to : (round : PaxosRound) (core : Core) (p : ℕ) → Prepares round → (p ≡ a.member.my_pid → ⊥) → O (sends a core (One p) (Prepare core.slot round (held_rv core.paxos.max_rv)))
    pub accept_to_all : (round : PaxosRound) (core : Core) → Prepares round → O (sends a core to_all (Accept core.slot round (held_value core.paxos.max_rv)))
    pub accept_to_lem : (round : PaxosRound) (v : ℕ) (core : Core) (p : ℕ) → Accepts round v → K core → core.paxos.max_rv ≡ Some (PaxosV (Some round) v) → (p ≡ a.member.my_pid → ⊥)
        → O (accept_to a core round p)
    pub commit_to_all : (core : Core) (requester : Option ℕ) → O (commit_message a core requester)
    pub propose_prepare_lem : (round : PaxosRound) (rv : RoundV) (core : Core) → O (sends a core to_all (Prepare core.slot round rv))
    pub propose_accept_lem : (v : ℕ) (core : Core) → T (may_propose a core) → Promise (PaxosV None v) → K core → O (sends a core to_all (Accept core.slot (proposal_round a core) v))

-- what is shown of the handlers, by what is kept
module _ {a : Asked} {Source : ℕ → Type 0} {Enters : PaxosRound → Type 0} {Promise : RoundV → Type 0} {Prepares : PaxosRound → Type 0} {Accepts : PaxosRound → ℕ → Type 0}
    {K : Core → Type 0} {O : Outgoing → Type 0} (keeps : Keeps a Source Enters Promise Prepares Accepts K O) where
  abbrev me : Member
  me = a.member

  abbrev own : ℕ
  own = a.member.my_pid

  abbrev CoreHolds : Core → Type 0
  CoreHolds core = Holds core.paxos.max_rv

  abbrev StepEndsOr : (SentMessages → Option RoundV → Type 0) → Result CoreStep Refusal → Type 0
  StepEndsOr If r = IfOk r (λ step. K step.state × EndsOr O If step.messages step.state.paxos.max_rv step.next)

  abbrev pub StepEnds : Result CoreStep Refusal → Type 0
  StepEnds = StepEndsOr (Never O)

  -- what is made of a step, where it is over, and else of the rest of the handler
  module _ {X : Type 0} (make : CoreStep → X) (Q : X → Type 0) (made : (step : CoreStep) → K step.state × Ends O step.messages step.state.paxos.max_rv step.next → Q (make step)) where
    step_then : (If : SentMessages → Option RoundV → Type 0) (step : CoreStep) (rest : Core → Result X Refusal) → StepEndsOr If (Ok step)
        → (If step.messages step.state.paxos.max_rv → IfOk (rest step.state) Q) → IfOk (then_in make (Ok step) rest) Q
    step_then If step rest q f = go step.next q.1
      where
        go : (n : Next) → EndsOr O If step.messages step.state.paxos.max_rv n
            → IfOk (cond (goes_on n) (rest step.state) (Ok (make (record { state = step.state; messages = step.messages; next = n })))) Q
        go Stays e = made _ (q.0, e)
        go Continues e = f e
        go (Commits v) e = made _ (q.0, e)

    each_then : (If : SentMessages → Option RoundV → Type 0) (r : Result CoreStep Refusal) (rest : Core → Result X Refusal) → StepEndsOr If r
        → ((step : CoreStep) → K step.state → If step.messages step.state.paxos.max_rv → IfOk (rest step.state) Q) → IfOk (then_in make r rest) Q
    each_then If (Ok step) rest q f = step_then If step rest q (f step q.0)
    each_then If (Err why) rest q f = tt

  then_ends : (If : SentMessages → Option RoundV → Type 0) (r : Result CoreStep Refusal) (rest : Core → Result CoreStep Refusal) → StepEndsOr If r
      → ((step : CoreStep) → K step.state → If step.messages step.state.paxos.max_rv → StepEnds (rest step.state)) → StepEnds (and_then r rest)
  then_ends = each_then (λ step. step) (λ step. K step.state × Ends O step.messages step.state.paxos.max_rv step.next) (λ step q. q)

  -- ---- steps of the round state: a state that is taken is held to both

  abbrev After : (Option RoundV → Type 0) → Core → Result PaxosState Refusal → Type 0
  After H core step = IfOk step (λ s. K (with_paxos s core) × H s.max_rv)

  propose_after : (rv : RoundV) (core : Core) → Promise rv → K core → After Holds core (paxos_propose_v me rv core.paxos)
  unfolding paxos_propose_v receive_promise
  propose_after rv core p k =
      of-both (After Holds core) (is_some core.paxos.max_rv) tt
      (of-both (After Holds core) (is_empty core.paxos.prepared_set) (keeps.promises own rv core keeps.own_source p k, promise_held core.paxos.max_rv rv) tt)

  accept_after : (H : Option RoundV → Type 0) (src : ℕ) (round : PaxosRound) (v : ℕ) (core : Core) → H (Some (PaxosV (Some round) v)) → Source src → Enters round → K core
      → After H core (receive_accept me src round v core.paxos)
  unfolding receive_accept
  accept_after H src round v core h s e k = of-both (After H core) (accept_fits core.paxos.max_rv round v) (keeps.accepts src round v core s e k, h) tt

  self_after : (round : PaxosRound) (core : Core) → Enters round → K core → After Holds core (self_accept me round core.paxos)
  unfolding self_accept accept_own
  self_after round core e k = of-both (After Holds core) (is_empty core.paxos.accepted_set) (go (get_v core.paxos.max_rv)) tt
    where
      go : (v : Option ℕ) → After Holds core (accept_own me round core.paxos v)
      go None = tt
      go (Some v) = accept_after Holds own round v core tt keeps.own_source e k

  off_keeps : (core : Core) → K core → K (off_fast_path a core)
  off_keeps core k = of-both K (is_swift_paxos a.mode) k (keeps.leaves core k)

  off_holds : (H : Option RoundV → Type 0) (core : Core) → H core.paxos.max_rv → H (off_fast_path a core).paxos.max_rv
  off_holds H core q = of-both (λ (c : Core). H c.paxos.max_rv) (is_swift_paxos a.mode) q q

  own_accept_ends : (round : PaxosRound) (core : Core) (step : Result PaxosState Refusal) → Prepares round → K core → After Holds core step → StepEnds (after_own_accept a round core step)
  unfolding broadcast_accept
  own_accept_ends round core (Ok s) t k q =
      (off_keeps (with_paxos s core) q.0, ((keeps.accept_to_all round (with_paxos s core) t, tt), inr (off_holds Holds (with_paxos s core) q.1)))
  own_accept_ends round core (Err why) t k q = tt

  phase_ends : (round : PaxosRound) (core : Core) → Prepares round → Enters round → K core → StepEnds (accept_phase a round core)
  unfolding accept_phase
  phase_ends round core t e k = own_accept_ends round core (self_accept me round core.paxos) t k (self_after round core e k)

  -- ---- messages

  module _ (h : Heard) (counts : T (source_taken a h) → Source h.src) where
    abbrev Entered : ℕ → PaxosRound → Core → SentMessages → Option RoundV → Type 0
    Entered slot round core ms held = T (can_propose a) × T (not (is_older slot round core)) × T (source_taken a h)

    enter_ends : (slot : ℕ) (round : PaxosRound) (core : Core) → Enters round → K core → StepEndsOr (Entered slot round core) (enter a h slot round core)
    unfolding enter from_live in_round
    enter_ends slot round core e k =
        by_test End (can_propose a) _ _
        (λ t. by_test End (is_older slot round core) _ _ (λ u. (k, silent))
        (λ u. by_test End (source_taken a h) _ _ (λ w. (of-both K (before core.paxos.round (Some round)) (keeps.enters round core e k) k, (t, u, w))) (λ w. tt)))
        (λ t. (k, silent))
      where
        End : Result CoreStep Refusal → Type 0
        End = StepEndsOr (Entered slot round core)

    prepared_ends : (round : PaxosRound) (rv : RoundV) (core : Core) → Promise rv → Prepares round → K core → StepEndsOr (Always O) (prepare_answered a h round rv core)
    unfolding prepare_answered hold_first preparing answer_prepare
    prepared_ends round rv core p w k = go (hold_first a rv core.paxos) first
      where
        first : After Holds core (hold_first a rv core.paxos)
        first = by_test (After Holds core) (is_some core.paxos.max_rv) _ _ (λ t. (k, t)) (λ t. propose_after rv core p k)

        go : (step : Result PaxosState Refusal) → After Holds core step → StepEndsOr (Always O) (after_held a h round core step)
        go (Ok s) q =
            by_test (StepEndsOr (Always O)) (eqb h.delegate own) _ _ (λ t. (q.0, tt))
            (λ t. of-both (StepEndsOr (Always O)) (answers_nothing a h round (with_paxos s core)) (q.0, silent)
            (of-both (StepEndsOr (Always O)) (may_answer h round) (q.0, ((keeps.prepare_to round (with_paxos s core) h.delegate w (neqb→ne h.delegate own t), tt), inr q.1)) tt))
        go (Err why) q = tt

    promise_keeps : (rv : RoundV) (core : Core) → T (source_taken a h) → Promise rv → K core → K (with_promise a h rv core)
    promise_keeps rv core t p k = keeps.promises h.src rv core (counts t) p k

    gather_ends : (round : PaxosRound) (rv : RoundV) (core : Core) → T (source_taken a h) → Enters round → Promise rv → Prepares round → K core → StepEnds (gather a h round rv core)
    unfolding gather
    gather_ends round rv core t e p w k =
        let q = promise_keeps rv core t p k in
        of-both StepEnds (becomes_prepared a core (with_promise a h rv core)) (phase_ends round (with_promise a h rv core) w e q) (q, silent)

    -- ---- accepts; a Commit may come to one message at most

    try_ends : (If : SentMessages → Option RoundV → Type 0) (round : PaxosRound) (v : ℕ) (core : Core) (ms : SentMessages) → OneAtMost O ms → CoreHolds core → K core
        → StepEndsOr If (Ok (try_commit a h round v core ms))
    unfolding try_commit with_commit_message
    try_ends If round v core ms u q k =
        of-both (λ step. StepEndsOr If (Ok step)) (paxos_can_commit me core.paxos) (
          keeps.leaves core k,
          (of-both (TwoAtMost O) (tells_commit a h round) (also_sends O ms (commit_message a core h.requester) u (keeps.commit_to_all core h.requester)) (two_of_one O ms u), inr q),
        )
        (k, (two_of_one O ms u, inr q))

    -- a step that goes on is of SwiftPaxos, sends one message at most, and holds something
    abbrev GoesOn : SentMessages → Option RoundV → Type 0
    GoesOn ms held = T (is_swift_paxos a.mode) × OneAtMost O ms × Holds held

    module _ (round : PaxosRound) (v : ℕ) (taken : Accepts round v) (core : Core) (k : K core) (e : core.paxos.max_rv ≡ Some (PaxosV (Some round) v)) where
      held : CoreHolds core
      held = subst Holds (sym e) tt

      module _ (follows : round.leader ≡ own → ⊥) where
        to_leader_lem : O (accept_to a core round round.leader)
        to_leader_lem = keeps.accept_to_lem round v core round.leader taken k e follows

        -- the committer hears it where it is another
        another : (p : ℕ) → T (committer_hears a round p) → p ≡ own → ⊥
        unfolding committer_hears
        another p t = neqb→ne p own (both_hold (not (eqb p round.leader)) (not (eqb p own)) (both_hold (tells_committer a.mode) _ t).1).1

        -- to the committer and the leader
        answer_sends : (p : Option ℕ) → TwoAtMost O (answer_accept a round core p)
        unfolding answer_accept
        answer_sends None = (to_leader_lem, tt)
        answer_sends (Some p) =
            by_test (TwoAtMost O) (committer_hears a round p) _ _ (λ t. (keeps.accept_to_lem round v core p taken k e (another p t), to_leader_lem)) (λ t. (to_leader_lem, tt))

        -- to the leader alone where oneself is the committer
        own_answer_sends : (p : Option ℕ) → T (is_process p own) → OneAtMost O (answer_accept a round core p)
        unfolding answer_accept
        own_answer_sends None t = absurd t
        own_answer_sends (Some p) t = by_test (OneAtMost O) (committer_hears a round p) _ _ (λ u. absurd (another p u (eqb→eq p own t))) (λ u. to_leader_lem)

        follower_ends : StepEndsOr GoesOn (follower a h round v core)
        unfolding follower answered_delegate is_committer
        follower_ends =
            of-both (StepEndsOr GoesOn) (eqb h.src h.delegate)
            (by_test GoesOnAfter (tells_committer a.mode && is_process h.committer own) _ _
            (λ t. by_test GoesOnAfter (is_swift_paxos a.mode) _ _ (λ u. (k, (u, one t, held))) (λ u. try_ends GoesOn round v core (answer_accept a round core h.committer) (one t) held k))
            (λ t. (k, (answer_sends h.committer, inr held))))
            (of-both (StepEndsOr GoesOn) (tells_committer a.mode && is_process h.committer own) (try_ends GoesOn round v core no_messages tt held k) tt)
          where
            GoesOnAfter : CoreStep → Type 0
            GoesOnAfter step = StepEndsOr GoesOn (Ok step)

            one : T (tells_committer a.mode && is_process h.committer own) → OneAtMost O (answer_accept a round core h.committer)
            one t = own_answer_sends h.committer (both_hold (tells_committer a.mode) (is_process h.committer own) t).1

      accepted_ends : StepEndsOr GoesOn (accept_taken a h round v core)
      unfolding accept_taken
      accepted_ends =
          by_test (StepEndsOr GoesOn) (eqb own round.leader) _ _ (λ t. try_ends GoesOn round v core no_messages tt held k)
          (λ t. follower_ends (λ d. neqb→ne own round.leader t (sym d)))

    module _ (round : PaxosRound) (v : ℕ) (core : Core) (source : Source h.src) (e : Enters round) (k : K core) where
      abbrev IsAccepted : Option RoundV → Type 0
      IsAccepted held = held ≡ Some (PaxosV (Some round) v)

      accepting_ends : Accepts round v → StepEndsOr GoesOn (accepting a h round v core)
      unfolding accepting
      accepting_ends taken =
          go (receive_accept me h.src round v core.paxos) (accept_after IsAccepted h.src round v core refl source e k)
        where
          go : (step : Result PaxosState Refusal) → After IsAccepted core step → StepEndsOr GoesOn (after_accepted a h round v core step)
          go (Ok s) q = accepted_ends round v taken (off_fast_path a (with_paxos s core)) (off_keeps (with_paxos s core) q.0) (off_holds IsAccepted (with_paxos s core) q.1)
          go (Err why) q = tt

      client_accept_ends : StepEnds (client_accept a h round v core)
      unfolding client_accept
      client_accept_ends =
          go (receive_accept me h.src round v core.paxos) (accept_after Holds h.src round v core tt source e k)
        where
          go : (step : Result PaxosState Refusal) → After Holds core step → StepEnds (after_client_accept a v core step)
          go (Ok s) q = of-both (λ step. StepEnds (Ok step)) (paxos_can_commit me s) (q.0, silent) (q.0, silent)
          go (Err why) q = tt

    -- ---- the classic modes

    -- what is asked of a message that comes
    abbrev pub Comes : Core → ConsensusMsg → Type 0
    Comes core (Prepare slot round rv) = Enters round × Promise rv × Prepares round
    Comes core (Accept slot round v) = Enters round × (T (not (is_older slot round core)) → Accepts round v)
    Comes core (ForwardRequest v) = Unit {0}
    Comes core (Commit slot v) = Unit {0}
    Comes core (ReadRequest id) = Unit {0}
    Comes core (ReadResponse id next) = Unit {0}

    classic_ends : T (not (is_swift_paxos a.mode)) → (m : ConsensusMsg) (core : Core) → Comes core m → K core → StepEnds (process_classic a h m core)
    unfolding process_classic on_prepare entered_prepare on_accept
    classic_ends classic (Prepare slot round rv) core c k =
        then_ends (Entered slot round core) (enter a h slot round core) (entered_prepare a h round rv) (enter_ends slot round core c.0 k)
        (λ entered k t. then_ends (Always O) (prepare_answered a h round rv entered.state) (gather a h round rv) (prepared_ends round rv entered.state c.1 c.2 k)
        (λ first k u. gather_ends round rv first.state t.2 c.0 c.1 c.2 k))
    classic_ends classic (Accept slot round v) core c k =
        then_ends (Entered slot round core) (enter a h slot round core) (accepting a h round v) (enter_ends slot round core c.0 k)
        (λ entered k t. stops (accepting a h round v entered.state) (accepting_ends round v entered.state (counts t.2) c.0 k (c.1 t.1)))
      where
        stops : (r : Result CoreStep Refusal) → StepEndsOr GoesOn r → StepEnds r
        stops (Err why) q = tt
        stops (Ok step) q = (q.0, go step.next q.1)
          where
            go : (n : Next) → EndsOr O GoesOn step.messages step.state.paxos.max_rv n → Ends O step.messages step.state.paxos.max_rv n
            go Stays q = q
            go Continues q = T_not (is_swift_paxos a.mode) classic q.0
            go (Commits v) q = q
    classic_ends classic (ForwardRequest v) core c k = (k, silent)
    classic_ends classic (Commit slot v) core c k = (k, silent)
    classic_ends classic (ReadRequest id) core c k = (k, silent)
    classic_ends classic (ReadResponse id next) core c k = (k, silent)

    -- ---- EPaxos and SwiftPaxos

    adopt_ends : (round : PaxosRound) (core : Core) (x : Result (Option ℕ) Refusal) → T (not (has_accepted core)) → Prepares round → Enters round → K core → StepEnds (epaxos_adopt a round core x)
    unfolding adopting
    adopt_ends round core (Ok None) fresh t e k = (k, silent)
    adopt_ends round core (Ok (Some v)) fresh t e k =
        of-both StepEnds (is_prepared me core.paxos)
        (own_accept_ends round core (adopt_from_epaxos me round v core.paxos) t k
        (self_after round (with_paxos (with_held (Some (PaxosV None v)) core.paxos) core) e (keeps.adopts v core fresh k))) tt
    adopt_ends round core (Err why) fresh t e k = tt

    -- a promise that is counted is held; in EPaxos only replicas take part
    promise_holds : (rv : RoundV) (core : Core) → T (can_propose a) → T (not (is_swift_paxos a.mode)) → CoreHolds (fast_promised a h rv core)
    unfolding fast_promised receive_promise
    promise_holds rv core part slow =
        by_test CoreHolds me.replica _ _ (λ t. promise_held core.paxos.max_rv rv) (λ t. absurd (neither me.replica (is_swift_paxos a.mode) part t slow))
      where
        neither : (x y : Bool) → T (x || y) → T (not x) → T (not y) → ⊥
        neither true y t u w = u
        neither false true t u w = w
        neither false false t u w = t

    fast_promise_keeps : (rv : RoundV) (core : Core) → T (source_taken a h) → Promise rv → K core → K (fast_promised a h rv core)
    unfolding fast_promised
    fast_promise_keeps rv core t p k = of-both K me.replica (promise_keeps rv core t p k) k

    fast_prepared_ends : (round : PaxosRound) (rv : RoundV) (core : Core) → Promise rv → Prepares round → K core → StepEndsOr (Always O) (fast_prepared a h round rv core)
    unfolding fast_prepared
    fast_prepared_ends round rv core p w k = of-both (StepEndsOr (Always O)) me.replica (prepared_ends round rv core p w k) (k, tt)

    -- F is the property of what changes in the fast half
    module _ (choose : ProposerChoice) (answers : FastAnswers) (values epaxos_scores swift_scores : List ℕ) (F : FastChange → Type 0) (same : F (unchanged answers))
        (by-epaxos : (p v : ℕ) → Promise (FastV p v) → IfOk (epaxos_answered me h.src p v answers epaxos_scores) F)
        (by-swift : (p v : ℕ) (leader : Bool) → Promise (FastV p v) → IfOk (swift_answered me h.src p v a.quorum leader answers swift_scores) F) where
      abbrev Changes : ChangeStep → Type 0
      Changes step = (K step.core × Ends O step.messages step.core.paxos.max_rv step.next) × F step.change

      abbrev ChangeEnds : Result ChangeStep Refusal → Type 0
      ChangeEnds r = IfOk r Changes

      then_changes : (If : SentMessages → Option RoundV → Type 0) (r : Result CoreStep Refusal) (rest : Core → Result ChangeStep Refusal) → StepEndsOr If r
          → ((step : CoreStep) → K step.state → If step.messages step.state.paxos.max_rv → ChangeEnds (rest step.state)) → ChangeEnds (and_then_change answers r rest)
      then_changes = each_then (with_change (unchanged answers)) Changes (λ step q. (q, same))

      -- a step of the core with a change of the fast half
      with_change_ends : (change : FastChange) (r : Result CoreStep Refusal) → F change → StepEnds r → ChangeEnds (map_step (with_change change) r)
      with_change_ends change r f = mapped (with_change change) Changes r (λ step q. (q, f))

      -- a step of the fast half, and the rest of the handler with the answers that it leaves
      after_step_ends : (rest : FastAnswers → Result CoreStep Refusal) (r : Result FastChange Refusal) → IfOk r F → ((after : FastAnswers) → StepEnds (rest after)) → ChangeEnds (after_step rest r)
      after_step_ends rest (Ok change) f q = with_change_ends change (rest change.answers) f (q change.answers)
      after_step_ends rest (Err why) f q = tt

      epaxos_ends : (round : PaxosRound) (rv : RoundV) (core : Core) → Promise rv → Prepares round → Enters round → T (not (has_accepted core)) → CoreHolds core → K core
          → ChangeEnds (epaxos_answer choose a h round rv core answers values epaxos_scores)
      unfolding epaxos_answer epaxos_decide
      epaxos_ends round (FastV p v) core w t e fresh q k = go (epaxos_answered me h.src p v answers epaxos_scores) (by-epaxos p v w)
        where
          go : (step : Result FastChange Refusal) → IfOk step F → ChangeEnds (after_epaxos_answer choose a h round v core values epaxos_scores step)
          go (Ok change) f =
              with_change_ends change (epaxos_decide choose a h round v core change values epaxos_scores) f
              (of-both StepEnds (epaxos_can_commit me change.answers) (k, ((keeps.commit_to_all core (requester_of h v (held_value core.paxos.max_rv)), tt), inr q))
              (adopt_ends round core (epaxos_try_adopt_after choose me change values epaxos_scores) fresh t e k))
          go (Err why) f = tt
      epaxos_ends round (PaxosV at v) core w t e fresh q k = tt

      swift_prepare_ends : (round : PaxosRound) (rv : RoundV) (core : Core) → Promise rv → K core → ChangeEnds (swift_client_prepare a h round rv core answers swift_scores)
      unfolding swift_client_prepare swift_answer
      swift_prepare_ends round rv core w k = of-both ChangeEnds (is_process h.committer own) (by_promise rv w) ((k, silent), same)
        where
          by_promise : (rv : RoundV) → Promise rv → ChangeEnds (swift_answer a h round rv core answers swift_scores)
          by_promise (FastV p v) w =
              of-both ChangeEnds (eqb h.src round.leader) tt
              (after_step_ends (λ after. Ok (after_swift_answer a v core after)) (swift_answered me h.src p v a.quorum false answers swift_scores) (by-swift p v false w)
              (λ after. of-both (λ step. StepEnds (Ok step)) (swift_commits a after) (k, silent) (k, silent)))
          by_promise (PaxosV at v) w = tt

      leader_keeps : (v : ℕ) → IfOk (leader_answered a h v answers swift_scores) F
      unfolding leader_answered
      leader_keeps v = by-swift own v true (keeps.own_fast v)

      module _ (round : PaxosRound) (v : ℕ) (core : Core) (source : Source h.src) (e : Enters round) (k : K core) where
        swift_accept_ends : ChangeEnds (swift_client_accept a h round v core answers swift_scores)
        unfolding swift_client_accept swift_accept accept_answered
        swift_accept_ends =
            of-both ChangeEnds (is_process h.committer own)
            (after_step_ends (after_accept_answer a h round v core) (accept_answered a h round v answers swift_scores)
            (of-both (λ (x : Result FastChange Refusal). IfOk x F) (from_leader h round) (leader_keeps v) same)
            (λ after. of-both StepEnds (from_leader h round && swift_commits a after) (k, silent) (client_accept_ends round v core source e k)))
            ((k, silent), same)

        replica_accept_ends : Accepts round v → ChangeEnds (replica_accept a h round v core answers swift_scores)
        unfolding replica_accept swift_answered_accept
        replica_accept_ends taken = go (accepting a h round v core) (accepting_ends round v core source e k taken)
          where
            go : (r : Result CoreStep Refusal) → StepEndsOr GoesOn r → ChangeEnds (after_replica_accept a h round v answers swift_scores r)
            go (Err why) q = tt
            go (Ok step) q =
                step_then (with_change (unchanged answers)) Changes (λ step q. (q, same)) GoesOn step (λ c. swift_answered_accept a h round v c step.messages answers swift_scores) q
                (λ g. after_step_ends (λ after. Ok (after_replica_answer a h round v step.state step.messages after)) (leader_answered a h v answers swift_scores) (leader_keeps v)
                (λ after. of-both (λ step. StepEnds (Ok step)) (swift_commits a after) (q.0, (two_of_one O step.messages g.1, inr g.2)) (try_ends (Never O) round v step.state step.messages g.1 g.2 q.0)))

      fast_gather_ends : (round : PaxosRound) (rv : RoundV) (core : Core) → T (can_propose a) → T (source_taken a h) → Enters round → Promise rv → Prepares round → K core
          → ChangeEnds (fast_gather choose a h round rv core answers values epaxos_scores swift_scores)
      unfolding fast_gather fast_answered waits
      fast_gather_ends round rv core part source e w t k =
          of-both ChangeEnds (starts_accept a round core (fast_promised a h rv core))
          (with_change_ends (unchanged answers) (accept_phase a round (fast_promised a h rv core)) same (phase_ends round (fast_promised a h rv core) t e q))
          (by_test ChangeEnds (waits a round (fast_promised a h rv core)) _ _ (λ u. ((q, silent), same))
          (λ u. by_test ChangeEnds (is_swift_paxos a.mode) _ _ (λ x. swift_prepare_ends round rv (fast_promised a h rv core) w q)
          (λ x. epaxos_ends round rv (fast_promised a h rv core) w t e (second (is_swift_paxos a.mode) (leads_round a round) (has_accepted (fast_promised a h rv core)) u x)
          (promise_holds rv core part x) q)))
        where
          second : (b x y : Bool) → T (not (cond b x y)) → T (not b) → T (not y)
          second true x y t u = absurd u
          second false x y t u = t

          q : K (fast_promised a h rv core)
          q = fast_promise_keeps rv core source w k

      change_ends : (m : ConsensusMsg) (core : Core) → Comes core m → K core → ChangeEnds (process_change choose a h m core answers values epaxos_scores swift_scores)
      unfolding process_change on_fast_prepare entered_fast_prepare fast_prepared on_fast_accept entered_fast_accept
      change_ends (Prepare slot round rv) core c k =
          then_changes (Entered slot round core) (enter a h slot round core) (λ d. entered_fast_prepare choose a h round rv d answers values epaxos_scores swift_scores) (enter_ends slot round core c.0 k)
          (λ entered k t. then_changes (Always O) (fast_prepared a h round rv entered.state) (λ d. fast_gather choose a h round rv d answers values epaxos_scores swift_scores)
          (fast_prepared_ends round rv entered.state c.1 c.2 k)
          (λ first k u. fast_gather_ends round rv first.state t.0 t.2 c.0 c.1 c.2 k))
      change_ends (Accept slot round v) core c k =
          then_changes (Entered slot round core) (enter a h slot round core) (λ d. entered_fast_accept a h round v d answers swift_scores) (enter_ends slot round core c.0 k)
          (λ entered k t. of-both ChangeEnds me.replica (replica_accept_ends round v entered.state (counts t.2) c.0 k (c.1 t.1))
          (swift_accept_ends round v entered.state (counts t.2) c.0 k))
      change_ends (ForwardRequest v) core c k = ((k, silent), same)
      change_ends (Commit slot v) core c k = ((k, silent), same)
      change_ends (ReadRequest id) core c k = ((k, silent), same)
      change_ends (ReadResponse id next) core c k = ((k, silent), same)

    -- ---- by the mode

    not_swift : (m : PFMode) → T (not (has_fast_path m)) → T (not (is_swift_paxos m))
    not_swift Paxos t = tt
    not_swift MultiPaxos t = tt
    not_swift MultiPaxos3P t = tt
    not_swift EPaxos t = absurd t
    not_swift Pando t = tt
    not_swift SwiftPaxos t = t

    -- What holds of every step that ends so holds of what a message leaves, where it is not refused.
    pub processed_holds : (P : RoundsStep → Type 0) (choose : ProposerChoice) (s : Rounds) (F : FastChange → Type 0) → F (unchanged (answers_of s.fast))
        → ((p v : ℕ) → Promise (FastV p v) → IfOk (epaxos_answered me h.src p v (answers_of s.fast) s.fast.epaxos_proposer_scores) F)
        → ((p v : ℕ) (leader : Bool) → Promise (FastV p v) → IfOk (swift_answered me h.src p v a.quorum leader (answers_of s.fast) s.fast.swift_proposer_scores) F)
        → ((step : ChangeStep) → T (has_fast_path a.mode) → (K step.core × Ends O step.messages step.core.paxos.max_rv step.next) × F step.change → P (change_rounds s.fast step))
        → ((step : CoreStep) → T (not (has_fast_path a.mode)) → K step.state × Ends O step.messages step.state.paxos.max_rv step.next → P (on_rounds s.fast step))
        → (m : ConsensusMsg) → Comes s.core m → K s.core → IfOk (processed choose a h m s) P
    unfolding processed process_fast
    processed_holds P choose s F same by-epaxos by-swift fast slow m c k =
        by_test (λ (r : Result RoundsStep Refusal). IfOk r P) (has_fast_path a.mode) _ _
        (λ t. mapped (change_rounds s.fast) P _ (λ step. fast step t) (change_ends choose (answers_of s.fast) _ _ _ F same by-epaxos by-swift m s.core c k))
        (λ t. mapped (on_rounds s.fast) P _ (λ step. slow step t) (classic_ends (not_swift a.mode t) m s.core c k))

  -- ---- proposals

  abbrev StepUncommitted : Result CoreStep Refusal → Type 0
  StepUncommitted r = IfOk r (λ step. K step.state × EndsUncommitted O step.messages step.state.paxos.max_rv step.next)

  proposed_ends : (msg : ConsensusMsg) (core : Core) (step : Result PaxosState Refusal) → O (sends a core to_all msg) → After Holds core step → StepUncommitted (broadcast_own a msg core step)
  proposed_ends msg core (Ok s) w q = (q.0, ((w, tt), inr q.1))
  proposed_ends msg core (Err why) w q = tt

  -- a proposal is made in a round that may be entered
  module _ (enters : (core : Core) → T (may_propose a core) → Enters (proposal_round a core)) (core : Core) (k : K core) where
    abbrev round : PaxosRound
    round = proposal_round a core

    propose_prepare_ends : (rv : RoundV) → Promise rv → T (may_propose a core) → StepUncommitted (propose_prepare a round rv core)
    unfolding propose_prepare
    propose_prepare_ends rv p t =
        proposed_ends (Prepare core.slot round rv) core (paxos_propose_v me rv (goto_round (Some round) core.paxos)) (keeps.propose_prepare_lem round rv core)
        (propose_after rv (with_paxos (goto_round (Some round) core.paxos) core) p (keeps.enters round core (enters core t) k))

    propose_accept_ends : (v : ℕ) → Promise (PaxosV None v) → T (may_propose a core) → StepUncommitted (propose_accept a round v core)
    unfolding propose_accept
    propose_accept_ends v p t =
        go (paxos_propose_v me (PaxosV None v) (goto_round (Some round) core.paxos))
        (propose_after (PaxosV None v) (with_paxos (goto_round (Some round) core.paxos) core) p (keeps.enters round core (enters core t) k))
      where
        go : (step : Result PaxosState Refusal) → After Holds core step → StepUncommitted (after_own_promise a round v core step)
        go (Ok s) q =
            proposed_ends (Accept core.slot round v) core (self_accept me round s) (keeps.propose_accept_lem v core t p k)
            (self_after round (with_paxos s core) (enters core t) q.0)
        go (Err why) q = tt

    propose_classic_ends : (v : ℕ) → Promise (PaxosV None v) → StepUncommitted (propose_classic a v core)
    unfolding propose_classic
    propose_classic_ends v p =
        by_test StepUncommitted (may_propose a core) _ _
        (λ t. of-both StepUncommitted (is_multi_paxos a.mode) (propose_accept_ends v p t) (propose_prepare_ends (PaxosV None v) p t)) (λ t. tt)

    module _ (answers : FastAnswers) (epaxos_scores swift_scores : List ℕ) (F : FastChange → Type 0) (same : F (unchanged answers)) (v : ℕ) (p : Promise (PaxosV None v))
        (by-own : IfOk (own_answer a v answers epaxos_scores swift_scores) F) where
      abbrev ChangeUncommitted : Result ChangeStep Refusal → Type 0
      ChangeUncommitted r = IfOk r (λ step. (K step.core × EndsUncommitted O step.messages step.core.paxos.max_rv step.next) × F step.change)

      with_change_uncommitted : (change : FastChange) (r : Result CoreStep Refusal) → F change → StepUncommitted r → ChangeUncommitted (map_step (with_change change) r)
      with_change_uncommitted change r f = mapped (with_change change) _ r (λ step q. (q, f))

      propose_change_ends : ChangeUncommitted (propose_change a v core answers epaxos_scores swift_scores)
      unfolding propose_change
      propose_change_ends =
          by_test ChangeUncommitted (may_propose a core) _ _
          (λ t. of-both ChangeUncommitted (leads_from_start a) (with_change_uncommitted (unchanged answers) (propose_accept a round v core) same (propose_accept_ends v p t))
          (go t (own_answer a v answers epaxos_scores swift_scores) by-own)) (λ t. tt)
        where
          go : T (may_propose a core) → (step : Result FastChange Refusal) → IfOk step F → ChangeUncommitted (after_own_answer a round v core step)
          go t (Ok change) f = with_change_uncommitted change (propose_prepare a round (FastV own v) core) f (propose_prepare_ends (FastV own v) (keeps.own_fast v) t)
          go t (Err why) f = tt

  -- And of what a proposal leaves, which commits nothing.
  pub proposing_holds : (P : RoundsStep → Type 0) → ((core : Core) → T (may_propose a core) → Enters (proposal_round a core)) → (v : ℕ) → Promise (PaxosV None v) → (s : Rounds) (F : FastChange → Type 0)
      → F (unchanged (answers_of s.fast)) → IfOk (own_answer a v (answers_of s.fast) s.fast.epaxos_proposer_scores s.fast.swift_proposer_scores) F
      → ((step : ChangeStep) → T (has_fast_path a.mode) → (K step.core × EndsUncommitted O step.messages step.core.paxos.max_rv step.next) × F step.change → P (change_rounds s.fast step))
      → ((step : CoreStep) → T (not (has_fast_path a.mode)) → K step.state × EndsUncommitted O step.messages step.state.paxos.max_rv step.next → P (on_rounds s.fast step))
      → K s.core → IfOk (proposing a v s) P
  unfolding proposing propose_fast
  proposing_holds P enters v p s F same by-own fast slow k =
      by_test (λ (r : Result RoundsStep Refusal). IfOk r P) (has_fast_path a.mode) _ _
      (λ t. mapped (change_rounds s.fast) P _ (λ step. fast step t) (propose_change_ends enters s.core k (answers_of s.fast) _ _ F same v p by-own))
      (λ t. mapped (on_rounds s.fast) P _ (λ step. slow step t) (propose_classic_ends enters s.core k v p))

-- ---- calls

-- What holds of a refusal and of the end of every step that is taken holds of the end of the call.
pub finish_holds : (P : StateAnswer → Type 0) (state : State) (a : Asked) (held : Bool) (r : Result RoundsStep Refusal) → ((why : Refusal) → P (refused why state))
    → IfOk r (λ step. P (finish_at state a held step.state step.messages step.next)) → P (finish state a held r)
finish_holds P state a held (Ok step) refuses q = q
finish_holds P state a held (Err why) refuses q = refuses why

-- What holds of the end of a message's step, of a refusal, of a commit and of what is done with reads holds of what a message leaves.
pub handle_holds : (choose : ProposerChoice) (state : State) (a : Asked) (h : Heard) (d : Delivery) (P : StateAnswer → Type 0) → P (process_message choose state a h d) → P (nothing state) → P (refused Panic state)
    → ((v : ℕ) → P (committed state a v state.rounds no_messages))
    → ((id : ReadId) → T (not (eqb d.message.src a.member.my_pid)) → P (sent_answer state (one_message (read_answer a.member.my_pid d.message.src id state.rounds.core))))
    → ((id : ReadId) → P (on_read_response state a id d.said.fast)) → (m : ConsensusMsg) → P (handle choose state a h d m)
unfolding handle on_commit on_read_request
handle_holds choose state a h d P step stays refuses commits answers counts (Prepare slot r rv) = step
handle_holds choose state a h d P step stays refuses commits answers counts (Accept slot r v) = step
handle_holds choose state a h d P step stays refuses commits answers counts (ForwardRequest v) = step
handle_holds choose state a h d P step stays refuses commits answers counts (Commit slot v) = of-both P (ltb slot state.rounds.core.slot) stays (commits v)
handle_holds choose state a h d P step stays refuses commits answers counts (ReadRequest id) = by_test P (eqb d.message.src a.member.my_pid) _ _ (λ t. refuses) (answers id)
handle_holds choose state a h d P step stays refuses commits answers counts (ReadResponse id next) = counts id

-- Every call is refused, or a proposal, a new read or a message is handled.
pub call_holds : (choose : ProposerChoice) (shard : Shard) (P : Call → Answer → Type 0) → ((c : Call) (why : Refusal) → P c (number_alone why shard))
    → ((v : ℕ) → P (Propose v) (in_shard shard (finish shard.state (asked_of shard.settings) true (proposing (asked_of shard.settings) v shard.state.rounds))))
    → ((tag arrival : ℕ) (ins : Inserted) → read_inserted shard.state tag arrival ≡ Ok ins → P (StartRead tag arrival) (in_shard shard (after_insert shard.state (asked_of shard.settings) (Ok ins))))
    → ((d : Delivery) → P (Receive d) (in_shard shard (handle choose shard.state (asked_of shard.settings) (heard_of shard.settings d) d d.message.msg)))
    → (c : Call) → P c (call_with choose shard c)
unfolding handle_call start_read
call_holds choose shard P refuses proposes reads receives c = by_decision choose shard (P c) c (refuses c) (λ made room admitted. taken c)
  where
    opened : (tag arrival : ℕ) (r : Result Inserted Refusal) → read_inserted shard.state tag arrival ≡ r → P (StartRead tag arrival) (in_shard shard (after_insert shard.state (asked_of shard.settings) r))
    opened tag arrival (Err why) e = refuses (StartRead tag arrival) why
    opened tag arrival (Ok ins) e = reads tag arrival ins e

    taken : (c : Call) → P c (handled choose shard c)
    taken (Propose v) = proposes v
    taken (StartRead tag arrival) = opened tag arrival (read_inserted shard.state tag arrival) refl
    taken (Receive d) = receives d

-- Sums and look-ups that are the engine's where they are met make the handlers the engine's: what they leave is the same, and what they store is of a
-- process that is named.
-- Assumes nothing.
use Rattle.std.specs.Prelude.{Option, None, Result, Ok, Err, IfOk}
use mathlib.Core.Path.{◌≡◌, refl, ap, ap₂, ◌∙◌}
use mathlib.Core.Bool.{Bool, true, false, cond}
use mathlib.Core.List.{List}
use Prim.Native.Nat.{ℕ}
use lib.Dec.{eqb}
use Rattle.message.specs.Modes.{has_fast_path, is_multi_paxos, is_swift_paxos}
use Rattle.message.specs.Promises.{is_process}
use Rattle.message.specs.Rounds.{unwrap_or_default}
use Rattle.message.specs.declared.ConsensusMsg.{ConsensusMsg}
use Rattle.message.specs.declared.ConsensusMsg.TheVariants.{Prepare, Accept, ForwardRequest, Commit, ReadRequest, ReadResponse}
use Rattle.message.specs.declared.PaxosRound.{PaxosRound}
use Rattle.message.specs.declared.Refusal.{Refusal}
use Rattle.message.specs.declared.RoundV.{RoundV}
use Rattle.message.specs.declared.RoundV.TheVariants.{FastV, PaxosV}
use Rattle.fast_state.specs.Adopt.{lowest_best}
use Rattle.fast_state.specs.Fast.{answers_of, unchanged, epaxos_answered, epaxos_can_commit}
use Rattle.fast_state.specs.declared.FastAnswers.{FastAnswers}
use Rattle.fast_state.specs.declared.FastChange.{FastChange}
use Rattle.fast_state.specs.declared.FastState.{FastState}
use Rattle.steps.specs.Steps.{RoundsStep, CoreStep, goes_on, map_step, with_change, on_rounds, and_then_change, change_rounds}
use Rattle.steps.specs.declared.Asked.{Asked}
use Rattle.steps.specs.declared.ChangeStep.{ChangeStep}
use Rattle.steps.specs.declared.Core.{Core}
use Rattle.steps.specs.declared.Heard.{Heard}
use Rattle.steps.specs.declared.SentMessages.{SentMessages}
use Rattle.steps.specs.declared.Rounds.{Rounds}
use Rattle.steps.specs.enter.Enter.{enter}
use Rattle.classic.specs.accept.Accept.{accepting}
use Rattle.fast.specs.epaxos.EPaxos.{epaxos_commit, epaxos_adopt, epaxos_decide, after_epaxos_answer, epaxos_answer}
use Rattle.fast.specs.swift.Swift.{after_step, after_swift_answer, swift_answer, swift_client_prepare, leader_answered, from_leader, accept_answered, after_accept_answer, swift_accept, swift_client_accept, after_replica_answer, swift_answered_accept}
use Rattle.propose.specs.proposal.Proposal.{not_allowed, proposal_round}
use Rattle.propose.specs.Propose.{propose_prepare, propose_accept, propose_classic, after_own_answer, own_answer, leads_from_start, propose_change, propose_fast}
use Rattle.paxos_family.specs.Process.{process_classic, fast_prepared, fast_promised, starts_accept, waits, fast_answered, fast_gather, entered_fast_prepare, on_fast_prepare, after_replica_accept, replica_accept, entered_fast_accept, on_fast_accept, process_change, process_fast}
use Rattle.consensus.specs.Handle.{proposing, processed}
use Rattle.sums.specs.Sums.{Sums}
use Rattle.sums.specs.Parts.{change_rounds_by}
use Rattle.sums.specs.Handlers.{epaxos_decide_by, after_epaxos_answer_by, epaxos_answer_by, swift_answer_by, swift_client_prepare_by, leader_answered_by, accept_answered_by, swift_accept_by, swift_client_accept_by, swift_answered_accept_by, fast_answered_by, fast_gather_by, entered_fast_prepare_by, on_fast_prepare_by, after_replica_accept_by, replica_accept_by, entered_fast_accept_by, on_fast_accept_by, process_change_by, process_fast_by, propose_classic_by, own_answer_by, propose_change_by, propose_fast_by}
use Rattle.sums.specs.Calls.{proposing_by, processed_by}
use Rattle.sums.proofs.Parts.{Same, same_cond, same_by_test, ProposerNamed, MessageNamed, ChangeNamed, Rises, Meets, MeetsFast, proposal_same, may_same, change_same, try_adopt_same, epaxos_answered_same, epaxos_propose_same, swift_answered_same, swift_propose_same}

module _ (m : Sums) (Named : ℕ → Type 0) (ok : Meets m Named) (a : Asked) (own : Named a.member.my_pid) where
  -- what a step stores is of a process that is named
  abbrev StepNamed : ChangeStep → Type 0
  StepNamed step = ChangeNamed Named step.change

  abbrev SameStep : Result ChangeStep Refusal → Result ChangeStep Refusal → Type 0
  SameStep = Same StepNamed

  stored_named : (change : FastChange) → ChangeNamed Named change → (r : Result CoreStep Refusal) → IfOk (map_step (with_change change) r) StepNamed
  stored_named change n (Ok step) = n
  stored_named change n (Err why) = tt

  mapped : (change : FastChange) → ChangeNamed Named change → {x y : Result CoreStep Refusal} → x ≡ y → SameStep (map_step (with_change change) x) (map_step (with_change change) y)
  mapped change n {y = y} e = (ap (map_step (with_change change)) e, stored_named change n y)

  after_same : (rest : FastAnswers → Result CoreStep Refusal) {x y : Result FastChange Refusal} → Same (ChangeNamed Named) x y → SameStep (after_step rest x) (after_step rest y)
  after_same rest {y = y} s = (ap (after_step rest) s.0, holds y s.1)
    where
      holds : (r : Result FastChange Refusal) → IfOk r (ChangeNamed Named) → IfOk (after_step rest r) StepNamed
      holds (Ok change) n = stored_named change n (rest change.answers)
      holds (Err why) n = tt

  then_same : (answers : FastAnswers) (r : Result CoreStep Refusal) {f g : Core → Result ChangeStep Refusal} → ((c : Core) → SameStep (f c) (g c))
      → SameStep (and_then_change answers r f) (and_then_change answers r g)
  then_same answers (Ok step) e = same_cond StepNamed (goes_on step.next) (e step.state) (refl, tt)
  then_same answers (Err why) e = (refl, tt)

  module _ (answers : FastAnswers) (values epaxos_scores swift_scores : List ℕ) (fast : MeetsFast m Named answers epaxos_scores swift_scores) where
    module _ (h : Heard) (round : PaxosRound) where
      -- ---- EPaxos

      decide_same : (v : ℕ) (core : Core) (change : FastChange) → epaxos_decide_by m a h round v core change values epaxos_scores ≡ epaxos_decide lowest_best a h round v core change values epaxos_scores
      unfolding epaxos_decide_by epaxos_decide
      decide_same v core change =
          ap (λ (r : Result (Option ℕ) Refusal). cond (epaxos_can_commit a.member change.answers) (Ok (epaxos_commit a h v core)) (epaxos_adopt a round core r))
          (try_adopt_same m Named ok a.member change values epaxos_scores)

      answer_taken_same : (v : ℕ) (core : Core) (r : Result FastChange Refusal) → IfOk r (ChangeNamed Named)
          → SameStep (after_epaxos_answer_by m a h round v core values epaxos_scores r) (after_epaxos_answer lowest_best a h round v core values epaxos_scores r)
      answer_taken_same v core (Ok change) n = mapped change n (decide_same v core change)
      answer_taken_same v core (Err why) n = (refl, tt)

      epaxos_answer_same : (rv : RoundV) → ProposerNamed Named rv → (core : Core)
          → SameStep (epaxos_answer_by m a h round rv core answers values epaxos_scores) (epaxos_answer lowest_best a h round rv core answers values epaxos_scores)
      unfolding epaxos_answer_by epaxos_answer
      epaxos_answer_same (FastV p v) n core =
          let s = epaxos_answered_same m Named ok a.member own answers epaxos_scores swift_scores fast h.src p v n in
          let t = answer_taken_same v core (epaxos_answered a.member h.src p v answers epaxos_scores) s.1 in
          (ap (after_epaxos_answer_by m a h round v core values epaxos_scores) s.0 ∙ t.0, t.1)
      epaxos_answer_same (PaxosV at v) n core = (refl, tt)

      -- ---- SwiftPaxos

      swift_answer_same : (rv : RoundV) → ProposerNamed Named rv → (core : Core)
          → SameStep (swift_answer_by m a h round rv core answers swift_scores) (swift_answer a h round rv core answers swift_scores)
      unfolding swift_answer_by swift_answer
      swift_answer_same (FastV p v) n core =
          same_cond StepNamed (eqb h.src round.leader) (refl, tt)
          (after_same (λ after. Ok (after_swift_answer a v core after)) (swift_answered_same m Named ok a.member own answers epaxos_scores swift_scores fast h.src p v a.quorum false n))
      swift_answer_same (PaxosV at v) n core = (refl, tt)

      swift_client_prepare_same : (rv : RoundV) → ProposerNamed Named rv → (core : Core)
          → SameStep (swift_client_prepare_by m a h round rv core answers swift_scores) (swift_client_prepare a h round rv core answers swift_scores)
      unfolding swift_client_prepare_by swift_client_prepare
      swift_client_prepare_same rv n core = same_cond StepNamed (is_process h.committer a.member.my_pid) (swift_answer_same rv n core) (refl, tt)

      leader_same : (v : ℕ) → Same (ChangeNamed Named) (leader_answered_by m a h v answers swift_scores) (leader_answered a h v answers swift_scores)
      unfolding leader_answered_by leader_answered
      leader_same v = swift_answered_same m Named ok a.member own answers epaxos_scores swift_scores fast h.src a.member.my_pid v a.quorum true own

      accept_answered_same : (v : ℕ) → Same (ChangeNamed Named) (accept_answered_by m a h round v answers swift_scores) (accept_answered a h round v answers swift_scores)
      unfolding accept_answered_by accept_answered
      accept_answered_same v = same_cond (ChangeNamed Named) (from_leader h round) (leader_same v) (refl, tt)

      swift_client_accept_same : (v : ℕ) (core : Core) → SameStep (swift_client_accept_by m a h round v core answers swift_scores) (swift_client_accept a h round v core answers swift_scores)
      unfolding swift_client_accept_by swift_client_accept swift_accept_by swift_accept
      swift_client_accept_same v core =
          same_cond StepNamed (is_process h.committer a.member.my_pid) (after_same (after_accept_answer a h round v core) (accept_answered_same v)) (refl, tt)

      swift_answered_accept_same : (v : ℕ) (core : Core) (ms : SentMessages)
          → SameStep (swift_answered_accept_by m a h round v core ms answers swift_scores) (swift_answered_accept a h round v core ms answers swift_scores)
      unfolding swift_answered_accept_by swift_answered_accept
      swift_answered_accept_same v core ms = after_same (λ after. Ok (after_replica_answer a h round v core ms after)) (leader_same v)

      -- ---- Prepare

      fast_answered_same : (rv : RoundV) → ProposerNamed Named rv → (core : Core)
          → SameStep (fast_answered_by m a h round rv core answers values epaxos_scores swift_scores) (fast_answered lowest_best a h round rv core answers values epaxos_scores swift_scores)
      unfolding fast_answered_by fast_answered
      fast_answered_same rv n core = same_cond StepNamed (is_swift_paxos a.mode) (swift_client_prepare_same rv n core) (epaxos_answer_same rv n core)

      gather_same : (rv : RoundV) → ProposerNamed Named rv → (core : Core)
          → SameStep (fast_gather_by m a h round rv core answers values epaxos_scores swift_scores) (fast_gather lowest_best a h round rv core answers values epaxos_scores swift_scores)
      unfolding fast_gather_by fast_gather
      gather_same rv n core =
          same_cond StepNamed (starts_accept a round core (fast_promised a h rv core)) (mapped (unchanged answers) tt refl)
          (same_cond StepNamed (waits a round (fast_promised a h rv core)) (refl, tt) (fast_answered_same rv n (fast_promised a h rv core)))

      prepare_same : (slot : ℕ) (rv : RoundV) → ProposerNamed Named rv → (core : Core)
          → SameStep (on_fast_prepare_by m a h slot round rv core answers values epaxos_scores swift_scores) (on_fast_prepare lowest_best a h slot round rv core answers values epaxos_scores swift_scores)
      unfolding on_fast_prepare_by on_fast_prepare entered_fast_prepare_by entered_fast_prepare
      prepare_same slot rv n core =
          then_same answers (enter a h slot round core) (λ c. then_same answers (fast_prepared a h round rv c) (gather_same rv n))

      -- ---- Accept

      replica_accept_same : (v : ℕ) (r : Result CoreStep Refusal)
          → SameStep (after_replica_accept_by m a h round v answers swift_scores r) (after_replica_accept a h round v answers swift_scores r)
      replica_accept_same v (Ok step) = then_same answers (Ok step) (λ c. swift_answered_accept_same v c step.messages)
      replica_accept_same v (Err why) = (refl, tt)

      accept_same : (slot v : ℕ) (core : Core) → SameStep (on_fast_accept_by m a h slot round v core answers swift_scores) (on_fast_accept a h slot round v core answers swift_scores)
      unfolding on_fast_accept_by on_fast_accept entered_fast_accept_by entered_fast_accept replica_accept_by replica_accept
      accept_same slot v core =
          then_same answers (enter a h slot round core) (λ c. same_cond StepNamed a.member.replica (replica_accept_same v (accepting a h round v c)) (swift_client_accept_same v c))

    -- ---- messages

    process_change_same : (h : Heard) (msg : ConsensusMsg) → MessageNamed Named msg → (core : Core)
        → SameStep (process_change_by m a h msg core answers values epaxos_scores swift_scores) (process_change lowest_best a h msg core answers values epaxos_scores swift_scores)
    unfolding process_change_by process_change
    process_change_same h (Prepare slot round rv) n core = prepare_same h round slot rv n.1 core
    process_change_same h (Accept slot round v) n core = accept_same h round slot v core
    process_change_same h (ForwardRequest v) n core = (refl, tt)
    process_change_same h (Commit slot v) n core = (refl, tt)
    process_change_same h (ReadRequest id) n core = (refl, tt)
    process_change_same h (ReadResponse id next) n core = (refl, tt)

    -- ---- proposals

    own_answer_same : (v : ℕ) → Same (ChangeNamed Named) (own_answer_by m a v answers epaxos_scores swift_scores) (own_answer a v answers epaxos_scores swift_scores)
    unfolding own_answer_by own_answer
    own_answer_same v =
        same_cond (ChangeNamed Named) (is_swift_paxos a.mode) (swift_propose_same m Named ok a.member own answers epaxos_scores swift_scores fast v a.quorum)
        (epaxos_propose_same m Named ok a.member own answers epaxos_scores swift_scores fast v)

    answer_first_same : (round : PaxosRound) (v : ℕ) (core : Core) {x y : Result FastChange Refusal} → Same (ChangeNamed Named) x y
        → SameStep (after_own_answer a round v core x) (after_own_answer a round v core y)
    answer_first_same round v core {y = y} s = (ap (after_own_answer a round v core) s.0, holds y s.1)
      where
        holds : (r : Result FastChange Refusal) → IfOk r (ChangeNamed Named) → IfOk (after_own_answer a round v core r) StepNamed
        holds (Ok change) n = stored_named change n (propose_prepare a round (FastV a.member.my_pid v) core)
        holds (Err why) n = tt

    propose_change_same : (v : ℕ) (core : Core) → Rises m (unwrap_or_default core.paxos.round).round_group
        → SameStep (propose_change_by m a v core answers epaxos_scores swift_scores) (propose_change a v core answers epaxos_scores swift_scores)
    unfolding propose_change_by propose_change
    propose_change_same v core e =
        same_by_test StepNamed (may_same m a core e)
        (same_cond StepNamed (leads_from_start a) (mapped (unchanged answers) tt (ap (λ (r : PaxosRound). propose_accept a r v core) (proposal_same m a core e)))
        (let s = answer_first_same (proposal_round a core) v core (own_answer_same v) in
        (ap (λ (r : PaxosRound). after_own_answer a r v core (own_answer_by m a v answers epaxos_scores swift_scores)) (proposal_same m a core e) ∙ s.0, s.1)))
        (refl, tt)

  -- ---- with the change made to the fast half

  rounds_same : (fast : FastState) {x y : Result ChangeStep Refusal} → SameStep x y → map_step (change_rounds_by m fast) x ≡ map_step (change_rounds fast) y
  rounds_same fast {y = y} s = ap (map_step (change_rounds_by m fast)) s.0 ∙ go y s.1
    where
      go : (r : Result ChangeStep Refusal) → IfOk r StepNamed → map_step (change_rounds_by m fast) r ≡ map_step (change_rounds fast) r
      go (Ok step) n = ap (λ (x : RoundsStep). Ok x) (change_same m Named ok fast step n)
      go (Err why) n = refl

  module _ (s : Rounds) (fast : MeetsFast m Named (answers_of s.fast) s.fast.epaxos_proposer_scores s.fast.swift_proposer_scores) where
    classic_same : (v : ℕ) (core : Core) → Rises m (unwrap_or_default core.paxos.round).round_group → propose_classic_by m a v core ≡ propose_classic a v core
    unfolding propose_classic_by propose_classic
    classic_same v core e =
        ap₂ (λ (t : Bool) (r : PaxosRound). cond t (cond (is_multi_paxos a.mode) (propose_accept a r v core) (propose_prepare a r (PaxosV None v) core)) (Err not_allowed))
        (may_same m a core e) (proposal_same m a core e)

    pub processed_same : (h : Heard) (msg : ConsensusMsg) → MessageNamed Named msg → processed_by m a h msg s ≡ processed lowest_best a h msg s
    unfolding processed_by processed process_fast_by process_fast
    processed_same h msg n =
        ap (λ (r : Result RoundsStep Refusal). cond (has_fast_path a.mode) r (map_step (on_rounds s.fast) (process_classic a h msg s.core)))
        (rounds_same s.fast (process_change_same (answers_of s.fast) s.fast.fast_proposer_to_v s.fast.epaxos_proposer_scores s.fast.swift_proposer_scores fast h msg n s.core))

    pub proposing_same : (v : ℕ) → Rises m (unwrap_or_default s.core.paxos.round).round_group → proposing_by m a v s ≡ proposing a v s
    unfolding proposing_by proposing propose_fast_by propose_fast
    proposing_same v e =
        ap₂ (λ (r : Result RoundsStep Refusal) (c : Result CoreStep Refusal). cond (has_fast_path a.mode) r (map_step (on_rounds s.fast) c))
        (rounds_same s.fast (propose_change_same (answers_of s.fast) s.fast.fast_proposer_to_v s.fast.epaxos_proposer_scores s.fast.swift_proposer_scores fast v s.core e))
        (classic_same v s.core e)

-- The handlers that come to a sum, a difference or a look-up, with these as parameters. Each `name_by` is the definition `name` of the engine: the crates
-- fast::epaxos, fast::swift, propose and paxos_family have it.
-- Assumes nothing.
use Rattle.std.specs.Prelude.{true, false, cond, List, ℕ, eqb, None, Result, Ok, Err}
use Rattle.message.specs.Modes.{is_multi_paxos, is_swift_paxos}
use Rattle.message.specs.Promises.{is_process}
use Rattle.message.specs.declared.ConsensusMsg.{ConsensusMsg}
use Rattle.message.specs.declared.ConsensusMsg.TheVariants.{Prepare, Accept, ForwardRequest, Commit, ReadRequest, ReadResponse}
use Rattle.message.specs.declared.PaxosRound.{PaxosRound}
use Rattle.message.specs.declared.Refusal.{Refusal}
use Rattle.message.specs.declared.Refusal.TheVariants.{Panic}
use Rattle.message.specs.declared.RoundV.{RoundV}
use Rattle.message.specs.declared.RoundV.TheVariants.{FastV, PaxosV}
use Rattle.fast_state.specs.Fast.{answers_of, unchanged, epaxos_can_commit}
use Rattle.fast_state.specs.declared.FastAnswers.{FastAnswers}
use Rattle.fast_state.specs.declared.FastChange.{FastChange}
use Rattle.steps.specs.Steps.{RoundsStep, CoreStep, no_messages, stays, map_step, with_change, and_then_change}
use Rattle.steps.specs.declared.Asked.{Asked}
use Rattle.steps.specs.declared.ChangeStep.{ChangeStep}
use Rattle.steps.specs.declared.Core.{Core}
use Rattle.steps.specs.declared.Heard.{Heard}
use Rattle.steps.specs.declared.SentMessages.{SentMessages}
use Rattle.steps.specs.declared.Rounds.{Rounds}
use Rattle.steps.specs.enter.Enter.{enter}
use Rattle.classic.specs.prepare.Prepare.{accept_phase}
use Rattle.classic.specs.accept.Accept.{accepting}
use Rattle.fast.specs.epaxos.EPaxos.{epaxos_commit, epaxos_adopt}
use Rattle.fast.specs.swift.Swift.{after_step, after_swift_answer, from_leader, after_accept_answer, after_replica_answer}
use Rattle.propose.specs.proposal.Proposal.{not_allowed}
use Rattle.propose.specs.Propose.{propose_prepare, propose_accept, after_own_answer, leads_from_start}
use Rattle.paxos_family.specs.Process.{fast_prepared, fast_promised, starts_accept, waits}
use Rattle.sums.specs.Sums.{Sums}
use Rattle.sums.specs.Parts.{proposal_round_by, may_propose_by, change_rounds_by, epaxos_answered_by, epaxos_propose_v_by, epaxos_try_adopt_after_by, swift_answered_by, swift_propose_v_by}

module _ (m : Sums) where
  -- ---- the fast path of EPaxos

  unfoldable pub epaxos_decide_by : Asked → Heard → PaxosRound → ℕ → Core → FastChange → List ℕ → List ℕ → Result CoreStep Refusal
  epaxos_decide_by a h round v core change values scores =
      cond (epaxos_can_commit a.member change.answers) (Ok (epaxos_commit a h v core))
      (epaxos_adopt a round core (epaxos_try_adopt_after_by m a.member change values scores))

  abbrev pub after_epaxos_answer_by : Asked → Heard → PaxosRound → ℕ → Core → List ℕ → List ℕ → Result FastChange Refusal → Result ChangeStep Refusal
  after_epaxos_answer_by a h round v core values scores (Ok change) = map_step (with_change change) (epaxos_decide_by a h round v core change values scores)
  after_epaxos_answer_by a h round v core values scores (Err why) = Err why

  unfoldable pub epaxos_answer_by : Asked → Heard → PaxosRound → RoundV → Core → FastAnswers → List ℕ → List ℕ → Result ChangeStep Refusal
  epaxos_answer_by a h round (FastV proposer v) core answers values scores =
      after_epaxos_answer_by a h round v core values scores (epaxos_answered_by m a.member h.src proposer v answers scores)
  epaxos_answer_by a h round (PaxosV at v) core answers values scores = Err Panic

  -- ---- the fast path of SwiftPaxos

  unfoldable pub swift_answer_by : Asked → Heard → PaxosRound → RoundV → Core → FastAnswers → List ℕ → Result ChangeStep Refusal
  swift_answer_by a h round (FastV proposer v) core answers scores =
      cond (eqb h.src round.leader) (Err Panic)
      (after_step (λ after. Ok (after_swift_answer a v core after)) (swift_answered_by m a.member h.src proposer v a.quorum false answers scores))
  swift_answer_by a h round (PaxosV at v) core answers scores = Err Panic

  unfoldable pub swift_client_prepare_by : Asked → Heard → PaxosRound → RoundV → Core → FastAnswers → List ℕ → Result ChangeStep Refusal
  swift_client_prepare_by a h round rv core answers scores =
      cond (is_process h.committer a.member.my_pid) (swift_answer_by a h round rv core answers scores)
      (Ok (with_change (unchanged answers) (stays core no_messages)))

  unfoldable pub leader_answered_by : Asked → Heard → ℕ → FastAnswers → List ℕ → Result FastChange Refusal
  leader_answered_by a h v answers scores = swift_answered_by m a.member h.src a.member.my_pid v a.quorum true answers scores

  unfoldable pub accept_answered_by : Asked → Heard → PaxosRound → ℕ → FastAnswers → List ℕ → Result FastChange Refusal
  accept_answered_by a h round v answers scores = cond (from_leader h round) (leader_answered_by a h v answers scores) (Ok (unchanged answers))

  unfoldable pub swift_accept_by : Asked → Heard → PaxosRound → ℕ → Core → FastAnswers → List ℕ → Result ChangeStep Refusal
  swift_accept_by a h round v core answers scores = after_step (after_accept_answer a h round v core) (accept_answered_by a h round v answers scores)

  unfoldable pub swift_client_accept_by : Asked → Heard → PaxosRound → ℕ → Core → FastAnswers → List ℕ → Result ChangeStep Refusal
  swift_client_accept_by a h round v core answers scores =
      cond (is_process h.committer a.member.my_pid) (swift_accept_by a h round v core answers scores)
      (Ok (with_change (unchanged answers) (stays core no_messages)))

  unfoldable pub swift_answered_accept_by : Asked → Heard → PaxosRound → ℕ → Core → SentMessages → FastAnswers → List ℕ → Result ChangeStep Refusal
  swift_answered_accept_by a h round v core messages answers scores =
      after_step (λ after. Ok (after_replica_answer a h round v core messages after)) (leader_answered_by a h v answers scores)

  -- ---- process_message in EPaxos and SwiftPaxos

  unfoldable pub fast_answered_by : Asked → Heard → PaxosRound → RoundV → Core → FastAnswers → List ℕ → List ℕ → List ℕ → Result ChangeStep Refusal
  fast_answered_by a h round rv promised answers values epaxos_scores swift_scores =
      cond (is_swift_paxos a.mode) (swift_client_prepare_by a h round rv promised answers swift_scores)
      (epaxos_answer_by a h round rv promised answers values epaxos_scores)

  unfoldable pub fast_gather_by : Asked → Heard → PaxosRound → RoundV → Core → FastAnswers → List ℕ → List ℕ → List ℕ → Result ChangeStep Refusal
  fast_gather_by a h round rv core answers values epaxos_scores swift_scores =
      cond (starts_accept a round core (fast_promised a h rv core)) (map_step (with_change (unchanged answers)) (accept_phase a round (fast_promised a h rv core)))
      (cond (waits a round (fast_promised a h rv core)) (Ok (with_change (unchanged answers) (stays (fast_promised a h rv core) no_messages)))
      (fast_answered_by a h round rv (fast_promised a h rv core) answers values epaxos_scores swift_scores))

  unfoldable pub entered_fast_prepare_by : Asked → Heard → PaxosRound → RoundV → Core → FastAnswers → List ℕ → List ℕ → List ℕ → Result ChangeStep Refusal
  entered_fast_prepare_by a h round rv core answers values epaxos_scores swift_scores =
      and_then_change answers (fast_prepared a h round rv core) (λ c. fast_gather_by a h round rv c answers values epaxos_scores swift_scores)

  unfoldable pub on_fast_prepare_by : Asked → Heard → ℕ → PaxosRound → RoundV → Core → FastAnswers → List ℕ → List ℕ → List ℕ → Result ChangeStep Refusal
  on_fast_prepare_by a h slot round rv core answers values epaxos_scores swift_scores =
      and_then_change answers (enter a h slot round core) (λ c. entered_fast_prepare_by a h round rv c answers values epaxos_scores swift_scores)

  abbrev pub after_replica_accept_by : Asked → Heard → PaxosRound → ℕ → FastAnswers → List ℕ → Result CoreStep Refusal → Result ChangeStep Refusal
  after_replica_accept_by a h round v answers swift_scores (Ok step) =
      and_then_change answers (Ok step) (λ c. swift_answered_accept_by a h round v c step.messages answers swift_scores)
  after_replica_accept_by a h round v answers swift_scores (Err why) = Err why

  unfoldable pub replica_accept_by : Asked → Heard → PaxosRound → ℕ → Core → FastAnswers → List ℕ → Result ChangeStep Refusal
  replica_accept_by a h round v core answers swift_scores = after_replica_accept_by a h round v answers swift_scores (accepting a h round v core)

  unfoldable pub entered_fast_accept_by : Asked → Heard → PaxosRound → ℕ → Core → FastAnswers → List ℕ → Result ChangeStep Refusal
  entered_fast_accept_by a h round v core answers swift_scores =
      cond a.member.replica (replica_accept_by a h round v core answers swift_scores) (swift_client_accept_by a h round v core answers swift_scores)

  unfoldable pub on_fast_accept_by : Asked → Heard → ℕ → PaxosRound → ℕ → Core → FastAnswers → List ℕ → Result ChangeStep Refusal
  on_fast_accept_by a h slot round v core answers swift_scores =
      and_then_change answers (enter a h slot round core) (λ c. entered_fast_accept_by a h round v c answers swift_scores)

  unfoldable pub process_change_by : Asked → Heard → ConsensusMsg → Core → FastAnswers → List ℕ → List ℕ → List ℕ → Result ChangeStep Refusal
  process_change_by a h (Prepare slot round rv) core answers values epaxos_scores swift_scores =
      on_fast_prepare_by a h slot round rv core answers values epaxos_scores swift_scores
  process_change_by a h (Accept slot round v) core answers values epaxos_scores swift_scores = on_fast_accept_by a h slot round v core answers swift_scores
  process_change_by a h (ForwardRequest v) core answers values epaxos_scores swift_scores = Ok (with_change (unchanged answers) (stays core no_messages))
  process_change_by a h (Commit slot v) core answers values epaxos_scores swift_scores = Ok (with_change (unchanged answers) (stays core no_messages))
  process_change_by a h (ReadRequest id) core answers values epaxos_scores swift_scores = Ok (with_change (unchanged answers) (stays core no_messages))
  process_change_by a h (ReadResponse id next) core answers values epaxos_scores swift_scores = Ok (with_change (unchanged answers) (stays core no_messages))

  unfoldable pub process_fast_by : Asked → Heard → ConsensusMsg → Rounds → Result RoundsStep Refusal
  process_fast_by a h msg s =
      map_step (change_rounds_by m s.fast)
      (process_change_by a h msg s.core (answers_of s.fast) s.fast.fast_proposer_to_v s.fast.epaxos_proposer_scores
      s.fast.swift_proposer_scores)

  -- ---- proposals

  unfoldable pub propose_classic_by : Asked → ℕ → Core → Result CoreStep Refusal
  propose_classic_by a v core =
      cond (may_propose_by m a core)
      (cond (is_multi_paxos a.mode) (propose_accept a (proposal_round_by m a core) v core) (propose_prepare a (proposal_round_by m a core) (PaxosV None v) core))
      (Err not_allowed)

  unfoldable pub own_answer_by : Asked → ℕ → FastAnswers → List ℕ → List ℕ → Result FastChange Refusal
  own_answer_by a v answers epaxos_scores swift_scores =
      cond (is_swift_paxos a.mode) (swift_propose_v_by m a.member v a.quorum false answers swift_scores) (epaxos_propose_v_by m a.member v answers epaxos_scores)

  unfoldable pub propose_change_by : Asked → ℕ → Core → FastAnswers → List ℕ → List ℕ → Result ChangeStep Refusal
  propose_change_by a v core answers epaxos_scores swift_scores =
      cond (may_propose_by m a core)
      (cond (leads_from_start a) (map_step (with_change (unchanged answers)) (propose_accept a (proposal_round_by m a core) v core))
      (after_own_answer a (proposal_round_by m a core) v core (own_answer_by a v answers epaxos_scores swift_scores)))
      (Err not_allowed)

  unfoldable pub propose_fast_by : Asked → ℕ → Rounds → Result RoundsStep Refusal
  propose_fast_by a v s =
      map_step (change_rounds_by m s.fast)
      (propose_change_by a v s.core (answers_of s.fast) s.fast.epaxos_proposer_scores s.fast.swift_proposer_scores)

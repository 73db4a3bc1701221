-- process_message of the Rust's paxos_family.rs: a Prepare or an Accept at a member of the group. The classic modes (Paxos, MultiPaxos,
-- MultiPaxos3P, Pando) change the core alone; EPaxos and SwiftPaxos also the fast half.
-- Assumes nothing.
use Rattle.std.specs.Prelude.{Bool, cond, not, ◌&&◌, List, ℕ, eqb, Result, Ok, Err}
use Rattle.message.specs.Modes.{is_swift_paxos}
use Rattle.message.specs.declared.ConsensusMsg.{ConsensusMsg}
use Rattle.message.specs.declared.ConsensusMsg.TheVariants.{Prepare, Accept, ForwardRequest, Commit, ReadRequest, ReadResponse}
use Rattle.message.specs.declared.PaxosRound.{PaxosRound}
use Rattle.message.specs.declared.Refusal.{Refusal}
use Rattle.message.specs.declared.RoundV.{RoundV}
use Rattle.fast_state.specs.Adopt.{ProposerChoice}
use Rattle.fast_state.specs.Fast.{answers_of, unchanged}
use Rattle.fast_state.specs.declared.FastAnswers.{FastAnswers}
use Rattle.classic.specs.accept.Accept.{accepting}
use Rattle.steps.specs.enter.Enter.{enter}
use Rattle.fast.specs.epaxos.EPaxos.{epaxos_answer}
use Rattle.fast.specs.swift.Swift.{swift_client_prepare, swift_client_accept, swift_answered_accept}
use Rattle.classic.specs.prepare.Prepare.{prepare_answered, accept_phase, with_promise, becomes_prepared, gather, has_accepted}
use Rattle.steps.specs.Steps.{RoundsStep, CoreStep, no_messages, stays, continues, and_then, map_step, with_change, and_then_change, change_rounds}
use Rattle.steps.specs.declared.Asked.{Asked}
use Rattle.steps.specs.declared.ChangeStep.{ChangeStep}
use Rattle.steps.specs.declared.Core.{Core}
use Rattle.steps.specs.declared.Heard.{Heard}
use Rattle.steps.specs.declared.Rounds.{Rounds}

-- ---- the classic modes

-- a Prepare in the entered round
unfoldable pub entered_prepare : Asked → Heard → PaxosRound → RoundV → Core → Result CoreStep Refusal
entered_prepare a h round rv core = and_then (prepare_answered a h round rv core) (gather a h round rv)

-- process_message, Prepare
unfoldable pub on_prepare : Asked → Heard → ℕ → PaxosRound → RoundV → Core → Result CoreStep Refusal
on_prepare a h slot round rv core = and_then (enter a h slot round core) (entered_prepare a h round rv)

-- process_message, Accept
unfoldable pub on_accept : Asked → Heard → ℕ → PaxosRound → ℕ → Core → Result CoreStep Refusal
on_accept a h slot round v core = and_then (enter a h slot round core) (accepting a h round v)

-- process_message: a ForwardRequest does nothing; Commit and reads are handled before
unfoldable pub process_classic : Asked → Heard → ConsensusMsg → Core → Result CoreStep Refusal
process_classic a h (Prepare slot round rv) core = on_prepare a h slot round rv core
process_classic a h (Accept slot round v) core = on_accept a h slot round v core
process_classic a h (ForwardRequest v) core = Ok (stays core no_messages)
process_classic a h (Commit slot v) core = Ok (stays core no_messages)
process_classic a h (ReadRequest id) core = Ok (stays core no_messages)
process_classic a h (ReadResponse id next) core = Ok (stays core no_messages)

-- ---- EPaxos and SwiftPaxos

-- of a Prepare a client (no replica) holds and answers nothing: the Rust goes to process_answers_at_swift_paxos_client at once
unfoldable pub fast_prepared : Asked → Heard → PaxosRound → RoundV → Core → Result CoreStep Refusal
fast_prepared a h round rv core = cond a.member.replica (prepare_answered a h round rv core) (Ok (continues core no_messages))

-- nor does it count a promise
unfoldable pub fast_promised : Asked → Heard → RoundV → Core → Core
fast_promised a h rv core = cond a.member.replica (with_promise a h rv core) core

-- a replica that leads the round: `round.leader == self.my_pid`
unfoldable pub leads_round : Asked → PaxosRound → Bool
leads_round a round = a.member.replica && eqb round.leader a.member.my_pid

-- the SwiftPaxos leader accepts at once, where nothing is accepted yet; in EPaxos, once a value is accepted, the promises count as in Paxos
unfoldable pub starts_accept : Asked → PaxosRound → Core → Core → Bool
starts_accept a round core promised =
    cond (is_swift_paxos a.mode) (leads_round a round && not (has_accepted promised))
    (has_accepted promised && becomes_prepared a core promised)

-- what remains of those two cases waits
unfoldable pub waits : Asked → PaxosRound → Core → Bool
waits a round promised = cond (is_swift_paxos a.mode) (leads_round a round) (has_accepted promised)

-- values, epaxos_scores and swift_scores are the tables by proposer: values, scores of EPaxos, scores of SwiftPaxos
module _ (choose : ProposerChoice) where
  -- any other promise is an answer on the fast path
  unfoldable pub fast_answered : Asked → Heard → PaxosRound → RoundV → Core → FastAnswers → List ℕ → List ℕ → List ℕ → Result ChangeStep Refusal
  fast_answered a h round rv promised answers values epaxos_scores swift_scores =
      cond (is_swift_paxos a.mode) (swift_client_prepare a h round rv promised answers swift_scores)
      (epaxos_answer choose a h round rv promised answers values epaxos_scores)

  -- the delegate counts a promise as its mode does
  unfoldable pub fast_gather : Asked → Heard → PaxosRound → RoundV → Core → FastAnswers → List ℕ → List ℕ → List ℕ → Result ChangeStep Refusal
  fast_gather a h round rv core answers values epaxos_scores swift_scores =
      cond (starts_accept a round core (fast_promised a h rv core)) (map_step (with_change (unchanged answers)) (accept_phase a round (fast_promised a h rv core)))
      (cond (waits a round (fast_promised a h rv core)) (Ok (with_change (unchanged answers) (stays (fast_promised a h rv core) no_messages)))
      (fast_answered a h round rv (fast_promised a h rv core) answers values epaxos_scores swift_scores))

  -- a Prepare in the entered round
  unfoldable pub entered_fast_prepare : Asked → Heard → PaxosRound → RoundV → Core → FastAnswers → List ℕ → List ℕ → List ℕ → Result ChangeStep Refusal
  entered_fast_prepare a h round rv core answers values epaxos_scores swift_scores =
      and_then_change answers (fast_prepared a h round rv core) (λ c. fast_gather a h round rv c answers values epaxos_scores swift_scores)

  -- process_message, Prepare
  unfoldable pub on_fast_prepare : Asked → Heard → ℕ → PaxosRound → RoundV → Core → FastAnswers → List ℕ → List ℕ → List ℕ → Result ChangeStep Refusal
  on_fast_prepare a h slot round rv core answers values epaxos_scores swift_scores =
      and_then_change answers (enter a h slot round core) (λ c. entered_fast_prepare a h round rv c answers values epaxos_scores swift_scores)

-- an Accept at a replica: a SwiftPaxos committer that has answered goes on, with the messages of its answer
abbrev pub after_replica_accept : Asked → Heard → PaxosRound → ℕ → FastAnswers → List ℕ → Result CoreStep Refusal → Result ChangeStep Refusal
after_replica_accept a h round v answers swift_scores (Ok step) =
    and_then_change answers (Ok step) (λ c. swift_answered_accept a h round v c step.messages answers swift_scores)
after_replica_accept a h round v answers swift_scores (Err why) = Err why

unfoldable pub replica_accept : Asked → Heard → PaxosRound → ℕ → Core → FastAnswers → List ℕ → Result ChangeStep Refusal
replica_accept a h round v core answers swift_scores = after_replica_accept a h round v answers swift_scores (accepting a h round v core)

-- an Accept in the entered round; at a client process_answers_at_swift_paxos_client
unfoldable pub entered_fast_accept : Asked → Heard → PaxosRound → ℕ → Core → FastAnswers → List ℕ → Result ChangeStep Refusal
entered_fast_accept a h round v core answers swift_scores =
    cond a.member.replica (replica_accept a h round v core answers swift_scores) (swift_client_accept a h round v core answers swift_scores)

-- process_message, Accept
unfoldable pub on_fast_accept : Asked → Heard → ℕ → PaxosRound → ℕ → Core → FastAnswers → List ℕ → Result ChangeStep Refusal
on_fast_accept a h slot round v core answers swift_scores =
    and_then_change answers (enter a h slot round core) (λ c. entered_fast_accept a h round v c answers swift_scores)

-- process_message, with what changes in the fast half
unfoldable pub process_change : ProposerChoice → Asked → Heard → ConsensusMsg → Core → FastAnswers → List ℕ → List ℕ → List ℕ → Result ChangeStep Refusal
process_change choose a h (Prepare slot round rv) core answers values epaxos_scores swift_scores =
    on_fast_prepare choose a h slot round rv core answers values epaxos_scores swift_scores
process_change choose a h (Accept slot round v) core answers values epaxos_scores swift_scores = on_fast_accept a h slot round v core answers swift_scores
process_change choose a h (ForwardRequest v) core answers values epaxos_scores swift_scores = Ok (with_change (unchanged answers) (stays core no_messages))
process_change choose a h (Commit slot v) core answers values epaxos_scores swift_scores = Ok (with_change (unchanged answers) (stays core no_messages))
process_change choose a h (ReadRequest id) core answers values epaxos_scores swift_scores = Ok (with_change (unchanged answers) (stays core no_messages))
process_change choose a h (ReadResponse id next) core answers values epaxos_scores swift_scores = Ok (with_change (unchanged answers) (stays core no_messages))

-- process_message, with the change made
unfoldable pub process_fast : ProposerChoice → Asked → Heard → ConsensusMsg → Rounds → Result RoundsStep Refusal
process_fast choose a h msg s =
    map_step (change_rounds s.fast)
    (process_change choose a h msg s.core (answers_of s.fast) s.fast.fast_proposer_to_v s.fast.epaxos_proposer_scores
    s.fast.swift_proposer_scores)

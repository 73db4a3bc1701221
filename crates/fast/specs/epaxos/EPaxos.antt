-- Where EPaxos parts from the other modes (the Rust's process_message).
-- Assumes nothing.
use Rattle.std.specs.Prelude.{cond, List, ℕ, eqb, Option, None, Some, Result, Ok, Err}
use Rattle.message.specs.declared.Refusal.{Refusal}
use Rattle.message.specs.declared.PaxosRound.{PaxosRound}
use Rattle.message.specs.declared.Refusal.TheVariants.{Panic}
use Rattle.message.specs.declared.RoundV.{RoundV}
use Rattle.message.specs.declared.RoundV.TheVariants.{FastV, PaxosV}
use Rattle.round_state.specs.Paxos.{is_prepared, adopt_from_epaxos}
use Rattle.fast_state.specs.Adopt.{ProposerChoice, epaxos_try_adopt_after}
use Rattle.fast_state.specs.Fast.{epaxos_answered, epaxos_can_commit}
use Rattle.fast_state.specs.declared.FastAnswers.{FastAnswers}
use Rattle.fast_state.specs.declared.FastChange.{FastChange}
use Rattle.classic.specs.accept.Accept.{commit_message}
use Rattle.classic.specs.prepare.Prepare.{after_own_accept}
use Rattle.steps.specs.Steps.{CoreStep, no_messages, one_message, held_value, stays, commits_with, map_step, with_change}
use Rattle.steps.specs.declared.Asked.{Asked}
use Rattle.steps.specs.declared.ChangeStep.{ChangeStep}
use Rattle.steps.specs.declared.Core.{Core}
use Rattle.steps.specs.declared.Heard.{Heard}

-- The requester of a value by the host's two answers: the first where it is the message's value v, and else the second, which is for the
-- value that was held when the call came.
abbrev pub requester_of : Heard → ℕ → ℕ → Option ℕ
requester_of h v held = cond (eqb held v) h.requester h.held_requester

-- broadcast_commit of the held value, and commit_slot of the message's
abbrev pub epaxos_commit : Asked → Heard → ℕ → Core → CoreStep
epaxos_commit a h v core = commits_with v core (one_message (commit_message a core (requester_of h v (held_value core.paxos.max_rv))))

-- `assert!(is_prepared())`: an adopted value goes into the accept phase, for which a majority must have promised
unfoldable pub adopting : Asked → PaxosRound → ℕ → Core → Result CoreStep Refusal
adopting a round v core =
    cond (is_prepared a.member core.paxos)
    (after_own_accept a round core (adopt_from_epaxos a.member round v core.paxos))
    (Err Panic)

-- by what epaxos_try_adopt says: nothing, a value to adopt, or its failed assertion
abbrev pub epaxos_adopt : Asked → PaxosRound → Core → Result (Option ℕ) Refusal → Result CoreStep Refusal
epaxos_adopt a round core (Ok None) = Ok (stays core no_messages)
epaxos_adopt a round core (Ok (Some v)) = adopting a round v core
epaxos_adopt a round core (Err why) = Err why

module _ (choose : ProposerChoice) where
  -- `if epaxos_can_commit()` commit on the fast path; else adopt, or wait
  unfoldable pub epaxos_decide : Asked → Heard → PaxosRound → ℕ → Core → FastChange → List ℕ → List ℕ → Result CoreStep Refusal
  epaxos_decide a h round v core change values scores =
      cond (epaxos_can_commit a.member change.answers) (Ok (epaxos_commit a h v core))
      (epaxos_adopt a round core (epaxos_try_adopt_after choose a.member change values scores))

  -- epaxos_answered was taken, or its assertion failed
  abbrev pub after_epaxos_answer : Asked → Heard → PaxosRound → ℕ → Core → List ℕ → List ℕ → Result FastChange Refusal → Result ChangeStep Refusal
  after_epaxos_answer a h round v core values scores (Ok change) = map_step (with_change change) (epaxos_decide a h round v core change values scores)
  after_epaxos_answer a h round v core values scores (Err why) = Err why

  -- a fast answer; a promise without a proposer can't be one
  unfoldable pub epaxos_answer : Asked → Heard → PaxosRound → RoundV → Core → FastAnswers → List ℕ → List ℕ → Result ChangeStep Refusal
  epaxos_answer a h round (FastV proposer v) core answers values scores =
      after_epaxos_answer a h round v core values scores (epaxos_answered a.member h.src proposer v answers scores)
  epaxos_answer a h round (PaxosV at v) core answers values scores = Err Panic

-- What a call that is not refused before leaves in the arrays that are lent: the core, the three messages of the reply, and the rest of the reply.
-- Assumes nothing.
use Rattle.std.specs.Prelude.{Bool, false, cond, List, [], ℕ, eqb, None, Result, Ok, Err}
use Rattle.message.specs.Outcomes.{Outcome}
use Rattle.arrays.specs.Arrays.{settings_of, core_of, core_numbers, put_message, rest_numbers}
use Rattle.arrays.specs.declared.Setup.{Setup}
use Rattle.calls.specs.Asked.{asked_of, heard_of}
use Rattle.calls.specs.declared.Reply.{Reply}
use Rattle.calls.specs.Replies.{sent_reply, read_answer}
use Rattle.message.specs.Refusals.{refusal_number}
use Rattle.message.specs.declared.Refusal.{Refusal}
use Rattle.message.specs.declared.Refusal.TheVariants.{ValueNotHeld, Panic}
use Rattle.paxos_family.specs.Process.{process_classic}
use Rattle.steps.specs.Steps.{CoreStep, no_messages, one_message}
use Rattle.steps.specs.declared.Asked.{Asked}
use Rattle.steps.specs.declared.Heard.{Heard}
use Rattle.steps.specs.declared.Next.{Next}
use Rattle.steps.specs.declared.Next.TheVariants.{Stays, Continues, Commits}
use Rattle.flat.specs.Encode.{encoded_core}
use Rattle.flat.specs.Decode.{is_yes, decoded_core, decoded_delivery, decoded_msg, decoded_settings, decoded_source}
use Rattle.flat.specs.declared.FlatCall.{FlatCall}
use Rattle.flat.specs.declared.FlatMessage.{FlatMessage}
use Rattle.direct.specs.handlers.CoreAnswers.{core_committed, core_on_commit}
use Rattle.direct.specs.declared.handlers.CoreAnswer.{CoreAnswer}
use Rattle.direct.specs.declared.handlers.NotTaken.{NotTaken}
use Rattle.direct.specs.declared.handlers.NotTaken.TheVariants.{Refused, PassedOn}
use Rattle.direct.specs.declared.handlers.ReplyInArrays.{ReplyInArrays}

-- ---- the reply

-- into the arrays that take it; its outcome is for the host to write, by the number that the call hands back
unfoldable pub put_reply : Reply → ReplyInArrays → ReplyInArrays
put_reply r w =
    record {
      outcome = w.outcome;
      first = put_message r.messages.first w.first;
      second = put_message r.messages.second w.second;
      third = put_message r.messages.third w.third;
      rest = rest_numbers r.commit r.served_count;
    }

-- a call that sends and commits nothing, and has served so many reads
abbrev pub put_served : ℕ → ReplyInArrays → ReplyInArrays
put_served n w = put_reply (record { outcome = Ok tt; messages = no_messages; commit = None; served_count = n }) w

-- ---- what a host is told

-- the number of a call that has to go to the other of the two functions for hosts; no refusal has it
abbrev pub passed_on : ℕ
passed_on = 255

abbrev pub not_taken_number : NotTaken → ℕ
not_taken_number (Refused why) = refusal_number why
not_taken_number PassedOn = passed_on

-- what became of a call
abbrev pub CallOutcome : Type 0
CallOutcome = Result (Unit {0}) NotTaken

-- 0 where the call is taken
abbrev pub call_number : CallOutcome → ℕ
call_number (Ok tt) = 0
call_number (Err why) = not_taken_number why

-- ---- what is left

-- what a function of direct::handlers leaves: whether reads may have become ready, or the refusal; and the numbers in the arrays of the core and of the reply
pub record LeftInArrays (Half : Type 0) : Type 0 where
  pub handled : Result Bool Refusal
  pub core : List ℕ
  pub half : Half
  pub reply : ReplyInArrays

-- none is lent to `chanbook_direct_call`
abbrev pub NoHalf : Type 0
NoHalf = Unit {0}

abbrev pub left_with : Result Bool Refusal → List ℕ → ReplyInArrays → LeftInArrays NoHalf
left_with handled core reply = record { handled = handled; core = core; half = tt; reply = reply }

-- no read is to be served
abbrev pub serves_no_read : Outcome → Result Bool Refusal
serves_no_read (Ok tt) = Ok false
serves_no_read (Err why) = Err why

-- a refusal writes nothing
abbrev pub left_refused : Refusal → List ℕ → ReplyInArrays → LeftInArrays NoHalf
left_refused why core w = left_with (Err why) core w

-- ---- the answer of the core to a call that is taken

abbrev pub put_taken : CoreAnswer → ReplyInArrays → LeftInArrays NoHalf
put_taken a w = left_with (Ok a.reads_open) (core_numbers (encoded_core a.core)) (put_reply a.reply w)

-- ---- what the handlers ask of the setup and hear of a message

-- nothing that is asked depends on the tables of committers and delegates
abbrev pub asked_in : Setup → Asked
asked_in s = asked_of (decoded_settings (settings_of s [] []))

abbrev pub flat_heard : Setup → List ℕ → List ℕ → FlatCall → Heard
flat_heard s committers delegates f =
    heard_of (decoded_settings (settings_of s committers delegates)) (decoded_delivery s.process_count s.my_pid f)

-- ---- a proposal

-- a step that is not refused and commits nothing
abbrev pub put_uncommitted : CoreStep → ReplyInArrays → LeftInArrays NoHalf
put_uncommitted s w = left_with (Ok false) (core_numbers (encoded_core s.state)) (put_reply (sent_reply s.messages) w)

-- the step of a proposal, which commits nothing
unfoldable pub put_step : Result CoreStep Refusal → List ℕ → ReplyInArrays → LeftInArrays NoHalf
put_step (Ok s) core w = put_uncommitted s w
put_step (Err why) core w = left_refused why core w

-- ---- a Commit, and what the rounds handle

-- a commit needs its value
abbrev pub put_decided : Asked → Bool → ℕ → CoreStep → List ℕ → ReplyInArrays → LeftInArrays NoHalf
put_decided a held v s core w = cond held (put_taken (core_committed a v s.state s.messages) w) (left_refused ValueNotHeld core w)

-- by what comes after the step
unfoldable pub put_next : Asked → Bool → CoreStep → Next → List ℕ → ReplyInArrays → LeftInArrays NoHalf
put_next a held s Stays core w = put_uncommitted s w
put_next a held s Continues core w = put_uncommitted s w
put_next a held s (Commits v) core w = put_decided a held v s core w

-- the step of a message
unfoldable pub put_processed : Asked → Bool → Result CoreStep Refusal → List ℕ → ReplyInArrays → LeftInArrays NoHalf
put_processed a held (Ok s) core w = put_next a held s s.next core w
put_processed a held (Err why) core w = left_refused why core w

-- a Commit has no round, and goes to the core at once
unfoldable pub handled_in_arrays : Setup → List ℕ → List ℕ → List ℕ → FlatCall → ReplyInArrays → LeftInArrays NoHalf
handled_in_arrays s committers delegates core f w =
    cond (eqb f.message.kind 4) (put_taken (core_on_commit (asked_in s) f.message.slot f.message.v (decoded_core (core_of core))) w)
    (put_processed (asked_in s) (is_yes f.value_held)
    (process_classic (asked_in s) (flat_heard s committers delegates f) (decoded_msg f.message) (decoded_core (core_of core)))
    core
    w)

-- ---- a ReadRequest

-- the core is left as it is; one's own request is refused, since nothing is sent to oneself
abbrev pub requested_by : Setup → List ℕ → FlatMessage → ℕ → ReplyInArrays → LeftInArrays NoHalf
requested_by s core m src w =
    cond (eqb src s.my_pid) (left_refused Panic core w)
    (left_with (Ok false) core
    (put_reply (sent_reply (one_message (read_answer s.my_pid src (record { 0 = m.id }) (decoded_core (core_of core))))) w))

unfoldable pub answer_request : Setup → List ℕ → FlatMessage → ReplyInArrays → LeftInArrays NoHalf
answer_request s core m w = requested_by s core m (decoded_source s.process_count s.my_pid m) w

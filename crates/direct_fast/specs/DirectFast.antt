-- What a call in EPaxos or SwiftPaxos leaves in the arrays that are lent, and what is told of it: that it is taken, why it is refused, or that the fast half
-- has no part in it.
-- Assumes nothing.
use Rattle.std.specs.Prelude.{Bool, cond, not, ◌&&◌, ◌||◌, List, ℕ, eqb, Result, Ok, Err}
use Rattle.arrays.specs.Arrays.{core_of}
use Rattle.arrays.specs.declared.FastArrays.{FastArrays}
use Rattle.arrays.specs.declared.Setup.{Setup}
use Rattle.direct.specs.Direct.{ArraysAfter, with_host_number, left_after_reads, fast_half_acts, is_older_message}
use Rattle.direct.specs.handlers.Handled.{put_served, CallOutcome, LeftInArrays, put_taken, asked_in, flat_heard}
use Rattle.direct.specs.declared.handlers.ReplyInArrays.{ReplyInArrays}
use Rattle.direct.specs.declared.handlers.NotTaken.TheVariants.{Refused, PassedOn}
use Rattle.direct_fast.specs.half.FastArrays.{answers_in, put_after}
use Rattle.direct_fast.specs.finish.FastCall.{fast_finish}
use Rattle.direct_fast.specs.declared.finish.HalfAnswer.{HalfAnswer}
use Rattle.fast_state.specs.Adopt.{lowest_best}
use Rattle.fast_state.specs.Fast.{unchanged}
use Rattle.fast_state.specs.declared.FastAnswers.{FastAnswers}
use Rattle.message.specs.Outcomes.{Outcome}
use Rattle.message.specs.declared.Refusal.{Refusal}
use Rattle.paxos_family.specs.Process.{process_change}
use Rattle.propose.specs.Propose.{propose_change}
use Rattle.read_tracker.specs.declared.ReadTable.{ReadTable}
use Rattle.steps.specs.Steps.{no_messages, commits_with, with_change}
use Rattle.steps.specs.declared.Asked.{Asked}
use Rattle.steps.specs.declared.ChangeStep.{ChangeStep}
use Rattle.steps.specs.declared.Core.{Core}
use Rattle.questions.specs.decided.Refusals.{refusal_of}
use Rattle.flat.specs.Decode.{is_yes, decoded_core, decoded_msg}
use Rattle.flat.specs.declared.FlatCall.{FlatCall}
use Rattle.flat.specs.declared.FlatCore.{FlatCore}

-- ---- a proposal, a Commit, and what the rounds handle

unfoldable pub fast_step : Asked → Setup → List ℕ → List ℕ → Core → FastAnswers → FastArrays → FlatCall → Result ChangeStep Refusal
fast_step asked s committers delegates core answers fast f =
    cond (eqb f.kind 0) (propose_change asked f.v core answers fast.epaxos fast.swift)
    (cond (eqb f.message.kind 4) (Ok (with_change (unchanged answers) (commits_with f.message.v core no_messages)))
    (process_change lowest_best asked (flat_heard s committers delegates f) (decoded_msg f.message) core answers fast.values fast.epaxos fast.swift))

-- the value that is proposed, and that of a Commit, which refusal 6 has asked for
unfoldable pub holds_value : FlatCall → Bool
holds_value f = eqb f.kind 0 || (eqb f.message.kind 4 || is_yes f.value_held)

unfoldable pub half_answer : Setup → List ℕ → List ℕ → Core → FastArrays → FlatCall → Result HalfAnswer Refusal
half_answer s committers delegates core fast f =
    fast_finish (asked_in s) (holds_value f) (fast_step (asked_in s) s committers delegates core (answers_in fast.answers) fast f)

-- ---- what is written

-- the core and the reply, as in the classic modes, and the fast half
abbrev pub fast_leaves : Result Bool Refusal → List ℕ → FastArrays → ReplyInArrays → LeftInArrays FastArrays
fast_leaves handled core fast reply = record { handled = handled; core = core; half = fast; reply = reply }

-- a call that is taken
abbrev pub put_fast : HalfAnswer → FastArrays → ReplyInArrays → LeftInArrays FastArrays
put_fast x fast w = fast_leaves (put_taken x.answer w).handled (put_taken x.answer w).core (put_after x.after fast) (put_taken x.answer w).reply

-- a refusal writes nothing
unfoldable pub put_answered : Result HalfAnswer Refusal → List ℕ → FastArrays → ReplyInArrays → LeftInArrays FastArrays
put_answered (Ok x) core fast w = put_fast x fast w
put_answered (Err why) core fast w = fast_leaves (Err why) core fast w

-- the answer of the fast half to a call that is not too old
abbrev pub fast_written : Setup → List ℕ → List ℕ → List ℕ → FastArrays → FlatCall → ReplyInArrays → LeftInArrays FastArrays
fast_written s committers delegates core fast f w =
    put_answered (half_answer s committers delegates (decoded_core (core_of core)) fast f) core fast w

-- what a call leaves
abbrev pub fast_direct : {A : Type 0} → A → List ℕ → FastArrays → ReadTable → ReplyInArrays → ArraysAfter A FastArrays
fast_direct told core fast table reply = record { outcome = told; core = core; half = fast; table = table; reply = reply }

-- ---- calls

-- a message that is too old does nothing
unfoldable pub is_old : FlatCore → FlatCall → Bool
is_old c f = not (eqb f.kind 0) && is_older_message c f.message

unfoldable pub fast_handled : Setup → List ℕ → List ℕ → List ℕ → FastArrays → ReadTable → FlatCall → ReplyInArrays → ArraysAfter CallOutcome FastArrays
fast_handled s committers delegates core fast table f w =
    cond (is_old (core_of core) f) (fast_direct (Ok tt) core fast table (put_served 0 w))
    (left_after_reads s table (fast_written s committers delegates core fast f w))

-- by the refusal, if there is one
unfoldable pub fast_unless_refused : Setup → List ℕ → List ℕ → Outcome → List ℕ → FastArrays → ReadTable → FlatCall → ReplyInArrays → ArraysAfter CallOutcome FastArrays
fast_unless_refused s committers delegates (Ok tt) core fast table f w = fast_handled s committers delegates core fast table f w
fast_unless_refused s committers delegates (Err why) core fast table f w = fast_direct (Err (Refused why)) core fast table w

unfoldable pub fast_made : Setup → List ℕ → List ℕ → List ℕ → FastArrays → ReadTable → FlatCall → ReplyInArrays → ArraysAfter CallOutcome FastArrays
fast_made s committers delegates core fast table f w =
    cond (fast_half_acts s f) (fast_unless_refused s committers delegates (refusal_of s (core_of core) f) core fast table f w)
    (fast_direct (Err PassedOn) core fast table w)

unfoldable pub fast_call : Setup → List ℕ → List ℕ → List ℕ → FastArrays → ReadTable → FlatCall → ReplyInArrays → ArraysAfter ℕ FastArrays
fast_call s committers delegates core fast table f w = with_host_number (fast_made s committers delegates core fast table f w)

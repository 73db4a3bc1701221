-- What a call leaves in the arrays that are lent, and what is told of it: that it is taken, why it is refused, or that the fast half has to act.
-- The open and the served reads are what the numbers of their arrays stand for (`reads_in`).
-- Assumes nothing.
use Rattle.std.specs.Prelude.{Bool, true, false, cond, not, ◌&&◌, ◌||◌, List, ◌≡◌, ℕ, eqb, leb, ltb, set, Some, Result, Ok, Err}
use Rattle.arrays.specs.declared.reads.ReadArrays.{ReadArrays}
use Rattle.arrays.specs.Arrays.{core_of, core_numbers}
use Rattle.arrays.specs.declared.Setup.{Setup}
use Rattle.calls.specs.Replies.{sent_reply}
use Rattle.questions.specs.counted.Counting.{setup_majority, round_in, only_counts, with_counted}
use Rattle.direct.specs.handlers.Handled.{put_reply, put_served, CallOutcome, call_number, LeftInArrays, NoHalf, asked_in, put_step, handled_in_arrays, answer_request}
use Rattle.direct.specs.declared.handlers.ReplyInArrays.{ReplyInArrays}
use Rattle.direct.specs.declared.handlers.NotTaken.TheVariants.{Refused, PassedOn}
use Rattle.message.specs.Modes.{has_fast_path, mode_of_number}
use Rattle.message.specs.Outcomes.{Outcome}
use Rattle.message.specs.Rounds.{before}
use Rattle.message.specs.declared.ConsensusMsg.TheVariants.{ReadRequest}
use Rattle.message.specs.declared.Refusal.{Refusal}
use Rattle.propose.specs.Propose.{propose_classic}
use Rattle.read_tracker.specs.Reads.{read_id, open_next, inserted}
use Rattle.read_tracker.specs.declared.Opening.{Opening}
use Rattle.read_tracker.specs.declared.ReadTable.{ReadTable}
use Rattle.read_tracker.specs.declared.ReadTracker.{ReadTracker}
use Rattle.read_tracker.specs.serving.Serving.{receive_ready, serve_at_commit}
use Rattle.read_tracker.specs.declared.serving.Tracked.{Tracked}
use Rattle.steps.specs.Steps.{one_message, sends, to_all}
use Rattle.questions.specs.decided.Refusals.{refusal_of}
use Rattle.flat.specs.Decode.{is_yes, decoded_core, decoded_round}
use Rattle.flat.specs.declared.FlatCall.{FlatCall}
use Rattle.flat.specs.declared.FlatCore.{FlatCore}
use Rattle.flat.specs.declared.FlatMessage.{FlatMessage}

-- ---- the reads of a core

abbrev pub tracker_of : FlatCore → ReadTracker
tracker_of c = record { next_id = c.next_id; open_count = c.open_count }

abbrev pub flat_with_tracker : ReadTracker → FlatCore → FlatCore
flat_with_tracker t c =
    record {
      slot = c.slot;
      last_v = c.last_v;
      slot_left_fast_path = c.slot_left_fast_path;
      round = c.round;
      max_rv = c.max_rv;
      prepared_set = c.prepared_set;
      accepted_set = c.accepted_set;
      next_id = t.next_id;
      open_count = t.open_count;
    }

-- ---- what a call leaves

-- what a call leaves in the arrays that it changes, with what is told of it: the outcome, and to a host its number
pub record ArraysAfter (A Half : Type 0) : Type 0 where
  pub outcome : A
  pub core : List ℕ
  pub half : Half
  pub table : ReadTable
  pub reply : ReplyInArrays

abbrev pub arrays_after : {A : Type 0} → A → List ℕ → ReadTable → ReplyInArrays → ArraysAfter A NoHalf
arrays_after told core table reply = record { outcome = told; core = core; half = tt; table = table; reply = reply }

-- ---- a new read

-- everyone is asked for the read
abbrev pub opened_as : Setup → FlatCore → ReadTable → Opening → ReplyInArrays → ArraysAfter CallOutcome NoHalf
opened_as s c table o w =
    arrays_after (Ok tt) (core_numbers (flat_with_tracker o.tracker c)) (inserted (tracker_of c) table o).table
    (put_reply (sent_reply (one_message (sends (asked_in s) (decoded_core c) to_all (ReadRequest o.read.id)))) w)

-- by whether there is room
unfoldable pub opened_or_refused : Setup → Result Opening Refusal → List ℕ → ReadTable → ReplyInArrays → ArraysAfter CallOutcome NoHalf
opened_or_refused s (Ok o) core table w = opened_as s (core_of core) table o w
opened_or_refused s (Err why) core table w = arrays_after (Err (Refused why)) core table w

-- the own answer counts where nothing is held
abbrev pub start_flat_read : Setup → List ℕ → ReadTable → FlatCall → ReplyInArrays → ArraysAfter CallOutcome NoHalf
start_flat_read s core table f w =
    opened_or_refused s (open_next (tracker_of (core_of core)) f.v f.arrival_slot (eqb (core_of core).max_rv.given 0)) core table w

-- ---- a response, and a commit where reads are open

-- nothing is sent or committed
abbrev pub only_counted : FlatCore → ReplyInArrays → Tracked → ArraysAfter CallOutcome NoHalf
only_counted c w t = arrays_after (Ok tt) (core_numbers (flat_with_tracker t.tracker c)) t.table (put_served t.served_count w)

unfoldable pub count_response : Setup → List ℕ → ReadTable → FlatCall → ReplyInArrays → ArraysAfter CallOutcome NoHalf
count_response s core table f w =
    only_counted (core_of core) w
    (receive_ready (tracker_of (core_of core)) table (read_id f.message.id) (setup_majority s) (core_of core).slot (is_yes f.fast))

-- where no read is open nothing changes
unfoldable pub flat_read_response : Setup → List ℕ → ReadTable → FlatCall → ReplyInArrays → ArraysAfter CallOutcome NoHalf
flat_read_response s core table f w =
    cond (eqb (core_of core).open_count 0) (arrays_after (Ok tt) core table (put_served 0 w)) (count_response s core table f w)

-- what is left where reads are served: of the reply their number alone is written
pub record Serving : Type 0 where
  pub core : List ℕ
  pub table : ReadTable
  pub rest : List ℕ

abbrev pub serving : List ℕ → ReadTable → List ℕ → Serving
serving core table rest = record { core = core; table = table; rest = rest }

abbrev pub served_by : FlatCore → List ℕ → Tracked → Serving
served_by c rest t = serving (core_numbers (flat_with_tracker t.tracker c)) t.table (set rest 4 t.served_count)

unfoldable pub serve_ready : Setup → List ℕ → ReadTable → List ℕ → Serving
serve_ready s core table rest = served_by (core_of core) rest (serve_at_commit (tracker_of (core_of core)) table (setup_majority s) (core_of core).slot)

abbrev pub with_serving : {Half : Type 0} → Half → ReplyInArrays → Serving → ArraysAfter CallOutcome Half
with_serving half w v =
    record {
      outcome = Ok tt;
      core = v.core;
      half = half;
      table = v.table;
      reply = record { outcome = w.outcome; first = w.first; second = w.second; third = w.third; rest = v.rest };
    }

-- by whether reads may be ready, or the call is refused
unfoldable pub served_after : {Half : Type 0} → Setup → ReadTable → Result Bool Refusal → List ℕ → Half → ReplyInArrays → ArraysAfter CallOutcome Half
served_after s table (Ok true) core half w = with_serving half w (serve_ready s core table w.rest)
served_after s table (Ok false) core half w = record { outcome = Ok tt; core = core; half = half; table = table; reply = w }
served_after s table (Err why) core half w = record { outcome = Err (Refused why); core = core; half = half; table = table; reply = w }

-- what is left of a call after the reads that became ready are served
abbrev pub left_after_reads : {Half : Type 0} → Setup → ReadTable → LeftInArrays Half → ArraysAfter CallOutcome Half
left_after_reads s table l = served_after s table l.handled l.core l.half l.reply

-- ---- calls

unfoldable pub is_response : FlatCall → Bool
is_response f = not (eqb f.kind 0) && eqb f.message.kind 6

-- a proposal, a Prepare, an Accept, a ForwardRequest or a Commit
unfoldable pub concerns_slot : FlatCall → Bool
concerns_slot f = eqb f.kind 0 || (leb 1 f.message.kind && leb f.message.kind 4)

-- whether the fast half has a part in the call: in EPaxos and SwiftPaxos, in what concerns a slot and is no new read
unfoldable pub fast_half_acts : Setup → FlatCall → Bool
fast_half_acts s f = not (eqb f.kind 1) && (has_fast_path (mode_of_number s.mode) && concerns_slot f)

-- a Prepare, an Accept or a Commit
unfoldable pub names_slot : ℕ → Bool
names_slot kind = eqb kind 1 || (eqb kind 2 || eqb kind 4)

-- a Commit has no round
unfoldable pub of_older_round : FlatCore → FlatMessage → Bool
of_older_round c m = not (eqb m.kind 4) && before (Some (round_in m)) (decoded_round c.round)

-- of an older slot or round
unfoldable pub is_older_message : FlatCore → FlatMessage → Bool
is_older_message c m = names_slot m.kind && (ltb m.slot c.slot || of_older_round c m)

-- a message in the classic modes
unfoldable pub classic_message : Setup → List ℕ → List ℕ → List ℕ → ReadTable → FlatCall → ReplyInArrays → ArraysAfter CallOutcome NoHalf
classic_message s committers delegates core table f w =
    cond (is_older_message (core_of core) f.message) (arrays_after (Ok tt) core table (put_served 0 w))
    (cond (only_counts s delegates (core_of core) f.message) (arrays_after (Ok tt) (core_numbers (with_counted s (core_of core) f.message)) table (put_served 0 w))
    (left_after_reads s table (handled_in_arrays s committers delegates core f w)))

-- EPaxos and SwiftPaxos are passed on
unfoldable pub slot_call : Setup → List ℕ → List ℕ → List ℕ → ReadTable → FlatCall → ReplyInArrays → ArraysAfter CallOutcome NoHalf
slot_call s committers delegates core table f w =
    cond (has_fast_path (mode_of_number s.mode)) (arrays_after (Err PassedOn) core table w)
    (cond (eqb f.kind 0) (left_after_reads s table (put_step (propose_classic (asked_in s) f.v (decoded_core (core_of core))) core w))
    (classic_message s committers delegates core table f w))

-- a call that is not refused and no new read
unfoldable pub flat_call_taken : Setup → List ℕ → List ℕ → List ℕ → ReadTable → FlatCall → ReplyInArrays → ArraysAfter CallOutcome NoHalf
flat_call_taken s committers delegates core table f w =
    cond (is_response f) (flat_read_response s core table f w)
    (cond (concerns_slot f) (slot_call s committers delegates core table f w) (left_after_reads s table (answer_request s core f.message w)))

-- by the refusal, if there is one
unfoldable pub if_admitted : Setup → List ℕ → List ℕ → Outcome → List ℕ → ReadTable → FlatCall → ReplyInArrays → ArraysAfter CallOutcome NoHalf
if_admitted s committers delegates (Ok tt) core table f w =
    cond (eqb f.kind 1) (start_flat_read s core table f w) (flat_call_taken s committers delegates core table f w)
if_admitted s committers delegates (Err why) core table f w = arrays_after (Err (Refused why)) core table w

-- refusals come first
abbrev pub call_made : Setup → List ℕ → List ℕ → List ℕ → ReadTable → FlatCall → ReplyInArrays → ArraysAfter CallOutcome NoHalf
call_made s committers delegates core table f w = if_admitted s committers delegates (refusal_of s (core_of core) f) core table f w

-- with the number that a host gets
abbrev pub with_host_number : {Half : Type 0} → ArraysAfter CallOutcome Half → ArraysAfter ℕ Half
with_host_number d = record { outcome = call_number d.outcome; core = d.core; half = d.half; table = d.table; reply = d.reply }

unfoldable pub direct_call : Setup → List ℕ → List ℕ → List ℕ → ReadTable → FlatCall → ReplyInArrays → ArraysAfter ℕ NoHalf
direct_call s committers delegates core table f w = with_host_number (call_made s committers delegates core table f w)

-- what is not taken leaves the arrays of the reads as they were, number for number; the equation says that of the others. A clause, since it compares before and
-- after, as no type does.
abbrev pub LeftUnlessTaken : ℕ → ReadArrays → ReadArrays → Type 0
LeftUnlessTaken number a b = (number ≡ 0 → ⊥) → b ≡ a

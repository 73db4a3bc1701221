-- What a direct call leaves stands for what the call makes of the shard that the arrays stood for, or it is passed on and has written nothing.
-- Assumes nothing.
use Rattle.std.specs.Prelude.{None, Some, Result, Ok, Err, is_some}
use Rattle.message.specs.Outcomes.{Outcome}
use mathlib.Core.Bool.{Bool, true, false, cond, not, ◌&&◌, ◌||◌}
use mathlib.Core.List.{List}
use mathlib.Core.Logic.{◌⊎◌, inl, inr}
use mathlib.Core.Path.{◌≡◌, refl, sym, ap, subst, ◌∙◌}
use Prim.Native.Nat.{ℕ, ◌≤◌}
use native.Mathlib.Omega.{arith}
use borrow.Author.Tests.{eqb-true, eqb-false, leb-true}
use lib.Dec.{eqb, leb, ltb}
use Rattle.basics.proofs.Tests.{either, not_both, and_left, and_right, or_cases}
use Rattle.arrays.specs.Arrays.{core_of, core_numbers}
use Rattle.arrays.specs.FastArrays.{fast_state_of}
use Rattle.arrays.specs.declared.Setup.{Setup}
use Rattle.calls.specs.Decision.{decision_for, decision_of}
use Rattle.calls.specs.declared.Call.{Call}
use Rattle.calls.specs.declared.Call.TheVariants.{Propose, StartRead, Receive}
use Rattle.consensus.specs.Answers.{refused, nothing, sent_answer, committed, finish}
use Rattle.consensus.specs.Call.{state_call, in_shard, call_with}
use Rattle.consensus.specs.Handle.{on_commit, on_read_request, on_read_response, after_insert, start_read, proposing, processed, handle_call}
use Rattle.consensus.specs.declared.StateAnswer.{StateAnswer}
use Rattle.calls.specs.Replies.{sent_reply, read_answer}
use Rattle.questions.specs.counted.Counting.{only_counts_accept, only_counts_promise, only_counts, with_counted}
use Rattle.direct.specs.Direct.{ArraysAfter, arrays_after, opened_or_refused, start_flat_read, count_response, flat_read_response, served_after, left_after_reads, is_response, concerns_slot, fast_half_acts, names_slot, of_older_round, is_older_message, classic_message, slot_call, flat_call_taken, if_admitted, call_made, with_host_number, direct_call}
use Rattle.direct.specs.Stands.{Memory, HostAnswer, left_by, Stands, PassedOrMade, DirectStands, by_direct, DirectIsCall}
use Rattle.direct.specs.handlers.CoreAnswers.{core_sends, core_committed, core_on_commit}
use Rattle.direct.specs.handlers.Handled.{CallOutcome, NoHalf, LeftInArrays, left_with, left_refused, put_reply, put_served, put_taken, asked_in, put_step, handled_in_arrays, answer_request}
use Rattle.direct.specs.declared.handlers.ReplyInArrays.{ReplyInArrays}
use Rattle.direct.specs.declared.handlers.NotTaken.TheVariants.{Refused, PassedOn}
use Rattle.steps.specs.enter.Enter.{is_older as enter_older}
use Rattle.fast_state.specs.Adopt.{lowest_best}
use Rattle.fast_state.specs.declared.FastState.{FastState}
use Rattle.message.specs.Modes.{has_fast_path, mode_of_number}
use Rattle.message.specs.declared.ConsensusMsg.{ConsensusMsg}
use Rattle.message.specs.declared.ConsensusMsg.TheVariants.{Prepare, Accept}
use Rattle.message.specs.declared.Refusal.{Refusal}
use Rattle.message.specs.declared.Refusal.TheVariants.{Panic}
use Rattle.propose.specs.Propose.{propose_classic, propose_fast}
use Rattle.read_tracker.specs.Reads.{open_next, insert_opened, insert_read}
use Rattle.read_tracker.specs.declared.Opening.{Opening}
use Rattle.read_tracker.specs.declared.ReadTable.{ReadTable}
use Rattle.paxos_family.specs.Process.{process_classic, process_fast}
use Rattle.paxos_family.proofs.Older.{Older, older_prepare, older_accept}
use Rattle.steps.specs.Steps.{CoreStep, no_messages, one_message, stays, map_step, on_rounds}
use Rattle.questions.specs.decided.Refusals.{refusal_of}
use Rattle.flat.specs.Decode.{is_yes, decoded_call, decoded_core, decoded_held, decoded_promise}
use Rattle.flat.specs.declared.FlatCall.{FlatCall}
use Rattle.flat.specs.declared.FlatHeld.{FlatHeld}
use Rattle.direct.proofs.Reading.{made_by}
use Rattle.direct.proofs.Common.{call_on, other_kind, by_kind, ForRounds, prepare_of_kind, accept_of_kind, forward_of_kind, commit_of_kind, rounds_handle, commit_handled, request_handled, response_handled}
use Rattle.direct.proofs.Counted.{accept_leaves, promise_leaves}
use Rattle.direct.proofs.NoReads.{response_without_reads}
use Rattle.direct.proofs.Proposed.{proposal_uncommitted}
use Rattle.direct.proofs.Steps.{StandsBy, in_memory, ClassicStands, sends_stand, commit_stands, step_stands, proposal_stands}

module _ (m : Memory) (f : FlatCall) (w : ReplyInArrays) where
  open call_on m f use {decoded, settings, shard, called, outcome, delivered, msg, round, source, held, asked, heard, answered}

  -- no field of `CallOn`: `simp` rewrites it
  abbrev kind : ℕ
  kind = f.message.kind

  abbrev s : Setup
  s = m.setup

  abbrev core : List ℕ
  core = m.core

  abbrev table : ReadTable
  table = m.table

  abbrev fast : FastState
  fast = fast_state_of m.fast

  abbrev result : ArraysAfter CallOutcome NoHalf
  result = call_made s m.committers m.delegates core table f w

  abbrev StandsFor : StateAnswer → ArraysAfter CallOutcome NoHalf → Type 0
  StandsFor x d = ClassicStands m w x d

  abbrev Passed : ArraysAfter CallOutcome NoHalf → Type 0
  Passed d = (fast_half_acts s f ≡ true) × (d ≡ arrays_after (Err PassedOn) core table w)

  abbrev Classic : Type 0
  Classic = has_fast_path settings.mode ≡ false

  stands_as : (d : ArraysAfter CallOutcome NoHalf) {x y : StateAnswer} → x ≡ y → StandsFor y d → StandsFor x d
  stands_as d {x} {y} e h = subst (λ (z : StateAnswer). StandsFor z d) (sym e) h

  abbrev does_nothing : ArraysAfter CallOutcome NoHalf
  does_nothing = arrays_after (Ok tt) core table (put_served 0 w)

  nothing_stands : {x : StateAnswer} → x ≡ nothing shard.state → StandsFor x does_nothing
  nothing_stands e = stands_as does_nothing e (refl, refl, refl)

  -- ---- proposals

  abbrev proposal : Result CoreStep Refusal
  proposal = propose_classic asked f.v decoded

  proposed : Classic → StandsFor (answered (Propose f.v)) (left_after_reads s table (put_step (propose_classic (asked_in s) f.v decoded) core w))
  unfolding state_call handle_call proposing
  proposed p =
      stands_as _ (ap (λ (t : Bool). finish shard.state asked true (cond t (propose_fast asked f.v shard.state.rounds) (map_step (on_rounds fast) proposal))) p)
      (proposal_stands m w p proposal (proposal_uncommitted asked f.v decoded))

  -- ---- messages that the rounds handle, and Commits

  steps_to : Classic → {x : ConsensusMsg} → msg ≡ x → ForRounds x → {y : Result CoreStep Refusal} → process_classic asked heard x decoded ≡ y
      → answered (Receive delivered) ≡ finish shard.state asked held (map_step (on_rounds fast) y)
  unfolding processed
  steps_to p {x} e t {y} g =
      rounds_handle m f e t
      ∙ ap (λ (b : Bool). finish shard.state asked held (cond b (process_fast lowest_best asked heard x shard.state.rounds) (map_step (on_rounds fast) (process_classic asked heard x decoded)))) p
      ∙ ap (λ (r : Result CoreStep Refusal). finish shard.state asked held (map_step (on_rounds fast) r)) g

  abbrev StandsHandled : Type 0
  StandsHandled = StandsFor (answered (Receive delivered)) (left_after_reads s table (handled_in_arrays s m.committers m.delegates core f w))

  handled_as : {l : LeftInArrays NoHalf} → handled_in_arrays s m.committers m.delegates core f w ≡ l → StandsFor (answered (Receive delivered)) (left_after_reads s table l) → StandsHandled
  handled_as e h = subst (λ (l : LeftInArrays NoHalf). StandsFor (answered (Receive delivered)) (left_after_reads s table l)) (sym e) h

  step_handled : Classic → {x : ConsensusMsg} → msg ≡ x → ForRounds x → eqb kind 4 ≡ false → StandsHandled
  unfolding handled_in_arrays
  step_handled p e t k4 =
      handled_as (simp (k4))
      (stands_as _ (steps_to p e t (sym (ap (λ (y : ConsensusMsg). process_classic asked heard y decoded) e)))
      (step_stands m w p held (process_classic asked heard msg decoded)))

  commit_stands_lem : Classic → StandsFor (on_commit shard.state asked f.message.slot f.message.v)
      (left_after_reads s table (put_taken (core_on_commit asked f.message.slot f.message.v decoded) w))
  unfolding on_commit core_on_commit served_after
  commit_stands_lem p = go (ltb f.message.slot decoded.slot)
    where
      go : (t : Bool) → StandsFor (cond t (nothing shard.state) (committed shard.state asked f.message.v shard.state.rounds no_messages))
          (left_after_reads s table (put_taken (cond t (core_sends decoded no_messages) (core_committed asked f.message.v decoded no_messages)) w))
      go true = sends_stand m NoHalf (λ (h : NoHalf). m.fast) tt w decoded fast no_messages tt refl
      go false = commit_stands m w p f.message.v decoded no_messages

  own_commit : Classic → eqb kind 1 ≡ false → eqb kind 2 ≡ false → eqb kind 3 ≡ false → eqb kind 4 ≡ true → StandsHandled
  unfolding handled_in_arrays
  own_commit p k1 k2 k3 k4 = handled_as (simp (k4)) (stands_as _ (commit_handled m f (commit_of_kind m f k1 k2 k3 k4)) (commit_stands_lem p))

  -- ---- messages of an older slot or round

  abbrev is_before : Type 0
  is_before = (ltb f.message.slot decoded.slot ≡ true) ⊎ (of_older_round (core_of core) f.message ≡ true)

  by_round : is_before → Older f.message.slot round decoded
  unfolding of_older_round
  by_round (inl o) = inl o
  by_round (inr o) = inr (and_right (not (eqb kind 4)) _ o)

  no_commit : eqb kind 4 ≡ true → of_older_round (core_of core) f.message ≡ true → ⊥
  unfolding of_older_round
  no_commit k4 o = not_both (and_left (not (eqb kind 4)) _ o) (ap not k4)

  older_answer : is_before → Classic → names_slot kind ≡ true → answered (Receive delivered) ≡ nothing shard.state
  unfolding on_commit names_slot
  older_answer o p n = go (either (eqb kind 1)) (either (eqb kind 2))
    where
      commit : eqb kind 1 ≡ false → eqb kind 2 ≡ false → eqb kind 4 ≡ true → is_before → answered (Receive delivered) ≡ nothing shard.state
      commit k1 k2 k4 (inl o) = commit_handled m f (commit_of_kind m f k1 k2 (other_kind kind 4 3 k4 refl) k4) ∙ simp (o)
      commit k1 k2 k4 (inr o) = absurd (no_commit k4 o)

      go : (eqb kind 1 ≡ true) ⊎ (eqb kind 1 ≡ false) → (eqb kind 2 ≡ true) ⊎ (eqb kind 2 ≡ false) → answered (Receive delivered) ≡ nothing shard.state
      go (inl k1) k2 = steps_to p (prepare_of_kind m f k1) tt (older_prepare asked heard f.message.slot round (decoded_promise f.message.rv) decoded (by_round o))
      go (inr k1) (inl k2) = steps_to p (accept_of_kind m f k1 k2) tt (older_accept asked heard f.message.slot round f.message.v decoded (by_round o))
      go (inr k1) (inr k2) = commit k1 k2 (sym (simp (k1, k2)) ∙ n) o

  older_stands : is_older_message (core_of core) f.message ≡ true → Classic → StandsFor (answered (Receive delivered)) does_nothing
  unfolding is_older_message
  older_stands o p =
      nothing_stands
      (older_answer (or_cases (ltb f.message.slot decoded.slot) _ (and_right (names_slot kind) _ o)) p (and_left (names_slot kind) _ o))

  -- ---- messages that are only counted

  -- what is not old is not old to the handlers
  not_older : names_slot kind ≡ true → eqb kind 4 ≡ false → is_older_message (core_of core) f.message ≡ false → enter_older f.message.slot round decoded ≡ false
  unfolding is_older_message of_older_round enter_older
  not_older n k4 o = sym (simp (n, k4)) ∙ o

  abbrev counted_core : List ℕ
  counted_core = core_numbers (with_counted s (core_of core) f.message)

  abbrev counted_step : Result CoreStep Refusal
  counted_step = Ok (stays (decoded_core (with_counted s (core_of core) f.message)) no_messages)

  counted_answer : Classic → is_older_message (core_of core) f.message ≡ false → only_counts s m.delegates (core_of core) f.message ≡ true
      → answered (Receive delivered) ≡ finish shard.state asked held (map_step (on_rounds fast) counted_step)
  unfolding names_slot only_counts with_counted
  counted_answer p o n = go (either (eqb kind 2))
    where
      accept : eqb kind 2 ≡ true → eqb kind 1 ≡ false → eqb kind 4 ≡ false
          → answered (Receive delivered) ≡ finish shard.state asked held (map_step (on_rounds fast) counted_step)
      accept k2 k1 k4 =
          let e : only_counts_accept s (core_of core) f.message ≡ true = sym (simp (k2)) ∙ n in
          let names : names_slot kind ≡ true = simp (k1, k2) in
          let step : process_classic asked heard (Accept f.message.slot round f.message.v) decoded ≡ counted_step =
          accept_leaves s m.committers m.delegates (core_of core) f p (not_older names k4 o) k2 e ∙ simp (k2)
          in
          steps_to p (accept_of_kind m f k1 k2) tt step

      promise : eqb kind 1 ≡ true → eqb kind 2 ≡ false → eqb kind 4 ≡ false → only_counts_promise s m.delegates (core_of core) f.message ≡ true
          → answered (Receive delivered) ≡ finish shard.state asked held (map_step (on_rounds fast) counted_step)
      promise k1 k2 k4 e =
          let names : names_slot kind ≡ true = simp (k1) in
          let step : process_classic asked heard (Prepare f.message.slot round (decoded_promise f.message.rv)) decoded ≡ counted_step =
          promise_leaves s m.committers m.delegates (core_of core) f (not_older names k4 o) k1 e ∙ simp (k2)
          in
          steps_to p (prepare_of_kind m f k1) tt step

      go : (eqb kind 2 ≡ true) ⊎ (eqb kind 2 ≡ false) → answered (Receive delivered) ≡ finish shard.state asked held (map_step (on_rounds fast) counted_step)
      go (inl k2) = accept k2 (other_kind kind 2 1 k2 refl) (other_kind kind 2 4 k2 refl)
      go (inr k2) =
          let both : (eqb kind 1 && only_counts_promise s m.delegates (core_of core) f.message) ≡ true = sym (simp (k2)) ∙ n in
          let k1 : eqb kind 1 ≡ true = and_left (eqb kind 1) _ both in
          promise k1 k2 (other_kind kind 1 4 k1 refl) (and_right (eqb kind 1) _ both)

  counted_stands : Classic → is_older_message (core_of core) f.message ≡ false → only_counts s m.delegates (core_of core) f.message ≡ true
      → StandsFor (answered (Receive delivered)) (arrays_after (Ok tt) counted_core table (put_served 0 w))
  counted_stands p o n = stands_as _ (counted_answer p o n) (refl, refl, refl)

  -- ---- reads

  -- a ReadRequest, in every mode
  requests : StandsFor (on_read_request shard.state asked source (record { 0 = f.message.id })) (left_after_reads s table (answer_request s core f.message w))
  unfolding on_read_request answer_request served_after
  requests = go (eqb source s.my_pid)
    where
      go : (t : Bool) → StandsFor (cond t (refused Panic shard.state) (sent_answer shard.state (one_message (read_answer s.my_pid source (record { 0 = f.message.id }) decoded))))
          (left_after_reads s table
          (cond t (left_refused Panic core w)
          (left_with (Ok false) core (put_reply (sent_reply (one_message (read_answer s.my_pid source (record { 0 = f.message.id }) decoded))) w))))
      go true = refl
      go false = (refl, refl, refl)

  response_counted : StandsFor (on_read_response shard.state asked (record { 0 = f.message.id }) (is_yes f.fast)) (count_response s core table f w)
  unfolding on_read_response count_response
  response_counted = (refl, refl, refl)

  -- a response, by whether a read is open
  responses : StandsFor (on_read_response shard.state asked (record { 0 = f.message.id }) (is_yes f.fast)) (flat_read_response s core table f w)
  unfolding flat_read_response
  responses = go (eqb decoded.tracker.open_count 0) refl
    where
      go : (t : Bool) → eqb decoded.tracker.open_count 0 ≡ t
          → StandsFor (on_read_response shard.state asked (record { 0 = f.message.id }) (is_yes f.fast)) (cond t does_nothing (count_response s core table f w))
      go true o = nothing_stands (sym (response_without_reads shard.state asked (record { 0 = f.message.id }) (is_yes f.fast) (eqb-true decoded.tracker.open_count 0 o)))
      go false o = response_counted

  -- nothing is held
  local : (h : FlatHeld) → not (is_some (decoded_held h)) ≡ eqb h.given 0
  unfolding decoded_held
  local h = go (eqb h.given 0)
    where
      go : (t : Bool) → not (is_some (cond t None (Some (decoded_promise h.promise)))) ≡ t
      go true = refl
      go false = refl

  abbrev asks : Call
  asks = StartRead f.v f.arrival_slot

  opens : (o : Result Opening Refusal) → StandsFor (after_insert shard.state asked (insert_opened decoded.tracker table o)) (opened_or_refused s o core table w)
  unfolding opened_or_refused
  opens (Err why) = refl
  opens (Ok o) = (refl, refl, refl)

  read_stands : StandsFor (answered asks) (start_flat_read s core table f w)
  unfolding state_call handle_call start_read insert_read
  read_stands =
      stands_as _
      (ap (λ (t : Bool). after_insert shard.state asked (insert_opened decoded.tracker table (open_next decoded.tracker f.v f.arrival_slot t)))
      (local (core_of core).max_rv))
      (opens (open_next decoded.tracker f.v f.arrival_slot (eqb (core_of core).max_rv.given 0)))

  -- ---- together

  abbrev Done? : Type 0
  Done? = Passed result ⊎ StandsFor (answered called) result

  done_as : (c : Call) (d : ArraysAfter CallOutcome NoHalf) → called ≡ c → result ≡ d → StandsFor (answered c) d → Done?
  done_as c d p e h =
      inr (subst (λ (x : Call). StandsFor (answered x) result) (sym p)
      (subst (λ (x : ArraysAfter CallOutcome NoHalf). StandsFor (answered c) x) (sym e) h))

  module _ (z : refusal_of s (core_of core) f ≡ Ok tt) where
    read_is : eqb f.kind 1 ≡ true → result ≡ start_flat_read s core table f w
    unfolding if_admitted
    read_is k = simp (z, k)

    read : eqb f.kind 1 ≡ true → Done?
    unfolding decoded_call
    read k =
        let k0 : eqb f.kind 0 ≡ false = other_kind f.kind 1 0 k refl in
        done_as asks (start_flat_read s core table f w) (simp (k0, k)) (read_is k) read_stands

    module _ (k : eqb f.kind 1 ≡ false) where
      taken_is : result ≡ flat_call_taken s m.committers m.delegates core table f w
      unfolding if_admitted
      taken_is = simp (z, k)

      module _ (r : is_response f ≡ false) (p : concerns_slot f ≡ true) where
        passed : has_fast_path (mode_of_number s.mode) ≡ true → Done?
        unfolding flat_call_taken slot_call fast_half_acts
        passed h = inl (simp (k, h, p), taken_is ∙ simp (r, p, h))

        proposal_is : has_fast_path (mode_of_number s.mode) ≡ false → eqb f.kind 0 ≡ true
            → result ≡ left_after_reads s table (put_step (propose_classic (asked_in s) f.v decoded) core w)
        unfolding flat_call_taken slot_call
        proposal_is h k0 = taken_is ∙ simp (r, p, h, k0)

        module _ (h : has_fast_path (mode_of_number s.mode) ≡ false) (k0 : eqb f.kind 0 ≡ false) where
          older_is : is_older_message (core_of core) f.message ≡ true → result ≡ does_nothing
          unfolding flat_call_taken slot_call classic_message
          older_is o = taken_is ∙ simp (r, p, h, k0, o)

          counted_is : is_older_message (core_of core) f.message ≡ false → only_counts s m.delegates (core_of core) f.message ≡ true
              → result ≡ arrays_after (Ok tt) counted_core table (put_served 0 w)
          unfolding flat_call_taken slot_call classic_message
          counted_is o n = taken_is ∙ simp (r, p, h, k0, o, n)

          served_is : is_older_message (core_of core) f.message ≡ false → only_counts s m.delegates (core_of core) f.message ≡ false
              → result ≡ left_after_reads s table (handled_in_arrays s m.committers m.delegates core f w)
          unfolding flat_call_taken slot_call classic_message
          served_is o n = taken_is ∙ simp (r, p, h, k0, o, n)

      request_is : is_response f ≡ false → concerns_slot f ≡ false → result ≡ left_after_reads s table (answer_request s core f.message w)
      unfolding flat_call_taken
      request_is r p = taken_is ∙ simp (r, p)

      proposal_done : eqb f.kind 0 ≡ true → Done?
      unfolding is_response concerns_slot decoded_call
      proposal_done k0 = go (either (has_fast_path (mode_of_number s.mode)))
        where
          go : (has_fast_path (mode_of_number s.mode) ≡ true) ⊎ (has_fast_path (mode_of_number s.mode) ≡ false) → Done?
          go (inl h) = passed (simp (k0)) (simp (k0)) h
          go (inr h) = done_as (Propose f.v) _ (simp (k0)) (proposal_is (simp (k0)) (simp (k0)) h k0) (proposed h)

      module _ (k0 : eqb f.kind 0 ≡ false) where
        received : called ≡ Receive delivered
        unfolding decoded_call
        received = simp (k0, k)

        as_response : eqb kind 1 ≡ false → eqb kind 2 ≡ false → eqb kind 3 ≡ false → eqb kind 4 ≡ false → eqb kind 6 ≡ true → Done?
        unfolding is_response flat_call_taken
        as_response k1 k2 k3 k4 k6 = done_as (Receive delivered) _ received (taken_is ∙ simp (k0, k6)) (stands_as _ (response_handled m f k1 k2 k3 k4 k6) responses)

        no_response : eqb kind 6 ≡ false → is_response f ≡ false
        unfolding is_response
        no_response k6 = simp (k0, k6)

        -- in the classic modes what is old does nothing, and what is only counted changes a set
        in_classic : is_response f ≡ false → concerns_slot f ≡ true → has_fast_path (mode_of_number s.mode) ≡ false → StandsHandled → Done?
        in_classic r p h stands = go (either (is_older_message (core_of core) f.message)) (either (only_counts s m.delegates (core_of core) f.message))
          where
            go : (is_older_message (core_of core) f.message ≡ true) ⊎ (is_older_message (core_of core) f.message ≡ false)
                → (only_counts s m.delegates (core_of core) f.message ≡ true) ⊎ (only_counts s m.delegates (core_of core) f.message ≡ false) → Done?
            go (inl o) n = done_as (Receive delivered) _ received (older_is r p h k0 o) (older_stands o h)
            go (inr o) (inl n) = done_as (Receive delivered) _ received (counted_is r p h k0 o n) (counted_stands h o n)
            go (inr o) (inr n) = done_as (Receive delivered) _ received (served_is r p h k0 o n) stands

        concerns_slot_lem : leb 1 kind ≡ true → leb kind 4 ≡ true → concerns_slot f ≡ true
        unfolding concerns_slot
        concerns_slot_lem l u = simp (k0, l, u)

        -- a kind n from 1 to 4 has the other tests decided
        named : (n : ℕ) → eqb kind n ≡ true → leb 1 n ≡ true → leb n 4 ≡ true → eqb n 6 ≡ false → (Classic → StandsHandled) → Done?
        named n e l u six handles =
            let same : kind ≡ n = eqb-true kind n e in
            go (no_response (ap (λ (x : ℕ). eqb x 6) same ∙ six)) (concerns_slot_lem (ap (leb 1) same ∙ l) (ap (λ (x : ℕ). leb x 4) same ∙ u))
            (either (has_fast_path (mode_of_number s.mode)))
          where
            go : is_response f ≡ false → concerns_slot f ≡ true → (has_fast_path (mode_of_number s.mode) ≡ true) ⊎ (has_fast_path (mode_of_number s.mode) ≡ false) → Done?
            go r p (inl h) = passed r p h
            go r p (inr h) = in_classic r p h (handles h)

        other : eqb kind 1 ≡ false → eqb kind 2 ≡ false → eqb kind 3 ≡ false → eqb kind 4 ≡ false → eqb kind 6 ≡ false → Done?
        unfolding concerns_slot
        other k1 k2 k3 k4 k6 =
            done_as (Receive delivered) _ received (request_is (no_response k6) (go (either (leb 1 kind)) (either (leb kind 4))))
            (stands_as _ (request_handled m f k1 k2 k3 k4 k6) requests)
          where
            outside : 1 ≤ kind → kind ≤ 4 → ⊥
            outside a b = omega (arith, a, b, eqb-false kind 1 k1, eqb-false kind 2 k2, eqb-false kind 3 k3, eqb-false kind 4 k4)

            go : (leb 1 kind ≡ true) ⊎ (leb 1 kind ≡ false) → (leb kind 4 ≡ true) ⊎ (leb kind 4 ≡ false) → (eqb f.kind 0 || (leb 1 kind && leb kind 4)) ≡ false
            go (inl a) (inl b) = absurd (outside (leb-true 1 kind a) (leb-true kind 4 b))
            go (inl a) (inr b) = simp (k0, a, b)
            go (inr a) b = simp (k0, a)

        message : Done?
        message =
            by_kind Done? kind
            (λ k1. named 1 k1 refl refl refl (λ h. step_handled h (prepare_of_kind m f k1) tt (other_kind kind 1 4 k1 refl)))
            (λ k1 k2. named 2 k2 refl refl refl (λ h. step_handled h (accept_of_kind m f k1 k2) tt (other_kind kind 2 4 k2 refl)))
            (λ k1 k2 k3. named 3 k3 refl refl refl (λ h. step_handled h (forward_of_kind m f k1 k2 k3) tt (other_kind kind 3 4 k3 refl)))
            (λ k1 k2 k3 k4. named 4 k4 refl refl refl (λ h. own_commit h k1 k2 k3 k4))
            (λ k1 k2 k3 k4. read_message k1 k2 k3 k4 (either (eqb kind 6)))
          where
            read_message : eqb kind 1 ≡ false → eqb kind 2 ≡ false → eqb kind 3 ≡ false → eqb kind 4 ≡ false → (eqb kind 6 ≡ true) ⊎ (eqb kind 6 ≡ false) → Done?
            read_message k1 k2 k3 k4 (inl k6) = as_response k1 k2 k3 k4 k6
            read_message k1 k2 k3 k4 (inr k6) = other k1 k2 k3 k4 k6

    taken_call : Done?
    taken_call = new (either (eqb f.kind 1))
      where
        other_call : eqb f.kind 1 ≡ false → (eqb f.kind 0 ≡ true) ⊎ (eqb f.kind 0 ≡ false) → Done?
        other_call k (inl k0) = proposal_done k k0
        other_call k (inr k0) = message k k0

        new : (eqb f.kind 1 ≡ true) ⊎ (eqb f.kind 1 ≡ false) → Done?
        new (inl k) = read k
        new (inr k) = other_call k (either (eqb f.kind 0))

  refused_is : (why : Refusal) → outcome ≡ Err why → result ≡ arrays_after (Err (Refused why)) core table w
  unfolding if_admitted
  refused_is why e = simp (e)

  decided : (o : Outcome) → outcome ≡ o → Passed result ⊎ StandsFor (state_call lowest_best shard.state (decision_for settings called o)) result
  unfolding state_call
  decided (Ok tt) e = taken_call e
  decided (Err why) e = inr (refused_is why e)

  abbrev host : ArraysAfter CallOutcome NoHalf → HostAnswer
  host d = left_by m m.fast (with_host_number d)

  together : (x : StateAnswer) (o : Outcome) → StandsBy m NoHalf (λ (h : NoHalf). m.fast) tt w x o result → Stands m w (in_shard shard x) o (host result)
  together x (Ok tt) h = in_memory m NoHalf (λ (h : NoHalf). m.fast) tt w x result h
  together x (Err why) e = ap host e

  claimed : PassedOrMade m f w (by_direct m f w)
  unfolding decision_of direct_call call_with
  claimed = go (decided outcome refl)
    where
      x : StateAnswer
      x = state_call lowest_best shard.state (decision_for settings called outcome)

      go : Passed result ⊎ StandsFor x result → PassedOrMade m f w (host result)
      go (inl p) = inl (p.0, ap host p.1)
      go (inr h) = inr (made_by m f w (host result) (together x x.reply.outcome h))

pub direct_is_call : DirectIsCall
direct_is_call m f w = claimed m f w

-- so what equals it meets the contract of `chanbook_direct_call`
pub direct_stands : (m : Memory) (f : FlatCall) (w : ReplyInArrays) (x : HostAnswer) → x ≡ by_direct m f w → DirectStands m f w x
unfolding DirectStands
direct_stands m f w x e = subst (PassedOrMade m f w) (sym e) (direct_is_call m f w)

-- What a call in EPaxos or SwiftPaxos leaves stands for what the call makes of the shard that the arrays stood for; and every call is made by one of the two
-- functions.
-- Assumes nothing.
use Rattle.std.specs.Prelude.{Some, Result, Ok, Err}
use Rattle.std.proofs.Math.Bool.{or-false}
use Rattle.message.specs.Outcomes.{Outcome}
use mathlib.Core.Bool.{Bool, true, false, cond, not, ◌&&◌, ◌||◌}
use mathlib.Core.Logic.{◌⊎◌, inl, inr}
use mathlib.Core.Path.{◌≡◌, refl, sym, ap, subst, ◌∙◌}
use Prim.Native.Nat.{ℕ}
use native.Mathlib.Omega.{arith}
use borrow.Author.Tests.{eqb-false, leb-true}
use lib.Dec.{eqb, leb, ltb}
use Rattle.basics.proofs.Tests.{either, not_both, fails, and_left, and_right}
use Rattle.arrays.specs.Arrays.{core_of}
use Rattle.arrays.specs.FastArrays.{fast_state_of}
use Rattle.arrays.specs.declared.FastArrays.{FastArrays}
use Rattle.calls.specs.Decision.{decision_for, decision_of}
use Rattle.calls.specs.declared.Call.{Call}
use Rattle.calls.specs.declared.Call.TheVariants.{Propose, Receive}
use Rattle.consensus.specs.Answers.{nothing, committed, finish_at, finish}
use Rattle.consensus.specs.Call.{state_call, in_shard, call_with}
use Rattle.consensus.specs.Handle.{on_commit, proposing, processed, handle_call}
use Rattle.consensus.specs.declared.Answer.{Answer}
use Rattle.consensus.specs.declared.StateAnswer.{StateAnswer}
use Rattle.direct.specs.Direct.{ArraysAfter, served_after, left_after_reads, with_host_number, concerns_slot, fast_half_acts, names_slot, of_older_round, is_older_message}
use Rattle.direct.specs.Stands.{Memory, HostAnswer, left_by, unwritten, Stands, answer_to, CallIsMade, PassedOrMade, by_direct}
use Rattle.direct.proofs.Calls.{direct_is_call}
use Rattle.direct.proofs.Reading.{made_by}
use Rattle.direct.proofs.Common.{call_on, not_passed_on, other_kind, by_kind, ForRounds, prepare_of_kind, accept_of_kind, forward_of_kind, commit_of_kind, rounds_handle, commit_handled}
use Rattle.direct.proofs.Steps.{rounds_with, StandsBy, StandsFor, in_memory, sends_stand, commits_stand}
use Rattle.direct.specs.handlers.CoreAnswers.{core_committed}
use Rattle.direct.specs.handlers.Handled.{CallOutcome, passed_on, put_served}
use Rattle.direct.specs.declared.handlers.ReplyInArrays.{ReplyInArrays}
use Rattle.direct.specs.declared.handlers.NotTaken.TheVariants.{Refused}
use Rattle.direct_fast.specs.DirectFast.{fast_step, holds_value, half_answer, put_answered, fast_direct, is_old, fast_handled, fast_unless_refused, fast_made, fast_call}
use Rattle.direct_fast.specs.FastStands.{MadeOrDeclined, FastStands, by_fast, OneOfBoth, DeclinedIsDirect, ClassicIsDirect}
use Rattle.direct_fast.specs.half.FastArrays.{answers_in, put_change, put_after}
use Rattle.direct_fast.specs.finish.FastCall.{answers_with, fast_finish_at, fast_finish}
use Rattle.direct_fast.specs.declared.finish.After.{After}
use Rattle.direct_fast.specs.declared.finish.After.TheVariants.{Changed, Cleared}
use Rattle.direct_fast.specs.declared.finish.HalfAnswer.{HalfAnswer}
use Rattle.fast_state.specs.Adopt.{lowest_best}
use Rattle.fast_state.specs.Fast.{changed, no_answers}
use Rattle.fast_state.specs.declared.FastState.{FastState}
use Rattle.message.specs.Modes.{has_fast_path, mode_of_number}
use Rattle.message.specs.Rounds.{before}
use Rattle.message.specs.declared.ConsensusMsg.{ConsensusMsg}
use Rattle.message.specs.declared.ConsensusMsg.TheVariants.{Commit}
use Rattle.message.specs.declared.Refusal.{Refusal}
use Rattle.paxos_family.proofs.Older.{Older, older_fast_prepare, older_fast_accept}
use Rattle.paxos_family.specs.Commit.{commit_slot, next_slot}
use Rattle.paxos_family.specs.Process.{process_classic, process_change, process_fast}
use Rattle.propose.specs.Propose.{propose_change, propose_classic, propose_fast}
use Rattle.steps.specs.Steps.{RoundsStep, no_messages, stays, map_step, on_rounds, change_rounds}
use Rattle.steps.specs.declared.ChangeStep.{ChangeStep}
use Rattle.steps.specs.declared.Core.{Core}
use Rattle.steps.specs.declared.SentMessages.{SentMessages}
use Rattle.steps.specs.declared.Next.{Next}
use Rattle.steps.specs.declared.Next.TheVariants.{Stays, Continues, Commits}
use Rattle.steps.specs.declared.Rounds.{Rounds}
use Rattle.questions.specs.decided.Refusals.{refusal_of}
use Rattle.flat.proofs.Encoded.{value_encoded}
use Rattle.flat.specs.Decode.{decoded_call, decoded_option, decoded_promise}
use Rattle.flat.specs.declared.FlatCall.{FlatCall}

module _ (m : Memory) (f : FlatCall) (w : ReplyInArrays) where
  open call_on m f use {decoded, settings, shard, called, outcome, delivered, msg, round, held, asked, heard, answered}

  -- no field of `CallOn`: `simp` rewrites it
  abbrev kind : ℕ
  kind = f.message.kind

  abbrev half : FastState
  half = fast_state_of m.fast

  abbrev rounds : Rounds
  rounds = shard.state.rounds

  -- the fast half stands for itself
  abbrev itself : FastArrays → FastArrays
  itself h = h

  abbrev Stood : StateAnswer → ArraysAfter CallOutcome FastArrays → Type 0
  Stood x d = StandsFor m FastArrays itself m.fast w x d

  stands_as : (d : ArraysAfter CallOutcome FastArrays) {x y : StateAnswer} → x ≡ y → Stood y d → Stood x d
  stands_as d {x} {y} e h = subst (λ (z : StateAnswer). Stood z d) (sym e) h

  abbrev does_nothing : ArraysAfter CallOutcome FastArrays
  does_nothing = fast_direct (Ok tt) m.core m.fast m.table (put_served 0 w)

  nothing_stands : {x : StateAnswer} → x ≡ nothing shard.state → Stood x does_nothing
  nothing_stands e = stands_as does_nothing e (refl, refl, refl)

  -- ---- the fast half afterwards

  abbrev half_after : After → FastState
  half_after (Changed c) = changed c half
  half_after Cleared = no_answers

  -- what is written stands for it
  half_written : (after : After) → fast_state_of (put_after after m.fast) ≡ half_after after
  unfolding decoded_option
  half_written (Changed c) = simp (value_encoded c.answers.swift_leader_answer)
  half_written Cleared = refl

  -- the answer, from the step
  abbrev answer : Result HalfAnswer Refusal
  answer = half_answer m.setup m.committers m.delegates decoded m.fast f

  abbrev leaves_of : Result HalfAnswer Refusal → ArraysAfter CallOutcome FastArrays
  leaves_of x = left_after_reads m.setup m.table (put_answered x m.core m.fast w)

  answers_by : (x : StateAnswer) {y : Result HalfAnswer Refusal} → answer ≡ y → Stood x (leaves_of y) → Stood x (leaves_of answer)
  answers_by x {y} e h = subst (λ (z : Result HalfAnswer Refusal). Stood x (leaves_of z)) (sym e) h

  -- ---- a mode with a fast path

  module _ (p : has_fast_path settings.mode ≡ true) where
    cleared : (v : ℕ) (s : Core) (fast : FastState) → half_after Cleared ≡ (next_slot asked v (rounds_with s fast)).fast
    unfolding commit_slot
    cleared v s fast = sym (ap (λ (t : Bool). cond t no_answers fast) p)

    commit_stands : (v : ℕ) (s : Core) (fast : FastState) (ms : SentMessages)
        → Stood (committed shard.state asked v (rounds_with s fast) ms) (leaves_of (Ok (answers_with (core_committed asked v s ms) Cleared)))
    unfolding core_committed put_answered
    commit_stands v s fast ms =
        commits_stand m FastArrays itself m.fast w v s fast ms (put_after Cleared m.fast) (half_written Cleared ∙ cleared v s fast)
        (ltb 0 s.tracker.open_count) refl

    step_stands : (t : Bool) (step : Result ChangeStep Refusal)
        → Stood (finish shard.state asked t (map_step (change_rounds half) step)) (leaves_of (fast_finish asked t step))
    unfolding put_answered served_after
    step_stands t (Err why) = refl
    step_stands t (Ok step) = at t step.next
      where
        at : (t : Bool) (next : Next)
            → Stood (finish_at shard.state asked t (rounds_with step.core (changed step.change half)) step.messages next)
            (leaves_of (fast_finish_at asked t step.core step.messages step.change next))
        at t Stays = sends_stand m FastArrays itself m.fast w step.core (changed step.change half) step.messages (put_change step.change m.fast) (half_written (Changed step.change))
        at t Continues = sends_stand m FastArrays itself m.fast w step.core (changed step.change half) step.messages (put_change step.change m.fast) (half_written (Changed step.change))
        at true (Commits v) = commit_stands v step.core (changed step.change half) step.messages
        at false (Commits v) = refl

    -- ---- proposals

    proposed : eqb f.kind 0 ≡ true → Stood (answered (Propose f.v)) (leaves_of answer)
    unfolding half_answer fast_step holds_value state_call handle_call proposing propose_fast
    proposed k =
        answers_by _ (simp (k))
        (stands_as _
        (ap (λ (t : Bool). finish shard.state asked true (cond t (map_step (change_rounds half) step) (map_step (on_rounds half) (propose_classic asked f.v decoded)))) p)
        (step_stands true step))
      where
        step : Result ChangeStep Refusal
        step = propose_change asked f.v decoded (answers_in m.fast.answers) m.fast.epaxos m.fast.swift

    -- ---- messages

    steps_to : {x : ConsensusMsg} → msg ≡ x → ForRounds x → {y : Result RoundsStep Refusal} → process_fast lowest_best asked heard x rounds ≡ y
        → answered (Receive delivered) ≡ finish shard.state asked held y
    unfolding processed
    steps_to {x} e t {y} g =
        rounds_handle m f e t
        ∙ ap (λ (b : Bool). finish shard.state asked held (cond b (process_fast lowest_best asked heard x rounds) (map_step (on_rounds half) (process_classic asked heard x decoded)))) p
        ∙ ap (finish shard.state asked held) g

    abbrev step_of : Result ChangeStep Refusal
    step_of = process_change lowest_best asked heard msg decoded (answers_in m.fast.answers) m.fast.values m.fast.epaxos m.fast.swift

    step_handled : eqb f.kind 0 ≡ false → eqb kind 4 ≡ false → {x : ConsensusMsg} → msg ≡ x → ForRounds x → Stood (answered (Receive delivered)) (leaves_of answer)
    unfolding half_answer fast_step holds_value process_fast
    step_handled k k4 e t =
        answers_by _ (simp (k, k4))
        (stands_as _ (steps_to e t (sym (ap (λ (y : ConsensusMsg). process_fast lowest_best asked heard y rounds) e))) (step_stands held step_of))

    -- a Commit of the own slot
    own_commit : eqb f.kind 0 ≡ false → eqb kind 4 ≡ true → msg ≡ Commit f.message.slot f.message.v → ltb f.message.slot decoded.slot ≡ false
        → Stood (answered (Receive delivered)) (leaves_of answer)
    unfolding half_answer fast_step holds_value on_commit
    own_commit k k4 e o =
        answers_by _ (simp (k, k4)) (stands_as _ (commit_handled m f e ∙ simp (o)) (commit_stands f.message.v decoded half no_messages))

    -- ---- messages of an older slot

    -- the rounds do nothing
    idle : {x : ConsensusMsg} → msg ≡ x → ForRounds x → process_fast lowest_best asked heard x rounds ≡ Ok (on_rounds half (stays decoded no_messages))
        → Stood (answered (Receive delivered)) does_nothing
    idle e t o = nothing_stands (steps_to e t o)

    idle_commit : msg ≡ Commit f.message.slot f.message.v → ltb f.message.slot decoded.slot ≡ true → Stood (answered (Receive delivered)) does_nothing
    unfolding on_commit
    idle_commit e o = nothing_stands (commit_handled m f e ∙ simp (o))

    -- ---- by the kind of the message

    abbrev is_before : Bool
    is_before = ltb f.message.slot decoded.slot

    abbrev handled_as : Bool → ArraysAfter CallOutcome FastArrays
    handled_as older = cond older does_nothing (leaves_of answer)

    module _ (k : eqb f.kind 0 ≡ false) where
      abbrev Handled : Type 0
      Handled = Stood (answered (Receive delivered)) (handled_as (is_old (core_of m.core) f))

      by_age : {old : Bool} → is_old (core_of m.core) f ≡ old
          → (old ≡ true → Stood (answered (Receive delivered)) does_nothing) → (old ≡ false → Stood (answered (Receive delivered)) (leaves_of answer))
          → Handled
      by_age {old} e older own = subst (λ (t : Bool). Stood (answered (Receive delivered)) (handled_as t)) (sym e) (go old refl)
        where
          go : (t : Bool) → old ≡ t → Stood (answered (Receive delivered)) (handled_as t)
          go true o = older o
          go false o = own o

      abbrev before_round : Bool
      before_round = before (Some round) decoded.paxos.round

      -- of an older slot, or of an older round
      too_old : (is_before || before_round) ≡ true → Older f.message.slot round decoded
      too_old e = go (either is_before)
        where
          go : (is_before ≡ true) ⊎ (is_before ≡ false) → Older f.message.slot round decoded
          go (inl o) = inl o
          go (inr o) = inr (sym (simp (o)) ∙ e)

      as_prepare : eqb kind 1 ≡ true → Handled
      unfolding is_old is_older_message of_older_round names_slot
      as_prepare k1 =
          let k4 : eqb kind 4 ≡ false = other_kind kind 1 4 k1 refl in
          by_age {old = is_before || before_round} (simp (k, k1, k4))
          (λ o. idle (prepare_of_kind m f k1) tt (older_fast_prepare asked heard f.message.slot round lowest_best (decoded_promise f.message.rv) rounds (too_old o)))
          (λ o. step_handled k k4 (prepare_of_kind m f k1) tt)

      as_accept : eqb kind 1 ≡ false → eqb kind 2 ≡ true → Handled
      unfolding is_old is_older_message of_older_round names_slot
      as_accept k1 k2 =
          let k4 : eqb kind 4 ≡ false = other_kind kind 2 4 k2 refl in
          by_age {old = is_before || before_round} (simp (k, k1, k2, k4))
          (λ o. idle (accept_of_kind m f k1 k2) tt (older_fast_accept asked heard f.message.slot round lowest_best f.message.v rounds (too_old o)))
          (λ o. step_handled k k4 (accept_of_kind m f k1 k2) tt)

      as_forward : eqb kind 1 ≡ false → eqb kind 2 ≡ false → eqb kind 3 ≡ true → Handled
      unfolding is_old is_older_message names_slot
      as_forward k1 k2 k3 =
          let k4 : eqb kind 4 ≡ false = other_kind kind 3 4 k3 refl in
          by_age {old = false} (simp (k, k1, k2, k4)) (λ o. absurd (not_both o refl)) (λ o. step_handled k k4 (forward_of_kind m f k1 k2 k3) tt)

      as_commit : eqb kind 1 ≡ false → eqb kind 2 ≡ false → eqb kind 3 ≡ false → eqb kind 4 ≡ true → Handled
      unfolding is_old is_older_message of_older_round names_slot
      as_commit k1 k2 k3 k4 =
          let e = commit_of_kind m f k1 k2 k3 k4 in
          by_age {old = is_before} (simp (k, k1, k2, k4) (or-false is_before)) (idle_commit e) (own_commit k k4 e)

      message_handled : leb 1 kind ≡ true → leb kind 4 ≡ true → Handled
      message_handled l u = by_kind Handled kind as_prepare as_accept as_forward as_commit (λ k1 k2 k3 k4. absurd (none k1 k2 k3 k4))
        where
          none : eqb kind 1 ≡ false → eqb kind 2 ≡ false → eqb kind 3 ≡ false → eqb kind 4 ≡ false → ⊥
          none k1 k2 k3 k4 =
              omega (arith, leb-true 1 kind l, leb-true kind 4 u, eqb-false kind 1 k1, eqb-false kind 2 k2, eqb-false kind 3 k3, eqb-false kind 4 k4)

  -- ---- together

  abbrev result : ArraysAfter CallOutcome FastArrays
  result = fast_made m.setup m.committers m.delegates m.core m.fast m.table f w

  abbrev host : ArraysAfter CallOutcome FastArrays → HostAnswer
  host d = left_by m d.half (with_host_number d)

  together : (x : StateAnswer) (o : Outcome) → StandsBy m FastArrays itself m.fast w x o result → Stands m w (in_shard shard x) o (host result)
  together x (Ok tt) h = in_memory m FastArrays itself m.fast w x result h
  together x (Err why) e = ap host e

  module _ (a : fast_half_acts m.setup f ≡ true) where
    no_read : eqb f.kind 1 ≡ false
    unfolding fast_half_acts
    no_read = go (either (eqb f.kind 1))
      where
        go : (eqb f.kind 1 ≡ true) ⊎ (eqb f.kind 1 ≡ false) → eqb f.kind 1 ≡ false
        go (inl k) = absurd (not_both a (simp (k)))
        go (inr k) = k

    acts : (has_fast_path settings.mode && concerns_slot f) ≡ true
    unfolding fast_half_acts
    acts = sym (simp (no_read)) ∙ a

    fast_mode : has_fast_path settings.mode ≡ true
    fast_mode = and_left (has_fast_path settings.mode) (concerns_slot f) acts

    module _ (z : refusal_of m.setup (core_of m.core) f ≡ Ok tt) where
      handled_is : result ≡ handled_as fast_mode (is_old (core_of m.core) f)
      unfolding fast_made fast_unless_refused fast_handled
      handled_is = simp (a, z)

      made_as : (c : Call) (d : ArraysAfter CallOutcome FastArrays) → called ≡ c → result ≡ d → Stood (answered c) d → Stood (answered called) result
      made_as c d p e h =
          subst (λ (x : Call). Stood (answered x) result) (sym p)
          (subst (λ (x : ArraysAfter CallOutcome FastArrays). Stood (answered c) x) (sym e) h)

      proposal_stands : eqb f.kind 0 ≡ true → Stood (answered called) result
      unfolding decoded_call is_old
      proposal_stands k = made_as (Propose f.v) (leaves_of answer) (simp (k)) (handled_is ∙ simp (k)) (proposed fast_mode k)

      message_stands : eqb f.kind 0 ≡ false → Stood (answered called) result
      unfolding decoded_call concerns_slot
      message_stands k =
          let inside : (leb 1 f.message.kind && leb f.message.kind 4) ≡ true = sym (simp (k)) ∙ and_right (has_fast_path settings.mode) (concerns_slot f) acts in
          made_as (Receive delivered) _ (simp (k, no_read)) handled_is
          (message_handled fast_mode k (and_left (leb 1 f.message.kind) _ inside) (and_right (leb 1 f.message.kind) _ inside))

      taken_stands : Stood (answered called) result
      taken_stands = go (either (eqb f.kind 0))
        where
          go : (eqb f.kind 0 ≡ true) ⊎ (eqb f.kind 0 ≡ false) → Stood (answered called) result
          go (inl k) = proposal_stands k
          go (inr k) = message_stands k

    refused_is : (why : Refusal) → outcome ≡ Err why → result ≡ fast_direct (Err (Refused why)) m.core m.fast m.table w
    unfolding fast_made fast_unless_refused
    refused_is why e = simp (a, e)

    decided : (o : Outcome) → outcome ≡ o → Stood (state_call lowest_best shard.state (decision_for settings called o)) result
    unfolding state_call
    decided (Ok tt) e = taken_stands e
    decided (Err why) e = refused_is why e

    made : CallIsMade m f w (by_fast m f w)
    unfolding decision_of fast_call call_with
    made = made_by m f w (by_fast m f w) (together x x.reply.outcome (decided outcome refl))
      where
        x : StateAnswer
        x = state_call lowest_best shard.state (decision_for settings called outcome)

  declines : fast_half_acts m.setup f ≡ false → by_fast m f w ≡ unwritten m w passed_on
  unfolding fast_call fast_made
  declines a = simp (a)

  direct_makes : fast_half_acts m.setup f ≡ false → CallIsMade m f w (by_direct m f w)
  direct_makes a = go (direct_is_call m f w)
    where
      go : PassedOrMade m f w (by_direct m f w) → CallIsMade m f w (by_direct m f w)
      go (inl q) = absurd (not_both q.0 a)
      go (inr q) = q

  -- what the fast half makes has another number than what is passed on
  not_declined : (a : Answer) (o : Outcome) (x : HostAnswer) → Stands m w a o x → x.number ≡ passed_on → ⊥
  not_declined a (Ok tt) x (n, k, r) e = not_both (ap (λ (y : ℕ). eqb y passed_on) e) (ap (λ (y : ℕ). eqb y passed_on) n)
  not_declined a (Err why) x p e =
      not_both (ap (λ (y : ℕ). eqb y passed_on) e) (ap (λ (y : HostAnswer). eqb y.number passed_on) p ∙ not_passed_on why)

  has_no_part : (by_fast m f w).number ≡ passed_on → fast_half_acts m.setup f ≡ false
  has_no_part e = fails (λ a. not_declined (answer_to m f) (answer_to m f).reply.outcome (by_fast m f w) (made a).0 e)

pub one_of_both : OneOfBoth
one_of_both m f w = (made m f w, λ a. (declines m f w a, direct_makes m f w a))

-- so what equals it meets the contract of `chanbook_fast_call`
pub fast_stands : (m : Memory) (f : FlatCall) (w : ReplyInArrays) (x : HostAnswer) → x ≡ by_fast m f w → FastStands m f w x
unfolding FastStands
fast_stands m f w x e = subst (MadeOrDeclined m f w) (sym e) (made m f w, declines m f w)

pub declined_is_direct : DeclinedIsDirect
declined_is_direct m f w e = has_no_part m f w e

pub classic_is_direct : ClassicIsDirect
unfolding fast_half_acts
classic_is_direct s f h = go (either (eqb f.kind 1))
  where
    go : (eqb f.kind 1 ≡ true) ⊎ (eqb f.kind 1 ≡ false) → (not (eqb f.kind 1) && (has_fast_path (mode_of_number s.mode) && concerns_slot f)) ≡ false
    go (inl k) = simp (k)
    go (inr k) = simp (k, h)

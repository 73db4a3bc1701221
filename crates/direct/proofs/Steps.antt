-- What a step leaves in the arrays stands for what the engine makes of the state: what is sent, the commit of a value with the reads that it serves, and the end
-- of a step.
-- Assumes nothing.
use Rattle.std.specs.Prelude.{Result, Ok, Err}
use Rattle.message.specs.Outcomes.{Outcome}
use mathlib.Core.Bool.{Bool, true, false, cond}
use mathlib.Core.Path.{◌≡◌, refl, sym, ap, ap₂, subst}
use Prim.Native.Nat.{ℕ}
use native.Mathlib.Omega.{arith}
use borrow.Author.Tests.{ltb-false}
use lib.Dec.{ltb}
use Rattle.arrays.specs.Arrays.{settings_of, core_of, core_numbers}
use Rattle.arrays.specs.FastArrays.{fast_state_of}
use Rattle.arrays.specs.declared.FastArrays.{FastArrays}
use Rattle.calls.specs.Asked.{asked_of}
use Rattle.calls.specs.Replies.{sent_reply, committed_reply}
use Rattle.consensus.specs.Answers.{state_with_rounds, with_tracker as track_core, sent_answer, committed, finish_at, finish}
use Rattle.consensus.specs.Call.{with_state, in_shard}
use Rattle.consensus.specs.declared.State.{State}
use Rattle.consensus.specs.declared.StateAnswer.{StateAnswer}
use Rattle.direct.specs.Direct.{ArraysAfter, flat_with_tracker, serve_ready, served_after, left_after_reads, with_host_number}
use Rattle.direct.specs.Stands.{Memory, shard_of, left_by, Stands}
use Rattle.direct.specs.handlers.CoreAnswers.{core_committed}
use Rattle.direct.specs.handlers.Handled.{put_reply, CallOutcome, call_number, LeftInArrays, NoHalf, put_taken, put_step, put_next, put_processed}
use Rattle.direct.specs.declared.handlers.ReplyInArrays.{ReplyInArrays}
use Rattle.direct.specs.declared.handlers.NotTaken.{NotTaken}
use Rattle.direct.specs.declared.handlers.NotTaken.TheVariants.{Refused}
use Rattle.fast_state.specs.Fast.{no_answers}
use Rattle.fast_state.specs.declared.FastState.{FastState}
use Rattle.message.specs.Modes.{has_fast_path}
use Rattle.message.specs.declared.Refusal.{Refusal}
use Rattle.paxos_family.specs.Commit.{commit_slot, next_core, next_slot}
use Rattle.read_tracker.specs.declared.ReadTable.{ReadTable}
use Rattle.read_tracker.specs.declared.ReadTracker.{ReadTracker}
use Rattle.steps.specs.Steps.{CoreStep, map_step, on_rounds}
use Rattle.steps.specs.declared.Asked.{Asked}
use Rattle.steps.specs.declared.Core.{Core}
use Rattle.steps.specs.declared.SentMessages.{SentMessages}
use Rattle.steps.specs.declared.Next.{Next}
use Rattle.steps.specs.declared.Next.TheVariants.{Stays, Continues, Commits}
use Rattle.steps.specs.declared.Rounds.{Rounds}
use Rattle.flat.proofs.Encoded.{core_encoded}
use Rattle.flat.specs.Decode.{decoded_core, decoded_settings}
use Rattle.flat.specs.Encode.{encoded_core}
use Rattle.direct.proofs.NoReads.{commit_without_reads}
use Rattle.direct.proofs.Proposed.{Uncommitted, UncommittedBy}

abbrev pub rounds_with : Core → FastState → Rounds
rounds_with core fast = record { core = core; fast = fast }

abbrev pub state_with : Core → FastState → ReadTable → State
state_with core fast table = record { rounds = rounds_with core fast; table = table }

-- the reads of a core are counted anew where its numbers stand
tracked : (t : ReadTracker) (c : Core) → decoded_core (flat_with_tracker t (encoded_core c)) ≡ track_core t c
tracked t c = ap (track_core t) (core_encoded c)

-- what the handlers ask
abbrev pub asked_in_memory : Memory → Asked
asked_in_memory m = asked_of (decoded_settings (settings_of m.setup m.committers m.delegates))

-- `means` is what the fast half that is left stands for: of the classic modes, the one beside the arrays
module _ (m : Memory) (Half : Type 0) (means : Half → FastArrays) (half : Half) (w : ReplyInArrays) where
  abbrev state : State
  state = (shard_of m).state

  abbrev asked : Asked
  asked = asked_in_memory m

  -- nothing is written
  abbrev pub left_alone : NotTaken → ArraysAfter CallOutcome Half
  left_alone why = record { outcome = Err why; core = m.core; half = half; table = m.table; reply = w }

  abbrev pub StandsBy : StateAnswer → Outcome → ArraysAfter CallOutcome Half → Type 0
  StandsBy x (Ok tt) d =
      (d.outcome ≡ Ok tt) × (state_with (decoded_core (core_of d.core)) (fast_state_of (means d.half)) d.table ≡ x.state) × (d.reply ≡ put_reply x.reply w)
  StandsBy x (Err why) d = d ≡ left_alone (Refused why)

  abbrev pub StandsFor : StateAnswer → ArraysAfter CallOutcome Half → Type 0
  StandsFor x d = StandsBy x x.reply.outcome d

  -- so the arrays stand for the new shard
  pub in_memory : (x : StateAnswer) (d : ArraysAfter CallOutcome Half) → StandsBy x (Ok tt) d
      → Stands m w (in_shard (shard_of m) x) (Ok tt) (left_by m (means d.half) (with_host_number d))
  in_memory x d (n, s, r) = (ap call_number n, ap (with_state (shard_of m)) s, r)

  -- ---- what is sent

  abbrev pub left_sending : Core → SentMessages → Half → ArraysAfter CallOutcome Half
  left_sending s ms after = record { outcome = Ok tt; core = core_numbers (encoded_core s); half = after; table = m.table; reply = put_reply (sent_reply ms) w }

  pub sends_stand : (s : Core) (fast : FastState) (ms : SentMessages) (after : Half) → fast_state_of (means after) ≡ fast
      → StandsFor (sent_answer (state_with_rounds state (rounds_with s fast)) ms) (left_sending s ms after)
  sends_stand s fast ms after e = (refl, ap₂ (λ (c : Core) (h : FastState). state_with c h m.table) (core_encoded s) e, refl)

  -- ---- the commit of a value

  -- the answer of the core, and whether reads were open
  abbrev pub committing : ℕ → Core → SentMessages → Half → Bool → LeftInArrays Half
  committing v s ms after reads_open =
      record {
        handled = Ok reads_open;
        core = core_numbers (encoded_core (next_core asked v s));
        half = after;
        reply = put_reply (committed_reply asked v s ms) w;
      }

  -- where reads are open, those that became ready are served; else none is
  pub commits_stand : (v : ℕ) (s : Core) (fast : FastState) (ms : SentMessages) (after : Half) → fast_state_of (means after) ≡ (next_slot asked v (rounds_with s fast)).fast
      → (reads_open : Bool) → ltb 0 s.tracker.open_count ≡ reads_open
      → StandsFor (committed state asked v (rounds_with s fast) ms) (left_after_reads m.setup m.table (committing v s ms after reads_open))
  unfolding committed served_after serve_ready put_reply commit_slot
  commits_stand v s fast ms after e true o =
      (refl, ap₂ (λ (c : Core) (h : FastState). state_with c h (committed state asked v (rounds_with s fast) ms).state.table) (tracked _ (next_core asked v s)) e, refl)
  commits_stand v s fast ms after e false o =
      subst (λ (x : StateAnswer). StandsFor x (left_after_reads m.setup m.table (committing v s ms after false)))
      (commit_without_reads state asked v (rounds_with s fast) ms none)
      (refl, ap₂ (λ (c : Core) (h : FastState). state_with c h m.table) (core_encoded (next_core asked v s)) e, refl)
    where
      none : s.tracker.open_count ≡ 0
      none = let few = ltb-false 0 s.tracker.open_count o in omega (arith, few)

-- ---- the end of a step in the classic modes, which leave the fast half

module _ (m : Memory) (w : ReplyInArrays) where
  abbrev half_of : NoHalf → FastArrays
  half_of h = m.fast

  abbrev fast : FastState
  fast = fast_state_of m.fast

  abbrev pub ClassicStands : StateAnswer → ArraysAfter CallOutcome NoHalf → Type 0
  ClassicStands x d = StandsFor m NoHalf half_of tt w x d

  abbrev a : Asked
  a = asked_in_memory m

  abbrev now : State
  now = (shard_of m).state

  module _ (p : has_fast_path (asked_in_memory m).mode ≡ false) where
    kept : (v : ℕ) (s : Core) → fast ≡ (next_slot a v (rounds_with s fast)).fast
    unfolding commit_slot
    kept v s = sym (ap (λ (t : Bool). cond t no_answers fast) p)

    pub commit_stands : (v : ℕ) (s : Core) (ms : SentMessages)
        → ClassicStands (committed now a v (rounds_with s fast) ms) (left_after_reads m.setup m.table (put_taken (core_committed a v s ms) w))
    unfolding core_committed
    commit_stands v s ms = commits_stand m NoHalf half_of tt w v s fast ms tt (kept v s) (ltb 0 s.tracker.open_count) refl

    by_next : (held : Bool) (s : Core) (ms : SentMessages) (next : Next)
        → ClassicStands (finish_at now a held (rounds_with s fast) ms next)
        (left_after_reads m.setup m.table (put_next a held (record { state = s; messages = ms; next = next }) next m.core w))
    unfolding put_next served_after
    by_next held s ms Stays = sends_stand m NoHalf half_of tt w s fast ms tt refl
    by_next held s ms Continues = sends_stand m NoHalf half_of tt w s fast ms tt refl
    by_next true s ms (Commits v) = commit_stands v s ms
    by_next false s ms (Commits v) = refl

    pub step_stands : (held : Bool) (step : Result CoreStep Refusal)
        → ClassicStands (finish now a held (map_step (on_rounds fast) step)) (left_after_reads m.setup m.table (put_processed a held step m.core w))
    unfolding put_processed served_after
    step_stands held (Ok step) = by_next held step.state step.messages step.next
    step_stands held (Err why) = refl

    -- the step of a proposal, which commits nothing
    pub proposal_stands : (step : Result CoreStep Refusal) → UncommittedBy step
        → ClassicStands (finish now a true (map_step (on_rounds fast) step)) (left_after_reads m.setup m.table (put_step step m.core w))
    unfolding put_step served_after
    proposal_stands (Ok step) u = go step.next u
      where
        go : (next : Next) → Uncommitted next
            → ClassicStands (finish_at now a true (rounds_with step.state fast) step.messages next)
            (left_after_reads m.setup m.table (put_step (Ok (record { state = step.state; messages = step.messages; next = next })) m.core w))
        go Stays u = sends_stand m NoHalf half_of tt w step.state fast step.messages tt refl
        go Continues u = sends_stand m NoHalf half_of tt w step.state fast step.messages tt refl
        go (Commits v) u = absurd u
    proposal_stands (Err why) u = refl

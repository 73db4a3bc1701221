-- What holds along every legal run under the terms: every shard is in the starting round and has as its last value what was committed in the slot before, no
-- Prepare was ever sent, every Accept is as Sent.antt says, only the leader sends Commits, so that none comes to it; and the leader's part (Leading.antt).
-- Assumes nothing.
use Rattle.std.specs.Prelude.{Option, None, Some}
use Rattle.std.proofs.lemmas.Bool.{and_right as right_fails}
use mathlib.Core.Path.{◌≡◌, refl, sym, ap, subst, ◌∙◌}
use mathlib.Core.Logic.{◌⊎◌, inl, inr}
use mathlib.Core.Bool.{Bool, true, false, cond, ◌&&◌}
use mathlib.Core.List.{List, [], ◌∷◌}
use Prim.Native.Nat.{ℕ, ◌+◌, ◌≤◌, ◌<◌}
use native.Mathlib.Decide.{dec_le}
use native.Mathlib.Nat.{lt_of_not-le}
use lib.Dec.{eqb, eqb→eq}
use borrow.Author.Tests.{eqb-true, eqb-false, ne_eqb}
use Rattle.basics.specs.Lists.{In}
use Rattle.basics.proofs.Tests.{either, not_both}
use Rattle.message.specs.Modes.{is_multi_paxos}
use Rattle.message.specs.declared.ConsensusMessage.{ConsensusMessage}
use Rattle.message.specs.declared.ConsensusMsg.TheVariants.{Prepare, Commit}
use Rattle.message.specs.declared.Refusal.{Refusal}
use Rattle.settings.specs.Questions.{quorums_of}
use Rattle.settings.specs.Settings.{within_limits}
use Rattle.settings.specs.declared.Settings.{Settings}
use Rattle.fast_state.specs.Adopt.{lowest_best}
use Rattle.steps.specs.declared.SentMessages.{SentMessages}
use Rattle.steps.specs.declared.Outgoing.{Outgoing}
use Rattle.calls.specs.declared.delivery.Delivery.{Delivery}
use Rattle.calls.specs.declared.Call.{Call}
use Rattle.calls.specs.declared.Call.TheVariants.{Propose, StartRead, Receive}
use Rattle.consensus.proofs.Decided.{mark_kept}
use Rattle.consensus.specs.FirstCause.{number_alone}
use Rattle.consensus.specs.Call.{new_shard, call_of}
use Rattle.consensus.specs.declared.Shard.{Shard}
use Rattle.agreement.specs.Model.{View}
use Rattle.agreement.specs.Model as model
use Rattle.agreement.specs.Refinement.{meanings}
use Rattle.agreement.proofs.Tests.{by_test}
use Rattle.group.specs.Claim.{member_settings, begun, ours, MemberCall, Entry, after_call, listed, messages_of, SentTo, WasSent, MayStand, LegalFrom, Legal, At, plus_commit, slot_at, LegalMade}
use Rattle.group.specs.Steps.{RunStep, reply_of, is_done, delivered, step_of, steps_from, run_steps, entry_of_step, entries_of_steps, shards_made}
use Rattle.group.proofs.Agreement.{begun_valid}
use Rattle.group.proofs.Calls.{kind_of, seen_answer, view_shard, Valid, call_ok}
use Rattle.group.proofs.Invariants.{CallLasts, call_lasts, shards_after}
use Rattle.group.proofs.Ties.{lowest_picks_best}
use Rattle.group.proofs.View.{meaning_of, meaning_is, destination_of, envelopes_of, envelopes, model_setup_of}
use Rattle.leader_commits.specs.Answers.{Terms, is_answer, sources, answers_heard}
use Rattle.leader_commits.proofs.Led.{FromLed, AllFromLed, Expected, Kept, as_model_kept}
use Rattle.leader_commits.proofs.Carrying.{NoPrepare, CallCarries, call_carries}
use Rattle.leader_commits.proofs.Sent.{LastAt, last_later, last_moves, SentAccepts, now_sent}
use Rattle.leader_commits.proofs.Calls.{claimed_mode, led_setup, numbers_within, made_or_refused, seen_in, view_before, Does, rests, proposes, accepts, when_refused, leader_does}
use Rattle.leader_commits.proofs.Leading.{slot_of_other, slot_of_own, no_commit_in, Leading, leading_same, leading_proposed, leading_waits, leading_commits, accept_waits, accept_commits}

-- ---- messages

-- what is so of all that the model sees is so of each message
each_sent : (start l i : ℕ) (o : Outgoing) (ms : SentMessages) → AllFromLed start l i (meanings meaning_of (envelopes ms)) → In o (messages_of ms)
    → FromLed start l i (destination_of o.destination o.message.msg) (meaning_of o.message)
each_sent start l i o ms h k = first ms.first ms.second ms.third h k
  where
    Led : Outgoing → Type 0
    Led o = FromLed start l i (destination_of o.destination o.message.msg) (meaning_of o.message)

    same : (z : Outgoing) → Led z → o ≡ z → Led o
    same z p e = subst Led (sym e) p

    third : (c : Option Outgoing) → AllFromLed start l i (meanings meaning_of (envelopes_of c [])) → In o (listed c []) → Led o
    third None h k = absurd k
    third (Some z) h (inl e) = same z h.0 e
    third (Some z) h (inr k) = absurd k

    second : (b c : Option Outgoing) → AllFromLed start l i (meanings meaning_of (envelopes_of b (envelopes_of c []))) → In o (listed b (listed c [])) → Led o
    second None c h k = third c h k
    second (Some z) c h (inl e) = same z h.0 e
    second (Some z) c h (inr k) = third c h.1 k

    first : (a b c : Option Outgoing) → AllFromLed start l i (meanings meaning_of (envelopes_of a (envelopes_of b (envelopes_of c [])))) → In o (listed a (listed b (listed c []))) → Led o
    first None b c h k = second b c h k
    first (Some z) b c h (inl e) = same z h.0 e
    first (Some z) b c h (inr k) = second b c h.1 k

module _ (s : Settings) (terms : Terms s) where
  abbrev l : ℕ
  l = s.first_leader

  abbrev start : ℕ
  start = (model_setup_of s).voters.start

  -- every message that was handed back is such as a led group sends
  abbrev pub SentLed : List Entry → Type 0
  SentLed past =
      (e : Entry) → In e past → (o : Outgoing) → In o (messages_of e.reply.messages)
      → FromLed (model_setup_of s).voters.start s.first_leader e.member (destination_of o.destination o.message.msg) (meaning_of o.message)

  pub record Invariant (shards : ℕ → Shard) (past : List RunStep) : Type 0 where
    pub valid : (i : ℕ) → Valid s i (shards i)
    pub in_round_lem : (i : ℕ) → (view_shard (shards i)).round ≡ (model_setup_of s).voters.start
    pub sent : SentLed (entries_of_steps past)
    pub leading : Leading s (view_shard (shards s.first_leader)) past
    pub made : (i : ℕ) → (shards i).made ≡ (begun s i).made
    pub last_value : (i : ℕ) → LastAt (shards i).state.rounds.core.slot (shards i).state.rounds.core.last_v (entries_of_steps past)
    pub accepts : SentAccepts s past

  begun_invariant : Invariant (begun s) []
  unfolding new_shard sources
  begun_invariant =
      record {
        valid = begun_valid s;
        in_round_lem = λ i. refl;
        sent = λ e k. absurd k;
        leading =
            record {
              slot = refl;
              nothing_ahead = λ t k. refl;
              nothing_free = λ k. refl;
              counted = refl;
              too_few = λ k. absurd (not_both k refl);
              in_start = λ k. absurd (not_both k refl);
              holds_own = λ v p. absurd p.2;
            };
        made = λ i. refl;
        last_value = λ i. refl;
        accepts = λ e k. absurd k;
      }

  -- a message that stands in the list is such as a led group sends
  expected : (past : List Entry) → SentLed past → (member : ℕ) (c : Call) → MayStand past member c → Expected meaning_of start l (kind_of c)
  expected past sent member (Propose v) k = tt
  expected past sent member (StartRead tag arrival) k = tt
  expected past sent member (Receive d) (e, o, in-past, from, in-reply, same, to) = (
    e.member,
    destination_of o.destination o.message.msg,
    subst
        (λ (m : ConsensusMessage). FromLed start l e.member (destination_of o.destination o.message.msg) (meaning_of m)) same (sent e in-past o in-reply),
  )

  -- and no Prepare stands there
  no_prepare : (past : List Entry) → SentLed past → (member : ℕ) (c : Call) → MayStand past member c → NoPrepare c
  no_prepare past sent member (Propose v) k = tt
  no_prepare past sent member (StartRead tag arrival) k = tt
  no_prepare past sent member (Receive d) k = λ slot round rv is.
      let f = expected past sent member (Receive d) k in
      subst (FromLed start l f.0 f.1) (meaning_is d.message (Prepare slot round rv) is) f.2

  -- a Commit is sent to all but its source, which is the leader
  pub no_commit_to_leader : (past : List Entry) → SentLed past → (d : Delivery) (slot v : ℕ) → d.message.msg ≡ Commit slot v
      → WasSent past d.message s.first_leader → ⊥
  no_commit_to_leader past sent d slot v is (e, o, in-past, from, in-reply, same, to) =
      subst (SentTo d.message.src o.destination l) is to (sym from ∙ found.0)
    where
      found : (e.member ≡ l) × (destination_of o.destination o.message.msg ≡ model.all)
      found =
          subst (FromLed start l e.member (destination_of o.destination o.message.msg))
          (ap meaning_of same ∙ meaning_is d.message (Commit slot v) is)
          (sent e in-past o in-reply)

  -- ---- one call more

  module _ (shards : ℕ → Shard) (past : List RunStep) (k : Invariant shards past) (c : MemberCall) (stands : MayStand (entries_of_steps past) c.member c.call) where
    abbrev i : ℕ
    i = c.member

    abbrev old : Shard
    old = shards c.member

    abbrev step : RunStep
    step = step_of shards c

    refused_seen : (why : Refusal) → call_of old c.call ≡ number_alone why old → seen_in step ≡ model.model_refused (view_before step)
    refused_seen why e = ap seen_answer e

    kept : Kept start l i (seen_in step)
    kept = go (made_or_refused s i old (k.valid i) c.call)
      where
        go : ((why : Refusal) × (call_of old c.call ≡ number_alone why old)) ⊎ (within_limits (member_settings s i) ≡ true) → Kept start l i (seen_in step)
        go (inl (why, e)) = subst (Kept start l i) (sym (refused_seen why e)) (record { in_round_lem = k.in_round_lem i; sends = tt })
        go (inr limits) =
            as_model_kept (model_setup_of s) l (led_setup s terms.multi_paxos terms.no_committer (numbers_within s i limits).leader_small) i (view_shard old)
            (k.in_round_lem i) meaning_of (kind_of c.call) (seen_in step)
            (call_ok s i (claimed_mode s.mode terms.multi_paxos) lowest_best lowest_picks_best old (k.valid i) c.call).as_model_lem
            (expected (entries_of_steps past) k.sent i c.call stands)

    -- where the leader is called
    pub step_does : c.member ≡ s.first_leader → Does s (step_of shards c)
    step_does own = go (made_or_refused s i old (k.valid i) c.call)
      where
        no_commit : (d : Delivery) (slot v : ℕ) → c.call ≡ Receive d → d.message.msg ≡ Commit slot v → ⊥
        no_commit d slot v is commit =
            no_commit_to_leader (entries_of_steps past) k.sent d slot v commit
            (subst (λ (j : ℕ). WasSent (entries_of_steps past) d.message j) own (subst (MayStand (entries_of_steps past) i) is stands))

        go : ((why : Refusal) × (call_of old c.call ≡ number_alone why old)) ⊎ (within_limits (member_settings s i) ≡ true) → Does s step
        go (inl (why, e)) = when_refused s step (refused_seen why e)
        go (inr limits) =
            leader_does s terms.multi_paxos terms.no_committer terms.live_leader (numbers_within s i limits) step (k.in_round_lem i)
            (subst (λ (j : ℕ). Valid s j old) own (k.valid i))
            (expected (entries_of_steps past) k.sent i c.call stands) no_commit

    -- what the leader knew before
    pub leading_before : c.member ≡ s.first_leader → Leading s (view_before (step_of shards c)) past
    leading_before own = subst (λ (j : ℕ). Leading s (view_shard (shards j)) past) (sym own) k.leading

    leading_own : i ≡ l → Does s step → Leading s (seen_in step).view (step ∷ past)
    leading_own own (rests same no_commit unheard no-proposal) =
        subst (λ (x : View). Leading s x (step ∷ past)) (sym same)
        (leading_same s (view_before step) step past (leading_before own)
        (slot_of_own l step past own ∙ no_commit_in (reply_of step).commit no_commit (slot_at l (entries_of_steps past)))
        unheard
        (λ v mine is done. no-proposal v is done))
    leading_own own (proposes v is p) =
        subst (λ (x : View). Leading s x (step ∷ past)) (sym p.then_view)
        (leading_proposed s terms.at_least_two (view_before step) step past v (leading_before own) (k.in_round_lem i)
        (slot_of_own l step past own ∙ no_commit_in (reply_of step).commit p.no_commit (slot_at l (entries_of_steps past)))
        p.was_free
        is)
    leading_own own (accepts d slot round v is accept a numbers) = go (dec_le (quorums_of s).majority (answers_heard s (view_before step).slot (step ∷ past) + 1))
      where
        go : Dec ((quorums_of s).majority ≤ answers_heard s (view_before step).slot (step ∷ past) + 1) → Leading s (seen_in step).view (step ∷ past)
        go (yes h) =
            subst (λ (x : View). Leading s x (step ∷ past))
            (sym (accept_commits s numbers.leader_small numbers.live_small (view_before step) step past
            (leading_before own) own d slot round v is accept a h).0)
            (leading_commits s numbers.leader_small numbers.live_small (view_before step) step past (leading_before own) own d slot round v is accept a h)
        go (no h) =
            let few : answers_heard s (view_before step).slot (step ∷ past) + 1 < (quorums_of s).majority = lt_of_not-le h in
            subst (λ (x : View). Leading s x (step ∷ past))
            (sym (accept_waits s numbers.leader_small numbers.live_small (view_before step) step past
            (leading_before own) own d slot round v is accept a few).0)
            (leading_waits s numbers.leader_small numbers.live_small (view_before step) step past (leading_before own) own d slot round v is accept a
            (k.in_round_lem i) few)

    -- where another member is called, nothing changes for the leader
    leading_other : (i ≡ l → ⊥) → Leading s (view_shard (shards l)) (step ∷ past)
    leading_other other =
        leading_same s (view_shard (shards l)) step past k.leading (slot_of_other l step past other)
        (λ t le. ap (λ (b : Bool). b && is_done (reply_of step).outcome) (right_fails (is_answer s t (delivered step)) _ (ne_eqb i l other)))
        (λ v own is done. other own)

    carries : CallCarries old c.call (call_of old c.call)
    carries =
        call_carries old (ap (λ (x : Settings). is_multi_paxos x.mode) (k.valid i).own_settings ∙ terms.multi_paxos) c.call
        (no_prepare (entries_of_steps past) k.sent i c.call stands)

    left : CallLasts old (call_of old c.call)
    left = call_lasts lowest_best old (k.valid i).lasting c.call

    -- the last value after the call
    abbrev LastOf : Shard → Type 0
    LastOf x = LastAt x.state.rounds.core.slot x.state.rounds.core.last_v (entries_of_steps (step ∷ past))

    last_left : LastOf (call_of old c.call).shard
    last_left =
        subst (λ (n : ℕ). LastAt n (call_of old c.call).shard.state.rounds.core.last_v (entries_of_steps (step ∷ past))) (sym left.slot_moves)
        (subst (λ (u : Option ℕ). LastAt (plus_commit (reply_of step).commit old.state.rounds.core.slot) u (entries_of_steps (step ∷ past)))
        (sym carries.last_value)
        (last_moves (entry_of_step step) (entries_of_steps past) old.state.rounds.core.slot old.state.rounds.core.last_v (k.last_value i)
        left.of_own_slot))

    call_invariant : Invariant (after_call lowest_best shards c) (step_of shards c ∷ past)
    call_invariant =
        record {
          valid = λ j.
              by_test (Valid s j) (eqb j i) (call_of old c.call).shard (shards j)
              (λ t. subst (λ (m : ℕ). Valid s m (call_of old c.call).shard) (sym (eqb→eq j i t))
              (call_ok s i (claimed_mode s.mode terms.multi_paxos) lowest_best lowest_picks_best old (k.valid i) c.call).valid)
              (λ t. k.valid j);
          in_round_lem =
              λ j. by_test (λ (x : Shard). (view_shard x).round ≡ start) (eqb j i) (call_of old c.call).shard (shards j) (λ t. kept.in_round_lem)
              (λ t. k.in_round_lem j);
          sent = led_sent;
          leading = go (either (eqb l i));
          made = λ j.
              by_test (λ (x : Shard). x.made ≡ (begun s j).made) (eqb j i) (call_of old c.call).shard (shards j)
              (λ t. mark_kept lowest_best old c.call ∙ k.made i ∙ ap (λ (m : ℕ). (begun s m).made) (sym (eqb→eq j i t)))
              (λ t. k.made j);
          last_value = λ j.
              by_test LastOf (eqb j i) (call_of old c.call).shard (shards j) (λ t. last_left)
              (λ t. last_later (entry_of_step step) (entries_of_steps past) (shards j).state.rounds.core.slot (shards j).state.rounds.core.last_v
              (k.last_value j));
          accepts =
              now_sent s terms.multi_paxos shards past k.accepts c stands (k.valid i) (no_prepare (entries_of_steps past) k.sent i c.call stands)
              (k.last_value i)
              (λ own. (leading_before own).slot);
        }
      where
        led_sent : SentLed (entries_of_steps (step ∷ past))
        led_sent e (inl same) o m =
            subst (λ (x : ℕ). FromLed start l x (destination_of o.destination o.message.msg) (meaning_of o.message))
            (ap (λ (x : Entry). x.member) (sym same))
            (each_sent start l i o (reply_of step).messages kept.sends (subst (λ (x : Entry). In o (messages_of x.reply.messages)) same m))
        led_sent e (inr earlier) o m = k.sent e earlier o m

        go : (eqb l i ≡ true) ⊎ (eqb l i ≡ false) → Leading s (view_shard (cond (eqb l i) (call_of old c.call).shard (shards l))) (step ∷ past)
        go (inl e) =
            let own : i ≡ l = sym (eqb-true l i e) in
            subst (λ (b : Bool). Leading s (view_shard (cond b (call_of old c.call).shard (shards l))) (step ∷ past)) (sym e)
            (leading_own own (step_does own))
        go (inr e) =
            subst (λ (b : Bool). Leading s (view_shard (cond b (call_of old c.call).shard (shards l))) (step ∷ past)) (sym e)
            (leading_other (λ own. eqb-false l i e (sym own)))

  -- ---- every step of a run

  -- what follows of a step from the invariant before it
  abbrev pub RunFollows : (RunStep → List RunStep → Type 0) → Type 0
  RunFollows P =
      (shards : ℕ → Shard) (past : List RunStep) → Invariant shards past → (c : MemberCall) → MayStand (entries_of_steps past) c.member c.call
      → P (step_of shards c) past

  -- holds of every step of a legal run
  module _ (P : RunStep → List RunStep → Type 0) (follows : RunFollows P) where
    each_from : (shards : ℕ → Shard) (past : List RunStep) (cs : List MemberCall) → Invariant shards past
        → LegalFrom s.process_count ours shards (entries_of_steps past) cs
        → ((x : RunStep) (earlier : List RunStep) → At x earlier past → P x earlier) → (x : RunStep) (earlier : List RunStep) → At x earlier (steps_from shards past cs)
        → P x earlier
    unfolding LegalMade steps_from
    each_from shards past [] k legal known x earlier at = known x earlier at
    each_from shards past (c ∷ cs) k legal known x earlier at =
        each_from (after_call lowest_best shards c) (step_of shards c ∷ past) cs (call_invariant shards past k c legal.1) legal.2 more x earlier at
      where
        more : (y : RunStep) (before : List RunStep) → At y before (step_of shards c ∷ past) → P y before
        more y before (inl e) =
            subst (λ (z : RunStep). P z before) (sym e.0) (subst (P (step_of shards c)) (sym e.1) (follows shards past k c legal.1))
        more y before (inr a) = known y before a

    pub each_step : (cs : List MemberCall) → Legal s cs → (x : RunStep) (earlier : List RunStep) → At x earlier (run_steps s cs) → P x earlier
    each_step cs legal x earlier at = each_from (begun s) [] cs begun_invariant legal (λ y before a. absurd a) x earlier at

  -- and the invariant holds after the run
  run_from : (shards : ℕ → Shard) (past : List RunStep) (cs : List MemberCall) → Invariant shards past → LegalFrom s.process_count ours shards (entries_of_steps past) cs
      → Invariant (shards_after ours shards cs) (steps_from shards past cs)
  unfolding LegalMade steps_from shards_made
  run_from shards past [] k legal = k
  run_from shards past (c ∷ cs) k legal = run_from (after_call lowest_best shards c) (step_of shards c ∷ past) cs (call_invariant shards past k c legal.1) legal.2

  pub run_invariant : (cs : List MemberCall) → Legal s cs → Invariant (shards_after ours (begun s) cs) (run_steps s cs)
  run_invariant cs legal = run_from (begun s) [] cs begun_invariant legal

-- When the leader of a MultiPaxos slot commits (document 02, E14): after every legal list of calls, of every length, with every settings under the
-- terms.
-- Assumes nothing.
use mathlib.Core.Path.{◌≡◌, refl, sym, ap, subst, ◌∙◌}
use mathlib.Core.Logic.{◌⊎◌, inl, inr, ◌↔◌}
use mathlib.Core.Bool.{Bool, true, false, not, ◌&&◌}
use mathlib.Core.List.{List, [], ◌∷◌}
use Prim.Native.Nat.{ℕ, ◌+◌, ◌≤◌, ◌<◌}
use native.Mathlib.Decide.{dec_le}
use native.Mathlib.Nat.{le_refl, lt_of_not-le}
use native.Mathlib.Omega.{arith}
use lib.Dec.{eqb}
use Rattle.basics.proofs.Tests.{either, not_both, and_left, and_right, and_both}
use Rattle.basics.specs.sets.Sets.{contains, insert, one, size}
use Rattle.basics.proofs.sets.Laws.{size_insert}
use Rattle.message.specs.declared.Refusal.{Refusal}
use Rattle.settings.specs.Questions.{quorums_of}
use Rattle.settings.specs.Settings.{within_limits}
use Rattle.settings.specs.declared.Settings.{Settings}
use Rattle.calls.specs.Commits.{committed_slot}
use Rattle.calls.specs.declared.Call.{Call}
use Rattle.calls.specs.declared.Call.TheVariants.{Propose, StartRead, Receive}
use Rattle.consensus.specs.FirstCause.{number_alone}
use Rattle.consensus.specs.Call.{call_of}
use Rattle.consensus.specs.declared.Answer.{Answer}
use Rattle.agreement.specs.Model.{undecided, decided}
use Rattle.group.specs.Claim.{member_settings, begun, ours, MemberCall, WasSent, MayStand, Legal, At, slot_at}
use Rattle.group.specs.Steps.{RunStep, reply_of, is_done, delivery_in, delivered, step_of, run_steps, entries_of_steps}
use Rattle.group.proofs.Calls.{model_decision_of, view_shard}
use Rattle.group.proofs.Invariants.{shards_after}
use Rattle.group.proofs.View.{model_setup_of}
use Rattle.leader_commits.specs.Answers.{Terms, is_answer, comes, leader_hears, sources, source_of, answers_heard, answers_came, LeaderProposed, AfterProposal, CommitsValue, CommitsOnAnswer, HostHolds, SoundRequesters, SoundAnswers, BringsCommit, NoCommitCame, NoAnswerRefused, AsAsked}
use Rattle.leader_commits.proofs.Calls.{NumbersInRun, numbers_within, made_or_refused, seen_in, view_before, Does, rests, proposes, accepts}
use Rattle.leader_commits.proofs.Hearing.{sources_same, sources_more, grows_by_one, live_source}
use Rattle.leader_commits.proofs.Leading.{is_decided, slot_in_view, value_in_view, commit_in, Leading, fit_same, accept_commits, accept_waits}
use Rattle.leader_commits.proofs.NoneRefused.{sound_taken, none_refused}
use Rattle.leader_commits.proofs.Places.{in_at}
use Rattle.leader_commits.proofs.Runs.{RunFollows, no_commit_to_leader, step_does, leading_before, each_step, run_invariant}

-- ---- commits, as the model sees them

seen_commit : (x : RunStep) (slot v : ℕ) → CommitsValue x slot v → (seen_in x).decision ≡ decided slot v
seen_commit x slot v c = ap model_decision_of c.1

not_undecided : (x : RunStep) (slot v : ℕ) → CommitsValue x slot v → (seen_in x).decision ≡ undecided → ⊥
not_undecided x slot v c e = not_both refl (ap is_decided (sym (seen_commit x slot v c) ∙ e))

-- ---- a step of the leader

module _ (s : Settings) (x : RunStep) (past : List RunStep) (own : x.member ≡ s.first_leader) (at : (view_before x).round ≡ (model_setup_of s).voters.start) (k : Leading s (view_before x) past)
    (v : ℕ) (p : LeaderProposed s (view_before x).slot v past) where
  abbrev majority : ℕ
  majority = (quorums_of s).majority

  abbrev t : ℕ
  t = (view_before x).slot

  held : ((view_before x).holds ≡ true) × ((view_before x).held_value ≡ v)
  held = k.holds_own v p

  few : answers_heard s t past + 1 < majority
  few = k.too_few held.0

  on_answer : Does s x → CommitsOnAnswer (answers_heard s t) s t v x past
  on_answer (rests same no_commit unheard no-proposal) =
      let still : answers_heard s t (x ∷ past) ≡ answers_heard s t past = ap size (sources_same (leader_hears s t) x past (unheard t (le_refl t))) in
      record {
        not_yet = few;
        exactly = (λ c. absurd (not_undecided x t v c no_commit), λ e. absurd (omega (arith, few, still, e)));
        no_other = λ slot w c. absurd (not_undecided x slot w c no_commit);
      }
  on_answer (proposes w is q) = absurd (not_both held.0 q.was_free)
  on_answer (accepts d slot round w is acc a numbers) = go (dec_le majority (answers_heard s t (x ∷ past) + 1))
    where
      same : w ≡ v
      same = sym (fit_same s (view_before x) w a.fitting (k.in_start held.0 ∙ sym at)) ∙ held.1

      most : answers_heard s t (x ∷ past) ≤ answers_heard s t past + 1
      most = grows_by_one (leader_hears s t) x past

      go : Dec (majority ≤ answers_heard s t (x ∷ past) + 1) → CommitsOnAnswer (answers_heard s t) s t v x past
      go (yes h) =
          let c : (seen_in x).decision ≡ decided t w =
          (accept_commits s numbers.leader_small numbers.live_small (view_before x) x past k own d slot round w is acc a h).1 in
          let f : (fast : Bool) × ((reply_of x).commit ≡ committed_slot t w fast) = commit_in (reply_of x).commit t w c in
          record {
            not_yet = few;
            exactly = (λ z. omega (arith, few, most, h), λ z. (f.0, f.1 ∙ ap (λ (n : ℕ). committed_slot t n f.0) same));
            no_other = λ slot' w' z.
                let e : decided slot' w' ≡ decided t w = sym (seen_commit x slot' w' z) ∙ c in
                (ap slot_in_view e, ap value_in_view e ∙ same);
          }
      go (no h) =
          let waits : answers_heard s t (x ∷ past) + 1 < majority = lt_of_not-le h in
          let u : (seen_in x).decision ≡ undecided =
          (accept_waits s numbers.leader_small numbers.live_small (view_before x) x past k own d slot round w is acc a waits).1 in
          record {
            not_yet = few;
            exactly = (λ c. absurd (not_undecided x t v c u), λ e. absurd (omega (arith, waits, e)));
            no_other = λ slot' w' c. absurd (not_undecided x slot' w' c u);
          }

-- ---- the theorem

module _ (s : Settings) (terms : Terms s) (cs : List MemberCall) (legal : Legal s cs) where
  -- At every step of the leader in a slot after its proposal there: it has heard fewer than majority less one so far, it commits exactly where the
  -- step brings these to majority less one, and what it commits is its proposal.
  pub leader_commits : (t v : ℕ) (x : RunStep) (past : List RunStep) → AfterProposal s cs t v x past → CommitsOnAnswer (answers_heard s t) s t v x past
  leader_commits t v x past after = each_step s terms P follows cs legal x past after.stands after.leader t v after.proposed after.in_slot
    where
      P : RunStep → List RunStep → Type 0
      P x past =
          x.member ≡ s.first_leader → (t v : ℕ) → LeaderProposed s t v past → slot_at s.first_leader (entries_of_steps past) ≡ t
          → CommitsOnAnswer (answers_heard s t) s t v x past

      follows : RunFollows s terms P
      follows shards past k c stands own t v p here =
          let lead = leading_before s terms shards past k c stands own in
          let same : (view_before (step_of shards c)).slot ≡ t = lead.slot ∙ here in
          subst (λ (n : ℕ). CommitsOnAnswer (answers_heard s n) s n v (step_of shards c) past) same
          (on_answer s (step_of shards c) past own (k.in_round_lem c.member) lead v (subst (λ (n : ℕ). LeaderProposed s n v past) (sym same) p)
          (step_does s terms shards past k c stands own))

  -- A slot hangs no longer: as long as the leader is in the slot in which it has proposed, it has heard fewer than majority less one.
  pub slot_hangs : (t v : ℕ) → LeaderProposed s t v (run_steps s cs) → slot_at s.first_leader (entries_of_steps (run_steps s cs)) ≡ t
      → answers_heard s t (run_steps s cs) + 1 < (quorums_of s).majority
  slot_hangs t v p here =
      let lead = (run_invariant s terms cs legal).leading in
      let same : (view_shard (shards_after ours (begun s) cs s.first_leader)).slot ≡ t = lead.slot ∙ here in
      subst (λ (n : ℕ). answers_heard s n (run_steps s cs) + 1 < (quorums_of s).majority) same
      (lead.too_few (lead.holds_own v (subst (λ (n : ℕ). LeaderProposed s n v (run_steps s cs)) (sym same) p)).0)

  -- a call that is not refused is of a group within the limits
  numbers_of : (x : RunStep) (past : List RunStep) → At x past (run_steps s cs) → is_done (reply_of x).outcome ≡ true → NumbersInRun s
  numbers_of x past at done = each_step s terms P follows cs legal x past at done
    where
      P : RunStep → List RunStep → Type 0
      P x past = is_done (reply_of x).outcome ≡ true → NumbersInRun s

      follows : RunFollows s terms P
      follows shards past k c stands done = go (made_or_refused s c.member (shards c.member) (k.valid c.member) c.call)
        where
          go : ((why : Refusal) × (call_of (shards c.member) c.call ≡ number_alone why (shards c.member))) ⊎ (within_limits (member_settings s c.member) ≡ true) → NumbersInRun s
          go (inl (why, e)) = absurd (not_both done (ap (λ (r : Answer). is_done r.reply.outcome) e))
          go (inr limits) = numbers_within s c.member limits

  -- The same by the answer: the leader commits on an answer that it hears from a member that it had not heard, the last that was missing.
  pub completing_answer : (t v : ℕ) (x : RunStep) (past : List RunStep) → AfterProposal s cs t v x past
      → CommitsValue x t v ↔ ((leader_hears s t x ≡ true) × (contains (sources (leader_hears s t) past) (source_of (delivered x)) ≡ false) × (answers_heard s t past + 2 ≡ (quorums_of s).majority))
  completing_answer t v x past after =
      (λ c. completes (on_answer.exactly.0 c) (either (leader_hears s t x)), λ h. on_answer.exactly.1 (reaches h.0 h.1 h.2))
    where
      on_answer : CommitsOnAnswer (answers_heard s t) s t v x past
      on_answer = leader_commits t v x past after

      heard_before : ℕ
      heard_before = sources (leader_hears s t) past

      source : ℕ
      source = source_of (delivered x)

      -- one more where its source is new
      grown : leader_hears s t x ≡ true → answers_heard s t (x ∷ past) ≡ answers_heard s t past + one (not (contains heard_before source))
      grown e =
          ap size (sources_more (leader_hears s t) x past e)
          ∙ size_insert heard_before source
          ((numbers_of x past after.stands (and_right (comes s t x) (is_done (reply_of x).outcome) e)).live_small source
          (live_source s t (delivered x) (and_left (is_answer s t (delivered x)) (eqb x.member s.first_leader)
          (and_left (comes s t x) (is_done (reply_of x).outcome) e))))

      reaches : leader_hears s t x ≡ true → contains heard_before source ≡ false → answers_heard s t past + 2 ≡ (quorums_of s).majority
          → answers_heard s t (x ∷ past) + 1 ≡ (quorums_of s).majority
      reaches e new last =
          let more : one (not (contains heard_before source)) ≡ 1 = ap (λ (b : Bool). one (not b)) new in
          omega (arith, grown e, more, last)

      completes : answers_heard s t (x ∷ past) + 1 ≡ (quorums_of s).majority → (leader_hears s t x ≡ true) ⊎ (leader_hears s t x ≡ false)
          → (leader_hears s t x ≡ true) × (contains heard_before source ≡ false) × (answers_heard s t past + 2 ≡ (quorums_of s).majority)
      completes reached (inr e) =
          let same : answers_heard s t (x ∷ past) ≡ answers_heard s t past = ap size (sources_same (leader_hears s t) x past e) in
          absurd (omega (arith, on_answer.not_yet, reached, same))
      completes reached (inl e) = go (either (contains heard_before source))
        where
          go : (contains heard_before source ≡ true) ⊎ (contains heard_before source ≡ false)
              → (leader_hears s t x ≡ true) × (contains heard_before source ≡ false) × (answers_heard s t past + 2 ≡ (quorums_of s).majority)
          go (inl old) =
              let none : one (not (contains heard_before source)) ≡ 0 = ap (λ (b : Bool). one (not b)) old in
              absurd (omega (arith, on_answer.not_yet, reached, grown e, none))
          go (inr new) =
              let more : one (not (contains heard_before source)) ≡ 1 = ap (λ (b : Bool). one (not b)) new in
              (e, new, omega (arith, grown e, more, reached))

  -- Where the host holds the value and each requester that it gives is a process, that answer has only to come: it is not refused.
  pub sound_answer_commits : (t v : ℕ) (x : RunStep) (past : List RunStep) → AfterProposal s cs t v x past → comes s t x ≡ true → HostHolds (delivered x)
      → SoundRequesters s (delivered x) → contains (sources (leader_hears s t) past) (source_of (delivered x)) ≡ false → answers_heard s t past + 2 ≡ (quorums_of s).majority → CommitsValue x t v
  sound_answer_commits t v x past after came holds sound new last =
      (completing_answer t v x past after).1 (and_both came (sound_taken s terms cs legal t v x past after came holds sound), new, last)

  -- No Commit ever comes to the leader.
  pub no_commit_comes : (t : ℕ) → NoCommitCame s t (run_steps s cs)
  no_commit_comes t x k own came = let place = in_at x (run_steps s cs) k in each_step s terms P follows cs legal x place.0 place.1 own came
    where
      P : RunStep → List RunStep → Type 0
      P x past = x.member ≡ s.first_leader → BringsCommit t (delivered x) → ⊥

      follows : RunFollows s terms P
      follows shards past k c stands own = by_call c.call stands
        where
          by_call : (call : Call) → MayStand (entries_of_steps past) c.member call → BringsCommit t (delivery_in call) → ⊥
          by_call (Propose v) stands came = came
          by_call (StartRead tag arrival) stands came = came
          by_call (Receive d) stands came =
              no_commit_to_leader s terms (entries_of_steps past) k.sent d t came.0 came.1
              (subst (λ (i : ℕ). WasSent (entries_of_steps past) d.message i) own stands)

  -- ---- all answers that came

  -- where no answer was refused, those that came were heard
  came_heard : (t : ℕ) (past : List RunStep) → NoAnswerRefused s t past → sources (comes s t) past ≡ sources (leader_hears s t) past
  unfolding sources
  came_heard t [] ok = refl
  came_heard t (x ∷ past) ok = go (came_heard t past (λ y k. ok y (inr k))) (either (comes s t x))
    where
      go : sources (comes s t) past ≡ sources (leader_hears s t) past → (comes s t x ≡ true) ⊎ (comes s t x ≡ false)
          → sources (comes s t) (x ∷ past) ≡ sources (leader_hears s t) (x ∷ past)
      go rest (inl e) =
          sources_more (comes s t) x past e ∙ ap (λ (a : ℕ). insert a (source_of (delivered x))) rest
          ∙ sym (sources_more (leader_hears s t) x past (and_both e (ok x (inl refl) e)))
      go rest (inr e) =
          sources_same (comes s t) x past e ∙ rest ∙ sym (sources_same (leader_hears s t) x past (ap (λ (b : Bool). b && is_done (reply_of x).outcome) e))

  -- Where the host is sound with every answer, none is refused: then the leader commits exactly on the answer that brings those that came to majority less
  -- one.
  pub on_the_very_answer : (t v : ℕ) (x : RunStep) (past : List RunStep) → AfterProposal s cs t v x past → SoundAnswers s t (x ∷ past)
      → CommitsOnAnswer (answers_came s t) s t v x past
  on_the_very_answer t v x past after sound =
      let on_answer = leader_commits t v x past after in
      let taken : NoAnswerRefused s t (x ∷ past) = none_refused s terms cs legal t v x past after sound in
      let before : answers_came s t past ≡ answers_heard s t past = ap size (came_heard t past (λ y k. taken y (inr k))) in
      let now : answers_came s t (x ∷ past) ≡ answers_heard s t (x ∷ past) = ap size (came_heard t (x ∷ past) taken) in
      record {
        not_yet = omega (arith, before, on_answer.not_yet);
        exactly = (λ c. ap (λ (a : ℕ). a + 1) now ∙ on_answer.exactly.0 c, λ e. on_answer.exactly.1 (ap (λ (a : ℕ). a + 1) (sym now) ∙ e));
        no_other = on_answer.no_other;
      }

  -- ---- the document's words

  -- What the document says. That the host holds the value is in no answer being refused, and that no Commit comes is `no_commit_comes`.
  pub as_asked : (t v : ℕ) (x : RunStep) (past : List RunStep) → AfterProposal s cs t v x past → AsAsked s t v x past
  as_asked t v x past after =
      let on_answer = leader_commits t v x past after in
      record {
        commits = λ holds none taken before now. on_answer.exactly.1 (ap (λ (a : ℕ). size a + 1) (sym (came_heard t (x ∷ past) taken)) ∙ now);
        not_before = λ none waits slot w c.
            let only = on_answer.no_other slot w c in
            let reached : answers_heard s t (x ∷ past) + 1 ≡ (quorums_of s).majority =
            on_answer.exactly.0 (subst (λ (n : ℕ). CommitsValue x n v) only.0 (subst (CommitsValue x slot) only.1 c)) in
            omega (arith, waits, reached);
      }

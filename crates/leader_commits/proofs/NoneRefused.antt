-- For what an answer is refused (document 02, E14: "given that the host holds the value, .. and no answer was refused"): in a run under the terms, after the
-- leader's proposal and while it is in that slot, only for what the host adds. So where that is sound, the leader commits on the very answer.
-- Assumes nothing.
use Rattle.std.specs.Prelude.{Option, None, Some, Ok, Err, is_some, unwrap_or}
use Rattle.message.specs.Outcomes.{Outcome}
use Rattle.message.specs.declared.RoundV.{RoundV}
use mathlib.Core.Path.{◌≡◌, refl, sym, ap, ap₂, subst, ◌∙◌}
use mathlib.Core.Logic.{inl, inr}
use mathlib.Core.Bool.{Bool, true, false, ◌&&◌, ◌||◌}
use mathlib.Core.List.{List, ◌∷◌}
use Prim.Native.Nat.{ℕ, zero, suc, ◌≤◌, ◌<◌}
use native.Mathlib.Omega.{arith}
use lib.Dec.{eqb, ltb}
use borrow.Author.Tests.{le-leb, le-ltb, eqb-true, eq-eqb}
use Rattle.basics.specs.Lists.{In}
use Rattle.basics.proofs.Tests.{not_both, and_left, and_right, and_both, or_right}
use Rattle.message.specs.Modes.{is_multi_paxos}
use Rattle.message.specs.Rounds.{equal, round_before, round_equal, next_leader_round, starting_round, unwrap_or_default, round_of}
use Rattle.message.proofs.Order.{equal_rounds, round_equals_itself}
use Rattle.message.specs.declared.ConsensusMsg.TheVariants.{Accept}
use Rattle.message.specs.declared.PFMode.{PFMode}
use Rattle.message.specs.declared.PFMode.TheVariants.{Paxos, MultiPaxos, MultiPaxos3P, EPaxos, Pando, SwiftPaxos}
use Rattle.message.specs.declared.PaxosRound.{PaxosRound}
use Rattle.message.specs.declared.RoundV.TheVariants.{FastV, PaxosV}
use Rattle.settings.specs.Questions.{starting_round_of}
use Rattle.settings.specs.Settings.{within_limits}
use Rattle.settings.specs.declared.Settings.{Settings}
use Rattle.settings.proofs.Limits.{within_counts}
use Rattle.round_state.specs.Paxos.{get_last_accepted_round}
use Rattle.fast_state.specs.Adopt.{lowest_best}
use Rattle.steps.specs.Steps.{held_value}
use Rattle.steps.specs.declared.Core.{Core}
use Rattle.calls.specs.declared.delivery.Delivery.{Delivery}
use Rattle.calls.specs.declared.Call.{Call}
use Rattle.calls.specs.declared.Call.TheVariants.{Propose, StartRead, Receive}
use Rattle.consensus.specs.Call.{call_of}
use Rattle.consensus.specs.FirstCause.{number_of_outcome, any_above, given_number, first_cause, all_causes}
use Rattle.consensus.specs.Panics.{fits_held}
use Rattle.consensus.specs.Rows.{first_of}
use Rattle.consensus.specs.declared.Shard.{Shard}
use Rattle.consensus.proofs.FirstCause.{number_is_first_cause}
use Rattle.consensus.proofs.Refusals.{refusal_numbered}
use Rattle.group.specs.Claim.{member_settings, begun, MemberCall, Entry, MayStand, Legal, At, slot_at, Proposed, CommitAt, Claim}
use Rattle.group.specs.Steps.{RunStep, reply_of, is_done, delivery_in, delivered, run_steps, entry_of_step, entries_of_steps}
use Rattle.group.proofs.Agreement.{agreement, begun_valid}
use Rattle.group.proofs.Calls.{Valid, valid_within, leaders_small}
use Rattle.group.proofs.Invariants.{start_led}
use Rattle.group.proofs.Steps.{steps_are_entries}
use Rattle.group.proofs.View.{round_number, LeaderFits, equal_number, model_setup_of}
use Rattle.leader_commits.specs.Answers.{Terms, is_answer, comes, LeaderProposed, AfterProposal, requesters_in, host_causes, HostHolds, SoundRequesters, SoundAnswers, NoAnswerRefused}
use Rattle.leader_commits.proofs.Calls.{claimed_mode, numbers_within}
use Rattle.leader_commits.proofs.Places.{in_at, at_in, at_before, entry_stands_at, step_of_entry}
use Rattle.leader_commits.proofs.HostCauses.{below_fits, leader_shard, the_answer, only_host_causes}
use Rattle.leader_commits.proofs.Hearing.{is_accept, live_source}
use Rattle.leader_commits.proofs.Leading.{slot_before}
use Rattle.leader_commits.proofs.Runs.{Invariant, RunFollows, leading_before, each_step}
use Rattle.leader_commits.proofs.Sent.{LastAt, same_last, proposal_taken, AnswerSent, answer_sent}

-- ---- the starting round

start_is : (m : PFMode) (l : ℕ) → is_multi_paxos m ≡ true → starting_round m l ≡ Some (round_of 0 l)
unfolding next_leader_round
start_is Paxos l e = absurd (not_both e refl)
start_is MultiPaxos l e = simp (le-leb 0 l (omega arith))
start_is MultiPaxos3P l e = simp (le-leb 0 l (omega arith))
start_is EPaxos l e = absurd (not_both e refl)
start_is Pando l e = absurd (not_both e refl)
start_is SwiftPaxos l e = absurd (not_both e refl)

-- a round with its number is the starting round
is_start : (s : Settings) → is_multi_paxos s.mode ≡ true → s.first_leader < 64 → (r : Option PaxosRound) → LeaderFits r
    → round_number r ≡ (model_setup_of s).voters.start
    → r ≡ Some (round_of 0 s.first_leader)
is_start s multi small r fits e =
    equal_rounds r (starting_round_of s)
    (equal_number r (starting_round_of s) fits (start_led (λ p. p < 64) s.mode s.first_leader small) ∙ eq-eqb (round_number r) (round_number (starting_round_of s)) e)
    ∙ start_is s.mode s.first_leader multi

-- what is held as accepted in the starting round fits an accept of the same value
held_fits : (s : Settings) → is_multi_paxos s.mode ≡ true → s.first_leader < 64 → (held : Option RoundV) (v : ℕ) → LeaderFits (get_last_accepted_round held)
    → round_number (get_last_accepted_round held) ≡ (model_setup_of s).voters.start → held_value held ≡ v → fits_held held (round_of 0 s.first_leader) v ≡ true
held_fits s multi small None v fits e same = refl
held_fits s multi small (Some (FastV p w)) v fits e same = refl
held_fits s multi small (Some (PaxosV None w)) v fits e same = refl
held_fits s multi small (Some (PaxosV (Some r) w)) v fits e same =
    or_right (round_before r (round_of 0 s.first_leader)) (and_both (equal_in (is_start s multi small (Some r) fits e)) (eq-eqb w v same))
  where
    equal_in : Some r ≡ Some (round_of 0 s.first_leader) → round_equal r (round_of 0 s.first_leader) ≡ true
    equal_in same = ap (equal (Some r)) (sym same) ∙ round_equals_itself (Some r)

-- ---- outcomes and calls

-- a call that gives no number is taken
done_of_none : (o : Outcome) → number_of_outcome o ≡ 0 → is_done o ≡ true
done_of_none (Ok tt) e = refl
done_of_none (Err why) e = absurd (not_both (refusal_numbered why) (ap (ltb 0) e))

received : (c : Call) (d : Delivery) → delivery_in c ≡ Some d → c ≡ Receive d
received (Propose v) d e = absurd (not_both refl (ap is_some (sym e)))
received (StartRead tag arrival) d e = absurd (not_both refl (ap is_some (sym e)))
received (Receive f) d e = ap (λ (o : Option Delivery). Receive (unwrap_or o d)) e

-- ---- the theorem

module _ (s : Settings) (terms : Terms s) (cs : List MemberCall) (legal : Legal s cs) where
  abbrev l : ℕ
  l = s.first_leader

  abbrev run : List RunStep
  run = run_steps s cs

  claim : Claim (entries_of_steps (run_steps s cs))
  claim = subst Claim (sym (steps_are_entries s cs)) (agreement s (claimed_mode s.mode terms.multi_paxos) cs legal)

  -- what is committed in the run was proposed in it, so it is a number
  committed_fits : (n w : ℕ) → CommitAt n w (entries_of_steps run) → w ≤ 9223372036854775807
  committed_fits n w c = go (claim.proposed n w c)
    where
      in_run : (e : Entry) (earlier : List Entry) → At e earlier (c.entry ∷ c.earlier) → In e (entries_of_steps run)
      in_run e earlier (inl same) = subst (λ (x : Entry). In x (entries_of_steps run)) (sym same.0) (at_in c.entry c.earlier (entries_of_steps run) c.stands)
      in_run e earlier (inr k) = at_in e earlier (entries_of_steps run) (at_before c.entry e c.earlier earlier (entries_of_steps run) c.stands k)

      go : Proposed n w (c.entry ∷ c.earlier) → w ≤ 9223372036854775807
      go (e, earlier, k, is, done, slot) =
          let x = step_of_entry e run (in_run e earlier k) in
          (proposal_taken x.0.before w
          (subst (λ (y : Call). (call_of x.0.before y).reply.outcome ≡ Ok tt) (ap (λ (y : Entry). y.call) (sym x.1) ∙ is)
          (ap (λ (y : Entry). y.reply.outcome) (sym x.1) ∙ done))
          ).value_fits

  last_fits : (n : ℕ) (last : Option ℕ) → LastAt n last (entries_of_steps run) → any_above 9223372036854775807 (given_number last) ≡ false
  unfolding any_above
  last_fits zero last h = ap (λ (u : Option ℕ). any_above 9223372036854775807 (given_number u)) h
  last_fits (suc n) last (w, is, c) =
      ap (λ (u : Option ℕ). any_above 9223372036854775807 (given_number u)) is
      ∙ ap (λ (b : Bool). b || false) (le-ltb 9223372036854775807 w (committed_fits n w c))

  -- the leader's proposal was taken: its shard was made, the slot is not spent, and the value is a number
  record Proposes (t v : ℕ) : Type 0 where
    made : (begun s s.first_leader).made ≡ Ok tt
    room : t < 9223372036854775807
    fits : v ≤ 9223372036854775807

  proposes : (t v : ℕ) (x : RunStep) (past : List RunStep) → At x past (run_steps s cs) → LeaderProposed s t v past → Proposes t v
  proposes t v x past stands (z, earlier, k, own, is, done, slot) =
      let before = each_step s terms P follows cs legal z earlier (at_before x z past earlier run stands k) in
      let taken = proposal_taken z.before v (subst (λ (c : Call). (call_of z.before c).reply.outcome ≡ Ok tt) is done) in
      record {
        made = ap (λ (i : ℕ). (begun s i).made) (sym own) ∙ sym before.0 ∙ taken.made;
        room = subst (λ (n : ℕ). n < 9223372036854775807) (before.1 own ∙ slot) taken.not_spent;
        fits = taken.value_fits;
      }
    where
      P : RunStep → List RunStep → Type 0
      P x past = (x.before.made ≡ (begun s x.member).made) × (x.member ≡ l → x.before.state.rounds.core.slot ≡ slot_at l (entries_of_steps past))

      follows : RunFollows s terms P
      follows shards past k c stands = (k.made c.member, λ own. (leading_before s terms shards past k c stands own).slot)

  -- what is known at a step of the leader that brings an answer
  module _ (t v : ℕ) (known : Proposes t v) (shards : ℕ → Shard) (past : List RunStep) (k : Invariant s terms shards past) (p : LeaderProposed s t v past)
      (here : slot_at l (entries_of_steps past) ≡ t) (within : (n w : ℕ) → CommitAt n w (entries_of_steps past) → CommitAt n w (entries_of_steps (run_steps s cs)))
      (d : Delivery) (sent : AnswerSent s past t d.message) (answer : is_answer s t (Some d) ≡ true) where
    abbrev old : Shard
    old = shards s.first_leader

    abbrev core : Core
    core = old.state.rounds.core

    abbrev last : Option ℕ
    last = d.message.last_v

    abbrev w : ℕ
    w = sent.v

    valid : Valid s l old
    valid = k.valid l

    made : old.made ≡ Ok tt
    made = k.made l ∙ known.made

    limits : within_limits (member_settings s l) ≡ true
    limits = valid_within s l old valid made

    small : l < 64
    small = (numbers_within s l limits).leader_small

    slot : core.slot ≡ t
    slot = k.leading.slot ∙ here

    -- what the leader has proposed it holds, so the answer has its value
    held : (u : ℕ) → LeaderProposed s t u past → (is_some core.paxos.max_rv ≡ true) × (held_value core.paxos.max_rv ≡ u)
    held u q = k.leading.holds_own u (subst (λ (m : ℕ). LeaderProposed s m u past) (sym slot) q)

    same_value_lem : v ≡ w
    same_value_lem = sym (held v p).1 ∙ (held w sent.proposed).1

    fitting : fits_held core.paxos.max_rv (round_of 0 l) w ≡ true
    fitting =
        held_fits s terms.multi_paxos small core.paxos.max_rv w (leaders_small old valid.lasting made).in_held
        (k.leading.in_start (held w sent.proposed).0)
        (held w sent.proposed).1

    -- the last values, in the whole run
    in_whole : (m : ℕ) (u : Option ℕ) → LastAt m u (entries_of_steps past) → LastAt m u (entries_of_steps run)
    in_whole zero u h = h
    in_whole (suc m) u (x, is, c) = (x, is, within m x c)

    carried : LastAt core.slot last (entries_of_steps run)
    carried = in_whole core.slot last (subst (λ (m : ℕ). LastAt m last (entries_of_steps past)) (sym slot) sent.carried)

    own_last : last ≡ core.last_v
    own_last = same_last (entries_of_steps run) claim core.slot last core.last_v carried (in_whole core.slot core.last_v (k.last_value l))

    -- the shard and the answer as HostCauses.antt has them
    same_shard : old ≡ leader_shard s terms.multi_paxos limits terms.live_leader old.state d w
    same_shard = λ z. record { made = made z; settings = valid.own_settings z; state = old.state }

    same_message : d.message.msg ≡ Accept core.slot (round_of 0 l) w
    same_message =
        sent.is
        ∙ ap₂ (λ (m : ℕ) (r : PaxosRound). Accept m r w) (sym slot) (ap unwrap_or_default (sent.first ∙ start_is s.mode l terms.multi_paxos))

    same_answer : d ≡ the_answer s terms.multi_paxos limits terms.live_leader old.state d w
    same_answer = λ z. record {
      message = record { msg = same_message z; src = d.message.src; last_v = last };
      said = d.said;
      held_requester = d.held_requester;
    }

    number_given_lem : number_of_outcome (call_of old (Receive d)).reply.outcome ≡ first_of (host_causes s d)
    unfolding first_cause
    number_given_lem =
        number_is_first_cause lowest_best old (Receive d)
        ∙ ap₂ (λ (x : Shard) (y : Delivery). first_of (all_causes lowest_best x (Receive y))) same_shard same_answer
        ∙ only_host_causes s terms.multi_paxos limits terms.live_leader old.state d w (live_source s t (Some d) answer)
        (subst (λ (m : ℕ). m < 9223372036854775807) (sym slot) known.room)
        (subst (λ (u : ℕ). u ≤ 9223372036854775807) same_value_lem known.fits)
        own_last
        (last_fits core.slot last carried)
        (is_start s terms.multi_paxos small core.paxos.round (leaders_small old valid.lasting made).in_round_lem (k.in_round_lem l))
        fitting

  -- An answer is refused for a cause that is the host's, with the number of the first of these, and is taken where there is none.
  pub refused_for_host : (t v : ℕ) (x : RunStep) (past : List RunStep) → AfterProposal s cs t v x past → (d : Delivery) → delivered x ≡ Some d → comes s t x ≡ true
      → number_of_outcome (reply_of x).outcome ≡ first_of (host_causes s d)
  refused_for_host t v x past after d is came =
      each_step s terms P follows cs legal x past after.stands after.leader t v (proposes t v x past after.stands after.proposed) after.proposed
      after.in_slot
      (λ n w c.
      record {
        entry = c.entry;
        earlier = c.earlier;
        stands = at_before (entry_of_step x) c.entry (entries_of_steps past) c.earlier (entries_of_steps run) (entry_stands_at x past run after.stands) c.stands;
        fast = c.fast;
        commit = c.commit;
      })
      d
      is
      (subst (λ (o : Option Delivery). is_answer s t o ≡ true) is (and_left (is_answer s t (delivered x)) (eqb x.member l) came))
    where
      P : RunStep → List RunStep → Type 0
      P x past =
          x.member ≡ l → (t v : ℕ) → Proposes t v → LeaderProposed s t v past → slot_at l (entries_of_steps past) ≡ t
          → ((n w : ℕ) → CommitAt n w (entries_of_steps past) → CommitAt n w (entries_of_steps run)) → (d : Delivery) → delivered x ≡ Some d
          → is_answer s t (Some d) ≡ true → number_of_outcome (reply_of x).outcome ≡ first_of (host_causes s d)

      follows : RunFollows s terms P
      follows shards past k c stands own t v known p here within d is answer =
          let call : c.call ≡ Receive d = received c.call d is in
          ap₂ (λ (i : ℕ) (y : Call). number_of_outcome (call_of (shards i) y).reply.outcome) own call
          ∙ number_given_lem t v known shards past k p here within d
          (answer_sent s past k.accepts t d c.member (subst (MayStand (entries_of_steps past) c.member) call stands) (is_accept s t d answer))
          answer

  -- ---- with a sound host

  -- where the host holds the value and each requester is a process, the answer is taken
  pub sound_taken : (t v : ℕ) (x : RunStep) (past : List RunStep) → AfterProposal s cs t v x past → comes s t x ≡ true → HostHolds (delivered x)
      → SoundRequesters s (delivered x) → is_done (reply_of x).outcome ≡ true
  unfolding first_of
  sound_taken t v x past after came holds sound = go (delivered x) refl holds sound
    where
      few : s.process_count ≤ 64
      few = (within_counts (member_settings s l) (valid_within s l (begun s l) (begun_valid s l) (proposes t v x past after.stands after.proposed).made)).most_processes

      go : (o : Option Delivery) → delivered x ≡ o → HostHolds o → SoundRequesters s o → is_done (reply_of x).outcome ≡ true
      go None is holds sound = absurd (not_both came (ap (λ (o : Option Delivery). is_answer s t o && eqb x.member l) is))
      go (Some d) is holds sound =
          done_of_none (reply_of x).outcome
          (refused_for_host t v x past after d is came ∙ simp (below_fits s.process_count few (requesters_in d) sound, sound, holds))

  -- an answer of a slot comes after the leader's proposal there
  after_answer_lem : (t : ℕ) (x : RunStep) (past : List RunStep) → At x past (run_steps s cs) → comes s t x ≡ true → (v : ℕ) × LeaderProposed s t v past
  after_answer_lem t x past stands came = each_step s terms P follows cs legal x past stands came
    where
      P : RunStep → List RunStep → Type 0
      P x past = comes s t x ≡ true → (v : ℕ) × LeaderProposed s t v past

      follows : RunFollows s terms P
      follows shards past k c stands came = by_call c.call stands (and_left (is_answer s t (delivery_in c.call)) (eqb c.member l) came)
        where
          by_call : (call : Call) → MayStand (entries_of_steps past) c.member call → is_answer s t (delivery_in call) ≡ true → (v : ℕ) × LeaderProposed s t v past
          by_call (Propose v) stands e = absurd (not_both e refl)
          by_call (StartRead tag arrival) stands e = absurd (not_both e refl)
          by_call (Receive d) stands e = let sent = answer_sent s past k.accepts t d c.member stands (is_accept s t d e) in (sent.v, sent.proposed)

  -- "no answer was refused": so it is, with a sound host.
  pub none_refused : (t v : ℕ) (x : RunStep) (past : List RunStep) → AfterProposal s cs t v x past → SoundAnswers s t (x ∷ past) → NoAnswerRefused s t (x ∷ past)
  none_refused t v x past after sound y (inl e) came =
      subst (λ (z : RunStep). is_done (reply_of z).outcome ≡ true) (sym e)
      (let now : comes s t x ≡ true = subst (λ (z : RunStep). comes s t z ≡ true) e came in
      sound_taken t v x past after now (sound x (inl refl) now).0 (sound x (inl refl) now).1)
  none_refused t v x past after sound y (inr k) came =
      let place = in_at y past k in
      let stands : At y place.0 run = at_before x y past place.0 run after.stands place.1 in
      let proposed = after_answer_lem t y place.0 stands came in
      let z = proposed.1 in
      let least : slot_at l (entries_of_steps z.1) ≤ slot_at l (entries_of_steps place.0) = slot_before l z.0 z.1 place.0 z.2 in
      let most : slot_at l (entries_of_steps place.0) ≤ slot_at l (entries_of_steps past) = slot_before l y place.0 past place.1 in
      let then-slot : slot_at l (entries_of_steps z.1) ≡ t = z.6 in
      let now : slot_at l (entries_of_steps past) ≡ t = after.in_slot in
      let own : y.member ≡ l = eqb-true y.member l (and_right (is_answer s t (delivered y)) (eqb y.member l) came) in
      let after-that : AfterProposal s cs t proposed.0 y place.0 = record { stands = stands; leader = own; proposed = z; in_slot = omega arith } in
      sound_taken t proposed.0 y place.0 after-that came (sound y (inr k) came).0 (sound y (inr k) came).1

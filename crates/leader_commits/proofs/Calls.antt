-- What a call on the leader's shard does, in a group that is led in its starting round: the engine's call, seen as the model's.
-- Assumes nothing.
use Rattle.std.specs.Prelude.{None, Some, Ok}
use Rattle.std.proofs.lemmas.Bool.{and_right as right_fails}
use mathlib.Core.Path.{◌≡◌, refl, sym, ap, subst, ◌∙◌}
use mathlib.Core.Logic.{◌⊎◌, inl, inr}
use mathlib.Core.Bool.{Bool, true, false, cond, not, ◌&&◌}
use Prim.Native.Nat.{ℕ, ◌≤◌, ◌<◌}
use native.Mathlib.Nat.{lt_of_lt_of_le}
use native.Mathlib.Omega.{arith}
use lib.Dec.{eqb}
use borrow.Author.Tests.{ne_eqb}
use Rattle.basics.proofs.Tests.{not_both}
use Rattle.message.specs.Modes.{is_multi_paxos}
use Rattle.message.specs.Rounds.{starting_round, next_leader_round, default_round}
use Rattle.message.proofs.NextLeader.{next_leader_own}
use Rattle.message.specs.declared.ConsensusMsg.{ConsensusMsg}
use Rattle.message.specs.declared.ConsensusMsg.TheVariants.{Prepare, Accept, ForwardRequest, Commit, ReadRequest, ReadResponse}
use Rattle.message.specs.declared.PFMode.{PFMode}
use Rattle.message.specs.declared.PFMode.TheVariants.{Paxos, MultiPaxos, MultiPaxos3P, EPaxos, Pando, SwiftPaxos}
use Rattle.message.specs.declared.PaxosRound.{PaxosRound}
use Rattle.message.specs.declared.Refusal.{Refusal}
use Rattle.basics.proofs.sets.Laws.{fits_members}
use Rattle.settings.specs.Questions.{is_live_replica, committer_in, committer_of, starting_round_of}
use Rattle.settings.specs.Settings.{within_limits}
use Rattle.settings.specs.declared.Settings.{Settings}
use Rattle.settings.proofs.Limits.{within_counts, within_members}
use Rattle.fast_state.specs.Adopt.{lowest_best}
use Rattle.calls.specs.declared.delivery.Delivery.{Delivery}
use Rattle.calls.specs.declared.Call.{Call}
use Rattle.calls.specs.declared.Call.TheVariants.{Propose, StartRead, Receive}
use Rattle.consensus.proofs.Decided.{by_decision}
use Rattle.consensus.specs.Call.{call_of}
use Rattle.consensus.specs.FirstCause.{number_alone}
use Rattle.consensus.specs.declared.Shard.{Shard}
use Rattle.agreement.specs.Model.{View, ModelMessage, prepare, accept, commit, other, Host, undecided, model_refused, quiet, model_on_accept, model_on_propose, model_on_message, ModelOutcome}
use Rattle.agreement.specs.Refinement.{model_outcome, AsModel}
use Rattle.group.specs.Claim.{member_settings, NotSwift}
use Rattle.group.specs.Steps.{RunStep, reply_of, is_done, delivery_in, delivered}
use Rattle.group.proofs.Calls.{kind_of, not_swift, seen_answer, view_shard, Valid, valid_within, call_ok}
use Rattle.group.proofs.Proposing.{leader_gathers}
use Rattle.group.proofs.Ties.{lowest_picks_best}
use Rattle.group.proofs.View.{round_number, leader_of, leader_of_lem, process_number, process_of, meaning_of, meaning_is, model_setup_of}
use Rattle.leader_commits.specs.Answers.{is_accept_of, is_answer, leader_hears}
use Rattle.leader_commits.proofs.Led.{Led, FromLed, Expected, Proposing, Accepting, propose_leader, accept_leader}

-- ---- the group as a led setup

-- it is led by the first leader
leader_starts : (m : PFMode) (l : ℕ) → is_multi_paxos m ≡ true → l < 64 → leader_of (round_number (starting_round m l)) ≡ l
leader_starts Paxos l e h = absurd (not_both e refl)
leader_starts MultiPaxos l e h =
    leader_of_lem (next_leader_round default_round l) (subst (λ (p : ℕ). p < 64) (sym (next_leader_own default_round l)) h) ∙ next_leader_own default_round l
leader_starts MultiPaxos3P l e h =
    leader_of_lem (next_leader_round default_round l) (subst (λ (p : ℕ). p < 64) (sym (next_leader_own default_round l)) h) ∙ next_leader_own default_round l
leader_starts EPaxos l e h = absurd (not_both e refl)
leader_starts Pando l e h = absurd (not_both e refl)
leader_starts SwiftPaxos l e h = absurd (not_both e refl)

pub claimed_mode : (m : PFMode) → is_multi_paxos m ≡ true → NotSwift m
claimed_mode Paxos e = tt
claimed_mode MultiPaxos e = tt
claimed_mode MultiPaxos3P e = tt
claimed_mode EPaxos e = tt
claimed_mode Pando e = tt
claimed_mode SwiftPaxos e = absurd (not_both e refl)

pub led_setup : (s : Settings) → is_multi_paxos s.mode ≡ true → s.committers ≡ None → s.first_leader < 64 → Led (model_setup_of s) s.first_leader
unfolding committer_in
led_setup s multi none small =
    record {
      starts_led_lem = multi;
      leads = leader_starts s.mode s.first_leader multi small;
      gathers = leader_gathers s s.mode (leader_of (round_number (starting_round_of s))) multi ∙ leader_starts s.mode s.first_leader multi small;
      no_committer = λ q. ap process_number (none_for q);
    }
  where
    none_for : (q : ℕ) → committer_of s (process_of q) ≡ process_of 0
    none_for q = simp (none, not_swift s.mode (claimed_mode s.mode multi))

-- the leader and the live replicas are processes
pub record NumbersInRun (s : Settings) : Type 0 where
  pub leader_small : s.first_leader < 64
  pub live_small : (p : ℕ) → is_live_replica s p ≡ true → p < 64

pub numbers_within : (s : Settings) (i : ℕ) → within_limits (member_settings s i) ≡ true → NumbersInRun s
numbers_within s i limits =
    let few : s.process_count ≤ 64 = (within_counts (member_settings s i) limits).most_processes in
    let members = within_members (member_settings s i) limits in
    record {
      leader_small = lt_of_lt_of_le members.leader_below few;
      live_small = λ p live. lt_of_lt_of_le (fits_members s.alive_replicas s.process_count members.live_fit p live) few;
    }

-- a shard that was not made refuses its calls; where one was made, the settings are within the limits
pub made_or_refused : (s : Settings) (i : ℕ) (shard : Shard) → Valid s i shard → (c : Call)
    → ((why : Refusal) × (call_of shard c ≡ number_alone why shard)) ⊎ (within_limits (member_settings s i) ≡ true)
made_or_refused s i shard valid c =
    by_decision lowest_best shard (λ r. ((why : Refusal) × (r ≡ number_alone why shard)) ⊎ (within_limits (member_settings s i) ≡ true)) c (λ why. inl (why, refl))
    (λ made room admitted. inr (valid_within s i shard valid made))

-- ---- a step, seen as the model's

abbrev pub seen_in : RunStep → ModelOutcome
seen_in x = seen_answer (call_of x.before x.call)

abbrev pub view_before : RunStep → View
view_before x = view_shard x.before

-- What a step of the leader does: it leaves what the leader knows, commits nothing, and no answer of this slot or a later one is heard and no
-- proposal taken; or it is a proposal that is taken; or it is an accept of the leader's slot that is taken.
pub data Does (s : Settings) (x : RunStep) : Type 0 where
  rests : (seen_in x).view ≡ view_before x → (seen_in x).decision ≡ undecided → ((t : ℕ) → (view_before x).slot ≤ t → leader_hears s t x ≡ false)
      → ((v : ℕ) → x.call ≡ Propose v → (reply_of x).outcome ≡ Ok tt → ⊥) → Does s x
  proposes : (v : ℕ) → x.call ≡ Propose v → Proposing s.first_leader (view_before x) v (seen_in x) → Does s x
  accepts : (d : Delivery) (slot : ℕ) (round : PaxosRound) (v : ℕ) → delivered x ≡ Some d → d.message.msg ≡ Accept slot round v
      → Accepting (model_setup_of s) s.first_leader (view_before x) d.message.src slot v (seen_in x) → NumbersInRun s → Does s x

-- ---- tests

abbrev is_propose : Call → Bool
is_propose (Propose v) = true
is_propose (StartRead tag arrival) = false
is_propose (Receive d) = false

abbrev is_accept_message : ModelMessage → Bool
is_accept_message (prepare s r a c v) = false
is_accept_message (accept s r v) = true
is_accept_message (commit s v) = false
is_accept_message other = false

module _ (s : Settings) (x : RunStep) where
  -- a call that brings no answer
  unheard : (t : ℕ) (c : Call) → x.call ≡ c → is_answer s t (delivery_in c) ≡ false → leader_hears s t x ≡ false
  unheard t c e f =
      ap (λ (b : Bool). (b && eqb x.member s.first_leader) && is_done (reply_of x).outcome) (ap (λ (c : Call). is_answer s t (delivery_in c)) e ∙ f)

  pub when_refused : seen_in x ≡ model_refused (view_before x) → Does s x
  when_refused r =
      rests (ap (λ (o : ModelOutcome). o.view) r) (ap (λ (o : ModelOutcome). o.decision) r)
      (λ t le. right_fails (is_answer s t (delivered x) && eqb x.member s.first_leader) _ not_done)
      (λ v e done. not_both (ap is_done done) not_done)
    where
      not_done : is_done (reply_of x).outcome ≡ false
      not_done = ap (λ (o : ModelOutcome). o.taken) r

  when_quiet : (c : Call) → x.call ≡ c → is_propose c ≡ false → (seen_in x).view ≡ view_before x → (seen_in x).decision ≡ undecided
      → ((t : ℕ) → (view_before x).slot ≤ t → is_answer s t (delivery_in c) ≡ false) → Does s x
  when_quiet c e no-proposal same no_commit no_answer =
      rests same no_commit (λ t le. unheard t c e (no_answer t le)) (λ v f done. not_both (ap is_propose (sym e ∙ f)) no-proposal)

module _ (s : Settings) (multi : is_multi_paxos s.mode ≡ true) (none : s.committers ≡ None) (live : is_live_replica s s.first_leader ≡ true) (numbers : NumbersInRun s)
    (x : RunStep) (at : (view_before x).round ≡ (model_setup_of s).voters.start) where
  abbrev l : ℕ
  l = s.first_leader

  abbrev y : View
  y = view_before x

  abbrev start : ℕ
  start = (model_setup_of s).voters.start

  led : Led (model_setup_of s) l
  led = led_setup s multi none numbers.leader_small

  by_proposal : (v : ℕ) → x.call ≡ Propose v → AsModel meaning_of (model_setup_of s) l y (kind_of (Propose v)) (seen_in x) → Does s x
  unfolding model_outcome
  by_proposal v e m = go m.0.allows refl m.1
    where
      taken : seen_in x ≡ model_on_propose (model_setup_of s) l y v → (model_on_propose (model_setup_of s) l y v ≡ model_refused y) ⊎ Proposing l y v (model_on_propose (model_setup_of s) l y v) → Does s x
      taken r (inl f) = when_refused s x (r ∙ f)
      taken r (inr p) = proposes v e (subst (Proposing l y v) (sym r) p)

      go : (b : Bool) → m.0.allows ≡ b → seen_in x ≡ cond b (model_on_propose (model_setup_of s) l y v) (model_refused y) → Does s x
      go true f r = taken r (propose_leader (model_setup_of s) l led y at v)
      go false f r = when_refused s x r

  -- a read leaves all as it is
  by_read : (tag arrival : ℕ) → x.call ≡ StartRead tag arrival → AsModel meaning_of (model_setup_of s) l y (kind_of (StartRead tag arrival)) (seen_in x) → Does s x
  by_read tag arrival e m = when_quiet s x (StartRead tag arrival) e refl m.0 m.1 (λ t le. refl)

  module _ (d : Delivery) (e : x.call ≡ Receive d) (m : AsModel meaning_of (model_setup_of s) l y (kind_of (Receive d)) (seen_in x)) where
    -- a message of the kind k is an answer of slot t only where k is an accept of it
    no_answer : (t : ℕ) (k : ConsensusMsg) → d.message.msg ≡ k → is_accept_of t k ≡ false → is_answer s t (delivery_in (Receive d)) ≡ false
    no_answer t k f g =
        ap (λ (b : Bool). b && (is_live_replica s d.message.src && not (eqb d.message.src l))) (ap (is_accept_of t) f ∙ g)

    -- a message that has no part in the agreement
    by_other : (k : ConsensusMsg) → d.message.msg ≡ k → meaning_of d.message ≡ other → ((t : ℕ) → is_accept_of t k ≡ false) → Does s x
    unfolding model_outcome model_on_message
    by_other k f no_part no-accept = go m
      where
        left : seen_in x ≡ quiet y → Does s x
        left r =
            when_quiet s x (Receive d) e refl (ap (λ (o : ModelOutcome). o.view) r) (ap (λ (o : ModelOutcome). o.decision) r)
            (λ t le. no_answer t k f (no-accept t))

        taken : (h : Host) (b : Bool) → seen_in x ≡ cond b (model_on_message (model_setup_of s) l y d.message.src h (meaning_of d.message)) (model_refused y) → Does s x
        taken h true r = left (r ∙ ap (model_on_message (model_setup_of s) l y d.message.src h) no_part)
        taken h false r = when_refused s x r

        go : AsModel meaning_of (model_setup_of s) l y (kind_of (Receive d)) (seen_in x) → Does s x
        go (inl (h, r)) = taken h h.allows r
        go (inr r) = when_quiet s x (Receive d) e refl r.1 r.2 (λ t le. no_answer t k f (no-accept t))

    -- an accept of the starting round
    by_accept : (slot : ℕ) (round : PaxosRound) (v : ℕ) → d.message.msg ≡ Accept slot round v → round_number (Some round) ≡ start → Does s x
    unfolding model_outcome model_on_message
    by_accept slot round v f first = go m
      where
        is_accept : meaning_of d.message ≡ accept slot start v
        is_accept = meaning_is d.message (Accept slot round v) f ∙ ap (λ (n : ℕ). accept slot n v) first

        handled : (h : Host) → seen_in x ≡ model_on_accept (model_setup_of s) l y d.message.src slot start v h
            → ((slot < y.slot) × (model_on_accept (model_setup_of s) l y d.message.src slot start v h ≡ quiet y))
            ⊎ ((model_on_accept (model_setup_of s) l y d.message.src slot start v h ≡ model_refused y) ⊎ Accepting (model_setup_of s) l y d.message.src slot v
            (model_on_accept (model_setup_of s) l y d.message.src slot start v h))
            → Does s x
        handled h r (inl older) =
            when_quiet s x (Receive d) e refl (ap (λ (o : ModelOutcome). o.view) (r ∙ older.1)) (ap (λ (o : ModelOutcome). o.decision) (r ∙ older.1))
            (λ t le. let before : slot < y.slot = older.0 in no_answer t (Accept slot round v) f (ne_eqb slot t (λ same. omega (arith, le, before, same))))
        handled h r (inr (inl out)) = when_refused s x (r ∙ out)
        handled h r (inr (inr a)) = accepts d slot round v (ap delivery_in e) f (subst (Accepting (model_setup_of s) l y d.message.src slot v) (sym r) a) numbers

        taken : (h : Host) (b : Bool) → seen_in x ≡ cond b (model_on_message (model_setup_of s) l y d.message.src h (meaning_of d.message)) (model_refused y) → Does s x
        taken h true r =
            handled h (r ∙ ap (model_on_message (model_setup_of s) l y d.message.src h) is_accept) (accept_leader (model_setup_of s) l led y at live d.message.src slot v h)
        taken h false r = when_refused s x r

        go : AsModel meaning_of (model_setup_of s) l y (kind_of (Receive d)) (seen_in x) → Does s x
        go (inl (h, r)) = taken h h.allows r
        go (inr r) = absurd (not_both refl (ap is_accept_message (sym is_accept ∙ r.0)))

    by_message : Expected meaning_of start l (kind_of (Receive d)) → ((slot v : ℕ) → d.message.msg ≡ Commit slot v → ⊥) → (k : ConsensusMsg)
        → d.message.msg ≡ k → Does s x
    by_message f no_commit (Prepare slot round rv) g = absurd (subst (FromLed start l f.0 f.1) (meaning_is d.message (Prepare slot round rv) g) f.2)
    by_message f no_commit (Accept slot round v) g =
        by_accept slot round v g (subst (FromLed start l f.0 f.1) (meaning_is d.message (Accept slot round v) g) f.2)
    by_message f no_commit (ForwardRequest v) g = by_other (ForwardRequest v) g (meaning_is d.message (ForwardRequest v) g) (λ t. refl)
    by_message f no_commit (Commit slot v) g = absurd (no_commit slot v g)
    by_message f no_commit (ReadRequest id) g = by_other (ReadRequest id) g (meaning_is d.message (ReadRequest id) g) (λ t. refl)
    by_message f no_commit (ReadResponse id next) g = by_other (ReadResponse id next) g (meaning_is d.message (ReadResponse id next) g) (λ t. refl)

  -- A step of the leader, where no Prepare, no Accept of another round and no Commit comes.
  pub leader_does : Valid s s.first_leader x.before → Expected meaning_of (model_setup_of s).voters.start s.first_leader (kind_of x.call)
      → ((d : Delivery) (slot v : ℕ) → x.call ≡ Receive d → d.message.msg ≡ Commit slot v → ⊥) → Does s x
  leader_does valid f no_commit = go x.call refl (call_ok s l (claimed_mode s.mode multi) lowest_best lowest_picks_best x.before valid x.call).as_model_lem f
    where
      go : (c : Call) → x.call ≡ c → AsModel meaning_of (model_setup_of s) l y (kind_of c) (seen_in x) → Expected meaning_of start l (kind_of c) → Does s x
      go (Propose v) e m f = by_proposal v e m
      go (StartRead tag arrival) e m f = by_read tag arrival e m
      go (Receive d) e m f = by_message d e m f (λ slot v. no_commit d slot v e) d.message.msg refl

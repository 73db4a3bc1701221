-- What was sent in a run under the terms: every Accept is of the starting round, its value was proposed in its slot by the leader, and the last value
-- that it carries is what was committed in the slot before.
-- Assumes nothing.
use Rattle.std.specs.Prelude.{Option, None, Some, Ok, Err}
use Rattle.message.specs.Outcomes.{Outcome}
use Rattle.calls.specs.Commits.{committed_slot}
use Rattle.calls.specs.declared.CommittedSlot.{CommittedSlot}
use mathlib.Core.Path.{◌≡◌, refl, sym, ap, subst, ◌∙◌}
use mathlib.Core.Logic.{inl, inr}
use mathlib.Core.Bool.{Bool, true, false, not, ◌&&◌, ◌||◌}
use mathlib.Core.List.{List, [], ◌∷◌}
use Prim.Native.Nat.{ℕ, zero, suc, ◌≤◌, ◌<◌}
use native.Mathlib.Omega.{arith}
use lib.Dec.{eqb, ltb, leb}
use borrow.Author.Tests.{ltb-false, leb-false, eqb-true, not-false}
use Rattle.basics.specs.Lists.{In}
use Rattle.basics.proofs.Tests.{not_both}
use Rattle.message.specs.Modes.{is_multi_paxos}
use Rattle.message.specs.declared.ConsensusMessage.{ConsensusMessage}
use Rattle.message.specs.declared.ConsensusMsg.{ConsensusMsg}
use Rattle.message.specs.declared.ConsensusMsg.TheVariants.{Prepare, Accept, ForwardRequest, Commit, ReadRequest, ReadResponse}
use Rattle.message.specs.declared.PaxosRound.{PaxosRound}
use Rattle.settings.specs.Questions.{starting_round_of}
use Rattle.settings.specs.declared.Settings.{Settings}
use Rattle.fast_state.specs.Adopt.{lowest_best}
use Rattle.steps.specs.declared.Outgoing.{Outgoing}
use Rattle.calls.specs.declared.delivery.Delivery.{Delivery}
use Rattle.calls.specs.declared.Call.{Call}
use Rattle.calls.specs.declared.Call.TheVariants.{Propose, StartRead, Receive}
use Rattle.consensus.specs.Call.{call_of}
use Rattle.consensus.specs.FirstCause.{any_above, ahead_of, proposal_causes, admission_causes, handling_causes, unmade, all_causes, ByFirstCause}
use Rattle.consensus.specs.Rows.{Row, gives, then, NoneHolds}
use Rattle.consensus.specs.declared.Answer.{Answer}
use Rattle.consensus.specs.declared.Shard.{Shard}
use Rattle.consensus.proofs.Refusals.{by_first_cause}
use Rattle.group.specs.Claim.{MemberCall, Entry, messages_of, MayStand, CommitAt, Claim, plus_commit, slot_at}
use Rattle.group.specs.Steps.{RunStep, reply_of, is_done, step_of, entry_of_step, entries_of_steps}
use Rattle.group.proofs.Calls.{Valid}
use Rattle.group.proofs.Invariants.{CommitOfSlot}
use Rattle.leader_commits.specs.Answers.{is_accept_of, LeaderProposed}
use Rattle.group.proofs.Handlers.{each_in}
use Rattle.leader_commits.proofs.Carrying.{CarriesIn, AskedFor, Carries, last_after, CallCarries, NoPrepare, call_carries}

-- ---- the last value

-- the last value at a slot: none at slot 0, and else what was committed in the slot before
abbrev pub LastAt : ℕ → Option ℕ → List Entry → Type 0
LastAt zero last run = last ≡ None
LastAt (suc n) last run = (w : ℕ) × (last ≡ Some w) × CommitAt n w run

commit_later : (e : Entry) (run : List Entry) (n w : ℕ) → CommitAt n w run → CommitAt n w (e ∷ run)
commit_later e run n w c = record { entry = c.entry; earlier = c.earlier; stands = inr c.stands; fast = c.fast; commit = c.commit }

pub last_later : (e : Entry) (run : List Entry) (n : ℕ) (last : Option ℕ) → LastAt n last run → LastAt n last (e ∷ run)
last_later e run zero last h = h
last_later e run (suc n) last (w, is, c) = (w, is, commit_later e run n w c)

-- a call moves both on together
pub last_moves : (e : Entry) (run : List Entry) (n : ℕ) (last : Option ℕ) → LastAt n last run → CommitOfSlot n e.reply.commit
    → LastAt (plus_commit e.reply.commit n) (last_after e.reply.commit last) (e ∷ run)
last_moves e run n last h own = go e.reply.commit refl own
  where
    go : (c : Option CommittedSlot) → e.reply.commit ≡ c → CommitOfSlot n c → LastAt (plus_commit c n) (last_after c last) (e ∷ run)
    go None is own = last_later e run n last h
    go (Some commit) is own =
        (commit.v, refl, record { entry = e; earlier = run; stands = inl (refl, refl); fast = commit.fast; commit = is ∙ ap (λ (m : ℕ). committed_slot m commit.v commit.fast) own })

-- where the claim holds a slot has one last value
pub same_last : (run : List Entry) → Claim run → (n : ℕ) (a b : Option ℕ) → LastAt n a run → LastAt n b run → a ≡ b
same_last run claim zero a b h k = h ∙ sym k
same_last run claim (suc n) a b (v, is, c) (w, also-is, d) = is ∙ ap Some ((claim.agree n v n w c d).0 refl).1 ∙ sym also-is

-- ---- causes

pub none_behind : (rows rest : List Row) → NoneHolds (then rows rest) → NoneHolds rest
unfolding then
none_behind [] rest h = h
none_behind (row ∷ rows) rest (e, h) = none_behind rows rest h

-- a call that is not refused: no cause holds
pub taken_none : (shard : Shard) (c : Call) → (call_of shard c).reply.outcome ≡ Ok tt → NoneHolds (all_causes lowest_best shard c)
taken_none shard c done = go (by_first_cause lowest_best shard c)
  where
    go : ByFirstCause lowest_best shard c (call_of shard c) → NoneHolds (all_causes lowest_best shard c)
    go (inl (e, none)) = none
    go (inr (why, e, first)) = absurd (not_both (ap is_done done) (ap (λ (r : Answer). is_done r.reply.outcome) e))

-- a proposal that is not refused
pub record ProposalTaken (shard : Shard) (v : ℕ) : Type 0 where
  pub made : shard.made ≡ Ok tt
  pub not_spent : shard.state.rounds.core.slot < 9223372036854775807
  pub value_fits : v ≤ 9223372036854775807
  pub by_leader : is_multi_paxos shard.settings.mode ≡ true → shard.settings.my_pid ≡ shard.settings.first_leader

pub proposal_taken : (shard : Shard) (v : ℕ) → (call_of shard (Propose v)).reply.outcome ≡ Ok tt → ProposalTaken shard v
unfolding then any_above
proposal_taken shard v done = go shard.made refl (taken_none shard (Propose v) done)
  where
    slot : ℕ
    slot = shard.state.rounds.core.slot

    go : (o : Outcome) → shard.made ≡ o → NoneHolds (then (unmade o) (gives 2 (leb 9223372036854775807 slot) ∷ proposal_causes shard v)) → ProposalTaken shard v
    go (Err why) is (no_way, rest) = absurd (not_both refl no_way)
    go (Ok tt) is (spent, (large, (part, (round, (free, (other, rest)))))) =
        record {
          made = is;
          not_spent = leb-false 9223372036854775807 slot spent;
          value_fits = ltb-false 9223372036854775807 v (or_first (ltb 9223372036854775807 v) large);
          by_leader = λ multi. eqb-true _ _ (leads multi other);
        }
      where
        or_first : (a : Bool) → (a || false) ≡ false → a ≡ false
        or_first true e = e
        or_first false e = refl

        leads : is_multi_paxos shard.settings.mode ≡ true
            → (is_multi_paxos shard.settings.mode && not (eqb shard.settings.my_pid shard.settings.first_leader)) ≡ false
            → eqb shard.settings.my_pid shard.settings.first_leader ≡ true
        leads multi e = not-false _ (sym (ap (λ (b : Bool). b && not (eqb shard.settings.my_pid shard.settings.first_leader)) multi) ∙ e)

-- what a call sends, it sends where it is not refused
sent_taken : (shard : Shard) (c : Call) (o : Outgoing) → In o (messages_of (call_of shard c).reply.messages) → (call_of shard c).reply.outcome ≡ Ok tt
sent_taken shard c o h = go (by_first_cause lowest_best shard c)
  where
    go : ByFirstCause lowest_best shard c (call_of shard c) → (call_of shard c).reply.outcome ≡ Ok tt
    go (inl (e, none)) = e
    go (inr (why, e, first)) = absurd (subst (λ (r : Answer). In o (messages_of r.reply.messages)) e h)

-- an Accept that is not refused is not ahead
not_ahead : (shard : Shard) (d : Delivery) (slot : ℕ) (round : PaxosRound) (v : ℕ) → d.message.msg ≡ Accept slot round v
    → (call_of shard (Receive d)).reply.outcome ≡ Ok tt → slot ≤ shard.state.rounds.core.slot
unfolding then
not_ahead shard d slot round v is done = go (none_behind (unmade shard.made) _ (taken_none shard (Receive d) done))
  where
    go : NoneHolds
        (gives 2 (leb 9223372036854775807 shard.state.rounds.core.slot)
        ∷ then (admission_causes shard d) (handling_causes lowest_best shard.settings shard.state.rounds d d.message.msg))
        → slot ≤ shard.state.rounds.core.slot
    go (spent, (large, (process, (ahead, rest)))) =
        ltb-false shard.state.rounds.core.slot slot (sym (ap (ahead_of shard.state.rounds.core.slot) is) ∙ ahead)

-- ---- Accepts

module _ (s : Settings) where
  abbrev l : ℕ
  l = s.first_leader

  -- an Accept that was sent
  abbrev pub SentIn : List RunStep → Option ℕ → ConsensusMsg → Type 0
  SentIn past last (Prepare slot round rv) = Unit {0}
  SentIn past last (Accept slot round v) = (Some round ≡ starting_round_of s) × LeaderProposed s slot v past × LastAt slot last (entries_of_steps past)
  SentIn past last (ForwardRequest v) = Unit {0}
  SentIn past last (Commit slot v) = Unit {0}
  SentIn past last (ReadRequest id) = Unit {0}
  SentIn past last (ReadResponse id next) = Unit {0}

  abbrev pub SentAccepts : List RunStep → Type 0
  SentAccepts past =
      (e : Entry) → In e (entries_of_steps past) → (o : Outgoing) → In o (messages_of e.reply.messages) → SentIn past o.message.last_v o.message.msg

  proposed_later : (x : RunStep) (past : List RunStep) (t v : ℕ) → LeaderProposed s t v past → LeaderProposed s t v (x ∷ past)
  proposed_later x past t v (z, earlier, at, own, is, done, slot) = (z, earlier, inr at, own, is, done, slot)

  sent_later : (x : RunStep) (past : List RunStep) (last : Option ℕ) (m : ConsensusMsg) → SentIn past last m → SentIn (x ∷ past) last m
  sent_later x past last (Prepare slot round rv) h = tt
  sent_later x past last (Accept slot round v) (first, proposed, carried) =
      (first, proposed_later x past slot v proposed, last_later (entry_of_step x) (entries_of_steps past) slot last carried)
  sent_later x past last (ForwardRequest v) h = tt
  sent_later x past last (Commit slot v) h = tt
  sent_later x past last (ReadRequest id) h = tt
  sent_later x past last (ReadResponse id next) h = tt

  -- a message that stands in the list
  delivered_sent : (past : List RunStep) → SentAccepts past → (d : Delivery) (member : ℕ) → MayStand (entries_of_steps past) member (Receive d)
      → SentIn past d.message.last_v d.message.msg
  delivered_sent past sent d member (e, o, in-past, from, in-reply, same, to) =
      subst (λ (m : ConsensusMessage). SentIn past m.last_v m.msg) same (sent e in-past o in-reply)

  -- an answer of slot t that was sent
  pub record AnswerSent (past : List RunStep) (t : ℕ) (message : ConsensusMessage) : Type 0 where
    pub round : PaxosRound
    pub v : ℕ
    pub is : message.msg ≡ Accept t round v
    pub first : Some round ≡ starting_round_of s
    pub proposed : LeaderProposed s t v past
    pub carried : LastAt t message.last_v (entries_of_steps past)

  pub answer_sent : (past : List RunStep) → SentAccepts past → (t : ℕ) (d : Delivery) (member : ℕ) → MayStand (entries_of_steps past) member (Receive d)
      → is_accept_of t d.message.msg ≡ true → AnswerSent past t d.message
  answer_sent past sent t d member stands accept = go d.message.msg refl (delivered_sent past sent d member stands) accept
    where
      go : (m : ConsensusMsg) → d.message.msg ≡ m → SentIn past d.message.last_v m → is_accept_of t m ≡ true → AnswerSent past t d.message
      go (Prepare slot round rv) is h e = absurd (not_both e refl)
      go (Accept slot round v) is (first, proposed, carried) e =
          let own : slot ≡ t = eqb-true slot t e in
          record {
            round = round;
            v = v;
            is = is ∙ ap (λ (n : ℕ). Accept n round v) own;
            first = first;
            proposed = subst (λ (n : ℕ). LeaderProposed s n v past) own proposed;
            carried = subst (λ (n : ℕ). LastAt n d.message.last_v (entries_of_steps past)) own carried;
          }
      go (ForwardRequest v) is h e = absurd (not_both e refl)
      go (Commit slot v) is h e = absurd (not_both e refl)
      go (ReadRequest id) is h e = absurd (not_both e refl)
      go (ReadResponse id next) is h e = absurd (not_both e refl)

  -- ---- one call more

  module _ (multi : is_multi_paxos s.mode ≡ true) (shards : ℕ → Shard) (past : List RunStep) (sent : SentAccepts past) (c : MemberCall)
      (stands : MayStand (entries_of_steps past) c.member c.call) (valid : Valid s c.member (shards c.member)) (none : NoPrepare c.call)
      (last : LastAt (shards c.member).state.rounds.core.slot (shards c.member).state.rounds.core.last_v (entries_of_steps past))
      (slots : c.member ≡ s.first_leader → (shards c.member).state.rounds.core.slot ≡ slot_at s.first_leader (entries_of_steps past)) where
    abbrev old : Shard
    old = shards c.member

    abbrev n : ℕ
    n = old.state.rounds.core.slot

    abbrev step : RunStep
    step = step_of shards c

    -- only the leader proposes
    proposer : (v : ℕ) → c.call ≡ Propose v → (reply_of step).outcome ≡ Ok tt → c.member ≡ l
    proposer v is done =
        let taken = proposal_taken old v (subst (λ (x : Call). (call_of old x).reply.outcome ≡ Ok tt) is done) in
        let own = valid.own_settings in
        ap (λ (x : Settings). x.my_pid) (sym own) ∙ taken.by_leader (ap (λ (x : Settings). is_multi_paxos x.mode) own ∙ multi)
        ∙ ap (λ (x : Settings). x.first_leader) own

    asked_for : (call : Call) → c.call ≡ call → (reply_of step).outcome ≡ Ok tt → (round : PaxosRound) (v : ℕ) → AskedFor old call round v
        → (Some round ≡ starting_round_of s) × LeaderProposed s n v (step ∷ past)
    asked_for (Propose w) is done round v (first, same) =
        let own = proposer w is done in
        (first ∙ ap starting_round_of valid.own_settings, (step, past, inl (refl, refl), own, is ∙ ap Propose same, done, sym (slots own)))
    asked_for (StartRead tag arrival) is done round v no_way = absurd no_way
    asked_for (Receive d) is done round v (slot, accept, reaches) =
        let sent-before : SentIn past d.message.last_v (Accept slot round v) =
        subst (SentIn past d.message.last_v) accept (delivered_sent past sent d c.member (subst (MayStand (entries_of_steps past) c.member) is stands)) in
        let same : slot ≡ n = omega (arith, reaches, not_ahead old d slot round v accept (subst (λ (x : Call). (call_of old x).reply.outcome ≡ Ok tt) is done)) in
        (sent-before.0, proposed_later step past n v (subst (λ (m : ℕ). LeaderProposed s m v past) same sent-before.1))

    pub now_sent : SentAccepts (step ∷ past)
    now_sent e (inr earlier) o m = sent_later step past o.message.last_v o.message.msg (sent e earlier o m)
    now_sent e (inl same) o m =
        by_kind o.message.msg o.message.last_v (each_in (Carries old c.call) (reply_of step).messages o carries.accepts sent_here)
      where
        sent_here : In o (messages_of (reply_of step).messages)
        sent_here = subst (λ (x : Entry). In o (messages_of x.reply.messages)) same m

        carries : CallCarries old c.call (call_of old c.call)
        carries = call_carries old (ap (λ (x : Settings). is_multi_paxos x.mode) valid.own_settings ∙ multi) c.call none

        by_kind : (k : ConsensusMsg) (u : Option ℕ) → CarriesIn n old.state.rounds.core.last_v (AskedFor old c.call) u k
            → SentIn (step ∷ past) u k
        by_kind (Prepare slot round rv) u h = tt
        by_kind (Accept slot round v) u (own, carried, asked) =
            let a = asked_for c.call refl (sent_taken old c.call o sent_here) round v asked in
            let now : LastAt n u (entries_of_steps (step ∷ past)) =
            last_later (entry_of_step step) (entries_of_steps past) n u (subst (λ (x : Option ℕ). LastAt n x (entries_of_steps past)) (sym carried) last) in (
              a.0,
              subst (λ (m : ℕ). LeaderProposed s m v (step ∷ past)) (sym own) a.1,
              subst
                  (λ (m : ℕ). LastAt m u (entries_of_steps (step ∷ past))) (sym own) now,
            )
        by_kind (ForwardRequest v) u h = tt
        by_kind (Commit slot v) u h = tt
        by_kind (ReadRequest id) u h = tt
        by_kind (ReadResponse id next) u h = tt

-- Demand 3, with request E9: in every mode but SwiftPaxos, with every settings, every legal list of calls meets the claim, whichever of the
-- best-scored proposers each adoption takes.
-- Assumes nothing.
use Rattle.std.specs.Prelude.{Option, None, Some, Ok, Err}
use Rattle.message.specs.Outcomes.{Outcome}
use Rattle.calls.specs.Commits.{committed_slot}
use Rattle.calls.specs.declared.CommittedSlot.{CommittedSlot}
use mathlib.Core.Path.{◌≡◌, refl, sym, ap, ap₂, subst, ◌∙◌}
use mathlib.Core.Logic.{◌⊎◌, inl, inr}
use mathlib.Core.Bool.{Bool, true, false, cond, not, ◌&&◌}
use mathlib.Core.List.{List, [], ◌∷◌}
use Prim.Native.Nat.{ℕ, suc, ◌+◌, ◌≤◌, ◌<◌}
use native.Mathlib.Nat.{zero-lt-suc, le_trans, lt_of_lt_of_le}
use native.Mathlib.Omega.{arith}
use lib.Dec.{T, eqb, ltb, leb}
use borrow.Author.Tests.{lt-ltb}
use Rattle.basics.proofs.Tests.{either}
use Rattle.basics.specs.sets.Sets.{contains, count, size, fits}
use Rattle.basics.proofs.sets.Counting.{count_le}
use Rattle.basics.proofs.sets.Laws.{fits_members}
use Rattle.message.specs.Modes.{is_multi_paxos}
use Rattle.message.specs.Rounds.{starting_round}
use Rattle.message.specs.declared.ConsensusMessage.{ConsensusMessage}
use Rattle.message.specs.declared.ConsensusMsg.{ConsensusMsg}
use Rattle.message.specs.declared.ConsensusMsg.TheVariants.{Prepare, Accept, ForwardRequest, Commit, ReadRequest, ReadResponse}
use Rattle.message.specs.declared.PFMode.{PFMode}
use Rattle.message.specs.declared.PFMode.TheVariants.{Paxos, MultiPaxos, MultiPaxos3P, EPaxos, Pando, SwiftPaxos}
use Rattle.message.specs.declared.Refusal.{Refusal}
use Rattle.message.specs.declared.Refusal.TheVariants.{SettingsOutsideLimits}
use Rattle.settings.specs.Settings.{counts_fit, members_fit, committers_fit, mode_fits, within_limits}
use Rattle.settings.specs.declared.Settings.{Settings}
use Rattle.settings.proofs.Limits.{within_counts, within_members}
use Rattle.quorum.specs.Quorum.{row_of}
use Rattle.settings.specs.Questions.{quorums_of, delegate_of, delegate_in}
use Rattle.consensus.proofs.Refusals.{unmade_refuses}
use Rattle.consensus.specs.Call.{new_shard}
use Rattle.consensus.specs.declared.Answer.{Answer}
use Rattle.calls.specs.declared.Call.{Call}
use Rattle.calls.specs.declared.Call.TheVariants.{Propose, StartRead, Receive}
use Rattle.consensus.specs.declared.Shard.{Shard}
use Rattle.steps.specs.declared.Destination.{Destination}
use Rattle.steps.specs.declared.Destination.TheVariants.{One, All}
use Rattle.steps.specs.declared.SentMessages.{SentMessages}
use Rattle.steps.specs.declared.Outgoing.{Outgoing}
use Rattle.agreement.specs.Engine.{CallKind, LogEvent, EngineClaim, LegalCalls, SentInRun, log_with_commit, log_with_proposal, empty_run, run_of_calls, run_with_call}
use Rattle.basics.specs.Lists.{In}
use Rattle.agreement.specs.Engine as engine
use Rattle.agreement.specs.Model.{ModelSetup, ModelDestination}
use Rattle.agreement.specs.Model as model
use Rattle.agreement.specs.Refinement.{SetupRules, Refines, AsModel}
use Rattle.agreement.specs.Voting.{VotersRules}
use Rattle.agreement.proofs.Refinement.{refines_claim}
use Rattle.agreement.proofs.Tests.{is_true}
use Rattle.group.specs.Claim.{member_settings, begun, PicksBest, ProposerChoices, later_choices, ours, MemberCall, Entry, entry_of, after_call, entries_from, entries_with, entries, listed, messages_of, Reaches, SentTo, WasSent, MayStand, LegalFrom, LegalWith, Legal, At, plus_commit, slot_at, Proposed, Claim, NotSwift, LegalMade, entries_made}
use Rattle.group.proofs.Calls.{is_done, model_decision_of, seen_answer, ChosenCall, engine_of, view_shard, refuse_as_model, kind_of, begins_seen, Valid, call_ok}
use Rattle.group.proofs.Invariants.{begun_lasts}
use Rattle.group.proofs.Ties.{lowest_picks_best}
use Rattle.group.proofs.View.{round_number, leader_of, is_e_paxos, no_member, meaning_of, reached, destination_of, envelope, envelopes_of, envelopes, model_setup_of}

-- ---- the setup of a group

starts_in_round_lem : (m : PFMode) (l : ℕ) → T (is_multi_paxos m) → 1 ≤ round_number (starting_round m l)
starts_in_round_lem Paxos l t = absurd t
starts_in_round_lem MultiPaxos l t = omega arith
starts_in_round_lem MultiPaxos3P l t = omega arith
starts_in_round_lem EPaxos l t = absurd t
starts_in_round_lem Pando l t = absurd t
starts_in_round_lem SwiftPaxos l t = absurd t

own_round_later_lem : (m : PFMode) (l i : ℕ) → T (not (is_multi_paxos m)) → round_number (starting_round m l) < suc i
own_round_later_lem Paxos l i t = zero-lt-suc i
own_round_later_lem MultiPaxos l i t = absurd t
own_round_later_lem MultiPaxos3P l i t = absurd t
own_round_later_lem EPaxos l i t = zero-lt-suc i
own_round_later_lem Pando l i t = zero-lt-suc i
own_round_later_lem SwiftPaxos l i t = zero-lt-suc i

-- on the fast path

no_start_lem : (m : PFMode) (l : ℕ) → T (is_e_paxos m) → round_number (starting_round m l) ≡ 0
no_start_lem Paxos l t = absurd t
no_start_lem MultiPaxos l t = absurd t
no_start_lem MultiPaxos3P l t = absurd t
no_start_lem EPaxos l t = refl
no_start_lem Pando l t = absurd t
no_start_lem SwiftPaxos l t = absurd t

leads_own : (s : Settings) (m : PFMode) → T (is_e_paxos m) → (p : ℕ) → p < 64 → delegate_of s m (leader_of (suc p)) ≡ p
unfolding delegate_in
leads_own s Paxos t p l = absurd t
leads_own s MultiPaxos t p l = absurd t
leads_own s MultiPaxos3P t p l = absurd t
leads_own s EPaxos t p l = omega arith
leads_own s Pando t p l = absurd t
leads_own s SwiftPaxos t p l = absurd t

-- "EPaxos quorum max((3n−1)/4, majority)": it is a majority, and what it lacks of n is less than half a majority and one
module _ (n : ℕ) (few : n ≤ 64) where
  quorum_within : (b : Bool) → T b → (row_of n).majority ≤ cond b (row_of n).epaxos 65
  quorum_within true t = omega arith
  quorum_within false t = absurd t

  quorum_enough : (b : Bool) → T b → n + n < cond b (row_of n).epaxos 65 + cond b (row_of n).epaxos 65 + (row_of n).majority + 2
  quorum_enough true t = omega arith
  quorum_enough false t = absurd t

no_fast_quorum : (f : ℕ → Bool) (b : Bool) (q : ℕ) → T (not b) → count f 64 < cond b q 65
no_fast_quorum f true q t = absurd t
no_fast_quorum f false q t = let le = count_le f 64 in omega arith

voters_rules : (s : Settings) → within_limits (member_settings s 0) ≡ true → VotersRules (model_setup_of s).voters
unfolding size
voters_rules s limits =
    let counts = within_counts (member_settings s 0) limits in
    let members = within_members (member_settings s 0) limits in
    let few : s.replica_count ≤ 64 = le_trans counts.most_replicas counts.most_processes in
    record {
      replicas = s.replica_count;
      few = members.live_size;
      majority = omega arith;
      below = λ t m l. lt_of_lt_of_le (fits_members s.alive_replicas s.process_count members.live_fit m (is_true (contains s.alive_replicas m) l)) counts.most_processes;
      no_start = no_start_lem s.mode s.first_leader;
      leads = leads_own s s.mode;
      fast_large = quorum_within s.replica_count few (is_e_paxos s.mode);
      fast_enough = quorum_enough s.replica_count few (is_e_paxos s.mode);
      no_fast = no_fast_quorum (contains s.alive_replicas) (is_e_paxos s.mode) (quorums_of s).epaxos;
    }

pub setup_rules : (s : Settings) → within_limits (member_settings s 0) ≡ true → SetupRules (model_setup_of s)
setup_rules s limits =
    record {
      starts_in_round = starts_in_round_lem s.mode s.first_leader;
      own_round_later = λ t i. own_round_later_lem s.mode s.first_leader i t;
      own_round_fast = λ t i. refl;
      voters = voters_rules s limits;
    }

-- a group that was not made has nobody who votes
abbrev unmade_setup : Settings → ModelSetup
unmade_setup s =
    record {
      voters = record { count = 64; quorum = 65; fast_path = false; fast_quorum = 65; start = (model_setup_of s).voters.start; live = model.empty; delegate = (model_setup_of s).voters.delegate };
      leader = (model_setup_of s).leader;
      own_round = (model_setup_of s).own_round;
      starts_led = (model_setup_of s).starts_led;
      three_phases = (model_setup_of s).three_phases;
      committer = (model_setup_of s).committer;
    }

unmade_rules : (s : Settings) → SetupRules (unmade_setup s)
unmade_rules s =
    let none : count model.empty 64 ≤ 64 = count_le model.empty 64 in
    record {
      starts_in_round = starts_in_round_lem s.mode s.first_leader;
      own_round_later = λ t i. own_round_later_lem s.mode s.first_leader i t;
      own_round_fast = λ t i. absurd t;
      voters = record {
        replicas = 64;
        few = none;
        majority = omega arith;
        below = λ t. absurd t;
        no_start = λ t. absurd t;
        leads = λ t. absurd t;
        fast_large = λ t. absurd t;
        fast_enough = λ t. absurd t;
        no_fast = λ t. omega arith;
      };
    }

-- ---- settings within the limits, for one member or for all

mode_same : (s : Settings) (i j : ℕ) (m : PFMode) → mode_fits (member_settings s i) m ≡ mode_fits (member_settings s j) m
unfolding mode_fits
mode_same s i j Paxos = refl
mode_same s i j MultiPaxos = refl
mode_same s i j MultiPaxos3P = refl
mode_same s i j EPaxos = refl
mode_same s i j Pando = refl
mode_same s i j SwiftPaxos = refl

limits_same : (s : Settings) (i : ℕ) → i < s.process_count → within_limits (member_settings s i) ≡ within_limits (member_settings s 0)
unfolding within_limits counts_fit members_fit
limits_same s i l =
    let own : ltb i s.process_count ≡ true = lt-ltb i s.process_count l in
    let first : ltb 0 s.process_count ≡ true = lt-ltb 0 s.process_count (omega arith) in
    ap₂
    (λ (t u : Bool).
    counts_fit (member_settings s i)
    && (t && ltb s.first_leader s.process_count && fits s.alive_replicas s.process_count && leb (size s.alive_replicas) s.replica_count)
    && committers_fit s.committers s.process_count
    && u)
    (own ∙ sym first)
    (mode_same s i 0 s.mode)

-- ---- the engine refines the model

begun_view : (s : Settings) (i : ℕ) → view_shard (begun s i) ≡ model.model_initial (model_setup_of s).voters.start
unfolding new_shard
begun_view s i = λ z. record {
  slot = 0;
  round = (model_setup_of s).voters.start;
  holds = false;
  held_round = 0;
  held_proposer = 0;
  held_value = 0;
  prepared = no_member z;
  accepted = no_member z;
  answers = begins_seen s.mode z;
}

pub begun_valid : (s : Settings) (i : ℕ) → Valid s i (begun s i)
unfolding new_shard
begun_valid s i = record { own_settings = refl; lasting = begun_lasts (member_settings s i) }

made_refines : (s : Settings) → NotSwift s.mode → Refines (model_setup_of s) (engine_of s)
made_refines s claimed =
    record {
      view = view_shard;
      meaning = meaning_of;
      Valid = Valid s;
      initial_view = λ i l. begun_view s i;
      initial_valid = λ i l. begun_valid s i;
      answer_valid = λ c x v. (call_ok s c.of_member.member claimed c.choose c.picks_best x v c.of_member.call).valid;
      answer_as_model = λ c x v. (call_ok s c.of_member.member claimed c.choose c.picks_best x v c.of_member.call).as_model_lem;
    }

-- a shard that was not made
abbrev Unmade : Shard → Type 0
Unmade shard = (why : Refusal) × (shard.made ≡ Err why)

unmade_refines : (s : Settings) → within_limits (member_settings s 0) ≡ false → Refines (unmade_setup s) (engine_of s)
unfolding new_shard
unmade_refines s outside =
    record {
      view = view_shard;
      meaning = meaning_of;
      Valid = λ i shard. Unmade shard;
      initial_view = λ i l. begun_view s i;
      initial_valid = λ i l. (SettingsOutsideLimits, ap (λ (t : Bool). cond t (Ok tt) (Err SettingsOutsideLimits)) (limits_same s i l ∙ outside));
      answer_valid = λ c x u. subst (λ (r : Answer). Unmade r.shard) (sym (unmade_refuses c.choose x c.of_member.call u.0 u.1)) u;
      answer_as_model = λ c x u.
          subst (λ (r : Answer). AsModel meaning_of (unmade_setup s) c.of_member.member (view_shard x) (kind_of c.of_member.call) (seen_answer r))
          (sym (unmade_refuses c.choose x c.of_member.call u.0 u.1))
          (refuse_as_model (unmade_setup s) c.of_member.member (view_shard x) (kind_of c.of_member.call));
    }

-- ---- the claim of the engine's log

log_claim : (s : Settings) → NotSwift s.mode → (cs : List ChosenCall) → LegalCalls (engine_of s) (empty_run (engine_of s)) cs
    → EngineClaim (run_of_calls (engine_of s) (empty_run (engine_of s)) cs).log
log_claim s claimed cs legal = go (either (within_limits (member_settings s 0)))
  where
    go : (within_limits (member_settings s 0) ≡ true) ⊎ (within_limits (member_settings s 0) ≡ false)
        → EngineClaim (run_of_calls (engine_of s) (empty_run (engine_of s)) cs).log
    go (inl e) = refines_claim (model_setup_of s) (setup_rules s e) (engine_of s) (made_refines s claimed) cs legal
    go (inr e) = refines_claim (unmade_setup s) (unmade_rules s) (engine_of s) (unmade_refines s e) cs legal

-- ---- from the entries of a run to the engine's log

-- the messages that the entries handed back, and their log
abbrev sent_of : List Entry → List (engine.Sent ConsensusMessage)
sent_of [] = []
sent_of (e ∷ past) = engine.sent_with e.member (envelopes e.reply.messages) (sent_of past)

abbrev log_of : List Entry → List LogEvent
log_of [] = []
log_of (e ∷ past) = log_with_commit e.member (model_decision_of e.reply.commit) (log_with_proposal e.member (kind_of e.call) (is_done e.reply.outcome) (log_of past))

abbrev run_at : (ℕ → Shard) → List Entry → engine.Run Shard ConsensusMessage
run_at shards past = record { shards = shards; sent = sent_of past; log = log_of past }

-- the calls of a list, each with the choice for its place
abbrev chosen : (choices : ProposerChoices) → ((place : ℕ) → PicksBest (choices place)) → List MemberCall → List ChosenCall
chosen choices best [] = []
chosen choices best (c ∷ cs) = record { of_member = c; choose = choices 0; picks_best = best 0 } ∷ chosen (later_choices choices) (λ place. best (suc place)) cs

run_log : (s : Settings) (choices : ProposerChoices) (best : (place : ℕ) → PicksBest (choices place)) (shards : ℕ → Shard) (past : List Entry) (cs : List MemberCall)
    → (run_of_calls (engine_of s) (run_at shards past) (chosen choices best cs)).log ≡ log_of (entries_from choices shards past cs)
unfolding entries_made run_of_calls run_with_call
run_log s choices best shards past [] = refl
run_log s choices best shards past (c ∷ cs) =
    run_log s (later_choices choices) (λ place. best (suc place)) (after_call (choices 0) shards c) (entry_of (choices 0) shards c ∷ past) cs

-- a message that an entry handed back was sent
in_envelopes : (o : Outgoing) (ms : SentMessages) → In o (messages_of ms) → In (envelope o) (envelopes ms)
in_envelopes o ms m = first ms.first ms.second ms.third m
  where
    third : (c : Option Outgoing) → In o (listed c []) → In (envelope o) (envelopes_of c [])
    third None h = h
    third (Some z) (inl e) = inl (ap envelope e)
    third (Some z) (inr h) = absurd h

    second : (b c : Option Outgoing) → In o (listed b (listed c [])) → In (envelope o) (envelopes_of b (envelopes_of c []))
    second None c h = third c h
    second (Some z) c (inl e) = inl (ap envelope e)
    second (Some z) c (inr h) = inr (third c h)

    first : (a b c : Option Outgoing) → In o (listed a (listed b (listed c []))) → In (envelope o) (envelopes_of a (envelopes_of b (envelopes_of c [])))
    first None b c h = second b c h
    first (Some z) b c (inl e) = inl (ap envelope e)
    first (Some z) b c (inr h) = inr (second b c h)

in_sent_with : (x : engine.Sent ConsensusMessage) (i : ℕ) (os : List (engine.Envelope ConsensusMessage)) (l : List (engine.Sent ConsensusMessage)) → In x l → In x (engine.sent_with i os l)
in_sent_with x i [] l h = h
in_sent_with x i (o ∷ os) l h = inr (in_sent_with x i os l h)

in_own : (o : engine.Envelope ConsensusMessage) (i : ℕ) (os : List (engine.Envelope ConsensusMessage)) (l : List (engine.Sent ConsensusMessage)) → In o os → In (record { source = i; envelope = o }) (engine.sent_with i os l)
in_own o i [] l h = absurd h
in_own o i (x ∷ os) l (inl e) = inl (ap (λ (z : engine.Envelope ConsensusMessage). record { source = i; envelope = z }) e)
in_own o i (x ∷ os) l (inr h) = inr (in_own o i os l h)

in_sent : (e : Entry) (o : Outgoing) (past : List Entry) → In e past → In o (messages_of e.reply.messages) → In (record { source = e.member; envelope = envelope o }) (sent_of past)
in_sent e o [] h m = absurd h
in_sent e o (x ∷ past) (inl d) m =
    subst (λ (z : Entry). In (record { source = e.member; envelope = envelope o }) (engine.sent_with z.member (envelopes z.reply.messages) (sent_of past))) d
    (in_own (envelope o) e.member (envelopes e.reply.messages) (sent_of past) (in_envelopes o e.reply.messages m))
in_sent e o (x ∷ past) (inr h) m = in_sent_with (record { source = e.member; envelope = envelope o }) x.member (envelopes x.reply.messages) (sent_of past) (in_sent e o past h m)

-- sent with that destination of the model
abbrev SentAs : List Entry → ConsensusMessage → ModelDestination → Type 0
SentAs past message d = In (record { source = message.src; envelope = record { destination = d; message = message } }) (sent_of past)

was_sent : (past : List Entry) (message : ConsensusMessage) (member : ℕ) → WasSent past message member → SentAs past message model.all ⊎ SentAs past message (model.to member)
was_sent past message member w = by_kind message.msg sent w.6
  where
    sent : SentAs past message (destination_of w.1.destination message.msg)
    sent =
        subst (λ (p : ℕ). In (record { source = p; envelope = record { destination = destination_of w.1.destination message.msg; message = message } }) (sent_of past)) w.3
        (subst (λ (m : ConsensusMessage). In (record { source = w.0.member; envelope = record { destination = destination_of w.1.destination m.msg; message = m } }) (sent_of past)) w.5
        (in_sent w.0 w.1 past w.2 w.4))

    by_destination : (d : Destination) → SentAs past message (reached d) → Reaches message.src d member → SentAs past message model.all ⊎ SentAs past message (model.to member)
    by_destination (One p) h t = inr (subst (λ (q : ℕ). SentAs past message (model.to q)) t h)
    by_destination (All first) h t = inl h

    by_kind : (m : ConsensusMsg) → SentAs past message (destination_of w.1.destination m) → SentTo message.src w.1.destination member m
        → SentAs past message model.all ⊎ SentAs past message (model.to member)
    by_kind (Prepare slot round rv) h t = by_destination w.1.destination h t
    by_kind (Accept slot round v) h t = by_destination w.1.destination h t
    by_kind (ForwardRequest v) h t = by_destination w.1.destination h t
    by_kind (Commit slot v) h t = inl h
    by_kind (ReadRequest id) h t = by_destination w.1.destination h t
    by_kind (ReadResponse id next) h t = by_destination w.1.destination h t

-- a legal list is one of the engine's
legal_run : (s : Settings) (choices : ProposerChoices) (best : (place : ℕ) → PicksBest (choices place)) (shards : ℕ → Shard) (past : List Entry) (cs : List MemberCall)
    → LegalFrom s.process_count choices shards past cs → LegalCalls (engine_of s) (run_at shards past) (chosen choices best cs)
unfolding LegalMade LegalCalls run_with_call
legal_run s choices best shards past [] l = tt
legal_run s choices best shards past (c ∷ cs) l = (
  l.0,
  stand c.call l.1,
  legal_run s (later_choices choices) (λ place. best (suc place)) (after_call (choices 0) shards c) (entry_of (choices 0) shards c ∷ past) cs l.2,
)
  where
    stand : (call : Call) → MayStand past c.member call → SentInRun (engine_of s) (run_at shards past) c.member (kind_of call)
    stand (Propose v) m = tt
    stand (StartRead tag arrival) m = tt
    stand (Receive d) m = was_sent past d.message c.member m

-- ---- from the log's claim to the claim of the entries

-- an entry's proposal adds no commit
proposal_slots : (member i : ℕ) (k : CallKind ConsensusMessage) (t : Bool) (l : List LogEvent) → engine.commits_by member (log_with_proposal i k t l) ≡ engine.commits_by member l
proposal_slots member i (engine.proposes v) true l = refl
proposal_slots member i (engine.proposes v) false l = refl
proposal_slots member i (engine.delivers source c) t l = refl
proposal_slots member i engine.reads t l = refl

slots_same : (member : ℕ) (past : List Entry) → slot_at member past ≡ engine.commits_by member (log_of past)
slots_same member [] = refl
slots_same member (e ∷ past) = commit e.reply.commit (slots_same member past ∙ sym (proposal_slots member e.member (kind_of e.call) (is_done e.reply.outcome) (log_of past)))
  where
    same : (t : Bool) → cond t (slot_at member past) (slot_at member past) ≡ slot_at member past
    same true = refl
    same false = refl

    commit : (c : Option CommittedSlot) → slot_at member past ≡ engine.commits_by member (log_with_proposal e.member (kind_of e.call) (is_done e.reply.outcome) (log_of past))
        → cond (eqb member e.member) (plus_commit c (slot_at member past)) (slot_at member past)
        ≡ engine.commits_by member (log_with_commit e.member (model_decision_of c) (log_with_proposal e.member (kind_of e.call) (is_done e.reply.outcome) (log_of past)))
    commit None rest = same (eqb member e.member) ∙ rest
    commit (Some c) rest = ap (λ (n : ℕ). cond (eqb member e.member) (suc n) n) rest

-- the log with a proposal or a commit more has the log before it
claim_before_proposal : (i : ℕ) (k : CallKind ConsensusMessage) (t : Bool) (l : List LogEvent) → EngineClaim (log_with_proposal i k t l) → EngineClaim l
claim_before_proposal i (engine.proposes v) true l c = c.1
claim_before_proposal i (engine.proposes v) false l c = c
claim_before_proposal i (engine.delivers source m) t l c = c
claim_before_proposal i engine.reads t l c = c

claim_before_commit : (i : ℕ) (d : model.Decision) (l : List LogEvent) → EngineClaim (log_with_commit i d l) → EngineClaim l
claim_before_commit i model.undecided l c = c
claim_before_commit i (model.decided s v) l c = c.3

claim_before : (e : Entry) (past : List Entry) → EngineClaim (log_of (e ∷ past)) → EngineClaim (log_of past)
claim_before e past c =
    claim_before_proposal e.member (kind_of e.call) (is_done e.reply.outcome) (log_of past)
    (claim_before_commit e.member (model_decision_of e.reply.commit) (log_with_proposal e.member (kind_of e.call) (is_done e.reply.outcome) (log_of past)) c)

-- so the claim holds of the log up to each entry
claim_at : (e : Entry) (earlier run : List Entry) → At e earlier run → EngineClaim (log_of run) → EngineClaim (log_of (e ∷ earlier))
claim_at e earlier [] h c = absurd h
claim_at e earlier (x ∷ xs) (inl d) c = subst (λ (l : List Entry). EngineClaim (log_of l)) (sym (ap₂ (λ (y : Entry) (ys : List Entry). y ∷ ys) d.0 d.1)) c
claim_at e earlier (x ∷ xs) (inr h) c = claim_at e earlier xs h (claim_before x xs c)

-- ---- commits

in_proposal : (x : LogEvent) (i : ℕ) (k : CallKind ConsensusMessage) (t : Bool) (l : List LogEvent) → In x l → In x (log_with_proposal i k t l)
in_proposal x i (engine.proposes v) true l h = inr h
in_proposal x i (engine.proposes v) false l h = h
in_proposal x i (engine.delivers source c) t l h = h
in_proposal x i engine.reads t l h = h

in_commit : (x : LogEvent) (i : ℕ) (d : model.Decision) (l : List LogEvent) → In x l → In x (log_with_commit i d l)
in_commit x i model.undecided l h = h
in_commit x i (model.decided s v) l h = inr h

in_log : (e : Entry) (earlier run : List Entry) (slot v : ℕ) (fast : Bool) → At e earlier run → e.reply.commit ≡ committed_slot slot v fast → In (engine.committed e.member slot v) (log_of run)
in_log e earlier [] slot v fast h c = absurd h
in_log e earlier (x ∷ xs) slot v fast (inl d) c =
    subst (λ (y : Entry). In (engine.committed e.member slot v) (log_of (y ∷ xs))) d.0
    (subst
    (λ (o : Option CommittedSlot).
    In (engine.committed e.member slot v) (log_with_commit e.member (model_decision_of o) (log_with_proposal e.member (kind_of e.call) (is_done e.reply.outcome) (log_of xs))))
    (sym c)
    (inl refl))
in_log e earlier (x ∷ xs) slot v fast (inr h) c =
    in_commit (engine.committed e.member slot v) x.member (model_decision_of x.reply.commit) (log_with_proposal x.member (kind_of x.call) (is_done x.reply.outcome) (log_of xs))
    (in_proposal (engine.committed e.member slot v) x.member (kind_of x.call) (is_done x.reply.outcome) (log_of xs) (in_log e earlier xs slot v fast h c))

-- two commits of one slot in a log have one value
logged_agree : (l : List LogEvent) → EngineClaim l → (i i' s v v' : ℕ) → In (engine.committed i s v) l → In (engine.committed i' s v') l → v ≡ v'
logged_agree [] c i i' s v v' h k = absurd h
logged_agree (engine.proposal j t w ∷ l) c i i' s v v' (inl h) k = absurd (let z : ◌≡◌ {A = ℕ} 0 1 = cc in omega arith)
logged_agree (engine.proposal j t w ∷ l) c i i' s v v' (inr h) (inl k) = absurd (let z : ◌≡◌ {A = ℕ} 0 1 = cc in omega arith)
logged_agree (engine.proposal j t w ∷ l) c i i' s v v' (inr h) (inr k) = logged_agree l c.1 i i' s v v' h k
logged_agree (engine.committed j t w ∷ l) c i i' s v v' (inl h) (inl k) = cc
logged_agree (engine.committed j t w ∷ l) c i i' s v v' (inl h) (inr k) =
    let a : v ≡ w = cc in let b : t ≡ s = cc in a ∙ c.2 (engine.committed i' s v') k b
logged_agree (engine.committed j t w ∷ l) c i i' s v v' (inr h) (inl k) =
    let a : v' ≡ w = cc in let b : t ≡ s = cc in sym (a ∙ c.2 (engine.committed i s v) h b)
logged_agree (engine.committed j t w ∷ l) c i i' s v v' (inr h) (inr k) = logged_agree l c.3 i i' s v v' h k

-- ---- proposals

-- a logged proposal is an entry that was taken, at its member's slot
proposal_entry : (past : List Entry) (j s v : ℕ) → In (engine.proposal j s v) (log_of past) → Proposed s v past
proposal_entry [] j s v h = absurd h
proposal_entry (e ∷ past) j s v h = commit e.reply.commit (λ (k : In (engine.proposal j s v) (log_of past)). proposal_entry past j s v k) h
  where
    later : Proposed s v past → Proposed s v (e ∷ past)
    later p = (p.0, p.1, inr p.2, p.3, p.4, p.5)

    proposed : (call : Call) → e.call ≡ call → (o : Outcome) → e.reply.outcome ≡ o → (In (engine.proposal j s v) (log_of past) → Proposed s v past)
        → In (engine.proposal j s v) (log_with_proposal e.member (kind_of call) (is_done o) (log_of past)) → Proposed s v (e ∷ past)
    proposed (Propose w) ec (Ok tt) eo rest (inl d) =
        let a : w ≡ v = cc in let b : engine.commits_by e.member (log_of past) ≡ s = cc in
        (e, past, inl (refl, refl), ec ∙ ap Propose a, eo, slots_same e.member past ∙ b)
    proposed (Propose w) ec (Ok tt) eo rest (inr k) = later (rest k)
    proposed (Propose w) ec (Err why) eo rest k = later (rest k)
    proposed (StartRead tag arrival) ec o eo rest k = later (rest k)
    proposed (Receive d) ec o eo rest k = later (rest k)

    commit : (c : Option CommittedSlot) → (In (engine.proposal j s v) (log_of past) → Proposed s v past)
        → In (engine.proposal j s v) (log_with_commit e.member (model_decision_of c) (log_with_proposal e.member (kind_of e.call) (is_done e.reply.outcome) (log_of past))) → Proposed s v (e ∷ past)
    commit None rest k = proposed e.call refl e.reply.outcome refl rest k
    commit (Some c) rest (inl d) = absurd (let z : ◌≡◌ {A = ℕ} 0 1 = cc in omega arith)
    commit (Some c) rest (inr k) = proposed e.call refl e.reply.outcome refl rest k

-- the value of a commit was proposed in its slot, in the same call or before
commit_proposed : (e : Entry) (earlier : List Entry) (slot v : ℕ) (fast : Bool) → e.reply.commit ≡ committed_slot slot v fast → EngineClaim (log_of (e ∷ earlier)) → Proposed slot v (e ∷ earlier)
commit_proposed e earlier slot v fast c claim =
    let l = log_with_proposal e.member (kind_of e.call) (is_done e.reply.outcome) (log_of earlier) in
    let k = subst (λ (o : Option CommittedSlot). EngineClaim (log_with_commit e.member (model_decision_of o) l)) c claim in
    proposal_entry (e ∷ earlier) k.1.0 slot v (in_commit (engine.proposal k.1.0 slot v) e.member (model_decision_of e.reply.commit) l k.1.1)

-- a commit is of its member's slot
commit_slot_lem : (e : Entry) (earlier : List Entry) (slot v : ℕ) (fast : Bool) → e.reply.commit ≡ committed_slot slot v fast → EngineClaim (log_of (e ∷ earlier)) → slot ≡ slot_at e.member earlier
commit_slot_lem e earlier slot v fast c claim =
    let l = log_with_proposal e.member (kind_of e.call) (is_done e.reply.outcome) (log_of earlier) in
    let k = subst (λ (o : Option CommittedSlot). EngineClaim (log_with_commit e.member (model_decision_of o) l)) c claim in
    k.0 ∙ proposal_slots e.member e.member (kind_of e.call) (is_done e.reply.outcome) (log_of earlier) ∙ sym (slots_same e.member earlier)

claim_of : (run : List Entry) → EngineClaim (log_of run) → Claim run
claim_of run claim =
    record {
      agree = λ slot v slot' v' c d. (
        λ e.
            (e, logged_agree (log_of run) claim c.entry.member d.entry.member slot v v' (in_log c.entry c.earlier run slot v c.fast c.stands c.commit) (subst (λ (n : ℕ). In (engine.committed d.entry.member n v') (log_of run)) (sym e) (in_log d.entry d.earlier run slot' v' d.fast d.stands d.commit))),
        λ e. e.0,
      );
      proposed = λ slot v c. commit_proposed c.entry c.earlier slot v c.fast c.commit (claim_at c.entry c.earlier run c.stands claim);
      own_slot = λ slot v c. commit_slot_lem c.entry c.earlier slot v c.fast c.commit (claim_at c.entry c.earlier run c.stands claim);
    }

-- ---- the theorem

-- In every mode but SwiftPaxos, with every settings, every legal list of calls meets the claim, whichever of the best each adoption takes.
pub agreement_ties : (s : Settings) → NotSwift s.mode → (choices : ProposerChoices) → ((place : ℕ) → PicksBest (choices place)) → (cs : List MemberCall)
    → LegalWith choices s cs → Claim (entries_with choices s cs)
agreement_ties s claimed choices best cs legal =
    claim_of (entries_with choices s cs)
    (subst EngineClaim (run_log s choices best (begun s) [] cs)
    (log_claim s claimed (chosen choices best cs) (legal_run s choices best (begun s) [] cs legal)))

-- So does every legal list of calls on the engine, which takes the lowest of them.
pub agreement : (s : Settings) → NotSwift s.mode → (cs : List MemberCall) → Legal s cs → Claim (entries s cs)
agreement s claimed cs legal = agreement_ties s claimed ours (λ place. lowest_picks_best) cs legal

-- Wrong engines that the demands let pass, so that a law of every run has to be there besides. Those that leave a shard wrong with a commit, note proposals,
-- turn or fill reads, or serve them turned, have demand 1; those that leave the Paxos half as it is have the paper; and those that go wrong in SwiftPaxos alone
-- have the paper and demand 3.
-- Assumes nothing.
use Rattle.std.specs.Prelude.{Ok, Err}
use mathlib.Core.Path.{◌≡◌, refl, sym, ap, subst, ◌∙◌}
use mathlib.Core.Bool.{Bool, true, false, cond, ◌&&◌}
use mathlib.Core.Logic.{inl, inr}
use mathlib.Core.List.{List, [], ◌∷◌}
use Prim.Native.Nat.{ℕ}
use lib.Dec.{eqb, leb}
use Rattle.basics.proofs.Tests.{of-both}
use Rattle.message.specs.Modes.{has_fast_path, is_swift_paxos}
use Rattle.message.specs.Outcomes.{Outcome}
use Rattle.message.specs.declared.PFMode.{PFMode}
use Rattle.message.specs.declared.Refusal.{Refusal}
use Rattle.message.specs.declared.PFMode.TheVariants.{Paxos, MultiPaxos, MultiPaxos3P, EPaxos, Pando, SwiftPaxos}
use Rattle.settings.specs.Settings.{within_limits}
use Rattle.settings.specs.declared.Settings.{Settings}
use Rattle.fast_state.specs.Adopt.{lowest_best}
use Rattle.read_tracker.specs.declared.ReadTable.{ReadTable}
use Rattle.calls.specs.declared.Call.{Call}
use Rattle.calls.specs.declared.Call.TheVariants.{Propose, StartRead, Receive}
use Rattle.consensus.specs.Call.{new_shard, call_of}
use Rattle.consensus.specs.FirstCause.{number_alone, all_causes, ByFirstCause}
use Rattle.consensus.specs.Rows.{NoneHolds}
use Rattle.consensus.specs.declared.Answer.{Answer}
use Rattle.consensus.specs.declared.Shard.{Shard}
use Rattle.consensus.proofs.Decided.{settings_kept}
use Rattle.consensus.proofs.Refusals.{taken_where_none}
use Rattle.paper.specs.PaperCall.{seen}
use Rattle.paper.specs.Runs.{ClassicMode}
use Rattle.paper.proofs.Calls.{call_as_paper, new_within, no_fast_path}
use Rattle.group.specs.Claim.{begun, MemberCall, Entry, Claim, LegalMade, entries_made}
use Rattle.group.proofs.Calls.{not_swift}
use Rattle.wrong_engines.specs.Laws.{AnyEngine, ReachedBy, entries_by, LegalBy, RefusesByFirstCause, IsAsPaper, InAgreement}
use Rattle.wrong_engines.specs.Laws.ReachedBy.{new, called}
use Rattle.wrong_engines.specs.Engines.{is_new_read, brings_message, is_forward, shard_holding, paxos_half, with_settings, with_replicas, where_taken, leaving, stays_in_slot, keeps_held_after_commit, loses_replicas, counting_answers, answers_noted, notes_proposals, shard_with_table, first_two_turned, turned, keeps_reads_turned, with_served_turned, serves_turned, with_full_read, fills_first_read, with_paxos_half, with_prepared, with_accepted, swift_forward, counts_forwards_as_promises, counts_forwards_as_accepts, answer_with_commit, told_as_next, commits_next_slot}
use Rattle.wrong_engines.proofs.Answers.{refused_not_done}
use Rattle.wrong_engines.proofs.Passing.{other_by_first_cause, commits_by_first_cause}
use Rattle.wrong_engines.proofs.Right.{right_has_all}

-- ---- demand 1

pub stays_by_first_cause : RefusesByFirstCause stays_in_slot
unfolding stays_in_slot
stays_by_first_cause shard = commits_by_first_cause shard shard

pub keeps_held_by_first_cause : RefusesByFirstCause keeps_held_after_commit
unfolding keeps_held_after_commit
keeps_held_by_first_cause shard c = commits_by_first_cause shard (shard_holding (paxos_half shard).max_rv (call_of shard c).shard) c

pub replicas_lost_by_first_cause : RefusesByFirstCause loses_replicas
unfolding loses_replicas
replicas_lost_by_first_cause shard c = commits_by_first_cause shard (with_settings (with_replicas 1 1 shard.settings) (call_of shard c).shard) c

-- another shard, where the call is taken, if some test holds
leaving_by_first_cause : (shard left : Shard) (c : Call) (t : Bool)
    → ByFirstCause lowest_best shard c (cond t (leaving left (call_of shard c)) (call_of shard c))
leaving_by_first_cause shard left c t =
    of-both (ByFirstCause lowest_best shard c) t
    (other_by_first_cause shard c (record { shard = left; reply = (call_of shard c).reply }) (λ e. e)) (right_has_all.first_cause shard c)

pub noted_by_first_cause : RefusesByFirstCause notes_proposals
unfolding notes_proposals
noted_by_first_cause shard c =
    of-both (ByFirstCause lowest_best shard c) (has_fast_path shard.settings.mode) (right_has_all.first_cause shard c)
    (leaving_by_first_cause shard (counting_answers (answers_noted c) (call_of shard c).shard) c true)

pub filled_by_first_cause : RefusesByFirstCause fills_first_read
unfolding fills_first_read
filled_by_first_cause shard c = leaving_by_first_cause shard (with_full_read (call_of shard c).shard) c (is_new_read c)

pub promises_by_first_cause : RefusesByFirstCause counts_forwards_as_promises
unfolding counts_forwards_as_promises
promises_by_first_cause shard c =
    leaving_by_first_cause shard (with_paxos_half (with_prepared shard.settings.alive_replicas (paxos_half shard)) shard) c (swift_forward shard c)

pub accepts_by_first_cause : RefusesByFirstCause counts_forwards_as_accepts
unfolding counts_forwards_as_accepts
accepts_by_first_cause shard c =
    leaving_by_first_cause shard (with_paxos_half (with_accepted shard.settings.alive_replicas (paxos_half shard)) shard) c (swift_forward shard c)

-- an answer with something changed that a refusal has not
changed_by_first_cause : (shard : Shard) (c : Call) (f : Answer → Answer) → ((r : Answer) → (f r).reply.outcome ≡ r.reply.outcome)
    → ((why : Refusal) → f (number_alone why shard) ≡ number_alone why shard) → ByFirstCause lowest_best shard c (f (call_of shard c))
changed_by_first_cause shard c f outcome refuses = go (right_has_all.first_cause shard c)
  where
    go : ByFirstCause lowest_best shard c (call_of shard c) → ByFirstCause lowest_best shard c (f (call_of shard c))
    go (inl (done, none)) = inl (outcome (call_of shard c) ∙ done, none)
    go (inr (why, r, first)) = inr (why, ap f r ∙ refuses why, first)

pub served_turned_by_first_cause : RefusesByFirstCause serves_turned
unfolding serves_turned
served_turned_by_first_cause shard c =
    changed_by_first_cause shard c (λ r. cond (leb 2 r.reply.served_count) (with_served_turned r) r)
    (λ r. of-both (λ (x : Answer). x.reply.outcome ≡ r.reply.outcome) (leb 2 r.reply.served_count) refl refl) (λ why. refl)

pub next_slot_by_first_cause : RefusesByFirstCause commits_next_slot
unfolding commits_next_slot
next_slot_by_first_cause shard c =
    of-both (ByFirstCause lowest_best shard c) (is_swift_paxos shard.settings.mode)
    (changed_by_first_cause shard c (λ r. answer_with_commit (told_as_next r.reply.commit) r) (λ r. refl) (λ why. refl)) (right_has_all.first_cause shard c)

-- the causes are the same, whatever reads stand in the table
same_causes : (shard : Shard) (table : ReadTable) (c : Call) → all_causes lowest_best (shard_with_table table shard) c ≡ all_causes lowest_best shard c
same_causes shard table (Propose v) = refl
same_causes shard table (StartRead tag arrival) = refl
same_causes shard table (Receive d) = refl

pub reads_turned_by_first_cause : RefusesByFirstCause keeps_reads_turned
unfolding keeps_reads_turned
reads_turned_by_first_cause shard c =
    other_by_first_cause shard c (record { shard = turned (call_of (turned shard) c).shard; reply = (call_of (turned shard) c).reply })
    (taken (right_has_all.first_cause shard c))
  where
    same : all_causes lowest_best (turned shard) c ≡ all_causes lowest_best shard c
    same =
        of-both (λ (x : Shard). all_causes lowest_best x c ≡ all_causes lowest_best shard c) (leb 2 shard.state.rounds.core.tracker.open_count)
        (same_causes shard (record { reads = first_two_turned shard.state.table.reads; served = shard.state.table.served }) c) refl

    taken : ByFirstCause lowest_best shard c (call_of shard c) → (call_of shard c).reply.outcome ≡ Ok tt → (call_of (turned shard) c).reply.outcome ≡ Ok tt
    taken (inl (_, none)) e = taken_where_none lowest_best (turned shard) c (subst NoneHolds (sym same) none)
    taken (inr (why, r, first)) e = absurd (refused_not_done (call_of shard c).reply.outcome why e (ap (λ (a : Answer). a.reply.outcome) r))

-- ---- the paper

module _ (engine : AnyEngine) (settings : (shard : Shard) (c : Call) → (engine shard c).shard.settings ≡ shard.settings) where
  within : (shard : Shard) → ReachedBy engine shard → within_limits shard.settings ≡ true
  within shard (new s e) = new_within s e
  within shard (called before c r) = ap within_limits (settings before c) ∙ within before r

  -- who is seen as the right one
  seen_as_paper : ((shard : Shard) (c : Call) → ClassicMode shard.settings.mode → seen (engine shard c) ≡ seen (call_of shard c)) → IsAsPaper engine
  seen_as_paper same shard r classic c p =
      same shard c classic ∙ call_as_paper shard (no_fast_path shard.settings.mode classic) (within shard r) c p

-- another shard of the same settings, where the call is taken
abbrev SettingsOf : Shard → Answer → Type 0
SettingsOf shard r = r.shard.settings ≡ shard.settings

module _ (shard left : Shard) (c : Call) where
  left_settings : left.settings ≡ shard.settings → (t : Bool) → SettingsOf shard (cond t (leaving left (call_of shard c)) (call_of shard c))
  left_settings kept t = of-both (SettingsOf shard) t (go (call_of shard c).reply.outcome) (settings_kept lowest_best shard c)
    where
      go : (o : Outcome) → SettingsOf shard (where_taken (record { shard = left; reply = (call_of shard c).reply }) (call_of shard c) o)
      go (Ok tt) = kept
      go (Err why) = settings_kept lowest_best shard c

  left_seen : seen (record { shard = left; reply = (call_of shard c).reply }) ≡ seen (call_of shard c) → (t : Bool)
      → seen (cond t (leaving left (call_of shard c)) (call_of shard c)) ≡ seen (call_of shard c)
  left_seen same t = of-both (λ (r : Answer). seen r ≡ seen (call_of shard c)) t (go (call_of shard c).reply.outcome) refl
    where
      go : (o : Outcome) → seen (where_taken (record { shard = left; reply = (call_of shard c).reply }) (call_of shard c) o) ≡ seen (call_of shard c)
      go (Ok tt) = same
      go (Err why) = refl

pub noted_as_paper : IsAsPaper notes_proposals
unfolding notes_proposals
noted_as_paper =
    seen_as_paper notes_proposals
    (λ shard c.
    of-both (SettingsOf shard) (has_fast_path shard.settings.mode) (settings_kept lowest_best shard c)
    (left_settings shard (counting_answers (answers_noted c) (call_of shard c).shard) c (settings_kept lowest_best shard c) true))
    (λ shard c classic.
    of-both (λ (r : Answer). seen r ≡ seen (call_of shard c)) (has_fast_path shard.settings.mode) refl
    (left_seen shard (counting_answers (answers_noted c) (call_of shard c).shard) c refl true))

pub filled_as_paper : IsAsPaper fills_first_read
unfolding fills_first_read
filled_as_paper =
    seen_as_paper fills_first_read
    (λ shard c. left_settings shard (with_full_read (call_of shard c).shard) c (settings_kept lowest_best shard c) (is_new_read c))
    (λ shard c classic. left_seen shard (with_full_read (call_of shard c).shard) c refl (is_new_read c))

pub served_turned_as_paper : IsAsPaper serves_turned
unfolding serves_turned
served_turned_as_paper =
    seen_as_paper serves_turned
    (λ shard c. of-both (SettingsOf shard) (leb 2 (call_of shard c).reply.served_count) (settings_kept lowest_best shard c) (settings_kept lowest_best shard c))
    (λ shard c classic. of-both (λ (r : Answer). seen r ≡ seen (call_of shard c)) (leb 2 (call_of shard c).reply.served_count) refl refl)

-- ---- who goes wrong in SwiftPaxos alone

classic_not_swift : (m : PFMode) → ClassicMode m → is_swift_paxos m ≡ false
classic_not_swift Paxos c = refl
classic_not_swift MultiPaxos c = refl
classic_not_swift MultiPaxos3P c = refl
classic_not_swift EPaxos c = absurd c
classic_not_swift Pando c = refl
classic_not_swift SwiftPaxos c = absurd c

-- it keeps the settings, and is the right engine in the other modes
record WrongInSwift (engine : AnyEngine) : Type 0 where
  settings : (shard : Shard) (c : Call) → (engine shard c).shard.settings ≡ shard.settings
  right : (shard : Shard) (c : Call) → is_swift_paxos shard.settings.mode ≡ false → engine shard c ≡ call_of shard c

module _ (engine : AnyEngine) (w : WrongInSwift engine) where
  swift_as_paper : IsAsPaper engine
  swift_as_paper = seen_as_paper engine w.settings (λ shard c classic. ap seen (w.right shard c (classic_not_swift shard.settings.mode classic)))

  -- the shards and the entries after one call more, by its answer
  abbrev shards_with : (ℕ → Shard) → MemberCall → Answer → ℕ → Shard
  shards_with shards c r j = cond (eqb j c.member) r.shard (shards j)

  abbrev entries_with : List Entry → MemberCall → Answer → List Entry
  entries_with past c r = record { member = c.member; call = c.call; reply = r.reply } ∷ past

  abbrev Right : (ℕ → Shard) → Type 0
  Right shards = (i : ℕ) → is_swift_paxos (shards i).settings.mode ≡ false

  right_after : (shards : ℕ → Shard) → Right shards → (c : MemberCall) → Right (shards_with shards c (engine (shards c.member) c.call))
  right_after shards right c j =
      of-both (λ (x : Shard). is_swift_paxos x.settings.mode ≡ false) (eqb j c.member)
      (ap (λ (s : Settings). is_swift_paxos s.mode) (w.settings (shards c.member) c.call) ∙ right c.member) (right j)

  same_entries : (shards : ℕ → Shard) → Right shards → (past : List Entry) (cs : List MemberCall)
      → entries_by engine shards past cs ≡ entries_by call_of shards past cs
  unfolding entries_made
  same_entries shards right past [] = refl
  same_entries shards right past (c ∷ cs) =
      same_entries (shards_with shards c (engine (shards c.member) c.call)) (right_after shards right c)
      (entries_with past c (engine (shards c.member) c.call)) cs
      ∙ ap (λ (r : Answer). entries_by call_of (shards_with shards c r) (entries_with past c r) cs) (w.right (shards c.member) c.call (right c.member))

  legal_too : (n : ℕ) (shards : ℕ → Shard) → Right shards → (past : List Entry) (cs : List MemberCall) → LegalBy engine n shards past cs
      → LegalBy call_of n shards past cs
  unfolding LegalMade
  legal_too n shards right past [] l = tt
  legal_too n shards right past (c ∷ cs) l = (
    l.0,
    l.1,
    subst (λ (r : Answer). LegalBy call_of n (shards_with shards c r) (entries_with past c r) cs) (w.right (shards c.member) c.call (right c.member))
        (legal_too n (shards_with shards c (engine (shards c.member) c.call)) (right_after shards right c)
        (entries_with past c (engine (shards c.member) c.call)) cs l.2),
  )

  swift_in_agreement : InAgreement engine
  unfolding new_shard
  swift_in_agreement s mode cs legal =
      subst Claim (sym (same_entries (begun s) (λ i. not_swift s.mode mode) [] cs))
      (right_has_all.agreement s mode cs (legal_too s.process_count (begun s) (λ i. not_swift s.mode mode) [] cs legal))

-- they leave another shard with a forwarded request in SwiftPaxos
module _ (left : Shard → Shard) (kept : (shard : Shard) → (left shard).settings ≡ shard.settings) where
  abbrev forwards_wrong : AnyEngine
  forwards_wrong shard c = cond (swift_forward shard c) (leaving (left shard) (call_of shard c)) (call_of shard c)

  wrong_in_swift : WrongInSwift forwards_wrong
  wrong_in_swift =
      record {
        settings = λ shard c. left_settings shard (left shard) c (kept shard) (swift_forward shard c);
        right = λ shard c e.
            ap (λ (t : Bool). cond (t && brings_message is_forward c) (leaving (left shard) (call_of shard c)) (call_of shard c)) e;
      }

abbrev promised_by_all : Shard → Shard
promised_by_all shard = with_paxos_half (with_prepared shard.settings.alive_replicas (paxos_half shard)) shard

abbrev accepted_by_all : Shard → Shard
accepted_by_all shard = with_paxos_half (with_accepted shard.settings.alive_replicas (paxos_half shard)) shard

pub promises_as_paper : IsAsPaper counts_forwards_as_promises
unfolding counts_forwards_as_promises
promises_as_paper = swift_as_paper (forwards_wrong promised_by_all (λ shard. refl)) (wrong_in_swift promised_by_all (λ shard. refl))

pub promises_in_agreement : InAgreement counts_forwards_as_promises
unfolding counts_forwards_as_promises
promises_in_agreement = swift_in_agreement (forwards_wrong promised_by_all (λ shard. refl)) (wrong_in_swift promised_by_all (λ shard. refl))

pub accepts_as_paper : IsAsPaper counts_forwards_as_accepts
unfolding counts_forwards_as_accepts
accepts_as_paper = swift_as_paper (forwards_wrong accepted_by_all (λ shard. refl)) (wrong_in_swift accepted_by_all (λ shard. refl))

pub accepts_in_agreement : InAgreement counts_forwards_as_accepts
unfolding counts_forwards_as_accepts
accepts_in_agreement = swift_in_agreement (forwards_wrong accepted_by_all (λ shard. refl)) (wrong_in_swift accepted_by_all (λ shard. refl))

next_slot_in_swift : WrongInSwift commits_next_slot
unfolding commits_next_slot
next_slot_in_swift =
    record {
      settings = λ shard c. of-both (SettingsOf shard) (is_swift_paxos shard.settings.mode) (settings_kept lowest_best shard c) (settings_kept lowest_best shard c);
      right = λ shard c e.
          ap (λ (t : Bool). cond t (answer_with_commit (told_as_next (call_of shard c).reply.commit) (call_of shard c)) (call_of shard c)) e;
    }

pub next_slot_as_paper : IsAsPaper commits_next_slot
next_slot_as_paper = swift_as_paper commits_next_slot next_slot_in_swift

pub next_slot_in_agreement : InAgreement commits_next_slot
next_slot_in_agreement = swift_in_agreement commits_next_slot next_slot_in_swift

-- The laws of the engine, each as a property of any engine: the theorems of consensus, paper and group with the engine's call as a parameter. `call_of` has
-- all of them, and with `call_of` they are those theorems (proofs/Right.antt). Each wrong engine of Engines.antt lacks one (the other files of proofs/).
-- Assumes nothing.
use Rattle.std.specs.Prelude.{◌≡◌, ◌⊎◌, Bool, true, false, List, [], ◌∷◌, ℕ, ◌≤◌, ◌<◌, length, None, is_some, Ok}
use Rattle.basics.specs.Lists.{In}
use Rattle.basics.specs.sets.Sets.{contains, Within}
use Rattle.message.specs.Modes.{has_fast_path, is_swift_paxos}
use Rattle.settings.specs.declared.Settings.{Settings}
use Rattle.round_state.specs.Paxos.{get_last_accepted_round}
use Rattle.fast_state.specs.Adopt.{lowest_best}
use Rattle.fast_state.specs.Fast.{no_answers}
use Rattle.read_tracker.proofs.serving.IdOrder.{InOrder, RisingIds, served_ids}
use Rattle.calls.specs.declared.delivery.Delivery.{Delivery}
use Rattle.steps.specs.declared.Outgoing.{Outgoing}
use Rattle.calls.specs.Commits.{committed_slot}
use Rattle.calls.specs.declared.Call.{Call}
use Rattle.calls.specs.declared.Call.TheVariants.{Receive}
use Rattle.consensus.specs.Call.{new_shard}
use Rattle.consensus.specs.FirstCause.{ByFirstCause}
use Rattle.consensus.specs.declared.Answer.{Answer}
use Rattle.consensus.specs.declared.Shard.{Shard}
use Rattle.paper.specs.PaperCall.{seen, InPaxos, LeavesPaxos, paper_call}
use Rattle.paper.specs.Runs.{ClassicMode}
use Rattle.group.specs.Claim.{begun, MemberCall, Entry, call_by_value, entry_made, after_made, entries_made, messages_of, SentTo, LegalMade, slot_at, CommitAt, Claim, NotSwift}
use Rattle.group.specs.Steps.{shards_made}
use Rattle.group.proofs.Invariants.{Cleared, served_by_call, Room, InTables}
use Rattle.group.proofs.Sending.{FromOwn}

-- what a call makes of a shard
abbrev pub AnyEngine : Type 0
AnyEngine = Shard → Call → Answer

-- a shard as it was made, or as a call of the engine has left it (`ReachedShard`, crates/paper/specs/Runs.antt)
pub data ReachedBy (engine : AnyEngine) : Shard → Type 0 where
  new : (s : Settings) → (new_shard s).made ≡ Ok tt → ReachedBy engine (new_shard s)
  called : (shard : Shard) (c : Call) → ReachedBy engine shard → ReachedBy engine (engine shard c).shard

module _ (engine : AnyEngine) where
  -- ---- runs of a group (crates/group/specs/Claim.antt)

  abbrev pub entry_by : (ℕ → Shard) → MemberCall → Entry
  entry_by shards c = entry_made (call_by_value engine) shards c

  abbrev pub after_call_by : (ℕ → Shard) → MemberCall → ℕ → Shard
  after_call_by shards c = after_made (call_by_value engine) shards c

  abbrev pub entries_by : (ℕ → Shard) → List Entry → List MemberCall → List Entry
  entries_by shards past cs = entries_made (λ place. call_by_value engine) shards past cs

  abbrev pub LegalBy : ℕ → (ℕ → Shard) → List Entry → List MemberCall → Type 0
  LegalBy n shards past cs = LegalMade n (λ place. call_by_value engine) shards past cs

  -- the shards after the calls (`shards_after`, crates/group/proofs/Invariants.antt)
  abbrev pub shards_by : (ℕ → Shard) → List MemberCall → ℕ → Shard
  shards_by shards cs = shards_made (λ place. call_by_value engine) shards cs

  -- one shard after calls, one after another (`shard_after_calls`, crates/consensus/specs/Call.antt)
  unfoldable pub shard_after_calls_by : Shard → List Call → Shard
  shard_after_calls_by shard [] = shard
  shard_after_calls_by shard (c ∷ cs) = shard_after_calls_by (engine shard c).shard cs

  -- ---- the laws

  -- demand 1 (`by_first_cause`, consensus)
  abbrev pub RefusesByFirstCause : Type 0
  RefusesByFirstCause = (shard : Shard) (c : Call) → ByFirstCause lowest_best shard c (engine shard c)

  -- `marked_once` (consensus): no list of calls changes the mark
  abbrev pub MarkedOnce : Type 0
  MarkedOnce = (shard : Shard) (cs : List Call) → (shard_after_calls_by shard cs).made ≡ shard.made

  -- `settings_kept` (consensus)
  abbrev pub KeepsSettings : Type 0
  KeepsSettings = (shard : Shard) (c : Call) → (engine shard c).shard.settings ≡ shard.settings

  -- demand 2, the paper (`every_call_as_paper`, paper)
  abbrev pub IsAsPaper : Type 0
  IsAsPaper =
      (shard : Shard) → ReachedBy engine shard → ClassicMode shard.settings.mode → (c : Call) → InPaxos c
      → seen (engine shard c) ≡ paper_call shard c

  -- `other_calls_leave` (paper): of the calls that the paper does not speak of
  abbrev pub OtherCallsLeave : Type 0
  OtherCallsLeave = (shard : Shard) (c : Call) → (InPaxos c → ⊥) → LeavesPaxos shard (engine shard c)

  -- demand 3 (`agreement`, group)
  abbrev pub InAgreement : Type 0
  InAgreement =
      (s : Settings) → NotSwift s.mode → (cs : List MemberCall) → LegalBy s.process_count (begun s) [] cs
      → Claim (entries_by (begun s) [] cs)

  -- `two_messages_at_most` (group)
  abbrev pub SendsTwoAtMost : Type 0
  SendsTwoAtMost = (shard : Shard) (c : Call) → length (messages_of (engine shard c).reply.messages) ≤ 2

  -- `sent_from_own` (group): the source is the sender, the first destination is not, and a Commit goes to all
  abbrev pub SendsFromOwn : Type 0
  SendsFromOwn =
      (shard : Shard) (c : Call) (o : Outgoing) → In o (messages_of (engine shard c).reply.messages)
      → FromOwn shard.settings.my_pid o

  -- `none_to_its_sender` (group)
  abbrev pub SendsNoneToItself : Type 0
  SendsNoneToItself =
      (shard : Shard) (c : Call) (o : Outgoing) → In o (messages_of (engine shard c).reply.messages)
      → SentTo shard.settings.my_pid o.destination shard.settings.my_pid o.message.msg → ⊥

  -- `group_of_one` (group)
  abbrev pub CommitsNothingAlone : Type 0
  CommitsNothingAlone =
      (s : Settings) → s.process_count ≡ 1 → (cs : List MemberCall) → LegalBy s.process_count (begun s) [] cs
      → (e : Entry) → In e (entries_by (begun s) [] cs) → e.reply.commit ≡ None

  -- after every list of calls, legal or not: `slot_counts_commits` (group)
  abbrev pub SlotCountsCommits : Type 0
  SlotCountsCommits =
      (s : Settings) (cs : List MemberCall) (i : ℕ)
      → (shards_by (begun s) cs i).state.rounds.core.slot ≡ slot_at i (entries_by (begun s) [] cs)

  -- `commits_are_of_own_slot` (group)
  abbrev pub CommitsOwnSlot : Type 0
  CommitsOwnSlot =
      (s : Settings) (cs : List MemberCall) (slot v : ℕ) (c : CommitAt slot v (entries_by (begun s) [] cs)) → slot ≡ slot_at c.entry.member c.earlier

  -- `commit_clears` (group)
  abbrev pub ClearsWithCommit : Type 0
  ClearsWithCommit =
      (s : Settings) (cs : List MemberCall) (i : ℕ) (c : Call) (slot v : ℕ) (mark : Bool)
      → (engine (shards_by (begun s) cs i) c).reply.commit ≡ committed_slot slot v mark
      → Cleared (engine (shards_by (begun s) cs i) c).shard

  -- `sets_hold_processes` and `sets_hold_live_replicas` (group)
  abbrev pub CountsProcesses : Type 0
  CountsProcesses =
      (s : Settings) (cs : List MemberCall) (i p : ℕ)
      → (contains (shards_by (begun s) cs i).state.rounds.core.paxos.prepared_set p ≡ true)
      ⊎ (contains (shards_by (begun s) cs i).state.rounds.core.paxos.accepted_set p ≡ true)
      → p < s.process_count

  abbrev pub CountsLiveReplicas : Type 0
  CountsLiveReplicas =
      (s : Settings) (cs : List MemberCall) (i : ℕ) → is_swift_paxos s.mode ≡ false
      → Within (shards_by (begun s) cs i).state.rounds.core.paxos.prepared_set s.alive_replicas
      × Within (shards_by (begun s) cs i).state.rounds.core.paxos.accepted_set s.alive_replicas

  -- `fast_half_as_new` (group)
  abbrev pub LeavesFastHalfNew : Type 0
  LeavesFastHalfNew =
      (s : Settings) (cs : List MemberCall) (i : ℕ) → has_fast_path s.mode ≡ false → (shards_by (begun s) cs i).state.rounds.fast ≡ no_answers

  -- `reads_in_order` (group)
  abbrev pub KeepsReadsInOrder : Type 0
  KeepsReadsInOrder =
      (s : Settings) (cs : List MemberCall) (i : ℕ)
      → InOrder (shards_by (begun s) cs i).state.rounds.core.tracker (shards_by (begun s) cs i).state.table

  -- `served_in_order` (group)
  abbrev pub ServesInOrder : Type 0
  ServesInOrder =
      (s : Settings) (cs : List MemberCall) (i : ℕ) (c : Call)
      → RisingIds 0 (served_ids (served_by_call (engine (shards_by (begun s) cs i) c))) (shards_by (begun s) cs i).state.rounds.core.tracker.next_id

  -- `promises_while_held` and `accepts_while_accepted` (group)
  abbrev pub CountsPromisesWhileHeld : Type 0
  CountsPromisesWhileHeld =
      (s : Settings) (cs : List MemberCall) (i : ℕ) → is_some (shards_by (begun s) cs i).state.rounds.core.paxos.max_rv ≡ false
      → (shards_by (begun s) cs i).state.rounds.core.paxos.prepared_set ≡ 0

  abbrev pub CountsAcceptsWhileAccepted : Type 0
  CountsAcceptsWhileAccepted =
      (s : Settings) (cs : List MemberCall) (i : ℕ)
      → is_some (get_last_accepted_round (shards_by (begun s) cs i).state.rounds.core.paxos.max_rv) ≡ false
      → (shards_by (begun s) cs i).state.rounds.core.paxos.accepted_set ≡ 0

  -- `sums_have_room` (group)
  abbrev pub LeavesRoom : Type 0
  LeavesRoom = (s : Settings) (cs : List MemberCall) (i : ℕ) → Room (shards_by (begun s) cs i)

  -- `handled_in_tables` (group): of a message that is taken. What is taken is admitted (`taken_admitted`, proofs/Right.antt).
  abbrev pub TakesWithinTables : Type 0
  TakesWithinTables =
      (s : Settings) (cs : List MemberCall) (i : ℕ) (d : Delivery)
      → (engine (shards_by (begun s) cs i) (Receive d)).reply.outcome ≡ Ok tt → InTables (shards_by (begun s) cs i).settings.my_pid d

-- all of them
pub record HasAllLaws (engine : AnyEngine) : Type 0 where
  pub first_cause : RefusesByFirstCause engine
  pub mark : MarkedOnce engine
  pub settings : KeepsSettings engine
  pub paper : IsAsPaper engine
  pub other_calls : OtherCallsLeave engine
  pub agreement : InAgreement engine
  pub two_at_most : SendsTwoAtMost engine
  pub from_own : SendsFromOwn engine
  pub none_to_itself : SendsNoneToItself engine
  pub nothing_alone : CommitsNothingAlone engine
  pub slots : SlotCountsCommits engine
  pub own_slots : CommitsOwnSlot engine
  pub clears : ClearsWithCommit engine
  pub processes : CountsProcesses engine
  pub live_replicas : CountsLiveReplicas engine
  pub fast_half : LeavesFastHalfNew engine
  pub reads : KeepsReadsInOrder engine
  pub served : ServesInOrder engine
  pub promises : CountsPromisesWhileHeld engine
  pub accepts : CountsAcceptsWhileAccepted engine
  pub room : LeavesRoom engine
  pub tables : TakesWithinTables engine

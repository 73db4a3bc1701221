-- Group runs, and what is claimed of them (document 01, "Group runs (demand 3)"; document 02, E9). This page is the statement;
-- proofs/Agreement.antt has the theorem. Lists of what has happened have the latest first. Runs, legal lists and the claim are said of calls of any type,
-- however they are made, so that the runs of other layers quote the same sentences; `engine_call_types` says what is read of the engine's.
-- Assumes nothing.
use Rattle.std.specs.Prelude.{◌≡◌, ◌⊎◌, ◌↔◌, Bool, true, cond, List, [], ◌∷◌, ℕ, suc, ◌≤◌, ◌<◌, eqb, Option, None, Some, Ok}
use Rattle.calls.specs.Commits.{committed_slot}
use Rattle.calls.specs.declared.CommittedSlot.{CommittedSlot}
use Rattle.basics.specs.sets.Sets.{contains}
use Rattle.message.specs.declared.ConsensusMessage.{ConsensusMessage}
use Rattle.message.specs.declared.ConsensusMsg.{ConsensusMsg}
use Rattle.message.specs.declared.ConsensusMsg.TheVariants.{Prepare, Accept, ForwardRequest, Commit, ReadRequest, ReadResponse}
use Rattle.message.specs.declared.PFMode.{PFMode}
use Rattle.message.specs.declared.PFMode.TheVariants.{Paxos, MultiPaxos, MultiPaxos3P, EPaxos, Pando, SwiftPaxos}
use Rattle.settings.specs.declared.Settings.{Settings}
use Rattle.fast_state.specs.Adopt.{ProposerChoice, lowest_best}
use Rattle.fast_state.specs.declared.FastAnswers.{FastAnswers}
use Rattle.steps.specs.declared.Destination.{Destination}
use Rattle.steps.specs.declared.Destination.TheVariants.{One, All}
use Rattle.steps.specs.declared.SentMessages.{SentMessages}
use Rattle.steps.specs.declared.Outgoing.{Outgoing}
use Rattle.consensus.specs.Call.{new_shard, call_with}
use Rattle.calls.specs.declared.Call.{Call}
use Rattle.calls.specs.declared.Call.TheVariants.{Propose, StartRead, Receive}
use Rattle.calls.specs.declared.Reply.{Reply}
use Rattle.consensus.specs.declared.Answer.{Answer}
use Rattle.consensus.specs.declared.Shard.{Shard}
use Rattle.basics.specs.Lists.{In}

-- ---- calls

-- what a run and its claim read of a call, and of what it hands back
pub record CallTypes : Type 1 where
  pub Call : Type 0
  pub Reply : Type 0
  -- the proposal of a value
  pub proposal : ℕ → Call
  -- the message that the call is, where it is one
  pub message : Call → Option ConsensusMessage
  pub NotRefused : Reply → Type 0
  pub messages : Reply → List Outgoing
  pub commit : Reply → Option CommittedSlot

-- those of the engine

abbrev pub message_of_call : Call → Option ConsensusMessage
message_of_call (Propose v) = None
message_of_call (StartRead tag arrival) = None
message_of_call (Receive d) = Some d.message

abbrev pub listed : Option Outgoing → List Outgoing → List Outgoing
listed None rest = rest
listed (Some o) rest = o ∷ rest

abbrev pub messages_of : SentMessages → List Outgoing
messages_of ms = listed ms.first (listed ms.second (listed ms.third []))

abbrev pub engine_call_types : CallTypes
engine_call_types =
    record {
      Call = Call;
      Reply = Reply;
      proposal = Propose;
      message = message_of_call;
      NotRefused = λ reply. reply.outcome ≡ Ok tt;
      messages = λ reply. messages_of reply.messages;
      commit = λ reply. reply.commit;
    }

-- ---- the group

-- "made with the same settings but for the own number"
abbrev pub member_settings : Settings → ℕ → Settings
member_settings s i =
    record {
      process_count = s.process_count;
      replica_count = s.replica_count;
      my_pid = i;
      alive_replicas = s.alive_replicas;
      first_leader = s.first_leader;
      mode = s.mode;
      quorum = s.quorum;
      committers = s.committers;
      delegates = s.delegates;
    }

-- "A group is one shard for each process, made with .. Each begins new, at slot 0, with no read open."
abbrev pub begun : Settings → ℕ → Shard
begun s i = new_shard (member_settings s i)

-- ---- runs

-- "A run is a list of calls, perhaps empty. Each call names a member and is a proposal of any value, a new read .., or a message."
pub record MemberCallOf (C : Type 0) : Type 0 where
  pub member : ℕ
  pub call : C

abbrev pub MemberCall : Type 0
MemberCall = MemberCallOf Call

-- what is kept of each call: the member, the call, and what it handed back
pub record EntryOf (T : CallTypes) : Type 0 where
  pub member : ℕ
  pub call : T.Call
  pub reply : T.Reply

abbrev pub Entry : Type 0
Entry = EntryOf engine_call_types

-- a call that is made on the shard of its member, or on what stands for it: what is there afterwards, and what is kept
pub record CallMade (T : CallTypes) (S : Type 0) : Type 0 where
  pub shard : S
  pub call : T.Call
  pub reply : T.Reply

-- S is what stands for the shard of a member, and C what is handed in for a call
module _ {T : CallTypes} {S C : Type 0} where
  abbrev pub entry_made : (S → C → CallMade T S) → (ℕ → S) → MemberCallOf C → EntryOf T
  entry_made make shards c = record { member = c.member; call = (make (shards c.member) c.call).call; reply = (make (shards c.member) c.call).reply }

  -- "A shard goes from one call of its member to the next, by value or lent, and has no other writer."
  abbrev pub after_made : (S → C → CallMade T S) → (ℕ → S) → MemberCallOf C → ℕ → S
  after_made make shards c j = cond (eqb j c.member) (make (shards c.member) c.call).shard (shards j)

  -- the entries of a run that goes on from some shards and earlier entries; at each place in the list calls may be made in another way
  unfoldable pub entries_made : (ℕ → S → C → CallMade T S) → (ℕ → S) → List (EntryOf T) → List (MemberCallOf C) → List (EntryOf T)
  entries_made makes shards past [] = past
  entries_made makes shards past (c ∷ cs) =
      entries_made (λ place. makes (suc place)) (after_made (makes 0) shards c) (entry_made (makes 0) shards c ∷ past) cs

-- those of the engine, or of another in its place

abbrev pub call_by_value : (Shard → Call → Answer) → Shard → Call → CallMade engine_call_types Shard
call_by_value engine shard c = record { shard = (engine shard c).shard; call = c; reply = (engine shard c).reply }

-- In EPaxos an adoption takes the value of a proposer that is chosen. The choice is a parameter, a new one at each place in the list; ours is the
-- lowest of the best at every place (`call_of` is `call_with lowest_best`).
abbrev pub ProposerChoices : Type 0
ProposerChoices = ℕ → ProposerChoice

abbrev pub ours : ProposerChoices
ours place = lowest_best

-- those of the list without its first call
abbrev pub later_choices : ProposerChoices → ProposerChoices
later_choices choices place = choices (suc place)

abbrev pub entry_of : ProposerChoice → (ℕ → Shard) → MemberCall → Entry
entry_of choose shards c = entry_made (call_by_value (call_with choose)) shards c

abbrev pub after_call : ProposerChoice → (ℕ → Shard) → MemberCall → ℕ → Shard
after_call choose shards c = after_made (call_by_value (call_with choose)) shards c

abbrev pub entries_from : ProposerChoices → (ℕ → Shard) → List Entry → List MemberCall → List Entry
entries_from choices shards past cs = entries_made (λ place. call_by_value (call_with (choices place))) shards past cs

abbrev pub entries_with : ProposerChoices → Settings → List MemberCall → List Entry
entries_with choices s cs = entries_from choices (begun s) [] cs

-- at our choice
abbrev pub entries : Settings → List MemberCall → List Entry
entries s cs = entries_with ours s cs

-- ---- legal lists

-- the destination is the member alone, or all but the source
abbrev pub Reaches : ℕ → Destination → ℕ → Type 0
Reaches source (One p) member = p ≡ member
Reaches source (All first) member = source ≡ member → ⊥

-- sent to the member. "A Commit counts as sent to every other member, the first destination and the rest."
abbrev pub SentTo : ℕ → Destination → ℕ → ConsensusMsg → Type 0
SentTo source destination member (Prepare slot round rv) = Reaches source destination member
SentTo source destination member (Accept slot round v) = Reaches source destination member
SentTo source destination member (ForwardRequest v) = Reaches source destination member
SentTo source destination member (Commit slot v) = source ≡ member → ⊥
SentTo source destination member (ReadRequest id) = Reaches source destination member
SentTo source destination member (ReadResponse id next) = Reaches source destination member

module _ {T : CallTypes} where
  -- "an earlier call of the list, on the member that the message gives as its source, handed it back, sent to the member now called"
  abbrev pub WasSent : List (EntryOf T) → ConsensusMessage → ℕ → Type 0
  WasSent past message member =
      (e : EntryOf T) × (o : Outgoing) × In e past × (e.member ≡ message.src) × In o (T.messages e.reply) × (o.message ≡ message)
      × SentTo message.src o.destination member message.msg

  abbrev pub MayHandIn : List (EntryOf T) → ℕ → Option ConsensusMessage → Type 0
  MayHandIn past member None = Unit {0}
  MayHandIn past member (Some message) = WasSent past message member

  abbrev pub MayStand : List (EntryOf T) → ℕ → T.Call → Type 0
  MayStand past member call = MayHandIn past member (T.message call)

module _ {T : CallTypes} {S C : Type 0} where
  -- every call is of a member of the group, and every message stands only where it was sent before
  unfoldable pub LegalMade : ℕ → (ℕ → S → C → CallMade T S) → (ℕ → S) → List (EntryOf T) → List (MemberCallOf C) → Type 0
  LegalMade n makes shards past [] = Unit {0}
  LegalMade n makes shards past (c ∷ cs) =
      (c.member < n) × MayStand past c.member (makes 0 (shards c.member) c.call).call
      × LegalMade n (λ place. makes (suc place)) (after_made (makes 0) shards c) (entry_made (makes 0) shards c ∷ past) cs

abbrev pub LegalFrom : ℕ → ProposerChoices → (ℕ → Shard) → List Entry → List MemberCall → Type 0
LegalFrom n choices shards past cs = LegalMade n (λ place. call_by_value (call_with (choices place))) shards past cs

abbrev pub LegalWith : ProposerChoices → Settings → List MemberCall → Type 0
LegalWith choices s cs = LegalFrom s.process_count choices (begun s) [] cs

abbrev pub Legal : Settings → List MemberCall → Type 0
Legal s cs = LegalWith ours s cs

-- ---- the claim

-- the entry, or whatever the list is of, stands in the list, with those earlier than it
abbrev pub At : {A : Type 0} → A → List A → List A → Type 0
At e earlier [] = ⊥
At e earlier (x ∷ xs) = ((e ≡ x) × (earlier ≡ xs)) ⊎ At e earlier xs

-- one more, where there is a commit
abbrev pub plus_commit : Option CommittedSlot → ℕ → ℕ
plus_commit None n = n
plus_commit (Some commit) n = suc n

module _ {T : CallTypes} where
  -- "A member's slot at a call is the number of commits that its earlier calls in the list handed back."
  abbrev pub slot_at : ℕ → List (EntryOf T) → ℕ
  slot_at member [] = 0
  slot_at member (e ∷ past) = cond (eqb member e.member) (plus_commit (T.commit e.reply) (slot_at member past)) (slot_at member past)

  -- "A value counts as proposed in a slot where a proposal of it, not refused, was made to a member at that slot"
  abbrev pub Proposed : ℕ → ℕ → List (EntryOf T) → Type 0
  Proposed slot v past =
      (e : EntryOf T) × (earlier : List (EntryOf T)) × At e earlier past × (e.call ≡ T.proposal v) × T.NotRefused e.reply × (slot_at e.member earlier ≡ slot)

  -- a commit of the run
  pub record CommitAt (slot v : ℕ) (run : List (EntryOf T)) : Type 0 where
    pub entry : EntryOf T
    pub earlier : List (EntryOf T)
    pub stands : At entry earlier run
    pub fast : Bool
    pub commit : T.commit entry.reply ≡ committed_slot slot v fast

  -- Any two commits are equal in slot and value exactly when they name the same slot; each value was proposed in that slot, "in the very call
  -- that commits the value or in an earlier one"; and each commit is of its member's slot.
  pub record Claim (run : List (EntryOf T)) : Type 0 where
    pub agree : (slot v slot' v' : ℕ) → CommitAt slot v run → CommitAt slot' v' run → (slot ≡ slot') ↔ ((slot ≡ slot') × (v ≡ v'))
    pub proposed : (slot v : ℕ) (c : CommitAt slot v run) → Proposed slot v (c.entry ∷ c.earlier)
    pub own_slot : (slot v : ℕ) (c : CommitAt slot v run) → slot ≡ slot_at c.entry.member c.earlier

-- ---- where it is claimed: of every legal list, with every settings

-- in all modes but SwiftPaxos
abbrev pub NotSwift : PFMode → Type 0
NotSwift Paxos = Unit {0}
NotSwift MultiPaxos = Unit {0}
NotSwift MultiPaxos3P = Unit {0}
NotSwift EPaxos = Unit {0}
NotSwift Pando = Unit {0}
NotSwift SwiftPaxos = ⊥

-- "all this holds whichever of the best-scored proposers each adoption takes": whom the choice takes is a proposer, and none has a higher score
pub record PicksBest (choose : ProposerChoice) : Type 0 where
  pub proposer : (f : FastAnswers) (score : ℕ → ℕ) (p : ℕ) → choose f score ≡ Some p → (p < 64) × (contains f.fast_proposers p ≡ true)
  pub best : (f : FastAnswers) (score : ℕ → ℕ) (p q : ℕ) → choose f score ≡ Some p → q < 64 → contains f.fast_proposers q ≡ true → score q ≤ score p

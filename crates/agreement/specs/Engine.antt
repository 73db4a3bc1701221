-- A group of shards of any engine: its runs over lists of calls, and the claim of a run's log.
-- Assumes nothing.
use Rattle.std.specs.Prelude.{ℕ, suc, ◌<◌, ◌≡◌, Bool, cond, ◌⊎◌, List, [], ◌∷◌, eqb}
use Rattle.basics.specs.Lists.{In}
use Rattle.agreement.specs.Model.{ModelDestination, all, to, Decision, undecided, decided}

-- what a call is: a proposal of a value, a message from a source, or neither (a read)
pub data CallKind (M : Type 0) : Type 0 where
  proposes : ℕ → CallKind M
  delivers : ℕ → M → CallKind M
  reads : CallKind M

-- a message with its destination
pub record Envelope (M : Type 0) : Type 0 where
  pub destination : ModelDestination
  pub message : M

-- what a call hands back: the shard, the messages, the commit, and whether it was taken (not refused)
pub record EngineAnswer (A M : Type 0) : Type 0 where
  pub shard : A
  pub outgoing : List (Envelope M)
  pub decision : Decision
  pub taken : Bool

-- a message that a member has handed back
pub record Sent (M : Type 0) : Type 0 where
  pub source : ℕ
  pub envelope : Envelope M

-- what is claimed of a run is about these: a proposal that was taken, and a commit that was handed back (member, slot, value)
pub data LogEvent : Type 0 where
  proposal : ℕ → ℕ → ℕ → LogEvent
  committed : ℕ → ℕ → ℕ → LogEvent

-- a group on its way: a shard for each member, the messages handed back, and the log. Both lists have the latest first.
pub record Run (A M : Type 0) : Type 0 where
  pub shards : ℕ → A
  pub sent : List (Sent M)
  pub log : List LogEvent

-- the shards with that of member i replaced
abbrev pub shard_replaced : {A : Type 0} → ℕ → A → (ℕ → A) → ℕ → A
shard_replaced i x shards j = cond (eqb j i) x (shards j)

-- the messages sent, with those that member i hands back
abbrev pub sent_with : {M : Type 0} → ℕ → List (Envelope M) → List (Sent M) → List (Sent M)
sent_with i [] l = l
sent_with i (o ∷ os) l = record { source = i; envelope = o } ∷ sent_with i os l

-- the log, with what member i commits
abbrev pub log_with_commit : ℕ → Decision → List LogEvent → List LogEvent
log_with_commit i undecided l = l
log_with_commit i (decided s v) l = committed i s v ∷ l

-- how many commits the calls of member i have handed back: its slot
abbrev pub commits_by : ℕ → List LogEvent → ℕ
commits_by i [] = 0
commits_by i (proposal j s v ∷ l) = commits_by i l
commits_by i (committed j s v ∷ l) = cond (eqb i j) (suc (commits_by i l)) (commits_by i l)

-- the log, with what member i proposes, where that was taken
abbrev pub log_with_proposal : {M : Type 0} → ℕ → CallKind M → Bool → List LogEvent → List LogEvent
log_with_proposal i (proposes v) taken l = cond taken (proposal i (commits_by i l) v ∷ l) l
log_with_proposal i (delivers source c) taken l = l
log_with_proposal i reads taken l = l

-- an event that is a commit in slot s has value v
abbrev pub Agrees : ℕ → ℕ → LogEvent → Type 0
Agrees s v (proposal j s' v') = Unit {0}
Agrees s v (committed j s' v') = s ≡ s' → v ≡ v'

-- The claim of a log: each event is in its member's slot; the value of a commit was proposed in that slot, and every earlier commit in that
-- slot, by whatever member, has the same value.
abbrev pub EngineClaim : List LogEvent → Type 0
EngineClaim [] = Unit {0}
EngineClaim (proposal i s v ∷ l) = (s ≡ commits_by i l) × EngineClaim l
EngineClaim (committed i s v ∷ l) = (s ≡ commits_by i l) × ((j : ℕ) × In (proposal j s v) l) × ((e : LogEvent) → In e l → Agrees s v e) × EngineClaim l

-- an engine: its shards, messages and calls; the number of members; the member that a call names, what kind of call it is, and what it
-- hands back; and the shard that a member begins with
pub record Engine : Type 1 where
  pub Shard : Type 0
  pub Message : Type 0
  pub Call : Type 0
  pub size : ℕ
  pub member : Call → ℕ
  pub kind : Call → CallKind Message
  pub answer : Shard → Call → EngineAnswer Shard Message
  pub initial : ℕ → Shard

abbrev pub RunOf : Engine → Type 0
RunOf E = Run E.Shard E.Message

module _ (E : Engine) where
  unfoldable pub run_with_call : RunOf E → E.Call → RunOf E
  run_with_call R c =
      let r : EngineAnswer E.Shard E.Message = E.answer (R.shards (E.member c)) c in
      record {
        shards = shard_replaced (E.member c) r.shard R.shards;
        sent = sent_with (E.member c) r.outgoing R.sent;
        log = log_with_commit (E.member c) r.decision (log_with_proposal (E.member c) (E.kind c) r.taken R.log);
      }

  -- a message is delivered only where its source has handed it back, to all or to the member called: as often as one likes, in any order
  abbrev pub SentInRun : RunOf E → ℕ → CallKind E.Message → Type 0
  SentInRun R i (proposes v) = Unit {0}
  SentInRun R i (delivers source c) = In (record { source = source; envelope = record { destination = all; message = c } }) R.sent
      ⊎ In (record { source = source; envelope = record { destination = to i; message = c } }) R.sent
  SentInRun R i reads = Unit {0}

  abbrev pub empty_run : RunOf E
  empty_run = record { shards = E.initial; sent = []; log = [] }

  unfoldable pub run_of_calls : RunOf E → List E.Call → RunOf E
  run_of_calls R [] = R
  run_of_calls R (c ∷ cs) = run_of_calls (run_with_call R c) cs

  -- each call is of a member of the group, and delivers only what was sent
  unfoldable pub LegalCalls : RunOf E → List E.Call → Type 0
  LegalCalls R [] = Unit {0}
  LegalCalls R (c ∷ cs) = (E.member c < E.size) × SentInRun R (E.member c) (E.kind c) × LegalCalls (run_with_call R c) cs

-- When the leader of a MultiPaxos slot commits (document 02, E14). This page is the statement; proofs/LeaderCommits.antt has the theorem. Lists of
-- what has happened have the latest first.
-- Assumes nothing.
use Rattle.std.specs.Prelude.{◌≡◌, ◌↔◌, Bool, true, false, cond, not, ◌&&◌, List, [], ◌∷◌, ℕ, ◌+◌, ◌≤◌, ◌<◌, eqb, Ok, Option, None, Some}
use Rattle.basics.specs.Lists.{In}
use Rattle.basics.specs.sets.Sets.{insert, size}
use Rattle.message.specs.Modes.{is_multi_paxos}
use Rattle.message.specs.declared.ConsensusMsg.{ConsensusMsg}
use Rattle.message.specs.declared.ConsensusMsg.TheVariants.{Prepare, Accept, ForwardRequest, Commit, ReadRequest, ReadResponse}
use Rattle.settings.specs.Questions.{is_live_replica, quorums_of}
use Rattle.settings.specs.declared.Settings.{Settings}
use Rattle.calls.specs.declared.delivery.Delivery.{Delivery}
use Rattle.calls.specs.Commits.{committed_slot}
use Rattle.calls.specs.declared.Call.TheVariants.{Propose}
use Rattle.consensus.specs.FirstCause.{given_number, appended, any_above, any_from}
use Rattle.consensus.specs.Rows.{Row, gives}
use Rattle.group.specs.Claim.{MemberCall, At, slot_at}
use Rattle.group.specs.Steps.{RunStep, reply_of, is_done, delivered, run_steps, entries_of_steps}

-- ---- the terms

-- "a MultiPaxos slot": of MultiPaxos or MultiPaxos3P; "with a majority of at least two, no committer set and a leader that is a live replica"
pub record Terms (s : Settings) : Type 0 where
  pub multi_paxos : is_multi_paxos s.mode ≡ true
  pub no_committer : s.committers ≡ None
  pub at_least_two : 2 ≤ (quorums_of s).majority
  pub live_leader : is_live_replica s s.first_leader ≡ true

-- ---- what the leader has heard

abbrev pub is_accept_of : ℕ → ConsensusMsg → Bool
is_accept_of t (Prepare slot round rv) = false
is_accept_of t (Accept slot round v) = eqb slot t
is_accept_of t (ForwardRequest v) = false
is_accept_of t (Commit slot v) = false
is_accept_of t (ReadRequest id) = false
is_accept_of t (ReadResponse id next) = false

-- an answer: an accept of slot t from a live replica, the leader "itself not counted"
abbrev pub is_answer : Settings → ℕ → Option Delivery → Bool
is_answer s t None = false
is_answer s t (Some d) = is_accept_of t d.message.msg && (is_live_replica s d.message.src && not (eqb d.message.src s.first_leader))

abbrev pub source_of : Option Delivery → ℕ
source_of None = 0
source_of (Some d) = d.message.src

-- an answer comes to the leader
abbrev pub comes : Settings → ℕ → RunStep → Bool
comes s t x = is_answer s t (delivered x) && eqb x.member s.first_leader

-- and the leader hears it: it is not refused
abbrev pub leader_hears : Settings → ℕ → RunStep → Bool
leader_hears s t x = comes s t x && is_done (reply_of x).outcome

-- the set of the sources of the steps that pass a test
unfoldable pub sources : (RunStep → Bool) → List RunStep → ℕ
sources test [] = 0
sources test (x ∷ past) = cond (test x) (insert (sources test past) (source_of (delivered x))) (sources test past)

-- "the distinct live replicas whose accept of that slot it has heard, itself not counted": how many
abbrev pub answers_heard : Settings → ℕ → List RunStep → ℕ
answers_heard s t past = size (sources (leader_hears s t) past)

-- the same of all that came, refused ones too
abbrev pub answers_came : Settings → ℕ → List RunStep → ℕ
answers_came s t past = size (sources (comes s t) past)

-- ---- "after the leader has proposed"

-- the leader proposed v in slot t, and was not refused
abbrev pub LeaderProposed : Settings → ℕ → ℕ → List RunStep → Type 0
LeaderProposed s t v past =
    (x : RunStep) × (earlier : List RunStep) × At x earlier past × (x.member ≡ s.first_leader) × (x.call ≡ Propose v) × ((reply_of x).outcome ≡ Ok tt)
    × (slot_at s.first_leader (entries_of_steps earlier) ≡ t)

-- x is a step of the run, of the leader, which has proposed v in its slot t before
pub record AfterProposal (s : Settings) (cs : List MemberCall) (t v : ℕ) (x : RunStep) (past : List RunStep) : Type 0 where
  pub stands : At x past (run_steps s cs)
  pub leader : x.member ≡ s.first_leader
  pub proposed : LeaderProposed s t v past
  pub in_slot : slot_at s.first_leader (entries_of_steps past) ≡ t

abbrev pub CommitsValue : RunStep → ℕ → ℕ → Type 0
CommitsValue x t v = (fast : Bool) × ((reply_of x).commit ≡ committed_slot t v fast)

-- ---- the claim

-- Before the step there are fewer answers than majority less one. The leader commits v in the step exactly where the step brings them to majority less
-- one; and it commits nothing else. Counted are the answers that were heard, or all that came.
pub record CommitsOnAnswer (answers : List RunStep → ℕ) (s : Settings) (t v : ℕ) (x : RunStep) (past : List RunStep) : Type 0 where
  pub not_yet : answers past + 1 < (quorums_of s).majority
  pub exactly : CommitsValue x t v ↔ (answers (x ∷ past) + 1 ≡ (quorums_of s).majority)
  pub no_other : (slot w : ℕ) → CommitsValue x slot w → (slot ≡ t) × (w ≡ v)

-- ---- what the host adds to an answer

-- the requesters that it gives: of the answer's value, and of the value of the held promise
abbrev pub requesters_in : Delivery → List ℕ
requesters_in d = appended (given_number d.said.requester) (given_number d.held_requester)

-- the causes that are the host's: a requester above the number limit, one that is not below the process count, the value not held
abbrev pub host_causes : Settings → Delivery → List Row
host_causes s d =
    gives 2 (any_above 9223372036854775807 (requesters_in d))
    ∷ gives 3 (any_from s.process_count (requesters_in d))
    ∷ gives 6 (not d.said.value_held)
    ∷ []

-- "given that the host holds the value"
abbrev pub HostHolds : Option Delivery → Type 0
HostHolds None = Unit {0}
HostHolds (Some d) = d.said.value_held ≡ true

-- each requester that it gives is a process
abbrev pub SoundRequesters : Settings → Option Delivery → Type 0
SoundRequesters s None = Unit {0}
SoundRequesters s (Some d) = any_from s.process_count (requesters_in d) ≡ false

-- both with every answer of slot t that has come: the host is sound
abbrev pub SoundAnswers : Settings → ℕ → List RunStep → Type 0
SoundAnswers s t past = (x : RunStep) → In x past → comes s t x ≡ true → HostHolds (delivered x) × SoundRequesters s (delivered x)

-- ---- the document's words

abbrev pub BringsCommit : ℕ → Option Delivery → Type 0
BringsCommit t None = ⊥
BringsCommit t (Some d) = (v : ℕ) × (d.message.msg ≡ Commit t v)

-- "no Commit for that slot came earlier"
abbrev pub NoCommitCame : Settings → ℕ → List RunStep → Type 0
NoCommitCame s t past = (x : RunStep) → In x past → x.member ≡ s.first_leader → BringsCommit t (delivered x) → ⊥

-- "no answer was refused"
abbrev pub NoAnswerRefused : Settings → ℕ → List RunStep → Type 0
NoAnswerRefused s t past = (x : RunStep) → In x past → comes s t x ≡ true → is_done (reply_of x).outcome ≡ true

-- "it commits on the very answer that brings the distinct live replicas whose accept of that slot it has heard, itself not counted, to majority less
-- one, given that the host holds the value, no Commit for that slot came earlier, and no answer was refused. Without such a Commit it does not commit
-- before that answer."
pub record AsAsked (s : Settings) (t v : ℕ) (x : RunStep) (past : List RunStep) : Type 0 where
  pub commits : HostHolds (delivered x) → NoCommitCame s t past → NoAnswerRefused s t (x ∷ past)
      → (answers_came s t past + 1 ≡ (quorums_of s).majority → ⊥) → answers_came s t (x ∷ past) + 1 ≡ (quorums_of s).majority → CommitsValue x t v
  pub not_before : NoCommitCame s t (x ∷ past) → answers_heard s t (x ∷ past) + 1 < (quorums_of s).majority → (slot w : ℕ) → CommitsValue x slot w → ⊥

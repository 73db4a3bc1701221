-- Calls one after the other: the shards that there are, a proposer that gathers promises, and a learner that counts acceptances. The statements of
-- proofs/ are about these.
-- Assumes nothing.
use Rattle.std.specs.Prelude.{◌≡◌, true, false, List, [], ◌∷◌, ◌++◌, ℕ, eqb, ltb, None, Ok}
use Rattle.std.proofs.Math.Option.{Option}
use Rattle.basics.specs.sets.Sets.{size}
use Rattle.paxos.specs.PaxosMadeSimple.{Proposal, Proposer}
use Rattle.message.specs.declared.ConsensusMsg.TheVariants.{Prepare, Accept}
use Rattle.message.specs.declared.PaxosRound.{PaxosRound}
use Rattle.message.specs.declared.PFMode.{PFMode}
use Rattle.message.specs.declared.PFMode.TheVariants.{Paxos, MultiPaxos, MultiPaxos3P, EPaxos, Pando, SwiftPaxos}
use Rattle.message.specs.declared.RoundV.{RoundV}
use Rattle.fast_state.specs.Adopt.{lowest_best}
use Rattle.settings.specs.declared.Settings.{Settings}
use Rattle.calls.specs.declared.delivery.Delivery.{Delivery}
use Rattle.calls.specs.declared.Call.{Call}
use Rattle.calls.specs.declared.Call.TheVariants.{Receive}
use Rattle.consensus.specs.Call.{new_shard, call_of}
use Rattle.consensus.specs.FirstCause.{is_live, first_cause}
use Rattle.consensus.specs.declared.Shard.{Shard}
use Rattle.paper.specs.PaperCall.{in_places, known_of}
use Rattle.paper.specs.Replica.{Replica, report_of, own_value, hears, accepts_with}

-- the modes of the paper
abbrev pub ClassicMode : PFMode → Type 0
ClassicMode Paxos = Unit {0}
ClassicMode MultiPaxos = Unit {0}
ClassicMode MultiPaxos3P = Unit {0}
ClassicMode EPaxos = ⊥
ClassicMode Pando = Unit {0}
ClassicMode SwiftPaxos = ⊥

-- a shard as it was made, or as a call of it has left it
pub data ReachedShard : Shard → Type 0 where
  new : (s : Settings) → (new_shard s).made ≡ Ok tt → ReachedShard (new_shard s)
  called : (shard : Shard) (c : Call) → ReachedShard shard → ReachedShard (call_of shard c).shard

-- a message of the own slot, at a live replica, that no cause refuses
pub record Handled (shard : Shard) (d : Delivery) (slot : ℕ) : Type 0 where
  pub free : first_cause lowest_best shard (Receive d) ≡ 0
  pub replica : is_live shard.settings shard.settings.my_pid ≡ true
  pub own : ltb slot shard.state.rounds.core.slot ≡ false

-- ---- the proposer

-- a promise that was heard: whose, and what it brought
pub record HeardPromise : Type 0 where
  pub src : ℕ
  pub brought : RoundV

abbrev pub reports_of : List HeardPromise → List (Option (Proposal PaxosRound ℕ))
reports_of [] = []
reports_of (p ∷ ps) = report_of p.brought ∷ reports_of ps

-- promises that are heard one after the other, at the process me
abbrev pub hears_all : ℕ → Replica → List HeardPromise → Replica
hears_all me r [] = r
hears_all me r (p ∷ ps) = hears_all me (hears me p.src p.brought r) ps

-- the paper's proposer with every report: the own acceptor's, and then those of the promises
abbrev pub with_all : ℕ → PaxosRound → Replica → List HeardPromise → Proposer PaxosRound ℕ
with_all me n r ps =
    record { number = n; own = own_value r.wish; responders = size (hears_all me r ps).promised; reports = r.acceptor.accepted ∷ reports_of ps }

-- a Prepare of the number n at the proposer
pub record PromiseAtProposer (n : PaxosRound) (shard : Shard) (d : Delivery) (rv : RoundV) : Type 0 where
  pub slot : ℕ
  pub handled : Handled shard d slot
  pub message : d.message.msg ≡ Prepare slot n rv
  pub gatherer : eqb (known_of shard.settings d).proposer shard.settings.my_pid ≡ true

abbrev pub response_of : Delivery → RoundV → HeardPromise
response_of d rv = record { src = d.message.src; brought = rv }

-- the shard has taken promises one after the other, and has sent nothing
pub data Gathered (n : PaxosRound) (first : Shard) : List HeardPromise → Shard → Type 0 where
  nothing_yet : Gathered n first [] first
  one_more : {ps : List HeardPromise} {shard : Shard} (d : Delivery) (rv : RoundV) → Gathered n first ps shard → PromiseAtProposer n shard d rv
      → (call_of shard (Receive d)).reply.messages ≡ in_places []
      → Gathered n first (ps ++ (response_of d rv ∷ [])) (call_of shard (Receive d)).shard

-- ---- the learner

-- an Accept that was taken: whose, and of which value
pub record Acceptance : Type 0 where
  pub src : ℕ
  pub value : ℕ

-- those of the number n, one after the other, at the process me
abbrev pub accepts_all : ℕ → PaxosRound → Replica → List Acceptance → Replica
accepts_all me n r [] = r
accepts_all me n r (x ∷ xs) = accepts_all me n (accepts_with me x.src (record { number = n; value = x.value }) r) xs

-- an Accept of the number n
pub record Announced (n : PaxosRound) (shard : Shard) (d : Delivery) (v : ℕ) : Type 0 where
  pub slot : ℕ
  pub handled : Handled shard d slot
  pub message : d.message.msg ≡ Accept slot n v

abbrev pub acceptance_of : Delivery → ℕ → Acceptance
acceptance_of d v = record { src = d.message.src; value = v }

-- the shard has taken them one after the other, and has committed nothing
pub data AcceptancesTaken (n : PaxosRound) (first : Shard) : List Acceptance → Shard → Type 0 where
  none_yet : AcceptancesTaken n first [] first
  one_counted : {xs : List Acceptance} {shard : Shard} (d : Delivery) (v : ℕ) → AcceptancesTaken n first xs shard → Announced n shard d v
      → (call_of shard (Receive d)).reply.commit ≡ None
      → AcceptancesTaken n first (xs ++ (acceptance_of d v ∷ [])) (call_of shard (Receive d)).shard

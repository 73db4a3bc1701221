-- What Paxos rests on: the processes whose promises let a delegate propose and the processes whose accepts let a value be committed have one in common.
-- Assumes nothing.
use mathlib.Core.Path.{◌≡◌}
use mathlib.Core.Bool.{true}
use Prim.Native.Nat.{ℕ, ◌≤◌, ◌<◌}
use native.Mathlib.Omega.{arith}
use lib.Dec.{leb}
use borrow.Author.Tests.{leb-true}
use Rattle.basics.specs.sets.Sets.{contains, size, Within}
use Rattle.basics.proofs.sets.Laws.{majorities_meet}
use Rattle.quorum.specs.Quorum.{majority_of}
use Rattle.round_state.specs.Paxos.{is_prepared, paxos_can_commit}
use Rattle.round_state.specs.declared.Member.{Member}
use Rattle.round_state.specs.declared.PaxosState.{PaxosState}

-- two members of a group of r replicas, of which some are live
module _ (r live : ℕ) (few : size live ≤ r) (me other : Member) (mine : me.quorums.majority ≡ majority_of r) (theirs : other.quorums.majority ≡ majority_of r) (s t : PaxosState) where
  majorities : (a b : ℕ) → Within a live → Within b live → leb me.quorums.majority (size a) ≡ true → leb other.quorums.majority (size b) ≡ true
      → (p : ℕ) × (p < 64) × (contains a p ≡ true) × (contains b p ≡ true)
  majorities a b wa wb e d =
      let x : me.quorums.majority ≤ size a = leb-true me.quorums.majority (size a) e in
      let y : other.quorums.majority ≤ size b = leb-true other.quorums.majority (size b) d in
      majorities_meet r live a b wa wb few (omega arith) (omega arith)

  pub prepared_meets_accepted : Within s.prepared_set live → Within t.accepted_set live → is_prepared me s ≡ true → paxos_can_commit other t ≡ true
      → (p : ℕ) × (p < 64) × (contains s.prepared_set p ≡ true) × (contains t.accepted_set p ≡ true)
  prepared_meets_accepted = majorities s.prepared_set t.accepted_set

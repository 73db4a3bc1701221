-- In SwiftPaxos the prepared set may hold a process that is no live replica, so `sets_hold_live_replicas` (Invariants.antt) leaves that mode out:
-- of the processes 0, 1 and 2 the first two are live replicas; 2 proposes 10, and 0, the leader, counts the Prepare of 2 as a promise.
-- Assumes nothing.
use Rattle.std.specs.Prelude.{None}
use mathlib.Core.Path.{◌≡◌, refl}
use mathlib.Core.Bool.{Bool, false}
use mathlib.Core.List.{List, [], ◌∷◌}
use mathlib.Core.Logic.{inl}
use Prim.Native.Nat.{ℕ}
use lib.Dec.{lit<}
use Rattle.message.specs.Rounds.{round_of}
use Rattle.message.specs.declared.ConsensusMsg.TheVariants.{Prepare}
use Rattle.message.specs.declared.PFMode.TheVariants.{SwiftPaxos}
use Rattle.message.specs.declared.RoundV.TheVariants.{FastV}
use Rattle.settings.specs.declared.Settings.{Settings}
use Rattle.agreement.proofs.Tests.{neqb→ne}
use Rattle.group.specs.Claim.{begun, ours, MemberCall, Legal}
use Rattle.group.proofs.Example.{three_members, proposal_call, hears_message, first}
use Rattle.group.proofs.Computed.{computed}
use Rattle.group.proofs.Invariants.{shards_after}

-- the process of the committers' table is the committer of all, where there are committers
abbrev pub with_client : Bool → ℕ → Settings
with_client given committer = three_members SwiftPaxos 2 3 given committer 0

abbrev calls : List MemberCall
calls = proposal_call 2 10 ∷ hears_message 0 2 None (Prepare 0 (round_of 0 0) (FastV 2 10)) ∷ []

-- 5 is the set of 0 and 2
pub client_counted : Legal (with_client false 0) calls × ((shards_after ours (begun (with_client false 0)) calls 0).state.rounds.core.paxos.prepared_set ≡ 5)
unfolding computed
client_counted = (first (lit< tt) tt (first (lit< tt) (_, _, inl refl, refl, inl refl, refl, neqb→ne 2 0 tt) tt), refl)

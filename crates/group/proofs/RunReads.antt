-- The reads that a run serves, for the runs that are computed.
-- Assumes nothing.
use mathlib.Core.Bool.{false}
use mathlib.Core.List.{List, [], ◌∷◌, ◌++◌}
use Prim.Native.Nat.{ℕ}
use Rattle.read_tracker.specs.Reads.{read_id}
use Rattle.read_tracker.specs.declared.ServedRead.{ServedRead}
use Rattle.calls.specs.declared.Call.TheVariants.{StartRead}
use Rattle.consensus.specs.Call.{call_with}
use Rattle.consensus.specs.declared.Shard.{Shard}
use Rattle.group.specs.Claim.{ProposerChoices, later_choices, MemberCall, after_call}
use Rattle.group.proofs.Invariants.{served_by_call}

-- a member opens a read, with a tag and an arrival slot
abbrev pub opens : ℕ → ℕ → ℕ → MemberCall
opens member tag arrival = record { member = member; call = StartRead tag arrival }

-- a served read, and the member that served it
pub record MemberRead : Type 0 where
  pub member : ℕ
  pub served : ServedRead

abbrev reads_of : ℕ → List ServedRead → List MemberRead
reads_of member [] = []
reads_of member (r ∷ rs) = record { member = member; served = r } ∷ reads_of member rs

-- all reads that a run serves, in the order of the calls
unfoldable pub served_from : ProposerChoices → (ℕ → Shard) → List MemberCall → List MemberRead
served_from choices shards [] = []
served_from choices shards (c ∷ cs) =
    reads_of c.member (served_by_call (call_with (choices 0) (shards c.member) c.call))
    ++ served_from (later_choices choices) (after_call (choices 0) shards c) cs

-- a read with the first id of its member
abbrev pub serves : ℕ → ℕ → ℕ → MemberRead
serves member tag waited = record { member = member; served = record { id = read_id 0; tag = tag; waited_for = waited; fast = false } }

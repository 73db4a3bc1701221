-- A call is made by the choice of its place in the list, and not by one choice for all: "whichever of the best-scored proposers each adoption takes"
-- (document 02, E9). Of two calls, which is where it first shows.
-- Assumes nothing.
use mathlib.Core.Path.{◌≡◌, refl}
use mathlib.Core.List.{List, [], ◌∷◌}
use Prim.Native.Nat.{ℕ}
use Rattle.consensus.specs.declared.Shard.{Shard}
use Rattle.group.specs.Claim.{ProposerChoices, MemberCall, Entry, entry_of, after_call, entries_from, entries_made}

pub second_by_its_own : (choices : ProposerChoices) (shards : ℕ → Shard) (past : List Entry) (c d : MemberCall)
    → entries_from choices shards past (c ∷ d ∷ [])
    ≡ entry_of (choices 1) (after_call (choices 0) shards c) d ∷ entry_of (choices 0) shards c ∷ past
unfolding entries_made
second_by_its_own choices shards past c d = refl

-- The first members of a new group, one more, and a call on a member.
-- Assumes nothing.
use Rattle.std.proofs.Common.{◌≡◌, ◌+◌, ◌<◌, ◌≤◌, refl, ap, ℕ, get_or, replicate, set, add-one}
use borrow.Author.Tests.{lt-ltb, le-ltb}
use Rattle.message.specs.declared.Refusal.TheVariants.{NoSuchProcess}
use Rattle.settings.specs.declared.Settings.{Settings}
use Rattle.calls.specs.Replies.{refused_reply}
use Rattle.calls.specs.declared.Call.{Call}
use Rattle.consensus.specs.Call.{call_of}
use Rattle.consensus.specs.declared.Shard.{Shard}
use Rattle.group.specs.Claim.{begun}
use Rattle.group_by_value.specs.declared.Group.{Group}
use Rattle.group_by_value.specs.Group.{new_members, replaced, called}

-- a new group: each place has the first shard, and then one more its own
pub members_none : (s : Settings) → new_members s 0 ≡ replicate 64 (begun s 0)
unfolding new_members
members_none s = refl

pub members_next : (s : Settings) (i : ℕ) → new_members s (i + 1) ≡ set (new_members s i) i (begun s i)
unfolding new_members
members_next s i = ap (new_members s) (add-one i)

-- a call on a member,
-- and on a number that is none
pub called_within : (d : Shard) (g : Group) (i : ℕ) (c : Call) → i < 64 → called d g i c ≡ replaced g i (call_of (get_or g.members i d) c)
unfolding called
called_within d g i c h = simp (lt-ltb i 64 h)

pub called_past : (d : Shard) (g : Group) (i : ℕ) (c : Call) → 64 ≤ i → called d g i c ≡ record { group = g; reply = refused_reply NoSuchProcess }
unfolding called
called_past d g i c h = simp (le-ltb i 64 h)

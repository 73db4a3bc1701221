-- Runs of a group whose shards are lent (document 01, "Group runs": "A shard goes from one call of its member to the next, by value or lent, and
-- has no other writer").
-- Assumes nothing.
use Rattle.std.specs.Prelude.{◌≡◌, cond, List, [], ◌∷◌, ℕ, eqb}
use Rattle.consensus.specs.Call.{call_of}
use Rattle.calls.specs.declared.Call.{Call}
use Rattle.calls.specs.declared.Reply.{Reply}
use Rattle.consensus.specs.declared.Shard.{Shard}
use Rattle.group.specs.Claim.{MemberCall, Entry}

-- a call on a member's shard that was lent: what the shard is afterwards, and what was handed back
pub record LentCall : Type 0 where
  pub member : ℕ
  pub call : Call
  pub after : Shard
  pub reply : Reply

-- what `call_in_place` ensures of the shard before
abbrev pub Ensured : Shard → LentCall → Type 0
Ensured before c = (c.after ≡ (call_of before c.call).shard) × (c.reply ≡ (call_of before c.call).reply)

-- each call was made on the shard that its member's last call left, and nothing else wrote to it
unfoldable pub LentFrom : (ℕ → Shard) → List LentCall → Type 0
LentFrom shards [] = Unit {0}
LentFrom shards (c ∷ cs) = Ensured (shards c.member) c × LentFrom (λ j. cond (eqb j c.member) c.after (shards j)) cs

-- the calls, and what is kept of each, the latest first
abbrev pub calls : List LentCall → List MemberCall
calls [] = []
calls (c ∷ cs) = record { member = c.member; call = c.call } ∷ calls cs

unfoldable pub kept_from : List Entry → List LentCall → List Entry
kept_from past [] = past
kept_from past (c ∷ cs) = kept_from (record { member = c.member; call = c.call; reply = c.reply } ∷ past) cs

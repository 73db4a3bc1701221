-- A group by value, for test runs: an array of shards, of which a call replaces one.
-- Its runs are those of the claim (proofs/Runs.antt).
-- Assumes nothing.
use Rattle.std.specs.Prelude.{cond, List, [], ◌∷◌, ℕ, zero, suc, ltb, get_or, set, replicate}
use Rattle.message.specs.declared.Refusal.TheVariants.{NoSuchProcess}
use Rattle.settings.specs.declared.Settings.{Settings}
use Rattle.calls.specs.Replies.{refused_reply}
use Rattle.consensus.specs.Call.{call_of}
use Rattle.consensus.specs.declared.Answer.{Answer}
use Rattle.calls.specs.declared.Call.{Call}
use Rattle.consensus.specs.declared.Shard.{Shard}
use Rattle.group.specs.Claim.{begun, Entry, MemberCall}
use Rattle.group_by_value.specs.declared.Group.{Group}
use Rattle.group_by_value.specs.declared.GroupAnswer.{GroupAnswer}

-- the shards of the first n members, each new; the places behind them have the first one's
unfoldable pub new_members : Settings → ℕ → List Shard
new_members s zero = replicate 64 (begun s 0)
new_members s (suc i) = set (new_members s i) i (begun s i)

abbrev pub new_group : Settings → Group
new_group s = record { members = new_members s 64 }

-- the shard of a member; d is what lies past the end
abbrev pub shard_at : Shard → Group → ℕ → Shard
shard_at d g i = get_or g.members i d

abbrev pub replaced : Group → ℕ → Answer → GroupAnswer
replaced g i a = record { group = record { members = set g.members i a.shard }; reply = a.reply }

-- a call on a member; a number above 63 is none, and gives 3
unfoldable pub called : Shard → Group → ℕ → Call → GroupAnswer
called d g i c = cond (ltb i 64) (replaced g i (call_of (shard_at d g i) c)) (record { group = g; reply = refused_reply NoSuchProcess })

-- ---- runs of a group

-- what is kept of each call, the latest first
unfoldable pub log_from : Shard → Group → List Entry → List MemberCall → List Entry
log_from d g past [] = past
log_from d g past (c ∷ cs) =
    log_from d (called d g c.member c.call).group (record { member = c.member; call = c.call; reply = (called d g c.member c.call).reply } ∷ past) cs

abbrev pub log_of : Shard → Settings → List MemberCall → List Entry
log_of d s cs = log_from d (new_group s) [] cs

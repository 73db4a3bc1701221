-- A run of lent calls is a run of the claim. So demand 3 holds of shards that are lent.
-- Assumes nothing.
use mathlib.Core.Path.{◌≡◌, refl, sym, ap, subst, ◌∙◌}
use mathlib.Core.Bool.{cond}
use mathlib.Core.List.{List, [], ◌∷◌}
use Prim.Native.Nat.{ℕ}
use lib.Dec.{eqb}
use Rattle.settings.specs.declared.Settings.{Settings}
use Rattle.fast_state.specs.Adopt.{lowest_best}
use Rattle.calls.specs.declared.Reply.{Reply}
use Rattle.consensus.specs.declared.Shard.{Shard}
use Rattle.group.specs.Claim.{begun, ours, Entry, after_call, entries_from, Legal, Claim, NotSwift, entries_made}
use Rattle.group.proofs.Agreement.{agreement}
use Rattle.lent.specs.Runs.{LentCall, LentFrom, calls, kept_from}

pub lent_is_run : (shards : ℕ → Shard) (past : List Entry) (cs : List LentCall) → LentFrom shards cs → kept_from past cs ≡ entries_from ours shards past (calls cs)
unfolding LentFrom kept_from entries_made
lent_is_run shards past [] made = refl
lent_is_run shards past (c ∷ cs) made =
    lent_is_run (λ j. cond (eqb j c.member) c.after (shards j)) (record { member = c.member; call = c.call; reply = c.reply } ∷ past) cs made.1
    ∙ ap (λ (x : Shard). entries_from ours (λ j. cond (eqb j c.member) x (shards j)) (record { member = c.member; call = c.call; reply = c.reply } ∷ past) (calls cs)) made.0.0
    ∙ ap (λ (r : Reply). entries_from ours (after_call lowest_best shards (record { member = c.member; call = c.call })) (record { member = c.member; call = c.call; reply = r } ∷ past) (calls cs)) made.0.1

-- Demand 3 of shards that are lent: what calls in place hand back over a legal list, on shards that began new, meets the claim.
pub lent_agreement : (s : Settings) → NotSwift s.mode → (cs : List LentCall) → LentFrom (begun s) cs → Legal s (calls cs) → Claim (kept_from [] cs)
lent_agreement s claimed cs made legal = subst Claim (sym (lent_is_run (begun s) [] cs made)) (agreement s claimed (calls cs) legal)

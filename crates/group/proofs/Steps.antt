-- The entries of a run are its steps seen from outside.
-- Assumes nothing.
use mathlib.Core.Path.{◌≡◌, refl}
use mathlib.Core.List.{List, [], ◌∷◌}
use Prim.Native.Nat.{ℕ}
use Rattle.settings.specs.declared.Settings.{Settings}
use Rattle.fast_state.specs.Adopt.{lowest_best}
use Rattle.consensus.specs.declared.Shard.{Shard}
use Rattle.group.specs.Claim.{begun, ours, MemberCall, after_call, entries_from, entries, entries_made}
use Rattle.group.specs.Steps.{RunStep, step_of, steps_from, run_steps, entries_of_steps}

entries_from_lem : (shards : ℕ → Shard) (past : List RunStep) (cs : List MemberCall) → entries_of_steps (steps_from shards past cs) ≡ entries_from ours shards (entries_of_steps past) cs
unfolding steps_from entries_made
entries_from_lem shards past [] = refl
entries_from_lem shards past (c ∷ cs) = entries_from_lem (after_call lowest_best shards c) (step_of shards c ∷ past) cs

pub steps_are_entries : (s : Settings) (cs : List MemberCall) → entries_of_steps (run_steps s cs) ≡ entries s cs
steps_are_entries s cs = entries_from_lem (begun s) [] cs

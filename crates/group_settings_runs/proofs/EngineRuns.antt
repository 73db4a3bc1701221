-- Where the slot of whole MHz is within its limit and the windows are made, the runs of a group that is begun from group settings are those that begin from the engine's settings: the
-- same lists of calls are legal, and entries, commits and steps are the same. So what is proved of every legal run from the engine's settings is proved of them.
-- Assumes nothing.
use Rattle.std.specs.Prelude.{Ok}
use mathlib.Core.Path.{◌≡◌, sym, ap, subst}
use mathlib.Core.Logic.{◌↔◌}
use mathlib.Core.List.{List, []}
use Prim.Native.Nat.{ℕ, ◌≤◌}
use borrow.Author.Tests.{le-leb}
use Rattle.consensus.specs.declared.Shard.{Shard}
use Rattle.group.specs.Claim.{begun, ProposerChoices, MemberCall, entries_from, entries_with, LegalFrom, LegalWith}
use Rattle.group.specs.Steps.{steps_from, run_steps}
use Rattle.windows.specs.Windows.{check_windows}
use Rattle.group_settings.specs.GroupSettings.{windows_outcome}
use Rattle.group_settings.specs.declared.GroupSettings.{GroupSettings}
use Rattle.group_settings_runs.specs.Groups.{begun_from, group_entries, GroupLegal, group_steps}
use Rattle.group_settings_runs.proofs.Agreeing.{begun_in_time}

module _ (g : GroupSettings) (in_time : g.whole_mhz_from ≤ 9223372036854775806) (windows : check_windows g.windows ≡ Ok tt) where
  pub engine_shards : begun_from g ≡ begun g.settings
  engine_shards = begun_in_time g (le-leb g.whole_mhz_from 9223372036854775806 in_time) (ap windows_outcome windows)

  module _ (cs : List MemberCall) where
    pub engine_steps : group_steps g cs ≡ run_steps g.settings cs
    engine_steps = ap (λ (shards : ℕ → Shard). steps_from shards [] cs) engine_shards

    module _ (choices : ProposerChoices) where
      pub engine_entries : group_entries choices g cs ≡ entries_with choices g.settings cs
      engine_entries = ap (λ (shards : ℕ → Shard). entries_from choices shards [] cs) engine_shards

      pub engine_legal : GroupLegal choices g cs ↔ LegalWith choices g.settings cs
      engine_legal = (
        subst (λ (shards : ℕ → Shard). LegalFrom g.settings.process_count choices shards [] cs) engine_shards,
        subst (λ (shards : ℕ → Shard). LegalFrom g.settings.process_count choices shards [] cs) (sym engine_shards),
      )

-- A group whose shards begin from group settings, as hosts begin them, and its runs: those of the claim of demand 3 (crates/group/specs/Claim.antt), with other
-- shards at the start.
-- Assumes nothing.
use Rattle.std.specs.Prelude.{List, [], ℕ}
use Rattle.consensus.specs.declared.Shard.{Shard}
use Rattle.group.specs.Claim.{member_settings, ProposerChoices, MemberCall, Entry, entries_from, LegalFrom}
use Rattle.group.specs.Steps.{RunStep, steps_from}
use Rattle.group_settings.specs.declared.GroupSettings.{GroupSettings}
use Rattle.group_shard.specs.Begin.{begin_shard}

-- "made with the same settings but for the own number"
abbrev pub member_group_settings : GroupSettings → ℕ → GroupSettings
member_group_settings g i = record { settings = member_settings g.settings i; whole_mhz_from = g.whole_mhz_from; windows = g.windows }

abbrev pub begun_from : GroupSettings → ℕ → Shard
begun_from g i = begin_shard (member_group_settings g i)

abbrev pub group_entries : ProposerChoices → GroupSettings → List MemberCall → List Entry
group_entries choices g cs = entries_from choices (begun_from g) [] cs

abbrev pub GroupLegal : ProposerChoices → GroupSettings → List MemberCall → Type 0
GroupLegal choices g cs = LegalFrom g.settings.process_count choices (begun_from g) [] cs

-- its steps, at our choice, as E14 sees a run
abbrev pub group_steps : GroupSettings → List MemberCall → List RunStep
group_steps g cs = steps_from (begun_from g) [] cs

-- How a shard begins from the settings of its group, and for which causes it is not made (document 01, row 1 of the table of refusals; document 02, E8 and
-- E13).
-- Assumes nothing.
use Rattle.std.specs.Prelude.{◌≡◌, ◌⊎◌, not, List, [], ◌∷◌, ltb, Ok}
use Rattle.message.specs.Refusals.{refusal_number}
use Rattle.message.specs.declared.Refusal.{Refusal}
use Rattle.calls.specs.declared.Call.{Call}
use Rattle.consensus.specs.Call.{new_state, call_of}
use Rattle.consensus.specs.FirstCause.{settings_causes, number_alone}
use Rattle.consensus.specs.Rows.{Row, gives, NoneHolds, FirstHolds, then}
use Rattle.consensus.specs.declared.Shard.{Shard}
use Rattle.windows.specs.Windows.{all_fit, agreed_windows}
use Rattle.group_settings.specs.GroupSettings.{settings_outcome}
use Rattle.group_settings.specs.declared.GroupSettings.{GroupSettings}

-- a new shard, marked by the group settings; it keeps nothing else of them but the engine's
unfoldable pub begin_shard : GroupSettings → Shard
begin_shard g = record { made = settings_outcome g; settings = g.settings; state = new_state g.settings }

-- document 01's causes in the engine's settings; E13's: "From a slot named in the settings (one above 2^63−2 gives 1)"; and E8's: "More than 128 windows give 1",
-- and "17, a date that the calendar or those years lack, a time outside the day, or a window whose end is not after its start, .. after 1"
abbrev pub group_causes : GroupSettings → List Row
group_causes g =
    then (settings_causes g.settings)
    (gives 1 (ltb 9223372036854775806 g.whole_mhz_from) ∷ gives 1 (ltb 128 g.windows.count) ∷ gives 17 (not (all_fit (agreed_windows g.windows))) ∷ [])

-- A shard begun from these settings, at any later time: it is made, and no cause holds in them; or it is as it began, and all its calls give the number of
-- the first cause.
abbrev pub OfGroupSettings : GroupSettings → Shard → Type 0
OfGroupSettings g shard =
    (NoneHolds (group_causes g) × (shard.made ≡ Ok tt))
    ⊎ ((why : Refusal) × FirstHolds (group_causes g) (refusal_number why) × (shard ≡ begin_shard g) × ((c : Call) → call_of shard c ≡ number_alone why shard))

-- A short list of entries under a slot of whole MHz, computed: each hypothesis of the laws holds somewhere.
-- Assumes nothing.
use mathlib.Core.Path.{◌≡◌, refl}
use mathlib.Core.Bool.{true}
use mathlib.Core.List.{List, [], ◌∷◌}
use Prim.Native.Nat.{ℕ}
use native.Mathlib.Omega.{arith}
use Rattle.basics.proofs.Tests.{not_both}
use Rattle.register.specs.Taken.{is, above, later_entries, among, named_cells, count_in, tally}
use Rattle.register.specs.declared.Assignment.{Assignment}
use Rattle.register.specs.declared.CellEntry.{CellEntry}
use Rattle.register.specs.declared.Change.TheVariants.{Assign, Release}
use Rattle.register.proofs.Examples.{entry}
use Rattle.group_register.specs.Settings.{settings_from, settings_refusal, is_made}
use Rattle.group_register.specs.WholeMhz.{is_odd}
use Rattle.group_register.specs.GroupTaken.{group_number_given, group_latest, group_number_for, group_makes, group_supersedes, group_releases, group_live_count}
use Rattle.group_register.specs.GroupHistory.{AllBefore, NoneTakenOf}
use Rattle.group_register.specs.declared.RegisterSettings.{RegisterSettings}

abbrev carrier : ℕ → Assignment
carrier width = record { carrier = 630000; width = width }

abbrev kept : ℕ → RegisterSettings
kept number = record { number = number; whole_mhz_from = 5 }

-- a host that names the last slot, and one that names the slot behind it; and what is kept as a number
pub settings : (is_made (settings_from 9223372036854775806) ≡ true) × (settings_refusal (settings_from 9223372036854775807) ≡ 1) × (settings_refusal (kept 17) ≡ 17)
    × (settings_refusal (kept 1) ≡ 1) × (settings_refusal (kept 16) ≡ 1) × (settings_refusal (kept 18) ≡ 1) × (is_made (kept 0) ≡ true)
unfolding settings_from settings_refusal
settings = (refl, refl, refl, refl, refl, refl, refl)

-- widths are in whole MHz from slot 5 on: cells 7 and 9 have odd widths from before, and cell 9 is assigned again; latest first
abbrev early : List CellEntry
early = entry 4 9 (Assign (carrier 1500)) ∷ entry 0 7 (Assign (carrier 999)) ∷ []

abbrev office : List CellEntry
office = entry 6 9 (Assign (carrier 2000)) ∷ entry 5 7 (Assign (carrier 1500)) ∷ early

pub all_before : AllBefore 5 early
all_before = (omega arith, (omega arith, tt))

-- at the slot 23, one before it none; "checked after 14"; a repeat is older, and a release has no width
pub numbers : (group_number_for 5 early (entry 5 7 (Assign (carrier 1500))) ≡ 23) × (group_number_for 6 early (entry 5 7 (Assign (carrier 1500))) ≡ 0)
    × (group_number_for 5 early (entry 5 8 (Assign (carrier 1000))) ≡ 0) × (group_number_for 5 early (entry 5 7 (Assign (carrier 400001))) ≡ 14)
    × (group_number_for 5 early (entry 4 7 (Assign (carrier 1500))) ≡ 64) × (group_number_for 5 early (entry 9 7 Release) ≡ 0)
    × (group_number_for 5 early (entry 9223372036854775807 7 (Assign (carrier 1500))) ≡ 2)
unfolding group_number_given group_latest is_odd above count_in named_cells among
numbers = (refl, refl, refl, refl, refl, refl, refl)

-- cell 7 keeps its odd width
pub odd_width_kept : group_latest 5 office 7 ≡ is (Assign (carrier 999))
unfolding group_number_given group_latest is_odd above count_in named_cells among
odd_width_kept = refl

pub none_taken : NoneTakenOf 5 7 (entry 6 9 (Assign (carrier 2000)) ∷ entry 5 7 (Assign (carrier 1500)) ∷ []) early
unfolding group_number_given group_latest is_odd above count_in named_cells among
none_taken = ((λ p q. not_both q refl), ((λ p q. not_both p refl), tt))

pub figures : (tally (group_makes 5) office ≡ 3) × (tally (group_supersedes 5) office ≡ 1) × (tally (group_releases 5) office ≡ 0) × (group_live_count 5 office ≡ 2)
unfolding tally group_number_given group_latest is_odd above count_in named_cells among
figures = (refl, refl, refl, refl)

-- the same with a repeat between them
pub equal_in_slot_order : later_entries (entry 6 9 (Assign (carrier 2000)) ∷ entry 4 7 Release ∷ entry 5 7 (Assign (carrier 1500)) ∷ early) ≡ later_entries office
unfolding later_entries above
equal_in_slot_order = refl

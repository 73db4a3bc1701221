-- Which entries are taken under group settings, and what the report counts, from the entries and the slot alone (document 02, E13). As in E6's
-- Taken.antt nothing here knows the register, and a list of entries stands latest first.
-- Assumes nothing.
use Rattle.std.specs.Prelude.{Bool, cond, ◌&&◌, not, List, [], ◌∷◌, ℕ, leb, eqb}
use Rattle.register.specs.Taken.{Latest, never, is, is_assigned, slot_within_limit, above, change_within_limits, is_assignment, is_release, assigned_cells, tally}
use Rattle.register.specs.declared.CellEntry.{CellEntry}
use Rattle.register.specs.declared.Figures.{Figures}
use Rattle.group_register.specs.Settings.{settings_refusal, is_made}
use Rattle.group_register.specs.WholeMhz.{is_odd}
use Rattle.group_register.specs.declared.RegisterSettings.{RegisterSettings}

-- the number of an entry, given the latest of each cell: the first cause that holds. "23 .. checked after 14 and before 15"; the others as in E6
unfoldable pub group_number_given : ℕ → (ℕ → Latest) → List CellEntry → CellEntry → ℕ
group_number_given from latest before e =
    cond (not (slot_within_limit e.slot)) 2
    (cond (not (above e.slot before)) 64
    (cond (not (change_within_limits e.change)) 14
    (cond (is_odd from e) 23
    (cond (is_assignment e.change && not (is_assigned (latest e.cell)) && leb 512 (assigned_cells latest before)) 15
    (cond (is_release e.change && not (is_assigned (latest e.cell))) 16
    0)))))

-- the latest taken assignment or release of cell n
unfoldable pub group_latest : ℕ → List CellEntry → ℕ → Latest
group_latest from [] n = never
group_latest from (e ∷ before) n =
    cond (eqb (group_number_given from (group_latest from before) before e) 0 && eqb e.cell n) (is e.change) (group_latest from before n)

-- the number of an entry after those before it
abbrev pub group_number_for : ℕ → List CellEntry → CellEntry → ℕ
group_number_for from before e = group_number_given from (group_latest from before) before e

-- a register that is not made gives its settings' number before anything else
abbrev pub number_in_group : RegisterSettings → List CellEntry → CellEntry → ℕ
number_in_group s before e = cond (is_made s) (group_number_for s.whole_mhz_from before e) (settings_refusal s)

-- the entry is taken after those before it
abbrev pub is_group_taken : ℕ → List CellEntry → CellEntry → Bool
is_group_taken from before e = eqb (group_number_for from before e) 0

-- ---- the report: "Earlier entries .. keep .. their count in the report"
abbrev pub group_makes : ℕ → List CellEntry → CellEntry → Bool
group_makes from before e = is_group_taken from before e && is_assignment e.change

abbrev pub group_supersedes : ℕ → List CellEntry → CellEntry → Bool
group_supersedes from before e = group_makes from before e && is_assigned (group_latest from before e.cell)

abbrev pub group_releases : ℕ → List CellEntry → CellEntry → Bool
group_releases from before e = is_group_taken from before e && is_release e.change

abbrev pub group_figures : ℕ → List CellEntry → Figures
group_figures from es = record { made = tally (group_makes from) es; superseded = tally (group_supersedes from) es; released = tally (group_releases from) es }

abbrev pub group_live_count : ℕ → List CellEntry → ℕ
group_live_count from es = assigned_cells (group_latest from es) es

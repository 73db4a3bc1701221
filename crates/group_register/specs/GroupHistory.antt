-- A register of group settings after a list of entries.
-- Assumes nothing.
use Rattle.std.specs.Prelude.{◌≡◌, true, List, [], ◌∷◌, ◌++◌, ℕ, ◌<◌, eqb}
use Rattle.register.specs.declared.CellEntry.{CellEntry}
use Rattle.group_register.specs.GroupRegister.{new_group_register, apply_in_group}
use Rattle.group_register.specs.GroupTaken.{is_group_taken}
use Rattle.group_register.specs.declared.GroupRegister.{GroupRegister}
use Rattle.group_register.specs.declared.RegisterSettings.{RegisterSettings}

-- the register after entries that stand latest first, from a new one of these settings
unfoldable pub group_after : RegisterSettings → List CellEntry → GroupRegister
group_after s [] = new_group_register s
group_after s (e ∷ before) = (apply_in_group (group_after s before) e).group

-- the register after entries in their order
unfoldable pub apply_all_in_group : GroupRegister → List CellEntry → GroupRegister
apply_all_in_group g [] = g
apply_all_in_group g (e ∷ es) = apply_all_in_group (apply_in_group g e).group es

-- every entry is of a slot before that one
abbrev pub AllBefore : ℕ → List CellEntry → Type 0
AllBefore from [] = Unit {0}
AllBefore from (e ∷ es) = (e.slot < from) × AllBefore from es

-- behind `es`, none of the entries `more` is taken and of cell n
abbrev pub NoneTakenOf : ℕ → ℕ → List CellEntry → List CellEntry → Type 0
NoneTakenOf from n [] es = Unit {0}
NoneTakenOf from n (e ∷ more) es = (is_group_taken from (more ++ es) e ≡ true → eqb e.cell n ≡ true → ⊥) × NoneTakenOf from n more es

-- A cell that is assigned, gets a position, is assigned again, is released and is assigned a third time, computed.
-- Assumes nothing.
use mathlib.Core.Path.{◌≡◌, refl}
use mathlib.Core.List.{List, [], ◌∷◌}
use Prim.Native.Nat.{ℕ}
use lib.IntN.{pos, negsuc}
use Rattle.std.specs.Prelude.{Some, None}
use Rattle.register.specs.Taken.{above, among, named_cells, count_in}
use Rattle.register.specs.declared.Change.TheVariants.{Assign, Release}
use Rattle.group_register.specs.Settings.{settings_refusal}
use Rattle.group_register.specs.WholeMhz.{is_odd}
use Rattle.group_register.specs.GroupTaken.{group_number_given, group_latest}
use Rattle.group_register.specs.declared.RegisterSettings.{RegisterSettings}
use Rattle.positions.specs.PlacedTaken.{position_number, entry_number_for, latest_position}
use Rattle.positions.specs.declared.PlacedEntry.{PlacedEntry}
use Rattle.positions.specs.declared.PlacedEntry.TheVariants.{OfCell, OfPosition}
use Rattle.positions.specs.declared.Position.{Position}

abbrev assigned : ℕ → PlacedEntry
assigned slot = OfCell (record { slot = slot; cell = 7; change = Assign (record { carrier = 632628; width = 20000 }) })

abbrev released : ℕ → PlacedEntry
released slot = OfCell (record { slot = slot; cell = 7; change = Release })

abbrev at : Position → ℕ → PlacedEntry
at p slot = OfPosition (record { slot = slot; cell = 7; position = p })

abbrev here : Position
here = record { x = pos 2000000; y = negsuc 1999999 }

abbrev outside : Position
outside = record { x = pos 0; y = negsuc 2000000 }

abbrev settings : RegisterSettings
settings = record { number = 0; whole_mhz_from = 9223372036854775806 }

-- latest first
abbrev kept : List PlacedEntry
kept = assigned 2 ∷ at here 1 ∷ assigned 0 ∷ []

pub positions : (latest_position settings kept 7 ≡ Some here)
    × (latest_position settings (released 3 ∷ kept) 7 ≡ None)
    × (latest_position settings (assigned 4 ∷ released 3 ∷ kept) 7 ≡ None)
unfolding latest_position entry_number_for position_number settings_refusal group_number_given group_latest above is_odd named_cells among count_in
positions = (refl, refl, refl)

-- 2, older, 21, then 16
pub numbers : (entry_number_for settings kept (at outside 9223372036854775807) ≡ 2)
    × (entry_number_for settings kept (at outside 2) ≡ 64)
    × (entry_number_for settings [] (at outside 3) ≡ 21)
    × (entry_number_for settings [] (at here 3) ≡ 16)
unfolding entry_number_for position_number settings_refusal group_number_given group_latest above is_odd named_cells among count_in
numbers = (refl, refl, refl, refl)

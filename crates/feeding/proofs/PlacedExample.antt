-- A list fed to a new register, computed: a cell is assigned, gets a position, a second position of it is outside the limits, and a position of a cell that is
-- not live is refused behind it.
-- Assumes nothing.
use Rattle.std.proofs.Common.{◌≡◌, refl, [], ◌∷◌, Some, Ok}
use lib.IntN.{pos, negsuc}
use Rattle.raster.specs.Raster.{frequency_of}
use Rattle.basics.specs.elements.Places.{at_front, with_at}
use Rattle.register.specs.Cells.{has_number, number_place, cell_inserted}
use Rattle.register.specs.Register.{assignable, assign, release, apply_change, apply}
use Rattle.register_arrays.specs.Columns.{change_of}
use Rattle.group_register.specs.Settings.{settings_from, settings_refusal}
use Rattle.group_register.specs.WholeMhz.{is_odd}
use Rattle.group_register.specs.GroupRegister.{gives_odd_width, apply_made, apply_in_group}
use Rattle.catch_up.specs.Joining.{some_above, list_too_large, counts_from}
use Rattle.feeding.specs.Feeding.{all_are, outside_fed, feed_checked, fed_entries_from, or_refused, feed_all, feeding}
use Rattle.feeding.specs.Registers.{fed_list_of, PlacedColumns, placed_columns, placed_register}
use Rattle.positions.specs.Grid.{within_grid}
use Rattle.positions.specs.Placed.{new_placed, position_of, followed_positions, apply_cell, give_position, apply_position, apply_entry}
use Rattle.positions.specs.declared.PlacedRegister.{PlacedRegister}
use Rattle.positions.specs.declared.PositionRefusal.TheVariants.{OutsideGrid}
use Rattle.register_arrays.specs.positioned.Row.{placed_entry_of}

abbrev list : PlacedColumns
list =
    placed_columns
    (fed_list_of (0 ∷ 1 ∷ 2 ∷ 3 ∷ []) (10 ∷ 20 ∷ 30 ∷ 40 ∷ []) (1 ∷ 3 ∷ 3 ∷ 3 ∷ []) (7 ∷ 7 ∷ 7 ∷ 8 ∷ []) (630000 ∷ 0 ∷ 0 ∷ 0 ∷ []) (20000 ∷ 0 ∷ 0 ∷ 0 ∷ []))
    (pos 0 ∷ negsuc 4 ∷ pos 2000001 ∷ pos 0 ∷ []) (pos 0 ∷ pos 6 ∷ pos 0 ∷ pos 0 ∷ [])

abbrev begun : PlacedRegister
begun = new_placed (settings_from 9223372036854775806)

pub position_fed : ((feeding placed_register begun list).answer ≡ Ok (Some (record { slot = 2; why = OutsideGrid })))
    × (position_of (feeding placed_register begun list).register 7 ≡ Some (record { x = negsuc 4; y = pos 6 }))
    × ((feeding placed_register begun list).register.group.register.next_slot ≡ 4)
unfolding settings_from settings_refusal feeding feed_checked list_too_large some_above outside_fed all_are counts_from fed_entries_from feed_all or_refused placed_entry_of apply_entry apply_cell apply_position give_position within_grid followed_positions position_of apply_in_group apply_made gives_odd_width is_odd apply apply_change assign release assignable frequency_of change_of has_number number_place cell_inserted at_front with_at
position_fed = (refl, refl, refl)

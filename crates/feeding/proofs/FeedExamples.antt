-- Lists fed to a new register with 5 as its slot of whole MHz, computed: one with a refused entry in its middle, behind which the entries are taken; one
-- that begins past the next slot; and one whose slots are not consecutive. So each side of `feed_numbered` holds somewhere.
-- Assumes nothing.
use Rattle.std.proofs.Common.{◌≡◌, refl, ℕ, [], ◌∷◌, Some, Ok, Err}
use Rattle.raster.specs.Raster.{frequency_of}
use Rattle.basics.specs.elements.Places.{at_front}
use Rattle.register.specs.Cells.{has_number, cell_inserted}
use Rattle.register.specs.Register.{assignable, assign, release, apply_change, apply}
use Rattle.register.specs.declared.EntryRefusal.TheVariants.{CellNotLive}
use Rattle.register_arrays.specs.Columns.{change_of}
use Rattle.group_register.specs.Settings.{settings_from, settings_refusal}
use Rattle.group_register.specs.WholeMhz.{is_odd}
use Rattle.group_register.specs.GroupRegister.{new_group_register, gives_odd_width, apply_made, apply_in_group}
use Rattle.group_register.specs.declared.GroupRegister.{GroupRegister}
use Rattle.group_register.specs.declared.GroupRefusal.TheVariants.{AsRegister}
use Rattle.catch_up.specs.Joining.{some_above, list_too_large, counts_from}
use Rattle.catch_up.specs.declared.JoinRefusal.TheVariants.{OutsideLimits, Gap}
use Rattle.feeding.specs.Feeding.{all_are, outside_fed, feed_checked, fed_entries_from, or_refused, feed_all, feeding}
use Rattle.feeding.specs.Registers.{FedList, fed_list_of, cell_register}
use Rattle.feeding.specs.declared.FeedRefusal.TheVariants.{AsList}
use Rattle.feeding.specs.FeedCauses.{FeedCause, NoneBeforeFeed}
use Rattle.feeding.proofs.FeedNumbers.{feed_numbered}

-- cell 7 is assigned, cell 9 is not live and so not released, and cell 8 is assigned, in three slots
abbrev three_slots : ℕ → ℕ → ℕ → FedList
three_slots first second third =
    fed_list_of (first ∷ second ∷ third ∷ []) (10 ∷ 20 ∷ 30 ∷ []) (1 ∷ 2 ∷ 1 ∷ []) (7 ∷ 9 ∷ 8 ∷ []) (630000 ∷ 0 ∷ 5 ∷ []) (20000 ∷ 0 ∷ 1 ∷ [])

abbrev begun : GroupRegister
begun = new_group_register (settings_from 5)

pub refused_in_the_middle : ((feeding cell_register begun (three_slots 0 1 2)).answer ≡ Ok (Some (record { slot = 1; why = AsRegister CellNotLive })))
    × ((feeding cell_register begun (three_slots 0 1 2)).register.register.live_count ≡ 2) × ((feeding cell_register begun (three_slots 0 1 2)).register.register.next_slot ≡ 3)
unfolding settings_from settings_refusal feeding feed_checked list_too_large some_above outside_fed all_are counts_from fed_entries_from feed_all or_refused apply_in_group apply_made gives_odd_width is_odd apply apply_change assign release assignable frequency_of change_of has_number cell_inserted at_front
refused_in_the_middle = (refl, refl, refl)

pub begins_past_the_next : (feeding cell_register begun (three_slots 1 2 3)).answer ≡ Err (AsList Gap)
unfolding settings_from settings_refusal feeding feed_checked list_too_large some_above outside_fed all_are counts_from
begins_past_the_next = refl

pub not_consecutive : (feeding cell_register begun (three_slots 0 2 3)).answer ≡ Err (AsList OutsideLimits)
unfolding settings_from settings_refusal feeding feed_checked list_too_large some_above outside_fed all_are counts_from
not_consecutive = refl

-- so its cause holds, and no earlier one
pub past_the_next : FeedCause cell_register Gap begun (three_slots 1 2 3) × NoneBeforeFeed cell_register Gap begun (three_slots 1 2 3)
unfolding settings_from settings_refusal
past_the_next = (feed_numbered cell_register begun (three_slots 1 2 3) Gap refl).0 begins_past_the_next

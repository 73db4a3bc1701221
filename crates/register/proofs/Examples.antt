-- A short list of entries, computed: each hypothesis of the laws holds somewhere.
-- Assumes nothing.
use mathlib.Core.Path.{◌≡◌, refl}
use mathlib.Core.Bool.{true}
use mathlib.Core.List.{List, [], ◌∷◌}
use Prim.Native.Nat.{ℕ}
use Rattle.register.specs.Taken.{above, later_entries, is, among, named_cells, count_in, entry_number_given, is_taken_given, latest, is_taken, entry_number_after, tally, makes, supersedes, is_taken_release, live_cell_count}
use Rattle.register.specs.declared.Assignment.{Assignment}
use Rattle.register.specs.declared.Change.{Change}
use Rattle.register.specs.declared.Change.TheVariants.{Assign, Release}
use Rattle.register.specs.declared.CellEntry.{CellEntry}

abbrev pub narrow : Assignment
narrow = record { carrier = 630000; width = 20000 }

abbrev wide : Assignment
wide = record { carrier = 3279165; width = 400000 }

abbrev pub entry : ℕ → ℕ → Change → CellEntry
entry slot cell change = record { slot = slot; cell = cell; change = change }

-- cell 7 is assigned, and again; cell 9 is assigned and released; latest first
abbrev office : List CellEntry
office = entry 5 9 Release ∷ entry 3 7 (Assign wide) ∷ entry 1 9 (Assign narrow) ∷ entry 0 7 (Assign narrow) ∷ []

-- the same with a repeat, an older entry and a slot above the limit between them
abbrev neighbour : List CellEntry
neighbour =
    entry 5 9 Release ∷ entry 0 7 Release ∷ entry 3 7 (Assign wide) ∷ entry 9223372036854775807 7 Release ∷ entry 1 9 (Assign narrow)
    ∷ entry 0 7 (Assign narrow) ∷ entry 0 7 (Assign narrow) ∷ []

pub equal_in_slot_order : later_entries neighbour ≡ later_entries office
unfolding later_entries above
equal_in_slot_order = refl

pub latest_of_both : (latest office 7 ≡ is (Assign wide)) × (latest office 9 ≡ is Release)
unfolding latest is_taken_given entry_number_given above count_in named_cells among
latest_of_both = (refl, refl)

pub figures : (tally makes office ≡ 3) × (tally supersedes office ≡ 1) × (tally is_taken_release office ≡ 1) × (live_cell_count office ≡ 1)
unfolding tally latest is_taken_given entry_number_given above count_in named_cells among
figures = (refl, refl, refl, refl)

-- an entry that is taken, and one for each number but 15, which Full.antt has; the slot last seen is older
pub numbers : (is_taken office (entry 6 9 (Assign wide)) ≡ true) × (entry_number_after office (entry 9223372036854775807 7 Release) ≡ 2)
    × (entry_number_after office (entry 6 8 (Assign (record { carrier = 3279166; width = 1 }))) ≡ 14)
    × (entry_number_after office (entry 6 8 (Assign (record { carrier = 0; width = 400001 }))) ≡ 14) × (entry_number_after office (entry 6 9 Release) ≡ 16)
    × (entry_number_after office (entry 5 7 Release) ≡ 64)
unfolding latest is_taken_given entry_number_given above count_in named_cells among
numbers = (refl, refl, refl, refl, refl, refl)

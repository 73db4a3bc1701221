-- Old entries, computed: the hypothesis of the laws holds of them. Of a longer number E6 has stored 16 bits, so the laws need it.
-- Assumes nothing.
use mathlib.Core.Path.{◌≡◌, refl}
use mathlib.Core.List.{List, [], ◌∷◌}
use native.Mathlib.Omega.{arith}
use Rattle.register.specs.Cells.{cell_of}
use Rattle.register.specs.declared.Assignment.{Assignment}
use Rattle.register.specs.declared.Change.TheVariants.{Assign, Release}
use Rattle.register.specs.declared.CellEntry.{CellEntry}
use Rattle.register.specs.stored.Stored.{stored_cell_of, OldEntries, widened_cell}

abbrev assignment : Assignment
assignment = record { carrier = 630000; width = 20000 }

abbrev office : List CellEntry
office = record { slot = 2; cell = 7; change = Release } ∷ record { slot = 1; cell = 65535; change = Assign assignment } ∷ record { slot = 0; cell = 7; change = Assign assignment } ∷ []

pub office_is_old : OldEntries office
office_is_old = (omega arith, (omega arith, (omega arith, tt)))

pub last_old_cell : widened_cell (stored_cell_of (cell_of 65535 assignment)) ≡ cell_of 65535 assignment
last_old_cell = refl

pub longer_cell : widened_cell (stored_cell_of (cell_of 65543 assignment)) ≡ cell_of 7 assignment
longer_cell = refl

-- x and y of a question are those of an entry: a cell that was given a position x, y stands where a question of x, y is asked.
-- Assumes nothing.
use mathlib.Core.Path.{◌≡◌, refl}
use Prim.Native.Nat.{ℕ}
use lib.IntN.{ℤ}
use Rattle.positions.specs.declared.PlacedEntry.TheVariants.{OfPosition}
use Rattle.register_arrays.specs.positioned.Row.{placed_entry_of}
use Rattle.planning_host.specs.Reach.{question_of}

pub asked_where_it_stands : (slot cell carrier width asked distance : ℕ) (x y : ℤ)
    → placed_entry_of slot 3 cell carrier width (record { x = x; y = y })
    ≡ OfPosition (record { slot = slot; cell = cell; position = (question_of asked x y distance).position })
unfolding placed_entry_of
asked_where_it_stands slot cell carrier width asked distance x y = refl

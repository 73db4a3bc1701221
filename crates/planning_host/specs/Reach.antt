-- E11 as a host gets it: a register with positions in arrays, an entry given as numbers, and the answers to its questions as numbers.
-- Assumes nothing.
use Rattle.std.specs.Prelude.{ℕ, ℤ, List, Result}
use Rattle.register.specs.Refusals.{outcome_number}
use Rattle.register_arrays.specs.in_group.GroupColumns.{group_in}
use Rattle.positions.specs.Placed.{register_with_positions, position_refusal_number, apply_entry}
use Rattle.positions.specs.declared.PlacedEntry.{PlacedEntry}
use Rattle.positions.specs.declared.PlacedRegister.{PlacedRegister}
use Rattle.register_arrays.specs.positioned.Row.{positions_in}
use Rattle.register_arrays.specs.declared.positioned.CellPosition.{CellPosition}
use Rattle.reach.specs.Reach.{reach_refusal_number}
use Rattle.reach.specs.declared.Question.{Question}
use Rattle.reach.specs.declared.ReachRefusal.{ReachRefusal}
use Rattle.planning_host.specs.Conversions.{flat_value}
use Rattle.planning_host.specs.declared.FlatValue.{FlatValue}

-- the register in the arrays
abbrev pub placed_in_arrays : List ℕ → List ℕ → List ℕ → List ℕ → List ℕ → List CellPosition → PlacedRegister
placed_in_arrays settings cells carriers widths figures positions = register_with_positions (group_in settings cells carriers widths figures) (positions_in positions)

-- the register after an entry, and the number of what became of it
abbrev pub after_placed_entry : PlacedRegister → PlacedEntry → PlacedRegister × ℕ
after_placed_entry p e = ((apply_entry p e).placed, outcome_number position_refusal_number (apply_entry p e).outcome)

abbrev pub question_of : ℕ → ℤ → ℤ → ℕ → Question
question_of width x y distance = record { width = width; position = record { x = x; y = y }; distance = distance }

abbrev pub flat_reach_answer : Result ℕ ReachRefusal → FlatValue
flat_reach_answer answer = flat_value reach_refusal_number answer

-- how many cells are listed, and the lent places
abbrev pub flat_list : Result ℕ ReachRefusal × List ℕ → FlatValue × List ℕ
flat_list (answer, numbers) = (flat_reach_answer answer, numbers)

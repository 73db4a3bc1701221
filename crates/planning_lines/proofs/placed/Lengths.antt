-- How long an answer about cells with positions may be: that to `cells` with 512 of them is the longest; it stands whole in a buffer that has room for so
-- many bytes. Of the answers of the requests before see proofs/Laws.antt.
-- Assumes nothing.
use mathlib.Core.Path.{◌≡◌}
use mathlib.Core.Bool.{Bool, true, false}
use mathlib.Core.List.{List, ◌++◌}
use Prim.Native.Nat.{ℕ, min, ◌+◌, ◌*◌, ◌≤◌}
use native.Mathlib.Nat.{mul-le-mul_left, le_trans}
use native.Mathlib.Omega.{arith}
use lib.ListN.{length, take, drop, length-append, length-take}
use lib.IntN.{ℤ}
use Rattle.std.specs.Prelude.{Option, Some, None, Result, Ok, Err, int_lt, unsigned_abs, pos}
use Rattle.basics.proofs.Tests.{of-both}
use Rattle.texts.specs.declared.Output.{Output}
use Rattle.texts.specs.Text.{with_bytes, put, field, each}
use Rattle.texts.proofs.Lengths.{put_fits, number, decimal_length, each_length}
use Rattle.texts.specs.fields.Fields.{line_text}
use Rattle.register.specs.declared.Entered.{Entered}
use Rattle.register.specs.declared.Entered.TheVariants.{Done, Older}
use Rattle.register.specs.Register.{live_cells}
use Rattle.group_register.specs.Settings.{settings_refusal, is_made}
use Rattle.positions.specs.Placed.{position_refusal_number, apply_entry}
use Rattle.positions.specs.declared.PlacedRegister.{PlacedRegister}
use Rattle.positions.specs.declared.Position.{Position}
use Rattle.positions.specs.declared.PositionRefusal.{PositionRefusal}
use Rattle.reach.specs.Cells.{placed_cells, cells_of}
use Rattle.reach.specs.Reach as reach
use Rattle.reach.specs.declared.PlacedCell.{PlacedCell}
use Rattle.reach.specs.declared.ReachRefusal.{ReachRefusal}
use Rattle.register.specs.declared.Cell.{Cell}
use Rattle.register_lines.specs.entries.Signed.{sign_text, signed_text}
use Rattle.planning_lines.specs.placed.Answers.{position_text, cell_text, cells_text, made_cells_text, position_outcome_text, list_text, carrier_text, position_line_text}
use Rattle.planning_lines.specs.declared.placed.PositionLine.{PositionLine}
use Rattle.planning_lines.specs.declared.placed.PositionLine.TheVariants.{Enter, Conflicts, Free, CellList, Other}
use mathlib.Core.List.{[], ◌∷◌}

sign_length : (negative : Bool) (n : ℕ) → length (sign_text negative n) ≤ 22
unfolding sign_text
sign_length true n = simp length-append (omega (arith, decimal_length n))
sign_length false n = omega (arith, number n)

signed_length : (z : ℤ) → length (signed_text z) ≤ 22
signed_length z = sign_length (int_lt z (pos 0)) (unsigned_abs z)

position_length : (p : Option Position) → length (position_text p) ≤ 44
unfolding position_text
position_length None = omega arith
position_length (Some p) = simp length-append (omega (arith, signed_length p.x, signed_length p.y))

cell_length : (c : PlacedCell) → length (cell_text c) ≤ 108
unfolding cell_text
cell_length c =
    simp length-append
    (omega (arith, decimal_length c.number, number c.assignment.carrier, number c.assignment.width, position_length c.position))

-- no more cells are placed than are live
few_placed : (cs : List Cell) (ps : List (Option Position)) → length (placed_cells cs ps) ≤ length cs
unfolding placed_cells
few_placed [] ps = omega arith
few_placed (c ∷ cs) [] = omega arith
few_placed (c ∷ cs) (p ∷ ps) = let rest = few_placed cs ps in omega arith

cells_length : (p : PlacedRegister) → length (cells_text p) ≤ 55317
unfolding cells_text
cells_length p =
    let live : length (live_cells p.group.register) ≤ 512 = rw length-take (omega arith) in
    let few : length (cells_of p) ≤ 512 = le_trans (few_placed (live_cells p.group.register) p.positions) live in
    let all : length (each cell_text (cells_of p)) ≤ 108 * 512 = le_trans (each_length cell_text 108 cell_length (cells_of p)) (mul-le-mul_left 108 few) in
    simp length-append (omega (arith, decimal_length (length (cells_of p))))

made_cells_length : (p : PlacedRegister) → length (made_cells_text p) ≤ 55317
unfolding made_cells_text line_text
made_cells_length p =
    of-both (λ (l : List ℕ). length l ≤ 55317) (is_made p.group.settings) (cells_length p)
    (simp length-append (omega (arith, number (settings_refusal p.group.settings))))

outcome_length : (o : Result Entered PositionRefusal) → length (position_outcome_text o) ≤ 29
unfolding position_outcome_text line_text
outcome_length (Ok Done) = omega arith
outcome_length (Ok Older) = omega arith
outcome_length (Err why) = simp length-append (omega (arith, number (position_refusal_number why)))

list_length : (answer : Result ℕ ReachRefusal) (numbers : List ℕ) → length (list_text (answer, numbers)) ≤ 10773
unfolding list_text line_text
list_length (Ok count) numbers =
    let few : length (take (min count 512) numbers) ≤ 512 = rw length-take (omega arith) in
    let all : length (each field (take (min count 512) numbers)) ≤ 21 * 512 = le_trans (each_length field 21 number (take (min count 512) numbers)) (mul-le-mul_left 21 few) in
    simp length-append (omega (arith, decimal_length count))
list_length (Err why) numbers = simp length-append (omega (arith, number (reach.reach_refusal_number why)))

carrier_length : (answer : Result ℕ ReachRefusal) → length (carrier_text answer) ≤ 29
unfolding carrier_text line_text
carrier_length (Ok n) = simp length-append (omega (arith, number n))
carrier_length (Err why) = simp length-append (omega (arith, number (reach.reach_refusal_number why)))

-- ---- of each line about cells with positions
abbrev pub IsOfPositions : PositionLine → Type 0
IsOfPositions (Enter e) = Unit {0}
IsOfPositions (Conflicts n q) = Unit {0}
IsOfPositions (Free first last q) = Unit {0}
IsOfPositions CellList = Unit {0}
IsOfPositions Other = ⊥

pub placed_answer_length : (p : PlacedRegister) (line : List ℕ) (a : PositionLine) → IsOfPositions a → length (position_line_text p line a) ≤ 55317
placed_answer_length p line (Enter e) h = omega (arith, outcome_length (apply_entry p e).outcome)
placed_answer_length p line (Conflicts n q) h = conflicts_length (reach.conflicts_of p.group.settings (cells_of p) n q _)
  where
    conflicts_length : (x : Result ℕ ReachRefusal × List ℕ) → length (list_text x) ≤ 55317
    conflicts_length (answer, numbers) = omega (arith, list_length answer numbers)
placed_answer_length p line (Free first last q) h = omega (arith, carrier_length (reach.first_free p.group.settings (cells_of p) first last q))
placed_answer_length p line CellList h = made_cells_length p
placed_answer_length p line Other h = absurd h

pub placed_answer_whole : (p : PlacedRegister) (line : List ℕ) (a : PositionLine) → IsOfPositions a → (o : Output) → o.at + 55317 ≤ length o.bytes.now
    → put (position_line_text p line a) o
    ≡ with_bytes o (take o.at o.bytes.now ++ position_line_text p line a ++ drop (o.at + length (position_line_text p line a)) o.bytes.now) (o.at + length (position_line_text p line a))
placed_answer_whole p line a h o room = put_fits (position_line_text p line a) o (omega (arith, placed_answer_length p line a h))

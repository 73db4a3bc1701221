-- The register below the positions (document 02, E11) is the one that E10's feeding of the same columns leaves, and a list with as many coordinates as slots is
-- refused where that refuses it, with the same number.
-- Assumes nothing.
use mathlib.Core.Path.{◌≡◌, refl, sym, ap, ◌∙◌}
use mathlib.Core.Bool.{Bool, true, false, cond}
use mathlib.Core.Logic.{◌↔◌}
use Prim.Native.Nat.{ℕ, zero, suc, ◌+◌}
use lib.Dec.{eqb}
use lib.ListN.{length}
use borrow.Author.Tests.{eqb-true, eq-eqb}
use Rattle.std.specs.Prelude.{None, Result, Ok, Err}
use Rattle.register.specs.declared.CellEntry.{CellEntry}
use Rattle.register_arrays.specs.Columns.{change_of, entry_from_numbers}
use Rattle.group_register.specs.GroupRegister.{apply_in_group}
use Rattle.group_register.specs.declared.GroupRefusal.{GroupRefusal}
use Rattle.group_register.specs.declared.GroupRegister.{GroupRegister}
use Rattle.positions.specs.PlacedTaken.{cell_entry}
use Rattle.positions.specs.declared.PlacedEntry.TheVariants.{OfCell, OfPosition}
use Rattle.positions.specs.declared.PlacedRegister.{PlacedRegister}
use Rattle.positions.specs.declared.Position.{Position}
use Rattle.positions.specs.declared.PositionRefusal.{PositionRefusal}
use Rattle.positions.proofs.Laws.{entry_below}
use Rattle.register_arrays.specs.positioned.Row.{placed_entry_of}
use Rattle.feeding.specs.declared.FeedRefusal.{FeedRefusal}
use Rattle.feeding.specs.Feeding.{all_are, feed_checked, FedTo, fed_to, fed_entries_from, fed_unless, same_lengths, entries_in, feed_all, feed_checked_for, feeding}
use Rattle.feeding.specs.Registers.{entry_in, cell_register, PlacedColumns, placed_entry_in, placed_register}
use Rattle.feeding.proofs.FeedLaws.{refused_as_checked}

-- ---- what the register sees of an entry in numbers is E10's entry of the same numbers, where a position is of no kind

seen_in_numbers : (slot kind cell carrier width : ℕ) (p : Position)
    → cell_entry (placed_entry_of slot kind cell carrier width p) ≡ entry_from_numbers slot kind cell carrier width
unfolding placed_entry_of change_of
seen_in_numbers slot kind cell carrier width p = go (eqb kind 3) refl
  where
    go : (t : Bool) → eqb kind 3 ≡ t
        → cell_entry (cond t (OfPosition (record { slot = slot; cell = cell; position = p })) (OfCell (entry_from_numbers slot kind cell carrier width)))
        ≡ entry_from_numbers slot kind cell carrier width
    go true e = rw (eqb-true kind 3 e) refl
    go false e = refl

all_below : (l : PlacedColumns) (i n : ℕ) (f : FedTo PlacedRegister PositionRefusal) (g : FedTo GroupRegister GroupRefusal) → g.register ≡ f.register.group
    → (feed_all placed_register f (fed_entries_from (placed_entry_in l) i n)).register.group ≡ (feed_all cell_register g (fed_entries_from (entry_in l.cells) i n)).register
unfolding feed_all fed_entries_from
all_below l i zero f g same = sym same
all_below l i (suc n) f g same =
    all_below l (i + 1) n _ _
    (ap (λ (x : GroupRegister). (apply_in_group x (entry_in l.cells i)).group) same
    ∙ sym (entry_below f.register (placed_entry_in l i) ∙ ap (λ (e : CellEntry). (apply_in_group f.register.group e).group) (seen_in_numbers _ _ _ _ _ _)))

-- ---- the call

module _ (p : PlacedRegister) (l : PlacedColumns) (xs : length l.xs ≡ length l.cells.commits.slots) (ys : length l.ys ≡ length l.cells.commits.slots) where
  lengths : same_lengths placed_register l ≡ same_lengths cell_register l.cells
  unfolding all_are
  lengths = simp (eq-eqb (length l.cells.commits.slots) (length l.xs) (sym xs), eq-eqb (length l.cells.commits.slots) (length l.ys) (sym ys)) refl

  checked_as_cells : feed_checked_for placed_register p l ≡ feed_checked_for cell_register p.group l.cells
  checked_as_cells = ap (feed_checked p.group.settings p.group.register.next_slot l.cells.commits) lengths

  -- its figures and cells are those of E10's feeding
  pub fed_below : (feeding placed_register p l).register.group ≡ (feeding cell_register p.group l.cells).register
  unfolding feeding
  fed_below = ap (λ (c : Result (Unit {0}) FeedRefusal). (fed_unless c p fed).register.group) checked_as_cells ∙ go (feed_checked_for cell_register p.group l.cells)
    where
      fed : FedTo PlacedRegister PositionRefusal
      fed = feed_all placed_register (fed_to None p) (entries_in placed_register l)

      below : FedTo GroupRegister GroupRefusal
      below = feed_all cell_register (fed_to None p.group) (entries_in cell_register l.cells)

      go : (c : Result (Unit {0}) FeedRefusal) → (fed_unless c p fed).register.group ≡ (fed_unless c p.group below).register
      go (Err why) = refl
      go (Ok u) = all_below l 0 (length l.cells.commits.slots) (fed_to None p) (fed_to None p.group) refl

  -- and it is refused where that is, with the same number
  pub refused_as_cells : (why : FeedRefusal) → ((feeding placed_register p l).answer ≡ Err why) ↔ ((feeding cell_register p.group l.cells).answer ≡ Err why)
  refused_as_cells why =
      let placed = refused_as_checked placed_register p l why in
      let cells = refused_as_checked cell_register p.group l.cells why in
      (λ e. cells.1 (sym checked_as_cells ∙ placed.0 e), λ e. placed.1 (checked_as_cells ∙ cells.0 e))

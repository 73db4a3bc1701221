-- The register of entries whose cells have numbers of 16 bits holds no other cells, in none of its places.
-- Assumes nothing.
use mathlib.Core.Path.{sym, subst}
use mathlib.Core.Bool.{not}
use mathlib.Core.List.{List, [], ◌∷◌, ◌++◌}
use Prim.Native.Nat.{ℕ, zero, suc, ◌<◌}
use native.Mathlib.Omega.{arith}
use lib.Dec.{ltb, leb}
use lib.ListN.{length, set, take, drop, replicate}
use Rattle.basics.proofs.Tests.{of-both}
use Rattle.basics.specs.elements.Places.{at_front, without, with_at}
use Rattle.register.specs.Cells.{cell_of, is_live_cell, cell_reassigned, cell_inserted, cell_removed, cell_place}
use Rattle.register.specs.Register.{new_register, live_places, live_cells, slot_seen, assignable, assign, release, apply_change, apply}
use Rattle.register.specs.History.{register_after}
use Rattle.register.specs.declared.Assignment.{Assignment}
use Rattle.register.specs.declared.Applied.{Applied}
use Rattle.register.specs.declared.Cell.{Cell}
use Rattle.register.specs.declared.Change.{Change}
use Rattle.register.specs.declared.Change.TheVariants.{Assign, Release}
use Rattle.register.specs.declared.CellEntry.{CellEntry}
use Rattle.register.specs.declared.Register.{Register}
use Rattle.register.proofs.Places.{inserted_at, reassigned_at, removed_at}
use Rattle.register.specs.stored.Stored.{OldEntries}

-- each number has 16 bits
abbrev pub OldCells : List Cell → Type 0
OldCells [] = Unit {0}
OldCells (c ∷ cs) = (c.number < 65536) × OldCells cs

old_append : (l m : List Cell) → OldCells l → OldCells m → OldCells (l ++ m)
old_append [] m h k = k
old_append (c ∷ l) m h k = (h.0, old_append l m h.1 k)

old_take : (n : ℕ) (l : List Cell) → OldCells l → OldCells (take n l)
old_take zero l h = tt
old_take (suc n) [] h = tt
old_take (suc n) (c ∷ l) h = (h.0, old_take n l h.1)

old_drop : (n : ℕ) (l : List Cell) → OldCells l → OldCells (drop n l)
old_drop zero l h = h
old_drop (suc n) [] h = tt
old_drop (suc n) (c ∷ l) h = old_drop n l h.1

old_set : (l : List Cell) (i : ℕ) (c : Cell) → c.number < 65536 → OldCells l → OldCells (set l i c)
old_set [] i c k h = tt
old_set (x ∷ l) zero c k h = (k, h.1)
old_set (x ∷ l) (suc i) c k h = (h.0, old_set l i c k h.1)

old_front : (l places : List Cell) → OldCells l → OldCells places → OldCells (at_front l places)
unfolding at_front
old_front l places h k = old_append l (drop (length l) places) h (old_drop (length l) places k)

-- ---- the three changes of the live cells
module _ (n : ℕ) (a : Assignment) (l : List Cell) (k : n < 65536) (h : OldCells l) where
  old_inserted : OldCells (cell_inserted n a l)
  unfolding with_at
  old_inserted =
      subst OldCells (sym (inserted_at n a l))
      (old_append (take (cell_place n l) l) (cell_of n a ∷ drop (cell_place n l) l) (old_take (cell_place n l) l h) (k, old_drop (cell_place n l) l h))

  old_reassigned : OldCells (cell_reassigned n a l)
  old_reassigned = subst OldCells (sym (reassigned_at n a l)) (old_set l (cell_place n l) (cell_of n a) k h)

  old_removed : OldCells (cell_removed n l)
  unfolding without
  old_removed =
      subst OldCells (sym (removed_at n l))
      (old_append (take (cell_place n l) l) (drop (suc (cell_place n l)) l) (old_take (cell_place n l) l h) (old_drop (suc (cell_place n l)) l h))

-- ---- an entry
abbrev Keeps : Applied → Type 0
Keeps x = OldCells x.register.cells

module _ (r : Register) (n : ℕ) (k : n < 65536) (h : OldCells r.cells) where
  abbrev live : List Cell
  live = live_cells r

  old_live : OldCells live
  old_live = old_take (live_places r) r.cells h

  old_assigned : (a : Assignment) → Keeps (assign r n a)
  unfolding assign
  old_assigned a =
      of-both Keeps (not (assignable a)) h
      (of-both Keeps (is_live_cell n live) (old_front (cell_reassigned n a live) r.cells (old_reassigned n a live k old_live) h)
      (of-both Keeps (leb 512 (live_places r)) h (old_front (cell_inserted n a live) r.cells (old_inserted n a live k old_live) h)))

  old_released : Keeps (release r n)
  unfolding release
  old_released = of-both Keeps (is_live_cell n live) (old_front (cell_removed n live) r.cells (old_removed n (record { carrier = 0; width = 0 }) live k old_live) h) h

  old_changed : (x : Change) → Keeps (apply_change x n r)
  unfolding apply_change
  old_changed (Assign a) = old_assigned a
  old_changed Release = old_released

old_applied : (r : Register) (e : CellEntry) → e.cell < 65536 → OldCells r.cells → Keeps (apply r e)
unfolding apply
old_applied r e k h =
    of-both Keeps (ltb 9223372036854775806 e.slot) h (of-both Keeps (ltb e.slot r.next_slot) h (old_changed (slot_seen e.slot r) e.cell k h e.change))

-- ---- every list of entries
pub old_after : (es : List CellEntry) → OldEntries es → OldCells (register_after es).cells
unfolding register_after
old_after [] h = new
  where
    new : OldCells new_register.cells
    new = all 512
      where
        all : (m : ℕ) → OldCells (replicate m (cell_of 0 (record { carrier = 0; width = 0 })))
        all zero = tt
        all (suc m) = (omega arith, all m)
old_after (e ∷ before) h = old_applied (register_after before) e h.0 (old_after before h.1)

-- The ends of `assign` and `release`, behind the search among the first m places.
-- Assumes nothing.
use Prim.Native.Nat.{ℕ, ◌+◌, ◌-◌, ◌≤◌, ◌<◌}
use mathlib.Core.Bool.{true, false}
use mathlib.Core.Path.{◌≡◌, ◌∙◌}
use mathlib.Core.List.{List}
use native.Mathlib.Omega.{arith}
use borrow.Author.Tests.{lt-leb, le-leb}
use lib.ListN.{length, set, take, length-take, length-set, length-append, length-drop}
use Rattle.std.specs.Prelude.{Ok, Err}
use Rattle.message.specs.Rounds.{increment}
use Rattle.basics.specs.elements.Places.{at_front, without, with_at}
use Rattle.basics.proofs.elements.Lists.{front_own, front_set, without_length}
use Rattle.register.specs.Cells.{cell_of, is_live_cell, cell_place, number_of_cell, found, cell_reassigned, cell_inserted, cell_removed}
use Rattle.register.specs.Register.{live_places, live_cells, assignable, done, entry_refused, assign, release}
use Rattle.register.specs.declared.Assignment.{Assignment}
use Rattle.register.specs.declared.Cell.{Cell}
use Rattle.register.specs.declared.Figures.{Figures}
use Rattle.register.specs.declared.Register.{Register}
use Rattle.register.specs.declared.EntryRefusal.TheVariants.{NoRoomForCell, CellNotLive}
use Rattle.register.proofs.Places.{inserted_at, reassigned_at, removed_at, place_within, live_within, found_ok, found_err}

module _ (r : Register) (n m at : ℕ) (long : length r.cells ≡ 512) (places : m ≡ live_places r) where
  shorter : length (live_cells r) ≡ m
  shorter = length-take (live_places r) r.cells ∙ omega arith

  -- the cell is live
  module _ (is : Ok at ≡ found number_of_cell n (live_cells r)) where
    here : (is_live_cell n (live_cells r) ≡ true) × (at ≡ cell_place n (live_cells r))
    here = found_ok number_of_cell n (live_cells r) at is

    pub at_below : at < m
    at_below = omega (arith, here.1, shorter, live_within n (live_cells r) here.0)

    pub assign_supersedes : (a : Assignment) → assignable a ≡ true → (f : Figures) → f ≡ r.figures → (made superseded : ℕ) → made ≡ increment f.made → superseded ≡ increment f.superseded
        → done (record {
          next_slot = r.next_slot;
          figures = record { made = made; superseded = superseded; released = f.released };
          live_count = m;
          cells = set r.cells at (cell_of n a);
        }) ≡ assign r n a
    unfolding assign
    assign_supersedes a fits f own made superseded p q =
        let l : List Cell = live_cells r in
        let new : cell_reassigned n a l ≡ set l at (cell_of n a) = reassigned_at n a l ∙ simp here.1 in
        let cells : set (at_front l r.cells) at (cell_of n a) ≡ at_front (set l at (cell_of n a)) r.cells =
        front_set l r.cells at (cell_of n a) (omega (arith, at_below, shorter)) in
        simp (fits, here.0, new, length-set, shorter, ← cells, front_own, p, q, own)

    pub release_releases : (f : Figures) → f ≡ r.figures → (released : ℕ) → released ≡ increment f.released
        → (cells : List Cell) → cells ≡ at_front (without at (take m r.cells)) r.cells
        → done (record {
          next_slot = r.next_slot;
          figures = record { made = f.made; superseded = f.superseded; released = released };
          live_count = m - 1;
          cells = cells;
        }) ≡ release r n
    unfolding release
    release_releases f own released p cells e =
        let l : List Cell = live_cells r in
        let new : cell_removed n l ≡ without at (take m r.cells) = removed_at n l ∙ simp (here.1, places) in
        let fewer : length (without at (take m r.cells)) ≡ m - 1 = omega (arith, without_length r.cells at m at_below (omega arith)) in
        simp (here.0, new, fewer, e, p, own)

  -- the cell is not live
  module _ (is : Err at ≡ found number_of_cell n (live_cells r)) where
    not_here : (is_live_cell n (live_cells r) ≡ false) × (at ≡ cell_place n (live_cells r))
    not_here = found_err number_of_cell n (live_cells r) at is

    pub at_most : at ≤ m
    at_most = omega (arith, not_here.1, shorter, place_within n (live_cells r))

    longer : (a : Assignment) → length (with_at at (cell_of n a) (take m r.cells)) ≡ m + 1
    unfolding with_at
    longer a = simp (length-append, length-take, length-drop) (omega (arith, at_most))

    pub assign_full : (a : Assignment) → assignable a ≡ true → 512 ≤ m → entry_refused NoRoomForCell r ≡ assign r n a
    unfolding assign
    assign_full a fits full = simp (fits, not_here.0, le-leb 512 (live_places r) (omega arith))

    pub assign_makes : (a : Assignment) → assignable a ≡ true → m < 512 → (f : Figures) → f ≡ r.figures → (made : ℕ) → made ≡ increment f.made
        → (cells : List Cell) → cells ≡ at_front (with_at at (cell_of n a) (take m r.cells)) r.cells
        → done (record {
          next_slot = r.next_slot;
          figures = record { made = made; superseded = f.superseded; released = f.released };
          live_count = m + 1;
          cells = cells;
        }) ≡ assign r n a
    unfolding assign
    assign_makes a fits room f own made p cells e =
        let l : List Cell = live_cells r in
        let new : cell_inserted n a l ≡ with_at at (cell_of n a) (take m r.cells) = inserted_at n a l ∙ simp (not_here.1, places) in
        simp (fits, not_here.0, lt-leb 512 (live_places r) (omega arith), new, longer a, e, p, own)

    pub release_unknown : entry_refused CellNotLive r ≡ release r n
    unfolding release
    release_unknown = simp not_here.0

-- One entry more: the register below it, its number, and the position of each cell.
-- Assumes nothing.
use mathlib.Core.Path.{◌≡◌, refl, sym, ap, ap₂, ◌∙◌}
use mathlib.Core.Bool.{Bool, true, false, cond, ◌&&◌, not}
use mathlib.Core.List.{List}
use Prim.Native.Nat.{ℕ, min, ◌+◌, ◌≤◌}
use native.Mathlib.Omega.{arith}
use lib.Dec.{ltb, leb, eqb}
use lib.ListN.{length, set, take, length-take, length-set}
use lib.Seq.{take_at}
use borrow.Author.Tests.{eqb-true}
use Rattle.std.specs.Prelude.{Option, Some, None, Result, Ok, Err}
use Rattle.basics.specs.elements.Places.{at_front, without, with_at}
use Rattle.basics.proofs.elements.Lists.{front_length, with_length, without_length}
use Rattle.raster.specs.Raster.{frequency_of}
use Rattle.register.specs.Cells.{is_live_cell, cell_place, cell_reassigned, cell_inserted, cell_removed}
use Rattle.register.specs.Refusals.{outcome_number}
use Rattle.register.specs.Register.{live_places, live_cells, assignable, holding, with_new_cell, with_superseded, with_released, slot_seen, older, entry_refused, assign, apply_change, apply}
use Rattle.register.specs.History.{RisingCells}
use Rattle.register.specs.declared.Cell.{Cell}
use Rattle.register.specs.declared.CellEntry.{CellEntry}
use Rattle.register.specs.declared.Entered.{Entered}
use Rattle.register.specs.declared.Entered.TheVariants.{Done, Older}
use Rattle.register.specs.declared.EntryRefusal.TheVariants.{NumberTooLarge, NotAssignable, NoRoomForCell, CellNotLive}
use Rattle.register.specs.declared.Figures.{Figures}
use Rattle.register.specs.declared.Register.{Register}
use Rattle.register.proofs.Cells.{inserted_length, reassigned_length, removed_length}
use Rattle.register.proofs.Places.{place_within, live_within}
use Rattle.group_register.specs.Settings.{unmade_number, unmade_by, is_made}
use Rattle.group_register.specs.WholeMhz.{is_odd}
use Rattle.group_register.specs.GroupRegister.{group_register, group_applied, group_outcome_number, gives_odd_width, as_register, apply_made, apply_in_group}
use Rattle.group_register.specs.declared.GroupApplied.{GroupApplied}
use Rattle.group_register.specs.declared.GroupRefusal.{GroupRefusal}
use Rattle.group_register.specs.declared.GroupRefusal.TheVariants.{Unmade, OddWidth, AsRegister}
use Rattle.group_register.specs.declared.UnmadeBy.{UnmadeBy}
use Rattle.group_register.specs.declared.UnmadeBy.TheVariants.{OutsideLimits, NotInCalendar}
use Rattle.group_register.specs.declared.GroupRegister.{GroupRegister}
use Rattle.group_register.specs.declared.RegisterSettings.{RegisterSettings}
use Rattle.positions.specs.Grid.{within_grid}
use Rattle.positions.specs.Placed.{register_with_positions, position_of, position_refusal_number, placed_applied, as_placed, followed_positions, positions_after, where_done, positioned, apply_cell, with_seen, position_refused, give_position, apply_position}
use Rattle.positions.specs.PlacedTaken.{slot_alone, position_behind}
use Rattle.positions.specs.declared.PlacedApplied.{PlacedApplied}
use Rattle.positions.specs.declared.PlacedRegister.{PlacedRegister}
use Rattle.positions.specs.declared.Position.{Position}
use Rattle.positions.specs.declared.PositionEntry.{PositionEntry}
use Rattle.positions.specs.declared.PositionRefusal.{PositionRefusal}
use Rattle.positions.specs.declared.PositionRefusal.TheVariants.{OutsideGrid, AsGroup}
use Rattle.positions.proofs.Became.{NotDone, Became, stayed, superseded, made, released, became}
use Rattle.positions.proofs.Rows.{position_of_cell, put_in_front, in_take, in_inserted, in_removed, in_reassigned, in_set}

-- document 02's number of what became of an entry
abbrev pub placed_number : Result Entered PositionRefusal → ℕ
placed_number outcome = outcome_number position_refusal_number outcome

pub same_outcome_number : (o : Result Entered GroupRefusal) → placed_number (as_placed o) ≡ group_outcome_number o
same_outcome_number (Ok Done) = refl
same_outcome_number (Ok Older) = refl
same_outcome_number (Err why) = refl

-- what is not made is refused
unmade_refuses : (why : UnmadeBy) → eqb (unmade_number why) 0 ≡ false
unmade_refuses OutsideLimits = refl
unmade_refuses NotInCalendar = refl

not_done_number : (o : Result Entered GroupRefusal) → NotDone o → eqb (group_outcome_number o) 0 ≡ false
not_done_number (Ok Done) h = absurd h
not_done_number (Ok Older) h = refl
not_done_number (Err (Unmade why)) h = unmade_refuses why
not_done_number (Err OddWidth) h = refl
not_done_number (Err (AsRegister NumberTooLarge)) h = refl
not_done_number (Err (AsRegister NotAssignable)) h = refl
not_done_number (Err (AsRegister NoRoomForCell)) h = refl
not_done_number (Err (AsRegister CellNotLive)) h = refl

not_done_where : {A : Type 0} (o : Result Entered GroupRefusal) → NotDone o → (new old : A) → where_done o new old ≡ old
not_done_where (Ok Done) h new old = absurd h
not_done_where (Ok Older) h new old = refl
not_done_where (Err why) h new old = refl

-- ---- the register below sees of a position its slot alone
module _ (s : RegisterSettings) (r : Register) (e : PositionEntry) where
  abbrev alone : Register
  alone = cond (ltb 9223372036854775806 e.slot) r (cond (ltb e.slot r.next_slot) r (slot_seen e.slot r))

  not_odd : gives_odd_width s.whole_mhz_from r.next_slot (slot_alone e) ≡ false
  unfolding gives_odd_width is_odd
  not_odd = go (leb s.whole_mhz_from e.slot) (leb e.slot 9223372036854775806) (leb r.next_slot e.slot)
    where
      go : (a b c : Bool) → ((a && false) && b && c && assignable (record { carrier = 0; width = 0 })) ≡ false
      go true b c = refl
      go false b c = refl

  made_alone : (apply_made s r (slot_alone e)).group ≡ group_register s alone
  unfolding apply_made apply apply_change assign assignable frequency_of
  made_alone =
      ap (λ (t : Bool). (cond t (group_applied s (slot_seen e.slot r) (Err OddWidth)) (as_register s (apply r (slot_alone e)))).group) not_odd
      ∙ go (ltb 9223372036854775806 e.slot) (ltb e.slot r.next_slot)
    where
      go : (t u : Bool) → (as_register s (cond t (entry_refused NumberTooLarge r) (cond u (older r) (entry_refused NotAssignable (slot_seen e.slot r))))).group
          ≡ group_register s (cond t r (cond u r (slot_seen e.slot r)))
      go true u = refl
      go false true = refl
      go false false = refl

  pub position_group : (ps : List (Option Position))
      → (apply_position (register_with_positions (group_register s r) ps) e).placed.group ≡ (apply_in_group (group_register s r) (slot_alone e)).group
  unfolding apply_position give_position apply_in_group
  position_group ps =
      go (is_made s) (ltb 9223372036854775806 e.slot) (ltb e.slot r.next_slot) (within_grid e.position) (is_live_cell e.cell (live_cells r)) made_alone
    where
      g : GroupRegister
      g = group_register s r

      h : GroupRegister
      h = with_seen e.slot g

      given : List (Option Position)
      given = set ps (cell_place e.cell (live_cells r)) (Some e.position)

      go : (m t u w l : Bool) → (apply_made s r (slot_alone e)).group ≡ group_register s (cond t r (cond u r (slot_seen e.slot r)))
          → (cond (not m) (position_refused g ps (AsGroup (Unmade (unmade_by s))))
          (cond t (position_refused g ps (AsGroup (AsRegister NumberTooLarge)))
          (cond u (placed_applied g ps (Ok Older))
          (cond (not w) (position_refused h ps OutsideGrid)
          (cond l (placed_applied h given (Ok Done)) (position_refused h ps (AsGroup (AsRegister CellNotLive)))))))).placed.group
          ≡ (cond m (apply_made s r (slot_alone e)) (group_applied s r (Err (Unmade (unmade_by s))))).group
      go false t u w l k = refl
      go true true u w l k = sym k
      go true false true w l k = sym k
      go true false false false l k = sym k
      go true false false true true k = sym k
      go true false false true false k = sym k

-- ---- positions
-- what is known of the row beside the cells
module _ (s : RegisterSettings) (r : Register) (ps : List (Option Position)) (places : length r.cells ≡ 512) (fits : r.live_count ≤ 512)
    (rising : RisingCells 0 (live_cells r)) (long : length ps ≡ 512) where
  abbrev cells : List Cell
  cells = live_cells r

  abbrev before : PlacedRegister
  before = register_with_positions (group_register s r) ps

  count : length cells ≡ live_places r
  count = length-take (live_places r) r.cells ∙ omega (arith, places)

  held : length (take (live_places r) ps) ≡ length cells
  held = length-take (live_places r) ps ∙ omega (arith, long, count)

  new_cells : (new : List Cell) (figures : Figures) (x : Register) → length new ≤ 512 → live_cells (holding new figures x) ≡ new
  unfolding at_front
  new_cells new figures x h = take_at new _ (min (length new) 512) (omega arith)

  -- the positions behind an entry of a cell
  pub record Beside (x : PlacedApplied) (named : ℕ) (done : Bool) (said : Option Position → Option Position) : Type 0 where
    pub still_long : length x.placed.positions ≡ 512
    pub each : (m : ℕ) → position_of x.placed m ≡ cond (done && eqb named m) (said (position_of before m)) (position_of before m)

  module _ (e : CellEntry) where
    n : ℕ
    n = e.cell

    either_way : {A : Type 0} (t : Bool) (x : A) → x ≡ cond t x x
    either_way true x = refl
    either_way false x = refl

    abbrev Goal : GroupApplied → Type 0
    Goal x = Beside (positioned before e x) e.cell (eqb (group_outcome_number x.outcome) 0) (position_behind e.change)

    by_case : (x : GroupApplied) → Became s r e x → Goal x
    unfolding position_of followed_positions
    by_case x (stayed after o same off) =
        record {
          still_long = ap length (not_done_where o off (positions_after r e ps) ps) ∙ long;
          each = λ m. (
              ap₂ (λ (cs : List Cell) (qs : List (Option Position)). position_of_cell cs qs m) same (not_done_where o off (positions_after r e ps) ps)
              ∙ ap (λ (t : Bool). cond (t && eqb e.cell m) (position_behind e.change (position_of_cell cells ps m)) (position_of_cell cells ps m))
              (sym (not_done_number o off)));
        }
    by_case x (superseded a is live) =
        rw is
        (simp live
        (record {
          still_long = long;
          each = λ m. (
              ap (λ (cs : List Cell). position_of_cell cs ps m)
              (new_cells (cell_reassigned e.cell a cells) (with_superseded e.cell a (slot_seen e.slot r)).figures (slot_seen e.slot r)
              (omega (arith, reassigned_length e.cell a cells, count)))
              ∙ in_reassigned e.cell m a cells ps live ∙ either_way (eqb e.cell m) (position_of_cell cells ps m));
        }))
    by_case x (made a is live room) =
        rw is
        (simp live
        (record {
          still_long = front_length _ ps (omega (arith, long, longer)) ∙ long;
          each = λ m. (
              ap (λ (cs : List Cell). position_of_cell cs row m)
              (new_cells (cell_inserted e.cell a cells) (with_new_cell e.cell a (slot_seen e.slot r)).figures (slot_seen e.slot r)
              (omega (arith, inserted_length e.cell a cells, count)))
              ∙ put_in_front (cell_inserted e.cell a cells) front ps m (omega (arith, inserted_length e.cell a cells, longer, count))
              ∙ in_inserted e.cell m a cells (take (live_places r) ps) held
              ∙ ap (λ (p : Option Position). cond (eqb e.cell m) None p) (in_take cells (live_places r) ps m (omega (arith, count)))
              ∙ new_has_none m (eqb e.cell m) refl);
        }))
      where
        at : ℕ
        at = cell_place e.cell cells

        front : List (Option Position)
        front = with_at at None (take (live_places r) ps)

        row : List (Option Position)
        row = at_front front ps

        longer : length front ≡ live_places r + 1
        longer = with_length ps at (live_places r) None (omega (arith, place_within e.cell cells, count)) (omega (arith, long))

        new_has_none : (m : ℕ) (t : Bool) → eqb e.cell m ≡ t → cond t None (position_of_cell cells ps m) ≡ cond t (position_of_cell cells ps m) (position_of_cell cells ps m)
        new_has_none m true h = sym (ap (λ (k : ℕ). position_of_cell cells ps k) (sym (eqb-true e.cell m h)) ∙ simp live)
        new_has_none m false h = refl
    by_case x (released is live) =
        rw is
        (simp live
        (record {
          still_long = front_length _ ps (omega (arith, long, shorter)) ∙ long;
          each = λ m. (
              ap (λ (cs : List Cell). position_of_cell cs row m)
              (new_cells (cell_removed e.cell cells) (with_released e.cell (slot_seen e.slot r)).figures (slot_seen e.slot r)
              (omega (arith, removed_length e.cell cells live, count)))
              ∙ put_in_front (cell_removed e.cell cells) front ps m (omega (arith, removed_length e.cell cells live, shorter, count))
              ∙ in_removed e.cell m 0 cells (take (live_places r) ps) held rising live
              ∙ ap (λ (p : Option Position). cond (eqb e.cell m) None p) (in_take cells (live_places r) ps m (omega (arith, count))));
        }))
      where
        at : ℕ
        at = cell_place e.cell cells

        front : List (Option Position)
        front = without at (take (live_places r) ps)

        row : List (Option Position)
        row = at_front front ps

        shorter : length front + 1 ≡ live_places r
        shorter = without_length ps at (live_places r) (omega (arith, live_within e.cell cells live, count)) (omega (arith, long))

    pub cell_beside : Beside (apply_cell before e) e.cell (eqb (placed_number (apply_cell before e).outcome) 0) (position_behind e.change)
    unfolding apply_cell
    cell_beside =
        let b = by_case (apply_in_group (group_register s r) e) (became s r e) in
        record {
          still_long = b.still_long;
          each =
              λ m. (b.each m ∙ ap (λ (k : ℕ). cond (eqb k 0 && eqb e.cell m) (position_behind e.change (position_of before m)) (position_of before m))
              (sym (same_outcome_number (apply_in_group (group_register s r) e).outcome)));
        }

  -- the positions behind a position
  pub position_beside : (e : PositionEntry)
      → Beside (apply_position before e) e.cell (eqb (placed_number (apply_position before e).outcome) 0) (λ _. Some e.position)
  unfolding apply_position give_position position_of
  position_beside e = go (is_made s) (ltb 9223372036854775806 e.slot) (ltb e.slot r.next_slot) (within_grid e.position) (is_live_cell e.cell cells) refl
    where
      g : GroupRegister
      g = group_register s r

      h : GroupRegister
      h = with_seen e.slot g

      given : List (Option Position)
      given = set ps (cell_place e.cell cells) (Some e.position)

      Goal : PlacedApplied → Type 0
      Goal x = Beside x e.cell (eqb (placed_number x.outcome) 0) (λ _. Some e.position)

      go : (m t u w l : Bool) → is_live_cell e.cell cells ≡ l
          → Goal (cond (not m) (position_refused g ps (AsGroup (Unmade (unmade_by s))))
          (cond t (position_refused g ps (AsGroup (AsRegister NumberTooLarge)))
          (cond u (placed_applied g ps (Ok Older))
          (cond (not w) (position_refused h ps OutsideGrid)
          (cond l (placed_applied h given (Ok Done)) (position_refused h ps (AsGroup (AsRegister CellNotLive))))))))
      go false t u w l k =
          record {
            still_long = long;
            each = λ m. sym (ap (λ (z : Bool). cond (z && eqb e.cell m) (Some e.position) (position_of before m)) (unmade_refuses (unmade_by s)));
          }
      go true true u w l k = record { still_long = long; each = λ m. refl }
      go true false true w l k = record { still_long = long; each = λ m. refl }
      go true false false false l k = record { still_long = long; each = λ m. refl }
      go true false false true false k = record { still_long = long; each = λ m. refl }
      go true false false true true k =
          record {
            still_long = length-set ps (cell_place e.cell cells) (Some e.position) ∙ long;
            each = λ m. in_set e.cell m (Some e.position) cells ps (omega (arith, count, long)) k;
          }

-- A register with the positions of its cells, and what an entry makes of it (document 02, E11). The register of group settings stands below it and does
-- not move. Place i of the positions is that of the cell in place i.
-- Assumes nothing.
use Rattle.std.specs.Prelude.{Bool, cond, not, ℕ, ◌<◌, ◌≤◌, List, ltb, Option, Some, None, get_or, set, take, replicate, Result, Ok, Err}
use Rattle.basics.specs.elements.Places.{at_front, without, with_at}
use Rattle.register.specs.Cells.{is_live_cell, cell_place, number_of_cell, found}
use Rattle.register.specs.Register.{live_places, live_cells, slot_seen}
use Rattle.register.specs.declared.CellEntry.{CellEntry}
use Rattle.register.specs.declared.Change.{Change}
use Rattle.register.specs.declared.Change.TheVariants.{Assign, Release}
use Rattle.register.specs.declared.Entered.{Entered}
use Rattle.register.specs.declared.Entered.TheVariants.{Done, Older}
use Rattle.register.specs.declared.EntryRefusal.TheVariants.{NumberTooLarge, CellNotLive}
use Rattle.register.specs.declared.Register.{Register}
use Rattle.group_register.specs.Settings.{unmade_by, is_made}
use Rattle.group_register.specs.GroupRegister.{group_register, new_group_register, group_refusal_number, apply_in_group}
use Rattle.group_register.specs.declared.GroupApplied.{GroupApplied}
use Rattle.group_register.specs.declared.GroupRefusal.{GroupRefusal}
use Rattle.group_register.specs.declared.GroupRefusal.TheVariants.{Unmade, AsRegister}
use Rattle.group_register.specs.declared.GroupRegister.{GroupRegister}
use Rattle.group_register.specs.declared.RegisterSettings.{RegisterSettings}
use Rattle.positions.specs.Grid.{within_grid}
use Rattle.positions.specs.declared.PlacedEntry.{PlacedEntry}
use Rattle.positions.specs.declared.PlacedEntry.TheVariants.{OfCell, OfPosition}
use Rattle.positions.specs.declared.PlacedApplied.{PlacedApplied}
use Rattle.positions.specs.declared.PlacedRegister.{PlacedRegister}
use Rattle.positions.specs.declared.Position.{Position}
use Rattle.positions.specs.declared.PositionEntry.{PositionEntry}
use Rattle.positions.specs.declared.PositionRefusal.{PositionRefusal}
use Rattle.positions.specs.declared.PositionRefusal.TheVariants.{OutsideGrid, AsGroup}

-- ---- registers
abbrev pub register_with_positions : GroupRegister → List (Option Position) → PlacedRegister
register_with_positions g ps = record { group = g; positions = ps }

-- no cell has a position: so it is of a stored register (E7) that is read, and of a new one
abbrev pub without_positions : GroupRegister → PlacedRegister
without_positions g = register_with_positions g (replicate 512 None)

-- it has seen no entry
abbrev pub new_placed : RegisterSettings → PlacedRegister
new_placed s = without_positions (new_group_register s)

-- the live cells
abbrev pub placed_live : PlacedRegister → ℕ → Bool
placed_live p n = is_live_cell n (live_cells p.group.register)

-- the position of live cell n
unfoldable pub position_of : PlacedRegister → ℕ → Option Position
position_of p n = cond (placed_live p n) (get_or p.positions (cell_place n (live_cells p.group.register)) None) None

-- ---- document 02's number of a refusal: "21, position .. outside the limits"
abbrev pub position_refusal_number : PositionRefusal → ℕ
position_refusal_number OutsideGrid = 21
position_refusal_number (AsGroup why) = group_refusal_number why

-- ---- what becomes of an entry
abbrev pub placed_applied : GroupRegister → List (Option Position) → Result Entered PositionRefusal → PlacedApplied
placed_applied g ps o = record { placed = register_with_positions g ps; outcome = o }

abbrev pub as_placed : Result Entered GroupRefusal → Result Entered PositionRefusal
as_placed (Ok entered) = Ok entered
as_placed (Err why) = Err (AsGroup why)

-- ---- an assignment or a release

-- the positions behind one that is done, by the place in which the cell stood or would have stood: "A new assignment keeps the position, a release drops
-- it." Beside a new cell stands none.
unfoldable pub followed_positions : Change → Result ℕ ℕ → ℕ → List (Option Position) → List (Option Position)
followed_positions (Assign a) (Ok at) live ps = ps
followed_positions (Assign a) (Err at) live ps = at_front (with_at at None (take live ps)) ps
followed_positions Release (Ok at) live ps = at_front (without at (take live ps)) ps
followed_positions Release (Err at) live ps = ps

-- the places that one more, or one fewer, may stand in
abbrev pub IsPlaceOf : Change → Result ℕ ℕ → ℕ → Type 0
IsPlaceOf (Assign a) (Ok at) live = Unit {0}
IsPlaceOf (Assign a) (Err at) live = (at ≤ live) × (live < 512)
IsPlaceOf Release (Ok at) live = (at < live) × (live ≤ 512)
IsPlaceOf Release (Err at) live = Unit {0}

abbrev pub positions_after : Register → CellEntry → List (Option Position) → List (Option Position)
positions_after r e ps = followed_positions e.change (found number_of_cell e.cell (live_cells r)) (live_places r) ps

-- where it is done, and else they stay
abbrev pub where_done : {A : Type 0} → Result Entered GroupRefusal → A → A → A
where_done (Ok Done) new old = new
where_done (Ok Older) new old = old
where_done (Err why) new old = old

-- what becomes of it is as before
abbrev pub positioned : PlacedRegister → CellEntry → GroupApplied → PlacedApplied
positioned p e a = placed_applied a.group (where_done a.outcome (positions_after p.group.register e p.positions) p.positions) (as_placed a.outcome)

unfoldable pub apply_cell : PlacedRegister → CellEntry → PlacedApplied
apply_cell p e = positioned p e (apply_in_group p.group e)

-- ---- a position
abbrev pub with_seen : ℕ → GroupRegister → GroupRegister
with_seen slot g = group_register g.settings (slot_seen slot g.register)

abbrev pub position_refused : GroupRegister → List (Option Position) → PositionRefusal → PlacedApplied
position_refused g ps why = placed_applied g ps (Err why)

-- "21, position .. outside the limits"; "16 for a cell that is not live"
unfoldable pub give_position : GroupRegister → List (Option Position) → PositionEntry → PlacedApplied
give_position g ps e =
    cond (not (within_grid e.position)) (position_refused g ps OutsideGrid)
    (cond (is_live_cell e.cell (live_cells g.register))
    (placed_applied g (set ps (cell_place e.cell (live_cells g.register)) (Some e.position)) (Ok Done))
    (position_refused g ps (AsGroup (AsRegister CellNotLive))))

-- the slot's 2, an older slot, and then what is left: the slot is seen
unfoldable pub apply_position : PlacedRegister → PositionEntry → PlacedApplied
apply_position p e =
    cond (not (is_made p.group.settings)) (position_refused p.group p.positions (AsGroup (Unmade (unmade_by p.group.settings))))
    (cond (ltb 9223372036854775806 e.slot) (position_refused p.group p.positions (AsGroup (AsRegister NumberTooLarge)))
    (cond (ltb e.slot p.group.register.next_slot) (placed_applied p.group p.positions (Ok Older))
    (give_position (with_seen e.slot p.group) p.positions e)))

unfoldable pub apply_entry : PlacedRegister → PlacedEntry → PlacedApplied
apply_entry p (OfCell e) = apply_cell p e
apply_entry p (OfPosition e) = apply_position p e

-- The register of cells, and what an entry makes of it (document 02, E6).
-- Assumes nothing.
use Rattle.std.specs.Prelude.{Bool, cond, ◌&&◌, not, List, ℕ, ◌+◌, min, ltb, leb, eqb, length, take, replicate, Result, Ok, Err}
use Rattle.message.specs.Rounds.{increment}
use Rattle.raster.specs.Raster.{frequency_of, raster_refusal}
use Rattle.basics.specs.elements.Places.{at_front}
use Rattle.register.specs.Cells.{cell_of, is_live_cell, cell_reassigned, cell_inserted, cell_removed}
use Rattle.register.specs.declared.Assignment.{Assignment}
use Rattle.register.specs.declared.Change.{Change}
use Rattle.register.specs.declared.Change.TheVariants.{Assign, Release}
use Rattle.register.specs.declared.CellEntry.{CellEntry}
use Rattle.register.specs.declared.Cell.{Cell}
use Rattle.register.specs.declared.Figures.{Figures}
use Rattle.register.specs.declared.Register.{Register}
use Rattle.register.specs.declared.EntryRefusal.{EntryRefusal}
use Rattle.register.specs.declared.EntryRefusal.TheVariants.{NumberTooLarge, NotAssignable, NoRoomForCell, CellNotLive}
use Rattle.register.specs.declared.Entered.{Entered}
use Rattle.register.specs.declared.Entered.TheVariants.{Done, Older}
use Rattle.register.specs.declared.Applied.{Applied}

-- a register that has seen no entry
abbrev pub new_register : Register
new_register =
    record {
      next_slot = 0;
      figures = record { made = 0; superseded = 0; released = 0 };
      live_count = 0;
      cells = replicate 512 (cell_of 0 (record { carrier = 0; width = 0 }));
    }

-- the number of places that hold live cells: at most 512, whatever the count says
abbrev pub live_places : Register → ℕ
live_places r = min r.live_count 512

-- the live cells, by number
abbrev pub live_cells : Register → List Cell
live_cells r = take (live_places r) r.cells

-- "14": no raster number (E5), or no "width in kHz from 1 to 400,000"
unfoldable pub assignable : Assignment → Bool
assignable a = eqb (raster_refusal (frequency_of a.carrier)) 0 && leb 1 a.width && leb a.width 400000

-- ---- what an entry leaves
abbrev pub holding : List Cell → Figures → Register → Register
holding cells figures r =
    record { next_slot = r.next_slot; figures = figures; live_count = length cells; cells = at_front cells r.cells }

-- a new cell is assigned
abbrev pub with_new_cell : ℕ → Assignment → Register → Register
with_new_cell n a r =
    holding (cell_inserted n a (live_cells r))
    (record { made = increment r.figures.made; superseded = r.figures.superseded; released = r.figures.released }) r

-- "An assignment supersedes the cell's earlier one"
abbrev pub with_superseded : ℕ → Assignment → Register → Register
with_superseded n a r =
    holding (cell_reassigned n a (live_cells r))
    (record { made = increment r.figures.made; superseded = increment r.figures.superseded; released = r.figures.released }) r

-- "a release removes it"
abbrev pub with_released : ℕ → Register → Register
with_released n r =
    holding (cell_removed n (live_cells r))
    (record { made = r.figures.made; superseded = r.figures.superseded; released = increment r.figures.released }) r

-- the same register with other cells, and with other counts
abbrev pub with_cells : List Cell → Register → Register
with_cells cells r = record { next_slot = r.next_slot; figures = r.figures; live_count = r.live_count; cells = cells }

abbrev pub with_figures : Figures → ℕ → Register → Register
with_figures figures live r = record { next_slot = r.next_slot; figures = figures; live_count = live; cells = r.cells }

-- the slot is the last one seen
abbrev pub slot_seen : ℕ → Register → Register
slot_seen slot r = record { next_slot = slot + 1; figures = r.figures; live_count = r.live_count; cells = r.cells }

-- ---- what becomes of an entry
abbrev pub applied : Register → Result Entered EntryRefusal → Applied
applied r outcome = record { register = r; outcome = outcome }

abbrev pub done : Register → Applied
done r = record { register = r; outcome = Ok Done }

abbrev pub older : Register → Applied
older r = record { register = r; outcome = Ok Older }

abbrev pub entry_refused : EntryRefusal → Register → Applied
entry_refused why r = record { register = r; outcome = Err why }

-- "15, a new cell with 512 live .. 14 comes before both, and a width outside its limits gives 14 too"
unfoldable pub assign : Register → ℕ → Assignment → Applied
assign r n a =
    cond (not (assignable a)) (entry_refused NotAssignable r)
    (cond (is_live_cell n (live_cells r)) (done (with_superseded n a r))
    (cond (leb 512 (live_places r)) (entry_refused NoRoomForCell r) (done (with_new_cell n a r))))

-- "16, release of a cell that is not live"
unfoldable pub release : Register → ℕ → Applied
release r n = cond (is_live_cell n (live_cells r)) (done (with_released n r)) (entry_refused CellNotLive r)

unfoldable pub apply_change : Change → ℕ → Register → Applied
apply_change (Assign a) n r = assign r n a
apply_change Release n r = release r n

-- "unless the slot itself gives 2, which comes first"; "An entry of a slot not after the last one seen does nothing"; "A refused entry
-- counts nowhere, but its slot is seen"
unfoldable pub apply : Register → CellEntry → Applied
apply r e =
    cond (ltb 9223372036854775806 e.slot) (entry_refused NumberTooLarge r)
    (cond (ltb e.slot r.next_slot) (older r) (apply_change e.change e.cell (slot_seen e.slot r)))

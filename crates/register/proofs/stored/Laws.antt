-- What E7 says of a stored register: "Stored cells keep number and assignment, and the report over old entries is the same."
-- Assumes nothing.
use mathlib.Core.Path.{◌≡◌, refl, sym, ap, ap₂, ◌∙◌}
use mathlib.Core.List.{List, [], ◌∷◌, ◌++◌, map, reverse_aux}
use mathlib.Core.Logic.{inl, inr}
use Prim.Native.Nat.{ℕ, min}
use native.Mathlib.Nat.{mod-eq_of_lt}
use Rattle.basics.specs.Lists.{In}
use Rattle.register.specs.Cells.{cell_of}
use Rattle.register.specs.Register.{new_register, live_cells, apply}
use Rattle.register.specs.History.{register_after, apply_all}
use Rattle.register.specs.Taken.{figures_of, live_cell_count}
use Rattle.register.specs.declared.Assignment.{Assignment}
use Rattle.register.specs.declared.Cell.{Cell}
use Rattle.register.specs.declared.CellEntry.{CellEntry}
use Rattle.register.specs.declared.Register.{Register}
use Rattle.register.proofs.Laws.{applied_in_order}
use Rattle.register.specs.report.Report.{register_page, page_with}
use Rattle.register.proofs.report.Counted.{report_counted}
use Rattle.register.specs.stored.Stored.{stored_cell, stored_cell_of, stored_of, stored_live_cells, OldEntries, widened_cell, widened}
use Rattle.register.specs.declared.stored.StoredCell.{StoredCell}
use Rattle.register.specs.declared.stored.StoredRegister.{StoredRegister}
use Rattle.std.proofs.lemmas.List.{take-map}
use Rattle.register.proofs.stored.Old.{OldCells, old_after}

-- ---- "Stored cells keep number and assignment", whatever a stored register holds: each live one is live, and no other is
in_map : (c : StoredCell) (cs : List StoredCell) → In c cs → In (widened_cell c) (map widened_cell cs)
in_map c [] h = h
in_map c (d ∷ cs) (inl h) = inl (ap widened_cell h)
in_map c (d ∷ cs) (inr h) = inr (in_map c cs h)

map_in : (n : ℕ) (a : Assignment) (cs : List StoredCell) → In (cell_of n a) (map widened_cell cs) → In (stored_cell n a) cs
map_in n a [] h = h
map_in n a (d ∷ cs) (inl h) = inl (ap₂ stored_cell (ap (λ (c : Cell). c.number) h) (ap (λ (c : Cell). c.assignment) h))
map_in n a (d ∷ cs) (inr h) = inr (map_in n a cs h)

pub live_widened : (s : StoredRegister) → live_cells (widened s) ≡ map widened_cell (stored_live_cells s)
live_widened s = take-map widened_cell (min s.live_count 512) s.cells

module _ (s : StoredRegister) (n : ℕ) (a : Assignment) where
  pub cell_kept : In (stored_cell n a) (stored_live_cells s) → In (cell_of n a) (live_cells (widened s))
  cell_kept h = rw (live_widened s) (in_map (stored_cell n a) (stored_live_cells s) h)

  pub no_other_cell : In (cell_of n a) (live_cells (widened s)) → In (stored_cell n a) (stored_live_cells s)
  no_other_cell h = map_in n a (stored_live_cells s) (rw (live_widened s) at h)

-- ---- what E6 stored of the register of its entries becomes the register of these entries
all_kept : (cs : List Cell) → OldCells cs → map widened_cell (map stored_cell_of cs) ≡ cs
all_kept [] h = refl
all_kept (c ∷ cs) h = ap₂ (λ (n : ℕ) (rest : List Cell). cell_of n c.assignment ∷ rest) (mod-eq_of_lt h.0) (all_kept cs h.1)

pub register_kept : (es : List CellEntry) → OldEntries es → widened (stored_of (register_after es)) ≡ register_after es
register_kept es h =
    let r : Register = register_after es in
    ap (λ (cs : List Cell). record { next_slot = r.next_slot; figures = r.figures; live_count = r.live_count; cells = cs }) (all_kept r.cells (old_after es h))

-- "the report over old entries is the same", byte for byte: it shows the counts of these entries
pub same_report : (es : List CellEntry) → OldEntries es → register_page (widened (stored_of (register_after es))) ≡ page_with (figures_of es) (live_cell_count es)
same_report es h = ap register_page (register_kept es h) ∙ report_counted es

-- ---- a stored register that is gone on with: old entries and then new ones are one list of entries
one_list : (r : Register) (es more : List CellEntry) → apply_all r (es ++ more) ≡ apply_all (apply_all r es) more
unfolding apply_all
one_list r [] more = refl
one_list r (e ∷ es) more = one_list (apply r e).register es more

old_turned : (es before : List CellEntry) → OldEntries es → OldEntries before → OldEntries (reverse_aux es before)
old_turned [] before h k = k
old_turned (e ∷ es) before h k = old_turned es (e ∷ before) h.1 (h.0, k)

pub widened_then_applied : (old new : List CellEntry) → OldEntries old → apply_all (widened (stored_of (apply_all new_register old))) new ≡ apply_all new_register (old ++ new)
unfolding register_after
widened_then_applied old new h =
    let turned : apply_all new_register old ≡ register_after (reverse_aux old []) = applied_in_order old [] in
    let kept : widened (stored_of (apply_all new_register old)) ≡ apply_all new_register old =
    ap (λ (r : Register). widened (stored_of r)) turned ∙ register_kept (reverse_aux old []) (old_turned old [] h tt) ∙ sym turned in
    ap (λ (r : Register). apply_all r new) kept ∙ sym (one_list new_register old new)

-- whatever is stored, the next slot, the figures and the live count are kept
pub rest_kept : (s : StoredRegister)
    → ((widened s).next_slot ≡ s.next_slot) × ((widened s).figures ≡ s.figures) × ((widened s).live_count ≡ s.live_count)
rest_kept s = (refl, refl, refl)

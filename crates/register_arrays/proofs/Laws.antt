-- What a host may rely on: an entry that is refused with 2, or is older, leaves every number of the arrays as it was; a kind that is neither 1 nor 2
-- gives 14, behind 2 and older, and its slot is seen; kind 1 is an assignment and kind 2 a release; the report is that of the register in the arrays.
-- Assumes nothing.
use mathlib.Core.Path.{◌≡◌, refl, sym, ap, ◌∙◌}
use mathlib.Core.Bool.{Bool, true, false, cond, ◌||◌, not}
use mathlib.Core.List.{List, [], ◌∷◌}
use Prim.Native.Nat.{ℕ, ◌≤◌}
use native.Mathlib.Omega.{arith}
use borrow.Author.Tests.{le-ltb}
use lib.Dec.{ltb, leb, eqb}
use lib.ListN.{length, get_or}
use Rattle.basics.proofs.Tests.{not_both}
use Rattle.register.specs.Cells.{cell_of, is_live_cell}
use Rattle.register.specs.Refusals.{entry_number}
use Rattle.register.specs.Register.{live_places, live_cells, assignable, with_new_cell, with_superseded, with_released, slot_seen, done, older, entry_refused, assign, release, apply_change, apply}
use Rattle.register.specs.declared.Applied.{Applied}
use Rattle.register.specs.declared.Assignment.{Assignment}
use Rattle.register.specs.declared.Cell.{Cell}
use Rattle.register.specs.declared.CellEntry.{CellEntry}
use Rattle.register.specs.declared.Change.{Change}
use Rattle.register.specs.declared.Change.TheVariants.{Assign, Release}
use Rattle.register.specs.declared.EntryRefusal.TheVariants.{NumberTooLarge, NotAssignable, NoRoomForCell, CellNotLive}
use Rattle.register.specs.declared.Register.{Register}
use Rattle.raster.specs.Raster.{frequency_of}
use Rattle.register.specs.report.Report.{register_page}
use Rattle.register_arrays.specs.Columns.{HavePlaces, cells_in, register_of, change_of, entry_from_numbers, after_entry, report_in}
use Rattle.register_arrays.proofs.Levels.{Level, level, below}

-- ---- the numbers with which a register stays as it is: the slot gives 2, or is older
abbrev pub leaves_all : ℕ → Bool
leaves_all k = eqb k 2 || eqb k 64

module _ (r : Register) where
  abbrev Kept : Applied → Type 0
  Kept x = leaves_all (entry_number x.outcome) ≡ true → x.register ≡ r

  module _ (s : Register) (n : ℕ) where
    kept_assign : (a : Assignment) → Kept (assign s n a)
    unfolding assign
    kept_assign a = go (not (assignable a)) (is_live_cell n (live_cells s)) (leb 512 (live_places s))
      where
        go : (t u v : Bool) → Kept (cond t (entry_refused NotAssignable s) (cond u (done (with_superseded n a s)) (cond v (entry_refused NoRoomForCell s) (done (with_new_cell n a s)))))
        go true u v h = absurd (not_both h refl)
        go false true v h = absurd (not_both h refl)
        go false false true h = absurd (not_both h refl)
        go false false false h = absurd (not_both h refl)

    kept_release : Kept (release s n)
    unfolding release
    kept_release = go (is_live_cell n (live_cells s))
      where
        go : (t : Bool) → Kept (cond t (done (with_released n s)) (entry_refused CellNotLive s))
        go true h = absurd (not_both h refl)
        go false h = absurd (not_both h refl)

    kept_change : (x : Change) → Kept (apply_change x n s)
    unfolding apply_change
    kept_change (Assign a) = kept_assign a
    kept_change Release = kept_release

  pub register_left : (e : CellEntry) → leaves_all (entry_number (apply r e).outcome) ≡ true → (apply r e).register ≡ r
  unfolding apply
  register_left e = go (ltb 9223372036854775806 e.slot) (ltb e.slot r.next_slot)
    where
      go : (t u : Bool) → Kept (cond t (entry_refused NumberTooLarge r) (cond u (older r) (apply_change e.change e.cell (slot_seen e.slot r))))
      go true u h = refl
      go false true h = refl
      go false false h = kept_change (slot_seen e.slot r) e.cell e.change h

-- ---- equal registers stand in equal arrays
same_columns : (ns cs ws ms ds vs : List ℕ) → Level ns cs ws → Level ms ds vs → length ns ≡ length ms → cells_in ns cs ws ≡ cells_in ms ds vs
    → (ns ≡ ms) × (cs ≡ ds) × (ws ≡ vs)
unfolding cells_in
same_columns [] [] [] [] [] [] h k l e = (refl, refl, refl)
same_columns [] [] [] [] [] (v ∷ vs) h k l e = absurd (omega (arith, k.widths))
same_columns [] [] [] [] (d ∷ ds) vs h k l e = absurd (omega (arith, k.carriers))
same_columns [] [] (w ∷ ws) ms ds vs h k l e = absurd (omega (arith, h.widths))
same_columns [] (c ∷ cs) ws ms ds vs h k l e = absurd (omega (arith, h.carriers))
same_columns [] [] [] (m ∷ ms) ds vs h k l e = absurd (omega arith)
same_columns (n ∷ ns) [] ws ms ds vs h k l e = absurd (omega (arith, h.carriers))
same_columns (n ∷ ns) (c ∷ cs) [] ms ds vs h k l e = absurd (omega (arith, h.widths))
same_columns (n ∷ ns) (c ∷ cs) (w ∷ ws) [] ds vs h k l e = absurd (omega arith)
same_columns (n ∷ ns) (c ∷ cs) (w ∷ ws) (m ∷ ms) [] vs h k l e = absurd (omega (arith, k.carriers))
same_columns (n ∷ ns) (c ∷ cs) (w ∷ ws) (m ∷ ms) (d ∷ ds) [] h k l e = absurd (omega (arith, k.widths))
same_columns (n ∷ ns) (c ∷ cs) (w ∷ ws) (m ∷ ms) (d ∷ ds) (v ∷ vs) h k l e =
    let head : cell_of n (record { carrier = c; width = w }) ≡ cell_of m (record { carrier = d; width = v }) = cc in
    let tail : cells_in ns cs ws ≡ cells_in ms ds vs = cc in
    let rest = same_columns ns cs ws ms ds vs (below n c w ns cs ws h) (below m d v ms ds vs k) (omega arith) tail in
    let number : n ≡ m = ap (λ (x : Cell). x.number) head in
    let carrier : c ≡ d = ap (λ (x : Cell). x.assignment.carrier) head in
    let width : w ≡ v = ap (λ (x : Cell). x.assignment.width) head in (
      ap (λ (x : ℕ). x ∷ ns) number ∙ ap (λ (l : List ℕ). m ∷ l) rest.0,
      ap (λ (x : ℕ). x ∷ cs) carrier ∙ ap (λ (l : List ℕ). d ∷ l) rest.1,
      ap (λ (x : ℕ). x ∷ ws) width ∙ ap (λ (l : List ℕ). v ∷ l) rest.2,
    )

five : (f : List ℕ) → length f ≡ 5 → f ≡ get_or f 0 0 ∷ get_or f 1 0 ∷ get_or f 2 0 ∷ get_or f 3 0 ∷ get_or f 4 0 ∷ []
five [] h = absurd (omega arith)
five (a ∷ []) h = absurd (omega arith)
five (a ∷ b ∷ []) h = absurd (omega arith)
five (a ∷ b ∷ c ∷ []) h = absurd (omega arith)
five (a ∷ b ∷ c ∷ d ∷ []) h = absurd (omega arith)
five (a ∷ b ∷ c ∷ d ∷ e ∷ []) h = refl
five (a ∷ b ∷ c ∷ d ∷ e ∷ x ∷ l) h = absurd (omega arith)

abbrev numbers : Register → List ℕ
numbers r = r.next_slot ∷ r.figures.made ∷ r.figures.superseded ∷ r.figures.released ∷ r.live_count ∷ []

-- the arrays before a call, and after it
module _ (ns cs ws f ms ds vs g : List ℕ) (before : HavePlaces ns cs ws) (figures : length f ≡ 5) (after : HavePlaces ms ds vs) (figures' : length g ≡ 5) where
  pub same_arrays : register_of ms ds vs g ≡ register_of ns cs ws f → (ms ≡ ns) × (ds ≡ cs) × (vs ≡ ws) × (g ≡ f)
  same_arrays e =
      let columns = same_columns ms ds vs ns cs ws (level ms ds vs after) (level ns cs ws before) (omega (arith, before.0, after.0)) (ap (λ (r : Register). r.cells) e) in
      (columns.0, columns.1, columns.2, five g figures' ∙ ap numbers e ∙ sym (five f figures))

  -- "does nothing": every number is as it was
  pub arrays_left : (e : CellEntry) (k : ℕ) → ◌≡◌ {A = Register × ℕ} (register_of ms ds vs g, k) (after_entry (register_of ns cs ws f) e) → leaves_all k ≡ true
      → (ms ≡ ns) × (ds ≡ cs) × (vs ≡ ws) × (g ≡ f)
  arrays_left e k h leaves =
      let r : Register = register_of ns cs ws f in
      let number : k ≡ entry_number (apply r e).outcome = ap (λ (x : Register × ℕ). x.1) h in
      same_arrays (ap (λ (x : Register × ℕ). x.0) h ∙ register_left r e (sym (ap leaves_all number) ∙ leaves))

-- ---- another kind
pub other_kind : (r : Register) (slot kind cell carrier width : ℕ) → eqb kind 1 ≡ false → eqb kind 2 ≡ false → slot ≤ 9223372036854775806 → r.next_slot ≤ slot
    → after_entry r (entry_from_numbers slot kind cell carrier width) ≡ (slot_seen slot r, 14)
unfolding change_of apply apply_change assign assignable frequency_of
other_kind r slot kind cell carrier width one two within later =
    simp (one, two, le-ltb 9223372036854775806 slot within, le-ltb slot r.next_slot later)

-- ---- which kind is which, and whose report is handed back
pub kind_assigns : (carrier width : ℕ) → change_of 1 carrier width ≡ Assign (record { carrier = carrier; width = width })
unfolding change_of
kind_assigns carrier width = refl

pub kind_releases : (carrier width : ℕ) → change_of 2 carrier width ≡ Release
unfolding change_of
kind_releases carrier width = refl

-- the report of the figures is that of the register which stands in the arrays
pub report_of_arrays : (cells carriers widths figures : List ℕ)
    → report_in figures ≡ ((register_page (register_of cells carriers widths figures)).bytes, (register_page (register_of cells carriers widths figures)).len)
report_of_arrays cells carriers widths figures = refl

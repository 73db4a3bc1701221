-- What stands behind the live cells is of no account: registers that are alike give an entry the same outcome, are alike after it, and have the same report.
-- So a stored register may have lost it.
-- Assumes nothing.
use mathlib.Core.Path.{◌≡◌, refl, sym, ap, ap₂, subst, ◌∙◌}
use mathlib.Core.Bool.{Bool, true, false, cond, not}
use mathlib.Core.List.{List, [], ◌∷◌, map}
use Prim.Native.Nat.{ℕ, min}
use native.Mathlib.Omega.{arith}
use lib.Dec.{ltb, leb}
use lib.ListN.{length, take, drop}
use lib.Seq.{take-append-le}
use Rattle.basics.proofs.Tests.{not_both}
use Rattle.message.specs.Rounds.{increment}
use Rattle.basics.specs.elements.Places.{at_front}
use Rattle.register.specs.Cells.{is_live_cell, cell_reassigned, cell_inserted, cell_removed}
use Rattle.register.specs.Register.{live_places, live_cells, assignable, holding, slot_seen, assign, release, apply_change, apply}
use Rattle.register.specs.History.{register_after, apply_all}
use Rattle.register.specs.declared.Applied.{Applied}
use Rattle.register.specs.declared.Assignment.{Assignment}
use Rattle.register.specs.declared.Cell.{Cell}
use Rattle.register.specs.declared.Change.{Change}
use Rattle.register.specs.declared.Change.TheVariants.{Assign, Release}
use Rattle.register.specs.declared.CellEntry.{CellEntry}
use Rattle.register.specs.declared.Figures.{Figures}
use Rattle.register.specs.declared.Register.{Register}
use Rattle.register.specs.report.Report.{register_page, page_with}
use Rattle.register.specs.stored.Stored.{stored_of, OldEntries, widened_cell, widened, Alike, AlikeStored}
use Rattle.register.specs.declared.stored.StoredRegister.{StoredRegister}
use Rattle.register.proofs.stored.Laws.{live_widened, register_kept}

-- the same outcome, and registers that are alike
record AlikeApplied (x y : Applied) : Type 0 where
  same : x.outcome ≡ y.outcome
  like : Alike x.register y.register

-- the same test on both sides
both_alike : {x x' y y' : Applied} (t u : Bool) → t ≡ u → AlikeApplied x x' → AlikeApplied y y' → AlikeApplied (cond t x y) (cond u x' y')
both_alike true true e p q = p
both_alike false false e p q = q
both_alike true false e p q = absurd (not_both refl e)
both_alike false true e p q = absurd (not_both e refl)

-- the cells that are put in front are the live ones
front : (cs places : List Cell) → take (min (length cs) 512) (at_front cs places) ≡ take (min (length cs) 512) cs
unfolding at_front
front cs places = take-append-le (min (length cs) 512) cs (drop (length cs) places) (omega arith)

holding_alike : (r q : Register) (cs ds : List Cell) (f g : Figures) → r.next_slot ≡ q.next_slot → cs ≡ ds → f ≡ g → Alike (holding cs f r) (holding ds g q)
holding_alike r q cs ds f g next same figures =
    (next, figures, ap (λ (c : List Cell). min (length c) 512) same, front cs r.cells ∙ ap (λ (c : List Cell). take (min (length c) 512) c) same ∙ sym (front ds q.cells))

module _ (r q : Register) (n : ℕ) (like : Alike r q) where
  live : is_live_cell n (live_cells r) ≡ is_live_cell n (live_cells q)
  live = ap (is_live_cell n) like.3

  assign_alike : (a : Assignment) → AlikeApplied (assign r n a) (assign q n a)
  unfolding assign
  assign_alike a =
      both_alike (not (assignable a)) (not (assignable a)) refl (record { same = refl; like = like })
      (both_alike (is_live_cell n (live_cells r)) (is_live_cell n (live_cells q)) live
      (record {
        same = refl;
        like = holding_alike r q _ _ _ _ like.0 (ap (cell_reassigned n a) like.3)
            (ap (λ (f : Figures). record { made = increment f.made; superseded = increment f.superseded; released = f.released }) like.1);
      })
      (both_alike (leb 512 (live_places r)) (leb 512 (live_places q)) (ap (leb 512) like.2) (record { same = refl; like = like })
      (record {
        same = refl;
        like = holding_alike r q _ _ _ _ like.0 (ap (cell_inserted n a) like.3)
            (ap (λ (f : Figures). record { made = increment f.made; superseded = f.superseded; released = f.released }) like.1);
      })))

  release_alike : AlikeApplied (release r n) (release q n)
  unfolding release
  release_alike =
      both_alike (is_live_cell n (live_cells r)) (is_live_cell n (live_cells q)) live
      (record {
        same = refl;
        like = holding_alike r q _ _ _ _ like.0 (ap (cell_removed n) like.3)
            (ap (λ (f : Figures). record { made = f.made; superseded = f.superseded; released = increment f.released }) like.1);
      })
      (record { same = refl; like = like })

  change_alike : (x : Change) → AlikeApplied (apply_change x n r) (apply_change x n q)
  unfolding apply_change
  change_alike (Assign a) = assign_alike a
  change_alike Release = release_alike

applied_alike : (r q : Register) (e : CellEntry) → Alike r q → AlikeApplied (apply r e) (apply q e)
unfolding apply
applied_alike r q e like =
    both_alike (ltb 9223372036854775806 e.slot) (ltb 9223372036854775806 e.slot) refl (record { same = refl; like = like })
    (both_alike (ltb e.slot r.next_slot) (ltb e.slot q.next_slot) (ap (ltb e.slot) like.0) (record { same = refl; like = like })
    (change_alike (slot_seen e.slot r) (slot_seen e.slot q) e.cell (refl, like.1, like.2, like.3) e.change))

pub entry_alike : (r q : Register) (e : CellEntry) → Alike r q → ((apply r e).outcome ≡ (apply q e).outcome) × Alike (apply r e).register (apply q e).register
entry_alike r q e like = let x = applied_alike r q e like in (x.same, x.like)

pub entries_alike : (r q : Register) (es : List CellEntry) → Alike r q → Alike (apply_all r es) (apply_all q es)
unfolding apply_all
entries_alike r q [] like = like
entries_alike r q (e ∷ es) like = entries_alike (apply r e).register (apply q e).register es (entry_alike r q e like).1

pub report_alike : (r q : Register) → Alike r q → register_page r ≡ register_page q
report_alike r q like = ap₂ page_with like.1 like.2

-- ---- a stored register that has the live cells of E6's, and anything behind them
widened_alike : (s t : StoredRegister) → AlikeStored s t → Alike (widened s) (widened t)
widened_alike s t like =
    (like.0, like.1, ap (λ (n : ℕ). min n 512) like.2, live_widened s ∙ ap (map widened_cell) like.3 ∙ sym (live_widened t))

pub live_cells_suffice : (s : StoredRegister) (es : List CellEntry) → OldEntries es → AlikeStored s (stored_of (register_after es)) → Alike (widened s) (register_after es)
live_cells_suffice s es h like =
    subst (λ (q : Register). Alike (widened s) q) (register_kept es h) (widened_alike s (stored_of (register_after es)) like)

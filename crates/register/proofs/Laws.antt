-- What E6 says of a register after any list of entries, from a new one. The definitions of specs/Taken.antt know the entries alone.
-- Assumes nothing.
use mathlib.Core.Path.{◌≡◌, refl, sym, ap, ◌∙◌}
use mathlib.Core.Bool.{Bool, true, false, cond}
use mathlib.Core.List.{List, [], ◌∷◌, reverse_aux}
use Prim.Native.Nat.{ℕ, ◌+◌, ◌≤◌}
use native.Mathlib.Omega.{arith}
use lib.Dec.{eqb}
use lib.ListN.{length, length-take}
use Rattle.basics.specs.Lists.{In}
use Rattle.basics.proofs.Tests.{not_both}
use Rattle.register.specs.Cells.{cell_of}
use Rattle.register.specs.Register.{live_places, live_cells, apply}
use Rattle.register.specs.Refusals.{entry_number}
use Rattle.register.specs.History.{register_after, apply_all, RisingCells}
use Rattle.register.specs.Taken.{Latest, never, is, latest, is_taken, is_taken_given, entry_number_after, is_later, later_entries, tally, makes, supersedes, is_taken_release, figures_of, live_cell_count}
use Rattle.register.specs.declared.Assignment.{Assignment}
use Rattle.register.specs.declared.Change.TheVariants.{Assign, Release}
use Rattle.register.specs.declared.CellEntry.{CellEntry}
use Rattle.register.specs.declared.Figures.{Figures}
use Rattle.register.specs.declared.EntryRefusal.{EntryRefusal}
use Rattle.register.specs.declared.EntryRefusal.TheVariants.{NumberTooLarge, NotAssignable, NoRoomForCell, CellNotLive}
use Rattle.register.specs.declared.Entered.{Entered}
use Rattle.register.specs.declared.Entered.TheVariants.{Done, Older}
use Rattle.std.specs.Prelude.{Result, Ok, Err}
use Rattle.register.proofs.Cells.{look_up_in, in_look_up}
use Rattle.register.proofs.Agreement.{RegisterAgrees, new_agrees, standing, stepped, left_alone}

pub register_agrees : (es : List CellEntry) → RegisterAgrees es (register_after es)
unfolding register_after
register_agrees [] = new_agrees
register_agrees (e ∷ before) = (stepped before (register_after before) e (register_agrees before)).agreeing

-- a list in its order is the turned one, latest first: so every law here is one of both
pub applied_in_order : (es before : List CellEntry) → apply_all (register_after before) es ≡ register_after (reverse_aux es before)
unfolding apply_all register_after
applied_in_order [] before = refl
applied_in_order (e ∷ es) before = applied_in_order es (e ∷ before)

-- ---- an entry is done exactly where it is taken
module _ (before : List CellEntry) (e : CellEntry) where
  abbrev outcome : Result Entered EntryRefusal
  outcome = (apply (register_after before) e).outcome

  -- its number is what the entries say
  pub number_given_lem : entry_number (apply (register_after before) e).outcome ≡ entry_number_after before e
  number_given_lem = (stepped before (register_after before) e (register_agrees before)).number

  same : eqb (entry_number outcome) 0 ≡ is_taken before e
  unfolding is_taken_given
  same = ap (λ (k : ℕ). eqb k 0) number_given_lem

  pub done_where_taken : is_taken before e ≡ true → (apply (register_after before) e).outcome ≡ Ok Done
  done_where_taken h = go outcome (same ∙ h)
    where
      go : (o : Result Entered EntryRefusal) → eqb (entry_number o) 0 ≡ true → o ≡ Ok Done
      go (Ok Done) t = refl
      go (Ok Older) t = absurd (not_both t refl)
      go (Err NumberTooLarge) t = absurd (not_both t refl)
      go (Err NotAssignable) t = absurd (not_both t refl)
      go (Err NoRoomForCell) t = absurd (not_both t refl)
      go (Err CellNotLive) t = absurd (not_both t refl)

  pub taken_where_done : (apply (register_after before) e).outcome ≡ Ok Done → is_taken before e ≡ true
  taken_where_done h = sym same ∙ ap (λ (o : Result Entered EntryRefusal). eqb (entry_number o) 0) h

-- ---- "Each figure is counted from the committed entries alone"
pub figures_counted : (es : List CellEntry) → (register_after es).figures ≡ figures_of es
figures_counted es = all (register_after es).figures (register_agrees es).made_counted (register_agrees es).superseded_counted (register_agrees es).released_counted
  where
    all : (f : Figures) → f.made ≡ tally makes es → f.superseded ≡ tally supersedes es → f.released ≡ tally is_taken_release es → f ≡ figures_of es
    all f m s d =
        ap (λ (x : ℕ). record { made = x; superseded = f.superseded; released = f.released }) m
        ∙ ap (λ (x : ℕ). record { made = tally makes es; superseded = x; released = f.released }) s
        ∙ ap (λ (x : ℕ). record { made = tally makes es; superseded = tally supersedes es; released = x }) d

-- the live cells are as many as the entries say
pub live_places_counted : (es : List CellEntry) → live_places (register_after es) ≡ live_cell_count es
live_places_counted es = omega (arith, (register_agrees es).fits, (register_agrees es).live_counted)

pub live_counted : (es : List CellEntry) → length (live_cells (register_after es)) ≡ live_cell_count es
live_counted es = length-take (live_places (register_after es)) (register_after es).cells ∙ omega (arith, (register_agrees es).places, live_places_counted es)

-- "made equals the other three together"
pub adds_up : (es : List CellEntry)
    → (register_after es).figures.made ≡ (register_after es).figures.superseded + (register_after es).figures.released + length (live_cells (register_after es))
adds_up es = omega (arith, (register_agrees es).sum, live_counted es, (register_agrees es).live_counted)

-- so do the counts
pub counts_add_up : (es : List CellEntry) → (figures_of es).made ≡ (figures_of es).superseded + (figures_of es).released + live_cell_count es
counts_add_up es = omega (arith, (register_agrees es).sum, (register_agrees es).live_counted, (register_agrees es).made_counted, (register_agrees es).superseded_counted, (register_agrees es).released_counted)

-- ---- "live agrees with the register": a cell stands there exactly where its latest taken assignment or release is an assignment, with it
module _ (es : List CellEntry) (n : ℕ) (a : Assignment) where
  pub live_agrees : In (cell_of n a) (live_cells (register_after es)) → latest es n ≡ is (Assign a)
  live_agrees h = go (latest es n) (sym ((register_agrees es).held n) ∙ (look_up_in n a 0 (live_cells (register_after es)) (register_agrees es).rising h).1)
    where
      go : (l : Latest) → standing l ≡ is (Assign a) → l ≡ is (Assign a)
      go never e = e
      go (is (Assign b)) e = e
      go (is Release) e = absurd (none e)
        where
          none : never ≡ is (Assign a) → ⊥
          none k = let z : ◌≡◌ {A = ℕ} 0 1 = cc in omega arith

  pub agrees_live : latest es n ≡ is (Assign a) → In (cell_of n a) (live_cells (register_after es))
  agrees_live h = in_look_up n a (live_cells (register_after es)) ((register_agrees es).held n ∙ ap standing h)

-- ---- "at most 512 live cells", by number
pub numbers_rise : (es : List CellEntry) → RisingCells 0 (live_cells (register_after es))
numbers_rise es = (register_agrees es).rising

pub at_most_512 : (es : List CellEntry) → length (live_cells (register_after es)) ≤ 512
at_most_512 es = omega (arith, live_counted es, (register_agrees es).live_counted, (register_agrees es).fits)

-- ---- "Two offices given equal entries in slot order, whatever repeats or older ones stand between, hold equal registers."
by_later_entries : (es : List CellEntry) → register_after es ≡ register_after (later_entries es)
unfolding register_after later_entries
by_later_entries [] = refl
by_later_entries (e ∷ before) = go (is_later before e) refl (by_later_entries before)
  where
    go : (t : Bool) → is_later before e ≡ t → register_after before ≡ register_after (later_entries before)
        → (apply (register_after before) e).register ≡ register_after (cond t (e ∷ later_entries before) (later_entries before))
    go true h rest = ap (λ r. (apply r e).register) rest
    go false h rest = left_alone before (register_after before) e (register_agrees before) h ∙ rest

pub equal_registers : (one other : List CellEntry) → later_entries one ≡ later_entries other → register_after one ≡ register_after other
equal_registers one other h = by_later_entries one ∙ ap register_after h ∙ sym (by_later_entries other)

-- The live cells of a register after a list of entries, each with the position that the entries say: so the laws of Laws.antt hold of them, and what is
-- listed is said by the entries alone.
-- Assumes nothing.
use mathlib.Core.Path.{◌≡◌, refl, sym, ap, ap₂, subst, ◌∙◌}
use mathlib.Core.Bool.{Bool, true, false, cond, ◌&&◌, not}
use mathlib.Core.List.{List, [], ◌∷◌}
use mathlib.Core.Logic.{inl, inr}
use Prim.Native.Nat.{ℕ, ◌+◌, ◌≤◌}
use native.Mathlib.Omega.{arith}
use lib.Dec.{leb, eqb}
use lib.ListN.{length}
use borrow.Author.Tests.{leb-true, le-leb, lt-leb, eq-eqb}
use Rattle.std.specs.Prelude.{Option, Ok}
use Rattle.basics.specs.Lists.{In}
use Rattle.basics.proofs.Tests.{not_both, and_left, and_right}
use Rattle.register.specs.Cells.{cell_of, has_number, number_place}
use Rattle.register.specs.Register.{live_cells}
use Rattle.register.specs.History.{RisingCells}
use Rattle.register.specs.Taken.{Latest, is, is_assignment, is_release, is_assigned, slot_within_limit, above, change_within_limits, assigned_cells}
use Rattle.register.specs.declared.Assignment.{Assignment}
use Rattle.register.specs.declared.Cell.{Cell}
use Rattle.register.specs.declared.CellEntry.{CellEntry}
use Rattle.register.specs.declared.Change.TheVariants.{Assign}
use Rattle.register.specs.declared.Register.{Register}
use Rattle.register.proofs.Laws as E6
use Rattle.group_register.specs.Settings.{is_made}
use Rattle.group_register.specs.WholeMhz.{is_odd}
use Rattle.group_register.specs.GroupTaken.{group_number_given, group_latest}
use Rattle.group_register.specs.declared.GroupRegister.{GroupRegister}
use Rattle.group_register.specs.declared.RegisterSettings.{RegisterSettings}
use Rattle.group_register.proofs.Mapped.{bound_entries}
use Rattle.group_register.proofs.GroupLaws as E13
use Rattle.positions.specs.Placed.{position_of}
use Rattle.positions.specs.PlacedTaken.{cell_entries, latest_position, placed_after}
use Rattle.positions.specs.declared.PlacedEntry.{PlacedEntry}
use Rattle.positions.specs.declared.Position.{Position}
use Rattle.positions.proofs.Laws.{register_below, group_is, positions_long, position_given}
use Rattle.positions.proofs.Rows.{position_of_cell}
use Rattle.reach.specs.Cells.{placed_cell, placed_cells, cells_of}
use Rattle.reach.specs.Conflict.{Conflict, CarrierTaken, Named, QuestionWithinLimits, MayAssign, Assigned, RisingPlaced}
use Rattle.reach.specs.Entries.{LiveWith, said_cell, InConflict, SomeInConflict, LowestFree}
use Rattle.reach.specs.Reach.{khz_at, numbers_listed, conflicts_of, first_free}
use Rattle.reach.specs.declared.PlacedCell.{PlacedCell}
use Rattle.reach.specs.declared.Question.{Question}
use Rattle.reach.proofs.Asking.{refusal_number_of}
use Rattle.reach.proofs.Laws.{listed_conflicts, conflicts_listed, free_lowest, lowest_free_lem, free_22_all_taken, all_taken_is_22}
use Rattle.reach.proofs.Raster.{on_raster}

-- ---- cells with the positions of their places
pub rising_placed : (low : ℕ) (cs : List Cell) (ps : List (Option Position)) → RisingCells low cs → RisingPlaced low (placed_cells cs ps)
unfolding placed_cells
rising_placed low [] ps r = tt
rising_placed low (c ∷ cs) [] r = tt
rising_placed low (c ∷ cs) (p ∷ ps) r = (r.0, rising_placed (c.number + 1) cs ps r.1)

-- one of them is the cell, with the position that it has
in_cells : (low : ℕ) (cs : List Cell) (ps : List (Option Position)) (c : PlacedCell) → RisingCells low cs → In c (placed_cells cs ps)
    → (low ≤ c.number) × In (cell_of c.number c.assignment) cs × (c.position ≡ position_of_cell cs ps c.number)
unfolding placed_cells has_number number_place
in_cells low [] ps c r i = absurd i
in_cells low (d ∷ cs) [] c r i = absurd i
in_cells low (d ∷ cs) (p ∷ ps) c r (inl same) =
    let number : c.number ≡ d.number = ap (λ (x : PlacedCell). x.number) same in (
      omega (arith, r.0),
      inl (ap (λ (x : PlacedCell). cell_of x.number x.assignment) same),
      ap (λ (x : PlacedCell). x.position) same ∙ simp (le-leb c.number d.number (omega arith), eq-eqb d.number c.number (sym number)),
    )
in_cells low (d ∷ cs) (p ∷ ps) c r (inr i) =
    let rest = in_cells (d.number + 1) cs ps c r.1 i in
    (omega (arith, r.0, rest.0), inr rest.1, rest.2 ∙ simp (lt-leb c.number d.number (omega (arith, rest.0))))

-- and each cell is one of them
in_placed : (low : ℕ) (cs : List Cell) (ps : List (Option Position)) (n : ℕ) (a : Assignment) → RisingCells low cs → length cs ≤ length ps → In (cell_of n a) cs
    → (low ≤ n) × In (record { number = n; assignment = a; position = position_of_cell cs ps n }) (placed_cells cs ps)
unfolding placed_cells has_number number_place
in_placed low [] ps n a r h i = absurd i
in_placed low (d ∷ cs) [] n a r h i = absurd (omega arith)
in_placed low (d ∷ cs) (p ∷ ps) n a r h (inl same) =
    let number : n ≡ d.number = ap (λ (x : Cell). x.number) same in (
      omega (arith, r.0),
      inl
          (ap (λ (x : Option Position). record { number = n; assignment = a; position = x })
          (simp (le-leb n d.number (omega arith), eq-eqb d.number n (sym number)))
          ∙ ap (λ (x : Cell). placed_cell x p) same),
    )
in_placed low (d ∷ cs) (p ∷ ps) n a r h (inr i) =
    let rest = in_placed (d.number + 1) cs ps n a r.1 (omega arith) i in (
      omega (arith, r.0, rest.0),
      inr (subst (λ (x : Option Position). In (record { number = n; assignment = a; position = x }) (placed_cells cs ps))
          (sym (simp (lt-leb n d.number (omega (arith, rest.0))))) rest.1),
    )

-- ---- a taken assignment is within its limits
taken_limits : (from : ℕ) (held : ℕ → Latest) (before : List CellEntry) (e : CellEntry) → eqb (group_number_given from held before e) 0 ≡ true
    → change_within_limits e.change ≡ true
unfolding group_number_given
taken_limits from held before e t =
    go (slot_within_limit e.slot) (above e.slot before) (change_within_limits e.change)
    (cond (is_odd from e) 23
    (cond (is_assignment e.change && not (is_assigned (held e.cell)) && leb 512 (assigned_cells held before)) 15
    (cond (is_release e.change && not (is_assigned (held e.cell))) 16 0)))
    t
  where
    go : (a b c : Bool) (k : ℕ) → eqb (cond (not a) 2 (cond (not b) 64 (cond (not c) 14 k))) 0 ≡ true → c ≡ true
    go false b c k h = absurd (not_both h refl)
    go true false c k h = absurd (not_both h refl)
    go true true false k h = absurd (not_both h refl)
    go true true true k h = refl

-- so the latest one of a cell is
latest_limits : (from : ℕ) (es : List CellEntry) (n : ℕ) (a : Assignment) → group_latest from es n ≡ is (Assign a) → change_within_limits (Assign a) ≡ true
unfolding group_latest
latest_limits from [] n a h = absurd (let z : ◌≡◌ {A = ℕ} 0 1 = cc in omega arith)
latest_limits from (e ∷ before) n a h =
    go (eqb (group_number_given from (group_latest from before) before e) 0 && eqb e.cell n) refl h (latest_limits from before n a)
  where
    go : (t : Bool) → eqb (group_number_given from (group_latest from before) before e) 0 && eqb e.cell n ≡ t
        → cond t (is e.change) (group_latest from before n) ≡ is (Assign a)
        → (group_latest from before n ≡ is (Assign a) → change_within_limits (Assign a) ≡ true) → change_within_limits (Assign a) ≡ true
    go true t k rest =
        ap change_within_limits (sym (change k)) ∙ taken_limits from (group_latest from before) before e (and_left _ (eqb e.cell n) t)
      where
        change : is e.change ≡ is (Assign a) → e.change ≡ Assign a
        change p = cc
    go false t k rest = rest k

may_assign : (a : Assignment) → change_within_limits (Assign a) ≡ true → MayAssign a.carrier a.width
may_assign a t =
    let both = and_left (leb a.carrier 3279165 && leb 1 a.width) (leb a.width 400000) t in
    record {
      khz = khz_at a.carrier;
      on_raster = on_raster a.carrier (leb-true a.carrier 3279165 (and_left (leb a.carrier 3279165) (leb 1 a.width) both));
      from = leb-true 1 a.width (and_right (leb a.carrier 3279165) (leb 1 a.width) both);
      to = leb-true a.width 400000 (and_right (leb a.carrier 3279165 && leb 1 a.width) (leb a.width 400000) t);
    }

-- ---- after every list of entries, in a register that is made
module _ (s : RegisterSettings) (made : is_made s ≡ true) (es : List PlacedEntry) where
  abbrev r : Register
  r = (placed_after s es).group.register

  abbrev ps : List (Option Position)
  ps = (placed_after s es).positions

  rising : RisingCells 0 (live_cells r)
  rising =
      subst (λ (g : GroupRegister). RisingCells 0 (live_cells g.register)) (sym (group_is s made es))
      (E6.numbers_rise (bound_entries s.whole_mhz_from (cell_entries es)))

  few : length (live_cells r) ≤ 512
  few =
      subst (λ (g : GroupRegister). length (live_cells g.register) ≤ 512) (sym (group_is s made es))
      (E6.at_most_512 (bound_entries s.whole_mhz_from (cell_entries es)))

  position_is : (n : ℕ) → position_of_cell (live_cells r) ps n ≡ latest_position s es n
  unfolding position_of
  position_is n = position_given s es n

  -- "by number"
  pub cells_rise : RisingPlaced 0 (cells_of (placed_after s es))
  cells_rise = rising_placed 0 (live_cells r) ps rising

  -- each live cell has the assignment and the position that the entries say
  pub cell_said : (c : PlacedCell) → In c (cells_of (placed_after s es)) → LiveWith s es c.number c.assignment × (c.position ≡ latest_position s es c.number)
  cell_said c i =
      let it = in_cells 0 (live_cells r) ps c rising i in (
        E13.live_agrees s made (cell_entries es) c.number c.assignment
            (subst (λ (g : GroupRegister). In (cell_of c.number c.assignment) (live_cells g.register)) (register_below s es) it.1),
        it.2 ∙ position_is c.number,
      )

  -- and each cell that the entries say is live stands among them
  pub said_is_live : (m : ℕ) (a : Assignment) → LiveWith s es m a → In (said_cell s es m a) (cells_of (placed_after s es))
  said_is_live m a live =
      let stands = subst (λ (g : GroupRegister). In (cell_of m a) (live_cells g.register)) (sym (register_below s es)) (E13.agrees_live s made (cell_entries es) m a live) in
      subst (λ (p : Option Position). In (record { number = m; assignment = a; position = p }) (cells_of (placed_after s es))) (position_is m)
      (in_placed 0 (live_cells r) ps m a rising (omega (arith, few, positions_long s made es)) stands).1

  -- they are assigned as the laws ask
  pub cells_assigned : Assigned (cells_of (placed_after s es))
  cells_assigned c i = may_assign c.assignment (latest_limits s.whole_mhz_from (cell_entries es) c.number c.assignment (cell_said c i).0)

  abbrev cells : List PlacedCell
  cells = cells_of (placed_after s es)

  -- ---- a conflict with one of them is a conflict with the cell that the entries say, and back
  named_in_conflict : (q : Question) (n m : ℕ) → Named q n cells m → InConflict s es q n m
  named_in_conflict q n m k =
      let said = cell_said k.cell k.live in
      let here : k.cell ≡ said_cell s es m k.cell.assignment =
      ap₂ (λ (x : ℕ) (p : Option Position). record { number = x; assignment = k.cell.assignment; position = p }) k.number (said.1
      ∙ ap (latest_position s es) k.number) in
      record {
        assignment = k.cell.assignment;
        live = subst (λ (x : ℕ). LiveWith s es x k.cell.assignment) k.number said.0;
        conflict = subst (λ (c : PlacedCell). Conflict q n c) here k.conflict;
      }

  taken_in_conflict : (q : Question) (n : ℕ) → CarrierTaken q n cells → SomeInConflict s es q n
  taken_in_conflict q n t =
      record {
        cell = t.cell.number;
        conflict = named_in_conflict q n t.cell.number (record { cell = t.cell; live = t.live; number = refl; conflict = t.conflict });
      }

  in_conflict_taken : (q : Question) (n m : ℕ) → InConflict s es q n m → CarrierTaken q n cells
  in_conflict_taken q n m k =
      record { cell = said_cell s es m k.assignment; live = said_is_live m k.assignment k.live; conflict = k.conflict }

  -- ==== "list the cells, by number, that overlap the carrier and lie within the distance of the position": exactly those, by the entries alone
  module _ (n : ℕ) (q : Question) (places : List ℕ) (m : ℕ) where
    pub listed_in_conflict : In m (numbers_listed (conflicts_of s (cells_of (placed_after s es)) n q places)) → InConflict s es q n m
    listed_in_conflict i = named_in_conflict q n m (listed_conflicts s cells n q places cells_assigned m i)

    pub in_conflict_listed : QuestionWithinLimits q → MayAssign n q.width → InConflict s es q n m
        → In m (numbers_listed (conflicts_of s (cells_of (placed_after s es)) n q places))
    in_conflict_listed limits may k =
        conflicts_listed s cells n q places made limits may (said_cell s es m k.assignment) (said_is_live m k.assignment k.live) k.conflict

  -- ==== "Given a range of carrier numbers, give the lowest that conflicts with none."
  module _ (first last : ℕ) (q : Question) where
    pub lowest_in_entries : (n : ℕ) → first_free s (cells_of (placed_after s es)) first last q ≡ Ok n → LowestFree s es q first last n
    lowest_in_entries n e =
        let l = free_lowest s cells first last q cells_assigned n e in
        record {
          from = l.from;
          to = l.to;
          free = λ m k. (let t = in_conflict_taken q n m k in l.free t.cell t.live t.conflict);
          lower = λ k least less. taken_in_conflict q k (l.lower k least less);
        }

    -- "22, no carrier in the range is free, given only if every one conflicts"
    pub none_free_in_entries : refusal_number_of (first_free s (cells_of (placed_after s es)) first last q) ≡ 22 → (k : ℕ) → first ≤ k → k ≤ last
        → SomeInConflict s es q k
    none_free_in_entries e k least most = taken_in_conflict q k (free_22_all_taken s cells first last q cells_assigned e k least most)

    -- and back, of a question within its limits
    module _ (limits : QuestionWithinLimits q) (low : MayAssign first q.width) (high : MayAssign last q.width) where
      pub in_entries_lowest : (n : ℕ) → LowestFree s es q first last n → first_free s (cells_of (placed_after s es)) first last q ≡ Ok n
      in_entries_lowest n l =
          lowest_free_lem s cells first last q made limits low high cells_assigned n
          (record {
            from = l.from;
            to = l.to;
            free = λ c live k. l.free c.number (named_in_conflict q n c.number (record { cell = c; live = live; number = refl; conflict = k }));
            lower = λ k least less. (let some = l.lower k least less in in_conflict_taken q k some.cell some.conflict);
          })

      pub in_entries_none_free : ((k : ℕ) → first ≤ k → k ≤ last → SomeInConflict s es q k)
          → refusal_number_of (first_free s (cells_of (placed_after s es)) first last q) ≡ 22
      in_entries_none_free all =
          all_taken_is_22 s cells first last q made limits low high
          (λ k least most. (let some = all k least most in in_conflict_taken q k some.cell some.conflict))

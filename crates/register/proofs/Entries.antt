-- Entries alone: what one entry more does to the latest of each cell and to the number of assigned cells.
-- Assumes nothing.
use mathlib.Core.Path.{◌≡◌, refl, sym, ap, ◌∙◌}
use mathlib.Core.Bool.{Bool, true, false, cond, ◌&&◌}
use mathlib.Core.List.{List, [], ◌∷◌}
use mathlib.Core.Logic.{◌⊎◌, inl, inr}
use Prim.Native.Nat.{ℕ, suc}
use lib.Dec.{eqb}
use borrow.Author.Tests.{eqb-true, eq-eqb}
use Rattle.basics.proofs.Tests.{either, not_both, fails}
use Rattle.register.specs.Taken.{is, is_assigned, among, named_cells, count_in, is_taken_given, latest, is_taken, live_cell_count}
use Rattle.register.specs.declared.CellEntry.{CellEntry}
use Rattle.register.proofs.Counting.{Distinct, named, named_distinct, named_among, named_keeps, count_same, count_named, count_more}

-- the cells named stand there once
distinct : (es : List CellEntry) → Distinct (named_cells es)
unfolding named_cells
distinct [] = tt
distinct (e ∷ before) = named_distinct e.cell (named_cells before) (distinct before)

-- a cell that no entry names is not assigned
unnamed : (es : List CellEntry) (n : ℕ) → among n (named_cells es) ≡ false → is_assigned (latest es n) ≡ false
unfolding named_cells latest
unnamed [] n h = refl
unnamed (e ∷ before) n h = go (either (eqb e.cell n)) (λ k. unnamed before n k)
  where
    go : (eqb e.cell n ≡ true) ⊎ (eqb e.cell n ≡ false) → (among n (named_cells before) ≡ false → is_assigned (latest before n) ≡ false)
        → is_assigned (latest (e ∷ before) n) ≡ false
    go (inl t) rest =
        let same : e.cell ≡ n = eqb-true e.cell n t in
        absurd (not_both (ap (λ (x : ℕ). among x (named e.cell (named_cells before))) (sym same) ∙ named_among e.cell (named_cells before)) h)
    go (inr t) rest =
        let off : among n (named_cells before) ≡ false = fails (λ k. not_both (named_keeps e.cell n (named_cells before) k) h) in
        simp t (neither (is_taken_given (latest before) before e) (rest off))
      where
        neither : (u : Bool) → is_assigned (latest before n) ≡ false → is_assigned (cond (u && false) (is e.change) (latest before n)) ≡ false
        neither true k = k
        neither false k = k

module _ (before : List CellEntry) (e : CellEntry) where
  abbrev f : ℕ → Bool
  f n = is_assigned (latest before n)

  abbrev g : ℕ → Bool
  g n = is_assigned (latest (e ∷ before) n)

  -- the cells named with the entry's
  count_before : count_in f (named_cells (e ∷ before)) ≡ live_cell_count before
  unfolding named_cells
  count_before = count_named f e.cell (named_cells before) (unnamed before e.cell)

  -- an entry that is not taken
  module _ (left : is_taken before e ≡ false) where
    pub latest_kept : (n : ℕ) → latest (e ∷ before) n ≡ latest before n
    unfolding latest
    latest_kept n = ap (λ (t : Bool). cond (t && eqb e.cell n) (is e.change) (latest before n)) left

    pub live_kept : live_cell_count (e ∷ before) ≡ live_cell_count before
    live_kept = count_same g f (λ n. ap is_assigned (latest_kept n)) (named_cells (e ∷ before)) ∙ count_before

  -- an entry that is taken
  module _ (took : is_taken before e ≡ true) where
    latest_taken : (n : ℕ) → latest (e ∷ before) n ≡ cond (eqb e.cell n) (is e.change) (latest before n)
    unfolding latest
    latest_taken n = ap (λ (t : Bool). cond (t && eqb e.cell n) (is e.change) (latest before n)) took

    -- of its own cell it is the latest, of the others the latest is as before
    pub latest_own : (n : ℕ) → eqb e.cell n ≡ true → latest (e ∷ before) n ≡ is e.change
    latest_own n t = latest_taken n ∙ simp t

    pub latest_other : (n : ℕ) → eqb e.cell n ≡ false → latest (e ∷ before) n ≡ latest before n
    latest_other n t = latest_taken n ∙ simp t

    others : (m : ℕ) → eqb e.cell m ≡ false → f m ≡ g m
    others m t = sym (ap is_assigned (latest_other m t))

    own : (t : Bool) → is_assigned (is e.change) ≡ t → g e.cell ≡ t
    own t h = ap is_assigned (latest_own e.cell (eq-eqb e.cell e.cell refl)) ∙ h

    among_named : among e.cell (named_cells (e ∷ before)) ≡ true
    unfolding named_cells
    among_named = named_among e.cell (named_cells before)

    -- a new cell is assigned
    pub live_more : is_assigned (is e.change) ≡ true → is_assigned (latest before e.cell) ≡ false → live_cell_count (e ∷ before) ≡ suc (live_cell_count before)
    live_more assigns new =
        count_more f g e.cell others new (own true assigns) (named_cells (e ∷ before)) (distinct (e ∷ before)) among_named ∙ ap suc count_before

    -- an assigned cell is assigned again
    pub live_same : is_assigned (is e.change) ≡ true → is_assigned (latest before e.cell) ≡ true → live_cell_count (e ∷ before) ≡ live_cell_count before
    live_same assigns old = count_same g f (λ n. go n (either (eqb e.cell n))) (named_cells (e ∷ before)) ∙ count_before
      where
        go : (n : ℕ) → (eqb e.cell n ≡ true) ⊎ (eqb e.cell n ≡ false) → g n ≡ f n
        go n (inl t) = let same : e.cell ≡ n = eqb-true e.cell n t in ap g (sym same) ∙ own true assigns ∙ sym old ∙ ap f same
        go n (inr t) = sym (others n t)

    -- an assigned cell is released
    pub live_less : is_assigned (is e.change) ≡ false → is_assigned (latest before e.cell) ≡ true → live_cell_count before ≡ suc (live_cell_count (e ∷ before))
    live_less releases old =
        sym count_before
        ∙ count_more g f e.cell (λ m t. sym (others m t)) (own false releases) old (named_cells (e ∷ before)) (distinct (e ∷ before)) among_named

-- To E6's register an entry that gives 23 is one that gives 14: its slot is seen, and nothing else changes. So a list of entries under the rule of whole
-- MHz is to E6 the list in which those entries stand without a width, and what E6 says of every list is said of this one.
-- Assumes nothing.
use mathlib.Core.Path.{◌≡◌, refl, sym, ap, ap₂, fun_ext, ◌∙◌}
use mathlib.Core.Bool.{Bool, true, false, cond, ◌&&◌, not}
use mathlib.Core.List.{List, [], ◌∷◌, map}
use Prim.Native.Nat.{ℕ}
use lib.Dec.{eqb}
use Rattle.basics.proofs.Tests.{not_both, fails, and_left, and_right}
use Rattle.register.specs.Taken.{Latest, is, is_assigned, slot_within_limit, above, is_later, later_entries, change_within_limits, is_assignment, is_release, named_cells, count_in, entry_number_given, is_taken_given, latest, is_taken, tally, makes, supersedes, is_taken_release, figures_of, live_cell_count}
use Rattle.register.specs.declared.CellEntry.{CellEntry}
use Rattle.register.specs.declared.Change.TheVariants.{Assign}
use Rattle.register.specs.declared.Figures.{Figures}
use Rattle.group_register.specs.WholeMhz.{is_odd}
use Rattle.group_register.specs.GroupTaken.{group_number_given, group_latest, is_group_taken, group_makes, group_supersedes, group_releases, group_figures, group_live_count}

-- an assignment without a width
abbrev pub without_width : CellEntry → CellEntry
without_width e = record { slot = e.slot; cell = e.cell; change = Assign (record { carrier = 0; width = 0 }) }

-- no 14 comes before the 23
abbrev pub odd_within_limits : ℕ → CellEntry → Bool
odd_within_limits from e = change_within_limits e.change && is_odd from e

abbrev pub bound_entry : ℕ → CellEntry → CellEntry
bound_entry from e = cond (odd_within_limits from e) (without_width e) e

abbrev pub bound_entries : ℕ → List CellEntry → List CellEntry
bound_entries from es = map (bound_entry from) es

-- the slot's 2, an older slot, and then that number
abbrev pub behind_slot : CellEntry → List CellEntry → ℕ → ℕ
behind_slot e before k = cond (not (slot_within_limit e.slot)) 2 (cond (not (above e.slot before)) 64 k)

module _ (from : ℕ) where
  pub bound_slot : (e : CellEntry) → (bound_entry from e).slot ≡ e.slot
  bound_slot e = go (odd_within_limits from e)
    where
      go : (t : Bool) → (cond t (without_width e) e).slot ≡ e.slot
      go true = refl
      go false = refl

  bound_cell : (e : CellEntry) → (bound_entry from e).cell ≡ e.cell
  bound_cell e = go (odd_within_limits from e)
    where
      go : (t : Bool) → (cond t (without_width e) e).cell ≡ e.cell
      go true = refl
      go false = refl

  -- slots and cells are as they were
  pub above_bound : (slot : ℕ) (es : List CellEntry) → above slot (bound_entries from es) ≡ above slot es
  unfolding above
  above_bound slot [] = refl
  above_bound slot (e ∷ es) = simp (bound_slot e, above_bound slot es)

  named_bound : (es : List CellEntry) → named_cells (bound_entries from es) ≡ named_cells es
  unfolding named_cells
  named_bound [] = refl
  named_bound (e ∷ es) = simp (bound_cell e, named_bound es)

  -- ---- the number of an entry
  module _ (latest : ℕ → Latest) (before : List CellEntry) (e : CellEntry) where
    -- every other entry has E6's number
    pub number_plain : odd_within_limits from e ≡ false → entry_number_given latest (bound_entries from before) e ≡ group_number_given from latest before e
    unfolding entry_number_given group_number_given
    number_plain h = simp (above_bound, named_bound) (ap (behind_slot e before) (go (change_within_limits e.change) (is_odd from e) _ h))
      where
        go : (t u : Bool) (k : ℕ) → (t && u) ≡ false → cond (not t) 14 k ≡ cond (not t) 14 (cond u 23 k)
        go true true k z = absurd (not_both refl z)
        go true false k z = refl
        go false u k z = refl

    pub number_odd : odd_within_limits from e ≡ true → group_number_given from latest before e ≡ behind_slot e before 23
    unfolding group_number_given
    number_odd h = simp (and_left (change_within_limits e.change) (is_odd from e) h, and_right (change_within_limits e.change) (is_odd from e) h)

    -- the entry without a width has 14 in the place of 23
    number_without_width : entry_number_given latest (bound_entries from before) (without_width e) ≡ behind_slot e before 14
    unfolding entry_number_given
    number_without_width = simp above_bound

    -- so both are taken, or neither
    pub taken_bound : is_taken_given latest (bound_entries from before) (bound_entry from e) ≡ eqb (group_number_given from latest before e) 0
    unfolding is_taken_given
    taken_bound = go (odd_within_limits from e) refl
      where
        not_zero : (t u : Bool) → eqb (cond t 2 (cond u 64 14)) 0 ≡ eqb (cond t 2 (cond u 64 23)) 0
        not_zero true u = refl
        not_zero false true = refl
        not_zero false false = refl

        go : (t : Bool) → odd_within_limits from e ≡ t
            → eqb (entry_number_given latest (bound_entries from before) (cond t (without_width e) e)) 0 ≡ eqb (group_number_given from latest before e) 0
        go true h =
            ap (λ (k : ℕ). eqb k 0) number_without_width ∙ not_zero (not (slot_within_limit e.slot)) (not (above e.slot before))
            ∙ ap (λ (k : ℕ). eqb k 0) (sym (number_odd h))
        go false h = ap (λ (k : ℕ). eqb k 0) (number_plain h)

    -- an entry that gives 23 is not taken, and one that is taken stands in both lists
    pub odd_not_taken : odd_within_limits from e ≡ true → eqb (group_number_given from latest before e) 0 ≡ false
    odd_not_taken h = ap (λ (k : ℕ). eqb k 0) (number_odd h) ∙ go (not (slot_within_limit e.slot)) (not (above e.slot before))
      where
        go : (t u : Bool) → eqb (cond t 2 (cond u 64 23)) 0 ≡ false
        go true u = refl
        go false true = refl
        go false false = refl

    pub taken_kept : eqb (group_number_given from latest before e) 0 ≡ true → bound_entry from e ≡ e
    taken_kept took = ap (λ (t : Bool). cond t (without_width e) e) (fails (λ h. not_both took (odd_not_taken h)))

  -- ---- the latest of each cell
  module _ (e : CellEntry) (before : List CellEntry) (rest : latest (bound_entries from before) ≡ group_latest from before) where
    taken_more : is_taken (bound_entries from before) (bound_entry from e) ≡ is_group_taken from before e
    taken_more =
        ap (λ (l : ℕ → Latest). is_taken_given l (bound_entries from before) (bound_entry from e)) rest ∙ taken_bound (group_latest from before) before e

    latest_more : (n : ℕ) (t : Bool) → is_group_taken from before e ≡ t → latest (bound_entries from (e ∷ before)) n ≡ group_latest from (e ∷ before) n
    unfolding latest group_latest
    latest_more n true h =
        ap₂ (λ (u : Bool) (x : CellEntry). cond (u && eqb x.cell n) (is x.change) (latest (bound_entries from before) n)) (taken_more ∙ h)
        (taken_kept (group_latest from before) before e h)
        ∙ ap (λ (l : ℕ → Latest). cond (eqb e.cell n) (is e.change) (l n)) rest
        ∙ sym (ap (λ (u : Bool). cond (u && eqb e.cell n) (is e.change) (group_latest from before n)) h)
    latest_more n false h =
        ap (λ (u : Bool). cond (u && eqb (bound_entry from e).cell n) (is (bound_entry from e).change) (latest (bound_entries from before) n)) (taken_more ∙ h)
        ∙ ap (λ (l : ℕ → Latest). l n) rest
        ∙ sym (ap (λ (u : Bool). cond (u && eqb e.cell n) (is e.change) (group_latest from before n)) h)

  pub latest_bound : (es : List CellEntry) → latest (bound_entries from es) ≡ group_latest from es
  unfolding latest group_latest
  latest_bound [] = refl
  latest_bound (e ∷ before) = fun_ext (λ n. latest_more e before (latest_bound before) n (is_group_taken from before e) refl)

  module _ (before : List CellEntry) (e : CellEntry) where
    pub is_taken_bound : is_taken (bound_entries from before) (bound_entry from e) ≡ is_group_taken from before e
    is_taken_bound = taken_more e before (latest_bound before)

    -- a test of what is taken
    taken_and : (f : CellEntry → Bool) → (is_taken (bound_entries from before) (bound_entry from e) && f (bound_entry from e)) ≡ (is_group_taken from before e && f e)
    taken_and f = go (is_group_taken from before e) refl
      where
        go : (t : Bool) → is_group_taken from before e ≡ t
            → (is_taken (bound_entries from before) (bound_entry from e) && f (bound_entry from e)) ≡ (is_group_taken from before e && f e)
        go true h =
            ap₂ (λ (u : Bool) (x : CellEntry). u && f x) (is_taken_bound ∙ h) (taken_kept (group_latest from before) before e h)
            ∙ sym (ap (λ (u : Bool). u && f e) h)
        go false h = ap (λ (u : Bool). u && f (bound_entry from e)) (is_taken_bound ∙ h) ∙ sym (ap (λ (u : Bool). u && f e) h)

    makes_bound : makes (bound_entries from before) (bound_entry from e) ≡ group_makes from before e
    makes_bound = taken_and (λ x. is_assignment x.change)

    releases_bound : is_taken_release (bound_entries from before) (bound_entry from e) ≡ group_releases from before e
    releases_bound = taken_and (λ x. is_release x.change)

    supersedes_bound : supersedes (bound_entries from before) (bound_entry from e) ≡ group_supersedes from before e
    supersedes_bound =
        ap₂ (λ (a b : Bool). a && b) makes_bound (ap₂ (λ (l : ℕ → Latest) (n : ℕ). is_assigned (l n)) (latest_bound before) (bound_cell e))

  -- ---- the report's figures
  tally_bound : (test other : List CellEntry → CellEntry → Bool)
      → ((before : List CellEntry) (e : CellEntry) → test (bound_entries from before) (bound_entry from e) ≡ other before e)
      → (es : List CellEntry) → tally test (bound_entries from es) ≡ tally other es
  unfolding tally
  tally_bound test other same [] = refl
  tally_bound test other same (e ∷ es) = simp (same es e, tally_bound test other same es)

  pub figures_bound : (es : List CellEntry) → figures_of (bound_entries from es) ≡ group_figures from es
  figures_bound es =
      ap (λ (x : ℕ). figures x (tally supersedes (bound_entries from es)) (tally is_taken_release (bound_entries from es))) (tally_bound makes (group_makes from) makes_bound es)
      ∙ ap (λ (x : ℕ). figures (tally (group_makes from) es) x (tally is_taken_release (bound_entries from es))) (tally_bound supersedes (group_supersedes from) supersedes_bound es)
      ∙ ap (λ (x : ℕ). figures (tally (group_makes from) es) (tally (group_supersedes from) es) x) (tally_bound is_taken_release (group_releases from) releases_bound es)
    where
      figures : ℕ → ℕ → ℕ → Figures
      figures m s r = record { made = m; superseded = s; released = r }

  pub live_count_bound : (es : List CellEntry) → live_cell_count (bound_entries from es) ≡ group_live_count from es
  live_count_bound es = ap₂ (λ (l : ℕ → Latest) (ns : List ℕ). count_in (λ n. is_assigned (l n)) ns) (latest_bound es) (named_bound es)

  -- ---- slot order
  pub later_bound : (es : List CellEntry) → later_entries (bound_entries from es) ≡ bound_entries from (later_entries es)
  unfolding later_entries
  later_bound [] = refl
  later_bound (e ∷ before) = simp (bound_slot e, above_bound e.slot before) (go (later_bound before) (is_later before e))
    where
      go : later_entries (bound_entries from before) ≡ bound_entries from (later_entries before) → (t : Bool)
          → cond t (bound_entry from e ∷ later_entries (bound_entries from before)) (later_entries (bound_entries from before))
          ≡ bound_entries from (cond t (e ∷ later_entries before) (later_entries before))
      go rest true = ap (λ (l : List CellEntry). bound_entry from e ∷ l) rest
      go rest false = rest

-- What E11 says of positions after any list of entries, from a new register of group settings: which number an entry has, which position a cell has, that
-- a position adds to no figure, and that equal entries leave equal registers.
-- Assumes nothing.
use mathlib.Core.Path.{◌≡◌, refl, sym, ap, ap₂, ◌∙◌}
use mathlib.Core.Bool.{Bool, true, false, cond, ◌&&◌, ◌||◌, not}
use mathlib.Core.List.{List, [], ◌∷◌}
use mathlib.Core.Logic.{◌⊎◌, inl, inr}
use Prim.Native.Nat.{ℕ, zero, suc, ◌≤◌, ◌<◌}
use native.Mathlib.Omega.{arith}
use lib.Dec.{ltb, leb, eqb}
use lib.IntN.{ℤ, pos, negsuc}
use lib.ListN.{length, get_or, set, replicate}
use borrow.Author.Tests.{ltb-true, ltb-false, leb-false, le-leb, lt-leb, le-ltb, lt-ltb, eq-eqb}
use Rattle.std.specs.Prelude.{Option, Some, None, Ok, Err, unsigned_abs}
use Rattle.basics.proofs.Tests.{either, not_both, and_both}
use Rattle.register.specs.Cells.{has_number, is_live_cell, cell_place}
use Rattle.register.specs.Register.{new_register, live_cells, slot_seen, older, entry_refused, apply_change, apply}
use Rattle.register.specs.History.{register_after}
use Rattle.register.specs.Taken.{Latest, never, is, is_assigned, slot_within_limit, above, latest}
use Rattle.register.specs.declared.CellEntry.{CellEntry}
use Rattle.register.specs.declared.Change.TheVariants.{Assign, Release}
use Rattle.register.specs.declared.Entered.TheVariants.{Done, Older}
use Rattle.register.specs.declared.EntryRefusal.TheVariants.{NumberTooLarge, CellNotLive}
use Rattle.register.specs.declared.Register.{Register}
use Rattle.register.proofs.Agreement.{RegisterAgrees, standing}
use Rattle.register.proofs.Cells.{live_look_up}
use Rattle.register.proofs.Laws as E6
use Rattle.group_register.specs.Settings.{unmade_by, settings_refusal, is_made}
use Rattle.group_register.specs.WholeMhz.{is_odd}
use Rattle.group_register.specs.GroupRegister.{group_register, group_applied, group_outcome_number, change_assignable, gives_odd_width, as_register, apply_made, apply_in_group}
use Rattle.group_register.specs.GroupHistory.{group_after}
use Rattle.group_register.specs.declared.GroupApplied.{GroupApplied}
use Rattle.group_register.specs.declared.GroupRefusal.TheVariants.{Unmade, OddWidth, AsRegister}
use Rattle.group_register.specs.declared.GroupRegister.{GroupRegister}
use Rattle.group_register.specs.declared.RegisterSettings.{RegisterSettings}
use Rattle.group_register.proofs.Mapped.{bound_entries, above_bound, latest_bound}
use Rattle.group_register.proofs.GroupLaws as E13
use Rattle.positions.specs.Grid.{within_grid}
use Rattle.positions.specs.Placed.{register_with_positions, without_positions, new_placed, position_of, placed_applied, positioned, with_seen, position_refused, give_position, apply_cell, apply_position, apply_entry}
use Rattle.positions.specs.PlacedTaken.{cell_entry, cell_entries, is_beyond, is_outside, assigned_in, position_number, entry_number_for, entry_is_taken, cell_named, position_said, latest_position, is_later_entry, later_placed, placed_after}
use Rattle.positions.specs.declared.PlacedEntry.{PlacedEntry}
use Rattle.positions.specs.declared.PlacedEntry.TheVariants.{OfCell, OfPosition}
use Rattle.positions.specs.declared.PlacedApplied.{PlacedApplied}
use Rattle.positions.specs.declared.PlacedRegister.{PlacedRegister}
use Rattle.positions.specs.declared.Position.{Position}
use Rattle.positions.specs.declared.PositionEntry.{PositionEntry}
use Rattle.positions.specs.declared.PositionRefusal.TheVariants.{OutsideGrid, AsGroup}
use Rattle.positions.proofs.Steps.{placed_number, same_outcome_number, position_group, Beside, cell_beside, position_beside}

-- a slot that is not within the limit is above it
not_leb : (a b : ℕ) → ltb a b ≡ not (leb b a)
not_leb a b = go (ltb a b) refl
  where
    go : (t : Bool) → ltb a b ≡ t → t ≡ not (leb b a)
    go true h = sym (ap not (lt-leb b a (ltb-true a b h)))
    go false h = sym (ap not (le-leb b a (ltb-false a b h)))

-- ---- the limits that the code tests, without the sign, are those of document 02
beyond_limit : (x : ℤ) → not (leb (unsigned_abs x) 2000000) ≡ is_beyond x
beyond_limit (pos n) = sym (not_leb 2000000 n) ∙ none (ltb 2000000 n)
  where
    none : (t : Bool) → t ≡ (t || false)
    none true = refl
    none false = refl
beyond_limit (negsuc n) = sym (not_leb 2000000 (suc n)) ∙ go (ltb 1999999 n) refl
  where
    go : (t : Bool) → ltb 1999999 n ≡ t → ltb 2000000 (suc n) ≡ t
    go true e = lt-ltb 2000000 (suc n) (omega (arith, ltb-true 1999999 n e))
    go false e = le-ltb 2000000 (suc n) (omega (arith, ltb-false 1999999 n e))

pub outside_grid : (p : Position) → not (within_grid p) ≡ is_outside p
unfolding within_grid
outside_grid p =
    either_not (leb (unsigned_abs p.x) 2000000) (leb (unsigned_abs p.y) 2000000)
    ∙ ap₂ (λ (a b : Bool). a || b) (beyond_limit p.x) (beyond_limit p.y)
  where
    either_not : (a b : Bool) → not (a && b) ≡ (not a || not b)
    either_not true b = refl
    either_not false b = refl

-- ---- the register below sees of a position its slot alone
pub entry_below : (p : PlacedRegister) (e : PlacedEntry) → (apply_entry p e).placed.group ≡ (apply_in_group p.group (cell_entry e)).group
unfolding apply_entry apply_cell
entry_below p (OfCell e) = refl
entry_below p (OfPosition e) = position_group p.group.settings p.group.register e p.positions

module _ (s : RegisterSettings) where
  -- so it is that of the entries of cells: E6 and E13 hold of it, and the report is as before
  pub register_below : (es : List PlacedEntry) → (placed_after s es).group ≡ group_after s (cell_entries es)
  unfolding placed_after group_after
  register_below [] = refl
  register_below (e ∷ before) =
      entry_below (placed_after s before) e ∙ ap (λ (g : GroupRegister). (apply_in_group g (cell_entry e)).group) (register_below before)

  -- ---- a register that is made
  module _ (made : is_made s ≡ true) where
    abbrev slot : ℕ
    slot = s.whole_mhz_from

    abbrev below : List PlacedEntry → Register
    below es = register_after (bound_entries slot (cell_entries es))

    pub group_is : (es : List PlacedEntry) → (placed_after s es).group ≡ group_register s (below es)
    group_is es = register_below es ∙ E13.after_mapped s made (cell_entries es)

    live_is : (es : List PlacedEntry) (n : ℕ) → is_live_cell n (live_cells (below es)) ≡ assigned_in s es n
    live_is es n =
        live_look_up n (live_cells (below es)) ∙ ap is_assigned ((E6.register_agrees entries).held n) ∙ same (latest entries n)
        ∙ ap (λ (l : ℕ → Latest). is_assigned (l n)) (latest_bound slot (cell_entries es))
      where
        entries : List CellEntry
        entries = bound_entries slot (cell_entries es)

        same : (l : Latest) → is_assigned (standing l) ≡ is_assigned l
        same never = refl
        same (is (Assign a)) = refl
        same (is Release) = refl

    -- ---- the number of a position is the one that the entries say
    position_outcome : (before : List PlacedEntry) (ps : List (Option Position)) (e : PositionEntry)
        → placed_number (apply_position (register_with_positions (group_register s (below before)) ps) e).outcome ≡ position_number s before e
    unfolding apply_position give_position position_number
    position_outcome before ps e =
        ap (λ (m : Bool). placed_number (chain m large old outside live).outcome) made
        ∙ by_tests large old (within_grid e.position) live
        ∙ ap (λ (t : Bool). cond t 2 (cond old 64 (cond outside 21 (cond live 0 16)))) (not_leb 9223372036854775806 e.slot)
        ∙ ap (λ (u : Bool). cond (not (slot_within_limit e.slot)) 2 (cond u 64 (cond outside 21 (cond live 0 16)))) is_old
        ∙ ap (λ (l : Bool). cond (not (slot_within_limit e.slot)) 2 (cond (not (above e.slot (cell_entries before))) 64 (cond outside 21 (cond l 0 16))))
        (live_is before e.cell)
        ∙ ap (λ (k : ℕ). cond (not (slot_within_limit e.slot)) 2 (cond (not (above e.slot (cell_entries before))) 64 (cond outside 21 k)))
        (swap (assigned_in s before e.cell))
        ∙ ap (λ (u : Bool). cond (not (slot_within_limit e.slot)) 2
        (cond (not (above e.slot (cell_entries before))) 64 (cond u 21 (cond (not (assigned_in s before e.cell)) 16 0))))
        (outside_grid e.position)
      where
        r : Register
        r = below before

        g : GroupRegister
        g = group_register s r

        large : Bool
        large = ltb 9223372036854775806 e.slot

        old : Bool
        old = ltb e.slot r.next_slot

        outside : Bool
        outside = not (within_grid e.position)

        live : Bool
        live = is_live_cell e.cell (live_cells r)

        given : List (Option Position)
        given = set ps (cell_place e.cell (live_cells r)) (Some e.position)

        chain : Bool → Bool → Bool → Bool → Bool → PlacedApplied
        chain m t u w l =
            cond (not m) (position_refused g ps (AsGroup (Unmade (unmade_by s))))
            (cond t (position_refused g ps (AsGroup (AsRegister NumberTooLarge)))
            (cond u (placed_applied g ps (Ok Older))
            (cond w (position_refused (with_seen e.slot g) ps OutsideGrid)
            (cond l (placed_applied (with_seen e.slot g) given (Ok Done)) (position_refused (with_seen e.slot g) ps (AsGroup (AsRegister CellNotLive)))))))

        by_tests : (t u w l : Bool) → placed_number (chain true t u (not w) l).outcome ≡ cond t 2 (cond u 64 (cond (not w) 21 (cond l 0 16)))
        by_tests true u w l = refl
        by_tests false true w l = refl
        by_tests false false false l = refl
        by_tests false false true true = refl
        by_tests false false true false = refl

        is_old : old ≡ not (above e.slot (cell_entries before))
        is_old =
            not_leb e.slot r.next_slot
            ∙ ap not (sym (sym (above_bound slot e.slot (cell_entries before)) ∙ (E6.register_agrees (bound_entries slot (cell_entries before))).slots e.slot))

        swap : (l : Bool) → ◌≡◌ {A = ℕ} (cond l 0 16) (cond (not l) 16 0)
        swap true = refl
        swap false = refl

    whole : (es : List PlacedEntry) → placed_after s es ≡ register_with_positions (group_register s (below es)) (placed_after s es).positions
    whole es = ap (λ (g : GroupRegister). register_with_positions g (placed_after s es).positions) (group_is es)

    number_made : (before : List PlacedEntry) (e : PlacedEntry) → placed_number (apply_entry (placed_after s before) e).outcome ≡ entry_number_for s before e
    unfolding apply_entry apply_cell entry_number_for
    number_made before (OfCell e) =
        same_outcome_number (apply_in_group (placed_after s before).group e).outcome
        ∙ ap (λ (g : GroupRegister). group_outcome_number (apply_in_group g e).outcome) (register_below before)
        ∙ E13.number_given_lem s (cell_entries before) e
    number_made before (OfPosition e) =
        ap (λ (p : PlacedRegister). placed_number (apply_position p e).outcome) (whole before)
        ∙ position_outcome before (placed_after s before).positions e
        ∙ ap (λ (m : Bool). cond m (position_number s before e) (settings_refusal s)) (sym made)

    -- ---- the position of each cell is the one that the entries say
    record Standing (es : List PlacedEntry) : Type 0 where
      long : length (placed_after s es).positions ≡ 512
      each : (n : ℕ) → position_of (placed_after s es) n ≡ latest_position s es n

    module _ (before : List PlacedEntry) (standing_before : Standing before) where
      abbrev r : Register
      r = below before

      abbrev ps : List (Option Position)
      ps = (placed_after s before).positions

      agreeing : RegisterAgrees (bound_entries slot (cell_entries before)) r
      agreeing = E6.register_agrees (bound_entries slot (cell_entries before))

      abbrev Behind : PlacedEntry → PlacedApplied → Type 0
      Behind e x =
          Beside s r ps agreeing.places agreeing.fits agreeing.rising standing_before.long x (cell_named e) (eqb (placed_number x.outcome) 0) (position_said e)

      behind : (e : PlacedEntry) → Behind e (apply_entry (register_with_positions (group_register s r) ps) e)
      unfolding apply_entry
      behind (OfCell e) = cell_beside s r ps agreeing.places agreeing.fits agreeing.rising standing_before.long e
      behind (OfPosition e) = position_beside s r ps agreeing.places agreeing.fits agreeing.rising standing_before.long e

      one_more : (e : PlacedEntry) → Standing (e ∷ before)
      unfolding placed_after latest_position
      one_more e =
          record {
            long = ap (λ (p : PlacedRegister). length (apply_entry p e).placed.positions) (whole before) ∙ (behind e).still_long;
            each = λ n. (
                ap (λ (p : PlacedRegister). position_of (apply_entry p e).placed n) (whole before) ∙ (behind e).each n
                ∙ ap₂ (λ (t : Bool) (held : Option Position). cond (t && eqb (cell_named e) n) (position_said e held) held) taken
                (ap (λ (p : PlacedRegister). position_of p n) (sym (whole before)) ∙ standing_before.each n));
          }
        where
          taken : eqb (placed_number (apply_entry (register_with_positions (group_register s r) ps) e).outcome) 0 ≡ entry_is_taken s before e
          taken = ap (λ (k : ℕ). eqb k 0) (ap (λ (p : PlacedRegister). placed_number (apply_entry p e).outcome) (sym (whole before)) ∙ number_made before e)

    all_standing : (es : List PlacedEntry) → Standing es
    unfolding placed_after latest_position position_of has_number
    all_standing [] = record { long = refl; each = λ n. refl }
    all_standing (e ∷ before) = one_more before (all_standing before) e

    pub positions_long : (es : List PlacedEntry) → length (placed_after s es).positions ≡ 512
    positions_long es = (all_standing es).long

    -- ---- an entry of a slot above the limit, or not after the last one seen, does nothing
    large_applied : (g : Register) (e : CellEntry) → ltb 9223372036854775806 e.slot ≡ true
        → apply_in_group (group_register s g) e ≡ as_register s (entry_refused NumberTooLarge g)
    unfolding apply_made gives_odd_width apply
    large_applied g e h =
        E13.applied_made s made g e
        ∙ ap (λ (t : Bool). cond t (group_applied s (slot_seen e.slot g) (Err OddWidth)) (as_register s (apply g e))) not_odd
        ∙ ap (λ (t : Bool). as_register s
        (cond t (entry_refused NumberTooLarge g) (cond (ltb e.slot g.next_slot) (older g) (apply_change e.change e.cell (slot_seen e.slot g))))) h
      where
        not_odd : gives_odd_width s.whole_mhz_from g.next_slot e ≡ false
        not_odd =
            ap (λ (t : Bool). is_odd s.whole_mhz_from e && t && leb g.next_slot e.slot && change_assignable e.change)
            (lt-leb e.slot 9223372036854775806 (ltb-true 9223372036854775806 e.slot h)) ∙ none (is_odd s.whole_mhz_from e)
          where
            none : (a : Bool) → (a && false && leb g.next_slot e.slot && change_assignable e.change) ≡ false
            none true = refl
            none false = refl

    left_cell : (r : Register) (ps : List (Option Position)) (e : CellEntry) → (leb e.slot 9223372036854775806 && leb r.next_slot e.slot) ≡ false
        → (apply_cell (register_with_positions (group_register s r) ps) e).placed ≡ register_with_positions (group_register s r) ps
    unfolding apply_cell
    left_cell r ps e h = go (ltb 9223372036854775806 e.slot) refl
      where
        stays : (x : GroupApplied) → apply_in_group (group_register s r) e ≡ x
            → (positioned (register_with_positions (group_register s r) ps) e x).placed ≡ register_with_positions (group_register s r) ps
            → (positioned (register_with_positions (group_register s r) ps) e (apply_in_group (group_register s r) e)).placed ≡ register_with_positions (group_register s r) ps
        stays x same stay = ap (λ (y : GroupApplied). (positioned (register_with_positions (group_register s r) ps) e y).placed) same ∙ stay

        go : (t : Bool) → ltb 9223372036854775806 e.slot ≡ t
            → (positioned (register_with_positions (group_register s r) ps) e (apply_in_group (group_register s r) e)).placed ≡ register_with_positions (group_register s r) ps
        go true k = stays _ (large_applied r e k) refl
        go false k = stays _ (E13.older_applied s made r e within (older_slot (le-leb e.slot 9223372036854775806 within))) refl
          where
            within : e.slot ≤ 9223372036854775806
            within = ltb-false 9223372036854775806 e.slot k

            older_slot : leb e.slot 9223372036854775806 ≡ true → e.slot < r.next_slot
            older_slot t = leb-false r.next_slot e.slot (simp t at h)

    left_position : (r : Register) (ps : List (Option Position)) (e : PositionEntry) → (leb e.slot 9223372036854775806 && leb r.next_slot e.slot) ≡ false
        → (apply_position (register_with_positions (group_register s r) ps) e).placed ≡ register_with_positions (group_register s r) ps
    unfolding apply_position
    left_position r ps e h =
        go (ltb 9223372036854775806 e.slot) (not_leb 9223372036854775806 e.slot) (ltb e.slot r.next_slot) (not_leb e.slot r.next_slot) (is_made s)
      where
        given : PlacedApplied
        given = give_position (with_seen e.slot (group_register s r)) ps e

        go : (t : Bool) → t ≡ not (leb e.slot 9223372036854775806) → (u : Bool) → u ≡ not (leb r.next_slot e.slot) → (m : Bool)
            → (cond (not m) (position_refused (group_register s r) ps (AsGroup (Unmade (unmade_by s))))
            (cond t (position_refused (group_register s r) ps (AsGroup (AsRegister NumberTooLarge)))
            (cond u (placed_applied (group_register s r) ps (Ok Older)) given))).placed ≡ register_with_positions (group_register s r) ps
        go t p u q false = refl
        go true p u q true = refl
        go false p true q true = refl
        go false p false q true = absurd (not_both (and_both (yes (leb e.slot 9223372036854775806) p) (yes (leb r.next_slot e.slot) q)) h)
          where
            yes : (a : Bool) → false ≡ not a → a ≡ true
            yes true k = refl
            yes false k = k

    left_made : (before : List PlacedEntry) (e : PlacedEntry) → is_later_entry before e ≡ false → (apply_entry (placed_after s before) e).placed ≡ placed_after s before
    unfolding apply_entry
    left_made before e h = ap (λ (p : PlacedRegister). (apply_entry p e).placed) (whole before) ∙ go e slots ∙ sym (whole before)
      where
        ps : List (Option Position)
        ps = (placed_after s before).positions

        slots : (leb (cell_entry e).slot 9223372036854775806 && leb (below before).next_slot (cell_entry e).slot) ≡ false
        slots =
            ap (λ (t : Bool). slot_within_limit (cell_entry e).slot && t)
            (sym (sym (above_bound slot (cell_entry e).slot (cell_entries before)) ∙ (E6.register_agrees (bound_entries slot (cell_entries before))).slots
            (cell_entry e).slot)) ∙ h

        go : (e : PlacedEntry) → (leb (cell_entry e).slot 9223372036854775806 && leb (below before).next_slot (cell_entry e).slot) ≡ false
            → (apply_entry (register_with_positions (group_register s (below before)) ps) e).placed ≡ register_with_positions (group_register s (below before)) ps
        go (OfCell e) k = left_cell (below before) ps e k
        go (OfPosition e) k = left_position (below before) ps e k

  -- ---- a register that is not made: every entry gives its number, and nothing changes
  module _ (unmade : is_made s ≡ false) where
    unmade_entry : (r : Register) (ps : List (Option Position)) (e : PlacedEntry)
        → apply_entry (register_with_positions (group_register s r) ps) e ≡ placed_applied (group_register s r) ps (Err (AsGroup (Unmade (unmade_by s))))
    unfolding apply_entry apply_cell apply_position
    unmade_entry r ps (OfCell e) = ap (λ (x : GroupApplied). positioned (register_with_positions (group_register s r) ps) e x) (E13.unmade_left s unmade r e)
    unmade_entry r ps (OfPosition e) = simp unmade

    unmade_after : (es : List PlacedEntry) → placed_after s es ≡ new_placed s
    unfolding placed_after
    unmade_after [] = refl
    unmade_after (e ∷ before) =
        ap (λ (p : PlacedRegister). (apply_entry p e).placed) (unmade_after before)
        ∙ ap (λ (x : PlacedApplied). x.placed) (unmade_entry new_register (replicate 512 None) e)

    unmade_number : (before : List PlacedEntry) (e : PlacedEntry) → entry_number_for s before e ≡ settings_refusal s
    unfolding entry_number_for
    unmade_number before (OfCell e) = simp unmade
    unmade_number before (OfPosition e) = simp unmade

    no_position : (es : List PlacedEntry) (n : ℕ) → latest_position s es n ≡ None
    unfolding latest_position
    no_position [] n = refl
    no_position (e ∷ before) n =
        ap (λ (k : ℕ). cond (eqb k 0 && eqb (cell_named e) n) (position_said e (latest_position s before n)) (latest_position s before n))
        (unmade_number before e)
        ∙ ap (λ (t : Bool). cond (t && eqb (cell_named e) n) (position_said e (latest_position s before n)) (latest_position s before n)) unmade
        ∙ no_position before n

  -- ==== of every register
  -- an entry's number is the one that the settings and the entries say: of a position 2, older, 21, then 16
  pub number_given_lem : (before : List PlacedEntry) (e : PlacedEntry) → placed_number (apply_entry (placed_after s before) e).outcome ≡ entry_number_for s before e
  number_given_lem before e = go (either (is_made s))
    where
      go : (is_made s ≡ true) ⊎ (is_made s ≡ false) → placed_number (apply_entry (placed_after s before) e).outcome ≡ entry_number_for s before e
      go (inl m) = number_made m before e
      go (inr u) =
          ap (λ (p : PlacedRegister). placed_number (apply_entry p e).outcome) (unmade_after u before)
          ∙ ap (λ (x : PlacedApplied). placed_number x.outcome) (unmade_entry u new_register (replicate 512 None) e)
          ∙ sym (unmade_number u before e ∙ E13.unmade_number_lem s u)

  -- the position of a cell is the one that the entries say: a release drops it, an assignment keeps it, a position sets it
  pub position_given : (es : List PlacedEntry) (n : ℕ) → position_of (placed_after s es) n ≡ latest_position s es n
  unfolding position_of has_number
  position_given es n = go (either (is_made s))
    where
      go : (is_made s ≡ true) ⊎ (is_made s ≡ false) → position_of (placed_after s es) n ≡ latest_position s es n
      go (inl m) = (all_standing m es).each n
      go (inr u) = ap (λ (p : PlacedRegister). position_of p n) (unmade_after u es) ∙ sym (no_position u es n)

  -- reading a position back gives the one that was set
  pub read_back : (before : List PlacedEntry) (e : PositionEntry) → entry_is_taken s before (OfPosition e) ≡ true
      → position_of (placed_after s (OfPosition e ∷ before)) e.cell ≡ Some e.position
  unfolding latest_position
  read_back before e taken = position_given (OfPosition e ∷ before) e.cell ∙ simp (taken, eq-eqb e.cell e.cell refl)

  -- "Two offices given equal entries in slot order, whatever repeats or older ones stand between, hold equal registers", positions and all
  left_alone : (before : List PlacedEntry) (e : PlacedEntry) → is_later_entry before e ≡ false → (apply_entry (placed_after s before) e).placed ≡ placed_after s before
  left_alone before e h = go (either (is_made s))
    where
      go : (is_made s ≡ true) ⊎ (is_made s ≡ false) → (apply_entry (placed_after s before) e).placed ≡ placed_after s before
      go (inl m) = left_made m before e h
      go (inr u) =
          ap (λ (p : PlacedRegister). (apply_entry p e).placed) (unmade_after u before)
          ∙ ap (λ (x : PlacedApplied). x.placed) (unmade_entry u new_register (replicate 512 None) e) ∙ sym (unmade_after u before)

  by_later : (es : List PlacedEntry) → placed_after s es ≡ placed_after s (later_placed es)
  unfolding placed_after later_placed
  by_later [] = refl
  by_later (e ∷ before) = go (is_later_entry before e) refl (by_later before)
    where
      go : (t : Bool) → is_later_entry before e ≡ t → placed_after s before ≡ placed_after s (later_placed before)
          → (apply_entry (placed_after s before) e).placed ≡ placed_after s (cond t (e ∷ later_placed before) (later_placed before))
      go true h rest = ap (λ (p : PlacedRegister). (apply_entry p e).placed) rest
      go false h rest = left_alone before e h ∙ rest

  pub equal_placed : (one other : List PlacedEntry) → later_placed one ≡ later_placed other → placed_after s one ≡ placed_after s other
  equal_placed one other h = by_later one ∙ ap (placed_after s) h ∙ sym (by_later other)

-- "adds to no figure of the report", and leaves the cells: at most the slot is seen
pub only_seen : (p : PlacedRegister) (e : PositionEntry)
    → ((apply_position p e).placed.group.register ≡ p.group.register) ⊎ ((apply_position p e).placed.group.register ≡ slot_seen e.slot p.group.register)
unfolding apply_position give_position
only_seen p e =
    go (is_made p.group.settings) (ltb 9223372036854775806 e.slot) (ltb e.slot p.group.register.next_slot) (within_grid e.position)
    (is_live_cell e.cell (live_cells p.group.register))
  where
    g : GroupRegister
    g = p.group

    ps : List (Option Position)
    ps = p.positions

    h : GroupRegister
    h = with_seen e.slot g

    given : List (Option Position)
    given = set ps (cell_place e.cell (live_cells g.register)) (Some e.position)

    Goal : PlacedApplied → Type 0
    Goal x = (x.placed.group.register ≡ g.register) ⊎ (x.placed.group.register ≡ slot_seen e.slot g.register)

    go : (m t u w l : Bool)
        → Goal (cond (not m) (position_refused g ps (AsGroup (Unmade (unmade_by g.settings))))
        (cond t (position_refused g ps (AsGroup (AsRegister NumberTooLarge)))
        (cond u (placed_applied g ps (Ok Older))
        (cond (not w) (position_refused h ps OutsideGrid)
        (cond l (placed_applied h given (Ok Done)) (position_refused h ps (AsGroup (AsRegister CellNotLive))))))))
    go false t u w l = inl refl
    go true true u w l = inl refl
    go true false true w l = inl refl
    go true false false false l = inr refl
    go true false false true true = inr refl
    go true false false true false = inr refl

-- the cells of a stored register (E7) have no position when it is read
pub no_positions : (g : GroupRegister) (n : ℕ) → position_of (without_positions g) n ≡ None
unfolding position_of
no_positions g n = go (is_live_cell n (live_cells g.register)) (none 512 (cell_place n (live_cells g.register)))
  where
    row : List (Option Position)
    row = replicate 512 None

    none : (k i : ℕ) → get_or (replicate {A = Option Position} k None) i None ≡ None
    none zero i = refl
    none (suc k) zero = refl
    none (suc k) (suc i) = none k i

    go : (t : Bool) → get_or row (cell_place n (live_cells g.register)) None ≡ None
        → cond t (get_or row (cell_place n (live_cells g.register)) None) None ≡ None
    go true e = e
    go false e = refl

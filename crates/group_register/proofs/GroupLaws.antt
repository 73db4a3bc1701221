-- What E13 says of a register after any list of entries, from a new one of group settings: the laws of E6, at the list in which entries that give 23 stand
-- without a width (Mapped.antt), said in E13's words. The definitions of specs/GroupTaken.antt know the entries and the slot alone.
-- Assumes nothing.
use mathlib.Core.Path.{◌≡◌, refl, sym, ap, ap₂, subst, ◌∙◌}
use mathlib.Core.Bool.{Bool, true, false, cond, ◌&&◌, not}
use mathlib.Core.List.{List, [], ◌∷◌, ◌++◌, reverse_aux}
use Prim.Native.Nat.{ℕ, ◌+◌, ◌≤◌, ◌<◌}
use native.Mathlib.Omega.{arith}
use lib.Dec.{ltb, leb, eqb}
use lib.ListN.{length}
use borrow.Author.Tests.{ltb-true, ltb-false, leb-true, le-leb, lt-leb, lt-ltb, le-ltb, ne_eqb}
use Rattle.basics.specs.Lists.{In}
use Rattle.basics.proofs.Tests.{not_both, fails, and_left, and_right, of-both}
use Rattle.raster.specs.Raster.{frequency_of}
use Rattle.register.specs.Cells.{cell_of}
use Rattle.register.specs.History.{register_after}
use Rattle.register.specs.Register.{new_register, live_cells, assignable, slot_seen, older, entry_refused, assign, apply_change, apply}
use Rattle.register.specs.Taken.{Latest, is, is_assigned, slot_within_limit, above, change_within_limits, is_assignment, is_release, assigned_cells, later_entries, entry_number_given}
use Rattle.register.specs.declared.Assignment.{Assignment}
use Rattle.register.specs.declared.CellEntry.{CellEntry}
use Rattle.register.specs.declared.Change.{Change}
use Rattle.register.specs.declared.Change.TheVariants.{Assign, Release}
use Rattle.std.specs.Prelude.{Result, Ok, Err}
use Rattle.register.specs.Refusals.{entry_number}
use Rattle.register.specs.declared.Entered.{Entered}
use Rattle.register.specs.declared.Entered.TheVariants.{Done}
use Rattle.register.specs.declared.EntryRefusal.{EntryRefusal}
use Rattle.register.specs.declared.EntryRefusal.TheVariants.{NumberTooLarge, NotAssignable}
use Rattle.register.specs.declared.Register.{Register}
use Rattle.register.proofs.Agreement.{within_limits_lem}
use Rattle.register.proofs.Laws as E6
use Rattle.register.specs.report.Report.{refusal_text, page_holding, page_with}
use Rattle.register.proofs.report.Counted.{report_counted}
use Rattle.group_register.specs.Settings.{unmade_number, unmade_by, settings_refusal, is_made}
use Rattle.group_register.specs.WholeMhz.{in_whole_mhz, is_odd}
use Rattle.group_register.specs.GroupRegister.{group_register, new_group_register, group_applied, group_outcome_number, in_group, change_assignable, gives_odd_width, as_register, apply_made, apply_in_group, group_page}
use Rattle.group_register.specs.GroupTaken.{group_number_given, group_latest, group_number_for, number_in_group, is_group_taken, group_figures, group_live_count}
use Rattle.group_register.specs.GroupHistory.{group_after, apply_all_in_group, AllBefore, NoneTakenOf}
use Rattle.group_register.specs.declared.GroupApplied.{GroupApplied}
use Rattle.group_register.specs.declared.GroupRefusal.{GroupRefusal}
use Rattle.group_register.specs.declared.GroupRefusal.TheVariants.{Unmade, OddWidth}
use Rattle.group_register.specs.declared.GroupRegister.{GroupRegister}
use Rattle.group_register.specs.declared.RegisterSettings.{RegisterSettings}
use Rattle.group_register.specs.declared.UnmadeBy.{UnmadeBy}
use Rattle.group_register.specs.declared.UnmadeBy.TheVariants.{OutsideLimits, NotInCalendar}
use Rattle.group_register.proofs.Mapped.{without_width, odd_within_limits, bound_entry, bound_entries, above_bound, number_plain, number_odd, odd_not_taken, taken_kept, is_taken_bound, latest_bound, figures_bound, live_count_bound, later_bound}

-- an outcome of E6 has the number that it has there
in_group_number : (o : Result Entered EntryRefusal) → group_outcome_number (in_group o) ≡ entry_number o
in_group_number (Ok entered) = refl
in_group_number (Err why) = refl

-- ---- one entry, to any register
limits_agree : (c : Change) → change_assignable c ≡ change_within_limits c
limits_agree (Assign a) = sym (within_limits_lem a)
limits_agree Release = refl

leb_ltb : (a b : ℕ) → leb a b ≡ not (ltb b a)
leb_ltb a b = go (ltb b a) refl
  where
    go : (t : Bool) → ltb b a ≡ t → leb a b ≡ not t
    go true h = lt-leb a b (ltb-true b a h)
    go false h = le-leb a b (ltb-false b a h)

-- what gives 23 has a slot within the limit
pub odd_slot : (from next : ℕ) (e : CellEntry) → gives_odd_width from next e ≡ true → e.slot ≤ 9223372036854775806
unfolding gives_odd_width
odd_slot from next e h =
    leb-true e.slot 9223372036854775806 (go (is_odd from e) (leb e.slot 9223372036854775806) (leb next e.slot) (change_assignable e.change) h)
  where
    go : (o a b t : Bool) → (o && a && b && t) ≡ true → a ≡ true
    go true true b t k = refl
    go true false b t k = k
    go false a b t k = absurd (not_both k refl)

-- so that there is a slot after it
pub odd_slot_seen : (from next : ℕ) (e : CellEntry) (odd : Bool) → odd ≡ gives_odd_width from next e → odd ≡ true → e.slot < 18446744073709551615
odd_slot_seen from next e odd given h = let within = odd_slot from next e (sym given ∙ h) in omega arith

-- the slot's 2, an older slot, and then what is left
abbrev slot_first : RegisterSettings → Register → ℕ → GroupApplied → GroupApplied
slot_first s r slot a =
    cond (ltb 9223372036854775806 slot) (as_register s (entry_refused NumberTooLarge r)) (cond (ltb slot r.next_slot) (as_register s (older r)) a)

module _ (s : RegisterSettings) (r : Register) (e : CellEntry) where
  abbrev from : ℕ
  from = s.whole_mhz_from

  plain_applied : odd_within_limits from e ≡ false → apply_made s r e ≡ as_register s (apply r e)
  unfolding apply_made gives_odd_width
  plain_applied h = simp (limits_agree, go (is_odd from e) (leb e.slot 9223372036854775806) (leb r.next_slot e.slot) (change_within_limits e.change) h)
    where
      go : (o a b t : Bool) → (t && o) ≡ false → (o && a && b && t) ≡ false
      go true true true true h = h
      go true true true false h = refl
      go true true false t h = refl
      go true false b t h = refl
      go false a b t h = refl

  odd_gives : odd_within_limits from e ≡ true → gives_odd_width from r.next_slot e ≡ (not (ltb 9223372036854775806 e.slot) && not (ltb e.slot r.next_slot))
  unfolding gives_odd_width
  odd_gives h =
      go (is_odd from e) (leb e.slot 9223372036854775806) (leb r.next_slot e.slot) (change_assignable e.change)
      (and_right (change_within_limits e.change) (is_odd from e) h) (limits_agree e.change ∙ and_left (change_within_limits e.change) (is_odd from e) h)
      ∙ ap₂ (λ (a b : Bool). a && b) (leb_ltb e.slot 9223372036854775806) (leb_ltb r.next_slot e.slot)
    where
      go : (o a b t : Bool) → o ≡ true → t ≡ true → (o && a && b && t) ≡ (a && b)
      go true true true t p q = q
      go true true false t p q = refl
      go true false b t p q = refl
      go false a b t p q = absurd (not_both p refl)

  odd_applied : odd_within_limits from e ≡ true → apply_made s r e ≡ slot_first s r e.slot (group_applied s (slot_seen e.slot r) (Err OddWidth))
  unfolding apply_made apply
  odd_applied h =
      ap (λ (t : Bool). cond t (group_applied s (slot_seen e.slot r) (Err OddWidth)) (as_register s (apply r e))) (odd_gives h)
      ∙ go (ltb 9223372036854775806 e.slot) (ltb e.slot r.next_slot)
    where
      go : (t u : Bool)
          → cond (not t && not u) (group_applied s (slot_seen e.slot r) (Err OddWidth))
          (as_register s (cond t (entry_refused NumberTooLarge r) (cond u (older r) (apply_change e.change e.cell (slot_seen e.slot r)))))
          ≡ cond t (as_register s (entry_refused NumberTooLarge r)) (cond u (as_register s (older r)) (group_applied s (slot_seen e.slot r) (Err OddWidth)))
      go true u = refl
      go false true = refl
      go false false = refl

  without_width_applied : as_register s (apply r (without_width e)) ≡ slot_first s r e.slot (as_register s (entry_refused NotAssignable (slot_seen e.slot r)))
  unfolding apply apply_change assign assignable frequency_of
  without_width_applied = go (ltb 9223372036854775806 e.slot) (ltb e.slot r.next_slot)
    where
      go : (t u : Bool)
          → as_register s (cond t (entry_refused NumberTooLarge r) (cond u (older r) (entry_refused NotAssignable (slot_seen e.slot r))))
          ≡ cond t (as_register s (entry_refused NumberTooLarge r)) (cond u (as_register s (older r)) (as_register s (entry_refused NotAssignable (slot_seen e.slot r))))
      go true u = refl
      go false true = refl
      go false false = refl

  -- to E6's register it is the entry without a width
  pub entry_mapped : (apply_made s r e).group ≡ group_register s (apply r (bound_entry from e)).register
  entry_mapped = go (odd_within_limits from e) refl
    where
      both : (t u : Bool)
          → (cond t (as_register s (entry_refused NumberTooLarge r)) (cond u (as_register s (older r)) (group_applied s (slot_seen e.slot r) (Err OddWidth)))).group
          ≡ (cond t (as_register s (entry_refused NumberTooLarge r)) (cond u (as_register s (older r)) (as_register s (entry_refused NotAssignable (slot_seen e.slot r))))).group
      both true u = refl
      both false true = refl
      both false false = refl

      go : (t : Bool) → odd_within_limits from e ≡ t → (apply_made s r e).group ≡ group_register s (apply r (cond t (without_width e) e)).register
      go true h =
          ap (λ (a : GroupApplied). a.group) (odd_applied h) ∙ both (ltb 9223372036854775806 e.slot) (ltb e.slot r.next_slot)
          ∙ sym (ap (λ (a : GroupApplied). a.group) without_width_applied)
      go false h = ap (λ (a : GroupApplied). a.group) (plain_applied h)

  older_made : e.slot ≤ 9223372036854775806 → e.slot < r.next_slot → apply_made s r e ≡ as_register s (older r)
  unfolding apply_made gives_odd_width apply
  older_made h k =
      simp (lt-leb r.next_slot e.slot k, neither (is_odd from e && leb e.slot 9223372036854775806), le-ltb 9223372036854775806 e.slot h, lt-ltb e.slot r.next_slot k)
    where
      neither : (t : Bool) → (t && false) ≡ false
      neither true = refl
      neither false = refl

-- ---- a register that is made
module _ (s : RegisterSettings) (made : is_made s ≡ true) where
  abbrev slot : ℕ
  slot = s.whole_mhz_from

  pub applied_made : (r : Register) (e : CellEntry) → apply_in_group (group_register s r) e ≡ apply_made s r e
  unfolding apply_in_group
  applied_made r e = simp made

  -- an older entry does nothing
  pub older_applied : (r : Register) (e : CellEntry) → e.slot ≤ 9223372036854775806 → e.slot < r.next_slot → apply_in_group (group_register s r) e ≡ as_register s (older r)
  older_applied r e h k =
      applied_made r e ∙ older_made s r e h k

  -- the register below is E6's, after the list in which the entries that give 23 stand without a width
  pub after_mapped : (es : List CellEntry) → group_after s es ≡ group_register s (register_after (bound_entries slot es))
  unfolding group_after register_after
  after_mapped [] = refl
  after_mapped (e ∷ before) =
      ap (λ (g : GroupRegister). (apply_in_group g e).group) (after_mapped before)
      ∙ ap (λ (a : GroupApplied). a.group) (applied_made (register_after (bound_entries slot before)) e)
      ∙ entry_mapped s (register_after (bound_entries slot before)) e

  pub register_after_lem : (es : List CellEntry) → (group_after s es).register ≡ register_after (bound_entries slot es)
  register_after_lem es = ap (λ (g : GroupRegister). g.register) (after_mapped es)

  number_made : (before : List CellEntry) (e : CellEntry) → group_outcome_number (apply_in_group (group_after s before) e).outcome ≡ group_number_for slot before e
  number_made before e =
      ap (λ (g : GroupRegister). group_outcome_number (apply_in_group g e).outcome) (after_mapped before)
      ∙ ap (λ (a : GroupApplied). group_outcome_number a.outcome) (applied_made r e)
      ∙ go (odd_within_limits slot e) refl
    where
      mapped : List CellEntry
      mapped = bound_entries slot before

      r : Register
      r = register_after mapped

      news : not (above e.slot before) ≡ ltb e.slot r.next_slot
      news = ap not (sym (above_bound slot e.slot before) ∙ (E6.register_agrees mapped).slots e.slot ∙ leb_ltb r.next_slot e.slot) ∙ twice (ltb e.slot r.next_slot)
        where
          twice : (t : Bool) → not (not t) ≡ t
          twice true = refl
          twice false = refl

      go : (t : Bool) → odd_within_limits slot e ≡ t → group_outcome_number (apply_made s r e).outcome ≡ group_number_for slot before e
      go true h =
          ap (λ (a : GroupApplied). group_outcome_number a.outcome) (odd_applied s r e h)
          ∙ both (ltb 9223372036854775806 e.slot) (ltb e.slot r.next_slot)
          ∙ ap₂ (λ (t u : Bool). cond t 2 (cond u 64 23)) limit (sym news)
          ∙ sym (number_odd slot (group_latest slot before) before e h)
        where
          limit : ltb 9223372036854775806 e.slot ≡ not (slot_within_limit e.slot)
          limit = sym (ap not (leb_ltb e.slot 9223372036854775806) ∙ twice (ltb 9223372036854775806 e.slot))
            where
              twice : (t : Bool) → not (not t) ≡ t
              twice true = refl
              twice false = refl

          both : (t u : Bool)
              → group_outcome_number (cond t (as_register s (entry_refused NumberTooLarge r)) (cond u (as_register s (older r)) (group_applied s (slot_seen e.slot r) (Err OddWidth)))).outcome
              ≡ cond t 2 (cond u 64 23)
          both true u = refl
          both false true = refl
          both false false = refl
      go false h =
          ap (λ (a : GroupApplied). group_outcome_number a.outcome) (plain_applied s r e h)
          ∙ in_group_number (apply (register_after mapped) e).outcome
          ∙ E6.number_given_lem mapped e
          ∙ ap (λ (l : ℕ → Latest). entry_number_given l mapped e) (latest_bound slot before)
          ∙ number_plain slot (group_latest slot before) before e h

  -- ---- an entry is done exactly where the entries say that it is taken
  module _ (before : List CellEntry) (e : CellEntry) where
    pub done_where_taken : is_group_taken slot before e ≡ true → (apply_in_group (group_after s before) e).outcome ≡ Ok Done
    done_where_taken took =
        let mapped = bound_entries slot before in
        let kept = taken_kept slot (group_latest slot before) before e took in
        let plain = fails (λ h. not_both took (odd_not_taken slot (group_latest slot before) before e h)) in
        let e6 = E6.done_where_taken mapped (bound_entry slot e) (is_taken_bound slot before e ∙ took) in
        ap (λ (g : GroupRegister). (apply_in_group g e).outcome) (after_mapped before)
        ∙ ap (λ (a : GroupApplied). a.outcome) (applied_made (register_after mapped) e ∙ plain_applied s (register_after mapped) e plain)
        ∙ ap in_group (sym (ap (λ (x : CellEntry). (apply (register_after mapped) x).outcome) kept) ∙ e6)

    pub taken_where_done : (apply_in_group (group_after s before) e).outcome ≡ Ok Done → is_group_taken slot before e ≡ true
    taken_where_done h = sym (ap (λ (k : ℕ). eqb k 0) (number_made before e)) ∙ ap (λ (o : Result Entered GroupRefusal). eqb (group_outcome_number o) 0) h

  -- ---- "Each figure is counted from the committed entries alone", "made equals the other three together"
  pub figures_counted : (es : List CellEntry) → (group_after s es).register.figures ≡ group_figures slot es
  figures_counted es = ap (λ (r : Register). r.figures) (register_after_lem es) ∙ E6.figures_counted (bound_entries slot es) ∙ figures_bound slot es

  pub adds_up : (es : List CellEntry)
      → (group_after s es).register.figures.made
      ≡ (group_after s es).register.figures.superseded + (group_after s es).register.figures.released + length (live_cells (group_after s es).register)
  adds_up es =
      subst (λ (r : Register). r.figures.made ≡ r.figures.superseded + r.figures.released + length (live_cells r)) (sym (register_after_lem es)) (E6.adds_up (bound_entries slot es))

  pub group_report_counted : (es : List CellEntry) → group_page (group_after s es) ≡ page_with (group_figures slot es) (group_live_count slot es)
  unfolding group_page
  group_report_counted es =
      ap group_page (after_mapped es) ∙ simp made (report_counted (bound_entries slot es) ∙ ap₂ page_with (figures_bound slot es) (live_count_bound slot es))

  -- ---- "live agrees with the register"
  module _ (es : List CellEntry) (n : ℕ) (a : Assignment) where
    pub live_agrees : In (cell_of n a) (live_cells (group_after s es).register) → group_latest slot es n ≡ is (Assign a)
    live_agrees h =
        sym (ap (λ (l : ℕ → Latest). l n) (latest_bound slot es))
        ∙ E6.live_agrees (bound_entries slot es) n a (subst (λ (r : Register). In (cell_of n a) (live_cells r)) (register_after_lem es) h)

    pub agrees_live : group_latest slot es n ≡ is (Assign a) → In (cell_of n a) (live_cells (group_after s es).register)
    agrees_live h =
        subst (λ (r : Register). In (cell_of n a) (live_cells r)) (sym (register_after_lem es))
        (E6.agrees_live (bound_entries slot es) n a (ap (λ (l : ℕ → Latest). l n) (latest_bound slot es) ∙ h))

    -- "Earlier entries remain valid and keep their width in the register": whatever entries follow, none of them taken and of the cell
    pub width_kept : (more : List CellEntry) → NoneTakenOf slot n more es → In (cell_of n a) (live_cells (group_after s es).register)
        → group_latest slot (more ++ es) n ≡ is (Assign a)
    unfolding group_latest
    width_kept [] none h = live_agrees h
    width_kept (e ∷ more) none h = go (is_group_taken slot (more ++ es) e) refl (eqb e.cell n) refl (width_kept more none.1 h)
      where
        go : (t : Bool) → is_group_taken slot (more ++ es) e ≡ t → (u : Bool) → eqb e.cell n ≡ u → group_latest slot (more ++ es) n ≡ is (Assign a)
            → group_latest slot (e ∷ (more ++ es)) n ≡ is (Assign a)
        go true p true q rest = absurd (none.0 p q)
        go true p false q rest = ap₂ (λ (t u : Bool). cond (t && u) (is e.change) (group_latest slot (more ++ es) n)) p q ∙ rest
        go false p u q rest = ap (λ (t : Bool). cond (t && eqb e.cell n) (is e.change) (group_latest slot (more ++ es) n)) p ∙ rest

  -- ---- a list wholly before the slot gives what E6 gave
  early_plain : (e : CellEntry) → e.slot < slot → odd_within_limits slot e ≡ false
  unfolding is_odd
  early_plain e h = go (change_within_limits e.change) (lt-leb slot e.slot h)
    where
      go : (t : Bool) → leb slot e.slot ≡ false → (t && (leb slot e.slot && not (in_whole_mhz e.change))) ≡ false
      go true k = ap (λ (u : Bool). u && not (in_whole_mhz e.change)) k
      go false k = refl

  early_bound : (es : List CellEntry) → AllBefore slot es → bound_entries slot es ≡ es
  early_bound [] h = refl
  early_bound (e ∷ es) h = ap₂ (λ (t : Bool) (rest : List CellEntry). cond t (without_width e) e ∷ rest) (early_plain e h.0) (early_bound es h.1)

  -- the register
  pub early_as_before : (es : List CellEntry) → AllBefore slot es → (group_after s es).register ≡ register_after es
  early_as_before es h = register_after_lem es ∙ ap register_after (early_bound es h)

  -- and what becomes of each entry: done, older or refused as in E6, with E6's number
  module _ (before : List CellEntry) (e : CellEntry) (early : AllBefore slot (e ∷ before)) where
    pub early_answered : apply_in_group (group_after s before) e ≡ as_register s (apply (register_after before) e)
    early_answered =
        ap (λ (g : GroupRegister). apply_in_group g e) (after_mapped before)
        ∙ ap (λ (es : List CellEntry). apply_in_group (group_register s (register_after es)) e) (early_bound before early.1)
        ∙ applied_made (register_after before) e
        ∙ plain_applied s (register_after before) e (early_plain e early.0)

    pub early_number : group_outcome_number (apply_in_group (group_after s before) e).outcome ≡ entry_number (apply (register_after before) e).outcome
    early_number = ap (λ (a : GroupApplied). group_outcome_number a.outcome) early_answered ∙ in_group_number (apply (register_after before) e).outcome

-- ---- a register that is not made: every call gives its number, and nothing changes
pub unmade_number_lem : (s : RegisterSettings) → is_made s ≡ false → settings_refusal s ≡ unmade_number (unmade_by s)
unfolding settings_refusal
unmade_number_lem s h = go (eqb s.number 0) refl
  where
    go : (t : Bool) → eqb s.number 0 ≡ t → ◌≡◌ {A = ℕ} (cond t 0 (unmade_number (unmade_by s))) (unmade_number (unmade_by s))
    go true e = absurd (not_both (simp e) h)
    go false e = refl

-- 17 stays 17, and any other number but 0 is read as 1
pub seventeen_stays : (s : RegisterSettings) → s.number ≡ 17 → settings_refusal s ≡ 17
unfolding settings_refusal
seventeen_stays s e = simp e

pub others_read_as_1 : (s : RegisterSettings) → (s.number ≡ 0 → ⊥) → (s.number ≡ 17 → ⊥) → settings_refusal s ≡ 1
unfolding settings_refusal
others_read_as_1 s not-0 not-17 = simp (ne_eqb s.number 0 not-0, ne_eqb s.number 17 not-17)

module _ (s : RegisterSettings) (unmade : is_made s ≡ false) where
  pub unmade_left : (r : Register) (e : CellEntry) → apply_in_group (group_register s r) e ≡ group_applied s r (Err (Unmade (unmade_by s)))
  unfolding apply_in_group
  unmade_left r e = simp unmade

  -- "the report is the one line `refused,1` or `refused,17`"
  pub unmade_page : (r : Register) → group_page (group_register s r) ≡ page_holding (refusal_text (settings_refusal s))
  unfolding group_page
  unmade_page r = simp unmade

  unmade_after : (es : List CellEntry) → group_after s es ≡ new_group_register s
  unfolding group_after
  unmade_after [] = refl
  unmade_after (e ∷ before) =
      ap (λ (g : GroupRegister). (apply_in_group g e).group) (unmade_after before) ∙ ap (λ (a : GroupApplied). a.group) (unmade_left new_register e)

-- ---- every register of group settings
settings_stay : (g : GroupRegister) (e : CellEntry) → (apply_in_group g e).group.settings ≡ g.settings
unfolding apply_in_group apply_made
settings_stay g e =
    of-both Stays (is_made g.settings) (of-both Stays (gives_odd_width g.settings.whole_mhz_from g.register.next_slot e) refl refl) refl
  where
    Stays : GroupApplied → Type 0
    Stays a = a.group.settings ≡ g.settings

-- whether it is made, by the number that it keeps
pub made_number : (s : RegisterSettings) → eqb s.number 0 ≡ is_made s
unfolding settings_refusal
made_number s = go (eqb s.number 0) (unmade_by s)
  where
    go : (t : Bool) (why : UnmadeBy) → t ≡ eqb (cond t 0 (unmade_number why)) 0
    go true why = refl
    go false OutsideLimits = refl
    go false NotInCalendar = refl

module _ (s : RegisterSettings) where
  -- the number is what the settings and the entries say
  pub number_given_lem : (before : List CellEntry) (e : CellEntry) → group_outcome_number (apply_in_group (group_after s before) e).outcome ≡ number_in_group s before e
  number_given_lem before e = go (is_made s) refl
    where
      go : (t : Bool) → is_made s ≡ t
          → group_outcome_number (apply_in_group (group_after s before) e).outcome ≡ cond t (group_number_for s.whole_mhz_from before e) (settings_refusal s)
      go true h = number_made s h before e
      go false h =
          ap (λ (g : GroupRegister). group_outcome_number (apply_in_group g e).outcome) (unmade_after s h before)
          ∙ ap (λ (a : GroupApplied). group_outcome_number a.outcome) (unmade_left s h new_register e)
          ∙ sym (unmade_number_lem s h)

  -- "All offices hold the same slot, so registers still agree."
  pub equal_registers : (one other : List CellEntry) → later_entries one ≡ later_entries other → group_after s one ≡ group_after s other
  equal_registers one other h = go (is_made s) refl
    where
      from : ℕ
      from = s.whole_mhz_from

      go : (t : Bool) → is_made s ≡ t → group_after s one ≡ group_after s other
      go true m =
          after_mapped s m one
          ∙ ap (group_register s) (E6.equal_registers (bound_entries from one) (bound_entries from other) (later_bound from one ∙ ap (bound_entries from) h ∙ sym (later_bound from other)))
          ∙ sym (after_mapped s m other)
      go false u = unmade_after s u one ∙ sym (unmade_after s u other)

  -- the settings stay
  pub settings_after : (es : List CellEntry) → (group_after s es).settings ≡ s
  unfolding group_after
  settings_after [] = refl
  settings_after (e ∷ before) = settings_stay (group_after s before) e ∙ settings_after before

  -- a list in its order is the turned one, latest first
  pub group_in_order : (es before : List CellEntry) → apply_all_in_group (group_after s before) es ≡ group_after s (reverse_aux es before)
  unfolding apply_all_in_group group_after
  group_in_order [] before = refl
  group_in_order (e ∷ es) before = group_in_order es (e ∷ before)

-- ---- 23 exactly where document 02 says
pub odd_width_exactly : (from : ℕ) (before : List CellEntry) (e : CellEntry)
    → eqb (group_number_for from before e) 23 ≡ (slot_within_limit e.slot && above e.slot before && change_within_limits e.change && is_odd from e)
unfolding group_number_given
odd_width_exactly from before e =
    go (slot_within_limit e.slot) (above e.slot before) (change_within_limits e.change) (is_odd from e)
    (is_assignment e.change && not (is_assigned (latest e.cell)) && leb 512 (assigned_cells latest before))
    (is_release e.change && not (is_assigned (latest e.cell)))
  where
    latest : ℕ → Latest
    latest = group_latest from before

    go : (a b c d x y : Bool)
        → eqb (cond (not a) 2 (cond (not b) 64 (cond (not c) 14 (cond d 23 (cond x 15 (cond y 16 0)))))) 23 ≡ (a && b && c && d)
    go false b c d x y = refl
    go true false c d x y = refl
    go true true false d x y = refl
    go true true true true x y = refl
    go true true true false true y = refl
    go true true true false false true = refl
    go true true true false false false = refl

-- What a host may rely on of the arrays of a register of group settings: one that is not made stays in every number and gives its
-- own; after 1, 17, 2 and 64 every number is as it was, and after 14, 23, 15 and 16 the slot is seen and nothing else has changed; a kind that is neither
-- 1 nor 2 gives 14, behind 1, 17, 2 and 64; and the report is that of the register in the arrays.
-- Assumes nothing.
use mathlib.Core.Path.{◌≡◌, refl, sym, ap, ◌∙◌}
use mathlib.Core.Bool.{Bool, true, false, cond, ◌&&◌, ◌||◌, not}
use mathlib.Core.List.{List, [], ◌∷◌}
use Prim.Native.Nat.{ℕ, ◌+◌, ◌≤◌}
use lib.Dec.{ltb, leb, eqb}
use lib.ListN.{length, get_or, drop}
use Rattle.std.specs.Prelude.{Result, Ok, Err}
use Rattle.basics.proofs.Tests.{not_both, of-both}
use Rattle.register.specs.Cells.{is_live_cell}
use Rattle.register.specs.Refusals.{entry_number}
use Rattle.register.specs.Register.{live_places, live_cells, assignable, with_new_cell, with_superseded, with_released, slot_seen, done, older, entry_refused, assign, release, apply_change, apply}
use Rattle.register.specs.declared.Applied.{Applied}
use Rattle.register.specs.declared.Assignment.{Assignment}
use Rattle.register.specs.declared.CellEntry.{CellEntry}
use Rattle.register.specs.declared.Change.{Change}
use Rattle.register.specs.declared.Change.TheVariants.{Assign, Release}
use Rattle.register.specs.declared.Entered.{Entered}
use Rattle.register.specs.declared.Entered.TheVariants.{Done, Older}
use Rattle.register.specs.declared.EntryRefusal.{EntryRefusal}
use Rattle.register.specs.declared.EntryRefusal.TheVariants.{NumberTooLarge, NotAssignable, NoRoomForCell, CellNotLive}
use Rattle.register.specs.declared.Register.{Register}
use Rattle.register_arrays.specs.Columns.{HavePlaces, register_of, change_of, entry_from_numbers}
use Rattle.register_arrays.proofs.Laws.{leaves_all, register_left, same_arrays, other_kind}
use Rattle.group_register.specs.Settings.{unmade_number, unmade_by, settings_refusal, is_made}
use Rattle.group_register.specs.WholeMhz.{is_odd}
use Rattle.register.specs.report.Report.{refusal_text, page_holding, register_page}
use Rattle.register.specs.declared.report.ReportPage.{ReportPage}
use Rattle.group_register.specs.GroupRegister.{group_register, group_applied, group_outcome_number, in_group, change_assignable, gives_odd_width, as_register, apply_made, apply_in_group, group_page}
use Rattle.group_register.specs.declared.GroupApplied.{GroupApplied}
use Rattle.group_register.specs.declared.GroupRefusal.TheVariants.{Unmade, OddWidth}
use Rattle.group_register.specs.declared.GroupRegister.{GroupRegister}
use Rattle.group_register.specs.declared.RegisterSettings.{RegisterSettings}
use Rattle.group_register.specs.declared.UnmadeBy.{UnmadeBy}
use Rattle.group_register.proofs.GroupLaws.{unmade_left, unmade_number_lem}
use Rattle.register_arrays.specs.in_group.GroupColumns.{settings_in, group_in, after_group_entry, group_report_in}

-- ---- the numbers with which a register of group settings stays as it is, and those with which the slot is seen and nothing else has changed
abbrev pub group_leaves_all : ℕ → Bool
group_leaves_all k = eqb k 1 || eqb k 17 || leaves_all k

abbrev pub sees_slot_alone : ℕ → Bool
sees_slot_alone k = eqb k 14 || eqb k 23 || eqb k 15 || eqb k 16

-- E6's outcomes have no other numbers in a group
left_as_register : (o : Result Entered EntryRefusal) → group_leaves_all (group_outcome_number (in_group o)) ≡ leaves_all (entry_number o)
left_as_register (Ok Done) = refl
left_as_register (Ok Older) = refl
left_as_register (Err NumberTooLarge) = refl
left_as_register (Err NotAssignable) = refl
left_as_register (Err NoRoomForCell) = refl
left_as_register (Err CellNotLive) = refl

number_as_register : (o : Result Entered EntryRefusal) → group_outcome_number (in_group o) ≡ entry_number o
number_as_register (Ok entered) = refl
number_as_register (Err why) = refl

-- E6's register
abbrev AsRefused : Register → Applied → Type 0
AsRefused s x = sees_slot_alone (entry_number x.outcome) ≡ true → x.register ≡ s

module _ (s : Register) (n : ℕ) where
  refused_assign : (a : Assignment) → AsRefused s (assign s n a)
  unfolding assign
  refused_assign a = go (not (assignable a)) (is_live_cell n (live_cells s)) (leb 512 (live_places s))
    where
      go : (t u v : Bool)
          → AsRefused s (cond t (entry_refused NotAssignable s) (cond u (done (with_superseded n a s)) (cond v (entry_refused NoRoomForCell s) (done (with_new_cell n a s)))))
      go true u v h = refl
      go false true v h = absurd (not_both h refl)
      go false false true h = refl
      go false false false h = absurd (not_both h refl)

  refused_release : AsRefused s (release s n)
  unfolding release
  refused_release = go (is_live_cell n (live_cells s))
    where
      go : (t : Bool) → AsRefused s (cond t (done (with_released n s)) (entry_refused CellNotLive s))
      go true h = absurd (not_both h refl)
      go false h = refl

  refused_change : (x : Change) → AsRefused s (apply_change x n s)
  unfolding apply_change
  refused_change (Assign a) = refused_assign a
  refused_change Release = refused_release

register_seen : (r : Register) (e : CellEntry) → AsRefused (slot_seen e.slot r) (apply r e)
unfolding apply
register_seen r e = go (ltb 9223372036854775806 e.slot) (ltb e.slot r.next_slot)
  where
    go : (t u : Bool)
        → AsRefused (slot_seen e.slot r) (cond t (entry_refused NumberTooLarge r) (cond u (older r) (apply_change e.change e.cell (slot_seen e.slot r))))
    go true u h = absurd (not_both h refl)
    go false true h = absurd (not_both h refl)
    go false false h = refused_change (slot_seen e.slot r) e.cell e.change h

-- the register of group settings, by value
module _ (g : GroupRegister) (e : CellEntry) where
  abbrev chosen : Bool → Bool → GroupApplied
  chosen t u =
      cond t (cond u (group_applied g.settings (slot_seen e.slot g.register) (Err OddWidth)) (as_register g.settings (apply g.register e)))
      (group_applied g.settings g.register (Err (Unmade (unmade_by g.settings))))

  group_left : group_leaves_all (group_outcome_number (apply_in_group g e).outcome) ≡ true → (apply_in_group g e).group ≡ g
  unfolding apply_in_group apply_made
  group_left = go (is_made g.settings) (gives_odd_width g.settings.whole_mhz_from g.register.next_slot e)
    where
      go : (t u : Bool) → group_leaves_all (group_outcome_number (chosen t u).outcome) ≡ true → (chosen t u).group ≡ g
      go true true h = absurd (not_both h refl)
      go true false h =
          ap (group_register g.settings) (register_left g.register e (sym (left_as_register (apply g.register e).outcome) ∙ h))
      go false u h = refl

  group_seen : sees_slot_alone (group_outcome_number (apply_in_group g e).outcome) ≡ true
      → (apply_in_group g e).group ≡ group_register g.settings (slot_seen e.slot g.register)
  unfolding apply_in_group apply_made
  group_seen = go (is_made g.settings) (gives_odd_width g.settings.whole_mhz_from g.register.next_slot e)
    where
      go : (t u : Bool) → sees_slot_alone (group_outcome_number (chosen t u).outcome) ≡ true
          → (chosen t u).group ≡ group_register g.settings (slot_seen e.slot g.register)
      go true true h = refl
      go true false h =
          ap (group_register g.settings) (register_seen g.register e (sym (ap sees_slot_alone (number_as_register (apply g.register e).outcome)) ∙ h))
      go false u h = absurd (not_both h (of-both (λ (why : UnmadeBy). sees_slot_alone (unmade_number why) ≡ false) (eqb g.settings.number 17) refl refl))

  taken_as_register : is_made g.settings ≡ true → gives_odd_width g.settings.whole_mhz_from g.register.next_slot e ≡ false
      → apply_in_group g e ≡ as_register g.settings (apply g.register e)
  unfolding apply_in_group apply_made
  taken_as_register made plain = simp (made, plain)

-- the arrays before a call, and after it
module _ (settings ns cs ws f ms ds vs g : List ℕ) (before : HavePlaces ns cs ws) (figures : length f ≡ 5) (after : HavePlaces ms ds vs) (figures' : length g ≡ 5) where
  pub unmade_arrays_left : is_made (settings_in settings) ≡ false → (e : CellEntry) (k : ℕ)
      → ◌≡◌ {A = GroupRegister × ℕ} (group_in settings ms ds vs g, k) (after_group_entry (group_in settings ns cs ws f) e)
      → ((ms ≡ ns) × (ds ≡ cs) × (vs ≡ ws) × (g ≡ f)) × (k ≡ settings_refusal (settings_in settings))
  unmade_arrays_left unmade e k h =
      let left = unmade_left (settings_in settings) unmade (register_of ns cs ws f) e in (
        same_arrays ns cs ws f ms ds vs g before figures after figures' (ap (λ (x : GroupRegister × ℕ). x.0.register) h ∙ ap (λ (a : GroupApplied). a.group.register) left),
        ap (λ (x : GroupRegister × ℕ). x.1) h ∙ ap (λ (a : GroupApplied). group_outcome_number a.outcome) left ∙ sym (unmade_number_lem (settings_in settings) unmade),
      )

  -- "After 1, 17, 2 and 64 every number is as it was"
  pub group_arrays_left : (e : CellEntry) (k : ℕ)
      → ◌≡◌ {A = GroupRegister × ℕ} (group_in settings ms ds vs g, k) (after_group_entry (group_in settings ns cs ws f) e) → group_leaves_all k ≡ true
      → (ms ≡ ns) × (ds ≡ cs) × (vs ≡ ws) × (g ≡ f)
  group_arrays_left e k h leaves =
      let number = ap (λ (x : GroupRegister × ℕ). x.1) h in
      same_arrays ns cs ws f ms ds vs g before figures after figures'
      (ap (λ (x : GroupRegister × ℕ). x.0.register) h
      ∙ ap (λ (x : GroupRegister). x.register) (group_left (group_in settings ns cs ws f) e (sym (ap group_leaves_all number) ∙ leaves)))

  -- "After 14, 23, 15 and 16 the slot is seen, and nothing else has changed"
  pub group_slot_alone : (e : CellEntry) (k : ℕ)
      → ◌≡◌ {A = GroupRegister × ℕ} (group_in settings ms ds vs g, k) (after_group_entry (group_in settings ns cs ws f) e) → sees_slot_alone k ≡ true
      → (ms ≡ ns) × (ds ≡ cs) × (vs ≡ ws) × (g ≡ (e.slot + 1) ∷ drop 1 f)
  group_slot_alone e k h seen =
      let number = ap (λ (x : GroupRegister × ℕ). x.1) h in
      let rest : List ℕ = get_or f 1 0 ∷ get_or f 2 0 ∷ get_or f 3 0 ∷ get_or f 4 0 ∷ [] in
      let five = same_arrays ns cs ws f ns cs ws (get_or f 0 0 ∷ rest) before figures before refl refl in
      let left =
      same_arrays ns cs ws ((e.slot + 1) ∷ rest) ms ds vs g before refl after figures'
      (ap (λ (x : GroupRegister × ℕ). x.0.register) h
      ∙ ap (λ (x : GroupRegister). x.register) (group_seen (group_in settings ns cs ws f) e (sym (ap sees_slot_alone number) ∙ seen))) in
      (left.0, left.1, left.2, left.3 ∙ ap (λ (l : List ℕ). (e.slot + 1) ∷ drop 1 l) five.3)

-- ---- another kind, of a register that is made: one that is not gives its own number
module _ (kind carrier width : ℕ) (one : eqb kind 1 ≡ false) (two : eqb kind 2 ≡ false) where
  other_change : change_of kind carrier width ≡ Assign (record { carrier = 0; width = 0 })
  unfolding change_of
  other_change = simp (one, two)

  other_not_odd : (from next slot cell : ℕ) → gives_odd_width from next (entry_from_numbers slot kind cell carrier width) ≡ false
  unfolding gives_odd_width is_odd
  other_not_odd from next slot cell =
      ap (λ (c : Change). gives_odd_width from next (record { slot = slot; cell = cell; change = c })) other_change
      ∙ go (leb from slot) (leb slot 9223372036854775806) (leb next slot) (change_assignable (Assign (record { carrier = 0; width = 0 })))
    where
      go : (a b c d : Bool) → (a && false && b && c && d) ≡ false
      go true b c d = refl
      go false b c d = refl

  pub group_other_kind : (g : GroupRegister) (slot cell : ℕ) → is_made g.settings ≡ true → slot ≤ 9223372036854775806 → g.register.next_slot ≤ slot
      → after_group_entry g (entry_from_numbers slot kind cell carrier width) ≡ (group_register g.settings (slot_seen slot g.register), 14)
  group_other_kind g slot cell made within later =
      let e : CellEntry = entry_from_numbers slot kind cell carrier width in
      let taken = taken_as_register g e made (other_not_odd g.settings.whole_mhz_from g.register.next_slot slot cell) in
      let by_register = other_kind g.register slot kind cell carrier width one two within later in
      ap (λ (a : GroupApplied). (a.group, group_outcome_number a.outcome)) taken
      ∙ ap (λ (k : ℕ). (group_register g.settings (apply g.register e).register, k)) (number_as_register (apply g.register e).outcome)
      ∙ ap (λ (x : Register × ℕ). (group_register g.settings x.0, x.1)) by_register

pub report_of_group : (settings cells carriers widths figures : List ℕ)
    → group_report_in settings figures ≡ ((group_page (group_in settings cells carriers widths figures)).bytes, (group_page (group_in settings cells carriers widths figures)).len)
unfolding group_report_in group_page
report_of_group settings cells carriers widths figures = go (is_made (settings_in settings))
  where
    r : Register
    r = register_of cells carriers widths figures

    refused : ReportPage
    refused = page_holding (refusal_text (settings_refusal (settings_in settings)))

    go : (t : Bool)
        → ◌≡◌ {A = List ℕ × ℕ} (cond t ((register_page r).bytes, (register_page r).len) (refused.bytes, refused.len))
        ((cond t (register_page r) refused).bytes, (cond t (register_page r) refused).len)
    go true = refl
    go false = refl

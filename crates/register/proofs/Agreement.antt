-- A register and the entries that made it agree, and an entry is done exactly where the entries say that it is taken.
-- Assumes nothing.
use mathlib.Core.Path.{◌≡◌, refl, sym, ap, ◌∙◌}
use mathlib.Core.Bool.{Bool, true, false, cond, ◌&&◌, not}
use mathlib.Core.List.{List, [], ◌∷◌}
use mathlib.Core.Logic.{◌⊎◌, inl, inr}
use Prim.Native.Nat.{ℕ, suc, ◌+◌, ◌≤◌, ◌<◌}
use native.Mathlib.Omega.{arith}
use lib.Dec.{ltb, leb, eqb}
use lib.ListN.{length, length-take}
use lib.Seq.{take_at}
use borrow.Author.Tests.{ltb-true, ltb-false, leb-true, leb-false, lt-ltb, le-leb, lt-leb}
use Rattle.basics.proofs.Tests.{either, not_both, same_test, and_left, and_right, and_both}
use Rattle.message.specs.Rounds.{increment}
use Rattle.raster.specs.Raster.{frequency_of, raster_refusal}
use Rattle.basics.specs.elements.Places.{at_front}
use Rattle.basics.proofs.elements.Lists.{front_length}
use Rattle.register.specs.Cells.{is_live_cell, cell_reassigned, cell_inserted, cell_removed}
use Rattle.register.specs.Register.{new_register, live_places, live_cells, assignable, holding, with_new_cell, with_superseded, with_released, slot_seen, done, older, entry_refused, assign, release, apply_change, apply}
use Rattle.register.specs.Refusals.{entry_number, entry_refusal_number}
use Rattle.register.specs.History.{RisingCells}
use Rattle.register.specs.Taken.{Latest, never, is, is_assigned, above, is_later, assignment_within_limits, change_within_limits, is_assignment, is_release, entry_number_given, entry_number_after, is_taken_given, latest, is_taken, tally, makes, supersedes, is_taken_release, live_cell_count, named_cells, count_in}
use Rattle.register.specs.declared.Assignment.{Assignment}
use Rattle.register.specs.declared.Cell.{Cell}
use Rattle.register.specs.declared.Change.{Change}
use Rattle.register.specs.declared.Change.TheVariants.{Assign, Release}
use Rattle.register.specs.declared.CellEntry.{CellEntry}
use Rattle.register.specs.declared.Figures.{Figures}
use Rattle.register.specs.declared.Register.{Register}
use Rattle.register.specs.declared.EntryRefusal.{EntryRefusal}
use Rattle.register.specs.declared.EntryRefusal.TheVariants.{NumberTooLarge, NotAssignable, NoRoomForCell, CellNotLive}
use Rattle.register.specs.declared.Applied.{Applied}
use Rattle.register.proofs.Cells.{look_up_cell, live_look_up, look_up_inserted, look_up_reassigned, look_up_removed, rising_inserted, rising_reassigned, rising_removed, inserted_length, reassigned_length, removed_length}
use Rattle.register.proofs.Entries.{latest_kept, live_kept, latest_own, latest_other, live_more, live_same, live_less}

-- a release is no assignment
abbrev pub standing : Latest → Latest
standing never = never
standing (is (Assign a)) = is (Assign a)
standing (is Release) = never

standing_assigned : (l : Latest) → is_assigned (standing l) ≡ is_assigned l
standing_assigned never = refl
standing_assigned (is (Assign a)) = refl
standing_assigned (is Release) = refl

pub record RegisterAgrees (es : List CellEntry) (r : Register) : Type 0 where
  pub places : length r.cells ≡ 512
  pub fits : r.live_count ≤ 512
  pub rising : RisingCells 0 (live_cells r)
  pub held : (n : ℕ) → look_up_cell n (live_cells r) ≡ standing (latest es n)
  pub live_counted : live_cell_count es ≡ r.live_count
  pub slots : (slot : ℕ) → above slot es ≡ leb r.next_slot slot
  pub bound : r.next_slot ≤ 9223372036854775807
  pub few : r.figures.made ≤ r.next_slot
  pub made_counted : r.figures.made ≡ tally makes es
  pub superseded_counted : r.figures.superseded ≡ tally supersedes es
  pub released_counted : r.figures.released ≡ tally is_taken_release es
  pub sum : r.figures.made ≡ r.figures.superseded + r.figures.released + r.live_count

pub new_agrees : RegisterAgrees [] new_register
unfolding above look_up_cell latest tally named_cells count_in
new_agrees =
    record {
      places = refl;
      fits = omega arith;
      rising = tt;
      held = λ n. refl;
      live_counted = refl;
      slots = λ slot. sym (le-leb 0 slot (omega arith));
      bound = omega arith;
      few = omega arith;
      made_counted = refl;
      superseded_counted = refl;
      released_counted = refl;
      sum = refl;
    }

-- ---- an entry that is not taken: only the next slot may move
module _ (before : List CellEntry) (r : Register) (e : CellEntry) (ok : RegisterAgrees before r) where
  not_counted : (test : List CellEntry → CellEntry → Bool) → test before e ≡ false → tally test (e ∷ before) ≡ tally test before
  unfolding tally
  not_counted test left = simp left

  pub kept : (next : ℕ) → is_taken before e ≡ false → ((slot : ℕ) → above slot (e ∷ before) ≡ leb next slot) → r.next_slot ≤ next → next ≤ 9223372036854775807
      → RegisterAgrees (e ∷ before) (record { next_slot = next; figures = r.figures; live_count = r.live_count; cells = r.cells })
  kept next left slots later bound =
      record {
        places = ok.places;
        fits = ok.fits;
        rising = ok.rising;
        held = λ n. ok.held n ∙ ap standing (sym (latest_kept before e left n));
        live_counted = live_kept before e left ∙ ok.live_counted;
        slots = slots;
        bound = bound;
        few = omega (arith, ok.few);
        made_counted = ok.made_counted ∙ sym (not_counted makes (simp left));
        superseded_counted = ok.superseded_counted ∙ sym (not_counted supersedes (simp left));
        released_counted = ok.released_counted ∙ sym (not_counted is_taken_release (simp left));
        sum = ok.sum;
      }

-- ---- an entry of a later slot
module _ (before : List CellEntry) (r : Register) (slot n : ℕ) (ok : RegisterAgrees before r) (within : slot ≤ 9223372036854775806) (later : r.next_slot ≤ slot) where
  abbrev entry : Change → CellEntry
  entry x = record { slot = slot; cell = n; change = x }

  abbrev cells : List Cell
  cells = live_cells r

  all_live : length cells ≡ r.live_count
  all_live = length-take (live_places r) r.cells ∙ omega (arith, ok.places, ok.fits)

  slots_after : (x : Change) (s : ℕ) → above s (entry x ∷ before) ≡ leb (slot + 1) s
  unfolding above
  slots_after x s = simp (le-leb slot 9223372036854775806 within, ok.slots s) (same_test forth back)
    where
      forth : (ltb slot s && leb r.next_slot s) ≡ true → leb (slot + 1) s ≡ true
      forth h = let p = ltb-true slot s (and_left (ltb slot s) (leb r.next_slot s) h) in le-leb (slot + 1) s (omega arith)

      back : leb (slot + 1) s ≡ true → (ltb slot s && leb r.next_slot s) ≡ true
      back h = let p = leb-true (slot + 1) s h in and_both (lt-ltb slot s (omega arith)) (le-leb r.next_slot s (omega arith))

  live_is : is_live_cell n cells ≡ is_assigned (latest before n)
  live_is = live_look_up n cells ∙ ap is_assigned (ok.held n) ∙ standing_assigned (latest before n)

  pub refused_agrees : (x : Change) → is_taken before (entry x) ≡ false → RegisterAgrees (entry x ∷ before) (slot_seen slot r)
  refused_agrees x left = kept before r (entry x) ok (slot + 1) left (slots_after x) (omega arith) (omega arith)

  -- the entry is taken: other cells and other figures
  module _ (x : Change) (took : is_taken before (entry x) ≡ true) (new : List Cell) (figures : Figures) (short : length new ≤ 512) where
    abbrev after : Register
    after = holding new figures (slot_seen slot r)

    new_live : live_cells after ≡ new
    unfolding at_front
    new_live = take_at new _ (live_places after) (omega arith)

    pub changed_agrees : RisingCells 0 new → ((m : ℕ) → look_up_cell m new ≡ cond (eqb n m) (standing (is x)) (look_up_cell m cells)) → live_cell_count (entry x ∷ before) ≡ length new
        → figures.made ≤ slot + 1 → figures.made ≡ tally makes (entry x ∷ before) → figures.superseded ≡ tally supersedes (entry x ∷ before)
        → figures.released ≡ tally is_taken_release (entry x ∷ before) → figures.made ≡ figures.superseded + figures.released + length new
        → RegisterAgrees (entry x ∷ before) after
    changed_agrees rising looked counted few m s d sum =
        record {
          places = front_length new r.cells (omega (arith, ok.places)) ∙ ok.places;
          fits = short;
          rising = rw new_live rising;
          held = λ k. ap (look_up_cell k) new_live ∙ looked k ∙ told k (eqb n k) refl;
          live_counted = counted;
          slots = slots_after x;
          bound = omega arith;
          few = few;
          made_counted = m;
          superseded_counted = s;
          released_counted = d;
          sum = sum;
        }
      where
        told : (k : ℕ) (t : Bool) → eqb n k ≡ t → cond (eqb n k) (standing (is x)) (look_up_cell k cells) ≡ standing (latest (entry x ∷ before) k)
        told k true t = simp t (ap standing (sym (latest_own before (entry x) took k t)))
        told k false t = simp t (ok.held k ∙ ap standing (sym (latest_other before (entry x) took k t)))

  -- ---- the figures stay below the slot, so that one more is one more
  one_more : (x : ℕ) → x ≤ r.figures.made → increment x ≡ x + 1
  unfolding increment
  one_more x h = simp (lt-ltb x 18446744073709551615 (omega (arith, ok.few)))

  counted : (test : List CellEntry → CellEntry → Bool) (e : CellEntry) (t : Bool) → test before e ≡ t → (figure : ℕ) → figure ≡ tally test before
      → cond t (figure + 1) figure ≡ tally test (e ∷ before)
  unfolding tally
  counted test e true h figure c = simp h (omega arith)
  counted test e false h figure c = simp h c

  -- a new cell is assigned
  made_agrees : (a : Assignment) → is_taken before (entry (Assign a)) ≡ true → is_live_cell n cells ≡ false → r.live_count < 512 → RegisterAgrees (entry (Assign a) ∷ before) (with_new_cell n a (slot_seen slot r))
  made_agrees a took new room =
      let e : CellEntry = entry (Assign a) in
      let m : increment r.figures.made ≡ r.figures.made + 1 = one_more r.figures.made (omega arith) in
      let size : length (cell_inserted n a cells) ≡ suc (length cells) = inserted_length n a cells in
      let was : is_assigned (latest before n) ≡ false = sym live_is ∙ new in
      changed_agrees (Assign a) took (cell_inserted n a cells) (with_new_cell n a (slot_seen slot r)).figures (omega (arith, all_live))
      (rising_inserted 0 n a cells (omega arith) new ok.rising)
      (λ k. look_up_inserted n a k cells)
      (live_more before e took refl was ∙ omega (arith, ok.live_counted, all_live))
      (omega (arith, ok.few))
      (m ∙ counted makes e true (simp took) r.figures.made ok.made_counted)
      (counted supersedes e false (simp (took, was)) r.figures.superseded ok.superseded_counted)
      (counted is_taken_release e false (simp took) r.figures.released ok.released_counted)
      (omega (arith, ok.sum, all_live))

  -- "An assignment supersedes the cell's earlier one"
  superseded_agrees : (a : Assignment) → is_taken before (entry (Assign a)) ≡ true → is_live_cell n cells ≡ true → RegisterAgrees (entry (Assign a) ∷ before) (with_superseded n a (slot_seen slot r))
  superseded_agrees a took old =
      let e : CellEntry = entry (Assign a) in
      let m : increment r.figures.made ≡ r.figures.made + 1 = one_more r.figures.made (omega arith) in
      let s : increment r.figures.superseded ≡ r.figures.superseded + 1 = one_more r.figures.superseded (omega (arith, ok.sum)) in
      let size : length (cell_reassigned n a cells) ≡ length cells = reassigned_length n a cells in
      let was : is_assigned (latest before n) ≡ true = sym live_is ∙ old in
      changed_agrees (Assign a) took (cell_reassigned n a cells) (with_superseded n a (slot_seen slot r)).figures (omega (arith, all_live, ok.fits))
      (rising_reassigned 0 n a cells old ok.rising)
      (λ k. look_up_reassigned n a k cells old)
      (live_same before e took refl was ∙ omega (arith, ok.live_counted, all_live))
      (omega (arith, ok.few))
      (m ∙ counted makes e true (simp took) r.figures.made ok.made_counted)
      (s ∙ counted supersedes e true (simp (took, was)) r.figures.superseded ok.superseded_counted)
      (counted is_taken_release e false (simp took) r.figures.released ok.released_counted)
      (omega (arith, ok.sum, all_live))

  -- "a release removes it"
  released_agrees : is_taken before (entry Release) ≡ true → is_live_cell n cells ≡ true → RegisterAgrees (entry Release ∷ before) (with_released n (slot_seen slot r))
  released_agrees took old =
      let e : CellEntry = entry Release in
      let d : increment r.figures.released ≡ r.figures.released + 1 = one_more r.figures.released (omega (arith, ok.sum)) in
      let size : length cells ≡ suc (length (cell_removed n cells)) = removed_length n cells old in
      let was : is_assigned (latest before n) ≡ true = sym live_is ∙ old in
      let fewer : live_cell_count before ≡ suc (live_cell_count (e ∷ before)) = live_less before e took refl was in
      changed_agrees Release took (cell_removed n cells) (with_released n (slot_seen slot r)).figures (omega (arith, all_live, ok.fits))
      (rising_removed 0 n cells ok.rising)
      (λ k. look_up_removed n k 0 cells ok.rising old)
      (omega (arith, ok.live_counted, all_live))
      (omega (arith, ok.few))
      (counted makes e false (simp took) r.figures.made ok.made_counted)
      (counted supersedes e false (simp took) r.figures.superseded ok.superseded_counted)
      (d ∙ counted is_taken_release e true (simp took) r.figures.released ok.released_counted)
      (omega (arith, ok.sum, all_live))

-- ---- every entry: its number is the one that the entries say, and the register agrees with one entry more
pub record Stepped (before : List CellEntry) (e : CellEntry) (x : Applied) : Type 0 where
  pub number : entry_number x.outcome ≡ entry_number_after before e
  pub agreeing : RegisterAgrees (e ∷ before) x.register

pub taken_by_number : (before : List CellEntry) (e : CellEntry) (k : ℕ) → entry_number_after before e ≡ k → is_taken before e ≡ eqb k 0
unfolding is_taken_given
taken_by_number before e k h = ap (λ (m : ℕ). eqb m 0) h

-- the three ranges of E5 leave no gap
has_frequency : (n : ℕ) → eqb (raster_refusal (frequency_of n)) 0 ≡ leb n 3279165
unfolding frequency_of
has_frequency n = go (either (leb n 599999)) (either (leb n 2016666)) (either (leb n 3279165))
  where
    go : (leb n 599999 ≡ true) ⊎ (leb n 599999 ≡ false) → (leb n 2016666 ≡ true) ⊎ (leb n 2016666 ≡ false) → (leb n 3279165 ≡ true) ⊎ (leb n 3279165 ≡ false)
        → eqb (raster_refusal (frequency_of n)) 0 ≡ leb n 3279165
    go (inl p) q s = let h = leb-true n 599999 p in simp (p, le-leb n 3279165 (omega arith))
    go (inr p) (inl q) s = let h = leb-true n 2016666 q in simp (p, q, le-leb n 3279165 (omega arith))
    go (inr p) (inr q) (inl s) = simp (p, q, s)
    go (inr p) (inr q) (inr s) = simp (p, q, s)

pub within_limits_lem : (a : Assignment) → assignment_within_limits a ≡ assignable a
unfolding assignable
within_limits_lem a = ap (λ (t : Bool). t && leb 1 a.width && leb a.width 400000) (sym (has_frequency a.carrier))

module _ (before : List CellEntry) (r : Register) (slot n : ℕ) (ok : RegisterAgrees before r) (within : slot ≤ 9223372036854775806) (later : r.next_slot ≤ slot) where
  abbrev told : Change → CellEntry
  told x = record { slot = slot; cell = n; change = x }

  -- what is left of document 02's order once the slot is later
  abbrev change_number : Change → ℕ
  change_number x =
      cond (not (change_within_limits x)) 14
      (cond (is_assignment x && not (is_assigned (latest before n)) && leb 512 (live_cell_count before)) 15
      (cond (is_release x && not (is_assigned (latest before n))) 16
      0))

  number_told : (x : Change) (k : ℕ) → change_number x ≡ k → entry_number_after before (told x) ≡ k
  unfolding entry_number_given
  number_told x k h = simp (le-leb slot 9223372036854775806 within, ok.slots slot, le-leb r.next_slot slot later) h

  refused_stepped : (x : Change) (why : EntryRefusal) → eqb (entry_refusal_number why) 0 ≡ false → change_number x ≡ entry_refusal_number why
      → Stepped before (told x) (entry_refused why (slot_seen slot r))
  refused_stepped x why other h =
      let number = number_told x (entry_refusal_number why) h in
      let left = taken_by_number before (told x) (entry_refusal_number why) number ∙ other in
      record { number = sym number; agreeing = refused_agrees before r slot n ok within later x left }

  done_stepped : (x : Change) (after : Register) → change_number x ≡ 0 → (is_taken before (told x) ≡ true → RegisterAgrees (told x ∷ before) after)
      → Stepped before (told x) (done after)
  done_stepped x after h agrees =
      let number = number_told x 0 h in
      record { number = sym number; agreeing = agrees (taken_by_number before (told x) 0 number) }

  assigned : (t : Bool) → is_live_cell n (live_cells r) ≡ t → is_assigned (latest before n) ≡ t
  assigned t h = sym (live_is before r slot n ok within later) ∙ h

  pub assign_stepped : (a : Assignment) → Stepped before (told (Assign a)) (assign (slot_seen slot r) n a)
  unfolding assign
  assign_stepped a = go (assignable a) refl (is_live_cell n (live_cells r)) refl (leb 512 (live_places r)) refl
    where
      go : (t : Bool) → assignable a ≡ t → (u : Bool) → is_live_cell n (live_cells r) ≡ u → (v : Bool) → leb 512 (live_places r) ≡ v
          → Stepped before (told (Assign a)) (cond (not t) (entry_refused NotAssignable (slot_seen slot r))
          (cond u (done (with_superseded n a (slot_seen slot r)))
          (cond v (entry_refused NoRoomForCell (slot_seen slot r)) (done (with_new_cell n a (slot_seen slot r))))))
      go false p u q v s = refused_stepped (Assign a) NotAssignable refl (simp (within_limits_lem a ∙ p))
      go true p true q v s =
          done_stepped (Assign a) (with_superseded n a (slot_seen slot r)) (simp (within_limits_lem a ∙ p, assigned true q))
          (λ took. superseded_agrees before r slot n ok within later a took q)
      go true p false q true s =
          let full : leb 512 (live_cell_count before) ≡ true = le-leb 512 (live_cell_count before) (omega (arith, leb-true 512 (live_places r) s, ok.live_counted)) in
          refused_stepped (Assign a) NoRoomForCell refl (simp (within_limits_lem a ∙ p, assigned false q, full))
      go true p false q false s =
          let room : live_places r < 512 = leb-false 512 (live_places r) s in
          let free : leb 512 (live_cell_count before) ≡ false = lt-leb 512 (live_cell_count before) (omega (arith, room, ok.live_counted, ok.fits)) in
          done_stepped (Assign a) (with_new_cell n a (slot_seen slot r)) (simp (within_limits_lem a ∙ p, assigned false q, free))
          (λ took. made_agrees before r slot n ok within later a took q (omega (arith, room, ok.fits)))

  pub release_stepped : Stepped before (told Release) (release (slot_seen slot r) n)
  unfolding release
  release_stepped = go (is_live_cell n (live_cells r)) refl
    where
      go : (u : Bool) → is_live_cell n (live_cells r) ≡ u → Stepped before (told Release) (cond u (done (with_released n (slot_seen slot r))) (entry_refused CellNotLive (slot_seen slot r)))
      go true q =
          done_stepped Release (with_released n (slot_seen slot r)) (simp (assigned true q))
          (λ took. released_agrees before r slot n ok within later took q)
      go false q = refused_stepped Release CellNotLive refl (simp (assigned false q))

  pub changed_stepped : (x : Change) → Stepped before (told x) (apply_change x n (slot_seen slot r))
  unfolding apply_change
  changed_stepped (Assign a) = assign_stepped a
  changed_stepped Release = release_stepped

-- a slot above the limit, or not after the last one seen: the register stays as it is
module _ (before : List CellEntry) (r : Register) (e : CellEntry) (ok : RegisterAgrees before r) where
  too_large_slots : 9223372036854775806 < e.slot → (slot : ℕ) → above slot (e ∷ before) ≡ leb r.next_slot slot
  unfolding above
  too_large_slots h slot = simp (lt-leb e.slot 9223372036854775806 h) (ok.slots slot)

  too_large_number : 9223372036854775806 < e.slot → entry_number_after before e ≡ 2
  unfolding entry_number_given
  too_large_number h = simp (lt-leb e.slot 9223372036854775806 h)

  not_later_slots : e.slot ≤ 9223372036854775806 → e.slot < r.next_slot → (slot : ℕ) → above slot (e ∷ before) ≡ leb r.next_slot slot
  unfolding above
  not_later_slots g h slot = simp (le-leb e.slot 9223372036854775806 g, ok.slots slot) (same_test forth back)
    where
      forth : (ltb e.slot slot && leb r.next_slot slot) ≡ true → leb r.next_slot slot ≡ true
      forth t = and_right (ltb e.slot slot) (leb r.next_slot slot) t

      back : leb r.next_slot slot ≡ true → (ltb e.slot slot && leb r.next_slot slot) ≡ true
      back t = let p = leb-true r.next_slot slot t in and_both (lt-ltb e.slot slot (omega arith)) t

  not_later_number : e.slot ≤ 9223372036854775806 → e.slot < r.next_slot → entry_number_after before e ≡ 64
  unfolding entry_number_given
  not_later_number g h = simp (le-leb e.slot 9223372036854775806 g, ok.slots e.slot, lt-leb r.next_slot e.slot h)

  pub stepped : Stepped before e (apply r e)
  unfolding apply
  stepped = go (ltb 9223372036854775806 e.slot) refl (ltb e.slot r.next_slot) refl
    where
      go : (t : Bool) → ltb 9223372036854775806 e.slot ≡ t → (u : Bool) → ltb e.slot r.next_slot ≡ u
          → Stepped before e (cond t (entry_refused NumberTooLarge r) (cond u (older r) (apply_change e.change e.cell (slot_seen e.slot r))))
      go true p u q =
          let large = ltb-true 9223372036854775806 e.slot p in
          let left : is_taken before e ≡ false = taken_by_number before e 2 (too_large_number large) in
          record { number = sym (too_large_number large); agreeing = kept before r e ok r.next_slot left (too_large_slots large) (omega arith) ok.bound }
      go false p true q =
          let within = ltb-false 9223372036854775806 e.slot p in
          let old = ltb-true e.slot r.next_slot q in
          let left : is_taken before e ≡ false = taken_by_number before e 64 (not_later_number within old) in
          record { number = sym (not_later_number within old); agreeing = kept before r e ok r.next_slot left (not_later_slots within old) (omega arith) ok.bound }
      go false p false q =
          changed_stepped before r e.slot e.cell ok (ltb-false 9223372036854775806 e.slot p) (ltb-false e.slot r.next_slot q) e.change

  -- an entry that is not later leaves the register
  pub left_alone : is_later before e ≡ false → (apply r e).register ≡ r
  unfolding apply
  left_alone h = go (ltb 9223372036854775806 e.slot) refl (ltb e.slot r.next_slot) refl
    where
      go : (t : Bool) → ltb 9223372036854775806 e.slot ≡ t → (u : Bool) → ltb e.slot r.next_slot ≡ u
          → (cond t (entry_refused NumberTooLarge r) (cond u (older r) (apply_change e.change e.cell (slot_seen e.slot r)))).register ≡ r
      go true p u q = refl
      go false p true q = refl
      go false p false q =
          let within = ltb-false 9223372036854775806 e.slot p in
          let after = ltb-false e.slot r.next_slot q in
          let is : is_later before e ≡ true = simp (le-leb e.slot 9223372036854775806 within, ok.slots e.slot, le-leb r.next_slot e.slot after) in
          absurd (not_both is h)

-- What becomes of an entry in any register of group settings, by cases: the cells stay, or one is superseded, made or released.
-- Assumes nothing.
use mathlib.Core.Path.{◌≡◌, refl, sym, ap}
use mathlib.Core.Bool.{Bool, true, false, cond, not}
use Prim.Native.Nat.{ℕ, ◌≤◌, ◌<◌}
use native.Mathlib.Omega.{arith}
use lib.Dec.{ltb, leb}
use borrow.Author.Tests.{leb-false}
use Rattle.std.specs.Prelude.{Result, Ok, Err, MatchResult}
use Rattle.basics.proofs.Tests.{not_both}
use Rattle.register.specs.Cells.{is_live_cell, number_of_cell, found}
use Rattle.register.specs.Register.{live_places, live_cells, assignable, with_new_cell, with_superseded, with_released, slot_seen, done, older, entry_refused, assign, release, apply_change, apply}
use Rattle.register.specs.declared.Applied.{Applied}
use Rattle.register.specs.declared.Assignment.{Assignment}
use Rattle.register.specs.declared.CellEntry.{CellEntry}
use Rattle.register.specs.declared.Change.{Change}
use Rattle.register.specs.declared.Change.TheVariants.{Assign, Release}
use Rattle.register.specs.declared.Entered.{Entered}
use Rattle.register.specs.declared.Entered.TheVariants.{Done, Older}
use Rattle.register.specs.declared.EntryRefusal.TheVariants.{NumberTooLarge, NotAssignable, NoRoomForCell, CellNotLive}
use Rattle.register.specs.declared.Register.{Register}
use Rattle.register.proofs.Places.{found_err}
use Rattle.group_register.specs.Settings.{unmade_by, is_made}
use Rattle.group_register.specs.GroupRegister.{group_register, group_applied, gives_odd_width, as_register, apply_made, apply_in_group}
use Rattle.group_register.specs.declared.GroupApplied.{GroupApplied}
use Rattle.group_register.specs.declared.GroupRefusal.{GroupRefusal}
use Rattle.group_register.specs.declared.GroupRefusal.TheVariants.{Unmade, OddWidth}
use Rattle.group_register.specs.declared.RegisterSettings.{RegisterSettings}
use Rattle.positions.specs.Placed.{IsPlaceOf}

-- it was not done
abbrev pub NotDone : Result Entered GroupRefusal → Type 0
NotDone (Ok Done) = ⊥
NotDone (Ok Older) = Unit {0}
NotDone (Err why) = Unit {0}

module _ (s : RegisterSettings) (r : Register) (e : CellEntry) where
  -- the register with the slot seen
  abbrev pub seen_slot : Register
  seen_slot = slot_seen e.slot r

  abbrev live : Bool
  live = is_live_cell e.cell (live_cells r)

  pub data Became : GroupApplied → Type 0 where
    stayed : (after : Register) (o : Result Entered GroupRefusal) → live_cells after ≡ live_cells r → NotDone o → Became (group_applied s after o)
    superseded : (a : Assignment) → e.change ≡ Assign a → live ≡ true → Became (group_applied s (with_superseded e.cell a seen_slot) (Ok Done))
    made : (a : Assignment) → e.change ≡ Assign a → live ≡ false → live_places r < 512 → Became (group_applied s (with_new_cell e.cell a seen_slot) (Ok Done))
    released : e.change ≡ Release → live ≡ true → Became (group_applied s (with_released e.cell seen_slot) (Ok Done))

  abbrev Becomes : Applied → Type 0
  Becomes x = Became (as_register s x)

  assigned : (a : Assignment) → e.change ≡ Assign a → Becomes (assign seen_slot e.cell a)
  unfolding assign
  assigned a is = go (assignable a) live refl (leb 512 (live_places r)) refl
    where
      go : (t u : Bool) → live ≡ u → (v : Bool) → leb 512 (live_places r) ≡ v
          → Becomes
          (cond (not t) (entry_refused NotAssignable seen_slot)
          (cond u (done (with_superseded e.cell a seen_slot)) (cond v (entry_refused NoRoomForCell seen_slot) (done (with_new_cell e.cell a seen_slot)))))
      go false u k v h = stayed seen_slot (Err _) refl tt
      go true true k v h = superseded a is k
      go true false k true h = stayed seen_slot (Err _) refl tt
      go true false k false h = made a is k (leb-false 512 (live_places r) h)

  release_became : e.change ≡ Release → Becomes (release seen_slot e.cell)
  unfolding release
  release_became is = go live refl
    where
      go : (u : Bool) → live ≡ u → Becomes (cond u (done (with_released e.cell seen_slot)) (entry_refused CellNotLive seen_slot))
      go true k = released is k
      go false k = stayed seen_slot (Err _) refl tt

  changed : (c : Change) → e.change ≡ c → Becomes (apply_change c e.cell seen_slot)
  unfolding apply_change
  changed (Assign a) is = assigned a is
  changed Release is = release_became is

  pub became : Became (apply_in_group (group_register s r) e)
  unfolding apply_in_group apply_made apply
  became = go (is_made s) (gives_odd_width s.whole_mhz_from r.next_slot e) (ltb 9223372036854775806 e.slot) (ltb e.slot r.next_slot) (changed e.change refl)
    where
      go : (m o t u : Bool) → Becomes (apply_change e.change e.cell seen_slot)
          → Became (cond m (cond o (group_applied s seen_slot (Err OddWidth)) (as_register s (cond t (entry_refused NumberTooLarge r) (cond u (older r) (apply_change e.change e.cell seen_slot))))) (group_applied s r (Err (Unmade (unmade_by s)))))
      go false o t u x = stayed r (Err (Unmade (unmade_by s))) refl tt
      go true true t u x = stayed seen_slot (Err OddWidth) refl tt
      go true false true u x = stayed r (Err _) refl tt
      go true false false true x = stayed r (Ok Older) refl tt
      go true false false false x = x

  -- the place that was found for an entry that is done
  pub place_of_done : (after : Register) → group_applied s after (Ok Done) ≡ apply_in_group (group_register s r) e
      → (f : Result ℕ ℕ) → f ≡ found number_of_cell e.cell (live_cells r) → MatchResult f (λ at. at < live_places r) (λ at. at ≤ live_places r)
      → (places : ℕ) → places ≡ live_places r → IsPlaceOf e.change f places
  place_of_done after is f e_found within places p = go (apply_in_group (group_register s r) e) (sym is) became f e_found within
    where
      go : (x : GroupApplied) → x ≡ group_applied s after (Ok Done) → Became x → (f : Result ℕ ℕ) → f ≡ found number_of_cell e.cell (live_cells r)
          → MatchResult f (λ at. at < live_places r) (λ at. at ≤ live_places r) → IsPlaceOf e.change f places
      go x same (stayed r' o cells off) f k w = absurd (never o off (ap (λ (y : GroupApplied). y.outcome) same))
        where
          never : (o : Result Entered GroupRefusal) → NotDone o → o ≡ Ok Done → ⊥
          never (Ok Done) n h = n
          never (Ok Older) n h = let z : ◌≡◌ {A = ℕ} 0 1 = cc in omega arith
          never (Err why) n h = let z : ◌≡◌ {A = ℕ} 0 1 = cc in omega arith
      go x same (superseded a is l) (Ok at) k w = rw is tt
      go x same (superseded a is l) (Err at) k w = absurd (not_both l (found_err number_of_cell e.cell (live_cells r) at k).0)
      go x same (made a is l room) (Ok at) k w = rw is tt
      go x same (made a is l room) (Err at) k w = rw is (omega (arith, w), omega arith)
      go x same (released is l) (Ok at) k w = rw is (omega (arith, w), omega arith)
      go x same (released is l) (Err at) k w = rw is tt

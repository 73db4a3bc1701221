-- An office that was away, and feeds a list of its group's commits to its register, holds the register that the others hold: document 02, E10, whole.
-- Assumes nothing.
use mathlib.Core.Path.{◌≡◌, refl, sym, ap, ap₂, subst, ◌∙◌}
use mathlib.Core.Bool.{true, false, not}
use mathlib.Core.List.{List, [], ◌∷◌}
use mathlib.Core.Logic.{◌⊎◌, inl, inr}
use Prim.Native.Nat.{ℕ, zero, suc, ◌+◌, ◌≤◌, ◌<◌}
use native.Mathlib.Omega.{arith}
use lib.Dec.{ltb, leb}
use lib.ListN.{length}
use Rattle.std.specs.Prelude.{None}
use borrow.Author.Tests.{le-ltb, ltb-true, ltb-false}
use Rattle.basics.proofs.Tests.{either, of-both}
use Rattle.settings.specs.declared.Settings.{Settings}
use Rattle.register.specs.Cells.{is_live_cell}
use Rattle.register.specs.Register.{live_places, live_cells, assignable, apply, apply_change, assign, release}
use Rattle.register.specs.declared.Applied.{Applied}
use Rattle.register.specs.declared.CellEntry.{CellEntry}
use Rattle.register.specs.declared.Change.{Change}
use Rattle.register.specs.declared.Change.TheVariants.{Assign, Release}
use Rattle.register.specs.declared.Register.{Register}
use Rattle.group_register.specs.Settings.{is_made}
use Rattle.group_register.specs.GroupHistory.{group_after, apply_all_in_group}
use Rattle.group_register.specs.GroupRegister.{apply_in_group}
use Rattle.group_register.specs.declared.GroupApplied.{GroupApplied}
use Rattle.group_register.specs.declared.GroupRefusal.{GroupRefusal}
use Rattle.group_register.specs.declared.GroupRegister.{GroupRegister}
use Rattle.group_register.specs.declared.RegisterSettings.{RegisterSettings}
use Rattle.group_register.proofs.Mapped.{bound_entry, bound_slot}
use Rattle.group_register.proofs.GroupLaws.{applied_made, entry_mapped, older_applied, settings_after}
use Rattle.group.specs.Claim.{MemberCall, Entry, ours, entries, Legal, slot_at, CommitAt, Claim, NotSwift}
use Rattle.group.proofs.Agreement.{agreement}
use Rattle.group.proofs.Ties.{lowest_picks_best}
use Rattle.group_settings.specs.declared.GroupSettings.{GroupSettings}
use Rattle.group_settings_runs.specs.Groups.{group_entries, GroupLegal}
use Rattle.group_settings_runs.proofs.Agreeing.{agreement_from}
use Rattle.feeding.specs.Feeding.{fed_to, fed_entries_from, entries_in, Feeding}
use Rattle.feeding.specs.Registers.{FedList, entry_in, cell_register}
use Rattle.feeding.proofs.FeedLaws.{fed_one_by_one, fed_as_said, cells_one_by_one}
use Rattle.group_settings_runs.specs.registers.Members.{CellChange, entry_for_commit, entries_for, register_of_member, UpTo}
use Rattle.group_settings_runs.specs.catching_up.Runs.{FedFromRun, HoldsWhatOthersHold}
use Rattle.group_settings_runs.proofs.registers.Agreeing.{latest_commit, no_commit}

-- ---- the next slot

module _ (r : Register) (slot : ℕ) (at : r.next_slot ≡ slot) where
  abbrev Next : Applied → Type 0
  Next a = a.register.next_slot ≡ slot

  change_next : (c : Change) (cell : ℕ) → Next (apply_change c cell r)
  unfolding apply_change assign release
  change_next (Assign a) cell = of-both Next (not (assignable a)) at (of-both Next (is_live_cell cell (live_cells r)) at (of-both Next (leb 512 (live_places r)) at at))
  change_next Release cell = of-both Next (is_live_cell cell (live_cells r)) at at

register_next : (r : Register) (e : CellEntry) → e.slot ≤ 9223372036854775806 → r.next_slot ≤ e.slot → (apply r e).register.next_slot ≡ e.slot + 1
unfolding apply
register_next r e h k = simp (le-ltb 9223372036854775806 e.slot h, le-ltb e.slot r.next_slot k) (change_next _ (e.slot + 1) refl e.change e.cell)

module _ (g : GroupRegister) (made : is_made g.settings ≡ true) (e : CellEntry) (h : e.slot ≤ 9223372036854775806) where
  entry_next : g.register.next_slot ≤ e.slot → (apply_in_group g e).group.register.next_slot ≡ e.slot + 1
  entry_next k =
      let bound = bound_entry g.settings.whole_mhz_from e in
      let same = bound_slot g.settings.whole_mhz_from e in
      ap (λ (a : GroupApplied). a.group.register.next_slot) (applied_made g.settings made g.register e)
      ∙ ap (λ (x : GroupRegister). x.register.next_slot) (entry_mapped g.settings g.register e)
      ∙ register_next g.register bound (omega (arith, same)) (omega (arith, same))
      ∙ ap (λ (n : ℕ). n + 1) same

  older_left : e.slot < g.register.next_slot → (apply_in_group g e).group ≡ g
  older_left k = ap (λ (a : GroupApplied). a.group) (older_applied g.settings made g.register e h k)

module _ (kept : RegisterSettings) (made : is_made kept ≡ true) (says : ℕ → CellChange) (run : List Entry) (claim : Claim run) where
  made_after : (es : List CellEntry) → is_made (group_after kept es).settings ≡ true
  made_after es = ap is_made (settings_after kept es) ∙ made

  -- the entries of the slots below k, latest first, each of a commit of the run
  abbrev Below : ℕ → List CellEntry → Type 0
  Below k [] = k ≡ 0
  Below k (e ∷ es) = (slot v : ℕ) × (k ≡ suc slot) × (e ≡ entry_for_commit says slot v) × CommitAt slot v run × Below slot es

  -- there is one such list
  one_below : (k : ℕ) (es fs : List CellEntry) → Below k es → Below k fs → es ≡ fs
  one_below k [] [] b c = refl
  one_below k [] (f ∷ fs) b c = absurd (let z = c.2 in omega (arith, b))
  one_below k (e ∷ es) [] b c = absurd (let z = b.2 in omega (arith, c))
  one_below k (e ∷ es) (f ∷ fs) b c =
      let same : b.0 ≡ c.0 = omega (arith, b.2, c.2) in
      let value : b.1 ≡ c.1 = ((claim.agree b.0 b.1 c.0 c.1 b.4 c.4).0 same).1 in
      let here : e ≡ f = b.3 ∙ ap₂ (entry_for_commit says) same value ∙ sym c.3 in
      ap₂ (λ (x : CellEntry) (xs : List CellEntry). x ∷ xs) here (one_below c.0 es fs (subst (λ (n : ℕ). Below n es) same b.5) c.5)

  -- a member's own are such a list
  member_below : (k member : ℕ) (past : List Entry) → UpTo past run → slot_at member past ≡ k → Below k (entries_for says member past)
  member_below zero member past u h = subst (Below 0) (sym (no_commit says run claim member past h)) refl
  member_below (suc k) member past u h =
      let l = latest_commit says run claim member k past u h in
      subst (Below (suc k)) (sym l.is) (k, l.value, refl, refl, l.commit, member_below k member l.before l.up_to l.slot)

  below_next : (k : ℕ) (es : List CellEntry) → k ≤ 9223372036854775807 → Below k es → (group_after kept es).register.next_slot ≡ k
  unfolding group_after
  below_next k [] h b = sym b
  below_next k (e ∷ es) h b =
      let s = b.2 in
      let before = below_next b.0 es (omega arith) b.5 in
      let slot : e.slot ≡ b.0 = ap (λ (x : CellEntry). x.slot) b.3 in
      entry_next (group_after kept es) (made_after es) e (omega arith) (omega arith) ∙ omega arith

  -- a member's register has that slot as its next
  pub member_next : (member : ℕ) (past : List Entry) → UpTo past run → slot_at member past ≤ 9223372036854775807
      → (register_of_member kept says member past).register.next_slot ≡ slot_at member past
  member_next member past u lim =
      below_next (slot_at member past) (entries_for says member past) lim (member_below (slot_at member past) member past u refl)

  -- consecutive entries of commits of the run, from slot b on
  abbrev pub FromSlot : ℕ → List CellEntry → Type 0
  FromSlot b [] = Unit {0}
  FromSlot b (e ∷ es) = ((v : ℕ) × (e ≡ entry_for_commit says b v) × CommitAt b v run) × FromSlot (b + 1) es

  fed_below : (fed : List CellEntry) (b n k : ℕ) (es : List CellEntry) → FromSlot b fed → Below n es → b ≤ n → n ≤ k → b + length fed ≡ k → k ≤ 9223372036854775807
      → (fs : List CellEntry) × Below k fs × (apply_all_in_group (group_after kept es) fed ≡ group_after kept fs)
  unfolding apply_all_in_group group_after
  fed_below [] b n k es from below h j e lim =
      let same : n ≡ k = omega arith in
      (es, subst (λ (m : ℕ). Below m es) same below, refl)
  fed_below (x ∷ fed) b n k es from below h j e lim =
      go (either (ltb b n)) (λ (less : b < n). fed_below fed (b + 1) n k es from.1 below (omega arith) j (omega arith) lim)
      (λ (same : n ≡ b).
      fed_below fed (b + 1) (suc b) k (x ∷ es) from.1 (b, from.0.0, refl, from.0.1, from.0.2, subst (λ (m : ℕ). Below m es) same below) (omega arith)
      (omega arith) (omega arith) lim)
    where
      Ends : GroupRegister → Type 0
      Ends g = (fs : List CellEntry) × Below k fs × (apply_all_in_group g fed ≡ group_after kept fs)

      next : (group_after kept es).register.next_slot ≡ n
      next = below_next n es (omega arith) below

      slot : x.slot ≡ b
      slot = ap (λ (y : CellEntry). y.slot) from.0.1

      go : (ltb b n ≡ true) ⊎ (ltb b n ≡ false) → (b < n → Ends (group_after kept es)) → (n ≡ b → Ends (group_after kept (x ∷ es)))
          → Ends (apply_in_group (group_after kept es) x).group
      go (inl t) older later =
          let less = ltb-true b n t in
          let same = older_left (group_after kept es) (made_after es) x (omega (arith, slot)) (omega (arith, slot, next)) in
          subst Ends (sym same) (older less)
      go (inr t) older later = let more = ltb-false b n t in later (omega arith)

  rows_from : (l : FedList) (b i n : ℕ) → ((k : ℕ) → k < i + n → FedFromRun says run l b k) → FromSlot (b + i) (fed_entries_from (entry_in l) i n)
  unfolding fed_entries_from
  rows_from l b i zero rows = tt
  rows_from l b i (suc n) rows =
      let on : b + (i + 1) ≡ b + i + 1 = omega arith in
      (rows i (omega arith), subst (λ (m : ℕ). FromSlot m (fed_entries_from (entry_in l) (i + 1) n)) on (rows_from l b (i + 1) n (λ k h. rows k (omega arith))))

  rows_count : (l : FedList) (i n : ℕ) → length (fed_entries_from (entry_in l) i n) ≡ n
  unfolding fed_entries_from
  rows_count l i zero = refl
  rows_count l i (suc n) = ap suc (rows_count l (i + 1) n)

-- ---- the law, of a run that meets the claim

module _ (run : List Entry) (claim : Claim run) (kept : RegisterSettings) (says : ℕ → CellChange) (i j : ℕ) (p q : List Entry) where
  pub feeder_holds : HoldsWhatOthersHold kept says i j p q run
  feeder_holds up-to-p up-to-q l b rows h more ends lim first said =
      let told = fed_as_said cell_register (register_of_member kept says i p) l first said in
      let made : is_made kept ≡ true = sym (ap is_made (settings_after kept (entries_for says i p))) ∙ told.0 in
      let n = length l.commits.slots in
      let zero-first : b + 0 ≡ b = omega arith in
      let from =
      subst (λ (m : ℕ). FromSlot kept made says run claim m (entries_in cell_register l)) zero-first
      (rows_from kept made says run claim l b 0 n (λ k h. rows k (omega arith))) in
      let all = rows_count kept made says run claim l 0 n in
      let own = member_below kept made says run claim (slot_at i p) i p up-to-p refl in
      let fed =
      fed_below kept made says run claim (entries_in cell_register l) b (slot_at i p) (slot_at j q) (entries_for says i p) from own h more
      (omega (arith, all, ends)) lim in
      let others = member_below kept made says run claim (slot_at j q) j q up-to-q refl in
      ap (λ (f : Feeding GroupRegister GroupRefusal). f.register) told.1
      ∙ fed_one_by_one cell_register (fed_to None (register_of_member kept says i p)) (entries_in cell_register l)
      ∙ cells_one_by_one (register_of_member kept says i p) (entries_in cell_register l)
      ∙ fed.2 ∙ ap (group_after kept) (one_below kept made says run claim (slot_at j q) fed.0 (entries_for says j q) fed.1 others)

-- of every legal run from the engine's settings
pub holds_what_others_hold : (s : Settings) → NotSwift s.mode → (cs : List MemberCall) → Legal s cs → (kept : RegisterSettings) (says : ℕ → CellChange) (i j : ℕ)
    (p q : List Entry) → HoldsWhatOthersHold kept says i j p q (entries s cs)
holds_what_others_hold s mode cs legal = feeder_holds (entries s cs) (agreement s mode cs legal)

-- and of every one from group settings, as hosts begin
pub holds_what_others_hold_from : (g : GroupSettings) → NotSwift g.settings.mode → (cs : List MemberCall) → GroupLegal ours g cs
    → (kept : RegisterSettings) (says : ℕ → CellChange) (i j : ℕ) (p q : List Entry) → HoldsWhatOthersHold kept says i j p q (group_entries ours g cs)
holds_what_others_hold_from g mode cs legal = feeder_holds (group_entries ours g cs) (agreement_from g mode ours (λ place. lowest_picks_best) cs legal)

-- Two members of one legal run, in any mode but SwiftPaxos, whose hosts give each committed value the same entry and hold the same settings, hold equal
-- registers at equal slots, each at its own moment.
-- Assumes nothing.
use Rattle.std.specs.Prelude.{Option, None, Some}
use Rattle.calls.specs.declared.CommittedSlot.{CommittedSlot}
use mathlib.Core.Path.{◌≡◌, refl, sym, ap, subst, ◌∙◌}
use mathlib.Core.Bool.{Bool, true, false}
use mathlib.Core.List.{List, [], ◌∷◌}
use mathlib.Core.Logic.{inl, inr}
use Prim.Native.Nat.{ℕ, zero, suc}
use native.Mathlib.Omega.{arith}
use lib.Dec.{eqb}
use borrow.Author.Tests.{eqb-true}
use Rattle.settings.specs.declared.Settings.{Settings}
use Rattle.register.specs.Taken.{later_entries}
use Rattle.register.specs.declared.CellEntry.{CellEntry}
use Rattle.group_register.specs.GroupHistory.{group_after}
use Rattle.group_register.specs.declared.RegisterSettings.{RegisterSettings}
use Rattle.group_register.proofs.GroupLaws.{equal_registers}
use Rattle.group.specs.Claim.{MemberCall, Entry, ours, entries, Legal, At, slot_at, CommitAt, Claim, NotSwift}
use Rattle.group.proofs.Agreement.{agreement}
use Rattle.group.proofs.Ties.{lowest_picks_best}
use Rattle.group_settings.specs.declared.GroupSettings.{GroupSettings}
use Rattle.group_settings_runs.specs.Groups.{group_entries, GroupLegal}
use Rattle.group_settings_runs.proofs.Agreeing.{agreement_from}
use Rattle.group_settings_runs.specs.registers.Members.{CellChange, entry_for_commit, entries_for, register_of_member, UpTo}

-- ---- moments of a run
pub whole : (run : List Entry) → UpTo run run
whole [] = refl
whole (e ∷ es) = inl refl

not_empty : (e : Entry) (past : List Entry) → (e ∷ past ≡ []) → ⊥
not_empty e past h = let z : ◌≡◌ {A = ℕ} 1 0 = ap size h in omega arith
  where
    size : List Entry → ℕ
    size [] = 0
    size (x ∷ xs) = 1

stands_at : (e : Entry) (past run : List Entry) → UpTo (e ∷ past) run → At e past run
stands_at e past [] h = absurd (not_empty e past h)
stands_at e past (x ∷ xs) (inl h) = let first : e ≡ x = cc in let rest : past ≡ xs = cc in inl (first, rest)
stands_at e past (x ∷ xs) (inr h) = inr (stands_at e past xs h)

earlier : (e : Entry) (past run : List Entry) → UpTo (e ∷ past) run → UpTo past run
earlier e past [] h = absurd (not_empty e past h)
earlier e past (x ∷ xs) (inl h) = let rest : past ≡ xs = cc in inr (subst (λ (p : List Entry). UpTo p xs) (sym rest) (whole xs))
earlier e past (x ∷ xs) (inr h) = inr (earlier e past xs h)

module _ (says : ℕ → CellChange) (run : List Entry) (claim : Claim run) where
  -- the latest commit of a member that is at slot k + 1: it is of slot k, and behind it stand those of the moment before it
  pub record LatestCommit (member k : ℕ) (past : List Entry) : Type 0 where
    pub value : ℕ
    pub before : List Entry
    pub up_to : UpTo before run
    pub slot : slot_at member before ≡ k
    pub commit : CommitAt k value run
    pub is : entries_for says member past ≡ entry_for_commit says k value ∷ entries_for says member before

  pub latest_commit : (member k : ℕ) (past : List Entry) → UpTo past run → slot_at member past ≡ suc k → LatestCommit member k past
  unfolding entries_for
  latest_commit member k [] u h = absurd (omega arith)
  latest_commit member k (e ∷ past) u h =
      go (eqb member e.member) refl e.reply.commit refl (λ z. latest_commit member k past (earlier e past run u) z)
    where
      go : (t : Bool) → eqb member e.member ≡ t → (o : Option CommittedSlot) → e.reply.commit ≡ o → (slot_at member past ≡ suc k → LatestCommit member k past)
          → LatestCommit member k (e ∷ past)
      go false t o c rest = same (rest (simp t at h))
        where
          same : LatestCommit member k past → LatestCommit member k (e ∷ past)
          same l = record { value = l.value; before = l.before; up_to = l.up_to; slot = l.slot; commit = l.commit; is = simp t l.is }
      go true t None c rest = same (rest (simp (t, c) at h))
        where
          same : LatestCommit member k past → LatestCommit member k (e ∷ past)
          same l = record { value = l.value; before = l.before; up_to = l.up_to; slot = l.slot; commit = l.commit; is = simp (t, c) l.is }
      go true t (Some commit) c rest =
          let at : suc (slot_at member past) ≡ suc k = simp (t, c) at h in
          let here : slot_at member past ≡ k = omega arith in
          let own : CommitAt commit.slot commit.v run = record { entry = e; earlier = past; stands = stands_at e past run u; fast = commit.fast; commit = c } in
          let of_member : member ≡ e.member = eqb-true member e.member t in
          let is-k : commit.slot ≡ k = claim.own_slot commit.slot commit.v own ∙ ap (λ (m : ℕ). slot_at m past) (sym of_member) ∙ here in
          record {
            value = commit.v;
            before = past;
            up_to = earlier e past run u;
            slot = here;
            commit = rw is-k at own;
            is = simp (t, c, is-k);
          }

  pub no_commit : (member : ℕ) (past : List Entry) → slot_at member past ≡ 0 → entries_for says member past ≡ []
  unfolding entries_for
  no_commit member [] h = refl
  no_commit member (e ∷ past) h = go (eqb member e.member) refl e.reply.commit refl (λ z. no_commit member past z)
    where
      go : (t : Bool) → eqb member e.member ≡ t → (o : Option CommittedSlot) → e.reply.commit ≡ o → (slot_at member past ≡ 0 → entries_for says member past ≡ [])
          → entries_for says member (e ∷ past) ≡ []
      go false t o c rest = simp t (rest (simp t at h))
      go true t None c rest = simp (t, c) (rest (simp (t, c) at h))
      go true t (Some commit) c rest = absurd (let z : suc (slot_at member past) ≡ 0 = simp (t, c) at h in omega arith)

  same_entries : (k i j : ℕ) (p q : List Entry) → UpTo p run → UpTo q run → slot_at i p ≡ k → slot_at j q ≡ k
      → entries_for says i p ≡ entries_for says j q
  same_entries zero i j p q u w h l = no_commit i p h ∙ sym (no_commit j q l)
  same_entries (suc k) i j p q u w h l =
      let one = latest_commit i k p u h in
      let other = latest_commit j k q w l in
      let value : one.value ≡ other.value = ((claim.agree k one.value k other.value one.commit other.commit).0 refl).1 in
      one.is
      ∙ ap (λ (v : ℕ). entry_for_commit says k v ∷ entries_for says i one.before) value
      ∙ ap (λ (es : List CellEntry). entry_for_commit says k other.value ∷ es)
      (same_entries k i j one.before other.before one.up_to other.up_to one.slot other.slot)
      ∙ sym other.is

-- ---- the law, of a run that meets the claim
module _ (run : List Entry) (claim : Claim run) (kept : RegisterSettings) (says : ℕ → CellChange) (i j : ℕ) (p q : List Entry) (up-to-p : UpTo p run)
    (up-to-q : UpTo q run) (slots : slot_at i p ≡ slot_at j q) where
  given_equal_entries : entries_for says i p ≡ entries_for says j q
  given_equal_entries = same_entries says run claim (slot_at j q) i j p q up-to-p up-to-q slots refl

  hold_equal_registers : register_of_member kept says i p ≡ register_of_member kept says j q
  hold_equal_registers = ap (group_after kept) given_equal_entries

  -- "whatever repeats or older ones stand between"
  equal_with_repeats : (one other : List CellEntry) → later_entries one ≡ later_entries (entries_for says i p)
      → later_entries other ≡ later_entries (entries_for says j q) → group_after kept one ≡ group_after kept other
  equal_with_repeats one other f g = equal_registers kept one other (f ∙ ap later_entries given_equal_entries ∙ sym g)

-- ---- of a group that is begun from the engine's settings
module _ (s : Settings) (mode : NotSwift s.mode) (cs : List MemberCall) (legal : Legal s cs) (kept : RegisterSettings) (says : ℕ → CellChange) (i j : ℕ)
    (p q : List Entry) (up-to-p : UpTo p (entries s cs)) (up-to-q : UpTo q (entries s cs)) (slots : slot_at i p ≡ slot_at j q) where
  pub members_hold_equal_registers : register_of_member kept says i p ≡ register_of_member kept says j q
  members_hold_equal_registers = hold_equal_registers (entries s cs) (agreement s mode cs legal) kept says i j p q up-to-p up-to-q slots

  pub with_repeats : (one other : List CellEntry) → later_entries one ≡ later_entries (entries_for says i p) → later_entries other ≡ later_entries (entries_for says j q)
      → group_after kept one ≡ group_after kept other
  with_repeats = equal_with_repeats (entries s cs) (agreement s mode cs legal) kept says i j p q up-to-p up-to-q slots

-- ---- of one that is begun from group settings, as hosts begin it
module _ (g : GroupSettings) (mode : NotSwift g.settings.mode) (cs : List MemberCall) (legal : GroupLegal ours g cs) (kept : RegisterSettings)
    (says : ℕ → CellChange) (i j : ℕ) (p q : List Entry) (up-to-p : UpTo p (group_entries ours g cs)) (up-to-q : UpTo q (group_entries ours g cs))
    (slots : slot_at i p ≡ slot_at j q) where
  group_claim : Claim (group_entries ours g cs)
  group_claim = agreement_from g mode ours (λ place. lowest_picks_best) cs legal

  pub members_hold_equal_registers_from : register_of_member kept says i p ≡ register_of_member kept says j q
  members_hold_equal_registers_from = hold_equal_registers (group_entries ours g cs) group_claim kept says i j p q up-to-p up-to-q slots

  pub with_repeats_from : (one other : List CellEntry) → later_entries one ≡ later_entries (entries_for says i p)
      → later_entries other ≡ later_entries (entries_for says j q) → group_after kept one ≡ group_after kept other
  with_repeats_from = equal_with_repeats (group_entries ours g cs) group_claim kept says i j p q up-to-p up-to-q slots

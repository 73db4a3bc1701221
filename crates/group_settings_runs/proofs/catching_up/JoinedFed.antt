-- An office that was away joins two lists of its group, feeds what `join` hands back to its register, and holds the register that the others hold. That
-- lists which meet are joined is `joined_where_they_meet` (Runs.antt).
-- Assumes nothing.
use Rattle.std.proofs.Common.{◌≡◌, ◌∙◌, refl, sym, ap, ⊎_elim, inl, ℕ, ◌+◌, ◌-◌, ◌≤◌, ◌<◌, true, false, List, [], ◌∷◌, length, get_or, Ok, arith}
use lib.ListN.{get_or-eq_default}
use Rattle.basics.proofs.Tests.{either}
use Rattle.settings.specs.declared.Settings.{Settings}
use Rattle.register.specs.declared.CellEntry.{CellEntry}
use Rattle.catch_up.specs.Causes.{CommitList}
use Rattle.catch_up.specs.Joining.{first_slot, handed_back, Joins}
use Rattle.catch_up.proofs.Exact.{JoinOf}
use Rattle.catch_up.proofs.Deciding.{below, from_first}
use Rattle.catch_up.proofs.Indices.{stands_in, own_slot}
use Rattle.catch_up.proofs.Calls.{hands_join, hands_count, hands_fitting}
use Rattle.feeding.specs.Feeding.{Feeding, feeding}
use Rattle.feeding.specs.Registers.{FedList, cell_register}
use Rattle.feeding.proofs.FeedLaws.{not_fed_unmade}
use Rattle.feeding.proofs.JoinFed.{join_fed}
use Rattle.group_register.specs.Settings.{is_made}
use Rattle.group_register.specs.GroupRegister.{new_group_register, apply_in_group}
use Rattle.group_register.specs.GroupHistory.{group_after}
use Rattle.group_register.specs.declared.GroupApplied.{GroupApplied}
use Rattle.group_register.specs.declared.GroupRefusal.{GroupRefusal}
use Rattle.group_register.specs.declared.GroupRegister.{GroupRegister}
use Rattle.group_register.specs.declared.RegisterSettings.{RegisterSettings}
use Rattle.group_register.proofs.GroupLaws.{settings_after, unmade_left}
use Rattle.group.specs.Claim.{MemberCall, Entry, ours, entries, Legal, Claim, slot_at, NotSwift}
use Rattle.group.proofs.Agreement.{agreement}
use Rattle.group.proofs.Ties.{lowest_picks_best}
use Rattle.group_settings.specs.declared.GroupSettings.{GroupSettings}
use Rattle.group_settings_runs.specs.Groups.{group_entries, GroupLegal}
use Rattle.group_settings_runs.proofs.Agreeing.{agreement_from}
use Rattle.group_settings_runs.specs.registers.Members.{CellChange, entry_for_commit, entries_for, register_of_member, UpTo}
use Rattle.group_settings_runs.specs.catching_up.Runs.{FromRun, FedFromRun, FedAsSaid, JoinsAndFeeds}
use Rattle.group_settings_runs.proofs.catching_up.CatchUp.{member_next, feeder_holds}

-- a register that is not made stays as it was begun
stays_begun : (s : RegisterSettings) → is_made s ≡ false → (es : List CellEntry) → group_after s es ≡ new_group_register s
unfolding group_after
stays_begun s unmade [] = refl
stays_begun s unmade (e ∷ before) =
    ap (λ (g : GroupRegister). (apply_in_group g e).group) (stays_begun s unmade before)
    ∙ ap (λ (a : GroupApplied). a.group) (unmade_left s unmade (new_group_register s).register e)

-- a run that meets the claim
module _ (run : List Entry) (claim : Claim run) (kept : RegisterSettings) (says : ℕ → CellChange) (i j : ℕ) (p q : List Entry) (up-to-p : UpTo p run)
    (up-to-q : UpTo q run) where
  -- two lists of the run, joined in lent places, so that `count` entries are handed back, and what is fed of them
  module _ (a b places after : CommitList) (count : ℕ) (from-a : FromRun run a) (from-b : FromRun run b) (call : Joins a b places after (Ok count))
      (fed : FedList) (said : FedAsSaid says (handed_back count after) fed) where
    abbrev l : CommitList
    l = handed_back count after

    J : JoinOf a b l
    J = hands_join a b places after count call

    long : length l.slots ≡ count
    long = hands_count a b places after count call

    slots : fed.commits.slots ≡ l.slots
    slots = ap (λ (c : CommitList). c.slots) said.commits

    as_many : length fed.commits.slots ≡ count
    as_many = ap length slots ∙ long

    -- no slot is above 2^63−2, and so the slot where the join ends is none above 2^63−1
    ends_within : (end : ℕ) → first_slot l.slots + count ≡ end → end ≤ 9223372036854775807
    ends_within end ends = ⊎_elim some none (below 0 count)
      where
        none : count ≤ 0 → end ≤ 9223372036854775807
        none h = omega (arith, ends, get_or-eq_default l.slots 0 {n = 0} (omega (arith, long)))

        some : 0 < count → end ≤ 9223372036854775807
        some h =
            let k : ℕ = count - 1 in
            let inside : k < length l.slots = omega (arith, long) in
            let slot : get_or l.slots k 0 ≡ first_slot l.slots + k = from_first l.slots J.consecutive k inside in
            let same = J.same in
            let stands = stands_in l.slots l.values (record { slot = get_or l.slots k 0; value = get_or l.values k 0 }) (k, inside, omega (arith, inside, same), refl, refl) in
            let own = own_slot l.slots l.values _ stands in
            ⊎_elim (λ (t : 9223372036854775806 < get_or l.slots k 0). absurd (hands_fitting a b places after count call (inl (get_or l.slots k 0, own, t))))
            (λ (t : get_or l.slots k 0 ≤ 9223372036854775806). omega (arith, ends, slot))
            (below 9223372036854775806 (get_or l.slots k 0))

    row : (k : ℕ) → k < count → FedFromRun says run fed (first_slot l.slots) k
    row k h =
        let inside : k < length l.slots = omega (arith, long) in
        let slot : get_or l.slots k 0 ≡ first_slot l.slots + k = from_first l.slots J.consecutive k inside in
        let same = J.same in
        let v = get_or l.values k 0 in
        let stands = stands_in l.slots l.values (record { slot = first_slot l.slots + k; value = v }) (k, inside, omega (arith, inside, same), slot, refl) in (
          v,
          said.entries k inside ∙ ap (λ (n : ℕ). entry_for_commit says n v) slot,
          ⊎_elim (from-a (first_slot l.slots + k) v) (from-b (first_slot l.slots + k) v) ((J.holds _).0 stands),
        )

    abbrev Same : Type 0
    Same = (feeding cell_register (register_of_member kept says i p) fed).register ≡ register_of_member kept says j q

    -- The join begins no later than the next slot of office i, which was away since moment p, and ends where office j is.
    joined_holds : first_slot l.slots ≤ slot_at i p → slot_at i p ≤ slot_at j q → first_slot l.slots + count ≡ slot_at j q → Same
    joined_holds begins more ends = ⊎_elim if_made if_not (either (is_made kept))
      where
        within : slot_at j q ≤ 9223372036854775807
        within = ends_within (slot_at j q) ends

        if_made : is_made kept ≡ true → Same
        if_made made =
            let settings : is_made (register_of_member kept says i p).settings ≡ true = ap is_made (settings_after kept (entries_for says i p)) ∙ made in
            let next = member_next kept made says run claim i p up-to-p (omega (arith, more, within)) in
            let first : get_or fed.commits.slots 0 0 ≡ first_slot l.slots = ap (λ (n : List ℕ). get_or n 0 0) slots in
            let told = join_fed cell_register a b places after count call fed said.commits said.long (register_of_member kept says i p) settings (omega (arith, first, begins, next)) in
            feeder_holds run claim kept says i j p q up-to-p up-to-q fed (first_slot l.slots) (λ k h. row k (omega (arith, h, as_many))) begins
            more (omega (arith, ends, as_many)) within told.0 told.1

        if_not : is_made kept ≡ false → Same
        if_not unmade =
            let settings : is_made (register_of_member kept says i p).settings ≡ false = ap is_made (settings_after kept (entries_for says i p)) ∙ unmade in
            ap (λ (f : Feeding GroupRegister GroupRefusal). f.register) (not_fed_unmade cell_register (register_of_member kept says i p) fed settings)
            ∙ stays_begun kept unmade (entries_for says i p) ∙ sym (stays_begun kept unmade (entries_for says j q))

-- of every run that meets the claim
joiner_holds : (run : List Entry) → Claim run → (kept : RegisterSettings) (says : ℕ → CellChange) (i j : ℕ) (p q : List Entry) → JoinsAndFeeds kept says i j p q run
joiner_holds run claim kept says i j p q up-to-p up-to-q a b places after count from-a from-b call fed said =
    joined_holds run claim kept says i j p q up-to-p up-to-q a b places after count from-a from-b call fed said

-- of every legal run from the engine's settings
pub joins_and_feeds : (s : Settings) → NotSwift s.mode → (cs : List MemberCall) → Legal s cs → (kept : RegisterSettings) (says : ℕ → CellChange) (i j : ℕ)
    (p q : List Entry) → JoinsAndFeeds kept says i j p q (entries s cs)
joins_and_feeds s mode cs legal = joiner_holds (entries s cs) (agreement s mode cs legal)

-- and of every one from group settings, as hosts begin
pub joins_and_feeds_from : (g : GroupSettings) → NotSwift g.settings.mode → (cs : List MemberCall) → GroupLegal ours g cs
    → (kept : RegisterSettings) (says : ℕ → CellChange) (i j : ℕ) (p q : List Entry) → JoinsAndFeeds kept says i j p q (group_entries ours g cs)
joins_and_feeds_from g mode cs legal = joiner_holds (group_entries ours g cs) (agreement_from g mode ours (λ place. lowest_picks_best) cs legal)

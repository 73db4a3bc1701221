-- The legal run of crates/group_settings_runs/proofs/registers/Example.antt: member 2 has seen nothing yet, feeds the list of the one slot that the run commits, and then
-- holds the register that member 0 holds. Of the run of two slots in RunExample.antt it joins two lists that overlap, or two that touch, feeds the join, and
-- holds what member 0 holds. So the hypotheses of `holds_what_others_hold` and of `joins_and_feeds` hold together.
-- Assumes nothing.
use Rattle.std.proofs.Common.{◌≡◌, ◌∙◌, refl, sym, ap, subst, inr, ℕ, zero, suc, ◌<◌, List, [], ◌∷◌, length, get_or, None, Result, Ok, arith}
use lib.ListN.{replicate, length-replicate}
use Rattle.message.specs.declared.PFMode.TheVariants.{Paxos}
use Rattle.raster.specs.Raster.{frequency_of}
use Rattle.basics.specs.elements.Places.{at_front}
use Rattle.register.specs.Cells.{has_number, cell_inserted}
use Rattle.register.specs.Register.{assignable, assign, apply_change, apply}
use Rattle.register.specs.declared.CellEntry.{CellEntry}
use Rattle.register_arrays.specs.Columns.{change_of}
use Rattle.group_register.specs.Settings.{settings_from, settings_refusal}
use Rattle.group_register.specs.WholeMhz.{is_odd}
use Rattle.group_register.specs.GroupRegister.{gives_odd_width, apply_made, apply_in_group}
use Rattle.group_register.specs.GroupHistory.{group_after}
use Rattle.group_register.specs.declared.GroupRegister.{GroupRegister}
use Rattle.catch_up.specs.Causes.{CommitList}
use Rattle.catch_up.specs.Joining.{list_of, some_above, list_too_large, counts_from, first_slot, joining, lent, handed_back, JoinGives, Joins}
use Rattle.catch_up.specs.declared.JoinRefusal.{JoinRefusal}
use Rattle.feeding.specs.Feeding.{all_are, outside_fed, feed_checked, fed_entries_from, or_refused, feed_all, feeding}
use Rattle.feeding.specs.Registers.{FedList, fed_list_of, entry_in, cell_register}
use Rattle.group.specs.Claim.{Entry, entries, slot_at, CommitAt}
use Rattle.group.proofs.Agreement.{agreement}
use Rattle.group.proofs.Example.{three}
use Rattle.group_settings_runs.specs.registers.Members.{entry_for_commit, entries_for, register_of_member, UpTo}
use Rattle.group_settings_runs.proofs.registers.Agreeing.{whole, latest_commit}
use Rattle.group_settings_runs.proofs.registers.Example.{example_calls, says, run, calls_legal, all_assign_cell_7}
use Rattle.group_settings_runs.specs.catching_up.Runs.{FromRun, FedFromRun, FedAsSaid}
use Rattle.group_settings_runs.proofs.catching_up.RunExample.{first_slot_2_of_run as first, second_slot as second, both_slots as both, lists_of_run, overlapping, touching}
use Rattle.group_settings_runs.proofs.catching_up.CatchUp.{holds_what_others_hold}
use Rattle.group_settings_runs.proofs.catching_up.JoinedFed.{joins_and_feeds}

-- slot 0 with value 10, and beside it what the hosts say of that value
abbrev list : FedList
list = fed_list_of (0 ∷ []) (10 ∷ []) (1 ∷ []) (7 ∷ []) (630000 ∷ []) (20000 ∷ [])

nothing_yet : (es : List Entry) → UpTo [] es
nothing_yet [] = refl
nothing_yet (e ∷ es) = inr (nothing_yet es)

-- the run's commit in slot 0 is of value 10: member 0's entries are one, of that value
one_commit : CommitAt 0 10 run
one_commit =
    let last = latest_commit says run (agreement (three Paxos) tt example_calls calls_legal) 0 0 run (whole run) all_assign_cell_7.0 in
    let same : entry_for_commit says 0 last.value ∷ entries_for says 0 last.before ≡ entry_for_commit says 0 10 ∷ [] = sym last.is ∙ all_assign_cell_7.2 in
    let cell : (says last.value).cell ≡ 7 = ap first_cell same in
    subst (λ (v : ℕ). CommitAt 0 v run) (omega arith) last.commit
  where
    first_cell : List CellEntry → ℕ
    first_cell [] = 0
    first_cell (e ∷ es) = e.cell

rows : (k : ℕ) → k < length list.commits.slots → FedFromRun says run list 0 k
unfolding change_of
rows zero h = (10, refl, one_commit)
rows (suc k) h = absurd (omega arith)

-- the register that a member holds, of a group whose slot of whole MHz is 5
abbrev held : ℕ → List Entry → GroupRegister
held member past = register_of_member (settings_from 5) says member past

all_fed : (feeding cell_register (held 2 []) list).answer ≡ Ok None
unfolding settings_from settings_refusal feeding feed_checked list_too_large some_above outside_fed all_are counts_from fed_entries_from feed_all or_refused apply_in_group apply_made gives_odd_width is_odd apply apply_change assign assignable frequency_of change_of has_number cell_inserted at_front group_after entries_for
all_fed = refl

pub away_holds_the_same : (feeding cell_register (held 2 []) list).register ≡ held 0 run
away_holds_the_same =
    let at_one : slot_at 0 run ≡ 1 = all_assign_cell_7.0 in
    holds_what_others_hold (three Paxos) tt example_calls calls_legal (settings_from 5) says 2 0 [] run (nothing_yet run) (whole run) list 0 rows (omega arith)
    (omega arith) (sym at_one) (omega arith) None all_fed

-- ---- joined, then fed: two lists of the run of RunExample.antt, which commits two slots; member 2 has seen nothing yet, and member 0 has committed both

-- what is joined, and beside each value what the hosts say of it
abbrev fed : FedList
fed = fed_list_of (0 ∷ 1 ∷ []) (10 ∷ 20 ∷ []) (1 ∷ 1 ∷ []) (7 ∷ 17 ∷ []) (630000 ∷ 630000 ∷ []) (20000 ∷ 20000 ∷ [])

what_they_say : (i : ℕ) → i < 2 → entry_in fed i ≡ entry_for_commit says (get_or (0 ∷ 1 ∷ []) i 0) (get_or (10 ∷ 20 ∷ []) i 0)
unfolding change_of
what_they_say zero h = refl
what_they_say (suc zero) h = refl
what_they_say (suc (suc i)) h = absurd (omega arith)

module _ (places : CommitList) (room : lent places ≡ 8192) where
  abbrev after : CommitList
  after = list_of (at_front both.slots places.slots) (at_front both.values places.values)

  said : FedAsSaid says (handed_back 2 after) fed
  unfolding at_front
  said = record { commits = refl; long = (refl, (refl, (refl, (refl, tt)))); entries = what_they_say }

  begins : first_slot (handed_back 2 after).slots ≡ 0
  unfolding at_front
  begins = refl

  module _ (a b : CommitList) (join : joining a b 8192 ≡ Ok both) where
    call : Joins a b places after (Ok 2)
    call =
        subst (λ (r : Result CommitList JoinRefusal). JoinGives r places after (Ok 2)) (sym (ap (joining a b) room ∙ join))
        (record { answered = refl; slots = refl; values = refl })

    joined_and_fed : FromRun (entries (three Paxos) lists_of_run.0) a → FromRun (entries (three Paxos) lists_of_run.0) b
        → (feeding cell_register (held 2 []) fed).register ≡ held 0 (entries (three Paxos) lists_of_run.0)
    joined_and_fed from-a from-b =
        let all = entries (three Paxos) lists_of_run.0 in
        let at_two = lists_of_run.5 in
        joins_and_feeds (three Paxos) tt lists_of_run.0 lists_of_run.1 (settings_from 5) says 2 0 [] all (nothing_yet all) (whole all) a b places after 2 from-a
        from-b call fed said (omega (arith, begins)) (omega arith) (omega (arith, begins, at_two))

-- 8,192 places are lent
abbrev lent_places : CommitList
lent_places = list_of (replicate 8192 0) (replicate 8192 0)

room : lent lent_places ≡ 8192
room = let long : length {A = ℕ} (replicate 8192 0) ≡ 8192 = length-replicate {A = ℕ} 8192 0 in omega (arith, long)

-- the lists overlap, or touch
pub away_joins_overlapping : (feeding cell_register (held 2 []) fed).register ≡ held 0 (entries (three Paxos) lists_of_run.0)
away_joins_overlapping = joined_and_fed lent_places room first both overlapping lists_of_run.2 lists_of_run.4

pub away_joins_touching : (feeding cell_register (held 2 []) fed).register ≡ held 0 (entries (three Paxos) lists_of_run.0)
away_joins_touching = joined_and_fed lent_places room second first touching lists_of_run.3 lists_of_run.2

-- it has both cells
pub both_assigned : (feeding cell_register (held 2 []) fed).register.register.live_count ≡ 2
unfolding settings_from settings_refusal feeding feed_checked list_too_large some_above outside_fed all_are counts_from fed_entries_from feed_all or_refused apply_in_group apply_made gives_odd_width is_odd apply apply_change assign assignable frequency_of change_of has_number cell_inserted at_front group_after entries_for
both_assigned = refl

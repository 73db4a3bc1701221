-- The legal run of crates/group/proofs/Example.antt: two lists of its commits that overlap, two that touch, and their joins, computed. So the hypotheses
-- of `never_two_values` hold together, and those of `joins_and_feeds` do at this run too (CatchUpExample.antt).
-- Assumes nothing.
use Rattle.std.specs.Prelude.{cond, Ok, Err}
use mathlib.Core.Path.{◌≡◌, refl, sym, ap, subst, ◌∙◌}
use mathlib.Core.Logic.{inl, inr}
use mathlib.Core.Bool.{Bool, false}
use mathlib.Core.List.{List, [], ◌∷◌}
use Prim.Native.Nat.{ℕ}
use lib.Dec.{eqb}
use Rattle.basics.specs.Lists.{In}
use Rattle.message.specs.declared.PFMode.TheVariants.{Paxos}
use Rattle.catch_up.specs.Causes.{CommitList, ListedCommit, beside}
use Rattle.catch_up.specs.Joining.{list_of, some_above, list_too_large, counts_from, outside, differ, in_order, joining}
use Rattle.catch_up.specs.declared.JoinRefusal.TheVariants.{TwoValues}
use Rattle.group.specs.Claim.{MemberCall, Entry, entries, ours, Legal, plus_commit, slot_at, CommitAt}
use Rattle.group.proofs.Ties.{lowest_picks_best}
use Rattle.group.proofs.Example.{three, MemberCommit, commits_of_entries, member_commit, example_commits, example_legal}
use Rattle.group_settings_runs.specs.catching_up.Runs.{FromRun}
use Rattle.group_settings_runs.proofs.catching_up.Runs as runs

-- a commit among those of a run's entries
listed_commit : (run : List Entry) (i slot v : ℕ) (fast : Bool) → In (member_commit i slot v fast) (commits_of_entries run) → CommitAt slot v run
listed_commit [] i slot v fast m = absurd m
listed_commit (e ∷ es) i slot v fast (inl m) =
    record { entry = e; earlier = es; stands = inl (refl, refl); fast = fast; commit = sym (ap (λ (c : MemberCommit). c.commit) m) }
listed_commit (e ∷ es) i slot v fast (inr m) =
    let c = listed_commit es i slot v fast m in
    record { entry = c.entry; earlier = c.earlier; stands = inr c.stands; fast = c.fast; commit = c.commit }

abbrev pub first_slot_2_of_run : CommitList
first_slot_2_of_run = list_of (0 ∷ []) (10 ∷ [])

abbrev pub second_slot : CommitList
second_slot = list_of (1 ∷ []) (20 ∷ [])

abbrev pub both_slots : CommitList
both_slots = list_of (0 ∷ 1 ∷ []) (10 ∷ 20 ∷ [])

module _ (run : List Entry) (first : CommitAt 0 10 run) (second : CommitAt 1 20 run) where
  as_entry : (slot v n w : ℕ) → CommitAt n w run → ◌≡◌ {A = ListedCommit} (record { slot = slot; value = v }) (record { slot = n; value = w }) → CommitAt slot v run
  as_entry slot v n w c e = subst (λ (x : ListedCommit). CommitAt x.slot x.value run) (sym e) c

  from_first : FromRun run first_slot_2_of_run
  unfolding beside
  from_first slot v (inl e) = as_entry slot v 0 10 first e
  from_first slot v (inr e) = absurd e

  from_second : FromRun run second_slot
  unfolding beside
  from_second slot v (inl e) = as_entry slot v 1 20 second e
  from_second slot v (inr e) = absurd e

  from_both : FromRun run both_slots
  unfolding beside
  from_both slot v (inl e) = as_entry slot v 0 10 first e
  from_both slot v (inr (inl e)) = as_entry slot v 1 20 second e
  from_both slot v (inr (inr e)) = absurd e

-- member 2's commits of the two slots
in_run : (run : List Entry) (l : List MemberCommit) → commits_of_entries run ≡ l → In (member_commit 2 0 10 false) l → In (member_commit 2 1 20 false) l → CommitAt 0 10 run × CommitAt 1 20 run
in_run run l e first second =
    (listed_commit run 2 0 10 false (subst (In (member_commit 2 0 10 false)) (sym e) first), listed_commit run 2 1 20 false (subst (In (member_commit 2 1 20 false)) (sym e) second))

-- a member's slot, from the commits
abbrev slot_in : ℕ → List MemberCommit → ℕ
slot_in member [] = 0
slot_in member (c ∷ cs) = cond (eqb member c.member) (plus_commit c.commit (slot_in member cs)) (slot_in member cs)

slot_read : (member : ℕ) (run : List Entry) (l : List MemberCommit) → commits_of_entries run ≡ l → slot_at member run ≡ slot_in member l
slot_read member run l e = by_entries run ∙ ap (slot_in member) e
  where
    by_entries : (run : List Entry) → slot_at member run ≡ slot_in member (commits_of_entries run)
    by_entries [] = refl
    by_entries (e ∷ es) = ap (λ (n : ℕ). cond (eqb member e.member) (plus_commit e.reply.commit n) n) (by_entries es)

-- a legal run, lists of its commits, and member 0, which commits both slots
pub lists_of_run : (calls : List MemberCall) × Legal (three Paxos) calls
    × FromRun (entries (three Paxos) calls) first_slot_2_of_run × FromRun (entries (three Paxos) calls) second_slot × FromRun (entries (three Paxos) calls) both_slots
    × (slot_at 0 (entries (three Paxos) calls) ≡ 2)
lists_of_run =
    let c = in_run _ _ example_commits (inr (inr (inr (inr (inr (inr (inr (inl refl)))))))) (inl refl) in
    (_, example_legal, from_first _ c.0 c.1, from_second _ c.0 c.1, from_both _ c.0 c.1, slot_read 0 _ _ example_commits)

-- they overlap, or touch
pub overlapping : joining first_slot_2_of_run both_slots 8192 ≡ Ok both_slots
unfolding joining list_too_large some_above outside counts_from in_order differ
overlapping = refl

pub touching : joining second_slot first_slot_2_of_run 8192 ≡ Ok both_slots
unfolding joining list_too_large some_above outside counts_from in_order differ
touching = refl

pub example_never : joining first_slot_2_of_run both_slots 8192 ≡ Err TwoValues → ⊥
example_never =
    let l = lists_of_run in
    runs.never_two_values (three Paxos) tt ours (λ place. lowest_picks_best) l.0 l.1 first_slot_2_of_run both_slots l.2 l.4 8192

-- A member's slot in the shard is the number of its commits, and each commit is of its member's slot: in every mode, with every settings and
-- after every list of calls, legal or not.
-- Assumes nothing.
use Rattle.std.specs.Prelude.{Option}
use Rattle.calls.specs.declared.CommittedSlot.{CommittedSlot}
use mathlib.Core.Path.{◌≡◌, refl, sym, ap, subst, ◌∙◌}
use mathlib.Core.Logic.{inl, inr}
use mathlib.Core.Bool.{Bool, true, false, cond}
use mathlib.Core.List.{List, [], ◌∷◌}
use Prim.Native.Nat.{ℕ}
use lib.Dec.{T, eqb, eqb→eq}
use Rattle.basics.proofs.Tests.{of-both}
use Rattle.settings.specs.declared.Settings.{Settings}
use Rattle.fast_state.specs.Adopt.{ProposerChoice}
use Rattle.consensus.specs.Call.{new_shard, call_with}
use Rattle.consensus.specs.declared.Shard.{Shard}
use Rattle.group.specs.Claim.{member_settings, begun, ProposerChoices, later_choices, MemberCall, Entry, entry_of, after_call, entries_from, entries_with, At, plus_commit, slot_at, CommitAt, entries_made}
use Rattle.group.specs.Steps.{shards_made}
use Rattle.group.proofs.Invariants.{Lasts, CommitOfSlot, CallLasts, begun_lasts, call_lasts, shards_after}

abbrev slot_of : Shard → ℕ
slot_of shard = shard.state.rounds.core.slot

-- each commit of the entries is of its member's slot
abbrev OwnSlots : List Entry → Type 0
OwnSlots past = (slot v : ℕ) (c : CommitAt slot v past) → slot ≡ slot_at c.entry.member c.earlier

-- what a run keeps
record Counted (shards : ℕ → Shard) (past : List Entry) : Type 0 where
  lasting : (i : ℕ) → Lasts (shards i)
  slots : (i : ℕ) → slot_of (shards i) ≡ slot_at i past
  own_slots : OwnSlots past

call_counted : (choose : ProposerChoice) (shards : ℕ → Shard) (past : List Entry) → Counted shards past → (c : MemberCall) → Counted (after_call choose shards c) (entry_of choose shards c ∷ past)
call_counted choose shards past k c =
    record {
      lasting = λ j. of-both Lasts (eqb j c.member) left.lasts (k.lasting j);
      slots = λ j. go j (eqb j c.member) (eqb→eq j c.member);
      own_slots = own;
    }
  where
    old : Shard
    old = shards c.member

    left : CallLasts old (call_with choose old c.call)
    left = call_lasts choose old (k.lasting c.member) c.call

    commit : Option CommittedSlot
    commit = (call_with choose old c.call).reply.commit

    go : (j : ℕ) (t : Bool) → (T t → j ≡ c.member)
        → slot_of (cond t (call_with choose old c.call).shard (shards j)) ≡ cond t (plus_commit commit (slot_at j past)) (slot_at j past)
    go j true e = left.slot_moves ∙ ap (plus_commit commit) (k.slots c.member ∙ ap (λ (i : ℕ). slot_at i past) (sym (e tt)))
    go j false e = k.slots j

    own : OwnSlots (entry_of choose shards c ∷ past)
    own slot v m = at m.stands
      where
        at : At m.entry m.earlier (entry_of choose shards c ∷ past) → slot ≡ slot_at m.entry.member m.earlier
        at (inl e) =
            subst (CommitOfSlot (slot_of old)) (sym (ap (λ (x : Entry). x.reply.commit) e.0) ∙ m.commit) left.of_own_slot
            ∙ k.slots c.member ∙ sym (ap (λ (x : Entry). slot_at x.member past) e.0) ∙ ap (slot_at m.entry.member) (sym e.1)
        at (inr h) = k.own_slots slot v (record { entry = m.entry; earlier = m.earlier; stands = h; fast = m.fast; commit = m.commit })

run_counted : (choices : ProposerChoices) (shards : ℕ → Shard) (past : List Entry) → Counted shards past → (cs : List MemberCall)
    → Counted (shards_after choices shards cs) (entries_from choices shards past cs)
unfolding shards_made entries_made
run_counted choices shards past k [] = k
run_counted choices shards past k (c ∷ cs) =
    run_counted (later_choices choices) (after_call (choices 0) shards c) (entry_of (choices 0) shards c ∷ past) (call_counted (choices 0) shards past k c) cs

module _ (choices : ProposerChoices) (s : Settings) (cs : List MemberCall) where
  counted : Counted (shards_after choices (begun s) cs) (entries_with choices s cs)
  unfolding new_shard
  counted = run_counted choices (begun s) [] (record { lasting = λ i. begun_lasts (member_settings s i); slots = λ i. refl; own_slots = λ slot v c. absurd c.stands }) cs

  -- After every list of calls each shard's slot is the number of commits that its member's calls handed back.
  pub slot_counts_commits : (i : ℕ) → (shards_after choices (begun s) cs i).state.rounds.core.slot ≡ slot_at i (entries_with choices s cs)
  slot_counts_commits i = counted.slots i

  -- Each commit names its member's slot, as in the third part of the claim, whatever the mode.
  pub commits_are_of_own_slot : (slot v : ℕ) (c : CommitAt slot v (entries_with choices s cs)) → slot ≡ slot_at c.entry.member c.earlier
  commits_are_of_own_slot slot v c = counted.own_slots slot v c

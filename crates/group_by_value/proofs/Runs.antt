-- The runs of a group by value are those of the claim. So demand 3 holds of what `Group::call` hands back.
-- Assumes nothing.
use mathlib.Core.Path.{◌≡◌, refl, sym, ap, subst, ◌∙◌}
use mathlib.Core.Logic.{◌⊎◌, inl, inr}
use mathlib.Core.Bool.{Bool, true, false, cond}
use mathlib.Core.List.{List, [], ◌∷◌}
use Prim.Native.Nat.{ℕ, zero, suc, ◌≤◌, ◌<◌}
use native.Mathlib.Nat.{not-suc-le-zero, lt_of_lt_of_le}
use native.Mathlib.Omega.{arith}
use lib.Dec.{eqb}
use lib.ListN.{length, get_or, length-set, length-replicate}
use borrow.Author.Tests.{lt-ltb, eqb-true, eqb-false}
use Rattle.basics.proofs.Places.{get_set}
use Rattle.basics.proofs.Tests.{either}
use Rattle.settings.specs.declared.Settings.{Settings}
use Rattle.fast_state.specs.Adopt.{lowest_best}
use Rattle.consensus.specs.Call.{call_of}
use Rattle.calls.specs.declared.Call.{Call}
use Rattle.consensus.specs.declared.Shard.{Shard}
use Rattle.group.specs.Claim.{begun, ours, MemberCall, Entry, entry_of, after_call, entries_from, entries, LegalFrom, Legal, Claim, NotSwift, LegalMade, entries_made}
use Rattle.group_by_value.specs.Group.{new_members, new_group, shard_at, replaced, called, log_from, log_of}
use Rattle.group_by_value.specs.declared.Group.{Group}
use Rattle.group_by_value.specs.declared.GroupAnswer.{GroupAnswer}
use Rattle.group.proofs.Agreement.{agreement}

-- ---- a new group

new_length : (s : Settings) (n : ℕ) → length (new_members s n) ≡ 64
unfolding new_members
new_length s zero = length-replicate 64 (begun s 0)
new_length s (suc n) = length-set (new_members s n) n (begun s n) ∙ new_length s n

new_member : (s : Settings) (d : Shard) (n : ℕ) → n ≤ 64 → (j : ℕ) → j < n → get_or (new_members s n) j d ≡ begun s j
unfolding new_members
new_member s d zero h j k = absurd (not-suc-le-zero k)
new_member s d (suc n) h j k = get_set (new_members s n) n j (begun s n) d below ∙ go (λ m. new_member s d n (omega arith) j m) (either (eqb j n))
  where
    below : n < length (new_members s n)
    below = subst (λ (m : ℕ). n < m) (sym (new_length s n)) h

    go : (j < n → get_or (new_members s n) j d ≡ begun s j) → (eqb j n ≡ true) ⊎ (eqb j n ≡ false) → cond (eqb j n) (begun s n) (get_or (new_members s n) j d) ≡ begun s j
    go ih (inl e) = ap (λ (t : Bool). cond t (begun s n) (get_or (new_members s n) j d)) e ∙ ap (begun s) (sym (eqb-true j n e))
    go ih (inr e) = let other : j ≡ n → ⊥ = eqb-false j n e in ap (λ (t : Bool). cond t (begun s n) (get_or (new_members s n) j d)) e ∙ ih (omega arith)

-- ---- runs

module _ (d : Shard) where
  -- the group has 64 places, and in them the shards of the run
  record Same (g : Group) (shards : ℕ → Shard) : Type 0 where
    long : length g.members ≡ 64
    shard : (i : ℕ) → i < 64 → shard_at d g i ≡ shards i

  new_same : (s : Settings) → Same (new_group s) (begun s)
  new_same s = record { long = new_length s 64; shard = λ i h. new_member s d 64 (omega arith) i h }

  called_member : (g : Group) (i : ℕ) (c : Call) → i < 64 → called d g i c ≡ replaced g i (call_of (shard_at d g i) c)
  unfolding called
  called_member g i c h = simp (lt-ltb _ _ h)

  call_same : (g : Group) (shards : ℕ → Shard) → Same g shards → (c : MemberCall) → c.member < 64
      → Same (called d g c.member c.call).group (after_call lowest_best shards c)
  call_same g shards k c h =
      subst (λ (r : GroupAnswer). Same r.group (after_call lowest_best shards c)) (sym (called_member g c.member c.call h))
      (record {
        long = length-set g.members c.member (call_of (shard_at d g c.member) c.call).shard ∙ k.long;
        shard = λ j b.
            get_set g.members c.member j (call_of (shard_at d g c.member) c.call).shard d (subst (λ (n : ℕ). c.member < n) (sym k.long) h)
            ∙ ap (λ (x : Shard). cond (eqb j c.member) (call_of x c.call).shard (shard_at d g j)) (k.shard c.member h)
            ∙ ap (cond (eqb j c.member) (call_of (shards c.member) c.call).shard) (k.shard j b);
      })

  call_entry : (g : Group) (shards : ℕ → Shard) → Same g shards → (c : MemberCall) → c.member < 64
      → record { member = c.member; call = c.call; reply = (called d g c.member c.call).reply } ≡ entry_of lowest_best shards c
  call_entry g shards k c h =
      ap (λ (r : GroupAnswer). record { member = c.member; call = c.call; reply = r.reply }) (called_member g c.member c.call h)
      ∙ ap (λ (x : Shard). record { member = c.member; call = c.call; reply = (call_of x c.call).reply }) (k.shard c.member h)

  run_same : (n : ℕ) → n ≤ 64 → (g : Group) (shards : ℕ → Shard) → Same g shards → (past : List Entry) (cs : List MemberCall) → LegalFrom n ours shards past cs
      → log_from d g past cs ≡ entries_from ours shards past cs
  unfolding log_from entries_made LegalMade
  run_same n few g shards k past [] l = refl
  run_same n few g shards k past (c ∷ cs) l =
      let h : c.member < 64 = lt_of_lt_of_le l.0 few in
      ap (λ (e : Entry). log_from d (called d g c.member c.call).group (e ∷ past) cs) (call_entry g shards k c h)
      ∙ run_same n few (called d g c.member c.call).group (after_call lowest_best shards c) (call_same g shards k c h) (entry_of lowest_best shards c ∷ past) cs l.2

  -- The log of a group by value, of at most 64 members, is the run's.
  pub log_is_run : (s : Settings) → s.process_count ≤ 64 → (cs : List MemberCall) → Legal s cs → log_of d s cs ≡ entries s cs
  log_is_run s few cs legal = run_same s.process_count few (new_group s) (begun s) (new_same s) [] cs legal

  -- Demand 3 of the code: what `Group::new` and `Group::call` hand back over a legal list meets the claim.
  pub group_agreement : (s : Settings) → s.process_count ≤ 64 → NotSwift s.mode → (cs : List MemberCall) → Legal s cs → Claim (log_of d s cs)
  group_agreement s few claimed cs legal = subst Claim (sym (log_is_run s few cs legal)) (agreement s claimed cs legal)

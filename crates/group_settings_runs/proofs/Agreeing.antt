-- Demand 3 of a group that is begun from group settings: its shards are those that the claim begins with, or none is made, and then there is no commit.
-- Assumes nothing.
use Rattle.std.specs.Prelude.{Option, None, Ok, Err}
use Rattle.message.specs.Outcomes.{Outcome}
use Rattle.calls.specs.declared.CommittedSlot.{CommittedSlot}
use mathlib.Core.Path.{◌≡◌, refl, sym, ap, subst, fun_ext, ◌∙◌}
use mathlib.Core.Logic.{◌⊎◌, inl, inr}
use mathlib.Core.Bool.{Bool, true, false, cond, ◌&&◌}
use mathlib.Core.List.{List, [], ◌∷◌}
use Prim.Native.Nat.{ℕ}
use native.Mathlib.Omega.{arith}
use lib.Dec.{eqb, leb}
use Rattle.basics.proofs.Tests.{either, of-both}
use Rattle.message.specs.declared.Refusal.{Refusal}
use Rattle.message.specs.declared.Refusal.TheVariants.{SettingsOutsideLimits}
use Rattle.fast_state.specs.Adopt.{ProposerChoice}
use Rattle.settings.specs.Settings.{within_limits}
use Rattle.consensus.specs.Call.{new_shard, new_state}
use Rattle.consensus.specs.declared.Answer.{Answer}
use Rattle.consensus.specs.declared.Shard.{Shard}
use Rattle.consensus.proofs.Refusals.{unmade_refuses}
use Rattle.group.specs.Claim.{member_settings, begun, ProposerChoices, later_choices, MemberCall, Entry, entry_of, after_call, entries_from, LegalFrom, At, plus_commit, CommitAt, Claim, NotSwift, PicksBest, entries_made}
use Rattle.group.proofs.Agreement.{agreement_ties}
use Rattle.windows.specs.Windows.{check_windows}
use Rattle.group_settings.specs.GroupSettings.{windows_outcome, settings_outcome}
use Rattle.group_settings.specs.declared.GroupSettings.{GroupSettings}
use Rattle.group_shard.specs.Begin.{begin_shard}
use Rattle.group_settings_runs.specs.Groups.{begun_from, group_entries, GroupLegal}

abbrev Unmade : Shard → Type 0
Unmade shard = (why : Refusal) × (shard.made ≡ Err why)

-- ---- the shards at the start

-- what the settings lead to, by whether the engine's are within the limits, whether the slot is, and what the windows give
abbrev outcome_for : Bool → Bool → Outcome → Outcome
outcome_for within early windows = cond (within && early) windows (Err SettingsOutsideLimits)

in_time : (t u : Bool) → u ≡ true → outcome_for t u (Ok tt) ≡ cond t (Ok tt) (Err SettingsOutsideLimits)
in_time true u e = ap (λ (early : Bool). outcome_for true early (Ok tt)) e
in_time false u e = refl

too_late : (t u : Bool) (windows : Outcome) → u ≡ false → outcome_for t u windows ≡ Err SettingsOutsideLimits
too_late true u windows e = ap (λ (early : Bool). outcome_for true early windows) e
too_late false u windows e = refl

unfitting : (t u : Bool) (why : Refusal) → (first : Refusal) × (outcome_for t u (Err why) ≡ Err first)
unfitting true true why = (why, refl)
unfitting true false why = (SettingsOutsideLimits, refl)
unfitting false u why = (SettingsOutsideLimits, refl)

module _ (g : GroupSettings) where
  abbrev early : Bool
  early = leb g.whole_mhz_from 9223372036854775806

  abbrev within : ℕ → Bool
  within i = within_limits (member_settings g.settings i)

  abbrev marked : Outcome → ℕ → Shard
  marked o i = record { made = o; settings = member_settings g.settings i; state = new_state (member_settings g.settings i) }

  abbrev unmade_from : Outcome → Type 0
  unmade_from windows = (i : ℕ) → Unmade (marked (outcome_for (within i) early windows) i)

  -- Where the slot is within its limit and the windows are made they are those of the claim.
  shards_in_time : early ≡ true → (λ i. marked (outcome_for (within i) early (Ok tt)) i) ≡ begun g.settings
  unfolding new_shard
  shards_in_time e = fun_ext (λ i. ap (λ (o : Outcome). marked o i) (in_time (within i) early e))

  pub begun_in_time : early ≡ true → windows_outcome (check_windows g.windows) ≡ Ok tt → begun_from g ≡ begun g.settings
  unfolding begin_shard settings_outcome
  begun_in_time e w =
      ap {B = ℕ → Shard} (λ (windows : Outcome) (i : ℕ). marked (outcome_for (within i) early windows) i) w ∙ shards_in_time e

  -- Those of the claim, or none is made.
  pub begun_or_unmade : (begun_from g ≡ begun g.settings) ⊎ ((i : ℕ) → Unmade (begun_from g i))
  unfolding begin_shard settings_outcome
  begun_or_unmade = go (either early) (windows_outcome (check_windows g.windows))
    where
      go : (early ≡ true) ⊎ (early ≡ false) → (windows : Outcome)
          → ((λ i. marked (outcome_for (within i) early windows) i) ≡ begun g.settings) ⊎ unmade_from windows
      go (inl e) (Ok tt) = inl (shards_in_time e)
      go (inl e) (Err why) = inr (λ i. unfitting (within i) early why)
      go (inr e) windows = inr (λ i. (SettingsOutsideLimits, too_late (within i) early windows e))

-- ---- a group of which no shard is made

abbrev NoCommits : List Entry → Type 0
NoCommits [] = Unit {0}
NoCommits (e ∷ es) = (e.reply.commit ≡ None) × NoCommits es

unmade_after : (choose : ProposerChoice) (shards : ℕ → Shard) → ((i : ℕ) → Unmade (shards i)) → (c : MemberCall) (j : ℕ) → Unmade (after_call choose shards c j)
unmade_after choose shards all c j =
    let (why, e) = all c.member in
    of-both Unmade (eqb j c.member) (subst (λ (r : Answer). Unmade r.shard) (sym (unmade_refuses choose (shards c.member) c.call why e)) (why, e)) (all j)

no_commits : (choices : ProposerChoices) (shards : ℕ → Shard) → ((i : ℕ) → Unmade (shards i)) → (past : List Entry) → NoCommits past → (cs : List MemberCall)
    → NoCommits (entries_from choices shards past cs)
unfolding entries_made
no_commits choices shards all past none [] = none
no_commits choices shards all past none (c ∷ cs) =
    let (why, e) = all c.member in
    no_commits (later_choices choices) (after_call (choices 0) shards c) (unmade_after (choices 0) shards all c) (entry_of (choices 0) shards c ∷ past)
    (ap (λ (r : Answer). r.reply.commit) (unmade_refuses (choices 0) (shards c.member) c.call why e), none) cs

none_stands : (slot v : ℕ) (run : List Entry) → NoCommits run → CommitAt slot v run → ⊥
none_stands slot v run none c = go run none c.stands
  where
    go : (es : List Entry) → NoCommits es → At c.entry c.earlier es → ⊥
    go [] n stands = stands
    go (e ∷ es) (n, ns) (inl (same, _)) =
        let z : ◌≡◌ {A = ℕ} 0 1 = ap (λ (o : Option CommittedSlot). plus_commit o 0) (sym n ∙ ap (λ (x : Entry). x.reply.commit) (sym same) ∙ c.commit) in omega arith
    go (e ∷ es) (n, ns) (inr later) = go es ns later

none_claim : (run : List Entry) → NoCommits run → Claim run
none_claim run none =
    record {
      agree = λ slot v slot' v' c d. absurd (none_stands slot v run none c);
      proposed = λ slot v c. absurd (none_stands slot v run none c);
      own_slot = λ slot v c. absurd (none_stands slot v run none c);
    }

-- ---- the law

-- In every mode but SwiftPaxos, every legal list of calls on a group that is begun from group settings meets the claim, whichever of the best each adoption takes.
pub agreement_from : (g : GroupSettings) → NotSwift g.settings.mode → (choices : ProposerChoices) → ((place : ℕ) → PicksBest (choices place)) → (cs : List MemberCall)
    → GroupLegal choices g cs → Claim (group_entries choices g cs)
agreement_from g claimed choices best cs legal = go (begun_or_unmade g)
  where
    go : (begun_from g ≡ begun g.settings) ⊎ ((i : ℕ) → Unmade (begun_from g i)) → Claim (group_entries choices g cs)
    go (inl same) =
        subst (λ (shards : ℕ → Shard). Claim (entries_from choices shards [] cs)) (sym same)
        (agreement_ties g.settings claimed choices best cs (subst (λ (shards : ℕ → Shard). LegalFrom g.settings.process_count choices shards [] cs) same legal))
    go (inr all) = none_claim (group_entries choices g cs) (no_commits choices (begun_from g) all [] tt cs)

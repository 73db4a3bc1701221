-- Demand 3 of hosts that lend arrays: what a host reads of a call is the reply of the call, and so what the hosts of a group are told over a legal list of
-- calls is a run of the claim.
-- Assumes nothing.
use Rattle.std.specs.Prelude.{◌↔◌}
use mathlib.Core.Path.{◌≡◌, refl, sym, ap, subst, ◌∙◌}
use mathlib.Core.Bool.{Bool, true, false, cond}
use mathlib.Core.List.{List, [], ◌∷◌}
use Prim.Native.Nat.{ℕ, ◌<◌}
use lib.Dec.{eqb}
use Rattle.calls.specs.declared.Reply.{Reply}
use Rattle.consensus.specs.Call.{call_of}
use Rattle.consensus.specs.declared.Shard.{Shard}
use Rattle.direct.specs.Direct.{Serving, with_serving}
use Rattle.direct.specs.handlers.Handled.{put_reply}
use Rattle.direct.specs.declared.handlers.ReplyInArrays.{ReplyInArrays}
use Rattle.fast_state.specs.Adopt.{lowest_best}
use Rattle.group.specs.Claim.{ours, MemberCall, Entry, after_call, entry_of, entries_from, LegalFrom, Claim, LegalMade, entries_made}
use Rattle.group.proofs.Ties.{lowest_picks_best}
use Rattle.group_settings.specs.declared.GroupSettings.{GroupSettings}
use Rattle.group_settings_runs.specs.Groups.{begun_from, GroupLegal}
use Rattle.group_settings_runs.proofs.Agreeing.{agreement_from}
use Rattle.flat.specs.declared.FlatCall.{FlatCall}
use Rattle.direct_calls.specs.Runs.{Memory, shard_of, call_in, told_by, call_by_host, HostCall, memories_after, calls_from}
use Rattle.direct_calls.specs.Told.{told_entry, told_from, HostLegal, MemoriesBegin, HostAgreement}
use Rattle.direct_calls.proofs.Runs.{host_is_call}

-- ---- a call

-- a host reads the reply of the call on the shard that its memory stood for
pub host_is_told : (m : Memory) (f : FlatCall) (w : ReplyInArrays) → told_by (call_by_host m f w) ≡ (call_of (shard_of m) (call_in m f)).reply
host_is_told m f w = (host_is_call m f w).told

-- What is written of a reply leaves the number in front of it, which is the host's to write.
pub outcome_left : (r : Reply) (w : ReplyInArrays) → (put_reply r w).outcome ≡ w.outcome
unfolding put_reply
outcome_left r w = refl

pub outcome_left_by_reads : {Half : Type 0} (half : Half) (w : ReplyInArrays) (v : Serving) → (with_serving half w v).reply.outcome ≡ w.outcome
outcome_left_by_reads half w v = refl

-- ---- runs

-- the memory of each member of a group of n stands for its shard
abbrev MembersStand : ℕ → (ℕ → Memory) → (ℕ → Shard) → Type 0
MembersStand n memories shards = (j : ℕ) → j < n → shard_of (memories j) ≡ shards j

module _ (n : ℕ) (shards : ℕ → Shard) (memories : ℕ → Memory) (same : MembersStand n memories shards) (c : HostCall) (member : c.member < n) where
  abbrev made_call : MemberCall
  made_call = record { member = c.member; call = call_in (memories c.member) c.call.call }

  told_is_entry : told_entry memories c ≡ entry_of lowest_best shards made_call
  told_is_entry =
      ap (λ (r : Reply). record { member = c.member; call = made_call.call; reply = r })
      (host_is_told (memories c.member) c.call.call c.call.reply_before ∙ ap (λ (s : Shard). (call_of s made_call.call).reply) (same c.member member))

  next_same : MembersStand n (memories_after memories c) (after_call lowest_best shards made_call)
  next_same j inside = go (eqb j c.member)
    where
      go : (t : Bool)
          → shard_of (cond t (call_by_host (memories c.member) c.call.call c.call.reply_before).memory (memories j))
          ≡ cond t (call_of (shards c.member) made_call.call).shard (shards j)
      go true = (host_is_call (memories c.member) c.call.call c.call.reply_before).stands ∙ ap (λ (s : Shard). (call_of s made_call.call).shard) (same c.member member)
      go false = same j inside

-- what the hosts are told, begun with some entries, is the run of the claim, begun with others, whose calls are legal
abbrev IsRun : ℕ → (ℕ → Shard) → (ℕ → Memory) → List Entry → List Entry → List HostCall → Type 0
IsRun n shards memories told past cs =
    (told_from memories told cs ≡ entries_from ours shards past (calls_from memories cs)) × LegalFrom n ours shards past (calls_from memories cs)

told_is_run : (n : ℕ) (shards : ℕ → Shard) (memories : ℕ → Memory) → MembersStand n memories shards → (past : List Entry) (cs : List HostCall)
    → HostLegal n memories past cs → IsRun n shards memories past past cs
unfolding LegalMade entries_made calls_from
told_is_run n shards memories same past [] legal = (refl, tt)
told_is_run n shards memories same past (c ∷ cs) (member, stands, rest) =
    let call : MemberCall = made_call n shards memories same c member in
    let next : IsRun n (after_call lowest_best shards call) (memories_after memories c) (told_entry memories c ∷ past) (entry_of lowest_best shards call ∷ past) cs =
    subst
    (λ (e : Entry). IsRun n (after_call lowest_best shards call) (memories_after memories c) (told_entry memories c ∷ past) (e ∷ past) cs)
    (told_is_entry n shards memories same c member)
    (told_is_run n (after_call lowest_best shards call) (memories_after memories c) (next_same n shards memories same c member) (told_entry memories c ∷ past) cs
    rest) in
    (next.0, (member, stands, next.1))

-- and the other way round: where the list of the calls is legal, it is legal by what the hosts are told
legal_by_told : (n : ℕ) (shards : ℕ → Shard) (memories : ℕ → Memory) → MembersStand n memories shards → (past : List Entry) (cs : List HostCall)
    → LegalFrom n ours shards past (calls_from memories cs) → HostLegal n memories past cs
unfolding LegalMade calls_from
legal_by_told n shards memories same past [] legal = tt
legal_by_told n shards memories same past (c ∷ cs) (member, stands, rest) =
    let call : MemberCall = made_call n shards memories same c member in (
      member,
      stands,
      legal_by_told n (after_call lowest_best shards call) (memories_after memories c) (next_same n shards memories same c member) (told_entry memories c ∷ past) cs
          (subst
          (λ (e : Entry). LegalFrom n ours (after_call lowest_best shards call) (e ∷ past) (calls_from (memories_after memories c) cs))
          (sym (told_is_entry n shards memories same c member))
          rest),
    )

pub host_agreement : HostAgreement
host_agreement g claimed memories new cs legal =
    let run = told_is_run g.settings.process_count (begun_from g) memories new [] cs legal in
    subst Claim (sym run.0) (agreement_from g claimed ours (λ place. lowest_picks_best) (calls_from memories cs) run.1)

-- a list of calls is legal by what the hosts are told exactly where the list of the calls that the numbers stand for is legal by the claim's page
pub host_legal : (g : GroupSettings) (memories : ℕ → Memory) → MemoriesBegin g memories → (cs : List HostCall)
    → HostLegal g.settings.process_count memories [] cs ↔ GroupLegal ours g (calls_from memories cs)
host_legal g memories new cs = (
  λ legal. (told_is_run g.settings.process_count (begun_from g) memories new [] cs legal).1,
  λ legal. legal_by_told g.settings.process_count (begun_from g) memories new [] cs legal,
)

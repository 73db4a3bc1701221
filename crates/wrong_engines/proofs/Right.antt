-- The engine has every law of Laws.antt: there they are the theorems of consensus, paper and group, since its runs are those of the claim and of these
-- theorems. So has every engine that is equal to it on each call, in whatever words: the engine by its parts is one.
-- Assumes nothing.
use Rattle.std.specs.Prelude.{Ok}
use Rattle.std.proofs.Math.Path.{fun_ext}
use mathlib.Core.Path.{◌≡◌, refl, sym, ap, subst, ◌∙◌}
use mathlib.Core.Logic.{◌↔◌}
use mathlib.Core.Bool.{Bool, true, false}
use mathlib.Core.List.{List, [], ◌∷◌}
use Prim.Native.Nat.{ℕ}
use Rattle.basics.proofs.Tests.{not_both}
use Rattle.calls.specs.delivery.Admit.{admit}
use Rattle.calls.specs.declared.delivery.Delivery.{Delivery}
use Rattle.calls.specs.declared.Call.TheVariants.{Receive}
use Rattle.fast_state.specs.Adopt.{lowest_best}
use Rattle.settings.specs.declared.Settings.{Settings}
use Rattle.calls.specs.Decision.{admission_of}
use Rattle.calls.specs.declared.Call.{Call}
use Rattle.consensus.specs.Call.{call_of, shard_after_calls}
use Rattle.consensus.specs.declared.Answer.{Answer}
use Rattle.consensus.specs.declared.Shard.{Shard}
use Rattle.consensus.proofs.Decided.{by_decision, settings_kept}
use Rattle.consensus.proofs.Refusals.{by_first_cause, marked_once}
use Rattle.paper.specs.Runs.{ReachedShard}
use Rattle.paper.specs.Runs.ReachedShard.{new as made, called as after}
use Rattle.paper.proofs.Calls.{every_call_as_paper, other_calls_leave}
use Rattle.group.specs.Claim.{begun, ours, MemberCall, entries, Legal}
use Rattle.group.proofs.Agreement.{agreement}
use Rattle.group.proofs.GroupOfOne.{group_of_one}
use Rattle.group.specs.Steps.{is_done}
use Rattle.group.proofs.Invariants.{shards_after, fast_half_as_new, commit_clears, reads_in_order, served_in_order, sets_hold_processes, sets_hold_live_replicas, promises_while_held, accepts_while_accepted, sums_have_room, handled_in_tables}
use Rattle.group.proofs.Slots.{slot_counts_commits, commits_are_of_own_slot}
use Rattle.group.proofs.Sending.{two_messages_at_most, sent_from_own, none_to_its_sender}
use Rattle.wrong_engines.specs.InParts.{in_parts}
use Rattle.wrong_engines.proofs.InParts.{in_parts_same}
use Rattle.wrong_engines.specs.Laws.{AnyEngine, ReachedBy, entries_by, shards_by, shard_after_calls_by, LegalBy, HasAllLaws}
use Rattle.wrong_engines.specs.Laws.ReachedBy.{new, called}

-- ---- its runs are those of the claim and of the laws of all runs, by their definitions

-- The lists that are legal are those of the claim, their entries are the claim's, and the shards that they leave those of the laws,
pub legal_same : (s : Settings) (cs : List MemberCall) → LegalBy call_of s.process_count (begun s) [] cs ↔ Legal s cs
legal_same s cs = (λ legal. legal, λ legal. legal)

pub run_same : (s : Settings) (cs : List MemberCall) → entries_by call_of (begun s) [] cs ≡ entries s cs
run_same s cs = refl

pub shards_same : (shards : ℕ → Shard) (cs : List MemberCall) → shards_by call_of shards cs ≡ shards_after ours shards cs
shards_same shards cs = refl

reached_there : (shard : Shard) → ReachedBy call_of shard → ReachedShard shard
reached_there shard (new s m) = made s m
reached_there shard (called before c r) = after before c (reached_there before r)

reached_here : (shard : Shard) → ReachedShard shard → ReachedBy call_of shard
reached_here shard (made s m) = new s m
reached_here shard (after before c r) = called before c (reached_here before r)

-- the shards that are reached are those of the paper's theorem, and a list of calls on one shard leaves what it leaves there.
pub reached_same : (shard : Shard) → ReachedBy call_of shard ↔ ReachedShard shard
reached_same shard = (reached_there shard, reached_here shard)

pub left_same : (shard : Shard) (cs : List Call) → shard_after_calls_by call_of shard cs ≡ shard_after_calls shard cs
unfolding shard_after_calls shard_after_calls_by
left_same shard [] = refl
left_same shard (c ∷ cs) = left_same (call_of shard c).shard cs

-- ---- a message that is taken is admitted, at a shard that is made

abbrev Taken : Answer → Type 0
Taken r = r.reply.outcome ≡ Ok tt

taken_admitted : (shard : Shard) (d : Delivery) → Taken (call_of shard (Receive d))
    → (shard.made ≡ Ok tt) × (admit shard.settings.process_count shard.settings.my_pid shard.state.rounds.core d ≡ Ok tt)
unfolding admission_of
taken_admitted shard d =
    by_decision lowest_best shard
    (λ r. Taken r → (shard.made ≡ Ok tt) × (admit shard.settings.process_count shard.settings.my_pid shard.state.rounds.core d ≡ Ok tt)) (Receive d)
    (λ why e. let z : ◌≡◌ {A = Bool} false true = ap is_done e in absurd (not_both z refl)) (λ made room admitted e. (made, admitted))

-- ---- the laws

pub right_has_all : HasAllLaws call_of
right_has_all =
    record {
      first_cause = by_first_cause lowest_best;
      mark = λ shard cs. ap (λ (x : Shard). x.made) (left_same shard cs) ∙ marked_once shard cs;
      settings = settings_kept lowest_best;
      paper = λ shard r. every_call_as_paper shard (reached_there shard r);
      other_calls = other_calls_leave;
      agreement = agreement;
      two_at_most = two_messages_at_most lowest_best;
      from_own = sent_from_own lowest_best;
      none_to_itself = none_to_its_sender lowest_best;
      nothing_alone = group_of_one;
      slots = slot_counts_commits ours;
      own_slots = commits_are_of_own_slot ours;
      clears = λ s cs i. commit_clears ours s cs i lowest_best;
      processes = sets_hold_processes ours;
      live_replicas = sets_hold_live_replicas ours;
      fast_half = fast_half_as_new ours;
      reads = reads_in_order ours;
      served = λ s cs i. served_in_order ours s cs i lowest_best;
      promises = promises_while_held ours;
      accepts = accepts_while_accepted ours;
      room = sums_have_room ours;
      tables = λ s cs i d e. let a = taken_admitted (shards_after ours (begun s) cs i) d e in handled_in_tables ours s cs i d a.0 a.1;
    }

-- ---- in other words

pub same_has_all : (engine : AnyEngine) → ((shard : Shard) (c : Call) → engine shard c ≡ call_of shard c) → HasAllLaws engine
same_has_all engine same = subst HasAllLaws (sym (fun_ext (λ shard. fun_ext (same shard)))) right_has_all

pub in_parts_has_all : HasAllLaws in_parts
in_parts_has_all = same_has_all in_parts in_parts_same

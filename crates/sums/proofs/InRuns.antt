-- Sums, differences, look-ups and stores that are right wherever there is room make every run what it is, whatever they are at the ends: so what is handed
-- back by a list of calls from new shards, legal or not, does not depend on a sum or a difference that stays at its end, or on a look-up or a store out of range.
-- Assumes nothing.
use Rattle.std.specs.Prelude.{Option, None, Some, Result, Ok, IfOk, get_or, set}
use Rattle.std.proofs.lemmas.Result.{IfOk-weaker}
use mathlib.Core.Path.{◌≡◌, refl, sym, ap, subst, fun_ext, ◌∙◌}
use mathlib.Core.Logic.{◌⊎◌, inl, inr}
use mathlib.Core.Bool.{Bool, true, false, cond}
use mathlib.Core.List.{List, [], ◌∷◌}
use Prim.Native.Nat.{ℕ, ◌+◌, ◌-◌, ◌*◌, ◌<◌, min}
use native.Mathlib.Omega.{arith}
use lib.Dec.{eqb, ltb}
use borrow.Author.Tests.{lt-ltb, ltb-true}
use Rattle.basics.specs.Lists.{In}
use Rattle.basics.proofs.Tests.{either, of-both}
use Rattle.basics.specs.tables.Tables.{look_up, store}
use Rattle.message.specs.Rounds.{increment}
use Rattle.message.proofs.NextLeader.{increment_next}
use Rattle.message.specs.declared.ConsensusMsg.{ConsensusMsg}
use Rattle.message.specs.declared.ConsensusMsg.TheVariants.{Prepare, Accept, ForwardRequest, Commit, ReadRequest, ReadResponse}
use Rattle.message.specs.declared.Refusal.{Refusal}
use Rattle.message.specs.declared.RoundV.TheVariants.{FastV, PaxosV}
use Rattle.settings.specs.Settings.{within_limits}
use Rattle.settings.specs.declared.Settings.{Settings}
use Rattle.settings.proofs.Limits.{within_counts}
use Rattle.fast_state.specs.Adopt.{lowest_best}
use Rattle.read_tracker.specs.declared.ReadTracker.{ReadTracker}
use Rattle.read_tracker.specs.Reads.{open_reads}
use Rattle.steps.specs.Steps.{RoundsStep}
use Rattle.steps.specs.declared.Core.{Core}
use Rattle.calls.specs.declared.Call.{Call}
use Rattle.consensus.specs.Call.{call_of}
use Rattle.consensus.specs.declared.Answer.{Answer}
use Rattle.consensus.specs.declared.Shard.{Shard}
use Rattle.group.specs.Claim.{member_settings, begun, ours, MemberCall, Entry, entry_of, after_call, entries_from, entries, entries_made}
use Rattle.group.specs.Steps.{shards_made}
use Rattle.group.proofs.Invariants.{Lasts, begun_lasts, call_lasts, Fits, Room, has_room, PlaceOf, PlaceIn, lies_in_tables, own_small, admitted_numbers, proposed_fits, message_processed_fits, shards_after}
use Rattle.wrong_engines.specs.Laws.{entries_by, shards_by}
use Rattle.sums.specs.Sums.{Sums, Right}
use Rattle.sums.specs.Calls.{new_shard_by, call_by}
use Rattle.sums.proofs.Parts.{EachNamed, MessageNamed, Rises, Meets, MeetsCommit}
use Rattle.sums.proofs.Calls.{MeetsCall, new_same, call_same}

abbrev Small : ℕ → Type 0
Small p = p < 64

each_small : (p : Option ℕ) → PlaceOf p → EachNamed Small p
each_small None l = tt
each_small (Some p) l = l

message_small : (m : ConsensusMsg) → PlaceIn m → MessageNamed Small m
message_small (Prepare slot round (FastV p v)) l = (l.0, l.1)
message_small (Prepare slot round (PaxosV at v)) l = (l.0, tt)
message_small (Accept slot round v) l = l
message_small (ForwardRequest v) l = tt
message_small (Commit slot v) l = tt
message_small (ReadRequest id) l = tt
message_small (ReadResponse id next) l = tt

look_up_small : (table : List ℕ) (p : ℕ) → p < 64 → look_up table p ≡ get_or table p 0
unfolding look_up
look_up_small table p l = ap (λ (t : Bool). cond t (get_or table p 0) 0) (lt-ltb p 64 l)

store_small : (table : List ℕ) (p n : ℕ) → p < 64 → store table p n ≡ set table p n
unfolding store
store_small table p n l = ap (λ (t : Bool). cond t (set table p n) table) (lt-ltb p 64 l)

-- a number with one after it is not the largest
has_next : (n : ℕ) → increment n ≡ n + 1 → n < 18446744073709551615
unfolding increment
has_next n e = go (either (ltb n 18446744073709551615))
  where
    go : (ltb n 18446744073709551615 ≡ true) ⊎ (ltb n 18446744073709551615 ≡ false) → n < 18446744073709551615
    go (inl t) = ltb-true n 18446744073709551615 t
    go (inr t) = let same : n ≡ n + 1 = sym (ap (λ (b : Bool). cond b (n + 1) n) t) ∙ e in absurd (omega arith)

module _ (m : Sums) (right : Right m) where
  rises : (n : ℕ) → increment n ≡ n + 1 → Rises m n
  rises n e = right.adds_one n (has_next n e) ∙ sym e

  falls : (n : ℕ) → n - 1 + 1 ≡ n → m.one_less n ≡ n - 1
  falls n e = ap m.one_less (sym e) ∙ right.takes_one (n - 1)

  meets : Meets m Small
  meets =
      record {
        below = λ p l. l;
        looks_up = λ table p l. right.looks_up table p l ∙ sym (look_up_small table p l);
        stores = λ table p n l. right.stores table p n l ∙ sym (store_small table p n l);
        first_group = rises 0 (increment_next 0 (omega arith));
        adds_one = right.adds_one;
        places = right.places;
      }

  module _ (shard : Shard) (k : Lasts shard) where
    abbrev core : Core
    core = shard.state.rounds.core

    room : Room shard
    room = has_room shard k

    commit_meets : MeetsCommit m shard.state.table core
    commit_meets = record { slot_rises = rises core.slot room.slot_rises; counts_rise = λ r i. rises r.ready_count (room.count_rises r i) }

    -- a step leaves the slot and the reads
    step_meets : (next : Core) → next.slot ≡ core.slot → next.tracker ≡ core.tracker → MeetsCommit m shard.state.table next
    step_meets next slot tracker =
        record {
          slot_rises = subst (Rises m) (sym slot) commit_meets.slot_rises;
          counts_rise = λ r i. commit_meets.counts_rise r (subst (λ (t : ReadTracker). In r (open_reads t shard.state.table)) tracker i);
        }

    meets_call : shard.made ≡ Ok tt → core.slot < 9223372036854775807 → MeetsCall m Small meets shard
    meets_call made unspent =
        record {
          own_named = own_small lowest_best shard k limits unspent;
          quorum_falls = let some = (within_counts shard.settings limits).some_replica in falls (3 * min shard.settings.replica_count 64) (omega arith);
          meets_fast =
              record {
                preaccepted_rises = rises shard.state.rounds.fast.fast_preaccepted room.preaccepted_rises;
                epaxos_rises = λ p l. rises (look_up shard.state.rounds.fast.epaxos_proposer_scores p) (room.epaxos_score_rises p);
                epaxos_falls = λ p l. falls (look_up shard.state.rounds.fast.epaxos_proposer_scores p) (room.epaxos_score_falls p l);
                swift_rises = λ p l. rises (look_up shard.state.rounds.fast.swift_proposer_scores p) (room.swift_score_rises p);
              };
          meets_commit = commit_meets;
          group_rises = rises _ room.group_rises;
          proposed = λ v. step_meets_after _ (proposed_fits lowest_best shard k limits unspent v);
          message_named = λ d taken. let t = lies_in_tables shard k d made taken in (message_small d.message.msg t.message_places, each_small d.said.requester t.requester_place);
          heard = λ d taken.
              let n = admitted_numbers shard.settings.process_count shard.settings.my_pid core d taken in
              step_meets_after _ (message_processed_fits lowest_best shard k limits unspent d n.0 n.1);
        }
      where
        limits : within_limits shard.settings ≡ true
        limits = k.made_within made

        step_meets_after : (r : Result RoundsStep Refusal) → IfOk r (λ step. Fits lowest_best shard k limits unspent step.state) → IfOk r (λ step. MeetsCommit m shard.state.table step.state.core)
        step_meets_after r = IfOk-weaker r (λ step. Fits lowest_best shard k limits unspent step.state) _ (λ step f. step_meets step.state.core f.core_fits.same_slot f.core_fits.same_tracker)

    lasting_call : (c : Call) → call_by m shard c ≡ call_of shard c
    lasting_call c = call_same m Small meets shard meets_call c

  -- every shard of a group has what lasts, and after a call too
  after_lasts : (shards : ℕ → Shard) → ((i : ℕ) → Lasts (shards i)) → (c : MemberCall) → (j : ℕ) → Lasts (after_call lowest_best shards c j)
  after_lasts shards k c j = of-both Lasts (eqb j c.member) (call_lasts lowest_best (shards c.member) (k c.member) c.call).lasts (k j)

  entries_same : (shards : ℕ → Shard) (past : List Entry) (cs : List MemberCall) → ((i : ℕ) → Lasts (shards i)) → entries_by (call_by m) shards past cs ≡ entries_from ours shards past cs
  unfolding entries_made
  entries_same shards past [] k = refl
  entries_same shards past (c ∷ cs) k =
      ap (λ (r : Answer). entries_by (call_by m) (λ j. cond (eqb j c.member) r.shard (shards j)) (record { member = c.member; call = c.call; reply = r.reply } ∷ past) cs)
      (lasting_call (shards c.member) (k c.member) c.call)
      ∙ entries_same (after_call lowest_best shards c) (entry_of lowest_best shards c ∷ past) cs (after_lasts shards k c)

  shards_same : (shards : ℕ → Shard) (cs : List MemberCall) → ((i : ℕ) → Lasts (shards i)) → shards_by (call_by m) shards cs ≡ shards_after ours shards cs
  unfolding shards_made
  shards_same shards [] k = refl
  shards_same shards (c ∷ cs) k =
      ap (λ (r : Answer). shards_by (call_by m) (λ j. cond (eqb j c.member) r.shard (shards j)) cs) (lasting_call (shards c.member) (k c.member) c.call)
      ∙ shards_same (after_call lowest_best shards c) cs (after_lasts shards k c)

  module _ (s : Settings) (cs : List MemberCall) where
    new_by_right : (λ (i : ℕ). new_shard_by m (member_settings s i)) ≡ begun s
    new_by_right = fun_ext (λ i. new_same m Small meets (member_settings s i))

    -- Of every list of calls from new shards, legal or not: with such sums it hands back what it does with the engine's, ..
    pub run_by_right : entries_by (call_by m) (λ i. new_shard_by m (member_settings s i)) [] cs ≡ entries s cs
    run_by_right = ap (λ (shards : ℕ → Shard). entries_by (call_by m) shards [] cs) new_by_right ∙ entries_same (begun s) [] cs (λ i. begun_lasts (member_settings s i))

    -- .. and leaves the shards that it leaves with them.
    pub shards_by_right : shards_by (call_by m) (λ i. new_shard_by m (member_settings s i)) cs ≡ shards_after ours (begun s) cs
    shards_by_right = ap (λ (shards : ℕ → Shard). shards_by (call_by m) shards cs) new_by_right ∙ shards_same (begun s) cs (λ i. begun_lasts (member_settings s i))

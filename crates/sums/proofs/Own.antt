-- With the engine's own sums a call by sums is the engine's: of every shard and for every call, also where the largest number stays.
-- Assumes nothing.
use Rattle.std.specs.Prelude.{Option, None, Some, Result, Ok, Err, IfOk}
use mathlib.Core.Path.{◌≡◌, refl}
use Prim.Native.Nat.{ℕ}
use Rattle.message.proofs.NextLeader.{increment_next}
use Rattle.message.specs.declared.ConsensusMsg.{ConsensusMsg}
use Rattle.message.specs.declared.ConsensusMsg.TheVariants.{Prepare, Accept, ForwardRequest, Commit, ReadRequest, ReadResponse}
use Rattle.message.specs.declared.Refusal.{Refusal}
use Rattle.message.specs.declared.RoundV.TheVariants.{FastV, PaxosV}
use Rattle.settings.specs.declared.Settings.{Settings}
use Rattle.fast_state.specs.Adopt.{lowest_best}
use Rattle.read_tracker.specs.declared.ReadTable.{ReadTable}
use Rattle.steps.specs.Steps.{RoundsStep}
use Rattle.steps.specs.declared.Core.{Core}
use Rattle.calls.specs.Asked.{asked_of, heard_of}
use Rattle.calls.specs.declared.Call.{Call}
use Rattle.consensus.specs.Call.{new_shard, call_of}
use Rattle.consensus.specs.Handle.{proposing, processed}
use Rattle.consensus.specs.declared.Shard.{Shard}
use Rattle.sums.specs.Sums.{own_sums}
use Rattle.sums.specs.Calls.{new_shard_by, call_by}
use Rattle.sums.proofs.Parts.{EachNamed, MessageNamed, Meets, MeetsCommit}
use Rattle.sums.proofs.Calls.{MeetsCall, new_same, call_same}

-- every number is named: look-ups and stores are the engine's at each
abbrev Any : ℕ → Type 0
Any p = Unit {0}

meets : Meets own_sums Any
meets = record { below = λ p l. tt; looks_up = λ table p n. refl; stores = λ table p v n. refl; first_group = refl; adds_one = increment_next; places = λ l p r n. refl }

each_named : (p : Option ℕ) → EachNamed Any p
each_named None = tt
each_named (Some p) = tt

message_named : (m : ConsensusMsg) → MessageNamed Any m
message_named (Prepare slot round (FastV p v)) = (tt, tt)
message_named (Prepare slot round (PaxosV at v)) = (tt, tt)
message_named (Accept slot round v) = tt
message_named (ForwardRequest v) = tt
message_named (Commit slot v) = tt
message_named (ReadRequest id) = tt
message_named (ReadResponse id next) = tt

meets_commit : (table : ReadTable) (core : Core) → MeetsCommit own_sums table core
meets_commit table core = record { slot_rises = refl; counts_rise = λ r i. refl }

meets_after : (table : ReadTable) (r : Result RoundsStep Refusal) → IfOk r (λ step. MeetsCommit own_sums table step.state.core)
meets_after table (Ok step) = meets_commit table step.state.core
meets_after table (Err why) = tt

meets_call : (shard : Shard) → MeetsCall own_sums Any meets shard
meets_call shard =
    record {
      own_named = tt;
      quorum_falls = refl;
      meets_fast = record { preaccepted_rises = refl; epaxos_rises = λ p n. refl; epaxos_falls = λ p n. refl; swift_rises = λ p n. refl };
      meets_commit = meets_commit shard.state.table shard.state.rounds.core;
      group_rises = refl;
      proposed = λ v. meets_after shard.state.table (proposing (asked_of shard.settings) v shard.state.rounds);
      message_named = λ d taken. (message_named d.message.msg, each_named d.said.requester);
      heard = λ d taken. meets_after shard.state.table (processed lowest_best (asked_of shard.settings) (heard_of shard.settings d) d.message.msg shard.state.rounds);
    }

pub call_by_own : (shard : Shard) (c : Call) → call_by own_sums shard c ≡ call_of shard c
call_by_own shard c = call_same own_sums Any meets shard (λ made unspent. meets_call shard) c

pub new_by_own : (s : Settings) → new_shard_by own_sums s ≡ new_shard s
new_by_own s = new_same own_sums Any meets s

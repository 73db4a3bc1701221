-- The flat forms that the engine writes: 1 for yes, and 0 for what is not given.
-- Assumes nothing.
use Rattle.std.specs.Prelude.{Bool, cond, ℕ, leb, Option, None, Some, Ok, Err}
use Rattle.message.specs.Outcomes.{Outcome}
use Rattle.message.specs.declared.PaxosRound.{PaxosRound}
use Rattle.steps.specs.declared.Outgoing.{Outgoing}
use Rattle.calls.specs.declared.CommittedSlot.{CommittedSlot}
use Rattle.message.specs.Refusals.{refusal_number}
use Rattle.message.specs.declared.ConsensusMessage.{ConsensusMessage}
use Rattle.message.specs.declared.ConsensusMsg.{ConsensusMsg}
use Rattle.message.specs.declared.ConsensusMsg.TheVariants.{Prepare, Accept, ForwardRequest, Commit, ReadRequest, ReadResponse}
use Rattle.message.specs.declared.RoundV.{RoundV}
use Rattle.message.specs.declared.RoundV.TheVariants.{FastV, PaxosV}
use Rattle.steps.specs.declared.Core.{Core}
use Rattle.steps.specs.declared.Destination.{Destination}
use Rattle.steps.specs.declared.Destination.TheVariants.{One, All}
use Rattle.flat.specs.declared.FlatCommit.{FlatCommit}
use Rattle.flat.specs.declared.FlatCore.{FlatCore}
use Rattle.flat.specs.declared.FlatHeld.{FlatHeld}
use Rattle.flat.specs.declared.FlatMessage.{FlatMessage}
use Rattle.flat.specs.declared.FlatOption.{FlatOption}
use Rattle.flat.specs.declared.FlatOutgoing.{FlatOutgoing}
use Rattle.flat.specs.declared.FlatPromise.{FlatPromise}
use Rattle.flat.specs.declared.FlatRound.{FlatRound}

abbrev pub encoded_bool : Bool → ℕ
encoded_bool b = cond b 1 0

-- Done is 0, and a refusal its number of document 01 or 02
unfoldable pub encoded_outcome : Outcome → ℕ
encoded_outcome (Ok tt) = 0
encoded_outcome (Err why) = refusal_number why

abbrev pub not_given : FlatOption
not_given = record { given = 0; n = 0 }

-- the number for which a shard, or the settings of a group, are not made, or 0. A mode that there is not is outside the limits.
unfoldable pub encoded_made : Outcome → ℕ → ℕ
encoded_made made mode = cond (leb mode 5) (encoded_outcome made) 1

unfoldable pub encoded_option : Option ℕ → FlatOption
encoded_option None = not_given
encoded_option (Some n) = record { given = 1; n = n }

abbrev pub no_flat_round : FlatRound
no_flat_round = record { given = 0; round_group = 0; leader = 0 }

unfoldable pub encoded_round : Option PaxosRound → FlatRound
encoded_round None = no_flat_round
encoded_round (Some r) = record { given = 1; round_group = r.round_group; leader = r.leader }

unfoldable pub encoded_promise : RoundV → FlatPromise
encoded_promise (FastV proposer v) = record { fast = 1; proposer = proposer; accept_round = no_flat_round; v = v }
encoded_promise (PaxosV at v) = record { fast = 0; proposer = 0; accept_round = encoded_round at; v = v }

abbrev pub no_promise : FlatPromise
no_promise = record { fast = 0; proposer = 0; accept_round = no_flat_round; v = 0 }

unfoldable pub encoded_held : Option RoundV → FlatHeld
encoded_held None = record { given = 0; promise = no_promise }
encoded_held (Some rv) = record { given = 1; promise = encoded_promise rv }

-- ---- the state

abbrev pub encoded_core : Core → FlatCore
encoded_core core =
    record {
      slot = core.slot;
      last_v = encoded_option core.last_v;
      slot_left_fast_path = encoded_bool core.slot_left_fast_path;
      round = encoded_round core.paxos.round;
      max_rv = encoded_held core.paxos.max_rv;
      prepared_set = core.paxos.prepared_set;
      accepted_set = core.paxos.accepted_set;
      next_id = core.tracker.next_id;
      open_count = core.tracker.open_count;
    }

-- ---- replies

abbrev pub no_flat_message : FlatMessage
no_flat_message =
    record {
      kind = 0;
      slot = 0;
      round_group = 0;
      leader = 0;
      rv = no_promise;
      v = 0;
      id = 0;
      next_readable_slot = 0;
      src = 0;
      last_v = not_given;
    }

-- the message's kind and fields, without source and last value
abbrev pub plain_msg : ℕ → ℕ → ℕ → ℕ → FlatPromise → ℕ → ℕ → ℕ → FlatMessage
plain_msg kind slot group leader rv v id next =
    record {
      kind = kind;
      slot = slot;
      round_group = group;
      leader = leader;
      rv = rv;
      v = v;
      id = id;
      next_readable_slot = next;
      src = 0;
      last_v = not_given;
    }

unfoldable pub encoded_msg : ConsensusMsg → FlatMessage
encoded_msg (Prepare slot round rv) = plain_msg 1 slot round.round_group round.leader (encoded_promise rv) 0 0 0
encoded_msg (Accept slot round v) = plain_msg 2 slot round.round_group round.leader no_promise v 0 0
encoded_msg (ForwardRequest v) = plain_msg 3 0 0 0 no_promise v 0 0
encoded_msg (Commit slot v) = plain_msg 4 slot 0 0 no_promise v 0 0
encoded_msg (ReadRequest id) = plain_msg 5 0 0 0 no_promise 0 id.0 0
encoded_msg (ReadResponse id next) = plain_msg 6 0 0 0 no_promise 0 id.0 next

abbrev pub with_source : FlatMessage → ℕ → FlatOption → FlatMessage
with_source f src last =
    record {
      kind = f.kind;
      slot = f.slot;
      round_group = f.round_group;
      leader = f.leader;
      rv = f.rv;
      v = f.v;
      id = f.id;
      next_readable_slot = f.next_readable_slot;
      src = src;
      last_v = last;
    }

abbrev pub encoded_message : ConsensusMessage → FlatMessage
encoded_message m = with_source (encoded_msg m.msg) m.src (encoded_option m.last_v)

unfoldable pub encoded_to : Destination → FlatMessage → FlatOutgoing
encoded_to (One p) message = record { kind = 1; to = p; first = not_given; message = message }
encoded_to (All first) message = record { kind = 2; to = 0; first = encoded_option first; message = message }

unfoldable pub encoded_outgoing : Option Outgoing → FlatOutgoing
encoded_outgoing None = record { kind = 0; to = 0; first = not_given; message = no_flat_message }
encoded_outgoing (Some o) = encoded_to o.destination (encoded_message o.message)

unfoldable pub encoded_commit : Option CommittedSlot → FlatCommit
encoded_commit None = record { given = 0; slot = 0; v = 0; fast = 0 }
encoded_commit (Some commit) = record { given = 1; slot = commit.slot; v = commit.v; fast = encoded_bool commit.fast }

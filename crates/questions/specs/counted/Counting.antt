-- Answers that are only counted, accepts by the leader and promises by whoever gathers them: one set of the core grows by the sender, and nothing is
-- sent. They are found by the numbers of the call and of the core.
-- Assumes nothing.
use Rattle.std.specs.Prelude.{Bool, cond, not, ◌&&◌, List, [], ℕ, eqb, leb, Some, is_some}
use Rattle.arrays.specs.Arrays.{settings_of}
use Rattle.arrays.specs.declared.Setup.{Setup}
use Rattle.calls.specs.Asked.{asked_of}
use Rattle.message.specs.Modes.{mode_of_number}
use Rattle.message.specs.Promises.{accept_round_of}
use Rattle.message.specs.Rounds.{before}
use Rattle.message.specs.declared.PaxosRound.{PaxosRound}
use Rattle.round_state.specs.Paxos.{get_last_accepted_round, counted, accept_fits}
use Rattle.round_state.specs.declared.Member.{Member}
use Rattle.basics.specs.sets.Sets.{contains, size}
use Rattle.quorum.specs.Quorum.{row_of}
use Rattle.settings.specs.Questions.{delegate_in}
use Rattle.flat.specs.Decode.{decoded_held, decoded_promise, decoded_round, decoded_settings}
use Rattle.flat.specs.declared.FlatCore.{FlatCore}
use Rattle.flat.specs.declared.FlatMessage.{FlatMessage}

abbrev pub round_in : FlatMessage → PaxosRound
round_in m = record { round_group = m.round_group; leader = m.leader }

abbrev pub member_of : Setup → Member
member_of s = (asked_of (decoded_settings (settings_of s [] []))).member

-- a majority of the group's replicas
abbrev pub setup_majority : Setup → ℕ
setup_majority s = (row_of s.replica_count).majority

-- member and source are live replicas, and the round is no later one
unfoldable pub in_own_round : Setup → FlatCore → FlatMessage → Bool
in_own_round s c m =
    contains s.alive_replicas s.my_pid
    && (contains s.alive_replicas m.src && not (before (decoded_round c.round) (Some (round_in m))))

-- ---- accepts

-- what is held is the accept's value, accepted in its round
unfoldable pub repeats_held : FlatCore → FlatMessage → Bool
repeats_held c m =
    not (before (get_last_accepted_round (decoded_held c.max_rv)) (Some (round_in m)))
    && accept_fits (decoded_held c.max_rv) (round_in m) m.v

unfoldable pub accepted_set_with : Setup → FlatCore → FlatMessage → ℕ
accepted_set_with s c m = counted (member_of s) m.src c.accepted_set

-- the leader counts, and the majority is not reached
unfoldable pub only_counts_accept : Setup → FlatCore → FlatMessage → Bool
only_counts_accept s c m =
    eqb s.my_pid m.leader
    && (in_own_round s c m && (repeats_held c m && not (leb (setup_majority s) (size (accepted_set_with s c m)))))

-- ---- promises

-- what is held stays, since the promise's value was not accepted later
unfoldable pub keeps_held : FlatCore → FlatMessage → Bool
keeps_held c m =
    is_some (decoded_held c.max_rv)
    && not (before (get_last_accepted_round (decoded_held c.max_rv)) (accept_round_of (decoded_promise m.rv)))

unfoldable pub prepared_set_with : Setup → FlatCore → FlatMessage → ℕ
prepared_set_with s c m = counted (member_of s) m.src c.prepared_set

-- the majority is reached with this promise
unfoldable pub completes_majority : Setup → FlatCore → FlatMessage → Bool
completes_majority s c m =
    not (leb (setup_majority s) (size c.prepared_set)) && leb (setup_majority s) (size (prepared_set_with s c m))

-- the member gathers the promises of the round, and the value is no fast one, whose proposer may gather them
unfoldable pub gathers_promises : Setup → List ℕ → FlatMessage → Bool
gathers_promises s delegates m =
    eqb m.rv.fast 0 && eqb (delegate_in delegates (mode_of_number s.mode) m.leader) s.my_pid

-- who gathers the promises counts, and the majority is not reached with this one
unfoldable pub only_counts_promise : Setup → List ℕ → FlatCore → FlatMessage → Bool
only_counts_promise s delegates c m = gathers_promises s delegates m && (in_own_round s c m && (keeps_held c m && not (completes_majority s c m)))

-- ---- both

unfoldable pub only_counts : Setup → List ℕ → FlatCore → FlatMessage → Bool
only_counts s delegates c m = cond (eqb m.kind 2) (only_counts_accept s c m) (eqb m.kind 1 && only_counts_promise s delegates c m)

-- an accept takes the slot off the fast path
abbrev pub with_accepts : ℕ → FlatCore → FlatCore
with_accepts set c =
    record {
      slot = c.slot;
      last_v = c.last_v;
      slot_left_fast_path = 1;
      round = c.round;
      max_rv = c.max_rv;
      prepared_set = c.prepared_set;
      accepted_set = set;
      next_id = c.next_id;
      open_count = c.open_count;
    }

abbrev pub with_counted_promises : ℕ → FlatCore → FlatCore
with_counted_promises set c =
    record {
      slot = c.slot;
      last_v = c.last_v;
      slot_left_fast_path = c.slot_left_fast_path;
      round = c.round;
      max_rv = c.max_rv;
      prepared_set = set;
      accepted_set = c.accepted_set;
      next_id = c.next_id;
      open_count = c.open_count;
    }

unfoldable pub with_counted : Setup → FlatCore → FlatMessage → FlatCore
with_counted s c m = cond (eqb m.kind 2) (with_accepts (accepted_set_with s c m) c) (with_counted_promises (prepared_set_with s c m) c)

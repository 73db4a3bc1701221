-- What the flat forms stand for. 0 is no, and any other number yes.
-- Assumes nothing.
use Rattle.std.specs.Prelude.{◌≡◌, ◌⊎◌, Bool, cond, not, ◌&&◌, ℕ, eqb, ltb, leb, Option, None, Some, Ok, Err}
use Rattle.message.specs.Modes.{mode_of_number}
use Rattle.message.specs.Outcomes.{Outcome}
use Rattle.message.specs.declared.PaxosRound.{PaxosRound}
use Rattle.message.specs.declared.ConsensusMessage.{ConsensusMessage}
use Rattle.message.specs.declared.ConsensusMsg.{ConsensusMsg}
use Rattle.message.specs.declared.ConsensusMsg.TheVariants.{Prepare, Accept, ForwardRequest, Commit, ReadRequest, ReadResponse}
use Rattle.message.specs.declared.Refusal.TheVariants.{SettingsOutsideLimits, NotInCalendar}
use Rattle.message.specs.declared.RoundV.{RoundV}
use Rattle.message.specs.declared.RoundV.TheVariants.{FastV, PaxosV}
use Rattle.settings.specs.declared.Settings.{Settings}
use Rattle.fast_state.specs.declared.FastState.{FastState}
use Rattle.read_tracker.specs.declared.OpenRead.{OpenRead}
use Rattle.read_tracker.specs.declared.ServedRead.{ServedRead}
use Rattle.steps.specs.declared.Core.{Core}
use Rattle.calls.specs.declared.Call.{Call}
use Rattle.calls.specs.declared.Call.TheVariants.{Propose, StartRead, Receive}
use Rattle.calls.specs.declared.delivery.Delivery.{Delivery}
use Rattle.flat.specs.declared.FlatCall.{FlatCall}
use Rattle.flat.specs.declared.FlatCore.{FlatCore}
use Rattle.flat.specs.declared.FlatFast.{FlatFast}
use Rattle.flat.specs.declared.FlatHeld.{FlatHeld}
use Rattle.flat.specs.declared.FlatMessage.{FlatMessage}
use Rattle.flat.specs.declared.FlatOpenRead.{FlatOpenRead}
use Rattle.flat.specs.declared.FlatOption.{FlatOption}
use Rattle.flat.specs.declared.FlatPromise.{FlatPromise}
use Rattle.flat.specs.declared.FlatRound.{FlatRound}
use Rattle.flat.specs.declared.FlatServedRead.{FlatServedRead}
use Rattle.flat.specs.declared.FlatSettings.{FlatSettings}

abbrev pub is_yes : ℕ → Bool
is_yes n = not (eqb n 0)

-- a value, a process number or a set
unfoldable pub decoded_option : FlatOption → Option ℕ
decoded_option f = cond (eqb f.given 0) None (Some f.n)

unfoldable pub decoded_round : FlatRound → Option PaxosRound
decoded_round f = cond (eqb f.given 0) None (Some (record { round_group = f.round_group; leader = f.leader }))

unfoldable pub decoded_promise : FlatPromise → RoundV
decoded_promise f = cond (eqb f.fast 0) (PaxosV (decoded_round f.accept_round) f.v) (FastV f.proposer f.v)

unfoldable pub decoded_held : FlatHeld → Option RoundV
decoded_held f = cond (eqb f.given 0) None (Some (decoded_promise f.promise))

-- ---- settings

-- the mark of a shard: 0 is made, 17 is 17, and any other is 1. A mode that there is not is outside the limits, whatever the mark.
unfoldable pub decoded_made : ℕ → ℕ → Outcome
decoded_made made mode =
    cond (leb mode 5) (cond (eqb made 0) (Ok tt) (cond (eqb made 17) (Err NotInCalendar) (Err SettingsOutsideLimits))) (Err SettingsOutsideLimits)

-- what a shard may be marked with as it begins
abbrev pub IsMark : Outcome → Type 0
IsMark o = (o ≡ Ok tt) ⊎ ((o ≡ Err SettingsOutsideLimits) ⊎ (o ≡ Err NotInCalendar))

abbrev pub decoded_settings : FlatSettings → Settings
decoded_settings f =
    record {
      process_count = f.process_count;
      replica_count = f.replica_count;
      my_pid = f.my_pid;
      alive_replicas = f.alive_replicas;
      first_leader = f.first_leader;
      mode = mode_of_number f.mode;
      quorum = decoded_option f.quorum;
      committers = cond (is_yes f.has_committers) (Some f.committers) None;
      delegates = f.delegates;
    }

-- ---- the state

abbrev pub decoded_core : FlatCore → Core
decoded_core f =
    record {
      slot = f.slot;
      last_v = decoded_option f.last_v;
      slot_left_fast_path = is_yes f.slot_left_fast_path;
      paxos =
          record {
            round = decoded_round f.round;
            max_rv = decoded_held f.max_rv;
            prepared_set = f.prepared_set;
            accepted_set = f.accepted_set;
          };
      tracker = record { next_id = f.next_id; open_count = f.open_count };
    }

abbrev pub decoded_fast : FlatFast → FastState
decoded_fast f =
    record {
      fast_answer_set = f.fast_answer_set;
      fast_preaccepted = f.fast_preaccepted;
      fast_proposers = f.fast_proposers;
      fast_proposer_to_v = f.fast_proposer_to_v;
      epaxos_proposer_scores = f.epaxos_proposer_scores;
      swift_proposer_scores = f.swift_proposer_scores;
      swift_leader_answer = decoded_option f.swift_leader_answer;
    }

abbrev pub decoded_open : FlatOpenRead → OpenRead
decoded_open f =
    record {
      id = record { 0 = f.id };
      tag = f.tag;
      arrival_slot = f.arrival_slot;
      ready_count = f.ready_count;
      local_ready = is_yes f.local_ready;
    }

abbrev pub decoded_served : FlatServedRead → ServedRead
decoded_served f = record { id = record { 0 = f.id }; tag = f.tag; waited_for = f.waited_for; fast = is_yes f.fast }

-- ---- calls

unfoldable pub decoded_msg : FlatMessage → ConsensusMsg
decoded_msg f =
    cond (eqb f.kind 1) (Prepare f.slot (record { round_group = f.round_group; leader = f.leader }) (decoded_promise f.rv))
    (cond (eqb f.kind 2) (Accept f.slot (record { round_group = f.round_group; leader = f.leader }) f.v)
    (cond (eqb f.kind 3) (ForwardRequest f.v)
    (cond (eqb f.kind 4) (Commit f.slot f.v)
    (cond (eqb f.kind 6) (ReadResponse (record { 0 = f.id }) f.next_readable_slot) (ReadRequest (record { 0 = f.id }))))))

abbrev pub is_known : ℕ → Bool
is_known kind = leb 1 kind && leb kind 6

-- a message of a kind that there is not counts as a ReadRequest of the member's own, which is refused with 8 after 2 and 3
-- at a member with the number own in a group of so many processes
unfoldable pub decoded_source : ℕ → ℕ → FlatMessage → ℕ
decoded_source count own f = cond (is_known f.kind) f.src (cond (ltb f.src count) own f.src)

abbrev pub decoded_message : ℕ → ℕ → FlatMessage → ConsensusMessage
decoded_message count own f = record { msg = decoded_msg f; src = decoded_source count own f; last_v = decoded_option f.last_v }

abbrev pub decoded_delivery : ℕ → ℕ → FlatCall → Delivery
decoded_delivery count own f =
    record {
      message = decoded_message count own f.message;
      said = record { value_held = is_yes f.value_held; requester = decoded_option f.requester; fast = is_yes f.fast };
      held_requester = decoded_option f.held_requester;
    }

unfoldable pub decoded_call : ℕ → ℕ → FlatCall → Call
decoded_call count own f =
    cond (eqb f.kind 0) (Propose f.v) (cond (eqb f.kind 1) (StartRead f.v f.arrival_slot) (Receive (decoded_delivery count own f)))

-- Which number of a lent array is which field of a flat form. The arrays are the memory of the flat forms: a struct of numbers lies as an array of them.
-- Assumes nothing.
use Rattle.std.specs.Prelude.{List, [], ◌∷◌, ℕ, get_or, set, Option, None, Some}
use Rattle.steps.specs.declared.Outgoing.{Outgoing}
use Rattle.calls.specs.declared.CommittedSlot.{CommittedSlot}
use Rattle.flat.specs.Encode.{encoded_commit, encoded_outgoing}
use Rattle.flat.specs.declared.FlatCall.{FlatCall}
use Rattle.flat.specs.declared.FlatCommit.{FlatCommit}
use Rattle.flat.specs.declared.FlatCore.{FlatCore}
use Rattle.flat.specs.declared.FlatMessage.{FlatMessage}
use Rattle.flat.specs.declared.FlatOption.{FlatOption}
use Rattle.flat.specs.declared.FlatOutgoing.{FlatOutgoing}
use Rattle.flat.specs.declared.FlatRound.{FlatRound}
use Rattle.flat.specs.declared.FlatSettings.{FlatSettings}
use Rattle.arrays.specs.declared.Setup.{Setup}

abbrev at : List ℕ → ℕ → ℕ
at l i = get_or l i 0

abbrev option : List ℕ → ℕ → ℕ → FlatOption
option l i j = record { given = at l i; n = at l j }

abbrev round : List ℕ → ℕ → ℕ → ℕ → FlatRound
round l i j k = record { given = at l i; round_group = at l j; leader = at l k }

-- ---- settings

abbrev pub setup_of : List ℕ → Setup
setup_of l =
    record {
      made = at l 0;
      process_count = at l 1;
      replica_count = at l 2;
      my_pid = at l 3;
      alive_replicas = at l 4;
      first_leader = at l 5;
      mode = at l 6;
      quorum = option l 7 8;
      has_committers = at l 9;
    }

-- the mark, and the settings without the two tables
abbrev pub setup_numbers : ℕ → FlatSettings → List ℕ
setup_numbers made f =
    made
    ∷ f.process_count
    ∷ f.replica_count
    ∷ f.my_pid
    ∷ f.alive_replicas
    ∷ f.first_leader
    ∷ f.mode
    ∷ f.quorum.given
    ∷ f.quorum.n
    ∷ f.has_committers
    ∷ []

-- with the two tables
abbrev pub settings_of : Setup → List ℕ → List ℕ → FlatSettings
settings_of s committers delegates =
    record {
      process_count = s.process_count;
      replica_count = s.replica_count;
      my_pid = s.my_pid;
      alive_replicas = s.alive_replicas;
      first_leader = s.first_leader;
      mode = s.mode;
      quorum = s.quorum;
      has_committers = s.has_committers;
      committers = committers;
      delegates = delegates;
    }

-- ---- the core

abbrev pub core_of : List ℕ → FlatCore
core_of l =
    record {
      slot = at l 0;
      last_v = option l 1 2;
      slot_left_fast_path = at l 3;
      round = round l 4 5 6;
      max_rv = record { given = at l 7; promise = record { fast = at l 8; proposer = at l 9; accept_round = round l 10 11 12; v = at l 13 } };
      prepared_set = at l 14;
      accepted_set = at l 15;
      next_id = at l 16;
      open_count = at l 17;
    }

abbrev pub core_numbers : FlatCore → List ℕ
core_numbers f =
    f.slot
    ∷ f.last_v.given
    ∷ f.last_v.n
    ∷ f.slot_left_fast_path
    ∷ f.round.given
    ∷ f.round.round_group
    ∷ f.round.leader
    ∷ f.max_rv.given
    ∷ f.max_rv.promise.fast
    ∷ f.max_rv.promise.proposer
    ∷ f.max_rv.promise.accept_round.given
    ∷ f.max_rv.promise.accept_round.round_group
    ∷ f.max_rv.promise.accept_round.leader
    ∷ f.max_rv.promise.v
    ∷ f.prepared_set
    ∷ f.accepted_set
    ∷ f.next_id
    ∷ f.open_count
    ∷ []

-- ---- calls

abbrev pub flat_message_of : List ℕ → FlatMessage
flat_message_of l =
    record {
      kind = at l 3;
      slot = at l 4;
      round_group = at l 5;
      leader = at l 6;
      rv = record { fast = at l 7; proposer = at l 8; accept_round = round l 9 10 11; v = at l 12 };
      v = at l 13;
      id = at l 14;
      next_readable_slot = at l 15;
      src = at l 16;
      last_v = option l 17 18;
    }

abbrev pub flat_call_of : List ℕ → FlatCall
flat_call_of l =
    record {
      kind = at l 0;
      v = at l 1;
      arrival_slot = at l 2;
      message = flat_message_of l;
      value_held = at l 19;
      requester = option l 20 21;
      fast = at l 22;
      held_requester = option l 23 24;
    }

-- ---- replies

abbrev pub outgoing_of : List ℕ → FlatOutgoing
outgoing_of l =
    record {
      kind = at l 0;
      to = at l 1;
      first = option l 2 3;
      message =
          record {
            kind = at l 4;
            slot = at l 5;
            round_group = at l 6;
            leader = at l 7;
            rv = record { fast = at l 8; proposer = at l 9; accept_round = round l 10 11 12; v = at l 13 };
            v = at l 14;
            id = at l 15;
            next_readable_slot = at l 16;
            src = at l 17;
            last_v = option l 18 19;
          };
    }

abbrev pub outgoing_numbers : FlatOutgoing → List ℕ
outgoing_numbers f =
    f.kind
    ∷ f.to
    ∷ f.first.given
    ∷ f.first.n
    ∷ f.message.kind
    ∷ f.message.slot
    ∷ f.message.round_group
    ∷ f.message.leader
    ∷ f.message.rv.fast
    ∷ f.message.rv.proposer
    ∷ f.message.rv.accept_round.given
    ∷ f.message.rv.accept_round.round_group
    ∷ f.message.rv.accept_round.leader
    ∷ f.message.rv.v
    ∷ f.message.v
    ∷ f.message.id
    ∷ f.message.next_readable_slot
    ∷ f.message.src
    ∷ f.message.last_v.given
    ∷ f.message.last_v.n
    ∷ []

-- of a message that is not sent the kind alone is written, 0
unfoldable pub put_message : Option Outgoing → List ℕ → List ℕ
put_message None l = set l 0 0
put_message (Some o) l = outgoing_numbers (encoded_outgoing (Some o))

-- the commit, in front of the number of the reads that are served
abbrev pub commit_row : List ℕ → FlatCommit
commit_row l = record { given = at l 0; slot = at l 1; v = at l 2; fast = at l 3 }

-- the commit, and the number of the reads that are served
abbrev pub rest_numbers : Option CommittedSlot → ℕ → List ℕ
rest_numbers commit served =
    (encoded_commit commit).given ∷ (encoded_commit commit).slot ∷ (encoded_commit commit).v ∷ (encoded_commit commit).fast ∷ served ∷ []

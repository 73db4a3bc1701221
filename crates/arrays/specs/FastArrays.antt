-- The fast half of a shard as the arrays of numbers that a host lends: the five numbers of the answers, and the three tables by proposer.
-- Assumes nothing.
use Rattle.std.specs.Prelude.{List, ℕ, get_or}
use Rattle.arrays.specs.declared.FastArrays.{FastArrays}
use Rattle.fast_state.specs.declared.FastState.{FastState}
use Rattle.flat.specs.Decode.{decoded_fast}
use Rattle.flat.specs.declared.FlatFast.{FlatFast}

abbrev pub fast_arrays : List ℕ → List ℕ → List ℕ → List ℕ → FastArrays
fast_arrays answers values epaxos swift = record { answers = answers; values = values; epaxos = epaxos; swift = swift }

-- ---- what the arrays stand for

abbrev pub fast_in : FastArrays → FlatFast
fast_in w =
    record {
      fast_answer_set = get_or w.answers 0 0;
      fast_preaccepted = get_or w.answers 1 0;
      fast_proposers = get_or w.answers 2 0;
      swift_leader_answer = record { given = get_or w.answers 3 0; n = get_or w.answers 4 0 };
      fast_proposer_to_v = w.values;
      epaxos_proposer_scores = w.epaxos;
      swift_proposer_scores = w.swift;
    }

abbrev pub fast_state_of : FastArrays → FastState
fast_state_of w = decoded_fast (fast_in w)

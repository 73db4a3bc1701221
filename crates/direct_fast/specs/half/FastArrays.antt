-- The fast half of a shard in arrays that are lent: what stands there, and what a call leaves.
-- Assumes nothing.
use Rattle.std.specs.Prelude.{List, [], ◌∷◌, ℕ, replicate}
use Rattle.arrays.specs.FastArrays.{fast_arrays, fast_state_of}
use Rattle.arrays.specs.declared.FastArrays.{FastArrays}
use Rattle.direct_fast.specs.declared.finish.After.{After}
use Rattle.direct_fast.specs.declared.finish.After.TheVariants.{Changed, Cleared}
use Rattle.fast_state.specs.Fast.{answers_of, to_v_after, epaxos_scores_after, swift_scores_after}
use Rattle.fast_state.specs.declared.FastAnswers.{FastAnswers}
use Rattle.fast_state.specs.declared.FastChange.{FastChange}
use Rattle.flat.specs.Encode.{encoded_option}

-- the answers alone, whatever stands in the tables
abbrev pub answers_in : List ℕ → FastAnswers
answers_in l = answers_of (fast_state_of (fast_arrays l [] [] []))

-- ---- what is left in them

abbrev pub answers_numbers : FastAnswers → List ℕ
answers_numbers f =
    f.fast_answer_set
    ∷ f.fast_preaccepted
    ∷ f.fast_proposers
    ∷ (encoded_option f.swift_leader_answer).given
    ∷ (encoded_option f.swift_leader_answer).n
    ∷ []

abbrev pub put_change : FastChange → FastArrays → FastArrays
put_change change w =
    record {
      answers = answers_numbers change.answers;
      values = to_v_after change.entry w.values;
      epaxos = epaxos_scores_after change.entry w.epaxos;
      swift = swift_scores_after change.entry w.swift;
    }

abbrev pub cleared : FastArrays
cleared = record { answers = replicate 5 0; values = replicate 64 0; epaxos = replicate 64 2; swift = replicate 64 0 }

abbrev pub put_after : After → FastArrays → FastArrays
put_after (Changed change) w = put_change change w
put_after Cleared w = cleared

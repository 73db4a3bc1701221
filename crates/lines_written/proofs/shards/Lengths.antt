-- How long the text of a shard is.
-- Assumes nothing.
use Rattle.std.specs.Prelude.{Ok, Err}
use Rattle.message.specs.Outcomes.{Outcome}
use mathlib.Core.List.{List, [], ◌∷◌}
use Prim.Native.Nat.{ℕ, zero, suc, ◌*◌, ◌≤◌, ◌<◌}
use native.Mathlib.Omega.{arith}
use lib.ListN.{length, length-append}
use Rattle.basics.proofs.Tests.{of-both}
use Rattle.fast_state.specs.declared.FastState.{FastState}
use Rattle.read_tracker.specs.declared.OpenRead.{OpenRead}
use Rattle.basics.specs.sets.Sets.{contains}
use Rattle.basics.specs.tables.Tables.{look_up}
use Rattle.steps.specs.declared.Core.{Core}
use Rattle.steps.specs.declared.Rounds.{Rounds}
use Rattle.texts.specs.Text.{ascii, each, fields}
use Rattle.lines_written.specs.shards.Shard.{core_text, sets_text, proposer_text, if_proposer, proposers_below, open_text, made_text, shard_text}
use Rattle.texts.proofs.Lengths.{number, short, flag, places_length, fields_length}
use Rattle.lines_written.proofs.promises.Lengths.{value, round, held}

core : (s : Core) → length (core_text s) ≤ 163
unfolding core_text
core s =
    simp length-append
    (omega (arith, fields_length (ascii " | shard") (s.slot ∷ []), value s.last_v, flag s.slot_left_fast_path, round s.paxos.round, held s.paxos.max_rv))

rest_of_rounds : (s : Rounds) → length (sets_text s) ≤ 147
unfolding sets_text
rest_of_rounds s =
    simp length-append
    (omega (
      arith,
      fields_length [] (s.core.paxos.prepared_set ∷ s.core.paxos.accepted_set ∷ s.fast.fast_answer_set ∷ s.fast.fast_preaccepted
          ∷ s.fast.fast_proposers ∷ []),
      value s.fast.swift_leader_answer,
      number s.core.tracker.next_id,
    ))

proposer : (s : FastState) (p : ℕ) → p < 64 → length (proposer_text s p) ≤ 77
unfolding proposer_text fields each
proposer s p h =
    simp length-append
    (omega (
      arith,
      short p (omega arith),
      number (look_up s.fast_proposer_to_v p),
      number (look_up s.epaxos_proposer_scores p),
      number (look_up s.swift_proposer_scores p),
    ))

if_proposer_lem : (s : FastState) (p : ℕ) → p < 64 → length (if_proposer s p) ≤ 77
unfolding if_proposer
if_proposer_lem s p h = of-both (λ (l : List ℕ). length l ≤ 77) (contains s.fast_proposers p) (proposer s p h) (omega arith)

proposers : (s : FastState) (n : ℕ) → n ≤ 64 → length (proposers_below s n) ≤ 77 * n
unfolding proposers_below
proposers s zero h = omega arith
proposers s (suc p) h = simp length-append (omega (arith, proposers s p (omega arith), if_proposer_lem s p (omega arith)))

opened : (r : OpenRead) → length (open_text r) ≤ 93
unfolding open_text fields each
opened r =
    simp length-append
    (omega (arith, number r.id.0, number r.tag, number r.arrival_slot, number r.ready_count, flag r.local_ready))

made : (s : Rounds) (reads : List OpenRead) → length (made_text s reads) ≤ 17142
unfolding made_text
made s reads =
    simp length-append
    (omega (
      arith,
      core s.core,
      rest_of_rounds s,
      proposers s.fast 64 (omega arith),
      places_length open_text 93 opened reads s.core.tracker.open_count,
    ))

pub shard : (s : Rounds) (reads : List OpenRead) (o : Outcome) → length (shard_text s reads o) ≤ 17142
unfolding shard_text
shard s reads (Ok tt) = made s reads
shard s reads (Err why) = omega arith

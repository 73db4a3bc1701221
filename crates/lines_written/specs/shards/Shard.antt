-- A shard (docs/ORACLE.md, "Answer lines", 5 to 7). Each text begins with a space, or with the bar that joins two parts.
-- Assumes nothing.
use Rattle.std.specs.Prelude.{cond, List, [], ◌∷◌, ◌++◌, ℕ, zero, suc, Ok, Err}
use Rattle.message.specs.Outcomes.{Outcome}
use Rattle.basics.specs.sets.Sets.{contains}
use Rattle.basics.specs.tables.Tables.{look_up}
use Rattle.fast_state.specs.declared.FastState.{FastState}
use Rattle.read_tracker.specs.declared.OpenRead.{OpenRead}
use Rattle.steps.specs.declared.Core.{Core}
use Rattle.steps.specs.declared.Rounds.{Rounds}
use Rattle.texts.specs.Text.{ascii, field, fields, flag_number, first_places}
use Rattle.lines_written.specs.promises.Promises.{optional_value_text, optional_round_text, held_text}

-- ---- 5: the shard

-- `shard slot LAST left_fast_path ROUND HELD`
unfoldable pub core_text : Core → List ℕ
core_text s =
    fields (ascii " | shard") (s.slot ∷ []) ++ optional_value_text s.last_v ++ field (flag_number s.slot_left_fast_path)
    ++ optional_round_text s.paxos.round ++ held_text s.paxos.max_rv

-- `prepared_set accepted_set fast_answer_set fast_preaccepted fast_proposers SWIFT next_id`
unfoldable pub sets_text : Rounds → List ℕ
sets_text s =
    fields (ascii "")
    (s.core.paxos.prepared_set ∷ s.core.paxos.accepted_set ∷ s.fast.fast_answer_set ∷ s.fast.fast_preaccepted
    ∷ s.fast.fast_proposers ∷ [])
    ++ optional_value_text s.fast.swift_leader_answer ++ field s.core.tracker.next_id

-- ---- 6 and 7: the proposers and the open reads

-- `proposer p v epaxos_score swift_score`
unfoldable pub proposer_text : FastState → ℕ → List ℕ
proposer_text s p =
    fields (ascii " | proposer")
    (p ∷ look_up s.fast_proposer_to_v p ∷ look_up s.epaxos_proposer_scores p ∷ look_up s.swift_proposer_scores p ∷ [])

unfoldable pub if_proposer : FastState → ℕ → List ℕ
if_proposer s p = cond (contains s.fast_proposers p) (proposer_text s p) []

-- those below n, from the lowest
unfoldable pub proposers_below : FastState → ℕ → List ℕ
proposers_below s zero = []
proposers_below s (suc p) = proposers_below s p ++ if_proposer s p

-- `read id tag arrival_slot ready_count local_ready`
unfoldable pub open_text : OpenRead → List ℕ
open_text r = fields (ascii " | read") (r.id.0 ∷ r.tag ∷ r.arrival_slot ∷ r.ready_count ∷ flag_number r.local_ready ∷ [])

-- ---- all of them

-- 5 to 7, of a shard's rounds and its table of reads
unfoldable pub made_text : Rounds → List OpenRead → List ℕ
made_text s reads =
    core_text s.core ++ sets_text s ++ proposers_below s.fast 64 ++ first_places open_text reads s.core.tracker.open_count

unfoldable pub shard_text : Rounds → List OpenRead → Outcome → List ℕ
shard_text s reads (Ok tt) = made_text s reads
shard_text s reads (Err why) = ascii " | not_made"

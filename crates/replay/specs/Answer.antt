-- What a line without a fault makes of the shard.
-- Assumes nothing.
use Rattle.std.specs.Prelude.{◌≡◌, ◌⊎◌, Bool, true, cond, List, [], ◌∷◌, ℕ, eqb, None}
use Rattle.message.specs.Outcomes.{Outcome}
use Rattle.steps.specs.Steps.{no_messages}
use Rattle.consensus.specs.Call.{with_state, call_of}
use Rattle.consensus.specs.declared.Answer.{Answer}
use Rattle.consensus.specs.declared.Shard.{Shard}
use Rattle.consensus.specs.declared.State.{State}
use Rattle.group_settings.specs.declared.GroupSettings.{GroupSettings}
use Rattle.group_shard.specs.Begin.{begin_shard}
use Rattle.lines_read.specs.line_calls.Calls.{line_number_at, call_of_numbers}
use Rattle.lines_read.specs.line_states.States.{group_settings_of, state_of}

abbrev pub shard_answered : Shard → Outcome → Answer
shard_answered shard outcome =
    record { shard = shard; reply = record { outcome = outcome; messages = no_messages; commit = None; served_count = 0 } }

-- kind 1: a shard as it begins
unfoldable pub new_answer : GroupSettings → Answer
new_answer g = shard_answered (begin_shard g) (begin_shard g).made

-- kind 2: the shard with another state. One that is not made stays so, and is refused.
unfoldable pub state_line_answer : Shard → State → Answer
state_line_answer shard state = shard_answered (with_state shard state) shard.made

unfoldable pub line_answer_of : Shard → List ℕ → Answer
line_answer_of shard ns =
    cond (eqb (line_number_at ns 0) 1) (new_answer (group_settings_of ns)) (cond (eqb (line_number_at ns 0) 2) (state_line_answer shard (state_of ns)) (call_of shard (call_of_numbers ns)))

-- an empty line is skipped, and one that begins with # (35)
abbrev pub is_skipped : List ℕ → Bool
is_skipped [] = true
is_skipped (b ∷ line) = eqb b 35

-- a line that is skipped leaves the shard; any other one leaves it too, where it has a fault, or what its numbers make of it
abbrev pub LineLeaves : Shard → List ℕ → Shard → Type 0
LineLeaves old line new = (is_skipped line ≡ true → new ≡ old) × ((new ≡ old) ⊎ ((ns : List ℕ) × (new ≡ (line_answer_of old ns).shard)))

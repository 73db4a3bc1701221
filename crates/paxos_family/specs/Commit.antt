-- commit_slot of the Rust's paxos_family.rs: the value becomes the last one, the next slot begins in the starting round, and the round state
-- is cleared. In the classic modes the fast half is never changed, and so is clear already.
-- Assumes nothing.
use Rattle.std.specs.Prelude.{cond, false, ℕ, Some}
use Rattle.message.specs.Modes.{has_fast_path}
use Rattle.message.specs.Rounds.{increment}
use Rattle.round_state.specs.Paxos.{goto_round, full_clear}
use Rattle.fast_state.specs.Fast.{no_answers}
use Rattle.steps.specs.declared.Asked.{Asked}
use Rattle.steps.specs.declared.Core.{Core}
use Rattle.steps.specs.declared.Rounds.{Rounds}

-- what commit_slot does to all but the fast half
abbrev pub commit_core : Asked → ℕ → Core → Core
commit_core a v core =
    record {
      slot = increment core.slot;
      last_v = Some v;
      slot_left_fast_path = core.slot_left_fast_path;
      paxos = full_clear (goto_round a.starting_round core.paxos);
      tracker = core.tracker;
    }

-- commit_slot
unfoldable pub commit_slot : Asked → ℕ → Rounds → Rounds
commit_slot a v s = record { core = commit_core a v s.core; fast = cond (has_fast_path a.mode) no_answers s.fast }

-- ---- the next slot: what a commit leaves, with the mark of the fast path cleared once the commit has read it

abbrev pub on_fast_path : Core → Core
on_fast_path core =
    record { slot = core.slot; last_v = core.last_v; slot_left_fast_path = false; paxos = core.paxos; tracker = core.tracker }

abbrev pub next_core : Asked → ℕ → Core → Core
next_core a v core = on_fast_path (commit_core a v core)

abbrev pub next_slot : Asked → ℕ → Rounds → Rounds
next_slot a v s = record { core = on_fast_path (commit_slot a v s).core; fast = (commit_slot a v s).fast }

-- What a call makes of the state of a shard, and its reply: the kinds of answer, the commit of a value with the reads that it serves (the Rust's
-- commit_slot and commit_commands), and the end of a call.
-- Assumes nothing.
use Rattle.std.specs.Prelude.{Bool, cond, ℕ, Option, Result, Ok, Err}
use Rattle.calls.specs.Commits.{committed_slot}
use Rattle.calls.specs.Replies.{refused_reply, sent_reply, is_fast}
use Rattle.calls.specs.declared.CommittedSlot.{CommittedSlot}
use Rattle.message.specs.declared.Refusal.{Refusal}
use Rattle.message.specs.declared.Refusal.TheVariants.{ValueNotHeld}
use Rattle.read_tracker.specs.declared.ReadTracker.{ReadTracker}
use Rattle.read_tracker.specs.serving.Serving.{serve_at_commit}
use Rattle.read_tracker.specs.declared.serving.Tracked.{Tracked}
use Rattle.paxos_family.specs.Commit.{next_slot}
use Rattle.steps.specs.Steps.{RoundsStep, no_messages}
use Rattle.steps.specs.declared.Asked.{Asked}
use Rattle.steps.specs.declared.Core.{Core}
use Rattle.steps.specs.declared.SentMessages.{SentMessages}
use Rattle.steps.specs.declared.Next.{Next}
use Rattle.steps.specs.declared.Next.TheVariants.{Stays, Continues, Commits}
use Rattle.steps.specs.declared.Rounds.{Rounds}
use Rattle.consensus.specs.declared.State.{State}
use Rattle.consensus.specs.declared.StateAnswer.{StateAnswer}

-- ---- parts of the state set anew

abbrev pub state_with_rounds : State → Rounds → State
state_with_rounds state rounds = record { rounds = rounds; table = state.table }

-- a core with its reads counted anew
abbrev pub with_tracker : ReadTracker → Core → Core
with_tracker tracker core =
    record { slot = core.slot; last_v = core.last_v; slot_left_fast_path = core.slot_left_fast_path; paxos = core.paxos; tracker = tracker }

-- rounds with their reads counted anew
abbrev pub track : ReadTracker → Rounds → Rounds
track tracker rounds = record { core = with_tracker tracker rounds.core; fast = rounds.fast }

-- ---- the kinds of answer

-- a refusal hands back its number alone and leaves the state
abbrev pub refused : Refusal → State → StateAnswer
refused why state = record { state = state; reply = refused_reply why }

abbrev pub sent_answer : State → SentMessages → StateAnswer
sent_answer state messages = record { state = state; reply = sent_reply messages }

abbrev pub nothing : State → StateAnswer
nothing state = sent_answer state no_messages

-- these rounds and what has become of the reads, with the number of those that are served
abbrev pub served_answer : Rounds → Tracked → SentMessages → Option CommittedSlot → StateAnswer
served_answer rounds reads messages commit =
    record {
      state = record { rounds = track reads.tracker rounds; table = reads.table };
      reply = record { outcome = Ok tt; messages = messages; commit = commit; served_count = reads.served_count };
    }

-- ---- the commit of a value

-- commit_slot, and then commit_commands: the mark of the fast path is read and cleared, and the reads that the commit has made ready are
-- served at the new slot
unfoldable pub committed : State → Asked → ℕ → Rounds → SentMessages → StateAnswer
committed state a v s messages =
    served_answer (next_slot a v s) (serve_at_commit s.core.tracker state.table a.member.quorums.majority (next_slot a v s).core.slot) messages
    (committed_slot s.core.slot v (is_fast a s.core))

-- ---- the end of a call

-- a step becomes an answer, and a commit needs its value ("last the 6 of a commit"). No handler ends with `Continues`; it is answered all the same, so
-- that every step has an answer.
abbrev pub finish_at : State → Asked → Bool → Rounds → SentMessages → Next → StateAnswer
finish_at state a held s messages Stays = sent_answer (state_with_rounds state s) messages
finish_at state a held s messages Continues = sent_answer (state_with_rounds state s) messages
finish_at state a held s messages (Commits v) = cond held (committed state a v s messages) (refused ValueNotHeld state)

-- what is refused leaves the old state
abbrev pub finish : State → Asked → Bool → Result RoundsStep Refusal → StateAnswer
finish state a held (Ok step) = finish_at state a held step.state step.messages step.next
finish state a held (Err why) = refused why state

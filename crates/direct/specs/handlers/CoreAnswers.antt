-- What a call in the classic modes makes of the core alone, for shards whose parts are lent: what is sent, and the commit of a value before reads are served.
-- Assumes nothing.
use Rattle.std.specs.Prelude.{false, cond, ℕ, ltb}
use Rattle.calls.specs.Replies.{sent_reply, committed_reply}
use Rattle.paxos_family.specs.Commit.{next_core}
use Rattle.steps.specs.Steps.{no_messages}
use Rattle.steps.specs.declared.Asked.{Asked}
use Rattle.steps.specs.declared.Core.{Core}
use Rattle.steps.specs.declared.SentMessages.{SentMessages}
use Rattle.direct.specs.declared.handlers.CoreAnswer.{CoreAnswer}

abbrev pub core_sends : Core → SentMessages → CoreAnswer
core_sends core messages = record { core = core; reply = sent_reply messages; reads_open = false }

-- where reads are open, some may have become ready
unfoldable pub core_committed : Asked → ℕ → Core → SentMessages → CoreAnswer
core_committed a v core messages =
    record { core = next_core a v core; reply = committed_reply a v core messages; reads_open = ltb 0 core.tracker.open_count }

-- an older one does nothing; the own slot's commits, from any source and at any member
unfoldable pub core_on_commit : Asked → ℕ → ℕ → Core → CoreAnswer
core_on_commit a slot v core = cond (ltb slot core.slot) (core_sends core no_messages) (core_committed a v core no_messages)

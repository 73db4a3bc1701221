-- A commit and a ReadResponse where no read is open: the table of the reads stays as it is.
-- Assumes nothing.
use Rattle.std.specs.Prelude.{None}
use Prim.Native.Nat.{ℕ}
use mathlib.Core.Bool.{Bool}
use mathlib.Core.Path.{◌≡◌, sym, ap}
use Rattle.calls.specs.Commits.{committed_slot}
use Rattle.calls.specs.Replies.{is_fast, committed_reply}
use Rattle.consensus.specs.Answers.{state_with_rounds, nothing, served_answer, committed}
use Rattle.consensus.specs.Handle.{on_read_response}
use Rattle.consensus.specs.declared.State.{State}
use Rattle.consensus.specs.declared.StateAnswer.{StateAnswer}
use Rattle.message.specs.declared.ReadId.{ReadId}
use Rattle.paxos_family.specs.Commit.{commit_slot, next_slot}
use Rattle.read_tracker.proofs.serving.NoReads.{commit_untouched, response_untouched}
use Rattle.read_tracker.specs.declared.serving.Tracked.{Tracked}
use Rattle.steps.specs.Steps.{no_messages}
use Rattle.steps.specs.declared.Asked.{Asked}
use Rattle.steps.specs.declared.SentMessages.{SentMessages}
use Rattle.steps.specs.declared.Rounds.{Rounds}

-- what a commit hands back where it serves no read
abbrev pub committed_alone : State → Asked → ℕ → Rounds → SentMessages → StateAnswer
committed_alone state a v s messages = record { state = state_with_rounds state (next_slot a v s); reply = committed_reply a v s.core messages }

module _ (state : State) (a : Asked) where
  pub commit_without_reads : (v : ℕ) (s : Rounds) (messages : SentMessages) → s.core.tracker.open_count ≡ 0
      → committed_alone state a v s messages ≡ committed state a v s messages
  unfolding committed commit_slot
  commit_without_reads v s messages none =
      sym
      (ap (λ (t : Tracked). served_answer (next_slot a v s) t messages (committed_slot s.core.slot v (is_fast a s.core)))
      (commit_untouched s.core.tracker state.table none a.member.quorums.majority (commit_slot a v s).core.slot))

  pub response_without_reads : (id : ReadId) (fast : Bool) → state.rounds.core.tracker.open_count ≡ 0
      → nothing state ≡ on_read_response state a id fast
  unfolding on_read_response
  response_without_reads id fast none =
      sym
      (ap (λ (t : Tracked). served_answer state.rounds t no_messages None)
      (response_untouched state.rounds.core.tracker state.table none id a.member.quorums.majority state.rounds.core.slot fast))

-- What a Prepare and an Accept have in common (the first part of the Rust's process_message).
-- Assumes nothing.
use Rattle.std.specs.Prelude.{Bool, cond, ◌||◌, ℕ, ltb, Some, Result, Ok, Err}
use Rattle.message.specs.Modes.{is_swift_paxos}
use Rattle.message.specs.Rounds.{before}
use Rattle.message.specs.declared.PaxosRound.{PaxosRound}
use Rattle.message.specs.declared.Refusal.{Refusal}
use Rattle.message.specs.declared.Refusal.TheVariants.{SourceNotLive}
use Rattle.round_state.specs.Paxos.{goto_round}
use Rattle.steps.specs.Steps.{CoreStep, no_messages, with_paxos, stays, continues}
use Rattle.steps.specs.declared.Asked.{Asked}
use Rattle.steps.specs.declared.Core.{Core}
use Rattle.steps.specs.declared.Heard.{Heard}

-- can_propose: who takes part, a replica, and in SwiftPaxos every process
abbrev pub can_propose : Asked → Bool
can_propose a = a.member.replica || is_swift_paxos a.mode

-- 7: the source must be a live replica, unless the mode is SwiftPaxos
abbrev pub source_taken : Asked → Heard → Bool
source_taken a h = h.source_live || is_swift_paxos a.mode

-- a later round is entered: goto_round
unfoldable pub in_round : PaxosRound → Core → Core
in_round round core = cond (before core.paxos.round (Some round)) (with_paxos (goto_round (Some round) core.paxos) core) core

-- an older slot or round: `*slot < self.slot || Some(*round) < self.round_state.round`
unfoldable pub is_older : ℕ → PaxosRound → Core → Bool
is_older slot round core = ltb slot core.slot || before (Some round) core.paxos.round

-- the round is entered if the source is taken; the Rust's goto_round comes before its assertion, and a refused call leaves nothing of it
unfoldable pub from_live : Asked → Heard → PaxosRound → Core → Result CoreStep Refusal
from_live a h round core = cond (source_taken a h) (Ok (continues (in_round round core) no_messages)) (Err SourceNotLive)

-- "a non-replica (not SwiftPaxos) does nothing; older ones do nothing; 7". A slot that is ahead was refused with 5 before.
unfoldable pub enter : Asked → Heard → ℕ → PaxosRound → Core → Result CoreStep Refusal
enter a h slot round core =
    cond (can_propose a)
    (cond (is_older slot round core) (Ok (stays core no_messages)) (from_live a h round core))
    (Ok (stays core no_messages))

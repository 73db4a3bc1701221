-- The replies of calls, before reads are served, and what answers a ReadRequest.
-- Assumes nothing.
use Rattle.std.specs.Prelude.{Bool, not, cond, ◌&&◌, ℕ, None, Ok, Err, is_some}
use Rattle.message.specs.Modes.{has_fast_path}
use Rattle.message.specs.Rounds.{increment}
use Rattle.message.specs.declared.ConsensusMsg.TheVariants.{ReadResponse}
use Rattle.message.specs.declared.ReadId.{ReadId}
use Rattle.message.specs.declared.Refusal.{Refusal}
use Rattle.steps.specs.Steps.{no_messages}
use Rattle.steps.specs.declared.Asked.{Asked}
use Rattle.steps.specs.declared.Core.{Core}
use Rattle.steps.specs.declared.Destination.TheVariants.{One}
use Rattle.steps.specs.declared.SentMessages.{SentMessages}
use Rattle.steps.specs.declared.Outgoing.{Outgoing}
use Rattle.calls.specs.Commits.{committed_slot}
use Rattle.calls.specs.declared.Reply.{Reply}

-- a refusal hands back its number alone
abbrev pub refused_reply : Refusal → Reply
refused_reply why = record { outcome = Err why; messages = no_messages; commit = None; served_count = 0 }

abbrev pub sent_reply : SentMessages → Reply
sent_reply messages = record { outcome = Ok tt; messages = messages; commit = None; served_count = 0 }

-- "fast mark from `has_fast_path` and `slot_left_fast_path`, whoever the requester"
abbrev pub is_fast : Asked → Core → Bool
is_fast a core = has_fast_path a.mode && not core.slot_left_fast_path

abbrev pub committed_reply : Asked → ℕ → Core → SentMessages → Reply
committed_reply a v core messages =
    record { outcome = Ok tt; messages = messages; commit = committed_slot core.slot v (is_fast a core); served_count = 0 }

-- the first slot that is not decided here yet: the own one, or the next while a value is held
abbrev pub next_readable : Core → ℕ
next_readable core = cond (is_some core.paxos.max_rv) (increment core.slot) core.slot

-- a ReadResponse carries no last value
abbrev pub read_answer : ℕ → ℕ → ReadId → Core → Outgoing
read_answer own src id core =
    record { destination = One src; message = record { msg = ReadResponse id (next_readable core); src = own; last_v = None } }

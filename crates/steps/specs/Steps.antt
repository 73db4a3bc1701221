-- Steps of a call, and the messages that they send (document 01, "Message and answer").
-- Everywhere below, and in the handlers above: a is what they ask of the settings (`Asked`), h what they ask of a message (`Heard`), s the rounds (`Rounds`),
-- me the member (`Member`), rv a promise (`RoundV`), v a value, src a source.
-- Assumes nothing.
use Rattle.std.specs.Prelude.{Bool, true, false, cond, ℕ, eqb, Option, None, Some, Result, Ok, Err}
use Rattle.message.specs.Promises.{value_of}
use Rattle.message.specs.declared.ConsensusMsg.{ConsensusMsg}
use Rattle.message.specs.declared.Refusal.{Refusal}
use Rattle.message.specs.declared.RoundV.{RoundV}
use Rattle.message.specs.declared.RoundV.TheVariants.{PaxosV}
use Rattle.round_state.specs.declared.PaxosState.{PaxosState}
use Rattle.fast_state.specs.Fast.{changed, unchanged}
use Rattle.fast_state.specs.declared.FastAnswers.{FastAnswers}
use Rattle.fast_state.specs.declared.FastChange.{FastChange}
use Rattle.fast_state.specs.declared.FastState.{FastState}
use Rattle.steps.specs.declared.Asked.{Asked}
use Rattle.steps.specs.declared.ChangeStep.{ChangeStep}
use Rattle.steps.specs.declared.Core.{Core}
use Rattle.steps.specs.declared.Destination.{Destination}
use Rattle.steps.specs.declared.Destination.TheVariants.{All}
use Rattle.steps.specs.declared.SentMessages.{SentMessages}
use Rattle.steps.specs.declared.Next.{Next}
use Rattle.steps.specs.declared.Next.TheVariants.{Stays, Continues, Commits}
use Rattle.steps.specs.declared.Outgoing.{Outgoing}
use Rattle.steps.specs.declared.Rounds.{Rounds}
use Rattle.steps.specs.declared.Step.{Step}

-- ---- messages

abbrev pub no_messages : SentMessages
no_messages = record { first = None; second = None; third = None }

abbrev pub one_message : Outgoing → SentMessages
one_message m = record { first = Some m; second = None; third = None }

abbrev pub two_messages : Outgoing → Outgoing → SentMessages
two_messages m n = record { first = Some m; second = Some n; third = None }

-- one message more, behind those that there are; no call sends more than two, and document 01 leaves room for three
abbrev pub also_behind : Option Outgoing → Option Outgoing → Option Outgoing → Outgoing → SentMessages
also_behind first None third m = record { first = first; second = Some m; third = third }
also_behind first (Some b) third m = record { first = first; second = Some b; third = Some m }

abbrev pub also_at : Option Outgoing → Option Outgoing → Option Outgoing → Outgoing → SentMessages
also_at None second third m = record { first = Some m; second = second; third = third }
also_at (Some a) second third m = also_behind (Some a) second third m

abbrev pub also : SentMessages → Outgoing → SentMessages
also ms m = also_at ms.first ms.second ms.third m

-- what the member sends carries its number and the last value that it committed
abbrev pub sends : Asked → Core → Destination → ConsensusMsg → Outgoing
sends a core destination msg =
    record { destination = destination; message = record { msg = msg; src = a.member.my_pid; last_v = core.last_v } }

abbrev pub to_all : Destination
to_all = All None

-- the process that a Commit is served to first: the requester of its value, where that is another process
abbrev pub first_served : Asked → Option ℕ → Option ℕ
first_served a None = None
first_served a (Some p) = cond (eqb p a.member.my_pid) None (Some p)

-- ---- what is held, where something is; the other case is not met (the Rust unwraps)

abbrev pub held_rv : Option RoundV → RoundV
held_rv None = PaxosV None 0
held_rv (Some rv) = rv

abbrev pub held_value : Option RoundV → ℕ
held_value held = value_of (held_rv held)

-- ---- parts of the state set anew

abbrev pub with_paxos : PaxosState → Core → Core
with_paxos p core =
    record { slot = core.slot; last_v = core.last_v; slot_left_fast_path = core.slot_left_fast_path; paxos = p; tracker = core.tracker }

abbrev pub left_fast_path : Core → Core
left_fast_path core =
    record { slot = core.slot; last_v = core.last_v; slot_left_fast_path = true; paxos = core.paxos; tracker = core.tracker }

-- ---- steps

abbrev pub CoreStep : Type 0
CoreStep = Step Core

abbrev pub RoundsStep : Type 0
RoundsStep = Step Rounds

abbrev pub stays : Core → SentMessages → CoreStep
stays core messages = record { state = core; messages = messages; next = Stays }

abbrev pub continues : Core → SentMessages → CoreStep
continues core messages = record { state = core; messages = messages; next = Continues }

abbrev pub commits_with : ℕ → Core → SentMessages → CoreStep
commits_with v core messages = record { state = core; messages = messages; next = Commits v }

-- whether the handler goes on with the step's core
abbrev pub goes_on : Next → Bool
goes_on Stays = false
goes_on Continues = true
goes_on (Commits v) = false

-- the rest of the handler where it goes on from a step, and else what is made of the step; a refused step is all that is left of the handler
abbrev pub then_in : {X : Type 0} → (CoreStep → X) → Result CoreStep Refusal → (Core → Result X Refusal) → Result X Refusal
then_in make (Ok step) rest = cond (goes_on step.next) (rest step.state) (Ok (make step))
then_in make (Err why) rest = Err why

abbrev pub and_then : Result CoreStep Refusal → (Core → Result CoreStep Refusal) → Result CoreStep Refusal
and_then = then_in (λ step. step)

-- another step made of a step, where that is not refused
abbrev pub map_step : {A B : Type 0} → (A → B) → Result A Refusal → Result B Refusal
map_step make (Ok step) = Ok (make step)
map_step make (Err why) = Err why

-- a step of the core, and what changes in the fast half
abbrev pub with_change : FastChange → CoreStep → ChangeStep
with_change change step = record { core = step.state; messages = step.messages; next = step.next; change = change }

-- the same in EPaxos and SwiftPaxos: where the handler ends with a step of the core, the fast half is as it was
abbrev pub and_then_change : FastAnswers → Result CoreStep Refusal → (Core → Result ChangeStep Refusal) → Result ChangeStep Refusal
and_then_change answers = then_in (with_change (unchanged answers))

-- a step of the core, with the fast half as it is
abbrev pub on_rounds : FastState → CoreStep → RoundsStep
on_rounds fast step = record { state = record { core = step.state; fast = fast }; messages = step.messages; next = step.next }

-- a step with its change made to the fast half
abbrev pub change_rounds : FastState → ChangeStep → RoundsStep
change_rounds fast step =
    record { state = record { core = step.core; fast = changed step.change fast }; messages = step.messages; next = step.next }

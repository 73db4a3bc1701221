-- The end of a call in EPaxos or SwiftPaxos: what it makes of the core, and what becomes of the fast half.
-- Assumes nothing.
use Rattle.std.specs.Prelude.{Bool, cond, Result, Ok, Err}
use Rattle.direct.specs.handlers.CoreAnswers.{core_sends, core_committed}
use Rattle.direct.specs.declared.handlers.CoreAnswer.{CoreAnswer}
use Rattle.fast_state.specs.declared.FastChange.{FastChange}
use Rattle.message.specs.declared.Refusal.{Refusal}
use Rattle.message.specs.declared.Refusal.TheVariants.{ValueNotHeld}
use Rattle.steps.specs.declared.Asked.{Asked}
use Rattle.steps.specs.declared.ChangeStep.{ChangeStep}
use Rattle.steps.specs.declared.Core.{Core}
use Rattle.steps.specs.declared.SentMessages.{SentMessages}
use Rattle.steps.specs.declared.Next.{Next}
use Rattle.steps.specs.declared.Next.TheVariants.{Stays, Continues, Commits}
use Rattle.direct_fast.specs.declared.finish.After.{After}
use Rattle.direct_fast.specs.declared.finish.After.TheVariants.{Changed, Cleared}
use Rattle.direct_fast.specs.declared.finish.HalfAnswer.{HalfAnswer}

abbrev pub answers_with : CoreAnswer → After → HalfAnswer
answers_with answer after = record { answer = answer; after = after }

-- a commit clears the fast half and needs its value; else the step's change is made
abbrev pub fast_finish_at : Asked → Bool → Core → SentMessages → FastChange → Next → Result HalfAnswer Refusal
fast_finish_at a held s messages change Stays = Ok (answers_with (core_sends s messages) (Changed change))
fast_finish_at a held s messages change Continues = Ok (answers_with (core_sends s messages) (Changed change))
fast_finish_at a held s messages change (Commits v) = cond held (Ok (answers_with (core_committed a v s messages) Cleared)) (Err ValueNotHeld)

-- a step becomes an answer, as in the classic modes
abbrev pub fast_finish : Asked → Bool → Result ChangeStep Refusal → Result HalfAnswer Refusal
fast_finish a held (Ok step) = fast_finish_at a held step.core step.messages step.change step.next
fast_finish a held (Err why) = Err why

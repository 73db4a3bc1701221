-- The steps of a run: each call of the list with the member's shard before it, from which all that the call did can be read. The entries of
-- Claim.antt are the steps seen from outside (proofs/Steps.antt). Lists have the latest first.
-- Assumes nothing.
use Rattle.std.specs.Prelude.{Bool, true, false, List, [], ◌∷◌, ℕ, suc, Ok, Err, Option, None, Some}
use Rattle.message.specs.Outcomes.{Outcome}
use Rattle.settings.specs.declared.Settings.{Settings}
use Rattle.fast_state.specs.Adopt.{lowest_best}
use Rattle.calls.specs.declared.delivery.Delivery.{Delivery}
use Rattle.calls.specs.declared.Call.{Call}
use Rattle.calls.specs.declared.Call.TheVariants.{Propose, StartRead, Receive}
use Rattle.calls.specs.declared.Reply.{Reply}
use Rattle.consensus.specs.Call.{call_of}
use Rattle.consensus.specs.declared.Shard.{Shard}
use Rattle.group.specs.Claim.{begun, CallTypes, CallMade, MemberCallOf, MemberCall, Entry, after_made, after_call}

pub record RunStep : Type 0 where
  pub member : ℕ
  pub before : Shard
  pub call : Call

-- what the step handed back
abbrev pub reply_of : RunStep → Reply
reply_of x = (call_of x.before x.call).reply

-- not refused
abbrev pub is_done : Outcome → Bool
is_done (Ok tt) = true
is_done (Err why) = false

-- the message that the handlers got in a step: that of the call, where the call has one
abbrev pub delivery_in : Call → Option Delivery
delivery_in (Propose v) = None
delivery_in (StartRead tag arrival) = None
delivery_in (Receive d) = Some d

-- the message that a step delivers, where its call has one
abbrev pub delivered : RunStep → Option Delivery
delivered x = delivery_in x.call

-- ---- the steps of a run

abbrev pub step_of : (ℕ → Shard) → MemberCall → RunStep
step_of shards c = record { member = c.member; before = shards c.member; call = c.call }

-- the steps of a run that goes on from some shards and earlier steps
unfoldable pub steps_from : (ℕ → Shard) → List RunStep → List MemberCall → List RunStep
steps_from shards past [] = past
steps_from shards past (c ∷ cs) = steps_from (after_call lowest_best shards c) (step_of shards c ∷ past) cs

abbrev pub run_steps : Settings → List MemberCall → List RunStep
run_steps s cs = steps_from (begun s) [] cs

-- ---- the shards after a run, of whichever calls, that goes on from some shards

unfoldable pub shards_made : {T : CallTypes} {S C : Type 0} → (ℕ → S → C → CallMade T S) → (ℕ → S) → List (MemberCallOf C) → ℕ → S
shards_made makes shards [] = shards
shards_made makes shards (c ∷ cs) = shards_made (λ place. makes (suc place)) (after_made (makes 0) shards c) cs

-- ---- seen from outside

abbrev pub entry_of_step : RunStep → Entry
entry_of_step x = record { member = x.member; call = x.call; reply = reply_of x }

abbrev pub entries_of_steps : List RunStep → List Entry
entries_of_steps [] = []
entries_of_steps (x ∷ past) = entry_of_step x ∷ entries_of_steps past

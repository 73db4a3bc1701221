-- What is decided of a call before it is handled (document 01, the table of "Message and answer"): 1, then 2 of a spent shard, then 2 to 6.
-- Assumes nothing.
use Rattle.std.specs.Prelude.{Bool, true, false, cond, ◌&&◌, ℕ, leb, Result, Ok, Err}
use Rattle.message.specs.Outcomes.{Outcome}
use Rattle.calls.specs.declared.Taken.{Taken}
use Rattle.message.specs.declared.Refusal.{Refusal}
use Rattle.message.specs.declared.Refusal.TheVariants.{NumberTooLarge}
use Rattle.settings.specs.declared.Settings.{Settings}
use Rattle.steps.specs.declared.Core.{Core}
use Rattle.calls.specs.delivery.Admit.{admit}
use Rattle.calls.specs.delivery.Limits.{is_number, is_slot}
use Rattle.calls.specs.Asked.{asked_of, heard_in}
use Rattle.calls.specs.declared.Call.{Call}
use Rattle.calls.specs.declared.Call.TheVariants.{Propose, StartRead, Receive}

abbrev pub if_fit : Bool → Outcome
if_fit fit = cond fit (Ok tt) (Err NumberTooLarge)

abbrev pub read_fits : ℕ → ℕ → Bool
read_fits tag arrival = is_number tag && is_slot arrival

abbrev pub is_proposal : Call → Bool
is_proposal (Propose v) = true
is_proposal (StartRead tag arrival) = false
is_proposal (Receive d) = false

-- a proposal: 2; a new read: 2; a message: 2 to 6; of a member with the number own in a group of so many processes
unfoldable pub admission_of : ℕ → ℕ → Core → Call → Outcome
admission_of count own core (Propose v) = if_fit (is_number v)
admission_of count own core (StartRead tag arrival) = if_fit (read_fits tag arrival)
admission_of count own core (Receive d) = admit count own core d

-- "own slot 2^63−1, which is spent (then every call)"
unfoldable pub unless_spent : ℕ → ℕ → Core → Call → Outcome
unless_spent count own core c = cond (leb 9223372036854775807 core.slot) (Err NumberTooLarge) (admission_of count own core c)

-- an unmade shard gives its number, before anything else
abbrev pub unless_unmade : Outcome → ℕ → ℕ → Core → Call → Outcome
unless_unmade (Ok tt) count own core c = unless_spent count own core c
unless_unmade (Err why) count own core c = Err why

abbrev pub decision_for : Settings → Call → Outcome → Result Taken Refusal
decision_for s c (Ok tt) = Ok (record { asked = asked_of s; heard = heard_in s c; call = c })
decision_for s c (Err why) = Err why

unfoldable pub decision_of : Outcome → Settings → Core → Call → Result Taken Refusal
decision_of made s core c = decision_for s c (unless_unmade made s.process_count s.my_pid core c)

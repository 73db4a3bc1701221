-- The law by which what holds of all calls is shown: it holds of every refusal, and of what is made of a call that is taken. Of that it is known that the shard is
-- made, that its slot is not spent, and that the call is admitted.
-- Assumes nothing.
use Rattle.std.specs.Prelude.{Ok, Err}
use mathlib.Core.Path.{◌≡◌, refl}
use mathlib.Core.Bool.{Bool, true, false, cond}
use Prim.Native.Nat.{◌<◌}
use lib.Dec.{leb}
use borrow.Author.Tests.{leb-false}
use Rattle.message.specs.Outcomes.{Outcome}
use Rattle.message.specs.declared.Refusal.{Refusal}
use Rattle.message.specs.declared.Refusal.TheVariants.{NumberTooLarge}
use Rattle.fast_state.specs.Adopt.{ProposerChoice}
use Rattle.calls.specs.Asked.{asked_of, heard_in}
use Rattle.calls.specs.Decision.{admission_of, unless_spent, unless_unmade, decision_for, decision_of}
use Rattle.calls.specs.declared.Call.{Call}
use Rattle.consensus.specs.Call.{state_call, in_shard, call_with}
use Rattle.consensus.specs.FirstCause.{number_alone}
use Rattle.consensus.specs.Handle.{handle_call}
use Rattle.consensus.specs.declared.Answer.{Answer}
use Rattle.consensus.specs.declared.Shard.{Shard}

-- what is found of a call on a shard that is made and not spent
abbrev pub admission : Shard → Call → Outcome
admission shard c = admission_of shard.settings.process_count shard.settings.my_pid shard.state.rounds.core c

-- what is decided of a call: it is refused, or the shard is made, its slot is not spent, and the call is admitted
pub by_outcome : (shard : Shard) (c : Call) (P : Outcome → Type 0) → ((why : Refusal) → P (Err why))
    → (shard.made ≡ Ok tt → shard.state.rounds.core.slot < 9223372036854775807 → admission shard c ≡ Ok tt → P (Ok tt))
    → P (unless_unmade shard.made shard.settings.process_count shard.settings.my_pid shard.state.rounds.core c)
unfolding unless_spent
by_outcome shard c P refused taken = if_made_lem shard.made refl
  where
    admitted : shard.made ≡ Ok tt → shard.state.rounds.core.slot < 9223372036854775807 → (o : Outcome) → admission shard c ≡ o → P o
    admitted made room (Ok tt) e = taken made room e
    admitted made room (Err why) e = refused why

    not_spent : shard.made ≡ Ok tt → (spent : Bool) → leb 9223372036854775807 shard.state.rounds.core.slot ≡ spent → P (cond spent (Err NumberTooLarge) (admission shard c))
    not_spent made true e = refused NumberTooLarge
    not_spent made false e = admitted made (leb-false 9223372036854775807 shard.state.rounds.core.slot e) (admission shard c) refl

    if_made_lem : (o : Outcome) → shard.made ≡ o → P (unless_unmade o shard.settings.process_count shard.settings.my_pid shard.state.rounds.core c)
    if_made_lem (Ok tt) made = not_spent made (leb 9223372036854775807 shard.state.rounds.core.slot) refl
    if_made_lem (Err why) made = refused why

module _ (choose : ProposerChoice) (shard : Shard) where
  -- what is made of a call that is taken
  abbrev pub handled : Call → Answer
  handled c = in_shard shard (handle_call choose shard.state (asked_of shard.settings) (heard_in shard.settings c) c)

  pub by_decision : (P : Answer → Type 0) (c : Call) → ((why : Refusal) → P (number_alone why shard))
      → (shard.made ≡ Ok tt → shard.state.rounds.core.slot < 9223372036854775807 → admission shard c ≡ Ok tt → P (handled c)) → P (call_with choose shard c)
  unfolding call_with decision_of state_call
  by_decision P c refused taken =
      by_outcome shard c (λ (o : Outcome). P (in_shard shard (state_call choose shard.state (decision_for shard.settings c o)))) refused taken

  -- no call changes the mark or the settings
  pub mark_kept : (c : Call) → (call_with choose shard c).shard.made ≡ shard.made
  unfolding call_with
  mark_kept c = refl

  pub settings_kept : (c : Call) → (call_with choose shard c).shard.settings ≡ shard.settings
  unfolding call_with
  settings_kept c = refl

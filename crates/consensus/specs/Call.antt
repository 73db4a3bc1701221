-- What a call does, whole: `call_of shard call` is the new shard and the reply (document 01, "Message and answer"). The contracts of the entry
-- points cite these definitions, and the theorem on group runs is about them.
-- Assumes nothing.
use Rattle.std.specs.Prelude.{false, cond, List, [], ◌∷◌, None, Result, Ok, Err}
use Rattle.calls.specs.Decision.{decision_of}
use Rattle.calls.specs.declared.Call.{Call}
use Rattle.calls.specs.declared.Taken.{Taken}
use Rattle.fast_state.specs.Adopt.{ProposerChoice, lowest_best}
use Rattle.fast_state.specs.RoundState.{new_round_state}
use Rattle.message.specs.declared.Refusal.{Refusal}
use Rattle.message.specs.declared.Refusal.TheVariants.{SettingsOutsideLimits}
use Rattle.read_tracker.specs.Reads.{new_tracker, new_table}
use Rattle.settings.specs.Questions.{starting_round_of}
use Rattle.settings.specs.Settings.{within_limits}
use Rattle.settings.specs.declared.Settings.{Settings}
use Rattle.steps.specs.declared.Core.{Core}
use Rattle.consensus.specs.Answers.{refused}
use Rattle.consensus.specs.Handle.{handle_call}
use Rattle.consensus.specs.declared.Answer.{Answer}
use Rattle.consensus.specs.declared.Shard.{Shard}
use Rattle.consensus.specs.declared.State.{State}
use Rattle.consensus.specs.declared.StateAnswer.{StateAnswer}

-- ---- new

abbrev pub new_core : Settings → Core
new_core s =
    record {
      slot = 0;
      last_v = None;
      slot_left_fast_path = false;
      paxos = (new_round_state (starting_round_of s)).paxos;
      tracker = new_tracker;
    }

abbrev pub new_state : Settings → State
new_state s = record { rounds = record { core = new_core s; fast = (new_round_state (starting_round_of s)).fast }; table = new_table }

-- settings outside the limits give a shard marked unmade
unfoldable pub new_shard : Settings → Shard
new_shard s = record { made = cond (within_limits s) (Ok tt) (Err SettingsOutsideLimits); settings = s; state = new_state s }

-- ---- calls

-- what a call that is decided on makes of the state; the choice among the best proposers of EPaxos is a parameter
unfoldable pub state_call : ProposerChoice → State → Result Taken Refusal → StateAnswer
state_call choose state (Err why) = refused why state
state_call choose state (Ok t) = handle_call choose state t.asked t.heard t.call

-- the shard with what became of its state
abbrev pub with_state : Shard → State → Shard
with_state shard state = record { made = shard.made; settings = shard.settings; state = state }

abbrev pub in_shard : Shard → StateAnswer → Answer
in_shard shard a = record { shard = with_state shard a.state; reply = a.reply }

abbrev pub call_decision : Shard → Call → Result Taken Refusal
call_decision shard c = decision_of shard.made shard.settings shard.state.rounds.core c

-- it is decided whether the call is taken, and it is handled or refused
unfoldable pub call_with : ProposerChoice → Shard → Call → Answer
call_with choose shard c = in_shard shard (state_call choose shard.state (call_decision shard c))

-- ours takes the lowest of the best proposers
abbrev pub call_of : Shard → Call → Answer
call_of shard c = call_with lowest_best shard c

-- the shard after calls, one after another
unfoldable pub shard_after_calls : Shard → List Call → Shard
shard_after_calls shard [] = shard
shard_after_calls shard (c ∷ cs) = shard_after_calls (call_of shard c).shard cs

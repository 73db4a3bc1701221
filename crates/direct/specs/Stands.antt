-- When what a call leaves in the arrays of a member stands for what the call makes of the shard that they stood for. The contracts of the two functions for
-- hosts say so.
-- Assumes nothing.
use Rattle.std.specs.Prelude.{true, List, ◌⊎◌, ◌≡◌, ℕ, Ok, Err}
use Rattle.arrays.specs.Arrays.{settings_of, setup_of, core_of}
use Rattle.arrays.specs.FastArrays.{fast_state_of}
use Rattle.arrays.specs.declared.FastArrays.{FastArrays}
use Rattle.arrays.specs.Told.{decoded_reply}
use Rattle.arrays.specs.declared.Setup.{Setup}
use Rattle.arrays.specs.declared.ShardArrays.{ShardArrays}
use Rattle.arrays.specs.reads.Rows.{reads_in}
use Rattle.calls.specs.declared.Call.{Call}
use Rattle.calls.specs.declared.Reply.{Reply}
use Rattle.consensus.specs.Call.{call_of}
use Rattle.consensus.specs.declared.Answer.{Answer}
use Rattle.consensus.specs.declared.Shard.{Shard}
use Rattle.direct.specs.Direct.{ArraysAfter, fast_half_acts, direct_call}
use Rattle.direct.specs.handlers.Handled.{put_reply, passed_on}
use Rattle.direct.specs.declared.handlers.ReplyInArrays.{ReplyInArrays}
use Rattle.message.specs.Outcomes.{Outcome}
use Rattle.message.specs.Refusals.{refusal_number}
use Rattle.read_tracker.specs.declared.ReadTable.{ReadTable}
use Rattle.flat.specs.Decode.{decoded_call, decoded_core, decoded_made, decoded_settings}
use Rattle.flat.specs.declared.FlatCall.{FlatCall}

-- ---- the memory of a member

-- its arrays, with what those of its reads stand for
pub record Memory : Type 0 where
  pub setup : Setup
  pub committers : List ℕ
  pub delegates : List ℕ
  pub core : List ℕ
  pub fast : FastArrays
  pub table : ReadTable

abbrev pub memory_with : Setup → List ℕ → List ℕ → List ℕ → FastArrays → ReadTable → Memory
memory_with s committers delegates core fast table =
    record { setup = s; committers = committers; delegates = delegates; core = core; fast = fast; table = table }

-- of a shard that is lent
abbrev pub memory_in : ShardArrays → Memory
memory_in s = memory_with (setup_of s.settings.setup) s.settings.committers s.settings.delegates s.core s.fast (reads_in s.reads)

-- the shard that it stands for
abbrev pub shard_of : Memory → Shard
shard_of m =
    record {
      made = decoded_made m.setup.made m.setup.mode;
      settings = decoded_settings (settings_of m.setup m.committers m.delegates);
      state = record { rounds = record { core = decoded_core (core_of m.core); fast = fast_state_of m.fast }; table = m.table };
    }

-- the call that the numbers of a call stand for, at this member
abbrev pub call_in : Memory → FlatCall → Call
call_in m f = decoded_call m.setup.process_count m.setup.my_pid f

-- ---- a call

-- the number, the memory afterwards and the arrays of the reply
pub record HostAnswer : Type 0 where
  pub number : ℕ
  pub memory : Memory
  pub reply : ReplyInArrays

-- of a shard and a reply that were lent
abbrev pub host_has : ℕ → ShardArrays → ReplyInArrays → HostAnswer
host_has number shard reply = record { number = number; memory = memory_in shard; reply = reply }

-- the reply that a host reads, in the number that came back and in the arrays of the reply
abbrev pub told_by : HostAnswer → Reply
told_by x = decoded_reply x.number x.reply.first x.reply.second x.reply.third x.reply.rest

-- of what a function leaves, with the fast half as it is afterwards
abbrev pub left_by : {Half : Type 0} → Memory → FastArrays → ArraysAfter ℕ Half → HostAnswer
left_by m fast d = record { number = d.outcome; memory = memory_with m.setup m.committers m.delegates d.core fast d.table; reply = d.reply }

-- nothing is written
abbrev pub unwritten : Memory → ReplyInArrays → ℕ → HostAnswer
unwritten m w number = record { number = number; memory = m; reply = w }

-- a call that is taken: the memory stands for the new shard, and the reply is written; a refusal gives its number alone
abbrev pub Stands : Memory → ReplyInArrays → Answer → Outcome → HostAnswer → Type 0
Stands m w a (Ok tt) x = (x.number ≡ 0) × (shard_of x.memory ≡ a.shard) × (x.reply ≡ put_reply a.reply w)
Stands m w a (Err why) x = x ≡ unwritten m w (refusal_number why)

-- what the call makes of the shard that the memory stands for
abbrev pub answer_to : Memory → FlatCall → Answer
answer_to m f = call_of (shard_of m) (call_in m f)

-- the call is made, and what a host reads is its reply
abbrev pub CallIsMade : Memory → FlatCall → ReplyInArrays → HostAnswer → Type 0
CallIsMade m f w x = Stands m w (answer_to m f) (answer_to m f).reply.outcome x × (told_by x ≡ (answer_to m f).reply)

-- ---- `chanbook_direct_call`

-- where the fast half has a part in the call it may be passed on; else it is made. The fast half is left as it is.
abbrev pub PassedOrMade : Memory → FlatCall → ReplyInArrays → HostAnswer → Type 0
PassedOrMade m f w x = ((fast_half_acts m.setup f ≡ true) × (x ≡ unwritten m w passed_on)) ⊎ CallIsMade m f w x

-- as the contract says it
unfoldable pub DirectStands : Memory → FlatCall → ReplyInArrays → HostAnswer → Type 0
DirectStands m f w x = PassedOrMade m f w x

abbrev pub by_direct : Memory → FlatCall → ReplyInArrays → HostAnswer
by_direct m f w = left_by m m.fast (direct_call m.setup m.committers m.delegates m.core m.table f w)

abbrev pub DirectIsCall : Type 0
DirectIsCall = (m : Memory) (f : FlatCall) (w : ReplyInArrays) → PassedOrMade m f w (by_direct m f w)

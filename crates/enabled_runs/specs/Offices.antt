-- The three offices of document 02's E12, their hosts, and the listing of their short runs.
-- Assumes nothing.
use Rattle.std.specs.Prelude.{true, false, List, [], ◌∷◌, ◌++◌, ℕ, ◌-◌, replicate, Option, None, Some}
use Rattle.message.specs.declared.RoundV.{RoundV}
use Rattle.calls.specs.declared.CommittedSlot.{CommittedSlot}
use Rattle.message.specs.Promises.{value_of}
use Rattle.message.specs.declared.ConsensusMessage.{ConsensusMessage}
use Rattle.message.specs.declared.ConsensusMsg.{ConsensusMsg}
use Rattle.message.specs.declared.ConsensusMsg.TheVariants.{Prepare, Accept, ForwardRequest, Commit, ReadRequest, ReadResponse}
use Rattle.message.specs.declared.PFMode.TheVariants.{Paxos}
use Rattle.settings.specs.declared.Settings.{Settings}
use Rattle.calls.specs.declared.delivery.Delivery.{Delivery}
use Rattle.calls.specs.declared.Call.{Call}
use Rattle.calls.specs.declared.Reply.{Reply}
use Rattle.consensus.specs.Call.{call_of}
use Rattle.consensus.specs.declared.Shard.{Shard}
use Rattle.group.specs.Claim.{Entry, begun}
use Rattle.enabled_runs.specs.declared.RunEvent.{RunEvent}
use Rattle.enabled_runs.specs.declared.CommitBy.{CommitBy}
use Rattle.enabled_runs.specs.Enabled.{RunSoFar, Enabled}
use Rattle.enabled_runs.specs.Listing.{all_sent, extended_by, after_run, runs_from}

-- "a group of three in Paxos mode .. All three are live, member 0 is first leader, no committer is set"
abbrev pub office_settings : ℕ → Settings
office_settings member =
    record {
      process_count = 3;
      replica_count = 3;
      my_pid = member;
      alive_replicas = 7;
      first_leader = 0;
      mode = Paxos;
      quorum = None;
      committers = None;
      delegates = replicate 64 0;
    }

abbrev pub three_offices : Settings
three_offices = office_settings 0

-- ---- the hosts

-- "names the member that proposes a value as its requester": 10, 11 and 12 are proposed by 0, 1 and 2
abbrev pub requester_of_value : ℕ → Option ℕ
requester_of_value v = Some (v - 10)

unfoldable pub message_requester : ConsensusMsg → Option ℕ
message_requester (Prepare slot round rv) = requester_of_value (value_of rv)
message_requester (Accept slot round v) = requester_of_value v
message_requester (ForwardRequest v) = requester_of_value v
message_requester (Commit slot v) = requester_of_value v
message_requester (ReadRequest id) = None
message_requester (ReadResponse id next) = None

unfoldable pub requester_of_held : Option RoundV → Option ℕ
requester_of_held None = None
requester_of_held (Some rv) = requester_of_value (value_of rv)

-- "each host holds all values"
abbrev pub heard_by : Shard → ConsensusMessage → Delivery
heard_by shard message =
    record {
      message = message;
      said = record { value_held = true; requester = message_requester message.msg; fast = false };
      held_requester = requester_of_held shard.state.rounds.core.paxos.max_rv;
    }

-- ---- the engine's call, and the runs

abbrev pub engine_call : Shard → Call → Shard × Reply
engine_call shard c = ((call_of shard c).shard, (call_of shard c).reply)

-- the group before any event
abbrev pub before_events : RunSoFar Shard
before_events = record { shards = begun three_offices; past = [] }

abbrev pub EnabledRun : List RunEvent → Type 0
EnabledRun run = Enabled engine_call heard_by before_events run

-- every run of at most five events; "the run without events is not listed"
abbrev pub short_runs : List (List RunEvent)
short_runs = runs_from engine_call heard_by 5 before_events

-- ---- commits

abbrev pub member_commits : ℕ → Option CommittedSlot → List CommitBy
member_commits member None = []
member_commits member (Some commit) = record { member = member; slot = commit.slot; v = commit.v } ∷ []

-- "Commits, in time order"
abbrev pub commits_in_order : List Entry → List CommitBy
commits_in_order [] = []
commits_in_order (e ∷ past) = commits_in_order past ++ member_commits e.member e.reply.commit

-- what the calls of a run handed back
abbrev pub run_past : List RunEvent → List Entry
run_past run = (after_run (all_sent engine_call heard_by) (extended_by engine_call heard_by) before_events run).past

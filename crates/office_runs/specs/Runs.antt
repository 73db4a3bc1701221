-- A run as the lister keeps it: the group of three after the run, who proposed, and in time order what was sent, the events and the commits.
-- Assumes nothing.
use Rattle.std.specs.Prelude.{cond, ℕ, ◌+◌, ltb, get_or, set, replicate, Option, None, Some}
use Rattle.steps.specs.declared.Outgoing.{Outgoing}
use Rattle.calls.specs.declared.CommittedSlot.{CommittedSlot}
use Rattle.basics.specs.sets.Sets.{contains, insert}
use Rattle.message.specs.declared.ConsensusMsg.TheVariants.{ForwardRequest}
use Rattle.steps.specs.declared.Destination.TheVariants.{One}
use Rattle.steps.specs.declared.SentMessages.{SentMessages}
use Rattle.calls.specs.declared.Call.TheVariants.{Propose, Receive}
use Rattle.consensus.specs.Call.{new_shard, call_of}
use Rattle.consensus.specs.declared.Answer.{Answer}
use Rattle.consensus.specs.declared.Shard.{Shard}
use Rattle.group.specs.Steps.{is_done}
use Rattle.enabled_runs.specs.declared.RunEvent.{RunEvent}
use Rattle.enabled_runs.specs.declared.RunEvent.TheVariants.{Proposes, Delivers}
use Rattle.enabled_runs.specs.declared.Sending.{Sending}
use Rattle.enabled_runs.specs.Enabled.{value_of_member}
use Rattle.enabled_runs.specs.Listing.{is_sent_to}
use Rattle.enabled_runs.specs.Offices.{office_settings, heard_by}
use Rattle.enabled_runs.specs.declared.CommitBy.{CommitBy}
use Rattle.office_runs.specs.declared.OfficeRun.{OfficeRun}
use Rattle.office_runs.specs.declared.SoFar.{SoFar}

abbrev pub office : ℕ → Shard
office member = new_shard (office_settings member)

-- what a member proposes; another number is no member
unfoldable pub value_proposed : ℕ → ℕ
value_proposed member = cond (ltb member 3) (value_of_member member) 10

-- ---- what a run has brought

-- what stands in a place where nothing was sent
abbrev pub no_sending : Sending
no_sending =
    record {
      source = 0;
      outgoing = record { destination = One 0; message = record { msg = ForwardRequest 0; src = 0; last_v = None } };
    }

unfoldable pub sending_at : SoFar Sending 15 → ℕ → Sending
sending_at s place = cond (ltb place 15) (get_or s.places place no_sending) no_sending

-- with one more at the end, where there is room
unfoldable pub with_last : {T : Type 0} {room : ℕ} → SoFar T room → T → SoFar T room
with_last {T} {room} s x = cond (ltb s.count room) (record { places = set s.places s.count x; count = s.count + 1 }) s

unfoldable pub with_message : SoFar Sending 15 → ℕ → Option Outgoing → SoFar Sending 15
with_message s source None = s
with_message s source (Some o) = with_last s (record { source = source; outgoing = o })

-- with the messages of a call
unfoldable pub with_messages : SoFar Sending 15 → ℕ → SentMessages → SoFar Sending 15
with_messages s source ms = with_message (with_message (with_message s source ms.first) source ms.second) source ms.third

-- with the commit of a call, if there is one
unfoldable pub with_commit_by : SoFar CommitBy 5 → ℕ → Option CommittedSlot → SoFar CommitBy 5
with_commit_by s member None = s
with_commit_by s member (Some commit) = with_last s (record { member = member; slot = commit.slot; v = commit.v })

-- ---- runs

-- the run without events
abbrev pub new_run : OfficeRun
new_run =
    record {
      members = set (set (replicate 3 (office 0)) 1 (office 1)) 2 (office 2);
      proposed = 0;
      sent = record { places = replicate 15 no_sending; count = 0 };
      events = record { places = replicate 5 (Proposes 0); count = 0 };
      commits = record { places = replicate 5 (record { member = 0; slot = 0; v = 0 }); count = 0 };
    }

unfoldable pub office_shard : OfficeRun → ℕ → Shard
office_shard run member = cond (ltb member 3) (get_or run.members member (office 0)) (office 0)

-- after a call on a member, which was the event
unfoldable pub run_with_answer : OfficeRun → ℕ → RunEvent → Answer → OfficeRun
run_with_answer run member e a =
    record {
      members = cond (ltb member 3) (set run.members member a.shard) run.members;
      proposed = run.proposed;
      sent = with_messages run.sent member a.reply.messages;
      events = with_last run.events e;
      commits = with_commit_by run.commits member a.reply.commit;
    }

abbrev pub with_proposer : OfficeRun → ℕ → OfficeRun
with_proposer run member =
    record { members = run.members; proposed = insert run.proposed member; sent = run.sent; events = run.events; commits = run.commits }

-- ---- the run with an event more, or none where the event may not come next

-- by the answer to the proposal
unfoldable pub run_if_taken : OfficeRun → ℕ → Answer → Option OfficeRun
run_if_taken run member a =
    cond (is_done a.reply.outcome) (Some (with_proposer (run_with_answer run member (Proposes member) a) member)) None

unfoldable pub run_after_proposal : OfficeRun → ℕ → Option OfficeRun
run_after_proposal run member =
    cond (contains run.proposed member) None (run_if_taken run member (call_of (office_shard run member) (Propose (value_proposed member))))

unfoldable pub after_message : OfficeRun → ℕ → ℕ → Sending → OfficeRun
after_message run member place s =
    run_with_answer run member (Delivers member place) (call_of (office_shard run member) (Receive (heard_by (office_shard run member) s.outgoing.message)))

unfoldable pub after_delivery : OfficeRun → ℕ → ℕ → Option OfficeRun
after_delivery run member place =
    cond (ltb place run.sent.count)
    (cond (is_sent_to (sending_at run.sent place) member) (Some (after_message run member place (sending_at run.sent place))) None)
    None

unfoldable pub trial_of : OfficeRun → RunEvent → Option OfficeRun
trial_of run (Proposes member) = run_after_proposal run member
trial_of run (Delivers member place) = after_delivery run member place

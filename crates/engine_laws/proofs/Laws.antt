-- The laws of what `call` hands back. They are proved of `call_of`, which `engine` is by definition. So a proof here breaks with every edit that does not
-- cite another proof of the law, and would break with the right engine in other words too. ComputedRuns.antt refuses an engine for what it answers.
-- Assumes nothing.
use Rattle.wrong_engines.specs.Laws.{RefusesByFirstCause, MarkedOnce, KeepsSettings, IsAsPaper, OtherCallsLeave, InAgreement, SendsTwoAtMost, SendsFromOwn, SendsNoneToItself, CommitsNothingAlone, SlotCountsCommits, CommitsOwnSlot, ClearsWithCommit, CountsProcesses, CountsLiveReplicas, LeavesFastHalfNew, KeepsReadsInOrder, ServesInOrder, CountsPromisesWhileHeld, CountsAcceptsWhileAccepted, LeavesRoom, TakesWithinTables}
use Rattle.wrong_engines.proofs.Right.{right_has_all}
use Rattle.engine_laws.specs.Engine.{engine}

-- demand 3
pub engine_in_agreement : InAgreement engine
engine_in_agreement = right_has_all.agreement

-- demand 1
pub engine_by_first_cause : RefusesByFirstCause engine
engine_by_first_cause = right_has_all.first_cause

-- demand 2, the paper
pub engine_as_paper : IsAsPaper engine
engine_as_paper = right_has_all.paper

pub engine_leaves_with_other_calls : OtherCallsLeave engine
engine_leaves_with_other_calls = right_has_all.other_calls

-- what is sent
pub engine_sends_two_at_most : SendsTwoAtMost engine
engine_sends_two_at_most = right_has_all.two_at_most

pub engine_sends_from_own : SendsFromOwn engine
engine_sends_from_own = right_has_all.from_own

pub engine_sends_none_to_itself : SendsNoneToItself engine
engine_sends_none_to_itself = right_has_all.none_to_itself

-- of lists of calls
pub engine_commits_nothing_alone : CommitsNothingAlone engine
engine_commits_nothing_alone = right_has_all.nothing_alone

pub engine_marked_once : MarkedOnce engine
engine_marked_once = right_has_all.mark

pub engine_keeps_settings : KeepsSettings engine
engine_keeps_settings = right_has_all.settings

pub engine_slot_counts_commits : SlotCountsCommits engine
engine_slot_counts_commits = right_has_all.slots

pub engine_commits_own_slot : CommitsOwnSlot engine
engine_commits_own_slot = right_has_all.own_slots

pub engine_clears_with_commit : ClearsWithCommit engine
engine_clears_with_commit = right_has_all.clears

pub engine_counts_processes : CountsProcesses engine
engine_counts_processes = right_has_all.processes

pub engine_counts_live_replicas : CountsLiveReplicas engine
engine_counts_live_replicas = right_has_all.live_replicas

pub engine_leaves_fast_half_new : LeavesFastHalfNew engine
engine_leaves_fast_half_new = right_has_all.fast_half

pub engine_keeps_reads_in_order : KeepsReadsInOrder engine
engine_keeps_reads_in_order = right_has_all.reads

pub engine_serves_in_order : ServesInOrder engine
engine_serves_in_order = right_has_all.served

pub engine_counts_promises_while_held : CountsPromisesWhileHeld engine
engine_counts_promises_while_held = right_has_all.promises

pub engine_counts_accepts_while_accepted : CountsAcceptsWhileAccepted engine
engine_counts_accepts_while_accepted = right_has_all.accepts

pub engine_leaves_room : LeavesRoom engine
engine_leaves_room = right_has_all.room

pub engine_takes_within_tables : TakesWithinTables engine
engine_takes_within_tables = right_has_all.tables

-- Every definition that a call of a shard and a run of calls compute with, under one name, for the runs that are computed: a proof that has
-- `unfolding computed` unfolds them all.
-- Assumes nothing.
use Rattle.basics.specs.sets.Sets.{contains, count, insert, size}
use Rattle.basics.specs.elements.Places.{at_front}
use Rattle.basics.specs.tables.Tables.{every, look_up, store}
use Rattle.message.specs.Rounds.{increment, next_leader_round, round_before, round_equal}
use Rattle.settings.specs.Questions.{committer_for, committer_in, delegate_in}
use Rattle.settings.specs.Settings.{committers_fit, counts_fit, members_fit, mode_fits, quorum_fits, within_limits}
use Rattle.read_tracker.specs.Reads.{after_commit, after_response, insert_read, open_next}
use Rattle.read_tracker.specs.serving.Serving.{kept_by_commit, kept_by_ready, receive_ready, serve_at_commit, served_by_commit, served_by_ready}
use Rattle.round_state.specs.Paxos.{accept_fits, accept_own, held_after_promise, paxos_propose_v, receive_accept, receive_promise, self_accept, with_own, with_sender}
use Rattle.fast_state.specs.Adopt.{adopted, best_below, better, epaxos_try_adopt, score_in, value_in}
use Rattle.fast_state.specs.Fast.{epaxos_answered, epaxos_propose_v, epaxos_scores_after, is_unanswered, leader_answer_after, preaccepted_after, score_after, swift_answered, swift_can_commit, swift_first, swift_own, swift_propose_v, swift_quorum, swift_scores_after, swift_unanswered, to_v_after}
use Rattle.steps.specs.enter.Enter.{enter, from_live, in_round, is_older}
use Rattle.classic.specs.prepare.Prepare.{accept_phase, answer_prepare, answers_nothing, becomes_prepared, broadcast_accept, gather, hold_first, prepare_answered, preparing}
use Rattle.classic.specs.accept.Accept.{accept_taken, accepting, answer_accept, answered_delegate, with_commit_message, committer_hears, follower, is_committer, tells_commit, try_commit}
use Rattle.fast.specs.epaxos.EPaxos.{adopting, epaxos_answer, epaxos_decide}
use Rattle.fast.specs.swift.Swift.{accept_answered, client_accept, leader_answered, swift_accept, swift_answer, swift_client_accept, swift_client_prepare}
use Rattle.propose.specs.Propose.{electing, leads_from_start, may_propose, own_answer, propose_accept, propose_change, propose_classic, propose_fast, propose_prepare}
use Rattle.paxos_family.specs.Commit.{commit_slot}
use Rattle.paxos_family.specs.Process.{fast_answered, fast_gather, fast_prepared, fast_promised, entered_fast_accept, entered_fast_prepare, entered_prepare, leads_round, on_accept, on_fast_accept, on_fast_prepare, on_prepare, process_change, process_classic, process_fast, replica_accept, starts_accept, waits}
use Rattle.calls.specs.delivery.Admit.{admit, other_last_value, ready, value_awaited}
use Rattle.calls.specs.delivery.Limits.{msg_numbers, msg_processes, number_given, numbers_fit, processes_fit, requester_below, round_numbers, rv_numbers, rv_processes}
use Rattle.calls.specs.Asked.{gatherer_in}
use Rattle.calls.specs.Decision.{admission_of, decision_of, unless_spent}
use Rattle.consensus.specs.Answers.{committed}
use Rattle.consensus.specs.Call.{call_with, new_shard, state_call}
use Rattle.consensus.specs.Handle.{handle, handle_call, on_commit, on_read_request, on_read_response, process_message, processed, proposing, start_read}
use Rattle.group.specs.Claim.{LegalMade, entries_made}
use Rattle.group.specs.Steps.{shards_made}

unfoldable pub computed : Unit {0}
unfolding contains count insert size at_front every look_up store increment next_leader_round round_before round_equal committer_for committer_in delegate_in committers_fit counts_fit members_fit mode_fits quorum_fits within_limits after_commit after_response insert_read open_next kept_by_commit kept_by_ready receive_ready serve_at_commit served_by_commit served_by_ready accept_fits accept_own held_after_promise paxos_propose_v receive_accept receive_promise self_accept with_own with_sender adopted best_below better epaxos_try_adopt score_in value_in epaxos_answered epaxos_propose_v epaxos_scores_after is_unanswered leader_answer_after preaccepted_after score_after swift_answered swift_can_commit swift_first swift_own swift_propose_v swift_quorum swift_scores_after swift_unanswered to_v_after enter from_live in_round is_older accept_phase answer_prepare answers_nothing becomes_prepared broadcast_accept gather hold_first prepare_answered preparing accept_taken accepting answer_accept answered_delegate with_commit_message committer_hears follower is_committer tells_commit try_commit adopting epaxos_answer epaxos_decide accept_answered client_accept leader_answered swift_accept swift_answer swift_client_accept swift_client_prepare electing leads_from_start may_propose own_answer propose_accept propose_change propose_classic propose_fast propose_prepare commit_slot fast_answered fast_gather fast_prepared fast_promised entered_fast_accept entered_fast_prepare entered_prepare leads_round on_accept on_fast_accept on_fast_prepare on_prepare process_change process_classic process_fast replica_accept starts_accept waits admit other_last_value ready value_awaited msg_numbers msg_processes number_given numbers_fit processes_fit requester_below round_numbers rv_numbers rv_processes gatherer_in admission_of decision_of unless_spent committed call_with new_shard state_call handle handle_call on_commit on_read_request on_read_response process_message processed proposing start_read LegalMade entries_made shards_made
computed = tt

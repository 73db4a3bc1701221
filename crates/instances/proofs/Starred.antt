-- Every row of the table of starred instances holds: what the definition gives is what document 01 says.
-- Assumes nothing.
use mathlib.Core.Path.{refl}
use Rattle.basics.specs.sets.Sets.{contains, count, size, insert}
use Rattle.basics.specs.tables.Tables.{look_up, store, every}
use Rattle.message.specs.Rounds.{increment, round_before, round_equal, next_leader_round}
use Rattle.round_state.specs.Paxos.{with_sender, with_own, held_after_promise, receive_promise, paxos_propose_v, accept_fits, receive_accept}
use Rattle.fast_state.specs.Fast.{to_v_after, epaxos_scores_after, swift_scores_after, preaccepted_after, second_answer, score_after, epaxos_answered, is_unanswered, epaxos_propose_v}
use Rattle.fast_state.specs.Adopt.{better, best_below, adopted, value_in, score_in, epaxos_try_adopt}
use Rattle.read_tracker.specs.Reads.{open_next, insert_read, after_response, after_commit}
use Rattle.basics.specs.elements.Places.{at_front}
use Rattle.read_tracker.specs.serving.Serving.{kept_by_ready, served_by_ready, kept_by_commit, served_by_commit, receive_ready, serve_at_commit}
use Rattle.settings.specs.Settings.{counts_fit, members_fit, committers_fit, mode_fits, within_limits}
use Rattle.propose.specs.Propose.{electing, may_propose, propose_prepare, propose_classic}
use Rattle.calls.specs.delivery.Admit.{other_last_value, value_awaited, ready, admit}
use Rattle.calls.specs.Decision.{admission_of, unless_spent, decision_of}
use Rattle.consensus.specs.Answers.{committed}
use Rattle.consensus.specs.Call.{new_shard, state_call, call_with}
use Rattle.consensus.specs.Handle.{on_commit, on_read_response, start_read, proposing, handle, handle_call}
use Rattle.calls.specs.delivery.Limits.{msg_numbers, number_given, numbers_fit, msg_processes, requester_below, processes_fit}
use Rattle.instances.specs.Starred.{AllHold, starred}

pub every_row_holds : AllHold starred
unfolding increment round_before round_equal next_leader_round contains count size insert look_up store every counts_fit members_fit committers_fit mode_fits within_limits with_sender with_own held_after_promise receive_promise accept_fits receive_accept to_v_after epaxos_scores_after swift_scores_after preaccepted_after second_answer score_after epaxos_answered is_unanswered epaxos_propose_v better best_below adopted value_in score_in epaxos_try_adopt open_next insert_read after_response after_commit kept_by_ready served_by_ready kept_by_commit served_by_commit at_front receive_ready serve_at_commit new_shard call_with decision_of unless_spent admission_of state_call handle_call proposing propose_classic may_propose electing propose_prepare paxos_propose_v start_read admit numbers_fit processes_fit ready other_last_value value_awaited msg_numbers number_given msg_processes requester_below handle on_read_response on_commit committed
every_row_holds = (refl, (refl, (refl, (refl, (refl, (refl, (refl, (refl, (refl, (refl, (refl, (refl, (refl, (refl, (refl, (refl, (refl, (refl, (refl, (refl, (refl, (refl, (refl, (refl, tt))))))))))))))))))))))))

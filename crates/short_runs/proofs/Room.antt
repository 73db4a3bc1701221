-- The sheet has 45,802 bytes, computed with the engine's definitions, so that a buffer of as many bytes holds all of it.
-- Assumes nothing.
use mathlib.Core.Path.{◌≡◌, refl, sym, ap, ◌∙◌}
use mathlib.Core.List.{List, ◌++◌}
use Prim.Native.Nat.{ℕ, ◌+◌, ◌≤◌}
use native.Mathlib.Omega.{arith}
use lib.ListN.{length, take, drop, length-append}
use lib.Seq.{take-append_seam}
use Rattle.basics.specs.sets.Sets.{contains, count, size, insert}
use Rattle.basics.specs.tables.Tables.{look_up, store, every}
use Rattle.message.specs.Rounds.{increment, next_leader_round, round_before, round_equal}
use Rattle.message.specs.limits.Limits.{round_numbers, rv_numbers, msg_numbers, number_given, rv_processes, msg_processes, requester_below}
use Rattle.settings.specs.Settings.{counts_fit, members_fit, committers_fit, quorum_fits, mode_fits, within_limits}
use Rattle.settings.specs.Questions.{delegate_in, committer_for, committer_in}
use Rattle.round_state.specs.Paxos.{with_sender, with_own, held_after_promise, receive_promise, paxos_propose_v, accept_fits, receive_accept, accept_own, self_accept}
use Rattle.steps.specs.enter.Enter.{in_round, is_older, from_live, enter}
use Rattle.classic.specs.prepare.Prepare.{hold_first, answer_prepare, answers_nothing, preparing, prepare_answered, broadcast_accept, accept_phase, becomes_prepared, gather}
use Rattle.classic.specs.accept.Accept.{is_committer, committer_hears, answer_accept, tells_commit, with_commit_message, try_commit, answered_delegate as heard, follower, accept_taken, accept_answer, counts_accepts, accepting}
use Rattle.propose.specs.proposal.Proposal.{electing, may_propose}
use Rattle.propose.specs.Propose.{propose_prepare, propose_accept, propose_classic}
use Rattle.paxos_family.specs.Commit.{commit_slot}
use Rattle.paxos_family.specs.Process.{entered_prepare, on_prepare, on_accept, process_classic}
use Rattle.calls.specs.delivery.Admit.{other_last_value, value_awaited, ready, admit}
use Rattle.calls.specs.delivery.Limits.{numbers_fit, processes_fit}
use Rattle.calls.specs.Asked.{gatherer_in}
use Rattle.calls.specs.Decision.{admission_of, unless_spent, decision_of}
use Rattle.read_tracker.specs.Reads.{after_commit}
use Rattle.read_tracker.specs.serving.Serving.{kept_by_commit, served_by_commit, serve_at_commit}
use Rattle.consensus.specs.Answers.{committed}
use Rattle.consensus.specs.Handle.{on_commit, proposing, processed, process_message, handle, handle_call}
use Rattle.consensus.specs.Call.{new_shard, state_call, call_with}
use Rattle.texts.specs.declared.Output.{Output}
use Rattle.texts.specs.Text.{with_bytes, ascii, digit_count, decimal, each, put}
use Rattle.texts.proofs.Lengths.{put_fits}
use Rattle.enabled_runs.specs.Listing.{each_below, is_commit_message, is_sent_to}
use Rattle.enabled_runs.specs.Offices.{message_requester, requester_of_held}
use Rattle.office_runs.specs.Runs.{new_run, value_proposed, sending_at, with_last, with_message, with_messages, with_commit_by, office_shard, run_with_answer, run_if_taken, run_after_proposal, after_message, after_delivery, trial_of}
use Rattle.office_runs.specs.listing.Lines.{pair, event_text, commit_by_text, joined_by_blanks}
use Rattle.short_runs.specs.Lister.{kept_line, event_lines, lines_after}
use Rattle.short_runs.specs.Sheet.{sheet}
use Rattle.short_runs.proofs.SheetIsListing.{sheet_is_listing}

-- ---- computed

-- how many bytes the lines have, and the first of them
lines_computed : ◌≡◌ {A = ℕ × List ℕ} (length (lines_after 5 new_run), take 5 (lines_after 5 new_run)) (45786, ascii "p0,\r\n")
unfolding contains count size insert look_up store every increment next_leader_round round_before round_equal round_numbers rv_numbers msg_numbers number_given rv_processes msg_processes requester_below counts_fit members_fit committers_fit quorum_fits mode_fits within_limits delegate_in committer_for committer_in with_sender with_own held_after_promise receive_promise paxos_propose_v accept_fits receive_accept accept_own self_accept in_round is_older from_live enter hold_first answer_prepare answers_nothing preparing prepare_answered broadcast_accept accept_phase becomes_prepared gather is_committer committer_hears answer_accept tells_commit with_commit_message try_commit heard follower accept_taken accept_answer counts_accepts accepting electing may_propose propose_prepare propose_accept propose_classic commit_slot entered_prepare on_prepare on_accept process_classic other_last_value value_awaited ready admit numbers_fit processes_fit gatherer_in after_commit kept_by_commit served_by_commit serve_at_commit committed on_commit proposing processed process_message handle handle_call admission_of unless_spent decision_of new_shard state_call call_with digit_count decimal each each_below is_commit_message is_sent_to message_requester requester_of_held value_proposed sending_at with_last with_message with_messages with_commit_by office_shard run_with_answer run_if_taken run_after_proposal after_message after_delivery trial_of pair event_text commit_by_text joined_by_blanks kept_line event_lines lines_after
lines_computed = refl

-- "So the line after the header is `p0,`."
pub sheet_begins : take 21 sheet ≡ ascii "events,commits\r\np0,\r\n"
sheet_begins =
    ap (take 21) (sym sheet_is_listing) ∙ ap (λ (p : ℕ × List ℕ). ascii "events,commits\r\n" ++ p.1) lines_computed

-- ---- the room

pub sheet_length : length sheet ≡ 45802
sheet_length =
    ap length (sym sheet_is_listing)
    ∙ length-append (ascii "events,commits\r\n") (lines_after 5 new_run)
    ∙ ap (λ (p : ℕ × List ℕ). 16 + p.0) lines_computed

-- In a buffer of as many bytes nothing is left out: the bytes put are the sheet.
pub sheet_whole : (o : Output) → o.at ≡ 0 → 45802 ≤ length o.bytes.now → put sheet o ≡ with_bytes o (sheet ++ drop 45802 o.bytes.now) 45802
sheet_whole o start room =
    let end : 0 + length sheet ≡ 45802 = omega (arith, sheet_length) in
    put_fits sheet o (omega (arith, start, room, sheet_length))
    ∙ ap (λ (k : ℕ). with_bytes o (take k o.bytes.now ++ sheet ++ drop (k + length sheet) o.bytes.now) (k + length sheet)) start
    ∙ ap (λ (n : ℕ). with_bytes o (sheet ++ drop n o.bytes.now) n) end

pub bytes_are_sheet : (o r : Output) → o.at ≡ 0 → 45802 ≤ length o.bytes.now → r ≡ put sheet o → take r.at r.bytes.now ≡ sheet
bytes_are_sheet o r start room done =
    ap (λ (p : Output). take p.at p.bytes.now) (done ∙ sheet_whole o start room)
    ∙ ap (λ (n : ℕ). take n (sheet ++ drop 45802 o.bytes.now)) (sym sheet_length)
    ∙ take-append_seam sheet (drop 45802 o.bytes.now)

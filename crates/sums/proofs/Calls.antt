-- Sums and look-ups that are the engine's where a call meets them make the call the engine's.
-- Assumes nothing.
use Rattle.std.specs.Prelude.{None, is_some, Result, Ok, Err, IfOk}
use mathlib.Core.Path.{◌≡◌, refl, ap, ap₂, ◌∙◌}
use mathlib.Core.Bool.{Bool, true, false, cond, not}
use Prim.Native.Nat.{ℕ, ◌*◌, ◌<◌, min}
use lib.Dec.{eqb, ltb}
use Rattle.message.specs.Outcomes.{Outcome}
use Rattle.message.specs.Rounds.{unwrap_or_default}
use Rattle.message.specs.declared.ConsensusMsg.{ConsensusMsg}
use Rattle.message.specs.declared.ConsensusMsg.TheVariants.{Prepare, Accept, ForwardRequest, Commit, ReadRequest, ReadResponse}
use Rattle.message.specs.declared.Refusal.{Refusal}
use Rattle.message.specs.declared.Refusal.TheVariants.{ValueNotHeld, Panic}
use Rattle.settings.specs.declared.Settings.{Settings}
use Rattle.fast_state.specs.Adopt.{lowest_best}
use Rattle.fast_state.specs.Fast.{answers_of}
use Rattle.fast_state.specs.RoundState.{new_round_state}
use Rattle.read_tracker.specs.Reads.{new_tracker, new_table}
use Rattle.read_tracker.specs.serving.Serving.{serve_at_commit}
use Rattle.read_tracker.specs.declared.serving.Tracked.{Tracked}
use Rattle.steps.specs.Steps.{RoundsStep, no_messages, one_message}
use Rattle.steps.specs.declared.Asked.{Asked}
use Rattle.steps.specs.declared.Destination.TheVariants.{One}
use Rattle.steps.specs.declared.Heard.{Heard}
use Rattle.steps.specs.declared.SentMessages.{SentMessages}
use Rattle.steps.specs.declared.Next.{Next}
use Rattle.steps.specs.declared.Next.TheVariants.{Stays, Continues, Commits}
use Rattle.steps.specs.declared.Outgoing.{Outgoing}
use Rattle.steps.specs.declared.Rounds.{Rounds}
use Rattle.calls.specs.delivery.Admit.{admit}
use Rattle.calls.specs.declared.delivery.Delivery.{Delivery}
use Rattle.calls.specs.Asked.{asked_of, heard_of, heard_in}
use Rattle.calls.specs.Commits.{committed_slot}
use Rattle.calls.specs.Decision.{admission_of, decision_for, decision_of}
use Rattle.calls.specs.declared.Call.{Call}
use Rattle.calls.specs.declared.Call.TheVariants.{Propose, StartRead, Receive}
use Rattle.calls.specs.Replies.{is_fast}
use Rattle.paxos_family.specs.Commit.{on_fast_path}
use Rattle.consensus.specs.Answers.{refused, sent_answer, nothing, served_answer, committed, finish_at, finish}
use Rattle.consensus.specs.Call.{new_shard, state_call, in_shard, call_with}
use Rattle.consensus.specs.Handle.{after_insert, start_read, on_commit, on_read_request, on_read_response, proposing, processed, process_message, handle, handle_call}
use Rattle.consensus.proofs.Decided.{by_outcome}
use Rattle.consensus.specs.declared.Shard.{Shard}
use Rattle.consensus.specs.declared.State.{State}
use Rattle.consensus.specs.declared.StateAnswer.{StateAnswer}
use Rattle.sums.specs.Sums.{Sums}
use Rattle.sums.specs.Parts.{asked_of_by, heard_in_by, commit_slot_by}
use Rattle.sums.specs.Calls.{new_shard_by, committed_by, finish_at_by, finish_by, proposing_by, start_read_by, on_commit_by, on_read_request_by, on_read_response_by, process_message_by, handle_by, handle_call_by, state_call_by, decision_for_by, decision_of_by, call_by}
use Rattle.sums.proofs.Parts.{EachNamed, MessageNamed, Rises, Falls, Meets, MeetsFast, MeetsCommit, insert_read_same, ready_same, serve_same, slot_same, start_same, asked_same, heard_same}
use Rattle.sums.proofs.Handlers.{processed_same, proposing_same}

module _ (m : Sums) (Named : ℕ → Type 0) (ok : Meets m Named) where
  -- ---- a new shard

  pub new_same : (s : Settings) → new_shard_by m s ≡ new_shard s
  unfolding new_shard_by new_shard
  new_same s = λ z. record {
    made = (new_shard s).made;
    settings = s;
    state =
        record {
          rounds =
              record {
                core = record { slot = 0; last_v = None; slot_left_fast_path = false; paxos = (new_round_state (start_same m Named ok s.mode s.first_leader z)).paxos; tracker = new_tracker };
                fast = (new_round_state (start_same m Named ok s.mode s.first_leader z)).fast;
              };
          table = new_table;
        };
  }

  -- ---- where a call meets them, and the end of a call after the steps of its handler

  pub record MeetsCall (shard : Shard) : Type 0 where
    pub own_named : Named shard.settings.my_pid
    pub quorum_falls : Falls m (3 * min shard.settings.replica_count 64)
    pub meets_fast : MeetsFast m Named (answers_of shard.state.rounds.fast) shard.state.rounds.fast.epaxos_proposer_scores shard.state.rounds.fast.swift_proposer_scores
    pub meets_commit : MeetsCommit m shard.state.table shard.state.rounds.core
    pub group_rises : Rises m (unwrap_or_default shard.state.rounds.core.paxos.round).round_group
    pub proposed : (v : ℕ) → IfOk (proposing (asked_of shard.settings) v shard.state.rounds) (λ step. MeetsCommit m shard.state.table step.state.core)
    pub message_named : (d : Delivery) → admit shard.settings.process_count shard.settings.my_pid shard.state.rounds.core d ≡ Ok tt
        → MessageNamed Named d.message.msg × EachNamed Named d.said.requester
    pub heard : (d : Delivery) → admit shard.settings.process_count shard.settings.my_pid shard.state.rounds.core d ≡ Ok tt
        → IfOk (processed lowest_best (asked_of shard.settings) (heard_of shard.settings d) d.message.msg shard.state.rounds) (λ step. MeetsCommit m shard.state.table step.state.core)

  module _ (shard : Shard) where
    abbrev state : State
    state = shard.state

    abbrev rounds : Rounds
    rounds = shard.state.rounds

    abbrev asked : Asked
    asked = asked_of shard.settings

    -- ---- the end of a call

    committed_same : (a : Asked) (v : ℕ) (s : Rounds) (ms : SentMessages) → MeetsCommit m state.table s.core → committed_by m state a v s ms ≡ committed state a v s ms
    unfolding committed_by committed
    committed_same a v s ms e =
        ap₂ (λ (x : Rounds) (t : Tracked). served_answer (record { core = on_fast_path x.core; fast = x.fast }) t ms (committed_slot s.core.slot v (is_fast a s.core)))
        (slot_same m a v s e.slot_rises)
        (serve_same m s.core.tracker state.table e.counts_rise a.member.quorums.majority (commit_slot_by m a v s).core.slot
        ∙ ap (λ (x : Rounds). serve_at_commit s.core.tracker state.table a.member.quorums.majority x.core.slot) (slot_same m a v s e.slot_rises))

    finish_same : (a : Asked) (held : Bool) (r : Result RoundsStep Refusal) → IfOk r (λ step. MeetsCommit m state.table step.state.core) → finish_by m state a held r ≡ finish state a held r
    finish_same a held (Err why) e = refl
    finish_same a held (Ok step) e = go step.next
      where
        go : (n : Next) → finish_at_by m state a held step.state step.messages n ≡ finish_at state a held step.state step.messages n
        go Stays = refl
        go Continues = refl
        go (Commits v) = ap (λ (x : StateAnswer). cond held x (refused ValueNotHeld state)) (committed_same a v step.state step.messages e)

    -- ---- new reads

    start_read_same : (a : Asked) (tag arrival : ℕ) → start_read_by m state a tag arrival ≡ start_read state a tag arrival
    unfolding start_read_by start_read
    start_read_same a tag arrival =
        ap (after_insert state a) (insert_read_same m Named ok rounds.core.tracker state.table tag arrival (not (is_some rounds.core.paxos.max_rv)))

    module _ (e : MeetsCall shard) where
      asked_lem : asked_of_by m shard.settings ≡ asked
      asked_lem = asked_same m Named ok shard.settings e.quorum_falls

      -- ---- messages

      module _ (d : Delivery) (taken : admit shard.settings.process_count shard.settings.my_pid rounds.core d ≡ Ok tt) where
        abbrev heard : Heard
        heard = heard_of shard.settings d

        process_same : process_message_by m state asked heard d ≡ process_message lowest_best state asked heard d
        unfolding process_message_by process_message
        process_same =
            ap (finish_by m state asked d.said.value_held)
            (processed_same m Named ok asked e.own_named rounds e.meets_fast heard d.message.msg (e.message_named d taken).0)
            ∙ finish_same asked d.said.value_held (processed lowest_best asked heard d.message.msg rounds) (e.heard d taken)

        handle_same : (msg : ConsensusMsg) → handle_by m state asked heard d msg ≡ handle lowest_best state asked heard d msg
        unfolding handle_by handle on_commit_by on_commit on_read_request_by on_read_request on_read_response_by on_read_response
        handle_same (Prepare slot round rv) = process_same
        handle_same (Accept slot round v) = process_same
        handle_same (ForwardRequest v) = process_same
        handle_same (Commit slot v) =
            ap (λ (x : StateAnswer). cond (ltb slot rounds.core.slot) (nothing state) x) (committed_same asked v rounds no_messages e.meets_commit)
        handle_same (ReadRequest id) =
            ap (λ (n : ℕ). cond (eqb d.message.src shard.settings.my_pid) (refused Panic state) (sent_answer state (one_message (answer_of n)))) e.meets_commit.slot_rises
          where
            answer_of : ℕ → Outgoing
            answer_of n =
                record {
                  destination = One d.message.src;
                  message = record { msg = ReadResponse id (cond (is_some rounds.core.paxos.max_rv) n rounds.core.slot); src = shard.settings.my_pid; last_v = None };
                }
        handle_same (ReadResponse id next) =
            ap (λ (t : Tracked). served_answer rounds t no_messages None)
            (ready_same m rounds.core.tracker state.table e.meets_commit.counts_rise id asked.member.quorums.majority rounds.core.slot d.said.fast)

      -- ---- calls that are taken

      taken_same : (c : Call) → admission_of shard.settings.process_count shard.settings.my_pid rounds.core c ≡ Ok tt
          → handle_call_by m state (asked_of_by m shard.settings) (heard_in_by m shard.settings c) c ≡ handle_call lowest_best state asked (heard_in shard.settings c) c
      unfolding admission_of handle_call_by handle_call
      taken_same (Propose v) taken =
          ap (λ (a : Asked). finish_by m state a true (proposing_by m a v rounds)) asked_lem
          ∙ ap (finish_by m state asked true) (proposing_same m Named ok asked e.own_named rounds e.meets_fast v e.group_rises)
          ∙ finish_same asked true (proposing asked v rounds) (e.proposed v)
      taken_same (StartRead tag arrival) taken = ap (λ (a : Asked). start_read_by m state a tag arrival) asked_lem ∙ start_read_same asked tag arrival
      taken_same (Receive d) taken =
          let n = e.message_named d taken in
          ap₂ (λ (a : Asked) (h : Heard). handle_by m state a h d d.message.msg) asked_lem (heard_same m Named ok shard.settings d n.0 n.1)
          ∙ handle_same d taken d.message.msg

    -- a call that is not refused as unmade or as spent meets them
    pub call_same : (shard.made ≡ Ok tt → rounds.core.slot < 9223372036854775807 → MeetsCall shard) → (c : Call) → call_by m shard c ≡ call_with lowest_best shard c
    unfolding call_by call_with decision_of_by decision_of state_call_by state_call
    call_same meets c =
        by_outcome shard c
        (λ (o : Outcome). in_shard shard (state_call_by m state (decision_for_by m shard.settings c o)) ≡ in_shard shard (state_call lowest_best state (decision_for shard.settings c o)))
        (λ why. refl) (λ made room admitted. ap (in_shard shard) (taken_same (meets made room) c admitted))

-- Demand 1: the number that a call gives is that of the first cause of document 01 that holds, and a call is taken exactly where none holds.
-- Assumes nothing.
use Rattle.std.specs.Prelude.{Option, None, Some, Result, Ok, Err, is_some, is_ok}
use Rattle.message.specs.Outcomes.{Outcome, outcome_of}
use Rattle.message.specs.declared.RoundV.{RoundV}
use Rattle.message.specs.declared.RoundV.TheVariants.{FastV}
use Rattle.message.specs.declared.PaxosRound.{PaxosRound}
use mathlib.Core.Path.{◌≡◌, refl, sym, ap, subst, ◌∙◌}
use mathlib.Core.Logic.{◌⊎◌, inl, inr}
use mathlib.Core.Bool.{Bool, true, false, cond, not, ◌&&◌, ◌||◌, or-true}
use mathlib.Core.List.{List, [], ◌∷◌}
use Prim.Native.Nat.{ℕ, ◌<◌}
use native.Mathlib.Omega.{arith}
use lib.Dec.{eqb, ltb, leb}
use borrow.Author.Tests.{eq-eqb, ne_eqb, leb-false, le-leb}
use Rattle.basics.proofs.Tests.{by_cases, of-both, not_both}
use Rattle.basics.specs.sets.Sets.{contains, is_empty}
use Rattle.message.specs.Refusals.{refusal_number}
use Rattle.message.specs.Rounds.{round_of, next_leader_round, equal, round_equal, unwrap_or_default, increment}
use Rattle.message.specs.declared.PFMode.{PFMode}
use Rattle.message.specs.declared.PFMode.TheVariants.{Paxos, MultiPaxos, MultiPaxos3P, EPaxos, Pando, SwiftPaxos}
use Rattle.message.specs.declared.Refusal.{Refusal}
use Rattle.message.specs.declared.Refusal.TheVariants.{NumberTooLarge, NoSuchProcess, OtherLastValue, SlotAhead, ValueNotHeld, Panic, NoRoomForRead}
use Rattle.message.proofs.Order.{equal_rounds}
use Rattle.fast_state.specs.Adopt.{ProposerChoice}
use Rattle.message.specs.declared.ConsensusMsg.{ConsensusMsg}
use Rattle.message.specs.declared.ConsensusMsg.TheVariants.{Prepare, Accept, ForwardRequest, Commit, ReadRequest, ReadResponse}
use Rattle.calls.specs.delivery.Admit.{is_ahead, is_own_slot, is_other_last, needs_value, other_last_value, value_awaited, ready, admit}
use Rattle.calls.specs.delivery.Limits.{numbers_fit, processes_fit}
use Rattle.calls.specs.declared.delivery.Delivery.{Delivery}
use Rattle.calls.specs.Replies.{read_answer}
use Rattle.steps.specs.Steps.{RoundsStep, one_message, map_step, with_change, change_rounds}
use Rattle.message.specs.Messages.{msg_slot}
use Rattle.fast_state.specs.Fast.{answers_of, in_quorum, is_unanswered, second_answer, epaxos_answered, epaxos_propose_v, swift_uncounted, swift_first, swift_answered, swift_own, swift_unanswered, swift_propose_v}
use Rattle.fast_state.specs.declared.FastAnswers.{FastAnswers}
use Rattle.fast_state.specs.declared.FastChange.{FastChange}
use Rattle.fast_state.specs.declared.FastState.{FastState}
use Rattle.settings.specs.declared.Settings.{Settings}
use Rattle.round_state.specs.Paxos.{paxos_propose_v, self_accept, accept_own, receive_accept, accept_fits, receive_promise, held_after_promise}
use Rattle.read_tracker.specs.Reads.{opening, open_next, insert_opened, insert_read}
use Rattle.read_tracker.specs.declared.Opening.{Opening}
use Rattle.round_state.specs.declared.Member.{Member}
use Rattle.basics.specs.tables.Tables.{look_up}
use Rattle.propose.specs.proposal.Proposal.{not_allowed, electing, may_propose, proposal_round}
use Rattle.propose.specs.Propose.{propose_prepare, propose_accept, propose_classic, after_own_answer, own_answer, leads_from_start, propose_change, propose_fast}
use Rattle.steps.specs.declared.Asked.{Asked}
use Rattle.steps.specs.declared.Core.{Core}
use Rattle.steps.specs.declared.Heard.{Heard}
use Rattle.steps.specs.declared.SentMessages.{SentMessages}
use Rattle.steps.specs.declared.Next.{Next}
use Rattle.steps.specs.declared.Next.TheVariants.{Stays, Continues, Commits}
use Rattle.steps.specs.declared.Rounds.{Rounds}
use Rattle.calls.specs.Asked.{asked_of, heard_of}
use Rattle.calls.specs.Decision.{if_fit, admission_of, unless_spent, unless_unmade, decision_for, decision_of}
use Rattle.calls.specs.declared.Call.{Call}
use Rattle.calls.specs.declared.Call.TheVariants.{Propose, StartRead, Receive}
use Rattle.consensus.specs.Answers.{refused, committed, finish_at, finish, sent_answer}
use Rattle.consensus.specs.Call.{state_call, in_shard, call_with}
use Rattle.consensus.specs.FirstCause.{number_alone, number_of_outcome, any_above, numbers_too_large, proposal_causes, not_allowed_causes, read_causes, causes, unmade, first_cause, handling_causes, is_spent}
use Rattle.consensus.specs.Handle.{on_commit, on_read_request, on_read_response, start_read, after_insert, proposing, processed, process_message, handle, handle_call}
use Rattle.consensus.specs.Rows.{gives, first_of, then}
use Rattle.consensus.specs.declared.Answer.{Answer}
use Rattle.consensus.specs.declared.Shard.{Shard}
use Rattle.consensus.specs.declared.State.{State}
use Rattle.consensus.specs.declared.StateAnswer.{StateAnswer}
use Rattle.consensus.proofs.Admitted.{above_test, numbers_cause, processes_cause, ahead_cause, slot_cause, last_cause, waits_cause}
use Rattle.consensus.proofs.Entered.{with_mode, prepare_number, accept_number_lem, forward_number}
use Rattle.consensus.proofs.Handled.{next_number, step_number, rounds_number, mapped_number, with_change_number}

-- the call is taken and the number is 0, or it is refused, the shard is left, nothing is handed back but the number, and it is that number
abbrev pub GivesNumber : Shard → Answer → ℕ → Type 0
GivesNumber shard r n = ((r.reply.outcome ≡ Ok tt) × (n ≡ 0)) ⊎ ((why : Refusal) × (r ≡ number_alone why shard) × (n ≡ refusal_number why))

-- the same of the state
abbrev StateGives : State → StateAnswer → ℕ → Type 0
StateGives state r n = ((r.reply.outcome ≡ Ok tt) × (n ≡ 0)) ⊎ ((why : Refusal) × (r ≡ refused why state) × (n ≡ refusal_number why))

of_state : (shard : Shard) (r : StateAnswer) (n : ℕ) → StateGives shard.state r n → GivesNumber shard (in_shard shard r) n
of_state shard r n (inl taken) = inl taken
of_state shard r n (inr (why, e, number)) = inr (why, ap (in_shard shard) e, number)

-- ---- the end of a call

ended_gives : (state : State) (a : Asked) (held : Bool) (s : Rounds) (ms : SentMessages) (n : Next)
    → StateGives state (finish_at state a held s ms n) (next_number held n)
unfolding committed
ended_gives state a held s ms Stays = inl (refl, refl)
ended_gives state a held s ms Continues = inl (refl, refl)
ended_gives state a true s ms (Commits v) = inl (refl, refl)
ended_gives state a false s ms (Commits v) = inr (ValueNotHeld, refl, refl)

finish_gives : (state : State) (a : Asked) (held : Bool) (step : Result RoundsStep Refusal) → StateGives state (finish state a held step) (rounds_number held step)
finish_gives state a held (Ok step) = ended_gives state a held step.state step.messages step.next
finish_gives state a held (Err why) = inr (why, refl, refl)

-- ---- proposals

-- in MultiPaxos the next round of a member, from the starting round, is the starting round where the member is the first leader
own_start : (first own : ℕ) (r : Option PaxosRound) → equal r (Some (round_of 0 first)) ≡ true
    → equal (Some (next_leader_round (unwrap_or_default r) own)) (Some (round_of 0 first)) ≡ eqb own first
unfolding next_leader_round round_equal increment
own_start first own r e = rw (equal_rounds r (Some (round_of 0 first)) e) go
  where
    go : round_equal (next_leader_round (round_of 0 first) own) (round_of 0 first) ≡ eqb own first
    go = by_cases (leb first own) (λ (l : leb first own ≡ true). simp l)
        (λ (l : leb first own ≡ false). let z : own < first = leb-false first own l in simp (l, ne_eqb own first (λ q. omega arith)))

pub first_start : (first : ℕ) → next_leader_round (round_of 0 0) first ≡ round_of 0 first
unfolding next_leader_round
first_start first = simp (le-leb 0 first (omega arith))

-- the own answer is taken where nothing is counted or recorded yet
epaxos_own : (me : Member) (v : ℕ) (f : FastAnswers) (scores : List ℕ)
    → outcome_of (epaxos_propose_v me v f scores) ≡ cond (is_unanswered f && eqb (look_up scores me.my_pid) 2) (Ok tt) (Err Panic)
unfolding epaxos_propose_v epaxos_answered second_answer
epaxos_own me v f scores =
    by_cases (is_unanswered f && eqb (look_up scores me.my_pid) 2)
    (λ e. by_cases (contains f.fast_answer_set me.my_pid) (λ c. simp (e, c, eq-eqb me.my_pid me.my_pid refl)) (λ c. simp (e, c)))
    (λ e. simp e)

swift_own_lem : (me : Member) (v : ℕ) (quorum : Option ℕ) (f : FastAnswers) (scores : List ℕ)
    → outcome_of (swift_propose_v me v quorum false f scores) ≡ cond (swift_unanswered me f scores) (Ok tt) (Err Panic)
unfolding swift_propose_v swift_own swift_answered swift_first swift_uncounted second_answer
swift_own_lem me v quorum f scores =
    by_cases (swift_unanswered me f scores)
    (λ e. by_cases me.replica
    (λ r. by_cases (contains f.fast_answer_set me.my_pid) (λ c. simp (e, r, c, eq-eqb me.my_pid me.my_pid refl))
    (λ c. by_cases (in_quorum quorum me.my_pid) (λ q. simp (e, r, c, q)) (λ q. simp (e, r, c, q))))
    (λ r. simp (e, r)))
    (λ e. simp e)

-- the number that a proposal gives after an own answer that is taken where the test holds
module _ (fast : FastState) (a : Asked) (round : PaxosRound) (v : ℕ) (core : Core) where
  abbrev After : Result FastChange Refusal → Bool → Type 0
  After r t =
      rounds_number true (map_step (change_rounds fast) (after_own_answer a round v core r))
      ≡ cond t (step_number true (propose_prepare a round (FastV a.member.my_pid v) core)) (refusal_number not_allowed)

  after_own_number : (r : Result FastChange Refusal) (t : Bool) → outcome_of r ≡ cond t (Ok tt) (Err Panic) → After r t
  after_own_number (Ok change) true e =
      let step = propose_prepare a round (FastV a.member.my_pid v) core in
      mapped_number (change_rounds fast) (λ s. s.next) true (map_step (with_change change) step) ∙ with_change_number true change step
  after_own_number (Ok change) false e = absurd (not_both refl (ap is_ok e))
  after_own_number (Err why) true e = absurd (not_both (ap is_ok e) refl)
  after_own_number (Err why) false e = refl

  after_epaxos_own : (answers : FastAnswers) (me : Member) (scores : List ℕ)
      → After (epaxos_propose_v me v answers scores) (is_unanswered answers && eqb (look_up scores me.my_pid) 2)
  after_epaxos_own answers me scores =
      after_own_number (epaxos_propose_v me v answers scores) (is_unanswered answers && eqb (look_up scores me.my_pid) 2) (epaxos_own me v answers scores)

  after_swift_own : (answers : FastAnswers) (me : Member) (quorum : Option ℕ) (scores : List ℕ)
      → After (swift_propose_v me v quorum false answers scores) (swift_unanswered me answers scores)
  after_swift_own answers me quorum scores =
      after_own_number (swift_propose_v me v quorum false answers scores) (swift_unanswered me answers scores) (swift_own_lem me v quorum answers scores)

module _ (s : Settings) (v : ℕ) (rounds : Rounds) where
  abbrev Proposed : PFMode → Type 0
  Proposed m = rounds_number true (proposing (asked_of (with_mode m s)) v rounds) ≡ first_of (not_allowed_causes (with_mode m s) rounds)

  -- who may propose at all: in the live set, or not
  abbrev live : Bool
  live = contains s.alive_replicas s.my_pid

  abbrev f : FastAnswers
  f = answers_of rounds.fast

  paxos_proposed : Proposed Paxos
  unfolding proposing propose_classic may_propose first_of propose_prepare paxos_propose_v
  paxos_proposed = go rounds.core.paxos.max_rv refl
    where
      go : (held : Option RoundV) → rounds.core.paxos.max_rv ≡ held → Proposed Paxos
      go (Some rv) e = by_cases live (λ r. by_cases (equal rounds.core.paxos.round None) (λ q. simp (e, r, q)) (λ q. simp (e, r, q))) (λ r. simp (e, r))
      go None e = by_cases live (λ r. by_cases (equal rounds.core.paxos.round None) (λ q. simp (e, r, q)) (λ q. simp (e, r, q))) (λ r. simp (e, r))

  -- Pando proposes as Paxos does
  pando_proposed : Proposed Pando
  unfolding proposing propose_classic may_propose propose_prepare electing
  pando_proposed = paxos_proposed

  -- in MultiPaxos and MultiPaxos3P
  abbrev from_start : Bool
  from_start = equal rounds.core.paxos.round (Some (round_of 0 s.first_leader))

  own_leads : from_start ≡ true → equal (Some (proposal_round (asked_of (with_mode MultiPaxos s)) rounds.core)) (Some (round_of 0 s.first_leader)) ≡ eqb s.my_pid s.first_leader
  unfolding electing
  own_leads q = own_start s.first_leader s.my_pid rounds.core.paxos.round q

  multi_proposed : Proposed MultiPaxos
  unfolding proposing propose_classic may_propose first_of electing propose_accept paxos_propose_v self_accept accept_own receive_accept accept_fits receive_promise held_after_promise
  multi_proposed = go rounds.core.paxos.max_rv refl
    where
      go : (held : Option RoundV) → rounds.core.paxos.max_rv ≡ held → Proposed MultiPaxos
      go (Some rv) e =
          by_cases live (λ r. by_cases from_start (λ q. simp (e, r, first_start s.first_leader, q)) (λ q. simp (e, r, first_start s.first_leader, q))) (λ r. simp (e, r))
      go None e =
          by_cases live
          (λ r. by_cases from_start
          (λ q. by_cases (eqb s.my_pid s.first_leader) (λ l. simp (e, r, first_start s.first_leader, q, own_leads q, l)) (λ l. simp (e, r, first_start s.first_leader, q, own_leads q, l)))
          (λ q. simp (e, r, first_start s.first_leader, q)))
          (λ r. simp (e, r))

  -- MultiPaxos3P proposes as MultiPaxos does
  multi3p_proposed : Proposed MultiPaxos3P
  unfolding proposing propose_classic may_propose electing propose_accept
  multi3p_proposed = multi_proposed

  -- the fast modes: each assertion of the own answer
  module _ (e : rounds.core.paxos.max_rv ≡ None) (q : equal rounds.core.paxos.round None ≡ true) where
    epaxos_answers : live ≡ true → Proposed EPaxos
    unfolding proposing propose_fast propose_change may_propose first_of leads_from_start own_answer is_unanswered propose_prepare paxos_propose_v
    epaxos_answers r =
        by_cases (is_empty f.fast_answer_set)
        (λ t. by_cases (eqb f.fast_preaccepted 0)
        (λ u. by_cases (is_empty f.fast_proposers)
        (λ w. by_cases (eqb (look_up rounds.fast.epaxos_proposer_scores s.my_pid) 2)
        (λ x. simp (e, q, r, after_epaxos_own, t, u, w, x)) (λ x. simp (e, q, r, after_epaxos_own, t, u, w, x)))
        (λ w. simp (e, q, r, after_epaxos_own, t, u, w)))
        (λ u. simp (e, q, r, after_epaxos_own, t, u)))
        (λ t. simp (e, q, r, after_epaxos_own, t))

    swift_answers : eqb s.first_leader s.my_pid ≡ false → Proposed SwiftPaxos
    unfolding proposing propose_fast propose_change may_propose first_of electing leads_from_start own_answer swift_unanswered is_unanswered propose_prepare paxos_propose_v
    swift_answers l =
        by_cases (is_empty f.fast_answer_set)
        (λ t. by_cases (eqb f.fast_preaccepted 0)
        (λ u. by_cases (is_empty f.fast_proposers)
        (λ w. by_cases (is_some f.swift_leader_answer)
        (λ y. simp (e, q, l, or-true, after_swift_own, t, u, w, y))
        (λ y. by_cases (eqb (look_up rounds.fast.swift_proposer_scores s.my_pid) 0)
        (λ x. simp (e, q, l, or-true, after_swift_own, t, u, w, x, y)) (λ x. simp (e, q, l, or-true, after_swift_own, t, u, w, x, y))))
        (λ w. by_cases (is_some f.swift_leader_answer) (λ y. simp (e, q, l, or-true, after_swift_own, t, u, w, y)) (λ y. simp (e, q, l, or-true, after_swift_own, t, u, w, y))))
        (λ u. by_cases (is_some f.swift_leader_answer) (λ y. simp (e, q, l, or-true, after_swift_own, t, u, y)) (λ y. simp (e, q, l, or-true, after_swift_own, t, u, y))))
        (λ t. by_cases (is_some f.swift_leader_answer) (λ y. simp (e, q, l, or-true, after_swift_own, t, y)) (λ y. simp (e, q, l, or-true, after_swift_own, t, y)))

    swift_leads : eqb s.first_leader s.my_pid ≡ true → Proposed SwiftPaxos
    unfolding proposing propose_fast propose_change may_propose first_of electing leads_from_start propose_accept paxos_propose_v self_accept accept_own receive_accept accept_fits receive_promise held_after_promise
    swift_leads l = simp (e, q, l, or-true)

  epaxos_proposed : Proposed EPaxos
  unfolding proposing propose_fast propose_change may_propose first_of
  epaxos_proposed = go rounds.core.paxos.max_rv refl
    where
      go : (held : Option RoundV) → rounds.core.paxos.max_rv ≡ held → Proposed EPaxos
      go (Some rv) e = by_cases live (λ r. by_cases (equal rounds.core.paxos.round None) (λ q. simp (e, r, q)) (λ q. simp (e, r, q))) (λ r. simp (e, r))
      go None e =
          by_cases live (λ r. by_cases (equal rounds.core.paxos.round None) (λ q. epaxos_answers e q r) (λ q. simp (e, r, q))) (λ r. simp (e, r))

  swift_proposed : Proposed SwiftPaxos
  unfolding proposing propose_fast propose_change may_propose first_of
  swift_proposed = go rounds.core.paxos.max_rv refl
    where
      go : (held : Option RoundV) → rounds.core.paxos.max_rv ≡ held → Proposed SwiftPaxos
      go (Some rv) e = by_cases (equal rounds.core.paxos.round None) (λ q. simp (e, or-true, q)) (λ q. simp (e, or-true, q))
      go None e =
          by_cases (equal rounds.core.paxos.round None)
          (λ q. by_cases (eqb s.first_leader s.my_pid) (swift_leads e q) (swift_answers e q)) (λ q. simp (e, or-true, q))

  proposed_number : (m : PFMode) → Proposed m
  proposed_number Paxos = paxos_proposed
  proposed_number MultiPaxos = multi_proposed
  proposed_number MultiPaxos3P = multi3p_proposed
  proposed_number EPaxos = epaxos_proposed
  proposed_number Pando = pando_proposed
  proposed_number SwiftPaxos = swift_proposed

module _ (choose : ProposerChoice) (shard : Shard) where
  abbrev state : State
  state = shard.state

  abbrev rounds : Rounds
  rounds = shard.state.rounds

  abbrev asked : Asked
  asked = asked_of shard.settings

  -- what is made of a call by what is decided of it
  abbrev answered : Call → Outcome → StateAnswer
  answered c o = state_call choose state (decision_for shard.settings c o)

  abbrev admission : Call → Outcome
  admission c = admission_of shard.settings.process_count shard.settings.my_pid rounds.core c

  proposal_gives : (v : ℕ) → StateGives state (answered (Propose v) (admission (Propose v))) (first_of (proposal_causes shard v))
  unfolding state_call handle_call admission_of first_of any_above
  proposal_gives v = by_cases (leb v 9223372036854775807) fit (λ e. simp (e, above_test 9223372036854775807 v) (inr (NumberTooLarge, refl, refl)))
    where
      fit : leb v 9223372036854775807 ≡ true → StateGives state (answered (Propose v) (admission (Propose v))) (first_of (proposal_causes shard v))
      fit e =
          let step = proposing asked v rounds in
          simp (e, above_test 9223372036854775807 v)
          (subst (StateGives state (finish state asked true step)) (proposed_number shard.settings v rounds shard.settings.mode)
          (finish_gives state asked true step))

  -- ---- new reads

  read_large : (tag arrival : ℕ) → numbers_too_large (arrival ∷ []) (tag ∷ []) ≡ not (leb tag 9223372036854775807 && leb arrival 9223372036854775806)
  unfolding any_above
  read_large tag arrival = simp (above_test) (go (leb tag 9223372036854775807) (leb arrival 9223372036854775806))
    where
      go : (t u : Bool) → ((not u || false) || (not t || false)) ≡ not (t && u)
      go true true = refl
      go true false = refl
      go false true = refl
      go false false = refl

  read_gives : (tag arrival : ℕ) → StateGives state (answered (StartRead tag arrival) (admission (StartRead tag arrival))) (first_of (read_causes shard tag arrival))
  unfolding state_call handle_call admission_of start_read insert_read open_next first_of
  read_gives tag arrival =
      subst
      (λ (t : Bool). StateGives state (answered (StartRead tag arrival) (admission (StartRead tag arrival)))
      (cond t 2 (cond (leb 128 rounds.core.tracker.open_count) 12 (cond (ltb 9223372036854775807 rounds.core.tracker.next_id) 12 0))))
      (sym (read_large tag arrival))
      (by_fit (leb tag 9223372036854775807 && leb arrival 9223372036854775806))
    where
      some : Opening
      some = opening rounds.core.tracker tag arrival (not (is_some rounds.core.paxos.max_rv))

      -- a new read that fits, by whether there is room
      opened : Result Opening Refusal → StateAnswer
      opened o = after_insert state asked (insert_opened rounds.core.tracker state.table o)

      by_room : (full spent : Bool) → StateGives state (opened (cond full (Err NoRoomForRead) (cond spent (Err NoRoomForRead) (Ok some)))) (cond full 12 (cond spent 12 0))
      by_room true spent = inr (NoRoomForRead, refl, refl)
      by_room false true = inr (NoRoomForRead, refl, refl)
      by_room false false = inl (refl, refl)

      by_fit : (fit : Bool)
          → StateGives state (answered (StartRead tag arrival) (if_fit fit))
          (cond (not fit) 2 (cond (leb 128 rounds.core.tracker.open_count) 12 (cond (ltb 9223372036854775807 rounds.core.tracker.next_id) 12 0)))
      by_fit false = inr (NumberTooLarge, refl, refl)
      by_fit true = by_room (leb 128 rounds.core.tracker.open_count) (ltb 9223372036854775807 rounds.core.tracker.next_id)

  -- ---- messages

  module _ (d : Delivery) where
    abbrev heard : Heard
    heard = heard_of shard.settings d

    abbrev number_in : ConsensusMsg → ℕ
    number_in m = rounds_number d.said.value_held (processed choose asked heard m rounds)

    process_gives : (m : ConsensusMsg) → d.message.msg ≡ m → (n : ℕ) → number_in m ≡ n → StateGives state (process_message choose state asked heard d) n
    unfolding process_message
    process_gives m e n q =
        let step = processed choose asked heard d.message.msg rounds in
        subst (StateGives state (finish state asked d.said.value_held step)) (ap number_in e ∙ q) (finish_gives state asked d.said.value_held step)

    handle_gives : (m : ConsensusMsg) → d.message.msg ≡ m → StateGives state (handle choose state asked heard d m) (first_of (handling_causes choose shard.settings rounds d m))
    unfolding handle on_commit on_read_request on_read_response committed first_of
    handle_gives (Prepare slot round rv) e = process_gives (Prepare slot round rv) e _ (prepare_number choose shard.settings rounds d slot round rv e)
    handle_gives (Accept slot round v) e = process_gives (Accept slot round v) e _ (accept_number_lem choose shard.settings rounds d slot round v e)
    handle_gives (ForwardRequest v) e = process_gives (ForwardRequest v) e _ (forward_number choose shard.settings rounds d v)
    handle_gives (Commit slot v) e = of-both (λ (r : StateAnswer). StateGives state r 0) (ltb slot rounds.core.slot) (inl (refl, refl)) (inl (refl, refl))
    handle_gives (ReadRequest id) e = go (eqb d.message.src shard.settings.my_pid)
      where
        go : (t : Bool) → StateGives state (cond t (refused Panic state) (sent_answer state (one_message (read_answer shard.settings.my_pid d.message.src id rounds.core)))) (cond t 8 0)
        go true = inr (Panic, refl, refl)
        go false = inl (refl, refl)
    handle_gives (ReadResponse id next) e = inl (refl, refl)

    abbrev slot_own : Bool
    slot_own = is_own_slot rounds.core (msg_slot d.message.msg)

    abbrev awaited : Bool
    awaited = slot_own && needs_value shard.settings.my_pid d.message.msg && not d.said.value_held

    receive_gives : StateGives state (answered (Receive d) (admission (Receive d))) (first_of (causes choose shard (Receive d)))
    unfolding state_call handle_call admission_of admit ready other_last_value value_awaited first_of then
    receive_gives =
        simp (numbers_cause d, processes_cause shard.settings.process_count d, ahead_cause rounds.core, slot_cause rounds.core, last_cause rounds.core, waits_cause shard.settings.my_pid)
        (go (numbers_fit d) (processes_fit shard.settings.process_count d) (is_ahead rounds.core (msg_slot d.message.msg))
        (slot_own && is_other_last rounds.core d.message.last_v) awaited)
      where
        rest : ℕ
        rest = first_of (handling_causes choose shard.settings rounds d d.message.msg)

        go : (numbers processes ahead other wait : Bool)
            → StateGives state
            (answered (Receive d)
            (cond numbers
            (cond processes (cond ahead (Err SlotAhead) (cond other (Err OtherLastValue) (cond wait (Err ValueNotHeld) (Ok tt)))) (Err NoSuchProcess))
            (Err NumberTooLarge)))
            (cond (not numbers) 2 (cond (not processes) 3 (cond ahead 5 (cond other 4 (cond wait 6 rest)))))
        go false p a o w = inr (NumberTooLarge, refl, refl)
        go true false a o w = inr (NoSuchProcess, refl, refl)
        go true true true o w = inr (SlotAhead, refl, refl)
        go true true false true w = inr (OtherLastValue, refl, refl)
        go true true false false true = inr (ValueNotHeld, refl, refl)
        go true true false false false = handle_gives d.message.msg refl

  -- ---- every call

  admission_gives : (c : Call) → StateGives state (answered c (admission c)) (first_of (causes choose shard c))
  admission_gives (Propose v) = proposal_gives v
  admission_gives (StartRead tag arrival) = read_gives tag arrival
  admission_gives (Receive d) = receive_gives d

  marked_gives : (c : Call) (o : Outcome)
      → StateGives state (answered c (unless_unmade o shard.settings.process_count shard.settings.my_pid rounds.core c))
      (first_of (then (unmade o) (gives 2 (is_spent shard) ∷ causes choose shard c)))
  unfolding state_call unless_spent first_of then
  marked_gives c (Ok tt) = spent (is_spent shard)
    where
      spent : (t : Bool) → StateGives state (answered c (cond t (Err NumberTooLarge) (admission c))) (cond t 2 (first_of (causes choose shard c)))
      spent true = inr (NumberTooLarge, refl, refl)
      spent false = admission_gives c
  marked_gives c (Err why) = inr (why, refl, refl)

  -- Every call on every shard, whatever stands in it: taken where the number is 0, and else refused with that number, the shard as it was. It is said of each
  -- kind of call by itself, so that an engine which treats one kind otherwise is refused there.
  pub first_cause_lem : (c : Call) → GivesNumber shard (call_with choose shard c) (first_cause choose shard c)
  unfolding call_with decision_of first_cause
  first_cause_lem (Propose v) = of_state shard _ _ (marked_gives (Propose v) shard.made)
  first_cause_lem (StartRead tag arrival) = of_state shard _ _ (marked_gives (StartRead tag arrival) shard.made)
  first_cause_lem (Receive d) = of_state shard _ _ (marked_gives (Receive d) shard.made)

  -- The number that a call hands back, 0 where it is taken.
  pub number_is_first_cause : (c : Call) → number_of_outcome (call_with choose shard c).reply.outcome ≡ first_cause choose shard c
  number_is_first_cause c = go (first_cause_lem c)
    where
      go : {n : ℕ} → GivesNumber shard (call_with choose shard c) n → number_of_outcome (call_with choose shard c).reply.outcome ≡ n
      go (inl (e, n)) = ap number_of_outcome e ∙ sym n
      go (inr (why, e, n)) = ap (λ (r : Answer). number_of_outcome r.reply.outcome) e ∙ sym n

-- Demand 2, the paper: what is seen of a call (its number, the replica that it leaves, its messages and its commit) is what the definition from
-- *Paxos Made Simple* (specs/PaperCall.antt) makes of the call, on every shard of Paxos, MultiPaxos, MultiPaxos3P or Pando with settings within
-- the limits, and for every proposal and every Prepare, Accept, ForwardRequest and Commit.
-- Assumes nothing.
use Rattle.std.specs.Prelude.{Option as Optional, None, Some, Result, Ok, Err}
use Rattle.message.specs.Outcomes.{Outcome}
use mathlib.Core.Path.{◌≡◌, refl, sym, ap, ◌∙◌}
use mathlib.Core.Logic.{inl, inr}
use mathlib.Core.Bool.{Bool, true, false, cond, not, ◌&&◌}
use mathlib.Core.List.{[]}
use Prim.Native.Nat.{ℕ, ◌+◌, ◌/◌, ◌≤◌, min}
use native.Mathlib.Omega.{arith}
use lib.Dec.{eqb, ltb, leb}
use borrow.Author.Tests.{ltb-true, leb-true, lt-ltb, le-leb, ne_eqb}
use Rattle.basics.proofs.Tests.{not_both, and_left, and_right, same_test}
use Rattle.paxos.specs.PaxosMadeSimple.{is_majority}
use Rattle.message.specs.Modes.{has_fast_path}
use Rattle.message.specs.Rounds.{increment, before, starting_round, round_of}
use Rattle.message.specs.declared.ConsensusMsg.{ConsensusMsg}
use Rattle.message.specs.declared.ConsensusMsg.TheVariants.{Prepare, Accept, ForwardRequest, Commit, ReadRequest, ReadResponse}
use Rattle.message.specs.declared.PaxosRound.{PaxosRound}
use Rattle.message.specs.declared.PFMode.{PFMode}
use Rattle.message.specs.declared.PFMode.TheVariants.{Paxos, MultiPaxos, MultiPaxos3P, EPaxos, Pando, SwiftPaxos}
use Rattle.message.specs.declared.ReadId.{ReadId}
use Rattle.message.specs.Refusals.{refusal_number}
use Rattle.message.specs.declared.Refusal.{Refusal}
use Rattle.message.specs.declared.Refusal.TheVariants.{SettingsOutsideLimits, Panic}
use Rattle.message.specs.declared.RoundV.{RoundV}
use Rattle.message.specs.declared.RoundV.TheVariants.{FastV, PaxosV}
use Rattle.fast_state.specs.Adopt.{lowest_best}
use Rattle.read_tracker.specs.declared.Inserted.{Inserted}
use Rattle.settings.specs.Settings.{counts_fit, within_limits}
use Rattle.settings.specs.Questions.{committer_of, quorums_of}
use Rattle.settings.specs.declared.Settings.{Settings}
use Rattle.steps.specs.enter.Enter.{in_round}
use Rattle.classic.specs.prepare.Prepare.{prepare_answered, gather}
use Rattle.classic.specs.accept.Accept.{accepting}
use Rattle.propose.specs.Propose.{propose_fast, propose_classic}
use Rattle.paxos_family.specs.Commit.{commit_slot}
use Rattle.paxos_family.specs.Process.{entered_prepare, on_prepare, on_accept, process_classic, process_fast}
use Rattle.steps.specs.Steps.{RoundsStep, CoreStep, no_messages, one_message, and_then, map_step, on_rounds}
use Rattle.steps.specs.declared.Asked.{Asked}
use Rattle.steps.specs.declared.Core.{Core}
use Rattle.steps.specs.declared.Heard.{Heard}
use Rattle.calls.specs.declared.delivery.Delivery.{Delivery}
use Rattle.calls.specs.Commits.{committed_slot}
use Rattle.calls.specs.Asked.{asked_of, gatherer_in, gatherer_of, heard_of}
use Rattle.calls.specs.Replies.{read_answer}
use Rattle.calls.specs.declared.Call.{Call}
use Rattle.calls.specs.declared.Call.TheVariants.{Propose, StartRead, Receive}
use Rattle.consensus.specs.Answers.{refused, sent_answer, committed, finish}
use Rattle.consensus.specs.Call.{new_shard, call_of, in_shard}
use Rattle.consensus.proofs.Decided.{handled, by_decision, settings_kept}
use Rattle.consensus.proofs.Entered.{not_swift_without_fast_path, committer_same, prepare_delegate, accept_delegate}
use Rattle.consensus.proofs.FirstCause.{GivesNumber, first_start, first_cause_lem}
use Rattle.consensus.proofs.Refusals.{refusal_numbered}
use Rattle.consensus.specs.FirstCause.{number_alone, number_of_outcome, is_live, leader_delegate, promise_delegate, led_from_start}
use Rattle.consensus.specs.Handle.{proposing, processed, process_message, on_commit, on_read_request, on_read_response, read_inserted, after_insert, start_read, handle, handle_call}
use Rattle.consensus.specs.declared.Shard.{Shard}
use Rattle.consensus.specs.declared.State.{State}
use Rattle.paper.specs.Replica.{Replica, responded_of, enters_number}
use Rattle.paper.specs.PaperCall.{Seen, Place, Known, place_of, proposer_by, committers_as_learners, known_of, seen, commits_learned, prepare_received, accept_received, proposes_own, received, OfPaxos, InPaxos, LeavesPaxos, beginning, AtBeginning, replica_in, refused_with, by_rules, paper_call}
use Rattle.paper.specs.Runs.{ClassicMode, ReachedShard, new, called}
use Rattle.paper.proofs.Views.{place_in, known_in, state_seen, seen_after, taken_no, AgreesIfTaken, agrees_if_taken, through, no_refusal, agree_both, round_entered, not_exceeded}
use Rattle.paper.proofs.InOrder.{kept, then_prepare, prepare_in_order, then_accept, accept_in_order}
use Rattle.paper.proofs.Handlers.{enter_paper, entered_core, prepared_paper}
use Rattle.paper.proofs.Accepting.{accepting_paper}
use Rattle.paper.proofs.Proposals.{proposal_paper}

-- ---- majorities

more_than_half : (m k : ℕ) → leb (m / 2 + 1) k ≡ ltb m (k + k)
more_than_half m k =
    same_test (λ e. lt-ltb m (k + k) (let z =
    leb-true (m / 2 + 1) k e in omega arith)) (λ e. le-leb (m / 2 + 1) k (let z = ltb-true m (k + k) e in omega arith))

-- the engine's majority is more than half of the replicas
pub majority_paper : (s : Settings) → within_limits s ≡ true → (k : ℕ) → leb (quorums_of s).majority k ≡ is_majority s.replica_count k
unfolding within_limits counts_fit is_majority
majority_paper s within k =
    more_than_half (min s.replica_count 64) k ∙ ap (λ (m : ℕ). ltb m (k + k))
    (small (leb-true _ _ (and_right (leb 1 s.process_count && leb s.process_count 64 && leb 1 s.replica_count) _ counts))
    (leb-true _ _ (and_right (leb 1 s.process_count) _
    (and_left (leb 1 s.process_count && leb s.process_count 64) _
    (and_left (leb 1 s.process_count && leb s.process_count 64 && leb 1 s.replica_count) _ counts)))))
  where
    counts : counts_fit s ≡ true
    counts = and_left (counts_fit s) _ (and_left (counts_fit s && _) _ (and_left (counts_fit s && _ && _) _ within))

    small : s.replica_count ≤ s.process_count → s.process_count ≤ 64 → min s.replica_count 64 ≡ s.replica_count
    small h g = omega arith

-- ---- what is asked of the settings, and what is known of a message

start_same : (m : PFMode) (leader : ℕ) → starting_round m leader ≡ cond (led_from_start m) (Some (round_of 0 leader)) None
start_same Paxos leader = refl
start_same MultiPaxos leader = ap Some (first_start leader)
start_same MultiPaxos3P leader = ap Some (first_start leader)
start_same EPaxos leader = refl
start_same Pando leader = refl
start_same SwiftPaxos leader = refl

place_same : (shard : Shard) → place_in (asked_of shard.settings) shard.settings.replica_count shard.state.rounds.core ≡ place_of shard
place_same shard = ap with (start_same shard.settings.mode shard.settings.first_leader)
  where
    with : Optional PaxosRound → Place
    with start =
        record {
          self = shard.settings.my_pid;
          acceptor = is_live shard.settings shard.settings.my_pid;
          acceptors = shard.settings.replica_count;
          start = responded_of start;
          slot = shard.state.rounds.core.slot;
          last = shard.state.rounds.core.last_v;
          old = replica_in shard;
        }

-- only SwiftPaxos has another proposer for a promise of the fast path
promise_proposer : (s : Settings) → has_fast_path s.mode ≡ false → (leader : ℕ) (rv : RoundV) → promise_delegate s leader rv ≡ leader_delegate s s.mode leader
promise_proposer s classic leader (FastV proposer v) =
    ap (λ (t : Bool). cond (t && not (eqb leader s.my_pid)) proposer (leader_delegate s s.mode leader)) (not_swift_without_fast_path s.mode classic)
promise_proposer s classic leader (PaxosV at v) = refl

proposer_same : (s : Settings) → has_fast_path s.mode ≡ false → (m : ConsensusMsg) → gatherer_of s m ≡ proposer_by s m
unfolding gatherer_in
proposer_same s classic (Prepare slot n rv) = prepare_delegate s slot n rv ∙ promise_proposer s classic n.leader rv
proposer_same s classic (Accept slot n v) = accept_delegate s slot n v
proposer_same s classic (ForwardRequest v) = refl
proposer_same s classic (Commit slot v) = refl
proposer_same s classic (ReadRequest id) = refl
proposer_same s classic (ReadResponse id next) = refl

known_same : (s : Settings) → has_fast_path s.mode ≡ false → (d : Delivery) → known_in (asked_of s) (heard_of s d) ≡ known_of s d
known_same s classic d =
    ap (with (committer_of s d.said.requester)) (proposer_same s classic d.message.msg)
    ∙ ap (λ (c : Optional ℕ). with c (proposer_by s d.message.msg)) (committer_same s d.said.requester)
  where
    with : Optional ℕ → ℕ → Known
    with committer proposer =
        record { src = d.message.src; proposer = proposer; requester = d.said.requester; committers = committers_as_learners s.mode committer }

-- ---- calls

module _ (shard : Shard) (classic : has_fast_path shard.settings.mode ≡ false) (within : within_limits shard.settings ≡ true) where
  abbrev a : Asked
  a = asked_of shard.settings

  abbrev state : State
  state = shard.state

  abbrev core : Core
  core = shard.state.rounds.core

  abbrev acceptors : ℕ
  acceptors = shard.settings.replica_count

  abbrev old : Replica
  old = replica_in shard

  quorum : (k : ℕ) → leb a.member.quorums.majority k ≡ is_majority acceptors k
  quorum = majority_paper shard.settings within

  module _ (d : Delivery) where
    abbrev h : Heard
    h = heard_of shard.settings d

    abbrev here : Place
    here = place_in a acceptors core

    abbrev known : Known
    known = known_in a h

    abbrev there : Bool
    there = d.said.value_held

    abbrev seen_step : Result CoreStep Refusal → Seen
    seen_step step = seen_after state a there step

    prepare_paper : (slot : ℕ) (n : PaxosRound) (rv : RoundV) → AgreesIfTaken (seen_step (on_prepare a h slot n rv core)) (prepare_received here known slot n rv)
    unfolding on_prepare entered_prepare
    prepare_paper slot n rv =
        through refl
        (enter_paper state a h there acceptors classic quorum slot n (entered_prepare a h n rv) (ends (enters_number n old))
        (λ replica free.
        through (ap (λ (c : Core). seen_step (and_then (prepare_answered a h n rv c) (gather a h n rv))) (entered_core state a h there acceptors classic quorum n))
        (prepared_paper state a h there acceptors classic quorum replica n rv (in_round n core).paxos (not_exceeded n core free))
        (ap ends (round_entered n core))))
        (sym (prepare_in_order here known n rv slot))
      where
        ends : Replica → Seen
        ends r = then_prepare here known n rv (kept here known n rv r)

    accept_paper : (slot : ℕ) (n : PaxosRound) (v : ℕ)
        → AgreesIfTaken (seen_step (on_accept a h slot n v core)) (accept_received here known slot (record { number = n; value = v }))
    unfolding on_accept
    accept_paper slot n v =
        through refl
        (enter_paper state a h there acceptors classic quorum slot n (accepting a h n v)
        (then_accept here known (record { number = n; value = v }) (enters_number n old))
        (λ replica free.
        through (ap (λ (c : Core). seen_step (accepting a h n v c)) (entered_core state a h there acceptors classic quorum n))
        (accepting_paper state a h there acceptors classic quorum replica n v (in_round n core).paxos (not_exceeded n core free))
        (ap (then_accept here known (record { number = n; value = v })) (round_entered n core))))
        (sym (accept_in_order here known (record { number = n; value = v }) slot))

    -- in the classic modes the message is handled by the core alone
    by_core_lem : (m : ConsensusMsg) → d.message.msg ≡ m → state_seen (process_message lowest_best state a h d) ≡ seen_step (process_classic a h m core)
    unfolding process_message processed
    by_core_lem m e =
        taken_no (λ (step : Result RoundsStep Refusal). state_seen (finish state a there step)) (has_fast_path a.mode)
        (process_fast lowest_best a h d.message.msg state.rounds)
        (map_step (on_rounds state.rounds.fast) (process_classic a h d.message.msg core)) classic
        ∙ ap (λ (x : ConsensusMsg). seen_step (process_classic a h x core)) e

    handled_paper : (m : ConsensusMsg) → d.message.msg ≡ m → OfPaxos m → AgreesIfTaken (state_seen (handle lowest_best state a h d m)) (received here known m)
    unfolding handle process_classic on_commit committed commit_slot received
    handled_paper (Prepare slot n rv) e p = through (by_core_lem (Prepare slot n rv) e) (prepare_paper slot n rv) refl
    handled_paper (Accept slot n v) e p = through (by_core_lem (Accept slot n v) e) (accept_paper slot n v) refl
    handled_paper (ForwardRequest v) e p = agrees_if_taken (by_core_lem (ForwardRequest v) e)
    handled_paper (Commit slot v) e p =
        agree_both state_seen (ltb slot core.slot) (ltb slot core.slot) refl (λ o. agrees_if_taken refl)
        (λ o. agrees_if_taken (ap (λ (t : Bool). record {
          outcome = 0;
          slot = increment
              core.slot;
          last = Some v;
          replica = (commits_learned here v []).replica;
          messages = no_messages;
          commit = committed_slot core.slot v
              (t && not core.slot_left_fast_path);
        }) classic))
    handled_paper (ReadRequest id) e p = absurd p
    handled_paper (ReadResponse id next) e p = absurd p

  propose_paper : (v : ℕ) → AgreesIfTaken (state_seen (finish state a true (proposing a v state.rounds))) (proposes_own (place_in a acceptors core) v)
  unfolding proposing
  propose_paper v =
      through
      (taken_no (λ (step : Result RoundsStep Refusal). state_seen (finish state a true step)) (has_fast_path a.mode) (propose_fast a v state.rounds)
      (map_step (on_rounds state.rounds.fast) (propose_classic a v core)) classic)
      (proposal_paper shard.settings state acceptors classic v) refl

  -- a call that is taken follows the rules
  taken_paper : (c : Call) → InPaxos c → AgreesIfTaken (seen (handled lowest_best shard c)) (by_rules shard c)
  unfolding handle_call by_rules
  taken_paper (Propose v) p = through refl (propose_paper v) (ap (λ (x : Place). proposes_own x v) (place_same shard))
  taken_paper (StartRead tag arrival) p = absurd p
  taken_paper (Receive d) p =
      through refl (handled_paper d d.message.msg refl p)
      (ap (λ (x : Place). received x (known_in a (heard_of shard.settings d)) d.message.msg) (place_same shard)
      ∙ ap (λ (x : Known). received (place_of shard) x d.message.msg) (known_same shard.settings classic d))

  taken_by_rules : (c : Call) → InPaxos c → AgreesIfTaken (seen (call_of shard c)) (by_rules shard c)
  taken_by_rules c p =
      by_decision lowest_best shard (λ r. AgreesIfTaken (seen r) (by_rules shard c)) c (λ why. no_refusal (refusal_numbered why)) (λ made room admitted. taken_paper c p)

  -- Every call is the paper's, whatever stands in the shard: where a cause refuses it (demand 1), with its number, and else by the rules.
  pub call_as_paper : (c : Call) → InPaxos c → seen (call_of shard c) ≡ paper_call shard c
  unfolding paper_call
  call_as_paper c p = go (first_cause_lem lowest_best shard c)
    where
      by : ℕ → Seen
      by n = cond (eqb n 0) (by_rules shard c) (refused_with n shard)

      above : (why : Refusal) → eqb (refusal_number why) 0 ≡ false
      above why = ne_eqb (refusal_number why) 0 (λ e. not_both (refusal_numbered why) (ap (ltb 0) e))

      go : {n : ℕ} → GivesNumber shard (call_of shard c) n → seen (call_of shard c) ≡ by n
      go (inl (taken, e)) = taken_by_rules c p (ap number_of_outcome taken) ∙ ap by (sym e)
      go (inr (why, e, n)) = ap seen e ∙ ap (λ (t : Bool). cond t (by_rules shard c) (refused_with (refusal_number why) shard)) (sym (above why)) ∙ ap by (sym n)

-- ---- calls that are not of the paper

-- In every mode and on every shard, a new read, a ReadRequest and a ReadResponse change nothing that the paper speaks of.
pub other_calls_leave : (shard : Shard) (c : Call) → (InPaxos c → ⊥) → LeavesPaxos shard (call_of shard c)
unfolding handle_call start_read handle on_read_request on_read_response
other_calls_leave shard c other = by_decision lowest_best shard (LeavesPaxos shard) c nothing_left (λ made room admitted. taken c other)
  where
    nothing_left : (why : Refusal) → LeavesPaxos shard (number_alone why shard)
    nothing_left why = (refl, refl, refl, refl, (tt, tt, tt))

    opened : (r : Result Inserted Refusal) → LeavesPaxos shard (in_shard shard (after_insert shard.state (asked_of shard.settings) r))
    opened (Err why) = nothing_left why
    opened (Ok ins) = (refl, refl, refl, refl, ((λ x. x), tt, tt))

    asked : (src : ℕ) (id : ReadId) (t : Bool)
        → LeavesPaxos shard
        (in_shard shard
        (cond t (refused Panic shard.state) (sent_answer shard.state (one_message (read_answer shard.settings.my_pid src id shard.state.rounds.core)))))
    asked src id true = nothing_left Panic
    asked src id false = (refl, refl, refl, refl, ((λ x. x), tt, tt))

    heard : (d : Delivery) (m : ConsensusMsg) → (OfPaxos m → ⊥)
        → LeavesPaxos shard (in_shard shard (handle lowest_best shard.state (asked_of shard.settings) (heard_of shard.settings d) d m))
    heard d (Prepare slot n rv) o = absurd (o tt)
    heard d (Accept slot n v) o = absurd (o tt)
    heard d (ForwardRequest v) o = absurd (o tt)
    heard d (Commit slot v) o = absurd (o tt)
    heard d (ReadRequest id) o = asked d.message.src id (eqb d.message.src shard.settings.my_pid)
    heard d (ReadResponse id next) o = (refl, refl, refl, refl, (tt, tt, tt))

    taken : (x : Call) → (InPaxos x → ⊥) → LeavesPaxos shard (handled lowest_best shard x)
    taken (Propose v) o = absurd (o tt)
    taken (StartRead tag arrival) o = opened (read_inserted shard.state tag arrival)
    taken (Receive d) o = heard d d.message.msg o

-- ---- the shards that there are

-- A new shard is the paper's at its beginning, of whatever settings.
pub new_as_paper : (s : Settings) → AtBeginning s (new_shard s)
unfolding new_shard
new_as_paper s = (refl, refl, ap (λ (start : Optional PaxosRound). beginning (responded_of start)) (start_same s.mode s.first_leader))

abbrev is_done : Outcome → Bool
is_done (Ok tt) = true
is_done (Err why) = false

pub new_within : (s : Settings) → (new_shard s).made ≡ Ok tt → within_limits (new_shard s).settings ≡ true
unfolding new_shard
new_within s e = go (within_limits s) e
  where
    made : Bool → Outcome
    made t = cond t (Ok tt) (Err SettingsOutsideLimits)

    go : (t : Bool) → made t ≡ Ok tt → t ≡ true
    go true d = refl
    go false d = absurd (not_both (ap is_done d) refl)

reached_within : (shard : Shard) → ReachedShard shard → within_limits shard.settings ≡ true
reached_within shard (new s e) = new_within s e
reached_within shard (called before c r) = ap within_limits (settings_kept lowest_best before c) ∙ reached_within before r

pub no_fast_path : (m : PFMode) → ClassicMode m → has_fast_path m ≡ false
no_fast_path Paxos c = refl
no_fast_path MultiPaxos c = refl
no_fast_path MultiPaxos3P c = refl
no_fast_path EPaxos c = absurd c
no_fast_path Pando c = refl
no_fast_path SwiftPaxos c = absurd c

-- Every call of Paxos on every shard that there is, in Paxos, MultiPaxos, MultiPaxos3P and Pando.
pub every_call_as_paper : (shard : Shard) → ReachedShard shard → ClassicMode shard.settings.mode → (c : Call) → InPaxos c
    → seen (call_of shard c) ≡ paper_call shard c
every_call_as_paper shard r classic c p = call_as_paper shard (no_fast_path shard.settings.mode classic) (reached_within shard r) c p

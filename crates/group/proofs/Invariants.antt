-- What holds of every shard after every list of calls, legal or not, in every mode and with every settings: the fast half of the classic modes
-- is as new, the open reads are in order, the prepared and accepted sets hold live replicas (but for SwiftPaxos), and the numbers that calls add
-- to or subtract from have room.
-- Assumes nothing.
use Rattle.std.specs.Prelude.{Option, None, Some, Result, Ok, Err, is_some, IfOk}
use Rattle.std.proofs.lemmas.Result.{IfOk-weaker}
use Rattle.message.specs.Outcomes.{Outcome}
use Rattle.calls.specs.Commits.{committed_slot}
use Rattle.calls.specs.declared.CommittedSlot.{CommittedSlot}
use mathlib.Core.Path.{◌≡◌, refl, sym, ap, subst, ◌∙◌}
use mathlib.Core.Logic.{◌⊎◌, inl, inr}
use mathlib.Core.Bool.{Bool, true, false, cond, not, ◌&&◌, ◌||◌}
use mathlib.Core.List.{List, [], ◌∷◌, ◌++◌}
use Prim.Native.Nat.{ℕ, suc, ◌+◌, ◌-◌, ◌≤◌, ◌<◌, min}
use native.Mathlib.Omega.{arith}
use lib.Dec.{T, eqb, eqb→eq, ltb, leb, nleb→lt, nltb→le}
use lib.ListN.{take, length, length-take}
use lib.Seq.{take_at, take-suc-set}
use borrow.Author.Tests.{ltb-true, leb-true, le-leb}
use Rattle.basics.proofs.Tests.{not_both, and_left, and_right, or_cases, of-both}
use Rattle.basics.specs.sets.Sets.{contains, size, Within}
use Rattle.basics.specs.tables.Tables.{look_up}
use Rattle.message.specs.Modes.{has_fast_path, is_swift_paxos}
use Rattle.message.specs.Promises.{accept_round_of}
use Rattle.message.specs.Rounds.{increment, round_equal, next_leader_round, starting_round, equal, unwrap_or_default}
use Rattle.message.proofs.NextLeader.{increment_next}
use Rattle.message.specs.declared.ConsensusMsg.{ConsensusMsg}
use Rattle.message.specs.declared.ConsensusMsg.TheVariants.{Prepare, Accept, ForwardRequest, Commit, ReadRequest, ReadResponse}
use Rattle.message.specs.declared.PFMode.{PFMode}
use Rattle.message.specs.declared.PFMode.TheVariants.{Paxos, MultiPaxos, MultiPaxos3P, EPaxos, Pando, SwiftPaxos}
use Rattle.message.specs.declared.ReadId.{ReadId}
use Rattle.message.specs.declared.PaxosRound.{PaxosRound}
use Rattle.message.specs.declared.Refusal.{Refusal}
use Rattle.message.specs.declared.Refusal.TheVariants.{NumberTooLarge, NoSuchProcess, SettingsOutsideLimits}
use Rattle.message.specs.declared.RoundV.{RoundV}
use Rattle.message.specs.declared.RoundV.TheVariants.{FastV, PaxosV}
use Rattle.settings.specs.Questions.{is_replica, is_live_replica, quorums_of, starting_round_of}
use Rattle.settings.specs.Settings.{within_limits}
use Rattle.settings.specs.declared.Settings.{Settings}
use Rattle.settings.proofs.Limits.{within_counts, within_members}
use Rattle.round_state.specs.Paxos.{get_last_accepted_round}
use Rattle.fast_state.specs.Adopt.{ProposerChoice}
use Rattle.fast_state.specs.Fast.{no_answers}
use Rattle.fast_state.specs.declared.FastState.{FastState}
use Rattle.read_tracker.specs.Reads.{read_id, new_read, open_places, open_reads, opening, inserted, insert_opened, open_next, insert_read, after_response, after_commit, has_quorum}
use Rattle.read_tracker.specs.declared.Inserted.{Inserted}
use Rattle.read_tracker.specs.declared.Opening.{Opening}
use Rattle.read_tracker.specs.declared.OpenRead.{OpenRead}
use Rattle.read_tracker.specs.declared.ReadTable.{ReadTable}
use Rattle.read_tracker.specs.declared.ReadTracker.{ReadTracker}
use Rattle.read_tracker.specs.declared.ServedRead.{ServedRead}
use Rattle.basics.specs.elements.Places.{at_front}
use Rattle.read_tracker.specs.serving.Serving.{has_id, kept_by_ready, served_by_ready, kept_by_commit, served_by_commit, tracked, receive_ready, serve_at_commit}
use Rattle.read_tracker.specs.declared.serving.Tracked.{Tracked}
use Rattle.read_tracker.proofs.serving.IdOrder.{RisingIds, served_ids, InOrder, new_in_order, commit_slot_in_order, receive_ready_in_order, insert_in_order}
use Rattle.read_tracker.proofs.serving.NothingLost.{parted_length, commit_loses_nothing, ready_loses_nothing}
use Rattle.steps.specs.enter.Enter.{can_propose, source_taken}
use Rattle.paxos_family.specs.Commit.{commit_slot}
use Rattle.propose.specs.Propose.{electing, proposal_round, may_propose}
use Rattle.steps.specs.declared.Asked.{Asked}
use Rattle.steps.specs.declared.Core.{Core}
use Rattle.steps.specs.declared.Heard.{Heard}
use Rattle.steps.specs.declared.SentMessages.{SentMessages}
use Rattle.steps.specs.declared.Next.{Next}
use Rattle.steps.specs.declared.Next.TheVariants.{Stays, Continues, Commits}
use Rattle.steps.specs.declared.Rounds.{Rounds}
use Rattle.steps.specs.Steps.{RoundsStep}
use Rattle.calls.specs.delivery.Admit.{ready, admit}
use Rattle.calls.specs.delivery.Limits.{is_number, is_slot, round_numbers, rv_numbers, msg_numbers, number_given, numbers_fit, rv_processes, msg_processes, requester_below, processes_fit}
use Rattle.calls.specs.declared.delivery.Delivery.{Delivery}
use Rattle.calls.specs.Asked.{asked_of, heard_of}
use Rattle.calls.specs.Decision.{admission_of}
use Rattle.calls.specs.declared.Call.{Call}
use Rattle.calls.specs.declared.Call.TheVariants.{Propose, StartRead, Receive}
use Rattle.consensus.proofs.Decided.{admission, handled, by_decision, settings_kept}
use Rattle.consensus.specs.Answers.{state_with_rounds, track, sent_answer, committed, finish_at, finish}
use Rattle.consensus.specs.Call.{new_core, new_shard, with_state, in_shard, call_with}
use Rattle.consensus.specs.Handle.{on_read_response, after_insert, read_inserted, start_read, proposing, processed, process_message, handle, handle_call}
use Rattle.consensus.specs.declared.Answer.{Answer}
use Rattle.consensus.specs.declared.Shard.{Shard}
use Rattle.consensus.specs.declared.State.{State}
use Rattle.consensus.specs.declared.StateAnswer.{StateAnswer}
use Rattle.basics.specs.Lists.{In}
use Rattle.agreement.proofs.Tests.{by_test, both_hold, is_true}
use Rattle.group.specs.Claim.{member_settings, begun, ProposerChoices, later_choices, MemberCall, call_by_value, after_call, plus_commit}
use Rattle.group.specs.Steps.{is_done, shards_made}
use Rattle.group.proofs.View.{LeaderIn}
use Rattle.group.proofs.Answering.{FastFits, size_bound, no_answers_fit, ProposerFits}
use Rattle.group.proofs.Handlers.{handle_holds}
use Rattle.group.proofs.StepBounds.{GroupFits, RoundFits, StateFits, none_counted, only_empty, CoreFits, MessageFits, RoundsFit, processed_fits, proposing_fits}

-- ---- the counts of the open reads

-- no read has 33 responses or more: a majority is 33 at most, and a read with one is served
abbrev pub LowCounts : List OpenRead → Type 0
LowCounts [] = Unit {0}
LowCounts (r ∷ rs) = (r.ready_count ≤ 32) × LowCounts rs

below_quorum : (quorum : ℕ) (r : OpenRead) → quorum ≤ 33 → T (not (has_quorum quorum r)) → r.ready_count ≤ 32
below_quorum quorum r small t = let l : r.ready_count < quorum = nleb→lt quorum r.ready_count t in omega arith

ready_low : (id : ReadId) (quorum : ℕ) → quorum ≤ 33 → (l : List OpenRead) → LowCounts l → LowCounts (kept_by_ready id quorum l)
unfolding kept_by_ready
ready_low id quorum small [] low = tt
ready_low id quorum small (r ∷ rs) low =
    of-both LowCounts (has_id id r) (by_test LowCounts (has_quorum quorum (after_response r)) _ _ (λ t. low.1) (λ t. (below_quorum quorum (after_response r) small t, low.1)))
    (low.0, ready_low id quorum small rs low.1)

commit_low : (quorum : ℕ) → quorum ≤ 33 → (l : List OpenRead) → LowCounts (kept_by_commit quorum l)
unfolding kept_by_commit
commit_low quorum small [] = tt
commit_low quorum small (r ∷ rs) =
    by_test LowCounts (has_quorum quorum (after_commit r)) _ _ (λ t. commit_low quorum small rs) (λ t. (below_quorum quorum (after_commit r) small t, commit_low quorum small rs))

push_low : (l : List OpenRead) (r : OpenRead) → LowCounts l → r.ready_count ≤ 32 → LowCounts (l ++ (r ∷ []))
push_low [] r low h = (h, tt)
push_low (x ∷ xs) r low h = (low.0, push_low xs r low.1 h)

-- the reads of a tracker and its table, with their ids and counts; the next id is 2^63 at most
pub record ReadsFit (tracker : ReadTracker) (table : ReadTable) : Type 0 where
  pub in_order : InOrder tracker table
  pub low_counts : LowCounts (open_reads tracker table)
  pub ids_fit : tracker.next_id ≤ 9223372036854775808

module _ (tracker : ReadTracker) (table : ReadTable) where
  -- what is kept stands first
  tracked_low : (kept : List OpenRead) (served : List ServedRead) → length kept ≤ length (open_reads tracker table) → LowCounts kept
      → LowCounts (open_reads (tracked tracker table kept served).tracker (tracked tracker table kept served).table)
  unfolding at_front
  tracked_low kept served fewer low =
      let long : length (open_reads tracker table) ≡ min (open_places tracker) (length table.reads) = length-take (open_places tracker) table.reads in
      let same : open_reads (tracked tracker table kept served).tracker (tracked tracker table kept served).table ≡ kept = take_at kept _ (open_places (tracked tracker table kept served).tracker) (omega arith) in
      subst LowCounts (sym same) low

  commit_reads_fit : (quorum slot : ℕ) → quorum ≤ 33 → ReadsFit tracker table → (let t : Tracked = serve_at_commit tracker table quorum slot in ReadsFit t.tracker t.table)
  unfolding serve_at_commit
  commit_reads_fit quorum slot small ok =
      record {
        in_order = (commit_slot_in_order tracker table quorum slot ok.in_order).0;
        low_counts = let p = parted_length (commit_loses_nothing quorum slot (open_reads tracker table)) in tracked_low (kept_by_commit quorum (open_reads tracker table)) (served_by_commit quorum slot (open_reads tracker table)) (omega arith) (commit_low quorum small (open_reads tracker table));
        ids_fit = ok.ids_fit;
      }

  ready_reads_fit : (id : ReadId) (quorum slot : ℕ) (fast : Bool) → quorum ≤ 33 → ReadsFit tracker table → (let t : Tracked = receive_ready tracker table id quorum slot fast in ReadsFit t.tracker t.table)
  unfolding receive_ready
  ready_reads_fit id quorum slot fast small ok =
      record {
        in_order = (receive_ready_in_order tracker table id quorum slot fast ok.in_order).0;
        low_counts = let p = parted_length (ready_loses_nothing id quorum slot fast (open_reads tracker table)) in tracked_low (kept_by_ready id quorum (open_reads tracker table)) (served_by_ready id quorum slot fast (open_reads tracker table)) (omega arith) (ready_low id quorum small (open_reads tracker table) ok.low_counts);
        ids_fit = ok.ids_fit;
      }

  insert_reads_fit : (tag arrival : ℕ) (local : Bool) → ReadsFit tracker table → IfOk (insert_read tracker table tag arrival local) (λ t. ReadsFit t.tracker t.table)
  unfolding insert_read open_next
  insert_reads_fit tag arrival local ok =
      by_test Fits (leb 128 tracker.open_count) _ _ (λ t q. tt)
      (λ t. by_test Fits (ltb 9223372036854775807 tracker.next_id) _ _ (λ u q. tt)
      (λ u q. record {
        in_order = q;
        low_counts = new_low (nleb→lt 128 tracker.open_count t);
        ids_fit = let l = nltb→le 9223372036854775807 tracker.next_id u in omega arith;
      }))
      (insert_in_order tracker table tag arrival local ok.in_order)
    where
      Fits : Result Opening Refusal → Type 0
      Fits r = IfOk (insert_opened tracker table r) (λ t. InOrder t.tracker t.table) → IfOk (insert_opened tracker table r) (λ t. ReadsFit t.tracker t.table)

      new : OpenRead
      new = new_read (read_id tracker.next_id) tag arrival local

      one_at_most : (b : Bool) → cond b 1 0 ≤ 32
      one_at_most true = omega arith
      one_at_most false = omega arith

      with_new : Inserted
      with_new = inserted tracker table (opening tracker tag arrival local)

      new_low : tracker.open_count < 128 → LowCounts (open_reads with_new.tracker with_new.table)
      new_low room =
          let long = ok.in_order.places in
          let n : min (tracker.open_count + 1) 128 ≡ suc tracker.open_count = omega arith in
          let m : min tracker.open_count 128 ≡ tracker.open_count = omega arith in
          let stands : open_reads with_new.tracker with_new.table ≡ open_reads tracker table ++ (new ∷ []) =
          simp (n, m) (take-suc-set table.reads tracker.open_count new (omega arith)) in
          subst LowCounts (sym stands) (push_low (open_reads tracker table) new ok.low_counts (one_at_most local))

-- ---- settings and messages

module _ (s : Settings) (limits : within_limits s ≡ true) where
  few_processes : s.process_count ≤ 64
  few_processes = (within_counts s limits).most_processes

  own_below : s.my_pid < s.process_count
  own_below = (within_members s limits).own_below

  low_majority : (quorums_of s).majority ≤ 33
  low_majority = let few = few_processes in let least = (within_counts s limits).most_replicas in omega arith

-- the starting round is of group 0
group_of_start : (l : ℕ) → (next_leader_round (record { round_group = 0; leader = 0 }) l).round_group ≡ 0
unfolding next_leader_round
group_of_start l = ap (λ (t : Bool). cond t 0 (increment 0)) (le-leb 0 l (omega arith))

start_fits : (mode : PFMode) (l : ℕ) → GroupFits (starting_round mode l)
start_fits Paxos l = tt
start_fits MultiPaxos l = let g = group_of_start l in omega arith
start_fits MultiPaxos3P l = let g = group_of_start l in omega arith
start_fits EPaxos l = tt
start_fits Pando l = tt
start_fits SwiftPaxos l = tt

-- the first leader may lead, so it may lead the starting round
pub start_led : (Leads : ℕ → Type 0) (mode : PFMode) (l : ℕ) → Leads l → LeaderIn Leads (starting_round mode l)
unfolding next_leader_round
start_led Leads Paxos l led = tt
start_led Leads MultiPaxos l led = led
start_led Leads MultiPaxos3P l led = led
start_led Leads EPaxos l led = tt
start_led Leads Pando l led = tt
start_led Leads SwiftPaxos l led = tt

-- a proposal is made in the starting round, and its round is of group 0 or 1
start_group : (r : Option PaxosRound) (mode : PFMode) (l : ℕ) → T (equal r (starting_round mode l)) → (unwrap_or_default r).round_group ≡ 0
unfolding round_equal
start_group None mode l t = refl
start_group (Some r) Paxos l t = absurd t
start_group (Some r) MultiPaxos l t = eqb→eq _ _ (both_hold (eqb r.round_group (next_leader_round (record { round_group = 0; leader = 0 }) l).round_group) _ t).0 ∙ group_of_start l
start_group (Some r) MultiPaxos3P l t = eqb→eq _ _ (both_hold (eqb r.round_group (next_leader_round (record { round_group = 0; leader = 0 }) l).round_group) _ t).0 ∙ group_of_start l
start_group (Some r) EPaxos l t = absurd t
start_group (Some r) Pando l t = absurd t
start_group (Some r) SwiftPaxos l t = absurd t

proposal_group : (s : Settings) (core : Core) → T (may_propose (asked_of s) core) → (proposal_round (asked_of s) core).round_group ≤ 1
unfolding may_propose next_leader_round
proposal_group s core t =
    let zero = start_group core.paxos.round s.mode s.first_leader (both_hold (can_propose (asked_of s)) _ (both_hold (can_propose (asked_of s) && equal core.paxos.round (starting_round_of s)) _ (free (is_some core.paxos.max_rv) _ t)).0).1 in
    let next = increment_next (unwrap_or_default core.paxos.round).round_group (omega arith) in
    of-both (λ (n : ℕ). n ≤ 1) (leb (unwrap_or_default core.paxos.round).leader (electing (asked_of s))) (omega arith) (omega arith)
  where
    free : (held x : Bool) → T (cond held false x) → T x
    free true x t = absurd t
    free false x t = t

-- its leader is who is elected
proposal_leader : (s : Settings) → within_limits s ≡ true → (core : Core) → (proposal_round (asked_of s) core).leader < 64
unfolding electing next_leader_round
proposal_leader s limits core =
    let few = few_processes s limits in let own = own_below s limits in let first = (within_members s limits).leader_below in
    of-both (λ (p : ℕ). p < 64) (is_swift_paxos s.mode) (omega arith) (omega arith)

-- the numbers of an admitted message
pub admit_cond : (b : Bool) (o : Outcome) (why : Refusal) → cond b o (Err why) ≡ Ok tt → (b ≡ true) × (o ≡ Ok tt)
admit_cond true o why e = (refl, e)
admit_cond false o why e = let z : ◌≡◌ {A = Bool} true false = ap is_done (sym e) in absurd (not_both refl z)

pub admitted_numbers : (count own : ℕ) (core : Core) (d : Delivery) → admit count own core d ≡ Ok tt → (numbers_fit d ≡ true) × (processes_fit count d ≡ true)
unfolding admit
admitted_numbers count own core d e =
    let n = admit_cond (numbers_fit d) (cond (processes_fit count d) (ready own core d) (Err NoSuchProcess)) NumberTooLarge e in
    (n.0, (admit_cond (processes_fit count d) (ready own core d) NoSuchProcess n.1).0)

pub source_below : (n : ℕ) (d : Delivery) → processes_fit n d ≡ true → (ltb d.message.src n ≡ true) × (msg_processes n d.message.msg ≡ true)
unfolding processes_fit
source_below n d e =
    let both =
    and_left (ltb d.message.src n && msg_processes n d.message.msg) (requester_below n d.said.requester)
    (and_left (ltb d.message.src n && msg_processes n d.message.msg && requester_below n d.said.requester) (requester_below n d.held_requester) e) in
    (and_left (ltb d.message.src n) (msg_processes n d.message.msg) both, and_right (ltb d.message.src n) (msg_processes n d.message.msg) both)

pub message_numbers : (d : Delivery) → numbers_fit d ≡ true → msg_numbers d.message.msg ≡ true
unfolding numbers_fit
message_numbers d e =
    and_left (msg_numbers d.message.msg) (is_number d.message.src)
    (and_left (msg_numbers d.message.msg && is_number d.message.src) (number_given d.message.last_v)
    (and_left (msg_numbers d.message.msg && is_number d.message.src && number_given d.message.last_v) (number_given d.said.requester)
    (and_left (msg_numbers d.message.msg && is_number d.message.src && number_given d.message.last_v && number_given d.said.requester) (number_given d.held_requester) e)))

proposer_below : (n : ℕ) → n ≤ 64 → (rv : RoundV) → rv_processes n rv ≡ true → ProposerFits rv
unfolding rv_processes
proposer_below n few (FastV p v) e = let l = ltb-true p n e in omega arith
proposer_below n few (PaxosV at v) e = tt

-- of a group whose processes may lead
module _ (Leads : ℕ → Type 0) (n : ℕ) (few : n ≤ 64) (may-lead : (p : ℕ) → p < n → Leads p) where
  accepted_led : (rv : RoundV) → rv_processes n rv ≡ true → LeaderIn Leads (accept_round_of rv)
  unfolding rv_processes
  accepted_led (FastV p v) e = tt
  accepted_led (PaxosV None v) e = tt
  accepted_led (PaxosV (Some r) v) e = may-lead r.leader (ltb-true r.leader n e)

  round_fits : (round : PaxosRound) → round_numbers round ≡ true → ltb round.leader n ≡ true → RoundFits Leads round
  unfolding round_numbers
  round_fits round e q = (
    leb-true round.round_group 9223372036854775807 (and_left (is_number round.round_group) (is_number round.leader) e),
    may-lead round.leader (ltb-true round.leader n q),
  )

  pub message_fits : (m : ConsensusMsg) → msg_numbers m ≡ true → msg_processes n m ≡ true → MessageFits Leads m
  unfolding msg_numbers msg_processes
  message_fits (Prepare slot round rv) e q =
      let named = and_right (ltb round.leader n) (rv_processes n rv) q in
      (round_fits round (and_right (is_slot slot) (round_numbers round) (and_left (is_slot slot && round_numbers round) (rv_numbers rv) e)) (and_left (ltb round.leader n) (rv_processes n rv) q), accepted_led rv named, proposer_below n few rv named)
  message_fits (Accept slot round v) e q = round_fits round (and_right (is_slot slot) (round_numbers round) (and_left (is_slot slot && round_numbers round) (is_number v) e)) q
  message_fits (ForwardRequest v) e q = tt
  message_fits (Commit slot v) e q = tt
  message_fits (ReadRequest id) e q = tt
  message_fits (ReadResponse id next) e q = tt

-- ---- what lasts

-- whom the sets hold: processes, and unless the mode is SwiftPaxos live replicas
abbrev pub CountedIn : Settings → ℕ → Type 0
CountedIn s p = (p < s.process_count) × (is_swift_paxos s.mode ≡ false → contains s.alive_replicas p ≡ true)

-- who leads rounds, where the shard is made
abbrev pub LeadsIn : Outcome → ℕ → Type 0
LeadsIn made p = made ≡ Ok tt → p < 64

pub record Lasts (shard : Shard) : Type 0 where
  pub made_within : shard.made ≡ Ok tt → within_limits shard.settings ≡ true
  pub slot_fits : shard.state.rounds.core.slot ≤ 9223372036854775807
  pub sets_fit : StateFits (CountedIn shard.settings) (LeadsIn shard.made) shard.state.rounds.core.paxos
  pub fast_fits : FastFits shard.state.rounds.fast
  pub fast_as_new : has_fast_path shard.settings.mode ≡ false → shard.state.rounds.fast ≡ no_answers
  pub reads_fit : ReadsFit shard.state.rounds.core.tracker shard.state.table

-- as a shard begins a slot
pub record Cleared (shard : Shard) : Type 0 where
  pub paxos_new : shard.state.rounds.core.paxos ≡ (new_core shard.settings).paxos
  pub fast_new : shard.state.rounds.fast ≡ no_answers
  pub on_fast_path_lem : shard.state.rounds.core.slot_left_fast_path ≡ false

abbrev pub ClearedBy : Option CommittedSlot → Shard → Type 0
ClearedBy None shard = Unit {0}
ClearedBy (Some commit) shard = Cleared shard

abbrev pub CommitOfSlot : ℕ → Option CommittedSlot → Type 0
CommitOfSlot own None = Unit {0}
CommitOfSlot own (Some commit) = commit.slot ≡ own

-- the reads that a call serves stand first in the table of served reads, as many as its reply says
abbrev pub served_by_call : Answer → List ServedRead
served_by_call r = take r.reply.served_count r.shard.state.table.served

-- what a call leaves; a commit is of the own slot and moves it on, and nothing else does
pub record CallLasts (old : Shard) (r : Answer) : Type 0 where
  pub lasts : Lasts r.shard
  pub cleared : ClearedBy r.reply.commit r.shard
  pub slot_moves : r.shard.state.rounds.core.slot ≡ plus_commit r.reply.commit old.state.rounds.core.slot
  pub of_own_slot : CommitOfSlot old.state.rounds.core.slot r.reply.commit
  pub served_rising : RisingIds 0 (served_ids (served_by_call r)) old.state.rounds.core.tracker.next_id

leader_below : (s : Settings) → within_limits s ≡ true → s.first_leader < 64
leader_below s limits = let few = few_processes s limits in let first = (within_members s limits).leader_below in omega arith

-- the sets as a slot begins
new_sets_fit : (s : Settings) (made : Outcome) → LeadsIn made s.first_leader → StateFits (CountedIn s) (LeadsIn made) (new_core s).paxos
new_sets_fit s made led =
    record {
      only_prepared = only_empty (CountedIn s) (LeadsIn made);
      only_accepted = only_empty (CountedIn s) (LeadsIn made);
      prepared_held = inr refl;
      accepted_held = inr refl;
      group_fits = start_fits s.mode s.first_leader;
      round_led = start_led (LeadsIn made) s.mode s.first_leader led;
      held_led = tt;
    }

pub begun_lasts : (s : Settings) → Lasts (new_shard s)
unfolding new_shard
begun_lasts s =
    record {
      made_within = made (within_limits s) refl;
      slot_fits = omega arith;
      sets_fit = new_sets_fit s (new_shard s).made (λ e. leader_below s (made (within_limits s) refl e));
      fast_fits = no_answers_fit;
      fast_as_new = λ e. refl;
      reads_fit = record { in_order = new_in_order; low_counts = tt; ids_fit = omega arith };
    }
  where
    made : (t : Bool) → within_limits s ≡ t → ◌≡◌ {A = Outcome} (cond t (Ok tt) (Err SettingsOutsideLimits)) (Ok tt) → within_limits s ≡ true
    made t w e = w ∙ (admit_cond t (Ok tt) SettingsOutsideLimits e).0

module _ (choose : ProposerChoice) (shard : Shard) (k : Lasts shard) where
  abbrev s : Settings
  s = shard.settings

  abbrev asked : Asked
  asked = asked_of s

  abbrev state : State
  state = shard.state

  abbrev StateLasts : StateAnswer → Type 0
  StateLasts r = CallLasts shard (in_shard shard r)

  -- where the state stays
  same_lasts : (outcome : Outcome) (ms : SentMessages)
      → StateLasts (record { state = state; reply = record { outcome = outcome; messages = ms; commit = None; served_count = 0 } })
  same_lasts outcome ms = record { lasts = k; cleared = tt; slot_moves = refl; of_own_slot = tt; served_rising = omega arith }

  module _ (limits : within_limits s ≡ true) (room : state.rounds.core.slot < 9223372036854775807) where
    pub own_small : s.my_pid < 64
    own_small = let few = few_processes s limits in let below = own_below s limits in omega arith

    pub own_counts : T (is_replica s) → CountedIn s s.my_pid
    own_counts t = (own_below s limits, λ e. is_true (is_replica s) t)

    abbrev pub Fits : Rounds → Type 0
    Fits rounds = RoundsFit (CountedIn s) (LeadsIn shard.made) asked own_counts own_small state.rounds.core state.rounds.fast rounds

    as_it_is : CoreFits (CountedIn s) (LeadsIn shard.made) asked own_counts own_small state.rounds.core state.rounds.core
    as_it_is = record { same_slot = refl; same_tracker = refl; state_fits = k.sets_fit }

    stays_lasts : (rounds : Rounds) (ms : SentMessages) → Fits rounds → StateLasts (sent_answer (state_with_rounds state rounds) ms)
    stays_lasts rounds ms f =
        record {
          lasts =
              record {
                made_within = k.made_within;
                slot_fits = let e = f.core_fits.same_slot in omega arith;
                sets_fit = f.core_fits.state_fits;
                fast_fits = f.fast_fits;
                fast_as_new = λ e. f.same_fast e ∙ k.fast_as_new e;
                reads_fit = subst (λ (t : ReadTracker). ReadsFit t state.table) (sym f.core_fits.same_tracker) k.reads_fit;
              };
          cleared = tt;
          slot_moves = f.core_fits.same_slot;
          of_own_slot = tt;
          served_rising = omega arith;
        }

    -- with other reads
    reads_last : (tracker : ReadTracker) (table : ReadTable) → ReadsFit tracker table
        → Lasts (with_state shard (record { rounds = track tracker state.rounds; table = table }))
    reads_last tracker table f =
        record { made_within = k.made_within; slot_fits = k.slot_fits; sets_fit = k.sets_fit; fast_fits = k.fast_fits; fast_as_new = k.fast_as_new; reads_fit = f }

    commit_lasts : (v : ℕ) (rounds : Rounds) (ms : SentMessages) → Fits rounds → StateLasts (committed state asked v rounds ms)
    unfolding committed commit_slot
    commit_lasts v rounds ms f =
        record {
          lasts =
              record {
                made_within = k.made_within;
                slot_fits = let e = f.core_fits.same_slot in let n = increment_next rounds.core.slot (omega arith) in omega arith;
                sets_fit = new_sets_fit s shard.made (λ e. leader_below s limits);
                fast_fits = of-both FastFits (has_fast_path s.mode) no_answers_fit f.fast_fits;
                fast_as_new = λ e. cleared (has_fast_path s.mode) (λ d. d);
                reads_fit = commit_reads_fit rounds.core.tracker state.table (quorums_of s).majority _ (low_majority s limits) reads;
              };
          cleared = record { paxos_new = refl; fast_new = cleared (has_fast_path s.mode) (λ d. d); on_fast_path_lem = refl };
          slot_moves = let e = f.core_fits.same_slot in let n = increment_next rounds.core.slot (omega arith) in omega arith;
          of_own_slot = f.core_fits.same_slot;
          served_rising =
              subst (λ (t : ReadTracker). RisingIds 0 (served_ids (served_by_call (in_shard shard (committed state asked v rounds ms)))) t.next_id) f.core_fits.same_tracker
              (commit_slot_in_order rounds.core.tracker state.table (quorums_of s).majority _ reads.in_order).1;
        }
      where
        reads : ReadsFit rounds.core.tracker state.table
        reads = subst (λ (t : ReadTracker). ReadsFit t state.table) (sym f.core_fits.same_tracker) k.reads_fit

        cleared : (t : Bool) → (t ≡ false → has_fast_path s.mode ≡ false) → cond t no_answers rounds.fast ≡ no_answers
        cleared true e = refl
        cleared false e = f.same_fast (e refl) ∙ k.fast_as_new (e refl)

    finish_lasts : (held : Bool) (r : Result RoundsStep Refusal) → IfOk r (λ step. Fits step.state) → StateLasts (finish state asked held r)
    finish_lasts held (Err why) f = same_lasts _ _
    finish_lasts held (Ok step) f = go step.next
      where
        go : (n : Next) → StateLasts (finish_at state asked held step.state step.messages n)
        go Stays = stays_lasts step.state step.messages f
        go Continues = stays_lasts step.state step.messages f
        go (Commits v) = of-both StateLasts held (commit_lasts v step.state step.messages f) (same_lasts _ _)

    slot_stays : (r : Result RoundsStep Refusal) → IfOk r (λ step. Fits step.state) → IfOk r (λ step. step.state.core.slot ≡ state.rounds.core.slot)
    slot_stays r = IfOk-weaker r (λ step. Fits step.state) _ (λ step f. f.core_fits.same_slot)

    pub proposed_fits : (v : ℕ) → IfOk (proposing asked v state.rounds) (λ step. Fits step.state)
    proposed_fits v =
        proposing_fits (CountedIn s) (LeadsIn shard.made) asked own_counts own_small state.rounds.core
        (λ core t. (let g = proposal_group s core t in omega arith, λ e. proposal_leader s limits core)) v state.rounds k.fast_fits as_it_is

    pub proposed_slot : (v : ℕ) → IfOk (proposing asked v state.rounds) (λ step. step.state.core.slot ≡ state.rounds.core.slot)
    proposed_slot v = slot_stays _ (proposed_fits v)

    read_lasts : (tag arrival : ℕ) → StateLasts (start_read state asked tag arrival)
    unfolding start_read
    read_lasts tag arrival =
        go (read_inserted state tag arrival) (insert_reads_fit state.rounds.core.tracker state.table tag arrival (not (is_some state.rounds.core.paxos.max_rv)) k.reads_fit)
      where
        go : (r : Result Inserted Refusal) → IfOk r (λ ins. ReadsFit ins.tracker ins.table) → StateLasts (after_insert state asked r)
        go (Err why) f = same_lasts _ _
        go (Ok ins) f =
            record {
              lasts = reads_last ins.tracker ins.table f;
              cleared = tt;
              slot_moves = refl;
              of_own_slot = tt;
              served_rising = omega arith;
            }

    module _ (d : Delivery) (numbers : numbers_fit d ≡ true) (processes : processes_fit s.process_count d ≡ true) where
      source : d.message.src < s.process_count
      source = ltb-true d.message.src s.process_count (source_below s.process_count d processes).0

      abbrev heard : Heard
      heard = heard_of s d

      source_counts : T (source_taken asked heard) → CountedIn s d.message.src
      source_counts t = (source, λ e. live (or_cases (is_live_replica s d.message.src) (is_swift_paxos s.mode) (is_true (is_live_replica s d.message.src || is_swift_paxos s.mode) t)) e)
        where
          live : (is_live_replica s d.message.src ≡ true) ⊎ (is_swift_paxos s.mode ≡ true) → is_swift_paxos s.mode ≡ false → is_live_replica s d.message.src ≡ true
          live (inl h) e = h
          live (inr h) e = absurd (not_both h e)

      pub message_processed_fits : IfOk (processed choose asked heard d.message.msg state.rounds) (λ step. Fits step.state)
      message_processed_fits =
          let few = few_processes s limits in let l = source in
          processed_fits (CountedIn s) (LeadsIn shard.made) asked own_counts own_small state.rounds.core choose heard (omega arith) source_counts d.message.msg
          (message_fits (LeadsIn shard.made) s.process_count few (λ p below e. omega arith) d.message.msg (message_numbers d numbers) (source_below s.process_count d processes).1) state.rounds k.fast_fits as_it_is

      pub processed_slot : IfOk (processed choose asked heard d.message.msg state.rounds) (λ step. step.state.core.slot ≡ state.rounds.core.slot)
      processed_slot = slot_stays _ message_processed_fits

      process_lasts : StateLasts (process_message choose state asked heard d)
      unfolding process_message
      process_lasts = finish_lasts d.said.value_held (processed choose asked heard d.message.msg state.rounds) message_processed_fits

      handle_lasts : (m : ConsensusMsg) → StateLasts (handle choose state asked heard d m)
      unfolding on_read_response
      handle_lasts =
          handle_holds choose state asked heard d StateLasts process_lasts (same_lasts _ _) (same_lasts _ _)
          (λ v. commit_lasts v state.rounds _ (record { core_fits = as_it_is; fast_fits = k.fast_fits; same_fast = λ e. refl })) (λ id t. same_lasts _ _)
          (λ id. record {
            lasts =
                reads_last _ _
                (ready_reads_fit state.rounds.core.tracker state.table id (quorums_of s).majority state.rounds.core.slot d.said.fast (low_majority s limits) k.reads_fit);
            cleared = tt;
            slot_moves = refl;
            of_own_slot = tt;
            served_rising =
                (receive_ready_in_order state.rounds.core.tracker state.table id (quorums_of s).majority state.rounds.core.slot d.said.fast k.reads_fit.in_order).1;
          })

    handled_lasts : (c : Call) → admission shard c ≡ Ok tt → CallLasts shard (handled choose shard c)
    unfolding admission_of handle_call
    handled_lasts (Propose v) e = finish_lasts true (proposing asked v state.rounds) (proposed_fits v)
    handled_lasts (StartRead tag arrival) e = read_lasts tag arrival
    handled_lasts (Receive d) e = let n = admitted_numbers s.process_count s.my_pid state.rounds.core d e in handle_lasts d n.0 n.1 d.message.msg

  pub call_lasts : (c : Call) → CallLasts shard (call_with choose shard c)
  call_lasts c = by_decision choose shard (CallLasts shard) c (λ why. same_lasts _ _) (λ made room e. handled_lasts (k.made_within made) room c e)

-- ---- sums and differences

-- each number of the shard that a call may add one to has a number after it, and a score that it may take one from is not 0
pub record Room (shard : Shard) : Type 0 where
  pub slot_rises : increment shard.state.rounds.core.slot ≡ shard.state.rounds.core.slot + 1
  pub group_rises : increment (unwrap_or_default shard.state.rounds.core.paxos.round).round_group ≡ (unwrap_or_default shard.state.rounds.core.paxos.round).round_group + 1
  pub preaccepted_rises : increment shard.state.rounds.fast.fast_preaccepted ≡ shard.state.rounds.fast.fast_preaccepted + 1
  pub epaxos_score_rises : (p : ℕ) → increment (look_up shard.state.rounds.fast.epaxos_proposer_scores p) ≡ look_up shard.state.rounds.fast.epaxos_proposer_scores p + 1
  pub epaxos_score_falls : (p : ℕ) → p < 64 → look_up shard.state.rounds.fast.epaxos_proposer_scores p - 1 + 1 ≡ look_up shard.state.rounds.fast.epaxos_proposer_scores p
  pub swift_score_rises : (p : ℕ) → increment (look_up shard.state.rounds.fast.swift_proposer_scores p) ≡ look_up shard.state.rounds.fast.swift_proposer_scores p + 1
  pub count_rises : (r : OpenRead) → In r (open_reads shard.state.rounds.core.tracker shard.state.table) → increment r.ready_count ≡ r.ready_count + 1
  pub ids_end : shard.state.rounds.core.tracker.next_id ≤ 9223372036854775808

-- ---- process numbers of an admitted message: each has its place in the tables and sets, which have 64

abbrev pub PlaceOf : Option ℕ → Type 0
PlaceOf None = Unit {0}
PlaceOf (Some p) = p < 64

abbrev pub PlaceIn : ConsensusMsg → Type 0
PlaceIn (Prepare slot round rv) = (round.leader < 64) × ProposerFits rv
PlaceIn (Accept slot round v) = round.leader < 64
PlaceIn (ForwardRequest v) = Unit {0}
PlaceIn (Commit slot v) = Unit {0}
PlaceIn (ReadRequest id) = Unit {0}
PlaceIn (ReadResponse id next) = Unit {0}

pub record InTables (own : ℕ) (d : Delivery) : Type 0 where
  pub own_place : own < 64
  pub source_place : d.message.src < 64
  pub message_places : PlaceIn d.message.msg
  pub requester_place : PlaceOf d.said.requester
  pub held_requester_place : PlaceOf d.held_requester

module _ (n : ℕ) (few : n ≤ 64) where
  place_below : (p : ℕ) → ltb p n ≡ true → p < 64
  place_below p e = let l = ltb-true p n e in omega arith

  place_of : (p : Option ℕ) → requester_below n p ≡ true → PlaceOf p
  unfolding requester_below
  place_of None e = tt
  place_of (Some p) e = place_below p e

  place_in : (m : ConsensusMsg) → msg_processes n m ≡ true → PlaceIn m
  unfolding msg_processes
  place_in (Prepare slot round rv) e =
      (place_below round.leader (and_left (ltb round.leader n) (rv_processes n rv) e), proposer_below n few rv (and_right (ltb round.leader n) (rv_processes n rv) e))
  place_in (Accept slot round v) e = place_below round.leader e
  place_in (ForwardRequest v) e = tt
  place_in (Commit slot v) e = tt
  place_in (ReadRequest id) e = tt
  place_in (ReadResponse id next) e = tt

  in_tables : (own : ℕ) → own < n → (d : Delivery) → processes_fit n d ≡ true → InTables own d
  unfolding processes_fit
  in_tables own l d e =
      let p = source_below n d e in
      let first = and_left (ltb d.message.src n && msg_processes n d.message.msg && requester_below n d.said.requester) (requester_below n d.held_requester) e in
      record {
        own_place = omega arith;
        source_place = place_below d.message.src p.0;
        message_places = place_in d.message.msg p.1;
        requester_place = place_of d.said.requester (and_right (ltb d.message.src n && msg_processes n d.message.msg) (requester_below n d.said.requester) first);
        held_requester_place = place_of d.held_requester (and_right (ltb d.message.src n && msg_processes n d.message.msg && requester_below n d.said.requester) (requester_below n d.held_requester) e);
      }

-- ---- of each shard with what lasts

module _ (shard : Shard) (k : Lasts shard) where
  pub has_room : Room shard
  has_room =
      record {
        slot_rises = let h = k.slot_fits in increment_next shard.state.rounds.core.slot (omega arith);
        group_rises = group shard.state.rounds.core.paxos.round k.sets_fit.group_fits;
        preaccepted_rises = let h = f.few_preaccepted in let b = answers in increment_next fast.fast_preaccepted (omega arith);
        epaxos_score_rises = λ p. let h = f.epaxos_high p in let b = answers in increment_next (look_up fast.epaxos_proposer_scores p) (omega arith);
        epaxos_score_falls = λ p l. let h = f.epaxos_low p l in omega arith;
        swift_score_rises = λ p. let h = f.swift_high p in let b = answers in increment_next (look_up fast.swift_proposer_scores p) (omega arith);
        count_rises = count (open_reads shard.state.rounds.core.tracker shard.state.table) k.reads_fit.low_counts;
        ids_end = k.reads_fit.ids_fit;
      }
    where
      fast : FastState
      fast = shard.state.rounds.fast

      f : FastFits fast
      f = k.fast_fits

      answers : size fast.fast_answer_set ≤ 64
      answers = size_bound fast.fast_answer_set

      group : (r : Option PaxosRound) → GroupFits r → increment (unwrap_or_default r).round_group ≡ (unwrap_or_default r).round_group + 1
      group None g = increment_next 0 (omega arith)
      group (Some r) g = increment_next r.round_group (omega arith)

      count : (l : List OpenRead) → LowCounts l → (r : OpenRead) → In r l → increment r.ready_count ≡ r.ready_count + 1
      count [] low r m = absurd m
      count (x ∷ xs) low r (inl e) = subst (λ (y : OpenRead). increment y.ready_count ≡ y.ready_count + 1) (sym e) (increment_next x.ready_count (omega (arith, low.0)))
      count (x ∷ xs) low r (inr m) = count xs low.1 r m

  pub lies_in_tables : (d : Delivery) → shard.made ≡ Ok tt → admit shard.settings.process_count shard.settings.my_pid shard.state.rounds.core d ≡ Ok tt → InTables shard.settings.my_pid d
  lies_in_tables d made e =
      in_tables shard.settings.process_count (few_processes shard.settings (k.made_within made)) shard.settings.my_pid (own_below shard.settings (k.made_within made)) d
      (admitted_numbers shard.settings.process_count shard.settings.my_pid shard.state.rounds.core d e).1

-- ---- lists of calls, legal or not

-- the shards after the calls of a list, with a choice for each place in it
abbrev pub shards_after : ProposerChoices → (ℕ → Shard) → List MemberCall → ℕ → Shard
shards_after choices shards cs = shards_made (λ place. call_by_value (call_with (choices place))) shards cs

record RunLasts (s : Settings) (shards : ℕ → Shard) : Type 0 where
  lasting : (i : ℕ) → Lasts (shards i)
  settings_stay : (i : ℕ) → (shards i).settings ≡ member_settings s i

call_keeps : (choose : ProposerChoice) (s : Settings) (shards : ℕ → Shard) → RunLasts s shards → (c : MemberCall) → RunLasts s (after_call choose shards c)
call_keeps choose s shards k c =
    record {
      lasting = λ j. of-both Lasts (eqb j c.member) left.lasts (k.lasting j);
      settings_stay = λ j.
          by_test (λ (x : Shard). x.settings ≡ member_settings s j) (eqb j c.member) (call_with choose (shards c.member) c.call).shard (shards j)
          (λ t. subst (λ (i : ℕ). (call_with choose (shards c.member) c.call).shard.settings ≡ member_settings s i) (sym (eqb→eq j c.member t)) (settings_kept choose (shards c.member) c.call ∙ k.settings_stay c.member))
          (λ t. k.settings_stay j);
    }
  where
    left : CallLasts (shards c.member) (call_with choose (shards c.member) c.call)
    left = call_lasts choose (shards c.member) (k.lasting c.member) c.call

run_keeps : (choices : ProposerChoices) (s : Settings) (shards : ℕ → Shard) → RunLasts s shards → (cs : List MemberCall) → RunLasts s (shards_after choices shards cs)
unfolding shards_made
run_keeps choices s shards k [] = k
run_keeps choices s shards k (c ∷ cs) = run_keeps (later_choices choices) s (after_call (choices 0) shards c) (call_keeps (choices 0) s shards k c) cs

module _ (choices : ProposerChoices) (s : Settings) (cs : List MemberCall) (i : ℕ) where
  -- the shard of member i after the calls
  abbrev left : Shard
  left = shards_after choices (begun s) cs i

  abbrev core : Core
  core = left.state.rounds.core

  abbrev fast : FastState
  fast = left.state.rounds.fast

  run_lasts : RunLasts s (shards_after choices (begun s) cs)
  unfolding new_shard
  run_lasts = run_keeps choices s (begun s) (record { lasting = λ j. begun_lasts (member_settings s j); settings_stay = λ j. refl }) cs

  ok : Lasts left
  ok = run_lasts.lasting i

  same : left.settings ≡ member_settings s i
  same = run_lasts.settings_stay i

  -- In the classic modes the fast half is as new.
  pub fast_half_as_new : has_fast_path s.mode ≡ false → left.state.rounds.fast ≡ no_answers
  fast_half_as_new classic = ok.fast_as_new (ap (λ (x : Settings). has_fast_path x.mode) same ∙ classic)

  -- "A commit clears everything", in every mode.
  pub commit_clears : (choose : ProposerChoice) (c : Call) (slot v : ℕ) (mark : Bool) → (call_with choose left c).reply.commit ≡ committed_slot slot v mark → Cleared (call_with choose left c).shard
  commit_clears choose c slot v mark e = subst (λ (x : Option CommittedSlot). ClearedBy x (call_with choose left c).shard) e (call_lasts choose left ok c).cleared

  -- The open reads stand in id order, at most 128, each id above the one before it and all below the next one.
  pub reads_in_order : InOrder left.state.rounds.core.tracker left.state.table
  reads_in_order = ok.reads_fit.in_order

  -- "Served reads come in id order."
  pub served_in_order : (choose : ProposerChoice) (c : Call) → RisingIds 0 (served_ids (served_by_call (call_with choose left c))) left.state.rounds.core.tracker.next_id
  served_in_order choose c = (call_lasts choose left ok c).served_rising

  counted : StateFits (CountedIn s) (LeadsIn left.made) core.paxos
  counted = subst (λ (x : Settings). StateFits (CountedIn x) (LeadsIn left.made) core.paxos) same ok.sets_fit

  -- The prepared and accepted sets hold processes of the group, and live replicas alone where the mode is not SwiftPaxos.
  pub sets_hold_processes : (p : ℕ) → (contains left.state.rounds.core.paxos.prepared_set p ≡ true) ⊎ (contains left.state.rounds.core.paxos.accepted_set p ≡ true) → p < s.process_count
  sets_hold_processes p (inl e) = (counted.only_prepared p e).0
  sets_hold_processes p (inr e) = (counted.only_accepted p e).0

  pub sets_hold_live_replicas : is_swift_paxos s.mode ≡ false
      → Within left.state.rounds.core.paxos.prepared_set s.alive_replicas × Within left.state.rounds.core.paxos.accepted_set s.alive_replicas
  sets_hold_live_replicas e = (λ p m. (counted.only_prepared p m).1 e, λ p m. (counted.only_accepted p m).1 e)

  -- Promises are counted only while something is held: so a Prepare that finds nothing held finds none counted, as `paxos_propose_v` asserts.
  pub promises_while_held : is_some left.state.rounds.core.paxos.max_rv ≡ false → left.state.rounds.core.paxos.prepared_set ≡ 0
  promises_while_held e = none_counted core.paxos.max_rv (subst (λ (b : Bool). T (not b)) (sym e) tt) counted.prepared_held

  -- Accepts are counted only while something accepted is held: so the leader in SwiftPaxos and the delegate in EPaxos that find nothing accepted
  -- find none counted, as `self_accept` asserts.
  pub accepts_while_accepted : is_some (get_last_accepted_round left.state.rounds.core.paxos.max_rv) ≡ false → left.state.rounds.core.paxos.accepted_set ≡ 0
  accepts_while_accepted e = none_counted (get_last_accepted_round core.paxos.max_rv) (subst (λ (b : Bool). T (not b)) (sym e) tt) counted.accepted_held

  -- The numbers that calls add to or subtract from have room. That nothing that is handed back depends on a sum's end is `run_by_right` (crates/sums).
  pub sums_have_room : Room left
  sums_have_room = has_room left ok

  -- The own number and the processes that an admitted message names are below 64: each has its place in the tables.
  pub handled_in_tables : (d : Delivery) → left.made ≡ Ok tt → admit left.settings.process_count left.settings.my_pid core d ≡ Ok tt → InTables left.settings.my_pid d
  handled_in_tables = lies_in_tables left ok

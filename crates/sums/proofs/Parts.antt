-- Sums and look-ups that are the engine's where they are met make the parts of a call the engine's.
-- Assumes nothing.
use Rattle.std.specs.Prelude.{Option, None, Some, is_some, Result, Ok, Err, IfOk, set}
use mathlib.Core.Path.{◌≡◌, refl, ap, ap₂, ◌∙◌}
use mathlib.Core.Logic.{inl, inr}
use mathlib.Core.Bool.{Bool, true, false, cond, not, ◌&&◌, ◌||◌}
use mathlib.Core.List.{List, [], ◌∷◌}
use Prim.Native.Nat.{ℕ, zero, suc, ◌+◌, ◌-◌, ◌*◌, ◌/◌, ◌<◌, ◌≤◌, min, max}
use native.Mathlib.Omega.{arith}
use lib.Dec.{T, eqb, ltb, leb, nleb→lt, nltb→le}
use Rattle.basics.specs.Lists.{In}
use Rattle.basics.specs.sets.Sets.{contains, insert, size}
use Rattle.basics.specs.tables.Tables.{look_up, store}
use Rattle.message.specs.Modes.{has_fast_path, is_multi_paxos}
use Rattle.message.specs.Rounds.{increment, round_of, default_round, next_leader_round, starting_round, equal, unwrap_or_default}
use Rattle.message.specs.declared.ConsensusMsg.{ConsensusMsg}
use Rattle.message.specs.declared.ConsensusMsg.TheVariants.{Prepare, Accept, ForwardRequest, Commit, ReadRequest, ReadResponse}
use Rattle.message.specs.declared.PFMode.{PFMode}
use Rattle.message.specs.declared.PFMode.TheVariants.{Paxos, MultiPaxos, MultiPaxos3P, EPaxos, Pando, SwiftPaxos}
use Rattle.message.specs.declared.PaxosRound.{PaxosRound}
use Rattle.message.specs.declared.ReadId.{ReadId}
use Rattle.message.specs.declared.Refusal.{Refusal}
use Rattle.message.specs.declared.Refusal.TheVariants.{NoRoomForRead, Panic}
use Rattle.message.specs.declared.RoundV.{RoundV}
use Rattle.message.specs.declared.RoundV.TheVariants.{FastV, PaxosV}
use Rattle.quorum.specs.Quorum.{majority_of}
use Rattle.settings.specs.Questions.{is_live_replica, is_replica, delegate_in, committer_for, committer_in}
use Rattle.settings.specs.declared.Settings.{Settings}
use Rattle.round_state.specs.Paxos.{goto_round, full_clear}
use Rattle.round_state.specs.declared.Member.{Member}
use Rattle.fast_state.specs.Adopt.{best_below, lowest_best, adopted, value_in, score_in, better, epaxos_try_adopt, epaxos_try_adopt_after}
use Rattle.fast_state.proofs.Adopting.{best_below_lem}
use Rattle.fast_state.specs.Fast.{no_answers, to_v_after, epaxos_scores_after, swift_scores_after, preaccepted_after, second_answer, is_unanswered, score_after, epaxos_counted, epaxos_answered, epaxos_propose_v, leader_answer_after, in_quorum, swift_counted, swift_uncounted, swift_first, swift_answered, swift_own, swift_unanswered, swift_propose_v}
use Rattle.fast_state.specs.declared.Best.{Best}
use Rattle.fast_state.specs.declared.TableChange.{TableChange}
use Rattle.fast_state.specs.declared.TableChange.TheVariants.{SameEntries, Recorded, EPaxosScored, SwiftScored}
use Rattle.fast_state.specs.declared.FastAnswers.{FastAnswers}
use Rattle.fast_state.specs.declared.FastChange.{FastChange}
use Rattle.fast_state.specs.declared.FastState.{FastState}
use Rattle.read_tracker.specs.Reads.{read_id, new_read, open_reads, opening, open_next, insert_opened, insert_read, with_count, has_quorum, serve, after_response, after_commit}
use Rattle.read_tracker.specs.declared.Inserted.{Inserted}
use Rattle.read_tracker.specs.declared.OpenRead.{OpenRead}
use Rattle.read_tracker.specs.declared.ServedRead.{ServedRead}
use Rattle.read_tracker.specs.declared.ReadTracker.{ReadTracker}
use Rattle.read_tracker.specs.declared.ReadTable.{ReadTable}
use Rattle.read_tracker.specs.serving.Serving.{has_id, kept_by_ready, served_by_ready, kept_by_commit, served_by_commit, tracked, receive_ready, serve_at_commit}
use Rattle.steps.specs.Steps.{RoundsStep, change_rounds}
use Rattle.steps.specs.declared.Asked.{Asked}
use Rattle.steps.specs.declared.ChangeStep.{ChangeStep}
use Rattle.steps.specs.declared.Core.{Core}
use Rattle.steps.specs.declared.Heard.{Heard}
use Rattle.steps.specs.declared.Rounds.{Rounds}
use Rattle.steps.specs.enter.Enter.{can_propose}
use Rattle.propose.specs.proposal.Proposal.{electing, proposal_round, may_propose}
use Rattle.paxos_family.specs.Commit.{commit_slot}
use Rattle.calls.specs.declared.delivery.Delivery.{Delivery}
use Rattle.calls.specs.Asked.{asked_of, proposer_gathers, gatherer_in, heard_of}
use Rattle.sums.specs.Sums.{Sums}
use Rattle.sums.specs.Parts.{next_leader_round_by, starting_round_by, proposal_round_by, may_propose_by, delegate_in_by, committer_for_by, committer_in_by, asked_of_by, gatherer_in_by, heard_of_by, to_v_after_by, epaxos_scores_after_by, swift_scores_after_by, change_rounds_by, preaccepted_after_by, score_after_by, epaxos_counted_by, epaxos_answered_by, epaxos_propose_v_by, value_in_by, score_in_by, epaxos_try_adopt_after_by, swift_counted_by, swift_first_by, swift_answered_by, swift_own_by, swift_unanswered_by, swift_propose_v_by, opening_by, open_next_by, insert_opened_by, insert_read_by, after_response_by, after_commit_by, kept_by_ready_by, served_by_ready_by, kept_by_commit_by, served_by_commit_by, receive_ready_by, serve_at_commit_by, commit_slot_by}

-- ---- two results that are the same, of which what is not refused has a property

abbrev pub Same : {A : Type 0} → (A → Type 0) → Result A Refusal → Result A Refusal → Type 0
Same P x y = (x ≡ y) × IfOk y P

pub same_cond : {A : Type 0} (P : A → Type 0) (t : Bool) {x x' y y' : Result A Refusal} → Same P x x' → Same P y y' → Same P (cond t x y) (cond t x' y')
same_cond P true f g = f
same_cond P false f g = g

pub same_by_test : {A : Type 0} (P : A → Type 0) {s t : Bool} {x x' y y' : Result A Refusal} → s ≡ t → Same P x x' → Same P y y' → Same P (cond s x y) (cond t x' y')
same_by_test P {t = t} {x = x} {y = y} e f g = (ap (λ (b : Bool). cond b x y) e ∙ (same_cond P t f g).0, (same_cond P t f g).1)

-- ---- which processes are named

module _ (Named : ℕ → Type 0) where
  abbrev pub EachNamed : Option ℕ → Type 0
  EachNamed None = Unit {0}
  EachNamed (Some p) = Named p

  abbrev pub ProposerNamed : RoundV → Type 0
  ProposerNamed (FastV p v) = Named p
  ProposerNamed (PaxosV at v) = Unit {0}

  abbrev pub MessageNamed : ConsensusMsg → Type 0
  MessageNamed (Prepare slot round rv) = Named round.leader × ProposerNamed rv
  MessageNamed (Accept slot round v) = Named round.leader
  MessageNamed (ForwardRequest v) = Unit {0}
  MessageNamed (Commit slot v) = Unit {0}
  MessageNamed (ReadRequest id) = Unit {0}
  MessageNamed (ReadResponse id next) = Unit {0}

  abbrev pub EntryNamed : TableChange → Type 0
  EntryNamed SameEntries = Unit {0}
  EntryNamed (Recorded p v) = Named p
  EntryNamed (EPaxosScored p v score) = Named p
  EntryNamed (SwiftScored p v score) = Named p

  abbrev pub ChangeNamed : FastChange → Type 0
  ChangeNamed change = EntryNamed change.entry

-- ---- the best proposer, by scores that are the same below 64

best_same : (proposers : ℕ) (f g : ℕ → ℕ) (n : ℕ) → ((p : ℕ) → p < n → f p ≡ g p) → best_below proposers f n ≡ best_below proposers g n
unfolding best_below
best_same proposers f g zero e = refl
best_same proposers f g (suc n) e = ap₂ (λ (b : Best) (s : ℕ). better b (contains proposers n) s n) (best_same proposers f g n (λ p l. e p (omega arith))) (e n (omega arith))

adopted_same : (f g : ℕ → ℕ) (o : Option ℕ) → ((p : ℕ) → o ≡ Some p → f p ≡ g p) → adopted f o ≡ adopted g o
unfolding adopted
adopted_same f g None e = refl
adopted_same f g (Some p) e = ap (λ (v : ℕ). Ok (Some v)) (e p refl)

-- ---- where m must be the engine's

module _ (m : Sums) where
  abbrev pub Rises : ℕ → Type 0
  Rises n = m.one_more n ≡ increment n

  abbrev pub Falls : ℕ → Type 0
  Falls n = m.one_less n ≡ n - 1

  -- in the tables, for the processes that are named, and at the first group
  pub record Meets (Named : ℕ → Type 0) : Type 0 where
    pub below : (p : ℕ) → p < 64 → Named p
    pub looks_up : (table : List ℕ) (p : ℕ) → Named p → m.looked_up table p ≡ look_up table p
    pub stores : (table : List ℕ) (p n : ℕ) → Named p → m.stored table p n ≡ store table p n
    pub first_group : Rises 0
    pub adds_one : (n : ℕ) → n < 18446744073709551615 → m.one_more n ≡ n + 1
    pub places : (l : List OpenRead) (p : ℕ) (r : OpenRead) → p < 128 → m.placed l p r ≡ set l p r

  -- at the figures of the fast half
  pub record MeetsFast (Named : ℕ → Type 0) (answers : FastAnswers) (epaxos_scores swift_scores : List ℕ) : Type 0 where
    pub preaccepted_rises : Rises answers.fast_preaccepted
    pub epaxos_rises : (p : ℕ) → Named p → Rises (look_up epaxos_scores p)
    pub epaxos_falls : (p : ℕ) → Named p → Falls (look_up epaxos_scores p)
    pub swift_rises : (p : ℕ) → Named p → Rises (look_up swift_scores p)

  abbrev pub CountsRise : List OpenRead → Type 0
  CountsRise l = (r : OpenRead) → In r l → Rises r.ready_count

  -- at the slot and the open reads
  pub record MeetsCommit (table : ReadTable) (core : Core) : Type 0 where
    pub slot_rises : Rises core.slot
    pub counts_rise : CountsRise (open_reads core.tracker table)

  -- ---- reads

  response_same : (r : OpenRead) → Rises r.ready_count → after_response_by m r ≡ after_response r
  unfolding after_response_by after_response
  response_same r e = ap (λ (n : ℕ). with_count r n r.local_ready) e

  commit_same : (r : OpenRead) → Rises r.ready_count → after_commit_by m r ≡ after_commit r
  unfolding after_commit_by after_commit
  commit_same r e = ap (λ (n : ℕ). with_count r (cond r.local_ready r.ready_count n) true) e

  ready_kept_same : (id : ReadId) (quorum : ℕ) (l : List OpenRead) → CountsRise l → kept_by_ready_by m id quorum l ≡ kept_by_ready id quorum l
  unfolding kept_by_ready_by kept_by_ready
  ready_kept_same id quorum [] e = refl
  ready_kept_same id quorum (r ∷ rs) e =
      ap₂ (λ (x : OpenRead) (l : List OpenRead). cond (has_id id r) (cond (has_quorum quorum x) rs (x ∷ rs)) (r ∷ l))
      (response_same r (e r (inl refl))) (ready_kept_same id quorum rs (λ x i. e x (inr i)))

  ready_served_same : (id : ReadId) (quorum slot : ℕ) (fast : Bool) (l : List OpenRead) → CountsRise l → served_by_ready_by m id quorum slot fast l ≡ served_by_ready id quorum slot fast l
  unfolding served_by_ready_by served_by_ready
  ready_served_same id quorum slot fast [] e = refl
  ready_served_same id quorum slot fast (r ∷ rs) e =
      ap₂ (λ (x : OpenRead) (l : List ServedRead). cond (has_id id r) (cond (has_quorum quorum x) (serve slot fast x ∷ []) []) l)
      (response_same r (e r (inl refl))) (ready_served_same id quorum slot fast rs (λ x i. e x (inr i)))

  commit_kept_same : (quorum : ℕ) (l : List OpenRead) → CountsRise l → kept_by_commit_by m quorum l ≡ kept_by_commit quorum l
  unfolding kept_by_commit_by kept_by_commit
  commit_kept_same quorum [] e = refl
  commit_kept_same quorum (r ∷ rs) e =
      ap₂ (λ (x : OpenRead) (l : List OpenRead). cond (has_quorum quorum x) l (x ∷ l)) (commit_same r (e r (inl refl))) (commit_kept_same quorum rs (λ x i. e x (inr i)))

  commit_served_same : (quorum slot : ℕ) (l : List OpenRead) → CountsRise l → served_by_commit_by m quorum slot l ≡ served_by_commit quorum slot l
  unfolding served_by_commit_by served_by_commit
  commit_served_same quorum slot [] e = refl
  commit_served_same quorum slot (r ∷ rs) e =
      ap₂ (λ (x : OpenRead) (l : List ServedRead). cond (has_quorum quorum x) (serve slot false x ∷ l) l)
      (commit_same r (e r (inl refl))) (commit_served_same quorum slot rs (λ x i. e x (inr i)))

  module _ (tracker : ReadTracker) (table : ReadTable) (e : CountsRise (open_reads tracker table)) where
    pub ready_same : (id : ReadId) (quorum slot : ℕ) (fast : Bool) → receive_ready_by m tracker table id quorum slot fast ≡ receive_ready tracker table id quorum slot fast
    unfolding receive_ready_by receive_ready
    ready_same id quorum slot fast =
        ap₂ (tracked tracker table) (ready_kept_same id quorum (open_reads tracker table) e) (ready_served_same id quorum slot fast (open_reads tracker table) e)

    pub serve_same : (quorum slot : ℕ) → serve_at_commit_by m tracker table quorum slot ≡ serve_at_commit tracker table quorum slot
    unfolding serve_at_commit_by serve_at_commit
    serve_same quorum slot =
        ap₂ (tracked tracker table) (commit_kept_same quorum (open_reads tracker table) e) (commit_served_same quorum slot (open_reads tracker table) e)

  pub slot_same : (a : Asked) (v : ℕ) (s : Rounds) → Rises s.core.slot → commit_slot_by m a v s ≡ commit_slot a v s
  unfolding commit_slot_by commit_slot
  slot_same a v s e = ap (λ (n : ℕ). in_slot n) e
    where
      in_slot : ℕ → Rounds
      in_slot n = record { core = record { slot = n; last_v = Some v; slot_left_fast_path = s.core.slot_left_fast_path; paxos = full_clear (goto_round a.starting_round s.core.paxos); tracker = s.core.tracker }; fast = cond (has_fast_path a.mode) no_answers s.fast }

  -- ---- rounds

  round_same : (r : PaxosRound) (p : ℕ) → Rises r.round_group → next_leader_round_by m r p ≡ next_leader_round r p
  unfolding next_leader_round_by next_leader_round
  round_same r p e = ap (λ (n : ℕ). round_of (cond (leb r.leader p) r.round_group n) p) e

  module _ (a : Asked) (core : Core) (e : Rises (unwrap_or_default core.paxos.round).round_group) where
    pub proposal_same : proposal_round_by m a core ≡ proposal_round a core
    proposal_same = round_same (unwrap_or_default core.paxos.round) (electing a) e

    pub may_same : may_propose_by m a core ≡ may_propose a core
    unfolding may_propose_by may_propose
    may_same =
        ap (λ (r : PaxosRound). cond (is_some core.paxos.max_rv) false (can_propose a && equal core.paxos.round a.starting_round && (not (is_multi_paxos a.mode) || equal (Some r) a.starting_round)))
        proposal_same

  module _ (Named : ℕ → Type 0) (ok : Meets Named) where
    -- ---- a new read: where it is not refused, fewer than 128 are open, and the next id is 2^63-1 at most

    pub insert_read_same : (tracker : ReadTracker) (table : ReadTable) (tag arrival : ℕ) (local : Bool) → insert_read_by m tracker table tag arrival local ≡ insert_read tracker table tag arrival local
    unfolding insert_read_by insert_read open_next_by open_next
    insert_read_same tracker table tag arrival local =
        go (leb 128 tracker.open_count) (nleb→lt 128 tracker.open_count) (ltb 9223372036854775807 tracker.next_id) (nltb→le 9223372036854775807 tracker.next_id)
      where
        made : ℕ → ℕ → List OpenRead → Result Inserted Refusal
        made next count reads =
            Ok (record { tracker = record { next_id = next; open_count = count }; table = record { reads = reads; served = table.served }; id = read_id tracker.next_id })

        go : (full : Bool) → (T (not full) → tracker.open_count < 128) → (spent : Bool) → (T (not spent) → tracker.next_id ≤ 9223372036854775807)
            → insert_opened_by m tracker table (cond full (Err NoRoomForRead) (cond spent (Err NoRoomForRead) (Ok (opening_by m tracker tag arrival local))))
            ≡ insert_opened tracker table (cond full (Err NoRoomForRead) (cond spent (Err NoRoomForRead) (Ok (opening tracker tag arrival local))))
        go true below spent upto = refl
        go false below true upto = refl
        go false below false upto =
            let few = below tt in
            let next = upto tt in
            λ z. made (ok.adds_one tracker.next_id (omega arith) z) (ok.adds_one tracker.open_count (omega arith) z)
            (ok.places table.reads tracker.open_count (new_read (read_id tracker.next_id) tag arrival local) few z)

    pub start_same : (mode : PFMode) (l : ℕ) → starting_round_by m mode l ≡ starting_round mode l
    start_same Paxos l = refl
    start_same MultiPaxos l = ap (λ (r : PaxosRound). Some r) (round_same default_round l ok.first_group)
    start_same MultiPaxos3P l = ap (λ (r : PaxosRound). Some r) (round_same default_round l ok.first_group)
    start_same EPaxos l = refl
    start_same Pando l = refl
    start_same SwiftPaxos l = refl

    -- ---- what the handlers ask

    delegate_same : (table : List ℕ) (mode : PFMode) (l : ℕ) → Named l → delegate_in_by m table mode l ≡ delegate_in table mode l
    unfolding delegate_in_by delegate_in
    delegate_same table Paxos l n = refl
    delegate_same table MultiPaxos l n = refl
    delegate_same table MultiPaxos3P l n = refl
    delegate_same table EPaxos l n = refl
    delegate_same table Pando l n = ok.looks_up table l n
    delegate_same table SwiftPaxos l n = refl

    committer_for_same : (table : List ℕ) (p : Option ℕ) → EachNamed Named p → committer_for_by m table p ≡ committer_for table p
    unfolding committer_for_by committer_for
    committer_for_same table None n = refl
    committer_for_same table (Some p) n = ap (λ (q : ℕ). Some q) (ok.looks_up table p n)

    committer_same : (table : Option (List ℕ)) (mode : PFMode) (p : Option ℕ) → EachNamed Named p → committer_in_by m table mode p ≡ committer_in table mode p
    unfolding committer_in_by committer_in
    committer_same None mode p n = refl
    committer_same (Some table) mode p n = committer_for_same table p n

    gatherer_same : (own : ℕ) (mode : PFMode) (table : List ℕ) (msg : ConsensusMsg) → MessageNamed Named msg → gatherer_in_by m own mode table msg ≡ gatherer_in own mode table msg
    unfolding gatherer_in_by gatherer_in
    gatherer_same own mode table (Prepare slot round (FastV p v)) n = ap (λ (q : ℕ). cond (proposer_gathers own mode round) p q) (delegate_same table mode round.leader n.0)
    gatherer_same own mode table (Prepare slot round (PaxosV at v)) n = delegate_same table mode round.leader n.0
    gatherer_same own mode table (Accept slot round v) n = delegate_same table mode round.leader n
    gatherer_same own mode table (ForwardRequest v) n = refl
    gatherer_same own mode table (Commit slot v) n = refl
    gatherer_same own mode table (ReadRequest id) n = refl
    gatherer_same own mode table (ReadResponse id next) n = refl

    pub asked_same : (s : Settings) → Falls (3 * min s.replica_count 64) → asked_of_by m s ≡ asked_of s
    asked_same s e = ap₂ asked (start_same s.mode s.first_leader) e
      where
        n : ℕ
        n = min s.replica_count 64

        asked : Option PaxosRound → ℕ → Asked
        asked r x =
            record {
              member =
                  record {
                    my_pid = s.my_pid;
                    replica = is_replica s;
                    quorums = record { majority = majority_of n; epaxos = max (x / 4) (majority_of n); fast = max (x / 4 + 1) (majority_of n) };
                  };
              mode = s.mode;
              starting_round = r;
              first_leader = s.first_leader;
              quorum = s.quorum;
            }

    pub heard_same : (s : Settings) (d : Delivery) → MessageNamed Named d.message.msg → EachNamed Named d.said.requester → heard_of_by m s d ≡ heard_of s d
    heard_same s d n q = ap₂ heard (gatherer_same s.my_pid s.mode s.delegates d.message.msg n) (committer_same s.committers s.mode d.said.requester q)
      where
        heard : ℕ → Option ℕ → Heard
        heard g c = record { src = d.message.src; source_live = is_live_replica s d.message.src; delegate = g; requester = d.said.requester; committer = c; held_requester = d.held_requester }

    -- ---- the tables after a change

    values_same : (e : TableChange) (table : List ℕ) → EntryNamed Named e → to_v_after_by m e table ≡ to_v_after e table
    unfolding to_v_after_by to_v_after
    values_same SameEntries table n = refl
    values_same (Recorded p v) table n = ok.stores table p v n
    values_same (EPaxosScored p v score) table n = ok.stores table p v n
    values_same (SwiftScored p v score) table n = ok.stores table p v n

    epaxos_scores_same : (e : TableChange) (table : List ℕ) → EntryNamed Named e → epaxos_scores_after_by m e table ≡ epaxos_scores_after e table
    unfolding epaxos_scores_after_by epaxos_scores_after
    epaxos_scores_same SameEntries table n = refl
    epaxos_scores_same (Recorded p v) table n = refl
    epaxos_scores_same (EPaxosScored p v score) table n = ok.stores table p score n
    epaxos_scores_same (SwiftScored p v score) table n = refl

    swift_scores_same : (e : TableChange) (table : List ℕ) → EntryNamed Named e → swift_scores_after_by m e table ≡ swift_scores_after e table
    unfolding swift_scores_after_by swift_scores_after
    swift_scores_same SameEntries table n = refl
    swift_scores_same (Recorded p v) table n = refl
    swift_scores_same (EPaxosScored p v score) table n = refl
    swift_scores_same (SwiftScored p v score) table n = ok.stores table p score n

    pub change_same : (f : FastState) (step : ChangeStep) → ChangeNamed Named step.change → change_rounds_by m f step ≡ change_rounds f step
    change_same f step n = λ z. changed (values_same step.change.entry f.fast_proposer_to_v n z) (epaxos_scores_same step.change.entry f.epaxos_proposer_scores n z) (swift_scores_same step.change.entry f.swift_proposer_scores n z)
      where
        changed : List ℕ → List ℕ → List ℕ → RoundsStep
        changed values epaxos_scores swift_scores =
            record {
              state =
                  record {
                    core = step.core;
                    fast =
                        record {
                          fast_answer_set = step.change.answers.fast_answer_set;
                          fast_preaccepted = step.change.answers.fast_preaccepted;
                          fast_proposers = step.change.answers.fast_proposers;
                          fast_proposer_to_v = values;
                          epaxos_proposer_scores = epaxos_scores;
                          swift_proposer_scores = swift_scores;
                          swift_leader_answer = step.change.answers.swift_leader_answer;
                        };
                  };
              messages = step.messages;
              next = step.next;
            }

    -- ---- the value that is adopted

    value_same : (e : TableChange) (table : List ℕ) (p : ℕ) → Named p → value_in_by m e table p ≡ value_in e table p
    unfolding value_in_by value_in
    value_same SameEntries table p n = ok.looks_up table p n
    value_same (Recorded q v) table p n = ap (λ (x : ℕ). cond (eqb p q) v x) (ok.looks_up table p n)
    value_same (EPaxosScored q v score) table p n = ap (λ (x : ℕ). cond (eqb p q) v x) (ok.looks_up table p n)
    value_same (SwiftScored q v score) table p n = ap (λ (x : ℕ). cond (eqb p q) v x) (ok.looks_up table p n)

    score_at_same : (e : TableChange) (table : List ℕ) (p : ℕ) → Named p → score_in_by m e table p ≡ score_in e table p
    unfolding score_in_by score_in
    score_at_same SameEntries table p n = ok.looks_up table p n
    score_at_same (Recorded q v) table p n = ok.looks_up table p n
    score_at_same (EPaxosScored q v score) table p n = ap (λ (x : ℕ). cond (eqb p q) score x) (ok.looks_up table p n)
    score_at_same (SwiftScored q v score) table p n = ok.looks_up table p n

    pub try_adopt_same : (me : Member) (change : FastChange) (values scores : List ℕ)
        → epaxos_try_adopt_after_by m me change values scores ≡ epaxos_try_adopt_after lowest_best me change values scores
    unfolding epaxos_try_adopt
    try_adopt_same me change values scores =
        ap (λ (x : Result (Option ℕ) Refusal). cond (contains f.fast_proposers me.my_pid) (cond (ltb (size f.fast_answer_set) me.quorums.majority) (Ok None) (cond (ltb (size f.fast_proposers) 2) (Ok None) x)) (Err Panic))
        (ap (λ (b : Best). adopted (value_in_by m change.entry values) b.proposer) (best_same f.fast_proposers (score_in_by m change.entry scores) (score_in change.entry scores) 64 (λ p l. score_at_same change.entry scores p (ok.below p l)))
        ∙ adopted_same (value_in_by m change.entry values) (value_in change.entry values) (lowest_best f (score_in change.entry scores))
        (λ p e. value_same change.entry values p (ok.below p ((best_below_lem f.fast_proposers (score_in change.entry scores) 64).chosen p e).1)))
      where
        f : FastAnswers
        f = change.answers

    -- ---- an answer on the fast path

    module _ (me : Member) (own : Named me.my_pid) (answers : FastAnswers) (epaxos_scores swift_scores : List ℕ) (fast : MeetsFast Named answers epaxos_scores swift_scores) where
      preaccepted_same : (p : ℕ) → preaccepted_after_by m me p answers.fast_preaccepted ≡ preaccepted_after me p answers.fast_preaccepted
      unfolding preaccepted_after_by preaccepted_after
      preaccepted_same p = ap (λ (n : ℕ). cond (eqb p me.my_pid) n answers.fast_preaccepted) fast.preaccepted_rises

      score_same : (src p : ℕ) → Named p → score_after_by m src p (m.looked_up epaxos_scores p) ≡ score_after src p (look_up epaxos_scores p)
      unfolding score_after_by score_after
      score_same src p n =
          ap (λ (s : ℕ). cond (eqb src p) (m.one_less s) (m.one_more s)) (ok.looks_up epaxos_scores p n)
          ∙ ap₂ (λ (x y : ℕ). cond (eqb src p) x y) (fast.epaxos_falls p n) (fast.epaxos_rises p n)

      epaxos_counted_same : (src p v : ℕ) → Named p → epaxos_counted_by m me src p v answers epaxos_scores ≡ epaxos_counted me src p v answers epaxos_scores
      epaxos_counted_same src p v n = ap₂ counted (preaccepted_same p) (score_same src p n)
        where
          counted : ℕ → ℕ → FastChange
          counted preaccepted score =
              record {
                answers = record { fast_answer_set = insert answers.fast_answer_set src; fast_preaccepted = preaccepted; fast_proposers = insert answers.fast_proposers p; swift_leader_answer = answers.swift_leader_answer };
                entry = EPaxosScored p v score;
              }

      second_same : (src : ℕ) → Same (ChangeNamed Named) (second_answer me src answers) (second_answer me src answers)
      unfolding second_answer
      second_same src = same_cond (ChangeNamed Named) (eqb src me.my_pid) (refl, tt) (refl, tt)

      pub epaxos_answered_same : (src p v : ℕ) → Named p → Same (ChangeNamed Named) (epaxos_answered_by m me src p v answers epaxos_scores) (epaxos_answered me src p v answers epaxos_scores)
      unfolding epaxos_answered_by epaxos_answered
      epaxos_answered_same src p v n =
          same_cond (ChangeNamed Named) (contains answers.fast_answer_set src) (second_same src) (ap (λ (c : FastChange). Ok c) (epaxos_counted_same src p v n), n)

      pub epaxos_propose_same : (v : ℕ) → Same (ChangeNamed Named) (epaxos_propose_v_by m me v answers epaxos_scores) (epaxos_propose_v me v answers epaxos_scores)
      unfolding epaxos_propose_v_by epaxos_propose_v
      epaxos_propose_same v =
          same_by_test (ChangeNamed Named) (ap (λ (n : ℕ). is_unanswered answers && eqb n 2) (ok.looks_up epaxos_scores me.my_pid own))
          (epaxos_answered_same me.my_pid me.my_pid v own) (refl, tt)

      swift_counted_same : (src p v : ℕ) (leader : Bool) → Named p → swift_counted_by m me src p v leader answers swift_scores ≡ swift_counted me src p v leader answers swift_scores
      swift_counted_same src p v leader n = ap₂ counted (preaccepted_same p) (ap m.one_more (ok.looks_up swift_scores p n) ∙ fast.swift_rises p n)
        where
          counted : ℕ → ℕ → FastChange
          counted preaccepted score =
              record {
                answers = record { fast_answer_set = insert answers.fast_answer_set src; fast_preaccepted = preaccepted; fast_proposers = insert answers.fast_proposers p; swift_leader_answer = leader_answer_after leader v answers.swift_leader_answer };
                entry = SwiftScored p v score;
              }

      uncounted_same : (src p v : ℕ) (leader : Bool) → Named p → Same (ChangeNamed Named) (swift_uncounted src p v leader answers) (swift_uncounted src p v leader answers)
      unfolding swift_uncounted
      uncounted_same src p v leader n = same_cond (ChangeNamed Named) leader (refl, tt) (refl, n)

      pub swift_answered_same : (src p v : ℕ) (quorum : Option ℕ) (leader : Bool) → Named p
          → Same (ChangeNamed Named) (swift_answered_by m me src p v quorum leader answers swift_scores) (swift_answered me src p v quorum leader answers swift_scores)
      unfolding swift_answered_by swift_answered swift_first_by swift_first
      swift_answered_same src p v quorum leader n =
          same_cond (ChangeNamed Named) (contains answers.fast_answer_set src) (second_same src)
          (same_cond (ChangeNamed Named) (in_quorum quorum src) (ap (λ (c : FastChange). Ok c) (swift_counted_same src p v leader n), n) (uncounted_same src p v leader n))

      pub swift_propose_same : (v : ℕ) (quorum : Option ℕ) → Same (ChangeNamed Named) (swift_propose_v_by m me v quorum false answers swift_scores) (swift_propose_v me v quorum false answers swift_scores)
      unfolding swift_propose_v_by swift_propose_v swift_own_by swift_own swift_unanswered_by swift_unanswered
      swift_propose_same v quorum =
          same_by_test (ChangeNamed Named) (ap (λ (n : ℕ). not (is_some answers.swift_leader_answer) && (is_unanswered answers && eqb n 0)) (ok.looks_up swift_scores me.my_pid own))
          (same_cond (ChangeNamed Named) me.replica (swift_answered_same me.my_pid me.my_pid v quorum false own) (refl, tt)) (refl, tt)

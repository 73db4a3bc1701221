-- The definitions below the handlers that have a sum, a difference, a look-up or a store, with these as parameters. Each `name_by` is the definition `name`
-- of the engine: the crates message, quorum, settings, calls, fast_state, fast::epaxos, read_tracker, serving, proposal, paxos_family and steps have it.
-- Assumes nothing.
use Rattle.std.specs.Prelude.{Bool, true, false, cond, not, ◌&&◌, ◌||◌, List, [], ◌∷◌, ℕ, ◌+◌, ◌*◌, ◌/◌, min, max, eqb, ltb, leb, Option, None, Some, is_some, Result, Ok, Err}
use Rattle.basics.specs.sets.Sets.{contains, insert}
use Rattle.message.specs.Modes.{has_fast_path, is_multi_paxos, is_swift_paxos}
use Rattle.message.specs.Rounds.{round_of, default_round, equal, unwrap_or_default}
use Rattle.message.specs.declared.ConsensusMsg.{ConsensusMsg}
use Rattle.message.specs.declared.ConsensusMsg.TheVariants.{Prepare, Accept, ForwardRequest, Commit, ReadRequest, ReadResponse}
use Rattle.message.specs.declared.PFMode.{PFMode}
use Rattle.message.specs.declared.PFMode.TheVariants.{Paxos, MultiPaxos, MultiPaxos3P, EPaxos, Pando, SwiftPaxos}
use Rattle.message.specs.declared.PaxosRound.{PaxosRound}
use Rattle.message.specs.declared.ReadId.{ReadId}
use Rattle.message.specs.declared.Refusal.{Refusal}
use Rattle.message.specs.declared.Refusal.TheVariants.{NoRoomForRead, Panic}
use Rattle.message.specs.declared.RoundV.TheVariants.{FastV, PaxosV}
use Rattle.quorum.specs.Quorum.{majority_of}
use Rattle.quorum.specs.declared.QuorumRow.{QuorumRow}
use Rattle.settings.specs.Questions.{is_live_replica, is_replica}
use Rattle.settings.specs.declared.Settings.{Settings}
use Rattle.round_state.specs.Paxos.{goto_round, full_clear}
use Rattle.round_state.specs.declared.Member.{Member}
use Rattle.fast_state.specs.Adopt.{lowest_best, epaxos_try_adopt}
use Rattle.fast_state.specs.Fast.{no_answers, unchanged, second_answer, is_unanswered, leader_answer_after, in_quorum, swift_uncounted}
use Rattle.fast_state.specs.declared.TableChange.{TableChange}
use Rattle.fast_state.specs.declared.TableChange.TheVariants.{SameEntries, Recorded, EPaxosScored, SwiftScored}
use Rattle.fast_state.specs.declared.FastAnswers.{FastAnswers}
use Rattle.fast_state.specs.declared.FastChange.{FastChange}
use Rattle.fast_state.specs.declared.FastState.{FastState}
use Rattle.read_tracker.specs.Reads.{read_id, new_read, open_reads, with_count, has_quorum, serve}
use Rattle.read_tracker.specs.declared.Inserted.{Inserted}
use Rattle.read_tracker.specs.declared.OpenRead.{OpenRead}
use Rattle.read_tracker.specs.declared.Opening.{Opening}
use Rattle.read_tracker.specs.declared.ServedRead.{ServedRead}
use Rattle.read_tracker.specs.declared.ReadTracker.{ReadTracker}
use Rattle.read_tracker.specs.declared.ReadTable.{ReadTable}
use Rattle.read_tracker.specs.serving.Serving.{has_id, tracked}
use Rattle.read_tracker.specs.declared.serving.Tracked.{Tracked}
use Rattle.steps.specs.Steps.{RoundsStep}
use Rattle.steps.specs.declared.Asked.{Asked}
use Rattle.steps.specs.declared.ChangeStep.{ChangeStep}
use Rattle.steps.specs.declared.Core.{Core}
use Rattle.steps.specs.declared.Destination.TheVariants.{One}
use Rattle.steps.specs.declared.Heard.{Heard}
use Rattle.steps.specs.declared.Outgoing.{Outgoing}
use Rattle.steps.specs.declared.Rounds.{Rounds}
use Rattle.steps.specs.enter.Enter.{can_propose}
use Rattle.paxos_family.specs.Commit.{on_fast_path}
use Rattle.propose.specs.proposal.Proposal.{electing}
use Rattle.calls.specs.declared.delivery.Delivery.{Delivery}
use Rattle.calls.specs.Asked.{proposer_gathers, nothing_heard}
use Rattle.calls.specs.declared.Call.{Call}
use Rattle.calls.specs.declared.Call.TheVariants.{Propose, StartRead, Receive}
use Rattle.sums.specs.Sums.{Sums}

module _ (m : Sums) where
  -- ---- rounds

  unfoldable pub next_leader_round_by : PaxosRound → ℕ → PaxosRound
  next_leader_round_by r p = round_of (cond (leb r.leader p) r.round_group (m.one_more r.round_group)) p

  abbrev pub starting_round_by : PFMode → ℕ → Option PaxosRound
  starting_round_by Paxos leader = None
  starting_round_by MultiPaxos leader = Some (next_leader_round_by default_round leader)
  starting_round_by MultiPaxos3P leader = Some (next_leader_round_by default_round leader)
  starting_round_by EPaxos leader = None
  starting_round_by Pando leader = None
  starting_round_by SwiftPaxos leader = None

  abbrev pub proposal_round_by : Asked → Core → PaxosRound
  proposal_round_by a core = next_leader_round_by (unwrap_or_default core.paxos.round) (electing a)

  abbrev pub round_allowed_by : Asked → Core → Bool
  round_allowed_by a core = not (is_multi_paxos a.mode) || equal (Some (proposal_round_by a core)) a.starting_round

  unfoldable pub may_propose_by : Asked → Core → Bool
  may_propose_by a core =
      cond (is_some core.paxos.max_rv) false
      (can_propose a && equal core.paxos.round a.starting_round && round_allowed_by a core)

  -- ---- what the handlers ask

  abbrev pub epaxos_of_by : ℕ → ℕ
  epaxos_of_by n = max (m.one_less (3 * n) / 4) (majority_of n)

  abbrev pub fast_of_by : ℕ → ℕ
  fast_of_by n = max (m.one_less (3 * n) / 4 + 1) (majority_of n)

  abbrev pub row_of_by : ℕ → QuorumRow
  row_of_by n = record { majority = majority_of (min n 64); epaxos = epaxos_of_by (min n 64); fast = fast_of_by (min n 64) }

  unfoldable pub delegate_in_by : List ℕ → PFMode → ℕ → ℕ
  delegate_in_by delegates Paxos leader = leader
  delegate_in_by delegates MultiPaxos leader = leader
  delegate_in_by delegates MultiPaxos3P leader = leader
  delegate_in_by delegates EPaxos leader = leader
  delegate_in_by delegates Pando leader = m.looked_up delegates leader
  delegate_in_by delegates SwiftPaxos leader = leader

  unfoldable pub committer_for_by : List ℕ → Option ℕ → Option ℕ
  committer_for_by committers None = None
  committer_for_by committers (Some p) = Some (m.looked_up committers p)

  unfoldable pub committer_in_by : Option (List ℕ) → PFMode → Option ℕ → Option ℕ
  committer_in_by None mode requester = cond (is_swift_paxos mode) requester None
  committer_in_by (Some committers) mode requester = committer_for_by committers requester

  abbrev pub asked_of_by : Settings → Asked
  asked_of_by s =
      record {
        member = record { my_pid = s.my_pid; replica = is_replica s; quorums = row_of_by s.replica_count };
        mode = s.mode;
        starting_round = starting_round_by s.mode s.first_leader;
        first_leader = s.first_leader;
        quorum = s.quorum;
      }

  unfoldable pub gatherer_in_by : ℕ → PFMode → List ℕ → ConsensusMsg → ℕ
  gatherer_in_by own mode delegates (Prepare slot round (FastV proposer v)) =
      cond (proposer_gathers own mode round) proposer (delegate_in_by delegates mode round.leader)
  gatherer_in_by own mode delegates (Prepare slot round (PaxosV at v)) = delegate_in_by delegates mode round.leader
  gatherer_in_by own mode delegates (Accept slot round v) = delegate_in_by delegates mode round.leader
  gatherer_in_by own mode delegates (ForwardRequest v) = 0
  gatherer_in_by own mode delegates (Commit slot v) = 0
  gatherer_in_by own mode delegates (ReadRequest id) = 0
  gatherer_in_by own mode delegates (ReadResponse id next) = 0

  abbrev pub heard_of_by : Settings → Delivery → Heard
  heard_of_by s d =
      record {
        src = d.message.src;
        source_live = is_live_replica s d.message.src;
        delegate = gatherer_in_by s.my_pid s.mode s.delegates d.message.msg;
        requester = d.said.requester;
        committer = committer_in_by s.committers s.mode d.said.requester;
        held_requester = d.held_requester;
      }

  abbrev pub heard_in_by : Settings → Call → Heard
  heard_in_by s (Propose v) = nothing_heard
  heard_in_by s (StartRead tag arrival) = nothing_heard
  heard_in_by s (Receive d) = heard_of_by s d

  -- ---- the fast half

  unfoldable pub to_v_after_by : TableChange → List ℕ → List ℕ
  to_v_after_by SameEntries table = table
  to_v_after_by (Recorded proposer v) table = m.stored table proposer v
  to_v_after_by (EPaxosScored proposer v score) table = m.stored table proposer v
  to_v_after_by (SwiftScored proposer v score) table = m.stored table proposer v

  unfoldable pub epaxos_scores_after_by : TableChange → List ℕ → List ℕ
  epaxos_scores_after_by SameEntries table = table
  epaxos_scores_after_by (Recorded proposer v) table = table
  epaxos_scores_after_by (EPaxosScored proposer v score) table = m.stored table proposer score
  epaxos_scores_after_by (SwiftScored proposer v score) table = table

  unfoldable pub swift_scores_after_by : TableChange → List ℕ → List ℕ
  swift_scores_after_by SameEntries table = table
  swift_scores_after_by (Recorded proposer v) table = table
  swift_scores_after_by (EPaxosScored proposer v score) table = table
  swift_scores_after_by (SwiftScored proposer v score) table = m.stored table proposer score

  abbrev pub changed_by : FastChange → FastState → FastState
  changed_by change f =
      record {
        fast_answer_set = change.answers.fast_answer_set;
        fast_preaccepted = change.answers.fast_preaccepted;
        fast_proposers = change.answers.fast_proposers;
        fast_proposer_to_v = to_v_after_by change.entry f.fast_proposer_to_v;
        epaxos_proposer_scores = epaxos_scores_after_by change.entry f.epaxos_proposer_scores;
        swift_proposer_scores = swift_scores_after_by change.entry f.swift_proposer_scores;
        swift_leader_answer = change.answers.swift_leader_answer;
      }

  abbrev pub change_rounds_by : FastState → ChangeStep → RoundsStep
  change_rounds_by fast step =
      record { state = record { core = step.core; fast = changed_by step.change fast }; messages = step.messages; next = step.next }

  unfoldable pub preaccepted_after_by : Member → ℕ → ℕ → ℕ
  preaccepted_after_by me proposer n = cond (eqb proposer me.my_pid) (m.one_more n) n

  unfoldable pub score_after_by : ℕ → ℕ → ℕ → ℕ
  score_after_by src proposer score = cond (eqb src proposer) (m.one_less score) (m.one_more score)

  abbrev pub epaxos_counted_by : Member → ℕ → ℕ → ℕ → FastAnswers → List ℕ → FastChange
  epaxos_counted_by me src proposer v f scores =
      record {
        answers =
            record {
              fast_answer_set = insert f.fast_answer_set src;
              fast_preaccepted = preaccepted_after_by me proposer f.fast_preaccepted;
              fast_proposers = insert f.fast_proposers proposer;
              swift_leader_answer = f.swift_leader_answer;
            };
        entry = EPaxosScored proposer v (score_after_by src proposer (m.looked_up scores proposer));
      }

  unfoldable pub epaxos_answered_by : Member → ℕ → ℕ → ℕ → FastAnswers → List ℕ → Result FastChange Refusal
  epaxos_answered_by me src proposer v f scores =
      cond (contains f.fast_answer_set src) (second_answer me src f) (Ok (epaxos_counted_by me src proposer v f scores))

  unfoldable pub epaxos_propose_v_by : Member → ℕ → FastAnswers → List ℕ → Result FastChange Refusal
  epaxos_propose_v_by me v f scores =
      cond (is_unanswered f && eqb (m.looked_up scores me.my_pid) 2) (epaxos_answered_by me me.my_pid me.my_pid v f scores) (Err Panic)

  unfoldable pub value_in_by : TableChange → List ℕ → ℕ → ℕ
  value_in_by SameEntries table p = m.looked_up table p
  value_in_by (Recorded proposer v) table p = cond (eqb p proposer) v (m.looked_up table p)
  value_in_by (EPaxosScored proposer v score) table p = cond (eqb p proposer) v (m.looked_up table p)
  value_in_by (SwiftScored proposer v score) table p = cond (eqb p proposer) v (m.looked_up table p)

  unfoldable pub score_in_by : TableChange → List ℕ → ℕ → ℕ
  score_in_by SameEntries table p = m.looked_up table p
  score_in_by (Recorded proposer v) table p = m.looked_up table p
  score_in_by (EPaxosScored proposer v score) table p = cond (eqb p proposer) score (m.looked_up table p)
  score_in_by (SwiftScored proposer v score) table p = m.looked_up table p

  -- at our choice among the best proposers
  abbrev pub epaxos_try_adopt_after_by : Member → FastChange → List ℕ → List ℕ → Result (Option ℕ) Refusal
  epaxos_try_adopt_after_by me change values scores =
      epaxos_try_adopt lowest_best me change.answers (value_in_by change.entry values) (score_in_by change.entry scores)

  abbrev pub swift_counted_by : Member → ℕ → ℕ → ℕ → Bool → FastAnswers → List ℕ → FastChange
  swift_counted_by me src proposer v leader f scores =
      record {
        answers =
            record {
              fast_answer_set = insert f.fast_answer_set src;
              fast_preaccepted = preaccepted_after_by me proposer f.fast_preaccepted;
              fast_proposers = insert f.fast_proposers proposer;
              swift_leader_answer = leader_answer_after leader v f.swift_leader_answer;
            };
        entry = SwiftScored proposer v (m.one_more (m.looked_up scores proposer));
      }

  unfoldable pub swift_first_by : Member → ℕ → ℕ → ℕ → Option ℕ → Bool → FastAnswers → List ℕ → Result FastChange Refusal
  swift_first_by me src proposer v quorum leader f scores =
      cond (in_quorum quorum src) (Ok (swift_counted_by me src proposer v leader f scores)) (swift_uncounted src proposer v leader f)

  unfoldable pub swift_answered_by : Member → ℕ → ℕ → ℕ → Option ℕ → Bool → FastAnswers → List ℕ → Result FastChange Refusal
  swift_answered_by me src proposer v quorum leader f scores =
      cond (contains f.fast_answer_set src) (second_answer me src f) (swift_first_by me src proposer v quorum leader f scores)

  unfoldable pub swift_own_by : Member → ℕ → Option ℕ → Bool → FastAnswers → List ℕ → Result FastChange Refusal
  swift_own_by me v quorum leader f scores =
      cond me.replica (swift_answered_by me me.my_pid me.my_pid v quorum leader f scores) (Ok (unchanged f))

  unfoldable pub swift_unanswered_by : Member → FastAnswers → List ℕ → Bool
  swift_unanswered_by me f scores = not (is_some f.swift_leader_answer) && (is_unanswered f && eqb (m.looked_up scores me.my_pid) 0)

  unfoldable pub swift_propose_v_by : Member → ℕ → Option ℕ → Bool → FastAnswers → List ℕ → Result FastChange Refusal
  swift_propose_v_by me v quorum leader f scores =
      cond (swift_unanswered_by me f scores) (swift_own_by me v quorum leader f scores) (Err Panic)

  -- ---- reads

  abbrev pub opening_by : ReadTracker → ℕ → ℕ → Bool → Opening
  opening_by tracker tag arrival local =
      record {
        read = new_read (read_id tracker.next_id) tag arrival local;
        tracker = record { next_id = m.one_more tracker.next_id; open_count = m.one_more tracker.open_count };
      }

  unfoldable pub open_next_by : ReadTracker → ℕ → ℕ → Bool → Result Opening Refusal
  open_next_by tracker tag arrival local =
      cond (leb 128 tracker.open_count) (Err NoRoomForRead)
      (cond (ltb 9223372036854775807 tracker.next_id) (Err NoRoomForRead) (Ok (opening_by tracker tag arrival local)))

  abbrev pub inserted_by : ReadTracker → ReadTable → Opening → Inserted
  inserted_by tracker table o =
      record {
        tracker = o.tracker;
        table = record { reads = m.placed table.reads tracker.open_count o.read; served = table.served };
        id = o.read.id;
      }

  abbrev pub insert_opened_by : ReadTracker → ReadTable → Result Opening Refusal → Result Inserted Refusal
  insert_opened_by tracker table (Ok o) = Ok (inserted_by tracker table o)
  insert_opened_by tracker table (Err why) = Err why

  -- `insert_read` of read_tracker
  unfoldable pub insert_read_by : ReadTracker → ReadTable → ℕ → ℕ → Bool → Result Inserted Refusal
  insert_read_by tracker table tag arrival local = insert_opened_by tracker table (open_next_by tracker tag arrival local)

  unfoldable pub after_response_by : OpenRead → OpenRead
  after_response_by r = with_count r (m.one_more r.ready_count) r.local_ready

  unfoldable pub after_commit_by : OpenRead → OpenRead
  after_commit_by r = with_count r (cond r.local_ready r.ready_count (m.one_more r.ready_count)) true

  unfoldable pub kept_by_ready_by : ReadId → ℕ → List OpenRead → List OpenRead
  kept_by_ready_by id quorum [] = []
  kept_by_ready_by id quorum (r ∷ rs) =
      cond (has_id id r) (cond (has_quorum quorum (after_response_by r)) rs (after_response_by r ∷ rs)) (r ∷ kept_by_ready_by id quorum rs)

  unfoldable pub served_by_ready_by : ReadId → ℕ → ℕ → Bool → List OpenRead → List ServedRead
  served_by_ready_by id quorum slot fast [] = []
  served_by_ready_by id quorum slot fast (r ∷ rs) =
      cond (has_id id r) (cond (has_quorum quorum (after_response_by r)) (serve slot fast (after_response_by r) ∷ []) []) (served_by_ready_by id quorum slot fast rs)

  unfoldable pub kept_by_commit_by : ℕ → List OpenRead → List OpenRead
  kept_by_commit_by quorum [] = []
  kept_by_commit_by quorum (r ∷ rs) =
      cond (has_quorum quorum (after_commit_by r)) (kept_by_commit_by quorum rs) (after_commit_by r ∷ kept_by_commit_by quorum rs)

  unfoldable pub served_by_commit_by : ℕ → ℕ → List OpenRead → List ServedRead
  served_by_commit_by quorum slot [] = []
  served_by_commit_by quorum slot (r ∷ rs) =
      cond (has_quorum quorum (after_commit_by r)) (serve slot false (after_commit_by r) ∷ served_by_commit_by quorum slot rs) (served_by_commit_by quorum slot rs)

  unfoldable pub receive_ready_by : ReadTracker → ReadTable → ReadId → ℕ → ℕ → Bool → Tracked
  receive_ready_by tracker table id quorum slot fast =
      tracked tracker table (kept_by_ready_by id quorum (open_reads tracker table)) (served_by_ready_by id quorum slot fast (open_reads tracker table))

  -- `serve_at_commit` of read_tracker::serving
  unfoldable pub serve_at_commit_by : ReadTracker → ReadTable → ℕ → ℕ → Tracked
  serve_at_commit_by tracker table quorum slot =
      tracked tracker table (kept_by_commit_by quorum (open_reads tracker table)) (served_by_commit_by quorum slot (open_reads tracker table))

  abbrev pub next_readable_by : Core → ℕ
  next_readable_by core = cond (is_some core.paxos.max_rv) (m.one_more core.slot) core.slot

  abbrev pub read_answer_by : ℕ → ℕ → ReadId → Core → Outgoing
  read_answer_by own src id core =
      record { destination = One src; message = record { msg = ReadResponse id (next_readable_by core); src = own; last_v = None } }

  -- ---- the commit of a slot

  abbrev pub commit_core_by : Asked → ℕ → Core → Core
  commit_core_by a v core =
      record {
        slot = m.one_more core.slot;
        last_v = Some v;
        slot_left_fast_path = core.slot_left_fast_path;
        paxos = full_clear (goto_round a.starting_round core.paxos);
        tracker = core.tracker;
      }

  unfoldable pub commit_slot_by : Asked → ℕ → Rounds → Rounds
  commit_slot_by a v s = record { core = commit_core_by a v s.core; fast = cond (has_fast_path a.mode) no_answers s.fast }

  abbrev pub next_slot_by : Asked → ℕ → Rounds → Rounds
  next_slot_by a v s = record { core = on_fast_path (commit_slot_by a v s).core; fast = (commit_slot_by a v s).fast }

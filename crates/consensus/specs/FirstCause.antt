-- Which number a call gives: for each kind of call the causes of document 01's table ("Message and answer"), in the order of its Order line. The call
-- gives the number of the first cause that holds, and is taken where none does: `by_first_cause` (proofs/Refusals.antt). This page says what the causes are,
-- by the settings, what stands in the shard, and the call; no step of the engine is run. It cites what the panics' page cites (Panics.antt), the rows of the
-- quorums (`row_of`), a table's entry for a process (`look_up`), `fits` (all members of a set are below a count), `round_of`, the numbers of refusals
-- (`refusal_number`), `answers_of` (the fast half without its tables), and for what is claimed `new_shard`, `call_of` and `call_with`.
-- Assumes nothing.
use Rattle.std.specs.Prelude.{◌≡◌, ◌⊎◌, Bool, true, false, cond, not, ◌&&◌, ◌||◌, List, [], ◌∷◌, ℕ, zero, suc, min, eqb, leb, ltb, get_or, Option, None, Some, Ok, Err, is_some}
use Rattle.message.specs.Outcomes.{Outcome}
use Rattle.basics.specs.sets.Sets.{contains, size, is_empty, fits}
use Rattle.basics.specs.tables.Tables.{look_up}
use Rattle.message.specs.Refusals.{refusal_number}
use Rattle.message.specs.Rounds.{before, equal, round_of}
use Rattle.message.specs.declared.ConsensusMsg.{ConsensusMsg}
use Rattle.message.specs.declared.ConsensusMsg.TheVariants.{Prepare, Accept, ForwardRequest, Commit, ReadRequest, ReadResponse}
use Rattle.message.specs.declared.PFMode.{PFMode}
use Rattle.message.specs.declared.PFMode.TheVariants.{Paxos, MultiPaxos, MultiPaxos3P, EPaxos, Pando, SwiftPaxos}
use Rattle.message.specs.declared.PaxosRound.{PaxosRound}
use Rattle.message.specs.declared.Refusal.{Refusal}
use Rattle.message.specs.declared.Refusal.TheVariants.{SettingsOutsideLimits, NumberTooLarge}
use Rattle.message.specs.declared.RoundV.{RoundV}
use Rattle.message.specs.declared.RoundV.TheVariants.{FastV, PaxosV}
use Rattle.quorum.specs.Quorum.{row_of}
use Rattle.fast_state.specs.Adopt.{ProposerChoice}
use Rattle.fast_state.specs.Fast.{answers_of}
use Rattle.fast_state.specs.declared.FastState.{FastState}
use Rattle.settings.specs.declared.Settings.{Settings}
use Rattle.steps.specs.declared.Rounds.{Rounds}
use Rattle.calls.specs.declared.delivery.Delivery.{Delivery}
use Rattle.calls.specs.declared.Call.{Call}
use Rattle.calls.specs.declared.Call.TheVariants.{Propose, StartRead, Receive}
use Rattle.consensus.specs.Call.{new_shard, call_of}
use Rattle.consensus.specs.Panics.{Facts, nothing_held, prepare_panics, accept_panics}
use Rattle.consensus.specs.Rows.{Row, gives, then, NoneHolds, FirstHolds, first_of}
use Rattle.consensus.specs.declared.Answer.{Answer}
use Rattle.consensus.specs.declared.Shard.{Shard}

-- "the number alone" is returned, and the shard is left as it was: no message, no commit, no read served
abbrev pub number_alone : Refusal → Shard → Answer
number_alone why shard =
    record {
      shard = shard;
      reply =
          record {
            outcome = Err why;
            messages = record { first = None; second = None; third = None };
            commit = None;
            served_count = 0;
          };
    }

-- the number of what became of a call: 0 where it is done
abbrev pub number_of_outcome : Outcome → ℕ
number_of_outcome (Ok tt) = 0
number_of_outcome (Err why) = refusal_number why

-- ---- 2 and 3: the numbers that a call names

-- some number of the list is above the limit; some number is not below the count
unfoldable pub any_above : ℕ → List ℕ → Bool
any_above limit [] = false
any_above limit (n ∷ ns) = ltb limit n || any_above limit ns

unfoldable pub any_from : ℕ → List ℕ → Bool
any_from count [] = false
any_from count (n ∷ ns) = leb count n || any_from count ns

-- "slot above 2^63−2, or other number above 2^63−1"
abbrev pub numbers_too_large : List ℕ → List ℕ → Bool
numbers_too_large slots others = any_above 9223372036854775806 slots || any_above 9223372036854775807 others

-- what is optional, as a list
abbrev pub given_number : Option ℕ → List ℕ
given_number None = []
given_number (Some n) = n ∷ []

-- the slots of a message. "A ReadResponse's slot field may be 2^63−1": it stands among the other numbers
abbrev pub message_slots : ConsensusMsg → List ℕ
message_slots (Prepare slot round rv) = slot ∷ []
message_slots (Accept slot round v) = slot ∷ []
message_slots (ForwardRequest v) = []
message_slots (Commit slot v) = slot ∷ []
message_slots (ReadRequest id) = []
message_slots (ReadResponse id next) = []

-- its process numbers: the leader of its round, the leader of the accept round, the proposer
abbrev pub promise_processes : RoundV → List ℕ
promise_processes (FastV proposer v) = proposer ∷ []
promise_processes (PaxosV None v) = []
promise_processes (PaxosV (Some round) v) = round.leader ∷ []

abbrev pub message_processes : ConsensusMsg → List ℕ
message_processes (Prepare slot round rv) = round.leader ∷ promise_processes rv
message_processes (Accept slot round v) = round.leader ∷ []
message_processes (ForwardRequest v) = []
message_processes (Commit slot v) = []
message_processes (ReadRequest id) = []
message_processes (ReadResponse id next) = []

-- its other numbers: groups of rounds, values, ids
abbrev pub promise_numbers : RoundV → List ℕ
promise_numbers (FastV proposer v) = v ∷ []
promise_numbers (PaxosV None v) = v ∷ []
promise_numbers (PaxosV (Some round) v) = round.round_group ∷ v ∷ []

abbrev pub other_numbers : ConsensusMsg → List ℕ
other_numbers (Prepare slot round rv) = round.round_group ∷ promise_numbers rv
other_numbers (Accept slot round v) = round.round_group ∷ v ∷ []
other_numbers (ForwardRequest v) = v ∷ []
other_numbers (Commit slot v) = v ∷ []
other_numbers (ReadRequest id) = id.0 ∷ []
other_numbers (ReadResponse id next) = id.0 ∷ next ∷ []

unfoldable pub appended : List ℕ → List ℕ → List ℕ
appended [] ns = ns
appended (m ∷ ms) ns = m ∷ appended ms ns

-- the process numbers of a message with what the host adds: its source and both requesters as well
abbrev pub all_processes : Delivery → List ℕ
all_processes d = d.message.src ∷ appended (message_processes d.message.msg) (appended (given_number d.said.requester) (given_number d.held_requester))

-- all its numbers but for the slot: with its last value
abbrev pub all_numbers : Delivery → List ℕ
all_numbers d = appended (all_processes d) (appended (other_numbers d.message.msg) (given_number d.message.last_v))

-- ---- 5, 4 and the first 6: the slot that a message names

-- "slot ahead of own"
abbrev pub ahead_of : ℕ → ConsensusMsg → Bool
ahead_of own (Prepare slot round rv) = ltb own slot
ahead_of own (Accept slot round v) = ltb own slot
ahead_of own (ForwardRequest v) = false
ahead_of own (Commit slot v) = ltb own slot
ahead_of own (ReadRequest id) = false
ahead_of own (ReadResponse id next) = ltb own next

abbrev pub of_slot : ℕ → ConsensusMsg → Bool
of_slot own (Prepare slot round rv) = eqb slot own
of_slot own (Accept slot round v) = eqb slot own
of_slot own (ForwardRequest v) = false
of_slot own (Commit slot v) = eqb slot own
of_slot own (ReadRequest id) = false
of_slot own (ReadResponse id next) = eqb next own

-- "last value given and different"
abbrev pub given_and_different : Option ℕ → Option ℕ → Bool
given_and_different None own = false
given_and_different (Some v) None = true
given_and_different (Some v) (Some w) = not (eqb v w)

-- "`ready_to_process` waits": for the value of a Commit, and of a Prepare or an Accept of a round that oneself leads
abbrev pub waits_for_value : ℕ → ConsensusMsg → Bool
waits_for_value own (Prepare slot round rv) = eqb round.leader own
waits_for_value own (Accept slot round v) = eqb round.leader own
waits_for_value own (ForwardRequest v) = false
waits_for_value own (Commit slot v) = true
waits_for_value own (ReadRequest id) = false
waits_for_value own (ReadResponse id next) = false

-- ---- Prepare and Accept: who takes part, and what is known

-- "A process is a replica, wherever these papers say so, if it is in the live set."
abbrev pub is_live : Settings → ℕ → Bool
is_live s p = contains s.alive_replicas p

abbrev pub swift_paxos_mode : PFMode → Bool
swift_paxos_mode Paxos = false
swift_paxos_mode MultiPaxos = false
swift_paxos_mode MultiPaxos3P = false
swift_paxos_mode EPaxos = false
swift_paxos_mode Pando = false
swift_paxos_mode SwiftPaxos = true

-- can_propose: a replica, and in SwiftPaxos every process
abbrev pub may_take_part : Settings → Bool
may_take_part s = is_live s s.my_pid || swift_paxos_mode s.mode

-- "a non-replica (not SwiftPaxos) does nothing; older ones do nothing": of an older slot or round
abbrev pub is_ignored : Settings → Rounds → ℕ → PaxosRound → Bool
is_ignored s rounds slot round = not (may_take_part s) || ltb slot rounds.core.slot || before (Some round) rounds.core.paxos.round

-- "The delegate is the Rust's `delegate_or_leader`: in Pando the leader's delegate, for a FastV Prepare in SwiftPaxos its proposer unless oneself is the
-- leader, and else the leader."
abbrev pub leader_delegate : Settings → PFMode → ℕ → ℕ
leader_delegate s Paxos leader = leader
leader_delegate s MultiPaxos leader = leader
leader_delegate s MultiPaxos3P leader = leader
leader_delegate s EPaxos leader = leader
leader_delegate s Pando leader = look_up s.delegates leader
leader_delegate s SwiftPaxos leader = leader

abbrev pub promise_delegate : Settings → ℕ → RoundV → ℕ
promise_delegate s leader (FastV proposer v) = cond (swift_paxos_mode s.mode && not (eqb leader s.my_pid)) proposer (leader_delegate s s.mode leader)
promise_delegate s leader (PaxosV at v) = leader_delegate s s.mode leader

-- get_committer: "optional committer per process", by the value's requester; in SwiftPaxos without committers the requester itself
abbrev pub table_committer : List ℕ → Option ℕ → Option ℕ
table_committer table None = None
table_committer table (Some p) = Some (look_up table p)

abbrev pub committer_by_table : Option (List ℕ) → PFMode → Option ℕ → Option ℕ
committer_by_table None mode requester = cond (swift_paxos_mode mode) requester None
committer_by_table (Some table) mode requester = table_committer table requester

abbrev pub value_committer : Settings → Option ℕ → Option ℕ
value_committer s requester = committer_by_table s.committers s.mode requester

-- it is oneself; where there is none it is nobody
abbrev pub is_oneself : Option ℕ → ℕ → Bool
is_oneself None own = false
is_oneself (Some p) own = eqb p own

-- who is counted in the round of a message: "A new round clears both sets"
abbrev pub counted_in : Rounds → PaxosRound → ℕ → ℕ
counted_in rounds round set = cond (before rounds.core.paxos.round (Some round)) 0 set

abbrev pub facts_of : Settings → Rounds → Delivery → PaxosRound → ℕ → Facts
facts_of s rounds d round delegate =
    record {
      own = s.my_pid;
      replica = is_live s s.my_pid;
      source = d.message.src;
      round = round;
      delegate = delegate;
      committer = is_oneself (value_committer s d.said.requester) s.my_pid;
      value_held = d.said.value_held;
      quorums = row_of s.replica_count;
      fixed = s.quorum;
      held = rounds.core.paxos.max_rv;
      promises = counted_in rounds round rounds.core.paxos.prepared_set;
      accepts = counted_in rounds round rounds.core.paxos.accepted_set;
      answers = answers_of rounds.fast;
      scores = λ p. look_up rounds.fast.epaxos_proposer_scores p;
    }

-- "source not a live replica (not SwiftPaxos)"
abbrev pub source_not_live : Settings → ℕ → Bool
source_not_live s source = not (is_live s source) && not (swift_paxos_mode s.mode)

-- ---- the causes of each kind of call

-- "settings outside the limits above", where a shard is made with them: "Processes 1 to 64; replica count 1 to processes"; "the live set has no more members than
-- the replica count, and every process number and set member in the settings is below the process count", of what the mode has
-- of a table, the number of some process below the count is not below it; a table has 64 places
unfoldable pub some_outside : List ℕ → ℕ → ℕ → Bool
some_outside table count zero = false
some_outside table count (suc p) = some_outside table count p || leb count (get_or table p 0)

abbrev pub table_outside : List ℕ → ℕ → Bool
table_outside table count = some_outside table count (min count 64)

abbrev pub committers_outside : Option (List ℕ) → ℕ → Bool
committers_outside None count = false
committers_outside (Some table) count = table_outside table count

abbrev pub quorum_outside : Option ℕ → ℕ → Bool
quorum_outside None count = false
quorum_outside (Some quorum) count = not (fits quorum count)

abbrev pub mode_outside : Settings → PFMode → Bool
mode_outside s Paxos = false
mode_outside s MultiPaxos = false
mode_outside s MultiPaxos3P = false
mode_outside s EPaxos = false
mode_outside s Pando = table_outside s.delegates s.process_count
mode_outside s SwiftPaxos = quorum_outside s.quorum s.process_count

abbrev pub settings_causes : Settings → List Row
settings_causes s =
    gives 1 (ltb s.process_count 1)
    ∷ gives 1 (ltb 64 s.process_count)
    ∷ gives 1 (ltb s.replica_count 1)
    ∷ gives 1 (ltb s.process_count s.replica_count)
    ∷ gives 1 (leb s.process_count s.my_pid)
    ∷ gives 1 (leb s.process_count s.first_leader)
    ∷ gives 1 (not (fits s.alive_replicas s.process_count))
    ∷ gives 1 (ltb s.replica_count (size s.alive_replicas))
    ∷ gives 1 (committers_outside s.committers s.process_count)
    ∷ gives 1 (mode_outside s s.mode)
    ∷ []

-- a proposal in the fast modes: some answer is counted or recorded already (docs/DIFFERENCES.md has these assertions of `propose` in the words below)
abbrev pub answered_already : FastState → Bool
answered_already fast = not (is_empty fast.fast_answer_set) || not (eqb fast.fast_preaccepted 0) || not (is_empty fast.fast_proposers)

abbrev pub fast_begun : Settings → FastState → PFMode → Bool
fast_begun s fast Paxos = false
fast_begun s fast MultiPaxos = false
fast_begun s fast MultiPaxos3P = false
fast_begun s fast Pando = false
-- "in EPaxos, .. no fast answer is counted or recorded yet", nor is the own score changed from 2
fast_begun s fast EPaxos = answered_already fast || not (eqb (look_up fast.epaxos_proposer_scores s.my_pid) 2)
-- "and in SwiftPaxos at another than the leader", nor the leader's, nor is the own score changed from 0
fast_begun s fast SwiftPaxos =
    not (eqb s.first_leader s.my_pid)
    && (answered_already fast || is_some fast.swift_leader_answer || not (eqb (look_up fast.swift_proposer_scores s.my_pid) 0))

-- in MultiPaxos and MultiPaxos3P the first leader leads from the start
abbrev pub led_from_start : PFMode → Bool
led_from_start Paxos = false
led_from_start MultiPaxos = true
led_from_start MultiPaxos3P = true
led_from_start EPaxos = false
led_from_start Pando = false
led_from_start SwiftPaxos = false

-- the starting round: there the first leader's, and else none
abbrev pub starts_in : Settings → Option PaxosRound
starts_in s = cond (led_from_start s.mode) (Some (round_of 0 s.first_leader)) None

-- "proposal: not `can_propose`, round not starting, a promise held already, MultiPaxos by another than the leader, or another assertion of `propose`"
abbrev pub not_allowed_causes : Settings → Rounds → List Row
not_allowed_causes s rounds =
    gives 11 (not (may_take_part s))
    ∷ gives 11 (not (equal rounds.core.paxos.round (starts_in s)))
    ∷ gives 11 (not (nothing_held rounds.core.paxos.max_rv))
    ∷ gives 11 (led_from_start s.mode && not (eqb s.my_pid s.first_leader))
    ∷ gives 11 (fast_begun s rounds.fast s.mode)
    ∷ []

-- "A proposal meets 2, then 11"
abbrev pub proposal_causes : Shard → ℕ → List Row
proposal_causes shard v = gives 2 (numbers_too_large [] (v ∷ [])) ∷ not_allowed_causes shard.settings shard.state.rounds

-- "a new read 2, then 12"
abbrev pub read_causes : Shard → ℕ → ℕ → List Row
read_causes shard tag arrival =
    gives 2 (numbers_too_large (arrival ∷ []) (tag ∷ []))
    -- "128 reads open, or ids spent (the last id is 2^63−1)"
    ∷ gives 12 (leb 128 shard.state.rounds.core.tracker.open_count)
    ∷ gives 12 (ltb 9223372036854775807 shard.state.rounds.core.tracker.next_id)
    ∷ []

-- "2, 3, then 5, or 4 before 6"
abbrev pub admission_causes : Shard → Delivery → List Row
admission_causes shard d =
    gives 2 (numbers_too_large (message_slots d.message.msg) (all_numbers d))
    ∷ gives 3 (any_from shard.settings.process_count (all_processes d))
    ∷ gives 5 (ahead_of shard.state.rounds.core.slot d.message.msg)
    ∷ gives 4 (of_slot shard.state.rounds.core.slot d.message.msg && given_and_different d.message.last_v shard.state.rounds.core.last_v)
    ∷ gives 6
    (of_slot shard.state.rounds.core.slot d.message.msg && waits_for_value shard.settings.my_pid d.message.msg
    && not d.said.value_held)
    ∷ []

-- "own slot 2^63−1, which is spent"
abbrev pub is_spent : Shard → Bool
is_spent shard = leb 9223372036854775807 shard.state.rounds.core.slot

-- "a shard marked unmade; all its calls give 1"
abbrev pub unmade : Outcome → List Row
unmade (Ok tt) = []
unmade (Err why) = gives (refusal_number why) true ∷ []

module _ (choose : ProposerChoice) where
  -- "then Commit and reads are handled; a non-replica (not SwiftPaxos) does nothing; older ones do nothing; 7; of 8, 9, 10 the panic that the Rust meets
  -- first; last the 6 of a commit"
  abbrev pub handling_causes : Settings → Rounds → Delivery → ConsensusMsg → List Row
  handling_causes s rounds d (ForwardRequest v) = []
  handling_causes s rounds d (Commit slot v) = []
  handling_causes s rounds d (ReadResponse id next) = []
  -- "ReadRequest: the source is not oneself"
  handling_causes s rounds d (ReadRequest id) = gives 8 (eqb d.message.src s.my_pid) ∷ []
  handling_causes s rounds d (Prepare slot round rv) =
      cond (is_ignored s rounds slot round) []
      (gives 7 (source_not_live s d.message.src)
      ∷ prepare_panics choose s.mode (facts_of s rounds d round (promise_delegate s round.leader rv)) rv)
  handling_causes s rounds d (Accept slot round v) =
      cond (is_ignored s rounds slot round) []
      (gives 7 (source_not_live s d.message.src) ∷ accept_panics s.mode (facts_of s rounds d round (leader_delegate s s.mode round.leader)) v)

  abbrev pub causes : Shard → Call → List Row
  causes shard (Propose v) = proposal_causes shard v
  causes shard (StartRead tag arrival) = read_causes shard tag arrival
  causes shard (Receive d) = then (admission_causes shard d) (handling_causes shard.settings shard.state.rounds d d.message.msg)

  -- before all others: an unmade shard gives the number that it was marked with; "own slot 2^63−1, which is spent (then every call)" gives 2
  abbrev pub all_causes : Shard → Call → List Row
  all_causes shard c = then (unmade shard.made) (gives 2 (is_spent shard) ∷ causes shard c)

  -- the number that a call gives, 0 where it is taken
  unfoldable pub first_cause : Shard → Call → ℕ
  first_cause shard c = first_of (all_causes shard c)

  -- Demand 1, of what a call hands back: it is taken, and no cause holds; or it is refused, with the shard as it was and nothing handed back but the number, and
  -- that is the number of the first cause that holds.
  abbrev pub ByFirstCause : Shard → Call → Answer → Type 0
  ByFirstCause shard c r =
      ((r.reply.outcome ≡ Ok tt) × NoneHolds (all_causes shard c))
      ⊎ ((why : Refusal) × (r ≡ number_alone why shard) × FirstHolds (all_causes shard c) (refusal_number why))

-- ---- a shard by its settings

-- the mark of a new shard: it is made, and no cause holds in its settings; or one does, and it is marked unmade with 1
abbrev pub MadeBySettings : Settings → Outcome → Type 0
MadeBySettings s made =
    ((made ≡ Ok tt) × NoneHolds (settings_causes s)) ⊎ ((made ≡ Err SettingsOutsideLimits) × FirstHolds (settings_causes s) 1)

-- A shard of these settings at any later time: made, and where its slot is spent every call gives 2; or as it was made, and "all its calls give 1".
abbrev pub OfSettings : Settings → Shard → Type 0
OfSettings s shard =
    (NoneHolds (settings_causes s) × (shard.made ≡ Ok tt) × (is_spent shard ≡ true → (c : Call) → call_of shard c ≡ number_alone NumberTooLarge shard))
    ⊎ (FirstHolds (settings_causes s) 1 × (shard ≡ new_shard s) × ((c : Call) → call_of shard c ≡ number_alone SettingsOutsideLimits shard))

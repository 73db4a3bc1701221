-- A call as *Paxos Made Simple* has it: what a replica makes of a proposal, of a Prepare, of an Accept and of a Commit, put together from the paper's
-- rules (crates/paxos/specs/PaxosMadeSimple.antt) and the replica's steps (Replica.antt). What is not the paper's is marked DIFFERENCE, with the name
-- of its row in docs/DIFFERENCES.md, "The Rust and the paper". The paper refuses nothing: a call that a cause of document 01 refuses
-- (crates/consensus/specs/FirstCause.antt, demand 1) is left to that cause, and every other call follows the rules. `paper_call` at the end is what the
-- theorems of proofs/ are about. Of the engine's definitions this page cites the order and the next number of rounds (`round_before`, `next_leader_round`,
-- `default_round`, `increment`), sets of processes (`size`) and a commit as the host is told it (`committed_slot`); of demand 1's page the causes
-- (`first_cause`, at our choice among the best of EPaxos, which no classic mode asks for), a number as it is given (`number_of_outcome`), who is live, a process that
-- is given or is oneself, the delegates, the committer of a value and the starting round.
-- Assumes nothing.
use Rattle.std.specs.Prelude.{◌≡◌, Bool, false, cond, not, ◌&&◌, ◌||◌, List, [], ◌∷◌, ◌++◌, map, ℕ, eqb, ltb, Option as Optional, None, Some}
use Rattle.calls.specs.Commits.{committed_slot}
use Rattle.calls.specs.declared.CommittedSlot.{CommittedSlot}
use Rattle.std.proofs.Math.Option.{Option, none, some}
use Rattle.basics.specs.sets.Sets.{size}
use Rattle.paxos.specs.PaxosMadeSimple.{Proposal, Message, prepare, accepts_proposal, announcement, asks, proposal_of, proposes, learns}
use Rattle.paxos.specs.PaxosMadeSimple.Message.{accept_request}
use Rattle.message.specs.Rounds.{increment, round_before, next_leader_round, default_round}
use Rattle.message.specs.declared.ConsensusMsg.{ConsensusMsg}
use Rattle.message.specs.declared.ConsensusMsg.TheVariants.{Prepare, Accept, ForwardRequest, Commit, ReadRequest, ReadResponse}
use Rattle.message.specs.declared.PaxosRound.{PaxosRound}
use Rattle.message.specs.declared.PFMode.{PFMode}
use Rattle.message.specs.declared.PFMode.TheVariants.{Paxos, MultiPaxos, MultiPaxos3P, EPaxos, Pando, SwiftPaxos}
use Rattle.message.specs.declared.RoundV.{RoundV}
use Rattle.message.specs.declared.RoundV.TheVariants.{PaxosV}
use Rattle.fast_state.specs.Adopt.{lowest_best}
use Rattle.settings.specs.declared.Settings.{Settings}
use Rattle.steps.specs.declared.Destination.{Destination}
use Rattle.steps.specs.declared.Destination.TheVariants.{One, All}
use Rattle.steps.specs.declared.SentMessages.{SentMessages}
use Rattle.steps.specs.declared.Outgoing.{Outgoing}
use Rattle.calls.specs.declared.delivery.Delivery.{Delivery}
use Rattle.calls.specs.declared.Call.{Call}
use Rattle.calls.specs.declared.Call.TheVariants.{Propose, StartRead, Receive}
use Rattle.consensus.specs.FirstCause.{number_of_outcome, given_number, is_live, is_oneself, leader_delegate, value_committer, starts_in, first_cause}
use Rattle.consensus.specs.declared.Answer.{Answer}
use Rattle.consensus.specs.declared.Shard.{Shard}
use Rattle.paper.specs.Replica.{Replica, responded_of, replica_of, written, enters_number, promises, is_there, abandons, proposer_in, newly, hears, takes_up, accepts_with, number_where_none}

-- ---- what is seen of a call

-- its number (0 where it is taken), the slot, the last value and the replica afterwards, the messages and the commit
pub record Seen : Type 0 where
  pub outcome : ℕ
  pub slot : ℕ
  pub last : Optional ℕ
  pub replica : Replica
  pub messages : SentMessages
  pub commit : Optional CommittedSlot

abbrev pub seen : Answer → Seen
seen r =
    record {
      outcome = number_of_outcome r.reply.outcome;
      slot = r.shard.state.rounds.core.slot;
      last = r.shard.state.rounds.core.last_v;
      replica = replica_of r.shard.state.rounds.core.paxos;
      messages = r.reply.messages;
      commit = r.reply.commit;
    }

-- ---- the places of what is sent

-- the first of a list, and those behind it
abbrev pub first_sent : List Outgoing → Optional Outgoing
first_sent [] = None
first_sent (m ∷ ms) = Some m

abbrev pub sent_behind_first : List Outgoing → List Outgoing
sent_behind_first [] = []
sent_behind_first (m ∷ ms) = ms

-- The messages of a call stand in three places, in the order of the list. There is room for all: at most two announcements and a Commit.
abbrev pub in_places : List Outgoing → SentMessages
in_places ms = record { first = first_sent ms; second = first_sent (sent_behind_first ms); third = first_sent (sent_behind_first (sent_behind_first ms)) }

-- ---- lists of processes

-- p is one of the list
abbrev pub is_one_of : ℕ → List ℕ → Bool
is_one_of p [] = false
is_one_of p (q ∷ qs) = eqb p q || is_one_of p qs

-- all of the list but p
abbrev pub all_but : ℕ → List ℕ → List ℕ
all_but p [] = []
all_but p (q ∷ qs) = cond (eqb p q) (all_but p qs) (q ∷ all_but p qs)

-- ---- a call at a replica

-- Where a call is handled: the own process, whether it is an acceptor, the number of acceptors; the number with which a slot begins, if there is one;
-- the slot, the last value that was committed, and the replica before the call.
pub record Place : Type 0 where
  pub self : ℕ
  pub acceptor : Bool
  pub acceptors : ℕ
  pub start : Option PaxosRound
  pub slot : ℕ
  pub last : Optional ℕ
  pub old : Replica

-- what is known of a message besides its own fields: its source, the proposer in its number, and the requester and the committers of its value
pub record Known : Type 0 where
  pub src : ℕ
  pub proposer : ℕ
  pub requester : Optional ℕ
  pub committers : List ℕ

-- a replica that has responded to nothing but the starting number, if there is one, and has accepted nothing; it wishes nothing, and has counted nobody
abbrev pub beginning : Option PaxosRound → Replica
beginning start = record { acceptor = record { responded = start; accepted = none }; wish = none; promised = 0; agreed = 0 }

module _ (here : Place) where
  -- the call leaves this replica and sends these messages
  abbrev pub leaves : Replica → List Outgoing → Seen
  leaves r ms = record { outcome = 0; slot = here.slot; last = here.last; replica = r; messages = in_places ms; commit = None }

  abbrev pub nothing_happens : Seen
  nothing_happens = leaves here.old []

  -- The value is learned. Section 3: the next slot is an instance of its own, with a replica that has responded to nothing (in MultiPaxos and
  -- MultiPaxos3P, to the first leader's number) and accepted nothing. DIFFERENCE ("what a message carries besides"): a commit has a fast mark, which no
  -- classic mode sets.
  abbrev pub commits_learned : ℕ → List Outgoing → Seen
  commits_learned v ms =
      record {
        outcome = 0;
        slot = increment here.slot;
        last = Some v;
        replica = beginning here.start;
        messages = in_places ms;
        commit = committed_slot here.slot v false;
      }

  -- a message carries the own number as its source. DIFFERENCE ("what a message carries besides"): it also carries the last value that was committed
  abbrev pub addressed : Destination → ConsensusMsg → Outgoing
  addressed destination msg = record { destination = destination; message = record { msg = msg; src = here.self; last_v = here.last } }

  -- one of the paper's messages
  abbrev pub paper_outgoing : Option RoundV → Message PaxosRound ℕ → Destination → Outgoing
  paper_outgoing wish m destination = addressed destination (written here.slot wish m)

  -- DIFFERENCE ("a process that is no acceptor"): as a proposer and as a learner as well, an acceptor alone takes part. DIFFERENCE ("a message of a slot that
  -- is committed"): it does so in its own slot alone, and ignores an older one.
  abbrev pub takes_part_in_slot : ℕ → Bool
  takes_part_in_slot slot = here.acceptor && not (ltb slot here.slot)

  -- Phase 2 (a): the accept request; the proposer's own acceptor accepts. DIFFERENCE ("whom a request goes to"): it goes to all.
  -- DIFFERENCE ("a group of one, in MultiPaxos and MultiPaxos3P"): it is counted, and where it alone is a majority the value is not learned.
  unfoldable pub requesting : Replica → Option (Proposal PaxosRound ℕ) → Seen
  requesting r none = leaves r []
  requesting r (some p) = leaves (accepts_with here.self here.self p r) (paper_outgoing none (accept_request p) (All None) ∷ [])

  -- ---- a proposal

  -- Phase 1 (a): "A proposer selects a proposal number n": of those that it leads, the least that is not before the number to which it has responded
  -- (`next_leader_own`, `next_leader_least`, crates/message/proofs/NextLeader.antt). DIFFERENCE ("a proposer that is overtaken or gets no answer"): it
  -- does so once in a slot, by the causes of 11.
  abbrev pub own_number : PaxosRound
  own_number = next_leader_round (number_where_none default_round here.old.acceptor.responded) here.self

  -- nobody is counted in the number yet but the own acceptor, which promises; the value is the wish
  abbrev pub begins_proposal : ℕ → Replica
  begins_proposal v =
      hears here.self here.self (PaxosV None v)
      (record { acceptor = prepare round_before here.old.acceptor own_number; wish = here.old.wish; promised = 0; agreed = 0 })

  -- The prepare request. DIFFERENCE ("whom a request goes to"): it goes to all. DIFFERENCE ("a group of one, in Paxos and Pando"): the own promise is counted
  -- here, and where it alone is a majority no accept request follows. DIFFERENCE ("the first round of MultiPaxos and MultiPaxos3P"): where slots begin with a
  -- number, its leader needs no promises, and sends the accept request.
  unfoldable pub proposes_own : ℕ → Seen
  proposes_own v =
      cond (is_there here.start)
      (requesting (begins_proposal v) (some (proposal_of round_before (proposer_in own_number (begins_proposal v)))))
      (leaves (begins_proposal v) (paper_outgoing (begins_proposal v).wish (asks round_before (proposer_in own_number (begins_proposal v))) (All None) ∷ []))

  module _ (known : Known) where
    -- ---- Prepare

    -- The replica after a Prepare of the number n: its acceptor is what the paper's `prepare` leaves (`enters_number`), but for what it takes up. DIFFERENCE
    -- ("a prepare request for a proposal that is held as accepted"): the number is entered also where the request is ignored for that reason.
    abbrev pub replica_after_prepare : PaxosRound → RoundV → Replica
    replica_after_prepare n rv = takes_up here.self n rv (enters_number n here.old)

    -- Phase 1 (b): the response, to the proposer
    abbrev pub to_proposer : Option RoundV → Option (Message PaxosRound ℕ) → List Outgoing
    to_proposer wish none = []
    to_proposer wish (some m) = paper_outgoing wish m (One known.proposer) ∷ []

    -- At an acceptor: the response is that of the acceptor as it was before the call, but for what it takes up.
    unfoldable pub responding : PaxosRound → RoundV → Seen
    responding n rv =
        leaves (replica_after_prepare n rv) (to_proposer (replica_after_prepare n rv).wish (promises n (takes_up here.self n rv here.old).acceptor))

    -- At the proposer: it hears the promise, and proposes when a majority has responded.
    unfoldable pub proposes_on_majority : PaxosRound → RoundV → Replica → Seen
    proposes_on_majority n rv r =
        requesting (hears here.self known.src rv r)
        (newly (proposes round_before here.acceptors (proposer_in n r))
        (proposes round_before here.acceptors (proposer_in n (hears here.self known.src rv r))))

    -- It does so unless the proposal is abandoned. Its own acceptor has responded to the number, or does so now: DIFFERENCE ("who proposes"), Pando's delegate
    -- with the Prepare of the leader; DIFFERENCE ("a promise in a number that was not asked for"), any proposer with the first promise that comes.
    unfoldable pub hearing : PaxosRound → RoundV → Seen
    hearing n rv = cond (abandons here.old.acceptor n) nothing_happens (proposes_on_majority n rv (replica_after_prepare n rv))

    -- DIFFERENCE ("requests and answers"): a Prepare is a promise at the proposer, and a prepare request at every other
    unfoldable pub prepare_received : ℕ → PaxosRound → RoundV → Seen
    prepare_received slot n rv = cond (takes_part_in_slot slot) (cond (eqb known.proposer here.self) (hearing n rv) (responding n rv)) nothing_happens

    -- ---- Accept

    -- Section 2.3: "the acceptors could respond with their acceptances to some set of distinguished learners, each of which can then inform all the
    -- learners when a value has been chosen". Those of a number are the committer of the value, where there is one and it is another, and the leader, in the
    -- order in which they are told. Section 2.5: the leader "plays the roles of the distinguished proposer and the distinguished learner".
    abbrev pub learners : PaxosRound → List ℕ
    learners n = all_but n.leader known.committers ++ (n.leader ∷ [])

    abbrev pub is_learner : PaxosRound → Bool
    is_learner n = is_one_of here.self (learners n)

    abbrev pub is_leader : PaxosRound → Bool
    is_leader n = eqb here.self n.leader

    -- An acceptor tells each of them but itself. DIFFERENCE ("the leader's own acceptance"): the leader tells nobody.
    abbrev pub announced_to : PaxosRound → List ℕ
    announced_to n = cond (is_leader n) [] (all_but here.self (learners n))

    abbrev pub to_each : List ℕ → Option (Message PaxosRound ℕ) → List Outgoing
    to_each ps none = []
    to_each ps (some m) = map (λ (p : ℕ). paper_outgoing none m (One p)) ps

    -- Phase 2 (b) and section 2.3: the acceptor as it was before the call announces that it accepts an accept request, which comes from the proposer. Any
    -- other Accept is an acceptance; what it brings the replica to accept (`replica_after_accept`) is not announced.
    unfoldable pub announces : Proposal PaxosRound ℕ → List Outgoing
    announces p = cond (eqb known.src known.proposer) (to_each (announced_to p.number) (announcement round_before here.old.acceptor p)) []

    -- DIFFERENCE ("what a message carries besides"): a Commit goes to the requester of its value first, where that is another process
    abbrev pub served_first : Optional ℕ → Optional ℕ
    served_first None = None
    served_first (Some p) = cond (eqb p here.self) None (Some p)

    -- DIFFERENCE ("how a chosen value is learned"): a learner that is itself the requester of the value, and not the leader, informs nobody
    abbrev pub keeps_to_itself : PaxosRound → Bool
    keeps_to_itself n = is_oneself known.requester here.self && not (is_leader n)

    -- a distinguished learner that finds the value chosen informs all
    unfoldable pub informs : Proposal PaxosRound ℕ → List Outgoing
    informs p =
        cond (keeps_to_itself p.number) []
        (addressed (All (served_first known.requester)) (Commit here.slot p.value) ∷ [])

    -- the value that a majority has accepted is committed
    unfoldable pub learning : Proposal PaxosRound ℕ → Replica → List Outgoing → Option ℕ → Seen
    learning p r ms none = leaves r ms
    learning p r ms (some v) = commits_learned v (ms ++ informs p)

    abbrev pub counts_and_learns : Proposal PaxosRound ℕ → Replica → List Outgoing → Seen
    counts_and_learns p r ms = learning p r ms (learns round_before here.acceptors (size r.agreed) p)

    -- The replica after an Accept: its acceptor is what the paper's `accept` leaves (`accepts_with`). DIFFERENCE ("an accept request"): the number is entered
    -- before. The source is counted. DIFFERENCE ("requests and answers"): also that of an accept request, whose own acceptor has accepted. DIFFERENCE
    -- ("an answer to an accept request"): a learner that gets an acceptance accepts as well, as if it were an accept request.
    abbrev pub replica_after_accept : Proposal PaxosRound ℕ → Replica
    replica_after_accept p = accepts_with here.self known.src p (enters_number p.number here.old)

    -- DIFFERENCE ("an acceptance with a lower number"): a learner that has responded to a greater number, and so does not accept, ignores an acceptance
    abbrev pub listens : Proposal PaxosRound ℕ → Bool
    listens p = is_learner p.number && accepts_proposal round_before here.old.acceptor p

    -- An acceptor announces; a distinguished learner counts as well, and learns.
    unfoldable pub acts_on_accept : Proposal PaxosRound ℕ → Seen
    acts_on_accept p = cond (listens p) (counts_and_learns p (replica_after_accept p) (announces p)) (leaves (replica_after_accept p) (announces p))

    unfoldable pub accept_received : ℕ → Proposal PaxosRound ℕ → Seen
    accept_received slot p = cond (takes_part_in_slot slot) (acts_on_accept p) nothing_happens

    -- ---- messages

    -- A Commit is what a distinguished learner informs with, and is believed; one of a slot that is committed says nothing new. A ForwardRequest is for the
    -- host. Reads are no part of the paper (`InPaxos`).
    unfoldable pub received : ConsensusMsg → Seen
    received (Prepare slot n rv) = prepare_received slot n rv
    received (Accept slot n v) = accept_received slot (record { number = n; value = v })
    received (ForwardRequest v) = nothing_happens
    received (Commit slot v) = cond (ltb slot here.slot) nothing_happens (commits_learned v [])
    received (ReadRequest id) = nothing_happens
    received (ReadResponse id next) = nothing_happens

-- ---- a call on a shard

-- the messages and the calls of the paper
abbrev pub OfPaxos : ConsensusMsg → Type 0
OfPaxos (Prepare slot n rv) = Unit {0}
OfPaxos (Accept slot n v) = Unit {0}
OfPaxos (ForwardRequest v) = Unit {0}
OfPaxos (Commit slot v) = Unit {0}
OfPaxos (ReadRequest id) = ⊥
OfPaxos (ReadResponse id next) = ⊥

abbrev pub InPaxos : Call → Type 0
InPaxos (Propose v) = Unit {0}
InPaxos (StartRead tag arrival) = ⊥
InPaxos (Receive d) = OfPaxos d.message.msg

-- the replica of a shard
abbrev pub replica_in : Shard → Replica
replica_in shard = replica_of shard.state.rounds.core.paxos

-- where its calls are handled: the acceptors are the replicas, as many as the settings say; those that are not live have stopped
abbrev pub place_of : Shard → Place
place_of shard =
    record {
      self = shard.settings.my_pid;
      acceptor = is_live shard.settings shard.settings.my_pid;
      acceptors = shard.settings.replica_count;
      start = responded_of (starts_in shard.settings);
      slot = shard.state.rounds.core.slot;
      last = shard.state.rounds.core.last_v;
      old = replica_in shard;
    }

-- Section 2.4, the distinguished proposer: the leader of the number, in Pando its delegate (DIFFERENCE, "who proposes"). It gathers the promises.
abbrev pub proposer_by : Settings → ConsensusMsg → ℕ
proposer_by s (Prepare slot n rv) = leader_delegate s s.mode n.leader
proposer_by s (Accept slot n v) = leader_delegate s s.mode n.leader
proposer_by s (ForwardRequest v) = 0
proposer_by s (Commit slot v) = 0
proposer_by s (ReadRequest id) = 0
proposer_by s (ReadResponse id next) = 0

-- MultiPaxos3P has learners beside the leader: the committer of the value, where it has one
abbrev pub committers_as_learners : PFMode → Optional ℕ → List ℕ
committers_as_learners Paxos committer = []
committers_as_learners MultiPaxos committer = []
committers_as_learners MultiPaxos3P committer = given_number committer
committers_as_learners EPaxos committer = []
committers_as_learners Pando committer = []
committers_as_learners SwiftPaxos committer = []

-- what is known of a message, with the requester that the host names for its value
abbrev pub known_of : Settings → Delivery → Known
known_of s d =
    record {
      src = d.message.src;
      proposer = proposer_by s d.message.msg;
      requester = d.said.requester;
      committers = committers_as_learners s.mode (value_committer s d.said.requester);
    }

-- a call by the rules; a new read is not of the paper (`InPaxos`), whatever stands here
unfoldable pub by_rules : Shard → Call → Seen
by_rules shard (Propose v) = proposes_own (place_of shard) v
by_rules shard (StartRead tag arrival) = nothing_happens (place_of shard)
by_rules shard (Receive d) = received (place_of shard) (known_of shard.settings d) d.message.msg

-- a refusal is its number, and nothing else happens
abbrev pub refused_with : ℕ → Shard → Seen
refused_with number shard =
    record {
      outcome = number;
      slot = shard.state.rounds.core.slot;
      last = shard.state.rounds.core.last_v;
      replica = replica_in shard;
      messages = in_places [];
      commit = None;
    }

-- What is seen of a call: it is refused with the number of the first cause that holds, and where none does it follows the rules.
unfoldable pub paper_call : Shard → Call → Seen
paper_call shard c =
    cond (eqb (first_cause lowest_best shard c) 0)
    (by_rules shard c)
    (refused_with (first_cause lowest_best shard c) shard)

-- ---- a new shard, and the calls that are not of the paper

-- a shard at its beginning, by its settings: the first slot, nothing committed, and the replica of a slot that begins
abbrev pub AtBeginning : Settings → Shard → Type 0
AtBeginning s shard =
    (shard.state.rounds.core.slot ≡ 0) × (shard.state.rounds.core.last_v ≡ None) × (replica_in shard ≡ beginning (responded_of (starts_in s)))

-- what is sent, if anything, is no message of the paper
abbrev pub NotOfPaxos : Optional Outgoing → Type 0
NotOfPaxos None = Unit {0}
NotOfPaxos (Some m) = OfPaxos m.message.msg → ⊥

abbrev pub NoneOfPaxos : SentMessages → Type 0
NoneOfPaxos messages = NotOfPaxos messages.first × NotOfPaxos messages.second × NotOfPaxos messages.third

-- a call leaves what the paper speaks of: slot, last value and replica stay, nothing is committed, and no message of the paper is sent
abbrev pub LeavesPaxos : Shard → Answer → Type 0
LeavesPaxos shard r =
    (r.shard.state.rounds.core.slot ≡ shard.state.rounds.core.slot)
    × (r.shard.state.rounds.core.last_v ≡ shard.state.rounds.core.last_v)
    × (replica_in r.shard ≡ replica_in shard)
    × (r.reply.commit ≡ None)
    × NoneOfPaxos r.reply.messages

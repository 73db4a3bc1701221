-- A replica in the terms of *Paxos Made Simple* (crates/paxos/specs/PaxosMadeSimple.antt), its messages, and the steps that it makes: each is a
-- rule of the paper. What is not the paper's is marked DIFFERENCE, with the name of its row in docs/DIFFERENCES.md, "The Rust and the paper".
-- Of the engine's definitions it cites the order of rounds (`round_before`) and sets of processes (`insert`, `size`).
-- Assumes nothing.
use Rattle.std.specs.Prelude.{Bool, true, false, cond, ◌||◌, [], ◌∷◌, ℕ, Option as Optional, None, Some}
use Rattle.std.proofs.Math.Option.{Option, none, some}
use Rattle.basics.specs.sets.Sets.{insert, size}
use Rattle.paxos.specs.PaxosMadeSimple.{Proposal, Acceptor, Message, Proposer, exceeded, higher, responds, prepare, response, ignores, accepts_proposal, accept}
use Rattle.paxos.specs.PaxosMadeSimple.Message.{prepare_request, promise, accept_request, acceptance}
use Rattle.message.specs.Rounds.{round_before}
use Rattle.message.specs.declared.ConsensusMsg.{ConsensusMsg}
use Rattle.message.specs.declared.ConsensusMsg.TheVariants.{Prepare, Accept}
use Rattle.message.specs.declared.PaxosRound.{PaxosRound}
use Rattle.message.specs.declared.RoundV.{RoundV}
use Rattle.message.specs.declared.RoundV.TheVariants.{FastV, PaxosV}
use Rattle.round_state.specs.declared.PaxosState.{PaxosState}

-- ---- a replica in the paper's terms

-- Section 2.5: "each process plays the role of proposer, acceptor, and learner". As an acceptor a replica is the paper's. As a proposer it remembers
-- whose promises it has counted in the number that it last responded to (`promised`), and as a learner whose acceptances (`agreed`).
-- DIFFERENCE ("the proposer's memory"): the highest-numbered proposal that was reported to the proposer is kept in the acceptor.
-- DIFFERENCE ("what is promised"): every Prepare brings a value. `wish` is the one that is kept while no proposal is: the own one, or the first
-- that came.
-- `promised` and `agreed` are the sets `prepared_set` and `accepted_set` of the engine's Paxos half, by the paper's words.
pub record Replica : Type 0 where
  pub acceptor : Acceptor PaxosRound ℕ
  pub wish : Option RoundV
  pub promised : ℕ
  pub agreed : ℕ

-- ---- the same in the engine's state

-- The engine's state has the Option of std, which is `Optional` here; `Option` is that of the paper's page.

-- the proposal that a Prepare reports as accepted, if it reports one
abbrev pub report_of : RoundV → Option (Proposal PaxosRound ℕ)
report_of (FastV proposer v) = none
report_of (PaxosV None v) = none
report_of (PaxosV (Some n) v) = some (record { number = n; value = v })

abbrev pub accepted_of : Optional RoundV → Option (Proposal PaxosRound ℕ)
accepted_of None = none
accepted_of (Some rv) = report_of rv

abbrev pub wish_of : Optional RoundV → Option RoundV
wish_of None = none
wish_of (Some (FastV proposer v)) = some (FastV proposer v)
wish_of (Some (PaxosV None v)) = some (PaxosV None v)
wish_of (Some (PaxosV (Some n) v)) = none

abbrev pub responded_of : Optional PaxosRound → Option PaxosRound
responded_of None = none
responded_of (Some n) = some n

abbrev pub replica_of : PaxosState → Replica
replica_of p =
    record {
      acceptor = record { responded = responded_of p.round; accepted = accepted_of p.max_rv };
      wish = wish_of p.max_rv;
      promised = p.prepared_set;
      agreed = p.accepted_set;
    }

-- and back: the replica is the whole Paxos half of the round state (`state_back`)
abbrev pub engine_round : Option PaxosRound → Optional PaxosRound
engine_round none = None
engine_round (some n) = Some n

abbrev pub engine_held : Option (Proposal PaxosRound ℕ) → Option RoundV → Optional RoundV
engine_held (some p) wish = Some (PaxosV (Some p.number) p.value)
engine_held none none = None
engine_held none (some rv) = Some rv

abbrev pub engine_state : Replica → PaxosState
engine_state r =
    record {
      round = engine_round r.acceptor.responded;
      max_rv = engine_held r.acceptor.accepted r.wish;
      prepared_set = r.promised;
      accepted_set = r.agreed;
    }

-- ---- messages

-- what a Prepare brings: the proposal that is reported, or the wish; a replica that sends one has either
abbrev pub brings : Option (Proposal PaxosRound ℕ) → Option RoundV → RoundV
brings (some p) wish = PaxosV (Some p.number) p.value
brings none (some rv) = rv
brings none none = PaxosV None 0

-- the value that a Prepare brings
abbrev pub value_brought : RoundV → ℕ
value_brought (FastV proposer v) = v
value_brought (PaxosV at v) = v

-- "any value if the responses reported no proposals": that of the wish. DIFFERENCE ("whose value Pando's delegate proposes"): the delegate's is the first that
-- came, whoever wished it.
abbrev pub own_value : Option RoundV → ℕ
own_value wish = value_brought (brings none wish)

-- DIFFERENCE ("requests and answers"): a Prepare is a prepare request or a promise, an Accept is an accept request or an acceptance
abbrev pub written : ℕ → Option RoundV → Message PaxosRound ℕ → ConsensusMsg
written slot wish (prepare_request n) = Prepare slot n (brings none wish)
written slot wish (promise n report) = Prepare slot n (brings report wish)
written slot wish (accept_request p) = Accept slot p.number p.value
written slot wish (acceptance p) = Accept slot p.number p.value

-- ---- the acceptor: a prepare request

-- The acceptor has a prepare request of the number n. Where it responds, what was counted belongs to a lower number and is forgotten.
unfoldable pub enters_number : PaxosRound → Replica → Replica
enters_number n r =
    cond (responds round_before r.acceptor n)
    (record { acceptor = prepare round_before r.acceptor n; wish = r.wish; promised = 0; agreed = 0 })
    r

-- DIFFERENCE ("a prepare request with a number that was answered before"): where the paper's acceptor does not respond to a request that it does not
-- ignore, the number is the one to which it has responded last, and it responds again
abbrev pub or_again : PaxosRound → Acceptor PaxosRound ℕ → Option (Message PaxosRound ℕ) → Option (Message PaxosRound ℕ)
or_again n a none = some (promise n a.accepted)
or_again n a (some m) = some m

-- Phase 1 (b): nothing where the paper's acceptor ignores the request, and else its response. DIFFERENCE ("a request that is ignored because its number is
-- too low"): its sender is not told.
unfoldable pub promises : PaxosRound → Acceptor PaxosRound ℕ → Option (Message PaxosRound ℕ)
promises n a = cond (ignores round_before a n) none (or_again n a (response round_before a n))

-- ---- the proposer

-- Section 2.2: "It can abandon a proposal in the middle of the protocol at any time." and "It is probably a good idea to abandon a proposal if some proposer
-- has begun trying to issue a higher-numbered one": a proposer knows of one by its own acceptor, which has responded to its prepare request
unfoldable pub abandons : Acceptor PaxosRound ℕ → PaxosRound → Bool
abandons a n = exceeded round_before a.responded n

-- DIFFERENCE ("the own promise", "an answer to an accept request"): the replica itself (me) is counted with each one that it hears, since it promises and
-- accepts too
abbrev pub also_self : ℕ → ℕ → ℕ → ℕ
also_self me src set = insert (insert set src) me

-- the wish: the first that came, until a proposal is kept
abbrev pub first_wish : Option RoundV → RoundV → Option RoundV
first_wish none rv = some rv
first_wish (some w) rv = some w

abbrev pub unless_accepted : Option (Proposal PaxosRound ℕ) → Option RoundV → Option RoundV
unless_accepted none wish = wish
unless_accepted (some p) wish = none

-- A promise of src is heard: who has promised is counted, and the highest-numbered proposal is kept (DIFFERENCE, "the proposer's memory": in the
-- acceptor, as if it had been accepted).
unfoldable pub hears : ℕ → ℕ → RoundV → Replica → Replica
hears me src rv r =
    record {
      acceptor = record { responded = r.acceptor.responded; accepted = higher round_before r.acceptor.accepted (report_of rv) };
      wish = unless_accepted (higher round_before r.acceptor.accepted (report_of rv)) (first_wish r.wish rv);
      promised = also_self me src r.promised;
      agreed = r.agreed;
    }

-- a proposal is kept, or a wish
abbrev pub is_there : {A : Type 0} → Option A → Bool
is_there none = false
is_there (some x) = true

abbrev pub keeps_something : Replica → Bool
keeps_something r = is_there r.acceptor.accepted || is_there r.wish

-- DIFFERENCE ("what is promised", "a Prepare that brings an accepted proposal to one that holds nothing"): a replica that keeps nothing keeps what a
-- Prepare of the number n brings, a reported proposal as if it had accepted it, and counts its own promise; where it has responded to a greater number
-- it does not
unfoldable pub takes_up : ℕ → PaxosRound → RoundV → Replica → Replica
takes_up me n rv r = cond (keeps_something r || exceeded round_before r.acceptor.responded n) r (hears me me rv r)

-- the proposer that a replica is in the number n; of the reports it keeps the highest-numbered alone, which changes no choice (`choice_kept`,
-- crates/paxos/proofs/Choice.antt)
abbrev pub proposer_in : PaxosRound → Replica → Proposer PaxosRound ℕ
proposer_in n r = record { number = n; own = own_value r.wish; responders = size r.promised; reports = r.acceptor.accepted ∷ [] }

-- DIFFERENCE ("when the proposer proposes"): with the promise that makes a majority, and no other: what it proposes now and did not before
abbrev pub newly : Option (Proposal PaxosRound ℕ) → Option (Proposal PaxosRound ℕ) → Option (Proposal PaxosRound ℕ)
newly (some p) now = none
newly none now = now

-- a number, or another where there is none
abbrev pub number_where_none : PaxosRound → Option PaxosRound → PaxosRound
number_where_none n none = n
number_where_none n (some m) = m

-- ---- the acceptor and the learner: an accept request

-- Phase 2 (b): the acceptor has an accept request. Where it accepts, the replica wishes nothing more, and as a learner counts who has accepted.
unfoldable pub accepts_with : ℕ → ℕ → Proposal PaxosRound ℕ → Replica → Replica
accepts_with me src p r =
    cond (accepts_proposal round_before r.acceptor p)
    (record { acceptor = accept round_before r.acceptor p; wish = none; promised = r.promised; agreed = also_self me src r.agreed })
    r

-- The rules of *Paxos Made Simple* (Leslie Lamport, 2001), in the paper's words and by its sections, over any type of proposal numbers and any
-- type of values. Nothing of the engine stands here: crates/paper puts the engine's calls together from these rules.
-- Section 2.1 says what is asked of a group (one value is chosen, it was proposed, and no other is learned): demand 3, crates/group. Section 2.4 says
-- who should propose so that something is chosen, and section 3 that each slot has rules of its own: crates/paper/specs/PaperCall.antt.
-- Assumes nothing.
use Rattle.std.specs.Prelude.{◌≡◌, Bool, true, false, cond, not, ◌||◌, List, [], ◌∷◌, ℕ, ◌+◌, ltb}
use Rattle.std.proofs.Math.Option.{Option, none, some}

-- ---- 2.2 Choosing a value: proposals

-- one order over all numbers
pub record Ordered {A : Type 0} (before : A → A → Bool) : Type 0 where
  pub irreflexive : (a : A) → before a a ≡ false
  pub transitive : (a b c : A) → before a b ≡ true → before b c ≡ true → before a c ≡ true
  pub connected : (a b : A) → before a b ≡ false → before b a ≡ false → a ≡ b

-- Section 2.5: "Different proposers choose their numbers from disjoint sets of numbers, so two different proposers never issue a proposal with the
-- same number": `own p n` says that n is in the set of p.
pub record ProposalNumbers {Number : Type 0} (before : Number → Number → Bool) (own : ℕ → Number → Bool) : Type 0 where
  pub ordered : Ordered before
  pub disjoint : (p q : ℕ) (n : Number) → own p n ≡ true → own q n ≡ true → p ≡ q

-- "a proposal consists of a proposal number and a value"
pub record Proposal (Number Value : Type 0) : Type 0 where
  pub number : Number
  pub value : Value

-- "we can let a large enough set consist of any majority of the agents": k of n are more than half
unfoldable pub is_majority : ℕ → ℕ → Bool
is_majority n k = ltb n (k + k)

-- A proposer sends prepare requests and accept requests; an acceptor responds to a prepare request with a promise and what it has accepted, and (2.3)
-- tells the learners what it accepts.
pub data Message (Number Value : Type 0) : Type 0 where
  prepare_request : Number → Message Number Value
  promise : Number → Option (Proposal Number Value) → Message Number Value
  accept_request : Proposal Number Value → Message Number Value
  acceptance : Proposal Number Value → Message Number Value

-- ---- 2.2: the acceptor

-- "an acceptor needs to remember only the highest-numbered proposal that it has ever accepted and the number of the highest-numbered
-- prepare request to which it has responded"
pub record Acceptor (Number Value : Type 0) : Type 0 where
  pub responded : Option Number
  pub accepted : Option (Proposal Number Value)

module _ {Number : Type 0} (before : Number → Number → Bool) where
  -- n is greater than any number there is
  abbrev pub greater : Number → Option Number → Bool
  greater n none = true
  greater n (some m) = before m n

  -- a number greater than n is there
  abbrev pub exceeded : Option Number → Number → Bool
  exceeded none n = false
  exceeded (some m) n = before n m

module _ {Number Value : Type 0} (before : Number → Number → Bool) where
  -- the higher-numbered of two proposals, where there is one
  abbrev pub higher : Option (Proposal Number Value) → Option (Proposal Number Value) → Option (Proposal Number Value)
  higher none q = q
  higher (some p) none = some p
  higher (some p) (some q) = cond (before p.number q.number) (some q) (some p)

  -- Phase 1 (b): "If an acceptor receives a prepare request with number n greater than that of any prepare request to which it has
  -- already responded, then it responds to the request with a promise not to accept any more proposals numbered less than n and with
  -- the highest-numbered proposal (if any) that it has accepted."
  unfoldable pub responds : Acceptor Number Value → Number → Bool
  responds a n = greater before n a.responded

  unfoldable pub prepare : Acceptor Number Value → Number → Acceptor Number Value
  prepare a n = cond (responds a n) (record { responded = some n; accepted = a.accepted }) a

  unfoldable pub response : Acceptor Number Value → Number → Option (Message Number Value)
  response a n = cond (responds a n) (some (promise n a.accepted)) none

  -- What it may leave unanswered. One that "has already responded to a prepare request numbered greater than n": "we have the acceptor ignore such a
  -- prepare request. We also have it ignore a prepare request for a proposal it has already accepted."
  abbrev pub accepted_in : Number → Option (Proposal Number Value) → Bool
  accepted_in n none = false
  accepted_in n (some p) = not (before p.number n || before n p.number)

  unfoldable pub ignores : Acceptor Number Value → Number → Bool
  ignores a n = exceeded before a.responded n || accepted_in n a.accepted

  -- Phase 2 (b): "If an acceptor receives an accept request for a proposal numbered n, it accepts the proposal unless it has already
  -- responded to a prepare request having a number greater than n." That is P1a: "An acceptor can accept a proposal numbered n iff it has not
  -- responded to a prepare request having a number greater than n"; so it accepts the first proposal that it receives (P1).
  unfoldable pub accepts_proposal : Acceptor Number Value → Proposal Number Value → Bool
  accepts_proposal a p = not (exceeded before a.responded p.number)

  unfoldable pub accept : Acceptor Number Value → Proposal Number Value → Acceptor Number Value
  accept a p = cond (accepts_proposal a p) (record { responded = a.responded; accepted = higher a.accepted (some p) }) a

  -- Section 2.3: "have each acceptor, whenever it accepts a proposal, respond to all learners, sending them the proposal"
  unfoldable pub announcement : Acceptor Number Value → Proposal Number Value → Option (Message Number Value)
  announcement a p = cond (accepts_proposal a p) (some (acceptance p)) none

  -- ---- 2.2: the proposer

  -- the highest-numbered proposal among some responses, each the highest-numbered proposal (if any) that one acceptor has accepted
  unfoldable pub highest : Option (Proposal Number Value) → List (Option (Proposal Number Value)) → Option (Proposal Number Value)
  highest best [] = best
  highest best (r ∷ rs) = highest (higher best r) rs

  abbrev pub value_or_own : Value → Option (Proposal Number Value) → Value
  value_or_own own none = own
  value_or_own own (some p) = p.value

  -- Phase 2 (a): "v is the value of the highest-numbered proposal among the responses, or is any value if the responses reported no proposals".
  -- It is there for P2c, from which P2b, P2a and P2 follow: of a majority, (a) none has accepted a proposal numbered less than n, or (b) v is the value of
  -- the highest-numbered proposal among all proposals numbered less than n that they have accepted. That P2c holds needs more than this definition: the
  -- responses of a majority, each true when it was sent, and acceptors that keep what they promised.
  unfoldable pub choice : Value → List (Option (Proposal Number Value)) → Value
  choice own responses = value_or_own own (highest none responses)

-- a proposer in a number of its own, with the value that it would propose: how many acceptors have responded to its prepare request, and what
-- they reported
pub record Proposer (Number Value : Type 0) : Type 0 where
  pub number : Number
  pub own : Value
  pub responders : ℕ
  pub reports : List (Option (Proposal Number Value))

module _ {Number Value : Type 0} (before : Number → Number → Bool) where
  -- Phase 1 (a): "A proposer selects a proposal number n and sends a prepare request with number n to a majority of acceptors."
  abbrev pub asks : Proposer Number Value → Message Number Value
  asks p = prepare_request p.number

  -- its proposal
  abbrev pub proposal_of : Proposer Number Value → Proposal Number Value
  proposal_of p = record { number = p.number; value = choice before p.own p.reports }

  -- Phase 2 (a): "If the proposer receives a response to its prepare requests (numbered n) from a majority of acceptors, then it sends an accept
  -- request to each of those acceptors for a proposal numbered n with a value v"
  unfoldable pub proposes : ℕ → Proposer Number Value → Option (Proposal Number Value)
  proposes acceptors p = cond (is_majority acceptors p.responders) (some (proposal_of p)) none

  -- ---- 2.3 Learning a chosen value

  -- "To learn that a value has been chosen, a learner must find out that a proposal has been accepted by a majority of acceptors": k of them have
  -- accepted p
  unfoldable pub learns : ℕ → ℕ → Proposal Number Value → Option Value
  learns acceptors k p = cond (is_majority acceptors k) (some p.value) none

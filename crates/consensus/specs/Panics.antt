-- The panics of the Rust while it handles a Prepare or an Accept that is not ignored, path by path in the order in which it meets them
-- (docs/DIFFERENCES.md, "Panics of the Rust while it handles a message"), and last the 6 of a commit. What is said here is said of what is held and
-- who is in which set when the message comes. Cited from below: sets (`contains`, `insert`, `size`, `is_empty`), the order of rounds (`before`, `equal`,
-- `round_before`, `round_equal`), one more (`increment`, which leaves the largest number), the parts of a promise (`value_of`, `accept_round_of`),
-- `is_some` (a value is given), and the choice among the best proposers of EPaxos (`ProposerChoice`).
-- Assumes nothing.
use Rattle.std.specs.Prelude.{Bool, true, false, cond, not, ◌&&◌, ◌||◌, List, [], ◌∷◌, ℕ, ◌-◌, eqb, leb, Option, None, Some, is_some}
use Rattle.basics.specs.sets.Sets.{contains, insert, size, is_empty}
use Rattle.quorum.specs.declared.QuorumRow.{QuorumRow}
use Rattle.message.specs.Promises.{value_of, accept_round_of}
use Rattle.message.specs.Rounds.{increment, before, equal, round_before, round_equal}
use Rattle.message.specs.declared.PFMode.{PFMode}
use Rattle.message.specs.declared.PFMode.TheVariants.{Paxos, MultiPaxos, MultiPaxos3P, EPaxos, Pando, SwiftPaxos}
use Rattle.message.specs.declared.PaxosRound.{PaxosRound}
use Rattle.message.specs.declared.RoundV.{RoundV}
use Rattle.message.specs.declared.RoundV.TheVariants.{FastV, PaxosV}
use Rattle.fast_state.specs.Adopt.{ProposerChoice}
use Rattle.fast_state.specs.declared.FastAnswers.{FastAnswers}
use Rattle.consensus.specs.Rows.{Row, gives, asserts, then}

-- ---- what is known when the message comes

pub record Facts : Type 0 where
  pub own : ℕ  -- the number of this process
  pub replica : Bool  -- it is a live replica
  pub source : ℕ  -- the process that sent the message
  pub round : PaxosRound  -- the round of the message
  pub delegate : ℕ  -- the Rust's `delegate_or_leader`
  pub committer : Bool  -- oneself is the committer of the message's value
  pub value_held : Bool  -- the host holds the message's value
  pub quorums : QuorumRow  -- for the replica count
  pub fixed : Option ℕ  -- the fixed quorum of SwiftPaxos, if there is one
  pub held : Option RoundV  -- the promise that is held
  pub promises : ℕ  -- the set of those whose promises are counted in the message's round
  pub accepts : ℕ  -- the set of those whose accepts are counted in the message's round
  pub answers : FastAnswers  -- who has answered on the fast path, for how many proposers, how often for oneself, and the leader's answer
  pub scores : ℕ → ℕ  -- the EPaxos score of each proposer

abbrev pub round_leader : Facts → ℕ
round_leader f = f.round.leader

-- oneself leads the round
abbrev pub oneself_leads : Facts → Bool
oneself_leads f = eqb (round_leader f) f.own

-- oneself is the delegate
abbrev pub is_delegate : Facts → Bool
is_delegate f = eqb f.delegate f.own

abbrev pub from_delegate : Facts → Bool
from_delegate f = eqb f.source f.delegate

abbrev pub is_from_leader : Facts → Bool
is_from_leader f = eqb f.source (round_leader f)

-- so many as the quorums' majority are in the set
abbrev pub reaches_majority : Facts → ℕ → Bool
reaches_majority f set = leb f.quorums.majority (size set)

abbrev pub nothing_held : Option RoundV → Bool
nothing_held None = true
nothing_held (Some rv) = false

-- ---- accepts

-- "the accept fits³": "Nothing is accepted yet, or the round is later than the accepted one, or round and value are both equal to the accepted ones."
abbrev pub fits_held : Option RoundV → PaxosRound → ℕ → Bool
fits_held None round v = true
fits_held (Some (FastV proposer w)) round v = true
fits_held (Some (PaxosV None w)) round v = true
fits_held (Some (PaxosV (Some r) w)) round v = round_before r round || (round_equal r round && eqb w v)

-- "Both then count the sender, and the own process if it is a replica, once each."
unfoldable pub with_both : Facts → ℕ → ℕ
with_both f set = cond f.replica (insert (insert set f.source) f.own) (cond (eqb f.source f.own) set (insert set f.source))

-- the accept makes a majority of accepts in the round
abbrev pub accepts_enough : Facts → Bool
accepts_enough f = reaches_majority f (with_both f f.accepts)

-- ---- promises

-- what is held before the promise is counted: the promise itself, where nothing was held
abbrev pub held_before : Option RoundV → RoundV → RoundV
held_before None rv = rv
held_before (Some old) rv = old

-- what is held once it is counted: "`receive_promise` replaces what is held if nothing is held or the new accept round is later"
abbrev pub held_then : Option RoundV → RoundV → RoundV
held_then None rv = rv
held_then (Some old) rv = cond (before (accept_round_of old) (accept_round_of rv)) rv old

-- it was accepted in some round
abbrev pub accepted_then : Facts → RoundV → Bool
accepted_then f rv = is_some (accept_round_of (held_then f.held rv))

-- where nothing was held, oneself has promised first
abbrev pub promises_first : Facts → ℕ
promises_first f = cond (nothing_held f.held) (insert f.promises f.own) f.promises

-- the set with the promise counted
abbrev pub promises_then : Facts → ℕ
promises_then f = with_both f (promises_first f)

-- "the promise completes a majority"
abbrev pub completes : Facts → Bool
completes f = not (reaches_majority f (promises_first f)) && reaches_majority f (promises_then f)

-- what is held fits an accept of oneself in the round
abbrev pub own_accept_fits : Facts → RoundV → Bool
own_accept_fits f rv = fits_held (Some (held_then f.held rv)) f.round (value_of (held_then f.held rv))

-- oneself, another than the delegate, holds a value as accepted in the round already
abbrev pub accepted_in_round : Facts → RoundV → Bool
accepted_in_round f rv = equal (accept_round_of (held_before f.held rv)) (Some f.round)

-- ---- answers on the fast path

-- the source has answered already
abbrev pub answered_before : Facts → Bool
answered_before f = contains f.answers.fast_answer_set f.source

-- "second fast answer from another process"
abbrev pub answers_again : Facts → Bool
answers_again f = answered_before f && not (eqb f.source f.own)

-- an answer for oneself is one more
abbrev pub for_own : Facts → ℕ → ℕ
for_own f proposer = cond (eqb proposer f.own) (increment f.answers.fast_preaccepted) f.answers.fast_preaccepted

-- the first answer of the source, for that proposer, is counted
abbrev pub counted_answer : Facts → ℕ → FastAnswers
counted_answer f proposer =
    record {
      fast_answer_set = insert f.answers.fast_answer_set f.source;
      fast_preaccepted = for_own f proposer;
      fast_proposers = insert f.answers.fast_proposers proposer;
      swift_leader_answer = f.answers.swift_leader_answer;
    }

-- one proposer alone, and enough answers for oneself
abbrev pub unopposed : ℕ → FastAnswers → Bool
unopposed quorum answers = eqb (size answers.fast_proposers) 1 && leb quorum answers.fast_preaccepted

-- ---- EPaxos

-- a second answer of oneself changes nothing
abbrev pub epaxos_answers_then : Facts → ℕ → FastAnswers
epaxos_answers_then f proposer = cond (answered_before f) f.answers (counted_answer f proposer)

-- "+1 for an answer from another than the proposer, −1 from the proposer itself"
abbrev pub scored_answer : Facts → ℕ → ℕ → ℕ
scored_answer f proposer p =
    cond (eqb p proposer) (cond (eqb f.source proposer) (f.scores proposer - 1) (increment (f.scores proposer))) (f.scores p)

abbrev pub epaxos_scores_then : Facts → ℕ → ℕ → ℕ
epaxos_scores_then f proposer = cond (answered_before f) f.scores (scored_answer f proposer)

abbrev pub fast_quorum_unopposed : Facts → ℕ → Bool
fast_quorum_unopposed f proposer = unopposed f.quorums.epaxos (epaxos_answers_then f proposer)

abbrev pub is_one : Option ℕ → Bool
is_one None = false
is_one (Some p) = true

-- "`epaxos_try_adopt` needs a majority of answers and two proposers; best score wins": one of them is chosen. The engine chooses one exactly where some
-- proposer that is present has a score above 0 (`one_scored` and `none_scored`, proofs/Reading.antt).
abbrev pub adopts : ProposerChoice → Facts → ℕ → Bool
adopts choose f proposer =
    reaches_majority f (epaxos_answers_then f proposer).fast_answer_set && leb 2 (size (epaxos_answers_then f proposer).fast_proposers)
    && is_one (choose (epaxos_answers_then f proposer) (epaxos_scores_then f proposer))

-- ---- SwiftPaxos

-- an answer counts from every process, or from those of the fixed quorum
abbrev pub may_count : Option ℕ → ℕ → Bool
may_count None p = true
may_count (Some quorum) p = contains quorum p

-- "with a fixed quorum a majority is enough, and without one the fast quorum is needed"
abbrev pub swift_needs : QuorumRow → Option ℕ → ℕ
swift_needs quorums None = quorums.fast
swift_needs quorums (Some fixed) = quorums.majority

-- "A SwiftPaxos answer from outside the fixed quorum is uncounted, yet its proposer is recorded"
abbrev pub recorded_answer : Facts → ℕ → FastAnswers
recorded_answer f proposer =
    record {
      fast_answer_set = insert f.answers.fast_answer_set f.source;
      fast_preaccepted = f.answers.fast_preaccepted;
      fast_proposers = insert f.answers.fast_proposers proposer;
      swift_leader_answer = f.answers.swift_leader_answer;
    }

abbrev pub swift_answers_then : Facts → ℕ → FastAnswers
swift_answers_then f proposer =
    cond (answered_before f) f.answers (cond (may_count f.fixed f.source) (counted_answer f proposer) (recorded_answer f proposer))

-- an answer of another than the leader commits where the leader has answered before
abbrev pub answer_commits : Facts → ℕ → Bool
answer_commits f proposer = is_some f.answers.swift_leader_answer && unopposed (swift_needs f.quorums f.fixed) (swift_answers_then f proposer)

-- the leader's Accept is its answer, for oneself; a second one of a leader that is oneself says nothing new
abbrev pub leader_answer_commits : Facts → Bool
leader_answer_commits f =
    (not (answered_before f) || is_some f.answers.swift_leader_answer) && unopposed (swift_needs f.quorums f.fixed) (swift_answers_then f f.own)

-- ---- a Prepare

-- another than the delegate answers, unless it has accepted in the round; in SwiftPaxos the leader is not answered
abbrev pub answers_delegate : Facts → Bool → RoundV → Bool
answers_delegate f swift rv = not (is_delegate f) && not ((swift && eqb f.delegate (round_leader f)) || accepted_in_round f rv)

-- at a replica, in every mode
abbrev pub prepare_rows : Facts → Bool → RoundV → List Row
prepare_rows f swift rv =
    -- "where nothing is held: no promise is counted"
    asserts 8 (nothing_held f.held) (is_empty f.promises)
    -- "then at another than the delegate, if it answers: the delegate is the source, or is not the leader" (in SwiftPaxos that holds wherever it answers)
    ∷ asserts 8 (answers_delegate f swift rv) (eqb f.delegate f.source || not (eqb f.delegate (round_leader f)))
    ∷ []

-- "then at the delegate, where the promise completes a majority: no accept is counted in the round; the accept fits³"
abbrev pub own_accept_rows : Facts → Bool → RoundV → List Row
own_accept_rows f path rv =
    asserts 9 path (is_empty f.accepts)
    ∷ asserts 9 path (own_accept_fits f rv)
    ∷ []

abbrev pub classic_prepare : Facts → RoundV → List Row
classic_prepare f rv = then (prepare_rows f false rv) (own_accept_rows f (is_delegate f && completes f) rv)

-- "then at the delegate in EPaxos, where nothing is accepted", of a FastV and of any other
abbrev pub epaxos_answer_rows : ProposerChoice → Facts → Bool → RoundV → List Row
epaxos_answer_rows choose f path (PaxosV at v) =
    -- "the promise is a FastV"
    gives 8 path
    ∷ []
epaxos_answer_rows choose f path (FastV proposer v) =
    -- "it is no second answer from another process"
    gives 10 (path && answers_again f)
    -- "if the answer does not commit: the own proposal is among the proposers"
    ∷ asserts 8 (path && not (fast_quorum_unopposed f proposer)) (contains (epaxos_answers_then f proposer).fast_proposers f.own)
    -- "if a value is adopted: a majority has promised"
    ∷ asserts 8 (path && not (fast_quorum_unopposed f proposer) && adopts choose f proposer) (reaches_majority f (promises_then f))
    -- "no accept is counted in the round"
    ∷ asserts 9 (path && not (fast_quorum_unopposed f proposer) && adopts choose f proposer) (is_empty f.accepts)
    -- "last the 6 of a commit"; it is never first, for who commits here leads the round, and `ready_to_process` has waited for the value
    ∷ gives 6 (not f.value_held && path && fast_quorum_unopposed f proposer)
    ∷ []

abbrev pub epaxos_prepare : ProposerChoice → Facts → RoundV → List Row
epaxos_prepare choose f rv =
    then (prepare_rows f false rv)
    (then (own_accept_rows f (is_delegate f && accepted_then f rv && completes f) rv) (epaxos_answer_rows choose f (is_delegate f && not (accepted_then f rv)) rv))

-- `process_answers_at_swift_paxos_client`, Prepare: at the proposer and at a client, if it is the committer
abbrev pub swift_answer_rows : Facts → Bool → RoundV → List Row
swift_answer_rows f path (PaxosV at v) =
    -- "the promise is a FastV" (at the proposer it is one)
    gives 8 (path && f.committer)
    ∷ []
swift_answer_rows f path (FastV proposer v) =
    -- "the source is not the leader"
    asserts 8 (path && f.committer) (not (is_from_leader f))
    -- "it is no second answer from another process"
    ∷ gives 10 (path && f.committer && answers_again f)
    -- "last the 6 of a commit"
    ∷ gives 6 (not f.value_held && path && f.committer && answer_commits f proposer)
    ∷ []

abbrev pub swift_prepare : Facts → RoundV → List Row
swift_prepare f rv =
    cond f.replica
    (then (prepare_rows f true rv)
    -- "then at the leader in SwiftPaxos, where nothing is accepted: no accept is counted in the round"
    (asserts 9 (is_delegate f && oneself_leads f && not (accepted_then f rv)) (is_empty f.accepts) ∷ swift_answer_rows f (is_delegate f && not (oneself_leads f)) rv))
    (swift_answer_rows f true rv)

abbrev pub prepare_panics : ProposerChoice → PFMode → Facts → RoundV → List Row
prepare_panics choose Paxos f rv = classic_prepare f rv
prepare_panics choose MultiPaxos f rv = classic_prepare f rv
prepare_panics choose MultiPaxos3P f rv = classic_prepare f rv
prepare_panics choose Pando f rv = classic_prepare f rv
prepare_panics choose EPaxos f rv = epaxos_prepare choose f rv
prepare_panics choose SwiftPaxos f rv = swift_prepare f rv

-- ---- an Accept

-- `swift_answered` of the leader's Accept
abbrev pub leader_answer_rows : Facts → Bool → List Row
leader_answer_rows f path =
    -- "it is no second answer from another process"
    gives 10 (path && answers_again f)
    -- "the leader is in the fixed quorum, if there is one"
    ∷ asserts 8 (path && not (answered_before f)) (may_count f.fixed f.source)
    ∷ []

-- "Accept at a replica", with whether oneself is the committer in a mode in which the committer hears the accepts
abbrev pub classic_accept : Facts → Bool → ℕ → List Row
classic_accept f committer v =
    -- "the accept fits³"
    asserts 9 true (fits_held f.held f.round v)
    -- "then at another than the leader, not from the delegate: oneself is the committer, in MultiPaxos3P or SwiftPaxos"
    ∷ asserts 8 (not (oneself_leads f) && not (from_delegate f)) committer
    -- "last the 6 of a commit"
    ∷ gives 6 (not f.value_held && (oneself_leads f || committer) && accepts_enough f)
    ∷ []

abbrev pub swift_replica_accept_rows : Facts → ℕ → List Row
swift_replica_accept_rows f v =
    -- "the accept fits³"
    asserts 9 true (fits_held f.held f.round v)
    -- "then in SwiftPaxos, from the leader, at a committer that is not the leader" (the delegate of an Accept is the leader)
    ∷ then (leader_answer_rows f (not (oneself_leads f) && from_delegate f && f.committer))
    -- "then at another than the leader, not from the delegate: oneself is the committer, in MultiPaxos3P or SwiftPaxos"
    (asserts 8 (not (oneself_leads f) && not (from_delegate f)) f.committer
    -- "last the 6 of a commit"
    ∷ gives 6
    (not f.value_held
    && ((not (oneself_leads f) && from_delegate f && f.committer && leader_answer_commits f) || ((oneself_leads f || f.committer) && accepts_enough f)))
    ∷ [])

-- "Accept at a SwiftPaxos client² that is the committer"
abbrev pub swift_client_accept_rows : Facts → ℕ → List Row
swift_client_accept_rows f v =
    then (leader_answer_rows f (f.committer && is_from_leader f))
    -- "then, if the answer does not commit, and from every other source: the accept fits³"
    (asserts 9 (f.committer && not (is_from_leader f && leader_answer_commits f)) (fits_held f.held f.round v)
    -- "last the 6 of a commit"
    ∷ gives 6 (not f.value_held && f.committer && ((is_from_leader f && leader_answer_commits f) || accepts_enough f))
    ∷ [])

abbrev pub accept_panics : PFMode → Facts → ℕ → List Row
accept_panics Paxos f v = classic_accept f false v
accept_panics MultiPaxos f v = classic_accept f false v
accept_panics MultiPaxos3P f v = classic_accept f f.committer v
accept_panics Pando f v = classic_accept f false v
accept_panics EPaxos f v = classic_accept f false v
accept_panics SwiftPaxos f v = cond f.replica (swift_replica_accept_rows f v) (swift_client_accept_rows f v)

-- The engine's agreement core as functions: what a member knows, and what a proposal or a message makes of it.
-- A round is a number: 0 is no round, and the rounds (group, leader) follow in their order. Values are numbers too.
-- In the functions i is the member called, x what it knows, `source` who sent the message; s, r, a, c and v are a slot, a round, the round of
-- a held value, its proposer where that is named (counted from 1; 0 is none) and a value.
-- What mirrors a handler or a type of the engine has its name with `model` before it: `model_enter` is to a View what `enter` is to a Core.
-- Assumes nothing.
use Rattle.std.specs.Prelude.{ℕ, suc, pred, ◌-◌, Bool, true, false, not, ◌&&◌, ◌||◌, cond, List, [], ◌∷◌, ◌++◌, eqb, ltb, leb}
use Rattle.basics.specs.sets.Sets.{count}
use Rattle.agreement.specs.Voting.{Voters}

-- the answers to a member's proposal on the fast path: who has answered, how many answers name the member itself, which proposers they
-- name, and the value and the score of each proposer
pub record ModelAnswers : Type 0 where
  pub answered : ℕ → Bool
  pub preaccepted : ℕ
  pub proposers : ℕ → Bool
  pub values : ℕ → ℕ
  pub scores : ℕ → ℕ

-- what a member knows: its slot and round; whether it holds a value, that value, the round in which it was accepted (0: in none), and its
-- proposer where it is held as proposed on the fast path; who has prepared and who has accepted in its round, as far as it was told; and
-- the answers to its own proposal
pub record View : Type 0 where
  pub slot : ℕ
  pub round : ℕ
  pub holds : Bool
  pub held_round : ℕ
  pub held_proposer : ℕ
  pub held_value : ℕ
  pub prepared : ℕ → Bool
  pub accepted : ℕ → Bool
  pub answers : ModelAnswers

-- the settings of a group: who votes; the leader of a round; the round in which a member proposes; whether a slot starts in a round
-- that has a leader, which then proposes without asking; whether Accepts are answered to a committer too; and the committer of a
-- requester (both counted from 1; 0 is none)
pub record ModelSetup : Type 0 where
  pub voters : Voters
  pub leader : ℕ → ℕ
  pub own_round : ℕ → ℕ
  pub starts_led : Bool
  pub three_phases : Bool
  pub committer : ℕ → ℕ

-- Prepare (slot, round, round of the held value, its proposer, held value), Accept (slot, round, value), Commit (slot, value), and messages
-- that have no part in the agreement
pub data ModelMessage : Type 0 where
  prepare : ℕ → ℕ → ℕ → ℕ → ℕ → ModelMessage
  accept : ℕ → ℕ → ℕ → ModelMessage
  commit : ℕ → ℕ → ModelMessage
  other : ModelMessage

pub data ModelDestination : Type 0 where
  all : ModelDestination
  to : ℕ → ModelDestination

pub record ModelOutgoing : Type 0 where
  pub destination : ModelDestination
  pub message : ModelMessage

-- what is left to the host of a call: whether it lets the call through, the requester of the value, and the proposer whose value is adopted
-- on the fast path, one of the best (both counted from 1; 0 is none)
pub record Host : Type 0 where
  pub allows : Bool
  pub requester : ℕ
  pub adoptee : ℕ

-- what a call commits: nothing, or a value in a slot
pub data Decision : Type 0 where
  undecided : Decision
  decided : ℕ → ℕ → Decision

-- what a call leaves: what the member then knows, the messages, the commit, and whether the call was taken (not refused)
pub record ModelOutcome : Type 0 where
  pub view : View
  pub outgoing : List ModelOutgoing
  pub decision : Decision
  pub taken : Bool

-- ---- sets of members

abbrev pub empty : ℕ → Bool
empty k = false

abbrev pub add : ℕ → (ℕ → Bool) → ℕ → Bool
add m f k = eqb k m || f k

-- ---- what a member knows next

-- no answer: every score is 2
abbrev pub model_no_answers : ModelAnswers
model_no_answers = record { answered = empty; preaccepted = 0; proposers = empty; values = λ p. 0; scores = λ p. 2 }

-- one more for an answer from another than the proposer, one less from the proposer itself
abbrev pub model_score_after : ℕ → ℕ → ℕ → ℕ
model_score_after m p n = cond (eqb m p) (n - 1) (suc n)

-- m has answered i's proposal, and names p and its value
abbrev pub model_with_answer : ℕ → ℕ → ℕ → ℕ → ModelAnswers → ModelAnswers
model_with_answer i m p v f = record {
  answered = add m f.answered;
  preaccepted = cond (eqb p i) (suc f.preaccepted) f.preaccepted;
  proposers = add p f.proposers;
  values = λ q. cond (eqb q p) v (f.values q);
  scores = λ q. cond (eqb q p) (model_score_after m p (f.scores p)) (f.scores q);
}

-- in slot s and round r, with nothing held and nobody heard of
abbrev pub fresh : ℕ → ℕ → View
fresh s r = record { slot = s; round = r; holds = false; held_round = 0; held_proposer = 0; held_value = 0; prepared = empty; accepted = empty; answers = model_no_answers }

-- a new member
abbrev pub model_initial : ℕ → View
model_initial start = fresh 0 start

-- after a commit
abbrev pub advanced : ℕ → View → View
advanced start x = fresh (suc x.slot) start

-- in another round of the slot: both sets are of the round, and what is held is kept, as are the answers
abbrev pub in_later_round : ℕ → View → View
in_later_round r x = record { slot = x.slot; round = r; holds = x.holds; held_round = x.held_round; held_proposer = x.held_proposer; held_value = x.held_value; prepared = empty; accepted = empty; answers = x.answers }

-- holding another value
abbrev pub holding_other_value : ℕ → ℕ → ℕ → View → View
holding_other_value a c v x = record { slot = x.slot; round = x.round; holds = true; held_round = a; held_proposer = c; held_value = v; prepared = x.prepared; accepted = x.accepted; answers = x.answers }

-- told that m has prepared
abbrev pub prepared_by : ℕ → View → View
prepared_by m x = record { slot = x.slot; round = x.round; holds = x.holds; held_round = x.held_round; held_proposer = x.held_proposer; held_value = x.held_value; prepared = add m x.prepared; accepted = x.accepted; answers = x.answers }

-- told that m has accepted
abbrev pub accepted_by : ℕ → View → View
accepted_by m x = record { slot = x.slot; round = x.round; holds = x.holds; held_round = x.held_round; held_proposer = x.held_proposer; held_value = x.held_value; prepared = x.prepared; accepted = add m x.accepted; answers = x.answers }

-- having accepted v itself, in its round
abbrev pub model_voted : ℕ → ℕ → View → View
model_voted i v x = record { slot = x.slot; round = x.round; holds = true; held_round = x.round; held_proposer = 0; held_value = v; prepared = x.prepared; accepted = add i x.accepted; answers = x.answers }

-- with other answers to its proposal
abbrev pub with_answers : ModelAnswers → View → View
with_answers f x = record { slot = x.slot; round = x.round; holds = x.holds; held_round = x.held_round; held_proposer = x.held_proposer; held_value = x.held_value; prepared = x.prepared; accepted = x.accepted; answers = f }

-- ---- outcomes without a commit

abbrev pub model_refused : View → ModelOutcome
model_refused x = record { view = x; outgoing = []; decision = undecided; taken = false }

abbrev pub model_sends : View → List ModelOutgoing → ModelOutcome
model_sends x os = record { view = x; outgoing = os; decision = undecided; taken = true }

abbrev pub quiet : View → ModelOutcome
quiet x = model_sends x []

-- ---- the calls

-- x holds a value of a round before a
abbrev pub holds_before : ℕ → View → Bool
holds_before a x = ltb x.held_round a

module _ (S : ModelSetup) where
  -- a quorum has prepared, a quorum has accepted, as far as the member was told
  abbrev pub enough_prepared : View → Bool
  enough_prepared x = leb S.voters.quorum (count x.prepared S.voters.count)

  abbrev pub enough_accepted : View → Bool
  enough_accepted x = leb S.voters.quorum (count x.accepted S.voters.count)

  -- what a Prepare and an Accept have in common: what is of the past is not answered, what is of a later slot or from a member that is
  -- not live is refused, and to a later round of the slot the member goes along
  unfoldable pub model_enter : ℕ → View → ℕ → ℕ → ℕ → (View → ModelOutcome) → ModelOutcome
  model_enter i x source s r next =
      cond (not (S.voters.live i)) (quiet x)
      (cond (ltb s x.slot || ltb r x.round) (quiet x)
      (cond (not (eqb s x.slot) || not (S.voters.live source)) (model_refused x)
      (next (cond (ltb x.round r) (in_later_round r x) x))))

  -- a promise counted: of two held values the one of the later round is held
  unfoldable pub model_counted : ℕ → ℕ → ℕ → ℕ → ℕ → View → View
  model_counted i source a c v x = prepared_by i (prepared_by source (cond (holds_before a x) (holding_other_value a c v x) x))

  -- the delegate votes for v and asks all to, unless it has voted in the round; x0 is the view before the call
  unfoldable pub casts : ℕ → View → ℕ → View → ModelOutcome
  casts i x0 v x = cond (x.accepted i) (model_refused x0) (model_sends (model_voted i v x) (record { destination = all; message = accept x.slot x.round v } ∷ []))

  -- the delegate picks the held value at the promise that completes a quorum: `old` is the view before that promise, x the view with it
  unfoldable pub picks : ℕ → View → View → View → ModelOutcome
  picks i x0 old x = cond (ltb (count old.prepared S.voters.count) S.voters.quorum && enough_prepared x) (casts i x0 x.held_value x) (quiet x)

  -- ---- the fast path

  -- all who answered name the member itself, and are a fast quorum
  abbrev pub fast_quorum_answered : ModelAnswers → Bool
  fast_quorum_answered f = eqb (count f.proposers S.voters.count) 1 && leb S.voters.fast_quorum f.preaccepted

  -- a quorum has answered, and names two proposers or more
  abbrev pub may_adopt : ModelAnswers → Bool
  may_adopt f = leb S.voters.quorum (count f.answered S.voters.count) && leb 2 (count f.proposers S.voters.count)

  -- p is a proposer, and none has a better score
  abbrev pub is_best : ℕ → ModelAnswers → Bool
  is_best p f = f.proposers p && eqb (count (λ q. f.proposers q && ltb (f.scores p) (f.scores q)) S.voters.count) 0

  -- the value of one of the best proposers goes into the accept phase
  unfoldable pub model_adopts_best : ℕ → Host → View → View → ModelOutcome
  model_adopts_best i h x0 x =
      cond (eqb h.adoptee 0) (quiet x)
      (cond (is_best (pred h.adoptee) x.answers && enough_prepared x) (casts i x0 (x.answers.values (pred h.adoptee)) x) (model_refused x0))

  -- an answer was counted: it completes a fast quorum for the member's own value, which is v; or a value is adopted, or nothing happens
  unfoldable pub decides : ℕ → ℕ → Host → View → View → ModelOutcome
  decides i v h x0 x =
      cond (fast_quorum_answered x.answers)
      (record {
        view = advanced S.voters.start x;
        outgoing = record { destination = all; message = commit x.slot x.held_value } ∷ [];
        decision = decided x.slot v;
        taken = true;
      })
      (cond (may_adopt x.answers) (model_adopts_best i h x0 x) (quiet x))

  -- an answer on the fast path names a proposer; it counts once, and one's own may come again
  unfoldable pub answering : ℕ → ℕ → ℕ → ℕ → Host → View → View → ModelOutcome
  answering i source c v h x0 x =
      cond (eqb c 0) (model_refused x0)
      (cond (x.answers.answered source) (cond (eqb source i) (decides i v h x0 x) (model_refused x0))
      (decides i v h x0 (with_answers (model_with_answer i source (pred c) v x.answers) x)))

  -- a promise to the delegate, counted in x: an answer on the fast path as long as nothing was accepted in a round
  unfoldable pub model_gathers : ℕ → ℕ → ℕ → ℕ → Host → View → View → View → ModelOutcome
  model_gathers i source c v h x0 old x = cond (S.voters.fast_path && eqb x.held_round 0) (answering i source c v h x0 x) (picks i x0 old x)

  -- the delegate counts a promise; another member sends the delegate its own, unless it has accepted in the round
  unfoldable pub model_promised : ℕ → ℕ → ℕ → ℕ → ℕ → Host → View → View → ModelOutcome
  model_promised i source a c v h x0 x =
      cond (eqb (S.voters.delegate x.round) i) (model_gathers i source c v h x0 x (model_counted i source a c v x))
      (cond (eqb x.held_round x.round) (quiet x)
      (model_sends x (record { destination = to (S.voters.delegate x.round); message = prepare x.slot x.round x.held_round x.held_proposer x.held_value } ∷ [])))

  unfoldable pub model_on_prepare : ℕ → View → ℕ → ℕ → ℕ → ℕ → ℕ → ℕ → Host → ModelOutcome
  model_on_prepare i x source s r a c v h = model_enter i x source s r (λ y. model_promised i source a c v h x (cond y.holds y (prepared_by i (holding_other_value a c v y))))

  -- the held value is committed once a quorum has accepted it, and all are told where `tell` says so
  unfoldable pub model_commits : View → List ModelOutgoing → Bool → ModelOutcome
  model_commits x os tell =
      cond (enough_accepted x)
      (record {
        view = advanced S.voters.start x;
        outgoing = cond tell (os ++ (record { destination = all; message = commit x.slot x.held_value } ∷ [])) os;
        decision = decided x.slot x.held_value;
        taken = true;
      })
      (model_sends x os)

  -- the replies to an Accept: to the committer c, where there is one besides the leader and oneself, and to the leader
  unfoldable pub replies : ℕ → ℕ → View → List ModelOutgoing
  replies i c x =
      let o : List ModelOutgoing = record { destination = to (S.leader x.round); message = accept x.slot x.round x.held_value } ∷ [] in
      cond (eqb c 0 || eqb c (suc i) || eqb c (suc (S.leader x.round))) o
      (record { destination = to (pred c); message = accept x.slot x.round x.held_value } ∷ o)

  -- the leader and the committer commit; an Accept of the round's delegate is answered
  unfoldable pub model_after_accept : ℕ → ℕ → Host → View → View → ModelOutcome
  model_after_accept i source h x0 x =
      let c : ℕ = cond S.three_phases (S.committer h.requester) 0 in
      cond (eqb i (S.leader x.round)) (model_commits x [] true)
      (cond (eqb source (S.voters.delegate x.round))
      (cond (eqb c (suc i)) (model_commits x (replies i c x) (not (eqb h.requester (suc i)))) (model_sends x (replies i c x)))
      (cond (eqb c (suc i)) (model_commits x [] (not (eqb h.requester (suc i)))) (model_refused x0)))

  -- a value is accepted unless another was accepted in the round
  unfoldable pub model_on_accept : ℕ → View → ℕ → ℕ → ℕ → ℕ → Host → ModelOutcome
  model_on_accept i x source s r v h = model_enter i x source s r (λ y.
      cond (ltb y.held_round y.round || (eqb y.held_round y.round && eqb y.held_value v)) (model_after_accept i source h x (accepted_by source (model_voted i v y))) (model_refused x))

  unfoldable pub model_on_commit : ℕ → View → ℕ → ℕ → ModelOutcome
  model_on_commit i x s v =
      cond (ltb s x.slot) (quiet x)
      (cond (eqb s x.slot) (record { view = advanced S.voters.start x; outgoing = []; decision = decided x.slot v; taken = true }) (model_refused x))

  -- a proposal on the fast path: the member answers it first
  abbrev pub model_own_answer : ℕ → ℕ → View → View
  model_own_answer i v x = with_answers (model_with_answer i i i v x.answers) x

  -- a live member that has not left the starting round and holds nothing proposes: the leader of that round by an Accept, and where no
  -- round is led from the start any member, by a Prepare in a round of its own; on the fast path it names itself, and nobody has answered
  unfoldable pub model_on_propose : ℕ → View → ℕ → ModelOutcome
  model_on_propose i x v =
      cond (S.voters.live i && (eqb x.round S.voters.start && not x.holds))
      (cond S.starts_led
      (cond (eqb i (S.voters.delegate x.round))
      (model_sends (model_voted i v (prepared_by i (holding_other_value 0 0 v (in_later_round x.round x)))) (record { destination = all; message = accept x.slot x.round v } ∷ []))
      (model_refused x))
      (cond S.voters.fast_path
      (cond (eqb (count x.answers.answered S.voters.count) 0)
      (model_sends (model_own_answer i v (prepared_by i (holding_other_value 0 (suc i) v (in_later_round (S.own_round i) x)))) (record { destination = all; message = prepare x.slot (S.own_round i) 0 (suc i) v } ∷ []))
      (model_refused x))
      (model_sends (prepared_by i (holding_other_value 0 0 v (in_later_round (S.own_round i) x))) (record { destination = all; message = prepare x.slot (S.own_round i) 0 0 v } ∷ []))))
      (model_refused x)

  unfoldable pub model_on_message : ℕ → View → ℕ → Host → ModelMessage → ModelOutcome
  model_on_message i x source h (prepare s r a c v) = model_on_prepare i x source s r a c v h
  model_on_message i x source h (accept s r v) = model_on_accept i x source s r v h
  model_on_message i x source h (commit s v) = model_on_commit i x s v
  model_on_message i x source h other = quiet x

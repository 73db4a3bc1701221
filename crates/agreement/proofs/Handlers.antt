-- Each call of the model is correct: on a true view and with a true message it leaves a true view, true messages and a chosen commit, in a
-- world that has grown. The handlers, branch by branch.
-- Assumes nothing.
use Rattle.std.specs.Bool.{passes}
use Rattle.std.proofs.Math.Bool.{not-not}
use Prim.Native.Nat.{ℕ, suc, pred, ◌+◌, ◌≤◌, ◌<◌}
use mathlib.Core.Path.{◌≡◌, refl, sym, ◌∙◌, subst, ap}
use mathlib.Core.Bool.{Bool, true, false, not, ◌&&◌, ◌||◌, cond}
use mathlib.Core.Logic.{◌⊎◌, inl, inr}
use mathlib.Core.List.{List, [], ◌∷◌, ◌++◌}
use lib.Dec.{T, eqb, ltb, leb, eqb→eq, ltb→lt, leb→le, nltb→le, T_not}
use native.Mathlib.Omega.{arith}
use native.Mathlib.Decide.{dec_le, dec_lt, ℕ_discrete}
use borrow.Author.Tests.{eq-eqb, lt-ltb}
use Rattle.basics.specs.sets.Sets.{one, count}
use Rattle.basics.proofs.sets.Counting.{count_some, count_meet}
use Rattle.basics.proofs.Tests as basic
use Rattle.agreement.specs.Voting.{Voters, World, Voted, ModelPromise, Clear, Safe, Consistent, Chosen}
use Rattle.agreement.specs.Model.{View, ModelAnswers, ModelSetup, ModelMessage, prepare, accept, commit, other, all, ModelOutgoing, Host, Decision, undecided, decided, ModelOutcome, in_later_round, advanced, holding_other_value, prepared_by, accepted_by, model_voted, model_with_answer, with_answers, model_refused, quiet, model_sends, holds_before, enough_prepared, enough_accepted, fast_quorum_answered, may_adopt, is_best, model_enter, model_counted, casts, picks, model_adopts_best, decides, answering, model_gathers, model_promised, model_on_prepare, model_commits, replies, model_after_accept, model_on_accept, model_on_commit, model_own_answer, model_on_propose, model_on_message}
use Rattle.agreement.specs.Refinement.{SetupRules, OnlyOther}
use Rattle.agreement.proofs.Tests.{is_true, by_test, both_hold, nor_both, neqb→ne}
use Rattle.agreement.proofs.Growth.{Grows, grows_refl, grows_trans, voted_stays, promise_stays, chosen_stays, names, TrueAnswers, TrueView}
use Rattle.agreement.proofs.Answers.{count_sum, count_nobody, add_self, proposer_first, answer_true}
use Rattle.agreement.proofs.Adopting.{adopt_clear}
use Rattle.agreement.proofs.Moves.{add_reached, add_first, add_vote, add_proposal, add_reached_grows, add_reached_consistent, add_first_grows, MayHold, add_first_consistent, add_proposal_grows, add_proposal_consistent, add_proposal_true, later_onward, next_onward, joined_true, cleared_true, advanced_true, adopted_true, held_true, prepared_by_true, own_promise, accepted_by_true, with_answers_true, MayVote, vote_grows, vote_consistent, voted_true}

-- A message of member m is true: a Prepare is a promise of m, and what it holds was voted, or is what m held first; an Accept is a vote of m;
-- and what is committed is chosen.
abbrev pub MessageTrue : Voters → World → ℕ → ModelMessage → Type 0
MessageTrue g w m (prepare s r a c v) = ModelPromise g w m s r a × (a < r) × (1 ≤ a → Voted w s a v) × w.Proposed s v × (a ≡ 0 → w.First m s c v)
MessageTrue g w m (accept s r v) = w.Votes m s r v
MessageTrue g w m (commit s v) = Chosen g w s v
MessageTrue g w m other = Unit {0}

abbrev pub OutgoingTrue : Voters → World → ℕ → List ModelOutgoing → Type 0
OutgoingTrue g w m [] = Unit {0}
OutgoingTrue g w m (o ∷ os) = MessageTrue g w m o.message × OutgoingTrue g w m os

abbrev pub DecisionTrue : Voters → World → Decision → Type 0
DecisionTrue g w undecided = Unit {0}
DecisionTrue g w (decided s v) = Chosen g w s v

pub message_stays : (g : Voters) (P : ℕ → ℕ → Type 0) (i : ℕ) (w w' : World) → Grows g P i w w'
    → (m : ℕ) (c : ModelMessage) → MessageTrue g w m c → MessageTrue g w' m c
message_stays g P i w w' e m (prepare s r a c v) k =
    (promise_stays g P i w w' e m s r a k.0, k.1, (λ l. voted_stays g P i w w' e s a v (k.2 l)), e.proposed s v k.3, λ z. e.first m s c v (k.4 z))
message_stays g P i w w' e m (accept s r v) k = e.votes m s r v k
message_stays g P i w w' e m (commit s v) k = chosen_stays g P i w w' e s v k
message_stays g P i w w' e m other k = tt

outgoing_stays : (g : Voters) (P : ℕ → ℕ → Type 0) (i : ℕ) (w w' : World) → Grows g P i w w'
    → (m : ℕ) (os : List ModelOutgoing) → OutgoingTrue g w m os → OutgoingTrue g w' m os
outgoing_stays g P i w w' e m [] k = tt
outgoing_stays g P i w w' e m (o ∷ os) k = (message_stays g P i w w' e m o.message k.0, outgoing_stays g P i w w' e m os k.1)

outgoing_and_one : (g : Voters) (w : World) (m : ℕ) (os : List ModelOutgoing) (o : ModelOutgoing)
    → OutgoingTrue g w m os → MessageTrue g w m o.message → OutgoingTrue g w m (os ++ (o ∷ []))
outgoing_and_one g w m [] o k h = (h, tt)
outgoing_and_one g w m (p ∷ os) o k h = (k.0, outgoing_and_one g w m os o k.1 h)

-- What a call of member i leaves, which proposes what P says: the world has grown, and in it the view and the messages are true and the
-- commit is chosen.
pub record Correct (g : Voters) (P : ℕ → ℕ → Type 0) (i : ℕ) (w : World) (r : ModelOutcome) : Type 1 where
  pub world : World
  pub grows : Grows g P i w world
  pub consistent : Consistent g world
  pub view : TrueView g world i r.view
  pub outgoing : OutgoingTrue g world i r.outgoing
  pub decision : DecisionTrue g world r.decision

only_other_true : (g : Voters) (w : World) (i : ℕ) (os : List ModelOutgoing) → OnlyOther os → OutgoingTrue g w i os
only_other_true g w i [] k = tt
only_other_true g w i (o ∷ os) k = (subst (MessageTrue g w i) (sym k.0) tt, only_other_true g w i os k.1)

-- a call that leaves the view as it is, commits nothing and sends only messages that say nothing
pub idle_correct : (g : Voters) (P : ℕ → ℕ → Type 0) (i : ℕ) (w : World) → Consistent g w → (x : View) → TrueView g w i x
    → (r : ModelOutcome) → r.view ≡ x → r.decision ≡ undecided → OnlyOther r.outgoing → Correct g P i w r
idle_correct g P i w ok x o r same_view no_commit k = record {
  world = w;
  grows = grows_refl g P i w;
  consistent = ok;
  view = subst (TrueView g w i) (sym same_view) o;
  outgoing = only_other_true g w i r.outgoing k;
  decision = subst (DecisionTrue g w) (sym no_commit) tt;
}

-- what a proposal, not refused, makes proposed
abbrev pub NewProposal : View → ℕ → Bool → ℕ → ℕ → Type 0
NewProposal x v taken s' v' = T taken × (s' ≡ x.slot) × (v' ≡ v)

-- a proposal that is the only one of a set of them
only_one : (f : ℕ → Bool) (n a b : ℕ) → count f n ≡ 1 → T (f a) → T (f b) → a < n → b < n → a ≡ b
only_one f n a b e ta tb la lb = go (ℕ_discrete a b)
  where
    pointwise : (a ≡ b → ⊥) → (m : ℕ) → (x y : Bool) → eqb m a ≡ x → eqb m b ≡ y → one false + one x + one y ≤ one (f m) + one false
    pointwise ne m true true p q = absurd (ne (sym (eqb→eq m a (passes (eqb m a) p)) ∙ eqb→eq m b (passes (eqb m b) q)))
    pointwise ne m true false p q =
        let z : one (f m) ≡ 1 = ap one (is_true (f m) (subst (λ (j : ℕ). T (f j)) (sym (eqb→eq m a (passes (eqb m a) p))) ta)) in omega arith
    pointwise ne m false true p q =
        let z : one (f m) ≡ 1 = ap one (is_true (f m) (subst (λ (j : ℕ). T (f j)) (sym (eqb→eq m b (passes (eqb m b) q))) tb)) in omega arith
    pointwise ne m false false p q = omega arith

    go : Dec (a ≡ b) → a ≡ b
    go (yes d) = d
    go (no ne) =
        let sum = count_sum (λ m. false) (λ m. eqb m a) (λ m. eqb m b) f (λ m. false) n (λ m. pointwise ne m (eqb m a) (eqb m b) refl refl) in
        let ca = count_some (λ m. eqb m a) a (eq-eqb a a refl) n la in
        let cb = count_some (λ m. eqb m b) b (eq-eqb b b refl) n lb in
        let z = count_nobody (λ m. false) n (λ m t. t) in
        absurd (omega arith)

-- a set that is not empty has a member
some_member : (f : ℕ → Bool) (n : ℕ) → 1 ≤ count f n → (m : ℕ) × T (f m)
some_member f n l = let k = count_meet f f f n (λ m l e. e) (λ m l e. e) (omega arith) in (k.0, passes (f k.0) k.2)

not_and : (a b : Bool) → T (not (a && b)) → T b → T (not a)
not_and true true t u = t
not_and true false t u = absurd u
not_and false b t u = tt

from_pred : (c : ℕ) → T (not (eqb c 0)) → c ≡ suc (pred c)
from_pred c t = let ne = neqb→ne c 0 t in omega arith

module _ (S : ModelSetup) (rules : SetupRules S) where
  abbrev g : Voters
  g = S.voters

  -- the starting round is nobody's own on the fast path
  start_own : T g.fast_path → 1 ≤ g.start → g.start ≡ suc (g.delegate g.start)
  start_own t l = let z = rules.voters.no_start t in absurd (omega arith)

  module _ (P : ℕ → ℕ → Type 0) (i : ℕ) (w : World) (ok : Consistent g w) (x0 : View) (o0 : TrueView g w i x0) where
    abbrev Keeps : ModelOutcome → Type 1
    Keeps = Correct g P i w

    quiet_correct : Keeps (quiet x0)
    quiet_correct = idle_correct g P i w ok x0 o0 (quiet x0) refl refl tt

    refuse_correct : Keeps (model_refused x0)
    refuse_correct = idle_correct g P i w ok x0 o0 (model_refused x0) refl refl tt

    -- on the way through a handler: the world has grown to w1, and the view x is true of it
    module _ (w1 : World) (e1 : Grows g P i w w1) (ok1 : Consistent g w1) (x : View) (o : TrueView g w1 i x) where
      say_correct : (os : List ModelOutgoing) → OutgoingTrue g w1 i os → Keeps (model_sends x os)
      say_correct os k = record { world = w1; grows = e1; consistent = ok1; view = o; outgoing = k; decision = tt }

      -- the world after a commit
      abbrev w⁺ : World
      w⁺ = add_reached w1 i (suc x.slot) g.start

      next_grows : Grows g P i w1 w⁺
      next_grows = add_reached_grows g P w1 i (suc x.slot) g.start (next_onward g w1 ok1 i x o)

      next_consistent : Consistent g w⁺
      next_consistent = add_reached_consistent g w1 i (suc x.slot) g.start (next_onward g w1 ok1 i x o) start_own ok1

      -- who has accepted has voted for the held value: with a quorum of them it is chosen
      commits_correct : (os : List ModelOutgoing) (tell : Bool) → OutgoingTrue g w1 i os → Keeps (model_commits S x os tell)
      unfolding model_commits
      commits_correct os tell k = by_test Keeps (enough_accepted S x) _ _
          (λ t. let enough : g.quorum ≤ count x.accepted g.count = leb→le g.quorum (count x.accepted g.count) t in
          let c : Chosen g w⁺ x.slot x.held_value = inl (x.round, (x.accepted, enough, λ m h. (o.accepts m h).1)) in
          record {
            world = w⁺;
            grows = grows_trans g P i w w1 w⁺ e1 next_grows;
            consistent = next_consistent;
            view = advanced_true g w1 ok1 i x o;
            outgoing = by_test (OutgoingTrue g w⁺ i) tell _ _
                (λ _. outgoing_and_one g w⁺ i os (record { destination = all; message = commit x.slot x.held_value }) (outgoing_stays g P i w1 w⁺ next_grows i os k)
                c)
                (λ _. outgoing_stays g P i w1 w⁺ next_grows i os k);
            decision = c;
          })
          (λ t. say_correct os k)

      replies_true : (c : ℕ) → w1.Votes i x.slot x.round x.held_value → OutgoingTrue g w1 i (replies S i c x)
      unfolding replies
      replies_true c h = by_test (OutgoingTrue g w1 i) (eqb c 0 || eqb c (suc i) || eqb c (suc (S.leader x.round))) _ _
          (λ _. (h, tt)) (λ _. (h, (h, tt)))

      after_accept_correct : (source : ℕ) (h : Host) → w1.Votes i x.slot x.round x.held_value → Keeps (model_after_accept S i source h x0 x)
      unfolding model_after_accept
      after_accept_correct source h vote =
          let c : ℕ = cond S.three_phases (S.committer h.requester) 0 in
          let tell : Bool = not (eqb h.requester (suc i)) in
          by_test Keeps (eqb i (S.leader x.round)) _ _ (λ _. commits_correct [] true tt)
          (λ _. by_test Keeps (eqb source (g.delegate x.round)) _ _
          (λ _. by_test Keeps (eqb c (suc i)) _ _
          (λ _. commits_correct (replies S i c x) tell (replies_true c vote))
          (λ _. say_correct (replies S i c x) (replies_true c vote)))
          (λ _. by_test Keeps (eqb c (suc i)) _ _ (λ _. commits_correct [] tell tt) (λ _. refuse_correct)))

      -- from here x is the view of the round's delegate, which is live and holds something
      module _ (live-i : T (g.live i)) (holds : T x.holds) (in_round_lem : 1 ≤ x.round) (delegated : i ≡ g.delegate x.round) where
        -- the delegate votes for a value that is safe; nobody has voted in the round, or the delegate would know of its own vote
        casts_correct : (v : ℕ) → w1.Proposed x.slot v → (((m v' : ℕ) → w1.Votes m x.slot x.round v' → ⊥) → Safe g w1 x.slot x.round v) → Keeps (casts S i x0 v x)
        unfolding casts
        casts_correct v p safe = by_test Keeps (x.accepted i) _ _ (λ _. refuse_correct)
            (λ not_yet. let unvoted : (m v' : ℕ) → w1.Votes m x.slot x.round v' → ⊥ = λ m v' h. T_not (x.accepted i) not_yet (o.picked m v' h delegated) in
            let f : MayVote g w1 i x v = inr (delegated, unvoted, safe unvoted) in
            let w2 : World = add_vote w1 i x.slot x.round v in
            record {
              world = w2;
              grows = grows_trans g P i w w1 w2 e1 (vote_grows g w1 ok1 i x o v live-i holds in_round_lem p f P);
              consistent = vote_consistent g w1 ok1 i x o v live-i holds in_round_lem p f;
              view = voted_true g w1 ok1 i x o v live-i holds in_round_lem p f;
              outgoing = (inr (refl, refl, refl, refl), tt);
              decision = tt;
            })

        -- the delegate picks what it holds: a quorum has promised, so that is safe, and without a fast path there is no fast commit
        picks_correct : (old : View) → (x.held_round ≡ 0 → T (not g.fast_path)) → Keeps (picks S i x0 old x)
        unfolding picks
        picks_correct old slow = by_test Keeps (ltb (count old.prepared g.count) g.quorum && enough_prepared S x) _ _
            (λ t. let enough = leb→le g.quorum (count x.prepared g.count) (both_hold (ltb (count old.prepared g.count) g.quorum) (enough_prepared S x) t).1 in
            casts_correct x.held_value (o.held.held_proposed holds) (λ unvoted. inr (
              x.prepared,
              x.held_round,
              enough,
              o.promises,
              (λ l. (later unvoted l (dec_lt x.held_round x.round), o.held.held_voted l)),
              λ z p l. inr (inr (g.live, rules.voters.no_fast (slow z), λ m t. inl t)),
            )))
            (λ t. say_correct [] tt)
          where
            -- what is held was not voted in this round, in which nobody has voted
            later : ((m v' : ℕ) → w1.Votes m x.slot x.round v' → ⊥) → 1 ≤ x.held_round → Dec (x.held_round < x.round) → x.held_round < x.round
            later unvoted l (yes h) = h
            later unvoted l (no h) =
                let c = o.held.held_bound in
                let e : x.held_round ≡ x.round = omega arith in
                let d = o.held.held_voted l in
                absurd (unvoted d.0 x.held_value (subst (λ (r : ℕ). w1.Votes d.0 x.slot r x.held_value) e d.1))

        -- ---- the fast path: nothing was accepted in a round, and the round is the delegate's own
        module _ (fast : T g.fast_path) (zero-round : x.held_round ≡ 0) where
          own_round_lem : x.round ≡ suc i
          own_round_lem = ok1.own_rounds fast i x.slot x.round o.position.at in_round_lem ∙ ap suc (sym delegated)

          -- a proposer that an answer names is a process
          proposer_below : (p : ℕ) → T (x.answers.proposers p) → p < g.count
          proposer_below p t =
              rules.voters.below fast p (ok1.first_live p x.slot (suc p) (x.answers.values p) (proposer_first g w1 ok1 i x.slot x.answers o.answers p t))

          -- the value of one of the best proposers, a quorum having answered and promised
          adopts_correct : (h : Host) → T (may_adopt S x.answers) → Keeps (model_adopts_best S i h x0 x)
          unfolding model_adopts_best
          adopts_correct h may = by_test Keeps (eqb h.adoptee 0) _ _ (λ _. say_correct [] tt)
              (λ _. by_test Keeps (is_best S b x.answers && enough_prepared S x) _ _
              (λ t. let both = both_hold (is_best S b x.answers) (enough_prepared S x) t in
              let top = both_hold (x.answers.proposers b) (eqb (count better g.count) 0) both.0 in
              let first = proposer_first g w1 ok1 i x.slot x.answers o.answers b top.0 in
              casts_correct (x.answers.values b) (ok1.first_proposed b x.slot (suc b) (x.answers.values b) first) (λ unvoted. inr (
                x.prepared,
                x.held_round,
                leb→le g.quorum (count x.prepared g.count) both.1,
                o.promises,
                (λ l. absurd (omega arith)),
                λ z p l. subst (λ (r : ℕ). Clear g w1 x.slot r (x.answers.values b) p) (sym own_round_lem)
                    (adopt_clear g rules.voters fast w1 ok1 i x.slot x.answers o.answers enough b top.0 (λ q n. none_better top.1 q n (dec_le (x.answers.scores q) (x.answers.scores b))) p),
              )))
              (λ _. refuse_correct))
            where
              b : ℕ
              b = pred h.adoptee

              better : ℕ → Bool
              better q = x.answers.proposers q && ltb (x.answers.scores b) (x.answers.scores q)

              enough : g.quorum ≤ count x.answers.answered g.count
              enough =
                  leb→le g.quorum (count x.answers.answered g.count)
                  (both_hold (leb g.quorum (count x.answers.answered g.count)) (leb 2 (count x.answers.proposers g.count)) may).0

              none_better : T (eqb (count better g.count) 0) → (q : ℕ) → T (x.answers.proposers q) → Dec (x.answers.scores q ≤ x.answers.scores b) → x.answers.scores q ≤ x.answers.scores b
              none_better none q n (yes le) = le
              none_better none q n (no gt) =
                  let z = eqb→eq (count better g.count) 0 none in
                  let passes-q : better q ≡ true = basic.and_both (is_true (x.answers.proposers q) n) (lt-ltb (x.answers.scores b) (x.answers.scores q) (omega arith)) in
                  let some = count_some better q passes-q g.count (proposer_below q n) in
                  absurd (omega arith)

          -- an answer of `source` was counted, which names p and v
          decides_correct : (source p v : ℕ) (h : Host) → T (x.answers.answered source) → w1.First source x.slot (suc p) v → Keeps (decides S i v h x0 x)
          unfolding decides
          decides_correct source p v h counted_answer_lem first = by_test Keeps (fast_quorum_answered S x.answers) _ _
              (λ t. let both = both_hold (eqb (count x.answers.proposers g.count) 1) (leb g.fast_quorum x.answers.preaccepted) t in
              committed (eqb→eq (count x.answers.proposers g.count) 1 both.0) (leb→le g.fast_quorum x.answers.preaccepted both.1))
              (λ _. by_test Keeps (may_adopt S x.answers) _ _ (λ may. adopts_correct h may) (λ _. say_correct [] tt))
            where
              a : TrueAnswers g w1 i x.slot x.answers
              a = o.answers

              holders : ℕ → Bool
              holders = names x.answers a.name i

              committed : count x.answers.proposers g.count ≡ 1 → g.fast_quorum ≤ x.answers.preaccepted
                  → Keeps (record { view = advanced g.start x; outgoing = record { destination = all; message = commit x.slot x.held_value } ∷ []; decision = decided x.slot v; taken = true })
              committed one-proposer enough = record {
                world = w⁺;
                grows = grows_trans g P i w w1 w⁺ e1 next_grows;
                consistent = next_consistent;
                view = advanced_true g w1 ok1 i x o;
                outgoing = (subst (λ (u : ℕ). Chosen g w⁺ x.slot u) (sym held_same) chosen, tt);
                decision = chosen;
              }
                where
                  fast_enough_lem : g.fast_quorum ≤ count holders g.count
                  fast_enough_lem = let e = a.preaccepts in omega arith

                  -- some answer names i
                  one_holder : (m : ℕ) × T (holders m)
                  one_holder = some_member holders g.count (let l = rules.voters.fast_large fast in let q = rules.voters.majority in let f = fast_enough_lem in omega arith)

                  holder_says : (m : ℕ) → T (holders m) → T (x.answers.answered m) × (a.name m ≡ i)
                  holder_says m t = let k = both_hold (x.answers.answered m) (eqb (a.name m) i) t in (k.0, eqb→eq (a.name m) i k.1)

                  own_proposal : T (x.answers.proposers i)
                  own_proposal = let k = holder_says one_holder.0 one_holder.1 in subst (λ (q : ℕ). T (x.answers.proposers q)) k.1 (a.proposer one_holder.0 k.0)

                  -- the answer that was counted names i too, and so v is i's value
                  named_i : a.name source ≡ i
                  named_i =
                      let named = a.proposer source counted_answer_lem in
                      only_one x.answers.proposers g.count (a.name source) i one-proposer named own_proposal (proposer_below (a.name source) named) (proposer_below i own_proposal)

                  own_value : x.answers.values i ≡ v
                  own_value =
                      ap x.answers.values (sym named_i)
                      ∙ (ok1.first_once source x.slot (suc (a.name source)) (x.answers.values (a.name source)) (suc p) v (a.says source counted_answer_lem) first).1

                  own_first : w1.First i x.slot (suc i) (x.answers.values i)
                  own_first = proposer_first g w1 ok1 i x.slot x.answers a i own_proposal

                  held_same : x.held_value ≡ v
                  held_same = (ok1.first_once i x.slot x.held_proposer x.held_value (suc i) (x.answers.values i) (o.held.held_still holds zero-round) own_first).1 ∙ own_value

                  holder_first : (m : ℕ) → T (holders m) → w1.First m x.slot (suc i) v
                  holder_first m t =
                      let k = holder_says m t in
                      subst (λ (u : ℕ). w1.First m x.slot (suc i) u) own_value
                      (subst (λ (q : ℕ). w1.First m x.slot (suc q) (x.answers.values q)) k.1 (a.says m k.0))

                  position : (r : ℕ) → (w1.Reached i x.slot r) ⊎ ((i ≡ i) × (x.slot ≡ suc x.slot) × (r ≡ g.start)) → r ≤ suc i
                  position r (inl h) = let le = (o.position.furthest x.slot r h).1 refl in let e = own_round_lem in omega arith
                  position r (inr k) = let e = k.1 in absurd (omega arith)

                  unvoted : (m u : ℕ) → w1.Votes m x.slot (suc i) u → ⊥
                  unvoted m u vote =
                      let e = own_round_lem in
                      let k = (o.accepts i (o.picked m u (subst (λ (r : ℕ). w1.Votes m x.slot r u) (sym e) vote) delegated)).0 in omega arith

                  chosen : Chosen g w⁺ x.slot v
                  chosen = inr (
                    i,
                    (
                      holders,
                      fast_enough_lem,
                      holder_first,
                      subst (λ (r : ℕ). i ≡ g.delegate r) own_round_lem delegated,
                      inr (refl, refl, refl),
                      position,
                      unvoted,
                    ),
                  )

    module _ (w1 : World) (e1 : Grows g P i w w1) (ok1 : Consistent g w1) (x : View) (o : TrueView g w1 i x) where
      -- the delegate counts an answer of `source`, which holds v first, as proposed by c
      answering_correct : (source c v : ℕ) (h : Host) → T (g.live i) → T x.holds → 1 ≤ x.round → i ≡ g.delegate x.round → T g.fast_path → x.held_round ≡ 0
          → T (g.live source) → w1.Reached source x.slot x.round → w1.First source x.slot c v → Keeps (answering S i source c v h x0 x)
      unfolding answering
      answering_correct source c v h live-i holds in_round_lem delegated fast zero-round live_source came first = by_test Keeps (eqb c 0) _ _ (λ _. refuse_correct)
          (λ named. let first' : w1.First source x.slot (suc (pred c)) v = subst (λ (k : ℕ). w1.First source x.slot k v) (from_pred c named) first in
          by_test Keeps (x.answers.answered source) _ _
          (λ again. by_test Keeps (eqb source i) _ _
          (λ _. decides_correct w1 e1 ok1 x o live-i holds in_round_lem delegated fast zero-round source (pred c) v h again first')
          (λ _. refuse_correct))
          (λ new. let came' : w1.Reached source x.slot (suc i) =
          subst (λ (r : ℕ). w1.Reached source x.slot r) (own_round_lem w1 e1 ok1 x o live-i holds in_round_lem delegated fast zero-round) came in
          let f : ModelAnswers = model_with_answer i source (pred c) v x.answers in
          let a : TrueAnswers g w1 i x.slot f =
          answer_true g w1 ok1 i x.slot x.answers o.answers source (pred c) v new live_source (rules.voters.below fast source live_source) came' first' in
          let o1 : TrueView g w1 i (with_answers f x) = with_answers_true g w1 ok1 i x o f a in
          decides_correct w1 e1 ok1 (with_answers f x) o1 live-i holds in_round_lem delegated fast zero-round source (pred c) v h (add_self source x.answers.answered) first'))

      -- a promise counted by the delegate: an answer on the fast path, where nothing was accepted in a round
      gathers_correct : (source c v : ℕ) (h : Host) (old : View) → T (g.live i) → T x.holds → 1 ≤ x.round → i ≡ g.delegate x.round
          → T (g.live source) → w1.Reached source x.slot x.round → (x.held_round ≡ 0 → w1.First source x.slot c v) → Keeps (model_gathers S i source c v h x0 old x)
      unfolding model_gathers
      gathers_correct source c v h old live-i holds in_round_lem delegated live_source came first = by_test Keeps (g.fast_path && eqb x.held_round 0) _ _
          (λ t. let both = both_hold g.fast_path (eqb x.held_round 0) t in
          let zero-round = eqb→eq x.held_round 0 both.1 in
          answering_correct source c v h live-i holds in_round_lem delegated both.0 zero-round live_source came (first zero-round))
          (λ t. picks_correct w1 e1 ok1 x o live-i holds in_round_lem delegated old (λ z. not_and g.fast_path (eqb x.held_round 0) t (passes (eqb x.held_round 0) (eq-eqb x.held_round 0 z))))

    module _ (w1 : World) (e1 : Grows g P i w w1) (ok1 : Consistent g w1) (x : View) (o : TrueView g w1 i x) where
      promised_correct : (source a c v : ℕ) (h : Host) → T (g.live i) → T x.holds → MessageTrue g w1 source (prepare x.slot x.round a c v)
          → Keeps (model_promised S i source a c v h x0 x)
      unfolding model_promised model_counted
      promised_correct source a c v h live-i holds told = by_test Keeps (eqb (g.delegate x.round) i) _ _
          (λ t. let delegated : i ≡ g.delegate x.round = sym (eqb→eq (g.delegate x.round) i t) in
          by_test (λ (z : View). Keeps (model_gathers S i source c v h x0 x (prepared_by i (prepared_by source z)))) (holds_before a x) (holding_other_value a c v x) x
          (λ l. let l' : x.held_round < a = ltb→lt x.held_round a l in
          let o1 : TrueView g w1 i (holding_other_value a c v x) = adopted_true g w1 ok1 i x o a c v holds l' told.1 (told.2 (omega arith)) told.3 in
          let o2 : TrueView g w1 i (prepared_by source (holding_other_value a c v x)) = prepared_by_true g w1 ok1 i (holding_other_value a c v x) o1 source told.0 in
          let o3 : TrueView g w1 i (prepared_by i (prepared_by source (holding_other_value a c v x))) =
          prepared_by_true g w1 ok1 i (prepared_by source (holding_other_value a c v x)) o2 i (own_promise g w1 ok1 i (holding_other_value a c v x) o1 live-i tt) in
          gathers_correct w1 e1 ok1 (prepared_by i (prepared_by source (holding_other_value a c v x))) o3 source c v h x live-i tt (omega (arith, told.1)) delegated told.0.0 told.0.1
          (λ z. told.4 z))
          (λ l. let l' : a ≤ x.held_round = nltb→le x.held_round a l in
          let o2 : TrueView g w1 i (prepared_by source x) =
          prepared_by_true g w1 ok1 i x o source (told.0.0, told.0.1, (λ r' v' h k. let z = told.0.2 r' v' h k in omega arith), told.0.3) in
          let o3 : TrueView g w1 i (prepared_by i (prepared_by source x)) =
          prepared_by_true g w1 ok1 i (prepared_by source x) o2 i (own_promise g w1 ok1 i x o live-i holds) in
          gathers_correct w1 e1 ok1 (prepared_by i (prepared_by source x)) o3 source c v h x live-i holds (omega (arith, told.1)) delegated told.0.0 told.0.1
          (λ z. told.4 (omega arith))))
          (λ t. by_test Keeps (eqb x.held_round x.round) _ _
          (λ _. say_correct w1 e1 ok1 x o [] tt)
          (λ n. let b = o.held.held_bound in let ne = neqb→ne x.held_round x.round n in
          say_correct w1 e1 ok1 x o _ ((own_promise g w1 ok1 i x o live-i holds, omega arith, o.held.held_voted, o.held.held_proposed holds, o.held.held_still holds), tt)))

    -- what a handler does once the message is let in, at the message's slot and round, to which its source has come
    enter_correct : (source s r : ℕ) (k : View → ModelOutcome) → w.Reached source s r
        → ((w1 : World) → Grows g P i w w1 → Consistent g w1 → (y : View) → TrueView g w1 i y
        → T (g.live i) → T (g.live source) → s ≡ y.slot → r ≡ y.round → Keeps (k y))
        → Keeps (model_enter S i x0 source s r k)
    unfolding model_enter
    enter_correct source s r k came f = by_test Keeps (not (g.live i)) _ _ (λ _. quiet_correct)
        (λ not_dead. by_test Keeps (ltb s x0.slot || ltb r x0.round) _ _ (λ _. quiet_correct)
        (λ not-past. by_test Keeps (not (eqb s x0.slot) || not (g.live source)) _ _ (λ _. refuse_correct)
        (λ not_refused. let old = nor_both (ltb s x0.slot) (ltb r x0.round) not-past in
        let le : x0.round ≤ r = nltb→le r x0.round old.1 in
        let both = nor_both (not (eqb s x0.slot)) (not (g.live source)) not_refused in
        let same_slot : s ≡ x0.slot = eqb→eq s x0.slot (subst T (not-not (eqb s x0.slot)) both.0) in
        let live_source = subst T (not-not (g.live source)) both.1 in
        let live-i = subst T (not-not (g.live i)) not_dead in
        by_test (λ (z : View). Keeps (k z)) (ltb x0.round r) (in_later_round r x0) x0
        (λ l. let on = later_onward g w ok i x0 o0 r (ltb→lt x0.round r l) in
        f (add_reached w i x0.slot r) (add_reached_grows g P w i x0.slot r on)
        (add_reached_consistent g w i x0.slot r on (λ t p. ok.own_rounds t source s r came p) ok)
        (in_later_round r x0) (joined_true g w ok i x0 o0 r (ltb→lt x0.round r l)) live-i live_source same_slot refl)
        (λ l. let ge : r ≤ x0.round = nltb→le x0.round r l in
        f w (grows_refl g P i w) ok x0 o0 live-i live_source same_slot (omega arith)))))

    -- the message, at the member's own slot and round
    at_position : (w1 : World) (source s r a c v s' r' : ℕ) → s ≡ s' → r ≡ r'
        → MessageTrue g w1 source (prepare s r a c v) → MessageTrue g w1 source (prepare s' r' a c v)
    at_position w1 source s r a c v s' r' same_slot same_round h =
        subst (λ (j : ℕ). MessageTrue g w1 source (prepare s' j a c v)) same_round
        (subst (λ (j : ℕ). MessageTrue g w1 source (prepare j r a c v)) same_slot h)

    -- a member that holds nothing holds what came: where that names no round, as its source held it first
    module _ (w1 : World) (e1 : Grows g P i w w1) (ok1 : Consistent g w1) (y : View) (o : TrueView g w1 i y) (source a c v : ℕ) (h : Host)
        (live-i : T (g.live i)) (unheld : T (not y.holds)) (told : MessageTrue g w1 source (prepare y.slot y.round a c v)) where
      holds_first : (f : ℕ) → (a ≡ 0 → c ≡ f) → f ≤ y.round → ((q : ℕ) → f ≡ suc q → (w1.First q y.slot f v) ⊎ (q ≡ i))
          → Keeps (model_promised S i source a c v h x0 (prepared_by i (holding_other_value a c v y)))
      holds_first f same early owner =
          let may : MayHold g w1 i y.slot f v =
          record { nothing_yet = o.held.unheld_first unheld; live = live-i; came = (y.round, o.position.at); proposed = told.3; owner = owner } in
          let w2 : World = add_first w1 i y.slot f v in
          let e2 : Grows g P i w1 w2 = add_first_grows g P w1 i y.slot f v in
          let ok2 : Consistent g w2 = add_first_consistent g w1 i y.slot f v may ok1 in
          let o1 : TrueView g w2 i (holding_other_value a c v y) = held_true g w1 ok1 i y o a c f v unheld told.1 told.2 told.3 same early in
          let o2 : TrueView g w2 i (prepared_by i (holding_other_value a c v y)) =
          prepared_by_true g w2 ok2 i (holding_other_value a c v y) o1 i (own_promise g w2 ok2 i (holding_other_value a c v y) o1 live-i tt) in
          promised_correct w2 (grows_trans g P i w w1 w2 e1 e2) ok2 (prepared_by i (holding_other_value a c v y)) o2 source a c v h live-i tt
          (message_stays g P i w1 w2 e2 source (prepare y.slot y.round a c v) told)

      holds_correct : Keeps (model_promised S i source a c v h x0 (prepared_by i (holding_other_value a c v y)))
      holds_correct = go (ℕ_discrete a 0)
        where
          go : Dec (a ≡ 0) → Keeps (model_promised S i source a c v h x0 (prepared_by i (holding_other_value a c v y)))
          go (yes z) =
              let first = told.4 z in
              let k = told.0.3 in
              let same = (ok1.first_once source y.slot k.0 k.1 c v k.2 first).0 in
              let early = k.3 in
              holds_first c (λ _. refl) (omega arith) (λ q e. inl (subst (λ (j : ℕ). w1.First q y.slot j v) (sym e)
              (ok1.first_owner source y.slot q v (subst (λ (j : ℕ). w1.First source y.slot j v) e first))))
          go (no n) = holds_first 0 (λ z. absurd (n z)) (omega arith) (λ q e. absurd (omega arith))

    on_prepare_correct : (source s r a c v : ℕ) (h : Host) → MessageTrue g w source (prepare s r a c v) → Keeps (model_on_prepare S i x0 source s r a c v h)
    unfolding model_on_prepare
    on_prepare_correct source s r a c v h told = enter_correct source s r (λ y. model_promised S i source a c v h x0 (cond y.holds y (prepared_by i (holding_other_value a c v y)))) told.0.1
        (λ w1 e1 ok1 y o live-i live_source same_slot same_round.
        let told1 : MessageTrue g w1 source (prepare y.slot y.round a c v) =
        at_position w1 source s r a c v y.slot y.round same_slot same_round (message_stays g P i w w1 e1 source (prepare s r a c v) told) in
        by_test (λ (z : View). Keeps (model_promised S i source a c v h x0 z)) y.holds y (prepared_by i (holding_other_value a c v y))
        (λ holds. promised_correct w1 e1 ok1 y o source a c v h live-i holds told1)
        (λ unheld. holds_correct w1 e1 ok1 y o source a c v h live-i unheld told1))

    -- a value that `source` has voted for is accepted, by a member that holds something
    accepts_correct : (w1 : World) → Grows g P i w w1 → Consistent g w1 → (y : View) → TrueView g w1 i y → (source v : ℕ) (h : Host)
        → T (g.live i) → T y.holds → w1.Votes source y.slot y.round v → Keeps (model_after_accept S i source h x0 (accepted_by source (model_voted i v y)))
    accepts_correct w1 e1 ok1 y o source v h live-i holds told =
        let in_round_lem = (ok1.in_round source y.slot y.round v told).0 in
        let p = ok1.proposed source y.slot y.round v told in
        let f : MayVote g w1 i y v = inl (source, told) in
        let w2 : World = add_vote w1 i y.slot y.round v in
        let e2 : Grows g P i w1 w2 = vote_grows g w1 ok1 i y o v live-i holds in_round_lem p f P in
        let ok2 : Consistent g w2 = vote_consistent g w1 ok1 i y o v live-i holds in_round_lem p f in
        let o2 : TrueView g w2 i (model_voted i v y) = voted_true g w1 ok1 i y o v live-i holds in_round_lem p f in
        let o3 : TrueView g w2 i (accepted_by source (model_voted i v y)) = accepted_by_true g w2 ok2 i (model_voted i v y) o2 source refl (inl told) in
        after_accept_correct w2 (grows_trans g P i w w1 w2 e1 e2) ok2 (accepted_by source (model_voted i v y)) o3 source h (inr (refl, refl, refl, refl))

    on_accept_correct : (source s r v : ℕ) (h : Host) → w.Votes source s r v → Keeps (model_on_accept S i x0 source s r v h)
    unfolding model_on_accept
    on_accept_correct source s r v h told = enter_correct source s r _ (ok.reached source s r v told)
        (λ w1 e1 ok1 y o live-i live_source same_slot same_round.
        let told1 : w1.Votes source y.slot y.round v =
        subst (λ (j : ℕ). w1.Votes source y.slot j v) same_round (subst (λ (j : ℕ). w1.Votes source j r v) same_slot (e1.votes source s r v told)) in
        by_test Keeps (ltb y.held_round y.round || (eqb y.held_round y.round && eqb y.held_value v)) _ _
        (λ _. go w1 e1 ok1 y o live-i told1 y.holds refl)
        (λ _. refuse_correct))
      where
        go : (w1 : World) → Grows g P i w w1 → Consistent g w1 → (y : View) → TrueView g w1 i y → T (g.live i) → w1.Votes source y.slot y.round v
            → (b : Bool) → y.holds ≡ b → Keeps (model_after_accept S i source h x0 (accepted_by source (model_voted i v y)))
        go w1 e1 ok1 y o live-i told1 true e = accepts_correct w1 e1 ok1 y o source v h live-i (passes y.holds e) told1
        -- what is accepted is the first that is held
        go w1 e1 ok1 y o live-i told1 false e =
            let unheld : T (not y.holds) = subst (λ (b : Bool). T (not b)) (sym e) tt in
            let in_round_lem = (ok1.in_round source y.slot y.round v told1).0 in
            let p = ok1.proposed source y.slot y.round v told1 in
            let may : MayHold g w1 i y.slot 0 v =
            record { nothing_yet = o.held.unheld_first unheld; live = live-i; came = (y.round, o.position.at); proposed = p; owner = λ q e. absurd (omega arith) } in
            let w2 : World = add_first w1 i y.slot 0 v in
            let o1 : TrueView g w2 i (holding_other_value 0 0 v y) =
            held_true g w1 ok1 i y o 0 0 0 v unheld (omega arith) (λ l. absurd (omega arith)) p (λ _. refl) (omega arith) in
            accepts_correct w2 (grows_trans g P i w w1 w2 e1 (add_first_grows g P w1 i y.slot 0 v)) (add_first_consistent g w1 i y.slot 0 v may ok1) (holding_other_value 0 0 v y) o1 source v h live-i tt told1

    on_commit_correct : (s v : ℕ) → Chosen g w s v → Keeps (model_on_commit S i x0 s v)
    unfolding model_on_commit
    on_commit_correct s v c = by_test Keeps (ltb s x0.slot) _ _ (λ _. quiet_correct)
        (λ _. by_test Keeps (eqb s x0.slot) _ _
        (λ t. let w2 : World = add_reached w i (suc x0.slot) g.start in
        let e2 : Grows g P i w w2 = add_reached_grows g P w i (suc x0.slot) g.start (next_onward g w ok i x0 o0) in
        record {
          world = w2;
          grows = e2;
          consistent = add_reached_consistent g w i (suc x0.slot) g.start (next_onward g w ok i x0 o0) start_own ok;
          view = advanced_true g w ok i x0 o0;
          outgoing = tt;
          decision = chosen_stays g P i w w2 e2 x0.slot v (subst (λ (j : ℕ). Chosen g w j v) (eqb→eq s x0.slot t) c);
        })
        (λ _. refuse_correct))

    pub on_message_correct : (source : ℕ) (h : Host) (c : ModelMessage) → MessageTrue g w source c → Keeps (model_on_message S i x0 source h c)
    unfolding model_on_message
    on_message_correct source h (prepare s r a c v) k = on_prepare_correct source s r a c v h k
    on_message_correct source h (accept s r v) k = on_accept_correct source s r v h k
    on_message_correct source h (commit s v) k = on_commit_correct s v k
    on_message_correct source h other k = quiet_correct

  module _ (i : ℕ) (w : World) (ok : Consistent g w) (x : View) (o : TrueView g w i x) (v : ℕ) where
    abbrev KeepsProposal : ModelOutcome → Type 1
    KeepsProposal r = Correct g (NewProposal x v r.taken) i w r

    refused_correct : KeepsProposal (model_refused x)
    refused_correct = idle_correct g (NewProposal x v false) i w ok x o (model_refused x) refl refl tt

    abbrev wᵖ : World
    wᵖ = add_proposal w x.slot v

    okᵖ : Consistent g wᵖ
    okᵖ = add_proposal_consistent g w x.slot v ok

    oᵖ : TrueView g wᵖ i x
    oᵖ = add_proposal_true g w x.slot v i x o

    proposal_grows : Grows g (NewProposal x v true) i w wᵖ
    proposal_grows = add_proposal_grows g (NewProposal x v true) w i x.slot v (tt, refl, refl)

    -- the leader of the starting round votes at once
    led_correct : T (g.live i) → T (not x.holds) → x.round ≡ g.start → T S.starts_led → i ≡ g.delegate x.round
        → KeepsProposal (model_sends (model_voted i v (prepared_by i (holding_other_value 0 0 v (in_later_round x.round x)))) (record { destination = all; message = accept x.slot x.round v } ∷ []))
    led_correct live-i unheld same_round led delegated =
        let z = o.held.unheld unheld in
        let positive = rules.starts_in_round led in
        let p : wᵖ.Proposed x.slot v = inr (refl, refl) in
        let c : View = in_later_round x.round x in
        let o0 : TrueView g wᵖ i c = cleared_true g wᵖ okᵖ i x oᵖ unheld (omega arith) in
        let may : MayHold g wᵖ i x.slot 0 v =
        record { nothing_yet = o.held.unheld_first unheld; live = live-i; came = (x.round, o.position.at); proposed = p; owner = λ q e. absurd (omega arith) } in
        let w1 : World = add_first wᵖ i x.slot 0 v in
        let e1 : Grows g (NewProposal x v true) i wᵖ w1 = add_first_grows g (NewProposal x v true) wᵖ i x.slot 0 v in
        let ok1 : Consistent g w1 = add_first_consistent g wᵖ i x.slot 0 v may okᵖ in
        let o1 : TrueView g w1 i (holding_other_value 0 0 v c) =
        held_true g wᵖ okᵖ i c o0 0 0 0 v unheld (omega arith) (λ l. absurd (omega arith)) p (λ _. refl) (omega arith) in
        let y : View = prepared_by i (holding_other_value 0 0 v c) in
        let o2 : TrueView g w1 i y = prepared_by_true g w1 ok1 i (holding_other_value 0 0 v c) o1 i (own_promise g w1 ok1 i (holding_other_value 0 0 v c) o1 live-i tt) in
        let f : MayVote g w1 i y v = inr (delegated, (λ m v' h. let k = (o.accepts i (o.picked m v' h delegated)).0 in omega arith), inl (omega arith)) in
        let in_round_lem : 1 ≤ y.round = omega arith in
        let w2 : World = add_vote w1 i x.slot x.round v in
        record {
          world = w2;
          grows = grows_trans g (NewProposal x v true) i w wᵖ w2 proposal_grows
              (grows_trans g (NewProposal x v true) i wᵖ w1 w2 e1 (vote_grows g w1 ok1 i y o2 v live-i tt in_round_lem p f (NewProposal x v true)));
          consistent = vote_consistent g w1 ok1 i y o2 v live-i tt in_round_lem p f;
          view = voted_true g w1 ok1 i y o2 v live-i tt in_round_lem p f;
          outgoing = (inr (refl, refl, refl, refl), tt);
          decision = tt;
        }

    -- elsewhere a member asks for promises in a round of its own; f is the proposer that is named
    module _ (live-i : T (g.live i)) (unheld : T (not x.holds)) (same_round : x.round ≡ g.start) (not-led : T (not S.starts_led)) (f : ℕ)
        (early : f ≤ S.own_round i) (owner : (q : ℕ) → f ≡ suc q → q ≡ i) where
      later : x.round < S.own_round i
      later = let lt = rules.own_round_later not-led i in omega arith

      own : T g.fast_path → 1 ≤ S.own_round i → S.own_round i ≡ suc (g.delegate (S.own_round i))
      own t l =
          let e = rules.own_round_fast t i in
          subst (λ (r : ℕ). r ≡ suc (g.delegate r)) (sym e) (ap suc (sym (rules.voters.leads t i (rules.voters.below t i live-i))))

      abbrev w¹ : World
      w¹ = add_reached wᵖ i x.slot (S.own_round i)

      ok¹ : Consistent g w¹
      ok¹ = add_reached_consistent g wᵖ i x.slot (S.own_round i) (later_onward g wᵖ okᵖ i x oᵖ (S.own_round i) later) own okᵖ

      abbrev w² : World
      w² = add_first w¹ i x.slot f v

      ok² : Consistent g w²
      ok² = add_first_consistent g w¹ i x.slot f v
          (record { nothing_yet = o.held.unheld_first unheld; live = live-i; came = (S.own_round i, inr (refl, refl, refl)); proposed = inr (refl, refl); owner = λ q e. inr (owner q e) }) ok¹

      asked_grows : Grows g (NewProposal x v true) i w w²
      asked_grows = grows_trans g (NewProposal x v true) i w wᵖ w² proposal_grows (grows_trans g (NewProposal x v true) i wᵖ w¹ w²
          (add_reached_grows g (NewProposal x v true) wᵖ i x.slot (S.own_round i) (later_onward g wᵖ okᵖ i x oᵖ (S.own_round i) later))
          (add_first_grows g (NewProposal x v true) w¹ i x.slot f v))

      held : TrueView g w² i (holding_other_value 0 f v (in_later_round (S.own_round i) x))
      held = held_true g w¹ ok¹ i (in_later_round (S.own_round i) x) (joined_true g wᵖ okᵖ i x oᵖ (S.own_round i) later) 0 f f v unheld
          (let l = later in omega arith) (λ l. absurd (omega arith)) (inr (refl, refl)) (λ _. refl) early

      promise : ModelPromise g w² i x.slot (S.own_round i) 0
      promise = own_promise g w² ok² i (holding_other_value 0 f v (in_later_round (S.own_round i) x)) held live-i tt

      asked_view : TrueView g w² i (prepared_by i (holding_other_value 0 f v (in_later_round (S.own_round i) x)))
      asked_view = prepared_by_true g w² ok² i (holding_other_value 0 f v (in_later_round (S.own_round i) x)) held i promise

      asked_true : MessageTrue g w² i (prepare x.slot (S.own_round i) 0 f v)
      asked_true = (promise, (let l = later in omega arith), (λ l. absurd (omega arith)), inr (refl, refl), λ z. inr (refl, refl, refl, refl))

      asked_correct : KeepsProposal (model_sends (prepared_by i (holding_other_value 0 f v (in_later_round (S.own_round i) x))) (record { destination = all; message = prepare x.slot (S.own_round i) 0 f v } ∷ []))
      asked_correct = record { world = w²; grows = asked_grows; consistent = ok²; view = asked_view; outgoing = (asked_true, tt); decision = tt }

    -- on the fast path it has answered itself
    fast_correct : T (g.live i) → T (not x.holds) → x.round ≡ g.start → T (not S.starts_led) → T g.fast_path → T (eqb (count x.answers.answered g.count) 0)
        → KeepsProposal (model_sends (model_own_answer S i v (prepared_by i (holding_other_value 0 (suc i) v (in_later_round (S.own_round i) x)))) (record { destination = all; message = prepare x.slot (S.own_round i) 0 (suc i) v } ∷ []))
    fast_correct live-i unheld same_round not-led fast unanswered = record {
      world = w2;
      grows = asked_grows live-i unheld same_round not-led (suc i) early owner;
      consistent = ok2;
      view = with_answers_true g w2 ok2 i y o2 (model_with_answer i i i v y.answers)
          (answer_true g w2 ok2 i x.slot y.answers o2.answers i i v (nobody (x.answers.answered i) refl) live-i below
          (inr (refl, refl, sym same)) (inr (refl, refl, refl, refl)));
      outgoing = (asked_true live-i unheld same_round not-led (suc i) early owner, tt);
      decision = tt;
    }
      where
        same : S.own_round i ≡ suc i
        same = rules.own_round_fast fast i

        early : suc i ≤ S.own_round i
        early = let e = same in omega arith

        owner : (q : ℕ) → suc i ≡ suc q → q ≡ i
        owner q e = omega arith

        below : i < g.count
        below = rules.voters.below fast i live-i

        w2 : World
        w2 = add_first (add_reached wᵖ i x.slot (S.own_round i)) i x.slot (suc i) v

        ok2 : Consistent g w2
        ok2 = ok² live-i unheld same_round not-led (suc i) early owner

        y : View
        y = prepared_by i (holding_other_value 0 (suc i) v (in_later_round (S.own_round i) x))

        o2 : TrueView g w2 i y
        o2 = asked_view live-i unheld same_round not-led (suc i) early owner

        nobody : (b : Bool) → x.answers.answered i ≡ b → T (not b)
        nobody true e =
            let some = count_some x.answers.answered i e g.count below in
            let z = eqb→eq (count x.answers.answered g.count) 0 unanswered in absurd (omega arith)
        nobody false e = tt

    pub on_propose_correct : KeepsProposal (model_on_propose S i x v)
    unfolding model_on_propose
    on_propose_correct = by_test KeepsProposal (g.live i && (eqb x.round g.start && not x.holds)) _ _
        (λ t. let a = both_hold (g.live i) (eqb x.round g.start && not x.holds) t in
        let b = both_hold (eqb x.round g.start) (not x.holds) a.1 in
        let same_round = eqb→eq x.round g.start b.0 in
        by_test KeepsProposal S.starts_led _ _
        (λ led. by_test KeepsProposal (eqb i (g.delegate x.round)) _ _ (λ d. led_correct a.0 b.1 same_round led (eqb→eq i (g.delegate x.round) d)) (λ _. refused_correct))
        (λ not-led. by_test KeepsProposal g.fast_path _ _
        (λ fast. by_test KeepsProposal (eqb (count x.answers.answered g.count) 0) _ _ (λ u. fast_correct a.0 b.1 same_round not-led fast u) (λ _. refused_correct))
        (λ _. asked_correct a.0 b.1 same_round not-led 0 (omega arith) (λ q e. absurd (omega arith)))))
        (λ _. refused_correct)

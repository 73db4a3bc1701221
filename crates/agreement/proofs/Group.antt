-- The group theorem of an engine whose every call is correct: the log of any legal list of calls rules the claim.
-- Assumes nothing.
use Prim.Native.Nat.{ℕ, suc, ◌<◌}
use mathlib.Core.Path.{◌≡◌, refl, sym, ◌∙◌, subst, ap}
use mathlib.Core.Bool.{Bool, true, false}
use mathlib.Core.Logic.{◌⊎◌, inl, inr}
use mathlib.Core.List.{List, [], ◌∷◌}
use lib.Dec.{eqb, eqb→eq}
use native.Mathlib.Omega.{arith}
use Rattle.agreement.specs.Voting.{Voters, VotersRules, World, Consistent, Chosen}
use Rattle.agreement.specs.Model.{View, ModelMessage, all, to, Decision, undecided, decided, model_initial}
use Rattle.agreement.specs.Engine.{CallKind, proposes, delivers, reads, Envelope, EngineAnswer, Sent, LogEvent, proposal, committed, sent_with, log_with_commit, commits_by, log_with_proposal, Agrees, EngineClaim, Engine, RunOf, run_with_call, SentInRun, empty_run, run_of_calls, LegalCalls}
use Rattle.agreement.specs.Refinement.{meanings, seen_as_model}
use Rattle.basics.specs.Lists.{In}
use Rattle.agreement.proofs.Tests.{by_test, neqb→ne}
use Rattle.agreement.proofs.Voting.{chosen_agree, chosen_proposed}
use Rattle.agreement.proofs.Growth.{Grows, chosen_stays, TrueView, others_keep}
use Rattle.agreement.proofs.Moves.{fresh_true}
use Rattle.agreement.proofs.Handlers.{MessageTrue, OutgoingTrue, DecisionTrue, message_stays, Correct, NewProposal}
use Rattle.agreement.proofs.Slots.{NextSlot, MovesOn}

-- what a call of each kind makes proposed, at most
abbrev pub NewlyProposed : {M : Type 0} → View → CallKind M → Bool → ℕ → ℕ → Type 0
NewlyProposed x (proposes v) taken s' v' = NewProposal x v taken s' v'
NewlyProposed x (delivers source c) taken s' v' = ⊥
NewlyProposed x reads taken s' v' = ⊥

-- the message that a call brings is true
abbrev pub DeliveredTrue : {M : Type 0} → (M → ModelMessage) → Voters → World → CallKind M → Type 0
DeliveredTrue meaning g w (proposes v) = Unit {0}
DeliveredTrue meaning g w (delivers source c) = MessageTrue g w source (meaning c)
DeliveredTrue meaning g w reads = Unit {0}

-- what the group theorem needs of an engine: how its shards and messages are seen, and what its shards keep to; it begins as the model
-- does; and each call, on a true view and with a true message, moves on with a commit alone and is correct
pub record Sound (g : Voters) (E : Engine) : Type 1 where
  pub view : E.Shard → View
  pub meaning : E.Message → ModelMessage
  pub Valid : ℕ → E.Shard → Type 0
  pub initial_view : (i : ℕ) → i < E.size → view (E.initial i) ≡ model_initial g.start
  pub initial_valid : (i : ℕ) → i < E.size → Valid i (E.initial i)
  pub answer_valid : (c : E.Call) (x : E.Shard) → Valid (E.member c) x → Valid (E.member c) (E.answer x c).shard
  pub answer_moves_on : (c : E.Call) (x : E.Shard) → Valid (E.member c) x → MovesOn (view x) (seen_as_model view meaning (E.answer x c))
  pub answer_correct : (c : E.Call) (x : E.Shard) → Valid (E.member c) x → (w : World) → Consistent g w
      → TrueView g w (E.member c) (view x) → DeliveredTrue meaning g w (E.kind c)
      → Correct g (NewlyProposed (view x) (E.kind c) (E.answer x c).taken) (E.member c) w (seen_as_model view meaning (E.answer x c))

-- an event is true: the value of a commit is chosen
abbrev EventTrue : Voters → World → LogEvent → Type 0
EventTrue g w (proposal i s v) = Unit {0}
EventTrue g w (committed i s v) = Chosen g w s v

event_stays : (g : Voters) (P : ℕ → ℕ → Type 0) (i : ℕ) (w w' : World) → Grows g P i w w' → (e : LogEvent) → EventTrue g w e → EventTrue g w' e
event_stays g P i w w' x (proposal j s v) k = tt
event_stays g P i w w' x (committed j s v) k = chosen_stays g P i w w' x s v k

event_agrees : (g : Voters) → VotersRules g → (w : World) → Consistent g w → (s v : ℕ) → Chosen g w s v → (e : LogEvent) → EventTrue g w e → Agrees s v e
event_agrees g rules w ok s v c (proposal j s' v') k = tt
event_agrees g rules w ok s v c (committed j s' v') k = λ q. chosen_agree g rules w ok s v v' c (subst (λ (t : ℕ). Chosen g w t v') (sym q) k)

-- a message that was sent is true
abbrev SentTrue : {M : Type 0} → (M → ModelMessage) → Voters → World → Sent M → Type 0
SentTrue meaning g w e = MessageTrue g w e.source (meaning e.envelope.message)

sent_true : {M : Type 0} (meaning : M → ModelMessage) (g : Voters) (w : World) (i : ℕ) (os : List (Envelope M)) (l : List (Sent M))
    → OutgoingTrue g w i (meanings meaning os) → ((e : Sent M) → In e l → SentTrue meaning g w e)
    → (e : Sent M) → In e (sent_with i os l) → SentTrue meaning g w e
sent_true meaning g w i [] l k f e h = f e h
sent_true meaning g w i (o ∷ os) l k f e (inl q) = subst (SentTrue meaning g w) (sym q) k.0
sent_true meaning g w i (o ∷ os) l k f e (inr h) = sent_true meaning g w i os l k.1 f e h

-- the log l, continued by what member i commits
module _ (i : ℕ) (l : List LogEvent) where
  commit_own_slot : (d : Decision) (s s' : ℕ) → NextSlot s s' d → s ≡ commits_by i l → s' ≡ commits_by i (log_with_commit i d l)
  commit_own_slot undecided s s' m e = m ∙ e
  commit_own_slot (decided t v) s s' m e = by_test (λ (k : ℕ). s' ≡ k) (eqb i i) (suc (commits_by i l)) (commits_by i l)
      (λ _. m.1 ∙ ap suc e) (λ t. absurd (neqb→ne i i t refl))

  commit_other_slot : (d : Decision) (j : ℕ) → (j ≡ i → ⊥) → commits_by j (log_with_commit i d l) ≡ commits_by j l
  commit_other_slot undecided j ne = refl
  commit_other_slot (decided t v) j ne = by_test (λ (k : ℕ). k ≡ commits_by j l) (eqb j i) (suc (commits_by j l)) (commits_by j l)
      (λ t. absurd (ne (eqb→eq j i t))) (λ _. refl)

  module _ (g : Voters) (w : World) (events : (e : LogEvent) → In e l → EventTrue g w e) (proposals : (s v : ℕ) → w.Proposed s v → (j : ℕ) × In (proposal j s v) l) where
    commit_events : (d : Decision) → DecisionTrue g w d → (e : LogEvent) → In e (log_with_commit i d l) → EventTrue g w e
    commit_events undecided f e h = events e h
    commit_events (decided s v) f e (inl q) = subst (EventTrue g w) (sym q) f
    commit_events (decided s v) f e (inr h) = events e h

    commit_proposals : (d : Decision) (s v : ℕ) → w.Proposed s v → (j : ℕ) × In (proposal j s v) (log_with_commit i d l)
    commit_proposals undecided s v h = proposals s v h
    commit_proposals (decided t u) s v h = let k = proposals s v h in (k.0, inr k.1)

    commit_claim : VotersRules g → Consistent g w → EngineClaim l → (d : Decision) (s s' : ℕ) → DecisionTrue g w d → NextSlot s s' d → s ≡ commits_by i l
        → EngineClaim (log_with_commit i d l)
    commit_claim rules ok claim undecided s s' f m e = claim
    commit_claim rules ok claim (decided t v) s s' f m e =
        (m.0 ∙ e, proposals t v (chosen_proposed g rules w ok t v f), (λ e h. event_agrees g rules w ok t v f e (events e h)), claim)

-- the log l, continued by what a call proposes, where that was taken: what is proposed is found in it
proposal_found : {M : Type 0} (x : View) (k : CallKind M) (b : Bool) (i s u : ℕ) (l : List LogEvent) → x.slot ≡ commits_by i l
    → ((j : ℕ) × In (proposal j s u) l) ⊎ NewlyProposed x k b s u → (j : ℕ) × In (proposal j s u) (log_with_proposal i k b l)
proposal_found x (proposes v) true i s u l e (inl h) = (h.0, inr h.1)
proposal_found x (proposes v) true i s u l e (inr k) = (i, inl (λ z. proposal i ((k.1 ∙ e) z) (k.2 z)))
proposal_found x (proposes v) false i s u l e (inl h) = h
proposal_found x (proposes v) false i s u l e (inr k) = absurd k.0
proposal_found x (delivers source c) b i s u l e (inl h) = h
proposal_found x (delivers source c) b i s u l e (inr k) = absurd k
proposal_found x reads b i s u l e (inl h) = h
proposal_found x reads b i s u l e (inr k) = absurd k

proposal_events : {M : Type 0} (g : Voters) (w : World) (k : CallKind M) (b : Bool) (i : ℕ) (l : List LogEvent)
    → ((e : LogEvent) → In e l → EventTrue g w e) → (e : LogEvent) → In e (log_with_proposal i k b l) → EventTrue g w e
proposal_events g w (proposes v) true i l f e (inl q) = subst (EventTrue g w) (sym q) tt
proposal_events g w (proposes v) true i l f e (inr h) = f e h
proposal_events g w (proposes v) false i l f e h = f e h
proposal_events g w (delivers source c) b i l f e h = f e h
proposal_events g w reads b i l f e h = f e h

proposal_commits : {M : Type 0} (k : CallKind M) (b : Bool) (i : ℕ) (l : List LogEvent) (j : ℕ) → commits_by j l ≡ commits_by j (log_with_proposal i k b l)
proposal_commits (proposes v) true i l j = refl
proposal_commits (proposes v) false i l j = refl
proposal_commits (delivers source c) b i l j = refl
proposal_commits reads b i l j = refl

proposal_claim : {M : Type 0} (k : CallKind M) (b : Bool) (i : ℕ) (l : List LogEvent) → EngineClaim l → EngineClaim (log_with_proposal i k b l)
proposal_claim (proposes v) true i l c = (refl, c)
proposal_claim (proposes v) false i l c = c
proposal_claim (delivers source m) b i l c = c
proposal_claim reads b i l c = c

module _ (g : Voters) (rules : VotersRules g) (E : Engine) (sound : Sound g E) where
  -- There is a world of which the views, the messages sent and the events of the log are true; what is proposed in it is in the log, each
  -- member's slot is its number of commits, and the claim holds so far.
  record Invariant (R : RunOf E) : Type 1 where
    world : World
    consistent : Consistent g world
    views : (i : ℕ) → i < E.size → TrueView g world i (sound.view (R.shards i))
    valid : (i : ℕ) → i < E.size → sound.Valid i (R.shards i)
    messages : (e : Sent E.Message) → In e R.sent → SentTrue sound.meaning g world e
    events : (e : LogEvent) → In e R.log → EventTrue g world e
    proposals : (s v : ℕ) → world.Proposed s v → (j : ℕ) × In (proposal j s v) R.log
    slots : (i : ℕ) → i < E.size → (sound.view (R.shards i)).slot ≡ commits_by i R.log
    claim : EngineClaim R.log

  delivered_true : (R : RunOf E) (I : Invariant R) (i : ℕ) (k : CallKind E.Message) → SentInRun E R i k → DeliveredTrue sound.meaning g I.world k
  delivered_true R I i (proposes v) t = tt
  delivered_true R I i (delivers source c) (inl t) = I.messages (record { source = source; envelope = record { destination = all; message = c } }) t
  delivered_true R I i (delivers source c) (inr t) = I.messages (record { source = source; envelope = record { destination = to i; message = c } }) t
  delivered_true R I i reads t = tt

  step_keeps : (R : RunOf E) → Invariant R → (c : E.Call) → E.member c < E.size → SentInRun E R (E.member c) (E.kind c) → Invariant (run_with_call E R c)
  unfolding run_with_call
  step_keeps R I c below k = record {
    world = made.world;
    consistent = made.consistent;
    views = λ j below-j. by_test (λ (y : E.Shard). TrueView g made.world j (sound.view y)) (eqb j i) r.shard (R.shards j)
        (λ t. subst (λ (k : ℕ). TrueView g made.world k (sound.view r.shard)) (sym (eqb→eq j i t)) made.view)
        (λ t. others_keep g P i I.world made.world made.grows j (sound.view (R.shards j)) (neqb→ne j i t) (I.views j below-j));
    valid = λ j below-j. by_test (λ (y : E.Shard). sound.Valid j y) (eqb j i) r.shard (R.shards j)
        (λ t. subst (λ (k : ℕ). sound.Valid k r.shard) (sym (eqb→eq j i t)) (sound.answer_valid c (R.shards i) (I.valid i below)))
        (λ t. I.valid j below-j);
    messages = sent_true sound.meaning g made.world i r.outgoing R.sent made.outgoing
        (λ e h. message_stays g P i I.world made.world made.grows e.source (sound.meaning e.envelope.message) (I.messages e h));
    events = commit_events i l g made.world events proposals r.decision made.decision;
    proposals = commit_proposals i l g made.world events proposals r.decision;
    slots = λ j below-j. by_test (λ (y : E.Shard). (sound.view y).slot ≡ commits_by j (log_with_commit i r.decision l)) (eqb j i) r.shard (R.shards j)
        (λ t. subst (λ (k : ℕ). (sound.view r.shard).slot ≡ commits_by k (log_with_commit i r.decision l)) (sym (eqb→eq j i t))
        (commit_own_slot i l r.decision x.slot (sound.view r.shard).slot moves (I.slots i below ∙ same_commits i)))
        (λ t. I.slots j below-j ∙ same_commits j ∙ sym (commit_other_slot i l r.decision j (neqb→ne j i t)));
    claim = commit_claim i l g made.world events proposals rules made.consistent claim r.decision x.slot (sound.view r.shard).slot
        made.decision moves (I.slots i below ∙ same_commits i);
  }
    where
      i : ℕ
      i = E.member c

      x : View
      x = sound.view (R.shards i)

      r : EngineAnswer E.Shard E.Message
      r = E.answer (R.shards i) c

      P : ℕ → ℕ → Type 0
      P = NewlyProposed x (E.kind c) r.taken

      made : Correct g P i I.world (seen_as_model sound.view sound.meaning r)
      made = sound.answer_correct c (R.shards i) (I.valid i below) I.world I.consistent (I.views i below) (delivered_true R I i (E.kind c) k)

      moves : MovesOn x (seen_as_model sound.view sound.meaning r)
      moves = sound.answer_moves_on c (R.shards i) (I.valid i below)

      l : List LogEvent
      l = log_with_proposal i (E.kind c) r.taken R.log

      same_commits : (j : ℕ) → commits_by j R.log ≡ commits_by j l
      same_commits = proposal_commits (E.kind c) r.taken i R.log

      claim : EngineClaim l
      claim = proposal_claim (E.kind c) r.taken i R.log I.claim

      events : (e : LogEvent) → In e l → EventTrue g made.world e
      events = proposal_events g made.world (E.kind c) r.taken i R.log
          (λ e h. event_stays g P i I.world made.world made.grows e (I.events e h))

      old : (s v : ℕ) → (I.world.Proposed s v) ⊎ P s v → ((j : ℕ) × In (proposal j s v) R.log) ⊎ P s v
      old s v (inl h) = inl (I.proposals s v h)
      old s v (inr p) = inr p

      proposals : (s v : ℕ) → made.world.Proposed s v → (j : ℕ) × In (proposal j s v) l
      proposals s v h = proposal_found x (E.kind c) r.taken i s v R.log (I.slots i below) (old s v (made.grows.new_proposed s v h))

  begin_holds : Invariant (empty_run E)
  begin_holds = record {
    world = w0;
    consistent = record {
      one_value = λ m m' s r v v' h. absurd h;
      safe = λ m s r v h. absurd h;
      in_round = λ m s r v h. absurd h;
      live = λ m s r v h. absurd h;
      reached = λ m s r v h. absurd h;
      proposed = λ m s r v h. absurd h;
      delegate_reached = λ m s r v h. absurd h;
      first_once = λ m s c v c' v' h. absurd h;
      first_live = λ m s c v h. absurd h;
      first_reached = λ m s c v h. absurd h;
      first_proposed = λ m s c v h. absurd h;
      first_owner = λ m s p v h. absurd h;
      own_rounds = λ t m s r h l. let z = rules.no_start t in let e = h.1 in absurd (omega arith);
    };
    views = λ i below. subst (TrueView g w0 i) (sym (sound.initial_view i below)) (
        fresh_true g w0 i 0 (record { at = (refl, refl); furthest = λ s r h. (omega (arith, h.0), λ _. omega (arith, h.1)); started = omega arith })
        (λ c v h. h) (λ r v h. h) (λ m v h d. h)
        );
    valid = sound.initial_valid;
    messages = λ e h. absurd h;
    events = λ e h. absurd h;
    proposals = λ s v h. absurd h;
    slots = λ i below. ap (λ (y : View). y.slot) (sound.initial_view i below);
    claim = tt;
  }
    where
      w0 : World
      w0 = record { Votes = λ m s r v. ⊥; Reached = λ m s r. (s ≡ 0) × (r ≡ g.start); First = λ m s c v. ⊥; Proposed = λ s v. ⊥ }

  runs_keep : (cs : List E.Call) (R : RunOf E) → Invariant R → LegalCalls E R cs → Invariant (run_of_calls E R cs)
  unfolding run_of_calls LegalCalls
  runs_keep [] R I k = I
  runs_keep (c ∷ cs) R I k = runs_keep cs (run_with_call E R c) (step_keeps R I c k.0 k.1) k.2

  -- the log of any legal list of calls on new members rules the claim
  pub group_claim : (cs : List E.Call) → LegalCalls E (empty_run E) cs → EngineClaim (run_of_calls E (empty_run E) cs).log
  group_claim cs k = (runs_keep cs (empty_run E) begin_holds k).claim

-- The core of a shard seen as the model's view of a member: rounds as numbers, sets as tests, messages by their part in the agreement.
-- Assumes nothing.
use Rattle.std.specs.Prelude.{Option, None, Some, is_some, Result, IfOk}
use Rattle.std.proofs.Math.Bool.{or_comm}
use mathlib.Core.Path.{◌≡◌, refl, sym, ap, ap₂, subst, fun_ext, ◌∙◌}
use mathlib.Core.Logic.{inl, inr}
use mathlib.Core.Bool.{Bool, true, false, cond, ◌||◌}
use mathlib.Core.List.{List, [], ◌∷◌}
use Prim.Native.Nat.{ℕ, zero, suc, pred, ◌+◌, ◌*◌, ◌%◌, ◌<◌}
use native.Mathlib.Nat.{zero-lt-suc}
use native.Mathlib.Decide.{dec_lt}
use native.Mathlib.Omega.{arith}
use lib.Dec.{eqb, ltb}
use borrow.Author.Tests.{lt-ltb, le-ltb, ltb-true, eqb-true, eq-eqb}
use Rattle.basics.proofs.Tests.{same_test}
use Rattle.basics.specs.sets.Sets.{contains, insert}
use Rattle.basics.proofs.sets.Laws.{contains_empty, contains_insert}
use Rattle.message.specs.Promises.{value_of, accept_round_of}
use Rattle.message.specs.Rounds.{before, equal}
use Rattle.message.proofs.Order.{EarlierRound, round_before_lem, before_round_lem, equal_rounds, round_equals_itself}
use Rattle.message.specs.declared.ConsensusMessage.{ConsensusMessage}
use Rattle.message.specs.declared.ConsensusMsg.{ConsensusMsg}
use Rattle.message.specs.declared.ConsensusMsg.TheVariants.{Prepare, Accept, ForwardRequest, Commit, ReadRequest, ReadResponse}
use Rattle.message.specs.declared.PaxosRound.{PaxosRound}
use Rattle.message.specs.declared.PFMode.{PFMode}
use Rattle.message.specs.declared.PFMode.TheVariants.{Paxos, MultiPaxos, MultiPaxos3P, EPaxos, Pando, SwiftPaxos}
use Rattle.message.specs.declared.Refusal.{Refusal}
use Rattle.message.specs.declared.RoundV.{RoundV}
use Rattle.message.specs.declared.RoundV.TheVariants.{FastV, PaxosV}
use Rattle.basics.specs.tables.Tables.{look_up}
use Rattle.fast_state.specs.declared.FastState.{FastState}
use Rattle.round_state.specs.Paxos.{get_last_accepted_round}
use Rattle.settings.specs.Questions.{quorums_of, delegate_of, committer_of, starting_round_of}
use Rattle.settings.specs.declared.Settings.{Settings}
use Rattle.message.specs.Modes.{is_multi_paxos}
use Rattle.classic.specs.accept.Accept.{tells_committer}
use Rattle.steps.specs.Steps.{CoreStep, held_rv, held_value}
use Rattle.steps.specs.declared.Core.{Core}
use Rattle.steps.specs.declared.Destination.{Destination}
use Rattle.steps.specs.declared.Destination.TheVariants.{One, All}
use Rattle.steps.specs.declared.SentMessages.{SentMessages}
use Rattle.steps.specs.declared.Next.{Next}
use Rattle.steps.specs.declared.Next.TheVariants.{Stays, Continues, Commits}
use Rattle.steps.specs.declared.Outgoing.{Outgoing}
use Rattle.consensus.proofs.Handled.{eqb_sym}
use Rattle.agreement.specs.Engine.{Envelope}
use Rattle.agreement.specs.Model.{View, ModelAnswers, ModelSetup, ModelMessage, prepare, accept, commit, other, undecided, decided, ModelOutcome, empty, add, advanced, ModelDestination}
use Rattle.agreement.specs.Model as model
use Rattle.agreement.specs.Refinement.{meanings}

-- ---- rounds as numbers

abbrev pub round_number : Option PaxosRound → ℕ
round_number None = 0
round_number (Some r) = suc (r.round_group * 64 + r.leader)

-- a leader of which something holds, where there is a round; a leader below 64
abbrev pub LeaderIn : (ℕ → Type 0) → Option PaxosRound → Type 0
LeaderIn Leads None = Unit {0}
LeaderIn Leads (Some r) = Leads r.leader

abbrev pub LeaderFits : Option PaxosRound → Type 0
LeaderFits r = LeaderIn (λ p. p < 64) r

abbrev pub leader_of : ℕ → ℕ
leader_of n = pred n % 64

pub leader_of_lem : (r : PaxosRound) → r.leader < 64 → leader_of (round_number (Some r)) ≡ r.leader
leader_of_lem r h = omega arith

pub before_number : (a b : Option PaxosRound) → LeaderFits a → LeaderFits b → before a b ≡ ltb (round_number a) (round_number b)
before_number None None h k = refl
before_number None (Some b) h k = sym (lt-ltb 0 (round_number (Some b)) (zero-lt-suc (b.round_group * 64 + b.leader)))
before_number (Some a) None h k = sym (le-ltb (round_number (Some a)) 0 (omega arith))
before_number (Some a) (Some b) h k =
    same_test (λ e. lt-ltb (round_number (Some a)) (round_number (Some b)) (up (round_before_lem a b e)))
    (λ e. before_round_lem a b (down (ltb-true (round_number (Some a)) (round_number (Some b)) e)))
  where
    up : EarlierRound a b → round_number (Some a) < round_number (Some b)
    up (inl l) = omega arith
    up (inr l) = omega arith

    down : round_number (Some a) < round_number (Some b) → EarlierRound a b
    down l = go (dec_lt a.round_group b.round_group)
      where
        go : Dec (a.round_group < b.round_group) → EarlierRound a b
        go (yes e) = inl e
        go (no e) = inr (omega arith, omega arith)

same_number : (a b : Option PaxosRound) → LeaderFits a → LeaderFits b → round_number a ≡ round_number b → a ≡ b
same_number None None h k e = refl
same_number None (Some b) h k e = absurd (omega arith)
same_number (Some a) None h k e = absurd (omega arith)
same_number (Some a) (Some b) h k e =
    let g : a.round_group ≡ b.round_group = omega arith in
    let l : a.leader ≡ b.leader = omega arith in ap₂ (λ (x y : ℕ). Some (record { round_group = x; leader = y })) g l

pub equal_number : (a b : Option PaxosRound) → LeaderFits a → LeaderFits b → equal a b ≡ eqb (round_number a) (round_number b)
equal_number a b h k =
    same_test (λ e. eq-eqb (round_number a) (round_number b) (ap round_number (equal_rounds a b e)))
    (λ e. subst (λ (x : Option PaxosRound). equal a x ≡ true) (same_number a b h k (eqb-true (round_number a) (round_number b) e)) (round_equals_itself a))

-- ---- optional processes as numbers, from 1

abbrev pub process_number : Option ℕ → ℕ
process_number None = 0
process_number (Some p) = suc p

abbrev pub process_of : ℕ → Option ℕ
process_of zero = None
process_of (suc p) = Some p

pub process_of_lem : (p : Option ℕ) → process_of (process_number p) ≡ p
process_of_lem None = refl
process_of_lem (Some p) = refl

-- ---- sets as tests

pub no_member : contains 0 ≡ empty
no_member = fun_ext contains_empty

pub insert_add : (s p : ℕ) → p < 64 → contains (insert s p) ≡ add p (contains s)
insert_add s p l = fun_ext (λ q. contains_insert s p q l ∙ ap (λ (t : Bool). contains s q || t) (eqb_sym p q) ∙ or_comm (contains s q) (eqb q p))

-- ---- messages

-- the proposer that a promise names, counted from 1
abbrev pub proposer_of : RoundV → ℕ
proposer_of (FastV proposer v) = suc proposer
proposer_of (PaxosV at v) = 0

abbrev pub meaning_of : ConsensusMessage → ModelMessage
meaning_of m = meaning_of_msg m.msg
  where
    meaning_of_msg : ConsensusMsg → ModelMessage
    meaning_of_msg (Prepare slot round rv) = prepare slot (round_number (Some round)) (round_number (accept_round_of rv)) (proposer_of rv) (value_of rv)
    meaning_of_msg (Accept slot round v) = accept slot (round_number (Some round)) v
    meaning_of_msg (ForwardRequest v) = other
    meaning_of_msg (Commit slot v) = commit slot v
    meaning_of_msg (ReadRequest id) = other
    meaning_of_msg (ReadResponse id next) = other

-- what a message means, by what is known of it
pub meaning_is : (message : ConsensusMessage) (m : ConsensusMsg) → message.msg ≡ m → meaning_of message ≡ meaning_of (record { msg = m; src = message.src; last_v = message.last_v })
meaning_is message m e = ap (λ (m : ConsensusMsg). meaning_of (record { msg = m; src = message.src; last_v = message.last_v })) e

abbrev pub reached : Destination → ModelDestination
reached (One p) = model.to p
reached (All first) = model.all

-- "A Commit counts as sent to every other member"
abbrev pub destination_of : Destination → ConsensusMsg → ModelDestination
destination_of d (Prepare slot round rv) = reached d
destination_of d (Accept slot round v) = reached d
destination_of d (ForwardRequest v) = reached d
destination_of d (Commit slot v) = model.all
destination_of d (ReadRequest id) = reached d
destination_of d (ReadResponse id next) = reached d

abbrev pub envelope : Outgoing → Envelope ConsensusMessage
envelope o = record { destination = destination_of o.destination o.message.msg; message = o.message }

abbrev pub envelopes_of : Option Outgoing → List (Envelope ConsensusMessage) → List (Envelope ConsensusMessage)
envelopes_of None rest = rest
envelopes_of (Some o) rest = envelope o ∷ rest

-- the messages of a step, in order
abbrev pub envelopes : SentMessages → List (Envelope ConsensusMessage)
envelopes ms = envelopes_of ms.first (envelopes_of ms.second (envelopes_of ms.third []))

-- ---- the core as a view

-- the fast half as the model's answers; a process above 63 has the score of the beginning
abbrev pub model_answers_of : FastState → ModelAnswers
model_answers_of fast =
    record {
      answered = contains fast.fast_answer_set;
      preaccepted = fast.fast_preaccepted;
      proposers = contains fast.fast_proposers;
      values = look_up fast.fast_proposer_to_v;
      scores = λ p. cond (ltb p 64) (look_up fast.epaxos_proposer_scores p) 2;
    }

abbrev pub view_of : ModelAnswers → Core → View
view_of ans core =
    record {
      slot = core.slot;
      round = round_number core.paxos.round;
      holds = is_some core.paxos.max_rv;
      held_round = round_number (get_last_accepted_round core.paxos.max_rv);
      held_proposer = proposer_of (held_rv core.paxos.max_rv);
      held_value = held_value core.paxos.max_rv;
      prepared = contains core.paxos.prepared_set;
      accepted = contains core.paxos.accepted_set;
      answers = ans;
    }

-- the leaders of its round and of its held accept round are processes
pub record Leaders (core : Core) : Type 0 where
  pub in_round_lem : LeaderFits core.paxos.round
  pub in_held : LeaderFits (get_last_accepted_round core.paxos.max_rv)

-- ---- the group as the model's setup

abbrev pub is_e_paxos : PFMode → Bool
is_e_paxos Paxos = false
is_e_paxos MultiPaxos = false
is_e_paxos MultiPaxos3P = false
is_e_paxos EPaxos = true
is_e_paxos Pando = false
is_e_paxos SwiftPaxos = false

abbrev pub model_setup_of : Settings → ModelSetup
model_setup_of s =
    record {
      voters =
          record {
            count = 64;
            quorum = (quorums_of s).majority;
            fast_path = is_e_paxos s.mode;
            fast_quorum = cond (is_e_paxos s.mode) (quorums_of s).epaxos 65;
            start = round_number (starting_round_of s);
            live = contains s.alive_replicas;
            delegate = λ r. delegate_of s s.mode (leader_of r);
          };
      leader = leader_of;
      own_round = λ i. suc i;
      starts_led = is_multi_paxos s.mode;
      three_phases = tells_committer s.mode;
      committer = λ p. process_number (committer_of s (process_of p));
    }

-- ---- a step as the model's outcome

-- what a step leaves is the outcome r; ans is the fast half behind it
abbrev pub SeenAs : ModelSetup → ModelAnswers → Core → SentMessages → Next → ModelOutcome → Type 0
SeenAs S ans core ms Stays r = record { view = view_of ans core; outgoing = meanings meaning_of (envelopes ms); decision = undecided; taken = true } ≡ r
SeenAs S ans core ms Continues r = ⊥
SeenAs S ans core ms (Commits v) r =
    record { view = advanced S.voters.start (view_of ans core); outgoing = meanings meaning_of (envelopes ms); decision = decided core.slot v; taken = true } ≡ r

pub record Follows (S : ModelSetup) (ans : ModelAnswers) (step : Result CoreStep Refusal) (r : ModelOutcome) : Type 0 where
  pub seen_as : IfOk step (λ x. SeenAs S ans x.state x.messages x.next r)

-- The engine's state in the paper's terms: what each operation of the round state does to the replica that is seen in it.
-- Assumes nothing.
use Rattle.std.specs.Prelude.{Option as Optional, None, Some, is_some, Result}
use mathlib.Core.Path.{◌≡◌, refl, sym, ap, subst, ◌∙◌}
use mathlib.Core.Logic.{◌⊎◌, inl, inr}
use mathlib.Core.Bool.{Bool, true, false, cond, not, ◌&&◌, ◌||◌}
use mathlib.Core.List.{[], ◌∷◌}
use mathlib.Core.Option.{Option, none, some}
use Prim.Native.Nat.{ℕ, zero, suc, ◌+◌, ◌*◌, ◌/◌, ◌%◌, ◌^◌, ◌≤◌, ◌<◌, max}
use native.Mathlib.Nat.{le_refl}
use native.Mathlib.Omega.{arith}
use lib.Bits.{bit_or, or_step, or_zero_r}
use lib.Dec.{eqb, ltb}
use borrow.Author.Tests.{eqb-true}
use Rattle.basics.proofs.Tests.{not_both, same_test, of-both}
use Rattle.basics.specs.sets.Sets.{insert}
use Rattle.paxos.specs.PaxosMadeSimple.{Proposal, Acceptor, greater, exceeded, higher, responds, prepare, accepted_in, accepts_proposal, accept, highest, choice}
use Rattle.message.specs.Rounds.{round_before, round_equal, before, equal}
use Rattle.message.proofs.Order.{rounds_ordered, optional_rounds_ordered, round_equal_lem, equal_round}
use Rattle.message.specs.declared.PaxosRound.{PaxosRound}
use Rattle.message.specs.declared.Refusal.{Refusal}
use Rattle.message.specs.declared.RoundV.{RoundV}
use Rattle.message.specs.declared.RoundV.TheVariants.{FastV, PaxosV}
use Rattle.round_state.specs.Paxos.{get_last_accepted_round, held_after_promise, receive_promise, counted, with_sender, with_own, accept_fits, after_accept}
use Rattle.round_state.specs.declared.PaxosState.{PaxosState}
use Rattle.round_state.proofs.Holding.{accept_fits_lem}
use Rattle.steps.specs.enter.Enter.{in_round}
use Rattle.steps.specs.Steps.{CoreStep, held_rv, held_value, map_step, on_rounds}
use Rattle.steps.specs.declared.Asked.{Asked}
use Rattle.steps.specs.declared.Core.{Core}
use Rattle.steps.specs.declared.Heard.{Heard}
use Rattle.paper.specs.Replica.{Replica, report_of, accepted_of, wish_of, responded_of, replica_of, brings, own_value, enters_number, first_wish, unless_accepted, is_there, newly, also_self, hears, accepts_with}
use Rattle.consensus.specs.Answers.{finish}
use Rattle.consensus.specs.FirstCause.{number_of_outcome}
use Rattle.consensus.specs.declared.State.{State}
use Rattle.consensus.specs.declared.StateAnswer.{StateAnswer}
use Rattle.paper.specs.PaperCall.{Place, Known, Seen, committers_as_learners}

-- ---- places

-- where a call is handled, by what the engine has asked of the settings, and what it knows of a message
abbrev pub place_in : Asked → ℕ → Core → Place
place_in a acceptors core =
    record {
      self = a.member.my_pid;
      acceptor = a.member.replica;
      acceptors = acceptors;
      start = responded_of a.starting_round;
      slot = core.slot;
      last = core.last_v;
      old = replica_of core.paxos;
    }

abbrev pub known_in : Asked → Heard → Known
known_in a h = record { src = h.src; proposer = h.delegate; requester = h.requester; committers = committers_as_learners a.mode h.committer }

-- `seen`, of what a call makes of the state
abbrev pub state_seen : StateAnswer → Seen
state_seen r =
    record {
      outcome = number_of_outcome r.reply.outcome;
      slot = r.state.rounds.core.slot;
      last = r.state.rounds.core.last_v;
      replica = replica_of r.state.rounds.core.paxos;
      messages = r.reply.messages;
      commit = r.reply.commit;
    }

-- what is seen of the call that ends with a step of the core
abbrev pub seen_after : State → Asked → Bool → Result CoreStep Refusal → Seen
seen_after state a there step = state_seen (finish state a there (map_step (on_rounds state.rounds.fast) step))

-- ---- choices

-- two choices by one test
pub both : {A B : Type 0} (f : A → B) (t s : Bool) {x y : A} {p q : B} → t ≡ s → (t ≡ true → f x ≡ p) → (t ≡ false → f y ≡ q) → f (cond t x y) ≡ cond s p q
both {A} {B} f t s {x} {y} {p} {q} e pos neg = go t refl ∙ ap (λ (b : Bool). cond b p q) e
  where
    go : (b : Bool) → t ≡ b → f (cond b x y) ≡ cond b p q
    go true d = pos d
    go false d = neg d

-- What is seen of a call that is taken is what the paper has. The causes of demand 1 say which calls are refused, so that a refusal has to be nothing.
abbrev pub AgreesIfTaken : Seen → Seen → Type 0
AgreesIfTaken s p = s.outcome ≡ 0 → s ≡ p

pub agrees_if_taken : {s p : Seen} → s ≡ p → AgreesIfTaken s p
agrees_if_taken e taken = e

pub through : {s t p q : Seen} → s ≡ t → AgreesIfTaken t q → q ≡ p → AgreesIfTaken s p
through e f d taken = e ∙ f (ap (λ (x : Seen). x.outcome) (sym e) ∙ taken) ∙ d

pub no_refusal : {s p : Seen} → ltb 0 s.outcome ≡ true → AgreesIfTaken s p
no_refusal above taken = absurd (not_both above (ap (ltb 0) taken))

-- by one test on both sides
pub agree_both : {A : Type 0} (f : A → Seen) (t s : Bool) {x y : A} {p q : Seen} → t ≡ s → (t ≡ true → AgreesIfTaken (f x) p) → (t ≡ false → AgreesIfTaken (f y) q)
    → AgreesIfTaken (f (cond t x y)) (cond s p q)
agree_both {A} f t s {x} {y} {p} {q} e pos neg = go t s refl e
  where
    go : (b c : Bool) → t ≡ b → b ≡ c → AgreesIfTaken (f (cond b x y)) (cond c p q)
    go true true d g = pos d
    go true false d g = absurd (not_both refl g)
    go false true d g = absurd (not_both refl (sym g))
    go false false d g = neg d

-- by a test of the engine alone
pub agree_unless : {A : Type 0} (f : A → Seen) (t : Bool) {x y : A} {p : Seen} → (t ≡ true → AgreesIfTaken (f x) p) → (t ≡ false → AgreesIfTaken (f y) p)
    → AgreesIfTaken (f (cond t x y)) p
agree_unless {A} f t {x} {y} {p} pos neg = go t refl
  where
    go : (b : Bool) → t ≡ b → AgreesIfTaken (f (cond b x y)) p
    go true d = pos d
    go false d = neg d

-- a choice by a test that is known
pub taken_no : {A B : Type 0} (f : A → B) (t : Bool) (x y : A) → t ≡ false → f (cond t x y) ≡ f y
taken_no f t x y e = ap (λ (b : Bool). f (cond b x y)) e

-- a choice of two arguments
pub push : {A B : Type 0} (f : A → B) (t : Bool) (x y : A) → cond t (f x) (f y) ≡ f (cond t x y)
push f true x y = refl
push f false x y = refl

-- what is proposed now and was not before
pub once : {B : Type 0} (f : Option (Proposal PaxosRound ℕ) → B) (s t : Bool) (p q : Proposal PaxosRound ℕ)
    → cond (not s && t) (f (some q)) (f none) ≡ f (newly (cond s (some p) none) (cond t (some q) none))
once f true t p q = refl
once f false true p q = refl
once f false false p q = refl

-- ---- what is held

pub held_kept : (held : Optional RoundV) → is_some held ≡ (is_there (accepted_of held) || is_there (wish_of held))
held_kept None = refl
held_kept (Some (FastV proposer v)) = refl
held_kept (Some (PaxosV None v)) = refl
held_kept (Some (PaxosV (Some n) v)) = refl

pub held_brings : (held : Optional RoundV) → held_rv held ≡ brings (accepted_of held) (wish_of held)
held_brings None = refl
held_brings (Some (FastV proposer v)) = refl
held_brings (Some (PaxosV None v)) = refl
held_brings (Some (PaxosV (Some n) v)) = refl

pub held_value_lem : (held : Optional RoundV) → held_value held ≡ choice round_before (own_value (wish_of held)) (accepted_of held ∷ [])
unfolding choice highest
held_value_lem None = refl
held_value_lem (Some (FastV proposer v)) = refl
held_value_lem (Some (PaxosV None v)) = refl
held_value_lem (Some (PaxosV (Some n) v)) = refl

-- two numbers are the same where neither is before the other
same_round : (m n : PaxosRound) → round_equal m n ≡ not (round_before m n || round_before n m)
same_round m n = same_test there back
  where
    there : round_equal m n ≡ true → not (round_before m n || round_before n m) ≡ true
    there e =
        ap (λ (x : PaxosRound). not (round_before x n || round_before n x)) (round_equal_lem m n e)
        ∙ ap (λ (t : Bool). not (t || t)) (rounds_ordered.irreflexive n)

    back : not (round_before m n || round_before n m) ≡ true → round_equal m n ≡ true
    back e = go (round_before m n) (round_before n m) refl refl e
      where
        go : (s t : Bool) → round_before m n ≡ s → round_before n m ≡ t → not (s || t) ≡ true → round_equal m n ≡ true
        go true t d f g = absurd (not_both g refl)
        go false true d f g = absurd (not_both g refl)
        go false false d f g = ap (round_equal m) (sym (rounds_ordered.connected m n d f)) ∙ equal_round m

pub held_accepted_in : (held : Optional RoundV) (n : PaxosRound) → equal (get_last_accepted_round held) (Some n) ≡ accepted_in round_before n (accepted_of held)
held_accepted_in None n = refl
held_accepted_in (Some (FastV proposer v)) n = refl
held_accepted_in (Some (PaxosV None v)) n = refl
held_accepted_in (Some (PaxosV (Some m) v)) n = same_round m n

-- ---- numbers

pub exceeded_older : (o : Optional PaxosRound) (n : PaxosRound) → before (Some n) o ≡ exceeded round_before (responded_of o) n
exceeded_older None n = refl
exceeded_older (Some m) n = refl

greater_later : (o : Optional PaxosRound) (n : PaxosRound) → before o (Some n) ≡ greater round_before n (responded_of o)
greater_later None n = refl
greater_later (Some m) n = refl

-- a round is entered as the acceptor responds to its number
pub round_entered : (n : PaxosRound) (core : Core) → replica_of (in_round n core).paxos ≡ enters_number n (replica_of core.paxos)
unfolding in_round enters_number prepare responds
round_entered n core =
    both (λ (c : Core). replica_of c.paxos) (before core.paxos.round (Some n)) (responds round_before (replica_of core.paxos).acceptor n)
    (greater_later core.paxos.round n)
    (λ e. ap (λ (t : Bool). with (cond t (record { responded = some n; accepted = accepted_of core.paxos.max_rv }) (replica_of core.paxos).acceptor))
    (sym e ∙ greater_later core.paxos.round n))
    (λ e. refl)
  where
    with : Acceptor PaxosRound ℕ → Replica
    with x = record { acceptor = x; wish = wish_of core.paxos.max_rv; promised = 0; agreed = 0 }

-- the number of the round that was entered is not exceeded
pub not_exceeded : (n : PaxosRound) (core : Core) → before (Some n) core.paxos.round ≡ false → before (Some n) (in_round n core).paxos.round ≡ false
unfolding in_round
not_exceeded n core e =
    of-both (λ (c : Core). before (Some n) c.paxos.round ≡ false) (before core.paxos.round (Some n))
    (optional_rounds_ordered.irreflexive (Some n)) e

-- ---- a promise

accepted_cond : (t : Bool) (a b : RoundV) → accepted_of (cond t (Some a) (Some b)) ≡ cond t (report_of a) (report_of b)
accepted_cond true a b = refl
accepted_cond false a b = refl

-- the higher-numbered proposal is kept
pub promise_higher : (held : Optional RoundV) (rv : RoundV) → accepted_of (held_after_promise held rv) ≡ higher round_before (accepted_of held) (report_of rv)
unfolding held_after_promise
promise_higher None rv = refl
promise_higher (Some (FastV p v)) (FastV q w) = refl
promise_higher (Some (FastV p v)) (PaxosV None w) = refl
promise_higher (Some (FastV p v)) (PaxosV (Some r) w) = refl
promise_higher (Some (PaxosV None v)) (FastV q w) = refl
promise_higher (Some (PaxosV None v)) (PaxosV None w) = refl
promise_higher (Some (PaxosV None v)) (PaxosV (Some r) w) = refl
promise_higher (Some (PaxosV (Some s) v)) (FastV q w) = refl
promise_higher (Some (PaxosV (Some s) v)) (PaxosV None w) = refl
promise_higher (Some (PaxosV (Some s) v)) (PaxosV (Some r) w) = accepted_cond (round_before s r) (PaxosV (Some r) w) (PaxosV (Some s) v)

wish_cond : (t : Bool) (n m : PaxosRound) (v w : ℕ) (o : Option RoundV)
    → wish_of (cond t (Some (PaxosV (Some n) v)) (Some (PaxosV (Some m) w)))
    ≡ unless_accepted (cond t (some (record { number = n; value = v })) (some (record { number = m; value = w }))) o
wish_cond true n m v w o = refl
wish_cond false n m v w o = refl

-- and the first wish, while there is no proposal
pub promise_wish : (held : Optional RoundV) (rv : RoundV)
    → wish_of (held_after_promise held rv) ≡ unless_accepted (higher round_before (accepted_of held) (report_of rv)) (first_wish (wish_of held) rv)
unfolding held_after_promise
promise_wish None (FastV q w) = refl
promise_wish None (PaxosV None w) = refl
promise_wish None (PaxosV (Some r) w) = refl
promise_wish (Some (FastV p v)) (FastV q w) = refl
promise_wish (Some (FastV p v)) (PaxosV None w) = refl
promise_wish (Some (FastV p v)) (PaxosV (Some r) w) = refl
promise_wish (Some (PaxosV None v)) (FastV q w) = refl
promise_wish (Some (PaxosV None v)) (PaxosV None w) = refl
promise_wish (Some (PaxosV None v)) (PaxosV (Some r) w) = refl
promise_wish (Some (PaxosV (Some s) v)) (FastV q w) = refl
promise_wish (Some (PaxosV (Some s) v)) (PaxosV None w) = refl
promise_wish (Some (PaxosV (Some s) v)) (PaxosV (Some r) w) = wish_cond (round_before s r) r s w v (some (PaxosV (Some r) w))

-- ---- an accept

-- one that fits is higher than what was accepted, or the same
later_higher : (held : Optional RoundV) (n : PaxosRound) (v : ℕ) → before (get_last_accepted_round held) (Some n) ≡ true
    → some (record { number = n; value = v }) ≡ higher round_before (accepted_of held) (some (record { number = n; value = v }))
later_higher None n v e = refl
later_higher (Some (FastV p w)) n v e = refl
later_higher (Some (PaxosV None w)) n v e = refl
later_higher (Some (PaxosV (Some r) w)) n v e =
    ap (λ (t : Bool). cond t (some (record { number = n; value = v })) (some (record { number = r; value = w }))) (sym e)

pub accept_higher : (held : Optional RoundV) (n : PaxosRound) (v : ℕ) → accept_fits held n v ≡ true
    → some (record { number = n; value = v }) ≡ higher round_before (accepted_of held) (some (record { number = n; value = v }))
accept_higher held n v e = go (accept_fits_lem held n v e)
  where
    go : (before (get_last_accepted_round held) (Some n) ≡ true) ⊎ (held ≡ Some (PaxosV (Some n) v))
        → some (record { number = n; value = v }) ≡ higher round_before (accepted_of held) (some (record { number = n; value = v }))
    go (inl l) = later_higher held n v l
    go (inr s) =
        ap (λ (t : Bool). cond t (some (record { number = n; value = v })) (some (record { number = n; value = v }))) (sym (rounds_ordered.irreflexive n))
        ∙ ap (λ (x : Optional RoundV). higher round_before (accepted_of x) (some (record { number = n; value = v }))) (sym s)

-- ---- who is counted

or_again_up_to : (k a b : ℕ) → b ≤ k → bit_or (bit_or a b) b ≡ bit_or a b
or_again_up_to zero a b h = subst (λ (c : ℕ). bit_or (bit_or a c) c ≡ bit_or a c) (none_left b h) (or_zero_r (bit_or a zero))
  where
    none_left : (x : ℕ) → x ≤ zero → zero ≡ x
    none_left x g = let z = g in omega arith
or_again_up_to (suc k) a b h =
    or_step (bit_or a b) b
    ∙ ap (λ (c : ℕ). bit_or (c / 2) (b / 2) * 2 + max (c % 2) (b % 2)) (or_step a b)
    ∙ halves (bit_or (a / 2) (b / 2)) (max (a % 2) (b % 2)) (digit a b) (b / 2) (b % 2)
    ∙ ap (λ (c : ℕ). c * 2 + max (max (a % 2) (b % 2)) (b % 2)) (or_again_up_to k (a / 2) (b / 2) (half b h))
    ∙ ap (λ (c : ℕ). bit_or (a / 2) (b / 2) * 2 + c) (again (a % 2) (b % 2))
    ∙ sym (or_step a b)
  where
    digit : (x y : ℕ) → max (x % 2) (y % 2) < 2
    digit x y = omega arith

    half : (x : ℕ) → x ≤ suc k → x / 2 ≤ k
    half x g = let z = g in omega arith

    again : (x y : ℕ) → max (max x y) y ≡ max x y
    again x y = omega arith

    half_of : (h d : ℕ) → d < 2 → (h * 2 + d) / 2 ≡ h
    half_of h d l = let z = l in omega arith

    rest_of : (h d : ℕ) → d < 2 → (h * 2 + d) % 2 ≡ d
    rest_of h d l = let z = l in omega arith

    halves : (h d : ℕ) → d < 2 → (y e : ℕ) → bit_or ((h * 2 + d) / 2) y * 2 + max ((h * 2 + d) % 2) e ≡ bit_or h y * 2 + max d e
    halves h d l y e =
        ap (λ (c : ℕ). bit_or c y * 2 + max ((h * 2 + d) % 2) e) (half_of h d l) ∙ ap (λ (c : ℕ). bit_or h y * 2 + max c e) (rest_of h d l)

-- one that is put in twice
insert_again : (s p : ℕ) → insert (insert s p) p ≡ insert s p
unfolding insert
insert_again s p = go (ltb p 64)
  where
    put : Bool → ℕ → ℕ
    put t x = cond t (bit_or x (2 ^ p)) x

    go : (t : Bool) → put t (put t s) ≡ put t s
    go true = or_again_up_to (2 ^ p) s (2 ^ p) (le_refl (2 ^ p))
    go false = refl

-- ---- both, at a live replica

module _ (a : Asked) (replica : a.member.replica ≡ true) where
  pub counted_also : (src set : ℕ) → counted a.member src set ≡ also_self a.member.my_pid src set
  unfolding with_own with_sender
  counted_also src set =
      ap (λ (t : Bool). cond t (insert (with_sender a.member src set) a.member.my_pid) (with_sender a.member src set)) replica
      ∙ go (eqb src a.member.my_pid) refl
    where
      me : ℕ
      me = a.member.my_pid

      go : (t : Bool) → eqb src me ≡ t → insert (cond t set (insert set src)) me ≡ insert (insert set src) me
      go true e = sym (insert_again set me) ∙ ap (λ (p : ℕ). insert (insert set p) me) (sym (eqb-true src me e))
      go false e = refl

  pub promise_heard : (src : ℕ) (rv : RoundV) (p : PaxosState)
      → replica_of (receive_promise a.member src rv p) ≡ hears a.member.my_pid src rv (replica_of p)
  unfolding receive_promise hears
  promise_heard src rv p =
      ap (λ (x : Option (Proposal PaxosRound ℕ)). made x (wish_of (held_after_promise p.max_rv rv)) (counted a.member src p.prepared_set))
      (promise_higher p.max_rv rv)
      ∙ ap (λ (x : Option RoundV). made now x (counted a.member src p.prepared_set)) (promise_wish p.max_rv rv)
      ∙ ap (made now (unless_accepted now (first_wish (wish_of p.max_rv) rv))) (counted_also src p.prepared_set)
    where
      now : Option (Proposal PaxosRound ℕ)
      now = higher round_before (accepted_of p.max_rv) (report_of rv)

      made : Option (Proposal PaxosRound ℕ) → Option RoundV → ℕ → Replica
      made x w set = record { acceptor = record { responded = responded_of p.round; accepted = x }; wish = w; promised = set; agreed = p.accepted_set }

  -- an accept that fits, in a number that is not exceeded
  pub accept_counted : (src : ℕ) (n : PaxosRound) (v : ℕ) (p : PaxosState) → before (Some n) p.round ≡ false → accept_fits p.max_rv n v ≡ true
      → replica_of (after_accept a.member src n v p) ≡ accepts_with a.member.my_pid src (record { number = n; value = v }) (replica_of p)
  unfolding accepts_with accept accepts_proposal
  accept_counted src n v p free fit =
      ap (λ (x : Option (Proposal PaxosRound ℕ)). made (record { responded = responded_of p.round; accepted = x })
      (counted a.member src p.accepted_set)) (accept_higher p.max_rv n v fit)
      ∙ ap (made taken) (counted_also src p.accepted_set)
      ∙ ap (λ (t : Bool). cond (not t) (made (cond (not t) taken (replica_of p).acceptor) (also_self a.member.my_pid src p.accepted_set)) (replica_of p))
      (sym free ∙ exceeded_older p.round n)
    where
      taken : Acceptor PaxosRound ℕ
      taken = record { responded = responded_of p.round; accepted = higher round_before (accepted_of p.max_rv) (some (record { number = n; value = v })) }

      made : Acceptor PaxosRound ℕ → ℕ → Replica
      made x set = record { acceptor = x; wish = none; promised = p.prepared_set; agreed = set }

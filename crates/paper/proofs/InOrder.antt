-- The page's rules for a Prepare and an Accept (`prepare_received`, `accept_received`) in the order of the engine's tests: a number that is exceeded comes
-- first, and then what the replica makes of the message in the number. What the engine does, and what follows for each role, is proved with it.
-- Assumes nothing.
use mathlib.Core.Path.{◌≡◌, refl, sym, ap, ◌∙◌}
use mathlib.Core.Bool.{Bool, true, false, cond, not, ◌&&◌, ◌||◌, and-true}
use Rattle.std.proofs.Math.Bool.{and-false}
use mathlib.Core.List.{List, []}
use mathlib.Core.Option.{Option, none, some}
use Prim.Native.Nat.{ℕ}
use lib.Dec.{eqb}
use Rattle.basics.proofs.Tests.{not_both, fails, or_right, of-both}
use Rattle.paxos.specs.PaxosMadeSimple.{Proposal, Acceptor, Message, greater, exceeded, responds, prepare, response, accepted_in, ignores, accepts_proposal, accept, announcement}
use Rattle.paxos.specs.PaxosMadeSimple.Message.{promise, acceptance}
use Rattle.message.specs.Rounds.{round_before}
use Rattle.message.proofs.Order.{rounds_ordered}
use Rattle.message.specs.declared.PaxosRound.{PaxosRound}
use Rattle.message.specs.declared.RoundV.{RoundV}
use Rattle.steps.specs.declared.Outgoing.{Outgoing}
use Rattle.paper.specs.Replica.{Replica, enters_number, or_again, promises, abandons, keeps_something, also_self, hears, takes_up, accepts_with}
use Rattle.paper.specs.PaperCall.{Seen, Place, Known, leaves, nothing_happens, takes_part_in_slot, replica_after_prepare, to_proposer, responding, proposes_on_majority, hearing, prepare_received, is_learner, announced_to, to_each, announces, counts_and_learns, replica_after_accept, acts_on_accept, accept_received}

-- ---- numbers

pub later_not_exceeded : (o : Option PaxosRound) (n : PaxosRound) → greater round_before n o ≡ true → exceeded round_before o n ≡ false
later_not_exceeded none n e = refl
later_not_exceeded (some m) n e = fails (λ f. not_both (rounds_ordered.transitive m n m e f) (rounds_ordered.irreflexive m))

pub exceeded_not_later : (o : Option PaxosRound) (n : PaxosRound) → exceeded round_before o n ≡ true → greater round_before n o ≡ false
exceeded_not_later none n e = absurd (not_both e refl)
exceeded_not_later (some m) n e = fails (λ f. not_both (rounds_ordered.transitive n m n e f) (rounds_ordered.irreflexive n))

pub or_false : (s t : Bool) → t ≡ false → (s || t) ≡ s
or_false true t e = refl
or_false false t e = e

-- ---- the response

-- in a number that is not exceeded, unless a proposal of that number was accepted
abbrev unless_accepted_in : PaxosRound → Option (Proposal PaxosRound ℕ) → Option (Message PaxosRound ℕ)
unless_accepted_in n accepted = cond (accepted_in round_before n accepted) none (some (promise n accepted))

-- the first time and again
promises_in : (n : PaxosRound) (a : Acceptor PaxosRound ℕ) → exceeded round_before a.responded n ≡ false → promises n a ≡ unless_accepted_in n a.accepted
unfolding promises ignores response
promises_in n a e =
    ap (λ (t : Bool). cond (t || accepted_in round_before n a.accepted) none (or_again n a (response round_before a n))) e
    ∙ ap (cond (accepted_in round_before n a.accepted) none) (go (responds round_before a n))
  where
    go : (t : Bool) → or_again n a (cond t (some (promise n a.accepted)) none) ≡ some (promise n a.accepted)
    go true = refl
    go false = refl

promises_older : (n : PaxosRound) (a : Acceptor PaxosRound ℕ) → exceeded round_before a.responded n ≡ true → promises n a ≡ none
unfolding promises ignores
promises_older n a e = ap (λ (t : Bool). cond (t || accepted_in round_before n a.accepted) none (or_again n a (response round_before a n))) e

-- ---- a Prepare

-- an exceeded number is not entered
enters_older : (n : PaxosRound) (r : Replica) → exceeded round_before r.acceptor.responded n ≡ true → enters_number n r ≡ r
unfolding enters_number responds
enters_older n r e =
    ap (λ (t : Bool). cond t (record { acceptor = prepare round_before r.acceptor n; wish = r.wish; promised = 0; agreed = 0 }) r)
    (exceeded_not_later r.acceptor.responded n e)

module _ (here : Place) (known : Known) (n : PaxosRound) (rv : RoundV) where
  abbrev me : ℕ
  me = here.self

  abbrev old : Replica
  old = here.old

  abbrev older : Bool
  older = exceeded round_before old.acceptor.responded n

  -- what a replica in the number keeps
  abbrev pub kept : Replica → Replica
  kept r = cond (keeps_something r) r (hears me me rv r)

  -- and what it makes of the Prepare
  abbrev pub then_prepare : Replica → Seen
  then_prepare r =
      cond (eqb known.proposer me) (proposes_on_majority here known n rv r)
      (leaves here r (to_proposer here known r.wish (unless_accepted_in n r.acceptor.accepted)))

  takes_up_lem : (r : Replica) → exceeded round_before r.acceptor.responded n ≡ false → takes_up me n rv r ≡ kept r
  unfolding takes_up
  takes_up_lem r e = ap (λ (t : Bool). cond t r (hears me me rv r)) (or_false (keeps_something r) (exceeded round_before r.acceptor.responded n) e)

  takes_up_older : (r : Replica) → exceeded round_before r.acceptor.responded n ≡ true → takes_up me n rv r ≡ r
  unfolding takes_up
  takes_up_older r e = ap (λ (t : Bool). cond t r (hears me me rv r)) (or_right (keeps_something r) e)

  -- the replica that has responded to n
  abbrev now : Replica
  now = record { acceptor = record { responded = some n; accepted = old.acceptor.accepted }; wish = old.wish; promised = 0; agreed = 0 }

  -- what holds of it, and of the one that was there, holds of the one that is entered
  of_entered : (P : Replica → Type 0) → P now → P old → P (enters_number n old)
  unfolding enters_number prepare
  of_entered P x y = go (responds round_before old.acceptor n)
    where
      go : (t : Bool) → P (cond t (record { acceptor = cond t now.acceptor old.acceptor; wish = old.wish; promised = 0; agreed = 0 }) old)
      go true = x
      go false = y

  kept_responded : (r : Replica) → (kept r).acceptor.responded ≡ r.acceptor.responded
  unfolding hears
  kept_responded r = go (keeps_something r)
    where
      go : (t : Bool) → (cond t r (hears me me rv r)).acceptor.responded ≡ r.acceptor.responded
      go true = refl
      go false = refl

  kept_accepted : (kept (enters_number n old)).acceptor.accepted ≡ (kept old).acceptor.accepted
  unfolding hears
  kept_accepted = of_entered (λ (r : Replica). (kept r).acceptor.accepted ≡ (kept old).acceptor.accepted) (go (keeps_something old)) refl
    where
      go : (t : Bool) → (cond t now (hears me me rv now)).acceptor.accepted ≡ (cond t old (hears me me rv old)).acceptor.accepted
      go true = refl
      go false = refl

  abbrev answered : Replica → Option (Message PaxosRound ℕ) → Seen
  answered r m = leaves here r (to_proposer here known r.wish m)

  responding_older : older ≡ true → responding here known n rv ≡ nothing_happens here
  unfolding responding
  responding_older e =
      ap (λ (r : Replica). answered (takes_up me n rv r) (promises n (takes_up me n rv old).acceptor)) (enters_older n old e)
      ∙ ap (λ (r : Replica). answered r (promises n r.acceptor)) (takes_up_older old e)
      ∙ ap (answered old) (promises_older n old.acceptor e)

  not_older : older ≡ false → exceeded round_before (enters_number n old).acceptor.responded n ≡ false
  not_older e = of_entered (λ (r : Replica). exceeded round_before r.acceptor.responded n ≡ false) (rounds_ordered.irreflexive n) e

  pub prepared_in : older ≡ false → replica_after_prepare here known n rv ≡ kept (enters_number n old)
  prepared_in e = takes_up_lem (enters_number n old) (not_older e)

  responding_in : older ≡ false
      → responding here known n rv ≡ answered (kept (enters_number n old)) (unless_accepted_in n (kept (enters_number n old)).acceptor.accepted)
  unfolding responding
  responding_in e =
      ap (λ (r : Replica). answered r (promises n (takes_up me n rv old).acceptor)) (prepared_in e)
      ∙ ap (λ (r : Replica). answered (kept (enters_number n old)) (promises n r.acceptor)) (takes_up_lem old e)
      ∙ ap (answered (kept (enters_number n old)))
      (promises_in n (kept old).acceptor (ap (λ (o : Option PaxosRound). exceeded round_before o n) (kept_responded old) ∙ e))
      ∙ ap (λ (x : Option (Proposal PaxosRound ℕ)). answered (kept (enters_number n old)) (unless_accepted_in n x)) (sym kept_accepted)

  prepare_by_age : cond (eqb known.proposer me) (hearing here known n rv) (responding here known n rv)
      ≡ cond (not older) (then_prepare (kept (enters_number n old))) (nothing_happens here)
  unfolding hearing abandons
  prepare_by_age = by_age older refl
    where
      by : Bool → Seen → Seen
      by t s = cond (eqb known.proposer me) (cond t (nothing_happens here) (proposes_on_majority here known n rv (replica_after_prepare here known n rv))) s

      by_age : (t : Bool) → older ≡ t → by t (responding here known n rv) ≡ cond (not t) (then_prepare (kept (enters_number n old))) (nothing_happens here)
      by_age true e = ap (by true) (responding_older e) ∙ of-both (λ (s : Seen). s ≡ nothing_happens here) (eqb known.proposer me) refl refl
      by_age false e =
          ap (by false) (responding_in e)
          ∙ ap (λ (r : Replica). cond (eqb known.proposer me) (proposes_on_majority here known n rv r)
          (answered (kept (enters_number n old)) (unless_accepted_in n (kept (enters_number n old)).acceptor.accepted))) (prepared_in e)

  pub prepare_in_order : (slot : ℕ) → prepare_received here known slot n rv
      ≡ cond (takes_part_in_slot here slot && not older) (then_prepare (kept (enters_number n old))) (nothing_happens here)
  unfolding prepare_received
  prepare_in_order slot = go (takes_part_in_slot here slot)
    where
      go : (t : Bool) → cond t (cond (eqb known.proposer me) (hearing here known n rv) (responding here known n rv)) (nothing_happens here)
          ≡ cond (t && not older) (then_prepare (kept (enters_number n old))) (nothing_happens here)
      go true = prepare_by_age
      go false = refl

-- ---- an Accept

module _ (here : Place) (known : Known) (p : Proposal PaxosRound ℕ) where
  abbrev source : ℕ
  source = known.src

  abbrev exceeds : Bool
  exceeds = exceeded round_before here.old.acceptor.responded p.number

  -- the announcement of one that accepts
  abbrev pub announced : List Outgoing
  announced = cond (eqb source known.proposer) (to_each here known (announced_to here known p.number) (some (acceptance p))) []

  -- what a replica in the number makes of the Accept
  abbrev pub then_accept : Replica → Seen
  then_accept r =
      cond (is_learner here known p.number) (counts_and_learns here known p (accepts_with here.self source p r) announced)
      (leaves here (accepts_with here.self source p r) announced)

  -- by what its acceptor does with an accept request
  abbrev by : Bool → Replica → List Outgoing → Seen
  by t r ms = cond (is_learner here known p.number && t) (counts_and_learns here known p r ms) (leaves here r ms)

  abbrev tells : Bool → List Outgoing
  tells t =
      cond (eqb source known.proposer) (to_each here known (announced_to here known p.number) (cond (not t) (some (acceptance p)) none)) []

  accept_by_age : acts_on_accept here known p ≡ cond (not exceeds) (then_accept (enters_number p.number here.old)) (nothing_happens here)
  unfolding acts_on_accept announces announcement accepts_proposal accepts_with
  accept_by_age = go exceeds refl
    where
      stays : exceeds ≡ true → replica_after_accept here known p ≡ here.old
      stays e =
          ap (accepts_with here.self source p) (enters_older p.number here.old e)
          ∙ ap (λ (t : Bool). cond (not t) (record {
            acceptor = accept round_before here.old.acceptor p;
            wish = none;
            promised = here.old.promised;
            agreed = also_self here.self source here.old.agreed;
          }) here.old) e

      go : (t : Bool) → exceeds ≡ t
          → by (not exceeds) (replica_after_accept here known p) (tells exceeds) ≡ cond (not t) (then_accept (enters_number p.number here.old)) (nothing_happens here)
      go true e =
          ap (λ (t : Bool). by (not t) (replica_after_accept here known p) (tells t)) e
          ∙ ap (by false (replica_after_accept here known p)) (of-both (λ (ms : List Outgoing). ms ≡ []) (eqb source known.proposer) refl refl)
          ∙ ap (λ (r : Replica). by false r []) (stays e)
          ∙ ap (λ (t : Bool). cond t (counts_and_learns here known p here.old []) (nothing_happens here)) (and-false (is_learner here known p.number))
      go false e =
          ap (λ (t : Bool). by (not t) (replica_after_accept here known p) (tells t)) e
          ∙ ap (λ (t : Bool). cond t (counts_and_learns here known p (replica_after_accept here known p) announced) (leaves here (replica_after_accept here known p) announced))
          (and-true (is_learner here known p.number))

  pub accept_in_order : (slot : ℕ) → accept_received here known slot p
      ≡ cond (takes_part_in_slot here slot && not exceeds) (then_accept (enters_number p.number here.old)) (nothing_happens here)
  unfolding accept_received
  accept_in_order slot = go (takes_part_in_slot here slot)
    where
      go : (t : Bool) → cond t (acts_on_accept here known p) (nothing_happens here) ≡ cond (t && not exceeds) (then_accept (enters_number p.number here.old)) (nothing_happens here)
      go true = accept_by_age
      go false = refl

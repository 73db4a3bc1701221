-- What a run is extended by is what is enabled, over any call on a shard and any host.
-- Assumes nothing.
use Rattle.std.specs.Prelude.{Ok, Err}
use Rattle.message.specs.Outcomes.{Outcome}
use mathlib.Core.Path.{◌≡◌, refl, sym, ap, subst, ◌∙◌}
use mathlib.Core.Logic.{◌⊎◌, inl, inr, ◌↔◌}
use mathlib.Core.Bool.{Bool, true, false, cond, not, ◌&&◌}
use mathlib.Core.List.{List, [], ◌∷◌}
use mathlib.Core.Option.{Option, none, some, none-ne-some, some-injective}
use Prim.Native.Nat.{ℕ, zero, suc, ◌≤◌, ◌<◌}
use native.Mathlib.Omega.{arith}
use lib.Dec.{eqb}
use lib.ListN.{length}
use borrow.Author.Tests.{eqb-true, eq-eqb, ne_eqb}
use Rattle.basics.specs.Lists.{In}
use Rattle.basics.proofs.Tests.{not_both, fails, and_left, and_right, and_both, or_cases, or_left, or_right}
use Rattle.message.specs.declared.ConsensusMessage.{ConsensusMessage}
use Rattle.message.specs.declared.ConsensusMsg.{ConsensusMsg}
use Rattle.message.specs.declared.ConsensusMsg.TheVariants.{Prepare, Accept, ForwardRequest, Commit, ReadRequest, ReadResponse}
use Rattle.steps.specs.declared.Destination.{Destination}
use Rattle.steps.specs.declared.Destination.TheVariants.{One, All}
use Rattle.calls.specs.declared.delivery.Delivery.{Delivery}
use Rattle.calls.specs.declared.Call.{Call}
use Rattle.calls.specs.declared.Call.TheVariants.{Propose, StartRead, Receive}
use Rattle.calls.specs.declared.Reply.{Reply}
use Rattle.group.specs.Claim.{Entry, Reaches, SentTo}
use Rattle.enabled_runs.specs.declared.RunEvent.{RunEvent}
use Rattle.enabled_runs.specs.declared.RunEvent.TheVariants.{Proposes, Delivers}
use Rattle.enabled_runs.specs.declared.Sending.{Sending}
use Rattle.enabled_runs.specs.Enabled.{RunSoFar, sent_in, StandsAt, WasSentTo, HasProposed, with_call, office_proposal, office_delivery, Enabled, ends, proposes, delivers}
use Rattle.calls.specs.Decision.{is_proposal}
use Rattle.enabled_runs.specs.Listing.{at_place, is_reached, is_commit_message, goes_to, is_sent_to, has_proposed, some_if_done, all_sent, with_delivery, extended_by, runs_from}
use Rattle.enabled_runs.specs.Order.{RunsInOrder}
use Rattle.enabled_runs.proofs.Listed.{Chain, listed_short, short_listed, listing_order}

-- ---- places

module _ {A : Type 0} where
  found_stands : (xs : List A) (k : ℕ) (x : A) → at_place xs k ≡ some x → StandsAt x k xs
  unfolding at_place
  found_stands [] k x e = absurd (none-ne-some x e)
  found_stands (y ∷ ys) zero x e = sym (some-injective y x e)
  found_stands (y ∷ ys) (suc k) x e = found_stands ys k x e

  stands_found : (xs : List A) (k : ℕ) (x : A) → StandsAt x k xs → at_place xs k ≡ some x
  unfolding at_place
  stands_found [] k x h = absurd h
  stands_found (y ∷ ys) zero x h = ap {B = Option A} some (sym h)
  stands_found (y ∷ ys) (suc k) x h = stands_found ys k x h

  pub stands_below : (xs : List A) (k : ℕ) (x : A) → StandsAt x k xs → k < length xs
  stands_below [] k x h = absurd h
  stands_below (y ∷ ys) zero x h = omega arith
  stands_below (y ∷ ys) (suc k) x h = let less = stands_below ys k x h in omega (arith, less)

-- ---- who proposed

proposes_is : (c : Call) → is_proposal c ≡ true → (v : ℕ) × (c ≡ Propose v)
proposes_is (Propose v) e = (v, refl)
proposes_is (StartRead tag arrival) e = absurd (not_both e refl)
proposes_is (Receive d) e = absurd (not_both e refl)

has_proposed_lem : (past : List Entry) (member : ℕ) → has_proposed past member ≡ true → HasProposed past member
unfolding has_proposed
has_proposed_lem [] member e = absurd (not_both e refl)
has_proposed_lem (x ∷ past) member e = go (λ k. has_proposed_lem past member k) (or_cases (eqb x.member member && is_proposal x.call) (has_proposed past member) e)
  where
    go : (has_proposed past member ≡ true → HasProposed past member) → ((eqb x.member member && is_proposal x.call) ≡ true) ⊎ (has_proposed past member ≡ true)
        → HasProposed (x ∷ past) member
    go earlier (inl k) =
        let p = proposes_is x.call (and_right (eqb x.member member) (is_proposal x.call) k) in
        (x, p.0, inl refl, eqb-true x.member member (and_left (eqb x.member member) (is_proposal x.call) k), p.1)
    go earlier (inr k) = let p = earlier k in (p.0, p.1, inr p.2, p.3, p.4)

proposed_is : (past : List Entry) (member : ℕ) (e : Entry) (v : ℕ) → In e past → e.member ≡ member → e.call ≡ Propose v → has_proposed past member ≡ true
unfolding has_proposed
proposed_is [] member e v i m c = absurd i
proposed_is (x ∷ past) member e v (inl p) m c =
    or_left (has_proposed past member)
    (and_both (eq-eqb x.member member (ap (λ (y : Entry). y.member) (sym p) ∙ m)) (ap (λ (y : Entry). is_proposal y.call) (sym p) ∙ ap is_proposal c))
proposed_is (x ∷ past) member e v (inr i) m c =
    or_right (eqb x.member member && is_proposal x.call) (proposed_is past member e v i m c)

-- ---- who a message was sent to

reaches_sent : (source : ℕ) (d : Destination) (member : ℕ) → is_reached source d member ≡ true → Reaches source d member
reaches_sent source (One p) member e = eqb-true p member e
reaches_sent source (All first) member e = λ same. not_both e (ap not (eq-eqb source member same))

sent_reaches : (source : ℕ) (d : Destination) (member : ℕ) → Reaches source d member → is_reached source d member ≡ true
sent_reaches source (One p) member h = eq-eqb p member h
sent_reaches source (All first) member h = ap not (ne_eqb source member h)

goes_sent : (source : ℕ) (d : Destination) (member : ℕ) (m : ConsensusMsg) → goes_to source d member m ≡ true → SentTo source d member m
unfolding is_commit_message
goes_sent source d member (Prepare slot round rv) e = reaches_sent source d member e
goes_sent source d member (Accept slot round v) e = reaches_sent source d member e
goes_sent source d member (ForwardRequest v) e = reaches_sent source d member e
goes_sent source d member (Commit slot v) e = λ same. not_both e (ap not (eq-eqb source member same))
goes_sent source d member (ReadRequest id) e = reaches_sent source d member e
goes_sent source d member (ReadResponse id next) e = reaches_sent source d member e

sent_goes : (source : ℕ) (d : Destination) (member : ℕ) (m : ConsensusMsg) → SentTo source d member m → goes_to source d member m ≡ true
unfolding is_commit_message
sent_goes source d member (Prepare slot round rv) h = sent_reaches source d member h
sent_goes source d member (Accept slot round v) h = sent_reaches source d member h
sent_goes source d member (ForwardRequest v) h = sent_reaches source d member h
sent_goes source d member (Commit slot v) h = ap not (ne_eqb source member h)
sent_goes source d member (ReadRequest id) h = sent_reaches source d member h
sent_goes source d member (ReadResponse id next) h = sent_reaches source d member h

both_tests : (s t : Bool) → cond s t false ≡ true → (s ≡ true) × (t ≡ true)
both_tests true t e = (refl, e)
both_tests false t e = absurd (not_both e refl)

sent_to : (s : Sending) (member : ℕ) → is_sent_to s member ≡ true → WasSentTo s member
unfolding is_sent_to
sent_to s member e =
    let source : ℕ = s.outgoing.message.src in
    let b = both_tests (eqb s.source source) (goes_to source s.outgoing.destination member s.outgoing.message.msg) e in
    (eqb-true s.source source b.0, goes_sent source s.outgoing.destination member s.outgoing.message.msg b.1)

to_sent : (s : Sending) (member : ℕ) → WasSentTo s member → is_sent_to s member ≡ true
unfolding is_sent_to
to_sent s member h =
    let source : ℕ = s.outgoing.message.src in
    ap (λ (t : Bool). cond t (goes_to source s.outgoing.destination member s.outgoing.message.msg) false) (eq-eqb s.source source h.0)
    ∙ sent_goes source s.outgoing.destination member s.outgoing.message.msg h.1

-- ---- the run with an event more

module _ {A : Type 0} where
  may_propose_lem : (t : Bool) (o : Outcome) (x v : A) → cond t none (some_if_done o x) ≡ some v → (t ≡ false) × (o ≡ Ok tt) × (x ≡ v)
  may_propose_lem true o x v e = absurd (none-ne-some v e)
  may_propose_lem false (Ok tt) x v e = (refl, refl, some-injective x v e)
  may_propose_lem false (Err why) x v e = absurd (none-ne-some v e)

  proposal_tried : (t : Bool) (o : Outcome) (x : A) → t ≡ false → o ≡ Ok tt → cond t none (some_if_done o x) ≡ some x
  proposal_tried t o x p q = ap (λ (b : Bool). cond b none (some_if_done o x)) p ∙ ap (λ (b : Outcome). some_if_done b x) q

module _ {S : Type 0} (call : S → Call → S × Reply) (host : S → ConsensusMessage → Delivery) where
  abbrev DeliveredTo : RunSoFar S → ℕ → Option Sending → RunSoFar S → Type 0
  DeliveredTo w member o v = (s : Sending) × (o ≡ some s) × WasSentTo s member × (with_call call host w member (office_delivery call host w member s) ≡ v)

  may_deliver : (w : RunSoFar S) (member : ℕ) (o : Option Sending) (v : RunSoFar S) → with_delivery call host w member o ≡ some v → DeliveredTo w member o v
  may_deliver w member none v e = absurd (none-ne-some v e)
  may_deliver w member (some s) v e = go (is_sent_to s member) refl e
    where
      go : (t : Bool) → is_sent_to s member ≡ t → cond t (some (with_call call host w member (office_delivery call host w member s))) none ≡ some v → DeliveredTo w member (some s) v
      go true k p = (s, refl, sent_to s member k, some-injective (with_call call host w member (office_delivery call host w member s)) v p)
      go false k p = absurd (none-ne-some v p)

  delivery_tried : (w : RunSoFar S) (member : ℕ) (s : Sending) → WasSentTo s member
      → with_delivery call host w member (some s) ≡ some (with_call call host w member (office_delivery call host w member s))
  delivery_tried w member s h =
      ap (λ (t : Bool). cond t (some (with_call call host w member (office_delivery call host w member s))) none) (to_sent s member h)

  -- ---- runs

  abbrev Follows : RunSoFar S → List RunEvent → Type 0
  Follows = Chain (all_sent call host) (extended_by call host)

  pub chain_enabled : (w : RunSoFar S) (es : List RunEvent) → Follows w es → Enabled call host w es
  unfolding extended_by
  chain_enabled w [] c = ends
  chain_enabled w (Proposes member ∷ es) c =
      let a = may_propose_lem (has_proposed w.past member) (call (w.shards member) (office_proposal call host member)).1.outcome (with_call call host w member (office_proposal call host member)) c.0 c.2 in
      proposes member c.1 (λ h. not_both (proposed_is w.past member h.0 h.1 h.2 h.3 h.4) a.0) a.1
      (subst (λ (v : RunSoFar S). Enabled call host v es) (sym a.2) (chain_enabled c.0 es c.3))
  chain_enabled w (Delivers member place ∷ es) c =
      let a = may_deliver w member (at_place (sent_in w.past) place) c.0 c.2 in
      delivers member place a.0 c.1.0 (found_stands (sent_in w.past) place a.0 a.1) a.2
      (subst (λ (v : RunSoFar S). Enabled call host v es) (sym a.3) (chain_enabled c.0 es c.3))

  pub tried_proposal : (w : RunSoFar S) (member : ℕ) → (HasProposed w.past member → ⊥) → (call (w.shards member) (office_proposal call host member)).1.outcome ≡ Ok tt
      → extended_by call host w (Proposes member) ≡ some (with_call call host w member (office_proposal call host member))
  unfolding extended_by
  tried_proposal w member new done =
      proposal_tried (has_proposed w.past member) (call (w.shards member) (office_proposal call host member)).1.outcome (with_call call host w member (office_proposal call host member))
      (fails (λ h. new (has_proposed_lem w.past member h))) done

  pub tried_delivery : (w : RunSoFar S) (member place : ℕ) (s : Sending) → StandsAt s place (sent_in w.past) → WasSentTo s member
      → extended_by call host w (Delivers member place) ≡ some (with_call call host w member (office_delivery call host w member s))
  unfolding extended_by
  tried_delivery w member place s stands sent =
      ap (with_delivery call host w member) (stands_found (sent_in w.past) place s stands) ∙ delivery_tried w member s sent

  pub enabled_chain : {w : RunSoFar S} {es : List RunEvent} → Enabled call host w es → Follows w es
  enabled_chain ends = tt
  enabled_chain {w} (proposes member below new done rest) =
      (with_call call host w member (office_proposal call host member), below, tried_proposal w member new done, enabled_chain rest)
  enabled_chain {w} (delivers member place s below stands sent rest) = (
    with_call call host w member (office_delivery call host w member s),
    (below, stands_below (sent_in w.past) place s stands),
    tried_delivery w member place s stands sent,
    enabled_chain rest,
  )

  -- ---- the theorems

  -- A run is listed exactly if it is an enabled run of at least one event and at most n.
  pub listed_iff_enabled : (n : ℕ) (w : RunSoFar S) (run : List RunEvent)
      → In run (runs_from call host n w) ↔ ((1 ≤ length run) × (length run ≤ n) × Enabled call host w run)
  listed_iff_enabled n w run = (
    λ i. let h = listed_short (all_sent call host) (extended_by call host) n w run i in (h.0, h.1, chain_enabled w run h.2),
    λ h. short_listed (all_sent call host) (extended_by call host) n w run (h.0, h.1, enabled_chain h.2),
  )

  -- The runs stand in document 02's order.
  pub listed_in_order : (n : ℕ) (w : RunSoFar S) → RunsInOrder (runs_from call host n w)
  listed_in_order n w = listing_order (all_sent call host) (extended_by call host) n w

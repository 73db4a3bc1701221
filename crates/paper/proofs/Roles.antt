-- `call_as_paper` role by role, for a Prepare or an Accept of the own slot at a live replica that no cause refuses: the acceptor responds and accepts as the
-- paper's, the proposer proposes as the paper's, and what is committed a majority has accepted.
-- Assumes nothing.
use Rattle.std.specs.Prelude.{Option as Optional, None, Some}
use Rattle.calls.specs.Commits.{committed_slot}
use Rattle.calls.specs.declared.CommittedSlot.{CommittedSlot}
use mathlib.Core.Path.{◌≡◌, refl, sym, ap, subst, ◌∙◌}
use mathlib.Core.Bool.{Bool, true, false, cond, not, ◌&&◌, ◌||◌}
use Rattle.std.proofs.Math.Bool.{or-false}
use mathlib.Core.List.{List, [], ◌∷◌, ◌++◌}
use mathlib.Core.Option.{Option, none, some}
use Prim.Native.Nat.{ℕ}
use lib.Dec.{eqb, ltb}
use Rattle.basics.proofs.Tests.{not_both, fails, or_left, or_right, of-both}
use Rattle.basics.specs.sets.Sets.{size}
use Rattle.paxos.specs.PaxosMadeSimple.{Proposal, Acceptor, Message, is_majority, greater, exceeded, higher, responds, prepare, response, accepted_in, ignores, accepts_proposal, accept, announcement, proposes, learns}
use Rattle.paxos.specs.PaxosMadeSimple.Message.{promise, acceptance}
use Rattle.message.specs.Modes.{has_fast_path}
use Rattle.message.specs.Rounds.{round_before}
use Rattle.message.proofs.Order.{rounds_ordered}
use Rattle.message.specs.declared.ConsensusMsg.{ConsensusMsg}
use Rattle.message.specs.declared.ConsensusMsg.TheVariants.{Prepare, Accept}
use Rattle.message.specs.declared.PaxosRound.{PaxosRound}
use Rattle.message.specs.declared.RoundV.{RoundV}
use Rattle.settings.specs.Settings.{within_limits}
use Rattle.steps.specs.declared.Destination.TheVariants.{One}
use Rattle.steps.specs.declared.SentMessages.{SentMessages}
use Rattle.steps.specs.declared.Outgoing.{Outgoing}
use Rattle.calls.specs.declared.delivery.Delivery.{Delivery}
use Rattle.calls.specs.declared.Call.TheVariants.{Receive}
use Rattle.consensus.specs.Call.{call_of}
use Rattle.consensus.specs.declared.Shard.{Shard}
use Rattle.paper.specs.Replica.{Replica, report_of, enters_number, or_again, promises, unless_accepted, is_there, keeps_something, proposer_in, newly, also_self, hears, takes_up, accepts_with}
use Rattle.paper.specs.PaperCall.{Known, known_of, is_one_of, all_but, Seen, Place, place_of, seen, in_places, leaves, nothing_happens, commits_learned, paper_outgoing, takes_part_in_slot, replica_after_prepare, to_proposer, responding, requesting, proposes_on_majority, hearing, prepare_received, learners, is_learner, is_leader, announced_to, to_each, informs, learning, counts_and_learns, received, OfPaxos, replica_in, refused_with, by_rules, paper_call}
use Rattle.paper.specs.Runs.{Handled, HeardPromise, hears_all, with_all}
use Rattle.paper.proofs.InOrder.{later_not_exceeded, exceeded_not_later, kept, then_prepare, prepared_in, prepare_in_order, announced, then_accept, accept_in_order}
use Rattle.paper.proofs.Calls.{call_as_paper}
use Rattle.paper.proofs.Consequences.{heard_keeps, heard_last, proposes_of_all}

abbrev value_in : {A : Type 0} → A → Option A → A
value_in other none = other
value_in other (some x) = x

abbrev is_some : {A : Type 0} → Option A → Bool
is_some none = false
is_some (some x) = true

abbrev is_commit : Optional CommittedSlot → Bool
is_commit None = false
is_commit (Some commit) = true

abbrev committed_value : Optional CommittedSlot → ℕ
committed_value None = 0
committed_value (Some commit) = commit.v

pub accepted_acceptor : (me src : ℕ) (p : Proposal PaxosRound ℕ) (r : Replica) → (accepts_with me src p r).acceptor ≡ accept round_before r.acceptor p
unfolding accepts_with accept
accepted_acceptor me src p r = go (accepts_proposal round_before r.acceptor p) refl
  where
    go : (t : Bool) → accepts_proposal round_before r.acceptor p ≡ t
        → (cond t (record {
          acceptor = accept round_before r.acceptor p;
          wish = none;
          promised = r.promised;
          agreed = also_self me src r.agreed;
        }) r).acceptor
        ≡ accept round_before r.acceptor p
    go true e = refl
    go false e =
        ap (λ (t : Bool). cond t (record { responded = r.acceptor.responded; accepted = higher round_before r.acceptor.accepted (some p) }) r.acceptor)
        (sym e)

pub entered_acceptor : (n : PaxosRound) (r : Replica) → (enters_number n r).acceptor ≡ prepare round_before r.acceptor n
unfolding enters_number prepare
entered_acceptor n r = go (responds round_before r.acceptor n) refl
  where
    go : (t : Bool) → responds round_before r.acceptor n ≡ t
        → (cond t (record { acceptor = prepare round_before r.acceptor n; wish = r.wish; promised = 0; agreed = 0 }) r).acceptor
        ≡ prepare round_before r.acceptor n
    go true e = refl
    go false e = ap (λ (t : Bool). cond t (record { responded = some n; accepted = r.acceptor.accepted }) r.acceptor) (sym e)

-- an older number is neither responded to nor accepted in
older_accept : (x : Acceptor PaxosRound ℕ) (p : Proposal PaxosRound ℕ) → exceeded round_before x.responded p.number ≡ true
    → accept round_before (prepare round_before x p.number) p ≡ x
unfolding prepare responds accept accepts_proposal
older_accept x p e =
    ap (λ (t : Bool). accept round_before (cond t (record { responded = some p.number; accepted = x.accepted }) x) p)
    (exceeded_not_later x.responded p.number e)
    ∙ ap (λ (t : Bool). cond (not t) (record { responded = x.responded; accepted = higher round_before x.accepted (some p) }) x) e

-- one that ignores a prepare request takes nothing up from it: it keeps a proposal, or has responded to a greater number
kept_as_ignored : (me : ℕ) (n : PaxosRound) (rv : RoundV) (r : Replica) → ignores round_before r.acceptor n ≡ true → takes_up me n rv r ≡ r
unfolding takes_up ignores
kept_as_ignored me n rv r e = ap (λ (t : Bool). cond t r (hears me me rv r)) (go r.acceptor.accepted e)
  where
    older : Bool
    older = exceeded round_before r.acceptor.responded n

    go : (x : Option (Proposal PaxosRound ℕ)) → (older || accepted_in round_before n x) ≡ true → ((is_there x || is_there r.wish) || older) ≡ true
    go none f = or_right (is_there r.wish) (sym (or-false older) ∙ f)
    go (some p) f = refl

-- ---- lists of processes

last_of : (p q : ℕ) (qs : List ℕ) → eqb p q ≡ true → is_one_of p (qs ++ (q ∷ [])) ≡ true
last_of p q [] e = or_left false e
last_of p q (x ∷ xs) e = or_right (eqb p x) (last_of p q xs e)

-- one that is not of the list is not left out of it
but_other : (p : ℕ) (qs : List ℕ) → is_one_of p qs ≡ false → all_but p qs ≡ qs
but_other p [] e = refl
but_other p (q ∷ qs) e = go (eqb p q) (but_other p qs) e
  where
    go : (t : Bool) → (is_one_of p qs ≡ false → all_but p qs ≡ qs) → (t || is_one_of p qs) ≡ false → cond t (all_but p qs) (q ∷ all_but p qs) ≡ q ∷ qs
    go true f d = absurd (not_both refl d)
    go false f d = ap (λ (xs : List ℕ). q ∷ xs) (f d)

module _ (shard : Shard) (classic : has_fast_path shard.settings.mode ≡ false) (within : within_limits shard.settings ≡ true) (d : Delivery) (slot : ℕ)
    (n : PaxosRound) (handled : Handled shard d slot) where
  abbrev h : Known
  h = known_of shard.settings d

  abbrev acceptors : ℕ
  acceptors = shard.settings.replica_count

  abbrev old : Replica
  old = replica_in shard

  abbrev here : Place
  here = place_of shard

  abbrev me : ℕ
  me = shard.settings.my_pid

  abbrev older : Bool
  older = exceeded round_before old.acceptor.responded n

  by_rule : (m : ConsensusMsg) → d.message.msg ≡ m → OfPaxos m → seen (call_of shard (Receive d)) ≡ received here h m
  unfolding paper_call by_rules
  by_rule m e p =
      call_as_paper shard classic within (Receive d) (subst OfPaxos (sym e) p)
      ∙ ap (λ (k : ℕ). cond (eqb k 0) (by_rules shard (Receive d)) (refused_with k shard)) handled.free
      ∙ ap (received here h) e

  takes : takes_part_in_slot here slot ≡ true
  takes = ap (λ (t : Bool). t && not (ltb slot shard.state.rounds.core.slot)) handled.replica ∙ ap not handled.own

  -- it takes part, and what remains is the number
  entered : (rule : Seen) → cond (takes_part_in_slot here slot && not older) rule (nothing_happens here) ≡ cond older (nothing_happens here) rule
  entered rule = ap (λ (t : Bool). cond (t && not older) rule (nothing_happens here)) takes ∙ turned older
    where
      turned : (t : Bool) → cond (not t) rule (nothing_happens here) ≡ cond t (nothing_happens here) rule
      turned true = refl
      turned false = refl

  -- ---- Prepare

  module _ (rv : RoundV) (message : d.message.msg ≡ Prepare slot n rv) where
    -- what the replica r makes of it, in the number
    abbrev ends : Replica → Seen
    ends r = then_prepare here h n rv (kept here h n rv r)

    prepare_handled : seen (call_of shard (Receive d)) ≡ cond older (nothing_happens here) (ends (enters_number n old))
    unfolding received
    prepare_handled = by_rule (Prepare slot n rv) message tt ∙ prepare_in_order here h n rv slot ∙ entered (ends (enters_number n old))

    -- the acceptor that has responded to n
    abbrev now : Replica
    now = record { acceptor = record { responded = some n; accepted = old.acceptor.accepted }; wish = old.wish; promised = 0; agreed = 0 }

    -- the paper's acceptor responds: so does the replica, once it has entered the number
    responded : responds round_before old.acceptor n ≡ true → seen (call_of shard (Receive d)) ≡ ends now
    unfolding enters_number prepare responds
    responded f =
        prepare_handled
        ∙ ap (λ (t : Bool). cond t (nothing_happens here) (ends (enters_number n old))) (later_not_exceeded old.acceptor.responded n f)
        ∙ ap (λ (t : Bool). ends
        (cond t (record { acceptor = cond t now.acceptor old.acceptor; wish = old.wish; promised = 0; agreed = 0 }) old)) f

    prepared_acceptor : responds round_before old.acceptor n ≡ true → now.acceptor ≡ prepare round_before old.acceptor n
    unfolding prepare responds
    prepared_acceptor f = ap (λ (t : Bool). cond t now.acceptor old.acceptor) (sym f)

    -- the promise of one that is not the gatherer, in the number that it has entered and has accepted nothing in
    promised_in : (r : Replica) → eqb h.proposer me ≡ false → accepted_in round_before n r.acceptor.accepted ≡ false
        → then_prepare here h n rv r ≡ leaves here r (paper_outgoing here r.wish (promise n r.acceptor.accepted) (One h.proposer) ∷ [])
    promised_in r other fresh =
        ap (λ (t : Bool). cond t (proposes_on_majority here h n rv r) (answer (accepted_in round_before n r.acceptor.accepted))) other ∙ ap answer fresh
      where
        answer : Bool → Seen
        answer t = leaves here r (to_proposer here h r.wish (cond t none (some (promise n r.acceptor.accepted))))

    -- Phase 1 (b), at another than the gatherer that keeps something and has not accepted in the number: where the paper's acceptor responds, the
    -- replica's does, and the response is the message, to the gatherer.
    pub acceptor_responds : eqb h.proposer me ≡ false → keeps_something old ≡ true → accepted_in round_before n old.acceptor.accepted ≡ false
        → (m : Message PaxosRound ℕ) → response round_before old.acceptor n ≡ some m
        → seen (call_of shard (Receive d))
        ≡ leaves here (record { acceptor = prepare round_before old.acceptor n; wish = old.wish; promised = 0; agreed = 0 })
        (paper_outgoing here old.wish m (One h.proposer) ∷ [])
    unfolding response
    acceptor_responds other keeps fresh m e = go (responds round_before old.acceptor n) refl e
      where
        answer : Message PaxosRound ℕ
        answer = promise n old.acceptor.accepted

        go : (t : Bool) → responds round_before old.acceptor n ≡ t → cond t (some answer) none ≡ some m
            → seen (call_of shard (Receive d))
            ≡ leaves here (record { acceptor = prepare round_before old.acceptor n; wish = old.wish; promised = 0; agreed = 0 })
            (paper_outgoing here old.wish m (One h.proposer) ∷ [])
        go false f g = absurd (not_both refl (ap is_some (sym g)))
        go true f g =
            responded f
            ∙ ap (λ (t : Bool). then_prepare here h n rv (cond t now (hears me me rv now))) keeps
            ∙ promised_in now other fresh
            ∙ ap (λ (x : Message PaxosRound ℕ). leaves here now (paper_outgoing here old.wish x (One h.proposer) ∷ [])) (ap (value_in answer) g)
            ∙ ap (λ (x : Acceptor PaxosRound ℕ). leaves here (record { acceptor = x; wish = old.wish; promised = 0; agreed = 0 })
            (paper_outgoing here old.wish m (One h.proposer) ∷ [])) (prepared_acceptor f)

    -- The same at one that keeps nothing, where the Prepare reports no proposal: the value that it brings is kept as the wish, and goes with the
    -- response.
    pub acceptor_responds_first : eqb h.proposer me ≡ false → keeps_something old ≡ false → report_of rv ≡ none
        → (m : Message PaxosRound ℕ) → response round_before old.acceptor n ≡ some m
        → seen (call_of shard (Receive d))
        ≡ leaves here (record { acceptor = prepare round_before old.acceptor n; wish = some rv; promised = also_self me me 0; agreed = 0 })
        (paper_outgoing here (some rv) m (One h.proposer) ∷ [])
    unfolding response hears
    acceptor_responds_first other keeps unreported m e = go (responds round_before old.acceptor n) refl e
      where
        Nothing : Option (Proposal PaxosRound ℕ) → Option RoundV → Type 0
        Nothing x w = (x ≡ none) × (w ≡ none)

        kept : (x : Option (Proposal PaxosRound ℕ)) (w : Option RoundV) → (is_there x || is_there w) ≡ false → Nothing x w
        kept none none f = (refl, refl)
        kept none (some w) f = absurd (not_both refl f)
        kept (some x) w f = absurd (not_both refl f)

        nothing_kept : Nothing old.acceptor.accepted old.wish
        nothing_kept = kept old.acceptor.accepted old.wish keeps

        with : Option (Proposal PaxosRound ℕ) → Option RoundV → Replica
        with x w = record { acceptor = record { responded = some n; accepted = x }; wish = w; promised = 0; agreed = 0 }

        heard : Option (Proposal PaxosRound ℕ) → Replica
        heard report =
            record {
              acceptor = record { responded = some n; accepted = report };
              wish = unless_accepted report
                  (some rv);
              promised = also_self me me 0;
              agreed = 0;
            }

        answer : Message PaxosRound ℕ
        answer = promise n old.acceptor.accepted

        reply : Message PaxosRound ℕ → List Outgoing
        reply x = paper_outgoing here (some rv) x (One h.proposer) ∷ []

        after : Acceptor PaxosRound ℕ → Replica
        after x = record { acceptor = x; wish = some rv; promised = also_self me me 0; agreed = 0 }

        go : (t : Bool) → responds round_before old.acceptor n ≡ t → cond t (some answer) none ≡ some m
            → seen (call_of shard (Receive d)) ≡ leaves here (after (prepare round_before old.acceptor n)) (reply m)
        go false f g = absurd (not_both refl (ap is_some (sym g)))
        go true f g =
            responded f
            ∙ ap (λ (t : Bool). then_prepare here h n rv (cond t now (hears me me rv now))) keeps
            ∙ ap (λ (x : Option (Proposal PaxosRound ℕ)). then_prepare here h n rv (hears me me rv (with x old.wish))) nothing_kept.0
            ∙ ap (λ (w : Option RoundV). then_prepare here h n rv (hears me me rv (with none w))) nothing_kept.1
            ∙ ap (λ (x : Option (Proposal PaxosRound ℕ)). then_prepare here h n rv (heard x)) unreported
            ∙ promised_in (heard none) other refl
            ∙ ap (λ (x : Message PaxosRound ℕ). leaves here (heard none) (reply x)) (ap (promise n) (sym nothing_kept.0) ∙ ap (value_in answer) g)
            ∙ ap (λ (x : Option (Proposal PaxosRound ℕ)). leaves here (after (record { responded = some n; accepted = x })) (reply m)) (sym nothing_kept.0)
            ∙ ap (λ (x : Acceptor PaxosRound ℕ). leaves here (after x) (reply m)) (prepared_acceptor f)

    -- Where the paper's acceptor ignores the request, nothing is sent.
    pub acceptor_ignores : eqb h.proposer me ≡ false → ignores round_before old.acceptor n ≡ true
        → (call_of shard (Receive d)).reply.messages ≡ in_places []
    unfolding received prepare_received responding promises
    acceptor_ignores other ignored =
        ap (λ (s : Seen). s.messages)
        (by_rule (Prepare slot n rv) message tt
        ∙ ap (λ (t : Bool). cond t (cond (eqb h.proposer me) (hearing here h n rv) (responding here h n rv)) (nothing_happens here)) takes
        ∙ ap (λ (t : Bool). cond t (hearing here h n rv) (responding here h n rv)) other)
        ∙ ap (λ (r : Replica). answer (promises n r.acceptor)) as_it_was
        ∙ ap (λ (t : Bool). answer (cond t none (or_again n old.acceptor (response round_before old.acceptor n)))) ignored
      where
        answer : Option (Message PaxosRound ℕ) → SentMessages
        answer m = in_places (to_proposer here h (replica_after_prepare here h n rv).wish m)

        -- it takes up nothing
        as_it_was : takes_up me n rv old ≡ old
        as_it_was = kept_as_ignored me n rv old ignored

    -- Phase 2 (a), at the gatherer, unless the proposal is abandoned: in the number, which it may enter with this very Prepare, it hears the promise, and sends
    -- the accept request of the paper's proposer where that one proposes and did not before.
    pub proposer_enters : eqb h.proposer me ≡ true → older ≡ false
        → seen (call_of shard (Receive d))
        ≡ requesting here (hears me h.src rv (replica_after_prepare here h n rv))
        (newly (proposes round_before acceptors (proposer_in n (replica_after_prepare here h n rv)))
        (proposes round_before acceptors (proposer_in n (hears me h.src rv (replica_after_prepare here h n rv)))))
    unfolding proposes_on_majority
    proposer_enters gathering newer =
        prepare_handled
        ∙ ap (λ (t : Bool). cond t (nothing_happens here) (ends (enters_number n old))) newer
        ∙ ap (then_prepare here h n rv) (sym (prepared_in here h n rv newer))
        ∙ ap (λ (t : Bool). cond t (proposes_on_majority here h n rv r) (leaves here r
        (to_proposer here h r.wish (cond (accepted_in round_before n r.acceptor.accepted) none (some (promise n r.acceptor.accepted)))))) gathering
      where
        r : Replica
        r = replica_after_prepare here h n rv

    -- one that is in the number and keeps something is as it was
    prepared_before : keeps_something old ≡ true → old.acceptor.responded ≡ some n → replica_after_prepare here h n rv ≡ old
    unfolding enters_number responds takes_up
    prepared_before keeps entry =
        ap (λ (t : Bool). takes_up me n rv (cond t (record { acceptor = prepare round_before old.acceptor n; wish = old.wish; promised = 0; agreed = 0 }) old))
        (ap (greater round_before n) entry ∙ rounds_ordered.irreflexive n)
        ∙ ap (λ (t : Bool). cond (t || older) old (hears me me rv old)) keeps

    -- and for what it has heard before there is `proposes_of_all`
    pub proposer_proposes : eqb h.proposer me ≡ true → keeps_something old ≡ true → old.acceptor.responded ≡ some n
        → seen (call_of shard (Receive d))
        ≡ requesting here (hears me h.src rv old)
        (newly (proposes round_before acceptors (proposer_in n old)) (proposes round_before acceptors (proposer_in n (hears me h.src rv old))))
    proposer_proposes gathering keeps entry =
        proposer_enters gathering (ap (λ (o : Option PaxosRound). exceeded round_before o n) entry ∙ rounds_ordered.irreflexive n)
        ∙ ap (λ (r : Replica). requesting here (hears me h.src rv r)
        (newly (proposes round_before acceptors (proposer_in n r)) (proposes round_before acceptors (proposer_in n (hears me h.src rv r)))))
        (prepared_before keeps entry)

    -- The same by all that it has heard: since it kept r it has heard the promises ps and nothing else. What it proposes is the proposal of the
    -- paper's proposer with every report, its own acceptor's first.
    pub proposer_proposes_of_all : eqb h.proposer me ≡ true → old.acceptor.responded ≡ some n
        → (r : Replica) (ps : List HeardPromise) → keeps_something r ≡ true → old ≡ hears_all me r ps
        → seen (call_of shard (Receive d))
        ≡ requesting here (hears me h.src rv old)
        (newly (proposes round_before acceptors (with_all me n r ps))
        (proposes round_before acceptors (with_all me n r (ps ++ (record { src = h.src; brought = rv } ∷ [])))))
    proposer_proposes_of_all gathering entry r ps keeps since =
        proposer_proposes gathering (ap keeps_something since ∙ heard_keeps me r ps keeps) entry
        ∙ ap (λ (x : Replica). request (proposes round_before acceptors (proposer_in n x))
        (proposes round_before acceptors (proposer_in n (hears me h.src rv x)))) since
        ∙ ap (λ (x : Option (Proposal PaxosRound ℕ)). request x (proposes round_before acceptors (proposer_in n (hears me h.src rv (hears_all me r ps)))))
        (proposes_of_all me acceptors n r ps keeps)
        ∙ ap (λ (x : Replica). request (proposes round_before acceptors (with_all me n r ps)) (proposes round_before acceptors (proposer_in n x)))
        (heard_last me r ps h.src rv)
        ∙ ap (request (proposes round_before acceptors (with_all me n r ps)))
        (proposes_of_all me acceptors n r (ps ++ (record { src = h.src; brought = rv } ∷ [])) keeps)
      where
        request : Option (Proposal PaxosRound ℕ) → Option (Proposal PaxosRound ℕ) → Seen
        request x y = requesting here (hears me h.src rv old) (newly x y)

  -- ---- Accept

  module _ (v : ℕ) (message : d.message.msg ≡ Accept slot n v) where
    abbrev p : Proposal PaxosRound ℕ
    p = record { number = n; value = v }

    abbrev counted : Replica
    counted = accepts_with me h.src p (enters_number n old)

    accept_handled : seen (call_of shard (Receive d)) ≡ cond older (nothing_happens here) (then_accept here h p (enters_number n old))
    unfolding received
    accept_handled = by_rule (Accept slot n v) message tt ∙ accept_in_order here h p slot ∙ entered (then_accept here h p (enters_number n old))

    -- what holds of every way in which an Accept can end holds of the call
    of_accept : (P : Seen → Type 0) → (older ≡ true → P (nothing_happens here)) → ((ms : List Outgoing) → P (leaves here counted ms))
        → ((ms : List Outgoing) → is_majority acceptors (size counted.agreed) ≡ true → P (commits_learned here v ms)) → P (seen (call_of shard (Receive d)))
    unfolding learning learns
    of_accept P stay leave commit = subst P (sym accept_handled) (by_age older refl)
      where
        count : (ms : List Outgoing) → P (counts_and_learns here h p counted ms)
        count ms = go (is_majority acceptors (size counted.agreed)) refl
          where
            go : (t : Bool) → is_majority acceptors (size counted.agreed) ≡ t → P (learning here h p counted ms (cond t (some v) none))
            go true e = commit (ms ++ informs here h p) e
            go false e = leave ms

        by_age : (t : Bool) → older ≡ t → P (cond t (nothing_happens here) (then_accept here h p (enters_number n old)))
        by_age true e = stay e
        by_age false e = of-both P (is_learner here h n) (count (announced here h p)) (leave (announced here h p))

    -- Section 2.3, for an accept request, which comes from the proposer: where the paper's acceptor announces the proposal, another than the leader does, to
    -- each of the distinguished learners but itself
    announced_by : is_leader here h n ≡ false → eqb h.src h.proposer ≡ true → (m : Message PaxosRound ℕ)
        → announcement round_before old.acceptor p ≡ some m → (older ≡ false) × (announced here h p ≡ to_each here h (all_but me (learners here h n)) (some m))
    unfolding announcement accepts_proposal
    announced_by other asked m e = go older refl e
      where
        told : Bool → List ℕ → Option (Message PaxosRound ℕ) → List Outgoing
        told t ps x = cond t (to_each here h ps x) []

        go : (t : Bool) → older ≡ t → cond (not t) (some (acceptance p)) none ≡ some m
            → (older ≡ false) × (announced here h p ≡ to_each here h (all_but me (learners here h n)) (some m))
        go true f g = absurd (not_both refl (ap is_some (sym g)))
        go false f g = (
          f,
          ap (λ (t : Bool). told t (announced_to here h n) (some (acceptance p))) asked
              ∙ ap (λ (t : Bool). told true (cond t [] (all_but me (learners here h n))) (some (acceptance p))) other
              ∙ ap (told true (all_but me (learners here h n))) g,
        )

    -- and what it makes of the Accept is by whether it is one of them
    by_learner : older ≡ false → (t : Bool) → is_learner here h n ≡ t → (ms : List Outgoing) → announced here h p ≡ ms
        → seen (call_of shard (Receive d)) ≡ cond t (counts_and_learns here h p counted ms) (leaves here counted ms)
    by_learner newer t learner ms told =
        accept_handled
        ∙ ap (λ (o : Bool). cond o (nothing_happens here) (then_accept here h p (enters_number n old))) newer
        ∙ ap (λ (l : Bool). cond l (counts_and_learns here h p counted (announced here h p)) (leaves here counted (announced here h p))) learner
        ∙ ap (λ (xs : List Outgoing). cond t (counts_and_learns here h p counted xs) (leaves here counted xs)) told

    -- At another than a distinguished learner each of them is told, and nothing else happens.
    pub acceptor_announces : is_learner here h n ≡ false → eqb h.src h.proposer ≡ true
        → (m : Message PaxosRound ℕ) → announcement round_before old.acceptor p ≡ some m
        → seen (call_of shard (Receive d)) ≡ leaves here counted (to_each here h (learners here h n) (some m))
    acceptor_announces other asked m e =
        by_learner told.0 false other _ told.1
        ∙ ap (λ (qs : List ℕ). leaves here counted (to_each here h qs (some m))) (but_other me (learners here h n) other)
      where
        not_leader : is_leader here h n ≡ false
        not_leader = fails (λ g. not_both (last_of me n.leader (all_but n.leader h.committers) g) other)

        told : (older ≡ false) × (announced here h p ≡ to_each here h (all_but me (learners here h n)) (some m))
        told = announced_by not_leader asked m e

    -- At a committer, a distinguished learner that is not the leader, each of the others is told, and it learns the value where a majority has accepted.
    pub committer_announces : is_learner here h n ≡ true → is_leader here h n ≡ false → eqb h.src h.proposer ≡ true
        → (m : Message PaxosRound ℕ) → announcement round_before old.acceptor p ≡ some m
        → seen (call_of shard (Receive d))
        ≡ learning here h p counted (to_each here h (all_but me (learners here h n)) (some m)) (learns round_before acceptors (size counted.agreed) p)
    committer_announces learner not_leader asked m e = by_learner told.0 true learner _ told.1
      where
        told : (older ≡ false) × (announced here h p ≡ to_each here h (all_but me (learners here h n)) (some m))
        told = announced_by not_leader asked m e

    -- the replica after one that commits nothing, in a number that is not exceeded
    pub accept_leaves : older ≡ false → (call_of shard (Receive d)).reply.commit ≡ None → replica_in (call_of shard (Receive d)).shard ≡ counted
    accept_leaves newer =
        of_accept (λ (s : Seen). s.commit ≡ None → s.replica ≡ counted)
        (λ e c. absurd (not_both e newer))
        (λ ms c. refl)
        (λ ms m c. absurd (not_both refl (ap is_commit c)))

    -- Phase 2 (b): an Accept that commits nothing leaves the paper's acceptor behind a prepare request of the number and the accept request; one of an
    -- older number leaves it as it was, as in the paper.
    pub acceptor_accepts : (call_of shard (Receive d)).reply.commit ≡ None
        → (replica_in (call_of shard (Receive d)).shard).acceptor ≡ accept round_before (prepare round_before old.acceptor n) p
    acceptor_accepts =
        of_accept (λ (s : Seen). s.commit ≡ None → s.replica.acceptor ≡ accept round_before (prepare round_before old.acceptor n) p)
        (λ e c. sym (older_accept old.acceptor p e))
        (λ ms c.
        accepted_acceptor me h.src p (enters_number n old) ∙ ap (λ (x : Acceptor PaxosRound ℕ). accept round_before x p) (entered_acceptor n old))
        (λ ms m c. absurd (not_both refl (ap is_commit c)))

    -- Section 2.3: what an Accept commits is its value, and a majority of the replicas is counted as having accepted it in the number.
    pub learner_learns : (at w : ℕ) (fast : Bool) → (call_of shard (Receive d)).reply.commit ≡ committed_slot at w fast
        → (w ≡ v) × (is_majority acceptors (size counted.agreed) ≡ true)
    learner_learns =
        of_accept (λ (s : Seen). (at w : ℕ) (fast : Bool) → s.commit ≡ committed_slot at w fast → (w ≡ v) × (is_majority acceptors (size counted.agreed) ≡ true))
        (λ e at w fast c. absurd (not_both (ap is_commit c) refl))
        (λ ms at w fast c. absurd (not_both (ap is_commit c) refl))
        (λ ms m at w fast c. (ap committed_value (sym c), m))

-- What is seen of the engine's proposals in the classic modes is what the paper's rules make of the replica.
-- Assumes nothing.
use Rattle.std.specs.Prelude.{Option as Optional, None, Some, Result, is_some}
use mathlib.Core.Path.{◌≡◌, refl, sym, ap, ◌∙◌}
use mathlib.Core.Logic.{◌⊎◌, inl, inr}
use mathlib.Core.Bool.{Bool, true, false, cond, not, ◌&&◌, ◌||◌}
use mathlib.Core.List.{List, [], ◌∷◌}
use mathlib.Core.Option.{Option, none, some}
use Prim.Native.Nat.{ℕ}
use Rattle.basics.proofs.Tests.{not_both, and_left, and_right}
use Rattle.paxos.specs.PaxosMadeSimple.{Proposal, Acceptor, responds, prepare, highest, choice, proposal_of}
use Rattle.message.specs.Modes.{is_multi_paxos, is_swift_paxos, has_fast_path}
use Rattle.message.specs.Rounds.{round_before, equal, next_leader_round, default_round, unwrap_or_default, starting_round}
use Rattle.message.proofs.Order.{rounds_ordered, round_equal_lem}
use Rattle.message.specs.declared.ConsensusMsg.TheVariants.{Prepare, Accept}
use Rattle.message.specs.declared.PaxosRound.{PaxosRound}
use Rattle.message.specs.declared.PFMode.{PFMode}
use Rattle.message.specs.declared.PFMode.TheVariants.{Paxos, MultiPaxos, MultiPaxos3P, EPaxos, Pando, SwiftPaxos}
use Rattle.message.specs.declared.Refusal.{Refusal}
use Rattle.message.specs.declared.RoundV.{RoundV}
use Rattle.message.specs.declared.RoundV.TheVariants.{PaxosV}
use Rattle.round_state.specs.Paxos.{goto_round, held_after_promise, receive_promise, paxos_propose_v, self_accept, accept_own, receive_accept, accept_fits}
use Rattle.round_state.specs.declared.PaxosState.{PaxosState}
use Rattle.settings.specs.declared.Settings.{Settings}
use Rattle.steps.specs.enter.Enter.{can_propose}
use Rattle.propose.specs.proposal.Proposal.{proposal_round, electing, may_propose}
use Rattle.propose.specs.Propose.{broadcast_own, propose_prepare, after_own_promise, propose_accept, propose_classic}
use Rattle.steps.specs.Steps.{CoreStep, sends, to_all}
use Rattle.steps.specs.declared.Asked.{Asked}
use Rattle.steps.specs.declared.Core.{Core}
use Rattle.steps.specs.declared.Outgoing.{Outgoing}
use Rattle.calls.specs.Asked.{asked_of}
use Rattle.consensus.proofs.Entered.{not_swift_without_fast_path}
use Rattle.consensus.specs.declared.State.{State}
use Rattle.paper.specs.Replica.{Replica, accepted_of, wish_of, responded_of, replica_of, brings, is_there, number_where_none, proposer_in, hears, accepts_with}
use Rattle.paper.specs.PaperCall.{Seen, Place, leaves, requesting, own_number, begins_proposal, proposes_own}
use Rattle.paper.proofs.Views.{place_in, seen_after, AgreesIfTaken, agrees_if_taken, no_refusal, agree_both, agree_unless, promise_heard, accept_counted}
use Rattle.paper.proofs.InOrder.{or_false}

or_default : (o : Optional PaxosRound) → unwrap_or_default o ≡ number_where_none default_round (responded_of o)
or_default None = refl
or_default (Some n) = refl

none_at_start : (m : PFMode) (leader : ℕ) → is_multi_paxos m ≡ false → starting_round m leader ≡ None
none_at_start Paxos leader e = refl
none_at_start MultiPaxos leader e = absurd (not_both refl e)
none_at_start MultiPaxos3P leader e = absurd (not_both refl e)
none_at_start EPaxos leader e = refl
none_at_start Pando leader e = refl
none_at_start SwiftPaxos leader e = refl

led_start : (m : PFMode) (leader : ℕ) → is_multi_paxos m ≡ is_there (responded_of (starting_round m leader))
led_start Paxos leader = refl
led_start MultiPaxos leader = refl
led_start MultiPaxos3P leader = refl
led_start EPaxos leader = refl
led_start Pando leader = refl
led_start SwiftPaxos leader = refl

not_or : (s t : Bool) → (not s || t) ≡ true → s ≡ true → t ≡ true
not_or true t e d = e
not_or false t e d = absurd (not_both d refl)

-- the proposer's own acceptor has responded to its number
begun : (o start : Optional PaxosRound) (n : PaxosRound) (x : Option (Proposal PaxosRound ℕ)) → equal o start ≡ true
    → (start ≡ None) ⊎ (equal (Some n) start ≡ true)
    → prepare round_before (record { responded = responded_of o; accepted = x }) n ≡ record { responded = some n; accepted = x }
unfolding prepare responds
begun None start n x e d = refl
begun (Some m) None n x e d = absurd (not_both e refl)
begun (Some m) (Some s) n x e (inl d) = absurd (not_both e (ap (equal (Some m)) d))
begun (Some m) (Some s) n x e (inr d) =
    ap (λ (t : Bool). cond t (record { responded = some n; accepted = x }) (record { responded = some m; accepted = x }))
    (ap (round_before m) (round_equal_lem n s d ∙ sym (round_equal_lem m s e)) ∙ rounds_ordered.irreflexive m)
    ∙ ap (λ (k : PaxosRound). record { responded = some k; accepted = x }) (round_equal_lem m s e ∙ sym (round_equal_lem n s d))

module _ (settings : Settings) (state : State) (acceptors : ℕ) (classic : has_fast_path settings.mode ≡ false) (v : ℕ) where
  abbrev a : Asked
  a = asked_of settings

  abbrev core : Core
  core = state.rounds.core

  abbrev old : Replica
  old = replica_of core.paxos

  abbrev here : Place
  here = place_in a acceptors core

  abbrev n : PaxosRound
  n = own_number here

  abbrev seen_step : Result CoreStep Refusal → Seen
  seen_step step = seen_after state a true step

  swift : is_swift_paxos a.mode ≡ false
  swift = not_swift_without_fast_path a.mode classic

  number : proposal_round a core ≡ n
  unfolding electing
  number =
      ap (λ (t : Bool). next_leader_round (unwrap_or_default core.paxos.round) (cond t a.first_leader a.member.my_pid)) swift
      ∙ ap (λ (m : PaxosRound). next_leader_round m a.member.my_pid) (or_default core.paxos.round)

  -- what the paper's proposer begins with, where it may propose
  abbrev first : PaxosState
  first = record { round = Some n; max_rv = None; prepared_set = 0; accepted_set = 0 }

  module _ (allowed : may_propose a core ≡ true) where
    abbrev at_start : Bool
    at_start = equal core.paxos.round a.starting_round

    abbrev in_starting : Bool
    in_starting = not (is_multi_paxos a.mode) || equal (Some (proposal_round a core)) a.starting_round

    -- nothing is held, and the tests that an own proposal passes hold
    passed : (core.paxos.max_rv ≡ None) × ((can_propose a && at_start && in_starting) ≡ true)
    unfolding may_propose
    passed = go core.paxos.max_rv refl allowed
      where
        go : (held : Optional RoundV) → core.paxos.max_rv ≡ held → cond (is_some held) false (can_propose a && at_start && in_starting) ≡ true
            → (core.paxos.max_rv ≡ None) × ((can_propose a && at_start && in_starting) ≡ true)
        go None e d = (e, d)
        go (Some rv) e d = absurd (not_both d refl)

    in_round_lem : goto_round (Some n) core.paxos ≡ first
    in_round_lem = ap (λ (held : Optional RoundV). record { round = Some n; max_rv = held; prepared_set = 0; accepted_set = 0 }) passed.0

    replica : a.member.replica ≡ true
    replica =
        sym (or_false a.member.replica (is_swift_paxos a.mode) swift)
        ∙ and_left (can_propose a) at_start (and_left (can_propose a && at_start) in_starting passed.1)

    started : record { acceptor = prepare round_before old.acceptor n; wish = old.wish; promised = 0; agreed = 0 } ≡ replica_of first
    started =
        ap (λ (x : Acceptor PaxosRound ℕ). record { acceptor = x; wish = old.wish; promised = 0; agreed = 0 })
        (begun core.paxos.round a.starting_round n (accepted_of core.paxos.max_rv)
        (and_right (can_propose a) at_start (and_left (can_propose a && at_start) in_starting passed.1)) (go (is_multi_paxos a.mode) refl))
        ∙ ap (λ (held : Optional RoundV). begin (accepted_of held) (wish_of held)) passed.0
      where
        begin : Option (Proposal PaxosRound ℕ) → Option RoundV → Replica
        begin x w = record { acceptor = record { responded = some n; accepted = x }; wish = w; promised = 0; agreed = 0 }

        go : (t : Bool) → is_multi_paxos a.mode ≡ t → (a.starting_round ≡ None) ⊎ (equal (Some n) a.starting_round ≡ true)
        go true e =
            inr (ap (λ (k : PaxosRound). equal (Some k) a.starting_round) (sym number)
            ∙ not_or (is_multi_paxos a.mode) (equal (Some (proposal_round a core)) a.starting_round)
            (and_right (can_propose a && at_start) in_starting passed.1) e)
        go false e = inl (none_at_start a.mode a.first_leader e)

    abbrev rv : RoundV
    rv = PaxosV None v

    abbrev heard : Replica → Replica
    heard r = hears here.self a.member.my_pid rv r

    abbrev mine : PaxosState
    mine = receive_promise a.member a.member.my_pid rv first

    own_heard : replica_of mine ≡ heard (replica_of first)
    own_heard = promise_heard a replica a.member.my_pid rv first

    -- Paxos and Pando: the prepare request
    prepare_request_lem : seen_step (propose_prepare a n rv core)
        ≡ leaves here (begins_proposal here v)
        (sends a core to_all (Prepare core.slot n (brings none (begins_proposal here v).wish)) ∷ [])
    unfolding propose_prepare paxos_propose_v hears
    prepare_request_lem =
        ap (λ (p : PaxosState). seen_step (broadcast_own a (Prepare core.slot n rv) core (paxos_propose_v a.member rv p))) in_round_lem
        ∙ ap (λ (r : Replica). leaves here r (sends a core to_all (Prepare core.slot n rv) ∷ [])) own_heard
        ∙ ap (λ (r : Replica). leaves here (heard r) (sends a core to_all (Prepare core.slot n (brings none (heard r).wish)) ∷ [])) (sym started)

    -- MultiPaxos and MultiPaxos3P: the accept request
    accept_request_lem : seen_step (propose_accept a n v core)
        ≡ leaves here
        (accepts_with here.self a.member.my_pid (proposal_of round_before (proposer_in n (begins_proposal here v))) (begins_proposal here v))
        (sends a core to_all (Accept core.slot n (proposal_of round_before (proposer_in n (begins_proposal here v))).value) ∷ [])
    unfolding propose_accept paxos_propose_v self_accept accept_own receive_accept accept_fits receive_promise held_after_promise hears choice highest
    accept_request_lem =
        ap (λ (p : PaxosState). seen_step (after_own_promise a n v core (paxos_propose_v a.member rv p))) in_round_lem
        ∙ ap (λ (r : Replica). leaves here r request) (accept_counted a replica a.member.my_pid n v mine (rounds_ordered.irreflexive n) refl)
        ∙ ap (λ (r : Replica). leaves here (accepts_with here.self a.member.my_pid (record { number = n; value = v }) r) request) own_heard
        ∙ ap (λ (r : Replica). leaves here (accepts_with here.self a.member.my_pid (proposal_of round_before (proposer_in n (heard r))) (heard r))
        (sends a core to_all (Accept core.slot n (proposal_of round_before (proposer_in n (heard r))).value) ∷ [])) (sym started)
      where
        request : List Outgoing
        request = sends a core to_all (Accept core.slot n v) ∷ []

  pub proposal_paper : AgreesIfTaken (seen_step (propose_classic a v core)) (proposes_own here v)
  unfolding propose_classic proposes_own requesting
  proposal_paper =
      agree_unless seen_step (may_propose a core)
      (λ e.
      agree_both seen_step (is_multi_paxos a.mode) (is_there here.start) (led_start a.mode a.first_leader)
      (λ m. agrees_if_taken (ap (λ (k : PaxosRound). seen_step (propose_accept a k v core)) number ∙ accept_request_lem e))
      (λ m. agrees_if_taken (ap (λ (k : PaxosRound). seen_step (propose_prepare a k (PaxosV None v) core)) number ∙ prepare_request_lem e)))
      (λ e. no_refusal refl)

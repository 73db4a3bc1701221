-- What is seen of the engine's handler of a Prepare, and of entering a round, is what the paper's rules make of the replica.
-- Assumes nothing.
use Rattle.std.specs.Prelude.{Option as Optional, None, Some, is_some, Result, Ok, Err}
use mathlib.Core.Path.{◌≡◌, refl, sym, ap, ◌∙◌}
use mathlib.Core.Bool.{Bool, true, false, cond, not, ◌&&◌, ◌||◌}
use mathlib.Core.List.{List, [], ◌∷◌}
use mathlib.Core.Option.{Option, none, some}
use Prim.Native.Nat.{ℕ}
use lib.Dec.{eqb, ltb, leb}
use Rattle.basics.proofs.Tests.{not_both}
use Rattle.basics.specs.sets.Sets.{size, is_empty}
use Rattle.paxos.specs.PaxosMadeSimple.{Message, is_majority, exceeded, accepted_in, proposal_of, proposes}
use Rattle.paxos.specs.PaxosMadeSimple.Message.{promise}
use Rattle.message.specs.Modes.{is_swift_paxos, has_fast_path}
use Rattle.message.specs.Rounds.{round_before, before, equal}
use Rattle.message.specs.declared.ConsensusMsg.TheVariants.{Prepare, Accept}
use Rattle.message.specs.declared.PaxosRound.{PaxosRound}
use Rattle.message.specs.declared.Refusal.{Refusal}
use Rattle.message.specs.declared.Refusal.TheVariants.{Panic}
use Rattle.message.specs.declared.RoundV.{RoundV}
use Rattle.round_state.specs.Paxos.{get_v, get_last_accepted_round, goto_round, held_after_promise, receive_promise, paxos_propose_v, self_accept, accept_own, receive_accept, accept_fits, after_accept}
use Rattle.round_state.specs.declared.PaxosState.{PaxosState}
use Rattle.steps.specs.enter.Enter.{in_round, is_older, from_live, enter}
use Rattle.classic.specs.prepare.Prepare.{hold_first, may_answer, answer_prepare, answers_nothing, preparing, after_held, prepare_answered, off_fast_path, broadcast_accept, after_own_accept, accept_phase, with_promise, becomes_prepared, gather}
use Rattle.steps.specs.Steps.{CoreStep, sends, to_all, held_value, with_paxos, left_fast_path, stays, and_then}
use Rattle.steps.specs.declared.Asked.{Asked}
use Rattle.steps.specs.declared.Core.{Core}
use Rattle.steps.specs.declared.Destination.TheVariants.{One}
use Rattle.steps.specs.declared.Outgoing.{Outgoing}
use Rattle.steps.specs.declared.Heard.{Heard}
use Rattle.consensus.proofs.Entered.{not_swift_without_fast_path}
use Rattle.consensus.specs.declared.State.{State}
use Rattle.paper.specs.Replica.{Replica, accepted_of, replica_of, keeps_something, proposer_in, newly, hears, accepts_with}
use Rattle.paper.specs.PaperCall.{Seen, Place, Known, in_places, leaves, nothing_happens, takes_part_in_slot, to_proposer, requesting, proposes_on_majority}
use Rattle.paper.proofs.Views.{place_in, known_in, seen_after, taken_no, push, once, AgreesIfTaken, agrees_if_taken, through, no_refusal, agree_both, agree_unless, held_kept, held_brings, held_value_lem, held_accepted_in, exceeded_older, promise_heard, accept_counted}
use Rattle.paper.proofs.InOrder.{or_false, kept, then_prepare}

-- ---- the classic modes

neither_right : (s t : Bool) → (s || t) ≡ false → t ≡ false
neither_right true t e = absurd (not_both refl e)
neither_right false t e = e

-- three tests, one behind the other, with the same way out
nested : {A : Type 0} (r o e : Bool) (x y : A) → cond r (cond (o || e) y x) y ≡ cond (r && not o && not e) x y
nested false o e x y = refl
nested true true e x y = refl
nested true false true x y = refl
nested true false false x y = refl

held_has_value : (held : Optional RoundV) → is_some held ≡ true → get_v held ≡ Some (held_value held)
held_has_value None e = absurd (not_both e refl)
held_has_value (Some rv) e = refl

after_promise_held : (held : Optional RoundV) (rv : RoundV) → is_some (held_after_promise held rv) ≡ true
unfolding held_after_promise
after_promise_held None rv = refl
after_promise_held (Some old) rv = go (before (get_last_accepted_round (Some old)) (get_last_accepted_round (Some rv)))
  where
    go : (t : Bool) → is_some (cond t (Some rv) (Some old)) ≡ true
    go true = refl
    go false = refl

module _ (state : State) (a : Asked) (h : Heard) (there : Bool) (acceptors : ℕ) (classic : has_fast_path a.mode ≡ false)
    (quorum : (k : ℕ) → leb a.member.quorums.majority k ≡ is_majority acceptors k) where
  abbrev core : Core
  core = state.rounds.core

  abbrev old : Replica
  old = replica_of core.paxos

  abbrev here : Place
  here = place_in a acceptors core

  abbrev known : Known
  known = known_in a h

  -- what is seen of the call that ends with a step
  abbrev pub seen_step : Result CoreStep Refusal → Seen
  seen_step step = seen_after state a there step

  swift : is_swift_paxos a.mode ≡ false
  swift = not_swift_without_fast_path a.mode classic

  -- ---- entering

  pub enter_paper : (slot : ℕ) (n : PaxosRound) (rest : Core → Result CoreStep Refusal) (rule : Seen)
      → (a.member.replica ≡ true → before (Some n) core.paxos.round ≡ false → AgreesIfTaken (seen_step (rest (in_round n core))) rule)
      → AgreesIfTaken (seen_step (and_then (enter a h slot n core) rest))
      (cond (takes_part_in_slot here slot && not (exceeded round_before old.acceptor.responded n)) rule (nothing_happens here))
  unfolding enter is_older from_live
  enter_paper slot n rest rule go =
      through refl
      (agree_both f (a.member.replica || is_swift_paxos a.mode) a.member.replica (or_false a.member.replica (is_swift_paxos a.mode) swift)
      (λ r.
      agree_both f (ltb slot core.slot || before (Some n) core.paxos.round) (ltb slot core.slot || exceeded round_before old.acceptor.responded n)
      (ap (λ (t : Bool). ltb slot core.slot || t) (exceeded_older core.paxos.round n))
      (λ o. agrees_if_taken refl)
      (λ o.
      agree_unless f (h.source_live || is_swift_paxos a.mode)
      (λ l. go (sym (or_false a.member.replica (is_swift_paxos a.mode) swift) ∙ r)
      (neither_right (ltb slot core.slot) (before (Some n) core.paxos.round) o))
      (λ l. no_refusal refl)))
      (λ r. agrees_if_taken refl))
      (nested a.member.replica (ltb slot core.slot) (exceeded round_before old.acceptor.responded n) rule (nothing_happens here))
    where
      f : Result CoreStep Refusal → Seen
      f step = seen_step (and_then step rest)

  pub entered_core : (n : PaxosRound) → in_round n core ≡ with_paxos (in_round n core).paxos core
  unfolding in_round
  entered_core n = go (before core.paxos.round (Some n))
    where
      go : (t : Bool)
          → cond t (with_paxos (goto_round (Some n) core.paxos) core) core
          ≡ with_paxos (cond t (with_paxos (goto_round (Some n) core.paxos) core) core).paxos core
      go true = refl
      go false = refl

  pub off_paxos : (c : Core) → off_fast_path a c ≡ left_fast_path c
  off_paxos c = ap (λ (t : Bool). cond t c (left_fast_path c)) swift

  module _ (replica : a.member.replica ≡ true) (n : PaxosRound) where
    -- ---- Prepare

    module _ (rv : RoundV) where
      propose_paper : (q : PaxosState) → is_some q.max_rv ≡ true → before (Some n) q.round ≡ false
          → AgreesIfTaken (seen_step (accept_phase a n (with_paxos q core))) (requesting here (replica_of q) (some (proposal_of round_before (proposer_in n (replica_of q)))))
      unfolding accept_phase self_accept accept_own receive_accept broadcast_accept requesting
      propose_paper q has free =
          agree_unless g (is_empty q.accepted_set)
          (λ e.
          through (ap (λ (v : Optional ℕ). g (accept_own a.member n q v)) (held_has_value q.max_rv has))
          (agree_unless g (accept_fits q.max_rv n v)
          (λ fit. agrees_if_taken
          (ap (λ (c : Core). seen_step (Ok (stays c (in_places request)))) (off_paxos (with_paxos (after_accept a.member a.member.my_pid n v q) core))
          ∙ ap (λ (r : Replica). leaves here r request) (accept_counted a replica a.member.my_pid n v q free fit)
          ∙ ap (λ (w : ℕ). leaves here (accepts_with here.self a.member.my_pid (record { number = n; value = w }) (replica_of q))
          (sends a core to_all (Accept core.slot n w) ∷ [])) (held_value_lem q.max_rv)))
          (λ fit. no_refusal refl))
          refl)
          (λ e. no_refusal refl)
        where
          v : ℕ
          v = held_value q.max_rv

          g : Result PaxosState Refusal → Seen
          g result = seen_step (after_own_accept a n (with_paxos q core) result)

          request : List Outgoing
          request = sends a core to_all (Accept core.slot n v) ∷ []

      requests_none : (r : Replica) → leaves here r [] ≡ requesting here r none
      unfolding requesting
      requests_none r = refl

      gather_paper : (p : PaxosState) → before (Some n) p.round ≡ false
          → AgreesIfTaken (seen_step (gather a h n rv (with_paxos p core))) (proposes_on_majority here known n rv (replica_of p))
      unfolding gather proposes_on_majority becomes_prepared receive_promise proposes
      gather_paper p free =
          through refl
          (agree_both seen_step (becomes_prepared a (with_paxos p core) (with_promise a h rv (with_paxos p core)))
          (not (is_majority acceptors (size p.prepared_set)) && is_majority acceptors (size q.prepared_set))
          (ap (λ (t : Bool). not t && leb a.member.quorums.majority (size q.prepared_set)) (quorum (size p.prepared_set))
          ∙ ap (λ (t : Bool). not (is_majority acceptors (size p.prepared_set)) && t) (quorum (size q.prepared_set)))
          (λ e. propose_paper q (after_promise_held p.max_rv rv) free)
          (λ e. agrees_if_taken (requests_none (replica_of q))))
          (once (requesting here (replica_of q)) (is_majority acceptors (size p.prepared_set)) (is_majority acceptors (size q.prepared_set))
          (proposal_of round_before (proposer_in n (replica_of p))) (proposal_of round_before (proposer_in n (replica_of q)))
          ∙ ap (λ (r : Replica). requesting here r (newly (proposes round_before acceptors (proposer_in n (replica_of p)))
          (proposes round_before acceptors (proposer_in n r)))) heard)
        where
          q : PaxosState
          q = receive_promise a.member h.src rv p

          heard : replica_of q ≡ hears here.self h.src rv (replica_of p)
          heard = promise_heard a replica h.src rv p

      -- what is seen once the promise that came is held
      abbrev seen_then : Result CoreStep Refusal → Seen
      seen_then step = seen_step (and_then step (gather a h n rv))

      preparing_paper : (p : PaxosState) → before (Some n) p.round ≡ false
          → AgreesIfTaken (seen_then (preparing a h n (with_paxos p core))) (then_prepare here known n rv (replica_of p))
      unfolding preparing answers_nothing answer_prepare
      preparing_paper p free =
          agree_both seen_then (eqb h.delegate a.member.my_pid) (eqb h.delegate a.member.my_pid) refl
          (λ e. gather_paper p free)
          (λ e.
          through refl
          (agree_both seen_then (answers_nothing a h n (with_paxos p core)) (accepted_in round_before n (accepted_of p.max_rv))
          (ap (λ (t : Bool). (t && eqb h.delegate n.leader) || last) swift ∙ held_accepted_in p.max_rv n)
          (λ d. agrees_if_taken refl)
          (λ d.
          agree_unless seen_then (may_answer h n)
          (λ m. agrees_if_taken (ap (λ (x : RoundV). leaves here (replica_of p) (sends a core (One h.delegate) (Prepare core.slot n x) ∷ []))
          (held_brings p.max_rv)))
          (λ m. no_refusal refl)))
          (push answer (accepted_in round_before n (accepted_of p.max_rv)) none (some (promise n (accepted_of p.max_rv)))))
        where
          last : Bool
          last = equal (get_last_accepted_round p.max_rv) (Some n)

          answer : Option (Message PaxosRound ℕ) → Seen
          answer m = leaves here (replica_of p) (to_proposer here known (replica_of p).wish m)

      pub prepared_paper : (p : PaxosState) → before (Some n) p.round ≡ false
          → AgreesIfTaken (seen_then (prepare_answered a h n rv (with_paxos p core))) (then_prepare here known n rv (kept here known n rv (replica_of p)))
      unfolding prepare_answered hold_first paxos_propose_v receive_promise
      prepared_paper p free =
          through refl
          (agree_both g (is_some p.max_rv) (keeps_something (replica_of p)) (held_kept p.max_rv)
          (λ e. preparing_paper p free)
          (λ e.
          through (taken_no g (is_some p.max_rv) (Err Panic) (cond (is_empty p.prepared_set) (Ok q) (Err Panic)) e)
          (agree_unless g (is_empty p.prepared_set) (λ d. preparing_paper q free) (λ d. no_refusal refl))
          (ap (then_prepare here known n rv) (promise_heard a replica a.member.my_pid rv p))))
          (push (then_prepare here known n rv) (keeps_something (replica_of p)) (replica_of p) (hears here.self here.self rv (replica_of p)))
        where
          q : PaxosState
          q = receive_promise a.member a.member.my_pid rv p

          g : Result PaxosState Refusal → Seen
          g result = seen_then (after_held a h n (with_paxos p core) result)

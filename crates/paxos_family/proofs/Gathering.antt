-- The delegate proposes only with the promise that completes a majority, and not again with any promise that follows: a further promise is
-- counted, and nothing is sent.
-- Assumes nothing.
use Rattle.std.specs.Prelude.{Option, None, Some, Result, Ok, Err}
use mathlib.Core.Path.{◌≡◌, refl, ap, ◌∙◌}
use mathlib.Core.Logic.{◌⊎◌, inl, inr}
use mathlib.Core.Bool.{Bool, true, false, cond, not}
use mathlib.Core.List.{List, [], ◌∷◌}
use Prim.Native.Nat.{ℕ, ◌≤◌}
use native.Mathlib.Omega.{arith}
use lib.Dec.{leb}
use borrow.Author.Tests.{leb-true, le-leb}
use Rattle.basics.proofs.Tests.{either, and_right}
use Rattle.basics.specs.sets.Sets.{size, is_empty}
use Rattle.basics.proofs.sets.Laws.{size_within}
use Rattle.message.specs.Modes.{is_swift_paxos}
use Rattle.message.specs.declared.PaxosRound.{PaxosRound}
use Rattle.message.specs.declared.Refusal.{Refusal}
use Rattle.message.specs.declared.Refusal.TheVariants.{AcceptUnlikeHeld}
use Rattle.message.specs.declared.RoundV.{RoundV}
use Rattle.round_state.specs.Paxos.{get_v, is_prepared, counted, receive_promise, accept_fits, after_accept, receive_accept, accept_own, self_accept, state_left}
use Rattle.round_state.specs.declared.Member.{Member}
use Rattle.round_state.specs.declared.PaxosState.{PaxosState}
use Rattle.round_state.proofs.Counting.{counted_keeps}
use Rattle.classic.specs.prepare.Prepare.{broadcast_accept, after_own_accept, accept_phase, with_promise, becomes_prepared, gather}
use Rattle.steps.specs.Steps.{CoreStep, no_messages, with_paxos, left_fast_path, stays}
use Rattle.steps.specs.declared.Asked.{Asked}
use Rattle.steps.specs.declared.Core.{Core}
use Rattle.steps.specs.declared.Heard.{Heard}
use Rattle.steps.specs.declared.SentMessages.{SentMessages}

-- a majority that has prepared is one after a further promise, too
prepared_stays : (me : Member) (src : ℕ) (rv : RoundV) (s : PaxosState) → is_prepared me s ≡ true → is_prepared me (receive_promise me src rv s) ≡ true
unfolding receive_promise
prepared_stays me src rv s e =
    let enough : me.quorums.majority ≤ size s.prepared_set = leb-true me.quorums.majority (size s.prepared_set) e in
    let more : size s.prepared_set ≤ size (counted me src s.prepared_set) =
    size_within s.prepared_set (counted me src s.prepared_set) (counted_keeps me src s.prepared_set) in
    le-leb me.quorums.majority (size (counted me src s.prepared_set)) (omega arith)

-- ---- an own accept leaves the prepared set

accept_prepared : (me : Member) (src : ℕ) (round : PaxosRound) (v : ℕ) (s : PaxosState) → (state_left s (receive_accept me src round v s)).prepared_set ≡ s.prepared_set
unfolding receive_accept
accept_prepared me src round v s = go (accept_fits s.max_rv round v)
  where
    go : (t : Bool) → (state_left s (cond t (Ok (after_accept me src round v s)) (Err AcceptUnlikeHeld))).prepared_set ≡ s.prepared_set
    go true = refl
    go false = refl

own_prepared : (me : Member) (round : PaxosRound) (s : PaxosState) (held : Option ℕ) → (state_left s (accept_own me round s held)).prepared_set ≡ s.prepared_set
unfolding accept_own
own_prepared me round s None = refl
own_prepared me round s (Some v) = accept_prepared me me.my_pid round v s

self_prepared : (me : Member) (round : PaxosRound) (s : PaxosState) → (state_left s (self_accept me round s)).prepared_set ≡ s.prepared_set
unfolding self_accept
self_prepared me round s = go (is_empty s.accepted_set)
  where
    go : (t : Bool) → (state_left s (cond t (accept_own me round s (get_v s.max_rv)) (Err AcceptUnlikeHeld))).prepared_set ≡ s.prepared_set
    go true = own_prepared me round s (get_v s.max_rv)
    go false = refl

sent_paxos : (a : Asked) (round : PaxosRound) (core : Core) → (broadcast_accept a round core).state.paxos ≡ core.paxos
unfolding broadcast_accept
sent_paxos a round core = go (is_swift_paxos a.mode)
  where
    go : (t : Bool) → (cond t core (left_fast_path core)).paxos ≡ core.paxos
    go true = refl
    go false = refl

-- what a handler leaves and sends: a refused call leaves the core and sends nothing
abbrev pub core_left : Core → Result CoreStep Refusal → Core
core_left core (Ok step) = step.state
core_left core (Err why) = core

abbrev pub sent_by : Result CoreStep Refusal → SentMessages
sent_by (Ok step) = step.messages
sent_by (Err why) = no_messages

-- an accept phase that sends something is not refused
phase_prepared : (a : Asked) (round : PaxosRound) (old core : Core) → (sent_by (accept_phase a round core) ≡ no_messages → ⊥)
    → (core_left old (accept_phase a round core)).paxos.prepared_set ≡ core.paxos.prepared_set
unfolding accept_phase
phase_prepared a round old core = go (self_accept a.member round core.paxos) (self_prepared a.member round core.paxos)
  where
    go : (own : Result PaxosState Refusal) → (state_left core.paxos own).prepared_set ≡ core.paxos.prepared_set
        → (sent_by (after_own_accept a round core own) ≡ no_messages → ⊥) → (core_left old (after_own_accept a round core own)).paxos.prepared_set ≡ core.paxos.prepared_set
    go (Ok own) same sent = ap (λ (p : PaxosState). p.prepared_set) (sent_paxos a round (with_paxos own core)) ∙ same
    go (Err why) same sent = absurd (sent refl)

-- ---- the promises of a round

module _ (a : Asked) (round : PaxosRound) where
  -- the promise that completes a majority starts the accept phase
  pub gather_proposes : (h : Heard) (rv : RoundV) (core : Core) → becomes_prepared a core (with_promise a h rv core) ≡ true
      → gather a h round rv core ≡ accept_phase a round (with_promise a h rv core)
  unfolding gather
  gather_proposes h rv core e = simp e

  -- any other is counted, and nothing is sent
  pub gather_waits : (h : Heard) (rv : RoundV) (core : Core) → becomes_prepared a core (with_promise a h rv core) ≡ false
      → gather a h round rv core ≡ Ok (stays (with_promise a h rv core) no_messages)
  unfolding gather
  gather_waits h rv core e = simp e

  -- a promise after the majority completes none
  prepared_before : (core promised : Core) → is_prepared a.member core.paxos ≡ true → becomes_prepared a core promised ≡ false
  unfolding becomes_prepared
  prepared_before core promised e = simp e

  pub gather_again : (h : Heard) (rv : RoundV) (core : Core) → is_prepared a.member core.paxos ≡ true
      → gather a h round rv core ≡ Ok (stays (with_promise a h rv core) no_messages)
  gather_again h rv core e = gather_waits h rv core (prepared_before core (with_promise a h rv core) e)

  -- so it sends something only with the promise that completes a majority
  pub gather_completes : (h : Heard) (rv : RoundV) (core : Core) → (sent_by (gather a h round rv core) ≡ no_messages → ⊥)
      → becomes_prepared a core (with_promise a h rv core) ≡ true
  gather_completes h rv core sent = go (either (becomes_prepared a core (with_promise a h rv core)))
    where
      go : (becomes_prepared a core (with_promise a h rv core) ≡ true) ⊎ (becomes_prepared a core (with_promise a h rv core) ≡ false)
          → becomes_prepared a core (with_promise a h rv core) ≡ true
      go (inl e) = e
      go (inr e) = absurd (sent (ap sent_by (gather_waits h rv core e)))

  -- with which a majority has prepared
  prepared_after : (core promised : Core) → becomes_prepared a core promised ≡ true → is_prepared a.member promised.paxos ≡ true
  unfolding becomes_prepared
  prepared_after core promised e = and_right (not (is_prepared a.member core.paxos)) (is_prepared a.member promised.paxos) e

  -- the prepared set of the core after a promise with which something is sent
  gather_prepared : (h : Heard) (rv : RoundV) (core : Core) → (sent_by (gather a h round rv core) ≡ no_messages → ⊥)
      → (core_left core (gather a h round rv core)).paxos.prepared_set ≡ (with_promise a h rv core).paxos.prepared_set
  gather_prepared h rv core sent =
      let proposes : gather a h round rv core ≡ accept_phase a round (with_promise a h rv core) = gather_proposes h rv core (gather_completes h rv core sent) in
      ap (λ (r : Result CoreStep Refusal). (core_left core r).paxos.prepared_set) proposes
      ∙ phase_prepared a round core (with_promise a h rv core) (λ e. sent (ap sent_by proposes ∙ e))

  -- the core after some promises, one after the other
  abbrev pub gathered : Core → List (Heard × RoundV) → Core
  gathered core [] = core
  gathered core (p ∷ ps) = gathered (core_left core (gather a p.0 round p.1 core)) ps

  quiet : (core : Core) → is_prepared a.member core.paxos ≡ true → (more : List (Heard × RoundV)) (h : Heard) (rv : RoundV)
      → sent_by (gather a h round rv (gathered core more)) ≡ no_messages
  quiet core e [] h rv = ap sent_by (gather_again h rv core e)
  quiet core e (p ∷ ps) h rv =
      quiet (core_left core (gather a p.0 round p.1 core))
      (ap (λ (r : Result CoreStep Refusal). is_prepared a.member (core_left core r).paxos) (gather_again p.0 p.1 core e) ∙ prepared_stays a.member p.0.src p.1 core.paxos e) ps h rv

  -- The delegate that has sent something with a promise sends nothing with a further one, however many there are.
  pub proposes_once : (h : Heard) (rv : RoundV) (core : Core) → (sent_by (gather a h round rv core) ≡ no_messages → ⊥)
      → (more : List (Heard × RoundV)) (h' : Heard) (rv' : RoundV)
      → sent_by (gather a h' round rv' (gathered (core_left core (gather a h round rv core)) more)) ≡ no_messages
  proposes_once h rv core sent =
      quiet (core_left core (gather a h round rv core))
      (ap (λ (x : ℕ). leb a.member.quorums.majority (size x)) (gather_prepared h rv core sent) ∙ prepared_after core (with_promise a h rv core) (gather_completes h rv core sent))

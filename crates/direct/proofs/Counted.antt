-- A message that is only counted: the handlers make of the core what is written, and send nothing.
-- Assumes nothing.
use Rattle.std.specs.Prelude.{Option, None, Some, Ok, is_some}
use mathlib.Core.Bool.{Bool, true, false, not, ◌&&◌}
use mathlib.Core.List.{List}
use mathlib.Core.Logic.{◌⊎◌, inl, inr}
use mathlib.Core.Path.{◌≡◌, refl, sym, ap, ap₂, ◌∙◌}
use Prim.Native.Nat.{ℕ}
use borrow.Author.Tests.{eqb-true, not-true}
use lib.Dec.{eqb, leb}
use Rattle.basics.proofs.Tests.{not_both, and_left, and_right}
use Rattle.classic.specs.accept.Accept.{accepting, accept_taken, try_commit}
use Rattle.arrays.specs.Arrays.{settings_of}
use Rattle.arrays.specs.declared.Setup.{Setup}
use Rattle.calls.specs.Asked.{asked_of, gatherer_of, gatherer_in}
use Rattle.consensus.proofs.Entered.{not_swift_without_fast_path}
use Rattle.questions.specs.counted.Counting.{round_in, member_of, setup_majority, in_own_round, repeats_held, accepted_set_with, only_counts_accept, keeps_held, prepared_set_with, completes_majority, gathers_promises, only_counts_promise, with_accepts, with_counted_promises}
use Rattle.direct.specs.handlers.Handled.{flat_heard}
use Rattle.steps.specs.enter.Enter.{is_older, from_live, in_round, enter}
use Rattle.message.specs.Modes.{has_fast_path, is_swift_paxos, mode_of_number}
use Rattle.message.specs.Promises.{accept_round_of}
use Rattle.message.specs.Rounds.{before}
use Rattle.message.specs.declared.ConsensusMsg.TheVariants.{Prepare, Accept}
use Rattle.message.specs.declared.PaxosRound.{PaxosRound}
use Rattle.message.specs.declared.RoundV.{RoundV}
use Rattle.message.specs.declared.RoundV.TheVariants.{PaxosV}
use Rattle.paxos_family.specs.Process.{process_classic, on_prepare, entered_prepare, on_accept}
use Rattle.classic.specs.prepare.Prepare.{hold_first, preparing, prepare_answered, becomes_prepared, gather}
use Rattle.round_state.proofs.Holding.{accept_fits_lem, promise_not_later}
use Rattle.round_state.specs.Paxos.{get_last_accepted_round, is_prepared, counted, held_after_promise, receive_promise, accept_fits, after_accept, receive_accept}
use Rattle.basics.specs.sets.Sets.{contains, size}
use Rattle.settings.specs.Questions.{delegate_in}
use Rattle.settings.specs.declared.Settings.{Settings}
use Rattle.steps.specs.Steps.{no_messages, with_paxos, left_fast_path, stays, continues}
use Rattle.steps.specs.declared.Asked.{Asked}
use Rattle.steps.specs.declared.Core.{Core}
use Rattle.steps.specs.declared.Heard.{Heard}
use Rattle.flat.specs.Decode.{decoded_core, decoded_held, decoded_msg, decoded_promise, decoded_settings, decoded_source}
use Rattle.flat.specs.declared.FlatCall.{FlatCall}
use Rattle.flat.specs.declared.FlatCore.{FlatCore}
use Rattle.flat.specs.declared.FlatMessage.{FlatMessage}

-- ---- the handlers

module _ (a : Asked) (h : Heard) (slot : ℕ) (round : PaxosRound) (core : Core) where
  -- a live replica hears a live one, in the round that it is in
  pub record CountedMeets : Type 0 where
    pub replica : a.member.replica ≡ true
    pub live : h.source_live ≡ true
    pub not_older : is_older slot round core ≡ false
    pub not_later : before core.paxos.round (Some round) ≡ false

  enters : CountedMeets → enter a h slot round core ≡ Ok (continues core no_messages)
  unfolding enter from_live in_round
  enters m = simp (m.replica, m.live, m.not_older, m.not_later)

  -- the leader counts an accept of what it holds
  pub accept_counted : (v : ℕ) → CountedMeets → is_swift_paxos a.mode ≡ false → eqb a.member.my_pid round.leader ≡ true
      → accept_fits core.paxos.max_rv round v ≡ true
      → leb a.member.quorums.majority (size (counted a.member h.src core.paxos.accepted_set)) ≡ false
      → process_classic a h (Accept slot round v) core
      ≡ Ok (stays (left_fast_path (with_paxos (after_accept a.member h.src round v core.paxos) core)) no_messages)
  unfolding process_classic on_accept accepting receive_accept accept_taken try_commit
  accept_counted v m swift own fits few = simp (enters m, fits, swift, own, few)

  -- who gathers the promises counts one that changes nothing that is held
  pub promise_counted : (rv : RoundV) → CountedMeets → is_some core.paxos.max_rv ≡ true → eqb h.delegate a.member.my_pid ≡ true
      → (not (is_prepared a.member core.paxos) && leb a.member.quorums.majority (size (counted a.member h.src core.paxos.prepared_set))) ≡ false
      → process_classic a h (Prepare slot round rv) core ≡ Ok (stays (with_paxos (receive_promise a.member h.src rv core.paxos) core) no_messages)
  unfolding process_classic on_prepare entered_prepare prepare_answered hold_first preparing gather becomes_prepared receive_promise
  promise_counted rv m held own few = simp (enters m, held, own, few)

kept : (held : Option RoundV) (rv : RoundV) → is_some held ≡ true → before (get_last_accepted_round held) (accept_round_of rv) ≡ false → held_after_promise held rv ≡ held
kept None rv e b = absurd (not_both e refl)
kept (Some old) rv e b = promise_not_later old rv b

accepted_is : (held : Option RoundV) (round : PaxosRound) (v : ℕ) → before (get_last_accepted_round held) (Some round) ≡ false → accept_fits held round v ≡ true
    → held ≡ Some (PaxosV (Some round) v)
accepted_is held round v b e = go (accept_fits_lem held round v e)
  where
    go : (before (get_last_accepted_round held) (Some round) ≡ true) ⊎ (held ≡ Some (PaxosV (Some round) v)) → held ≡ Some (PaxosV (Some round) v)
    go (inl l) = absurd (not_both l b)
    go (inr same) = same

-- ---- on the flat forms

module _ (s : Setup) (committers delegates : List ℕ) (c : FlatCore) (f : FlatCall) where
  abbrev settings : Settings
  settings = decoded_settings (settings_of s committers delegates)

  abbrev m : FlatMessage
  m = f.message

  abbrev a : Asked
  a = asked_of settings

  abbrev h : Heard
  h = flat_heard s committers delegates f

  abbrev core : Core
  core = decoded_core c

  -- the source of a message of a kind that there is
  source_is : (k : ℕ) → eqb m.kind k ≡ true → leb 1 k ≡ true → leb k 6 ≡ true → decoded_source s.process_count s.my_pid m ≡ m.src
  unfolding decoded_source
  source_is k e l u =
      let same : m.kind ≡ k = eqb-true m.kind k e in
      let low : leb 1 m.kind ≡ true = ap (leb 1) same ∙ l in
      let high : leb m.kind 6 ≡ true = ap (λ (x : ℕ). leb x 6) same ∙ u in
      simp (low, high)

  meets : is_older m.slot (round_in m) core ≡ false → in_own_round s c m ≡ true → decoded_source s.process_count s.my_pid m ≡ m.src
      → CountedMeets a h m.slot (round_in m) core
  unfolding in_own_round
  meets o r e =
      let rest = and_right (contains s.alive_replicas s.my_pid) _ r in
      record {
        replica = and_left (contains s.alive_replicas s.my_pid) _ r;
        live = ap (contains s.alive_replicas) e ∙ and_left (contains s.alive_replicas m.src) _ rest;
        not_older = o;
        not_later = not-true _ (and_right (contains s.alive_replicas m.src) _ rest);
      }

  abbrev with_set : ℕ → Option RoundV → Core
  with_set src held =
      left_fast_path
      (with_paxos
      (record { round = core.paxos.round; max_rv = held; prepared_set = c.prepared_set; accepted_set = counted a.member src c.accepted_set })
      core)

  pub accept_leaves : has_fast_path a.mode ≡ false → is_older m.slot (round_in m) core ≡ false → eqb m.kind 2 ≡ true → only_counts_accept s c m ≡ true
      → process_classic a h (Accept m.slot (round_in m) m.v) core ≡ Ok (stays (decoded_core (with_accepts (accepted_set_with s c m) c)) no_messages)
  unfolding only_counts_accept repeats_held accepted_set_with
  accept_leaves p o k e =
      accept_counted a h m.slot (round_in m) core m.v (meets o (and_left (in_own_round s c m) _ rest) src) (not_swift_without_fast_path a.mode p)
      (and_left (eqb s.my_pid m.leader) _ e)
      fits
      (ap (λ (x : ℕ). leb (setup_majority s) (size (counted (member_of s) x c.accepted_set))) src ∙ not-true _ (and_right (repeats_held c m) _ last))
      ∙ ap₂ (λ (x : ℕ) (y : Option RoundV). Ok (stays (with_set x y) no_messages)) src (sym same)
    where
      src : decoded_source s.process_count s.my_pid m ≡ m.src
      src = source_is 2 k refl refl

      rest : (in_own_round s c m && (repeats_held c m && not (leb (setup_majority s) (size (accepted_set_with s c m))))) ≡ true
      rest = and_right (eqb s.my_pid m.leader) _ e

      last : (repeats_held c m && not (leb (setup_majority s) (size (accepted_set_with s c m)))) ≡ true
      last = and_right (in_own_round s c m) _ rest

      is_later : Bool
      is_later = before (get_last_accepted_round (decoded_held c.max_rv)) (Some (round_in m))

      fitting : Bool
      fitting = accept_fits (decoded_held c.max_rv) (round_in m) m.v

      repeats : (not is_later && fitting) ≡ true
      repeats = and_left (repeats_held c m) _ last

      fits : fitting ≡ true
      fits = and_right (not is_later) fitting repeats

      same : decoded_held c.max_rv ≡ Some (PaxosV (Some (round_in m)) m.v)
      same = accepted_is (decoded_held c.max_rv) (round_in m) m.v (not-true is_later (and_left (not is_later) fitting repeats)) fits

  abbrev with_prepared : ℕ → Option RoundV → Core
  with_prepared src held =
      with_paxos
      (record { round = core.paxos.round; max_rv = held; prepared_set = counted a.member src c.prepared_set; accepted_set = c.accepted_set })
      core

  -- no fast value: who gathers is asked of the settings alone
  gatherer_is : eqb m.kind 1 ≡ true → eqb m.rv.fast 0 ≡ true
      → gatherer_of settings (decoded_msg m) ≡ delegate_in delegates (mode_of_number s.mode) m.leader
  unfolding gatherer_in decoded_msg decoded_promise
  gatherer_is k e = simp (k, e)

  pub promise_leaves : is_older m.slot (round_in m) core ≡ false → eqb m.kind 1 ≡ true → only_counts_promise s delegates c m ≡ true
      → process_classic a h (Prepare m.slot (round_in m) (decoded_promise m.rv)) core ≡ Ok (stays (decoded_core (with_counted_promises (prepared_set_with s c m) c)) no_messages)
  unfolding only_counts_promise gathers_promises keeps_held completes_majority prepared_set_with receive_promise
  promise_leaves o k e =
      promise_counted a h m.slot (round_in m) core (decoded_promise m.rv) (meets o (and_left (in_own_round s c m) _ rest) src)
      (and_left (is_some (decoded_held c.max_rv)) _ keeps)
      (ap (λ (x : ℕ). eqb x s.my_pid) (gatherer_is k (and_left (eqb m.rv.fast 0) _ gathered)) ∙ and_right (eqb m.rv.fast 0) _ gathered)
      (ap (λ (x : ℕ). not (is_prepared a.member core.paxos) && leb (setup_majority s) (size (counted (member_of s) x c.prepared_set))) src ∙ not-true _ (and_right (keeps_held c m) _ last))
      ∙ ap₂ (λ (x : ℕ) (y : Option RoundV). Ok (stays (with_prepared x y) no_messages)) src
      (kept (decoded_held c.max_rv) (decoded_promise m.rv) (and_left (is_some (decoded_held c.max_rv)) _ keeps) (not-true _ (and_right (is_some (decoded_held c.max_rv)) _ keeps)))
    where
      src : decoded_source s.process_count s.my_pid m ≡ m.src
      src = source_is 1 k refl refl

      gathered : (eqb m.rv.fast 0 && eqb (delegate_in delegates (mode_of_number s.mode) m.leader) s.my_pid) ≡ true
      gathered = and_left (gathers_promises s delegates m) _ e

      rest : (in_own_round s c m && (keeps_held c m && not (completes_majority s c m))) ≡ true
      rest = and_right (gathers_promises s delegates m) _ e

      last : (keeps_held c m && not (completes_majority s c m)) ≡ true
      last = and_right (in_own_round s c m) _ rest

      keeps : (is_some (decoded_held c.max_rv) && not (before (get_last_accepted_round (decoded_held c.max_rv)) (accept_round_of (decoded_promise m.rv)))) ≡ true
      keeps = and_left (keeps_held c m) _ last

-- What a call leaves of the last value, and what the Accepts that it sends carry, in the modes without a fast path and where no Prepare comes: the own
-- slot and last value, and the round and value of the proposal, or of the Accept that is answered.
-- Assumes nothing.
use Rattle.std.specs.Prelude.{Option, None, Some, Ok, is_some}
use Rattle.calls.specs.declared.CommittedSlot.{CommittedSlot}
use mathlib.Core.Path.{◌≡◌, refl, sym, subst}
use mathlib.Core.Bool.{Bool, true, false, cond, not, ◌&&◌, ◌||◌}
use Prim.Native.Nat.{ℕ, ◌≤◌}
use lib.Dec.{T, ltb}
use borrow.Author.Tests.{ltb-false, not-true}
use Rattle.basics.proofs.Tests.{not_both, and_right}
use Rattle.message.specs.Modes.{has_fast_path, is_multi_paxos}
use Rattle.message.specs.Rounds.{before, equal}
use Rattle.message.proofs.Order.{equal_rounds}
use Rattle.message.specs.declared.ConsensusMsg.{ConsensusMsg}
use Rattle.message.specs.declared.ConsensusMsg.TheVariants.{Prepare, Accept, ForwardRequest, Commit, ReadRequest, ReadResponse}
use Rattle.message.specs.declared.PaxosRound.{PaxosRound}
use Rattle.message.specs.declared.PFMode.{PFMode}
use Rattle.message.specs.declared.PFMode.TheVariants.{Paxos, MultiPaxos, MultiPaxos3P, EPaxos, Pando, SwiftPaxos}
use Rattle.message.specs.declared.Refusal.{Refusal}
use Rattle.message.specs.declared.Refusal.TheVariants.{ValueNotHeld, Panic}
use Rattle.message.specs.declared.RoundV.{RoundV}
use Rattle.message.specs.declared.RoundV.TheVariants.{FastV, PaxosV}
use Rattle.settings.specs.Questions.{starting_round_of}
use Rattle.steps.specs.enter.Enter.{can_propose, is_older}
use Rattle.paxos_family.specs.Commit.{commit_slot}
use Rattle.propose.specs.Propose.{proposal_round, may_propose}
use Rattle.steps.specs.Steps.{CoreStep, held_value, on_rounds}
use Rattle.steps.specs.declared.Asked.{Asked}
use Rattle.steps.specs.declared.Core.{Core}
use Rattle.steps.specs.declared.Heard.{Heard}
use Rattle.steps.specs.declared.Next.{Next}
use Rattle.steps.specs.declared.Next.TheVariants.{Stays, Continues, Commits}
use Rattle.steps.specs.declared.Outgoing.{Outgoing}
use Rattle.calls.specs.declared.delivery.Delivery.{Delivery}
use Rattle.calls.specs.Asked.{asked_of, heard_of}
use Rattle.calls.specs.declared.Call.{Call}
use Rattle.calls.specs.declared.Call.TheVariants.{Propose, StartRead, Receive}
use Rattle.consensus.specs.Answers.{refused, committed, finish_at, finish}
use Rattle.consensus.specs.Call.{in_shard, call_of}
use Rattle.consensus.specs.Handle.{on_read_response, proposing, processed, process_message, handle}
use Rattle.consensus.specs.declared.Answer.{Answer}
use Rattle.consensus.specs.declared.Shard.{Shard}
use Rattle.consensus.specs.declared.State.{State}
use Rattle.consensus.specs.declared.StateAnswer.{StateAnswer}
use Rattle.fast_state.specs.Adopt.{lowest_best}
use Rattle.agreement.proofs.Tests.{nor_both, is_true}
use Rattle.group.proofs.Handlers.{Any, any_holds, TwoAtMost, Ends, ends, Keeps, Comes, processed_holds, proposing_holds, finish_holds, handle_holds, call_holds}

-- ---- the steps of a call

-- n and u are the slot and the last value before it, Q says for which round and value an Accept may be sent
module _ (n : ℕ) (u : Option ℕ) (Q : PaxosRound → ℕ → Type 0) where
  abbrev pub CarriesIn : Option ℕ → ConsensusMsg → Type 0
  CarriesIn last (Prepare slot round rv) = Unit {0}
  CarriesIn last (Accept slot round v) = (slot ≡ n) × (last ≡ u) × Q round v
  CarriesIn last (ForwardRequest v) = Unit {0}
  CarriesIn last (Commit slot v) = Unit {0}
  CarriesIn last (ReadRequest id) = Unit {0}
  CarriesIn last (ReadResponse id next) = Unit {0}

  abbrev Carrying : Outgoing → Type 0
  Carrying o = CarriesIn o.message.last_v o.message.msg

  abbrev SameCore : Core → Type 0
  SameCore core = (core.slot ≡ n) × (core.last_v ≡ u)

-- ---- calls

no_fast_path : (m : PFMode) → is_multi_paxos m ≡ true → has_fast_path m ≡ false
no_fast_path Paxos e = refl
no_fast_path MultiPaxos e = refl
no_fast_path MultiPaxos3P e = refl
no_fast_path EPaxos e = absurd (not_both e refl)
no_fast_path Pando e = refl
no_fast_path SwiftPaxos e = absurd (not_both e refl)

-- for which round and value a call sends an Accept: those of the proposal, which is made in the starting round, or of the Accept that it answers, which is
-- not of an older slot
abbrev pub AskedFor : Shard → Call → PaxosRound → ℕ → Type 0
AskedFor shard (Propose w) round v = (Some round ≡ starting_round_of shard.settings) × (w ≡ v)
AskedFor shard (StartRead tag arrival) round v = ⊥
AskedFor shard (Receive d) round v = (slot : ℕ) × (d.message.msg ≡ Accept slot round v) × (shard.state.rounds.core.slot ≤ slot)

abbrev pub Carries : Shard → Call → Outgoing → Type 0
Carries shard c o =
    CarriesIn shard.state.rounds.core.slot shard.state.rounds.core.last_v (AskedFor shard c) o.message.last_v o.message.msg

abbrev pub last_after : Option CommittedSlot → Option ℕ → Option ℕ
last_after None last = last
last_after (Some commit) last = Some commit.v

pub record CallCarries (shard : Shard) (c : Call) (r : Answer) : Type 0 where
  pub last_value : r.shard.state.rounds.core.last_v ≡ last_after r.reply.commit shard.state.rounds.core.last_v
  pub accepts : TwoAtMost (Carries shard c) r.reply.messages

-- no Prepare comes
abbrev pub NoPrepare : Call → Type 0
NoPrepare (Propose v) = Unit {0}
NoPrepare (StartRead tag arrival) = Unit {0}
NoPrepare (Receive d) = (slot : ℕ) (round : PaxosRound) (rv : RoundV) → d.message.msg ≡ Prepare slot round rv → ⊥

module _ (shard : Shard) (multi : is_multi_paxos shard.settings.mode ≡ true) where
  abbrev asked : Asked
  asked = asked_of shard.settings

  abbrev core : Core
  core = shard.state.rounds.core

  fast_path_lem : T (has_fast_path shard.settings.mode) → ⊥
  fast_path_lem t = subst T (no_fast_path shard.settings.mode multi) t

  abbrev state : State
  state = shard.state

  abbrev Left : Call → StateAnswer → Type 0
  Left c r = CallCarries shard c (in_shard shard r)

  refuses_carries : (c : Call) (why : Refusal) → Left c (refused why state)
  refuses_carries c why = record { last_value = refl; accepts = (tt, tt) }

  -- the same core, and messages that carry what they should
  finish_carries : (c : Call) (held : Bool) (step : CoreStep) → SameCore core.slot core.last_v (AskedFor shard c) step.state
      → Ends (Carries shard c) step.messages step.state.paxos.max_rv step.next → Left c (finish state asked held (Ok (on_rounds state.rounds.fast step)))
  unfolding committed commit_slot
  finish_carries c held step k q = go step.next held q
    where
      go : (n : Next) (held : Bool) → Ends (Carries shard c) step.messages step.state.paxos.max_rv n
          → Left c (finish_at state asked held (on_rounds state.rounds.fast step).state step.messages n)
      go Stays held q = record { last_value = k.1; accepts = q.0 }
      go Continues held q = absurd q
      go (Commits v) true q = record { last_value = refl; accepts = q.0 }
      go (Commits v) false q = refuses_carries c ValueNotHeld

  -- no Prepare is asked, and what is proposed is the call's
  abbrev Proposes : Call → RoundV → Type 0
  Proposes c (FastV p v) = Unit {0}
  Proposes c (PaxosV at v) = c ≡ Propose v

  -- a proposal is of the starting round
  starts : (c : Core) → T (may_propose asked c) → Some (proposal_round asked c) ≡ asked.starting_round
  unfolding may_propose
  starts c t = equal_rounds (Some (proposal_round asked c)) asked.starting_round
      (in_start (is_some c.paxos.max_rv) (can_propose asked && equal c.paxos.round asked.starting_round)
      (equal (Some (proposal_round asked c)) asked.starting_round) (is_true (may_propose asked c) t))
    where
      in_start : (held some : Bool) (same : Bool) → cond held false (some && (not (is_multi_paxos asked.mode) || same)) ≡ true → same ≡ true
      in_start true some same e = absurd (not_both e refl)
      in_start false some same e =
          subst (λ (b : Bool). (not b || same) ≡ true → same ≡ true) (sym multi) (λ d. d) (and_right some (not (is_multi_paxos asked.mode) || same) e)

  keeps : (c : Call) → Keeps asked Any Any (Proposes c) (λ round. ⊥) (AskedFor shard c) (SameCore core.slot core.last_v (AskedFor shard c)) (Carries shard c)
  keeps c =
      record {
        own_source = tt;
        own_fast = λ v. tt;
        enters = λ round d e k. k;
        promises = λ src rv d s p k. k;
        accepts = λ src round v d s e k. k;
        adopts = λ v d fresh k. k;
        leaves = λ d k. k;
        prepare_to = λ round d p w other. tt;
        accept_to_all = λ round d w. absurd w;
        accept_to_lem = λ round v d p w k e other. (k.0, k.1, subst (λ (x : Option RoundV). AskedFor shard c round (held_value x)) (sym e) w);
        commit_to_all = λ d requester. tt;
        propose_prepare_lem = λ round rv d. tt;
        propose_accept_lem = λ v d t p k. (k.0, k.1, subst (λ (x : Call). AskedFor shard x (proposal_round asked d) v) (sym p) (starts d t, refl));
      }

  proposal_carries : (v : ℕ) → Left (Propose v) (finish state asked true (proposing asked v state.rounds))
  proposal_carries v =
      finish_holds (Left (Propose v)) state asked true (proposing asked v state.rounds) (refuses_carries (Propose v))
      (proposing_holds (keeps (Propose v)) (λ step. Left (Propose v) (finish state asked true (Ok step))) (λ d t. tt) v refl state.rounds Any tt (any_holds _) (λ step t q. absurd (fast_path_lem t))
      (λ step t q. finish_carries (Propose v) true step q.0 (ends (Carries shard (Propose v)) _ _ step.next q.1)) (refl, refl))

  module _ (d : Delivery) (no_prepare : NoPrepare (Receive d)) where
    abbrev heard : Heard
    heard = heard_of shard.settings d

    -- an Accept is handled where it is not older
    comes : (m : ConsensusMsg) → d.message.msg ≡ m → Comes (keeps (Receive d)) heard (λ t. tt) core m
    unfolding is_older
    comes (Prepare slot round rv) e = absurd (no_prepare slot round rv e)
    comes (Accept slot round v) e =
        (tt, λ t. (slot, e, ltb-false slot core.slot (not-true (ltb slot core.slot) (is_true (not (ltb slot core.slot)) (nor_both (ltb slot core.slot) (before (Some round) core.paxos.round) t).0))))
    comes (ForwardRequest v) e = tt
    comes (Commit slot v) e = tt
    comes (ReadRequest id) e = tt
    comes (ReadResponse id next) e = tt

    process_carries : Left (Receive d) (process_message lowest_best state asked heard d)
    unfolding process_message
    process_carries =
        finish_holds (Left (Receive d)) state asked d.said.value_held (processed lowest_best asked heard d.message.msg state.rounds) (refuses_carries (Receive d))
        (processed_holds (keeps (Receive d)) heard (λ t. tt) (λ step. Left (Receive d) (finish state asked d.said.value_held (Ok step))) lowest_best state.rounds Any tt (λ p v w. any_holds _) (λ p v l w. any_holds _)
        (λ step t q. absurd (fast_path_lem t)) (λ step t q. finish_carries (Receive d) d.said.value_held step q.0 q.1) d.message.msg (comes d.message.msg refl) (refl, refl))

    handle_carries : (m : ConsensusMsg) → Left (Receive d) (handle lowest_best state asked heard d m)
    unfolding committed commit_slot on_read_response
    handle_carries =
        handle_holds lowest_best state asked heard d (Left (Receive d)) process_carries (record { last_value = refl; accepts = (tt, tt) }) (refuses_carries (Receive d) Panic)
        (λ v. record { last_value = refl; accepts = (tt, tt) }) (λ id t. record { last_value = refl; accepts = (tt, tt) }) (λ id. record { last_value = refl; accepts = (tt, tt) })

  pub call_carries : (c : Call) → NoPrepare c → CallCarries shard c (call_of shard c)
  call_carries =
      call_holds lowest_best shard (λ c r. NoPrepare c → CallCarries shard c r) (λ c why none. refuses_carries c why) (λ v none. proposal_carries v)
      (λ tag arrival ins e none. record { last_value = refl; accepts = (tt, tt) }) (λ d none. handle_carries d none d.message.msg)

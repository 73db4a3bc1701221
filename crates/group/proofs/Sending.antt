-- What a call sends, of every shard, in every mode, legal or not: at most two messages ("Out: at most three messages"), each with the own
-- number as its source, none to oneself ("destination, or all, never the sender; for Commit the first destination"), and a Commit to all.
-- Assumes nothing.
use Rattle.std.specs.Prelude.{Option, None, Some, Result, Ok, Err, IfOk}
use mathlib.Core.Path.{◌≡◌, refl}
use mathlib.Core.Bool.{Bool, true}
use mathlib.Core.List.{[]}
use Prim.Native.Nat.{ℕ, ◌≤◌}
use native.Mathlib.Omega.{arith}
use lib.ListN.{length}
use lib.Dec.{eqb}
use Rattle.message.specs.declared.ConsensusMsg.{ConsensusMsg}
use Rattle.message.specs.declared.ConsensusMsg.TheVariants.{Prepare, Accept, ForwardRequest, Commit, ReadRequest, ReadResponse}
use Rattle.message.specs.declared.Refusal.{Refusal}
use Rattle.fast_state.specs.Adopt.{ProposerChoice}
use Rattle.steps.specs.Steps.{RoundsStep, first_served}
use Rattle.steps.specs.declared.Asked.{Asked}
use Rattle.steps.specs.declared.Core.{Core}
use Rattle.steps.specs.declared.Destination.{Destination}
use Rattle.steps.specs.declared.Destination.TheVariants.{One, All}
use Rattle.steps.specs.declared.Heard.{Heard}
use Rattle.steps.specs.declared.SentMessages.{SentMessages}
use Rattle.steps.specs.declared.Next.{Next}
use Rattle.steps.specs.declared.Next.TheVariants.{Stays, Continues, Commits}
use Rattle.steps.specs.declared.Outgoing.{Outgoing}
use Rattle.steps.specs.declared.Rounds.{Rounds}
use Rattle.calls.specs.declared.delivery.Delivery.{Delivery}
use Rattle.calls.specs.Asked.{asked_of, heard_of}
use Rattle.calls.specs.declared.Call.{Call}
use Rattle.calls.specs.declared.Reply.{Reply}
use Rattle.consensus.specs.Answers.{committed, finish_at, finish}
use Rattle.consensus.specs.Call.{call_with}
use Rattle.consensus.specs.Handle.{proposing, on_read_response, processed, process_message, handle}
use Rattle.consensus.specs.declared.Shard.{Shard}
use Rattle.consensus.specs.declared.State.{State}
use Rattle.consensus.specs.declared.StateAnswer.{StateAnswer}
use Rattle.basics.specs.Lists.{In}
use Rattle.basics.proofs.Tests.{of-both}
use Rattle.agreement.proofs.Tests.{by_test, neqb→ne}
use Rattle.group.specs.Claim.{listed, messages_of, Reaches, SentTo}
use Rattle.group.proofs.Handlers.{Any, any_holds, UpToTwo, TwoAtMost, each_in, Ends, ends, Keeps, Comes, processed_holds, proposing_holds, handle_holds, call_holds}

-- ---- a message that a member may send

-- the process is another
abbrev Other : ℕ → Option ℕ → Type 0
Other own None = Unit {0}
Other own (Some p) = p ≡ own → ⊥

-- "never the sender"
abbrev pub NotTo : ℕ → Destination → Type 0
NotTo own (One p) = p ≡ own → ⊥
NotTo own (All first) = Other own first

-- to all, with a first destination or none
abbrev pub ToAll : Destination → Type 0
ToAll (One p) = ⊥
ToAll (All first) = Unit {0}

-- a Commit goes to all
abbrev pub CommitToAll : ConsensusMsg → Destination → Type 0
CommitToAll (Prepare slot round rv) d = Unit {0}
CommitToAll (Accept slot round v) d = Unit {0}
CommitToAll (ForwardRequest v) d = Unit {0}
CommitToAll (Commit slot v) d = ToAll d
CommitToAll (ReadRequest id) d = Unit {0}
CommitToAll (ReadResponse id next) d = Unit {0}

-- a message that the member of that number may send
pub record FromOwn (own : ℕ) (o : Outgoing) : Type 0 where
  pub source : o.message.src ≡ own
  pub to_others : NotTo own o.destination
  pub commit_to_all : CommitToAll o.message.msg o.destination

not_reached : (own : ℕ) (d : Destination) → NotTo own d → Reaches own d own → ⊥
not_reached own (One p) n t = n t
not_reached own (All first) n t = t refl

not_sent : (own : ℕ) (d : Destination) → NotTo own d → (m : ConsensusMsg) → SentTo own d own m → ⊥
not_sent own d n (Prepare slot round rv) t = not_reached own d n t
not_sent own d n (Accept slot round v) t = not_reached own d n t
not_sent own d n (ForwardRequest v) t = not_reached own d n t
not_sent own d n (Commit slot v) t = t refl
not_sent own d n (ReadRequest id) t = not_reached own d n t
not_sent own d n (ReadResponse id next) t = not_reached own d n t

-- ---- the handlers

-- a step that is over, has sent such messages alone, and none without something held
abbrev pub RoundsEnd : ℕ → RoundsStep → Type 0
RoundsEnd own step = Ends (FromOwn own) step.messages step.state.core.paxos.max_rv step.next

module _ (a : Asked) where
  abbrev own : ℕ
  own = a.member.my_pid

  first_other : (p : Option ℕ) → Other own (first_served a p)
  first_other None = tt
  first_other (Some p) = by_test (Other own) (eqb p own) None (Some p) (λ t. tt) (neqb→ne p own)

  keeps : Keeps a Any Any Any Any (λ round. Any) Any (FromOwn own)
  keeps =
      record {
        own_source = tt;
        own_fast = λ v. tt;
        enters = λ round core e k. tt;
        promises = λ src rv core s p k. tt;
        accepts = λ src round v core s e k. tt;
        adopts = λ v core fresh k. tt;
        leaves = λ core k. tt;
        prepare_to = λ round core p w other. record { source = refl; to_others = other; commit_to_all = tt };
        accept_to_all = λ round core t. record { source = refl; to_others = tt; commit_to_all = tt };
        accept_to_lem = λ round v core p t k e other. record { source = refl; to_others = other; commit_to_all = tt };
        commit_to_all = λ core requester. record { source = refl; to_others = first_other requester; commit_to_all = tt };
        propose_prepare_lem = λ round rv core. record { source = refl; to_others = tt; commit_to_all = tt };
        propose_accept_lem = λ v core t p k. record { source = refl; to_others = tt; commit_to_all = tt };
      }

  comes : (h : Heard) (core : Core) (m : ConsensusMsg) → Comes keeps h (λ t. tt) core m
  comes h core (Prepare slot round rv) = (tt, tt, tt)
  comes h core (Accept slot round v) = (tt, λ t. tt)
  comes h core (ForwardRequest v) = tt
  comes h core (Commit slot v) = tt
  comes h core (ReadRequest id) = tt
  comes h core (ReadResponse id next) = tt

  -- Handling a message is refused or ends; what it sends, it sends with something held.
  pub processed_ends : (choose : ProposerChoice) (h : Heard) (m : ConsensusMsg) (s : Rounds) → IfOk (processed choose a h m s) (RoundsEnd own)
  processed_ends choose h m s =
      processed_holds keeps h (λ t. tt) (RoundsEnd own) choose s Any tt (λ p v w. any_holds _) (λ p v l w. any_holds _) (λ step t q. q.0.1) (λ step t q. q.1) m
      (comes h s.core m) tt

  -- So does a proposal.
  pub proposing_ends : (v : ℕ) (s : Rounds) → IfOk (proposing a v s) (RoundsEnd own)
  proposing_ends v s =
      proposing_holds keeps (RoundsEnd own) (λ core t. tt) v tt s Any tt (any_holds _) (λ step t q. ends (FromOwn own) _ _ step.next q.0.1)
      (λ step t q. ends (FromOwn own) _ _ step.next q.1) tt

-- ---- calls

abbrev CallSends : ℕ → Reply → Type 0
CallSends own reply = TwoAtMost (FromOwn own) reply.messages

module _ (state : State) (a : Asked) where
  abbrev Sent : Reply → Type 0
  Sent = CallSends a.member.my_pid

  finish_sends : (held : Bool) (r : Result RoundsStep Refusal) → IfOk r (RoundsEnd a.member.my_pid) → Sent (finish state a held r).reply
  unfolding committed
  finish_sends held (Err why) q = (tt, tt)
  finish_sends held (Ok step) q = go step.next q
    where
      go : (n : Next) → Ends (FromOwn a.member.my_pid) step.messages step.state.core.paxos.max_rv n → Sent (finish_at state a held step.state step.messages n).reply
      go Stays q = q.0
      go Continues q = absurd q
      go (Commits v) q = of-both (λ (r : StateAnswer). Sent r.reply) held q.0 (tt, tt)

  module _ (choose : ProposerChoice) (h : Heard) (d : Delivery) where
    process_sends : Sent (process_message choose state a h d).reply
    unfolding process_message
    process_sends = finish_sends d.said.value_held (processed choose a h d.message.msg state.rounds) (processed_ends a choose h d.message.msg state.rounds)

    handle_sends : (m : ConsensusMsg) → Sent (handle choose state a h d m).reply
    unfolding committed on_read_response
    handle_sends =
        handle_holds choose state a h d (λ (r : StateAnswer). Sent r.reply) process_sends (tt, tt) (tt, tt) (λ v. (tt, tt))
        (λ id t. (record { source = refl; to_others = neqb→ne d.message.src a.member.my_pid t; commit_to_all = tt }, tt)) (λ id. (tt, tt))

module _ (choose : ProposerChoice) (shard : Shard) where
  abbrev number : ℕ
  number = shard.settings.my_pid

  abbrev asked : Asked
  asked = asked_of shard.settings

  call_sends : (c : Call) → CallSends number (call_with choose shard c).reply
  call_sends =
      call_holds choose shard (λ c r. CallSends number r.reply) (λ c why. (tt, tt)) (λ v. finish_sends shard.state asked true (proposing asked v shard.state.rounds) (proposing_ends asked v shard.state.rounds))
      (λ tag arrival ins e. (record { source = refl; to_others = tt; commit_to_all = tt }, tt))
      (λ d. handle_sends shard.state asked choose (heard_of shard.settings d) d d.message.msg)

  -- ---- what is claimed

  -- No call sends more than two messages.
  pub two_messages_at_most : (c : Call) → length (messages_of (call_with choose shard c).reply.messages) ≤ 2
  two_messages_at_most c = go ms.first ms.second ms.third (call_sends c)
    where
      ms : SentMessages
      ms = (call_with choose shard c).reply.messages

      go : (x y z : Option Outgoing) → UpToTwo (FromOwn number) x y z → length (listed x (listed y (listed z []))) ≤ 2
      go None None None u = omega arith
      go None (Some o) None u = omega arith
      go (Some o) None None u = omega arith
      go (Some o) (Some p) None u = omega arith
      go x y (Some o) u = absurd u

  -- Each is from the own number, and goes to others; a Commit goes to all.
  pub sent_from_own : (c : Call) (o : Outgoing) → In o (messages_of (call_with choose shard c).reply.messages) → FromOwn number o
  sent_from_own c o h = each_in (FromOwn number) (call_with choose shard c).reply.messages o (call_sends c) h

  -- None is sent to its sender, as the claim has it.
  pub none_to_its_sender : (c : Call) (o : Outgoing) → In o (messages_of (call_with choose shard c).reply.messages) → SentTo number o.destination number o.message.msg → ⊥
  none_to_its_sender c o h = not_sent number o.destination (sent_from_own c o h).to_others o.message.msg

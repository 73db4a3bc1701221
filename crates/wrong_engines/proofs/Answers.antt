-- Wrong engines and a single call, computed, by which a law is false of them: demand 1, the paper, or one of what is sent or left.
-- Assumes nothing.
use Rattle.std.specs.Prelude.{Option as Optional, None, Some, Ok, Err}
use Rattle.std.proofs.Math.Option.{Option, none, some}
use mathlib.Core.Path.{◌≡◌, refl, sym, ap, ◌∙◌}
use mathlib.Core.Bool.{true, false, not}
use mathlib.Core.List.{List, [], ◌∷◌}
use mathlib.Core.Logic.{inl, inr}
use Prim.Native.Nat.{ℕ, ◌≤◌}
use native.Mathlib.Omega.{arith}
use lib.Count.{count_trailing_zeros}
use lib.Dec.{T, eqb}
use lib.ListN.{length, replicate}
use Rattle.basics.proofs.Tests.{not_both}
use Rattle.message.specs.Outcomes.{Outcome}
use Rattle.message.specs.Rounds.{round_of}
use Rattle.message.specs.declared.ConsensusMsg.{ConsensusMsg}
use Rattle.message.specs.declared.ConsensusMsg.TheVariants.{Prepare, Accept, ForwardRequest, Commit, ReadRequest, ReadResponse}
use Rattle.message.specs.declared.PFMode.{PFMode}
use Rattle.message.specs.declared.PFMode.TheVariants.{Paxos, MultiPaxos}
use Rattle.message.specs.declared.Refusal.{Refusal}
use Rattle.message.specs.declared.Refusal.TheVariants.{NoSuchProcess}
use Rattle.message.specs.declared.RoundV.{RoundV}
use Rattle.message.specs.declared.RoundV.TheVariants.{FastV, PaxosV}
use Rattle.settings.specs.declared.Settings.{Settings}
use Rattle.fast_state.specs.Adopt.{lowest_best}
use Rattle.steps.specs.declared.SentMessages.{SentMessages}
use Rattle.steps.specs.declared.Outgoing.{Outgoing}
use Rattle.calls.specs.declared.Call.{Call}
use Rattle.calls.specs.declared.Call.TheVariants.{Propose, StartRead, Receive}
use Rattle.calls.specs.declared.delivery.Delivery.{Delivery}
use Rattle.consensus.specs.Call.{call_of}
use Rattle.consensus.specs.FirstCause.{ByFirstCause}
use Rattle.consensus.specs.declared.Answer.{Answer}
use Rattle.consensus.specs.declared.Shard.{Shard}
use Rattle.consensus.proofs.Refusals.{taken_where_none, refused_where_first}
use Rattle.agreement.proofs.Tests.{neqb→ne}
use Rattle.paper.specs.PaperCall.{Seen, seen, InPaxos}
use Rattle.paper.specs.Replica.{Replica}
use Rattle.paper.specs.Runs.{ClassicMode}
use Rattle.group.specs.Claim.{begun, plus_commit, messages_of}
use Rattle.group.specs.Steps.{is_done}
use Rattle.group.proofs.Computed.{computed}
use Rattle.group.proofs.Example.{three, hears_message}
use Rattle.wrong_engines.specs.Laws.{AnyEngine, ReachedBy, shard_after_calls_by, RefusesByFirstCause, KeepsSettings, IsAsPaper, OtherCallsLeave, SendsTwoAtMost, SendsFromOwn, SendsNoneToItself}
use Rattle.wrong_engines.specs.Laws.ReachedBy.{new, called}
use Rattle.wrong_engines.specs.declared.FixedContents.{FixedContents}
use Rattle.calls.specs.Decision.{is_proposal}
use Rattle.wrong_engines.specs.Engines.{is_new_read, is_message, does_nothing, sends_fixed, sends_fixed_contents, hears_nothing, multi_paxos_never_proposes, answers_no_message, idles_after_slot_zero, refuses_each, commits_on_first_accept, prepared_figure_without_set, accepted_figure_without_set, sends_thrice, sends_as_zero, sends_to_itself, sends_first_to_itself, loses_replicas, forgets_held_with_read, takes_every_process}
use Rattle.wrong_engines.proofs.Right.{right_has_all}

-- so many members in Paxos, and the live ones
abbrev pub paxos_group : ℕ → ℕ → Settings
paxos_group n live =
    record {
      process_count = n;
      replica_count = n;
      my_pid = 0;
      alive_replicas = live;
      first_leader = 0;
      mode = Paxos;
      quorum = None;
      committers = None;
      delegates = replicate 64 0;
    }

abbrev pub five : Settings
five = paxos_group 5 31

-- ---- calls on a new member of a group of three

abbrev member : PFMode → ℕ → Shard
member mode i = begun (three mode) i

-- 0 asks for a promise
abbrev asked : Call
asked = (hears_message 1 0 None (Prepare 0 (round_of 0 0) (PaxosV None 10))).call

-- 0 tells that 10 is committed in slot 0
abbrev pub told : Call
told = (hears_message 1 0 None (Commit 0 10)).call

-- process 64, which there is not, tells it
abbrev pub told_by_64 : Delivery
told_by_64 =
    record {
      message = record { msg = Commit 0 10; src = 64; last_v = None };
      said = record { value_held = true; requester = None; fast = false };
      held_requester = None;
    }

-- ---- demand 1

pub refused_not_done : (o : Outcome) (why : Refusal) → o ≡ Ok tt → o ≡ Err why → ⊥
refused_not_done o why d r = not_both (ap is_done d) (ap is_done r)

-- an engine that refuses what the right one takes
takes_nothing : (engine : AnyEngine) (shard : Shard) (c : Call) (why : Refusal) → (call_of shard c).reply.outcome ≡ Ok tt
    → (engine shard c).reply.outcome ≡ Err why → RefusesByFirstCause engine → ⊥
takes_nothing engine shard c why taken refuses law = go (law shard c)
  where
    go : ByFirstCause lowest_best shard c (engine shard c) → ⊥
    go (inl (done, _)) = refused_not_done (engine shard c).reply.outcome why done refuses
    go (inr (w, e, first)) =
        refused_not_done (call_of shard c).reply.outcome w taken
        (ap (λ (r : Answer). r.reply.outcome) (refused_where_first lowest_best shard c w first))

-- one that takes what the right one refuses
takes_refused : (engine : AnyEngine) (shard : Shard) (c : Call) (why : Refusal) → (call_of shard c).reply.outcome ≡ Err why
    → (engine shard c).reply.outcome ≡ Ok tt → RefusesByFirstCause engine → ⊥
takes_refused engine shard c why refuses taken law = go (law shard c)
  where
    go : ByFirstCause lowest_best shard c (engine shard c) → ⊥
    go (inl (_, no_cause)) = refused_not_done (call_of shard c).reply.outcome why (taken_where_none lowest_best shard c no_cause) refuses
    go (inr (w, e, first)) = refused_not_done (engine shard c).reply.outcome w taken (ap (λ (r : Answer). r.reply.outcome) e)

pub each_frame_refused : (why : Refusal) → RefusesByFirstCause (refuses_each is_message why) → ⊥
unfolding refuses_each computed
each_frame_refused why = takes_nothing (refuses_each is_message why) (member Paxos 1) told why refl refl

pub each_read_refused : (why : Refusal) → RefusesByFirstCause (refuses_each is_new_read why) → ⊥
unfolding refuses_each computed
each_read_refused why = takes_nothing (refuses_each is_new_read why) (member Paxos 1) (StartRead 7 0) why refl refl

-- MultiPaxos, the leader's
pub each_proposal_refused : (why : Refusal) → RefusesByFirstCause (refuses_each is_proposal why) → ⊥
unfolding refuses_each computed
each_proposal_refused why = takes_nothing (refuses_each is_proposal why) (member MultiPaxos 0) (Propose 10) why refl refl

pub every_process_taken : RefusesByFirstCause takes_every_process → ⊥
unfolding takes_every_process computed
every_process_taken = takes_refused takes_every_process (member Paxos 1) (Receive told_by_64) NoSuchProcess refl refl

-- ---- demand 2: the paper

-- an engine of whose call something else is seen than of the right one's
unlike_paper : (engine : AnyEngine) (shard : Shard) → ReachedBy engine shard → ReachedBy call_of shard → ClassicMode shard.settings.mode
    → (c : Call) → InPaxos c → (f : Seen → ℕ)
    → T (not (eqb (f (seen (engine shard c))) (f (seen (call_of shard c))))) → IsAsPaper engine → ⊥
unlike_paper engine shard by_engine by_ours mode c of_paper f other law =
    neqb→ne (f (seen (engine shard c))) (f (seen (call_of shard c))) other
    (ap f (law shard by_engine mode c of_paper ∙ sym (right_has_all.paper shard by_ours mode c of_paper)))

-- how many messages are seen
abbrev message_count : Seen → ℕ
message_count s = length (messages_of s.messages)

pub nothing_done : IsAsPaper does_nothing → ⊥
unfolding does_nothing computed
nothing_done = unlike_paper does_nothing (member Paxos 0) (new _ refl) (new _ refl) tt (Propose 10) tt message_count tt

pub nothing_heard_lem : IsAsPaper hears_nothing → ⊥
unfolding hears_nothing computed
nothing_heard_lem = unlike_paper hears_nothing (member Paxos 1) (new _ refl) (new _ refl) tt asked tt message_count tt

pub multi_paxos_unproposed : IsAsPaper multi_paxos_never_proposes → ⊥
unfolding multi_paxos_never_proposes computed
multi_paxos_unproposed = unlike_paper multi_paxos_never_proposes (member MultiPaxos 0) (new _ refl) (new _ refl) tt (Propose 10) tt message_count tt

pub frames_refused_unlike_paper : (why : Refusal) → IsAsPaper (refuses_each is_message why) → ⊥
unfolding refuses_each computed
frames_refused_unlike_paper why = unlike_paper (refuses_each is_message why) (member Paxos 1) (new _ refl) (new _ refl) tt asked tt message_count tt

pub no_message_answered : IsAsPaper answers_no_message → ⊥
unfolding answers_no_message computed
no_message_answered = unlike_paper answers_no_message (member Paxos 1) (new _ refl) (new _ refl) tt asked tt message_count tt

-- in slot 1, where a Commit has brought it
pub idle_after_slot_zero : IsAsPaper idles_after_slot_zero → ⊥
unfolding idles_after_slot_zero computed
idle_after_slot_zero =
    unlike_paper idles_after_slot_zero (call_of (member Paxos 1) told).shard (called (member Paxos 1) told (new _ refl))
    (called (member Paxos 1) told (new _ refl)) tt (Propose 20) tt message_count tt

-- the value of a Prepare that is seen, and 0 of anything else
abbrev promised_value : RoundV → ℕ
promised_value (FastV p v) = v
promised_value (PaxosV at v) = v

abbrev prepared_value : ConsensusMsg → ℕ
prepared_value (Prepare slot round rv) = promised_value rv
prepared_value (Accept slot round v) = 0
prepared_value (ForwardRequest v) = 0
prepared_value (Commit slot v) = 0
prepared_value (ReadRequest id) = 0
prepared_value (ReadResponse id next) = 0

abbrev first_value : Optional Outgoing → ℕ
first_value None = 0
first_value (Some o) = prepared_value o.message.msg

-- what an engine sends first on a proposal, if it is as the paper has it
value_sent : (engine : AnyEngine) → IsAsPaper engine → (v : ℕ)
    → first_value (engine (member Paxos 0) (Propose v)).reply.messages.first ≡ first_value (call_of (member Paxos 0) (Propose v)).reply.messages.first
unfolding computed
value_sent engine law v =
    ap (λ (s : Seen). first_value s.messages.first)
    (law (member Paxos 0) (new _ refl) tt (Propose v) tt ∙ sym (right_has_all.paper (member Paxos 0) (new _ refl) tt (Propose v) tt))

-- whatever is fixed, it cannot be right for two values
pub always_the_same_sent : (fixed : SentMessages) → IsAsPaper (sends_fixed fixed) → ⊥
unfolding sends_fixed computed
always_the_same_sent fixed law = neqb→ne 10 20 tt (sym (value_sent (sends_fixed fixed) law 10) ∙ value_sent (sends_fixed fixed) law 20)

pub always_the_same_of_each_kind : (fixed : FixedContents) → IsAsPaper (sends_fixed_contents fixed) → ⊥
unfolding sends_fixed_contents computed
always_the_same_of_each_kind fixed law =
    neqb→ne 10 20 tt (sym (value_sent (sends_fixed_contents fixed) law 10) ∙ value_sent (sends_fixed_contents fixed) law 20)

-- ---- demand 2: figures and accepts, at member 0 of five that has proposed 10

abbrev leader : Shard
leader = begun five 0

-- promises and accepts of the proposal
abbrev promise_of : ℕ → Call
promise_of p = (hears_message 0 p None (Prepare 0 (round_of 0 0) (PaxosV None 10))).call

abbrev accept_of : ℕ → Call
accept_of p = (hears_message 0 p None (Accept 0 (round_of 0 0) 10)).call

-- a shard after calls is reached
reached : (engine : AnyEngine) (shard : Shard) → ReachedBy engine shard → (cs : List Call) → ReachedBy engine (shard_after_calls_by engine shard cs)
unfolding shard_after_calls_by
reached engine shard r [] = r
reached engine shard r (c ∷ cs) = reached engine (engine shard c).shard (called shard c r) cs

abbrev commit_count : Seen → ℕ
commit_count s = plus_commit s.commit 0

-- the promise of 1 comes twice, and the Accept is sent
pub prepared_figure_unlike_paper : IsAsPaper prepared_figure_without_set → ⊥
unfolding prepared_figure_without_set count_trailing_zeros shard_after_calls_by computed
prepared_figure_unlike_paper =
    unlike_paper prepared_figure_without_set (shard_after_calls_by call_of leader (Propose 10 ∷ promise_of 1 ∷ []))
    (reached prepared_figure_without_set leader (new _ refl) (Propose 10 ∷ promise_of 1 ∷ []))
    (reached call_of leader (new _ refl) (Propose 10 ∷ promise_of 1 ∷ [])) tt (promise_of 1) tt message_count tt

-- the accept of 1 comes twice, and 10 is committed
pub accepted_figure_unlike_paper : IsAsPaper accepted_figure_without_set → ⊥
unfolding accepted_figure_without_set count_trailing_zeros shard_after_calls_by computed
accepted_figure_unlike_paper =
    unlike_paper accepted_figure_without_set (shard_after_calls_by call_of leader (Propose 10 ∷ promise_of 1 ∷ promise_of 2 ∷ accept_of 1 ∷ []))
    (reached accepted_figure_without_set leader (new _ refl) (Propose 10 ∷ promise_of 1 ∷ promise_of 2 ∷ accept_of 1 ∷ []))
    (reached call_of leader (new _ refl) (Propose 10 ∷ promise_of 1 ∷ promise_of 2 ∷ accept_of 1 ∷ [])) tt (accept_of 1) tt commit_count tt

-- it comes once
pub first_accept_unlike_paper : IsAsPaper commits_on_first_accept → ⊥
unfolding commits_on_first_accept shard_after_calls_by computed
first_accept_unlike_paper =
    unlike_paper commits_on_first_accept (shard_after_calls_by call_of leader (Propose 10 ∷ promise_of 1 ∷ promise_of 2 ∷ []))
    (reached commits_on_first_accept leader (new _ refl) (Propose 10 ∷ promise_of 1 ∷ promise_of 2 ∷ []))
    (reached call_of leader (new _ refl) (Propose 10 ∷ promise_of 1 ∷ promise_of 2 ∷ [])) tt (accept_of 1) tt commit_count tt

-- ---- what is sent

pub three_sent : SendsTwoAtMost sends_thrice → ⊥
unfolding sends_thrice computed
three_sent law = let most : 3 ≤ 2 = law (member Paxos 0) (Propose 10) in omega arith

pub sent_as_zero : SendsFromOwn sends_as_zero → ⊥
unfolding sends_as_zero computed
sent_as_zero law = neqb→ne 0 1 tt (law (member Paxos 1) (Propose 10) _ (inl refl)).source

pub sent_to_itself : SendsNoneToItself sends_to_itself → ⊥
unfolding sends_to_itself computed
sent_to_itself law = law (member Paxos 0) (Propose 10) _ (inl refl) refl

pub first_sent_to_itself : SendsFromOwn sends_first_to_itself → ⊥
unfolding sends_first_to_itself computed
first_sent_to_itself law = let another : ◌≡◌ {A = ℕ} 0 0 → ⊥ = (law (member Paxos 0) (Propose 10) _ (inl refl)).to_others in another refl

-- ---- what a call leaves

-- on hearing of a commit
pub replicas_lost : KeepsSettings loses_replicas → ⊥
unfolding loses_replicas computed
replicas_lost law = neqb→ne 1 3 tt (ap (λ (s : Settings). s.replica_count) (law (member Paxos 1) told))

-- a member proposes, and a read that its host opens makes it forget its proposal
pub held_forgotten_with_read : OtherCallsLeave forgets_held_with_read → ⊥
unfolding forgets_held_with_read computed
held_forgotten_with_read law = neqb→ne 0 1 tt (ap wishes (law (call_of (member Paxos 0) (Propose 10)).shard (StartRead 7 0) (λ x. x)).2)
  where
    wished : Option RoundV → ℕ
    wished none = 0
    wished (some rv) = 1

    wishes : Replica → ℕ
    wishes r = wished r.wish

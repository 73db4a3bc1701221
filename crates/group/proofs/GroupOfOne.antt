-- In a group of one no legal list of calls commits, in any mode: proposals and new reads send to all others and commit nothing, and so no
-- message comes back.
-- Assumes nothing.
use Rattle.std.specs.Prelude.{Option, None}
use Rattle.message.specs.declared.RoundV.{RoundV}
use mathlib.Core.Path.{◌≡◌, refl, sym, subst, ◌∙◌}
use mathlib.Core.Logic.{inl, inr}
use mathlib.Core.Bool.{true}
use mathlib.Core.List.{List, [], ◌∷◌}
use Prim.Native.Nat.{ℕ, ◌<◌}
use native.Mathlib.Omega.{arith}
use Rattle.message.specs.declared.ConsensusMsg.{ConsensusMsg}
use Rattle.message.specs.declared.ConsensusMsg.TheVariants.{Prepare, Accept, ForwardRequest, Commit, ReadRequest, ReadResponse}
use Rattle.message.specs.declared.ConsensusMessage.{ConsensusMessage}
use Rattle.settings.specs.declared.Settings.{Settings}
use Rattle.fast_state.specs.Adopt.{lowest_best}
use Rattle.steps.specs.declared.Asked.{Asked}
use Rattle.steps.specs.declared.Destination.{Destination}
use Rattle.steps.specs.declared.Destination.TheVariants.{One, All}
use Rattle.steps.specs.declared.SentMessages.{SentMessages}
use Rattle.steps.specs.declared.Next.{Next}
use Rattle.steps.specs.declared.Next.TheVariants.{Stays, Continues, Commits}
use Rattle.steps.specs.declared.Outgoing.{Outgoing}
use Rattle.steps.specs.declared.Rounds.{Rounds}
use Rattle.consensus.specs.Answers.{finish_at, finish}
use Rattle.consensus.specs.Call.{call_of}
use Rattle.consensus.specs.Handle.{proposing}
use Rattle.calls.specs.Asked.{asked_of}
use Rattle.calls.specs.declared.Call.{Call}
use Rattle.calls.specs.declared.Reply.{Reply}
use Rattle.consensus.specs.declared.Shard.{Shard}
use Rattle.consensus.specs.declared.State.{State}
use Rattle.basics.specs.Lists.{In}
use Rattle.group.specs.Claim.{begun, ours, MemberCall, Entry, entry_of, after_call, entries_from, entries, Reaches, SentTo, WasSent, MayStand, LegalFrom, Legal, LegalMade, entries_made}
use Rattle.group.proofs.Sending.{ToAll}
use Rattle.group.proofs.Handlers.{Any, any_holds, TwoAtMost, each_in, EndsUncommitted, Keeps, proposing_holds, call_holds, finish_holds}

-- ---- proposals and new reads, on any shard

abbrev pub MessageToAll : Outgoing → Type 0
MessageToAll o = ToAll o.destination

-- a call that sends to all others and commits nothing
abbrev pub CallToAll : Reply → Type 0
CallToAll reply = TwoAtMost MessageToAll reply.messages × (reply.commit ≡ None)

-- no message comes, and so nothing is asked of one
keeps : (a : Asked) → Keeps a Any Any Any (λ round. ⊥) (λ round v. ⊥) Any MessageToAll
keeps a =
    record {
      own_source = tt;
      own_fast = λ v. tt;
      enters = λ round core e k. tt;
      promises = λ src rv core s p k. tt;
      accepts = λ src round v core s e k. tt;
      adopts = λ v core fresh k. tt;
      leaves = λ core k. tt;
      prepare_to = λ round core p w other. absurd w;
      accept_to_all = λ round core w. tt;
      accept_to_lem = λ round v core p w k e other. absurd w;
      commit_to_all = λ core requester. tt;
      propose_prepare_lem = λ round rv core. tt;
      propose_accept_lem = λ v core t p k. tt;
    }

pub propose_to_all : (state : State) (a : Asked) (v : ℕ) → CallToAll (finish state a true (proposing a v state.rounds)).reply
propose_to_all state a v =
    finish_holds (λ r. CallToAll r.reply) state a true (proposing a v state.rounds) (λ why. ((tt, tt), refl))
    (proposing_holds (keeps a) (λ step. CallToAll (finish_at state a true step.state step.messages step.next).reply) (λ core t. tt) v tt state.rounds Any tt (any_holds _)
    (λ step t q. go _ step.messages _ step.next q.0.1) (λ step t q. go _ step.messages _ step.next q.1) tt)
  where
    go : (s : Rounds) (ms : SentMessages) (held : Option RoundV) (n : Next) → EndsUncommitted MessageToAll ms held n → CallToAll (finish_at state a true s ms n).reply
    go s ms held Stays q = (q.0, refl)
    go s ms held Continues q = absurd q
    go s ms held (Commits v) q = absurd q

-- ---- a run of a group of one

-- every entry is of member 0, sends to all others and commits nothing
abbrev RunToAll : List Entry → Type 0
RunToAll [] = Unit {0}
RunToAll (e ∷ past) = (e.member ≡ 0) × CallToAll e.reply × RunToAll past

entry_to_all : (past : List Entry) → RunToAll past → (e : Entry) → In e past → (e.member ≡ 0) × CallToAll e.reply
entry_to_all [] q e h = absurd h
entry_to_all (x ∷ past) q e (inl d) = subst (λ (y : Entry). (y.member ≡ 0) × CallToAll y.reply) (sym d) (q.0, q.1)
entry_to_all (x ∷ past) q e (inr h) = entry_to_all past q.2 e h

-- so no message was sent to member 0
nothing_sent : (past : List Entry) → RunToAll past → (m : ConsensusMessage) (member : ℕ) → member ≡ 0 → WasSent past m member → ⊥
nothing_sent past q m member z w =
    by_kind m.msg w.6
  where
    known : (w.0.member ≡ 0) × CallToAll w.0.reply
    known = entry_to_all past q w.0 w.2

    own : m.src ≡ member
    own = sym w.3 ∙ known.0 ∙ sym z

    by_destination : (d : Destination) → ToAll d → Reaches m.src d member → ⊥
    by_destination (One p) t h = t
    by_destination (All first) t h = h own

    to_all_lem : ToAll w.1.destination
    to_all_lem = each_in MessageToAll w.0.reply.messages w.1 known.1.0 w.4

    by_kind : (msg : ConsensusMsg) → SentTo m.src w.1.destination member msg → ⊥
    by_kind (Prepare slot round rv) h = by_destination w.1.destination to_all_lem h
    by_kind (Accept slot round v) h = by_destination w.1.destination to_all_lem h
    by_kind (ForwardRequest v) h = by_destination w.1.destination to_all_lem h
    by_kind (Commit slot v) h = h own
    by_kind (ReadRequest id) h = by_destination w.1.destination to_all_lem h
    by_kind (ReadResponse id next) h = by_destination w.1.destination to_all_lem h

call_to_all : (past : List Entry) → RunToAll past → (shard : Shard) (member : ℕ) → member ≡ 0 → (c : Call) → MayStand past member c → CallToAll (call_of shard c).reply
call_to_all past q shard member z =
    call_holds lowest_best shard (λ c r. MayStand past member c → CallToAll r.reply) (λ c why m. ((tt, tt), refl)) (λ v m. propose_to_all shard.state (asked_of shard.settings) v) (λ tag arrival ins e m. ((tt, tt), refl))
    (λ d m. absurd (nothing_sent past q d.message member z m))

run_to_all : (shards : ℕ → Shard) (past : List Entry) → RunToAll past → (cs : List MemberCall) → LegalFrom 1 ours shards past cs → RunToAll (entries_from ours shards past cs)
unfolding LegalMade entries_made
run_to_all shards past q [] l = q
run_to_all shards past q (c ∷ cs) l =
    let only : c.member < 1 = l.0 in let z : c.member ≡ 0 = omega arith in
    run_to_all (after_call lowest_best shards c) (entry_of lowest_best shards c ∷ past) (z, call_to_all past q (shards c.member) c.member z c.call l.1, q) cs l.2

-- In a group of one no legal list of calls commits.
pub group_of_one : (s : Settings) → s.process_count ≡ 1 → (cs : List MemberCall) → Legal s cs → (e : Entry) → In e (entries s cs) → e.reply.commit ≡ None
group_of_one s alone cs legal e h =
    (entry_to_all (entries s cs) (run_to_all (begun s) [] tt cs (subst (λ (n : ℕ). LegalFrom n ours (begun s) [] cs) alone legal)) e h).1.1

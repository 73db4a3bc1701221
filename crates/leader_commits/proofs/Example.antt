-- Runs of three and of five members in MultiPaxos mode, computed: they are legal, and the leader commits on exactly the answer that the theorem says, not
-- on a repeated one. So the theorem is about something.
-- Assumes nothing.
use Rattle.std.specs.Prelude.{None, Some}
use mathlib.Core.Path.{◌≡◌, refl, sym, subst}
use mathlib.Core.Bool.{false}
use mathlib.Core.List.{List, [], ◌∷◌}
use mathlib.Core.Logic.{inl, inr}
use native.Mathlib.Omega.{arith}
use lib.Dec.{lit<}
use lib.ListN.{replicate}
use Rattle.basics.specs.sets.Sets.{contains}
use Rattle.message.specs.Rounds.{round_of}
use Rattle.message.specs.declared.ConsensusMsg.TheVariants.{Accept, Commit}
use Rattle.message.specs.declared.PFMode.TheVariants.{MultiPaxos}
use Rattle.settings.specs.declared.Settings.{Settings}
use Rattle.consensus.specs.FirstCause.{any_from, appended}
use Rattle.agreement.proofs.Tests.{neqb→ne}
use Rattle.group.specs.Claim.{MemberCall, entries, Legal, At}
use Rattle.group.specs.Steps.{RunStep, delivered, steps_from, run_steps}
use Rattle.group.proofs.Computed.{computed}
use Rattle.group.proofs.Example.{three, proposal_call, hears_message, commits_of_entries, none, member_commit, first}
use Rattle.leader_commits.specs.Answers.{Terms, sources, answers_came, CommitsValue, HostHolds, SoundRequesters, SoundAnswers}
use Rattle.leader_commits.proofs.LeaderCommits.{on_the_very_answer}

-- five members, all live
abbrev five : Settings
five =
    record {
      process_count = 5;
      replica_count = 5;
      my_pid = 0;
      alive_replicas = 31;
      first_leader = 0;
      mode = MultiPaxos;
      quorum = None;
      committers = None;
      delegates = replicate 64 0;
    }

-- three: the leader proposes 10 in slot 0, and commits it on the answer of 1; the answer of 2 comes late. In slot 1 it proposes 20, and commits it on the
-- answer of 2.
abbrev calls_of_three : List MemberCall
calls_of_three =
    proposal_call 0 10
    ∷ hears_message 1 0 None (Accept 0 (round_of 0 0) 10)
    ∷ hears_message 2 0 None (Accept 0 (round_of 0 0) 10)
    ∷ hears_message 0 1 None (Accept 0 (round_of 0 0) 10)
    ∷ hears_message 0 2 None (Accept 0 (round_of 0 0) 10)
    ∷ hears_message 2 0 None (Commit 0 10)
    ∷ proposal_call 0 20
    ∷ hears_message 2 0 (Some 10) (Accept 1 (round_of 0 0) 20)
    ∷ hears_message 0 2 (Some 10) (Accept 1 (round_of 0 0) 20)
    ∷ []

pub three_commits : commits_of_entries (entries (three MultiPaxos) calls_of_three)
    ≡ (member_commit 0 1 20 false ∷ none 2 ∷ none 0 ∷ member_commit 2 0 10 false ∷ none 0 ∷ member_commit 0 0 10 false ∷ none 2 ∷ none 1 ∷ none 0 ∷ [])
unfolding computed
three_commits = refl

pub three_legal : Legal (three MultiPaxos) calls_of_three
unfolding computed
three_legal =
    first (lit< tt) tt
    (first (lit< tt) (_, _, inl refl, refl, inl refl, refl, neqb→ne 0 1 tt)
    (first (lit< tt) (_, _, inr (inl refl), refl, inl refl, refl, neqb→ne 0 2 tt)
    (first (lit< tt) (_, _, inr (inl refl), refl, inl refl, refl, refl)
    (first (lit< tt) (_, _, inr (inl refl), refl, inl refl, refl, refl)
    (first (lit< tt) (_, _, inr (inl refl), refl, inl refl, refl, neqb→ne 0 2 tt)
    (first (lit< tt) tt
    (first (lit< tt) (_, _, inl refl, refl, inl refl, refl, neqb→ne 0 2 tt)
    (first (lit< tt) (_, _, inl refl, refl, inl refl, refl, refl) tt))))))))

-- five: the leader proposes 10, and commits it on the answer of 2, the second member that it hears; the answer of 1 comes twice
abbrev calls_of_five : List MemberCall
calls_of_five =
    proposal_call 0 10
    ∷ hears_message 1 0 None (Accept 0 (round_of 0 0) 10)
    ∷ hears_message 2 0 None (Accept 0 (round_of 0 0) 10)
    ∷ hears_message 0 1 None (Accept 0 (round_of 0 0) 10)
    ∷ hears_message 0 1 None (Accept 0 (round_of 0 0) 10)
    ∷ hears_message 0 2 None (Accept 0 (round_of 0 0) 10)
    ∷ []

pub five_commits : commits_of_entries (entries five calls_of_five) ≡ (member_commit 0 0 10 false ∷ none 0 ∷ none 0 ∷ none 2 ∷ none 1 ∷ none 0 ∷ [])
unfolding computed
five_commits = refl

pub five_legal : Legal five calls_of_five
unfolding computed
five_legal =
    first (lit< tt) tt
    (first (lit< tt) (_, _, inl refl, refl, inl refl, refl, neqb→ne 0 1 tt)
    (first (lit< tt) (_, _, inr (inl refl), refl, inl refl, refl, neqb→ne 0 2 tt)
    (first (lit< tt) (_, _, inr (inl refl), refl, inl refl, refl, refl)
    (first (lit< tt) (_, _, inr (inr (inl refl)), refl, inl refl, refl, refl)
    (first (lit< tt) (_, _, inr (inr (inl refl)), refl, inl refl, refl, refl) tt)))))

five_terms : Terms five
unfolding contains
five_terms = record { multi_paxos = refl; no_committer = refl; at_least_two = omega arith; live_leader = refl }

abbrev Sound : RunStep → Type 0
Sound x = HostHolds (delivered x) × SoundRequesters five (delivered x)

-- what the host adds to its answers is sound
five_sound : SoundAnswers five 0 (run_steps five calls_of_five)
unfolding steps_from any_from appended
five_sound x (inl e) came = subst Sound (sym e) (refl, refl)
five_sound x (inr (inl e)) came = subst Sound (sym e) (refl, refl)
five_sound x (inr (inr (inl e))) came = subst Sound (sym e) (refl, refl)
five_sound x (inr (inr (inr (inl e)))) came = subst Sound (sym e) (refl, refl)
five_sound x (inr (inr (inr (inr (inl e))))) came = subst Sound (sym e) (refl, refl)
five_sound x (inr (inr (inr (inr (inr (inl e)))))) came = subst Sound (sym e) (tt, tt)
five_sound x (inr (inr (inr (inr (inr (inr k)))))) came = absurd k

-- the last step: before it one answer has come, with it two, which is majority less one; so the theorem says that the leader commits 10
pub five_by_theorem : (x : RunStep) × (past : List RunStep) × At x past (run_steps five calls_of_five) × (answers_came five 0 past ≡ 1) × (answers_came five 0 (x ∷ past) ≡ 2) × CommitsValue x 0 10
unfolding steps_from sources computed
five_by_theorem = (
  _,
  _,
  inl (refl, refl),
  refl,
  refl,
  (on_the_very_answer five five_terms calls_of_five five_legal 0 10 _ _
      (record { stands = inl (refl, refl); leader = refl; proposed = (_, _, inr (inr (inr (inr (inl (refl, refl))))), refl, refl, refl, refl); in_slot = refl })
      five_sound
      ).exactly.1 refl,
)

-- Wrong engines and a run, computed, by which a law is false of them: demand 3, that of a group of one, or one of every list of calls.
-- Assumes nothing.
use Rattle.std.specs.Prelude.{Option, None, is_some}
use Rattle.calls.specs.declared.CommittedSlot.{CommittedSlot}
use mathlib.Core.Path.{◌≡◌, refl, ap}
use mathlib.Core.Bool.{true, false, cond}
use mathlib.Core.List.{List, [], ◌∷◌}
use mathlib.Core.Logic.{inl, inr}
use Prim.Native.Nat.{ℕ, ◌≤◌, ◌<◌}
use native.Mathlib.Omega.{arith}
use lib.Count.{count_trailing_zeros}
use lib.Dec.{lit<}
use Rattle.basics.proofs.Tests.{not_both}
use Rattle.message.specs.Rounds.{round_of}
use Rattle.message.specs.declared.ConsensusMsg.TheVariants.{Prepare, Accept, ForwardRequest, Commit}
use Rattle.message.specs.declared.PFMode.TheVariants.{Paxos, SwiftPaxos}
use Rattle.message.specs.declared.Refusal.TheVariants.{SettingsOutsideLimits}
use Rattle.message.specs.declared.RoundV.TheVariants.{FastV, PaxosV}
use Rattle.settings.specs.declared.Settings.{Settings}
use Rattle.round_state.specs.declared.PaxosState.{PaxosState}
use Rattle.fast_state.specs.declared.FastState.{FastState}
use Rattle.consensus.specs.Call.{call_of}
use Rattle.agreement.proofs.Tests.{neqb→ne}
use Rattle.group.specs.Claim.{begun, MemberCall, plus_commit, CommitAt, NotSwift}
use Rattle.group.proofs.Computed.{computed}
use Rattle.group.proofs.Example.{three, proposal_call, hears_message, MemberCommit, commits_of_entries, none, first}
use Rattle.group.proofs.RunReads.{opens}
use Rattle.wrong_engines.specs.Laws.{AnyEngine, entries_by, shard_after_calls_by, LegalBy, MarkedOnce, InAgreement, CommitsNothingAlone, SlotCountsCommits, CommitsOwnSlot, ClearsWithCommit, CountsProcesses, CountsLiveReplicas, LeavesFastHalfNew, KeepsReadsInOrder, ServesInOrder, CountsPromisesWhileHeld, CountsAcceptsWhileAccepted, LeavesRoom, TakesWithinTables}
use Rattle.wrong_engines.specs.Engines.{commits_on_first_accept, prepared_figure_without_set, accepted_figure_without_set, forgets_held_with_round, commits_at_once, stays_in_slot, keeps_held_after_commit, unmakes, counts_every_process, notes_proposals, keeps_reads_turned, serves_turned, fills_first_read, counts_forwards_as_promises, counts_forwards_as_accepts, takes_every_process, commits_next_slot}
use Rattle.wrong_engines.proofs.Answers.{paxos_group, five, told, told_by_64, refused_not_done}

-- a legal run with two values for slot 0
pub record Disagrees (engine : AnyEngine) (s : Settings) (cs : List MemberCall) : Type 0 where
  pub legal : LegalBy engine s.process_count (begun s) [] cs
  pub commits_10 : CommitAt 0 10 (entries_by engine (begun s) [] cs)
  pub commits_20 : CommitAt 0 20 (entries_by engine (begun s) [] cs)

disagreeing : (engine : AnyEngine) (s : Settings) → NotSwift s.mode → (cs : List MemberCall) → Disagrees engine s cs → InAgreement engine → ⊥
disagreeing engine s mode cs shown law = neqb→ne 10 20 tt (((law s mode cs shown.legal).agree 0 10 0 20 shown.commits_10 shown.commits_20).0 refl).1

abbrev pub alone_settings : Settings
alone_settings = paxos_group 1 1

-- the messages of the two proposals: of 10 in the round of member 0, and of 20 in that of another, in slot 0
abbrev hears_prepare : ℕ → ℕ → ℕ → ℕ → MemberCall
hears_prepare member source leader v = hears_message member source None (Prepare 0 (round_of 0 leader) (PaxosV None v))

abbrev hears_accept : ℕ → ℕ → ℕ → ℕ → MemberCall
hears_accept member source leader v = hears_message member source None (Accept 0 (round_of 0 leader) v)

-- ---- commits on the first accept; an accepted figure without its set

-- Of five members 0 and 1 accept 10, and 3 and 4 accept 20, on promises of three each; the leader hears the other's accept twice. The first is enough for
-- the one engine, and the second for the other. The right engine sends the same messages, and commits nothing
-- (`right_commits_none`).
abbrev accepted_by_two : List MemberCall
accepted_by_two =
    proposal_call 0 10
    ∷ hears_prepare 1 0 0 10
    ∷ hears_prepare 2 0 0 10
    ∷ hears_prepare 0 1 0 10
    ∷ hears_prepare 0 2 0 10
    ∷ hears_accept 1 0 0 10
    ∷ hears_accept 0 1 0 10
    ∷ hears_accept 0 1 0 10
    ∷ proposal_call 4 20
    ∷ hears_prepare 3 4 4 20
    ∷ hears_prepare 2 4 4 20
    ∷ hears_prepare 4 3 4 20
    ∷ hears_prepare 4 2 4 10
    ∷ hears_accept 3 4 4 20
    ∷ hears_accept 4 3 4 20
    ∷ hears_accept 4 3 4 20
    ∷ []

first_accept_shown : Disagrees commits_on_first_accept five accepted_by_two
unfolding commits_on_first_accept computed
first_accept_shown = record {
  legal =
      first (lit< tt) tt
      (first (lit< tt) (_, _, inl refl, refl, inl refl, refl, neqb→ne 0 1 tt)
      (first (lit< tt) (_, _, inr (inl refl), refl, inl refl, refl, neqb→ne 0 2 tt)
      (first (lit< tt) (_, _, inr (inl refl), refl, inl refl, refl, refl)
      (first (lit< tt) (_, _, inr (inl refl), refl, inl refl, refl, refl)
      (first (lit< tt) (_, _, inl refl, refl, inl refl, refl, neqb→ne 0 1 tt)
      (first (lit< tt) (_, _, inl refl, refl, inl refl, refl, refl)
      (first (lit< tt) (_, _, inr (inl refl), refl, inl refl, refl, refl)
      (first (lit< tt) tt
      (first (lit< tt) (_, _, inl refl, refl, inl refl, refl, neqb→ne 4 3 tt)
      (first (lit< tt) (_, _, inr (inl refl), refl, inl refl, refl, neqb→ne 4 2 tt)
      (first (lit< tt) (_, _, inr (inl refl), refl, inl refl, refl, refl)
      (first (lit< tt) (_, _, inr (inl refl), refl, inl refl, refl, refl)
      (first (lit< tt) (_, _, inl refl, refl, inl refl, refl, neqb→ne 4 3 tt)
      (first (lit< tt) (_, _, inl refl, refl, inl refl, refl, refl)
      (first (lit< tt) (_, _, inr (inl refl), refl, inl refl, refl, refl) tt)))))))))))))));
  commits_10 = record { entry = _; earlier = _; stands = inr (inr (inr (inr (inr (inr (inr (inr (inr (inl (refl, refl)))))))))); fast = false; commit = refl };
  commits_20 = record { entry = _; earlier = _; stands = inr (inl (refl, refl)); fast = false; commit = refl };
}

pub first_accept_disagrees : InAgreement commits_on_first_accept → ⊥
first_accept_disagrees = disagreeing commits_on_first_accept five tt accepted_by_two first_accept_shown

accepted_figure_shown : Disagrees accepted_figure_without_set five accepted_by_two
unfolding accepted_figure_without_set count_trailing_zeros computed
accepted_figure_shown = record {
  legal =
      first (lit< tt) tt
      (first (lit< tt) (_, _, inl refl, refl, inl refl, refl, neqb→ne 0 1 tt)
      (first (lit< tt) (_, _, inr (inl refl), refl, inl refl, refl, neqb→ne 0 2 tt)
      (first (lit< tt) (_, _, inr (inl refl), refl, inl refl, refl, refl)
      (first (lit< tt) (_, _, inr (inl refl), refl, inl refl, refl, refl)
      (first (lit< tt) (_, _, inl refl, refl, inl refl, refl, neqb→ne 0 1 tt)
      (first (lit< tt) (_, _, inl refl, refl, inl refl, refl, refl)
      (first (lit< tt) (_, _, inr (inl refl), refl, inl refl, refl, refl)
      (first (lit< tt) tt
      (first (lit< tt) (_, _, inl refl, refl, inl refl, refl, neqb→ne 4 3 tt)
      (first (lit< tt) (_, _, inr (inl refl), refl, inl refl, refl, neqb→ne 4 2 tt)
      (first (lit< tt) (_, _, inr (inl refl), refl, inl refl, refl, refl)
      (first (lit< tt) (_, _, inr (inl refl), refl, inl refl, refl, refl)
      (first (lit< tt) (_, _, inl refl, refl, inl refl, refl, neqb→ne 4 3 tt)
      (first (lit< tt) (_, _, inl refl, refl, inl refl, refl, refl)
      (first (lit< tt) (_, _, inr (inl refl), refl, inl refl, refl, refl) tt)))))))))))))));
  commits_10 = record { entry = _; earlier = _; stands = inr (inr (inr (inr (inr (inr (inr (inr (inl (refl, refl))))))))); fast = false; commit = refl };
  commits_20 = record { entry = _; earlier = _; stands = inl (refl, refl); fast = false; commit = refl };
}

pub accepted_figure_disagrees : InAgreement accepted_figure_without_set → ⊥
accepted_figure_disagrees = disagreeing accepted_figure_without_set five tt accepted_by_two accepted_figure_shown

-- the right engine on the same list
pub record CommitsNone (s : Settings) (cs : List MemberCall) (none_listed : List MemberCommit) : Type 0 where
  pub legal : LegalBy call_of s.process_count (begun s) [] cs
  pub commits_listed : commits_of_entries (entries_by call_of (begun s) [] cs) ≡ none_listed

pub right_commits_none : CommitsNone five accepted_by_two
    (none 4 ∷ none 4 ∷ none 3 ∷ none 4 ∷ none 4 ∷ none 2 ∷ none 3 ∷ none 4 ∷ none 0 ∷ none 0 ∷ none 1 ∷ none 0 ∷ none 0 ∷ none 2 ∷ none 1 ∷ none 0 ∷ [])
unfolding computed
right_commits_none = record {
  legal =
      first (lit< tt) tt
      (first (lit< tt) (_, _, inl refl, refl, inl refl, refl, neqb→ne 0 1 tt)
      (first (lit< tt) (_, _, inr (inl refl), refl, inl refl, refl, neqb→ne 0 2 tt)
      (first (lit< tt) (_, _, inr (inl refl), refl, inl refl, refl, refl)
      (first (lit< tt) (_, _, inr (inl refl), refl, inl refl, refl, refl)
      (first (lit< tt) (_, _, inl refl, refl, inl refl, refl, neqb→ne 0 1 tt)
      (first (lit< tt) (_, _, inl refl, refl, inl refl, refl, refl)
      (first (lit< tt) (_, _, inr (inl refl), refl, inl refl, refl, refl)
      (first (lit< tt) tt
      (first (lit< tt) (_, _, inl refl, refl, inl refl, refl, neqb→ne 4 3 tt)
      (first (lit< tt) (_, _, inr (inl refl), refl, inl refl, refl, neqb→ne 4 2 tt)
      (first (lit< tt) (_, _, inr (inl refl), refl, inl refl, refl, refl)
      (first (lit< tt) (_, _, inr (inl refl), refl, inl refl, refl, refl)
      (first (lit< tt) (_, _, inl refl, refl, inl refl, refl, neqb→ne 4 3 tt)
      (first (lit< tt) (_, _, inl refl, refl, inl refl, refl, refl)
      (first (lit< tt) (_, _, inr (inl refl), refl, inl refl, refl, refl) tt)))))))))))))));
  commits_listed = refl;
}

-- ---- a prepared figure without its set

-- 0 hears the promise of 1 twice, and 0, 1 and 2 accept 10, which 0 commits; 4 hears that of 3 twice, so that it does not learn of 10, and 2, 3 and 4 accept 20
abbrev promised_by_two : List MemberCall
promised_by_two =
    proposal_call 0 10
    ∷ hears_prepare 1 0 0 10
    ∷ hears_prepare 0 1 0 10
    ∷ hears_prepare 0 1 0 10
    ∷ hears_accept 1 0 0 10
    ∷ hears_accept 2 0 0 10
    ∷ hears_accept 0 1 0 10
    ∷ hears_accept 0 2 0 10
    ∷ proposal_call 4 20
    ∷ hears_prepare 3 4 4 20
    ∷ hears_prepare 4 3 4 20
    ∷ hears_prepare 4 3 4 20
    ∷ hears_accept 3 4 4 20
    ∷ hears_accept 2 4 4 20
    ∷ hears_accept 4 3 4 20
    ∷ hears_accept 4 2 4 20
    ∷ []

prepared_figure_shown : Disagrees prepared_figure_without_set five promised_by_two
unfolding prepared_figure_without_set count_trailing_zeros computed
prepared_figure_shown = record {
  legal =
      first (lit< tt) tt
      (first (lit< tt) (_, _, inl refl, refl, inl refl, refl, neqb→ne 0 1 tt)
      (first (lit< tt) (_, _, inl refl, refl, inl refl, refl, refl)
      (first (lit< tt) (_, _, inr (inl refl), refl, inl refl, refl, refl)
      (first (lit< tt) (_, _, inl refl, refl, inl refl, refl, neqb→ne 0 1 tt)
      (first (lit< tt) (_, _, inr (inl refl), refl, inl refl, refl, neqb→ne 0 2 tt)
      (first (lit< tt) (_, _, inr (inl refl), refl, inl refl, refl, refl)
      (first (lit< tt) (_, _, inr (inl refl), refl, inl refl, refl, refl)
      (first (lit< tt) tt
      (first (lit< tt) (_, _, inl refl, refl, inl refl, refl, neqb→ne 4 3 tt)
      (first (lit< tt) (_, _, inl refl, refl, inl refl, refl, refl)
      (first (lit< tt) (_, _, inr (inl refl), refl, inl refl, refl, refl)
      (first (lit< tt) (_, _, inl refl, refl, inl refl, refl, neqb→ne 4 3 tt)
      (first (lit< tt) (_, _, inr (inl refl), refl, inl refl, refl, neqb→ne 4 2 tt)
      (first (lit< tt) (_, _, inr (inl refl), refl, inl refl, refl, refl)
      (first (lit< tt) (_, _, inr (inl refl), refl, inl refl, refl, refl) tt)))))))))))))));
  commits_10 = record { entry = _; earlier = _; stands = inr (inr (inr (inr (inr (inr (inr (inr (inl (refl, refl))))))))); fast = false; commit = refl };
  commits_20 = record { entry = _; earlier = _; stands = inl (refl, refl); fast = false; commit = refl };
}

pub prepared_figure_disagrees : InAgreement prepared_figure_without_set → ⊥
prepared_figure_disagrees = disagreeing prepared_figure_without_set five tt promised_by_two prepared_figure_shown

-- ---- forgets the held promise with the round

-- of three members 0 and 1 accept 10, which 0 commits; 1 has forgotten it when it promises to 2, and accepts 20, which 2 commits
abbrev forgotten : List MemberCall
forgotten =
    proposal_call 0 10
    ∷ hears_prepare 1 0 0 10
    ∷ hears_prepare 0 1 0 10
    ∷ hears_accept 1 0 0 10
    ∷ hears_accept 0 1 0 10
    ∷ proposal_call 2 20
    ∷ hears_prepare 1 2 2 20
    ∷ hears_prepare 2 1 2 20
    ∷ hears_accept 1 2 2 20
    ∷ hears_accept 2 1 2 20
    ∷ []

forgotten_shown : Disagrees forgets_held_with_round (three Paxos) forgotten
unfolding forgets_held_with_round computed
forgotten_shown = record {
  legal =
      first (lit< tt) tt
      (first (lit< tt) (_, _, inl refl, refl, inl refl, refl, neqb→ne 0 1 tt)
      (first (lit< tt) (_, _, inl refl, refl, inl refl, refl, refl)
      (first (lit< tt) (_, _, inl refl, refl, inl refl, refl, neqb→ne 0 1 tt)
      (first (lit< tt) (_, _, inl refl, refl, inl refl, refl, refl)
      (first (lit< tt) tt
      (first (lit< tt) (_, _, inl refl, refl, inl refl, refl, neqb→ne 2 1 tt)
      (first (lit< tt) (_, _, inl refl, refl, inl refl, refl, refl)
      (first (lit< tt) (_, _, inl refl, refl, inl refl, refl, neqb→ne 2 1 tt)
      (first (lit< tt) (_, _, inl refl, refl, inl refl, refl, refl) tt)))))))));
  commits_10 = record { entry = _; earlier = _; stands = inr (inr (inr (inr (inr (inl (refl, refl)))))); fast = false; commit = refl };
  commits_20 = record { entry = _; earlier = _; stands = inl (refl, refl); fast = false; commit = refl };
}

pub forgotten_disagrees : InAgreement forgets_held_with_round → ⊥
forgotten_disagrees = disagreeing forgets_held_with_round (three Paxos) tt forgotten forgotten_shown

-- ---- commits a proposal at once

pub alone_commits : CommitsNothingAlone commits_at_once → ⊥
unfolding commits_at_once computed
alone_commits law =
    neqb→ne 1 0 tt (ap (λ (c : Option CommittedSlot). plus_commit c 0) (law alone_settings refl (proposal_call 0 10 ∷ []) (first (lit< tt) tt tt) _ (inl refl)))

-- two members of a group commit their own proposals
at_once_shown : Disagrees commits_at_once (three Paxos) (proposal_call 0 10 ∷ proposal_call 1 20 ∷ [])
unfolding commits_at_once computed
at_once_shown = record {
  legal = first (lit< tt) tt (first (lit< tt) tt tt);
  commits_10 = record { entry = _; earlier = _; stands = inr (inl (refl, refl)); fast = false; commit = refl };
  commits_20 = record { entry = _; earlier = _; stands = inl (refl, refl); fast = false; commit = refl };
}

pub at_once_disagrees : InAgreement commits_at_once → ⊥
at_once_disagrees =
    disagreeing commits_at_once (three Paxos) tt (proposal_call 0 10 ∷ proposal_call 1 20 ∷ []) at_once_shown

-- ---- after every list of calls, legal or not

-- member 1 hears of a commit
abbrev pub told_once : List MemberCall
told_once = hears_message 1 0 None (Commit 0 10) ∷ []

-- and stays in slot 0
pub slot_not_left : SlotCountsCommits stays_in_slot → ⊥
unfolding stays_in_slot computed
slot_not_left law = neqb→ne 0 1 tt (law (three Paxos) told_once 1)

-- it proposes 20, hears of the commit of 10, and still holds 20
pub holds_after_commit : ClearsWithCommit keeps_held_after_commit → ⊥
unfolding keeps_held_after_commit computed
holds_after_commit law =
    neqb→ne 1 0 tt (ap held (law (three Paxos) (proposal_call 1 20 ∷ []) 1 (hears_message 1 0 None (Commit 0 10)).call 0 10 false refl).paxos_new)
  where
    held : PaxosState → ℕ
    held s = cond (is_some s.max_rv) 1 0

-- it hears of a commit, and is unmade
pub unmade_by_commit : MarkedOnce unmakes → ⊥
unfolding unmakes shard_after_calls_by computed
unmade_by_commit law = refused_not_done (unmakes (begun (three Paxos) 1) told).shard.made SettingsOutsideLimits (law (begun (three Paxos) 1) (told ∷ [])) refl

-- of three processes 0 and 1 are live; 2 answers 0 all the same, and is counted
pub every_process_counted : CountsLiveReplicas counts_every_process → ⊥
unfolding counts_every_process computed
every_process_counted law =
    not_both ((law two_live (proposal_call 0 10 ∷ hears_prepare 0 2 0 10 ∷ []) 0 refl).0 2 refl) refl
  where
    two_live : Settings
    two_live = paxos_group 3 3

-- member 0 proposes in Paxos, and its fast half is no longer as new
pub fast_half_noted : LeavesFastHalfNew notes_proposals → ⊥
unfolding notes_proposals computed
fast_half_noted law = neqb→ne 1 0 tt (ap (λ (f : FastState). f.fast_preaccepted) (law (three Paxos) (proposal_call 0 10 ∷ []) 0 refl))

-- two reads are opened: they stand as 1, 0
abbrev pub two_reads : List MemberCall
two_reads = opens 0 7 0 ∷ opens 0 8 0 ∷ []

pub reads_turned : KeepsReadsInOrder keeps_reads_turned → ⊥
unfolding keeps_reads_turned computed
reads_turned law = let wrong : 2 ≤ 0 = (law (three Paxos) two_reads 0).rising.1.0 in omega arith

-- in a group of one, where the own answer is a majority, a commit serves both: as 1, 0
pub served_turned : ServesInOrder serves_turned → ⊥
unfolding serves_turned computed
served_turned law = let wrong : 2 ≤ 0 = (law alone_settings two_reads 0 (hears_message 0 0 None (Commit 0 10)).call).1.0 in omega arith

-- there is no room for another response to the first read
pub first_read_filled : LeavesRoom fills_first_read → ⊥
unfolding fills_first_read computed
first_read_filled law =
    neqb→ne 18446744073709551615 18446744073709551616 tt ((law (three Paxos) (opens 0 7 0 ∷ []) 0).count_rises _ (inl refl))

-- member 1 of SwiftPaxos holds nothing and hears a forwarded request
abbrev pub forwarded : List MemberCall
forwarded = hears_message 1 0 None (ForwardRequest 10) ∷ []

pub promises_while_nothing_held : CountsPromisesWhileHeld counts_forwards_as_promises → ⊥
unfolding counts_forwards_as_promises computed
promises_while_nothing_held law = neqb→ne 7 0 tt (law (three SwiftPaxos) forwarded 1 refl)

pub accepts_while_nothing_accepted : CountsAcceptsWhileAccepted counts_forwards_as_accepts → ⊥
unfolding counts_forwards_as_accepts computed
accepts_while_nothing_accepted law = neqb→ne 7 0 tt (law (three SwiftPaxos) forwarded 1 refl)

-- a commit of process 64 is taken
pub process_64_taken : TakesWithinTables takes_every_process → ⊥
unfolding takes_every_process computed
process_64_taken law = let wrong : 64 < 64 = (law (three Paxos) [] 1 told_by_64 refl).source_place in omega arith

-- In SwiftPaxos member 1 hears of the commit of slot 0, and tells it as one of slot 1.
pub next_slot_told : CommitsOwnSlot commits_next_slot → ⊥
unfolding commits_next_slot computed
next_slot_told law =
    neqb→ne 1 0 tt
    (law (three SwiftPaxos) told_once 1 10 (record { entry = _; earlier = _; stands = inl (refl, refl); fast = true; commit = refl }))

-- Process 5, which there is not, prepares for the leader, who counts it.
pub process_5_counted : CountsProcesses takes_every_process → ⊥
unfolding takes_every_process computed
process_5_counted law =
    let wrong : 5 < 3 = law (three SwiftPaxos) (hears_message 0 5 None (Prepare 0 (round_of 0 0) (FastV 2 10)) ∷ []) 0 5 (inl refl) in omega arith

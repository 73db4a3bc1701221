-- What the demands let pass. A member that refuses what has to be refused has demand 1 if it else does nothing, sends one fixed message or one of every kind,
-- never proposes in MultiPaxos, answers nothing, idles from slot 1 on, or sends a message three times, in another name or to itself. One that does nothing, sends one fixed message, or
-- sends its own one three times, idles, answers nothing, refuses each frame or does nothing with it has demand 3: "demand 3 would pass all three, demand 2
-- stops them" (document 01, list c). And an engine that marks itself unmade with its first commit, and so works in slot 0 and then refuses every call, has
-- demand 1, the paper and demand 3: the cause of a 1 is the mark, and the paper refuses what demand 1 refuses. `marked_once` is false of it (Runs.antt).
-- Assumes nothing.
use Rattle.std.specs.Prelude.{Option, None, Some, Ok, Err}
use Rattle.calls.specs.declared.CommittedSlot.{CommittedSlot}
use mathlib.Core.Path.{◌≡◌, refl, sym, ap, subst, ◌∙◌}
use mathlib.Core.Bool.{Bool, true, false, cond, ◌&&◌}
use mathlib.Core.Logic.{◌⊎◌, inl, inr}
use mathlib.Core.List.{List, [], ◌∷◌}
use Prim.Native.Nat.{ℕ}
use lib.Dec.{leb}
use Rattle.basics.proofs.Tests.{of-both, not_both}
use Rattle.basics.specs.Lists.{In}
use Rattle.message.specs.Modes.{is_multi_paxos}
use Rattle.message.specs.Outcomes.{Outcome}
use Rattle.message.specs.declared.Refusal.{Refusal}
use Rattle.message.specs.declared.Refusal.TheVariants.{SettingsOutsideLimits}
use Rattle.settings.specs.Settings.{within_limits}
use Rattle.fast_state.specs.Adopt.{lowest_best}
use Rattle.steps.specs.Steps.{no_messages}
use Rattle.steps.specs.declared.SentMessages.{SentMessages}
use Rattle.steps.specs.declared.Outgoing.{Outgoing}
use Rattle.calls.specs.Asked.{asked_of}
use Rattle.calls.specs.declared.Call.{Call}
use Rattle.consensus.specs.Call.{call_of}
use Rattle.consensus.specs.FirstCause.{number_alone, ByFirstCause}
use Rattle.consensus.specs.declared.Answer.{Answer}
use Rattle.consensus.specs.declared.Shard.{Shard}
use Rattle.consensus.proofs.Decided.{settings_kept}
use Rattle.consensus.proofs.Refusals.{unmade_refuses}
use Rattle.agreement.proofs.Tests.{by_choice, neqb→ne}
use Rattle.paper.specs.PaperCall.{seen}
use Rattle.paper.proofs.Calls.{call_as_paper, new_within, no_fast_path}
use Rattle.group.specs.Claim.{begun, MemberCall, Entry, listed, At, plus_commit, CommitAt, entries_made}
use Rattle.group.proofs.GroupOfOne.{propose_to_all}
use Rattle.group.proofs.Handlers.{call_holds}
use Rattle.wrong_engines.specs.Laws.{AnyEngine, ReachedBy, entry_by, after_call_by, entries_by, RefusesByFirstCause, IsAsPaper, InAgreement}
use Rattle.wrong_engines.specs.Laws.ReachedBy.{new, called}
use Rattle.wrong_engines.specs.declared.FixedContents.{FixedContents}
use Rattle.calls.specs.Decision.{is_proposal}
use Rattle.wrong_engines.specs.Engines.{is_message, multi_paxos_never_proposes, answer_with_messages, change_messages, where_taken, other_if_taken, sends_only, idles, does_nothing, sends_fixed, with_fixed_content, sends_fixed_contents, hears_nothing, answers_no_message, idles_after_slot_zero, refuses_each, sends_thrice, from_zero, sends_as_zero, own_pid, redirected_to, sends_to_itself, with_shard_at, if_commits, marked_unmade, unmakes}
use Rattle.wrong_engines.proofs.Answers.{refused_not_done}
use Rattle.wrong_engines.proofs.Less.{DoesLess, SaysNothing, less_in_agreement}
use Rattle.wrong_engines.proofs.Right.{right_has_all}

-- ---- demand 1

-- another answer, taken, where the right engine takes the call
pub other_by_first_cause : (shard : Shard) (c : Call) (other : Answer) → ((call_of shard c).reply.outcome ≡ Ok tt → other.reply.outcome ≡ Ok tt)
    → ByFirstCause lowest_best shard c (other_if_taken other (call_of shard c))
other_by_first_cause shard c other done = go (call_of shard c).reply.outcome refl (right_has_all.first_cause shard c)
  where
    go : (o : Outcome) → (call_of shard c).reply.outcome ≡ o → ByFirstCause lowest_best shard c (call_of shard c)
        → ByFirstCause lowest_best shard c (where_taken other (call_of shard c) o)
    go (Ok tt) e (inl (_, none)) = inl (done e, none)
    go (Ok tt) e (inr (why, r, first)) = absurd (refused_not_done (call_of shard c).reply.outcome why e (ap (λ (a : Answer). a.reply.outcome) r))
    go (Err w) e h = h

pub nothing_done_by_first_cause : RefusesByFirstCause does_nothing
unfolding does_nothing
nothing_done_by_first_cause shard c = other_by_first_cause shard c (idles shard) (λ e. refl)

pub fixed_by_first_cause : (fixed : SentMessages) → RefusesByFirstCause (sends_fixed fixed)
unfolding sends_fixed
fixed_by_first_cause fixed shard c = other_by_first_cause shard c (sends_only fixed shard) (λ e. refl)

pub idle_by_first_cause : RefusesByFirstCause idles_after_slot_zero
unfolding idles_after_slot_zero
idle_by_first_cause shard c =
    of-both (ByFirstCause lowest_best shard c) (leb 1 shard.state.rounds.core.slot) (other_by_first_cause shard c (idles shard) (λ e. refl))
    (right_has_all.first_cause shard c)

pub unproposed_by_first_cause : RefusesByFirstCause multi_paxos_never_proposes
unfolding multi_paxos_never_proposes
unproposed_by_first_cause shard c =
    of-both (ByFirstCause lowest_best shard c) (is_multi_paxos shard.settings.mode && is_proposal c)
    (other_by_first_cause shard c (idles shard) (λ e. refl)) (right_has_all.first_cause shard c)

-- other messages, none where there were none
messages_by_first_cause : (f : SentMessages → SentMessages) → f no_messages ≡ no_messages → (shard : Shard) (c : Call)
    → ByFirstCause lowest_best shard c (answer_with_messages (f (call_of shard c).reply.messages) (call_of shard c))
messages_by_first_cause f e shard c = go (right_has_all.first_cause shard c)
  where
    go : ByFirstCause lowest_best shard c (call_of shard c)
        → ByFirstCause lowest_best shard c (answer_with_messages (f (call_of shard c).reply.messages) (call_of shard c))
    go (inl h) = inl h
    go (inr (why, r, first)) =
        inr (why, ap (λ (a : Answer). answer_with_messages (f a.reply.messages) a) r ∙ ap (λ (ms : SentMessages). answer_with_messages ms (number_alone why shard)) e, first)

pub contents_by_first_cause : (fixed : FixedContents) → RefusesByFirstCause (sends_fixed_contents fixed)
unfolding sends_fixed_contents
contents_by_first_cause fixed = messages_by_first_cause (change_messages (with_fixed_content fixed)) refl

pub thrice_by_first_cause : RefusesByFirstCause sends_thrice
unfolding sends_thrice
thrice_by_first_cause = messages_by_first_cause (λ ms. record { first = ms.first; second = ms.first; third = ms.first }) refl

pub as_zero_by_first_cause : RefusesByFirstCause sends_as_zero
unfolding sends_as_zero
as_zero_by_first_cause = messages_by_first_cause (change_messages from_zero) refl

pub to_itself_by_first_cause : RefusesByFirstCause sends_to_itself
unfolding sends_to_itself
to_itself_by_first_cause shard = messages_by_first_cause (change_messages (redirected_to (own_pid shard))) refl shard

pub unanswered_by_first_cause : RefusesByFirstCause answers_no_message
unfolding answers_no_message
unanswered_by_first_cause shard c =
    of-both (ByFirstCause lowest_best shard c) (is_message c) (messages_by_first_cause (λ ms. no_messages) refl shard c) (right_has_all.first_cause shard c)

-- ---- demand 3

abbrev CommitsNothing : List Entry → Type 0
CommitsNothing [] = Unit {0}
CommitsNothing (e ∷ es) = (e.reply.commit ≡ None) × CommitsNothing es

commits_none : (run : List Entry) → CommitsNothing run → (slot v : ℕ) → CommitAt slot v run → ⊥
commits_none run n slot v c = go run n c.stands
  where
    go : (run : List Entry) → CommitsNothing run → At c.entry c.earlier run → ⊥
    go [] n h = absurd h
    go (e ∷ es) n (inl h) =
        neqb→ne 1 0 tt (ap (λ (x : Option CommittedSlot). plus_commit x 0) (sym c.commit ∙ ap (λ (x : Entry). x.reply.commit) h.0 ∙ n.0))
    go (e ∷ es) n (inr h) = go es n.1 h

-- another answer without a commit where the right engine takes the call
other_commits_nothing : (shard : Shard) (c : Call) (other : Answer) → other.reply.commit ≡ None → (other_if_taken other (call_of shard c)).reply.commit ≡ None
other_commits_nothing shard c other n = go (call_of shard c).reply.outcome refl (right_has_all.first_cause shard c)
  where
    go : (o : Outcome) → (call_of shard c).reply.outcome ≡ o → ByFirstCause lowest_best shard c (call_of shard c)
        → (where_taken other (call_of shard c) o).reply.commit ≡ None
    go (Ok tt) e h = n
    go (Err w) e (inl (done, none)) = absurd (refused_not_done (call_of shard c).reply.outcome w done e)
    go (Err w) e (inr (why, r, first)) = ap (λ (a : Answer). a.reply.commit) r

module _ (engine : AnyEngine) (never : (shard : Shard) (c : Call) → (engine shard c).reply.commit ≡ None) where
  run_commits_nothing : (shards : ℕ → Shard) (past : List Entry) (cs : List MemberCall) → CommitsNothing past
      → CommitsNothing (entries_by engine shards past cs)
  unfolding entries_made
  run_commits_nothing shards past [] n = n
  run_commits_nothing shards past (c ∷ cs) n =
      run_commits_nothing (after_call_by engine shards c) (entry_by engine shards c ∷ past) cs (never (shards c.member) c.call, n)

  -- who never commits has demand 3
  pub silent_in_agreement : InAgreement engine
  silent_in_agreement s mode cs legal =
      let none = commits_none (entries_by engine (begun s) [] cs) (run_commits_nothing (begun s) [] cs tt) in
      record {
        agree = λ slot v slot' v' c d. absurd (none slot v c);
        proposed = λ slot v c. absurd (none slot v c);
        own_slot = λ slot v c. absurd (none slot v c);
      }

pub nothing_done_in_agreement : InAgreement does_nothing
unfolding does_nothing
nothing_done_in_agreement = silent_in_agreement does_nothing (λ shard c. other_commits_nothing shard c (idles shard) refl)

pub fixed_in_agreement : (fixed : SentMessages) → InAgreement (sends_fixed fixed)
unfolding sends_fixed
fixed_in_agreement fixed = silent_in_agreement (sends_fixed fixed) (λ shard c. other_commits_nothing shard c (sends_only fixed shard) refl)

-- ---- demand 3: who refuses each frame, or does nothing with it, since a proposal and a new read commit nothing

unheard_commits_nothing : (shard : Shard) (c : Call) → is_message c ≡ false → (call_of shard c).reply.commit ≡ None
unheard_commits_nothing shard =
    call_holds lowest_best shard (λ (c : Call) (r : Answer). is_message c ≡ false → r.reply.commit ≡ None) (λ c why e. refl)
    (λ v e. (propose_to_all shard.state (asked_of shard.settings) v).1) (λ tag arrival ins o e. refl) (λ d e. absurd (not_both refl e))

pub frames_refused_in_agreement : (why : Refusal) → InAgreement (refuses_each is_message why)
unfolding refuses_each
frames_refused_in_agreement why =
    silent_in_agreement (refuses_each is_message why) (λ shard c. by_choice (λ (r : Answer). r.reply.commit ≡ None) (is_message c) (λ e. refl) (unheard_commits_nothing shard c))

pub nothing_heard_in_agreement : InAgreement hears_nothing
unfolding hears_nothing
nothing_heard_in_agreement =
    silent_in_agreement hears_nothing
    (λ shard c. by_choice (λ (r : Answer). r.reply.commit ≡ None) (is_message c) (λ e. other_commits_nothing shard c (idles shard) refl) (unheard_commits_nothing shard c))

-- ---- demand 3: who does less than the right engine

-- who answers nothing never falls silent
pub unanswered_in_agreement : InAgreement answers_no_message
unfolding answers_no_message
unanswered_in_agreement = less_in_agreement answers_no_message (λ shard. ⊥) (λ shard c. inl (less shard c)) (λ shard s c. absurd s)
  where
    less : (shard : Shard) (c : Call)
        → DoesLess answers_no_message (λ shard. ⊥) (cond (is_message c) (answer_with_messages no_messages (call_of shard c)) (call_of shard c)) (call_of shard c)
    less shard c =
        of-both (λ (r : Answer). DoesLess answers_no_message (λ shard. ⊥) r (call_of shard c)) (is_message c)
        (record { outcome = refl; commit = refl; messages = λ o h. absurd h; left = inl refl })
        (record { outcome = refl; commit = refl; messages = λ o h. h; left = inl refl })

-- nor does who sends the first message three times
pub thrice_in_agreement : InAgreement sends_thrice
unfolding sends_thrice
thrice_in_agreement = less_in_agreement sends_thrice (λ shard. ⊥) (λ shard c. inl (less (call_of shard c))) (λ shard s c. absurd s)
  where
    less : (r : Answer)
        → DoesLess sends_thrice (λ shard. ⊥)
        (answer_with_messages (record { first = r.reply.messages.first; second = r.reply.messages.first; third = r.reply.messages.first }) r) r
    less r = record { outcome = refl; commit = refl; messages = λ o. sent r.reply.messages.first o; left = inl refl }
      where
        sent : (x : Option Outgoing) (o : Outgoing) → In o (listed x (listed x (listed x [])))
            → In o (listed x (listed r.reply.messages.second (listed r.reply.messages.third [])))
        sent None o h = absurd h
        sent (Some y) o (inl e) = inl e
        sent (Some y) o (inr (inl e)) = inl e
        sent (Some y) o (inr (inr (inl e))) = inl e
        sent (Some y) o (inr (inr (inr h))) = absurd h

-- who idles from slot 1 on is silent there
abbrev Idle : Shard → Type 0
Idle shard = leb 1 shard.state.rounds.core.slot ≡ true

pub idle_in_agreement : InAgreement idles_after_slot_zero
unfolding idles_after_slot_zero
idle_in_agreement =
    less_in_agreement idles_after_slot_zero Idle (λ shard c. less shard c (leb 1 shard.state.rounds.core.slot) refl) nothing_said
  where
    less : (shard : Shard) (c : Call) (t : Bool) → leb 1 shard.state.rounds.core.slot ≡ t
        → DoesLess idles_after_slot_zero Idle (cond t (other_if_taken (idles shard) (call_of shard c)) (call_of shard c)) (call_of shard c) ⊎ Idle shard
    less shard c true e = inr e
    less shard c false e = inl (record { outcome = refl; commit = refl; messages = λ o h. h; left = inl refl })

    taken : (shard : Shard) → Idle shard → (c : Call) (o : Outcome) → (call_of shard c).reply.outcome ≡ o → ByFirstCause lowest_best shard c (call_of shard c)
        → SaysNothing idles_after_slot_zero Idle (where_taken (idles shard) (call_of shard c) o)
    taken shard i c (Ok tt) e h = record { no_messages = refl; no_commit = refl; still_silent = i }
    taken shard i c (Err w) e (inl (done, none)) = absurd (refused_not_done (call_of shard c).reply.outcome w done e)
    taken shard i c (Err w) e (inr (why, r, first)) =
        subst (SaysNothing idles_after_slot_zero Idle) (sym r) (record { no_messages = refl; no_commit = refl; still_silent = i })

    nothing_said : (shard : Shard) → Idle shard → (c : Call)
        → SaysNothing idles_after_slot_zero Idle (cond (leb 1 shard.state.rounds.core.slot) (other_if_taken (idles shard) (call_of shard c)) (call_of shard c))
    nothing_said shard i c =
        subst (λ (t : Bool). SaysNothing idles_after_slot_zero Idle (cond t (other_if_taken (idles shard) (call_of shard c)) (call_of shard c))) (sym i)
        (taken shard i c (call_of shard c).reply.outcome refl (right_has_all.first_cause shard c))

-- ---- who marks itself unmade with its first commit

module _ (r : Answer) where
  -- the answer with a shard that is marked, if it commits
  abbrev marked_at : Option CommittedSlot → Answer
  marked_at o = with_shard_at (marked_unmade r.shard) r o

  seen_same : (o : Option CommittedSlot) → seen (marked_at o) ≡ seen r
  seen_same None = refl
  seen_same (Some commit) = refl

  settings_same : (o : Option CommittedSlot) → (marked_at o).shard.settings ≡ r.shard.settings
  settings_same None = refl
  settings_same (Some commit) = refl

-- another shard with a commit
pub commits_by_first_cause : (shard left : Shard) (c : Call) → ByFirstCause lowest_best shard c (if_commits left (call_of shard c))
commits_by_first_cause shard left c = go (call_of shard c).reply.commit refl (right_has_all.first_cause shard c)
  where
    go : (o : Option CommittedSlot) → (call_of shard c).reply.commit ≡ o → ByFirstCause lowest_best shard c (call_of shard c)
        → ByFirstCause lowest_best shard c (with_shard_at left (call_of shard c) o)
    go None e h = h
    go (Some commit) e (inl h) = inl h
    go (Some commit) e (inr (why, r, first)) =
        absurd (neqb→ne 1 0 tt (ap (λ (x : Option CommittedSlot). plus_commit x 0) (sym e ∙ ap (λ (a : Answer). a.reply.commit) r)))

pub unmade_by_first_cause : RefusesByFirstCause unmakes
unfolding unmakes
unmade_by_first_cause shard c = commits_by_first_cause shard (marked_unmade (call_of shard c).shard) c

within : (shard : Shard) → ReachedBy unmakes shard → within_limits shard.settings ≡ true
unfolding unmakes
within shard (new s e) = new_within s e
within shard (called before c r) =
    ap within_limits (settings_same (call_of before c) (call_of before c).reply.commit ∙ settings_kept lowest_best before c) ∙ within before r

pub unmade_as_paper : IsAsPaper unmakes
unfolding unmakes
unmade_as_paper shard r classic c p =
    seen_same (call_of shard c) (call_of shard c).reply.commit ∙ call_as_paper shard (no_fast_path shard.settings.mode classic) (within shard r) c p

-- it is silent where it is marked
abbrev Marked : Shard → Type 0
Marked shard = shard.made ≡ Err SettingsOutsideLimits

pub unmade_in_agreement : InAgreement unmakes
unfolding unmakes
unmade_in_agreement = less_in_agreement unmakes Marked (λ shard c. inl (less (call_of shard c) (call_of shard c).reply.commit refl)) nothing_said
  where
    less : (r : Answer) (o : Option CommittedSlot) → r.reply.commit ≡ o → DoesLess unmakes Marked (marked_at r o) r
    less r None e = record { outcome = refl; commit = refl; messages = λ o h. h; left = inl refl }
    less r (Some commit) e = record { outcome = refl; commit = refl; messages = λ o h. h; left = inr refl }

    nothing_said : (shard : Shard) → Marked shard → (c : Call) → SaysNothing unmakes Marked (marked_at (call_of shard c) (call_of shard c).reply.commit)
    nothing_said shard m c =
        subst (λ (r : Answer). SaysNothing unmakes Marked (marked_at r r.reply.commit)) (sym (unmade_refuses lowest_best shard c SettingsOutsideLimits m))
        (record { no_messages = refl; no_commit = refl; still_silent = m })

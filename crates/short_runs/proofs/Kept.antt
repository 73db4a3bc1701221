-- A kept run holds shards, proposers, sent messages, events and commits; what it holds after each change.
-- Assumes nothing.
use Rattle.std.specs.Prelude.{Option, None, Some}
use Rattle.calls.specs.declared.CommittedSlot.{CommittedSlot}
use mathlib.Core.Path.{◌≡◌, refl, sym, ap, subst, ◌∙◌}
use mathlib.Core.Bool.{Bool, true, cond, ◌||◌}
use mathlib.Core.List.{List, [], ◌∷◌, ◌++◌, append_assoc, append-nil}
use Prim.Native.Nat.{ℕ, ◌+◌, ◌≤◌, ◌<◌}
use native.Mathlib.Omega.{arith}
use lib.Dec.{eqb, ltb}
use lib.ListN.{length, get_or, set, length-set, length-append}
use borrow.Author.Tests.{lt-ltb}
use Rattle.basics.proofs.Places.{get_set}
use Rattle.basics.specs.sets.Sets.{contains}
use Rattle.basics.proofs.sets.Laws.{contains_insert}
use Rattle.steps.specs.declared.SentMessages.{SentMessages}
use Rattle.steps.specs.declared.Outgoing.{Outgoing}
use Rattle.consensus.specs.declared.Answer.{Answer}
use Rattle.consensus.specs.declared.Shard.{Shard}
use Rattle.group.specs.Claim.{listed, messages_of}
use Rattle.enabled_runs.specs.declared.CommitBy.{CommitBy}
use Rattle.enabled_runs.specs.declared.RunEvent.{RunEvent}
use Rattle.enabled_runs.specs.declared.Sending.{Sending}
use Rattle.enabled_runs.specs.Enabled.{sendings}
use Rattle.enabled_runs.specs.Offices.{member_commits}
use Rattle.office_runs.specs.Runs.{office, with_last, with_message, with_messages, with_commit_by, run_with_answer, with_proposer}
use Rattle.office_runs.specs.declared.OfficeRun.{OfficeRun}
use Rattle.office_runs.specs.declared.SoFar.{SoFar}
use Rattle.short_runs.proofs.Piles.{Pile, pushed}

-- what a run has brought, as a list
abbrev Brought : {A : Type 0} {room : ℕ} → SoFar A room → List A → Type 0
Brought {A} {room} s kept = Pile s.places s.count room kept

pub record KeptAs (run : OfficeRun) (shards : ℕ → Shard) (asked : ℕ → Bool) (sent : List Sending) (events : List RunEvent) (commits : List CommitBy) : Type 0 where
  pub members_long : length run.members ≡ 3
  pub member : (i : ℕ) → i < 3 → get_or run.members i (office 0) ≡ shards i
  pub proposer : (i : ℕ) → contains run.proposed i ≡ asked i
  pub sent_kept : Brought run.sent sent
  pub events_kept : Brought run.events events
  pub commits_kept : Brought run.commits commits

-- where a test passes, what holds of the first choice holds of the choice
where_passed : {A : Type 0} (P : A → Type 0) (t : Bool) (x y : A) → t ≡ true → P x → P (cond t x y)
where_passed {A} P t x y e p = subst (λ (b : Bool). P (cond b x y)) (sym e) p

with_last_lem : {A : Type 0} {room : ℕ} {s : SoFar A room} {kept : List A} (x : A) → length kept < room → Brought s kept → Brought (with_last s x) (kept ++ (x ∷ []))
unfolding with_last
with_last_lem {A} {room} {s} {kept} x few h =
    let below : s.count < room = omega (arith, h.counted) in
    where_passed (λ (r : SoFar A room). Brought r (kept ++ (x ∷ []))) (ltb s.count room) (record { places = set s.places s.count x; count = s.count + 1 }) s
    (lt-ltb _ _ below) (pushed x h below)

-- ---- sent messages

with_message_lem : {s : SoFar Sending 15} {sent : List Sending} (source : ℕ) (o : Option Outgoing) → length sent < 15 → Brought s sent
    → Brought (with_message s source o) (sent ++ sendings source (listed o []))
unfolding with_message
with_message_lem {s} {sent} source None room h = subst (Brought s) (sym (append-nil sent)) h
with_message_lem source (Some o) room h = with_last_lem (record { source = source; outgoing = o }) room h

one_at_most : (source : ℕ) (o : Option Outgoing) → length (sendings source (listed o [])) ≤ 1
one_at_most source None = omega arith
one_at_most source (Some o) = omega arith

-- the messages of a call, one after another
listed_first : (source : ℕ) (o : Option Outgoing) (rest : List Outgoing) → sendings source (listed o []) ++ sendings source rest ≡ sendings source (listed o rest)
listed_first source None rest = refl
listed_first source (Some o) rest = refl

pub three_at_most : (source : ℕ) (ms : SentMessages) → length (sendings source (messages_of ms)) ≤ 3
three_at_most source ms =
    let second : List Outgoing = listed ms.second (listed ms.third []) in
    let third : List Outgoing = listed ms.third [] in
    omega (
      arith,
      ap length (listed_first source ms.first second),
      ap length (listed_first source ms.second third),
      length-append (sendings source (listed ms.first [])) (sendings source second),
      length-append (sendings source (listed ms.second [])) (sendings source third),
      one_at_most source ms.first,
      one_at_most source ms.second,
      one_at_most source ms.third,
    )

with_messages_lem : {s : SoFar Sending 15} {sent : List Sending} (source : ℕ) (ms : SentMessages) → length sent ≤ 12 → Brought s sent
    → Brought (with_messages s source ms) (sent ++ sendings source (messages_of ms))
unfolding with_messages
with_messages_lem {s} {sent} source ms room h =
    let one : List Sending = sendings source (listed ms.first []) in
    let two : List Sending = sendings source (listed ms.second []) in
    let three : List Sending = sendings source (listed ms.third []) in
    let a = with_message_lem source ms.first (omega (arith, room)) h in
    let b = with_message_lem source ms.second (omega (arith, room, length-append sent one, one_at_most source ms.first)) a in
    let c = with_message_lem source ms.third (omega (arith, room, length-append sent one, one_at_most source ms.first, length-append (sent ++ one) two, one_at_most source ms.second)) b in
    subst (Brought (with_messages s source ms))
    (append_assoc (sent ++ one) two three ∙ append_assoc sent one (two ++ three)
    ∙ ap (λ (l : List Sending). sent ++ l)
    (ap (λ (l : List Sending). one ++ l) (listed_first source ms.second (listed ms.third []))
    ∙ listed_first source ms.first (listed ms.second (listed ms.third []))))
    c

-- ---- commits

with_commit_by_lem : {s : SoFar CommitBy 5} {commits : List CommitBy} (member : ℕ) (o : Option CommittedSlot) → length commits < 5 → Brought s commits
    → Brought (with_commit_by s member o) (commits ++ member_commits member o)
unfolding with_commit_by
with_commit_by_lem {s} {commits} member None room h = subst (Brought s) (sym (append-nil commits)) h
with_commit_by_lem member (Some commit) room h = with_last_lem (record { member = member; slot = commit.slot; v = commit.v }) room h

pub commit_at_most : (member : ℕ) (o : Option CommittedSlot) → length (member_commits member o) ≤ 1
commit_at_most member None = omega arith
commit_at_most member (Some commit) = omega arith

-- ---- the run

module _ {run : OfficeRun} {shards : ℕ → Shard} {asked : ℕ → Bool} {sent : List Sending} {events : List RunEvent} {commits : List CommitBy} where
  -- after a call on a member, which was the event
  pub with_answer_lem : (member : ℕ) (e : RunEvent) (a : Answer) → member < 3 → length sent ≤ 12 → length events < 5 → length commits < 5
      → KeptAs run shards asked sent events commits
      → KeptAs (run_with_answer run member e a) (λ j. cond (eqb j member) a.shard (shards j)) asked (sent ++ sendings member (messages_of a.reply.messages))
      (events ++ (e ∷ [])) (commits ++ member_commits member a.reply.commit)
  unfolding run_with_answer
  with_answer_lem member e a below few short new h =
      let after : Bool → List Shard = λ t. cond t (set run.members member a.shard) run.members in
      let passed : ltb member 3 ≡ true = lt-ltb _ _ below in
      record {
        members_long = ap (λ (t : Bool). length (after t)) passed ∙ length-set run.members member a.shard ∙ h.members_long;
        member = λ i k. ap (λ (t : Bool). get_or (after t) i (office 0)) passed
            ∙ get_set run.members member i a.shard (office 0) (subst (λ (n : ℕ). member < n) (sym h.members_long) below)
            ∙ ap (λ (x : Shard). cond (eqb i member) a.shard x) (h.member i k);
        proposer = h.proposer;
        sent_kept = with_messages_lem member a.reply.messages few h.sent_kept;
        events_kept = with_last_lem e short h.events_kept;
        commits_kept = with_commit_by_lem member a.reply.commit new h.commits_kept;
      }

  pub with_proposer_lem : (member : ℕ) → member < 3 → KeptAs run shards asked sent events commits
      → KeptAs (with_proposer run member) shards (λ i. asked i || eqb member i) sent events commits
  with_proposer_lem member below h =
      record {
        members_long = h.members_long;
        member = h.member;
        proposer = λ i. contains_insert run.proposed member i (omega (arith, below)) ∙ ap (λ (t : Bool). t || eqb member i) (h.proposer i);
        sent_kept = h.sent_kept;
        events_kept = h.events_kept;
        commits_kept = h.commits_kept;
      }

  pub asked_as : (other : ℕ → Bool) → ((i : ℕ) → asked i ≡ other i) → KeptAs run shards asked sent events commits → KeptAs run shards other sent events commits
  asked_as other same h =
      record {
        members_long = h.members_long;
        member = h.member;
        proposer = λ i. h.proposer i ∙ same i;
        sent_kept = h.sent_kept;
        events_kept = h.events_kept;
        commits_kept = h.commits_kept;
      }

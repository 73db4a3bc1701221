-- One event tried on the kept run is one event more of the run so far: the arrays hold what it holds, before and after.
-- Assumes nothing.
use Rattle.std.specs.Prelude as std
use Rattle.std.specs.Prelude.{None, Some, Ok, Err}
use Rattle.message.specs.Outcomes.{Outcome}
use mathlib.Core.Path.{◌≡◌, refl, sym, ap, subst, ◌∙◌}
use mathlib.Core.Bool.{Bool, true, false, cond, ◌&&◌, ◌||◌}
use mathlib.Core.List.{List, [], ◌∷◌, ◌++◌}
use mathlib.Core.Option.{Option, none, some}
use Prim.Native.Nat.{ℕ, zero, suc, ◌+◌, ◌*◌, ◌≤◌, ◌<◌}
use native.Mathlib.Nat.{not-suc-le-zero, le_of_suc-le-suc}
use native.Mathlib.Omega.{arith}
use lib.Dec.{eqb}
use lib.ListN.{length, get_or, length-append}
use borrow.Author.Tests.{lt-ltb}
use Rattle.basics.proofs.sets.Laws.{contains_empty}
use Rattle.calls.specs.declared.Call.{Call}
use Rattle.calls.specs.declared.Call.TheVariants.{Propose, Receive}
use Rattle.consensus.specs.Call.{call_of}
use Rattle.consensus.specs.declared.Answer.{Answer}
use Rattle.consensus.specs.declared.Shard.{Shard}
use Rattle.group.specs.Claim.{messages_of}
use Rattle.group.specs.Steps.{is_done}
use Rattle.enabled_runs.specs.declared.RunEvent.{RunEvent}
use Rattle.enabled_runs.specs.declared.RunEvent.TheVariants.{Proposes, Delivers}
use Rattle.enabled_runs.specs.declared.Sending.{Sending}
use Rattle.enabled_runs.specs.Enabled.{RunSoFar, sendings, sent_in, value_of_member, with_call, office_delivery}
use Rattle.enabled_runs.specs.Listing.{at_place, is_sent_to, has_proposed, some_if_done, extended_by, with_delivery}
use Rattle.enabled_runs.specs.Offices.{engine_call, heard_by, before_events, member_commits, commits_in_order}
use Rattle.office_runs.specs.Runs.{office, no_sending, new_run, value_proposed, office_shard, sending_at, run_with_answer, with_proposer, run_if_taken, run_after_proposal, after_message, after_delivery, trial_of}
use Rattle.office_runs.specs.declared.OfficeRun.{OfficeRun}
use Rattle.short_runs.proofs.Piles.{at_place_lem}
use Rattle.short_runs.proofs.Kept.{KeptAs, asked_as, with_proposer_lem, with_answer_lem, three_at_most, commit_at_most}

-- the run that holds the events is the run so far: its shards, who has proposed, what was sent and the commits, in time order
pub record KeepsRun (run : OfficeRun) (w : RunSoFar Shard) (es : List RunEvent) : Type 0 where
  pub kept : KeptAs run w.shards (has_proposed w.past) (sent_in w.past) es (commits_in_order w.past)
  pub few_sent : length (sent_in w.past) ≤ 3 * length es
  pub few_commits : length (commits_in_order w.past) ≤ length es

-- ---- the run without events

pub keeps_new : KeepsRun new_run before_events []
unfolding has_proposed
keeps_new =
    record {
      kept =
          record {
            members_long = refl;
            member = new_member;
            proposer = contains_empty;
            sent_kept = record { long = refl; first = refl; counted = refl };
            events_kept = record { long = refl; first = refl; counted = refl };
            commits_kept = record { long = refl; first = refl; counted = refl };
          };
      few_sent = omega arith;
      few_commits = omega arith;
    }
  where
    new_member : (i : ℕ) → i < 3 → get_or new_run.members i (office 0) ≡ before_events.shards i
    new_member zero k = refl
    new_member (suc zero) k = refl
    new_member (suc (suc zero)) k = refl
    new_member (suc (suc (suc i))) k = absurd (not-suc-le-zero (le_of_suc-le-suc (le_of_suc-le-suc (le_of_suc-le-suc k))))

-- ---- a call

module _ {run : OfficeRun} {w : RunSoFar Shard} {es : List RunEvent} (member : ℕ) (e : RunEvent) (c : Call) (short : length es < 5) (s : KeepsRun run w es) where
  abbrev next : RunSoFar Shard
  next = with_call engine_call heard_by w member c

  -- what the run holds after a call on a member, but for who has proposed
  answer_kept : member < 3
      → KeptAs (run_with_answer run member e (call_of (w.shards member) c)) next.shards (has_proposed w.past) (sent_in next.past) (es ++ (e ∷ []))
      (commits_in_order next.past)
  answer_kept below =
      let a : Answer = call_of (w.shards member) c in
      with_answer_lem member e a below (omega (arith, s.few_sent)) short (omega (arith, s.few_commits)) s.kept

  -- with who has proposed then, it keeps the run with the call
  keeps_next : (after : OfficeRun) → KeptAs after next.shards (has_proposed next.past) (sent_in next.past) (es ++ (e ∷ [])) (commits_in_order next.past)
      → KeepsRun after next (es ++ (e ∷ []))
  keeps_next after kept =
      let a : Answer = call_of (w.shards member) c in
      let one_more : length (es ++ (e ∷ [])) ≡ length es + 1 = length-append es (e ∷ []) in
      record {
        kept = kept;
        few_sent = omega (arith, one_more, s.few_sent, length-append (sent_in w.past) (sendings member (messages_of a.reply.messages)), three_at_most member a.reply.messages);
        few_commits = omega (arith, one_more, s.few_commits, length-append (commits_in_order w.past) (member_commits member a.reply.commit), commit_at_most member a.reply.commit);
      }

-- ---- the event tried

-- the trial gives a run exactly where the event may come next, and it is then the run with it
abbrev pub TrialAgrees : std.Option OfficeRun → Option (RunSoFar Shard) → List RunEvent → Type 0
TrialAgrees None none es = Unit {0}
TrialAgrees None (some w) es = ⊥
TrialAgrees (Some run) none es = ⊥
TrialAgrees (Some run) (some w) es = KeepsRun run w es

shard_kept : {run : OfficeRun} {w : RunSoFar Shard} {es : List RunEvent} (member : ℕ) → member < 3 → KeepsRun run w es → office_shard run member ≡ w.shards member
unfolding office_shard
shard_kept {run} member below s =
    ap (λ (t : Bool). cond t (get_or run.members member (office 0)) (office 0)) (lt-ltb member 3 below) ∙ s.kept.member member below

place_kept : {run : OfficeRun} {w : RunSoFar Shard} {es : List RunEvent} (place : ℕ) → place < 15 → place < run.sent.count → KeepsRun run w es
    → at_place (sent_in w.past) place ≡ some (sending_at run.sent place)
unfolding sending_at
place_kept {run} place few stands s =
    at_place_lem place no_sending s.kept.sent_kept stands few
    ∙ ap {B = Option Sending} (λ (t : Bool). some (cond t (get_or run.sent.places place no_sending) no_sending)) (sym (lt-ltb place 15 few))

value_kept : (member : ℕ) → member < 3 → value_proposed member ≡ value_of_member member
unfolding value_proposed
value_kept member below = ap (λ (t : Bool). cond t (value_of_member member) 10) (lt-ltb member 3 below)

-- a proposal of the member is one more, any other call is none
proposal_counts : (t p : Bool) → (p || t) ≡ ((t && true) || p)
proposal_counts true true = refl
proposal_counts true false = refl
proposal_counts false true = refl
proposal_counts false false = refl

delivery_counts_not : (t p : Bool) → p ≡ ((t && false) || p)
delivery_counts_not true p = refl
delivery_counts_not false p = refl

asked_proposal : (w : RunSoFar Shard) (member i : ℕ)
    → (has_proposed w.past i || eqb member i) ≡ has_proposed (with_call engine_call heard_by w member (Propose (value_of_member member))).past i
unfolding has_proposed
asked_proposal w member i = proposal_counts (eqb member i) (has_proposed w.past i)

asked_delivery : (w : RunSoFar Shard) (member : ℕ) (s : Sending) (i : ℕ)
    → has_proposed w.past i ≡ has_proposed (with_call engine_call heard_by w member (office_delivery engine_call heard_by w member s)).past i
unfolding has_proposed
asked_delivery w member s i = delivery_counts_not (eqb member i) (has_proposed w.past i)

-- the trial of a proposal, by whether the member has proposed and by the outcome
by_outcome : (after : OfficeRun) (w : RunSoFar Shard) (es : List RunEvent) (asked : Bool) (o : Outcome) → KeepsRun after w es
    → TrialAgrees (cond asked None (cond (is_done o) (Some after) None)) (cond asked none (some_if_done o w)) es
by_outcome after w es true o s = tt
by_outcome after w es false (Ok tt) s = s
by_outcome after w es false (Err why) s = tt

pub proposal_agrees : {run : OfficeRun} {w : RunSoFar Shard} {es : List RunEvent} (member : ℕ) → member < 3 → length es < 5 → KeepsRun run w es
    → TrialAgrees (trial_of run (Proposes member)) (extended_by engine_call heard_by w (Proposes member)) (es ++ (Proposes member ∷ []))
unfolding trial_of run_after_proposal run_if_taken extended_by
proposal_agrees {run} {w} {es} member below short s =
    let c : Call = Propose (value_of_member member) in
    let a : Answer = call_of (w.shards member) c in
    let after : OfficeRun = with_proposer (run_with_answer run member (Proposes member) a) member in
    let same : call_of (office_shard run member) (Propose (value_proposed member)) ≡ a =
    ap (λ (x : Shard). call_of x (Propose (value_proposed member))) (shard_kept member below s) ∙ ap (λ (v : ℕ). call_of (w.shards member) (Propose v)) (value_kept member below) in
    subst
    (λ (t : std.Option OfficeRun). TrialAgrees t (extended_by engine_call heard_by w (Proposes member)) (es ++ (Proposes member ∷ [])))
    (sym
    (ap (λ (p : Bool). cond p None (run_if_taken run member (call_of (office_shard run member) (Propose (value_proposed member))))) (s.kept.proposer member)
    ∙ ap (λ (x : Answer). cond (has_proposed w.past member) None (run_if_taken run member x)) same))
    (by_outcome after (with_call engine_call heard_by w member c) (es ++ (Proposes member ∷ [])) (has_proposed w.past member) a.reply.outcome
    (keeps_next member (Proposes member) c short s after
    (asked_as (has_proposed (with_call engine_call heard_by w member c).past) (asked_proposal w member)
    (with_proposer_lem member below (answer_kept member (Proposes member) c short s below)))))

-- the trial of a delivery, by whether the message was sent to the member
by_destination : (after : OfficeRun) (w : RunSoFar Shard) (es : List RunEvent) (sent : Bool) → KeepsRun after w es
    → TrialAgrees (cond sent (Some after) None) (cond sent (some w) none) es
by_destination after w es true s = s
by_destination after w es false s = tt

pub delivery_agrees : {run : OfficeRun} {w : RunSoFar Shard} {es : List RunEvent} (member place : ℕ) → member < 3 → length es < 5 → place < run.sent.count
    → KeepsRun run w es
    → TrialAgrees (trial_of run (Delivers member place)) (extended_by engine_call heard_by w (Delivers member place)) (es ++ (Delivers member place ∷ []))
unfolding trial_of after_delivery after_message extended_by
delivery_agrees {run} {w} {es} member place below short stands s =
    let few : place < 15 = omega (arith, stands, s.kept.sent_kept.counted, s.few_sent, short) in
    let x : Sending = sending_at run.sent place in
    let c : Call = office_delivery engine_call heard_by w member x in
    let after : OfficeRun = run_with_answer run member (Delivers member place) (call_of (w.shards member) c) in
    subst
    (λ (o : Option (RunSoFar Shard)). TrialAgrees (trial_of run (Delivers member place)) o (es ++ (Delivers member place ∷ [])))
    (sym (ap (with_delivery engine_call heard_by w member) (place_kept place few stands s)))
    (subst
    (λ (t : std.Option OfficeRun). TrialAgrees t (with_delivery engine_call heard_by w member (some x)) (es ++ (Delivers member place ∷ [])))
    (sym
    (ap (λ (b : Bool). cond b (cond (is_sent_to x member) (Some (after_message run member place x)) None) None) (lt-ltb place run.sent.count stands)
    ∙ ap (λ (shard : Shard). cond (is_sent_to x member) (Some (run_with_answer run member (Delivers member place) (call_of shard (Receive (heard_by shard x.outgoing.message))))) None)
    (shard_kept member below s)))
    (by_destination after (with_call engine_call heard_by w member c) (es ++ (Delivers member place ∷ [])) (is_sent_to x member)
    (keeps_next member (Delivers member place) c short s after
    (asked_as (has_proposed (with_call engine_call heard_by w member c).past) (asked_delivery w member x) (answer_kept member (Delivers member place) c short s below)))))

-- The log of a run, and demand 3's claim on it (document 01, "Group runs (demand 3)"; group's Claim.antt has the claim on runs). Events
-- stand in their order: es has them, and the first n count.
-- Assumes nothing.
use Rattle.std.specs.Prelude.{◌≡◌, ◌↔◌, Bool, true, false, cond, ◌&&◌, ◌||◌, List, ℕ, zero, suc, ◌+◌, ◌<◌, min, eqb, ltb, get_or, set, replicate, take, length}
use Rattle.group_runs.specs.declared.run_checks.Event.{Event}
use Rattle.group_runs.specs.declared.run_checks.Kind.{Kind}
use Rattle.group_runs.specs.declared.run_checks.Kind.TheVariants.{Proposal, Commit}
use Rattle.group_runs.specs.declared.run_checks.Log.{Log}

abbrev pub proposal_event : ℕ → ℕ → ℕ → Event
proposal_event p s x = record { kind = Proposal; member = p; slot = s; v = x }

abbrev pub commit_event : ℕ → ℕ → ℕ → Event
commit_event p s x = record { kind = Commit; member = p; slot = s; v = x }

abbrev pub is_commit_kind : Kind → Bool
is_commit_kind Proposal = false
is_commit_kind Commit = true

abbrev pub is_commit : Event → Bool
is_commit x = is_commit_kind x.kind

abbrev pub no_event : Event
no_event = proposal_event 0 0 0

abbrev pub event_at : List Event → ℕ → Event
event_at es i = get_or es i no_event

-- ---- the claim, in document 01's words

-- "A member's slot at a call is the number of commits that its earlier calls in the list handed back."
abbrev pub is_commit_of : ℕ → Event → Bool
is_commit_of p x = is_commit x && eqb x.member p

unfoldable pub slot_of : ℕ → List Event → ℕ → ℕ
slot_of p es zero = 0
slot_of p es (suc i) = cond (is_commit_of p (event_at es i)) (slot_of p es i + 1) (slot_of p es i)

-- the event at place i is a commit
abbrev pub CommitEventAt : List Event → ℕ → ℕ → Type 0
CommitEventAt es n i = (i < n) × (is_commit (event_at es i) ≡ true)

-- "A value counts as proposed in a slot where a proposal of it, not refused, was made to a member at that slot, in the very call that
-- commits the value or in an earlier one." A call's proposal stands before its commit.
pub record ProposedBefore (es : List Event) (i : ℕ) : Type 0 where
  pub at : ℕ
  pub earlier : at < i
  pub proposal : is_commit (event_at es at) ≡ false
  pub slot : (event_at es at).slot ≡ (event_at es i).slot
  pub v : (event_at es at).v ≡ (event_at es i).v

-- Any two commits are equal in slot and value exactly when they name the same slot; each value was proposed in that slot; and each commit
-- is of its member's slot.
pub record LogClaim (es : List Event) (n : ℕ) : Type 0 where
  pub agree : (i j : ℕ) → CommitEventAt es n i → CommitEventAt es n j
      → ((event_at es i).slot ≡ (event_at es j).slot) ↔ (((event_at es i).slot ≡ (event_at es j).slot) × ((event_at es i).v ≡ (event_at es j).v))
  pub proposed : (i : ℕ) → CommitEventAt es n i → ProposedBefore es i
  pub own_slot : (i : ℕ) → CommitEventAt es n i → (event_at es i).slot ≡ slot_of (event_at es i).member es i

-- ---- the check

-- the commit e and an earlier event: where that is a commit of the slot, it has the value
unfoldable pub agrees_with_commit : Event → Event → Bool
agrees_with_commit e x = cond (is_commit x) (cond (eqb x.slot e.slot) (eqb x.v e.v) true) true

-- the earlier event is a proposal of the commit's value in its slot
abbrev pub is_same : Event → Event → Bool
is_same e x = eqb x.slot e.slot && eqb x.v e.v

unfoldable pub is_proposal_of : Event → Event → Bool
is_proposal_of e x = cond (is_commit x) false (is_same e x)

unfoldable pub all_agree : Event → List Event → ℕ → Bool
all_agree e es zero = true
all_agree e es (suc i) = all_agree e es i && agrees_with_commit e (event_at es i)

unfoldable pub one_proposes : Event → List Event → ℕ → Bool
one_proposes e es zero = false
one_proposes e es (suc i) = one_proposes e es i || is_proposal_of e (event_at es i)

-- what the first i events allow: each proposal, and a commit that agrees, was proposed, and is of its member's slot
unfoldable pub events_allow : Event → List Event → ℕ → Bool
events_allow e es i = cond (is_commit e) (all_agree e es i && one_proposes e es i && eqb (slot_of e.member es i) e.slot) true

unfoldable pub passes : List Event → ℕ → Bool
passes es zero = true
passes es (suc i) = passes es i && events_allow (event_at es i) es i

-- ---- writing the log

abbrev pub new_log : Log
new_log = record { events = replicate 256 no_event; count = 0 }

-- the log with one more event, where there is room for it
unfoldable pub logged : Log → Event → Log
logged l e = cond (ltb l.count 256) (record { events = set l.events l.count e; count = l.count + 1 }) l

-- the events that are kept, whatever number stands in count
unfoldable pub log_events : Log → List Event
log_events l = take (min l.count 256) l.events

abbrev pub slot_in : Log → ℕ → ℕ
slot_in l p = slot_of p (log_events l) (length (log_events l))

-- The theorems of E12 for the engine: what is listed, in which order, and that each listed run is one of demand 3's claim with these commits.
-- Assumes nothing.
use mathlib.Core.Path.{◌≡◌, refl, sym, ap, subst, ◌∙◌}
use mathlib.Core.Logic.{◌⊎◌, inl, inr, ◌↔◌}
use mathlib.Core.List.{List, [], ◌∷◌, ◌++◌}
use mathlib.Core.Option.{Option, get_or}
use Prim.Native.Nat.{ℕ, zero, suc, ◌≤◌}
use lib.ListN.{length}
use Rattle.basics.specs.Lists.{In}
use Rattle.steps.specs.declared.Outgoing.{Outgoing}
use Rattle.consensus.specs.declared.Shard.{Shard}
use Rattle.group.specs.Claim.{Entry, messages_of, WasSent, ours, LegalFrom, Legal, entries_from, entries, Claim, LegalMade, entries_made}
use Rattle.group.proofs.Agreement.{agreement}
use Rattle.enabled_runs.specs.declared.RunEvent.{RunEvent}
use Rattle.enabled_runs.specs.declared.Sending.{Sending}
use Rattle.enabled_runs.specs.Enabled.{RunSoFar, sendings, sent_in, StandsAt, WasSentTo, Enabled, ends, proposes, delivers, calls_of_events}
use Rattle.enabled_runs.specs.Listing.{all_sent, extended_by, after_run}
use Rattle.enabled_runs.specs.Order.{RunsInOrder, Once, Extends}
use Rattle.enabled_runs.specs.Offices.{three_offices, heard_by, engine_call, before_events, EnabledRun, short_runs, run_past}
use Rattle.enabled_runs.proofs.Lists.{in_either}
use Rattle.enabled_runs.proofs.Enabling.{listed_iff_enabled, listed_in_order, tried_proposal, tried_delivery}
use Rattle.enabled_runs.proofs.Ordering.{order_once, followed_at_once}

-- ---- what is listed

-- "Each run stands there one time and none is missing."
pub listed_exactly : (run : List RunEvent) → In run short_runs ↔ ((1 ≤ length run) × (length run ≤ 5) × EnabledRun run)
listed_exactly run = listed_iff_enabled engine_call heard_by 5 before_events run

pub listed_once : Once short_runs
listed_once = order_once short_runs (listed_in_order engine_call heard_by 5 before_events)

pub runs_in_order : RunsInOrder short_runs
runs_in_order = listed_in_order engine_call heard_by 5 before_events

-- "Each run is followed at once by those that extend it": whatever stands between a run and one that extends it extends it too.
pub extensions_at_once : (earlier runs later : List (List RunEvent)) (r y : List RunEvent) → short_runs ≡ earlier ++ (r ∷ (runs ++ (y ∷ later))) → Extends r y
    → (x : List RunEvent) → In x runs → Extends r x
extensions_at_once earlier runs later r y e ext = followed_at_once earlier runs later r y (subst RunsInOrder e runs_in_order) ext

-- ---- listed runs are runs of the claim

stands_in : {A : Type 0} (x : A) (k : ℕ) (xs : List A) → StandsAt x k xs → In x xs
stands_in x k [] h = absurd h
stands_in x zero (y ∷ xs) h = inl h
stands_in x (suc k) (y ∷ xs) h = inr (stands_in x k xs h)

abbrev HandedBack : List Entry → Sending → Type 0
HandedBack past s = (e : Entry) × In e past × (e.member ≡ s.source) × In s.outgoing (messages_of e.reply.messages)

from_sendings : (source : ℕ) (os : List Outgoing) (s : Sending) → In s (sendings source os) → (source ≡ s.source) × In s.outgoing os
from_sendings source [] s i = absurd i
from_sendings source (o ∷ os) s (inl p) = (ap (λ (t : Sending). t.source) (sym p), inl (ap (λ (t : Sending). t.outgoing) p))
from_sendings source (o ∷ os) s (inr i) = let f = from_sendings source os s i in (f.0, inr f.1)

handed_back : (past : List Entry) (s : Sending) → In s (sent_in past) → HandedBack past s
handed_back [] s i = absurd i
handed_back (e ∷ past) s i = go (λ j. handed_back past s j) (in_either s (sent_in past) (sendings e.member (messages_of e.reply.messages)) i)
  where
    go : (In s (sent_in past) → HandedBack past s) → In s (sent_in past) ⊎ In s (sendings e.member (messages_of e.reply.messages)) → HandedBack (e ∷ past) s
    go earlier (inl j) = let f = earlier j in (f.0, inr f.1, f.2, f.3)
    go earlier (inr j) = let f = from_sendings e.member (messages_of e.reply.messages) s j in (e, inl refl, f.0, f.1)

-- a sent message at a place, sent to the member, was sent to it in the claim's sense
pub was_sent : (past : List Entry) (place : ℕ) (s : Sending) (member : ℕ) → StandsAt s place (sent_in past) → WasSentTo s member
    → WasSent past s.outgoing.message member
was_sent past place s member stands sent =
    let f = handed_back past s (stands_in s place (sent_in past) stands) in
    (f.0, s.outgoing, f.1, f.2 ∙ sent.0, f.3, refl, sent.1)

legal_from : {w : RunSoFar Shard} {es : List RunEvent} (h : Enabled engine_call heard_by w es)
    → LegalFrom 3 ours w.shards w.past (calls_of_events engine_call heard_by h)
unfolding LegalMade calls_of_events
legal_from ends = tt
legal_from {w} (proposes member below new done rest) = (below, tt, legal_from rest)
legal_from {w} (delivers member place s below stands sent rest) = (below, was_sent w.past place s member stands sent, legal_from rest)

-- Each listed run is legal for the claim of demand 3.
pub listed_legal : (run : List RunEvent) (i : In run short_runs) → Legal three_offices (calls_of_events engine_call heard_by ((listed_exactly run).0 i).2)
listed_legal run i = legal_from ((listed_exactly run).0 i).2

-- ---- and its commits are the run's

past_from : {w : RunSoFar Shard} {es : List RunEvent} (h : Enabled engine_call heard_by w es)
    → (after_run (all_sent engine_call heard_by) (extended_by engine_call heard_by) w es).past ≡ entries_from ours w.shards w.past (calls_of_events engine_call heard_by h)
unfolding after_run calls_of_events entries_made
past_from ends = refl
past_from {w} (proposes {es = es} member below new done rest) =
    ap (λ (o : Option (RunSoFar Shard)). (after_run (all_sent engine_call heard_by) (extended_by engine_call heard_by) (get_or o w) es).past)
    (tried_proposal engine_call heard_by w member new done)
    ∙ past_from rest
past_from {w} (delivers {es = es} member place s below stands sent rest) =
    ap (λ (o : Option (RunSoFar Shard)). (after_run (all_sent engine_call heard_by) (extended_by engine_call heard_by) (get_or o w) es).past)
    (tried_delivery engine_call heard_by w member place s stands sent)
    ∙ past_from rest

-- What the listing takes a run's commits from is what the claim says that the run's calls handed back.
pub listed_past : (run : List RunEvent) (i : In run short_runs) → run_past run ≡ entries three_offices (calls_of_events engine_call heard_by ((listed_exactly run).0 i).2)
listed_past run i = past_from ((listed_exactly run).0 i).2

-- So demand 3 holds of every line.
pub listed_claim : (run : List RunEvent) → In run short_runs → Claim (run_past run)
listed_claim run i =
    subst Claim (sym (listed_past run i)) (agreement three_offices tt (calls_of_events engine_call heard_by ((listed_exactly run).0 i).2) (listed_legal run i))

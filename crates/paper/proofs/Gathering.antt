-- The proposer over a list of calls: a gatherer that takes Prepares of one number, and has sent nothing yet, proposes with the next one as the paper's
-- proposer that has every report since it was in the number.
-- Assumes nothing.
use Rattle.std.specs.Prelude.{Option as Optional, None, Some}
use Rattle.steps.specs.declared.Outgoing.{Outgoing}
use mathlib.Core.Path.{◌≡◌, refl, sym, ap, ◌∙◌}
use mathlib.Core.Bool.{Bool, true, false}
use mathlib.Core.List.{List, [], ◌∷◌, ◌++◌}
use mathlib.Core.Option.{Option, none, some}
use Prim.Native.Nat.{ℕ}
use Rattle.basics.proofs.Tests.{not_both}
use Rattle.paxos.specs.PaxosMadeSimple.{Proposal, proposes}
use Rattle.message.specs.Modes.{has_fast_path}
use Rattle.message.specs.Rounds.{round_before}
use Rattle.message.specs.declared.PaxosRound.{PaxosRound}
use Rattle.message.specs.declared.RoundV.{RoundV}
use Rattle.settings.specs.Settings.{within_limits}
use Rattle.settings.specs.declared.Settings.{Settings}
use Rattle.steps.specs.declared.SentMessages.{SentMessages}
use Rattle.calls.specs.declared.delivery.Delivery.{Delivery}
use Rattle.calls.specs.declared.Call.TheVariants.{Receive}
use Rattle.fast_state.specs.Adopt.{lowest_best}
use Rattle.consensus.specs.Call.{call_of}
use Rattle.consensus.specs.declared.Shard.{Shard}
use Rattle.consensus.proofs.Decided.{settings_kept}
use Rattle.paper.specs.Replica.{Replica, keeps_something, proposer_in, newly, hears}
use Rattle.paper.specs.PaperCall.{in_places, Seen, Place, place_of, seen, requesting, replica_in}
use Rattle.paper.specs.Runs.{HeardPromise, hears_all, with_all, PromiseAtProposer, response_of, Gathered, nothing_yet, one_more}
use Rattle.paper.proofs.Consequences.{heard_keeps, heard_last}
use Rattle.paper.proofs.Roles.{proposer_proposes, proposer_proposes_of_all}

abbrev is_sent : Optional Outgoing → Bool
is_sent None = false
is_sent (Some m) = true

-- where nothing is sent, the promise was heard and nothing else happened
abbrev Quiet : Replica → Seen → Type 0
Quiet r s = s.messages ≡ in_places [] → s.replica ≡ r

quiet : (here : Place) (r : Replica) (o : Option (Proposal PaxosRound ℕ)) → Quiet r (requesting here r o)
unfolding requesting
quiet here r none = λ f. refl
quiet here r (some p) = λ f. absurd (not_both refl (ap (λ (m : SentMessages). is_sent m.first) f))

module _ (n : PaxosRound) (first : Shard) (classic : has_fast_path first.settings.mode ≡ false) (within : within_limits first.settings ≡ true)
    (keeps : keeps_something (replica_in first) ≡ true) (entry : (replica_in first).acceptor.responded ≡ some n) where
  abbrev me : ℕ
  me = first.settings.my_pid

  abbrev acceptors : ℕ
  acceptors = first.settings.replica_count

  pub record Since (ps : List HeardPromise) (shard : Shard) : Type 0 where
    pub settings : shard.settings ≡ first.settings
    pub heard : replica_in shard ≡ hears_all me (replica_in first) ps

  responded_kept : (r : Replica) (ps : List HeardPromise) → (hears_all me r ps).acceptor.responded ≡ r.acceptor.responded
  unfolding hears
  responded_kept r [] = refl
  responded_kept r (p ∷ ps) = responded_kept (hears me p.src p.brought r) ps

  -- what the theorems on one call ask of a shard on the way
  module _ (ps : List HeardPromise) (shard : Shard) (s : Since ps shard) where
    classic_since : has_fast_path shard.settings.mode ≡ false
    classic_since = ap (λ (x : Settings). has_fast_path x.mode) s.settings ∙ classic

    within_since : within_limits shard.settings ≡ true
    within_since = ap within_limits s.settings ∙ within

    keeps_since : keeps_something (replica_in shard) ≡ true
    keeps_since = ap keeps_something s.heard ∙ heard_keeps me (replica_in first) ps keeps

    entry_since : (replica_in shard).acceptor.responded ≡ some n
    entry_since = ap (λ (r : Replica). r.acceptor.responded) s.heard ∙ responded_kept (replica_in first) ps ∙ entry

    -- a promise that sends nothing was heard
    heard_more : (d : Delivery) (rv : RoundV) → PromiseAtProposer n shard d rv → (call_of shard (Receive d)).reply.messages ≡ in_places []
        → Since (ps ++ (response_of d rv ∷ [])) (call_of shard (Receive d)).shard
    heard_more d rv p sent =
        record {
          settings = settings_kept lowest_best shard (Receive d) ∙ s.settings;
          heard =
              ap (λ (x : Seen). x.replica) call
              ∙ quiet here (hears shard.settings.my_pid d.message.src rv (replica_in shard)) request
              (sym (ap (λ (x : Seen). x.messages) call) ∙ sent)
              ∙ ap (λ (x : Settings). hears x.my_pid d.message.src rv (replica_in shard)) s.settings
              ∙ ap (hears me d.message.src rv) s.heard
              ∙ heard_last me (replica_in first) ps d.message.src rv;
        }
      where
        here : Place
        here = place_of shard

        count : ℕ
        count = shard.settings.replica_count

        request : Option (Proposal PaxosRound ℕ)
        request =
            newly (proposes round_before count (proposer_in n (replica_in shard)))
            (proposes round_before count (proposer_in n (hears shard.settings.my_pid d.message.src rv (replica_in shard))))

        call : seen (call_of shard (Receive d)) ≡ requesting here (hears shard.settings.my_pid d.message.src rv (replica_in shard)) request
        call =
            proposer_proposes shard classic_since within_since d p.slot n p.handled rv p.message p.gatherer keeps_since entry_since

    -- and the next one is answered by the paper's proposer with all of them
    next_proposes : (d : Delivery) (rv : RoundV) → PromiseAtProposer n shard d rv
        → seen (call_of shard (Receive d))
        ≡ requesting (place_of shard) (hears_all me (replica_in first) (ps ++ (response_of d rv ∷ [])))
        (newly (proposes round_before acceptors (with_all me n (replica_in first) ps))
        (proposes round_before acceptors (with_all me n (replica_in first) (ps ++ (response_of d rv ∷ [])))))
    next_proposes d rv p =
        proposer_proposes_of_all shard classic_since within_since d p.slot n p.handled rv p.message p.gatherer entry_since
        (replica_in first) ps keeps
        (s.heard ∙ ap (λ (x : Settings). hears_all x.my_pid (replica_in first) ps) (sym s.settings))
        ∙ ap (λ (x : Settings). requesting here (hears x.my_pid d.message.src rv (replica_in shard)) (request x.my_pid x.replica_count))
        s.settings
        ∙ ap (λ (x : Replica). requesting here x (request me acceptors))
        (ap (hears me d.message.src rv) s.heard ∙ heard_last me (replica_in first) ps d.message.src rv)
      where
        here : Place
        here = place_of shard

        request : ℕ → ℕ → Option (Proposal PaxosRound ℕ)
        request own count =
            newly (proposes round_before count (with_all own n (replica_in first) ps))
            (proposes round_before count (with_all own n (replica_in first) (ps ++ (response_of d rv ∷ []))))

  gathered_since : (ps : List HeardPromise) (shard : Shard) → Gathered n first ps shard → Since ps shard
  gathered_since ps shard nothing_yet = record { settings = refl; heard = refl }
  gathered_since ps shard (one_more {ps = qs} {shard = before} d rv g p sent) = heard_more qs before (gathered_since qs before g) d rv p sent

  -- Phase 2 (a) over a list of calls: a gatherer that was in the number and has since taken the promises ps, and sent nothing, takes one more. It
  -- then makes the proposal of the paper's proposer with all the reports, exactly where that one proposes and did not before.
  pub gathered_proposes : (ps : List HeardPromise) (shard : Shard) → Gathered n first ps shard → (d : Delivery) (rv : RoundV) → PromiseAtProposer n shard d rv
      → seen (call_of shard (Receive d))
      ≡ requesting (place_of shard) (hears_all me (replica_in first) (ps ++ (response_of d rv ∷ [])))
      (newly (proposes round_before acceptors (with_all me n (replica_in first) ps))
      (proposes round_before acceptors (with_all me n (replica_in first) (ps ++ (response_of d rv ∷ [])))))
  gathered_proposes ps shard g d rv p = next_proposes ps shard (gathered_since ps shard g) d rv p

-- The listing (document 02, E12), over any kind of run, count of its sent messages and way to extend it by an event; then over any call on a shard and
-- any host.
-- Assumes nothing.
use Rattle.std.specs.Prelude.{Bool, true, false, cond, not, ◌&&◌, ◌||◌, List, [], ◌∷◌, ◌++◌, ℕ, zero, suc, eqb, length, Ok, Err}
use Rattle.message.specs.Outcomes.{Outcome}
use Rattle.std.proofs.Math.Option.{Option, none, some, get_or}
use Rattle.message.specs.declared.ConsensusMessage.{ConsensusMessage}
use Rattle.message.specs.declared.ConsensusMsg.{ConsensusMsg}
use Rattle.message.specs.declared.ConsensusMsg.TheVariants.{Prepare, Accept, ForwardRequest, Commit, ReadRequest, ReadResponse}
use Rattle.steps.specs.declared.Destination.{Destination}
use Rattle.steps.specs.declared.Destination.TheVariants.{One, All}
use Rattle.calls.specs.Decision.{is_proposal}
use Rattle.calls.specs.declared.delivery.Delivery.{Delivery}
use Rattle.calls.specs.declared.Call.{Call}
use Rattle.calls.specs.declared.Call.TheVariants.{Propose, StartRead, Receive}
use Rattle.calls.specs.declared.Reply.{Reply}
use Rattle.group.specs.Claim.{Entry}
use Rattle.enabled_runs.specs.declared.RunEvent.{RunEvent}
use Rattle.enabled_runs.specs.declared.RunEvent.TheVariants.{Proposes, Delivers}
use Rattle.enabled_runs.specs.declared.Sending.{Sending}
use Rattle.enabled_runs.specs.Enabled.{RunSoFar, sent_in, with_call, office_proposal, office_delivery}

-- what f gives for 0, 1 and so on below n, joined
unfoldable pub each_below : {A : Type 0} → ℕ → (ℕ → List A) → List A
each_below zero f = []
each_below (suc n) f = each_below n f ++ f n

-- the runs with an event in front
abbrev pub in_front : RunEvent → List (List RunEvent) → List (List RunEvent)
in_front e [] = []
in_front e (run ∷ runs) = (e ∷ run) ∷ in_front e runs

module _ {W : Type 0} (sent_count : W → ℕ) (extend : W → RunEvent → Option W) where
  -- the run with the event, if it may come next, "followed at once by those that extend it"
  unfoldable pub block : (W → List (List RunEvent)) → RunEvent → Option W → List (List RunEvent)
  block rest e none = []
  block rest e (some w) = (e ∷ []) ∷ in_front e (rest w)

  -- the runs of at most so many events, "with proposals before deliveries, by member, then by the sent message's place in time"
  unfoldable pub listing : ℕ → W → List (List RunEvent)
  listing zero w = []
  listing (suc left) w =
      each_below 3 (λ member. block (listing left) (Proposes member) (extend w (Proposes member)))
      ++ each_below 3 (λ member. each_below (sent_count w) (λ place. block (listing left) (Delivers member place) (extend w (Delivers member place))))

  -- after the events
  unfoldable pub after_run : W → List RunEvent → W
  after_run w [] = w
  after_run w (e ∷ es) = after_run (get_or (extend w e) w) es

-- ---- the run with an event more

unfoldable pub at_place : {A : Type 0} → List A → ℕ → Option A
at_place [] k = none
at_place (x ∷ xs) zero = some x
at_place (x ∷ xs) (suc k) = at_place xs k

abbrev pub is_reached : ℕ → Destination → ℕ → Bool
is_reached source (One p) member = eqb p member
is_reached source (All first) member = not (eqb source member)

unfoldable pub is_commit_message : ConsensusMsg → Bool
is_commit_message (Prepare slot round rv) = false
is_commit_message (Accept slot round v) = false
is_commit_message (ForwardRequest v) = false
is_commit_message (Commit slot v) = true
is_commit_message (ReadRequest id) = false
is_commit_message (ReadResponse id next) = false

-- "a Commit counts as sent to every other member"
abbrev pub goes_to : ℕ → Destination → ℕ → ConsensusMsg → Bool
goes_to source destination member msg = cond (is_commit_message msg) (not (eqb source member)) (is_reached source destination member)

-- whether the message was sent to the member
unfoldable pub is_sent_to : Sending → ℕ → Bool
is_sent_to s member =
    cond (eqb s.source s.outgoing.message.src)
    (goes_to s.outgoing.message.src s.outgoing.destination member s.outgoing.message.msg)
    false

unfoldable pub has_proposed : List Entry → ℕ → Bool
has_proposed [] member = false
has_proposed (e ∷ past) member = (eqb e.member member && is_proposal e.call) || has_proposed past member

abbrev pub some_if_done : {A : Type 0} → Outcome → A → Option A
some_if_done (Ok tt) x = some x
some_if_done (Err why) x = none

module _ {S : Type 0} (call : S → Call → S × Reply) (host : S → ConsensusMessage → Delivery) where
  abbrev pub all_sent : RunSoFar S → ℕ
  all_sent w = length (sent_in w.past)

  abbrev pub with_delivery : RunSoFar S → ℕ → Option Sending → Option (RunSoFar S)
  with_delivery w member none = none
  with_delivery w member (some s) = cond (is_sent_to s member) (some (with_call call host w member (office_delivery call host w member s))) none

  unfoldable pub extended_by : RunSoFar S → RunEvent → Option (RunSoFar S)
  extended_by w (Proposes member) =
      cond (has_proposed w.past member) none
      (some_if_done (call (w.shards member) (office_proposal call host member)).1.outcome (with_call call host w member (office_proposal call host member)))
  extended_by w (Delivers member place) = with_delivery w member (at_place (sent_in w.past) place)

  -- every run of at most so many events
  abbrev pub runs_from : ℕ → RunSoFar S → List (List RunEvent)
  runs_from = listing all_sent extended_by

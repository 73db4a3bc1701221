-- Enabled runs (document 02, E12), over any call on a shard and any host. Nothing of the lister is used here but the types of an event and of a
-- sent message.
-- Assumes nothing.
use Rattle.std.specs.Prelude.{◌≡◌, cond, List, [], ◌∷◌, ◌++◌, ℕ, zero, suc, ◌+◌, ◌<◌, eqb, Ok}
use Rattle.basics.specs.Lists.{In}
use Rattle.message.specs.declared.ConsensusMessage.{ConsensusMessage}
use Rattle.steps.specs.declared.Outgoing.{Outgoing}
use Rattle.calls.specs.declared.delivery.Delivery.{Delivery}
use Rattle.calls.specs.declared.Call.{Call}
use Rattle.calls.specs.declared.Call.TheVariants.{Propose, Receive}
use Rattle.calls.specs.declared.Reply.{Reply}
use Rattle.group.specs.Claim.{Entry, MemberCall, messages_of, SentTo}
use Rattle.enabled_runs.specs.declared.RunEvent.{RunEvent}
use Rattle.enabled_runs.specs.declared.RunEvent.TheVariants.{Proposes, Delivers}
use Rattle.enabled_runs.specs.declared.Sending.{Sending}

-- a run so far: the shard of each member, and what the calls handed back, the latest first
pub record RunSoFar (S : Type 0) : Type 0 where
  pub shards : ℕ → S
  pub past : List Entry

-- ---- sent messages

abbrev pub sendings : ℕ → List Outgoing → List Sending
sendings source [] = []
sendings source (o ∷ os) = record { source = source; outgoing = o } ∷ sendings source os

-- all sent messages, in time order
abbrev pub sent_in : List Entry → List Sending
sent_in [] = []
sent_in (e ∷ past) = sent_in past ++ sendings e.member (messages_of e.reply.messages)

-- x stands at the place of the list, "from 0"
abbrev pub StandsAt : {A : Type 0} → A → ℕ → List A → Type 0
StandsAt x k [] = ⊥
StandsAt x zero (y ∷ ys) = x ≡ y
StandsAt x (suc k) (y ∷ ys) = StandsAt x k ys

-- "one member it was sent to", as the claim has it (document 01, "Group runs"): the message gives the member that was called as its source, and
-- a Commit counts as sent to every other member
abbrev pub WasSentTo : Sending → ℕ → Type 0
WasSentTo s member = (s.source ≡ s.outgoing.message.src)
    × SentTo s.outgoing.message.src s.outgoing.destination member s.outgoing.message.msg

-- ---- proposals

-- "member 0, 1 or 2 proposes value 10, 11 or 12"
abbrev pub value_of_member : ℕ → ℕ
value_of_member member = 10 + member

abbrev pub HasProposed : List Entry → ℕ → Type 0
HasProposed past member = (e : Entry) × (v : ℕ) × In e past × (e.member ≡ member) × (e.call ≡ Propose v)

-- ---- runs

module _ {S : Type 0} (call : S → Call → S × Reply) (host : S → ConsensusMessage → Delivery) where
  -- the run with a call more
  abbrev pub with_call : RunSoFar S → ℕ → Call → RunSoFar S
  with_call w member c =
      record {
        shards = λ j. cond (eqb j member) (call (w.shards member) c).0 (w.shards j);
        past = record { member = member; call = c; reply = (call (w.shards member) c).1 } ∷ w.past;
      }

  abbrev pub office_proposal : ℕ → Call
  office_proposal member = Propose (value_of_member member)

  abbrev pub office_delivery : RunSoFar S → ℕ → Sending → Call
  office_delivery w member s = Receive (host (w.shards member) s.outgoing.message)

  -- the events that may follow a run, one after another: "an event being a member's one proposal, where it is not refused, or the delivery of
  -- one sent message to one member it was sent to"; "a message may be delivered again, and a refused delivery is an event"
  pub data Enabled : RunSoFar S → List RunEvent → Type 0 where
    ends : {w : RunSoFar S} → Enabled w []
    proposes : {w : RunSoFar S} {es : List RunEvent} (member : ℕ) → member < 3 → (HasProposed w.past member → ⊥)
        → (call (w.shards member) (office_proposal member)).1.outcome ≡ Ok tt → Enabled (with_call w member (office_proposal member)) es
        → Enabled w (Proposes member ∷ es)
    delivers : {w : RunSoFar S} {es : List RunEvent} (member place : ℕ) (s : Sending) → member < 3 → StandsAt s place (sent_in w.past) → WasSentTo s member
        → Enabled (with_call w member (office_delivery w member s)) es → Enabled w (Delivers member place ∷ es)

  -- the calls of a run
  unfoldable pub calls_of_events : {w : RunSoFar S} {es : List RunEvent} → Enabled w es → List MemberCall
  calls_of_events ends = []
  calls_of_events (proposes member below new done rest) = record { member = member; call = office_proposal member } ∷ calls_of_events rest
  calls_of_events {w} (delivers member place s below stands sent rest) = record { member = member; call = office_delivery w member s } ∷ calls_of_events rest

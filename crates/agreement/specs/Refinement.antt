-- What is asked of an engine, in equations alone: each of its calls, seen as the model's, is the model's call, or has no part in the agreement.
-- Assumes nothing.
use Rattle.std.specs.Prelude.{ℕ, suc, ◌≤◌, ◌<◌, ◌≡◌, not, cond, ◌⊎◌, List, [], ◌∷◌, T}
use Rattle.agreement.specs.Voting.{VotersRules}
use Rattle.agreement.specs.Model.{View, ModelSetup, ModelMessage, other, ModelOutgoing, Host, undecided, ModelOutcome, model_initial, model_refused, model_on_propose, model_on_message}
use Rattle.agreement.specs.Engine.{CallKind, proposes, delivers, reads, Envelope, EngineAnswer, Engine}

-- what is asked of the settings: where slots start in a led round, it is a round; elsewhere a member proposes in a round after the
-- starting one, on the fast path in that of its number; and the rules of the voters
pub record SetupRules (S : ModelSetup) : Type 0 where
  pub starts_in_round : T S.starts_led → 1 ≤ S.voters.start
  pub own_round_later : T (not S.starts_led) → (i : ℕ) → S.voters.start < S.own_round i
  pub own_round_fast : T S.voters.fast_path → (i : ℕ) → S.own_round i ≡ suc i
  pub voters : VotersRules S.voters

-- the model's calls: member i is asked to propose a value, or is handed a message from a source
pub data ModelCall : Type 0 where
  propose : ℕ → ℕ → Host → ModelCall
  deliver : ℕ → ℕ → ModelMessage → Host → ModelCall

-- what the model makes of a call; the host may refuse any
unfoldable pub model_outcome : ModelSetup → View → ModelCall → ModelOutcome
model_outcome S x (propose i v h) = cond h.allows (model_on_propose S i x v) (model_refused x)
model_outcome S x (deliver i source c h) = cond h.allows (model_on_message S i x source h c) (model_refused x)

-- an engine's messages and answers, seen as the model's
abbrev pub meanings : {M : Type 0} → (M → ModelMessage) → List (Envelope M) → List ModelOutgoing
meanings f [] = []
meanings f (o ∷ os) = record { destination = o.destination; message = f o.message } ∷ meanings f os

abbrev pub seen_as_model : {A M : Type 0} → (A → View) → (M → ModelMessage) → EngineAnswer A M → ModelOutcome
seen_as_model view meaning a = record { view = view a.shard; outgoing = meanings meaning a.outgoing; decision = a.decision; taken = a.taken }

-- only messages that have no part in the agreement
abbrev pub OnlyOther : List ModelOutgoing → Type 0
OnlyOther [] = Unit {0}
OnlyOther (o ∷ os) = (o.message ≡ other) × OnlyOther os

-- r is what the model makes of a call of the kind on view x, with some host; a read, or the delivery of a message that has no part in the
-- agreement, may instead leave x as it is, commit nothing and send only such messages
abbrev pub AsModel : {M : Type 0} → (M → ModelMessage) → ModelSetup → ℕ → View → CallKind M → ModelOutcome → Type 0
AsModel meaning S i x (proposes v) r = (h : Host) × (r ≡ model_outcome S x (propose i v h))
AsModel meaning S i x (delivers source c) r = ((h : Host) × (r ≡ model_outcome S x (deliver i source (meaning c) h)))
    ⊎ ((meaning c ≡ other) × (r.view ≡ x) × (r.decision ≡ undecided) × OnlyOther r.outgoing)
AsModel meaning S i x reads r = (r.view ≡ x) × (r.decision ≡ undecided) × OnlyOther r.outgoing

-- The engine refines the model: how its shards and messages are seen, what its shards keep to, that it begins as the model does and that
-- each call is the model's.
pub record Refines (S : ModelSetup) (E : Engine) : Type 1 where
  pub view : E.Shard → View
  pub meaning : E.Message → ModelMessage
  pub Valid : ℕ → E.Shard → Type 0
  pub initial_view : (i : ℕ) → i < E.size → view (E.initial i) ≡ model_initial S.voters.start
  pub initial_valid : (i : ℕ) → i < E.size → Valid i (E.initial i)
  pub answer_valid : (c : E.Call) (x : E.Shard) → Valid (E.member c) x → Valid (E.member c) (E.answer x c).shard
  pub answer_as_model : (c : E.Call) (x : E.Shard) → Valid (E.member c) x → AsModel meaning S (E.member c) (view x) (E.kind c) (seen_as_model view meaning (E.answer x c))

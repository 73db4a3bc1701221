-- What stands for a call is read by a host as the reply of the call.
-- Assumes nothing.
use Rattle.std.specs.Prelude.{Ok, Err}
use Rattle.message.specs.Outcomes.{Outcome}
use mathlib.Core.Path.{◌≡◌, refl, sym, ap, ap₂, ◌∙◌}
use mathlib.Core.Logic.{inl, inr}
use Prim.Native.Nat.{ℕ}
use Rattle.arrays.specs.Told.{decoded_reply}
use Rattle.arrays.proofs.Told.{refused_read}
use Rattle.calls.specs.Replies.{refused_reply}
use Rattle.calls.specs.declared.Call.{Call}
use Rattle.calls.specs.declared.Reply.{Reply}
use Rattle.consensus.specs.Call.{call_of}
use Rattle.consensus.specs.FirstCause.{ByFirstCause}
use Rattle.consensus.specs.declared.Answer.{Answer}
use Rattle.consensus.specs.declared.Shard.{Shard}
use Rattle.consensus.proofs.Refusals.{by_first_cause}
use Rattle.direct.specs.Stands.{Memory, shard_of, call_in, HostAnswer, told_by, Stands, answer_to, CallIsMade}
use Rattle.direct.specs.declared.handlers.ReplyInArrays.{ReplyInArrays}
use Rattle.direct.proofs.handlers.Told.{reply_read}
use Rattle.fast_state.specs.Adopt.{lowest_best}
use Rattle.message.specs.declared.Refusal.{Refusal}
use Rattle.flat.specs.declared.FlatCall.{FlatCall}

-- a refusal hands back its number alone
refusal_alone : (shard : Shard) (c : Call) (why : Refusal) → (call_of shard c).reply.outcome ≡ Err why → (call_of shard c).reply ≡ refused_reply why
refusal_alone shard c why e = go (by_first_cause lowest_best shard c)
  where
    go : ByFirstCause lowest_best shard c (call_of shard c) → (call_of shard c).reply ≡ refused_reply why
    go (inl (done, none)) = (let same : Ok tt ≡ Err why = sym done ∙ e in cc)
    go (inr (first, alone, holds)) =
        let given : (call_of shard c).reply ≡ refused_reply first = ap (λ (a : Answer). a.reply) alone in
        let same : Err first ≡ Err why = sym (ap (λ (r : Reply). r.outcome) given) ∙ e in
        given ∙ ap (λ (o : Outcome). record { outcome = o; messages = (refused_reply why).messages; commit = (refused_reply why).commit; served_count = 0 }) same

module _ (m : Memory) (f : FlatCall) (w : ReplyInArrays) where
  abbrev made : Answer
  made = answer_to m f

  read_as : (x : HostAnswer) (o : Outcome) → made.reply.outcome ≡ o → Stands m w made o x → told_by x ≡ made.reply
  read_as x (Ok tt) done (number, stands, reply) =
      ap₂ (λ (n : ℕ) (v : ReplyInArrays). decoded_reply n v.first v.second v.third v.rest) number reply ∙ reply_read made.reply w done
  read_as x (Err why) refused same =
      ap (λ (y : HostAnswer). told_by y) same ∙ refused_read why w.first w.second w.third w.rest
      ∙ sym (refusal_alone (shard_of m) (call_in m f) why refused)

  pub made_by : (x : HostAnswer) → Stands m w made made.reply.outcome x → CallIsMade m f w x
  made_by x s = (s, read_as x made.reply.outcome refl s)

-- What is written into the arrays of a reply is read as the reply, whatever stood there before; and a refusal is read of its number, whatever stands there.
-- Assumes nothing.
use Rattle.std.specs.Prelude.{Option, None, Some, Ok, Err}
use mathlib.Core.Path.{◌≡◌, refl, ap}
use mathlib.Core.List.{List, [], ◌∷◌}
use Prim.Native.Nat.{ℕ}
use Rattle.message.specs.Refusals.{refusal_number}
use Rattle.message.specs.declared.Refusal.{Refusal}
use Rattle.steps.specs.declared.SentMessages.{SentMessages}
use Rattle.steps.specs.declared.Outgoing.{Outgoing}
use Rattle.calls.specs.declared.CommittedSlot.{CommittedSlot}
use Rattle.calls.specs.declared.Reply.{Reply}
use Rattle.flat.specs.Told.{decoded_outcome, decoded_outgoing}
use Rattle.flat.proofs.Told.{never_zero, refusal_read, outgoing_read, commit_read}
use Rattle.arrays.specs.Arrays.{outgoing_of, put_message, rest_numbers}
use Rattle.arrays.specs.Told.{reply_by, decoded_reply}

-- a message, or that there is none
put_read : (m : Option Outgoing) (l : List ℕ) → decoded_outgoing (outgoing_of (put_message m l)) ≡ m
unfolding put_message decoded_outgoing
put_read None [] = refl
put_read None (x ∷ l) = refl
put_read (Some o) l = outgoing_read (Some o)

-- what a taken call sends, commits and serves
module _ (messages : SentMessages) (commit : Option CommittedSlot) (served : ℕ) (first second third : List ℕ) where
  abbrev pub taken_reply : Reply
  taken_reply = record { outcome = Ok tt; messages = messages; commit = commit; served_count = served }

  pub taken_read : decoded_reply 0 (put_message messages.first first) (put_message messages.second second) (put_message messages.third third) (rest_numbers commit served) ≡ taken_reply
  unfolding decoded_outcome reply_by
  taken_read =
      simp (put_read messages.first first, put_read messages.second second, put_read messages.third third)
      (ap (λ (c : Option CommittedSlot). record { outcome = Ok tt; messages = messages; commit = c; served_count = served }) (commit_read commit))

-- a refusal's number is read as the refusal alone
pub refused_read : (why : Refusal) (first second third rest : List ℕ)
    → decoded_reply (refusal_number why) first second third rest ≡ record { outcome = Err why; messages = record { first = None; second = None; third = None }; commit = None; served_count = 0 }
unfolding decoded_outcome reply_by
refused_read why first second third rest = simp (never_zero why, refusal_read why)

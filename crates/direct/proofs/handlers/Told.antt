-- What is written of a reply that is not refused is read by a host as the reply, whatever stood in the arrays before.
-- Assumes nothing.
use Rattle.std.specs.Prelude.{Ok}
use mathlib.Core.Path.{◌≡◌, sym, ap, ◌∙◌}
use Rattle.arrays.specs.Told.{decoded_reply}
use Rattle.arrays.proofs.Told.{taken_read}
use Rattle.calls.specs.declared.Reply.{Reply}
use Rattle.message.specs.Outcomes.{Outcome}
use Rattle.direct.specs.handlers.Handled.{put_reply}
use Rattle.direct.specs.declared.handlers.ReplyInArrays.{ReplyInArrays}

pub reply_read : (r : Reply) (w : ReplyInArrays) → r.outcome ≡ Ok tt
    → decoded_reply 0 (put_reply r w).first (put_reply r w).second (put_reply r w).third (put_reply r w).rest ≡ r
unfolding put_reply
reply_read r w done =
    taken_read r.messages r.commit r.served_count w.first w.second w.third
    ∙ ap (λ (o : Outcome). record { outcome = o; messages = r.messages; commit = r.commit; served_count = r.served_count }) (sym done)

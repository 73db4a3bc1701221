-- What a host reads in the arrays of a reply once the call has handed back its number, by the header alone (crates/host/include/chanbook_shard.h): its structs,
-- whose numbers lie in an array in the order of their fields. Nothing here says how the engine writes them: that what stands there is read as the reply of the
-- call are laws (proofs/Told.antt; crates/direct_calls/proofs/Told.antt).
-- Assumes nothing.
use Rattle.std.specs.Prelude.{List, ℕ, get_or, None, Ok, Err}
use Rattle.message.specs.Outcomes.{Outcome}
use Rattle.steps.specs.declared.SentMessages.{SentMessages}
use Rattle.calls.specs.declared.Reply.{Reply}
use Rattle.flat.specs.Told.{decoded_outcome, decoded_outgoing, decoded_commit}
use Rattle.arrays.specs.Arrays.{outgoing_of, commit_row}

abbrev pub decoded_sent : List ℕ → List ℕ → List ℕ → SentMessages
decoded_sent first second third =
    record {
      first = decoded_outgoing (outgoing_of first);
      second = decoded_outgoing (outgoing_of second);
      third = decoded_outgoing (outgoing_of third);
    }

-- "0: the call is taken. .. A refusal's number: nothing at all is written": then whatever stands in the arrays says nothing, and the number is all that is told
unfoldable pub reply_by : Outcome → List ℕ → List ℕ → List ℕ → List ℕ → Reply
reply_by (Ok tt) first second third rest =
    record {
      outcome = Ok tt;
      messages = decoded_sent first second third;
      commit = decoded_commit (commit_row rest);
      served_count = get_or rest 4 0;
    }
reply_by (Err why) first second third rest =
    record { outcome = Err why; messages = record { first = None; second = None; third = None }; commit = None; served_count = 0 }

-- from the number that the call hands back, and the four arrays
abbrev pub decoded_reply : ℕ → List ℕ → List ℕ → List ℕ → List ℕ → Reply
decoded_reply number first second third rest = reply_by (decoded_outcome number) first second third rest

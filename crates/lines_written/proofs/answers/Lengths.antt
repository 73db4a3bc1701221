-- How long the line of an answer is, and that nothing is left out of it where 27,257 bytes are lent.
-- Assumes nothing.
use mathlib.Core.Path.{◌≡◌}
use mathlib.Core.List.{◌++◌}
use Prim.Native.Nat.{◌+◌, ◌≤◌}
use native.Mathlib.Omega.{arith}
use lib.ListN.{length, take, drop, length-append}
use Rattle.consensus.specs.declared.Answer.{Answer}
use Rattle.texts.specs.declared.Output.{Output}
use Rattle.texts.specs.Text.{with_bytes, put}
use Rattle.lines_written.specs.answers.Answer.{answer_text}
use Rattle.texts.proofs.Lengths.{put_fits}
use Rattle.lines_written.proofs.replies.Lengths.{reply}
use Rattle.lines_written.proofs.shards.Lengths.{shard}

-- three messages of 193, 128 served reads of 74, 64 proposers of 77, 128 open reads of 93, and 374 for the rest
pub answer_length : (a : Answer) → length (answer_text a) ≤ 27257
unfolding answer_text
answer_length a =
    simp length-append (omega (arith, reply a.reply a.shard.state.table.served, shard a.shard.state.rounds a.shard.state.table.reads a.shard.made))

-- the whole line is put where so many bytes are left
pub answer_fits : (a : Answer) (o : Output) → o.at + 27257 ≤ length o.bytes.now
    → put (answer_text a) o
    ≡ with_bytes o (take o.at o.bytes.now ++ answer_text a ++ drop (o.at + length (answer_text a)) o.bytes.now) (o.at + length (answer_text a))
answer_fits a o h = put_fits (answer_text a) o (omega (arith, answer_length a))

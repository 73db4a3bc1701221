-- The line of an answer (docs/ORACLE.md, "Answer lines").
-- Assumes nothing.
use Rattle.std.specs.Prelude.{List, ◌++◌, ℕ}
use Rattle.consensus.specs.declared.Answer.{Answer}
use Rattle.texts.specs.Text.{ascii}
use Rattle.lines_written.specs.replies.Reply.{reply_text}
use Rattle.lines_written.specs.shards.Shard.{shard_text}

unfoldable pub answer_text : Answer → List ℕ
answer_text a =
    reply_text a.reply a.shard.state.table.served
    ++ shard_text a.shard.state.rounds a.shard.state.table.reads a.shard.made ++ ascii "\n"

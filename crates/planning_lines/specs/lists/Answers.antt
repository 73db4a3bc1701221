-- A line of `planning`: `join` or `feed` (E10), or one of the requests before (planning_lines::placed).
-- Assumes nothing.
use Rattle.std.specs.Prelude.{cond, List, ℕ}
use Rattle.texts.specs.Text.{ascii}
use Rattle.texts.specs.fields.Fields.{begins}
use Rattle.positions.specs.declared.PlacedRegister.{PlacedRegister}
use Rattle.planning_lines.specs.placed.Answers.{placed_after_line, placed_line_answer}
use Rattle.planning_lines.specs.lists.Joins.{join_text}
use Rattle.planning_lines.specs.lists.Feeds.{feed_asked, after_feed, feed_line_text}

-- the register after a line: joining takes no register
unfoldable pub placed_after_list_line : PlacedRegister → List ℕ → PlacedRegister
placed_after_list_line p line =
    cond (begins (ascii "join ") line) p (cond (begins (ascii "feed") line) (after_feed p (feed_asked line)) (placed_after_line p line))

-- what is written for it
unfoldable pub list_line_answer : PlacedRegister → List ℕ → List ℕ
list_line_answer p line =
    cond (begins (ascii "join ") line) (join_text line)
    (cond (begins (ascii "feed") line) (feed_line_text p (feed_asked line)) (placed_line_answer p line))

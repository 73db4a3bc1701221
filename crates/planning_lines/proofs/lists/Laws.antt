-- How long the answers of E10 may be: that to `join` with a result of 8,192 entries is the longest. They stand whole in a buffer that has room for them.
-- And a line that joins leaves the register as it was.
-- Assumes nothing.
use Rattle.std.proofs.Common.{◌≡◌, refl, true, ℕ, ◌+◌, ◌*◌, ◌≤◌, List, ◌++◌, length, take, drop, Option, Some, None, Result, Ok, Err, mul-le-mul_left, le_trans, arith}
use lib.ListN.{length-append}
use Rattle.texts.specs.declared.Output.{Output}
use Rattle.texts.specs.Text.{ascii, with_bytes, put}
use Rattle.texts.proofs.Lengths.{put_fits, number, decimal_length, each_length}
use Rattle.texts.specs.fields.Fields.{line_text, begins}
use Rattle.planning_lines.specs.Answers.{bad_line_text}
use Rattle.catch_up.specs.Causes.{CommitList, ListedCommit, listed_commits, join_number}
use Rattle.catch_up.specs.Joining.{joining}
use Rattle.catch_up.specs.declared.JoinRefusal.{JoinRefusal}
use Rattle.catch_up.proofs.Exact.{is_join}
use Rattle.feeding.specs.Feeding.{feed_refusal_number, feeding}
use Rattle.feeding.specs.Registers.{placed_register}
use Rattle.feeding.specs.declared.FeedRefusal.{FeedRefusal}
use Rattle.feeding.specs.declared.FirstRefused.{FirstRefused}
use Rattle.positions.specs.Placed.{position_refusal_number}
use Rattle.positions.specs.declared.PlacedRegister.{PlacedRegister}
use Rattle.positions.specs.declared.PositionRefusal.{PositionRefusal}
use Rattle.planning_lines.specs.declared.lists.LineItem.{LineItem}
use Rattle.planning_lines.specs.lists.Lists.{commits_of, entries_of}
use Rattle.planning_lines.specs.lists.Joins.{JoinLine, join_asked, listed_commit_text, listed_commits_text, joining_text, join_line_text, join_text}
use Rattle.planning_lines.specs.lists.Feeds.{refused_text, first_text, fed_text, feed_line_text}
use Rattle.planning_lines.specs.lists.Answers.{placed_after_list_line}
use Rattle.planning_lines.proofs.lists.JoinsRead.{beside_long}

commit_length : (c : ListedCommit) → length (listed_commit_text c) ≤ 42
unfolding listed_commit_text
commit_length c = simp length-append (omega (arith, number c.slot, number c.value))

refusal_length : (n : ℕ) → length (line_text (ascii "refused") n) ≤ 29
unfolding line_text
refusal_length n = simp length-append (omega (arith, number n))

joining_length : (a b : CommitList) (places : ℕ) → length (joining_text (joining a b places)) ≤ 344085
unfolding joining_text
joining_length a b places = go (joining a b places) refl
  where
    go : (r : Result CommitList JoinRefusal) → joining a b places ≡ r → length (joining_text r) ≤ 344085
    go (Err why) e = omega (arith, refusal_length (join_number why))
    go (Ok l) e =
        let J = is_join a b places l e in
        let few : length (listed_commits l) ≤ 8192 = omega (arith, beside_long l.slots l.values J.same, J.few) in
        let all : length (listed_commits_text l) ≤ 42 * 8192 = le_trans (each_length listed_commit_text 42 commit_length (listed_commits l)) (mul-le-mul_left 42 few) in
        simp length-append (omega (arith, decimal_length (length l.slots)))

asked_length : (asked : Option JoinLine) → length (join_line_text asked) ≤ 344085
unfolding join_line_text bad_line_text
asked_length (Some j) = joining_length (commits_of j.first) (commits_of j.second) j.places
asked_length None = omega arith

first_length : (f : Option (FirstRefused PositionRefusal)) → length (first_text f) ≤ 60
unfolding first_text refused_text line_text
first_length None = omega arith
first_length (Some f) = simp length-append (omega (arith, number f.slot, number (position_refusal_number f.why)))

fed_length : (fed : Result (Option (FirstRefused PositionRefusal)) FeedRefusal) → length (fed_text fed) ≤ 60
unfolding fed_text
fed_length (Ok f) = first_length f
fed_length (Err why) = omega (arith, refusal_length (feed_refusal_number why))

feed_length : (g : PlacedRegister) (asked : Option (List LineItem)) → length (feed_line_text g asked) ≤ 60
unfolding feed_line_text bad_line_text
feed_length g (Some items) = fed_length (feeding placed_register g (entries_of items)).answer
feed_length g None = omega arith

pub join_answer_whole : (line : List ℕ) (o : Output) → o.at + 344085 ≤ length o.bytes.now
    → put (join_text line) o
    ≡ with_bytes o (take o.at o.bytes.now ++ join_text line ++ drop (o.at + length (join_text line)) o.bytes.now) (o.at + length (join_text line))
join_answer_whole line o room = put_fits (join_text line) o (omega (arith, asked_length (join_asked line)))

pub feed_answer_whole : (g : PlacedRegister) (asked : Option (List LineItem)) (o : Output) → o.at + 60 ≤ length o.bytes.now
    → put (feed_line_text g asked) o
    ≡ with_bytes o (take o.at o.bytes.now ++ feed_line_text g asked ++ drop (o.at + length (feed_line_text g asked)) o.bytes.now) (o.at + length (feed_line_text g asked))
feed_answer_whole g asked o room = put_fits (feed_line_text g asked) o (omega (arith, feed_length g asked))

-- "Joining takes no register."
pub join_leaves : (g : PlacedRegister) (line : List ℕ) → begins (ascii "join ") line ≡ true → placed_after_list_line g line ≡ g
unfolding placed_after_list_line
join_leaves g line joins = simp joins

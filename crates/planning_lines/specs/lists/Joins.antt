-- The line `join PLACES s v s v .. | s v ..` (docs/PLANNING.md; document 02, E10).
-- Assumes nothing.
use Rattle.std.specs.Prelude.{false, cond, ◌||◌, List, ◌++◌, ℕ, ◌+◌, ltb, length, take, drop, Option, Some, None, Result, Ok, Err}
use Rattle.std.specs.Option.{option_map, option_and_then}
use Rattle.texts.specs.Text.{ascii, decimal, field, each}
use Rattle.texts.specs.fields.Fields.{has_number_field, value_or_zero, begins, number_field, line_text}
use Rattle.planning_lines.specs.Answers.{bad_line_text}
use Rattle.catch_up.specs.Causes.{CommitList, ListedCommit, listed_commits, join_number}
use Rattle.catch_up.specs.Joining.{list_of, joining}
use Rattle.catch_up.specs.declared.JoinRefusal.{JoinRefusal}
use Rattle.catch_up.specs.declared.JoinRefusal.TheVariants.{NumberTooLarge, OutsideLimits}
use Rattle.planning_lines.specs.declared.lists.LineItem.{LineItem}
use Rattle.planning_lines.specs.declared.lists.JoinQuestion.{JoinQuestion}
use Rattle.planning_lines.specs.lists.Lists.{list_behind, ends_at, last_list, commits_of}
use Rattle.planning_lines.specs.lists.Kept.{kept_items, kept_commits}

-- ---- what the line asks

-- so many places, where their number ends, and two lists
pub record JoinLine : Type 0 where
  pub places : ℕ
  pub end : ℕ
  pub first : List LineItem
  pub second : List LineItem

abbrev pub join_line : ℕ → ℕ → List LineItem → List LineItem → JoinLine
join_line places end first second = record { places = places; end = end; first = first; second = second }

-- the bar stands behind a blank, and behind it the second list
unfoldable pub behind_first_list : List ℕ → ℕ → ℕ → List LineItem → Option JoinLine
behind_first_list line places end first =
    cond (begins (ascii " |") (drop (ends_at end first) line))
    (option_map (join_line places end first) (last_list false line (ends_at end first + 2))) None

-- `join` and its blank are five bytes
unfoldable pub join_asked : List ℕ → Option JoinLine
join_asked line =
    cond (has_number_field (number_field line 5).number)
    (option_and_then (behind_first_list line (value_or_zero (number_field line 5).number) (number_field line 5).end)
    (list_behind false line (number_field line 5).end))
    None

-- ---- the answer

-- a slot and its value
unfoldable pub listed_commit_text : ListedCommit → List ℕ
listed_commit_text c = field c.slot ++ field c.value

abbrev pub listed_commits_text : CommitList → List ℕ
listed_commits_text l = each listed_commit_text (listed_commits l)

-- the count and the entries, or `refused` and the number
unfoldable pub joining_text : Result CommitList JoinRefusal → List ℕ
joining_text (Ok l) = decimal (length l.slots) ++ listed_commits_text l ++ ascii "\n"
joining_text (Err why) = line_text (ascii "refused") (join_number why)

unfoldable pub join_line_text : Option JoinLine → List ℕ
join_line_text (Some j) = joining_text (joining (commits_of j.first) (commits_of j.second) j.places)
join_line_text None = bad_line_text

-- what is written for a line that begins with `join` and a blank
abbrev pub join_text : List ℕ → List ℕ
join_text line = join_line_text (join_asked line)

-- ---- steps of the code

abbrev pub kept_asked : JoinLine → JoinQuestion
kept_asked j = record { places = j.places; first = kept_items j.end j.first; second = kept_items (ends_at j.end j.first + 2) j.second }

-- of the lists as they are kept: 2 and 18 of all that was read
unfoldable pub kept_refused : JoinQuestion → Result (Unit {0}) JoinRefusal
kept_refused q =
    cond (q.first.too_large || q.second.too_large) (Err NumberTooLarge)
    (cond (ltb 8192 q.first.count || (ltb 8192 q.second.count || ltb q.places 8192)) (Err OutsideLimits) (Ok tt))

-- and else the join of what stands in the places
abbrev pub unless_kept_refused : Result (Unit {0}) JoinRefusal → Result CommitList JoinRefusal → Result CommitList JoinRefusal
unless_kept_refused (Err why) joined = Err why
unless_kept_refused (Ok u) joined = joined

unfoldable pub kept_joining : JoinQuestion → Result CommitList JoinRefusal
kept_joining q = unless_kept_refused (kept_refused q) (joining (kept_commits q.first) (kept_commits q.second) 8192)

-- the text of an answer whose entries stand in the first of the lent places
unfoldable pub joined_text : Result ℕ JoinRefusal → List ℕ → List ℕ → List ℕ
joined_text (Ok count) slots values = decimal count ++ listed_commits_text (list_of (take count slots) (take count values)) ++ ascii "\n"
joined_text (Err why) slots values = line_text (ascii "refused") (join_number why)

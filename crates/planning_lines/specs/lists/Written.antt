-- Lists as they are written on a line `join`, in decimal: what a line must be read as. No function computes these.
-- Assumes nothing.
use Rattle.std.specs.Prelude.{◌≡◌, List, [], ◌∷◌, ◌++◌, ℕ, ◌≤◌, length}
use Rattle.texts.specs.Text.{ascii, field}
use Rattle.catch_up.specs.Causes.{CommitList, ListedCommit, listed_commits}
use Rattle.planning_lines.specs.lists.Joins.{listed_commits_text}

-- `join PLACES s v s v .. | s v ..`
abbrev pub join_written : ℕ → CommitList → CommitList → List ℕ
join_written places a b = ascii "join" ++ (field places ++ (listed_commits_text a ++ (ascii " |" ++ listed_commits_text b)))

-- the numbers have 64 bits
abbrev pub CommitsFit : List ListedCommit → Type 0
CommitsFit [] = Unit {0}
CommitsFit (c ∷ cs) = (c.slot ≤ 18446744073709551615) × (c.value ≤ 18446744073709551615) × CommitsFit cs

-- so do those of a list, which has a value beside each slot
pub record ListFits (l : CommitList) : Type 0 where
  pub same : length l.slots ≡ length l.values
  pub numbers : CommitsFit (listed_commits l)

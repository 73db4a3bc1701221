-- The sheet of document 02's E12: the lines of the listing.
-- Assumes nothing.
use Rattle.std.specs.Prelude.{List, ◌++◌, ℕ}
use Rattle.texts.specs.Text.{ascii, each}
use Rattle.enabled_runs.specs.declared.RunEvent.{RunEvent}
use Rattle.enabled_runs.specs.declared.CommitBy.{CommitBy}
use Rattle.enabled_runs.specs.Offices.{short_runs, commits_in_order, run_past}
use Rattle.office_runs.specs.listing.Lines.{event_text, commit_by_text, joined_by_blanks}

-- the line of a run with its commits
unfoldable pub run_line_with : List RunEvent → List CommitBy → List ℕ
run_line_with run commits = joined_by_blanks event_text run ++ (ascii "," ++ (joined_by_blanks commit_by_text commits ++ ascii "\r\n"))

abbrev pub run_line : List RunEvent → List ℕ
run_line run = run_line_with run (commits_in_order (run_past run))

-- "header `events,commits` and a line per run"
unfoldable pub sheet : List ℕ
sheet = ascii "events,commits\r\n" ++ each run_line short_runs

-- What the lister writes for a run that it keeps (crate office_runs).
-- Assumes nothing.
use Rattle.std.specs.Prelude.{List, [], ◌++◌, ℕ, zero, suc, Option, None, Some}
use Rattle.texts.specs.Text.{ascii}
use Rattle.enabled_runs.specs.declared.RunEvent.TheVariants.{Proposes, Delivers}
use Rattle.enabled_runs.specs.Listing.{each_below}
use Rattle.office_runs.specs.Runs.{trial_of}
use Rattle.office_runs.specs.declared.OfficeRun.{OfficeRun}
use Rattle.office_runs.specs.listing.Lines.{commit_by_text, joined_by_blanks, event_text, first_five}

unfoldable pub kept_line : OfficeRun → List ℕ
kept_line run =
    joined_by_blanks event_text (first_five run.events.places run.events.count)
    ++ (ascii "," ++ (joined_by_blanks commit_by_text (first_five run.commits.places run.commits.count) ++ ascii "\r\n"))

-- ---- the listing

-- of the run with an event more, if the event may come next
unfoldable pub event_lines : (OfficeRun → List ℕ) → Option OfficeRun → List ℕ
event_lines rest None = []
event_lines rest (Some run) = kept_line run ++ rest run

unfoldable pub lines_after : ℕ → OfficeRun → List ℕ
lines_after zero run = []
lines_after (suc left) run =
    each_below 3 (λ member. event_lines (lines_after left) (trial_of run (Proposes member)))
    ++ each_below 3 (λ member. each_below run.sent.count (λ place. event_lines (lines_after left) (trial_of run (Delivers member place))))

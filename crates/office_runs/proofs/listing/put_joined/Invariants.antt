-- `office_runs::listing::put_joined` meets its contract: after i turns the first i parts are put.
-- Assumes nothing.
use mathlib.Core.Path.{◌≡◌}
use lib.ListN.{take}
use Rattle.texts.specs.Text.{put}
use Rattle.office_runs.specs.listing.Lines.{joined_by_blanks}
use Rattle.office_runs.proofs.listing.put_joined.Given as goal

abbrev pub invariant-loop-i : goal.invariant-loop-i
invariant-loop-i g l = l.out ≡ put (joined_by_blanks g.T.Part.text (take l.i l.first)) l.initial.out

-- `office_runs::listing::put_joined` meets its contract: after i turns the first i parts are put.
-- Tried without: with `using(joined_more)` on the function neither of the two is found.
-- Assumes nothing.
use mathlib.Core.Path.{ap, ◌∙◌}
use mathlib.Core.List.{List}
use Prim.Native.Nat.{ℕ}
use native.Mathlib.Omega.{arith}
use lib.ListN.{take}
use lib.Seq.{take_all}
use Rattle.texts.specs.Text.{put}
use Rattle.office_runs.specs.listing.Lines.{joined_by_blanks}
use Rattle.office_runs.proofs.listing.Joining.{joined_more}
use Rattle.office_runs.proofs.listing.put_joined.Goals as goal

pub loop-i-preserved : goal.loop-i-preserved
loop-i-preserved g c =
    joined_more g.T.Part.text (take c.min.result c.args.parts.now) c.loop-i.i c.index-first-i.result _ (omega arith) c.loop-i.invariant c.put_blank.ensures
    (c.put.ensures ∙ ap (λ (v : g.row.T.Denot). put (g.T.Part.text v) c.put_blank.new.out) c.index-first-i.is)

pub returns : goal.returns
returns g c =
    c.loop-i.invariant
    ∙ ap (λ (l : List g.row.T.Denot). put (joined_by_blanks g.T.Part.text l) c.args.out.now) (take_all c.loop-i.i (take c.min.result c.args.parts.now) (omega arith))
    ∙ ap (λ (n : ℕ). put (joined_by_blanks g.T.Part.text (take n c.args.parts.now)) c.args.out.now) c.min.ensures

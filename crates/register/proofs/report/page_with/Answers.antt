-- `register::report::page_with` meets its contract.
-- Tried without: with `using(put_page, put_name)` on the function the goal stays open, since the array and what was lent of it are one by `put_name` alone.
-- Assumes nothing.
use mathlib.Core.Path.{ap}
use native.Mathlib.Omega.{arith}
use Rattle.texts.specs.declared.Output.{Output}
use Rattle.register.specs.report.Report.{page_with}
use Rattle.register.proofs.report.Room.{report_length, put_page, put_name}
use Rattle.register.proofs.report.page_with.Goals as goal

pub returns : goal.returns
unfolding page_with
returns c =
    let p = put_page _ _ c.put_report.new.out (report_length _ _) (ap (λ (o : Output). o.at) c.new-out.ensures) (ap (λ (o : Output). o.bytes.now) c.new-out.ensures) c.put_report.ensures in
    let same = put_name _ _ c.put_report.new.out c.put_report.ensures in
    let lent = ap (λ (o : Output). o.bytes.ghost_name) c.new-out.ensures in
    grind (arith, p, same, lent)

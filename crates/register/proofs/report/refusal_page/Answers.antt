-- `register::report::refusal_page` meets its contract.
-- Tried without: as that of `page_with`.
-- Assumes nothing.
use native.Mathlib.Omega.{arith}
use mathlib.Core.Path.{ap}
use Rattle.texts.specs.declared.Output.{Output}
use Rattle.register.proofs.report.Room.{refusal_length, put_page, put_name}
use Rattle.register.proofs.report.refusal_page.Goals as goal

pub returns : goal.returns
returns c =
    let p = put_page _ _ c.put_refusal.new.out (refusal_length _) (ap (λ (o : Output). o.at) c.new-out.ensures) (ap (λ (o : Output). o.bytes.now) c.new-out.ensures) c.put_refusal.ensures in
    let same = put_name _ _ c.put_refusal.new.out c.put_refusal.ensures in
    let lent = ap (λ (o : Output). o.bytes.ghost_name) c.new-out.ensures in
    grind (arith, p, same, lent)

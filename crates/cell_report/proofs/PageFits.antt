-- The length of what is printed lies within its page, so that the text may be taken from it.
-- Assumes nothing.
use mathlib.Core.Path.{◌≡◌, sym, subst}
use mathlib.Core.List.{List}
use Prim.Native.Nat.{ℕ, ◌-◌, ◌≤◌}
use native.Mathlib.Omega.{arith}
use lib.ListN.{length, replicate, length-append}
use lib.Seq.{length-take-le}
use Rattle.io.specs.Counts.{IsPrefixLen}
use Rattle.std.specs.Prelude.{Option, Some, None}
use Rattle.basics.proofs.Tests.{of-both}
use Rattle.register.specs.Register.{live_places}
use Rattle.register.specs.declared.Register.{Register}
use Rattle.register.specs.report.Report.{report_text, refusal_text, page_holding, page_with}
use Rattle.register.specs.declared.report.ReportPage.{ReportPage}
use Rattle.group_register.specs.Settings.{settings_refusal, is_made}
use Rattle.group_register.specs.GroupRegister.{group_page}
use Rattle.register_lines.specs.entries.Reports.{page_after}
use Rattle.register_lines.specs.declared.entries.EntriesTaken.{EntriesTaken}

abbrev Fits : ReportPage → Type 0
Fits p = IsPrefixLen p.len p.bytes

holding_fits : (text : List ℕ) → Fits (page_holding text)
unfolding page_holding
holding_fits text =
    let h : (page_holding text).len ≤ length (page_holding text).bytes = omega (arith, length-append text (replicate (116 - length text) 0)) in
    (h, sym (length-take-le (page_holding text).len (page_holding text).bytes h))

pub page_fits : (t : Option EntriesTaken) (p : ReportPage) → p ≡ page_after t → Fits p
unfolding page_after group_page page_with
page_fits None p e = subst Fits (sym e) (holding_fits (refusal_text 1))
page_fits (Some t) p e =
    let r : Register = t.group.register in
    subst Fits (sym e) (of-both Fits (is_made t.group.settings) (holding_fits (report_text r.figures (live_places r))) (holding_fits (refusal_text (settings_refusal t.group.settings))))

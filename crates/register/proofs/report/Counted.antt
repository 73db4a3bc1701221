-- "Each figure is counted from the committed entries alone": the report after any list of entries shows their counts.
-- Assumes nothing.
use mathlib.Core.Path.{◌≡◌, ap, ◌∙◌}
use mathlib.Core.List.{List}
use Prim.Native.Nat.{ℕ}
use Rattle.register.specs.Register.{live_places}
use Rattle.register.specs.History.{register_after}
use Rattle.register.specs.Taken.{figures_of, live_cell_count}
use Rattle.register.specs.declared.CellEntry.{CellEntry}
use Rattle.register.specs.declared.Figures.{Figures}
use Rattle.register.proofs.Laws.{figures_counted, live_places_counted}
use Rattle.register.specs.report.Report.{page_with, register_page}

pub report_counted : (es : List CellEntry) → register_page (register_after es) ≡ page_with (figures_of es) (live_cell_count es)
report_counted es =
    ap (λ (f : Figures). page_with f (live_places (register_after es))) (figures_counted es)
    ∙ ap (λ (n : ℕ). page_with (figures_of es) n) (live_places_counted es)

-- The report (document 02, E6): "prints assignments made, superseded, released and live, as CSV like the quorum sheet's, header
-- `made,superseded,released,live` and one line".
-- Assumes nothing.
use Rattle.std.specs.Prelude.{List, [], ◌∷◌, ◌++◌, ℕ, ◌-◌, length, replicate}
use Rattle.texts.specs.Text.{ascii, decimal}
use Rattle.register.specs.Register.{live_places}
use Rattle.register.specs.declared.Figures.{Figures}
use Rattle.register.specs.declared.Register.{Register}
use Rattle.register.specs.declared.report.ReportPage.{ReportPage}

unfoldable pub report_header : List ℕ
report_header = ascii "made,superseded,released,live" ++ (13 ∷ 10 ∷ [])

-- a number, and then the byte b
unfoldable pub figure_text : ℕ → ℕ → List ℕ
figure_text n b = decimal n ++ (b ∷ [])

-- the four figures, with commas, 44, between them
unfoldable pub figures_text : Figures → ℕ → List ℕ
figures_text f live = figure_text f.made 44 ++ figure_text f.superseded 44 ++ figure_text f.released 44 ++ decimal live

-- both lines end with CR LF, 13 and 10
unfoldable pub report_text : Figures → ℕ → List ℕ
report_text f live = report_header ++ figures_text f live ++ (13 ∷ 10 ∷ [])

-- in place of a report: the one line `refused,1`, as document 01 has it, or `refused,17`, by the number
unfoldable pub refusal_text : ℕ → List ℕ
refusal_text number = ascii "refused," ++ decimal number ++ (13 ∷ 10 ∷ [])

-- a text, followed by zeros up to 116 bytes, and its length
unfoldable pub page_holding : List ℕ → ReportPage
page_holding text = record { bytes = text ++ replicate (116 - length text) 0; len = length text }

unfoldable pub page_with : Figures → ℕ → ReportPage
page_with f live = page_holding (report_text f live)

-- "The report, over all entries so far"
abbrev pub register_page : Register → ReportPage
register_page r = page_with r.figures (live_places r)

-- The report has at most 116 bytes, and at the start of so many zeros it makes the page.
-- Assumes nothing.
use mathlib.Core.Path.{◌≡◌, refl, sym, ap, ◌∙◌}
use mathlib.Core.List.{List, [], ◌∷◌, ◌++◌}
use lib.Dec.{ltb}
use Rattle.basics.proofs.Tests.{of-both}
use Prim.Native.Nat.{ℕ, ◌+◌, ◌-◌, ◌≤◌}
use native.Mathlib.Omega.{arith}
use lib.ListN.{length, take, drop, replicate, length-append, length-replicate, replicate-append-replicate}
use lib.Seq.{drop_at}
use Rattle.texts.specs.declared.Output.{Output}
use Rattle.texts.specs.Text.{with_bytes, put_byte, put}
use Rattle.texts.proofs.Lengths.{put_fits, decimal_length}
use Rattle.register.specs.declared.Figures.{Figures}
use Rattle.register.specs.declared.report.ReportPage.{ReportPage}
use Rattle.register.specs.report.Report.{report_header, figure_text, figures_text, report_text, refusal_text, page_holding}

figure_length : (n b : ℕ) → length (figure_text n b) ≤ 21
unfolding figure_text
figure_length n b = simp length-append (omega (arith, decimal_length n))

pub figures_length : (f : Figures) (live : ℕ) → length (figures_text f live) ≤ 83
unfolding figures_text
figures_length f live =
    simp length-append
    (omega (arith, figure_length f.made 44, figure_length f.superseded 44, figure_length f.released 44, decimal_length live))

pub report_length : (f : Figures) (live : ℕ) → length (report_text f live) ≤ 116
unfolding report_text report_header
report_length f live = simp length-append (omega (arith, figures_length f live))

pub refusal_length : (number : ℕ) → length (refusal_text number) ≤ 116
unfolding refusal_text
refusal_length number = simp length-append (omega (arith, decimal_length number))

-- what is left of 116 zeros
drop_zeros : (k : ℕ) → k ≤ 116 → drop {A = ℕ} k (replicate 116 0) ≡ replicate (116 - k) 0
drop_zeros k h =
    let e : k + (116 - k) ≡ 116 = omega arith in
    ap (drop k) (sym (replicate-append-replicate k (116 - k) 0 ∙ ap (λ (m : ℕ). replicate m 0) e))
    ∙ drop_at (replicate k 0) (replicate (116 - k) 0) k (length-replicate k 0)

-- what is put into so many zeros
pub put_page : (text : List ℕ) (o after : Output) → length text ≤ 116 → o.at ≡ 0 → o.bytes.now ≡ replicate 116 0 → after ≡ put text o
    → ◌≡◌ {A = ReportPage} (record { bytes = after.bytes.now; len = after.at }) (page_holding text)
unfolding page_holding
put_page text o after short start zeros e =
    let room : o.at + length text ≤ length o.bytes.now = rw zeros (omega (arith, start)) in
    let is : after ≡ with_bytes o (take o.at o.bytes.now ++ text ++ drop (o.at + length text) o.bytes.now) (o.at + length text) = e ∙ put_fits text o room in
    let none : 0 + length text ≡ length text = omega arith in
    simp (is, start, zeros, none, drop_zeros (length text) short)

-- what is put is put into what was lent
named : (l : List ℕ) (o : Output) → (put l o).bytes.ghost_name ≡ o.bytes.ghost_name
unfolding put
named [] o = refl
named (b ∷ bs) o = named bs (put_byte b o) ∙ of-both (λ (p : Output). p.bytes.ghost_name ≡ o.bytes.ghost_name) (ltb o.at (length o.bytes.now)) refl refl

pub put_name : (text : List ℕ) (o after : Output) → after ≡ put text o → after.bytes.ghost_name ≡ o.bytes.ghost_name
put_name text o after e = rw e (named text o)

-- How long an answer about a register may be: the figures are the longest.
-- Assumes nothing.
use mathlib.Core.List.{List}
use Prim.Native.Nat.{ℕ, ◌≤◌}
use native.Mathlib.Omega.{arith}
use lib.ListN.{length, length-append}
use Rattle.texts.specs.Text.{ascii}
use Rattle.texts.proofs.Lengths.{number, decimal_length}
use Rattle.texts.specs.fields.Fields.{line_text}
use Rattle.register.specs.Register.{live_places}
use Rattle.register.specs.declared.Register.{Register}
use Rattle.register.proofs.report.Room.{figures_length}
use Rattle.basics.proofs.Tests.{of-both}
use Rattle.group_register.specs.Settings.{settings_refusal, is_made}
use Rattle.group_register.specs.declared.GroupRegister.{GroupRegister}
use Rattle.group_register.specs.declared.RegisterSettings.{RegisterSettings}
use Rattle.register_lines.specs.Answers.{begun_text, figures_answer, no_figures, group_figures_answer, register_answer}
use Rattle.register_lines.specs.declared.RegisterQuestion.{RegisterQuestion}
use Rattle.register_lines.specs.declared.RegisterQuestion.TheVariants.{Begin, ReportLine}

refused_length : (n : ℕ) → length (line_text (ascii "refused") n) ≤ 29
unfolding line_text
refused_length n = simp length-append (omega (arith, number n))

begun_length : (s : RegisterSettings) → length (begun_text s) ≤ 29
unfolding begun_text
begun_length s = of-both (λ (l : List ℕ). length l ≤ 29) (is_made s) (omega arith) (refused_length (settings_refusal s))

figures_answer_length : (r : Register) → length (figures_answer r) ≤ 84
unfolding figures_answer
figures_answer_length r = simp length-append (omega (arith, figures_length r.figures (live_places r)))

group_figures_length : (g : GroupRegister) → length (group_figures_answer g) ≤ 84
unfolding group_figures_answer no_figures
group_figures_length g =
    of-both (λ (l : List ℕ). length l ≤ 84) (is_made g.settings) (figures_answer_length g.register)
    (simp length-append (omega (arith, decimal_length (settings_refusal g.settings))))

pub register_answer_length : (q : RegisterQuestion) (g : GroupRegister) → length (register_answer q g) ≤ 84
unfolding register_answer
register_answer_length (Begin slot) g = omega (arith, begun_length g.settings)
register_answer_length ReportLine g = group_figures_length g

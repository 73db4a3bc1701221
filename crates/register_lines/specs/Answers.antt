-- What is written of a register of group settings (docs/PLANNING.md), as bytes, and the register behind a line about it.
-- Assumes nothing.
use Rattle.std.specs.Prelude.{cond, List, ◌++◌, ℕ}
use Rattle.texts.specs.Text.{ascii, decimal}
use Rattle.texts.specs.fields.Fields.{line_text}
use Rattle.register.specs.Register.{live_places}
use Rattle.register.specs.declared.Register.{Register}
use Rattle.register.specs.report.Report.{figures_text}
use Rattle.group_register.specs.Settings.{settings_from, settings_refusal, is_made}
use Rattle.group_register.specs.GroupRegister.{new_group_register}
use Rattle.group_register.specs.declared.GroupRegister.{GroupRegister}
use Rattle.group_register.specs.declared.RegisterSettings.{RegisterSettings}
use Rattle.register_lines.specs.declared.RegisterQuestion.{RegisterQuestion}
use Rattle.register_lines.specs.declared.RegisterQuestion.TheVariants.{Begin, ReportLine}

-- before any line: widths are in whole MHz from the last slot on, 2^63−2
abbrev pub first_register : GroupRegister
first_register = new_group_register (settings_from 9223372036854775806)

-- of a register that is begun: it is made, or its settings give their number
unfoldable pub begun_text : RegisterSettings → List ℕ
begun_text s = cond (is_made s) (ascii "made\n") (line_text (ascii "refused") (settings_refusal s))

-- the report's second line
unfoldable pub figures_answer : Register → List ℕ
figures_answer r = figures_text r.figures (live_places r) ++ ascii "\n"

-- in its place, of a register that is not made, by its number
unfoldable pub no_figures : ℕ → List ℕ
no_figures number = ascii "refused," ++ decimal number ++ ascii "\n"

-- of a register that is not made "`refused,1` or `refused,17`" stands in place of the figures
unfoldable pub group_figures_answer : GroupRegister → List ℕ
group_figures_answer g = cond (is_made g.settings) (figures_answer g.register) (no_figures (settings_refusal g.settings))

-- ---- the register after a question, and the answer

unfoldable pub after_question : GroupRegister → RegisterQuestion → GroupRegister
after_question g (Begin slot) = new_group_register (settings_from slot)
after_question g ReportLine = g

unfoldable pub register_answer : RegisterQuestion → GroupRegister → List ℕ
register_answer (Begin slot) g = begun_text g.settings
register_answer ReportLine g = group_figures_answer g

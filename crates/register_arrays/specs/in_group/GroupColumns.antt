-- The register of group settings that stands in arrays of numbers (document 02, E13): the arrays of E6, and two numbers of the settings.
-- Assumes nothing.
use Rattle.std.specs.Prelude.{cond, List, ℕ, get_or}
use Rattle.register.specs.declared.CellEntry.{CellEntry}
use Rattle.register_arrays.specs.Columns.{register_of, register_in, report_in}
use Rattle.register_arrays.specs.declared.Columns.{Columns}
use Rattle.register.specs.report.Report.{refusal_text, page_holding}
use Rattle.group_register.specs.Settings.{settings_refusal, is_made}
use Rattle.group_register.specs.GroupRegister.{group_register, group_outcome_number, apply_in_group}
use Rattle.group_register.specs.declared.GroupRegister.{GroupRegister}
use Rattle.group_register.specs.declared.RegisterSettings.{RegisterSettings}

-- the number of the settings, and the slot from which widths are in whole MHz
abbrev pub settings_in : List ℕ → RegisterSettings
settings_in s = record { number = get_or s 0 0; whole_mhz_from = get_or s 1 0 }

abbrev pub group_in : List ℕ → List ℕ → List ℕ → List ℕ → List ℕ → GroupRegister
group_in settings cells carriers widths figures = group_register (settings_in settings) (register_of cells carriers widths figures)

-- the register in the lent arrays
abbrev pub group_of : List ℕ → Columns → GroupRegister
group_of settings c = group_register (settings_in settings) (register_in c)

-- the register after an entry, and the number of what became of it
abbrev pub after_group_entry : GroupRegister → CellEntry → GroupRegister × ℕ
after_group_entry g e = ((apply_in_group g e).group, group_outcome_number (apply_in_group g e).outcome)

-- the bytes of the report, or of "the one line `refused,1`" or `refused,17`, and the number of those that are its text
unfoldable pub group_report_in : List ℕ → List ℕ → List ℕ × ℕ
group_report_in settings figures =
    cond (is_made (settings_in settings)) (report_in figures)
    (let page = page_holding (refusal_text (settings_refusal (settings_in settings))) in (page.bytes, page.len))

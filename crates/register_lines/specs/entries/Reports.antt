-- The report of an input of entry lines, before which a line `register SLOT` may stand (docs/PLANNING.md, `cell_report`): the register after them, where each
-- is such a line.
-- Assumes nothing.
use Rattle.std.specs.Prelude.{true, false, cond, List, [], ◌∷◌, ℕ, Option, Some, None}
use Rattle.texts.specs.Text.{ascii}
use Rattle.texts.specs.fields.Fields.{begins, number_from}
use Rattle.register.specs.report.Report.{refusal_text, page_holding}
use Rattle.register.specs.declared.report.ReportPage.{ReportPage}
use Rattle.group_register.specs.Settings.{settings_from}
use Rattle.group_register.specs.GroupRegister.{new_group_register, apply_in_group, group_page}
use Rattle.group_register.specs.declared.GroupRegister.{GroupRegister}
use Rattle.register_lines.specs.Answers.{first_register}
use Rattle.positions.specs.PlacedTaken.{cell_entry}
use Rattle.positions.specs.declared.PlacedEntry.{PlacedEntry}
use Rattle.register_lines.specs.entries.Entries.{entry_in_line}
use Rattle.register_lines.specs.declared.entries.EntriesTaken.{EntriesTaken}

-- the register after at least one line
abbrev pub entries_begun : GroupRegister → Option EntriesTaken
entries_begun g = Some (record { group = g; begun = true })

-- a position "adds to no figure", and the report has nothing else of it: of its entry the register sees the slot
unfoldable pub take_entry : GroupRegister → Option PlacedEntry → Option EntriesTaken
take_entry g (Some e) = entries_begun (apply_in_group g (cell_entry e)).group
take_entry g None = None

unfoldable pub take_settings : Option ℕ → Option EntriesTaken
take_settings (Some slot) = entries_begun (new_group_register (settings_from slot))
take_settings None = None

-- "a first line `register SLOT` may stand before them"
unfoldable pub take_first : GroupRegister → List ℕ → Option EntriesTaken
take_first g line = cond (begins (ascii "register ") line) (take_settings (number_from line 9)) (take_entry g (entry_in_line line))

-- one more line: "refused and older entries go by", and a line that is none of these refuses the input
unfoldable pub take_line : Option EntriesTaken → List ℕ → Option EntriesTaken
take_line None line = None
take_line (Some t) line = cond t.begun (take_entry t.group (entry_in_line line)) (take_first t.group line)

-- the lines of an input, in their order
unfoldable pub take_all_lines : Option EntriesTaken → List (List ℕ) → Option EntriesTaken
take_all_lines t [] = t
take_all_lines t (line ∷ lines) = take_all_lines (take_line t line) lines

-- before any line
abbrev pub no_lines : Option EntriesTaken
no_lines = Some (record { group = first_register; begun = false })

-- the report, or "the one line `refused,1`" in its place
unfoldable pub page_after : Option EntriesTaken → ReportPage
page_after None = page_holding (refusal_text 1)
page_after (Some t) = group_page t.group

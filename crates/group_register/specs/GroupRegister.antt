-- A register begun from group settings, and what an entry makes of it (document 02, E13). E6's register stands below it and does not move.
-- Assumes nothing.
use Rattle.std.specs.Prelude.{Bool, true, cond, ◌&&◌, ℕ, leb, Result, Ok, Err}
use Rattle.register.specs.Refusals.{entry_refusal_number, outcome_number}
use Rattle.register.specs.Register.{new_register, assignable, slot_seen, apply}
use Rattle.register.specs.declared.Applied.{Applied}
use Rattle.register.specs.declared.CellEntry.{CellEntry}
use Rattle.register.specs.declared.Change.{Change}
use Rattle.register.specs.declared.Change.TheVariants.{Assign, Release}
use Rattle.register.specs.declared.Entered.{Entered}
use Rattle.register.specs.declared.Entered.TheVariants.{Done}
use Rattle.register.specs.declared.EntryRefusal.{EntryRefusal}
use Rattle.register.specs.declared.Register.{Register}
use Rattle.register.specs.report.Report.{refusal_text, page_holding, register_page}
use Rattle.register.specs.declared.report.ReportPage.{ReportPage}
use Rattle.group_register.specs.Settings.{unmade_number, unmade_by, settings_refusal, is_made}
use Rattle.group_register.specs.WholeMhz.{is_odd}
use Rattle.group_register.specs.declared.GroupApplied.{GroupApplied}
use Rattle.group_register.specs.declared.GroupRefusal.{GroupRefusal}
use Rattle.group_register.specs.declared.GroupRefusal.TheVariants.{Unmade, OddWidth, AsRegister}
use Rattle.group_register.specs.declared.GroupRegister.{GroupRegister}
use Rattle.group_register.specs.declared.RegisterSettings.{RegisterSettings}

-- ---- registers
abbrev pub group_register : RegisterSettings → Register → GroupRegister
group_register s r = record { settings = s; register = r }

-- it has seen no entry
abbrev pub new_group_register : RegisterSettings → GroupRegister
new_group_register s = group_register s new_register

-- ---- what becomes of an entry
abbrev pub group_applied : RegisterSettings → Register → Result Entered GroupRefusal → GroupApplied
group_applied s r o = record { group = group_register s r; outcome = o }

-- nothing has become of an entry: the register is as it is
abbrev pub group_done : GroupRegister → GroupApplied
group_done g = record { group = g; outcome = Ok Done }

-- document 02's number: a register that is not made gives that of its settings
abbrev pub group_refusal_number : GroupRefusal → ℕ
group_refusal_number (Unmade why) = unmade_number why
group_refusal_number OddWidth = 23
group_refusal_number (AsRegister why) = entry_refusal_number why

-- document 02's number; 0, done, and 64, older, are ours
abbrev pub group_outcome_number : Result Entered GroupRefusal → ℕ
group_outcome_number outcome = outcome_number group_refusal_number outcome

-- an outcome of E6
abbrev pub in_group : Result Entered EntryRefusal → Result Entered GroupRefusal
in_group (Ok entered) = Ok entered
in_group (Err why) = Err (AsRegister why)

-- no 14: an assignment is within E6's limits
abbrev pub change_assignable : Change → Bool
change_assignable (Assign a) = assignable a
change_assignable Release = true

-- "23, a width not in whole MHz at or after that slot, checked after 14 and before 15": neither the slot's 2, nor a slot before the next one, nor 14
-- comes before it
unfoldable pub gives_odd_width : ℕ → ℕ → CellEntry → Bool
gives_odd_width from next e = is_odd from e && leb e.slot 9223372036854775806 && leb next e.slot && change_assignable e.change

-- as in E6
abbrev pub as_register : RegisterSettings → Applied → GroupApplied
as_register s a = group_applied s a.register (in_group a.outcome)

-- a register that is made: 23, and the refused entry's slot is seen; every other entry is taken as in E6
unfoldable pub apply_made : RegisterSettings → Register → CellEntry → GroupApplied
apply_made s r e =
    cond (gives_odd_width s.whole_mhz_from r.next_slot e) (group_applied s (slot_seen e.slot r) (Err OddWidth)) (as_register s (apply r e))

-- one that is not gives its number, and does not change
unfoldable pub apply_in_group : GroupRegister → CellEntry → GroupApplied
apply_in_group g e =
    cond (is_made g.settings) (apply_made g.settings g.register e)
    (group_applied g.settings g.register (Err (Unmade (unmade_by g.settings))))

-- the report; of a register that is not made "the one line `refused,1`" or `refused,17`, by its number
unfoldable pub group_page : GroupRegister → ReportPage
group_page g = cond (is_made g.settings) (register_page g.register) (page_holding (refusal_text (settings_refusal g.settings)))

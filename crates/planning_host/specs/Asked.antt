-- What a host keeps of the windows of group settings, and gets of a minute asked of them (document 02, E8). Document 02 gives no number to what is not refused:
-- 65, 66 and 67 are ours.
-- Assumes nothing.
use Rattle.std.specs.Prelude.{cond, ℕ, eqb, Result, Ok, Err}
use Rattle.group_settings.specs.GroupSettings.{flat_settings_number}
use Rattle.group_settings.specs.declared.FlatGroupSettings.{FlatGroupSettings}
use Rattle.windows.specs.Windows.{window_refusal_number, KeptArrays, no_windows, kept_of}
use Rattle.windows.specs.declared.WindowAnswer.{WindowAnswer}
use Rattle.windows.specs.declared.WindowAnswer.TheVariants.{Inside, Next, NoneFollows}
use Rattle.windows.specs.declared.WindowRefusal.{WindowRefusal}
use Rattle.planning_host.specs.declared.FlatWindowAnswer.{FlatWindowAnswer}

-- of settings that are made their windows, and of others their number alone
abbrev pub kept_settings : FlatGroupSettings → KeptArrays
kept_settings f = cond (eqb (flat_settings_number f) 0) (kept_of f.windows) (no_windows (flat_settings_number f))

abbrev pub answer_with_minute : ℕ → ℕ → FlatWindowAnswer
answer_with_minute answer minute = record { answer = answer; minute = minute }

abbrev pub flat_window_answer : Result WindowAnswer WindowRefusal → FlatWindowAnswer
flat_window_answer (Ok Inside) = answer_with_minute 65 0
flat_window_answer (Ok (Next minute)) = answer_with_minute 66 minute
flat_window_answer (Ok NoneFollows) = answer_with_minute 67 0
flat_window_answer (Err why) = answer_with_minute (window_refusal_number why) 0

-- A register that is not made answers `cells` with the number of its settings, 1 or 17.
-- Assumes nothing.
use mathlib.Core.Path.{◌≡◌, ap}
use mathlib.Core.Bool.{Bool, false, cond}
use Rattle.texts.specs.Text.{ascii}
use Rattle.texts.specs.fields.Fields.{line_text}
use Rattle.group_register.specs.Settings.{settings_refusal, is_made}
use Rattle.positions.specs.declared.PlacedRegister.{PlacedRegister}
use Rattle.planning_lines.specs.placed.Answers.{cells_text, made_cells_text}

pub unmade_cells : (p : PlacedRegister) → is_made p.group.settings ≡ false
    → made_cells_text p ≡ line_text (ascii "refused") (settings_refusal p.group.settings)
unfolding made_cells_text
unmade_cells p e = ap (λ (made : Bool). cond made (cells_text p) (line_text (ascii "refused") (settings_refusal p.group.settings))) e

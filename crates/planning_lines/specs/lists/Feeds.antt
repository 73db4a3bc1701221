-- The line `feed s v ENTRY s v ENTRY ..` (docs/PLANNING.md; document 02, E10).
-- Assumes nothing.
use Rattle.std.specs.Prelude.{true, cond, List, ◌++◌, ℕ, ltb, Option, Some, None, Result, Ok, Err}
use Rattle.texts.specs.Text.{ascii, field}
use Rattle.texts.specs.fields.Fields.{line_text}
use Rattle.planning_lines.specs.Answers.{bad_line_text}
use Rattle.group_register.specs.Settings.{unmade_by, is_made}
use Rattle.catch_up.specs.declared.JoinRefusal.TheVariants.{NumberTooLarge, OutsideLimits}
use Rattle.feeding.specs.Feeding.{feed_refusal_number, Feeding, feeding_in, feeding}
use Rattle.feeding.specs.Registers.{placed_register}
use Rattle.feeding.specs.declared.FeedRefusal.{FeedRefusal}
use Rattle.feeding.specs.declared.FeedRefusal.TheVariants.{Unmade, AsList}
use Rattle.feeding.specs.declared.FirstRefused.{FirstRefused}
use Rattle.positions.specs.Placed.{position_refusal_number}
use Rattle.positions.specs.declared.PlacedRegister.{PlacedRegister}
use Rattle.positions.specs.declared.PositionRefusal.{PositionRefusal}
use Rattle.planning_lines.specs.declared.lists.LineItem.{LineItem}
use Rattle.planning_lines.specs.declared.lists.LineList.{LineList}
use Rattle.planning_lines.specs.lists.Lists.{last_list, entries_of}
use Rattle.planning_lines.specs.lists.Kept.{kept_entries}

-- what is fed is the list that the line gives, whole: `feed` is four bytes
abbrev pub feed_asked : List ℕ → Option (List LineItem)
feed_asked line = last_list true line 4

-- the register that it leaves: a bad line "changes nothing"
unfoldable pub after_feed : PlacedRegister → Option (List LineItem) → PlacedRegister
after_feed p (Some items) = (feeding placed_register p (entries_of items)).register
after_feed p None = p

-- ---- the answer

unfoldable pub refused_text : ℕ → ℕ → List ℕ
refused_text slot number = ascii "fed, slot" ++ field slot ++ line_text (ascii " refused") number

-- "hands back the first refused slot, if any, with its number"
unfoldable pub first_text : Option (FirstRefused PositionRefusal) → List ℕ
first_text None = ascii "fed\n"
first_text (Some f) = refused_text f.slot (position_refusal_number f.why)

unfoldable pub fed_text : Result (Option (FirstRefused PositionRefusal)) FeedRefusal → List ℕ
fed_text (Ok first) = first_text first
fed_text (Err why) = line_text (ascii "refused") (feed_refusal_number why)

unfoldable pub feed_line_text : PlacedRegister → Option (List LineItem) → List ℕ
feed_line_text p (Some items) = fed_text (feeding placed_register p (entries_of items)).answer
feed_line_text p None = bad_line_text

-- ---- steps of the code

-- of the list as it is kept, 2 and 18 of all that was read, and else what stands in the places is fed
unfoldable pub kept_feeding_made : PlacedRegister → LineList → Feeding PlacedRegister PositionRefusal
kept_feeding_made p l =
    cond l.too_large (feeding_in (Err (AsList NumberTooLarge)) p)
    (cond (ltb 8192 l.count) (feeding_in (Err (AsList OutsideLimits)) p) (feeding placed_register p (kept_entries l)))

-- before these, the number of a register that is not made
unfoldable pub kept_feeding : PlacedRegister → LineList → Feeding PlacedRegister PositionRefusal
kept_feeding p l = cond (is_made p.group.settings) (kept_feeding_made p l) (feeding_in (Err (Unmade (unmade_by p.group.settings))) p)

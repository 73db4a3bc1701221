-- The answer to a line, and the settings of the register that a stored one becomes.
-- Assumes nothing.
use mathlib.Core.Path.{◌≡◌, refl}
use mathlib.Core.Bool.{Bool, true, false, cond}
use mathlib.Core.List.{List}
use Prim.Native.Nat.{ℕ, ◌-◌, ◌≤◌}
use native.Mathlib.Omega.{arith}
use lib.Dec.{ltb}
use lib.ListN.{length, take, drop, length-drop}
use lib.Seq.{take_all}
use borrow.Author.Tests.{ltb-false}
use Rattle.basics.proofs.Tests.{not_both}
use Rattle.texts.specs.fields.Fields.{begins, same_to}
use Rattle.std.specs.Prelude.{Option, Some, None}
use Rattle.register.specs.declared.Register.{Register}
use Rattle.group_register.specs.declared.GroupRegister.{GroupRegister}
use Rattle.planning_lines.specs.stored.Answers.{after_stored}

-- a line that begins with a word is as long as the word
pub begins_long : (word line : List ℕ) → begins word line ≡ true → length word ≤ length line
unfolding begins
begins_long word line h = go (ltb (length line) (length word)) refl h
  where
    go : (t : Bool) → ltb (length line) (length word) ≡ t → cond t false (same_to word line (length word)) ≡ true → length word ≤ length line
    go true e k = absurd (not_both k refl)
    go false e k = ltb-false (length line) (length word) e

-- the bytes of a line behind its first n
pub behind_word : (line : List ℕ) (n : ℕ) → take (length line - n) (drop n line) ≡ drop n line
behind_word line n = take_all (length line - n) (drop n line) (rw length-drop (omega arith))

-- "takes the slot from the settings that it is read with, never a default"
pub settings_kept : (g : GroupRegister) (line : Option Register) → (after_stored g line).settings ≡ g.settings
unfolding after_stored
settings_kept g (Some begun) = refl
settings_kept g None = refl

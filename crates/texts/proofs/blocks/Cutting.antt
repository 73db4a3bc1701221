-- A line that an LF ends is the first of the lines that end, and what stands behind its LF has the others.
-- Assumes nothing.
use mathlib.Core.Path.{◌≡◌, refl, sym, ◌∙◌}
use mathlib.Core.List.{List, [], ◌∷◌, ◌++◌, append_assoc, append-nil}
use Prim.Native.Nat.{ℕ, zero, suc, ◌+◌, ◌-◌, ◌≤◌, ◌<◌}
use native.Mathlib.Numerals.{add-one}
use native.Mathlib.Omega.{arith}
use borrow.Author.Tests.{ne_eqb}
use lib.ListN.{length, take, drop, length-drop}
use lib.Seq.{take_all}
use Rattle.texts.specs.blocks.Lines.{FirstEnd, ended_behind, open_behind, ended_lines, open_line}

-- the same of the bytes behind the first, which is no LF
behind_first : {b end : ℕ} {bytes : List ℕ} → FirstEnd (b ∷ bytes) 0 (suc end) → FirstEnd bytes 0 end
behind_first {b} {end} {bytes} f =
    record { after = omega arith; within = omega (arith, f.within); none_before = λ i h k e. f.none_before (suc i) (omega arith) (omega arith) e; is_end = λ h. f.is_end (omega arith) }

ended_first : (bytes begun : List ℕ) (end : ℕ) → FirstEnd bytes 0 end → end < length bytes
    → ended_behind begun bytes ≡ (begun ++ take end bytes) ∷ ended_lines (drop (suc end) bytes)
unfolding ended_behind
ended_first [] begun end f h = absurd (omega arith)
ended_first (b ∷ bytes) begun zero f h = simp (f.is_end (omega arith), append-nil)
ended_first (b ∷ bytes) begun (suc end) f h =
    let rest = ended_first bytes (begun ++ (b ∷ [])) end (behind_first f) (omega arith) in
    simp (ne_eqb b 10 (f.none_before 0 (omega arith) (omega arith)), rest, append_assoc)

open_first : (bytes begun : List ℕ) (end : ℕ) → FirstEnd bytes 0 end → end < length bytes → open_behind begun bytes ≡ open_line (drop (suc end) bytes)
unfolding open_behind
open_first [] begun end f h = absurd (omega arith)
open_first (b ∷ bytes) begun zero f h = simp (f.is_end (omega arith))
open_first (b ∷ bytes) begun (suc end) f h =
    simp (ne_eqb b 10 (f.none_before 0 (omega arith) (omega arith))) (open_first bytes (begun ++ (b ∷ [])) end (behind_first f) (omega arith))

to_the_end : (at : ℕ) (bytes : List ℕ) → take (length bytes - at) (drop at bytes) ≡ drop at bytes
to_the_end at bytes = take_all (length bytes - at) (drop at bytes) (rw length-drop (omega arith))

pub first_ended : (bytes : List ℕ) (end : ℕ) → FirstEnd bytes 0 end → end < length bytes
    → ended_lines bytes ≡ take end bytes ∷ ended_lines (take (length bytes - (end + 1)) (drop (end + 1) bytes))
first_ended bytes end f h = rw to_the_end (rw add-one (ended_first bytes [] end f h))

pub first_open : (bytes : List ℕ) (end : ℕ) → FirstEnd bytes 0 end → end < length bytes
    → open_line bytes ≡ open_line (take (length bytes - (end + 1)) (drop (end + 1) bytes))
first_open bytes end f h = rw to_the_end (rw add-one (open_first bytes [] end f h))

pub none_ended : (bytes begun : List ℕ) (end : ℕ) → FirstEnd bytes 0 end → length bytes ≤ end → ended_behind begun bytes ≡ []
unfolding ended_behind
none_ended [] begun end f h = refl
none_ended (b ∷ bytes) begun zero f h = absurd (omega arith)
none_ended (b ∷ bytes) begun (suc end) f h =
    simp (ne_eqb b 10 (f.none_before 0 (omega arith) (omega arith))) (none_ended bytes (begun ++ (b ∷ [])) end (behind_first f) (omega arith))

pub all_open : (bytes begun : List ℕ) (end : ℕ) → FirstEnd bytes 0 end → length bytes ≤ end → open_behind begun bytes ≡ begun ++ bytes
unfolding open_behind
all_open [] begun end f h = sym (append-nil begun)
all_open (b ∷ bytes) begun zero f h = absurd (omega arith)
all_open (b ∷ bytes) begun (suc end) f h =
    simp (ne_eqb b 10 (f.none_before 0 (omega arith) (omega arith)))
    (all_open bytes (begun ++ (b ∷ [])) end (behind_first f) (omega arith) ∙ append_assoc begun (b ∷ []) bytes)

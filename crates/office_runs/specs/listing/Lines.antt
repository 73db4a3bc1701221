-- The texts in a line of the listing (document 02, E12).
-- Assumes nothing.
use Rattle.std.specs.Prelude.{cond, List, [], ◌∷◌, ◌++◌, ℕ, min, eqb, take}
use Rattle.texts.specs.Text.{ascii, decimal, each}
use Rattle.enabled_runs.specs.declared.RunEvent.{RunEvent}
use Rattle.enabled_runs.specs.declared.RunEvent.TheVariants.{Proposes, Delivers}
use Rattle.enabled_runs.specs.declared.CommitBy.{CommitBy}

-- two numbers with a full stop between
unfoldable pub pair : ℕ → ℕ → List ℕ
pair a b = decimal a ++ (ascii "." ++ decimal b)

-- "`p` and the member, or `d`, the member, a full stop and the message's place"
unfoldable pub event_text : RunEvent → List ℕ
event_text (Proposes member) = ascii "p" ++ decimal member
event_text (Delivers member place) = ascii "d" ++ pair member place

-- "member, slot and value with full stops between"
unfoldable pub commit_by_text : CommitBy → List ℕ
commit_by_text c = pair c.member c.slot ++ (ascii "." ++ decimal c.v)

-- "joined by blanks"
unfoldable pub joined_by_blanks : {A : Type 0} → (A → List ℕ) → List A → List ℕ
joined_by_blanks text [] = []
joined_by_blanks text (x ∷ xs) = text x ++ each (λ y. ascii " " ++ text y) xs

-- the blank before all but the first
unfoldable pub blank : ℕ → List ℕ
blank i = cond (eqb i 0) [] (ascii " ")

abbrev pub first_five : {A : Type 0} → List A → ℕ → List A
first_five xs n = take (min n 5) xs

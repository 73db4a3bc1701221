-- Causes in their order: a list of rows, each a number and whether its cause holds.
-- Assumes nothing.
use Rattle.std.specs.Prelude.{◌≡◌, ◌⊎◌, Bool, true, false, cond, not, ◌&&◌, List, [], ◌∷◌, ℕ}

pub record Row : Type 0 where
  pub number : ℕ
  pub cause : Bool

-- the number where the cause holds
abbrev pub gives : ℕ → Bool → Row
gives number cause = record { number = number; cause = cause }

-- the number where the Rust takes the path and the fact that it asserts there does not hold
abbrev pub asserts : ℕ → Bool → Bool → Row
asserts number path fact = gives number (path && not fact)

-- no cause of the list holds
abbrev pub NoneHolds : List Row → Type 0
NoneHolds [] = Unit {0}
NoneHolds (row ∷ rows) = (row.cause ≡ false) × NoneHolds rows

-- one holds, none before it does, and its number is n
abbrev pub FirstHolds : List Row → ℕ → Type 0
FirstHolds [] n = ⊥
FirstHolds (row ∷ rows) n = ((row.cause ≡ true) × (row.number ≡ n)) ⊎ ((row.cause ≡ false) × FirstHolds rows n)

-- the number of the first cause that holds, and 0 where none does
unfoldable pub first_of : List Row → ℕ
first_of [] = 0
first_of (row ∷ rows) = cond row.cause row.number (first_of rows)

-- one list behind another
unfoldable pub then : List Row → List Row → List Row
then [] rest = rest
then (row ∷ rows) rest = row ∷ then rows rest

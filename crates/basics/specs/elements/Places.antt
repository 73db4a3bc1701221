-- A list in the first places of a row, and the list with one element more or one fewer.
-- Assumes nothing.
use Rattle.std.specs.Prelude.{ℕ, suc, List, ◌∷◌, ◌++◌, length, take, drop}

module _ {A : Type 0} where
  -- the list l in the first places, the others as they were
  unfoldable pub at_front : List A → List A → List A
  at_front l places = l ++ drop (length l) places

  -- the list without the element at n
  unfoldable pub without : ℕ → List A → List A
  without n l = take n l ++ drop (suc n) l

  -- the list with a new element at a place
  unfoldable pub with_at : ℕ → A → List A → List A
  with_at at new l = take at l ++ (new ∷ drop at l)

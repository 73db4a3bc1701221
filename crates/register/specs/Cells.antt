-- The live cells, by number (document 02, E6). Each function passes the cells of lower numbers.
-- Assumes nothing.
use Rattle.std.specs.Prelude.{Bool, false, cond, List, [], ◌∷◌, ℕ, suc, leb, eqb, Result, Ok, Err}
use Rattle.register.specs.declared.Assignment.{Assignment}
use Rattle.register.specs.declared.Cell.{Cell}

abbrev pub cell_of : ℕ → Assignment → Cell
cell_of n a = record { number = n; assignment = a }

-- ---- in a list of what has numbers, by those numbers, which f gives
-- whether number n is there
unfoldable pub has_number : {A : Type 0} → (A → ℕ) → ℕ → List A → Bool
has_number f n [] = false
has_number f n (x ∷ xs) = cond (leb n (f x)) (eqb (f x) n) (has_number f n xs)

-- how many stand before the place of number n
unfoldable pub number_place : {A : Type 0} → (A → ℕ) → ℕ → List A → ℕ
number_place f n [] = 0
number_place f n (x ∷ xs) = cond (leb n (f x)) 0 (suc (number_place f n xs))

-- the place of number n where it is there, or else the place where it would stand
abbrev pub found : {A : Type 0} → (A → ℕ) → ℕ → List A → Result ℕ ℕ
found f n l = cond (has_number f n l) (Ok (number_place f n l)) (Err (number_place f n l))

-- ---- the live cells
abbrev pub number_of_cell : Cell → ℕ
number_of_cell c = c.number

-- whether cell n is live
abbrev pub is_live_cell : ℕ → List Cell → Bool
is_live_cell n cs = has_number number_of_cell n cs

-- the number of cells before the place of cell n
abbrev pub cell_place : ℕ → List Cell → ℕ
cell_place n cs = number_place number_of_cell n cs

-- "An assignment supersedes the cell's earlier one"
unfoldable pub cell_reassigned : ℕ → Assignment → List Cell → List Cell
cell_reassigned n a [] = []
cell_reassigned n a (c ∷ cs) = cond (leb n c.number) (cell_of n a ∷ cs) (c ∷ cell_reassigned n a cs)

-- a new cell stands behind those of lower numbers
unfoldable pub cell_inserted : ℕ → Assignment → List Cell → List Cell
cell_inserted n a [] = cell_of n a ∷ []
cell_inserted n a (c ∷ cs) = cond (leb n c.number) (cell_of n a ∷ c ∷ cs) (c ∷ cell_inserted n a cs)

-- "a release removes it"
unfoldable pub cell_removed : ℕ → List Cell → List Cell
cell_removed n [] = []
cell_removed n (c ∷ cs) = cond (leb n c.number) cs (c ∷ cell_removed n cs)

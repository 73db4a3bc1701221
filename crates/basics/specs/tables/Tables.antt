-- A number for each process (document 01, "an array by process"). A number above 63 is no process.
-- Assumes nothing.
use Rattle.std.specs.Prelude.{Bool, true, cond, ◌&&◌, List, ℕ, zero, suc, min, ltb, get_or, set}

-- the number of process p
unfoldable pub look_up : List ℕ → ℕ → ℕ
look_up table p = cond (ltb p 64) (get_or table p 0) 0

-- the table with the number n for process p
unfoldable pub store : List ℕ → ℕ → ℕ → List ℕ
store table p n = cond (ltb p 64) (set table p n) table

-- the numbers of the first n processes pass the test
unfoldable pub every : (ℕ → Bool) → List ℕ → ℕ → Bool
every test table zero = true
every test table (suc p) = every test table p && test (get_or table p 0)

-- the entry of each process below the bound is below it too
abbrev pub all_below : List ℕ → ℕ → Bool
all_below table bound = every (λ n. ltb n bound) table (min bound 64)

-- How a call adds one, takes one off, looks up in a table, and stores in it or in the table of reads: the engine's way, and what is asked of another.
-- Assumes nothing.
use Rattle.std.specs.Prelude.{◌≡◌, List, ℕ, ◌+◌, ◌-◌, ◌<◌, get_or, set}
use Rattle.basics.specs.tables.Tables.{look_up, store}
use Rattle.message.specs.Rounds.{increment}
use Rattle.read_tracker.specs.declared.OpenRead.{OpenRead}

pub record Sums : Type 0 where
  pub one_more : ℕ → ℕ
  pub one_less : ℕ → ℕ
  pub looked_up : List ℕ → ℕ → ℕ
  pub stored : List ℕ → ℕ → ℕ → List ℕ
  -- an open read, in a place of the table of reads
  pub placed : List OpenRead → ℕ → OpenRead → List OpenRead

-- the engine's: the largest number stays, and 0; a number above 63 has 0 for its entry, and is not stored; a read behind the last place is lost
abbrev pub own_sums : Sums
own_sums = record { one_more = increment; one_less = λ n. n - 1; looked_up = look_up; stored = store; placed = λ l p r. set l p r }

-- Those that are right wherever there is room, and are anything at all at the largest number, at 0, for numbers above 63 and behind the 128 places of reads.
pub record Right (m : Sums) : Type 0 where
  pub adds_one : (n : ℕ) → n < 18446744073709551615 → m.one_more n ≡ n + 1
  pub takes_one : (n : ℕ) → m.one_less (n + 1) ≡ n
  pub looks_up : (table : List ℕ) (p : ℕ) → p < 64 → m.looked_up table p ≡ get_or table p 0
  pub stores : (table : List ℕ) (p n : ℕ) → p < 64 → m.stored table p n ≡ set table p n
  pub places : (l : List OpenRead) (p : ℕ) (r : OpenRead) → p < 128 → m.placed l p r ≡ set l p r

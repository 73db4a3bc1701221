-- A set of process numbers as one number s (document 01, "BitSet: 64 bits, its size by counting ones"): process p is in it where the
-- binary digit of s at place p is 1.
-- Assumes nothing.
use Rattle.std.specs.Prelude.{◌≡◌, Bool, true, false, cond, ℕ, zero, suc, ◌+◌, ◌/◌, ◌%◌, ◌^◌, eqb, ltb}
use Rattle.std.specs.Int.Bits.{bit_or}

-- p is in s
unfoldable pub contains : ℕ → ℕ → Bool
contains s p = eqb (s / 2 ^ p % 2) 1

-- 1 where it is true
abbrev pub one : Bool → ℕ
one true = 1
one false = 0

-- how many numbers below n pass the test f
unfoldable pub count : (ℕ → Bool) → ℕ → ℕ
count f zero = 0
count f (suc n) = count f n + one (f n)

-- how many processes are in s
unfoldable pub size : ℕ → ℕ
size s = count (contains s) 64

-- s with p in it; a number above 63 is no process
unfoldable pub insert : ℕ → ℕ → ℕ
insert s p = cond (ltb p 64) (bit_or s (2 ^ p)) s

-- every process of s is below n, and only then: `fits_members` and `members_fit_lem` (proofs/Laws.antt)
abbrev pub fits : ℕ → ℕ → Bool
fits s n = ltb s (2 ^ n)

-- no process is in s
abbrev pub is_empty : ℕ → Bool
is_empty s = eqb s 0

-- every member of a is in b
abbrev pub Within : ℕ → ℕ → Type 0
Within a b = (p : ℕ) → contains a p ≡ true → contains b p ≡ true

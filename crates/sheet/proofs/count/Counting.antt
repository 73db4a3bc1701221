-- The count that an input asks for is from 1 to 64, and where its first line ends.
-- Assumes nothing.
use Rattle.std.proofs.Common.{◌≡◌, ◌∙◌, refl, ap, ℕ, suc, ◌≤◌, ◌+◌, List, [], ◌∷◌, take, Some, None, ◌==◌, eqb, Bool, true, false, cond, not, arith}
use lib.Seq.{take_all}
use Rattle.std.specs.List.{position, position_or_len}
use Rattle.sheet.specs.count.Count.{count_line, count_of_line, count_asked}

-- the bytes before the first LF
pub before_end : (s : List ℕ) → take (position_or_len (λ b. b == 10) s) s ≡ count_line s
unfolding count_line
before_end [] = refl
before_end (b ∷ bs) = go (before_end bs) (eqb b 10)
  where
    go : take (position_or_len (λ b. b == 10) bs) bs ≡ count_line bs → (t : Bool)
        → take (cond (not t) (1 + position_or_len (λ x. x == 10) bs) 0) (b ∷ bs) ≡ cond t [] (b ∷ count_line bs)
    go h true = refl
    go h false =
        let n : ℕ = position_or_len (λ b. b == 10) bs in
        let e : 1 + n ≡ suc n = omega arith in
        ap (λ (k : ℕ). take k (b ∷ bs)) e ∙ ap (λ (x : List ℕ). b ∷ x) h

pub up_to : (s : List ℕ) (n : ℕ) → position (λ b. b == 10) s ≡ Some n → take n s ≡ count_line s
up_to s n e = grind (arith, before_end s, e)

pub whole : (s : List ℕ) → position (λ b. b == 10) s ≡ None → s ≡ count_line s
whole s e = grind (arith, before_end s, e, take_all)

line_count : (l : List ℕ) (n : ℕ) → count_of_line l ≡ Some n → (1 ≤ n) × (n ≤ 64)
unfolding count_of_line
line_count [] n e = grind arith
line_count (a ∷ []) n e = grind arith
line_count (a ∷ b ∷ []) n e = grind arith
line_count (a ∷ b ∷ d ∷ rest) n e = grind arith

pub count_range : (s : List ℕ) (n : ℕ) → count_asked s ≡ Some n → (1 ≤ n) × (n ≤ 64)
unfolding count_asked
count_range s n e = line_count (count_line s) n e

-- the first three bytes settle it: a line that is longer than two asks for no count
pub by_three_bytes : (s : List ℕ) → count_asked (take 3 s) ≡ count_asked s
unfolding count_asked count_line count_of_line
by_three_bytes [] = refl
by_three_bytes (a ∷ []) = refl
by_three_bytes (a ∷ b ∷ []) = refl
by_three_bytes (a ∷ b ∷ d ∷ rest) = go (eqb a 10) (eqb b 10) (eqb d 10)
  where
    go : (x y z : Bool)
        → count_of_line (cond x [] (a ∷ cond y [] (b ∷ cond z [] (d ∷ [])))) ≡ count_of_line (cond x [] (a ∷ cond y [] (b ∷ cond z [] (d ∷ count_line rest))))
    go true y z = refl
    go false true z = refl
    go false false true = refl
    go false false false = refl

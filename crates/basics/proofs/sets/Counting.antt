-- How many numbers below n pass a test: the laws that counts of sets rest on, for every n at once.
-- Assumes nothing.
use mathlib.Core.Path.{◌≡◌, refl, sym, ap, ap₂, subst, ◌∙◌}
use mathlib.Core.Logic.{◌⊎◌, inl, inr}
use mathlib.Core.Bool.{Bool, true, false}
use Prim.Native.Nat.{ℕ, zero, suc, ◌+◌, ◌≤◌, ◌<◌, zero-le}
use native.Mathlib.Nat.{le_refl, le-suc, le_trans, lt_irrefl, not-suc-le-zero, le_of_suc-le-suc, eq-or-lt_of_le}
use native.Mathlib.Decide.{le_ind}
use native.Mathlib.Omega.{arith}
use Rattle.basics.specs.sets.Sets.{one, count}

one_le : (b : Bool) → one b ≤ 1
one_le true = le_refl 1
one_le false = zero-le

-- no more than n numbers are below n
pub count_le : (f : ℕ → Bool) (n : ℕ) → count f n ≤ n
unfolding count
count_le f zero = zero-le
count_le f (suc n) = omega (arith, count_le f n, one_le (f n))

one_mono : (a b : Bool) → (a ≡ true → b ≡ true) → one a ≤ one b
one_mono true b h = ap_le b (h refl)
  where
    ap_le : (b : Bool) → b ≡ true → 1 ≤ one b
    ap_le true e = le_refl 1
    ap_le false e = let z : ◌≡◌ {A = ℕ} 0 1 = ap one e in omega arith
one_mono false b h = zero-le

-- a test that passes wherever another does passes at least as often
pub count_mono : (f g : ℕ → Bool) (n : ℕ) → ((p : ℕ) → p < n → f p ≡ true → g p ≡ true) → count f n ≤ count g n
unfolding count
count_mono f g zero h = zero-le
count_mono f g (suc n) h =
    omega (arith, count_mono f g n (λ p l e. h p (le_trans l (le-suc n)) e), one_mono (f n) (g n) (h n (le_refl (suc n))))

-- tests that agree below n pass equally often there
pub count_ext : (f g : ℕ → Bool) (n : ℕ) → ((p : ℕ) → p < n → f p ≡ g p) → count f n ≡ count g n
unfolding count
count_ext f g zero h = refl
count_ext f g (suc n) h =
    ap₂ (λ (x y : ℕ). x + y) (count_ext f g n (λ p l. h p (le_trans l (le-suc n)))) (ap one (h n (le_refl (suc n))))

-- a test that fails from n on passes no more often below a larger bound
pub count_cut : (f : ℕ → Bool) (n : ℕ) → ((p : ℕ) → n ≤ p → f p ≡ false) → (m : ℕ) → n ≤ m → count f m ≡ count f n
unfolding count
count_cut f n h m l =
    le_ind (λ (k : ℕ). count f k ≡ count f n) refl
    (λ k j e. let z : one (f k) ≡ 0 = ap one (h k j) in omega arith) m l

-- a test that differs at p alone, where it passes and the other fails, passes once more
pub count_one_more : (f g : ℕ → Bool) (p : ℕ) → f p ≡ false → g p ≡ true → ((q : ℕ) → (p ≡ q → ⊥) → g q ≡ f q)
    → (n : ℕ) → p < n → count g n ≡ count f n + 1
unfolding count
count_one_more f g p ff gt h zero l = absurd (not-suc-le-zero l)
count_one_more f g p ff gt h (suc n) l = go (λ (j : p < n). count_one_more f g p ff gt h n j) (eq-or-lt_of_le (le_of_suc-le-suc l))
  where
    go : (p < n → count g n ≡ count f n + 1) → (p ≡ n) ⊎ (p < n) → count g n + one (g n) ≡ count f n + one (f n) + 1
    go rest (inl e) =
        let fn : one (f n) ≡ 0 = ap one (ap f (sym e) ∙ ff) in
        let gn : one (g n) ≡ 1 = ap one (ap g (sym e) ∙ gt) in
        let low : count g n ≡ count f n = count_ext g f n (λ q j. h q (λ d. lt_irrefl n (subst (λ (x : ℕ). x < n) (sym d ∙ e) j))) in
        omega arith
    go rest (inr j) =
        let same : one (g n) ≡ one (f n) = ap one (h n (λ d. lt_irrefl n (subst (λ (x : ℕ). x < n) d j))) in
        omega (arith, rest j)

-- what passes somewhere passes at least once
pub count_some : (f : ℕ → Bool) (p : ℕ) → f p ≡ true → (n : ℕ) → p < n → 0 < count f n
unfolding count
count_some f p e zero l = absurd (not-suc-le-zero l)
count_some f p e (suc n) l = go (λ (j : p < n). count_some f p e n j) (eq-or-lt_of_le (le_of_suc-le-suc l))
  where
    go : (p < n → 0 < count f n) → (p ≡ n) ⊎ (p < n) → 0 < count f n + one (f n)
    go rest (inl d) = let z : one (f n) ≡ 1 = ap one (ap f (sym d) ∙ e) in omega arith
    go rest (inr j) = omega (arith, rest j)

-- Two tests that pass only where a third does, and together more often than it, pass together somewhere.
pub count_meet : (f g h : ℕ → Bool) (n : ℕ)
    → ((p : ℕ) → p < n → f p ≡ true → h p ≡ true) → ((p : ℕ) → p < n → g p ≡ true → h p ≡ true)
    → count h n < count f n + count g n → (p : ℕ) × (p < n) × (f p ≡ true) × (g p ≡ true)
unfolding count
count_meet f g h zero fh gh l = absurd (lt_irrefl 0 l)
count_meet f g h (suc n) fh gh l =
    go (λ (k : count h n < count f n + count g n). count_meet f g h n (λ p j. fh p (le_trans j (le-suc n))) (λ p j. gh p (le_trans j (le-suc n))) k)
    (f n) (g n) refl refl
  where
    go : (count h n < count f n + count g n → (p : ℕ) × (p < n) × (f p ≡ true) × (g p ≡ true))
        → (a b : Bool) → f n ≡ a → g n ≡ b → (p : ℕ) × (p < suc n) × (f p ≡ true) × (g p ≡ true)
    go rest true true d e = (n, le_refl (suc n), d, e)
    go rest false b d e =
        let z : one (f n) ≡ 0 = ap one d in
        let r = rest (omega (arith, one_mono (g n) (h n) (gh n (le_refl (suc n))))) in
        (r.0, le_trans r.1 (le-suc n), r.2, r.3)
    go rest true false d e =
        let z : one (g n) ≡ 0 = ap one e in
        let r = rest (omega (arith, one_mono (f n) (h n) (fh n (le_refl (suc n))))) in
        (r.0, le_trans r.1 (le-suc n), r.2, r.3)

-- the first number, and the rest
pub count_first : (f : ℕ → Bool) (n : ℕ) → count f (suc n) ≡ one (f 0) + count (λ p. f (suc p)) n
unfolding count
count_first f zero = omega arith
count_first f (suc n) = omega (arith, count_first f n)

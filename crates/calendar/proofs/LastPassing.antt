-- The last number whose sum is reached: of sums that do not fall, it is the one between whose sum and the next one's the day lies.
-- Assumes nothing.
use mathlib.Core.Path.{◌≡◌, sym, subst}
use mathlib.Core.Bool.{true, false, cond}
use mathlib.Core.Logic.{◌⊎◌, inl, inr}
use Prim.Native.Nat.{ℕ, zero, suc, ◌≤◌, ◌<◌}
use native.Mathlib.Nat.{le_trans, le_refl, le_of_suc-le-suc, eq-or-lt_of_le}
use native.Mathlib.Omega.{arith}
use lib.Dec.{leb}
use borrow.Author.Tests.{leb-true, leb-false, le-leb, lt-leb}
use Rattle.basics.proofs.Tests.{either}
use Rattle.calendar.specs.Calendar.{last_passing}

-- sums that do not fall
pub grows : (sum : ℕ → ℕ) → ((k : ℕ) → sum k ≤ sum (suc k)) → (i j : ℕ) → i ≤ j → sum i ≤ sum j
grows sum rises i zero h = let e : i ≡ 0 = omega arith in subst (λ (x : ℕ). sum x ≤ sum 0) (sym e) (le_refl _)
grows sum rises i (suc j) h = go (λ (l : i ≤ j). grows sum rises i j l) (eq-or-lt_of_le h)
  where
    go : (i ≤ j → sum i ≤ sum j) → (i ≡ suc j) ⊎ (i < suc j) → sum i ≤ sum (suc j)
    go again (inl e) = subst (λ (x : ℕ). sum i ≤ sum x) e (le_refl _)
    go again (inr l) = le_trans (again (le_of_suc-le-suc l)) (rises j)

module _ (sum : ℕ → ℕ) (x : ℕ) where
  pub last_passing_reached : (n : ℕ) → sum 0 ≤ x → sum (last_passing (λ k. leb (sum k) x) n) ≤ x
  unfolding last_passing
  last_passing_reached zero h = h
  last_passing_reached (suc n) h = go (either (leb (sum (suc n)) x)) (last_passing_reached n h)
    where
      go : (leb (sum (suc n)) x ≡ true) ⊎ (leb (sum (suc n)) x ≡ false) → sum (last_passing (λ k. leb (sum k) x) n) ≤ x
          → sum (cond (leb (sum (suc n)) x) (suc n) (last_passing (λ k. leb (sum k) x) n)) ≤ x
      go (inl e) r = simp e (leb-true (sum (suc n)) x e)
      go (inr e) r = simp e r

  pub last_passing_within : (n : ℕ) → last_passing (λ k. leb (sum k) x) n ≤ n
  unfolding last_passing
  last_passing_within zero = le_refl _
  last_passing_within (suc n) = go (either (leb (sum (suc n)) x)) (last_passing_within n)
    where
      go : (leb (sum (suc n)) x ≡ true) ⊎ (leb (sum (suc n)) x ≡ false) → last_passing (λ k. leb (sum k) x) n ≤ n
          → cond (leb (sum (suc n)) x) (suc n) (last_passing (λ k. leb (sum k) x) n) ≤ suc n
      go (inl e) r = simp e (le_refl _)
      go (inr e) r = simp e (omega arith)

  pub last_passing_last : (n : ℕ) → x < sum (suc n) → x < sum (suc (last_passing (λ k. leb (sum k) x) n))
  unfolding last_passing
  last_passing_last zero h = h
  last_passing_last (suc n) h = go (either (leb (sum (suc n)) x)) (λ l. last_passing_last n l)
    where
      go : (leb (sum (suc n)) x ≡ true) ⊎ (leb (sum (suc n)) x ≡ false) → (x < sum (suc n) → x < sum (suc (last_passing (λ k. leb (sum k) x) n)))
          → x < sum (suc (cond (leb (sum (suc n)) x) (suc n) (last_passing (λ k. leb (sum k) x) n)))
      go (inl e) r = simp e h
      go (inr e) r = simp e (r (leb-false (sum (suc n)) x e))

  -- the number between whose sum and the next one's x lies
  pub last_passing_is : ((k : ℕ) → sum k ≤ sum (suc k)) → (n k : ℕ) → k ≤ n → sum k ≤ x → ((k < n) → x < sum (suc k)) → last_passing (λ j. leb (sum j) x) n ≡ k
  unfolding last_passing
  last_passing_is rises zero k within low high = omega arith
  last_passing_is rises (suc n) k within low high =
      go (λ (w : k ≤ n) (h : k < n → x < sum (suc k)). last_passing_is rises n k w low h) (eq-or-lt_of_le within)
    where
      go : (k ≤ n → (k < n → x < sum (suc k)) → last_passing (λ j. leb (sum j) x) n ≡ k) → (k ≡ suc n) ⊎ (k < suc n)
          → cond (leb (sum (suc n)) x) (suc n) (last_passing (λ j. leb (sum j) x) n) ≡ k
      go again (inl e) = simp (le-leb (sum (suc n)) x (subst (λ (m : ℕ). sum m ≤ x) e low)) (sym e)
      go again (inr l) =
          let past : x < sum (suc n) = le_trans (high l) (grows sum rises (suc k) (suc n) l) in
          simp (lt-leb (sum (suc n)) x past) (again (le_of_suc-le-suc l) (λ m. high (omega arith)))

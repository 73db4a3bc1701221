-- The laws of sets of processes: membership, size, subsets, and that two majorities meet. Each holds for every process count at once.
-- Assumes nothing.
use mathlib.Core.Path.{◌≡◌, refl, sym, ap, ap₂, subst, ◌∙◌}
use mathlib.Core.Logic.{◌⊎◌, inl, inr}
use mathlib.Core.Bool.{Bool, true, false, not, ◌||◌, cond, or-false}
use Prim.Native.Nat.{ℕ, zero, suc, ◌+◌, ◌*◌, ◌/◌, ◌%◌, ◌^◌, ◌≤◌, ◌<◌, suc-le-suc, max}
use native.Mathlib.Nat.{le_trans, lt_irrefl, lt_of_lt_of_le, zero-lt-suc, one-mul, mod-lt, div-eq_of_lt, eq-zero-or-pos, le_of_suc-le-suc, not-suc-le-zero, div-one, lt_of_not-le, div-lt_iff_lt-mul, le_of_eq, le_of_lt, add-zero}
use native.Mathlib.Numerals.{one-add, add-one}
use native.Mathlib.Decide.{ℕ_discrete, dec_le}
use native.Mathlib.Omega.{arith}
use lib.Dec.{lit<, ltb, eqb, eqb-zero-suc, eqb-suc-zero, eqb-suc-suc}
use lib.Arith.{lt-one, digits_mod, bin_ind}
use lib.Pow.{pow_pos, pow_mono, pow-lt, shl_exact, shr-shr, shr_lt}
use lib.Bits.{bit_or, or_step, or_shr, or_lt, shifted_half, shifted_even}
use lib.Count.{ones, ones_step}
use borrow.Author.Tests.{eq-eqb, ne_eqb, lt-ltb, le-ltb, ltb-true}
use Rattle.basics.proofs.Tests.{not_both, or_right}
use Rattle.basics.specs.sets.Sets.{contains, one, count, size, insert, fits, Within}
use Rattle.basics.proofs.sets.Counting.{count_le, count_mono, count_ext, count_cut, count_one_more, count_some, count_meet, count_first}

-- ---- membership, digit by digit

contains_suc : (s p : ℕ) → contains s (suc p) ≡ contains (s / 2) p
unfolding contains
contains_suc s p = ap (λ (x : ℕ). eqb (x % 2) 1) (ap (λ (k : ℕ). s / 2 ^ k) (sym (one-add p)) ∙ sym (shr-shr s 1 p))

contains_low : (s : ℕ) → contains s 0 ≡ eqb (s % 2) 1
unfolding contains
contains_low s = ap (λ (x : ℕ). eqb (x % 2) 1) (div-one s)

pub contains_empty : (p : ℕ) → contains 0 p ≡ false
unfolding contains
contains_empty zero = refl
contains_empty (suc p) = contains_suc 0 p ∙ contains_empty p

-- a set of n digits has no member from n on
pub contains_beyond : (s n p : ℕ) → s < 2 ^ n → n ≤ p → contains s p ≡ false
unfolding contains
contains_beyond s n p h l = ap (λ (x : ℕ). eqb (x % 2) 1) (div-eq_of_lt (lt_of_lt_of_le h (pow_mono l)))

-- a number of 64 digits has no member past 63
pub contains_none : (s p : ℕ) → s < 18446744073709551616 → 64 ≤ p → contains s p ≡ false
contains_none s p h l = contains_beyond s 64 p h l

-- the members of s / 2 ^ n are those of s from n on
contains_shift : (s n p : ℕ) → contains (s / 2 ^ n) p ≡ contains s (n + p)
unfolding contains
contains_shift s n p = ap (λ (x : ℕ). eqb (x % 2) 1) (shr-shr s n p)

two_pos : 0 < 2
two_pos = zero-lt-suc 1

digit : (n : ℕ) → (n % 2 ≡ 0) ⊎ (n % 2 ≡ 1)
digit n = go (n % 2) (mod-lt n two_pos)
  where
    go : (d : ℕ) → d < 2 → (d ≡ 0) ⊎ (d ≡ 1)
    go zero h = inl refl
    go (suc d) h = inr (ap suc (lt-one (le_of_suc-le-suc h)))

or_digits : (x y : ℕ) → x < 2 → y < 2 → (max x y < 2) × (eqb (max x y) 1 ≡ (eqb x 1 || eqb y 1))
or_digits zero zero h k = (lit< tt, refl)
or_digits zero (suc zero) h k = (lit< tt, refl)
or_digits (suc zero) zero h k = (lit< tt, refl)
or_digits (suc zero) (suc zero) h k = (lit< tt, refl)
or_digits (suc (suc x)) y h k = absurd (not-suc-le-zero (le_of_suc-le-suc (le_of_suc-le-suc h)))
or_digits zero (suc (suc y)) h k = absurd (not-suc-le-zero (le_of_suc-le-suc (le_of_suc-le-suc k)))
or_digits (suc zero) (suc (suc y)) h k = absurd (not-suc-le-zero (le_of_suc-le-suc (le_of_suc-le-suc k)))

digit_or : (u v : ℕ) → bit_or u v % 2 ≡ max (u % 2) (v % 2)
digit_or u v =
    ap (λ (x : ℕ). x % 2) (or_step u v)
    ∙ digits_mod (bit_or (u / 2) (v / 2)) (or_digits (u % 2) (v % 2) (mod-lt u two_pos) (mod-lt v two_pos)).0

-- the members of two sets together
contains_or : (a b p : ℕ) → contains (bit_or a b) p ≡ (contains a p || contains b p)
unfolding contains
contains_or a b p =
    ap (λ (x : ℕ). eqb (x % 2) 1) (or_shr a b p) ∙ ap (λ (x : ℕ). eqb x 1) (digit_or (a / 2 ^ p) (b / 2 ^ p))
    ∙ (or_digits (a / 2 ^ p % 2) (b / 2 ^ p % 2) (mod-lt (a / 2 ^ p) two_pos) (mod-lt (b / 2 ^ p) two_pos)).1

-- the set of p alone
contains_pow : (p q : ℕ) → contains (2 ^ p) q ≡ eqb p q
unfolding contains
contains_pow zero zero = refl
contains_pow zero (suc q) = contains_suc 1 q ∙ contains_empty q ∙ sym (eqb-zero-suc q)
contains_pow (suc p) zero =
    ap (λ (x : ℕ). eqb (x % 2) 1) (div-one (2 ^ suc p) ∙ sym (one-mul (2 ^ suc p))) ∙ ap (λ (x : ℕ). eqb x 1) (shifted_even 1 p)
    ∙ sym (eqb-suc-zero p)
contains_pow (suc p) (suc q) =
    contains_suc (2 ^ suc p) q
    ∙ ap (λ (x : ℕ). contains x q) (ap (λ (x : ℕ). x / 2) (sym (one-mul (2 ^ suc p))) ∙ shifted_half 1 p ∙ one-mul (2 ^ p))
    ∙ contains_pow p q ∙ sym (eqb-suc-suc p q)

-- ---- halves and shifts

half_lt : (n s : ℕ) → s < 2 ^ suc n → s / 2 < 2 ^ n
half_lt n s h = shr_lt n 1 (subst (λ (x : ℕ). s < 2 ^ x) (sym (add-one n)) h)

-- nothing is left of s where it is shifted past its digits
shift_zero : (s n : ℕ) → s / 2 ^ n ≡ 0 → s < 2 ^ n
shift_zero s n e =
    subst (λ (x : ℕ). s < x) (one-mul (2 ^ n)) ((div-lt_iff_lt-mul (pow_pos n)).0 (subst (λ (x : ℕ). x < 1) (sym e) (zero-lt-suc 0)))

pub shift_fits : (s n : ℕ) → eqb (s / 2 ^ n) 0 ≡ fits s n
shift_fits s n = go (eq-zero-or-pos (s / 2 ^ n))
  where
    go : (s / 2 ^ n ≡ 0) ⊎ (0 < s / 2 ^ n) → eqb (s / 2 ^ n) 0 ≡ ltb s (2 ^ n)
    go (inl e) = eq-eqb (s / 2 ^ n) 0 e ∙ sym (lt-ltb s (2 ^ n) (shift_zero s n e))
    go (inr l) =
        ne_eqb (s / 2 ^ n) 0 (λ e. lt_irrefl 0 (subst (λ (x : ℕ). 0 < x) e l))
        ∙ sym (le-ltb s (2 ^ n) (le_of_suc-le-suc (lt_of_not-le (λ (k : s < 2 ^ n). lt_irrefl 0 (subst (λ (x : ℕ). 0 < x) (div-eq_of_lt k) l)))))

-- a number of 64 digits has none past 63, so that it fits
pub fits_all : (s n : ℕ) → s < 18446744073709551616 → 64 ≤ n → fits s n ≡ true
fits_all s n h l = lt-ltb s (2 ^ n) (lt_of_lt_of_le {m = 2 ^ 64} h (pow_mono l))

one_digit : (s : ℕ) → one (eqb (s % 2) 1) ≡ s % 2
one_digit s = go (digit s)
  where
    go : (s % 2 ≡ 0) ⊎ (s % 2 ≡ 1) → one (eqb (s % 2) 1) ≡ s % 2
    go (inl e) = ap (λ (x : ℕ). one (eqb x 1)) e ∙ sym e
    go (inr e) = ap (λ (x : ℕ). one (eqb x 1)) e ∙ sym e

same_digit : (a b : ℕ) → eqb (a % 2) 1 ≡ eqb (b % 2) 1 → a % 2 ≡ b % 2
same_digit a b e = sym (one_digit a) ∙ ap one e ∙ one_digit b

-- ---- one process more

pub insert_or : (s p : ℕ) → p < 64 → insert s p ≡ bit_or s (2 ^ p)
unfolding insert
insert_or s p l = ap (λ (t : Bool). cond t (bit_or s (2 ^ p)) s) (lt-ltb p 64 l)

-- 1 shifted by p loses nothing
pub insert_shifted : (s p : ℕ) → p < 64 → bit_or s (1 * 2 ^ p % 18446744073709551616) ≡ insert s p
insert_shifted s p l = ap (bit_or s) (shl_exact 1 p 64 (lit< tt) (omega arith) ∙ one-mul (2 ^ p)) ∙ sym (insert_or s p l)

-- a number that is no process leaves the set as it is
pub insert_none : (s p : ℕ) → 64 ≤ p → insert s p ≡ s
unfolding insert
insert_none s p l = ap (λ (t : Bool). cond t (bit_or s (2 ^ p)) s) (le-ltb p 64 l)

-- the members of s with p in it
pub contains_insert : (s p q : ℕ) → p < 64 → contains (insert s p) q ≡ (contains s q || eqb p q)
contains_insert s p q l =
    ap (λ (x : ℕ). contains x q) (insert_or s p l) ∙ contains_or s (2 ^ p) q ∙ ap (λ (b : Bool). contains s q || b) (contains_pow p q)

-- p itself is a member
pub contains_insert_same : (s p : ℕ) → p < 64 → contains (insert s p) p ≡ true
contains_insert_same s p l = contains_insert s p p l ∙ or_right (contains s p) (eq-eqb p p refl)

-- any other process is as it was
pub contains_insert_other : (s p q : ℕ) → (p ≡ q → ⊥) → contains (insert s p) q ≡ contains s q
contains_insert_other s p q h = go (dec_le 64 p)
  where
    go : Dec (64 ≤ p) → contains (insert s p) q ≡ contains s q
    go (yes l) = ap (λ (x : ℕ). contains x q) (insert_none s p l)
    go (no l) = contains_insert s p q (lt_of_not-le l) ∙ ap (λ (b : Bool). contains s q || b) (ne_eqb p q h) ∙ or-false (contains s q)

-- the result has no more digits than s and p have room in
insert_lt : (n s p : ℕ) → s < 2 ^ n → p < n → insert s p < 2 ^ n
insert_lt n s p h l = go (dec_le 64 p)
  where
    go : Dec (64 ≤ p) → insert s p < 2 ^ n
    go (yes k) = subst (λ (x : ℕ). x < 2 ^ n) (sym (insert_none s p k)) h
    go (no k) = subst (λ (x : ℕ). x < 2 ^ n) (sym (insert_or s p (lt_of_not-le k))) (or_lt n s (2 ^ p) h (pow-lt l))

pub insert_fits : (n s p : ℕ) → fits s n ≡ true → p < n → fits (insert s p) n ≡ true
insert_fits n s p h l = lt-ltb (insert s p) (2 ^ n) (insert_lt n s p (ltb-true s (2 ^ n) h) l)

-- ---- a set is what its members are

-- a number that is not 0 has a member
some_member : (s : ℕ) → 0 < s → (p : ℕ) × (contains s p ≡ true)
some_member = bin_ind (λ (n : ℕ). 0 < n → (p : ℕ) × (contains n p ≡ true)) (λ h. absurd (lt_irrefl 0 h)) step
  where
    step : (n : ℕ) → (0 < n / 2 → (p : ℕ) × (contains (n / 2) p ≡ true)) → 0 < n → (p : ℕ) × (contains n p ≡ true)
    step n rest h = go (digit n)
      where
        go : (n % 2 ≡ 0) ⊎ (n % 2 ≡ 1) → (p : ℕ) × (contains n p ≡ true)
        go (inl e) = let r = rest (omega arith) in (suc r.0, contains_suc n r.0 ∙ r.1)
        go (inr e) = (0, contains_low n ∙ ap (λ (x : ℕ). eqb x 1) e)

-- sets of n digits with the same members are equal
pub same_set : (n a b : ℕ) → a < 2 ^ n → b < 2 ^ n → ((p : ℕ) → p < n → contains a p ≡ contains b p) → a ≡ b
same_set zero a b ha hb h = lt-one ha ∙ sym (lt-one hb)
same_set (suc n) a b ha hb h =
    let halves : a / 2 ≡ b / 2 = same_set n (a / 2) (b / 2) (half_lt n a ha) (half_lt n b hb) (λ p l. sym (contains_suc a p) ∙ h (suc p) (suc-le-suc l) ∙ contains_suc b p) in
    let lows : a % 2 ≡ b % 2 = same_digit a b (sym (contains_low a) ∙ h 0 (zero-lt-suc n) ∙ contains_low b) in
    omega arith

-- `fits` in words: every member is below n
pub fits_members : (s n : ℕ) → fits s n ≡ true → (p : ℕ) → contains s p ≡ true → p < n
fits_members s n h p m = lt_of_not-le (λ (l : n ≤ p). not_both m (contains_beyond s n p (ltb-true s (2 ^ n) h) l))

-- and the other way
pub members_fit_lem : (s n : ℕ) → ((p : ℕ) → contains s p ≡ true → p < n) → fits s n ≡ true
members_fit_lem s n h = lt-ltb s (2 ^ n) (go (eq-zero-or-pos (s / 2 ^ n)))
  where
    go : (s / 2 ^ n ≡ 0) ⊎ (0 < s / 2 ^ n) → s < 2 ^ n
    go (inl e) = shift_zero s n e
    go (inr l) = let r = some_member (s / 2 ^ n) l in let k : n + r.0 < n = h (n + r.0) (sym (contains_shift s n r.0) ∙ r.1) in omega arith

-- where p was there already nothing changes
contains_insert_old : (s p : ℕ) → contains s p ≡ true → (q : ℕ) → contains (insert s p) q ≡ contains s q
contains_insert_old s p h q = go (ℕ_discrete p q) (dec_le 64 p)
  where
    go : Dec (p ≡ q) → Dec (64 ≤ p) → contains (insert s p) q ≡ contains s q
    go (no d) k = contains_insert_other s p q d
    go (yes e) (yes k) = ap (λ (x : ℕ). contains x q) (insert_none s p k)
    go (yes e) (no k) = ap (contains (insert s p)) (sym e) ∙ contains_insert_same s p (lt_of_not-le k) ∙ sym h ∙ ap (contains s) e

pub insert_old : (s p : ℕ) → s < 2 ^ 64 → contains s p ≡ true → insert s p ≡ s
insert_old s p h e =
    same_set 64 (insert s p) s (insert_lt 64 s p h (fits_members s 64 (lt-ltb s (2 ^ 64) h) p e)) h (λ q l. contains_insert_old s p e q)

-- ---- the size

-- digits and members are counted alike
count_digits : (n s : ℕ) → s < 2 ^ n → count (contains s) n ≡ ones s
unfolding count ones
count_digits zero s h = sym (ap ones (lt-one h))
count_digits (suc n) s h =
    count_first (contains s) n
    ∙ ap₂ (λ (x y : ℕ). x + y) (ap one (contains_low s) ∙ one_digit s) (count_ext (λ p. contains s (suc p)) (contains (s / 2)) n (λ p l. contains_suc s p) ∙ count_digits n (s / 2) (half_lt n s h))
    ∙ sym (ones_step s)

-- the machine's count of set bits is the size
pub size_ones : (s : ℕ) → s < 2 ^ 64 → size s ≡ ones s
unfolding size
size_ones s h = count_digits 64 s h

pub size_empty : size 0 ≡ 0
unfolding ones
size_empty = size_ones 0 (lit< tt)

-- a set of processes below n has at most n of them
pub size_fits : (s n : ℕ) → fits s n ≡ true → size s ≤ n
unfolding size
size_fits s n h = go (dec_le n 64)
  where
    go : Dec (n ≤ 64) → count (contains s) 64 ≤ n
    go (yes l) = le_trans (le_of_eq (count_cut (contains s) n (λ p j. contains_beyond s n p (ltb-true s (2 ^ n) h) j) 64 l)) (count_le (contains s) n)
    go (no d) = le_trans (count_le (contains s) 64) (le_of_lt (lt_of_not-le d))

-- the size after p is put in: one more where it was not there, and else the same
pub size_insert : (s p : ℕ) → p < 64 → size (insert s p) ≡ size s + one (not (contains s p))
unfolding size
size_insert s p l = go (contains s p) refl
  where
    go : (b : Bool) → contains s p ≡ b → count (contains (insert s p)) 64 ≡ count (contains s) 64 + one (not (contains s p))
    go true e =
        count_ext (contains (insert s p)) (contains s) 64 (λ q k. contains_insert_old s p e q) ∙ sym (add-zero (count (contains s) 64))
        ∙ ap (λ (b : Bool). count (contains s) 64 + one (not b)) (sym e)
    go false e =
        count_one_more (contains s) (contains (insert s p)) p e (contains_insert_same s p l) (contains_insert_other s p) 64 l
        ∙ ap (λ (b : Bool). count (contains s) 64 + one (not b)) (sym e)

-- a set within another is no larger
pub size_within : (a b : ℕ) → Within a b → size a ≤ size b
unfolding size
size_within a b h = count_mono (contains a) (contains b) 64 (λ p l e. h p e)

-- only the empty set has size 0
pub empty_of_size : (s : ℕ) → s < 2 ^ 64 → size s ≡ 0 → s ≡ 0
unfolding size
empty_of_size s h e = go (eq-zero-or-pos s)
  where
    go : (s ≡ 0) ⊎ (0 < s) → s ≡ 0
    go (inl d) = d
    go (inr l) =
        let r = some_member s l in
        let k : 0 < count (contains s) 64 = count_some (contains s) r.0 r.1 64 (fits_members s 64 (lt-ltb s (2 ^ 64) h) r.0 r.1) in omega arith

-- ---- subsets

pub within_trans : (a b c : ℕ) → Within a b → Within b c → Within a c
within_trans a b c h k p e = k p (h p e)

pub within_empty : (a : ℕ) → Within 0 a
within_empty a p e = absurd (not_both e (contains_empty p))

pub within_insert : (s p : ℕ) → Within s (insert s p)
within_insert s p q e = go (dec_le 64 p)
  where
    go : Dec (64 ≤ p) → contains (insert s p) q ≡ true
    go (yes l) = ap (λ (x : ℕ). contains x q) (insert_none s p l) ∙ e
    go (no l) = contains_insert s p q (lt_of_not-le l) ∙ ap (λ (b : Bool). b || eqb p q) e

-- a set within another stays so with a process of the other
pub insert_within : (s p b : ℕ) → Within s b → contains b p ≡ true → Within (insert s p) b
insert_within s p b h m q e = go (ℕ_discrete p q)
  where
    go : Dec (p ≡ q) → contains b q ≡ true
    go (yes d) = ap (contains b) (sym d) ∙ m
    go (no d) = h q (sym (contains_insert_other s p q d) ∙ e)

-- ---- majorities meet

-- two sets of live processes that are together larger than the live set share a process
pub sets_meet : (live a b : ℕ) → Within a live → Within b live → size live < size a + size b
    → (p : ℕ) × (p < 64) × (contains a p ≡ true) × (contains b p ≡ true)
unfolding size
sets_meet live a b al bl h = count_meet (contains a) (contains b) (contains live) 64 (λ p l e. al p e) (λ p l e. bl p e) h

-- two majorities of r replicas share a process
pub majorities_meet : (r live a b : ℕ) → Within a live → Within b live → size live ≤ r → r / 2 + 1 ≤ size a → r / 2 + 1 ≤ size b
    → (p : ℕ) × (p < 64) × (contains a p ≡ true) × (contains b p ≡ true)
majorities_meet r live a b al bl h ha hb = sets_meet live a b al bl (omega arith)

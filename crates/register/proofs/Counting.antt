-- Counting the cells that pass a test: what one cell more, or another answer for one cell, does to the count.
-- Assumes nothing.
use mathlib.Core.Path.{◌≡◌, refl, sym, ap, ◌∙◌}
use mathlib.Core.Bool.{Bool, true, false, cond}
use mathlib.Core.List.{List, [], ◌∷◌}
use mathlib.Core.Logic.{◌⊎◌, inl, inr}
use Prim.Native.Nat.{ℕ, suc}
use lib.Dec.{eqb}
use borrow.Author.Tests.{eqb-true, eqb-false, eq-eqb, ne_eqb}
use Rattle.basics.proofs.Tests.{either, not_both}
use Rattle.register.specs.Taken.{among, count_in}

other_way : (a b : ℕ) → eqb a b ≡ false → eqb b a ≡ false
other_way a b p = ne_eqb b a (λ e. eqb-false a b p (sym e))

-- no number stands twice
abbrev pub Distinct : List ℕ → Type 0
Distinct [] = Unit {0}
Distinct (n ∷ ns) = (among n ns ≡ false) × Distinct ns

-- a list with one number, which may be there already
abbrev pub named : ℕ → List ℕ → List ℕ
named n ns = cond (among n ns) ns (n ∷ ns)

pub named_distinct : (n : ℕ) (ns : List ℕ) → Distinct ns → Distinct (named n ns)
named_distinct n ns d = go (among n ns) refl
  where
    go : (t : Bool) → among n ns ≡ t → Distinct (cond t ns (n ∷ ns))
    go true e = d
    go false e = (e, d)

pub named_among : (n : ℕ) (ns : List ℕ) → among n (named n ns) ≡ true
unfolding among
named_among n ns = go (among n ns) refl
  where
    go : (t : Bool) → among n ns ≡ t → among n (cond t ns (n ∷ ns)) ≡ true
    go true e = e
    go false e = simp (eq-eqb n n refl)

pub named_keeps : (n m : ℕ) (ns : List ℕ) → among m ns ≡ true → among m (named n ns) ≡ true
unfolding among
named_keeps n m ns h = go (among n ns) (eqb n m)
  where
    go : (t u : Bool) → among m (cond t ns (n ∷ ns)) ≡ true
    go true u = h
    go false u = more (eqb n m)
      where
        more : (v : Bool) → cond v true (among m ns) ≡ true
        more true = refl
        more false = h

module _ (f g : ℕ → Bool) where
  pub count_same : ((m : ℕ) → f m ≡ g m) → (ns : List ℕ) → count_in f ns ≡ count_in g ns
  unfolding count_in
  count_same same [] = refl
  count_same same (m ∷ ms) = let rest = count_same same ms in simp (same m, rest)

-- a number that fails the test adds nothing
pub count_named : (f : ℕ → Bool) (n : ℕ) (ns : List ℕ) → (among n ns ≡ false → f n ≡ false) → count_in f (named n ns) ≡ count_in f ns
unfolding count_in
count_named f n ns h = go (among n ns) refl
  where
    go : (t : Bool) → among n ns ≡ t → count_in f (cond t ns (n ∷ ns)) ≡ count_in f ns
    go true e = refl
    go false e = simp (h e)

-- two tests that differ at n alone
module _ (f g : ℕ → Bool) (n : ℕ) (same : (m : ℕ) → eqb n m ≡ false → f m ≡ g m) where
  count_off : (ns : List ℕ) → among n ns ≡ false → count_in f ns ≡ count_in g ns
  unfolding count_in among
  count_off [] h = refl
  count_off (m ∷ ms) h = go (either (eqb m n)) (λ k. count_off ms k)
    where
      go : (eqb m n ≡ true) ⊎ (eqb m n ≡ false) → (among n ms ≡ false → count_in f ms ≡ count_in g ms) → count_in f (m ∷ ms) ≡ count_in g (m ∷ ms)
      go (inl e) rest = absurd (not_both refl (simp e at h))
      go (inr e) rest =
          let k : among n ms ≡ false = simp e at h in
          let r = rest k in
          let s : f m ≡ g m = same m (other_way m n e) in
          simp (s, r)

  pub count_more : f n ≡ false → g n ≡ true → (ns : List ℕ) → Distinct ns → among n ns ≡ true → count_in g ns ≡ suc (count_in f ns)
  unfolding count_in among
  count_more p q [] d h = absurd (not_both h refl)
  count_more p q (m ∷ ms) d h = go (either (eqb m n)) (λ k. count_more p q ms d.1 k)
    where
      go : (eqb m n ≡ true) ⊎ (eqb m n ≡ false) → (among n ms ≡ true → count_in g ms ≡ suc (count_in f ms)) → count_in g (m ∷ ms) ≡ suc (count_in f (m ∷ ms))
      go (inl e) rest =
          let is : m ≡ n = eqb-true m n e in
          let fm : f m ≡ false = ap f is ∙ p in
          let gm : g m ≡ true = ap g is ∙ q in
          let off : among n ms ≡ false = ap (λ (x : ℕ). among x ms) (sym is) ∙ d.0 in
          let r : count_in f ms ≡ count_in g ms = count_off ms off in
          simp (fm, gm, r)
      go (inr e) rest =
          let k : among n ms ≡ true = simp e at h in
          let r = rest k in
          let s : f m ≡ g m = same m (other_way m n e) in
          simp (s, r) (both (g m))
        where
          both : (t : Bool) → cond t (suc (suc (count_in f ms))) (suc (count_in f ms)) ≡ suc (cond t (suc (count_in f ms)) (count_in f ms))
          both true = refl
          both false = refl

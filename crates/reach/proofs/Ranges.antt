-- The lowest free number of a range, by its definition, for any test of a number.
-- Assumes nothing.
use mathlib.Core.Path.{◌≡◌, refl, sym, ap, ◌∙◌}
use mathlib.Core.Logic.{◌⊎◌, inl, inr}
use mathlib.Core.Bool.{Bool, true, false}
use Prim.Native.Nat.{ℕ, zero, suc, ◌+◌, ◌-◌, ◌≤◌, ◌<◌}
use native.Mathlib.Omega.{arith}
use lib.Dec.{leb}
use borrow.Author.Tests.{leb-true, leb-false}
use Rattle.std.specs.Prelude.{Result, Ok, Err}
use Rattle.basics.proofs.Tests.{either}
use Rattle.reach.specs.Reach.{lowest_free}
use Rattle.reach.specs.declared.ReachRefusal.{ReachRefusal}
use Rattle.reach.specs.declared.ReachRefusal.TheVariants.{NoneFree}

module _ (conflicts : ℕ → Bool) where
  -- numbers that conflict may be passed
  pub skip : (j n more : ℕ) → ((m : ℕ) → n ≤ m → m < n + j → m < n + more → conflicts m ≡ true)
      → lowest_free conflicts n more ≡ lowest_free conflicts (n + j) (more - j)
  unfolding lowest_free
  skip zero n more all = simp (the_same n, the_rest more)
    where
      the_same : (x : ℕ) → x + 0 ≡ x
      the_same x = omega arith

      the_rest : (x : ℕ) → x - 0 ≡ x
      the_rest x = omega arith
  skip (suc j) n zero all = ap (λ (x : ℕ). lowest_free conflicts (n + suc j) x) nothing
    where
      nothing : 0 ≡ 0 - suc j
      nothing = omega arith
  skip (suc j) n (suc more) all =
      simp (all n (omega arith) (omega arith) (omega arith))
      (skip j (suc n) more (λ m low high last. all m (omega arith) (omega arith) (omega arith))
      ∙ ap (λ (x : ℕ). lowest_free conflicts x (more - j)) at ∙ ap (λ (x : ℕ). lowest_free conflicts (n + suc j) x) left)
    where
      at : suc n + j ≡ n + suc j
      at = omega arith

      left : more - j ≡ suc more - suc j
      left = omega arith

  -- every number from n on, of so many, conflicts
  abbrev pub AllConflict : ℕ → ℕ → Type 0
  AllConflict n end = (m : ℕ) → n ≤ m → m < end → conflicts m ≡ true

  pub record Found (n end r : ℕ) : Type 0 where
    pub from : n ≤ r
    pub to : r < end
    pub free : conflicts r ≡ false
    pub lower : AllConflict n r

  one_lower : (n end : ℕ) → conflicts n ≡ true → AllConflict (suc n) end → AllConflict n end
  one_lower n end t rest m low high = go (either (leb (suc n) m))
    where
      go : (leb (suc n) m ≡ true) ⊎ (leb (suc n) m ≡ false) → conflicts m ≡ true
      go (inl h) = rest m (leb-true (suc n) m h) high
      go (inr h) = ap conflicts (let z = leb-false (suc n) m h in omega arith) ∙ t

  pub lowest_found : (n more r : ℕ) → lowest_free conflicts n more ≡ Ok r → Found n (n + more) r
  unfolding lowest_free
  lowest_found n zero r e = absurd (never e)
    where
      never : Err NoneFree ≡ Ok r → ⊥
      never p = let z : ◌≡◌ {A = ℕ} 0 1 = cc in omega arith
  lowest_found n (suc more) r e = go (either (conflicts n)) (lowest_found (suc n) more r)
    where
      go : (conflicts n ≡ true) ⊎ (conflicts n ≡ false) → (lowest_free conflicts (suc n) more ≡ Ok r → Found (suc n) (suc n + more) r)
          → Found n (n + suc more) r
      go (inl t) rest =
          let later = rest (simp t at e) in
          record { from = omega (arith, later.from); to = omega (arith, later.to); free = later.free; lower = one_lower n r t later.lower }
      go (inr t) rest =
          let same : n ≡ r = number (simp t at e) in
          record {
            from = omega arith;
            to = omega arith;
            free = ap conflicts (sym same) ∙ t;
            lower = λ m low high. absurd (omega arith);
          }
        where
          number : ◌≡◌ {A = Result ℕ ReachRefusal} (Ok n) (Ok r) → n ≡ r
          number p = cc

  pub lowest_none : (n more : ℕ) (why : ReachRefusal) → lowest_free conflicts n more ≡ Err why → AllConflict n (n + more)
  unfolding lowest_free
  lowest_none n zero why e = λ m low high. absurd (omega arith)
  lowest_none n (suc more) why e = go (either (conflicts n)) (lowest_none (suc n) more why)
    where
      go : (conflicts n ≡ true) ⊎ (conflicts n ≡ false) → (lowest_free conflicts (suc n) more ≡ Err why → AllConflict (suc n) (suc n + more))
          → AllConflict n (n + suc more)
      go (inl t) rest = one_lower n (n + suc more) t (λ m low high. rest (simp t at e) m low (omega arith))
      go (inr t) rest = absurd (never (simp t at e))
        where
          never : Ok n ≡ Err why → ⊥
          never p = let z : ◌≡◌ {A = ℕ} 0 1 = cc in omega arith

  pub none_lowest : (n more : ℕ) → AllConflict n (n + more) → lowest_free conflicts n more ≡ Err NoneFree
  unfolding lowest_free
  none_lowest n more all = skip more n more (λ m low high last. all m low high) ∙ ap (λ (x : ℕ). lowest_free conflicts (n + more) x) nothing
    where
      nothing : more - more ≡ 0
      nothing = omega arith

  pub found_lowest : (n more r : ℕ) → Found n (n + more) r → lowest_free conflicts n more ≡ Ok r
  unfolding lowest_free
  found_lowest n more r f =
      skip (r - n) n more (λ m low high last. f.lower m low (let z = f.from in omega arith))
      ∙ ap (λ (x : ℕ). lowest_free conflicts x (more - (r - n))) here ∙ ap (λ (x : ℕ). lowest_free conflicts r x) left ∙ simp f.free
    where
      here : n + (r - n) ≡ r
      here = omega (arith, f.from)

      left : more - (r - n) ≡ suc (more - (r - n) - 1)
      left = omega (arith, f.from, f.to)

-- two tests that agree on the range find the same number
pub same_lowest : (f g : ℕ → Bool) (n more : ℕ) → ((m : ℕ) → m < n + more → f m ≡ g m) → lowest_free f n more ≡ lowest_free g n more
unfolding lowest_free
same_lowest f g n zero same = refl
same_lowest f g n (suc more) same =
    simp (same n (omega arith), same_lowest f g (suc n) more (λ m h. same m (omega arith)))

-- Where the number of a process stands in a table, and what is read after a store: the number that was stored for its process, and the old one for every other.
-- Assumes nothing.
use mathlib.Core.Path.{◌≡◌, sym, ap, subst, ◌∙◌}
use mathlib.Core.Logic.{◌⊎◌, inl, inr}
use mathlib.Core.Bool.{Bool, true, false, cond}
use mathlib.Core.List.{List}
use Prim.Native.Nat.{ℕ, ◌≤◌, ◌<◌}
use native.Mathlib.Omega.{arith}
use lib.Dec.{eqb, ltb}
use lib.ListN.{length, get_or, set}
use borrow.Author.Tests.{lt-ltb, ltb-true, ltb-false, ne_eqb}
use Rattle.basics.proofs.Places.{get_set}
use Rattle.basics.proofs.Tests.{either}
use Rattle.basics.specs.tables.Tables.{look_up, store}

module _ (table : List ℕ) (long : length table ≡ 64) (p : ℕ) (process : p < 64) where
  -- place p is that of process p
  pub in_table : (l : List ℕ) → look_up l p ≡ get_or l p 0
  unfolding look_up
  in_table l = ap (λ (t : Bool). cond t (get_or l p 0) 0) (lt-ltb p 64 process)

  pub look_up_stored : (q n : ℕ) → look_up (store table q n) p ≡ cond (eqb p q) n (look_up table p)
  unfolding store
  look_up_stored q n = go (either (ltb q 64))
    where
      go : (ltb q 64 ≡ true) ⊎ (ltb q 64 ≡ false) → look_up (cond (ltb q 64) (set table q n) table) p ≡ cond (eqb p q) n (look_up table p)
      go (inl e) =
          let below : q < 64 = ltb-true q 64 e in
          ap (λ (t : Bool). look_up (cond t (set table q n) table) p) e ∙ in_table (set table q n)
          ∙ get_set table q p n 0 (subst (λ (m : ℕ). q < m) (sym long) below)
          ∙ ap (cond (eqb p q) n) (sym (in_table table))
      go (inr e) =
          let above : 64 ≤ q = ltb-false q 64 e in
          let other : p ≡ q → ⊥ = λ d. omega arith in
          ap (λ (t : Bool). look_up (cond t (set table q n) table) p) e
          ∙ sym (ap (λ (t : Bool). cond t n (look_up table p)) (ne_eqb p q other))

-- The live cells as a table by number: what each change leaves of it, of its order and of its length.
-- Assumes nothing.
use mathlib.Core.Path.{◌≡◌, refl, sym, ap, ◌∙◌}
use mathlib.Core.Bool.{Bool, true, false, cond}
use mathlib.Core.List.{List, [], ◌∷◌}
use mathlib.Core.Logic.{◌⊎◌, inl, inr}
use Prim.Native.Nat.{ℕ, suc, ◌+◌, ◌≤◌, ◌<◌}
use native.Mathlib.Omega.{arith}
use lib.Dec.{leb, eqb}
use lib.ListN.{length}
use borrow.Author.Tests.{eqb-true, eqb-false, eq-eqb, ne_eqb, leb-true, leb-false, le-leb, lt-leb}
use Rattle.basics.specs.Lists.{In}
use Rattle.basics.proofs.Tests.{either, not_both}
use Rattle.register.specs.Cells.{cell_of, has_number, is_live_cell, cell_reassigned, cell_inserted, cell_removed}
use Rattle.register.specs.History.{RisingCells}
use Rattle.register.specs.Taken.{Latest, never, is, is_assigned}
use Rattle.register.specs.declared.Assignment.{Assignment}
use Rattle.register.specs.declared.Cell.{Cell}
use Rattle.register.specs.declared.Change.TheVariants.{Assign}

-- the assignment of cell n
unfoldable pub look_up_cell : ℕ → List Cell → Latest
look_up_cell n [] = never
look_up_cell n (c ∷ cs) = cond (leb n c.number) (cond (eqb c.number n) (is (Assign c.assignment)) never) (look_up_cell n cs)

pub live_look_up : (n : ℕ) (cs : List Cell) → is_live_cell n cs ≡ is_assigned (look_up_cell n cs)
unfolding has_number look_up_cell
live_look_up n [] = refl
live_look_up n (c ∷ cs) = go (leb n c.number) (eqb c.number n) (live_look_up n cs)
  where
    go : (t u : Bool) → is_live_cell n cs ≡ is_assigned (look_up_cell n cs)
        → cond t u (is_live_cell n cs) ≡ is_assigned (cond t (cond u (is (Assign c.assignment)) never) (look_up_cell n cs))
    go true true rest = refl
    go true false rest = refl
    go false u rest = rest

-- ---- what is looked up after a change
module _ (n : ℕ) (a : Assignment) (m : ℕ) where
  abbrev Told : List Cell → List Cell → Type 0
  Told new cs = look_up_cell m new ≡ cond (eqb n m) (is (Assign a)) (look_up_cell m cs)

  pub look_up_inserted : (cs : List Cell) → Told (cell_inserted n a cs) cs
  unfolding cell_inserted look_up_cell
  look_up_inserted [] = go (either (leb m n)) (either (eqb n m))
    where
      go : (leb m n ≡ true) ⊎ (leb m n ≡ false) → (eqb n m ≡ true) ⊎ (eqb n m ≡ false) → Told (cell_of n a ∷ []) []
      go (inl e) (inl f) = simp (e, f)
      go (inl e) (inr f) = simp (e, f)
      go (inr e) (inl f) = absurd (let p = eqb-true n m f in let q = leb-false m n e in omega arith)
      go (inr e) (inr f) = simp (e, f)
  look_up_inserted (c ∷ cs) = go (either (leb n c.number)) (either (leb m n)) (either (eqb n m)) (either (leb m c.number)) (look_up_inserted cs)
    where
      go : (leb n c.number ≡ true) ⊎ (leb n c.number ≡ false) → (leb m n ≡ true) ⊎ (leb m n ≡ false) → (eqb n m ≡ true) ⊎ (eqb n m ≡ false)
          → (leb m c.number ≡ true) ⊎ (leb m c.number ≡ false) → Told (cell_inserted n a cs) cs → Told (cell_inserted n a (c ∷ cs)) (c ∷ cs)
      go (inl e) (inl f) (inl g) h rest = simp (e, f, g)
      go (inl e) (inl f) (inr g) h rest =
          let p = leb-true n c.number e in
          let q = leb-true m n f in
          let r = eqb-false n m g in
          let s : c.number ≡ m → ⊥ = λ z. r (omega arith) in
          simp (e, f, g, le-leb m c.number (omega arith), ne_eqb c.number m s)
      go (inl e) (inr f) (inl g) h rest = absurd (let p = eqb-true n m g in let q = leb-false m n f in omega arith)
      go (inl e) (inr f) (inr g) h rest = simp (e, f, g)
      go (inr e) f (inl g) (inl h) rest = absurd (let p = eqb-true n m g in let q = leb-false n c.number e in let r = leb-true m c.number h in omega arith)
      go (inr e) f (inr g) (inl h) rest = simp (e, g, h)
      go (inr e) f g (inr h) rest = simp (e, h) rest

  pub look_up_reassigned : (cs : List Cell) → is_live_cell n cs ≡ true → Told (cell_reassigned n a cs) cs
  unfolding has_number cell_reassigned look_up_cell
  look_up_reassigned [] h = absurd (not_both h refl)
  look_up_reassigned (c ∷ cs) live = go (either (leb n c.number)) (either (leb m n)) (either (eqb n m)) (either (leb m c.number)) (λ k. look_up_reassigned cs k)
    where
      go : (leb n c.number ≡ true) ⊎ (leb n c.number ≡ false) → (leb m n ≡ true) ⊎ (leb m n ≡ false) → (eqb n m ≡ true) ⊎ (eqb n m ≡ false)
          → (leb m c.number ≡ true) ⊎ (leb m c.number ≡ false) → (is_live_cell n cs ≡ true → Told (cell_reassigned n a cs) cs) → Told (cell_reassigned n a (c ∷ cs)) (c ∷ cs)
      go (inl e) (inl f) (inl g) h rest = simp (e, f, g)
      go (inl e) (inl f) (inr g) h rest =
          let p = eqb-true c.number n (simp e at live) in
          let q = leb-true m n f in
          let r = eqb-false n m g in
          let s : c.number ≡ m → ⊥ = λ z. r (omega arith) in
          simp (e, f, g, le-leb m c.number (omega arith), ne_eqb c.number m s)
      go (inl e) (inr f) (inl g) h rest = absurd (let p = eqb-true n m g in let q = leb-false m n f in omega arith)
      go (inl e) (inr f) (inr g) h rest =
          let p = eqb-true c.number n (simp e at live) in
          let q = leb-false m n f in
          simp (e, f, g, lt-leb m c.number (omega arith))
      go (inr e) f (inl g) (inl h) rest = absurd (let p = eqb-true n m g in let q = leb-false n c.number e in let r = leb-true m c.number h in omega arith)
      go (inr e) f (inr g) (inl h) rest = simp (e, g, h)
      go (inr e) f g (inr h) rest = simp (e, h) (rest (simp e at live))

-- nothing stands below the first of cells that rise
pub look_up_below : (m low : ℕ) (cs : List Cell) → m < low → RisingCells low cs → look_up_cell m cs ≡ never
unfolding look_up_cell
look_up_below m low [] h r = refl
look_up_below m low (c ∷ cs) h r =
    let s : c.number ≡ m → ⊥ = λ z. omega arith in
    simp (le-leb m c.number (omega arith), ne_eqb c.number m s)

pub look_up_removed : (n m low : ℕ) (cs : List Cell) → RisingCells low cs → is_live_cell n cs ≡ true → look_up_cell m (cell_removed n cs) ≡ cond (eqb n m) never (look_up_cell m cs)
unfolding has_number cell_removed look_up_cell
look_up_removed n m low [] rise h = absurd (not_both h refl)
look_up_removed n m low (c ∷ cs) rise live = go (either (leb n c.number)) (either (leb m n)) (either (eqb n m)) (either (leb m c.number)) (λ k. look_up_removed n m (c.number + 1) cs rise.1 k)
  where
    go : (leb n c.number ≡ true) ⊎ (leb n c.number ≡ false) → (leb m n ≡ true) ⊎ (leb m n ≡ false) → (eqb n m ≡ true) ⊎ (eqb n m ≡ false)
        → (leb m c.number ≡ true) ⊎ (leb m c.number ≡ false) → (is_live_cell n cs ≡ true → look_up_cell m (cell_removed n cs) ≡ cond (eqb n m) never (look_up_cell m cs))
        → look_up_cell m (cell_removed n (c ∷ cs)) ≡ cond (eqb n m) never (look_up_cell m (c ∷ cs))
    go (inl e) (inl f) (inl g) h rest =
        let p = eqb-true c.number n (simp e at live) in
        let q = leb-true m n f in
        simp (e, g) (look_up_below m (c.number + 1) cs (omega arith) rise.1)
    go (inl e) (inl f) (inr g) h rest =
        let p = eqb-true c.number n (simp e at live) in
        let q = leb-true m n f in
        let r = eqb-false n m g in
        let s : c.number ≡ m → ⊥ = λ z. r (omega arith) in
        simp (e, g, le-leb m c.number (omega arith), ne_eqb c.number m s) (look_up_below m (c.number + 1) cs (omega arith) rise.1)
    go (inl e) (inr f) (inl g) h rest = absurd (let p = eqb-true n m g in let q = leb-false m n f in omega arith)
    go (inl e) (inr f) (inr g) h rest =
        let p = eqb-true c.number n (simp e at live) in
        let q = leb-false m n f in
        simp (e, g, lt-leb m c.number (omega arith))
    go (inr e) f (inl g) (inl h) rest = absurd (let p = eqb-true n m g in let q = leb-false n c.number e in let r = leb-true m c.number h in omega arith)
    go (inr e) f (inr g) (inl h) rest = simp (e, g, h)
    go (inr e) f g (inr h) rest = simp (e, h) (rest (simp e at live))

-- ---- the order
pub rising_from : (low m : ℕ) (cs : List Cell) → low ≤ m → RisingCells m cs → RisingCells low cs
rising_from low m [] h r = tt
rising_from low m (c ∷ cs) h r = (omega arith, r.1)

pub rising_inserted : (low n : ℕ) (a : Assignment) (cs : List Cell) → low ≤ n → is_live_cell n cs ≡ false → RisingCells low cs → RisingCells low (cell_inserted n a cs)
unfolding has_number cell_inserted
rising_inserted low n a [] h live r = (h, tt)
rising_inserted low n a (c ∷ cs) h live r = go (leb n c.number) refl (λ p k. rising_inserted (c.number + 1) n a cs p k r.1)
  where
    go : (t : Bool) → leb n c.number ≡ t → (c.number + 1 ≤ n → is_live_cell n cs ≡ false → RisingCells (c.number + 1) (cell_inserted n a cs))
        → RisingCells low (cond t (cell_of n a ∷ c ∷ cs) (c ∷ cell_inserted n a cs))
    go true e rest =
        let p = leb-true n c.number e in
        let q = eqb-false c.number n (simp e at live) in
        let s : n ≡ c.number → ⊥ = λ z. q (sym z) in
        (h, (above p s, r.1))
      where
        above : n ≤ c.number → (n ≡ c.number → ⊥) → n + 1 ≤ c.number
        above p s = omega arith
    go false e rest = (r.0, rest (leb_false' (leb-false n c.number e)) (simp e at live))
      where
        leb_false' : c.number < n → c.number + 1 ≤ n
        leb_false' p = omega arith

pub rising_reassigned : (low n : ℕ) (a : Assignment) (cs : List Cell) → is_live_cell n cs ≡ true → RisingCells low cs → RisingCells low (cell_reassigned n a cs)
unfolding has_number cell_reassigned
rising_reassigned low n a [] live r = tt
rising_reassigned low n a (c ∷ cs) live r = go (leb n c.number) refl (λ k. rising_reassigned (c.number + 1) n a cs k r.1)
  where
    go : (t : Bool) → leb n c.number ≡ t → (is_live_cell n cs ≡ true → RisingCells (c.number + 1) (cell_reassigned n a cs)) → RisingCells low (cond t (cell_of n a ∷ cs) (c ∷ cell_reassigned n a cs))
    go true e rest =
        let p : c.number ≡ n = eqb-true c.number n (simp e at live) in
        (omega arith, rw p at r.1)
    go false e rest = (r.0, rest (simp e at live))

pub rising_removed : (low n : ℕ) (cs : List Cell) → RisingCells low cs → RisingCells low (cell_removed n cs)
unfolding cell_removed
rising_removed low n [] r = tt
rising_removed low n (c ∷ cs) r = go (leb n c.number) (rising_removed (c.number + 1) n cs r.1)
  where
    go : (t : Bool) → RisingCells (c.number + 1) (cell_removed n cs) → RisingCells low (cond t cs (c ∷ cell_removed n cs))
    go true rest = rising_from low (c.number + 1) cs (omega arith) r.1
    go false rest = (r.0, rest)

-- ---- the length
pub inserted_length : (n : ℕ) (a : Assignment) (cs : List Cell) → length (cell_inserted n a cs) ≡ suc (length cs)
unfolding cell_inserted
inserted_length n a [] = refl
inserted_length n a (c ∷ cs) = go (leb n c.number) (inserted_length n a cs)
  where
    go : (t : Bool) → length (cell_inserted n a cs) ≡ suc (length cs) → length (cond t (cell_of n a ∷ c ∷ cs) (c ∷ cell_inserted n a cs)) ≡ suc (suc (length cs))
    go true rest = refl
    go false rest = ap suc rest

pub reassigned_length : (n : ℕ) (a : Assignment) (cs : List Cell) → length (cell_reassigned n a cs) ≡ length cs
unfolding cell_reassigned
reassigned_length n a [] = refl
reassigned_length n a (c ∷ cs) = go (leb n c.number) (reassigned_length n a cs)
  where
    go : (t : Bool) → length (cell_reassigned n a cs) ≡ length cs → length (cond t (cell_of n a ∷ cs) (c ∷ cell_reassigned n a cs)) ≡ suc (length cs)
    go true rest = refl
    go false rest = ap suc rest

pub removed_length : (n : ℕ) (cs : List Cell) → is_live_cell n cs ≡ true → length cs ≡ suc (length (cell_removed n cs))
unfolding has_number cell_removed
removed_length n [] h = absurd (not_both h refl)
removed_length n (c ∷ cs) h = go (leb n c.number) refl (λ k. removed_length n cs k)
  where
    go : (t : Bool) → leb n c.number ≡ t → (is_live_cell n cs ≡ true → length cs ≡ suc (length (cell_removed n cs))) → suc (length cs) ≡ suc (length (cond t cs (c ∷ cell_removed n cs)))
    go true e rest = refl
    go false e rest = ap suc (rest (simp e at h))

-- ---- a cell stands in the list exactly where it is looked up
module _ (n : ℕ) (a : Assignment) where
  pub look_up_in : (low : ℕ) (cs : List Cell) → RisingCells low cs → In (cell_of n a) cs → (low ≤ n) × (look_up_cell n cs ≡ is (Assign a))
  unfolding look_up_cell
  look_up_in low [] rise h = absurd h
  look_up_in low (c ∷ cs) rise (inl h) =
      let p : c.number ≡ n = sym (ap (λ (x : Cell). x.number) h) in
      let q : c.assignment ≡ a = sym (ap (λ (x : Cell). x.assignment) h) in
      (omega arith, simp (le-leb n c.number (omega arith), eq-eqb c.number n p, q))
  look_up_in low (c ∷ cs) rise (inr h) =
      let rest = look_up_in (c.number + 1) cs rise.1 h in
      (omega (arith, rest.0), simp (lt-leb n c.number (omega (arith, rest.0))) rest.1)

  pub in_look_up : (cs : List Cell) → look_up_cell n cs ≡ is (Assign a) → In (cell_of n a) cs
  unfolding look_up_cell
  in_look_up [] h = absurd (none h)
    where
      none : never ≡ is (Assign a) → ⊥
      none e = let z : ◌≡◌ {A = ℕ} 0 1 = cc in omega arith
  in_look_up (c ∷ cs) h = go (leb n c.number) refl (eqb c.number n) refl (λ k. in_look_up cs k)
    where
      go : (t : Bool) → leb n c.number ≡ t → (u : Bool) → eqb c.number n ≡ u → (look_up_cell n cs ≡ is (Assign a) → In (cell_of n a) cs) → In (cell_of n a) (c ∷ cs)
      go true e true f rest =
          let p : c.number ≡ n = eqb-true c.number n f in
          let k : is (Assign c.assignment) ≡ is (Assign a) = simp (e, f) at h in
          let q : c.assignment ≡ a = cc in
          inl (ap (λ (x : ℕ). cell_of x a) (sym p) ∙ ap (cell_of c.number) (sym q))
      go true e false f rest = absurd (none (simp (e, f) at h))
        where
          none : never ≡ is (Assign a) → ⊥
          none e = let z : ◌≡◌ {A = ℕ} 0 1 = cc in omega arith
      go false e u f rest = inr (rest (simp e at h))

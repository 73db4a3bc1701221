-- The loop of `find`, and the changes of the live cells at a place.
-- Assumes nothing.
use Prim.Native.Nat.{ℕ, suc, ◌+◌, ◌≤◌, ◌<◌}
use mathlib.Core.Bool.{Bool, true, false, cond}
use mathlib.Core.Path.{◌≡◌, refl, sym, ap, ◌∙◌}
use borrow.Author.Tests.{le-leb, lt-leb, eq-eqb, ne_eqb}
use mathlib.Core.List.{List, [], ◌∷◌}
use mathlib.Core.Logic.{◌⊎◌, inl, inr}
use native.Mathlib.Omega.{arith}
use native.Mathlib.Numerals.{add-one}
use lib.Dec.{leb, eqb}
use lib.ListN.{length, get_or, set, drop, drop_of_length-le}
use lib.Seq.{drop-cons}
use Rattle.std.specs.Prelude.{Result, Ok, Err}
use Rattle.basics.proofs.Tests.{either}
use Rattle.basics.specs.elements.Places.{without, with_at}
use Rattle.register.specs.Cells.{cell_of, has_number, number_place, is_live_cell, cell_reassigned, cell_inserted, cell_removed, cell_place, found}
use Rattle.register.specs.declared.Assignment.{Assignment}
use Rattle.register.specs.declared.Cell.{Cell}

-- ---- the search of `find`, in a list of what has numbers: the first i have lower numbers
module _ {A : Type 0} (f : A → ℕ) (n : ℕ) (l : List A) where
  abbrev pub PassedPlaces : ℕ → Type 0
  PassedPlaces i = (number_place f n l ≡ i + number_place f n (drop i l)) × (has_number f n l ≡ has_number f n (drop i l))

  -- x stands at i, and `here` is its number
  module _ (i : ℕ) (x : A) (here : ℕ) (is : x ≡ get_or l i x) (number : here ≡ f x) (more : i < length l) (passed : PassedPlaces i) where
    next : drop i l ≡ x ∷ drop (i + 1) l
    next = rw add-one (drop-cons l i x more) ∙ ap (λ (y : A). y ∷ drop (i + 1) l) (sym is)

    stands : n ≤ here → (number_place f n l ≡ i) × (has_number f n l ≡ eqb here n)
    unfolding number_place has_number
    stands h = let t = le-leb n here h in (passed.0 ∙ simp (next, ← number, t) (omega arith), passed.1 ∙ simp (next, ← number, t))

    -- the first number that is not lower is that one, or is above it
    pub search_found : n ≤ here → here ≡ n → Ok i ≡ found f n l
    search_found h e = let s = stands h in simp (s.0, s.1, eq-eqb here n e)

    pub search_above : n ≤ here → (here ≡ n → ⊥) → Err i ≡ found f n l
    search_above h e = let s = stands h in simp (s.0, s.1, ne_eqb here n e)

    pub search_more : here < n → PassedPlaces (i + 1)
    unfolding number_place has_number
    search_more h =
        let t = lt-leb n here h in
        let one : number_place f n (drop i l) ≡ suc (number_place f n (drop (i + 1) l)) = simp (next, ← number, t) in
        (omega (arith, passed.0), passed.1 ∙ simp (next, ← number, t))

  pub search_none : (i : ℕ) → length l ≤ i → i ≤ length l → PassedPlaces i → Err (length l) ≡ found f n l
  unfolding number_place has_number
  search_none i h k passed =
      let none : drop i l ≡ [] = drop_of_length-le l {i = i} h in
      let z : number_place f n (drop i l) ≡ 0 = simp none in
      let at : number_place f n l ≡ length l = omega (arith, passed.0) in
      let live : has_number f n l ≡ false = passed.1 ∙ simp none in
      simp (at, live)

  -- ---- what is found
  pub found_ok : (at : ℕ) → Ok at ≡ found f n l → (has_number f n l ≡ true) × (at ≡ number_place f n l)
  found_ok at e = go (has_number f n l) refl e
    where
      go : (t : Bool) → has_number f n l ≡ t → ◌≡◌ {A = Result ℕ ℕ} (Ok at) (cond t (Ok (number_place f n l)) (Err (number_place f n l))) → (has_number f n l ≡ true) × (at ≡ number_place f n l)
      go true h e = (h, cc)
      go false h e = absurd (cc)

  pub found_err : (at : ℕ) → Err at ≡ found f n l → (has_number f n l ≡ false) × (at ≡ number_place f n l)
  found_err at e = go (has_number f n l) refl e
    where
      go : (t : Bool) → has_number f n l ≡ t → ◌≡◌ {A = Result ℕ ℕ} (Err at) (cond t (Ok (number_place f n l)) (Err (number_place f n l))) → (has_number f n l ≡ false) × (at ≡ number_place f n l)
      go true h e = absurd (cc)
      go false h e = (h, cc)

-- ---- a change of the live cells is one at the place of its cell
pub inserted_at : (n : ℕ) (a : Assignment) (l : List Cell) → cell_inserted n a l ≡ with_at (cell_place n l) (cell_of n a) l
unfolding cell_inserted with_at number_place
inserted_at n a [] = refl
inserted_at n a (c ∷ cs) = go (either (leb n c.number)) (inserted_at n a cs)
  where
    go : (leb n c.number ≡ true) ⊎ (leb n c.number ≡ false) → cell_inserted n a cs ≡ with_at (cell_place n cs) (cell_of n a) cs
        → cell_inserted n a (c ∷ cs) ≡ with_at (cell_place n (c ∷ cs)) (cell_of n a) (c ∷ cs)
    go (inl e) rest = simp e
    go (inr e) rest = simp e (ap (λ (x : List Cell). c ∷ x) rest)

pub reassigned_at : (n : ℕ) (a : Assignment) (l : List Cell) → cell_reassigned n a l ≡ set l (cell_place n l) (cell_of n a)
unfolding cell_reassigned number_place
reassigned_at n a [] = refl
reassigned_at n a (c ∷ cs) = go (either (leb n c.number)) (reassigned_at n a cs)
  where
    go : (leb n c.number ≡ true) ⊎ (leb n c.number ≡ false) → cell_reassigned n a cs ≡ set cs (cell_place n cs) (cell_of n a)
        → cell_reassigned n a (c ∷ cs) ≡ set (c ∷ cs) (cell_place n (c ∷ cs)) (cell_of n a)
    go (inl e) rest = simp e
    go (inr e) rest = simp e (ap (λ (x : List Cell). c ∷ x) rest)

pub removed_at : (n : ℕ) (l : List Cell) → cell_removed n l ≡ without (cell_place n l) l
unfolding cell_removed without number_place
removed_at n [] = refl
removed_at n (c ∷ cs) = go (either (leb n c.number)) (removed_at n cs)
  where
    go : (leb n c.number ≡ true) ⊎ (leb n c.number ≡ false) → cell_removed n cs ≡ without (cell_place n cs) cs
        → cell_removed n (c ∷ cs) ≡ without (cell_place n (c ∷ cs)) (c ∷ cs)
    go (inl e) rest = simp e
    go (inr e) rest = simp e (ap (λ (x : List Cell). c ∷ x) rest)

pub place_within : (n : ℕ) (l : List Cell) → cell_place n l ≤ length l
unfolding number_place
place_within n [] = omega arith
place_within n (c ∷ cs) = go (leb n c.number) (place_within n cs)
  where
    go : (t : Bool) → cell_place n cs ≤ length cs → cond t 0 (suc (cell_place n cs)) ≤ suc (length cs)
    go true rest = omega arith
    go false rest = omega arith

pub live_within : (n : ℕ) (l : List Cell) → is_live_cell n l ≡ true → cell_place n l < length l
unfolding number_place has_number
live_within n [] h = absurd (let z : ◌≡◌ {A = ℕ} 0 1 = cc in omega arith)
live_within n (c ∷ cs) h = go (either (leb n c.number)) (λ k. live_within n cs k)
  where
    go : (leb n c.number ≡ true) ⊎ (leb n c.number ≡ false) → (is_live_cell n cs ≡ true → cell_place n cs < length cs) → cell_place n (c ∷ cs) < length (c ∷ cs)
    go (inl e) rest = simp e (omega arith)
    go (inr e) rest = let k : is_live_cell n cs ≡ true = simp e at h in let z = rest k in simp e (omega arith)

-- Entries by their places.
-- Assumes nothing.
use mathlib.Core.Path.{◌≡◌, refl, sym, ap, subst}
use mathlib.Core.Logic.{inl, inr, ⊎_elim}
use mathlib.Core.Bool.{true, false, not}
use mathlib.Core.List.{List, [], ◌∷◌}
use Prim.Native.Nat.{ℕ, zero, suc, ◌<◌}
use native.Mathlib.Nat.{not-suc-le-zero, le_of_suc-le-suc}
use native.Mathlib.Omega.{arith}
use lib.Dec.{eqb}
use lib.ListN.{length, get_or}
use borrow.Author.Tests.{eqb-true, eqb-false, not-true, not-false}
use Rattle.basics.specs.Lists.{In}
use Rattle.basics.proofs.Tests.{not_both, or_cases}
use Rattle.catch_up.specs.Causes.{ListedCommit, beside}
use Rattle.catch_up.specs.Joining.{differ}
use Rattle.std.proofs.lemmas.Bool.{or_parts}

-- the commit stands at a place of both slices
abbrev pub StandsInList : List ℕ → List ℕ → ListedCommit → Type 0
StandsInList slots values c = (i : ℕ) × (i < length slots) × (i < length values) × (get_or slots i 0 ≡ c.slot) × (get_or values i 0 ≡ c.value)

pub in_stands : (slots values : List ℕ) (c : ListedCommit) → In c (beside slots values) → StandsInList slots values c
unfolding beside
in_stands [] values c m = absurd m
in_stands (s ∷ slots) [] c m = absurd m
in_stands (s ∷ slots) (v ∷ values) c (inl e) = (0, omega arith, omega arith, sym (ap (λ (x : ListedCommit). x.slot) e), sym (ap (λ (x : ListedCommit). x.value) e))
in_stands (s ∷ slots) (v ∷ values) c (inr m) =
    let r = in_stands slots values c m in
    (suc r.0, omega (arith, r.1), omega (arith, r.2), r.3, r.4)

in_place : (slots values : List ℕ) (i : ℕ) → i < length slots → i < length values → In (record { slot = get_or slots i 0; value = get_or values i 0 }) (beside slots values)
unfolding beside
in_place [] values i h k = absurd (not-suc-le-zero h)
in_place (s ∷ slots) [] i h k = absurd (not-suc-le-zero k)
in_place (s ∷ slots) (v ∷ values) zero h k = inl refl
in_place (s ∷ slots) (v ∷ values) (suc i) h k = inr (in_place slots values i (le_of_suc-le-suc h) (le_of_suc-le-suc k))

pub stands_in : (slots values : List ℕ) (c : ListedCommit) → StandsInList slots values c → In c (beside slots values)
stands_in slots values c r =
    let e : record { slot = get_or slots r.0 0; value = get_or values r.0 0 } ≡ c = λ i. record { slot = r.3 i; value = r.4 i } in
    subst (λ (x : ListedCommit). In x (beside slots values)) e (in_place slots values r.0 r.1 r.2)

-- ---- a commit's slot and value, by membership

pub own_slot : (slots values : List ℕ) (c : ListedCommit) → In c (beside slots values) → In c.slot slots
unfolding beside
own_slot [] values c m = absurd m
own_slot (s ∷ slots) [] c m = absurd m
own_slot (s ∷ slots) (v ∷ values) c (inl e) = inl (ap (λ (x : ListedCommit). x.slot) e)
own_slot (s ∷ slots) (v ∷ values) c (inr m) = inr (own_slot slots values c m)

pub own_value_stands : (slots values : List ℕ) (c : ListedCommit) → In c (beside slots values) → In c.value values
unfolding beside
own_value_stands [] values c m = absurd m
own_value_stands (s ∷ slots) [] c m = absurd m
own_value_stands (s ∷ slots) (v ∷ values) c (inl e) = inl (ap (λ (x : ListedCommit). x.value) e)
own_value_stands (s ∷ slots) (v ∷ values) c (inr m) = inr (own_value_stands slots values c m)

abbrev commit : ℕ → ℕ → ListedCommit
commit s v = record { slot = s; value = v }

-- where there are as many values as slots, each has the other beside it
pub slot_beside : (slots values : List ℕ) → length slots ≡ length values → (s : ℕ) → In s slots → (v : ℕ) × In (commit s v) (beside slots values)
unfolding beside
slot_beside [] values h s m = absurd m
slot_beside (t ∷ slots) [] h s m = absurd (omega arith)
slot_beside (t ∷ slots) (v ∷ values) h s (inl e) = (v, inl (ap (λ (n : ℕ). commit n v) e))
slot_beside (t ∷ slots) (v ∷ values) h s (inr m) = let r = slot_beside slots values (omega arith) s m in (r.0, inr r.1)

pub value_beside : (slots values : List ℕ) → length slots ≡ length values → (v : ℕ) → In v values → (s : ℕ) × In (commit s v) (beside slots values)
unfolding beside
value_beside [] [] h v m = absurd m
value_beside [] (w ∷ values) h v m = absurd (omega arith)
value_beside (s ∷ slots) [] h v m = absurd m
value_beside (s ∷ slots) (w ∷ values) h v (inl e) = (s, inl (ap (commit s) e))
value_beside (s ∷ slots) (w ∷ values) h v (inr m) = let r = value_beside slots values (omega arith) v m in (r.0, inr r.1)

-- ---- lists that differ at a place, or nowhere

pub differ_at : (xs ys : List ℕ) → differ xs ys ≡ true → (i : ℕ) × (i < length xs) × (i < length ys) × (get_or xs i 0 ≡ get_or ys i 0 → ⊥)
unfolding differ
differ_at [] ys e = absurd (not_both e refl)
differ_at (x ∷ xs) [] e = absurd (not_both e refl)
differ_at (x ∷ xs) (y ∷ ys) e =
    ⊎_elim (λ t. (0, omega arith, omega arith, eqb-false x y (not-true _ t)))
    (λ t. let r = differ_at xs ys t in (suc r.0, omega (arith, r.1), omega (arith, r.2), r.3))
    (or_cases (not (eqb x y)) (differ xs ys) e)

pub same_at : (xs ys : List ℕ) → differ xs ys ≡ false → (i : ℕ) → i < length xs → i < length ys → get_or xs i 0 ≡ get_or ys i 0
unfolding differ
same_at [] ys e i h k = absurd (not-suc-le-zero h)
same_at (x ∷ xs) [] e i h k = absurd (not-suc-le-zero k)
same_at (x ∷ xs) (y ∷ ys) e zero h k = eqb-true x y (not-false _ (or_parts (not (eqb x y)) (differ xs ys) e).0)
same_at (x ∷ xs) (y ∷ ys) e (suc i) h k = same_at xs ys (or_parts (not (eqb x y)) (differ xs ys) e).1 i (le_of_suc-le-suc h) (le_of_suc-le-suc k)

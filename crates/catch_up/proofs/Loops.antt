-- One turn of each loop, and its end.
-- Assumes nothing.
use mathlib.Core.Path.{◌≡◌, refl, sym, ap, ◌∙◌}
use mathlib.Core.Bool.{Bool, true, false, cond, ◌&&◌, ◌||◌}
use mathlib.Core.List.{List, [], ◌∷◌, ◌++◌}
use Prim.Native.Nat.{ℕ, ◌+◌, ◌-◌, ◌^◌, ◌≤◌, ◌<◌, min}
use native.Mathlib.Numerals.{add-one}
use native.Mathlib.Omega.{arith}
use Rattle.std.proofs.Math.Bool.{or_assoc, or-false}
use lib.Bits.{bit_or, bit_and, or_lt, or_add_and, and_le_l, and_le_r}
use lib.Dec.{ltb, leb, eqb}
use lib.ListN.{length, get_or, drop, length-append, length-drop, drop_of_length-le}
use Rattle.std.specs.List.{fold, list_all, zip}
use lib.Seq.{drop-cons, take-append_seam, drop-append_seam}
use borrow.Rule.Slice.PartMut.{put_mid}
use Rattle.std.proofs.Common.{take, append_assoc, drop-drop}
use Rattle.std.proofs.lemmas.List.{take_all}
use borrow.Author.Tests.{lt-ltb, le-ltb, eq-eqb, leb-true, leb-false, ltb-true, ltb-false, eqb-true}
use Rattle.basics.proofs.Tests.{either, not_both, and_left, and_right, or_left, or_right}
use mathlib.Core.Logic.{◌⊎◌, inl, inr}
use Rattle.basics.specs.elements.Places.{at_front}
use Rattle.catch_up.specs.Joining.{some_above, counts_from, counts_within, first_slot}

-- the element at an index, and those behind it
drop_here : (l : List ℕ) (i : ℕ) → i < length l → drop i l ≡ get_or l i 0 ∷ drop (i + 1) l
drop_here l i h = rw add-one (drop-cons l i 0 h)

-- ---- value_above

-- the highest bit of two numbers together is that of one of them
top_or : (a b : ℕ) → ltb 9223372036854775807 (bit_or a b) ≡ (ltb 9223372036854775807 a || ltb 9223372036854775807 b)
top_or a b = go (either (ltb 9223372036854775807 a)) (either (ltb 9223372036854775807 b))
  where
    sum : bit_or a b + bit_and a b ≡ a + b
    sum = or_add_and a b

    go : (ltb 9223372036854775807 a ≡ true) ⊎ (ltb 9223372036854775807 a ≡ false) → (ltb 9223372036854775807 b ≡ true) ⊎ (ltb 9223372036854775807 b ≡ false)
        → ltb 9223372036854775807 (bit_or a b) ≡ (ltb 9223372036854775807 a || ltb 9223372036854775807 b)
    go (inl t) u =
        let z = sum in let y = and_le_r a b in let x = ltb-true 9223372036854775807 a t in
        lt-ltb 9223372036854775807 (bit_or a b) (omega arith) ∙ sym (or_left (ltb 9223372036854775807 b) t)
    go (inr t) (inl u) =
        let z = sum in let y = and_le_l a b in let x = ltb-true 9223372036854775807 b u in
        lt-ltb 9223372036854775807 (bit_or a b) (omega arith) ∙ sym (or_right (ltb 9223372036854775807 a) u)
    go (inr t) (inr u) =
        let x = ltb-false 9223372036854775807 a t in let y = ltb-false 9223372036854775807 b u in
        let e : 2 ^ 63 ≡ 9223372036854775808 = refl in
        let z : bit_or a b < 2 ^ 63 = or_lt 63 a b (omega arith) (omega arith) in
        le-ltb 9223372036854775807 (bit_or a b) (omega arith) ∙ simp (t, u)

bits_gathered : (b : ℕ) (l : List ℕ) → ltb 9223372036854775807 (fold (λ bits value. bit_or bits value) b l) ≡ (ltb 9223372036854775807 b || some_above 9223372036854775807 l)
unfolding some_above
bits_gathered b [] = sym (or-false (ltb 9223372036854775807 b))
bits_gathered b (v ∷ l) =
    bits_gathered (bit_or b v) l ∙ ap (λ (t : Bool). t || some_above 9223372036854775807 l) (top_or b v)
    ∙ or_assoc (ltb 9223372036854775807 b) (ltb 9223372036854775807 v) (some_above 9223372036854775807 l)

-- a value is above the limit where the highest bit of all of them is set
pub bits_above : (l : List ℕ) → ltb 9223372036854775807 (fold (λ bits value. bit_or bits value) 0 l) ≡ some_above 9223372036854775807 l
bits_above l = bits_gathered 0 l

-- ---- counts_from

counts_still : (all : Bool) (n : ℕ) (l : List ℕ) (i : ℕ) → i < length l
    → ((all && eqb (get_or l i 0) n) && counts_from (n + 1) (drop (i + 1) l)) ≡ (all && counts_from n (drop i l))
unfolding counts_from
counts_still false n l i h = refl
counts_still true n l i h = go (either (eqb (get_or l i 0) n))
  where
    go : (eqb (get_or l i 0) n ≡ true) ⊎ (eqb (get_or l i 0) n ≡ false) → (eqb (get_or l i 0) n && counts_from (n + 1) (drop (i + 1) l)) ≡ counts_from n (drop i l)
    go (inl t) = let e = eqb-true _ _ t in simp (drop_here l i h, t) (ap (λ (m : ℕ). counts_from (m + 1) (drop (i + 1) l)) (sym e))
    go (inr t) = simp (drop_here l i h, t)

and_all : (a b : Bool) → b ≡ true → (a && b) ≡ a
and_all true b e = e
and_all false b e = refl

counts_end : (l : List ℕ) (i n : ℕ) → length l ≤ i → counts_from n (drop i l) ≡ true
unfolding counts_from
counts_end l i n h = simp (drop_of_length-le l h)

-- one slot more
pub counts_next : (all : Bool) (first : ℕ) (l : List ℕ) (i : ℕ) → i < length l
    → ((all && eqb (get_or l i 0) (first + i)) && counts_from (first + (i + 1)) (drop (i + 1) l)) ≡ (all && counts_from (first + i) (drop i l))
counts_next all first l i h =
    let next : first + (i + 1) ≡ first + i + 1 = omega arith in
    ap (λ (n : ℕ). (all && eqb (get_or l i 0) (first + i)) && counts_from n (drop (i + 1) l)) next ∙ counts_still all (first + i) l i h

-- no slot is left
pub counts_done : (all : Bool) (first : ℕ) (l : List ℕ) (i : ℕ) → length l ≤ i → (all && counts_from (first + i) (drop i l)) ≡ all
counts_done all first l i h = and_all all _ (counts_end l i (first + i) h)

-- ---- LentList::check

-- slots that count up to the largest one are not above it
counts_below : (limit n : ℕ) (l : List ℕ) → counts_from n l ≡ true → n + length l ≤ limit + 1 → some_above limit l ≡ false
unfolding counts_from some_above
counts_below limit n [] e h = refl
counts_below limit n (s ∷ l) e h =
    let here = eqb-true s n (and_left (eqb s n) (counts_from (s + 1) l) e) in
    let rest = counts_below limit (s + 1) l (and_right (eqb s n) (counts_from (s + 1) l) e) (omega arith) in
    simp (le-ltb limit s (omega arith), rest)

-- the last of three tests that pass
usual_tests : (s t c : Bool) → cond s false (cond t false c) ≡ true → (s ≡ false) × (t ≡ false) × (c ≡ true)
usual_tests true t c e = absurd (not_both e refl)
usual_tests false true c e = absurd (not_both e refl)
usual_tests false false c e = (refl, refl, e)

pub usual_slots : (l : List ℕ) → counts_within l ≡ true → (ltb 4096 (length l) ≡ false) × (counts_from (first_slot l) l ≡ true) × (some_above 9223372036854775806 l ≡ false)
unfolding counts_within
usual_slots l e =
    let t = usual_tests (ltb 4096 (length l)) (ltb 9223372036854771711 (first_slot l)) (counts_from (first_slot l) l) e in
    let few = ltb-false 4096 (length l) t.0 in
    let low = ltb-false 9223372036854771711 (first_slot l) t.1 in
    (t.0, t.2, counts_below 9223372036854775806 (first_slot l) l t.2 (omega arith))

-- ---- consecutive

pairs_on : (s : ℕ) (l : List ℕ) → list_all (λ p. eqb p.1 (p.0 + 1)) (zip (s ∷ l) l) ≡ counts_from (s + 1) l
unfolding counts_from
pairs_on s [] = refl
pairs_on s (t ∷ l) = ap (λ (rest : Bool). eqb t (s + 1) && rest) (pairs_on t l)

pairs_all : (l : List ℕ) → list_all (λ p. eqb p.1 (p.0 + 1)) (zip l (drop 1 l)) ≡ counts_from (first_slot l) l
unfolding counts_from
pairs_all [] = refl
pairs_all (s ∷ l) = simp (eq-eqb s s refl) (pairs_on s l)

pub pairs_follow : (l : List ℕ) (all : Bool) → all ≡ list_all (λ p. eqb p.1 (p.0 + 1)) (zip l (take (length l - 1) (drop 1 l))) → all ≡ counts_from (first_slot l) l
pairs_follow l all e =
    let whole : take (length l - 1) (drop 1 l) ≡ drop 1 l = take_all _ _ (omega (arith, length-drop 1 l)) in
    e ∙ ap (λ (next : List ℕ). list_all (λ p. eqb p.1 (p.0 + 1)) (zip l next)) whole ∙ pairs_all l

pub no_pairs : (l : List ℕ) → length l < 1 → true ≡ counts_from (first_slot l) l
unfolding counts_from
no_pairs [] h = refl
no_pairs (s ∷ l) h = absurd (omega arith)

-- ---- values_differ and store_both

-- dropping more than there is
pub drop_most : (n : ℕ) (l : List ℕ) → drop (min n (length l)) l ≡ drop n l
drop_most n l = go (either (leb n (length l)))
  where
    go : (leb n (length l) ≡ true) ⊎ (leb n (length l) ≡ false) → drop (min n (length l)) l ≡ drop n l
    go (inl t) = let h = leb-true n (length l) t in let e : min n (length l) ≡ n = omega arith in ap (λ m. drop m l) e
    go (inr t) =
        let h = leb-false n (length l) t in
        drop_of_length-le l {i = min n (length l)} (omega arith) ∙ sym (drop_of_length-le l {i = n} (omega arith))

pub left_whole : (n i m : ℕ) (l : List ℕ) → n ≡ min i (length l) → m ≡ length l → take (m - n) (drop n l) ≡ drop i l
left_whole n i m l e long =
    take_all _ _ (omega (arith, length-drop n l)) ∙ ap (λ (k : ℕ). drop k l) e ∙ drop_most i l

-- the earlier list whole, and then the later one without what is known
pub both_stored : (a b out one two : List ℕ) (n begin k : ℕ) → one ≡ a → two ≡ take (length b - begin) (drop begin b) → begin ≡ min n (length b) → k ≡ length (take (length b - begin) (drop begin b))
    → put_mid (length a) k (one ++ drop (length a) out) two ≡ at_front (a ++ drop n b) out
unfolding at_front
both_stored a b out one two n begin k first second start long =
    let whole : take (length b - begin) (drop begin b) ≡ drop begin b = take_all _ _ (omega (arith, length-drop begin b)) in
    let rest : take (length b - begin) (drop begin b) ≡ drop n b = whole ∙ ap (λ (m : ℕ). drop m b) start ∙ drop_most n b in
    let r : List ℕ = drop n b in
    let k' : k ≡ length r = long ∙ ap length rest in
    let taken : take (length a) (a ++ drop (length a) out) ≡ a = take-append_seam a (drop (length a) out) in
    let left : drop k (drop (length a) (a ++ drop (length a) out)) ≡ drop (length (a ++ r)) out =
    ap (drop k) (drop-append_seam a (drop (length a) out)) ∙ ap (λ (m : ℕ). drop m (drop (length a) out)) k' ∙ drop-drop (length r) (length a) out
    ∙ ap (λ (m : ℕ). drop m out) (sym (length-append a r)) in
    ap (λ (x : List ℕ). put_mid (length a) k (x ++ drop (length a) out) two) first
    ∙ ap (λ (x : List ℕ). x ++ (two ++ drop k (drop (length a) (a ++ drop (length a) out)))) taken
    ∙ ap (λ (x : List ℕ). a ++ (x ++ drop k (drop (length a) (a ++ drop (length a) out)))) (second ∙ rest)
    ∙ ap (λ (x : List ℕ). a ++ (r ++ x)) left ∙ sym (append_assoc a r (drop (length (a ++ r)) out))

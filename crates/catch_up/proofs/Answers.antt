-- What each way through the functions answers, and leaves.
-- Assumes nothing.
use Rattle.std.specs.Prelude.{Result, Ok, Err}
use Rattle.std.specs.Result.{IsErrAnd}
use mathlib.Core.Path.{◌≡◌, refl, sym, ap, ap₂, subst, ◌∙◌}
use mathlib.Core.Logic.{◌⊎◌, inl, inr}
use mathlib.Core.Bool.{Bool, true, false, cond, not, ◌&&◌, ◌||◌}
use mathlib.Core.List.{List, ◌++◌}
use Prim.Native.Nat.{ℕ, ◌-◌, ◌≤◌, min}
use lib.Dec.{ltb, leb, eqb}
use lib.ListN.{length, take, drop}
use Rattle.std.proofs.Math.Bool.{or-false}
use Rattle.std.proofs.lemmas.Bool.{or_parts}
use borrow.Author.Tests.{ltb-false, eqb-true, not-false}
use Rattle.basics.proofs.Tests.{either}
use Rattle.catch_up.specs.Causes.{CommitList}
use Rattle.basics.specs.elements.Places.{at_front}
use Rattle.catch_up.proofs.Loops.{usual_slots, left_whole}
use Rattle.catch_up.specs.Joining.{checked_of, counts_within, some_above, list_too_large, first_slot, outside, InLimits, differ, ahead, apart, disagree, joined_list, in_order, joining, one_refused, lent, JoinGives}
use Rattle.catch_up.specs.declared.JoinRefusal.{JoinRefusal}
use Rattle.catch_up.specs.declared.JoinRefusal.TheVariants.{NumberTooLarge, OutsideLimits, Gap, TwoValues}

-- ---- what is found in one list

-- the usual list is asked for its values and its lengths alone
pub usual_list : (l : CommitList) (within above : Bool) → within ≡ counts_within l.slots → within ≡ true → above ≡ some_above 9223372036854775807 l.values
    → record { too_large = above; outside = not (eqb (length l.slots) (length l.values)) } ≡ checked_of l
unfolding list_too_large outside
usual_list l within above e t v =
    let u = usual_slots l.slots (sym e ∙ t) in
    let same = not (eqb (length l.slots) (length l.values)) in
    ap₂ (λ (a b : Bool). record { too_large = a; outside = b }) (v ∙ simp u.2) (simp (u.0, u.1) (sym (or-false same)))

-- ---- the answer to a result

module _ (places : CommitList) where
  -- one result for another
  pub as_given : (r r' : Result CommitList JoinRefusal) (after : CommitList) (answer : Result ℕ JoinRefusal) → r ≡ r' → JoinGives r' places after answer → JoinGives r places after answer
  as_given r r' after answer e g = subst (λ (x : Result CommitList JoinRefusal). JoinGives x places after answer) (sym e) g

  -- nothing is written
  pub refuses : (r : Result CommitList JoinRefusal) (why : JoinRefusal) → r ≡ Err why → JoinGives r places places (Err why)
  unfolding at_front
  refuses r why e = as_given r (Err why) places (Err why) e (record { answered = refl; slots = refl; values = refl })

  pub writes : (r : Result CommitList JoinRefusal) (l after : CommitList) (count : ℕ) → r ≡ Ok l → count ≡ length l.slots
      → after.slots ≡ at_front l.slots places.slots → after.values ≡ at_front l.values places.values → JoinGives r places after (Ok count)
  writes r l after count e n s v = as_given r (Ok l) after (Ok count) e (record { answered = ap Ok n; slots = s; values = v })

-- ---- two lists in order

module _ (e l : CommitList) where
  pub order_gap : apart e l ≡ true → in_order e l ≡ Err Gap
  unfolding in_order
  order_gap p = simp p

  pub order_two : apart e l ≡ false → disagree e l ≡ true → in_order e l ≡ Err TwoValues
  unfolding in_order
  order_two p q = simp (p, q)

  pub order_join : apart e l ≡ false → disagree e l ≡ false → in_order e l ≡ Ok (joined_list e l)
  unfolding in_order
  order_join p q = simp (p, q)

-- ---- two lists

pub within : (l : CommitList) → outside l ≡ false → InLimits l
unfolding outside
within l h =
    let few = or_parts _ _ h in
    let same = or_parts _ _ few.1 in
    record {
      same = eqb-true _ _ (not-false _ same.0);
      few = ltb-false _ _ few.0;
    }

-- ---- join_in_order, in the words of its code

module _ (e l : CommitList) (f g : ℕ) (later_first : f ≡ first_slot l.slots) (earlier-first : g ≡ first_slot e.slots) where
  pub apart_is : (r t : Bool) → r ≡ (ltb 0 (length e.slots) && ltb (length e.slots) (f - g)) → r ≡ t → apart e l ≡ t
  apart_is r t s u = ap (λ (n : ℕ). ltb 0 (length e.slots) && ltb (length e.slots) n) (sym (ap₂ ◌-◌ later_first earlier-first)) ∙ sym s ∙ u

  pub disagree_is : (r t : Bool) (n m : ℕ) → n ≡ min (f - g) (length e.values) → m ≡ length e.values → r ≡ differ (take (m - n) (drop n e.values)) l.values → r ≡ t
      → disagree e l ≡ t
  disagree_is r t n m k long s u =
      let shared : take (m - n) (drop n e.values) ≡ drop (f - g) e.values = left_whole n (f - g) m e.values k long in
      ap (λ (n : ℕ). differ (drop n e.values) l.values) (sym (ap₂ ◌-◌ later_first earlier-first)) ∙ sym (ap (λ (x : List ℕ). differ x l.values) shared) ∙ sym s ∙ u

  pub order_writes : (places after : CommitList) (known count : ℕ) → apart e l ≡ false → disagree e l ≡ false → known ≡ length e.slots - (f - g)
      → (after.slots ≡ at_front (e.slots ++ drop known l.slots) places.slots) → count ≡ length (e.slots ++ drop known l.slots)
      → (after.values ≡ at_front (e.values ++ drop known l.values) places.values) → JoinGives (in_order e l) places after (Ok count)
  order_writes places after known count p q k s n v =
      let k' : known ≡ length e.slots - ahead e l = k ∙ ap (λ (m : ℕ). length e.slots - m) (ap₂ ◌-◌ later_first earlier-first) in
      writes places (in_order e l) (joined_list e l) after count (order_join e l p q)
      (n ∙ ap (λ (m : ℕ). length (e.slots ++ drop m l.slots)) k')
      (s ∙ ap (λ (m : ℕ). at_front (e.slots ++ drop m l.slots) places.slots) k')
      (v ∙ ap (λ (m : ℕ). at_front (e.values ++ drop m l.values) places.values) k')

-- ---- 2 and 18, and what is left where there is neither

module _ (a b : CommitList) (places : ℕ) where
  pub refused_so : (why : JoinRefusal) → Err why ≡ one_refused a b places → joining a b places ≡ Err why
  unfolding one_refused joining
  refused_so why e = go (either (list_too_large a || list_too_large b)) (either (outside a || (outside b || ltb places 8192)))
    where
      go : ((list_too_large a || list_too_large b) ≡ true) ⊎ ((list_too_large a || list_too_large b) ≡ false)
          → ((outside a || (outside b || ltb places 8192)) ≡ true) ⊎ ((outside a || (outside b || ltb places 8192)) ≡ false) → joining a b places ≡ Err why
      go (inl p) q = let f : ◌≡◌ {A = Result (Unit {0}) JoinRefusal} (Err why) (Err NumberTooLarge) = simp p at e in simp p (cc)
      go (inr p) (inl q) = let f : ◌≡◌ {A = Result (Unit {0}) JoinRefusal} (Err why) (Err OutsideLimits) = simp (p, q) at e in simp (p, q) (cc)
      go (inr p) (inr q) = let f : ◌≡◌ {A = Result (Unit {0}) JoinRefusal} (Err why) (Ok tt) = simp (p, q) at e in cc

  -- both lists are within the limits, and there are enough places
  pub record Passed : Type 0 where
    pub first_within : InLimits a
    pub second_within : InLimits b
    pub enough : 8192 ≤ places
    pub ordered : joining a b places ≡ cond (leb (first_slot a.slots) (first_slot b.slots)) (in_order a b) (in_order b a)

  pub passed : Ok tt ≡ one_refused a b places → Passed
  unfolding one_refused joining
  passed e = go (either (list_too_large a || list_too_large b)) (either (outside a || (outside b || ltb places 8192)))
    where
      go : ((list_too_large a || list_too_large b) ≡ true) ⊎ ((list_too_large a || list_too_large b) ≡ false)
          → ((outside a || (outside b || ltb places 8192)) ≡ true) ⊎ ((outside a || (outside b || ltb places 8192)) ≡ false) → Passed
      go (inl p) q = let f : ◌≡◌ {A = Result (Unit {0}) JoinRefusal} (Ok tt) (Err NumberTooLarge) = simp p at e in cc
      go (inr p) (inl q) = let f : ◌≡◌ {A = Result (Unit {0}) JoinRefusal} (Ok tt) (Err OutsideLimits) = simp (p, q) at e in cc
      go (inr p) (inr q) =
          let none = or_parts _ _ q in
          let rest = or_parts _ _ none.1 in
          record {
            first_within = within a none.0;
            second_within = within b rest.0;
            enough = ltb-false _ _ rest.1;
            ordered = simp (p, q);
          }

  -- the same, one by one
  pub first_passed : Ok tt ≡ one_refused a b places → InLimits a
  first_passed e = (passed e).first_within

  pub second_passed : Ok tt ≡ one_refused a b places → InLimits b
  second_passed e = (passed e).second_within

  pub places_passed : Ok tt ≡ one_refused a b places → 8192 ≤ places
  places_passed e = (passed e).enough

-- the answer of `?`
pub refused_call : (a b places : CommitList) (n : ℕ) (why : JoinRefusal) (answer : Result ℕ JoinRefusal) → n ≡ lent places → Err why ≡ one_refused a b n
    → IsErrAnd answer (λ given. given ≡ why) → JoinGives (joining a b (lent places)) places places answer
refused_call a b places n why (Ok count) m e h = absurd h
refused_call a b places n why (Err given) m e h =
    subst (λ (x : JoinRefusal). JoinGives (joining a b (lent places)) places places (Err x)) (sym h)
    (refuses places _ why (refused_so a b (lent places) why (e ∙ ap (one_refused a b) m)))

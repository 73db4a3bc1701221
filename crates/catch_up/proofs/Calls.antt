-- What a call answers and leaves: the laws of the join for whoever calls `join`.
-- Assumes nothing.
use Rattle.std.specs.Prelude.{Result, Ok, Err}
use mathlib.Core.Path.{◌≡◌, refl, sym, ap, ap₂, subst, ◌∙◌}
use mathlib.Core.Logic.{inl, inr, ⊎_elim, ◌↔◌}
use mathlib.Core.List.{List}
use Prim.Native.Nat.{ℕ, ◌≤◌}
use native.Mathlib.Omega.{arith}
use lib.ListN.{length, get_or, take, drop}
use lib.Seq.{take-append_seam}
use Rattle.basics.specs.elements.Places.{at_front}
use Rattle.basics.proofs.elements.Lists.{front_later}
use Rattle.catch_up.specs.Causes.{CommitList, ListTooLarge, JoinCause, NoneBefore, NoCause, join_number}
use Rattle.catch_up.specs.Joining.{list_of, joining, join_answer, join_refusal, join_count, lent, handed_back, JoinGives, Joins}
use Rattle.catch_up.specs.declared.JoinRefusal.{JoinRefusal}
use Rattle.catch_up.specs.declared.JoinRefusal.TheVariants.{NumberTooLarge, OutsideLimits, Gap, TwoValues}
use Rattle.catch_up.proofs.Exact.{number_joined, joined_otherwise, is_join, JoinOf}
use Rattle.catch_up.proofs.Indices.{slot_beside, value_beside, own_slot, own_value_stands}

-- ---- numbers

refused_answer : (r : Result CommitList JoinRefusal) (why : JoinRefusal) → join_answer r ≡ Err why → r ≡ Err why
refused_answer (Err x) why e = cc
refused_answer (Ok l) why e = cc

same_number : (x y : JoinRefusal) → join_number x ≡ join_number y → x ≡ y
same_number NumberTooLarge NumberTooLarge e = refl
same_number NumberTooLarge OutsideLimits e = absurd (omega arith)
same_number NumberTooLarge Gap e = absurd (omega arith)
same_number NumberTooLarge TwoValues e = absurd (omega arith)
same_number OutsideLimits NumberTooLarge e = absurd (omega arith)
same_number OutsideLimits OutsideLimits e = refl
same_number OutsideLimits Gap e = absurd (omega arith)
same_number OutsideLimits TwoValues e = absurd (omega arith)
same_number Gap NumberTooLarge e = absurd (omega arith)
same_number Gap OutsideLimits e = absurd (omega arith)
same_number Gap Gap e = refl
same_number Gap TwoValues e = absurd (omega arith)
same_number TwoValues NumberTooLarge e = absurd (omega arith)
same_number TwoValues OutsideLimits e = absurd (omega arith)
same_number TwoValues Gap e = absurd (omega arith)
same_number TwoValues TwoValues e = refl

not_zero : (y : JoinRefusal) → 0 ≡ join_number y → ⊥
not_zero NumberTooLarge e = omega arith
not_zero OutsideLimits e = omega arith
not_zero Gap e = omega arith
not_zero TwoValues e = omega arith

by_number : (j : Result ℕ JoinRefusal) (why : JoinRefusal) → join_refusal j ≡ join_number why → j ≡ Err why
by_number (Ok n) why e = absurd (not_zero why e)
by_number (Err x) why e = ap Err (same_number x why e)

-- ---- the places

front_taken : (l places : List ℕ) → take (length l) (at_front l places) ≡ l
unfolding at_front
front_taken l places = take-append_seam l (drop (length l) places)

abbrev Kept : List ℕ → List ℕ → ℕ → Type 0
Kept after places i = get_or after i 0 ≡ get_or places i 0

kept_front : (l places after : List ℕ) (i : ℕ) → after ≡ at_front l places → length l ≤ i → Kept after places i
kept_front l places after i e h = ap (λ (r : List ℕ). get_or r i 0) e ∙ front_later l places i 0 h

module _ (a b places after : CommitList) where
  -- whatever the result is
  kept : (r : Result CommitList JoinRefusal) → r ≡ joining a b (lent places) → (answer : Result ℕ JoinRefusal) → JoinGives r places after answer → (i : ℕ) → join_count answer ≤ i
      → Kept after.slots places.slots i × Kept after.values places.values i
  unfolding at_front
  kept (Err why) e answer g i h = (ap (λ (r : List ℕ). get_or r i 0) g.slots, ap (λ (r : List ℕ). get_or r i 0) g.values)
  kept (Ok l) e answer g i h =
      let n : join_count answer ≡ length l.slots = ap join_count g.answered in
      let same = (is_join a b (lent places) l (sym e)).same in
      (kept_front l.slots _ _ i g.slots (omega arith), kept_front l.values _ _ i g.values (omega arith))

module _ (a b places after : CommitList) (answer : Result ℕ JoinRefusal) (call : Joins a b places after answer) where
  -- a call refuses exactly where the cause holds and no earlier one does
  pub call_numbered : (why : JoinRefusal) → (answer ≡ Err why) ↔ (JoinCause why a b (lent places) × NoneBefore why a b (lent places))
  call_numbered why = (
    λ e. (number_joined a b (lent places) why).0 (refused_answer _ why (sym call.answered ∙ e)),
    λ c. call.answered ∙ ap join_answer ((number_joined a b (lent places) why).1 c),
  )

  -- and so with document 02's number
  pub number_given_lem : (why : JoinRefusal) → (join_refusal answer ≡ join_number why) ↔ (JoinCause why a b (lent places) × NoneBefore why a b (lent places))
  number_given_lem why = (λ e. (call_numbered why).0 (by_number answer why e), λ c. ap join_refusal ((call_numbered why).1 c))

  -- "places past the result, and all after a refusal, are unchanged"
  pub places_kept : (i : ℕ) → join_count answer ≤ i → Kept after.slots places.slots i × Kept after.values places.values i
  places_kept = kept a b places after (joining a b (lent places)) refl answer call

  -- without a cause, what stands in the first places, as many as the call says, is the join
  pub call_joins : NoCause a b (lent places) → (join_refusal answer ≡ 0) × JoinOf a b (handed_back (join_count answer) after)
  call_joins none = go ((joined_otherwise a b (lent places)).1 none)
    where
      go : (l : CommitList) × (joining a b (lent places) ≡ Ok l)
          → (join_refusal answer ≡ 0) × JoinOf a b (handed_back (join_count answer) after)
      go j =
          let g = subst (λ (r : Result CommitList JoinRefusal). JoinGives r places after answer) j.1 call in
          let n : join_count answer ≡ length j.0.slots = ap join_count g.answered in
          let J = is_join a b (lent places) j.0 j.1 in
          let slots : take (join_count answer) after.slots ≡ j.0.slots = ap₂ take n g.slots ∙ front_taken j.0.slots places.slots in
          let values : take (join_count answer) after.values ≡ j.0.values = ap₂ take (n ∙ J.same) g.values ∙ front_taken j.0.values places.values in
          (ap join_refusal g.answered, subst (JoinOf a b) (sym (ap₂ list_of slots values)) J)

-- ---- a call that says how many entries the result has

joined_list : (r : Result CommitList JoinRefusal) (count : ℕ) → Ok count ≡ join_answer r → (l : CommitList) × (r ≡ Ok l)
joined_list (Err why) count e = cc
joined_list (Ok l) count e = (l, refl)

-- the join of two lists has no number that neither of them has
join_fits : (a b l : CommitList) → JoinOf a b l → (ListTooLarge a → ⊥) → (ListTooLarge b → ⊥) → ListTooLarge l → ⊥
join_fits a b l J p q (inl s) =
    let c = slot_beside l.slots l.values J.same s.0 s.1 in
    ⊎_elim (λ m. p (inl (s.0, own_slot a.slots a.values _ m, s.2))) (λ m. q (inl (s.0, own_slot b.slots b.values _ m, s.2))) ((J.holds _).0 c.1)
join_fits a b l J p q (inr v) =
    let c = value_beside l.slots l.values J.same v.0 v.1 in
    ⊎_elim (λ m. p (inr (v.0, own_value_stands a.slots a.values _ m, v.2))) (λ m. q (inr (v.0, own_value_stands b.slots b.values _ m, v.2))) ((J.holds _).0 c.1)

module _ (a b places after : CommitList) (count : ℕ) (call : Joins a b places after (Ok count)) where
  joined : (l : CommitList) × (joining a b (lent places) ≡ Ok l)
  joined = joined_list (joining a b (lent places)) count call.answered

  none_met : NoCause a b (lent places)
  none_met = (joined_otherwise a b (lent places)).0 joined

  -- it hands back the join, with as many entries, and no number is too large
  pub hands_join : JoinOf a b (handed_back count after)
  hands_join = (call_joins a b places after (Ok count) call none_met).1

  pub hands_count : length (handed_back count after).slots ≡ count
  hands_count =
      let g = subst (λ (r : Result CommitList JoinRefusal). JoinGives r places after (Ok count)) joined.1 call in
      let n : count ≡ length joined.0.slots = ap join_count g.answered in
      ap length (ap₂ take n g.slots ∙ front_taken joined.0.slots places.slots) ∙ sym n

  pub hands_fitting : ListTooLarge (handed_back count after) → ⊥
  hands_fitting = join_fits a b _ hands_join (λ t. none_met NumberTooLarge (inl t)) (λ t. none_met NumberTooLarge (inr t))

-- What a host gets of two lists (document 02, E10): each number exactly where its cause holds and no earlier one does, and else the join.
-- Assumes nothing.
use mathlib.Core.Path.{◌≡◌, sym, ap, subst, ◌∙◌}
use mathlib.Core.Logic.{◌↔◌}
use Prim.Native.Nat.{ℕ, ◌≤◌}
use lib.ListN.{get_or}
use Rattle.catch_up.specs.Causes.{CommitList, JoinCause, NoneBefore, NoCause, join_number}
use Rattle.catch_up.specs.Joining.{lent, handed_back, join_refusal, join_count}
use Rattle.catch_up.specs.declared.JoinRefusal.{JoinRefusal}
use Rattle.catch_up.proofs.Exact.{JoinOf}
use Rattle.catch_up.proofs.Calls as calls
use Rattle.planning_host.specs.declared.FlatValue.{FlatValue}
use Rattle.planning_host.specs.Lists.{JoinsFlat}

module _ (a b places after : CommitList) (answer : FlatValue) (call : JoinsFlat a b places after answer) where
  refusal_is : answer.refusal ≡ join_refusal call.joined
  refusal_is = ap (λ (r : FlatValue). r.refusal) call.numbers

  count_is : answer.value ≡ join_count call.joined
  count_is = ap (λ (r : FlatValue). r.value) call.numbers

  pub join_numbered : (why : JoinRefusal) → (answer.refusal ≡ join_number why) ↔ (JoinCause why a b (lent places) × NoneBefore why a b (lent places))
  join_numbered why =
      let law = calls.number_given_lem a b places after call.joined call.call why in
      (λ e. law.0 (sym refusal_is ∙ e), λ c. refusal_is ∙ law.1 c)

  -- "places past the result, and all after a refusal, are unchanged"
  pub join_keeps : (i : ℕ) → answer.value ≤ i → (get_or after.slots i 0 ≡ get_or places.slots i 0) × (get_or after.values i 0 ≡ get_or places.values i 0)
  join_keeps i h = calls.places_kept a b places after call.joined call.call i (subst (λ (n : ℕ). n ≤ i) count_is h)

  pub join_joins : NoCause a b (lent places) → (answer.refusal ≡ 0) × JoinOf a b (handed_back answer.value after)
  join_joins none =
      let law = calls.call_joins a b places after call.joined call.call none in
      (refusal_is ∙ law.0, subst (λ (n : ℕ). JoinOf a b (handed_back n after)) (sym count_is) law.1)

-- What the order of runs says: no run stands before itself, and what stands between a run and one that extends it extends it too.
-- Assumes nothing.
use mathlib.Core.Path.{◌≡◌, refl, sym, ap₂, subst}
use mathlib.Core.Logic.{◌⊎◌, inl, inr}
use mathlib.Core.List.{List, [], ◌∷◌, ◌++◌}
use native.Mathlib.Nat.{lt_irrefl, lt_trans}
use native.Mathlib.Omega.{arith}
use Rattle.basics.specs.Lists.{In}
use Rattle.enabled_runs.specs.declared.RunEvent.{RunEvent}
use Rattle.enabled_runs.specs.declared.RunEvent.TheVariants.{Proposes, Delivers}
use Rattle.enabled_runs.specs.Order.{EventBefore, RunBefore, RunsInOrder, Once, Extends}
use Rattle.enabled_runs.proofs.Lists.{in_left, in_right}

-- ---- events

event_irreflexive : (e : RunEvent) → EventBefore e e → ⊥
event_irreflexive (Proposes m) h = lt_irrefl m h
event_irreflexive (Delivers m k) (inl h) = lt_irrefl m h
event_irreflexive (Delivers m k) (inr h) = lt_irrefl k h.1

event_asymmetric : (e f : RunEvent) → EventBefore e f → EventBefore f e → ⊥
event_asymmetric (Proposes m) (Proposes n) h k = lt_irrefl m (lt_trans h k)
event_asymmetric (Proposes m) (Delivers n j) h k = k
event_asymmetric (Delivers m i) (Proposes n) h k = h
event_asymmetric (Delivers m i) (Delivers n j) (inl h) (inl k) = lt_irrefl m (lt_trans h k)
event_asymmetric (Delivers m i) (Delivers n j) (inl h) (inr k) = let same = k.0 in omega (arith, same, h)
event_asymmetric (Delivers m i) (Delivers n j) (inr h) (inl k) = let same = h.0 in omega (arith, same, k)
event_asymmetric (Delivers m i) (Delivers n j) (inr h) (inr k) = lt_irrefl i (lt_trans h.1 k.1)

-- ---- runs

run_irreflexive : (r : List RunEvent) → RunBefore r r → ⊥
run_irreflexive [] h = h
run_irreflexive (e ∷ r) (inl h) = event_irreflexive e h
run_irreflexive (e ∷ r) (inr h) = run_irreflexive r h.1

-- none stands in a list in order twice
pub order_once : (runs : List (List RunEvent)) → RunsInOrder runs → Once runs
order_once [] h = tt
order_once (r ∷ runs) h = ((λ i. run_irreflexive r (h.0 r i)), order_once runs h.1)

-- between a run and one that extends it
pub between : (r x y : List RunEvent) → Extends r y → RunBefore r x → RunBefore x y → Extends r x
between [] [] y ext a b = absurd a
between [] (e ∷ x) y ext a b = (e, x, refl)
between (e ∷ r) [] y ext a b = absurd a
between (e ∷ r) (f ∷ x) y ext a b =
    go (λ c d. between r x (r ++ (ext.0 ∷ ext.1)) (ext.0, ext.1, refl) c d) a (subst (RunBefore (f ∷ x)) ext.2 b)
  where
    go : (RunBefore r x → RunBefore x (r ++ (ext.0 ∷ ext.1)) → Extends r x) → EventBefore e f ⊎ ((e ≡ f) × RunBefore r x)
        → EventBefore f e ⊎ ((f ≡ e) × RunBefore x (r ++ (ext.0 ∷ ext.1))) → Extends (e ∷ r) (f ∷ x)
    go deeper (inl h) (inl k) = absurd (event_asymmetric e f h k)
    go deeper (inl h) (inr k) = absurd (event_irreflexive e (subst (EventBefore e) k.0 h))
    go deeper (inr h) (inl k) = absurd (event_irreflexive e (subst (λ (g : RunEvent). EventBefore g e) (sym h.0) k))
    go deeper (inr h) (inr k) =
        let d = deeper h.1 k.1 in
        (d.0, d.1, ap₂ (λ (g : RunEvent) (l : List RunEvent). g ∷ l) (sym h.0) d.2)

before_later : (runs later : List (List RunEvent)) (y : List RunEvent) → RunsInOrder (runs ++ (y ∷ later)) → (x : List RunEvent) → In x runs → RunBefore x y
before_later [] later y order x i = absurd i
before_later (r ∷ runs) later y order x (inl p) =
    subst (λ (l : List RunEvent). RunBefore l y) (sym p) (order.0 y (in_right y runs (y ∷ later) (inl refl)))
before_later (r ∷ runs) later y order x (inr i) = before_later runs later y order.1 x i

-- A list in order: whatever stands between a run and one that extends it extends it too.
pub followed_at_once : (earlier runs later : List (List RunEvent)) (r y : List RunEvent) → RunsInOrder (earlier ++ (r ∷ (runs ++ (y ∷ later)))) → Extends r y
    → (x : List RunEvent) → In x runs → Extends r x
followed_at_once [] runs later r y order ext x i =
    between r x y ext (order.0 x (in_left x runs (y ∷ later) i)) (before_later runs later y order.1 x i)
followed_at_once (e ∷ earlier) runs later r y order ext x i = followed_at_once earlier runs later r y order.1 ext x i

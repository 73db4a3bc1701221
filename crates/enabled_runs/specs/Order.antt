-- The order of runs (document 02, E12): "Each run is followed at once by those that extend it; events are ordered with proposals before
-- deliveries, by member, then by the sent message's place in time."
-- Assumes nothing.
use Rattle.std.specs.Prelude.{◌≡◌, ◌⊎◌, List, [], ◌∷◌, ◌++◌, ◌<◌}
use Rattle.basics.specs.Lists.{In}
use Rattle.enabled_runs.specs.declared.RunEvent.{RunEvent}
use Rattle.enabled_runs.specs.declared.RunEvent.TheVariants.{Proposes, Delivers}

abbrev pub EventBefore : RunEvent → RunEvent → Type 0
EventBefore (Proposes m) (Proposes n) = m < n
EventBefore (Proposes m) (Delivers n k) = Unit {0}
EventBefore (Delivers m j) (Proposes n) = ⊥
EventBefore (Delivers m j) (Delivers n k) = (m < n) ⊎ ((m ≡ n) × (j < k))

-- by the first event in which they differ, and a run before those that extend it
abbrev pub RunBefore : List RunEvent → List RunEvent → Type 0
RunBefore [] [] = ⊥
RunBefore [] (f ∷ fs) = Unit {0}
RunBefore (e ∷ es) [] = ⊥
RunBefore (e ∷ es) (f ∷ fs) = EventBefore e f ⊎ ((e ≡ f) × RunBefore es fs)

-- each run stands before all that follow it in the list
abbrev pub RunsInOrder : List (List RunEvent) → Type 0
RunsInOrder [] = Unit {0}
RunsInOrder (r ∷ rs) = ((x : List RunEvent) → In x rs → RunBefore r x) × RunsInOrder rs

-- none stands in the list twice
abbrev pub Once : List (List RunEvent) → Type 0
Once [] = Unit {0}
Once (r ∷ rs) = (In r rs → ⊥) × Once rs

-- the run x is r with more events
abbrev pub Extends : List RunEvent → List RunEvent → Type 0
Extends r x = (e : RunEvent) × (es : List RunEvent) × (x ≡ r ++ (e ∷ es))

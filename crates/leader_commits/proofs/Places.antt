-- Places in a run.
-- Assumes nothing.
use mathlib.Core.Path.{◌≡◌, refl, ap, subst}
use mathlib.Core.Logic.{inl, inr}
use mathlib.Core.List.{List, [], ◌∷◌}
use Rattle.basics.specs.Lists.{In}
use Rattle.group.specs.Claim.{Entry, At}
use Rattle.group.specs.Steps.{RunStep, entry_of_step, entries_of_steps}

pub in_at : {A : Type 0} (x : A) (run : List A) → In x run → (earlier : List A) × At x earlier run
in_at x [] k = absurd k
in_at x (y ∷ run) (inl e) = (run, inl (e, refl))
in_at x (y ∷ run) (inr k) = let r = in_at x run k in (r.0, inr r.1)

pub at_in : {A : Type 0} (x : A) (earlier run : List A) → At x earlier run → In x run
at_in x earlier [] k = absurd k
at_in x earlier (y ∷ run) (inl e) = inl e.0
at_in x earlier (y ∷ run) (inr k) = inr (at_in x earlier run k)

-- what stands before a place of a run stands in the run
pub at_before : {A : Type 0} (x z : A) (past earlier run : List A) → At x past run → At z earlier past → At z earlier run
at_before x z past earlier [] k h = absurd k
at_before x z past earlier (y ∷ run) (inl e) h = inr (subst (At z earlier) e.1 h)
at_before x z past earlier (y ∷ run) (inr k) h = inr (at_before x z past earlier run k h)

-- steps and their entries
pub entry_stands_at : (x : RunStep) (past run : List RunStep) → At x past run → At (entry_of_step x) (entries_of_steps past) (entries_of_steps run)
entry_stands_at x past [] k = absurd k
entry_stands_at x past (y ∷ run) (inl e) = inl (ap entry_of_step e.0, ap entries_of_steps e.1)
entry_stands_at x past (y ∷ run) (inr k) = inr (entry_stands_at x past run k)

pub step_of_entry : (e : Entry) (run : List RunStep) → In e (entries_of_steps run) → (x : RunStep) × (e ≡ entry_of_step x)
step_of_entry e [] k = absurd k
step_of_entry e (y ∷ run) (inl same) = (y, same)
step_of_entry e (y ∷ run) (inr k) = step_of_entry e run k

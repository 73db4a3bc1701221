-- Joins computed: two lists that overlap, two that touch in either order, a gap, one slot with two values, too few places, a slot too large.
-- Assumes nothing.
use Rattle.std.specs.Prelude.{Ok, Err}
use mathlib.Core.Path.{◌≡◌, refl, sym, ap, ◌∙◌}
use mathlib.Core.Logic.{inl, inr}
use mathlib.Core.List.{[], ◌∷◌}
use Prim.Native.Nat.{ℕ, ◌*◌}
use native.Mathlib.Omega.{arith}
use Rattle.catch_up.specs.Causes.{CommitList, ListedCommit, beside}
use Rattle.catch_up.specs.Joining.{list_of, some_above, list_too_large, counts_from, outside, differ, in_order, joining}
use Rattle.catch_up.specs.declared.JoinRefusal.TheVariants.{NumberTooLarge, OutsideLimits, Gap, TwoValues}
use Rattle.catch_up.proofs.Agreeing.{OneValue, Lists, never_two_values}

abbrev five_six : CommitList
five_six = list_of (5 ∷ 6 ∷ []) (50 ∷ 60 ∷ [])

overlap : joining five_six (list_of (6 ∷ 7 ∷ []) (60 ∷ 70 ∷ [])) 8192 ≡ Ok (list_of (5 ∷ 6 ∷ 7 ∷ []) (50 ∷ 60 ∷ 70 ∷ []))
unfolding joining list_too_large some_above outside counts_from in_order differ
overlap = refl

touch : joining five_six (list_of (7 ∷ []) (70 ∷ [])) 8192 ≡ Ok (list_of (5 ∷ 6 ∷ 7 ∷ []) (50 ∷ 60 ∷ 70 ∷ []))
unfolding joining list_too_large some_above outside counts_from in_order differ
touch = refl

touch_before : joining five_six (list_of (4 ∷ []) (40 ∷ [])) 8192 ≡ Ok (list_of (4 ∷ 5 ∷ 6 ∷ []) (40 ∷ 50 ∷ 60 ∷ []))
unfolding joining list_too_large some_above outside counts_from in_order differ
touch_before = refl

gap : joining five_six (list_of (8 ∷ []) (80 ∷ [])) 8192 ≡ Err Gap
unfolding joining list_too_large some_above outside counts_from in_order differ
gap = refl

two_values : joining five_six (list_of (6 ∷ []) (61 ∷ [])) 8192 ≡ Err TwoValues
unfolding joining list_too_large some_above outside counts_from in_order differ
two_values = refl

few_places : joining five_six five_six 8191 ≡ Err OutsideLimits
unfolding joining list_too_large some_above outside counts_from in_order differ
few_places = refl

-- the slot 2^63−1, and not consecutive
large_first : joining five_six (list_of (9223372036854775807 ∷ 3 ∷ []) (0 ∷ 0 ∷ [])) 8192 ≡ Err NumberTooLarge
unfolding joining list_too_large some_above outside counts_from in_order differ
large_first = refl

-- ---- commits with one value for each slot, as `never_two_values` asks: each value is ten times its slot

abbrev tenfold : ℕ → ℕ → Type 0
tenfold slot v = v ≡ 10 * slot

one_value : OneValue tenfold
one_value slot v w p q = p ∙ sym q

from_five : Lists tenfold five_six
unfolding beside
from_five slot v (inl e) = omega (arith, ap (λ (c : ListedCommit). c.slot) e, ap (λ (c : ListedCommit). c.value) e)
from_five slot v (inr (inl e)) = omega (arith, ap (λ (c : ListedCommit). c.slot) e, ap (λ (c : ListedCommit). c.value) e)
from_five slot v (inr (inr e)) = absurd e

from_seven : Lists tenfold (list_of (7 ∷ []) (70 ∷ []))
unfolding beside
from_seven slot v (inl e) = omega (arith, ap (λ (c : ListedCommit). c.slot) e, ap (λ (c : ListedCommit). c.value) e)
from_seven slot v (inr e) = absurd e

no_two_values : joining five_six (list_of (7 ∷ []) (70 ∷ [])) 8192 ≡ Err TwoValues → ⊥
no_two_values = never_two_values tenfold one_value five_six (list_of (7 ∷ []) (70 ∷ [])) from_five from_seven 8192

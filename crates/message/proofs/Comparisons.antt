-- The comparisons that Rattle derives of rounds, values and processes are those of the definitions: `a < b` is `before`, and `a == b` is `equal`,
-- `same_value` or `is_process`.
-- Assumes nothing.
use Rattle.std.specs.Prelude.{ℕ, ◌≡◌, ◌==◌, refl, Option, None, Some, ltb, eqb}
use Rattle.std.specs.Ordering.{partial_lt}
use Rattle.std.specs.Option.{option_partial_cmp, option_eq}
use Rattle.basics.proofs.Tests.{by_cases}
use Rattle.message.specs.Promises.{same_value, is_process}
use Rattle.message.specs.Rounds.{before, equal, round_before, round_equal}
use Rattle.message.specs.contracts.PaxosRoundPartialEq.TheImpl.{eq-value}
use Rattle.message.specs.contracts.PaxosRoundPartialOrd.TheImpl.{partial_cmp-value}
use Rattle.message.specs.declared.PaxosRound.{PaxosRound}

pub rounds_equal : (a b : Option PaxosRound) → option_eq eq-value.it a b ≡ equal a b
unfolding round_equal
rounds_equal None None = refl
rounds_equal None (Some b) = refl
rounds_equal (Some a) None = refl
rounds_equal (Some a) (Some b) = refl

pub rounds_before : (a b : Option PaxosRound) → partial_lt (option_partial_cmp partial_cmp-value.it) a b ≡ before a b
unfolding round_before
rounds_before None None = refl
rounds_before None (Some b) = refl
rounds_before (Some a) None = refl
rounds_before (Some a) (Some b) =
    by_cases (ltb a.round_group b.round_group) (λ e. simp e)
    (λ e. by_cases (eqb a.round_group b.round_group) (λ f. by_cases (ltb a.leader b.leader) (λ g. simp (e, f, g)) (λ g. by_cases (eqb a.leader b.leader) (λ h. simp (e, f, g, h)) (λ h. simp (e, f, g, h)))) (λ f. simp (e, f)))

pub values_equal : (a b : Option ℕ) → option_eq ◌==◌ a b ≡ same_value a b
values_equal None None = refl
values_equal None (Some b) = refl
values_equal (Some a) None = refl
values_equal (Some a) (Some b) = refl

pub process_equal : (a : Option ℕ) (p : ℕ) → option_eq ◌==◌ a (Some p) ≡ is_process a p
process_equal None p = refl
process_equal (Some q) p = refl

-- `lines_read::line_states::proposers_fit` meets its contract.
-- Tried without: with `using(range_passes)` on the function the search gives up at one of its limits.
-- Assumes nothing.
use Rattle.std.proofs.Common.{◌≡◌, refl, ℕ, ◌+◌, ◌*◌, Bool, true, false, nat_lt, arith, rules, tests}
use Rattle.std.proofs.lemmas.Iterator.{cases_from_all, YieldsList-from_range}
use Rattle.call_lines.proofs.Ranges.{range_passes}
use Rattle.lines_read.specs.line_calls.Calls.{line_number_at}
use Rattle.lines_read.specs.line_states.Faults.{proposers_fit}
use Rattle.lines_read.proofs.line_states.proposers_fit.Goals as goal

pub returns : goal.returns
unfolding proposers_fit
returns c =
    let fits : ℕ → Bool = λ i. nat_lt (line_number_at c.args.numbers.now (21 + 4 * i)) 64 in
    range_passes (proposers_fit c.args.numbers.now) fits refl (λ i. refl) c.args.count c.all.result
    (cases_from_all _ _ _ (λ i. fits i ≡ true) (λ i. fits i ≡ false) c.all.ensures.ran (YieldsList-from_range 0 c.args.count c.args.count refl (omega arith))
    (λ i q k. search (rules, tests)) (λ i q k. search (rules, tests)))

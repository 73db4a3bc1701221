-- `lines_read::line_states::read_flags` meets its contract.
-- Tried without: with `using(range_passes)` on the function the search gives up at one of its limits.
-- Assumes nothing.
use Rattle.std.proofs.Common.{◌≡◌, refl, ℕ, ◌+◌, ◌*◌, Bool, true, false, arith, rules, tests}
use Rattle.std.proofs.lemmas.Iterator.{cases_from_all, YieldsList-from_range}
use Rattle.call_lines.proofs.Ranges.{range_passes}
use Rattle.lines_read.specs.line_calls.Calls.{line_number_at}
use Rattle.lines_read.specs.line_states.Faults.{is_flag, read_flags}
use Rattle.lines_read.proofs.line_states.read_flags.Goals as goal

pub returns : goal.returns
unfolding read_flags
returns c =
    let flag : ℕ → Bool = λ i. is_flag (line_number_at c.args.numbers.now (c.args.at + 5 * i)) in
    range_passes (read_flags c.args.numbers.now c.args.at) flag refl (λ i. refl) c.args.count c.all.result
    (cases_from_all _ _ _ (λ i. flag i ≡ true) (λ i. flag i ≡ false) c.all.ensures.ran (YieldsList-from_range 0 c.args.count c.args.count refl (omega arith))
    (λ i q k. search (rules, tests)) (λ i q k. search (rules, tests)))

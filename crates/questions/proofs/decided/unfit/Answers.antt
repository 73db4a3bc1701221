-- `questions::decided::unfit` meets its contract.
-- Tried without: with `using` on the function the lemma on plain messages is not found.
-- Assumes nothing.
use mathlib.Core.Path.{sym, ◌∙◌}
use Rattle.arrays.specs.Arrays.{flat_call_of}
use Rattle.questions.proofs.decided.Plain.{plain_fits}
use Rattle.questions.proofs.decided.unfit.Goals as goal

pub returns-then-is_plain_in : goal.returns-then-is_plain_in
returns-then-is_plain_in c = plain_fits c.args.process_count c.args.own (flat_call_of c.args.call.now) (sym c.is_plain_in.ensures ∙ c.if-is_plain_in.true)

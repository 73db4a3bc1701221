-- `register_lines::entries::put_sign` meets its contract.
-- Tried without, with the lemma named on the function: the goal stays open.
-- Assumes nothing.
use mathlib.Core.Path.{sym, ap, ◌∙◌}
use mathlib.Core.Bool.{Bool, cond}
use mathlib.Core.List.{◌++◌}
use Rattle.texts.specs.Text.{put, ascii, decimal, field}
use Rattle.texts.proofs.Putting.{put_then}
use Rattle.register_lines.specs.entries.Signed.{sign_text}
use Rattle.register_lines.proofs.entries.put_sign.Goals as goal

pub returns-then-negative : goal.returns-then-negative
unfolding sign_text
returns-then-negative c =
    put_then (ascii " -") (decimal c.args.n) c.args.out.now c.put_bytes.ensures c.put_number.ensures
    ∙ ap (λ (t : Bool). put (cond t (ascii " -" ++ decimal c.args.n) (field c.args.n)) c.args.out.now) (sym c.if-negative.true)

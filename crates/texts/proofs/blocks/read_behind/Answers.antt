-- What is read behind the bytes that are kept. Tried without: of the clauses of the way through the read, this one stays open.
-- Assumes nothing.
use Prim.Native.Nat.{◌+◌}
use native.Mathlib.Omega.{arith}
use Rattle.texts.proofs.blocks.Reading.{read_on, nothing_read, none_behind}
use Rattle.texts.proofs.blocks.read_behind.Goals as goal
use Rattle.texts.proofs.blocks.read_behind.Goals.{in-Ok, in-Err}

pub returns-then-kept-input-clause-read : goal.returns-then-kept-input-clause-read
returns-then-kept-input-clause-read g c =
    elim c.match-read.branch [
      | in-Ok w ↦
          read_on _ _ c.args.kept c.args.input.now c.read.new.buf (omega (arith, c.if-kept-input.true)) c.match-read.got _
          (omega (arith, w.got-is, w.in-Ok.ensures.bound.0)) (rw w.got-is w.in-Ok.ensures.bytes.0)
      | in-Err w ↦ nothing_read _ _ _ w.in-Err.ensures.bytes (none_behind c.args.kept (c.args.kept + c.match-read.got) _ (omega (arith, w.got-is)))
    ]

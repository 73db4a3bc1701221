-- The lines of a block are taken. Tried without: these two goals stay open, as they ask for the bytes that were read.
-- Assumes nothing.
use mathlib.Core.Path.{ap, ◌∙◌}
use native.Mathlib.Omega.{arith}
use Rattle.texts.proofs.blocks.Blocks.{Read, Lines, block_end, block_on, block_long}
use Rattle.texts.proofs.blocks.take_block.Goals as goal
use Rattle.texts.proofs.blocks.take_block.Goals.{then-between-input, else-between-input}

pub returns-then-end-between-clause-block : goal.returns-then-end-between-clause-block
returns-then-end-between-clause-block g c =
    let takes = g.L.LineTaker.takes in
    let asks = g.L.LineTaker.asks in
    let got = c.read_behind-end in
    let now = got.ensures in
    let read : Read takes asks c.args.input.now got.new.input c.args.between.now c.args.taker.now got.result =
    record { same_length = omega (arith, got.auto.input); within = now.kept.0.0; at_least = now.kept.1; kept_stands = now.kept.2 } in (
      _,
      now.read,
      block_end takes asks c.args.input.now got.new.input c.args.between.now c.args.taker.now got.result read _ _ _ c.if-end-between.true c.take_last.ensures,
    )

pub returns-clause-block : goal.returns-clause-block
returns-clause-block g c =
    let takes = g.L.LineTaker.takes in
    let asks = g.L.LineTaker.asks in
    let got = c.read_behind-end in
    let now = got.ensures in
    let left = c.take_lines-left in
    let moves = c.move_to_start-between in
    let lines : Lines takes asks c.args.input.now got.new.input c.args.between.now c.args.taker.now got.result c.first_line-start.result left.new.taker left.result
    moves.result moves.new.input =
    record {
      read = record { same_length = omega (arith, got.auto.input); within = now.kept.0.0; at_least = now.kept.1; kept_stands = now.kept.2 };
      some_read = omega (arith, c.if-end-between.false);
      first = c.first_line-start.ensures;
      lines = left.ensures.taken;
      left_open = left.ensures.left;
      kept_open = moves.ensures.0;
      moves = moves.ensures.1;
    } in (
      _,
      now.read,
      elim c.if-between-input.branch [
        | then-between-input w ↦
            block_long takes asks c.args.input.now got.new.input c.args.between.now c.args.taker.now got.result _ _ _ _ _ lines
            (omega (arith, w.if-between-input.true, moves.auto.input, got.auto.input)) _ _ _ _
        | else-between-input w ↦
            rw (w.between-is, w.taker-is)
            (block_on takes asks c.args.input.now got.new.input c.args.between.now c.args.taker.now got.result _ _ _ _ _ lines _
            (c.goes_on.ensures ∙ ap asks w.taker-is))
      ],
    )

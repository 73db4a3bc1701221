-- The lines of an input are taken, block by block. Tried without: these goals stay open, as they ask for the bytes that were read.
-- Assumes nothing.
use mathlib.Core.Path.{◌≡◌, refl, sym, subst}
use mathlib.Core.Bool.{true}
use mathlib.Core.List.{[], ◌++◌}
use mathlib.Core.Logic.{inr}
use Prim.Native.Nat.{ℕ}
use native.Mathlib.Omega.{arith}
use Rattle.std.proofs.lemmas.List.{length-append}
use Rattle.basics.proofs.Tests.{not_both}
use Rattle.texts.specs.blocks.Lines.{lines_fit}
use Rattle.texts.proofs.blocks.Blocks.{none_taken, first_fit}
use Rattle.texts.proofs.blocks.Reading.{nothing_read, still_there, consumes_append}
use Rattle.texts.proofs.blocks.take_input.Goals as goal

pub loop-init : goal.loop-init
loop-init g c =
    record {
      at_end = λ e. (refl, refl, e);
      same_length = refl;
      lines = (
        [],
        nothing_read _ _ [] (still_there (g.R.Read.remaining c.args.reader.now)) refl,
        omega arith,
        λ f. none_taken g.L.LineTaker.takes c.args.taker.now c.args.input.now,
      );
    }

pub loop-preserved : goal.loop-preserved
loop-preserved g c =
    let so_far = c.loop.invariant in
    let lines = so_far.lines in
    let block = c.take_block.ensures.block in
    let more = c.if-not-take_block.false in
    record {
      at_end = λ e.
          let none = so_far.at_end e in
          absurd (not_both more (c.take_block.ensures.at_end none.2 none.1).0);
      same_length = omega (arith, c.take_block.auto.input, so_far.same_length);
      lines = (
        lines.0 ++ block.0,
        consumes_append _ _ _ lines.0 block.0 lines.1 block.1,
        omega (arith, lines.2, block.2.reads_some more, length-append lines.0 block.0),
        λ fit.
            block.2.goes_on more c.args.taker.now lines.0 (record {
              so_far = lines.3 (first_fit _ lines.0 block.0 fit);
              fits = subst (λ (n : ℕ). lines_fit n [] (lines.0 ++ block.0) ≡ true) (sym so_far.same_length) fit;
            }),
      );
    }

pub returns-then-not-take_block-clause-lines : goal.returns-then-not-take_block-clause-lines
returns-then-not-take_block-clause-lines g c =
    let so_far = c.loop.invariant in
    let lines = so_far.lines in
    let block = c.take_block.ensures.block in (
      lines.0 ++ block.0,
      consumes_append _ _ _ lines.0 block.0 lines.1 block.1,
      λ fit.
          block.2.ends c.if-not-take_block.true c.args.taker.now lines.0 (record {
            so_far = lines.3 (first_fit _ lines.0 block.0 fit);
            fits = subst (λ (n : ℕ). lines_fit n [] (lines.0 ++ block.0) ≡ true) (sym so_far.same_length) fit;
          }),
    )

pub returns-after-loop-clause-lines : goal.returns-after-loop-clause-lines
returns-after-loop-clause-lines g c =
    let lines = c.loop.invariant.lines in
    (lines.0, lines.1, λ fit. inr ((lines.3 fit).taken, inr (omega (arith, lines.2, c.loop-test.false, c.loop.auto.counter-end))))

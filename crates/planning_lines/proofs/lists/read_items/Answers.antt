-- `planning_lines::lists::read_items` meets its contract: one turn keeps one entry more.
-- Tried without: with `using(turn_more)` on the function the search gives up at one of its limits.
-- Assumes nothing.
use Rattle.std.proofs.Common.{◌∙◌, sym, ap, ℕ, ◌+◌, length}
use Rattle.planning_lines.specs.declared.lists.LineList.{LineList}
use Rattle.planning_lines.specs.lists.Kept.{kept_more}
use Rattle.planning_lines.proofs.lists.ListsRead.{turn_more}
use Rattle.planning_lines.proofs.lists.read_items.Goals as goal

pub loop-i-preserved : goal.loop-i-preserved
unfolding kept_more
loop-i-preserved c =
    record {
      count = ap (λ (l : LineList). l.count) c.push.ensures ∙ ap (λ (n : ℕ). n + 1) c.loop-i.invariant.count;
      read =
          rw (c.push.ensures, c.next_field-at.ensures)
          (sym
          (turn_more c.args.fed c.args.line.now c.loop-i.at c.loop-i.i (length c.args.line.now) c.loop-i.list c.loop-i-test.true c.in_ok-item.item
          (sym c.item_at.ensures ∙ c.in_ok-item.was) (sym c.list_ends.ensures ∙ c.if-list_ends.false))
          ∙ c.loop-i.invariant.read);
    }

-- `short_runs::list`, `list_deliveries` and `list_event` meet their contracts.
-- Tried without: with `using` of the lemmas of Turns the other twelve goals are found, these two are not.
-- Assumes nothing.
use Prim.Native.Nat.{◌-◌}
use mathlib.Core.List.{[]}
use native.Mathlib.Omega.{arith}
use Rattle.texts.proofs.Putting.{put_then}
use Rattle.enabled_runs.specs.Listing.{each_below}
use Rattle.short_runs.proofs.Turns.{proposal_lines, delivery_lines, all_of, whole, turn_entered}
use Rattle.short_runs.proofs.+list_list_deliveries_list_event.Goals as goal

pub list-returns : goal.list-returns
list-returns t c =
    whole c.args.left c.args.run _ c.if-left-eq0.false
    (put_then (each_below 3 (proposal_lines (c.args.left - 1) c.args.run))
    (each_below 3 (λ m. each_below c.args.run.sent.count (delivery_lines (c.args.left - 1) c.args.run m))) _
    (all_of (proposal_lines (c.args.left - 1) c.args.run) [] c.loop-proposer.proposer 3 _ (omega arith) (omega arith) c.loop-proposer.invariant)
    (all_of (λ m. each_below c.args.run.sent.count (delivery_lines (c.args.left - 1) c.args.run m)) [] c.loop-member.member 3 _ (omega arith) (omega arith)
    c.loop-member.invariant))

pub list_event-returns-in-Some : goal.list_event-returns-in-Some
list_event-returns-in-Some t c = turn_entered _ _ _ _ _ c.trial.ensures c.in-Some.is c.put_line.ensures c.list.ensures

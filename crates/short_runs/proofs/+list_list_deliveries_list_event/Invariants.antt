-- `short_runs::list`, `list_deliveries` and `list_event` meet their contracts. Each calls the next with a smaller number: with `left` events left
-- they have 3 * left + 1, + 3 and + 2.
-- Assumes nothing.
use Prim.Native.Nat.{◌+◌, ◌*◌}
use mathlib.Core.Path.{◌≡◌}
use Rattle.texts.specs.Text.{put}
use Rattle.enabled_runs.specs.Listing.{each_below}
use Rattle.short_runs.proofs.Turns.{proposal_lines, delivery_lines}
use Rattle.short_runs.proofs.+list_list_deliveries_list_event.Given as goal

abbrev pub decreases-list : goal.decreases-list
decreases-list l = 3 * l.left + 1

abbrev pub decreases-list_deliveries : goal.decreases-list_deliveries
decreases-list_deliveries l = 3 * l.left + 3

abbrev pub decreases-list_event : goal.decreases-list_event
decreases-list_event l = 3 * l.left + 2

abbrev pub invariant-list-loop-proposer : goal.invariant-list-loop-proposer
invariant-list-loop-proposer l = l.out ≡ put (each_below l.proposer (proposal_lines l.fewer l.run)) l.initial.out

abbrev pub invariant-list-loop-member : goal.invariant-list-loop-member
invariant-list-loop-member l = l.out ≡ put (each_below l.member (λ m. each_below l.run.sent.count (delivery_lines l.fewer l.run m))) l.initial.out

abbrev pub invariant-list_deliveries-loop-place : goal.invariant-list_deliveries-loop-place
invariant-list_deliveries-loop-place l = l.out ≡ put (each_below l.place (delivery_lines l.left l.run l.member)) l.initial.out

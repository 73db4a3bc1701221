-- `catch_up::join_in_order` meets its contract.
-- Tried without: with `using` of the six lemmas none of the three is found.
-- Assumes nothing.
use Rattle.std.proofs.Common.{true, false, refl}
use Rattle.catch_up.specs.Joining.{lent_list}
use Rattle.catch_up.proofs.Answers.{refuses, order_gap, order_two, apart_is, disagree_is, order_writes}
use Rattle.catch_up.proofs.join_in_order.Goals as goal

pub returns-then-begins_past-clause-joined : goal.returns-then-begins_past-clause-joined
returns-then-begins_past-clause-joined c =
    refuses _ _ _
    (order_gap _ _
    (apart_is (lent_list c.args.earlier) (lent_list c.args.later) _ _ c.first_slot.ensures c.first_slot-2.ensures c.begins_past.result true c.begins_past.ensures c.if-begins_past.true))

pub returns-then-values_differ-clause-joined : goal.returns-then-values_differ-clause-joined
returns-then-values_differ-clause-joined c =
    refuses _ _ _
    (order_two _ _
    (apart_is (lent_list c.args.earlier) (lent_list c.args.later) _ _ c.first_slot.ensures c.first_slot-2.ensures c.begins_past.result false c.begins_past.ensures c.if-begins_past.false)
    (disagree_is (lent_list c.args.earlier) (lent_list c.args.later) _ _ c.first_slot.ensures c.first_slot-2.ensures c.values_differ.result true c.min-shared.result _ c.min-shared.ensures refl c.values_differ.ensures
    c.if-values_differ.true))

pub returns-clause-joined : goal.returns-clause-joined
returns-clause-joined c =
    order_writes (lent_list c.args.earlier) (lent_list c.args.later) _ _ c.first_slot.ensures c.first_slot-2.ensures _ _ c.saturating_sub-known.result _
    (apart_is (lent_list c.args.earlier) (lent_list c.args.later) _ _ c.first_slot.ensures c.first_slot-2.ensures c.begins_past.result false c.begins_past.ensures c.if-begins_past.false)
    (disagree_is (lent_list c.args.earlier) (lent_list c.args.later) _ _ c.first_slot.ensures c.first_slot-2.ensures c.values_differ.result false c.min-shared.result _ c.min-shared.ensures refl c.values_differ.ensures
    c.if-values_differ.false)
    c.saturating_sub-known.ensures c.store_both-count.ensures.stored c.store_both-count.ensures.count c.store_both.ensures.stored

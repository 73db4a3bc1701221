-- `read_tracker::serving::receive_ready_in` meets its contract.
-- Tried without, with the five lemmas named on the function: the two returns behind `after_response` stay open.
-- Assumes nothing.
use mathlib.Core.Path.{refl, ap, sym, ◌∙◌}
use Rattle.read_tracker.specs.Reads.{after_response}
use Rattle.read_tracker.proofs.serving.Responses.{found_at, found_none, receive_unknown, receive_keeps, receive_serves}
use Rattle.read_tracker.proofs.serving.receive_ready_in.Goals as goal

pub returns-in_default-clause-answer : goal.returns-in_default-clause-answer
returns-in_default-clause-answer g c =
    receive_unknown _ _ _ _ _ _ _ _ c.open_places-open_places.ensures refl c.requires.0
    (found_none c.args.tracker _ _ _ c.open_places-open_places.ensures c.requires.0 (sym c.find.ensures ∙ c.in_default.is))

pub returns-then-has_quorum-clause-answer : goal.returns-then-has_quorum-clause-answer
returns-then-has_quorum-clause-answer g c =
    let found : _ = found_at c.args.tracker _ _ _ c.open_places-open_places.ensures c.requires.0 _ (sym c.find.ensures ∙ c.in-Some.is) in
    simp c.put_served.ensures.served
    (receive_serves _ _ _ _ _ _ _ _ c.open_places-open_places.ensures found.0 c.requires.0
    _ _ (c.after_response-read.ensures ∙ ap after_response (c.get.ensures c.get.result)) found.1
    (sym c.has_quorum.ensures ∙ c.if-has_quorum.true) c.requires.1 _ c.remove.ensures.reads _ c.serve.ensures)

pub returns-clause-answer : goal.returns-clause-answer
returns-clause-answer g c =
    let found : _ = found_at c.args.tracker _ _ _ c.open_places-open_places.ensures c.requires.0 _ (sym c.find.ensures ∙ c.in-Some.is) in
    simp c.put.ensures.reads
    (receive_keeps _ _ _ _ _ _ _ _ c.open_places-open_places.ensures found.0 c.requires.0
    _ _ (c.after_response-read.ensures ∙ ap after_response (c.get.ensures c.get.result)) found.1
    (sym c.has_quorum.ensures ∙ c.if-has_quorum.false))

-- `read_tracker::serving::commit_slot_in` meets its contract.
-- Tried without, with the six lemmas of Commits named on the function: all goals stay open.
-- Assumes nothing.
use mathlib.Core.Path.{refl, sym, ap, ◌∙◌}
use Rattle.read_tracker.specs.Reads.{after_commit}
use borrow.Author.Rules.{rules}
use Rattle.read_tracker.proofs.serving.Commits.{committed_reads, committed_served, commit_start, commit_serves_lem, commit_keeps, commit_ends}
use native.Mathlib.Omega.{arith}
use Rattle.read_tracker.proofs.serving.commit_slot_in.Goals as goal
use Rattle.read_tracker.proofs.serving.commit_slot_in.Goals.{then-has_quorum, else-has_quorum}

pub loop-i-init : goal.loop-i-init
loop-i-init g c = record { same_open = refl; same_served = refl; walked = commit_start }

pub get-requires : goal.get-requires
get-requires g c = omega (arith, committed_reads c.loop-i.invariant.walked (omega arith) c.requires.0)

pub put_served-requires : goal.put_served-requires
put_served-requires g c = omega (arith, committed_served c.loop-i.invariant.walked (omega arith) c.requires.1, c.loop-i.invariant.walked.served_within)

pub put-requires : goal.put-requires
put-requires g c = omega (arith, committed_reads c.loop-i.invariant.walked (omega arith) c.requires.0, c.loop-i.invariant.walked.kept_within)

pub loop-i-preserved : goal.loop-i-preserved
loop-i-preserved g c =
    let is : _ = c.after_commit-read.ensures ∙ ap after_commit (c.get.ensures c.get.result) in
    elim c.if-has_quorum.branch [
      | then-has_quorum w ↦
          record {
            same_open = cc;
            same_served = cc;
            walked = simp (w.open-is, w.served-is, w.kept_count-is, w.served_count-is, w.put_served.ensures.served)
                (commit_serves_lem c.loop-i.invariant.walked c.loop-i-test.true (search rules) (omega arith) _ _ is (omega arith)
                (sym c.has_quorum.ensures ∙ w.if-has_quorum.true) _ w.serve.ensures);
          }
      | else-has_quorum w ↦
          record {
            same_open = cc;
            same_served = cc;
            walked = simp (w.open-is, w.served-is, w.kept_count-is, w.served_count-is, w.put.ensures.reads)
                (commit_keeps c.loop-i.invariant.walked c.loop-i-test.true (search rules) (omega arith) _ _ is
                (sym c.has_quorum.ensures ∙ w.if-has_quorum.false));
          }
    ]

pub returns-clause-answer : goal.returns-clause-answer
returns-clause-answer g c = commit_ends _ _ c.loop-i.invariant.walked (omega arith) c.open_places-open_places.ensures

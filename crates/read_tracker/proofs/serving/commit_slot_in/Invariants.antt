-- `read_tracker::serving::commit_slot_in` meets its contract: the first i open reads are looked at, those that are ready are served, and the others stand in front in their
-- order.
-- Assumes nothing.
use mathlib.Core.Path.{◌≡◌}
use Rattle.read_tracker.proofs.serving.Commits.{Committed}
use Rattle.read_tracker.proofs.serving.commit_slot_in.Given as goal

abbrev pub invariant-loop-i : goal.invariant-loop-i
invariant-loop-i g l =
    record {
      same_open : g.O.OpenReads.lent l.open ≡ g.O.OpenReads.lent l.initial.open;
      same_served : g.S.ServedReads.lent l.served ≡ g.S.ServedReads.lent l.initial.served;
      walked : Committed l.read_quorum l.slot (g.O.OpenReads.reads l.initial.open) (g.S.ServedReads.served l.initial.served) l.open_places (g.O.OpenReads.reads l.open) (g.S.ServedReads.served l.served) l.kept_count l.served_count l.i;
    }

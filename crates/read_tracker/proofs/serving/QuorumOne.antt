-- A quorum of one, and nothing held (the starred instance of document 01).
-- Assumes nothing.
use Rattle.std.specs.Prelude.{Ok}
use Prim.Native.Nat.{ℕ}
use mathlib.Core.Bool.{Bool, true, false}
use mathlib.Core.Path.{◌≡◌, refl}
use mathlib.Core.List.{[], ◌∷◌}
use Rattle.message.specs.Rounds.{increment}
use Rattle.read_tracker.specs.declared.OpenRead.{OpenRead}
use Rattle.read_tracker.specs.declared.ServedRead.{ServedRead}
use Rattle.read_tracker.specs.declared.Inserted.{Inserted}
use Rattle.read_tracker.specs.declared.serving.Tracked.{Tracked}
use Rattle.read_tracker.specs.Reads.{read_id, new_tracker, new_table, new_read, opening, open_next, inserted, insert_read, open_reads, has_quorum, serve, after_response, after_commit}
use Rattle.basics.specs.elements.Places.{at_front}
use Rattle.read_tracker.specs.serving.Serving.{served_reads, kept_by_ready, served_by_ready, kept_by_commit, served_by_commit, receive_ready, serve_at_commit}

module _ (tag arrival : ℕ) where
  -- the first read of a new shard, with the own answer
  abbrev first : Inserted
  first = inserted new_tracker new_table (opening new_tracker tag arrival true)

  pub first_taken : insert_read new_tracker new_table tag arrival true ≡ Ok first
  unfolding insert_read open_next
  first_taken = refl

  abbrev new : OpenRead
  new = new_read (read_id 0) tag arrival true

  -- it has its quorum already, and is open, with none served
  pub quorum_one_waits : (has_quorum 1 new ≡ true) × (open_reads first.tracker first.table ≡ new ∷ []) × (first.table.served ≡ new_table.served)
  quorum_one_waits = (refl, refl, refl)

  -- v is served, and nothing is left open
  abbrev ServedAlone : Tracked → ServedRead → Type 0
  ServedAlone after v = (served_reads after ≡ v ∷ []) × (open_reads after.tracker after.table ≡ [])

  -- the first response serves it
  pub quorum_one_response : (slot : ℕ) (fast : Bool) → ServedAlone (receive_ready first.tracker first.table (read_id 0) 1 slot fast) (serve slot fast new)
  unfolding receive_ready kept_by_ready served_by_ready after_response increment at_front
  quorum_one_response slot fast = (refl, refl)

  -- and so does the first commit
  pub quorum_one_commit : (slot : ℕ) → ServedAlone (serve_at_commit first.tracker first.table 1 slot) (serve slot false new)
  unfolding serve_at_commit kept_by_commit served_by_commit after_commit at_front
  quorum_one_commit slot = (refl, refl)

-- Where no read is open, a commit and a response change nothing of the reads and serve none.
-- Assumes nothing.
use Prim.Native.Nat.{ℕ}
use mathlib.Core.Bool.{Bool}
use mathlib.Core.Path.{◌≡◌, sym, ap, ◌∙◌}
use Rattle.message.specs.declared.ReadId.{ReadId}
use Rattle.read_tracker.specs.declared.ReadTracker.{ReadTracker}
use Rattle.read_tracker.specs.declared.ReadTable.{ReadTable}
use Rattle.read_tracker.specs.declared.serving.Tracked.{Tracked}
use Rattle.basics.specs.elements.Places.{at_front}
use Rattle.read_tracker.specs.serving.Serving.{kept_by_ready, served_by_ready, kept_by_commit, served_by_commit, receive_ready, serve_at_commit}

-- tracker and table as they are, and none served
abbrev pub untouched : ReadTracker → ReadTable → Tracked
untouched tracker table = record { tracker = tracker; table = table; served_count = 0 }

-- the tracker with n reads open
abbrev counting : ReadTracker → ℕ → ReadTracker
counting tracker n = record { next_id = tracker.next_id; open_count = n }

module _ (tracker : ReadTracker) (table : ReadTable) (none : tracker.open_count ≡ 0) where
  pub commit_untouched : (quorum slot : ℕ) → serve_at_commit tracker table quorum slot ≡ untouched tracker table
  unfolding serve_at_commit kept_by_commit served_by_commit at_front
  commit_untouched quorum slot =
      ap (λ (n : ℕ). serve_at_commit (counting tracker n) table quorum slot) none ∙ sym (ap (λ (n : ℕ). untouched (counting tracker n) table) none)

  pub response_untouched : (id : ReadId) (quorum slot : ℕ) (fast : Bool) → receive_ready tracker table id quorum slot fast ≡ untouched tracker table
  unfolding receive_ready kept_by_ready served_by_ready at_front
  response_untouched id quorum slot fast =
      ap (λ (n : ℕ). receive_ready (counting tracker n) table id quorum slot fast) none ∙ sym (ap (λ (n : ℕ). untouched (counting tracker n) table) none)

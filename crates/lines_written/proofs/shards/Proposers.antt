-- The proposers are put one after another.
-- Assumes nothing.
use mathlib.Core.Path.{◌≡◌, refl}
use mathlib.Core.List.{[]}
use Prim.Native.Nat.{ℕ, zero, suc, ◌+◌}
use native.Mathlib.Numerals.{add-one}
use Rattle.basics.proofs.sets.Laws.{contains_empty}
use Rattle.fast_state.specs.declared.FastState.{FastState}
use Rattle.texts.specs.declared.Output.{Output}
use Rattle.texts.specs.Text.{put}
use Rattle.texts.proofs.Putting.{put_append}
use Rattle.lines_written.specs.shards.Shard.{if_proposer, proposers_below}

pub none_below : (s : FastState) → proposers_below s 0 ≡ []
unfolding proposers_below
none_below s = refl

pub one_proposer_more : (s : FastState) (k : ℕ) (p : Output) → put (proposers_below s (k + 1)) p ≡ put (if_proposer s k) (put (proposers_below s k) p)
unfolding proposers_below
one_proposer_more s k p = rw (add-one, put_append)

pub no_proposers : (s : FastState) (n : ℕ) → s.fast_proposers ≡ 0 → proposers_below s n ≡ []
unfolding proposers_below if_proposer
no_proposers s zero e = refl
no_proposers s (suc n) e = simp (no_proposers s n e, e, contains_empty)

-- The value and the score of a proposer that `epaxos_try_adopt` goes by are those that the change stores in the tables.
-- Assumes nothing.
use mathlib.Core.Path.{◌≡◌, refl, sym}
use mathlib.Core.List.{List}
use Prim.Native.Nat.{ℕ, ◌<◌}
use lib.ListN.{length}
use Rattle.basics.specs.tables.Tables.{look_up}
use Rattle.basics.proofs.tables.Stored.{look_up_stored}
use Rattle.fast_state.specs.Adopt.{value_in, score_in}
use Rattle.fast_state.specs.Fast.{to_v_after, epaxos_scores_after}
use Rattle.fast_state.specs.declared.TableChange.{TableChange}
use Rattle.fast_state.specs.declared.TableChange.TheVariants.{SameEntries, Recorded, EPaxosScored, SwiftScored}

module _ (table : List ℕ) (long : length table ≡ 64) (p : ℕ) (process : p < 64) where
  pub value_stored : (entry : TableChange) → value_in entry table p ≡ look_up (to_v_after entry table) p
  unfolding value_in to_v_after
  value_stored SameEntries = refl
  value_stored (Recorded proposer v) = sym (look_up_stored table long p process proposer v)
  value_stored (EPaxosScored proposer v score) = sym (look_up_stored table long p process proposer v)
  value_stored (SwiftScored proposer v score) = sym (look_up_stored table long p process proposer v)

  pub score_stored : (entry : TableChange) → score_in entry table p ≡ look_up (epaxos_scores_after entry table) p
  unfolding score_in epaxos_scores_after
  score_stored SameEntries = refl
  score_stored (Recorded proposer v) = refl
  score_stored (EPaxosScored proposer v score) = sym (look_up_stored table long p process proposer score)
  score_stored (SwiftScored proposer v score) = refl

-- What settings within their limits give to the layers above.
-- Assumes nothing.
use mathlib.Core.Path.{◌≡◌, subst}
use mathlib.Core.Bool.{Bool, true, ◌&&◌}
use Prim.Native.Nat.{ℕ, ◌≤◌, ◌<◌, min}
use native.Mathlib.Nat.{le_trans}
use native.Mathlib.Omega.{arith}
use lib.Dec.{ltb, leb}
use borrow.Author.Tests.{ltb-true, leb-true}
use Rattle.basics.proofs.Tests.{and_left, and_right}
use Rattle.basics.specs.sets.Sets.{contains, size, fits, Within}
use Rattle.basics.proofs.sets.Laws.{majorities_meet}
use Rattle.quorum.specs.Quorum.{majority_of}
use Rattle.settings.specs.Questions.{quorums_of}
use Rattle.settings.specs.declared.Settings.{Settings}
use Rattle.settings.specs.Settings.{counts_fit, members_fit, committers_fit, mode_fits, within_limits}

pub record Counts (s : Settings) : Type 0 where
  pub some_process : 1 ≤ s.process_count
  pub most_processes : s.process_count ≤ 64
  pub some_replica : 1 ≤ s.replica_count
  pub most_replicas : s.replica_count ≤ s.process_count

pub counts_fit_lem : (s : Settings) → counts_fit s ≡ true → Counts s
unfolding counts_fit
counts_fit_lem s e =
    let a : Bool = leb 1 s.process_count in
    let b : Bool = leb s.process_count 64 in
    let c : Bool = leb 1 s.replica_count in
    let d : Bool = leb s.replica_count s.process_count in
    let abc = and_left (a && b && c) d e in
    let ab = and_left (a && b) c abc in
    record {
      some_process = leb-true 1 s.process_count (and_left a b ab);
      most_processes = leb-true s.process_count 64 (and_right a b ab);
      some_replica = leb-true 1 s.replica_count (and_right (a && b) c abc);
      most_replicas = leb-true s.replica_count s.process_count (and_right (a && b && c) d e);
    }

pub record Members (s : Settings) : Type 0 where
  pub own_below : s.my_pid < s.process_count
  pub leader_below : s.first_leader < s.process_count
  pub live_fit : fits s.alive_replicas s.process_count ≡ true
  pub live_size : size s.alive_replicas ≤ s.replica_count

pub settings_members : (s : Settings) → members_fit s ≡ true → Members s
unfolding members_fit
settings_members s e =
    let a : Bool = ltb s.my_pid s.process_count in
    let b : Bool = ltb s.first_leader s.process_count in
    let c : Bool = fits s.alive_replicas s.process_count in
    let d : Bool = leb (size s.alive_replicas) s.replica_count in
    let abc = and_left (a && b && c) d e in
    let ab = and_left (a && b) c abc in
    record {
      own_below = ltb-true s.my_pid s.process_count (and_left a b ab);
      leader_below = ltb-true s.first_leader s.process_count (and_right a b ab);
      live_fit = and_right (a && b) c abc;
      live_size = leb-true (size s.alive_replicas) s.replica_count (and_right (a && b && c) d e);
    }

pub within_counts : (s : Settings) → within_limits s ≡ true → Counts s
unfolding within_limits
within_counts s e =
    counts_fit_lem s
    (and_left (counts_fit s) (members_fit s) (and_left (counts_fit s && members_fit s) (committers_fit s.committers s.process_count) (and_left (counts_fit s && members_fit s && committers_fit s.committers s.process_count) (mode_fits s s.mode) e)))

pub within_members : (s : Settings) → within_limits s ≡ true → Members s
unfolding within_limits
within_members s e =
    settings_members s
    (and_right (counts_fit s) (members_fit s) (and_left (counts_fit s && members_fit s) (committers_fit s.committers s.process_count) (and_left (counts_fit s && members_fit s && committers_fit s.committers s.process_count) (mode_fits s s.mode) e)))

-- two majorities of live replicas share a process
pub live_majorities_meet : (s : Settings) → within_limits s ≡ true → (a b : ℕ) → Within a s.alive_replicas → Within b s.alive_replicas
    → (quorums_of s).majority ≤ size a → (quorums_of s).majority ≤ size b → (p : ℕ) × (p < 64) × (contains a p ≡ true) × (contains b p ≡ true)
live_majorities_meet s e a b la lb ma mb =
    let counts = within_counts s e in
    let least : s.replica_count ≤ 64 = le_trans counts.most_replicas counts.most_processes in
    let row : min s.replica_count 64 ≡ s.replica_count = omega arith in
    majorities_meet s.replica_count s.alive_replicas a b la lb (within_members s e).live_size
    (subst (λ (n : ℕ). majority_of n ≤ size a) row ma) (subst (λ (n : ℕ). majority_of n ≤ size b) row mb)

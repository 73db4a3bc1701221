-- Nothing is lost: a response or a commit parts the open reads into those that it keeps and those that it serves.
-- Assumes nothing.
use Prim.Native.Nat.{ℕ, ◌+◌}
use mathlib.Core.Bool.{Bool, true, false, cond}
use mathlib.Core.Logic.{◌⊎◌, inl, inr}
use mathlib.Core.Path.{◌≡◌, refl}
use mathlib.Core.List.{List, [], ◌∷◌}
use native.Mathlib.Omega.{arith}
use lib.ListN.{length}
use Rattle.message.specs.declared.ReadId.{ReadId}
use Rattle.read_tracker.specs.declared.OpenRead.{OpenRead}
use Rattle.read_tracker.specs.declared.ServedRead.{ServedRead}
use Rattle.read_tracker.specs.Reads.{has_quorum, after_response, after_commit, serve}
use Rattle.read_tracker.specs.serving.Serving.{has_id, kept_by_ready, served_by_ready, kept_by_commit, served_by_commit}

-- Each read of the first list is kept in the second, as Kept says, or served in the third, as Served says. Both are in the first one's
-- order, and have no other reads.
pub data Parted (Kept : OpenRead → OpenRead → Type 0) (Served : OpenRead → ServedRead → Type 0) : List OpenRead → List OpenRead → List ServedRead → Type 0 where
  nothing : Parted Kept Served [] [] []
  keeps : {r s : OpenRead} {l kept : List OpenRead} {served : List ServedRead} → Kept r s → Parted Kept Served l kept served → Parted Kept Served (r ∷ l) (s ∷ kept) served
  serves : {r : OpenRead} {v : ServedRead} {l kept : List OpenRead} {served : List ServedRead} → Served r v → Parted Kept Served l kept served → Parted Kept Served (r ∷ l) kept (v ∷ served)

pub parted_length : {Kept : OpenRead → OpenRead → Type 0} {Served : OpenRead → ServedRead → Type 0} {l kept : List OpenRead} {served : List ServedRead}
    → Parted Kept Served l kept served → length kept + length served ≡ length l
parted_length nothing = refl
parted_length (keeps h p) = omega (arith, parted_length p)
parted_length (serves h p) = omega (arith, parted_length p)

-- counting changes neither id, tag nor arrival
abbrev pub SameRead : OpenRead → OpenRead → Type 0
SameRead s r = (s.id ≡ r.id) × (s.tag ≡ r.tag) × (s.arrival_slot ≡ r.arrival_slot)

pub after_response_same : (r : OpenRead) → SameRead (after_response r) r
unfolding after_response
after_response_same r = (refl, refl, refl)

pub after_commit_same : (r : OpenRead) → SameRead (after_commit r) r
unfolding after_commit
after_commit_same r = (refl, refl, refl)

-- a commit: every read has the own answer then, those without their quorum are kept, and those with it are served
abbrev pub KeptByCommit : ℕ → OpenRead → OpenRead → Type 0
KeptByCommit quorum r s = (s ≡ after_commit r) × (has_quorum quorum s ≡ false)

abbrev pub ServedByCommit : ℕ → ℕ → OpenRead → ServedRead → Type 0
ServedByCommit quorum slot r v = (v ≡ serve slot false (after_commit r)) × (has_quorum quorum (after_commit r) ≡ true)

pub commit_loses_nothing : (quorum slot : ℕ) (l : List OpenRead) → Parted (KeptByCommit quorum) (ServedByCommit quorum slot) l (kept_by_commit quorum l) (served_by_commit quorum slot l)
unfolding kept_by_commit served_by_commit
commit_loses_nothing quorum slot [] = nothing
commit_loses_nothing quorum slot (r ∷ rs) = go (has_quorum quorum (after_commit r)) refl (commit_loses_nothing quorum slot rs)
  where
    kept : List OpenRead
    kept = kept_by_commit quorum rs

    served : List ServedRead
    served = served_by_commit quorum slot rs

    go : (t : Bool) → has_quorum quorum (after_commit r) ≡ t → Parted (KeptByCommit quorum) (ServedByCommit quorum slot) rs kept served
        → Parted (KeptByCommit quorum) (ServedByCommit quorum slot) (r ∷ rs) (cond t kept (after_commit r ∷ kept)) (cond t (serve slot false (after_commit r) ∷ served) served)
    go true e p = serves (refl, e) p
    go false e p = keeps (refl, e) p

-- a response: a read is kept as it was, or has the id, counts one more, and is kept without its quorum or served with it. Which one
-- that is, is told by `ready_found` and `ready_unknown` of Responses.
abbrev pub KeptByReady : ReadId → ℕ → OpenRead → OpenRead → Type 0
KeptByReady id quorum r s = (s ≡ r) ⊎ ((has_id id r ≡ true) × (s ≡ after_response r) × (has_quorum quorum s ≡ false))

abbrev pub ServedByReady : ReadId → ℕ → ℕ → Bool → OpenRead → ServedRead → Type 0
ServedByReady id quorum slot fast r v = (has_id id r ≡ true) × (v ≡ serve slot fast (after_response r)) × (has_quorum quorum (after_response r) ≡ true)

module _ (id : ReadId) (quorum slot : ℕ) (fast : Bool) where
  abbrev Response : List OpenRead → List OpenRead → List ServedRead → Type 0
  Response l kept served = Parted (KeptByReady id quorum) (ServedByReady id quorum slot fast) l kept served

  all_kept : (l : List OpenRead) → Response l l []
  all_kept [] = nothing
  all_kept (r ∷ rs) = keeps (inl refl) (all_kept rs)

  pub ready_loses_nothing : (l : List OpenRead) → Response l (kept_by_ready id quorum l) (served_by_ready id quorum slot fast l)
  unfolding kept_by_ready served_by_ready
  ready_loses_nothing [] = nothing
  ready_loses_nothing (r ∷ rs) = go (has_id id r) refl (has_quorum quorum (after_response r)) refl (ready_loses_nothing rs)
    where
      kept : List OpenRead
      kept = kept_by_ready id quorum rs

      served : List ServedRead
      served = served_by_ready id quorum slot fast rs

      go : (t : Bool) → has_id id r ≡ t → (q : Bool) → has_quorum quorum (after_response r) ≡ q → Response rs kept served
          → Response (r ∷ rs) (cond t (cond q rs (after_response r ∷ rs)) (r ∷ kept)) (cond t (cond q (serve slot fast (after_response r) ∷ []) []) served)
      go true e true f p = serves (e, refl, f) (all_kept rs)
      go true e false f p = keeps (inr (e, refl, f)) (all_kept rs)
      go false e true f p = keeps (inl refl) p
      go false e false f p = keeps (inl refl) p

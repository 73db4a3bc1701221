-- The loop of `serve_at_commit`.
-- Assumes nothing.
use Prim.Native.Nat.{ℕ, ◌+◌, ◌≤◌, ◌<◌}
use mathlib.Core.Bool.{Bool, true, false, cond}
use mathlib.Core.Path.{◌≡◌, refl, ap, ◌∙◌}
use mathlib.Core.List.{List, [], ◌∷◌, ◌++◌, append-nil}
use native.Mathlib.Omega.{arith}
use native.Mathlib.Numerals.{add-one}
use lib.ListN.{length, get_or, set, take, length-append}
use lib.Seq.{take-suc}
use Rattle.read_tracker.specs.declared.OpenRead.{OpenRead}
use Rattle.read_tracker.specs.declared.ServedRead.{ServedRead}
use Rattle.read_tracker.specs.declared.ReadTracker.{ReadTracker}
use Rattle.read_tracker.specs.declared.ReadTable.{ReadTable}
use Rattle.read_tracker.specs.declared.serving.Tracked.{Tracked}
use Rattle.read_tracker.specs.Reads.{has_quorum, after_commit, serve, open_places}
use Rattle.basics.specs.elements.Places.{at_front}
use Rattle.read_tracker.specs.serving.Serving.{kept_by_commit, served_by_commit, serve_at_commit}
use Rattle.basics.proofs.elements.Lists.{front_push, front_later, front_length}

cond_append : {A : Type 0} (b : Bool) (x y z : List A) → cond b x y ++ z ≡ cond b (x ++ z) (y ++ z)
cond_append true x y z = refl
cond_append false x y z = refl

kept_append : (quorum : ℕ) (l m : List OpenRead) → kept_by_commit quorum (l ++ m) ≡ kept_by_commit quorum l ++ kept_by_commit quorum m
unfolding kept_by_commit
kept_append quorum [] m = refl
kept_append quorum (r ∷ rs) m = simp (kept_append quorum rs m, cond_append)

served_append : (quorum slot : ℕ) (l m : List OpenRead) → served_by_commit quorum slot (l ++ m) ≡ served_by_commit quorum slot l ++ served_by_commit quorum slot m
unfolding served_by_commit
served_append quorum slot [] m = refl
served_append quorum slot (r ∷ rs) m = simp (served_append quorum slot rs m, cond_append)

-- the loop at i: what is kept and what is served of the reads before i stands in front
pub record Committed (quorum slot : ℕ) (places : List OpenRead) (served_places : List ServedRead) (n : ℕ)
    (reads : List OpenRead) (served : List ServedRead) (kept_count served_count i : ℕ) : Type 0 where
  pub within : i ≤ n
  pub reads_are : reads ≡ at_front (kept_by_commit quorum (take i places)) places
  pub served_are : served ≡ at_front (served_by_commit quorum slot (take i places)) served_places
  pub kept_length : length (kept_by_commit quorum (take i places)) ≡ kept_count
  pub served_length : length (served_by_commit quorum slot (take i places)) ≡ served_count
  pub kept_within : kept_count ≤ i
  pub served_within : served_count ≤ i

module _ {quorum slot n kept_count served_count i : ℕ} {places reads : List OpenRead} {served_places served : List ServedRead}
    (h : Committed quorum slot places served_places n reads served kept_count served_count i)
    (more : i < n) (fits : n ≤ 128) (long : length places ≡ 128) (d r : OpenRead) (is : r ≡ after_commit (get_or reads i d)) where
  read_is : r ≡ after_commit (get_or places i d)
  read_is = is ∙ simp (h.reads_are, front_later (kept_by_commit quorum (take i places)) places i d (omega (arith, h.kept_length, h.kept_within)))

  one_more : take (i + 1) places ≡ take i places ++ (get_or places i d ∷ [])
  one_more = rw add-one (take-suc places i d (omega arith))

  kept_more : kept_by_commit quorum (take (i + 1) places) ≡ kept_by_commit quorum (take i places) ++ cond (has_quorum quorum r) [] (r ∷ [])
  unfolding kept_by_commit
  kept_more = simp (one_more, kept_append quorum (take i places), read_is)

  served_more : served_by_commit quorum slot (take (i + 1) places) ≡ served_by_commit quorum slot (take i places) ++ cond (has_quorum quorum r) (serve slot false r ∷ []) []
  unfolding served_by_commit
  served_more = simp (one_more, served_append quorum slot (take i places), read_is)

  pub commit_serves_lem : length served_places ≡ 128 → has_quorum quorum r ≡ true → (v : ServedRead) → v ≡ serve slot false r
      → Committed quorum slot places served_places n reads (set served served_count v) kept_count (served_count + 1) (i + 1)
  commit_serves_lem room t v e =
      let kept : kept_by_commit quorum (take (i + 1) places) ≡ kept_by_commit quorum (take i places) = kept_more ∙ simp (t, append-nil) in
      let serves : served_by_commit quorum slot (take (i + 1) places) ≡ served_by_commit quorum slot (take i places) ++ (v ∷ []) = served_more ∙ simp (t, e) in
      record {
        within = omega arith;
        reads_are = rw kept h.reads_are;
        served_are = rw serves (simp h.served_are (front_push (served_by_commit quorum slot (take i places)) served_places served_count v h.served_length (omega (arith, h.served_within))));
        kept_length = rw kept h.kept_length;
        served_length = rw serves (simp (length-append, h.served_length));
        kept_within = omega (arith, h.kept_within);
        served_within = omega (arith, h.served_within);
      }

  pub commit_keeps : has_quorum quorum r ≡ false → Committed quorum slot places served_places n (set reads kept_count r) served (kept_count + 1) served_count (i + 1)
  commit_keeps t =
      let kept : kept_by_commit quorum (take (i + 1) places) ≡ kept_by_commit quorum (take i places) ++ (r ∷ []) = kept_more ∙ simp t in
      let serves : served_by_commit quorum slot (take (i + 1) places) ≡ served_by_commit quorum slot (take i places) = served_more ∙ simp (t, append-nil) in
      record {
        within = omega arith;
        reads_are = rw kept (simp h.reads_are (front_push (kept_by_commit quorum (take i places)) places kept_count r h.kept_length (omega (arith, h.kept_within))));
        served_are = rw serves h.served_are;
        kept_length = rw kept (simp (length-append, h.kept_length));
        served_length = rw serves h.served_length;
        kept_within = omega (arith, h.kept_within);
        served_within = omega (arith, h.served_within);
      }

-- the rows keep their lengths
module _ {quorum slot n kept_count served_count i : ℕ} {places reads : List OpenRead} {served_places served : List ServedRead}
    (h : Committed quorum slot places served_places n reads served kept_count served_count i) (fits : n ≤ 128) where
  pub committed_reads : length places ≡ 128 → length reads ≡ 128
  committed_reads long =
      ap length h.reads_are ∙ front_length (kept_by_commit quorum (take i places)) places (omega (arith, h.kept_length, h.kept_within, h.within)) ∙ long

  pub committed_served : length served_places ≡ 128 → length served ≡ 128
  committed_served long =
      ap length h.served_are ∙ front_length (served_by_commit quorum slot (take i places)) served_places (omega (arith, h.served_length, h.served_within, h.within)) ∙ long

pub commit_start : {quorum slot : ℕ} {places : List OpenRead} {served_places : List ServedRead} {n : ℕ} → Committed quorum slot places served_places n places served_places 0 0 0
unfolding at_front kept_by_commit served_by_commit
commit_start =
    record { within = omega arith; reads_are = refl; served_are = refl; kept_length = refl; served_length = refl; kept_within = omega arith; served_within = omega arith }

module _ (tracker : ReadTracker) (table : ReadTable)
    {quorum slot n kept_count served_count i : ℕ} {reads : List OpenRead} {served : List ServedRead}
    (h : Committed quorum slot table.reads table.served n reads served kept_count served_count i) where
  pub commit_ends : n ≤ i → n ≡ open_places tracker → ◌≡◌ {A = Tracked} (record {
    tracker = record { next_id = tracker.next_id; open_count = kept_count };
    table = record { reads = reads; served = served };
    served_count = served_count;
  }) (serve_at_commit tracker table quorum slot)
  unfolding serve_at_commit
  commit_ends all e =
      let same : open_places tracker ≡ i = omega (arith, h.within) in
      simp (same, h.reads_are, h.served_are, h.kept_length, h.served_length)

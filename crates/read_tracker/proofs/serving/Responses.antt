-- Where a response finds its read, and what it does to the open reads.
-- Assumes nothing.
use Prim.Native.Nat.{ℕ, suc, ◌+◌, ◌-◌, ◌≤◌, ◌<◌}
use mathlib.Core.Bool.{Bool, true, false, cond}
use mathlib.Core.Path.{◌≡◌, refl, ◌∙◌}
use mathlib.Core.List.{List, [], ◌∷◌}
use mathlib.Core.Logic.{◌⊎◌, inl, inr}
use Rattle.basics.proofs.Tests.{either}
use Rattle.std.proofs.Common.{Some, None, add_comm}
use Rattle.std.proofs.lemmas.Bool.Decides.{nat_tests}
use Rattle.std.specs.List.{position, position_or_len}
use Rattle.std.proofs.lemmas.List.Recursion.{is_position_or_len}
use Rattle.std.proofs.lemmas.List.Sums.{position_or_len_is}
use native.Mathlib.Nat.{eq-or-lt_of_le}
use borrow.Author.Tests.{lt-ltb, le-ltb}
use native.Mathlib.Omega.{arith}
use native.Mathlib.Numerals.{add-one}
use lib.ListN.{length, get_or, set, take, length-take, length-set}
use lib.Seq.{get_or-take}
use Rattle.message.specs.declared.ReadId.{ReadId}
use Rattle.read_tracker.specs.declared.OpenRead.{OpenRead}
use Rattle.read_tracker.specs.declared.ServedRead.{ServedRead}
use Rattle.read_tracker.specs.declared.ReadTracker.{ReadTracker}
use Rattle.read_tracker.specs.declared.ReadTable.{ReadTable}
use Rattle.read_tracker.specs.declared.serving.Tracked.{Tracked}
use Rattle.read_tracker.specs.Reads.{new_read, has_quorum, after_response, serve, open_places, open_reads}
use Rattle.basics.specs.elements.Places.{at_front, without}
use Rattle.read_tracker.specs.serving.Serving.{place_of_id, has_id, kept_by_ready, served_by_ready, receive_ready}
use Rattle.basics.proofs.elements.Lists.{front_none, front_first, front_own, front_set, without_length}

-- the search of `find`: none of the first i reads has the id
abbrev pub NoReadBefore : ReadId → List OpenRead → ℕ → Type 0
NoReadBefore id l i = (k : ℕ) (d : OpenRead) → k < i → has_id id (get_or l k d) ≡ false

pub search_more : (id : ReadId) (l : List OpenRead) (i : ℕ) (r : OpenRead) → ((d : OpenRead) → r ≡ get_or l i d) → has_id id r ≡ false → NoReadBefore id l i → NoReadBefore id l (i + 1)
search_more id l i r is t before k d h = go (eq-or-lt_of_le (omega arith))
  where
    go : (k ≡ i) ⊎ (k < i) → has_id id (get_or l k d) ≡ false
    go (inl e) = rw e (rw (← is d) t)
    go (inr m) = before k d m

module _ (id : ReadId) (l : List OpenRead) (m i : ℕ) (fits : m ≤ length l) (before : NoReadBefore id l i) where
  pub search_found : (r : OpenRead) → ((d : OpenRead) → r ≡ get_or l i d) → has_id id r ≡ true → i < m → Some i ≡ position (has_id id) (take m l)
  search_found r is t h =
      let long : length (take m l) ≡ m = length-take m l ∙ omega arith in
      let at : position_or_len (has_id id) (take m l) ≡ i =
      position_or_len_is (has_id id) (take m l) i r (omega arith) (λ k j. rw (get_or-take m l k r (omega arith)) (before k r j)) (λ j. rw (get_or-take m l i r h) (rw (← is r) t)) in
      simp (at, long, lt-ltb i m h)

  pub search_none : m ≤ i → None ≡ position (has_id id) (take m l)
  search_none h =
      let long : length (take m l) ≡ m = length-take m l ∙ omega arith in
      let at : position_or_len (has_id id) (take m l) ≡ m =
      position_or_len_is (has_id id) (take m l) m (new_read id 0 0 false) (omega arith) (λ k j. rw (get_or-take m l k (new_read id 0 0 false) j) (before k (new_read id 0 0 false) (omega arith))) (λ j. absurd (omega arith)) in
      simp (at, long, le-ltb m m (omega arith))

-- the place of a read is where `position` finds it
place_is_position : (id : ReadId) (l : List OpenRead) → place_of_id id l ≡ position_or_len (has_id id) l
unfolding place_of_id
place_is_position id l = is_position_or_len (place_of_id id) (has_id id) refl (λ r rs. simp (add_comm 1 (place_of_id id rs), add-one)) l

pub position_found : (id : ReadId) (l : List OpenRead) (at : ℕ) → position (has_id id) l ≡ Some at → (at ≡ place_of_id id l) × (at < length l)
position_found id l at e = let p = place_is_position id l in (grind (arith, nat_tests), grind (arith, nat_tests))

pub position_none : (id : ReadId) (l : List OpenRead) → position (has_id id) l ≡ None → length l ≤ place_of_id id l
position_none id l e = let p = place_is_position id l in grind (arith, nat_tests)

-- no open read has the id: nothing changes
abbrev pub Unknown : ReadId → ℕ → ℕ → Bool → List OpenRead → Type 0
Unknown id quorum slot fast l = (kept_by_ready id quorum l ≡ l) × (served_by_ready id quorum slot fast l ≡ [])

pub ready_unknown : (id : ReadId) (quorum slot : ℕ) (fast : Bool) (l : List OpenRead) → length l ≤ place_of_id id l → Unknown id quorum slot fast l
unfolding place_of_id kept_by_ready served_by_ready
ready_unknown id quorum slot fast [] h = (refl, refl)
ready_unknown id quorum slot fast (r ∷ rs) h = go (either (has_id id r)) (λ k. ready_unknown id quorum slot fast rs k)
  where
    go : (has_id id r ≡ true) ⊎ (has_id id r ≡ false) → (length rs ≤ place_of_id id rs → Unknown id quorum slot fast rs) → Unknown id quorum slot fast (r ∷ rs)
    go (inl e) rest = let k : suc (length rs) ≤ 0 = simp e at h in absurd (omega arith)
    go (inr e) rest =
        let k : suc (length rs) ≤ suc (place_of_id id rs) = simp e at h in
        let u : Unknown id quorum slot fast rs = rest (omega arith) in
        (simp (e, u.0), simp (e, u.1))

cond_cons : {A : Type 0} (b : Bool) (a : A) (x y : List A) → a ∷ cond b x y ≡ cond b (a ∷ x) (a ∷ y)
cond_cons true a x y = refl
cond_cons false a x y = refl

-- the read at `at` is left as r: served if it then has its quorum, and else kept in its place; the others stay as they are
abbrev pub Answered : ReadId → ℕ → ℕ → Bool → List OpenRead → ℕ → OpenRead → Type 0
Answered id quorum slot fast l at r =
    (kept_by_ready id quorum l ≡ cond (has_quorum quorum r) (without at l) (set l at r))
    × (served_by_ready id quorum slot fast l ≡ cond (has_quorum quorum r) (serve slot fast r ∷ []) [])

-- the first read with the id counts one more
pub ready_found : (id : ReadId) (quorum slot : ℕ) (fast : Bool) (l : List OpenRead) (d : OpenRead) → place_of_id id l < length l
    → Answered id quorum slot fast l (place_of_id id l) (after_response (get_or l (place_of_id id l) d))
unfolding place_of_id kept_by_ready served_by_ready without
ready_found id quorum slot fast [] d h = absurd (omega arith)
ready_found id quorum slot fast (r ∷ rs) d h = go (either (has_id id r)) (λ k. ready_found id quorum slot fast rs d k)
  where
    go : (has_id id r ≡ true) ⊎ (has_id id r ≡ false) → (place_of_id id rs < length rs → Answered id quorum slot fast rs (place_of_id id rs) (after_response (get_or rs (place_of_id id rs) d)))
        → Answered id quorum slot fast (r ∷ rs) (place_of_id id (r ∷ rs)) (after_response (get_or (r ∷ rs) (place_of_id id (r ∷ rs)) d))
    go (inl e) rest = (simp e, simp e)
    go (inr e) rest =
        let k : suc (place_of_id id rs) < suc (length rs) = simp e at h in
        let u : Answered id quorum slot fast rs (place_of_id id rs) (after_response (get_or rs (place_of_id id rs) d)) = rest (omega arith) in
        (simp (e, u.0, cond_cons), simp (e, u.1))

-- the three ends of `receive_ready`
module _ (tracker : ReadTracker) (table : ReadTable) (id : ReadId) (quorum slot : ℕ) (fast : Bool) (n at : ℕ)
    (count : n ≡ open_places tracker) (found : at ≡ place_of_id id (open_reads tracker table)) (long : length table.reads ≡ 128) where
  shorter : length (open_reads tracker table) ≡ n
  shorter = length-take (open_places tracker) table.reads ∙ omega arith

  pub receive_unknown : n ≤ at → ◌≡◌ {A = Tracked} (record {
    tracker = record { next_id = tracker.next_id; open_count = n };
    table = table;
    served_count = 0;
  }) (receive_ready tracker table id quorum slot fast)
  unfolding receive_ready
  receive_unknown h =
      let l : List OpenRead = open_reads tracker table in
      let u : Unknown id quorum slot fast l = ready_unknown id quorum slot fast l (omega (arith, shorter)) in
      simp (u.0, u.1, shorter, front_own, front_none)

  module _ (d r : OpenRead) (is : r ≡ after_response (get_or table.reads at d)) (h : at < n) where
    answered : Answered id quorum slot fast (open_reads tracker table) at r
    answered =
        let in_front_lem : get_or (open_reads tracker table) at d ≡ get_or table.reads at d = get_or-take (open_places tracker) table.reads at d (omega arith) in
        let u : _ = ready_found id quorum slot fast (open_reads tracker table) d (omega (arith, shorter)) in
        simp (← found, in_front_lem, ← is) at u

    pub receive_keeps : has_quorum quorum r ≡ false → ◌≡◌ {A = Tracked} (record {
      tracker = record { next_id = tracker.next_id; open_count = n };
      table = record { reads = set table.reads at r; served = table.served };
      served_count = 0;
    }) (receive_ready tracker table id quorum slot fast)
    unfolding receive_ready
    receive_keeps t =
        let l : List OpenRead = open_reads tracker table in
        let kept : kept_by_ready id quorum l ≡ set l at r = answered.0 ∙ simp t in
        let none : served_by_ready id quorum slot fast l ≡ [] = answered.1 ∙ simp t in
        let places : set (at_front l table.reads) at r ≡ at_front (set l at r) table.reads = front_set l table.reads at r (omega (arith, shorter)) in
        simp (kept, none, length-set, shorter, ← places, front_own, front_none)

    pub receive_serves : has_quorum quorum r ≡ true → length table.served ≡ 128 → (reads : List OpenRead) → reads ≡ at_front (without at (take n table.reads)) table.reads
        → (v : ServedRead) → v ≡ serve slot fast r → ◌≡◌ {A = Tracked} (record {
          tracker = record { next_id = tracker.next_id; open_count = n - 1 };
          table = record { reads = reads; served = set table.served 0 v };
          served_count = 1;
        }) (receive_ready tracker table id quorum slot fast)
    unfolding receive_ready
    receive_serves t room reads e v w =
        let l : List OpenRead = open_reads tracker table in
        let kept : kept_by_ready id quorum l ≡ without at (take n table.reads) = answered.0 ∙ simp (t, count) in
        let one : served_by_ready id quorum slot fast l ≡ v ∷ [] = answered.1 ∙ simp (t, w) in
        let places : set table.served 0 v ≡ at_front (v ∷ []) table.served = front_first table.served v (omega arith) in
        let fewer : length (without at (take n table.reads)) ≡ n - 1 = omega (arith, without_length table.reads at n h (omega arith)) in
        simp (kept, one, e, places, fewer)

-- the search among the first n places is one among the open reads
module _ (tracker : ReadTracker) (reads : List OpenRead) (id : ReadId) (n : ℕ) (count : n ≡ open_places tracker) (long : length reads ≡ 128) where
  open_length : length (take (open_places tracker) reads) ≡ n
  open_length = length-take (open_places tracker) reads ∙ omega arith

  pub found_at : (at : ℕ) → position (has_id id) (take n reads) ≡ Some at → (at ≡ place_of_id id (take (open_places tracker) reads)) × (at < n)
  found_at at e =
      let p : _ = position_found id (take (open_places tracker) reads) at (rw count at e) in
      (p.0, omega (arith, p.1, open_length))

  pub found_none : position (has_id id) (take n reads) ≡ None → n ≤ place_of_id id (take (open_places tracker) reads)
  found_none e = omega (arith, position_none id (take (open_places tracker) reads) (rw count at e), open_length)

-- The ids of the open reads rise, and stay below the next id. A response under another id changes nothing.
-- Assumes nothing.
use Rattle.std.specs.Prelude.{Result, Ok, Err, IfOk}
use Prim.Native.Nat.{ℕ, suc, ◌+◌, ◌≤◌, ◌<◌, min}
use mathlib.Core.Bool.{Bool, true, false, cond}
use mathlib.Core.Logic.{◌⊎◌, inl, inr}
use mathlib.Core.Path.{◌≡◌, refl, sym, ap, ◌∙◌}
use mathlib.Core.List.Memᴰ
use mathlib.Core.List.{List, [], ◌∷◌, ◌++◌, map, map-append, Memᴰ}
use native.Mathlib.Omega.{arith}
use lib.Dec.{ltb, leb}
use lib.ListN.{length, length-set, length-take}
use lib.Seq.{take_at, take-suc-set}
use borrow.Author.Tests.{leb-false, eqb-true}
use Rattle.basics.proofs.Tests.{either}
use Rattle.message.specs.declared.ReadId.{ReadId}
use Rattle.message.specs.declared.Refusal.{Refusal}
use Rattle.message.specs.declared.Refusal.TheVariants.{NoRoomForRead}
use Rattle.read_tracker.specs.declared.OpenRead.{OpenRead}
use Rattle.read_tracker.specs.declared.ServedRead.{ServedRead}
use Rattle.read_tracker.specs.declared.ReadTracker.{ReadTracker}
use Rattle.read_tracker.specs.declared.ReadTable.{ReadTable}
use Rattle.read_tracker.specs.declared.serving.Tracked.{Tracked}
use Rattle.read_tracker.specs.declared.Inserted.{Inserted}
use Rattle.read_tracker.specs.Reads.{read_id, new_tracker, new_table, new_read, opening, open_next, inserted, insert_opened, insert_read, open_places, open_reads, after_response, after_commit}
use Rattle.basics.specs.elements.Places.{at_front}
use Rattle.read_tracker.specs.serving.Serving.{served_reads, has_id, place_of_id, tracked, receive_ready, serve_at_commit}
use Rattle.basics.proofs.elements.Lists.{front_length}
use Rattle.read_tracker.proofs.serving.Responses.{receive_unknown}
use Rattle.read_tracker.proofs.serving.NothingLost.{Parted, nothing, keeps, serves, parted_length, KeptByReady, commit_loses_nothing, ready_loses_nothing, after_commit_same, after_response_same}

-- each number is above the one before it, the first is at least low, and all are below high
abbrev pub RisingIds : ℕ → List ℕ → ℕ → Type 0
RisingIds low [] high = low ≤ high
RisingIds low (n ∷ ns) high = (low ≤ n) × RisingIds (n + 1) ns high

rising_from : (low m : ℕ) (l : List ℕ) (high : ℕ) → low ≤ m → RisingIds m l high → RisingIds low l high
rising_from low m [] high h r = omega arith
rising_from low m (n ∷ ns) high h r = (omega arith, r.1)

rising_push : (low : ℕ) (l : List ℕ) (high : ℕ) → RisingIds low l high → RisingIds low (l ++ (high ∷ [])) (high + 1)
rising_push low [] high r = (r, omega arith)
rising_push low (n ∷ ns) high r = (r.0, rising_push (n + 1) ns high r.1)

rising_ends : (low : ℕ) (l : List ℕ) (high : ℕ) → RisingIds low l high → low ≤ high
rising_ends low [] high r = r
rising_ends low (n ∷ ns) high r = omega (arith, rising_ends (n + 1) ns high r.1)

rising_below : (low : ℕ) (l : List ℕ) (high : ℕ) → RisingIds low l high → (m : ℕ) → Memᴰ m l → m < high
rising_below low [] high r m k = absurd (Memᴰ.not-nil k)
rising_below low (n ∷ ns) high r m k = go (Memᴰ.cases_cons k) (λ (i : Memᴰ m ns). rising_below (n + 1) ns high r.1 m i)
  where
    go : (m ≡ n) ⊎ Memᴰ m ns → (Memᴰ m ns → m < high) → m < high
    go (inl e) rest = omega (arith, rising_ends (n + 1) ns high r.1)
    go (inr i) rest = rest i

abbrev pub ids : List OpenRead → List ℕ
ids l = map (λ (r : OpenRead). r.id.0) l

abbrev pub served_ids : List ServedRead → List ℕ
served_ids l = map (λ (v : ServedRead). v.id.0) l

-- what is kept and what is served of reads in order is in order
abbrev KeepsIds : (OpenRead → OpenRead → Type 0) → (OpenRead → ServedRead → Type 0) → Type 0
KeepsIds Kept Served =
    ((r s : OpenRead) → Kept r s → s.id.0 ≡ r.id.0)
    × ((r : OpenRead) (v : ServedRead) → Served r v → v.id.0 ≡ r.id.0)

module _ {Kept : OpenRead → OpenRead → Type 0} {Served : OpenRead → ServedRead → Type 0} (same_id : KeepsIds Kept Served) where
  parted_rising : {l kept : List OpenRead} {served : List ServedRead} (low high : ℕ) → Parted Kept Served l kept served
      → RisingIds low (ids l) high → RisingIds low (ids kept) high × RisingIds low (served_ids served) high
  parted_rising low high nothing r = (r, r)
  parted_rising low high (keeps {r = a} {s = s} {served = served} h p) r =
      let rest : _ = parted_rising (a.id.0 + 1) high p r.1 in
      let same : s.id.0 ≡ a.id.0 = same_id.0 a s h in
      ((omega arith, rw same rest.0), rising_from low (a.id.0 + 1) (served_ids served) high (omega arith) rest.1)
  parted_rising low high (serves {r = a} {v = v} {kept = kept} h p) r =
      let rest : _ = parted_rising (a.id.0 + 1) high p r.1 in
      let same : v.id.0 ≡ a.id.0 = same_id.1 a v h in
      (rising_from low (a.id.0 + 1) (ids kept) high (omega arith) rest.0, (omega arith, rw same rest.1))

-- a table of 128 places, with at most so many reads open, their ids rising and below the next id
pub record InOrder (tracker : ReadTracker) (table : ReadTable) : Type 0 where
  pub places : length table.reads ≡ 128
  pub within : tracker.open_count ≤ 128
  pub rising : RisingIds 0 (ids (open_reads tracker table)) tracker.next_id

pub new_in_order : InOrder new_tracker new_table
new_in_order = record { places = refl; within = omega arith; rising = omega arith }

-- after a response or a commit the open reads are those kept
module _ (tracker : ReadTracker) (table : ReadTable) (kept : List OpenRead) (served : List ServedRead) where
  abbrev after : Tracked
  after = tracked tracker table kept served

  tracked_open : length kept ≤ 128 → open_reads after.tracker after.table ≡ kept
  unfolding at_front
  tracked_open h = take_at kept _ (open_places after.tracker) (omega arith)

  tracked_served : served_reads after ≡ served
  unfolding at_front
  tracked_served = take_at served _ (length served) refl

  tracked_in_order : {Kept : OpenRead → OpenRead → Type 0} {Served : OpenRead → ServedRead → Type 0} → KeepsIds Kept Served
      → Parted Kept Served (open_reads tracker table) kept served → InOrder tracker table
      → InOrder after.tracker after.table × RisingIds 0 (served_ids (served_reads after)) tracker.next_id
  tracked_in_order same_id p o =
      let fewer : _ = parted_length p in
      let long : length (open_reads tracker table) ≡ min (open_places tracker) (length table.reads) = length-take (open_places tracker) table.reads in
      let r : _ = parted_rising same_id 0 tracker.next_id p o.rising in (
        record {
          places = front_length kept table.reads (omega arith) ∙ o.places;
          within = omega arith;
          rising = rw (tracked_open (omega arith)) r.0;
        },
        rw tracked_served r.1,
      )

-- a commit keeps the order, and serves in it
pub commit_slot_in_order : (tracker : ReadTracker) (table : ReadTable) (quorum slot : ℕ) → InOrder tracker table
    → (let after : Tracked = serve_at_commit tracker table quorum slot in InOrder after.tracker after.table × RisingIds 0 (served_ids (served_reads after)) tracker.next_id)
unfolding serve_at_commit
commit_slot_in_order tracker table quorum slot o =
    tracked_in_order tracker table _ _
    (λ r s h. ap (λ (a : OpenRead). a.id.0) h.0 ∙ same r, λ r v h. ap (λ (a : ServedRead). a.id.0) h.0 ∙ same r)
    (commit_loses_nothing quorum slot (open_reads tracker table)) o
  where
    same : (r : OpenRead) → (after_commit r).id.0 ≡ r.id.0
    same r = ap (λ (i : ReadId). i.0) (after_commit_same r).0

pub receive_ready_in_order : (tracker : ReadTracker) (table : ReadTable) (id : ReadId) (quorum slot : ℕ) (fast : Bool) → InOrder tracker table
    → (let after : Tracked = receive_ready tracker table id quorum slot fast in InOrder after.tracker after.table × RisingIds 0 (served_ids (served_reads after)) tracker.next_id)
unfolding receive_ready
receive_ready_in_order tracker table id quorum slot fast o =
    tracked_in_order tracker table _ _
    (kept_same, λ r v h. ap (λ (a : ServedRead). a.id.0) h.1 ∙ same r)
    (ready_loses_nothing id quorum slot fast (open_reads tracker table)) o
  where
    same : (r : OpenRead) → (after_response r).id.0 ≡ r.id.0
    same r = ap (λ (i : ReadId). i.0) (after_response_same r).0

    kept_same : (r s : OpenRead) → KeptByReady id quorum r s → s.id.0 ≡ r.id.0
    kept_same r s (inl e) = ap (λ (a : OpenRead). a.id.0) e
    kept_same r s (inr h) = ap (λ (a : OpenRead). a.id.0) h.1 ∙ same r

-- insert is refused, or there is room
module _ (tracker : ReadTracker) (table : ReadTable) (tag arrival : ℕ) (local : Bool) where
  abbrev taken : Inserted
  taken = inserted tracker table (opening tracker tag arrival local)

  abbrev Outcome : Result Inserted Refusal → Type 0
  Outcome r = (r ≡ Err NoRoomForRead) ⊎ ((tracker.open_count < 128) × (r ≡ Ok taken))

  insert_cases : Outcome (insert_read tracker table tag arrival local)
  unfolding insert_read open_next
  insert_cases = go (leb 128 tracker.open_count) refl (ltb 9223372036854775807 tracker.next_id)
    where
      go : (full : Bool) → leb 128 tracker.open_count ≡ full → (spent : Bool)
          → Outcome (insert_opened tracker table (cond full (Err NoRoomForRead) (cond spent (Err NoRoomForRead) (Ok (opening tracker tag arrival local)))))
      go true e true = inl refl
      go true e false = inl refl
      go false e true = inl refl
      go false e false = inr (leb-false 128 tracker.open_count e, refl)

  abbrev new : OpenRead
  new = new_read (read_id tracker.next_id) tag arrival local

  -- the new read stands last
  inserted_open : tracker.open_count < 128 → length table.reads ≡ 128 → open_reads taken.tracker taken.table ≡ open_reads tracker table ++ (new ∷ [])
  inserted_open room long =
      let n : min (tracker.open_count + 1) 128 ≡ suc tracker.open_count = omega arith in
      let m : min tracker.open_count 128 ≡ tracker.open_count = omega arith in
      simp (n, m) (take-suc-set table.reads tracker.open_count new (omega arith))

  -- a refused insert leaves no other tracker and no other table
  pub insert_in_order : InOrder tracker table → IfOk (insert_read tracker table tag arrival local) (λ after. InOrder after.tracker after.table)
  insert_in_order o = go insert_cases
    where
      go : Outcome (insert_read tracker table tag arrival local) → IfOk (insert_read tracker table tag arrival local) (λ after. InOrder after.tracker after.table)
      go (inl e) = rw e tt
      go (inr h) =
          rw h.1
          (record {
            places = length-set table.reads tracker.open_count new ∙ o.places;
            within = omega (arith, h.0);
            rising = simp (inserted_open h.0 o.places, map-append (λ (r : OpenRead). r.id.0)) (rising_push 0 (ids (open_reads tracker table)) tracker.next_id o.rising);
          })

  -- the id that is given is the next one, above those of all open reads
  pub insert_next_id : InOrder tracker table → (after : Inserted) → insert_read tracker table tag arrival local ≡ Ok after
      → (after.id ≡ read_id tracker.next_id) × ((m : ℕ) → Memᴰ m (ids (open_reads tracker table)) → m < after.id.0)
  insert_next_id o after e = go insert_cases
    where
      go : Outcome (insert_read tracker table tag arrival local) → (after.id ≡ read_id tracker.next_id) × ((m : ℕ) → Memᴰ m (ids (open_reads tracker table)) → m < after.id.0)
      go (inl h) = let z : ◌≡◌ {A = ℕ} 0 1 = cc in absurd (omega arith)
      go (inr h) =
          let all : after ≡ taken = cc in
          let same : after.id ≡ read_id tracker.next_id = ap (λ (a : Inserted). a.id) all in
          (same, λ m i. rw same (rising_below 0 (ids (open_reads tracker table)) tracker.next_id o.rising m i))

-- a response under an id that no open read has
place_unknown : (id : ReadId) (l : List OpenRead) → (Memᴰ id.0 (ids l) → ⊥) → length l ≤ place_of_id id l
unfolding place_of_id
place_unknown id [] h = omega arith
place_unknown id (r ∷ rs) h = go (either (has_id id r)) (place_unknown id rs (λ (m : Memᴰ id.0 (ids rs)). h (Memᴰ.tail m)))
  where
    go : (has_id id r ≡ true) ⊎ (has_id id r ≡ false) → length rs ≤ place_of_id id rs → length (r ∷ rs) ≤ place_of_id id (r ∷ rs)
    go (inl e) rest = absurd (h (Memᴰ.head (sym (eqb-true r.id.0 id.0 e))))
    go (inr e) rest = simp e (omega arith)

pub unknown_id_changes_nothing : (tracker : ReadTracker) (table : ReadTable) (id : ReadId) (quorum slot : ℕ) (fast : Bool) → InOrder tracker table
    → (Memᴰ id.0 (ids (open_reads tracker table)) → ⊥) → receive_ready tracker table id quorum slot fast ≡ record { tracker = tracker; table = table; served_count = 0 }
unknown_id_changes_nothing tracker table id quorum slot fast o none =
    let count : tracker.open_count ≡ open_places tracker = omega (arith, o.within) in
    let far : length (open_reads tracker table) ≤ place_of_id id (open_reads tracker table) = place_unknown id (open_reads tracker table) none in
    sym (receive_unknown tracker table id quorum slot fast _ _ count refl o.places (omega (arith, o.places, length-take (open_places tracker) table.reads)))

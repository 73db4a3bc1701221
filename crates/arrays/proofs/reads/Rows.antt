-- The rows of an array of open reads, and of one of served reads.
-- Assumes nothing.
use Prim.Native.Nat.{ℕ, suc, ◌+◌, ◌-◌, ◌*◌, ◌≤◌, ◌<◌}
use mathlib.Core.Bool.{Bool, true, false}
use mathlib.Core.Path.{◌≡◌, refl, sym, ap, ap₂, ◌∙◌}
use mathlib.Core.List.{List, [], ◌∷◌, ◌++◌}
use native.Mathlib.Nat.{add-zero}
use native.Mathlib.Omega.{arith}
use lib.ListN.{length, get_or, set, take, drop, replicate, length-take, length-drop}
use lib.Seq.{set_out, paste}
use Rattle.basics.specs.elements.Places.{at_front, without}
use Rattle.basics.proofs.elements.Lists.{moved_down}
use mir.Val.{bool_byte}
use Rattle.read_tracker.specs.Reads.{read_id, no_read, new_table}
use Rattle.read_tracker.specs.declared.OpenRead.{OpenRead}
use Rattle.read_tracker.specs.declared.ServedRead.{ServedRead}
use Rattle.arrays.specs.reads.Rows.{open_rows, served_rows, table_of}
use Rattle.flat.specs.Decode.{is_yes}
use Rattle.arrays.proofs.reads.Strides.{of_row, rows_length, rows_at, rows_set, rows_three, rows_take, rows_drop}

-- a flag as it is stored
yes_flag : (b : Bool) → is_yes (bool_byte b) ≡ b
yes_flag true = refl
yes_flag false = refl

-- ---- open reads

-- the read of five numbers
abbrev open_row : List ℕ → OpenRead
open_row l = record { id = read_id (get_or l 0 0); tag = get_or l 1 0; arrival_slot = get_or l 2 0; ready_count = get_or l 3 0; local_ready = is_yes (get_or l 4 0) }

open_none : open_rows [] ≡ []
unfolding open_rows
open_none = refl

open_next : (l : List ℕ) → 5 ≤ length l → open_rows l ≡ open_row (take 5 l) ∷ open_rows (drop 5 l)
unfolding open_rows
open_next (a ∷ b ∷ c ∷ d ∷ e ∷ l) h = refl
open_next (a ∷ b ∷ c ∷ d ∷ []) h = absurd (omega arith)
open_next (a ∷ b ∷ c ∷ []) h = absurd (omega arith)
open_next (a ∷ b ∷ []) h = absurd (omega arith)
open_next (a ∷ []) h = absurd (omega arith)
open_next [] h = absurd (omega arith)

pub open_length : (l : List ℕ) → length l ≡ 640 → length (open_rows l) ≡ 128
open_length l e = rows_length 5 open_row open_rows open_none open_next 128 l e

pub open_at : (l : List ℕ) (i : ℕ) → length l ≡ 640 → i < 128
    → ◌≡◌ {A = OpenRead}
    (record {
      id = read_id (get_or l (5 * i) 0);
      tag = get_or l (5 * i + 1) 0;
      arrival_slot = get_or l (5 * i + 2) 0;
      ready_count = get_or l (5 * i + 3) 0;
      local_ready = is_yes (get_or l (5 * i + 4) 0);
    })
    (get_or (open_rows l) i no_read)
open_at l i e h =
    simp (
      rows_at 5 open_row open_rows open_none open_next i l no_read (omega arith),
      of_row l 5 (5 * i) 0 0 (omega arith),
      of_row l 5 (5 * i) 1 0 (omega arith),
      of_row l 5 (5 * i) 2 0 (omega arith),
      of_row l 5 (5 * i) 3 0 (omega arith),
      of_row l 5 (5 * i) 4 0 (omega arith),
      add-zero,
    )

pub open_set : (l : List ℕ) (i : ℕ) (r : OpenRead) → length l ≡ 640 → i < 128
    → open_rows
    (set
    (set (set (set (set l (5 * i) r.id.0) (5 * i + 1) r.tag) (5 * i + 2) r.arrival_slot) (5 * i + 3) r.ready_count)
    (5 * i + 4)
    (bool_byte r.local_ready))
    ≡ set (open_rows l) i r
open_set l i r e h =
    let stored : List ℕ = r.id.0 ∷ r.tag ∷ r.arrival_slot ∷ r.ready_count ∷ bool_byte r.local_ready ∷ [] in
    let one : 5 * i + 1 ≡ suc (5 * i) = omega arith in
    let two : 5 * i + 2 ≡ suc (suc (5 * i)) = omega arith in
    let three : 5 * i + 3 ≡ suc (suc (suc (5 * i))) = omega arith in
    let four : 5 * i + 4 ≡ suc (suc (suc (suc (5 * i)))) = omega arith in
    simp (one, two, three, four) (rows_set 5 open_row open_rows open_none open_next i l stored refl (omega arith) ∙ simp yes_flag)

-- a place that there is not
pub open_past : (l : List ℕ) (i : ℕ) (r : OpenRead) → length l ≡ 640 → 128 ≤ i → open_rows l ≡ set (open_rows l) i r
open_past l i r e h = sym (set_out (open_rows l) i r (omega (arith, open_length l e)))

-- the reads behind place `at` are moved one place down
pub open_moved_down : (l : List ℕ) (at n : ℕ) → length l ≡ 640 → at < n → n ≤ 128
    → open_rows (paste l (5 * at) (drop (5 * (at + 1)) l) (5 * n - 5 * (at + 1))) ≡ at_front (without at (take n (open_rows l))) (open_rows l)
open_moved_down l at n e h f =
    let m : ℕ = n - (at + 1) in
    let rows : List OpenRead = open_rows l in
    let reads : length rows ≡ 128 = open_length l e in
    let count : 5 * n - 5 * (at + 1) ≡ 5 * m = omega arith in
    let end : 5 * at + 5 * m ≡ 5 * (at + m) = omega arith in
    let a : List ℕ = take (5 * at) l in
    let b : List ℕ = take (5 * m) (drop (5 * (at + 1)) l) in
    let c : List ℕ = drop (5 * (at + m)) l in
    let long : length a ≡ 5 * at = length-take (5 * at) l ∙ omega arith in
    let behind : 5 * m ≤ length (drop (5 * (at + 1)) l) = rw length-drop (omega arith) in
    let moved : length b ≡ 5 * m = length-take (5 * m) (drop (5 * (at + 1)) l) ∙ omega arith in
    let first : open_rows a ≡ take at rows = rows_take 5 open_row open_rows open_none open_next at l (omega arith) in
    let next : open_rows b ≡ take m (drop (at + 1) rows) =
    rows_take 5 open_row open_rows open_none open_next m (drop (5 * (at + 1)) l) behind
    ∙ ap (take m) (rows_drop 5 open_row open_rows open_none open_next (at + 1) l (omega arith)) in
    let last : open_rows c ≡ drop (at + m) rows = rows_drop 5 open_row open_rows open_none open_next (at + m) l (omega arith) in
    let down : take at rows ++ take m (drop (at + 1) rows) ++ drop (at + m) rows ≡ at_front (without at (take n rows)) rows = moved_down rows at n h (omega arith) in
    ap (λ (i : ℕ). open_rows (take (5 * at) l ++ take i (drop (5 * (at + 1)) l) ++ drop (5 * at + i) l)) count
    ∙ ap (λ (i : ℕ). open_rows (a ++ b ++ drop i l)) end
    ∙ rows_three 5 open_row open_rows open_none open_next at m a b c long moved
    ∙ ap₂ (λ (x y : List OpenRead). x ++ y) (ap₂ (λ (x y : List OpenRead). x ++ y) first next) last
    ∙ down

-- ---- served reads

-- the read of four numbers
abbrev served_row : List ℕ → ServedRead
served_row l = record { id = read_id (get_or l 0 0); tag = get_or l 1 0; waited_for = get_or l 2 0; fast = is_yes (get_or l 3 0) }

served_none : served_rows [] ≡ []
unfolding served_rows
served_none = refl

served_next : (l : List ℕ) → 4 ≤ length l → served_rows l ≡ served_row (take 4 l) ∷ served_rows (drop 4 l)
unfolding served_rows
served_next (a ∷ b ∷ c ∷ d ∷ l) h = refl
served_next (a ∷ b ∷ c ∷ []) h = absurd (omega arith)
served_next (a ∷ b ∷ []) h = absurd (omega arith)
served_next (a ∷ []) h = absurd (omega arith)
served_next [] h = absurd (omega arith)

pub served_length : (l : List ℕ) → length l ≡ 512 → length (served_rows l) ≡ 128
served_length l e = rows_length 4 served_row served_rows served_none served_next 128 l e

pub served_set : (l : List ℕ) (i : ℕ) (r : ServedRead) → length l ≡ 512 → i < 128
    → served_rows (set (set (set (set l (4 * i) r.id.0) (4 * i + 1) r.tag) (4 * i + 2) r.waited_for) (4 * i + 3) (bool_byte r.fast)) ≡ set (served_rows l) i r
served_set l i r e h =
    let stored : List ℕ = r.id.0 ∷ r.tag ∷ r.waited_for ∷ bool_byte r.fast ∷ [] in
    let one : 4 * i + 1 ≡ suc (4 * i) = omega arith in
    let two : 4 * i + 2 ≡ suc (suc (4 * i)) = omega arith in
    let three : 4 * i + 3 ≡ suc (suc (suc (4 * i))) = omega arith in
    simp (one, two, three) (rows_set 4 served_row served_rows served_none served_next i l stored refl (omega arith) ∙ simp yes_flag)

-- ---- a new shard

-- zeros are the places of the table as it begins
pub zeros_new : table_of (replicate 640 0) (replicate 512 0) ≡ new_table
unfolding open_rows served_rows
zeros_new = refl

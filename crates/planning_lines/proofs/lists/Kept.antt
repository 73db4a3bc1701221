-- What is kept of a list: its count and its largest numbers of all entries, and as many entries as there are places for.
-- Assumes nothing.
use Rattle.std.proofs.Common.{◌≡◌, ◌∙◌, refl, sym, ap, ap₂, ℕ, ◌+◌, ◌≤◌, ℤ, pos, Bool, true, false, ◌||◌, List, [], ◌∷◌, ◌++◌, map, length, take, replicate, append-nil, append_assoc, zero-add, arith}
use lib.ListN.{length-append, length-map, length-replicate}
use lib.Seq.{take_at}
use borrow.Author.Tests.{lt-ltb}
use Rattle.basics.specs.elements.Places.{at_front}
use Rattle.basics.proofs.elements.Lists.{front_push, front_length, front_none}
use Rattle.catch_up.specs.Joining.{list_of, some_above, list_too_large}
use Rattle.planning_lines.specs.declared.lists.LineItem.{LineItem}
use Rattle.planning_lines.specs.declared.lists.LineList.{LineList}
use Rattle.planning_lines.specs.lists.Lists.{item_slots, item_values, commits_of, numbers_of_entry, entries_of}
use Rattle.call_lines.specs.Reading.{put_in_place}
use Rattle.planning_lines.specs.lists.Kept.{nothing_kept, kept_more, kept_all, kept_items, kept_commits, kept_entries}

-- ---- of all entries

count_of_kept : (l : LineList) (items : List LineItem) → (kept_all l items).count ≡ l.count + length items
unfolding kept_all kept_more
count_of_kept l [] = omega arith
count_of_kept l (i ∷ items) = count_of_kept (kept_more i l) items ∙ omega arith

or_gathered : (x s v t w : Bool) → ((x || (s || v)) || (t || w)) ≡ (x || ((s || t) || (v || w)))
or_gathered true s v t w = refl
or_gathered false true v t w = refl
or_gathered false false true true w = refl
or_gathered false false true false w = refl
or_gathered false false false t w = refl

large_of_kept : (l : LineList) (items : List LineItem) → (kept_all l items).too_large ≡ (l.too_large || list_too_large (commits_of items))
unfolding kept_all kept_more list_too_large some_above
large_of_kept l [] = sym (none l.too_large)
  where
    none : (t : Bool) → (t || false) ≡ t
    none true = refl
    none false = refl
large_of_kept l (i ∷ items) =
    large_of_kept (kept_more i l) items
    ∙ or_gathered l.too_large _ _ (some_above 9223372036854775806 (item_slots items)) (some_above 9223372036854775807 (item_values items))

pub kept_count : (end : ℕ) (items : List LineItem) → (kept_items end items).count ≡ length items
kept_count end items = count_of_kept (nothing_kept end) items ∙ zero-add (length items)

pub kept_large : (end : ℕ) (items : List LineItem) → (kept_items end items).too_large ≡ list_too_large (commits_of items)
kept_large end items = large_of_kept (nothing_kept end) items

-- ---- of the first ones, in each column

module _ {A : Type 0} where
  -- numbers in the places from one on, as far as these reach
  unfoldable kept_from : List A → ℕ → List A → List A
  kept_from places i [] = places
  kept_from places i (n ∷ ns) = kept_from (put_in_place places i n) (i + 1) ns

  front_kept : (ns l places : List A) → length l + length ns ≤ length places → kept_from (at_front l places) (length l) ns ≡ at_front (l ++ ns) places
  unfolding kept_from put_in_place
  front_kept [] l places h = ap (λ (m : List A). at_front m places) (sym (append-nil l))
  front_kept (n ∷ ns) l places h =
      let long : length (at_front l places) ≡ length places = front_length l places (omega arith) in
      let one : length (l ++ (n ∷ [])) ≡ length l + 1 = length-append l (n ∷ []) ∙ omega arith in
      simp (long, lt-ltb (length l) (length places) (omega arith), front_push l places (length l) n refl (omega arith))
      (ap (λ (k : ℕ). kept_from (at_front (l ++ (n ∷ [])) places) k ns) (sym one)
      ∙ front_kept ns (l ++ (n ∷ [])) places (omega arith)
      ∙ ap (λ (m : List A). at_front m places) (append_assoc l (n ∷ []) ns))

  take_kept : (ns places : List A) → length ns ≤ length places → take (length ns) (kept_from places 0 ns) ≡ ns
  unfolding at_front
  take_kept ns places h =
      let front : kept_from places 0 ns ≡ at_front ns places =
      ap (λ (p : List A). kept_from p 0 ns) (sym (front_none places)) ∙ front_kept ns [] places (omega arith) in
      ap (take (length ns)) front ∙ take_at ns _ (length ns) refl

  module _ (column : LineList → List A) (field : LineItem → A)
      (one : (i : LineItem) (l : LineList) → column (kept_more i l) ≡ put_in_place (column l) l.count (field i)) where
    column_stored : (l : LineList) (items : List LineItem) → column (kept_all l items) ≡ kept_from (column l) l.count (map field items)
    unfolding kept_all kept_from kept_more
    column_stored l [] = refl
    column_stored l (i ∷ items) = column_stored (kept_more i l) items ∙ ap (λ (p : List A). kept_from p (l.count + 1) (map field items)) (one i l)

    column_kept : (end : ℕ) (items : List LineItem) → length (column (nothing_kept end)) ≡ 8192 → length items ≤ 8192
        → take (kept_items end items).count (column (kept_items end items)) ≡ map field items
    column_kept end items room few =
        let long : length (map field items) ≡ length items = length-map items field in
        ap₂ (λ (n : ℕ) (p : List A). take n p) (kept_count end items ∙ sym long) (column_stored (nothing_kept end) items)
        ∙ take_kept (map field items) (column (nothing_kept end)) (omega arith)

module _ (end : ℕ) (items : List LineItem) (few : length items ≤ 8192) where
  room : length {A = ℕ} (replicate 8192 0) ≡ 8192
  room = length-replicate {A = ℕ} 8192 0

  kept_slots : take (kept_items end items).count (kept_items end items).slots ≡ item_slots items
  unfolding kept_more
  kept_slots = column_kept (λ l. l.slots) (λ i. i.slot) (λ i l. refl) end items room few

  kept_values : take (kept_items end items).count (kept_items end items).values ≡ item_values items
  unfolding kept_more
  kept_values = column_kept (λ l. l.values) (λ i. i.value) (λ i l. refl) end items room few

  kept_kinds : take (kept_items end items).count (kept_items end items).kinds ≡ (entries_of items).cells.kinds
  unfolding kept_more
  kept_kinds = column_kept (λ l. l.kinds) (λ i. (numbers_of_entry i.said).kind) (λ i l. refl) end items room few

  kept_cells : take (kept_items end items).count (kept_items end items).cells ≡ (entries_of items).cells.cells
  unfolding kept_more
  kept_cells = column_kept (λ l. l.cells) (λ i. i.cell) (λ i l. refl) end items room few

  kept_carriers : take (kept_items end items).count (kept_items end items).carriers ≡ (entries_of items).cells.carriers
  unfolding kept_more
  kept_carriers = column_kept (λ l. l.carriers) (λ i. (numbers_of_entry i.said).carrier) (λ i l. refl) end items room few

  kept_widths : take (kept_items end items).count (kept_items end items).widths ≡ (entries_of items).cells.widths
  unfolding kept_more
  kept_widths = column_kept (λ l. l.widths) (λ i. (numbers_of_entry i.said).width) (λ i l. refl) end items room few

  room_signed : length {A = ℤ} (replicate 8192 (pos 0)) ≡ 8192
  room_signed = length-replicate {A = ℤ} 8192 (pos 0)

  kept_xs : take (kept_items end items).count (kept_items end items).xs ≡ (entries_of items).xs
  unfolding kept_more
  kept_xs = column_kept (λ l. l.xs) (λ i. (numbers_of_entry i.said).x) (λ i l. refl) end items room_signed few

  kept_ys : take (kept_items end items).count (kept_items end items).ys ≡ (entries_of items).ys
  unfolding kept_more
  kept_ys = column_kept (λ l. l.ys) (λ i. (numbers_of_entry i.said).y) (λ i l. refl) end items room_signed few

  pub commits_kept : kept_commits (kept_items end items) ≡ commits_of items
  commits_kept = ap₂ list_of kept_slots kept_values

  pub entries_kept : kept_entries (kept_items end items) ≡ entries_of items
  entries_kept = rw (kept_slots, kept_values, kept_kinds, kept_cells, kept_carriers, kept_widths, kept_xs, kept_ys) refl

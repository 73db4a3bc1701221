-- The line `feed`: what is left and answered is `feeding` of the list that the line gives, whole; and the entries in numbers are those of the line.
-- Assumes nothing.
use Rattle.std.proofs.Common.{◌≡◌, ◌∙◌, refl, ap, ap₂, ⊎_elim, ℕ, zero, suc, ◌+◌, true, false, List, [], ◌∷◌, map, length, ltb, Option, Some, None, Result, option_map, add-one}
use lib.ListN.{length-map}
use borrow.Author.Tests.{ltb-false}
use Rattle.basics.proofs.Tests.{either}
use Rattle.planning_lines.specs.Answers.{bad_line_text}
use Rattle.register.specs.declared.Change.TheVariants.{Assign, Release}
use Rattle.register_arrays.specs.Columns.{change_of}
use Rattle.group_register.specs.Settings.{is_made}
use Rattle.catch_up.specs.Joining.{list_too_large}
use Rattle.feeding.specs.declared.FeedRefusal.{FeedRefusal}
use Rattle.feeding.specs.declared.FirstRefused.{FirstRefused}
use Rattle.feeding.specs.Feeding.{outside_fed, feed_checked, fed_entries_from, Feeding, feeding_in, same_lengths, entries_in, feeding}
use Rattle.feeding.specs.Registers.{placed_entry_in, placed_register}
use Rattle.positions.specs.declared.PlacedEntry.{PlacedEntry}
use Rattle.positions.specs.declared.PlacedRegister.{PlacedRegister}
use Rattle.positions.specs.declared.PositionRefusal.{PositionRefusal}
use Rattle.register_arrays.specs.positioned.Row.{placed_entry_of}
use Rattle.register_lines.specs.entries.Entries.{entry_said}
use Rattle.register_lines.specs.declared.entries.CellSaid.{CellSaid}
use Rattle.register_lines.specs.declared.entries.CellSaid.TheVariants.{Changed, Placed}
use Rattle.planning_lines.specs.declared.lists.LineItem.{LineItem}
use Rattle.planning_lines.specs.declared.lists.LineList.{LineList}
use Rattle.planning_lines.specs.lists.Lists.{item_slots, commits_of, numbers_of_entry, entries_of}
use Rattle.planning_lines.specs.lists.Kept.{kept_items, kept_entries}
use Rattle.planning_lines.specs.lists.Feeds.{feed_asked, after_feed, fed_text, feed_line_text, kept_feeding_made, kept_feeding}
use Rattle.planning_lines.proofs.lists.Kept.{kept_count, kept_large, entries_kept}
use Rattle.planning_lines.proofs.lists.ListsRead.{kept_some, kept_none}

-- ---- the list

longer : (items : List LineItem) → ltb 8192 (length items) ≡ true → outside_fed (commits_of items) (same_lengths placed_register (entries_of items)) ≡ true
unfolding outside_fed
longer items h = simp (length-map, h)

kept_within : (g : PlacedRegister) (l : LineList) → is_made g.group.settings ≡ true → l.too_large ≡ false → ltb 8192 l.count ≡ false
    → kept_feeding g l ≡ feeding placed_register g (kept_entries l)
unfolding kept_feeding kept_feeding_made
kept_within g l made p q = simp (made, p, q)

module _ (g : PlacedRegister) (end : ℕ) (items : List LineItem) where
  abbrev Same : Type 0
  Same = kept_feeding g (kept_items end items) ≡ feeding placed_register g (entries_of items)

  pub list_fed : Same
  unfolding kept_feeding kept_feeding_made feeding feed_checked
  list_fed = ⊎_elim to_made (λ (t : is_made g.group.settings ≡ false). simp t) (either (is_made g.group.settings))
    where
      to_made : is_made g.group.settings ≡ true → Same
      to_made made = ⊎_elim (λ (t : list_too_large (commits_of items) ≡ true). simp (made, kept_large, t)) fit (either (list_too_large (commits_of items)))
        where
          fit : list_too_large (commits_of items) ≡ false → Same
          fit p =
              ⊎_elim (λ (t : ltb 8192 (length items) ≡ true). simp (made, kept_large, p, kept_count, t, longer items t)) few
              (either (ltb 8192 (length items)))
            where
              few : ltb 8192 (length items) ≡ false → Same
              few q =
                  let fits : (kept_items end items).too_large ≡ false = kept_large end items ∙ p in
                  let none_more : ltb 8192 (kept_items end items).count ≡ false = ap (ltb 8192) (kept_count end items) ∙ q in
                  kept_within g (kept_items end items) made fits none_more ∙ ap (feeding placed_register g) (entries_kept end items (ltb-false 8192 (length items) q))

-- ---- the line

module _ (g : PlacedRegister) (line : List ℕ) where
  module _ (l : LineList) (read : Some l ≡ option_map (kept_items 4) (feed_asked line)) (fed : Result (Option (FirstRefused PositionRefusal)) FeedRefusal)
      (after : PlacedRegister) (done : feeding_in fed after ≡ kept_feeding g l) where
    pub fed_register : after ≡ after_feed g (feed_asked line)
    unfolding after_feed
    fed_register =
        let whole = kept_some (kept_items 4) (feed_asked line) l read in
        rw whole.1 (ap (λ (f : Feeding PlacedRegister PositionRefusal). f.register) (done ∙ ap (kept_feeding g) whole.2 ∙ list_fed g 4 whole.0))

    pub fed_answer : fed_text fed ≡ feed_line_text g (feed_asked line)
    unfolding feed_line_text
    fed_answer =
        let whole = kept_some (kept_items 4) (feed_asked line) l read in
        rw whole.1 (ap (λ (f : Feeding PlacedRegister PositionRefusal). fed_text f.answer) (done ∙ ap (kept_feeding g) whole.2 ∙ list_fed g 4 whole.0))

  module _ (none : None ≡ option_map (kept_items 4) (feed_asked line)) where
    pub bad_register : g ≡ after_feed g (feed_asked line)
    unfolding after_feed
    bad_register = rw (kept_none (kept_items 4) (feed_asked line) none) refl

    pub bad_answer : bad_line_text ≡ feed_line_text g (feed_asked line)
    unfolding feed_line_text
    bad_answer = rw (kept_none (kept_items 4) (feed_asked line) none) refl

-- ---- the entries: each is what the line says of a cell in that slot

said_back : (slot cell : ℕ) (s : CellSaid)
    → placed_entry_of slot (numbers_of_entry s).kind cell (numbers_of_entry s).carrier (numbers_of_entry s).width (record { x = (numbers_of_entry s).x; y = (numbers_of_entry s).y })
    ≡ entry_said slot cell s
unfolding placed_entry_of change_of
said_back slot cell (Changed (Assign a)) = refl
said_back slot cell (Changed Release) = refl
said_back slot cell (Placed p) = refl

entries_past : (i : LineItem) (items : List LineItem) (at n : ℕ)
    → fed_entries_from (placed_entry_in (entries_of (i ∷ items))) (at + 1) n ≡ fed_entries_from (placed_entry_in (entries_of items)) at n
unfolding fed_entries_from
entries_past i items at zero = refl
entries_past i items at (suc n) =
    ap₂ (λ (e : PlacedEntry) (es : List PlacedEntry). e ∷ es) (ap (λ (k : ℕ). placed_entry_in (entries_of (i ∷ items)) k) (add-one at))
    (entries_past i items (at + 1) n)

pub entries_back : (items : List LineItem) → entries_in placed_register (entries_of items) ≡ map (λ (i : LineItem). entry_said i.slot i.cell i.said) items
unfolding fed_entries_from
entries_back [] = refl
entries_back (i ∷ items) =
    ap₂ (λ (e : PlacedEntry) (es : List PlacedEntry). e ∷ es) (said_back i.slot i.cell i.said)
    (entries_past i items 0 (length (item_slots items)) ∙ entries_back items)

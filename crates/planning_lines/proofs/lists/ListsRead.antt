-- The turns of the loop that reads a list, and what its callers need of a list that is read.
-- Assumes nothing.
use Rattle.std.proofs.Common.{◌≡◌, ◌∙◌, refl, sym, ap, ℕ, suc, ◌+◌, ◌-◌, ◌≤◌, ◌<◌, Bool, true, false, List, [], ◌∷◌, length, Option, Some, None, option_map, drop, length-drop, arith}
use borrow.Author.Tests.{eq-eqb, ne_eqb}
use Rattle.texts.specs.Text.{ascii}
use Rattle.texts.specs.fields.Fields.{begins, next_field}
use Rattle.planning_lines.proofs.stored.Answered.{begins_long}
use Rattle.planning_lines.specs.declared.lists.LineItem.{LineItem}
use Rattle.planning_lines.specs.declared.lists.LineList.{LineList}
use Rattle.planning_lines.specs.lists.Lists.{item_at, list_ends, with_item, items_from, list_behind, ends_at, to_the_end, last_list}
use Rattle.planning_lines.specs.lists.Kept.{kept_more, kept_all, kept_items}

-- ---- one turn: what is kept of the entries so far, and of the rest

one_more_kept : (l : LineList) (i : LineItem) (rest : Option (List LineItem))
    → option_map (kept_all l) (option_map (λ items. i ∷ items) rest) ≡ option_map (kept_all (kept_more i l)) rest
unfolding kept_all
one_more_kept l i None = refl
one_more_kept l i (Some items) = refl

module _ (fed : Bool) (line : List ℕ) (at i n : ℕ) (l : LineList) where
  abbrev onward : Option LineList
  onward = option_map (kept_all l) (items_from fed line at (n - i))

  pub no_turn : n ≤ i → option_map (kept_all l) (items_from fed line at (n - i)) ≡ None
  unfolding items_from
  no_turn h = let none : n - i ≡ 0 = omega arith in rw none refl

  module _ (inside : i < n) where
    one_more : n - i ≡ suc (n - (i + 1))
    one_more = omega arith

    pub turn_none : item_at fed line at ≡ None → option_map (kept_all l) (items_from fed line at (n - i)) ≡ None
    unfolding items_from with_item
    turn_none e = rw one_more (simp e)

    pub turn_last : (item : LineItem) → item_at fed line at ≡ Some item → list_ends line item.end ≡ true
        → option_map (kept_all l) (items_from fed line at (n - i)) ≡ Some (kept_more item l)
    unfolding items_from with_item kept_all
    turn_last item e h = rw one_more (simp (e, h))

    pub turn_more : (item : LineItem) → item_at fed line at ≡ Some item → list_ends line item.end ≡ false
        → option_map (kept_all l) (items_from fed line at (n - i))
        ≡ option_map (kept_all (kept_more item l)) (items_from fed line (next_field line item.end) (n - (i + 1)))
    unfolding items_from with_item
    turn_more item e h = rw one_more (simp (e, h) (one_more_kept l item (items_from fed line (next_field line item.end) (n - (i + 1)))))

-- ---- what a blank, and a blank and the bar, say of a place

pub blank_inside : (line : List ℕ) (end : ℕ) → begins (ascii " ") (drop end line) ≡ true → end < length line
blank_inside line end h = let one = begins_long (ascii " ") (drop end line) h in omega (arith, one, length-drop end line)

pub bar_inside : (line : List ℕ) (end : ℕ) → begins (ascii " |") (drop end line) ≡ true → end + 2 ≤ length line
bar_inside line end h = let two = begins_long (ascii " |") (drop end line) h in omega (arith, two, length-drop end line)

-- ---- where it ends

end_of_kept : (l : LineList) (items : List LineItem) → (kept_all l items).end ≡ ends_at l.end items
unfolding kept_all kept_more
end_of_kept l [] = refl
end_of_kept l (i ∷ items) = end_of_kept (kept_more i l) items

pub kept_end : (end : ℕ) (items : List LineItem) → (kept_items end items).end ≡ ends_at end items
kept_end end items = end_of_kept _ items

-- ---- a list that is read, or none

-- what is read where something is kept
pub kept_some : {A B : Type 0} (f : A → B) (o : Option A) (b : B) → Some b ≡ option_map f o → (a : A) × (o ≡ Some a) × (b ≡ f a)
kept_some f None b e = cc
kept_some f (Some a) b e = (a, refl, some_same e)
  where
    some_same : Some b ≡ Some (f a) → b ≡ f a
    some_same q = cc

pub kept_none : {A B : Type 0} (f : A → B) (o : Option A) → None ≡ option_map f o → o ≡ None
kept_none f None e = refl
kept_none f (Some a) e = cc

module _ (fed : Bool) (line : List ℕ) (end : ℕ) where
  pub last_none : None ≡ option_map (kept_items end) (list_behind fed line end) → None ≡ option_map (kept_items end) (last_list fed line end)
  unfolding last_list
  last_none e = rw (kept_none (kept_items end) (list_behind fed line end) e) refl

  module _ (l : LineList) (read : Some l ≡ option_map (kept_items end) (list_behind fed line end)) where
    pub last_some : l.end ≡ length line → Some l ≡ option_map (kept_items end) (last_list fed line end)
    unfolding last_list to_the_end
    last_some h =
        let whole = kept_some (kept_items end) (list_behind fed line end) l read in
        let ends : ends_at end whole.0 ≡ length line = sym (kept_end end whole.0) ∙ sym (ap (λ (x : LineList). x.end) whole.2) ∙ h in
        rw whole.1 (simp (eq-eqb (ends_at end whole.0) (length line) ends) (ap Some whole.2))

    pub last_other : (l.end ≡ length line → ⊥) → None ≡ option_map (kept_items end) (last_list fed line end)
    unfolding last_list to_the_end
    last_other h =
        let whole = kept_some (kept_items end) (list_behind fed line end) l read in
        let ends : ends_at end whole.0 ≡ length line → ⊥ = λ e. h (ap (λ (x : LineList). x.end) whole.2 ∙ kept_end end whole.0 ∙ e) in
        rw whole.1 (simp (ne_eqb (ends_at end whole.0) (length line) ends))

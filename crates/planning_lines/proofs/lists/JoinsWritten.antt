-- Two lists that are written on a line `join`, in decimal, are read as those lists: the answer is their join.
-- Assumes nothing.
use Rattle.std.proofs.Common.{◌≡◌, ◌∙◌, refl, sym, ap, ap₂, subst, ◌⊎◌, inl, inr, ℕ, zero, suc, ◌+◌, ◌-◌, ◌≤◌, ◌<◌, min, Bool, true, false, cond, List, [], ◌∷◌, ◌++◌, length, drop, eqb, ltb, Option, Some, map, length-drop, length-append, append_assoc, append-nil, arith}
use lib.Seq.{drop-drop}
use borrow.Author.Tests.{le-ltb, eq-eqb, ne_eqb}
use Rattle.basics.proofs.Tests.{of-both}
use Rattle.texts.specs.Text.{ascii, decimal, field, each}
use Rattle.texts.specs.fields.Fields.{same_to, begins, field_end, next_field, number_field}
use Rattle.texts.proofs.fields.FieldsRead.{FieldEnds, first_digit, field_read, behind_field, number_before, end_before}
use Rattle.register.specs.declared.Change.TheVariants.{Release}
use Rattle.register_lines.specs.entries.Entries.{second_field}
use Rattle.register_lines.specs.declared.entries.CellSaid.TheVariants.{Changed}
use Rattle.catch_up.specs.Causes.{CommitList, ListedCommit, listed_commits, beside}
use Rattle.catch_up.specs.Joining.{joining}
use Rattle.planning_lines.specs.declared.lists.LineItem.{LineItem}
use Rattle.planning_lines.specs.lists.Lists.{commit_item_at, item_at, list_ends, with_item, items_from, list_behind, ends_at, to_the_end, last_list, item_slots, item_values, commits_of}
use Rattle.planning_lines.specs.lists.Joins.{behind_first_list, join_asked, listed_commit_text, listed_commits_text, joining_text, join_line_text, join_text}
use Rattle.planning_lines.specs.lists.Written.{join_written, CommitsFit, ListFits}

-- ---- what stands behind a list: nothing, or the bar

abbrev Ends : List ℕ → Type 0
Ends tail = (tail ≡ []) ⊎ ((rest : List ℕ) × (tail ≡ ascii " |" ++ rest))

field_ends : (tail : List ℕ) → Ends tail → FieldEnds tail
field_ends tail (inl e) = inl e
field_ends tail (inr r) = inr (124 ∷ r.0, r.1)

bar_begins : (rest : List ℕ) → begins (ascii " |") (ascii " |" ++ rest) ≡ true
unfolding begins same_to
bar_begins rest = ap (λ (t : Bool). cond t false true) (le-ltb (length (ascii " |" ++ rest)) 2 (omega arith))

no_bar : (b : ℕ) (rest : List ℕ) → (b ≡ 124 → ⊥) → begins (ascii " |") (32 ∷ b ∷ rest) ≡ false
unfolding begins same_to
no_bar b rest h = simp (ne_eqb 124 b (λ e. h (sym e))) (of-both (λ (t : Bool). t ≡ false) (ltb (length (32 ∷ b ∷ rest)) 2) refl refl)

blank_begins : (rest : List ℕ) → begins (ascii " ") (32 ∷ rest) ≡ true
unfolding begins same_to
blank_begins rest = ap (λ (t : Bool). cond t false true) (le-ltb (length (32 ∷ rest)) 1 (omega arith))

-- a list ends at such a place, where that is no further than the line's end
ends_there : (line : List ℕ) (end : ℕ) (tail : List ℕ) → end ≤ length line → drop end line ≡ tail → Ends tail → list_ends line end ≡ true
unfolding list_ends
ends_there line end tail within e (inl t) =
    let none : length line - end ≡ 0 = sym (length-drop end line) ∙ ap length (e ∙ t) in
    let here : end ≡ length line = omega arith in
    simp (eq-eqb end (length line) here)
ends_there line end tail within e (inr r) =
    of-both (λ (t : Bool). t ≡ true) (eqb end (length line)) refl (ap (begins (ascii " |")) (e ∙ r.1) ∙ bar_begins r.0)

-- it goes on where a number stands behind a blank
goes_on : (line : List ℕ) (end n : ℕ) (rest : List ℕ) → drop end line ≡ 32 ∷ (decimal n ++ rest) → list_ends line end ≡ false
unfolding list_ends
goes_on line end n rest e =
    let d = first_digit n in
    let long : length line - end ≡ suc (length (decimal n ++ rest)) = sym (length-drop end line) ∙ ap length e in
    let other : d.0 ≡ 124 → ⊥ = λ q. omega (arith, q, d.4) in
    let bar : begins (ascii " |") (drop end line) ≡ false =
    ap (begins (ascii " |")) (e ∙ ap (λ (l : List ℕ). 32 ∷ (l ++ rest)) d.2) ∙ no_bar d.0 (d.1 ++ rest) other in
    simp (ne_eqb end (length line) (λ q. omega (arith, q, long)), bar)

-- ---- a list

-- the items are commits
abbrev entries_on : List LineItem → List ListedCommit
entries_on [] = []
entries_on (i ∷ items) = record { slot = i.slot; value = i.value } ∷ entries_on items

record ListRead (line : List ℕ) (items : Option (List LineItem)) (end : ℕ) (cs : List ListedCommit) (tail : List ℕ) : Type 0 where
  all : List LineItem
  read : items ≡ Some all
  commits : entries_on all ≡ cs
  behind : drop (ends_at end all) line ≡ tail
  within : ends_at end all ≤ length line

field_within : (line : List ℕ) (at : ℕ) → (number_field line at).end ≤ length line
unfolding number_field field_end
field_within line at = omega arith

-- the next field begins behind the blank
next_begins : (line : List ℕ) (end : ℕ) (rest : List ℕ) → drop end line ≡ 32 ∷ rest → drop (next_field line end) line ≡ rest
unfolding next_field
next_begins line end rest e =
    let long : length line - end ≡ suc (length rest) = sym (length-drop end line) ∙ ap length e in
    let next : min (end + 1) (length line) ≡ end + 1 = omega arith in
    ap (λ (k : ℕ). drop k line) next ∙ sym (drop-drop 1 end line) ∙ ap (drop 1) e

-- the text of the entries behind one, and what stands behind the list
abbrev rest_text : List ListedCommit → List ℕ → List ℕ
rest_text cs tail = each listed_commit_text cs ++ tail

rest_ends : (cs : List ListedCommit) (tail : List ℕ) → Ends tail → FieldEnds (rest_text cs tail)
unfolding each listed_commit_text field
rest_ends [] tail t = field_ends tail t
rest_ends (c ∷ cs) tail t = inr (_, refl)

more_text : (c : ListedCommit) (cs : List ListedCommit) (tail : List ℕ) → rest_text (c ∷ cs) tail ≡ 32 ∷ (decimal c.slot ++ (32 ∷ (decimal c.value ++ rest_text cs tail)))
unfolding each listed_commit_text field
more_text c cs tail = append_assoc (listed_commit_text c) (each listed_commit_text cs) tail ∙ ap (λ (l : List ℕ). 32 ∷ l) (append_assoc (decimal c.slot) _ _)

module _ (line : List ℕ) (at n : ℕ) (item : LineItem) where
  last_item : item_at false line at ≡ Some item → list_ends line item.end ≡ true → items_from false line at (suc n) ≡ Some (item ∷ [])
  unfolding items_from with_item
  last_item p q = simp (p, q)

  more_items : (all : List LineItem) → item_at false line at ≡ Some item → list_ends line item.end ≡ false
      → items_from false line (next_field line item.end) n ≡ Some all → items_from false line at (suc n) ≡ Some (item ∷ all)
  unfolding items_from with_item
  more_items all p q r = simp (p, q, r)

module _ (line : List ℕ) (tail : List ℕ) (ends : Ends tail) where
  one_read : (at : ℕ) (c : ListedCommit) (rest : List ℕ) → c.slot ≤ 18446744073709551615 → c.value ≤ 18446744073709551615 → FieldEnds rest
      → drop at line ≡ decimal c.slot ++ (32 ∷ (decimal c.value ++ rest))
      → (item : LineItem) × (item_at false line at ≡ Some item) × (record { slot = item.slot; value = item.value } ≡ c)
      × (drop item.end line ≡ rest) × (item.end ≤ length line)
  unfolding item_at commit_item_at
  one_read at c rest ls lv t e =
      let e2 = behind_field line at c.slot (decimal c.value ++ rest) e in
      let slot = field_read line at c.slot (decimal c.value ++ rest) ls e in
      let value = number_before line (second_field line at) c.value lv rest t e2 in (
        record { slot = c.slot; value = c.value; cell = 0; said = Changed Release; end = (number_field line (second_field line at)).end },
        simp (slot, value),
        refl,
        end_before line (second_field line at) c.value lv rest t e2,
        field_within line (second_field line at),
      )

  items_read : (c : ListedCommit) (cs : List ListedCommit) (at n start : ℕ) → CommitsFit (c ∷ cs) → length cs < n
      → drop at line ≡ decimal c.slot ++ (32 ∷ (decimal c.value ++ rest_text cs tail))
      → ListRead line (items_from false line at n) start (c ∷ cs) tail
  unfolding each
  items_read c cs at zero start fits h e = absurd (omega arith)
  items_read c [] at (suc n) start fits h e =
      let one = one_read at c tail fits.0 fits.1 (field_ends tail ends) e in
      record {
        all = one.0 ∷ [];
        read = last_item line at n one.0 one.1 (ends_there line one.0.end tail one.4 one.3 ends);
        commits = ap (λ (d : ListedCommit). d ∷ []) one.2;
        behind = one.3;
        within = one.4;
      }
  items_read c (d ∷ cs) at (suc n) start fits h e =
      let one = one_read at c (rest_text (d ∷ cs) tail) fits.0 fits.1 (rest_ends (d ∷ cs) tail ends) e in
      let behind = one.3 ∙ more_text d cs tail in
      let others = items_read d cs (next_field line one.0.end) n one.0.end fits.2 (omega arith) (next_begins line one.0.end _ behind) in
      record {
        all = one.0 ∷ others.all;
        read = more_items line at n one.0 others.all one.1 (goes_on line one.0.end d.slot _ behind) others.read;
        commits = ap₂ (λ (x : ListedCommit) (xs : List ListedCommit). x ∷ xs) one.2 others.commits;
        behind = others.behind;
        within = others.within;
      }

-- a line has more bytes than entries
many_bytes : (cs : List ListedCommit) (tail : List ℕ) → length cs ≤ length (rest_text cs tail)
unfolding each listed_commit_text field
many_bytes [] tail = omega arith
many_bytes (c ∷ cs) tail =
    let more : length (rest_text (c ∷ cs) tail) ≡ length (listed_commit_text c) + length (rest_text cs tail) =
    ap length (append_assoc (listed_commit_text c) _ tail) ∙ length-append (listed_commit_text c) _ in
    let some : 0 < length (listed_commit_text c) = omega arith in
    omega (arith, many_bytes cs tail)

module _ (line : List ℕ) (tail : List ℕ) (ends : Ends tail) where
  list_read : (cs : List ListedCommit) (end : ℕ) → CommitsFit cs → end ≤ length line → drop end line ≡ rest_text cs tail
      → ListRead line (list_behind false line end) end cs tail
  unfolding list_behind each
  list_read [] end fits within e =
      record { all = []; read = simp (ends_there line end tail within e ends); commits = refl; behind = e; within = within }
  list_read (c ∷ cs) end fits within e =
      let behind = e ∙ more_text c cs tail in
      let long : length line - end ≡ suc (length (decimal c.slot ++ (32 ∷ (decimal c.value ++ rest_text cs tail)))) =
      sym (length-drop end line) ∙ ap length behind in
      let enough : length (c ∷ cs) ≤ length line - end =
      subst (λ (n : ℕ). length (c ∷ cs) ≤ n) (sym (ap length e) ∙ length-drop end line) (many_bytes (c ∷ cs) tail) in
      let first : drop (end + 1) line ≡ decimal c.slot ++ (32 ∷ (decimal c.value ++ rest_text cs tail)) = sym (drop-drop 1 end line) ∙ ap (drop 1) behind in
      let items = items_read line tail ends c cs (end + 1) (length line) end fits (omega arith) first in
      record {
        all = items.all;
        read = simp (goes_on line end c.slot _ behind, ap (begins (ascii " ")) behind ∙ blank_begins _) items.read;
        commits = items.commits;
        behind = items.behind;
        within = items.within;
      }

-- ---- its columns

slots_on : (items : List LineItem) → item_slots items ≡ map (λ (c : ListedCommit). c.slot) (entries_on items)
slots_on [] = refl
slots_on (i ∷ items) = ap (λ (l : List ℕ). i.slot ∷ l) (slots_on items)

values_on : (items : List LineItem) → item_values items ≡ map (λ (c : ListedCommit). c.value) (entries_on items)
values_on [] = refl
values_on (i ∷ items) = ap (λ (l : List ℕ). i.value ∷ l) (values_on items)

columns_back : (s v : List ℕ) → length s ≡ length v → (map (λ (c : ListedCommit). c.slot) (beside s v) ≡ s) × (map (λ (c : ListedCommit). c.value) (beside s v) ≡ v)
unfolding beside
columns_back [] [] e = (refl, refl)
columns_back [] (y ∷ v) e = absurd (omega arith)
columns_back (x ∷ s) [] e = absurd (omega arith)
columns_back (x ∷ s) (y ∷ v) e =
    let rest = columns_back s v (omega arith) in
    (ap (λ (l : List ℕ). x ∷ l) rest.0, ap (λ (l : List ℕ). y ∷ l) rest.1)

same_list : (l : CommitList) (items : List LineItem) → length l.slots ≡ length l.values → entries_on items ≡ listed_commits l → commits_of items ≡ l
same_list l items same e =
    let back = columns_back l.slots l.values same in
    let slots : item_slots items ≡ l.slots = slots_on items ∙ ap (map (λ (c : ListedCommit). c.slot)) e ∙ back.0 in
    let values : item_values items ≡ l.values = values_on items ∙ ap (map (λ (c : ListedCommit). c.value)) e ∙ back.1 in
    ap₂ (λ (s v : List ℕ). record { slots = s; values = v }) slots values

-- ---- the line

module _ (places : ℕ) (a b : CommitList) (fits : places ≤ 18446744073709551615) (fits_a : ListFits a) (fits_b : ListFits b) where
  abbrev line : List ℕ
  line = join_written places a b

  abbrev tail : List ℕ
  tail = ascii " |" ++ listed_commits_text b

  abbrev end : ℕ
  end = (number_field line 5).end

  bar : Ends tail
  bar = inr (listed_commits_text b, refl)

  number : drop 5 line ≡ decimal places ++ rest_text (listed_commits a) tail
  unfolding field
  number = refl

  first : ListRead line (list_behind false line end) end (listed_commits a) tail
  first =
      list_read line tail bar (listed_commits a) end fits_a.numbers (field_within line 5)
      (end_before line 5 places fits (rest_text (listed_commits a) tail) (rest_ends (listed_commits a) tail bar) number)

  abbrev second_end : ℕ
  second_end = ends_at end first.all + 2

  long : length line - ends_at end first.all ≡ suc (suc (length (listed_commits_text b)))
  long = sym (length-drop (ends_at end first.all) line) ∙ ap length first.behind

  last : ListRead line (list_behind false line second_end) second_end (listed_commits b) []
  last =
      list_read line [] (inl refl) (listed_commits b) second_end fits_b.numbers (omega (arith, long))
      (sym (drop-drop 2 (ends_at end first.all) line) ∙ ap (drop 2) first.behind ∙ sym (append-nil (listed_commits_text b)))

  whole : last_list false line second_end ≡ Some last.all
  unfolding last_list to_the_end
  whole =
      let none : length line - ends_at second_end last.all ≡ 0 = sym (length-drop (ends_at second_end last.all) line) ∙ ap length last.behind in
      let within = last.within in
      let here : ends_at second_end last.all ≡ length line = omega arith in
      rw last.read (simp (eq-eqb (ends_at second_end last.all) (length line) here))

  asked : join_asked line ≡ Some (record { places = places; end = end; first = first.all; second = last.all })
  unfolding join_asked behind_first_list
  asked =
      let value = number_before line 5 places fits (rest_text (listed_commits a) tail) (rest_ends (listed_commits a) tail bar) number in
      simp (value, first.read, ap (begins (ascii " |")) first.behind ∙ bar_begins (listed_commits_text b), whole)

  pub join_read : join_text line ≡ joining_text (joining a b places)
  unfolding join_line_text
  join_read = simp (asked, same_list a first.all fits_a.same first.commits, same_list b last.all fits_b.same last.commits)

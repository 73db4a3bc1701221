-- The line `join`: what is answered is the join of the lists that the line gives, whole.
-- Assumes nothing.
use Rattle.std.proofs.Common.{◌≡◌, ◌∙◌, refl, sym, ap, ap₂, subst, subst₂, ⊎_elim, ℕ, ◌+◌, ◌≤◌, ◌<◌, min, zero, suc, Bool, true, false, ◌||◌, List, [], ◌∷◌, length, get_or, take, drop, ltb, Some, None, Result, Ok, Err, option_map, arith}
use Rattle.std.specs.Result.{IsErrAnd}
use lib.ListN.{length-map}
use lib.Seq.{take_at}
use borrow.Author.Tests.{ltb-true, ltb-false, lt-ltb}
use Rattle.basics.proofs.Tests.{either}
use Rattle.basics.specs.elements.Places.{at_front}
use Rattle.texts.specs.declared.Output.{Output}
use Rattle.texts.specs.Text.{put, each, field}
use Rattle.texts.proofs.Putting.{PutSoFar, put_then, reached_next, reached_all}
use Rattle.texts.specs.fields.Fields.{begins, number_field}
use Rattle.texts.specs.Text.{ascii}
use Rattle.planning_lines.specs.Answers.{bad_line_text}
use Rattle.catch_up.specs.Causes.{CommitList, ListedCommit, beside}
use Rattle.catch_up.specs.Joining.{list_of, list_too_large, outside, joining, join_answer, join_count, JoinGives, Joins}
use Rattle.catch_up.specs.declared.JoinRefusal.{JoinRefusal}
use Rattle.texts.specs.declared.fields.NumberField.{NumberField}
use Rattle.catch_up.proofs.Exact.{is_join}
use Rattle.planning_lines.specs.declared.lists.LineItem.{LineItem}
use Rattle.planning_lines.specs.declared.lists.LineList.{LineList}
use Rattle.planning_lines.specs.declared.lists.JoinQuestion.{JoinQuestion}
use Rattle.planning_lines.specs.lists.Lists.{list_behind, ends_at, last_list, commits_of}
use Rattle.planning_lines.specs.lists.Kept.{kept_items, kept_commits}
use Rattle.planning_lines.specs.lists.Joins.{JoinLine, join_asked, behind_first_list, listed_commit_text, joining_text, join_line_text, join_text, kept_asked, kept_refused, unless_kept_refused, kept_joining, joined_text}
use Rattle.planning_lines.proofs.lists.Kept.{kept_count, kept_large, commits_kept}
use Rattle.planning_lines.proofs.lists.ListsRead.{kept_end, kept_some, kept_none}

-- ---- the lists

or_true : (t : Bool) → (t || true) ≡ true
or_true true = refl
or_true false = refl

longer : (items : List LineItem) → ltb 8192 (length items) ≡ true → outside (commits_of items) ≡ true
unfolding outside
longer items h =
    let many = ltb-true 8192 (length items) h in
    simp (length-map, lt-ltb 4096 (length items) (omega arith))

kept_within : (q : JoinQuestion) → (q.first.too_large || q.second.too_large) ≡ false → ltb 8192 q.first.count ≡ false → ltb 8192 q.second.count ≡ false
    → ltb q.places 8192 ≡ false → kept_joining q ≡ joining (kept_commits q.first) (kept_commits q.second) 8192
unfolding kept_joining kept_refused
kept_within q p a b t = simp (p, a, b, t)

enough_places : (a b : CommitList) (places : ℕ) → ltb places 8192 ≡ false → joining a b 8192 ≡ joining a b places
unfolding joining
enough_places a b places t = simp t

module _ (j : JoinLine) where
  abbrev A : LineList
  A = (kept_asked j).first

  abbrev B : LineList
  B = (kept_asked j).second

  abbrev Same : Type 0
  Same = kept_joining (kept_asked j) ≡ joining (commits_of j.first) (commits_of j.second) j.places

  m : A.count ≡ length j.first
  m = kept_count j.end j.first

  n : B.count ≡ length j.second
  n = kept_count (ends_at j.end j.first + 2) j.second

  large_a : A.too_large ≡ list_too_large (commits_of j.first)
  large_a = kept_large j.end j.first

  large_b : B.too_large ≡ list_too_large (commits_of j.second)
  large_b = kept_large (ends_at j.end j.first + 2) j.second

  pub lists_joined : Same
  unfolding kept_joining kept_refused joining
  lists_joined =
      ⊎_elim (λ (t : (list_too_large (commits_of j.first) || list_too_large (commits_of j.second)) ≡ true). simp (large_a, large_b, t)) fit
      (either (list_too_large (commits_of j.first) || list_too_large (commits_of j.second)))
    where
      fit : (list_too_large (commits_of j.first) || list_too_large (commits_of j.second)) ≡ false → Same
      fit p =
          ⊎_elim (λ (t : ltb 8192 (length j.first) ≡ true). simp (large_a, large_b, p, m, t, longer j.first t)) few_a (either (ltb 8192 (length j.first)))
        where
          few_a : ltb 8192 (length j.first) ≡ false → Same
          few_a q =
              ⊎_elim (λ (t : ltb 8192 (length j.second) ≡ true). simp (large_a, large_b, p, m, n, q, t, longer j.second t, or_true)) few_b
              (either (ltb 8192 (length j.second)))
            where
              few_b : ltb 8192 (length j.second) ≡ false → Same
              few_b r = ⊎_elim (λ (t : ltb j.places 8192 ≡ true). simp (large_a, large_b, p, m, n, q, r, t, or_true)) lent (either (ltb j.places 8192))
                where
                  lent : ltb j.places 8192 ≡ false → Same
                  lent t =
                      let whole_a : kept_commits A ≡ commits_of j.first = commits_kept j.end j.first (ltb-false 8192 (length j.first) q) in
                      let whole_b : kept_commits B ≡ commits_of j.second =
                      commits_kept (ends_at j.end j.first + 2) j.second (ltb-false 8192 (length j.second) r) in
                      let fits : (A.too_large || B.too_large) ≡ false = ap₂ ◌||◌ large_a large_b ∙ p in
                      let a_few : ltb 8192 A.count ≡ false = ap (ltb 8192) m ∙ q in
                      let b_few : ltb 8192 B.count ≡ false = ap (ltb 8192) n ∙ r in
                      kept_within (kept_asked j) fits a_few b_few t
                      ∙ ap₂ (λ (a b : CommitList). joining a b 8192) whole_a whole_b
                      ∙ enough_places (commits_of j.first) (commits_of j.second) j.places t

-- ---- the answer

-- a join is no longer than the places, and has as many values as slots
record Fits (l : CommitList) : Type 0 where
  few : length l.slots ≤ 8192
  same : length l.slots ≡ length l.values

module _ (q : JoinQuestion) where
  abbrev kept_join : Result CommitList JoinRefusal
  kept_join = joining (kept_commits q.first) (kept_commits q.second) 8192

  fits : (l : CommitList) → kept_joining q ≡ Ok l → Fits l
  unfolding kept_joining
  fits l e = go (kept_refused q) e
    where
      go : (r : Result (Unit {0}) JoinRefusal) → unless_kept_refused r kept_join ≡ Ok l → Fits l
      go (Err why) e = cc
      go (Ok u) e =
          let J = is_join (kept_commits q.first) (kept_commits q.second) 8192 l e in
          record { few = J.few; same = J.same }

  -- each way through the function answers it
  pub refused_given : (s v : List ℕ) (why : JoinRefusal) (answer : Result ℕ JoinRefusal) → Err why ≡ kept_refused q → IsErrAnd answer (λ given. given ≡ why)
      → JoinGives (kept_joining q) (list_of s v) (list_of s v) answer
  unfolding kept_joining at_front
  refused_given s v why (Ok count) e h = absurd h
  refused_given s v why (Err given) e h =
      subst (λ (r : Result (Unit {0}) JoinRefusal). JoinGives (unless_kept_refused r kept_join) (list_of s v) (list_of s v) (Err given)) e
      (record { answered = ap Err h; slots = refl; values = refl })

  pub joined_given : (s v s' v' : List ℕ) (r : Result ℕ JoinRefusal) (a b : CommitList)
      → a ≡ kept_commits q.first → b ≡ kept_commits q.second → Ok tt ≡ kept_refused q
      → length s ≡ 8192 → length v ≡ 8192 → Joins a b (list_of s v) (list_of s' v') r → JoinGives (kept_joining q) (list_of s v) (list_of s' v') r
  unfolding kept_joining
  joined_given s v s' v' r a b ea eb e ls lv given =
      let g = subst₂ (λ (x y : CommitList). Joins x y (list_of s v) (list_of s' v') r) ea eb given in
      let most : min (length s) (length v) ≡ 8192 = omega arith in
      subst (λ (x : Result (Unit {0}) JoinRefusal). JoinGives (unless_kept_refused x kept_join) (list_of s v) (list_of s' v') r) e
      (subst (λ (n : ℕ). JoinGives (joining (kept_commits q.first) (kept_commits q.second) n) (list_of s v) (list_of s' v') r) most g)

  module _ (s v s' v' : List ℕ) (r : Result ℕ JoinRefusal) (gives : JoinGives (kept_joining q) (list_of s v) (list_of s' v') r) where
    pub joined_answer : joined_text r s' v' ≡ joining_text (kept_joining q)
    unfolding joined_text joining_text at_front
    joined_answer = go (kept_joining q) refl gives
      where
        go : (j : Result CommitList JoinRefusal) → kept_joining q ≡ j → JoinGives j (list_of s v) (list_of s' v') r → joined_text r s' v' ≡ joining_text j
        go (Err why) e g = simp g.answered
        go (Ok l) e g =
            let first : take (length l.slots) s' ≡ l.slots = ap (take (length l.slots)) g.slots ∙ take_at l.slots _ _ refl in
            let more : take (length l.slots) v' ≡ l.values = ap (take (length l.slots)) g.values ∙ take_at l.values _ _ (sym (fits l e).same) in
            simp (g.answered, first, more)

    pub joined_count : join_count r ≤ 8192
    joined_count = go (kept_joining q) refl gives.answered
      where
        go : (j : Result CommitList JoinRefusal) → kept_joining q ≡ j → r ≡ join_answer j → join_count r ≤ 8192
        go (Err why) e g = rw g (omega arith)
        go (Ok l) e g = rw g (fits l e).few

-- ---- the line

module _ (line : List ℕ) where
  pub asked_answer : (q : JoinQuestion) → Some q ≡ option_map kept_asked (join_asked line) → joining_text (kept_joining q) ≡ join_text line
  unfolding join_line_text
  asked_answer q e =
      let j = kept_some kept_asked (join_asked line) q e in
      rw j.1 (ap joining_text (ap kept_joining j.2 ∙ lists_joined j.0))

  pub asked_bad : None ≡ option_map kept_asked (join_asked line) → bad_line_text ≡ join_text line
  unfolding join_line_text
  asked_bad e = rw (kept_none kept_asked (join_asked line) e) refl

-- ---- what the line asks

module _ (line : List ℕ) (field : NumberField) (at : field ≡ number_field line 5) where
  pub no_places : field.number ≡ None → None ≡ option_map kept_asked (join_asked line)
  unfolding join_asked
  no_places e = simp (← at, e)

  module _ (places : ℕ) (given : field.number ≡ Some places) where
    pub no_first : None ≡ option_map (kept_items field.end) (list_behind false line field.end) → None ≡ option_map kept_asked (join_asked line)
    unfolding join_asked
    no_first e = simp (← at, given, kept_none (kept_items field.end) (list_behind false line field.end) e)

    module _ (first : LineList) (read : Some first ≡ option_map (kept_items field.end) (list_behind false line field.end)) where
      pub no_bar : begins (ascii " |") (drop first.end line) ≡ false → None ≡ option_map kept_asked (join_asked line)
      unfolding join_asked behind_first_list
      no_bar b =
          let whole = kept_some (kept_items field.end) (list_behind false line field.end) first read in
          let end : first.end ≡ ends_at field.end whole.0 = ap (λ (l : LineList). l.end) whole.2 ∙ kept_end field.end whole.0 in
          simp (← at, given, whole.1, ← end, b)

      module _ (bar : begins (ascii " |") (drop first.end line) ≡ true) where
        pub no_second : None ≡ option_map (kept_items (first.end + 2)) (last_list false line (first.end + 2)) → None ≡ option_map kept_asked (join_asked line)
        unfolding join_asked behind_first_list
        no_second e =
            let whole = kept_some (kept_items field.end) (list_behind false line field.end) first read in
            let end : first.end ≡ ends_at field.end whole.0 = ap (λ (l : LineList). l.end) whole.2 ∙ kept_end field.end whole.0 in
            simp (← at, given, whole.1, ← end, bar, kept_none (kept_items (first.end + 2)) (last_list false line (first.end + 2)) e)

        pub both_asked : (second : LineList) → Some second ≡ option_map (kept_items (first.end + 2)) (last_list false line (first.end + 2))
            → Some (record { places = places; first = first; second = second }) ≡ option_map kept_asked (join_asked line)
        unfolding join_asked behind_first_list
        both_asked second e =
            let whole = kept_some (kept_items field.end) (list_behind false line field.end) first read in
            let end : first.end ≡ ends_at field.end whole.0 = ap (λ (l : LineList). l.end) whole.2 ∙ kept_end field.end whole.0 in
            let last = kept_some (kept_items (first.end + 2)) (last_list false line (first.end + 2)) second e in
            simp (← at, given, whole.1, ← end, bar, last.1)
            (ap₂ (λ (f s : LineList). Some (record { places = places; first = f; second = s })) whole.2 last.2)

-- ---- the entries of the answer

beside_at : (s v : List ℕ) (i : ℕ) (d : ListedCommit) → i < length s → length s ≡ length v
    → get_or (beside s v) i d ≡ record { slot = get_or s i 0; value = get_or v i 0 }
unfolding beside
beside_at [] v i d h e = absurd (omega arith)
beside_at (x ∷ s) [] i d h e = absurd (omega arith)
beside_at (x ∷ s) (y ∷ v) zero d h e = refl
beside_at (x ∷ s) (y ∷ v) (suc i) d h e = beside_at s v i d (omega arith) (omega arith)

pub beside_long : (s v : List ℕ) → length s ≡ length v → length (beside s v) ≡ length s
unfolding beside
beside_long [] v e = refl
beside_long (x ∷ s) [] e = absurd (omega arith)
beside_long (x ∷ s) (y ∷ v) e = ap suc (beside_long s v (omega arith))

-- one more is put
pub commit_put : (s v : List ℕ) (i : ℕ) (p q t u : Output) → PutSoFar listed_commit_text (beside s v) i p q → i < length s → length s ≡ length v
    → t ≡ put (field (get_or s i 0)) p → u ≡ put (field (get_or v i 0)) t → PutSoFar listed_commit_text (beside s v) (i + 1) u q
unfolding listed_commit_text
commit_put s v i p q t u h l e f g =
    let d : ListedCommit = record { slot = 0; value = 0 } in
    let both : u ≡ put (listed_commit_text (get_or (beside s v) i d)) p =
    put_then _ _ p f g ∙ ap (λ (c : ListedCommit). put (listed_commit_text c) p) (sym (beside_at s v i d l e)) in
    reached_next d h both (omega (arith, beside_long s v e))

-- all are put
pub all_put : (s v : List ℕ) (i : ℕ) (p q : Output) → PutSoFar listed_commit_text (beside s v) i p q → length s ≤ i → length s ≡ length v
    → p ≡ put (each listed_commit_text (beside s v)) q
all_put s v i p q h l e = reached_all h (omega (arith, beside_long s v e))

-- What document 02 says of E11's answers, in the words of specs/Conflict.antt. Positions are signed. Which question is refused, and with which number,
-- is said in Asking.antt.
-- Assumes nothing.
use mathlib.Core.Path.{◌≡◌, refl, sym, ap, ◌∙◌, subst⁻¹}
use mathlib.Core.Logic.{◌⊎◌, inl, inr}
use mathlib.Core.Bool.{true}
use mathlib.Core.List.{List, []}
use Prim.Native.Nat.{ℕ, ◌+◌, ◌-◌, ◌≤◌, ◌<◌}
use native.Mathlib.Omega.{arith}
use lib.ListN.{length, take, drop}
use lib.Seq.{take_at}
use Rattle.std.specs.Prelude.{Result, Ok, Err}
use Rattle.basics.specs.Lists.{In}
use Rattle.basics.proofs.Tests.{not_both, fails}
use Rattle.basics.specs.elements.Places.{at_front}
use Rattle.reach.specs.Conflict.{Conflict, CarrierTaken, Named, Lowest, QuestionWithinLimits, MayAssign, Assigned, RisingPlaced, Rising}
use Rattle.reach.specs.Reach.{reach_refusal_number, khz_at, clashing, blocked, lowest_free, question_checked, listed_in_places, numbers_listed, conflicts_of, unless_refused, first_free}
use Rattle.reach.specs.declared.PlacedCell.{PlacedCell}
use Rattle.reach.specs.declared.Question.{Question}
use Rattle.reach.specs.declared.ReachRefusal.{ReachRefusal}
use Rattle.group_register.specs.Settings.{unmade_by, is_made}
use Rattle.group_register.specs.declared.RegisterSettings.{RegisterSettings}
use Rattle.reach.proofs.Asking.{refusal_number_of, same_number, no_other, Cause, unmade, outside, not_assignable, none, the_cause, else_asked, asked_limits}
use Rattle.reach.proofs.Meaning.{test_of_may, number_most, taken_of_test, test_of_taken, named_of_list, list_of_conflict, list_rises}
use Rattle.reach.proofs.Raster.{on_raster}
use Rattle.reach.proofs.Ranges.{Found, lowest_found, lowest_none, none_lowest, found_lowest}

-- ==== "list the cells, by number, that overlap the carrier and lie within the distance of the position"
module _ (s : RegisterSettings) (cs : List PlacedCell) (n : ℕ) (q : Question) (places : List ℕ) where
  abbrev list : Result ℕ ReachRefusal × List ℕ
  list = conflicts_of s cs n q places

  abbrev before : Result (Unit {0}) ReachRefusal
  before = question_checked s q n n

  in_front : (ns : List ℕ) → take (length ns) (at_front ns places) ≡ ns
  unfolding at_front
  in_front ns = take_at ns (drop (length ns) places) (length ns) refl

  numbers_are : before ≡ Ok tt → numbers_listed list ≡ clashing q (khz_at n) cs
  unfolding conflicts_of
  numbers_are e =
      ap (λ (r : Result (Unit {0}) ReachRefusal). numbers_listed (listed_in_places r (clashing q (khz_at n) cs) places)) e ∙ in_front (clashing q (khz_at n) cs)

  numbers_none : (why : ReachRefusal) → before ≡ Err why → numbers_listed list ≡ []
  unfolding conflicts_of
  numbers_none why e = ap (λ (r : Result (Unit {0}) ReachRefusal). numbers_listed (listed_in_places r (clashing q (khz_at n) cs) places)) e

  -- a question is answered, or nothing is listed
  by_answer : (P : List ℕ → Type 0) → (before ≡ Ok tt → P (clashing q (khz_at n) cs)) → P [] → P (numbers_listed list)
  by_answer P given empty = go before refl
    where
      go : (r : Result (Unit {0}) ReachRefusal) → before ≡ r → P (numbers_listed list)
      go (Ok u) e = subst⁻¹ P (numbers_are e) (given e)
      go (Err why) e = subst⁻¹ P (numbers_none why e) empty

  -- what is listed is the number of a live cell in conflict
  pub listed_conflicts : Assigned cs → (m : ℕ) → In m (numbers_listed (conflicts_of s cs n q places)) → Named q n cs m
  listed_conflicts assigned m =
      by_answer (λ (l : List ℕ). In m l → Named q n cs m) (λ e. named_of_list q n (asked_limits s q n n e).2 cs assigned m) (λ i. absurd i)

  -- and every live cell in conflict is listed
  pub conflicts_listed : is_made s ≡ true → QuestionWithinLimits q → MayAssign n q.width → (c : PlacedCell) → In c cs → Conflict q n c
      → In c.number (numbers_listed (conflicts_of s cs n q places))
  conflicts_listed m limits may c live k =
      subst⁻¹ (λ (l : List ℕ). In c.number l) (numbers_are (else_asked s q n n m limits may may)) (list_of_conflict q n cs c live k)

  -- "by number": the numbers rise, so none is listed twice
  pub listed_rises : (low : ℕ) → RisingPlaced low cs → Rising low (numbers_listed (conflicts_of s cs n q places))
  listed_rises low r = by_answer (Rising low) (λ e. list_rises q (khz_at n) low cs r) tt

  -- the numbers with which a list is refused are those of Asking.antt
  pub list_number : refusal_number_of (conflicts_of s cs n q places).0 ≡ refusal_number_of (question_checked s q n n)
  unfolding conflicts_of
  list_number = go before
    where
      go : (r : Result (Unit {0}) ReachRefusal) → refusal_number_of (listed_in_places r (clashing q (khz_at n) cs) places).0 ≡ refusal_number_of r
      go (Ok u) = refl
      go (Err why) = refl

  -- a refused question leaves every place as it was
  pub places_left : (why : ReachRefusal) → question_checked s q n n ≡ Err why → (conflicts_of s cs n q places).1 ≡ places
  unfolding conflicts_of
  places_left why e = ap (λ (r : Result (Unit {0}) ReachRefusal). (listed_in_places r (clashing q (khz_at n) cs) places).1) e

-- ==== "Given a range of carrier numbers, give the lowest that conflicts with none."
module _ (s : RegisterSettings) (cs : List PlacedCell) (first last : ℕ) (q : Question) where
  abbrev answer : Result ℕ ReachRefusal
  answer = first_free s cs first last q

  abbrev search : Result ℕ ReachRefusal
  search = lowest_free (blocked q cs) first (last + 1 - first)

  pub searched : question_checked s q first last ≡ Ok tt → answer ≡ search
  unfolding first_free
  searched e = ap (λ (r : Result (Unit {0}) ReachRefusal). unless_refused r search) e

  not_searched : (why : ReachRefusal) → question_checked s q first last ≡ Err why → answer ≡ Err why
  unfolding first_free
  not_searched why e = ap (λ (r : Result (Unit {0}) ReachRefusal). unless_refused r search) e

  -- numbers of the range may be asked, since its ends may
  within_range : MayAssign last q.width → (m : ℕ) → m ≤ last → MayAssign m q.width
  within_range may m h =
      let most = number_most last q.width (test_of_may last q.width may) in
      record { khz = khz_at m; on_raster = on_raster m (omega arith); from = may.from; to = may.to }

  -- ---- the carrier given is in the range, conflicts with none, and every lower one of the range conflicts with some
  pub free_lowest : Assigned cs → (n : ℕ) → first_free s cs first last q ≡ Ok n → Lowest q cs first last n
  free_lowest assigned n e = go (question_checked s q first last) refl
    where
      go : (r : Result (Unit {0}) ReachRefusal) → question_checked s q first last ≡ r → Lowest q cs first last n
      go (Err why) is = absurd (never (sym (not_searched why is) ∙ e))
        where
          never : Err why ≡ Ok n → ⊥
          never p = let z : ◌≡◌ {A = ℕ} 0 1 = cc in omega arith
      go (Ok u) is =
          record {
            from = found.from;
            to = omega (arith, found.from, found.to);
            free = λ d live k. not_both (test_of_taken q n cs d live k) found.free;
            lower = λ m low high. taken_of_test q m (within_range may m (omega (arith, found.from, found.to))) cs assigned (found.lower m low high);
          }
        where
          may : MayAssign last q.width
          may = (asked_limits s q first last is).3

          found : Found (blocked q cs) first (first + (last + 1 - first)) n
          found = lowest_found (blocked q cs) first (last + 1 - first) n (sym (searched is) ∙ e)

  -- and there is no other such one
  pub lowest_free_lem : is_made s ≡ true → QuestionWithinLimits q → MayAssign first q.width → MayAssign last q.width → Assigned cs → (n : ℕ) → Lowest q cs first last n
      → first_free s cs first last q ≡ Ok n
  lowest_free_lem m limits low high assigned n l =
      searched (else_asked s q first last m limits low high)
      ∙ found_lowest (blocked q cs) first (last + 1 - first) n
      (record {
        from = l.from;
        to = omega (arith, l.from, l.to);
        free = fails (λ b. clear (taken_of_test q n (within_range high n l.to) cs assigned b));
        lower = λ k least less. (let t = l.lower k least less in test_of_taken q k cs t.cell t.live t.conflict);
      })
    where
      clear : CarrierTaken q n cs → ⊥
      clear k = l.free k.cell k.live k.conflict

  -- ---- "22, no carrier in the range is free, given only if every one conflicts, an empty range (last below first) included"
  searched_number : (r : Result ℕ ReachRefusal) → search ≡ r → (refusal_number_of r ≡ 0) ⊎ (refusal_number_of r ≡ 22)
  searched_number (Ok n) e = inl refl
  searched_number (Err why) e =
      inr (ap refusal_number_of (sym e ∙ none_lowest (blocked q cs) first (last + 1 - first) (lowest_none (blocked q cs) first (last + 1 - first) why e)))

  pub free_22_all_taken : Assigned cs → refusal_number_of (first_free s cs first last q) ≡ 22 → (m : ℕ) → first ≤ m → m ≤ last → CarrierTaken q m cs
  free_22_all_taken assigned e m low high = go (the_cause s q first last)
    where
      refused : (why : ReachRefusal) → question_checked s q first last ≡ Err why → refusal_number_of answer ≡ refusal_number_of {A = ℕ} (Err why)
      refused why is = ap refusal_number_of (not_searched why is)

      go : Cause s q first last → CarrierTaken q m cs
      go (unmade u is) = absurd (no_other (unmade_by s) 22 (λ z. omega arith) (λ z. omega arith) (same_number (refusal_number_of answer) (refused _ is) e))
      go (outside u off is) = absurd (let z : ◌≡◌ {A = ℕ} 21 22 = same_number (refusal_number_of answer) (refused _ is) e in omega arith)
      go (not_assignable u limits may is) = absurd (let z : ◌≡◌ {A = ℕ} 14 22 = same_number (refusal_number_of answer) (refused _ is) e in omega arith)
      go (none u limits least most is) = searching search refl (ap refusal_number_of (sym (searched is)) ∙ e)
        where
          searching : (r : Result ℕ ReachRefusal) → search ≡ r → refusal_number_of r ≡ 22 → CarrierTaken q m cs
          searching (Ok n) found z = absurd (omega arith)
          searching (Err why) found z =
              taken_of_test q m (within_range most m high) cs assigned (lowest_none (blocked q cs) first (last + 1 - first) why found m low (omega arith))

  -- only where neither 21 nor 14 is due
  pub free_22_asked : refusal_number_of (first_free s cs first last q) ≡ 22 → question_checked s q first last ≡ Ok tt
  free_22_asked e = go (the_cause s q first last)
    where
      refused : (why : ReachRefusal) → question_checked s q first last ≡ Err why → refusal_number_of answer ≡ refusal_number_of {A = ℕ} (Err why)
      refused why is = ap refusal_number_of (not_searched why is)

      go : Cause s q first last → question_checked s q first last ≡ Ok tt
      go (unmade u is) = absurd (no_other (unmade_by s) 22 (λ z. omega arith) (λ z. omega arith) (same_number (refusal_number_of answer) (refused _ is) e))
      go (outside u off is) = absurd (let z : ◌≡◌ {A = ℕ} 21 22 = same_number (refusal_number_of answer) (refused _ is) e in omega arith)
      go (not_assignable u limits may is) = absurd (let z : ◌≡◌ {A = ℕ} 14 22 = same_number (refusal_number_of answer) (refused _ is) e in omega arith)
      go (none u limits least most is) = is

  pub all_taken_is_22 : is_made s ≡ true → QuestionWithinLimits q → MayAssign first q.width → MayAssign last q.width
      → ((m : ℕ) → first ≤ m → m ≤ last → CarrierTaken q m cs) → refusal_number_of (first_free s cs first last q) ≡ 22
  all_taken_is_22 m limits low high all =
      ap refusal_number_of
      (searched (else_asked s q first last m limits low high)
      ∙ none_lowest (blocked q cs) first (last + 1 - first)
      (λ k least less. (let t = all k least (omega arith) in test_of_taken q k cs t.cell t.live t.conflict)))

  pub empty_is_22 : is_made s ≡ true → QuestionWithinLimits q → MayAssign first q.width → MayAssign last q.width → last < first
      → refusal_number_of (first_free s cs first last q) ≡ 22
  empty_is_22 m limits low high empty = all_taken_is_22 m limits low high (λ k least most. absurd (omega arith))

  -- ---- the other numbers are those of Asking.antt: a question that is refused there is refused here, and else the search gives 0 or 22
  pub free_number_asked : (why : ReachRefusal) → question_checked s q first last ≡ Err why → refusal_number_of (first_free s cs first last q) ≡ reach_refusal_number why
  free_number_asked why e = ap refusal_number_of (not_searched why e)

  pub free_number_searched : question_checked s q first last ≡ Ok tt
      → (refusal_number_of (first_free s cs first last q) ≡ 0) ⊎ (refusal_number_of (first_free s cs first last q) ≡ 22)
  free_number_searched e = go (searched_number search refl)
    where
      go : (refusal_number_of search ≡ 0) ⊎ (refusal_number_of search ≡ 22) → (refusal_number_of answer ≡ 0) ⊎ (refusal_number_of answer ≡ 22)
      go (inl z) = inl (ap refusal_number_of (searched e) ∙ z)
      go (inr z) = inr (ap refusal_number_of (searched e) ∙ z)

  -- and a question within its limits, with a free carrier in the range, has no number
  pub some_free_is_0 : is_made s ≡ true → QuestionWithinLimits q → MayAssign first q.width → MayAssign last q.width → Assigned cs → (m : ℕ) → first ≤ m → m ≤ last
      → ((c : PlacedCell) → In c cs → Conflict q m c → ⊥) → refusal_number_of (first_free s cs first last q) ≡ 0
  some_free_is_0 is limits low high assigned m least most free = go (free_number_searched (else_asked s q first last is limits low high))
    where
      go : (refusal_number_of answer ≡ 0) ⊎ (refusal_number_of answer ≡ 22) → refusal_number_of answer ≡ 0
      go (inl e) = e
      go (inr e) = let k = free_22_all_taken assigned e m least most in absurd (free k.cell k.live k.conflict)

-- "21 first, then 14 for a carrier, width or range end outside its limits", behind the number of a register that is not made: each exactly where it is due.
-- Assumes nothing.
use mathlib.Core.Path.{◌≡◌, sym, ap, ◌∙◌}
use mathlib.Core.Logic.{◌⊎◌, inl, inr}
use mathlib.Core.Bool.{Bool, true, false, ◌&&◌}
use Prim.Native.Nat.{ℕ, ◌≤◌}
use native.Mathlib.Omega.{arith}
use Rattle.std.specs.Prelude.{Result, Ok, Err}
use Rattle.basics.proofs.Tests.{either, not_both, and_left, and_right, and_both}
use Rattle.basics.specs.refusals.Refusals.{refusal}
use Rattle.reach.specs.Conflict.{QuestionWithinLimits, MayAssign}
use Rattle.reach.specs.Reach.{reach_refusal_number, question_within_limits, khz_at, may_ask, question_checked}
use Rattle.reach.specs.Search.{Askable}
use Rattle.reach.specs.declared.Question.{Question}
use Rattle.reach.specs.declared.ReachRefusal.{ReachRefusal}
use Rattle.reach.specs.declared.ReachRefusal.TheVariants.{Unmade, NotAssignable, OutsideLimits}
use Rattle.group_register.specs.Settings.{unmade_number, unmade_by, settings_refusal, is_made}
use Rattle.group_register.specs.declared.RegisterSettings.{RegisterSettings}
use Rattle.group_register.specs.declared.UnmadeBy.{UnmadeBy}
use Rattle.group_register.specs.declared.UnmadeBy.TheVariants.{OutsideLimits as settings_outside, NotInCalendar}
use Rattle.group_register.proofs.GroupLaws.{unmade_number_lem}
use Rattle.reach.proofs.Meaning.{limits_of_test, test_of_limits, number_most, may_of_test, test_of_may}
use Rattle.reach.proofs.Raster.{khz_most}

-- document 02's number of what refuses, and 0
abbrev pub refusal_number_of : {A : Type 0} → Result A ReachRefusal → ℕ
refusal_number_of answer = refusal reach_refusal_number answer

-- a number is not two
pub same_number : {m n : ℕ} (answer : ℕ) → answer ≡ m → answer ≡ n → m ≡ n
same_number answer p q = sym p ∙ q

-- settings give 1 or 17 and no other number
pub no_other : (why : UnmadeBy) (n : ℕ) → (n ≡ 1 → ⊥) → (n ≡ 17 → ⊥) → unmade_number why ≡ n → ⊥
no_other settings_outside n a b e = a (sym e)
no_other NotInCalendar n a b e = b (sym e)

module _ (s : RegisterSettings) (q : Question) (first last : ℕ) where
  abbrev before : Result (Unit {0}) ReachRefusal
  before = question_checked s q first last

  abbrev ends : Bool
  ends = may_ask first q.width && may_ask last q.width

  -- what refuses, in document 02's words
  pub data Cause : Type 0 where
    unmade : is_made s ≡ false → before ≡ Err (Unmade (unmade_by s)) → Cause
    outside : is_made s ≡ true → (QuestionWithinLimits q → ⊥) → before ≡ Err OutsideLimits → Cause
    not_assignable : is_made s ≡ true → QuestionWithinLimits q → (MayAssign first q.width × MayAssign last q.width → ⊥) → before ≡ Err NotAssignable → Cause
    none : is_made s ≡ true → QuestionWithinLimits q → MayAssign first q.width → MayAssign last q.width → before ≡ Ok tt → Cause

  pub the_cause : Cause
  unfolding question_checked
  the_cause = go (either (is_made s)) (either (question_within_limits q)) (either ends)
    where
      go : (is_made s ≡ true) ⊎ (is_made s ≡ false) → (question_within_limits q ≡ true) ⊎ (question_within_limits q ≡ false) → (ends ≡ true) ⊎ (ends ≡ false) → Cause
      go (inr m) l e = unmade m (simp m)
      go (inl m) (inr l) e = outside m (λ limits. not_both (test_of_limits q limits) l) (simp (m, l))
      go (inl m) (inl l) (inr e) =
          not_assignable m (limits_of_test q l) (λ both. not_both (and_both (test_of_may first q.width both.0) (test_of_may last q.width both.1)) e)
          (simp (m, l, e))
      go (inl m) (inl l) (inl e) =
          none m (limits_of_test q l) (may_of_test first q.width (and_left (may_ask first q.width) (may_ask last q.width) e))
          (may_of_test last q.width (and_right (may_ask first q.width) (may_ask last q.width) e)) (simp (m, l, e))

  -- ---- each cause refuses, in that order; a register that is not made gives the number of its settings, 1 or 17
  pub unmade_is_its_number : is_made s ≡ false → refusal_number_of before ≡ settings_refusal s
  unmade_is_its_number m = go the_cause
    where
      go : Cause → refusal_number_of before ≡ settings_refusal s
      go (unmade u is) = ap refusal_number_of is ∙ sym (unmade_number_lem s u)
      go (outside made off is) = absurd (not_both made m)
      go (not_assignable made limits may is) = absurd (not_both made m)
      go (none made limits low high is) = absurd (not_both made m)

  pub outside_is_21 : is_made s ≡ true → (QuestionWithinLimits q → ⊥) → refusal_number_of before ≡ 21
  outside_is_21 m off = go the_cause
    where
      go : Cause → refusal_number_of before ≡ 21
      go (unmade u is) = absurd (not_both m u)
      go (outside made off is) = ap refusal_number_of is
      go (not_assignable made limits may is) = absurd (off limits)
      go (none made limits low high is) = absurd (off limits)

  pub not_assignable_is_14 : is_made s ≡ true → QuestionWithinLimits q → (MayAssign first q.width × MayAssign last q.width → ⊥) → refusal_number_of before ≡ 14
  not_assignable_is_14 m limits off = go the_cause
    where
      go : Cause → refusal_number_of before ≡ 14
      go (unmade u is) = absurd (not_both m u)
      go (outside made beyond is) = absurd (beyond limits)
      go (not_assignable made within may is) = ap refusal_number_of is
      go (none made within low high is) = absurd (off (low, high))

  pub else_asked : is_made s ≡ true → QuestionWithinLimits q → MayAssign first q.width → MayAssign last q.width → before ≡ Ok tt
  else_asked m limits low high = go the_cause
    where
      go : Cause → before ≡ Ok tt
      go (unmade u is) = absurd (not_both m u)
      go (outside made beyond is) = absurd (beyond limits)
      go (not_assignable made within may is) = absurd (may (low, high))
      go (none made within least most is) = is

  -- ---- and nothing else gives its number
  pub is_its_number_unmade : (why : UnmadeBy) → refusal_number_of before ≡ unmade_number why → (is_made s ≡ false) × (settings_refusal s ≡ unmade_number why)
  is_its_number_unmade why e = go the_cause
    where
      go : Cause → (is_made s ≡ false) × (settings_refusal s ≡ unmade_number why)
      go (unmade u is) = (u, unmade_number_lem s u ∙ same_number (refusal_number_of before) (ap refusal_number_of is) e)
      go (outside made off is) = absurd (no_other why 21 (λ z. omega arith) (λ z. omega arith) (same_number (refusal_number_of before) e (ap refusal_number_of is)))
      go (not_assignable made limits may is) = absurd (no_other why 14 (λ z. omega arith) (λ z. omega arith) (same_number (refusal_number_of before) e (ap refusal_number_of is)))
      go (none made limits low high is) = absurd (no_other why 0 (λ z. omega arith) (λ z. omega arith) (same_number (refusal_number_of before) e (ap refusal_number_of is)))

  pub is_21_outside : refusal_number_of before ≡ 21 → (is_made s ≡ true) × (QuestionWithinLimits q → ⊥)
  is_21_outside e = go the_cause
    where
      go : Cause → (is_made s ≡ true) × (QuestionWithinLimits q → ⊥)
      go (unmade u is) = absurd (no_other (unmade_by s) 21 (λ z. omega arith) (λ z. omega arith) (same_number (refusal_number_of before) (ap refusal_number_of is) e))
      go (outside m off is) = (m, off)
      go (not_assignable made limits may is) = absurd (let z : ◌≡◌ {A = ℕ} 14 21 = same_number (refusal_number_of before) (ap refusal_number_of is) e in omega arith)
      go (none made limits low high is) = absurd (let z : ◌≡◌ {A = ℕ} 0 21 = same_number (refusal_number_of before) (ap refusal_number_of is) e in omega arith)

  pub is_14_not_assignable : refusal_number_of before ≡ 14 → (is_made s ≡ true) × QuestionWithinLimits q × (MayAssign first q.width × MayAssign last q.width → ⊥)
  is_14_not_assignable e = go the_cause
    where
      go : Cause → (is_made s ≡ true) × QuestionWithinLimits q × (MayAssign first q.width × MayAssign last q.width → ⊥)
      go (unmade u is) = absurd (no_other (unmade_by s) 14 (λ z. omega arith) (λ z. omega arith) (same_number (refusal_number_of before) (ap refusal_number_of is) e))
      go (outside made off is) = absurd (let z : ◌≡◌ {A = ℕ} 21 14 = same_number (refusal_number_of before) (ap refusal_number_of is) e in omega arith)
      go (not_assignable m limits may is) = (m, limits, may)
      go (none made limits low high is) = absurd (let z : ◌≡◌ {A = ℕ} 0 14 = same_number (refusal_number_of before) (ap refusal_number_of is) e in omega arith)

  -- what is not refused keeps to the limits
  pub asked_limits : before ≡ Ok tt → (is_made s ≡ true) × QuestionWithinLimits q × MayAssign first q.width × MayAssign last q.width
  asked_limits e = go the_cause
    where
      go : Cause → (is_made s ≡ true) × QuestionWithinLimits q × MayAssign first q.width × MayAssign last q.width
      go (unmade u is) = absurd (no_other (unmade_by s) 0 (λ z. omega arith) (λ z. omega arith) (same_number (refusal_number_of before) (ap refusal_number_of is) (ap refusal_number_of e)))
      go (outside made off is) = absurd (let z : ◌≡◌ {A = ℕ} 21 0 = same_number (refusal_number_of before) (ap refusal_number_of is) (ap refusal_number_of e) in omega arith)
      go (not_assignable made limits may is) =
          absurd (let z : ◌≡◌ {A = ℕ} 14 0 = same_number (refusal_number_of before) (ap refusal_number_of is) (ap refusal_number_of e) in omega arith)
      go (none m limits low high is) = (m, limits, low, high)

  -- what the code asks of such a question
  pub askable : (u : Unit {0}) → before ≡ Ok u → Askable (khz_at first) q
  askable u e = let l = asked_limits e in record { on_raster = khz_most first; narrow = l.2.to; within = l.1.distance }

  pub may_search : (u : Unit {0}) → before ≡ Ok u → (q.width ≤ 400000) × (q.distance ≤ 6000000)
  may_search u e = let l = asked_limits e in (l.2.to, l.1.distance)

  pub last_most : (u : Unit {0}) → before ≡ Ok u → last ≤ 3279165
  last_most u e = number_most last q.width (test_of_may last q.width (asked_limits e).3)

-- A list is refused with each number exactly where its cause holds and no earlier one does (document 02, E10).
-- Assumes nothing.
use mathlib.Core.Path.{◌≡◌, refl, sym, ap, subst, ◌∙◌}
use mathlib.Core.Logic.{◌⊎◌, inl, inr, ⊎_elim, ◌↔◌}
use mathlib.Core.Bool.{true, false}
use mathlib.Core.List.{List, [], ◌∷◌}
use Prim.Native.Nat.{ℕ}
use lib.Dec.{eqb, ltb}
use lib.ListN.{length}
use borrow.Author.Tests.{eq-eqb}
use Rattle.basics.proofs.Tests.{and_left, and_right, and_both}
use Rattle.std.specs.Prelude.{Option, None, Result, Ok, Err}
use Rattle.group_register.specs.Settings.{is_made}
use Rattle.catch_up.specs.Joining.{list_too_large, first_slot}
use Rattle.catch_up.specs.declared.JoinRefusal.{JoinRefusal}
use Rattle.catch_up.specs.declared.JoinRefusal.TheVariants.{NumberTooLarge, OutsideLimits, Gap, TwoValues}
use Rattle.catch_up.proofs.Deciding.{Decides, decided, either_decides, not_decides, less_decides, equal_decides, consecutive_decides, large_decides}
use Rattle.feeding.specs.declared.FeedRefusal.{FeedRefusal}
use Rattle.feeding.specs.declared.FeedRefusal.TheVariants.{AsList}
use Rattle.feeding.specs.declared.FirstRefused.{FirstRefused}
use Rattle.feeding.specs.Feeding.{CommitRegister, AllAre, all_are, outside_fed, begins_past, feed_checked, same_lengths, fed_unless, entries_in, fed_to, feed_all, feed_checked_for, feeding}
use Rattle.feeding.specs.FeedCauses.{OutsideFed, FeedCause, NoneBeforeFeed}
use Rattle.feeding.proofs.FeedLaws.{refused_as_checked}
use Rattle.feeding.proofs.FeedTurns.{all_same}

all_the_same : (n : ℕ) (ms : List ℕ) → AllAre n ms → all_are n ms ≡ true
unfolding all_are
all_the_same n [] c = refl
all_the_same n (m ∷ ms) c = and_both (eq-eqb n m c.0) (all_the_same n ms c.1)

same_number : (x y : JoinRefusal) → ◌≡◌ {A = Result (Unit {0}) FeedRefusal} (Err (AsList x)) (Err (AsList y)) → x ≡ y
same_number x y e = cc

not_refused : (why : FeedRefusal) → ◌≡◌ {A = Result (Unit {0}) FeedRefusal} (Err why) (Ok tt) → ⊥
not_refused why e = cc

module _ {R L E W : Type 0} (k : CommitRegister R L E W) where
  outside_decides : (l : L) → Decides (outside_fed (k.commits l) (same_lengths k l)) (OutsideFed k l)
  unfolding outside_fed
  outside_decides l =
      let n = length (k.commits l).slots in
      either_decides _ _ _ _ (less_decides 8192 n)
      (either_decides _ _ _ _ (not_decides _ _ (equal_decides n (length (k.commits l).values)))
      (either_decides _ _ _ _ (not_decides _ _ (all_same n (k.lengths l), all_the_same n (k.lengths l)))
      (not_decides _ _ (consecutive_decides (k.commits l).slots))))

  module _ (r : R) (l : L) where
    abbrev next_slot : ℕ
    next_slot = (k.group r).register.next_slot

    begins_decides : Decides (begins_past next_slot (k.commits l).slots) (FeedCause k Gap r l)
    begins_decides =
        let some = less_decides 0 (length (k.commits l).slots) in
        let past = less_decides next_slot (first_slot (k.commits l).slots) in
        let has = ltb 0 (length (k.commits l).slots) in
        let far = ltb next_slot (first_slot (k.commits l).slots) in
        (λ t. (some.0 (and_left has far t), past.0 (and_right has far t)), λ c. and_both (some.1 c.0) (past.1 c.1))

    -- a number with its cause, and no earlier one; or there is no cause
    abbrev Ends : Result (Unit {0}) FeedRefusal → Type 0
    Ends checked =
        ((why : JoinRefusal) × FeedCause k why r l × NoneBeforeFeed k why r l × (checked ≡ Err (AsList why)))
        ⊎ (((why : JoinRefusal) → FeedCause k why r l → ⊥) × (checked ≡ Ok tt))

    ends : is_made (k.group r).settings ≡ true → Ends (feed_checked_for k r l)
    unfolding feed_checked
    ends made = ⊎_elim (λ p. inl (NumberTooLarge, p.1, tt, simp (made, p.0))) fits (decided _ _ (large_decides (k.commits l)))
      where
        fits : (list_too_large (k.commits l) ≡ false) × (FeedCause k NumberTooLarge r l → ⊥) → Ends (feed_checked_for k r l)
        fits p = ⊎_elim (λ q. inl (OutsideLimits, q.1, p.1, simp (made, p.0, q.0))) inside (decided _ _ (outside_decides l))
          where
            inside : (outside_fed (k.commits l) (same_lengths k l) ≡ false) × (FeedCause k OutsideLimits r l → ⊥) → Ends (feed_checked_for k r l)
            inside q =
                ⊎_elim (λ g. inl (Gap, g.1, (p.1, q.1), simp (made, p.0, q.0, g.0))) (λ g. inr (none g.1, simp (made, p.0, q.0, g.0)))
                (decided _ _ begins_decides)
              where
                none : (FeedCause k Gap r l → ⊥) → (why : JoinRefusal) → FeedCause k why r l → ⊥
                none g NumberTooLarge c = p.1 c
                none g OutsideLimits c = q.1 c
                none g Gap c = g c
                none g TwoValues c = c

    one_cause : (x y : JoinRefusal) → FeedCause k x r l → NoneBeforeFeed k x r l → FeedCause k y r l → NoneBeforeFeed k y r l → x ≡ y
    one_cause NumberTooLarge NumberTooLarge c n d m = refl
    one_cause NumberTooLarge OutsideLimits c n d m = absurd (m c)
    one_cause NumberTooLarge Gap c n d m = absurd (m.0 c)
    one_cause NumberTooLarge TwoValues c n d m = absurd d
    one_cause OutsideLimits NumberTooLarge c n d m = absurd (n d)
    one_cause OutsideLimits OutsideLimits c n d m = refl
    one_cause OutsideLimits Gap c n d m = absurd (m.1 c)
    one_cause OutsideLimits TwoValues c n d m = absurd d
    one_cause Gap NumberTooLarge c n d m = absurd (n.0 d)
    one_cause Gap OutsideLimits c n d m = absurd (n.1 d)
    one_cause Gap Gap c n d m = refl
    one_cause Gap TwoValues c n d m = absurd d
    one_cause TwoValues y c n d m = absurd c

    checked_numbered : (why : JoinRefusal) → Ends (feed_checked_for k r l) → (feed_checked_for k r l ≡ Err (AsList why)) ↔ (FeedCause k why r l × NoneBeforeFeed k why r l)
    checked_numbered why (inl x) = (
      λ e. subst (λ (y : JoinRefusal). FeedCause k y r l × NoneBeforeFeed k y r l) (same_number x.0 why (sym x.3 ∙ e)) (x.1, x.2),
      λ c. x.3 ∙ ap (λ (y : JoinRefusal). Err (AsList y)) (one_cause x.0 why x.1 x.2 c.0 c.1),
    )
    checked_numbered why (inr x) = (λ e. absurd (not_refused (AsList why) (sym e ∙ x.1)), λ c. absurd (x.0 why c.0))

    -- of a register that is made
    pub feed_numbered : (why : JoinRefusal) → is_made (k.group r).settings ≡ true
        → ((feeding k r l).answer ≡ Err (AsList why)) ↔ (FeedCause k why r l × NoneBeforeFeed k why r l)
    feed_numbered why made =
        let checked = refused_as_checked k r l (AsList why) in
        let numbered = checked_numbered why (ends made) in
        (λ e. numbered.0 (checked.0 e), λ c. checked.1 (numbered.1 c))

    -- and where there is no cause, the list is fed
    pub fed_otherwise : is_made (k.group r).settings ≡ true
        → ((first : Option (FirstRefused W)) × ((feeding k r l).answer ≡ Ok first)) ↔ ((why : JoinRefusal) → FeedCause k why r l → ⊥)
    unfolding feeding
    fed_otherwise made = (λ f. given f.0 f.1 (ends made), λ n. gives n (ends made))
      where
        answer : Result (Unit {0}) FeedRefusal → Result (Option (FirstRefused W)) FeedRefusal
        answer checked = (fed_unless checked r (feed_all k (fed_to None r) (entries_in k l))).answer

        fed_not : (why : FeedRefusal) (first : Option (FirstRefused W)) → ◌≡◌ {A = Result (Option (FirstRefused W)) FeedRefusal} (Err why) (Ok first) → ⊥
        fed_not why first e = cc

        given : (first : Option (FirstRefused W)) → (feeding k r l).answer ≡ Ok first → Ends (feed_checked_for k r l) → (why : JoinRefusal) → FeedCause k why r l → ⊥
        given first e (inl x) = absurd (fed_not (AsList x.0) first (sym (ap answer x.3) ∙ e))
        given first e (inr x) = x.0

        gives : ((why : JoinRefusal) → FeedCause k why r l → ⊥) → Ends (feed_checked_for k r l) → (first : Option (FirstRefused W)) × ((feeding k r l).answer ≡ Ok first)
        gives n (inl x) = absurd (n x.0 x.1)
        gives n (inr x) = (_, ap answer x.1)

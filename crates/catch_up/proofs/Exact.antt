-- The laws of E10's join (document 02): each number exactly where its cause holds and no earlier one does; where there is no cause, the one list
-- of consecutive slots that holds every entry of both and no other.
-- Assumes nothing.
use Rattle.std.specs.Prelude.{Result, Ok, Err}
use mathlib.Core.Path.{◌≡◌, refl, sym, ap, subst, ◌∙◌}
use mathlib.Core.Logic.{◌⊎◌, inl, inr, ⊎_elim, ◌↔◌}
use mathlib.Core.Bool.{true, false, ◌||◌}
use mathlib.Core.List.{List, []}
use Prim.Native.Nat.{ℕ, ◌≤◌, ◌<◌}
use native.Mathlib.Nat.{not-suc-le-zero}
use native.Mathlib.Omega.{arith}
use lib.Dec.{ltb, leb}
use lib.ListN.{length, get_or}
use borrow.Author.Tests.{leb-true, leb-false}
use Rattle.basics.specs.Lists.{In}
use Rattle.basics.proofs.Tests.{either}
use Rattle.catch_up.specs.Causes.{CommitList, ListedCommit, Consecutive, listed_commits, beside, Disagree, EndsBefore, JoinCause, NoneBefore, NoCause}
use Rattle.catch_up.specs.Joining.{first_slot, list_too_large, outside, joined_list, in_order, joining, apart}
use Rattle.catch_up.specs.declared.JoinRefusal.{JoinRefusal}
use Rattle.catch_up.specs.declared.JoinRefusal.TheVariants.{NumberTooLarge, OutsideLimits, Gap, TwoValues}
use Rattle.catch_up.proofs.Answers.{order_gap, order_two, order_join}
use Rattle.catch_up.proofs.Deciding.{Decides, decided, either_decides, less_decides, large_decides, outside_decides, IsListed, listed_commit, from_first, one_by_one}
use Rattle.catch_up.proofs.Ordered.{gap_decides, two_decides, join_same, join_few, join_consecutive, join_holds}
use Rattle.catch_up.proofs.Alike.{alike}

-- ---- what a join is

-- "join into one of at most 8,192 entries holding every slot and value of both and no other", consecutive
pub record JoinOf (a b l : CommitList) : Type 0 where
  pub holds : (c : ListedCommit) → In c (listed_commits l) ↔ (In c (listed_commits a) ⊎ In c (listed_commits b))
  pub same : length l.slots ≡ length l.values
  pub consecutive : Consecutive l.slots
  pub few : length l.slots ≤ 8192

-- no slot stands there twice: as many entries as slots
pub no_slot_twice : (l : CommitList) → Consecutive l.slots → (i k : ℕ) → i < length l.slots → k < length l.slots
    → get_or l.slots i 0 ≡ get_or l.slots k 0 → i ≡ k
no_slot_twice l c i k h j e = omega (arith, from_first l.slots c i h, from_first l.slots c k j)

-- there is one such list
pub one_join : (a b l m : CommitList) → JoinOf a b l → JoinOf a b m → l ≡ m
one_join a b l m L M =
    alike l m (record { same = L.same; consecutive = L.consecutive }) (record { same = M.same; consecutive = M.consecutive })
    (λ c. (λ i. (M.holds c).1 ((L.holds c).0 i), λ i. (L.holds c).1 ((M.holds c).0 i)))

swapped_join : (a b l : CommitList) → JoinOf b a l → JoinOf a b l
swapped_join a b l J =
    record {
      holds = λ c. (λ i. ⊎_elim (λ x. inr x) (λ x. inl x) ((J.holds c).0 i), ⊎_elim (λ x. (J.holds c).1 (inr x)) (λ x. (J.holds c).1 (inl x)));
      same = J.same;
      consecutive = J.consecutive;
      few = J.few;
    }

swapped_disagree : (a b : List ListedCommit) → Disagree a b → Disagree b a
swapped_disagree a b d = (d.0, d.2, d.1, d.4, d.3, λ e. d.5 (sym e))

-- ---- the five ways

-- a number with its cause, and no earlier one; or no cause, and the join
abbrev Ends : CommitList → CommitList → ℕ → Result CommitList JoinRefusal → Type 0
Ends a b places r =
    ((why : JoinRefusal) × JoinCause why a b places × NoneBefore why a b places × (r ≡ Err why))
    ⊎ (NoCause a b places × ((l : CommitList) × (r ≡ Ok l) × JoinOf a b l))

module _ (a b : CommitList) (places : ℕ) where
  pub no_more : (JoinCause NumberTooLarge a b places → ⊥) → (JoinCause OutsideLimits a b places → ⊥) → (JoinCause Gap a b places → ⊥) → (JoinCause TwoValues a b places → ⊥)
      → NoCause a b places
  no_more p q r s NumberTooLarge = p
  no_more p q r s OutsideLimits = q
  no_more p q r s Gap = r
  no_more p q r s TwoValues = s

  module _ (fits : JoinCause NumberTooLarge a b places → ⊥) (inside : JoinCause OutsideLimits a b places → ⊥) where
    A : IsListed a
    A = listed_commit a (λ o. inside (inl o))

    B : IsListed b
    B = listed_commit b (λ o. inside (inr (inl o)))

    -- a begins no later than b
    a_begins : first_slot a.slots ≤ first_slot b.slots → Ends a b places (in_order a b)
    a_begins order = ⊎_elim (λ g. inl (Gap, g.1, (fits, inside), order_gap a b g.0)) no_gap (decided _ _ (gap_decides a b A B order))
      where
        no_gap : (apart a b ≡ false) × (JoinCause Gap a b places → ⊥) → Ends a b places (in_order a b)
        no_gap g =
            ⊎_elim (λ d. inl (TwoValues, d.1, (fits, inside, g.1), order_two a b g.0 d.0))
            (λ d. inr (
              no_more fits inside g.1 d.1,
              (
                joined_list a b,
                order_join a b g.0 d.0,
                record {
                  holds = join_holds a b A B order g.0 d.0;
                  same = join_same a b A B order g.0 d.0;
                  consecutive = join_consecutive a b A B order g.0 d.0;
                  few = join_few a b A B order g.0 d.0;
                },
              ),
            ))
            (decided _ _ (two_decides a b A B order))

    -- b begins no later than a
    b_begins : first_slot b.slots ≤ first_slot a.slots → Ends a b places (in_order b a)
    b_begins order = ⊎_elim (λ g. inl (Gap, ⊎_elim (λ x. inr x) (λ x. inl x) g.1, (fits, inside), order_gap b a g.0)) no_gap (decided _ _ (gap_decides b a B A order))
      where
        no_gap : (apart b a ≡ false) × (EndsBefore b.slots a.slots ⊎ EndsBefore a.slots b.slots → ⊥) → Ends a b places (in_order b a)
        no_gap g =
            let far : JoinCause Gap a b places → ⊥ = ⊎_elim (λ x. g.1 (inr x)) (λ x. g.1 (inl x)) in
            ⊎_elim (λ d. inl (TwoValues, swapped_disagree (listed_commits b) (listed_commits a) d.1, (fits, inside, far), order_two b a g.0 d.0))
            (λ d. inr (
              no_more fits inside far (λ x. d.1 (swapped_disagree (listed_commits a) (listed_commits b) x)),
              (
                joined_list b a,
                order_join b a g.0 d.0,
                swapped_join a b (joined_list b a)
                    (record {
                      holds = join_holds b a B A order g.0 d.0;
                      same = join_same b a B A order g.0 d.0;
                      consecutive = join_consecutive b a B A order g.0 d.0;
                      few = join_few b a B A order g.0 d.0;
                    }),
              ),
            ))
            (decided _ _ (two_decides b a B A order))

  large : Decides (list_too_large a || list_too_large b) (JoinCause NumberTooLarge a b places)
  large = either_decides _ _ _ _ (large_decides a) (large_decides b)

  out : Decides (outside a || (outside b || ltb places 8192)) (JoinCause OutsideLimits a b places)
  out = either_decides _ _ _ _ (outside_decides a) (either_decides _ _ _ _ (outside_decides b) (less_decides places 8192))

  pub ends : Ends a b places (joining a b places)
  unfolding joining
  ends = ⊎_elim (λ p. inl (NumberTooLarge, p.1, tt, simp p.0)) fits (decided _ _ large)
    where
      fits : ((list_too_large a || list_too_large b) ≡ false) × (JoinCause NumberTooLarge a b places → ⊥) → Ends a b places (joining a b places)
      fits p = ⊎_elim (λ q. inl (OutsideLimits, q.1, p.1, simp (p.0, q.0))) inside (decided _ _ out)
        where
          inside : ((outside a || (outside b || ltb places 8192)) ≡ false) × (JoinCause OutsideLimits a b places → ⊥) → Ends a b places (joining a b places)
          inside q =
              ⊎_elim (λ (t : leb (first_slot a.slots) (first_slot b.slots) ≡ true). simp (p.0, q.0, t) (a_begins p.1 q.1 (leb-true _ _ t)))
              (λ (t : leb (first_slot a.slots) (first_slot b.slots) ≡ false). simp (p.0, q.0, t) (b_begins p.1 q.1 (omega (arith, leb-false (first_slot a.slots) (first_slot b.slots) t))))
              (either (leb (first_slot a.slots) (first_slot b.slots)))

-- ---- the laws

-- one number has the first cause
first_cause_lem : (a b : CommitList) (places : ℕ) (x y : JoinRefusal) → JoinCause x a b places → NoneBefore x a b places → JoinCause y a b places → NoneBefore y a b places → x ≡ y
first_cause_lem a b places NumberTooLarge NumberTooLarge c n d m = refl
first_cause_lem a b places NumberTooLarge OutsideLimits c n d m = absurd (m c)
first_cause_lem a b places NumberTooLarge Gap c n d m = absurd (m.0 c)
first_cause_lem a b places NumberTooLarge TwoValues c n d m = absurd (m.0 c)
first_cause_lem a b places OutsideLimits NumberTooLarge c n d m = absurd (n d)
first_cause_lem a b places OutsideLimits OutsideLimits c n d m = refl
first_cause_lem a b places OutsideLimits Gap c n d m = absurd (m.1 c)
first_cause_lem a b places OutsideLimits TwoValues c n d m = absurd (m.1 c)
first_cause_lem a b places Gap NumberTooLarge c n d m = absurd (n.0 d)
first_cause_lem a b places Gap OutsideLimits c n d m = absurd (n.1 d)
first_cause_lem a b places Gap Gap c n d m = refl
first_cause_lem a b places Gap TwoValues c n d m = absurd (m.2 c)
first_cause_lem a b places TwoValues NumberTooLarge c n d m = absurd (n.0 d)
first_cause_lem a b places TwoValues OutsideLimits c n d m = absurd (n.1 d)
first_cause_lem a b places TwoValues Gap c n d m = absurd (n.2 d)
first_cause_lem a b places TwoValues TwoValues c n d m = refl

same_refusal : (r : Result CommitList JoinRefusal) (x y : JoinRefusal) → r ≡ Err x → r ≡ Err y → x ≡ y
same_refusal r x y p q = cc

same_list : (r : Result CommitList JoinRefusal) (l m : CommitList) → r ≡ Ok l → r ≡ Ok m → l ≡ m
same_list r l m p q = cc

not_joined : (r : Result CommitList JoinRefusal) (x : JoinRefusal) (l : CommitList) → r ≡ Err x → r ≡ Ok l → ⊥
not_joined r x l p q = cc

module _ (a b : CommitList) (places : ℕ) where
  -- a number is given exactly where its cause holds and no earlier one does
  pub number_joined : (why : JoinRefusal) → (joining a b places ≡ Err why) ↔ (JoinCause why a b places × NoneBefore why a b places)
  number_joined why = (λ e. given e (ends a b places), λ c. gives c (ends a b places))
    where
      given : joining a b places ≡ Err why → Ends a b places (joining a b places) → JoinCause why a b places × NoneBefore why a b places
      given e (inl r) = subst (λ (x : JoinRefusal). JoinCause x a b places × NoneBefore x a b places) (same_refusal _ _ _ r.3 e) (r.1, r.2)
      given e (inr j) = absurd (not_joined _ why _ e j.1.1)

      gives : JoinCause why a b places × NoneBefore why a b places → Ends a b places (joining a b places) → joining a b places ≡ Err why
      gives c (inl r) = r.3 ∙ ap Err (first_cause_lem a b places r.0 why r.1 r.2 c.0 c.1)
      gives c (inr j) = absurd (j.0 why c.0)

  -- a list is given exactly where there is no cause
  pub joined_otherwise : ((l : CommitList) × (joining a b places ≡ Ok l)) ↔ NoCause a b places
  joined_otherwise = (λ j. given j (ends a b places), λ n. gives n (ends a b places))
    where
      given : (l : CommitList) × (joining a b places ≡ Ok l) → Ends a b places (joining a b places) → NoCause a b places
      given j (inl r) = absurd (not_joined _ r.0 _ r.3 j.1)
      given j (inr k) = k.0

      gives : NoCause a b places → Ends a b places (joining a b places) → (l : CommitList) × (joining a b places ≡ Ok l)
      gives n (inl r) = absurd (n r.0 r.1)
      gives n (inr k) = (k.1.0, k.1.1)

  -- and it is the join of the two
  pub is_join : (l : CommitList) → joining a b places ≡ Ok l → JoinOf a b l
  is_join l e = go (ends a b places)
    where
      go : Ends a b places (joining a b places) → JoinOf a b l
      go (inl r) = absurd (not_joined _ r.0 _ r.3 e)
      go (inr k) = subst (λ (x : CommitList). JoinOf a b x) (same_list _ _ _ k.1.1 e) k.1.2

-- ---- either list first

swapped_cause : (a b : CommitList) (places : ℕ) (why : JoinRefusal) → JoinCause why a b places → JoinCause why b a places
swapped_cause a b places NumberTooLarge c = ⊎_elim (λ x. inr x) (λ x. inl x) c
swapped_cause a b places OutsideLimits c = ⊎_elim (λ x. inr (inl x)) (⊎_elim (λ x. inl x) (λ x. inr (inr x))) c
swapped_cause a b places Gap c = ⊎_elim (λ x. inr x) (λ x. inl x) c
swapped_cause a b places TwoValues c = swapped_disagree (listed_commits a) (listed_commits b) c

swapped_none : (a b : CommitList) (places : ℕ) (why : JoinRefusal) → NoneBefore why a b places → NoneBefore why b a places
swapped_none a b places NumberTooLarge n = tt
swapped_none a b places OutsideLimits n = λ c. n (swapped_cause b a places NumberTooLarge c)
swapped_none a b places Gap n = (λ c. n.0 (swapped_cause b a places NumberTooLarge c), λ c. n.1 (swapped_cause b a places OutsideLimits c))
swapped_none a b places TwoValues n =
    (λ c. n.0 (swapped_cause b a places NumberTooLarge c), λ c. n.1 (swapped_cause b a places OutsideLimits c), λ c. n.2 (swapped_cause b a places Gap c))

pub symmetric : (a b : CommitList) (places : ℕ) → joining a b places ≡ joining b a places
symmetric a b places = go (ends a b places)
  where
    go : Ends a b places (joining a b places) → joining a b places ≡ joining b a places
    go (inl r) = r.3 ∙ sym ((number_joined b a places r.0).1 (swapped_cause a b places r.0 r.1, swapped_none a b places r.0 r.2))
    go (inr k) =
        let other = (joined_otherwise b a places).1 (λ why c. k.0 why (swapped_cause b a places why c)) in
        k.1.1 ∙ ap Ok (one_join a b k.1.0 other.0 k.1.2 (swapped_join a b other.0 (is_join b a places other.0 other.1))) ∙ sym other.1

-- ---- "An empty list joined to another gives the other"

abbrev pub nothing_joined : CommitList
nothing_joined = record { slots = []; values = [] }

module _ (b : CommitList) (places : ℕ) (fits : JoinCause NumberTooLarge nothing_joined b places → ⊥) (inside : JoinCause OutsideLimits nothing_joined b places → ⊥) where
  other : JoinOf nothing_joined b b
  unfolding beside
  other =
      let B = listed_commit b (λ o. inside (inr (inl o))) in
      let few = B.few in
      record {
        holds = λ c. (λ i. inr i, ⊎_elim (λ i. absurd i) (λ i. i));
        same = B.same;
        consecutive = one_by_one b.slots B.at;
        few = omega arith;
      }

  no_cause : NoCause nothing_joined b places
  unfolding beside
  no_cause = no_more nothing_joined b places fits inside (⊎_elim (λ g. absurd (not-suc-le-zero g.0)) (λ g. absurd (not-suc-le-zero g.1))) (λ d. d.3)

  pub empty_first : joining nothing_joined b places ≡ Ok b
  empty_first =
      let j = (joined_otherwise nothing_joined b places).1 no_cause in
      j.1 ∙ ap Ok (one_join nothing_joined b j.0 b (is_join nothing_joined b places j.0 j.1) other)

  pub empty_second : joining b nothing_joined places ≡ Ok b
  empty_second = symmetric b nothing_joined places ∙ empty_first

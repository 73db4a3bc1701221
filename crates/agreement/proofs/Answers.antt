-- The answers on the fast path stay true: at first there are none, and then one more.
-- Assumes nothing.
use Rattle.std.specs.Bool.{passes}
use Prim.Native.Nat.{ℕ, zero, suc, ◌+◌, ◌-◌, ◌≤◌, ◌<◌}
use mathlib.Core.Path.{◌≡◌, refl, sym, ◌∙◌, subst, ap}
use mathlib.Core.Bool.{Bool, true, false, not, ◌&&◌, ◌||◌, cond}
use mathlib.Core.Logic.{◌⊎◌, inl, inr}
use lib.Dec.{T, eqb, T_not}
use native.Mathlib.Omega.{arith}
use native.Mathlib.Decide.{ℕ_discrete}
use borrow.Author.Tests.{eqb-true, eq-eqb, ne_eqb, not-true}
use Rattle.basics.proofs.Tests.{not_both, or_cases, or_left, or_right}
use Rattle.basics.specs.sets.Sets.{one, count}
use Rattle.basics.proofs.sets.Counting.{count_ext, count_one_more}
use Rattle.agreement.specs.Voting.{Voters, World, Consistent}
use Rattle.agreement.specs.Model.{ModelAnswers, add, model_no_answers, model_score_after, model_with_answer}
use Rattle.agreement.proofs.Tests.{is_true}
use Rattle.agreement.proofs.Voting.{count_within}
use Rattle.agreement.proofs.Growth.{names, TrueAnswers}

-- ---- sets with one member more

pub add_case : (m : ℕ) (f : ℕ → Bool) (k : ℕ) → T (add m f k) → (k ≡ m) ⊎ T (f k)
add_case m f k t = go (or_cases (eqb k m) (f k) (is_true (add m f k) t))
  where
    go : (eqb k m ≡ true) ⊎ (f k ≡ true) → (k ≡ m) ⊎ T (f k)
    go (inl e) = inl (eqb-true k m e)
    go (inr e) = inr (passes (f k) e)

pub add_self : (m : ℕ) (f : ℕ → Bool) → T (add m f m)
add_self m f = passes (add m f m) (or_left (f m) (eq-eqb m m refl))

pub add_old : (m : ℕ) (f : ℕ → Bool) (k : ℕ) → T (f k) → T (add m f k)
add_old m f k t = passes (add m f k) (or_right (eqb k m) (is_true (f k) t))

-- ---- counts

-- nothing passes a test that always fails
pub count_none : (n : ℕ) → count (λ m. false) n ≡ 0
unfolding count
count_none zero = refl
count_none (suc n) = let e = count_none n in omega arith

pub count_nobody : (f : ℕ → Bool) (n : ℕ) → ((m : ℕ) → T (f m) → ⊥) → count f n ≡ 0
count_nobody f n h = let z = count_none n in let le = count_within f (λ m. false) n h in omega arith

-- sizes, added up member by member
pub count_sum : (e f g h k : ℕ → Bool) (n : ℕ) → ((m : ℕ) → one (e m) + one (f m) + one (g m) ≤ one (h m) + one (k m))
    → count e n + count f n + count g n ≤ count h n + count k n
unfolding count
count_sum e f g h k zero p = omega arith
count_sum e f g h k (suc n) p = let a = p n in let b = count_sum e f g h k n p in omega arith

-- ---- answers

pub no_answers_true : (g : Voters) (w : World) (i s : ℕ) → TrueAnswers g w i s model_no_answers
no_answers_true g w i s = record {
  name = λ m. 0;
  live = λ m t. absurd t;
  came = λ m t. absurd t;
  says = λ m t. absurd t;
  proposer = λ m t. absurd t;
  named = λ p t. absurd t;
  preaccepts = sym (count_none g.count);
  scored = λ p. let e = count_none g.count in omega arith;
}

module _ (g : Voters) (w : World) (ok : Consistent g w) (i s : ℕ) (f : ModelAnswers) (o : TrueAnswers g w i s f) where
  -- what an answer names was proposed by the proposer that it names
  pub proposer_first : (p : ℕ) → T (f.proposers p) → w.First p s (suc p) (f.values p)
  proposer_first p t =
      let k = o.named p t in
      subst (λ (q : ℕ). w.First q s (suc q) (f.values q)) k.2 (ok.first_owner k.0 s (o.name k.0) (f.values (o.name k.0)) (o.says k.0 k.1))

  -- ---- one answer more: m has come to i's round, and names p with the value v
  module _ (m p v : ℕ) (new : T (not (f.answered m))) (live-m : T (g.live m)) (below : m < g.count) (came-m : w.Reached m s (suc i)) (first : w.First m s (suc p) v) where
    abbrev f⁺ : ModelAnswers
    f⁺ = model_with_answer i m p v f

    abbrev name⁺ : ℕ → ℕ
    name⁺ k = cond (eqb k m) p (o.name k)

    -- ---- what each member names
    old_name : (k : ℕ) → T (f.answered k) → name⁺ k ≡ o.name k
    old_name k t = ap (λ (b : Bool). cond b p (o.name k)) (ne_eqb k m (λ e. T_not (f.answered m) new (subst (λ (j : ℕ). T (f.answered j)) e t)))

    new_name : (k : ℕ) → k ≡ m → name⁺ k ≡ p
    new_name k e = ap (λ (b : Bool). cond b p (o.name k)) (eq-eqb k m e)

    -- ---- the value of each proposer
    same_value_lem : (q : ℕ) → f⁺.values q ≡ f.values q ⊎ ((q ≡ p) × (f⁺.values q ≡ v))
    same_value_lem q = go (ℕ_discrete q p)
      where
        go : Dec (q ≡ p) → f⁺.values q ≡ f.values q ⊎ ((q ≡ p) × (f⁺.values q ≡ v))
        go (yes e) = inr (e, ap (λ (b : Bool). cond b v (f.values q)) (eq-eqb q p e))
        go (no h) = inl (ap (λ (b : Bool). cond b v (f.values q)) (ne_eqb q p h))

    new_value : f⁺.values p ≡ v
    new_value = ap (λ (b : Bool). cond b v (f.values p)) (eq-eqb p p refl)

    old_says : (k : ℕ) → T (f.answered k) → w.First k s (suc (o.name k)) (f⁺.values (o.name k))
    old_says k t = go (same_value_lem (o.name k))
      where
        says : w.First k s (suc (o.name k)) (f.values (o.name k))
        says = o.says k t

        go : f⁺.values (o.name k) ≡ f.values (o.name k) ⊎ ((o.name k ≡ p) × (f⁺.values (o.name k) ≡ v)) → w.First k s (suc (o.name k)) (f⁺.values (o.name k))
        go (inl e) = subst (λ (u : ℕ). w.First k s (suc (o.name k)) u) (sym e) says
        go (inr e) =
            let own : w.First p s (suc p) (f.values (o.name k)) =
            subst (λ (q : ℕ). w.First q s (suc q) (f.values (o.name k))) e.0 (ok.first_owner k s (o.name k) (f.values (o.name k)) says) in
            let same : f.values (o.name k) ≡ v = (ok.first_once p s (suc p) (f.values (o.name k)) (suc p) v own (ok.first_owner m s p v first)).1 in
            subst (λ (u : ℕ). w.First k s (suc (o.name k)) u) (same ∙ sym e.1) says

    says : (k : ℕ) → (k ≡ m) ⊎ T (f.answered k) → w.First k s (suc (name⁺ k)) (f⁺.values (name⁺ k))
    says k (inl e) =
        subst (λ (q : ℕ). w.First k s (suc q) (f⁺.values q)) (sym (new_name k e))
        (subst (λ (u : ℕ). w.First k s (suc p) u) (sym new_value) (subst (λ (j : ℕ). w.First j s (suc p) v) (sym e) first))
    says k (inr t) = subst (λ (q : ℕ). w.First k s (suc q) (f⁺.values q)) (sym (old_name k t)) (old_says k t)

    -- ---- the figures
    others_same : (q k : ℕ) → (m ≡ k → ⊥) → names f⁺ name⁺ q k ≡ names f o.name q k
    others_same q k ne = ap (λ (b : Bool). (b || f.answered k) && eqb (cond b p (o.name k)) q) (ne_eqb k m (λ e. ne (sym e)))

    new_names : (q : ℕ) → names f⁺ name⁺ q m ≡ eqb p q
    new_names q = ap (λ (b : Bool). (b || f.answered m) && eqb (cond b p (o.name m)) q) (eq-eqb m m refl)

    old_names : (q : ℕ) → names f o.name q m ≡ false
    old_names q = ap (λ (b : Bool). b && eqb (o.name m) q) (not-true (f.answered m) (is_true (not (f.answered m)) new))

    counted : (q : ℕ) → count (names f⁺ name⁺ q) g.count ≡ count (names f o.name q) g.count + one (eqb p q)
    counted q = go (eqb p q) refl
      where
        pointwise : eqb p q ≡ false → (k : ℕ) → Dec (m ≡ k) → names f⁺ name⁺ q k ≡ names f o.name q k
        pointwise e k (yes d) = subst (λ (j : ℕ). names f⁺ name⁺ q j ≡ names f o.name q j) d (new_names q ∙ e ∙ sym (old_names q))
        pointwise e k (no n) = others_same q k n

        go : (b : Bool) → eqb p q ≡ b → count (names f⁺ name⁺ q) g.count ≡ count (names f o.name q) g.count + one b
        go true e = count_one_more (names f o.name q) (names f⁺ name⁺ q) m (old_names q) (new_names q ∙ e) (others_same q) g.count below
        go false e =
            let same = count_ext (names f⁺ name⁺ q) (names f o.name q) g.count (λ k l. pointwise e k (ℕ_discrete m k)) in omega arith

    preaccepts : f⁺.preaccepted ≡ count (names f⁺ name⁺ i) g.count
    preaccepts = go (eqb p i) (counted i)
      where
        go : (b : Bool) → count (names f⁺ name⁺ i) g.count ≡ count (names f o.name i) g.count + one b
            → cond b (suc f.preaccepted) f.preaccepted ≡ count (names f⁺ name⁺ i) g.count
        go true e = let z = o.preaccepts in omega arith
        go false e = let z = o.preaccepts in omega arith

    -- the own answer of a proposer, or another's
    score_named : (b : Bool) → eqb m p ≡ b → model_score_after m p (f.scores p) + (one (names f⁺ name⁺ p p) + one (names f⁺ name⁺ p p)) ≡ 2 + count (names f⁺ name⁺ p) g.count
    score_named true e =
        let d : m ≡ p = eqb-true m p e in
        let now : one (names f⁺ name⁺ p p) ≡ 1 = ap one (subst (λ (j : ℕ). names f⁺ name⁺ p j ≡ true) d (new_names p ∙ eq-eqb p p refl)) in
        let was : one (names f o.name p p) ≡ 0 = ap one (subst (λ (j : ℕ). names f o.name p j ≡ false) d (old_names p)) in
        let step : one (eqb p p) ≡ 1 = ap one (eq-eqb p p refl) in
        let score : model_score_after m p (f.scores p) ≡ f.scores p - 1 = simp e in
        let c = counted p in let z = o.scored p in omega arith
    score_named false e =
        let ne : m ≡ p → ⊥ = λ d. not_both (eq-eqb m p d) e in
        let same : one (names f⁺ name⁺ p p) ≡ one (names f o.name p p) = ap one (others_same p p ne) in
        let step : one (eqb p p) ≡ 1 = ap one (eq-eqb p p refl) in
        let score : model_score_after m p (f.scores p) ≡ suc (f.scores p) = simp e in
        let c = counted p in let z = o.scored p in omega arith

    scored : (q : ℕ) → f⁺.scores q + (one (names f⁺ name⁺ q q) + one (names f⁺ name⁺ q q)) ≡ 2 + count (names f⁺ name⁺ q) g.count
    scored q = go (ℕ_discrete q p)
      where
        kept : (q ≡ p → ⊥) → Dec (m ≡ q) → one (names f⁺ name⁺ q q) ≡ one (names f o.name q q)
        kept ne (yes d) = ap one (subst (λ (j : ℕ). names f⁺ name⁺ q j ≡ names f o.name q j) d (new_names q ∙ ne_eqb p q (λ e. ne (sym e)) ∙ sym (old_names q)))
        kept ne (no n) = ap one (others_same q q n)

        go : Dec (q ≡ p) → f⁺.scores q + (one (names f⁺ name⁺ q q) + one (names f⁺ name⁺ q q)) ≡ 2 + count (names f⁺ name⁺ q) g.count
        go (yes e) =
            subst (λ (j : ℕ). f⁺.scores j + (one (names f⁺ name⁺ j j) + one (names f⁺ name⁺ j j)) ≡ 2 + count (names f⁺ name⁺ j) g.count) (sym e)
            (ap (λ (b : Bool). cond b (model_score_after m p (f.scores p)) (f.scores p) + (one (names f⁺ name⁺ p p) + one (names f⁺ name⁺ p p))) (eq-eqb p p refl) ∙ score_named (eqb m p) refl)
        go (no ne) =
            let same = kept ne (ℕ_discrete m q) in
            let score : f⁺.scores q ≡ f.scores q = ap (λ (b : Bool). cond b (model_score_after m p (f.scores p)) (f.scores q)) (ne_eqb q p ne) in
            let step : one (eqb p q) ≡ 0 = ap one (ne_eqb p q (λ e. ne (sym e))) in
            let c = counted q in let z = o.scored q in omega arith

    pub answer_true : TrueAnswers g w i s f⁺
    answer_true = record {
      name = name⁺;
      live = λ k t. live k (add_case m f.answered k t);
      came = λ k t. came k (add_case m f.answered k t);
      says = λ k t. says k (add_case m f.answered k t);
      proposer = λ k t. proposer k (add_case m f.answered k t);
      named = λ q t. named q (add_case p f.proposers q t);
      preaccepts = preaccepts;
      scored = scored;
    }
      where
        live : (k : ℕ) → (k ≡ m) ⊎ T (f.answered k) → T (g.live k)
        live k (inl e) = subst (λ (j : ℕ). T (g.live j)) (sym e) live-m
        live k (inr t) = o.live k t

        came : (k : ℕ) → (k ≡ m) ⊎ T (f.answered k) → w.Reached k s (suc i)
        came k (inl e) = subst (λ (j : ℕ). w.Reached j s (suc i)) (sym e) came-m
        came k (inr t) = o.came k t

        proposer : (k : ℕ) → (k ≡ m) ⊎ T (f.answered k) → T (add p f.proposers (name⁺ k))
        proposer k (inl e) = subst (λ (q : ℕ). T (add p f.proposers q)) (sym (new_name k e)) (add_self p f.proposers)
        proposer k (inr t) = subst (λ (q : ℕ). T (add p f.proposers q)) (sym (old_name k t)) (add_old p f.proposers (o.name k) (o.proposer k t))

        named : (q : ℕ) → (q ≡ p) ⊎ T (f.proposers q) → (k : ℕ) × T (add m f.answered k) × (name⁺ k ≡ q)
        named q (inl e) = (m, add_self m f.answered, new_name m refl ∙ sym e)
        named q (inr t) = let k = o.named q t in (k.0, add_old m f.answered k.0 k.1, old_name k.0 k.1 ∙ k.2)

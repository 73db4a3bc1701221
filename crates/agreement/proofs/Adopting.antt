-- The value of a best proposer is safe to adopt, whichever of the best is taken: a proposer that may yet commit its own value on the fast path
-- has the best score, alone.
-- Assumes nothing.
use Rattle.std.specs.Bool.{passes}
use Prim.Native.Nat.{ℕ, suc, ◌+◌, ◌≤◌, ◌<◌}
use mathlib.Core.Path.{◌≡◌, refl, sym, ◌∙◌, subst, ap}
use mathlib.Core.Bool.{Bool, true, false, not, ◌&&◌, ◌||◌}
use mathlib.Core.Logic.{◌⊎◌, inl, inr}
use lib.Dec.{T, eqb, eqb→eq, T_not}
use native.Mathlib.Omega.{arith}
use native.Mathlib.Decide.{ℕ_discrete}
use borrow.Author.Tests.{eq-eqb}
use Rattle.basics.specs.sets.Sets.{one, count}
use Rattle.basics.proofs.sets.Counting.{count_some}
use Rattle.agreement.specs.Voting.{Voters, World, NoFastQuorum, Clear, Consistent, VotersRules}
use Rattle.agreement.specs.Model.{ModelAnswers}
use Rattle.agreement.proofs.Tests.{both_hold}
use Rattle.agreement.proofs.Growth.{names, TrueAnswers}
use Rattle.agreement.proofs.Answers.{count_none, count_nobody, count_sum, proposer_first}

-- who may yet hold p's proposal first: a live member that has not answered, but for those left out (e), and one that has answered for p (a)
abbrev rest : Bool → Bool → Bool → Bool → Bool
rest e l m a = (l && (not m && not e)) || (m && a)

rest_one : (e l m a : Bool) → (T e → T l) → (T e → T (not m)) → (T m → T l) → one e + one (rest e l m a) + one m ≤ one l + one (m && a)
rest_one true true true a f g h = absurd (g tt)
rest_one true true false a f g h = omega arith
rest_one true false m a f g h = absurd (f tt)
rest_one false true true true f g h = omega arith
rest_one false true true false f g h = omega arith
rest_one false true false a f g h = omega arith
rest_one false false true a f g h = absurd (h tt)
rest_one false false false a f g h = omega arith

-- a live member is in the rest, or is left out, or has answered for another
rest_case : (e l m a : Bool) → T l → T (rest e l m a) ⊎ (T e ⊎ (T m × T (not a)))
rest_case true true true true t = inl tt
rest_case true true true false t = inr (inl tt)
rest_case true true false a t = inr (inl tt)
rest_case false true true true t = inl tt
rest_case false true true false t = inr (inr (tt, tt))
rest_case false true false a t = inl tt
rest_case e false m a t = absurd t

-- an answer for one proposer is for no other
apart : (m a b : Bool) → (T a → T b → ⊥) → one false + one (m && a) + one (m && b) ≤ one m + one false
apart true true true f = absurd (f tt tt)
apart true true false f = omega arith
apart true false b f = one_bound b
  where
    one_bound : (b : Bool) → one false + one false + one b ≤ one true + one false
    one_bound true = omega arith
    one_bound false = omega arith
apart false a b f = omega arith

module _ (g : Voters) (rules : VotersRules g) (fast : T g.fast_path) (w : World) (ok : Consistent g w) (i s : ℕ) (f : ModelAnswers) (o : TrueAnswers g w i s f)
    (enough : g.quorum ≤ count f.answered g.count) (b : ℕ) (named-b : T (f.proposers b)) (best : (q : ℕ) → T (f.proposers q) → f.scores q ≤ f.scores b) where
  abbrev for : ℕ → ℕ → Bool
  for = names f o.name

  first_b : w.First b s (suc b) (f.values b)
  first_b = proposer_first g w ok i s f o b named-b

  -- a proposer p other than b that has not answered
  module _ (p : ℕ) (silent : T (not (f.answered p))) (ne : p ≡ b → ⊥) where
    -- those left out, e, have not answered and hold another proposal first; the rest are too few for a fast quorum
    blocked_by : (e : ℕ → Bool) → ((m : ℕ) → T (e m) → T (g.live m) × T (not (f.answered m)) × ((c : ℕ) × (u : ℕ) × w.First m s c u × (c ≡ suc p → ⊥)))
        → (count e g.count + count (λ m. rest (e m) (g.live m) (f.answered m) (eqb (o.name m) p)) g.count + count f.answered g.count ≤ count g.live g.count + count (for p) g.count
        → count (λ m. rest (e m) (g.live m) (f.answered m) (eqb (o.name m) p)) g.count < g.fast_quorum)
        → NoFastQuorum g w s p
    blocked_by e out few = (
      left,
      few (count_sum e left f.answered g.live (for p) g.count
          (λ m. rest_one (e m) (g.live m) (f.answered m) (eqb (o.name m) p) (λ t. (out m t).0) (λ t. (out m t).1) (o.live m))),
      λ m t. go m (rest_case (e m) (g.live m) (f.answered m) (eqb (o.name m) p) t),
    )
      where
        left : ℕ → Bool
        left m = rest (e m) (g.live m) (f.answered m) (eqb (o.name m) p)

        go : (m : ℕ) → T (left m) ⊎ (T (e m) ⊎ (T (f.answered m) × T (not (eqb (o.name m) p)))) → T (left m) ⊎ ((c : ℕ) × (u : ℕ) × w.First m s c u × (c ≡ suc p → ⊥))
        go m (inl t) = inl t
        go m (inr (inl t)) = inr (out m t).2
        go m (inr (inr t)) = inr (
          suc (o.name m),
          f.values (o.name m),
          o.says m t.0,
          λ q. let d : o.name m ≡ p = omega arith in T_not (eqb (o.name m) p) t.1 (passes (eqb (o.name m) p) (eq-eqb (o.name m) p d)),
        )

    -- a proposer that has not answered has two more than those that name it
    silent_score : (q : ℕ) → T (not (f.answered q)) → f.scores q ≡ 2 + count (for q) g.count
    silent_score q t = let z : one (for q q) ≡ 0 = ap one (none (f.answered q) t) in let k = o.scored q in omega arith
      where
        none : (c : Bool) → T (not c) → (c && eqb (o.name q) q) ≡ false
        none true t = absurd t
        none false t = refl

    -- one that has answered names itself, and has as many as name it
    answered_score : T (f.answered b) → f.scores b ≡ count (for b) g.count
    answered_score t =
        let same = (ok.first_once b s (suc (o.name b)) (f.values (o.name b)) (suc b) (f.values b) (o.says b t) first_b).0 in
        let d : o.name b ≡ b = omega arith in
        let z : one (for b b) ≡ 1 = ap one (both (f.answered b) t d) in
        let k = o.scored b in omega arith
      where
        both : (c : Bool) → T c → o.name b ≡ b → (c && eqb (o.name b) b) ≡ true
        both true t d = eq-eqb (o.name b) b d
        both false t d = absurd t

    both_named : count (λ (m : ℕ). false) g.count + count (for b) g.count + count (for p) g.count ≤ count f.answered g.count + count (λ (m : ℕ). false) g.count
    both_named = count_sum (λ m. false) (for b) (for p) f.answered (λ m. false) g.count
        (λ m. apart (f.answered m) (eqb (o.name m) b) (eqb (o.name m) p) (λ t u. ne (sym (eqb→eq (o.name m) p u) ∙ eqb→eq (o.name m) b t)))

    -- b has answered: the answers for b are two more than those for p
    if_answered : f.scores p ≤ f.scores b → T (f.answered b) → NoFastQuorum g w s p
    if_answered le t = blocked_by (λ m. false) (λ m t. absurd t) (λ h.
        let sp = silent_score p silent in let sb = answered_score t in let two = both_named in let z = count_none g.count in
        let c1 = rules.few in let c2 = rules.fast_enough fast in omega arith)

    -- b has not: the answers for b are no fewer than those for p, and b itself is left out
    if_silent : f.scores p ≤ f.scores b → T (not (f.answered b)) → NoFastQuorum g w s p
    if_silent le t = blocked_by (λ m. eqb m b) (λ m e. out m (eqb→eq m b e)) (λ h.
        let sp = silent_score p silent in let sb = silent_score b t in let two = both_named in let z = count_none g.count in
        let alone = count_some (λ m. eqb m b) b (eq-eqb b b refl) g.count (rules.below fast b (ok.first_live b s (suc b) (f.values b) first_b)) in
        let c1 = rules.few in let c2 = rules.fast_enough fast in omega arith)
      where
        out : (m : ℕ) → m ≡ b → T (g.live m) × T (not (f.answered m)) × ((c : ℕ) × (u : ℕ) × w.First m s c u × (c ≡ suc p → ⊥))
        out m e = subst (λ (j : ℕ). T (g.live j) × T (not (f.answered j)) × ((c : ℕ) × (u : ℕ) × w.First j s c u × (c ≡ suc p → ⊥))) (sym e)
            (ok.first_live b s (suc b) (f.values b) first_b, t, (suc b, f.values b, first_b, λ q. ne (omega arith)))

    -- nobody has answered for p
    if_unnamed : T (not (f.proposers p)) → NoFastQuorum g w s p
    if_unnamed t = blocked_by (λ m. false) (λ m t. absurd t) (λ h.
        let none = count_nobody (for p) g.count (λ m u. unnamed m (both_hold (f.answered m) (eqb (o.name m) p) u)) in let z = count_none g.count in
        let c1 = rules.few in let c2 = rules.majority in let c3 = rules.fast_large fast in omega arith)
      where
        unnamed : (m : ℕ) → T (f.answered m) × T (eqb (o.name m) p) → ⊥
        unnamed m u = T_not (f.proposers p) t (subst (λ (q : ℕ). T (f.proposers q)) (eqb→eq (o.name m) p u.1) (o.proposer m u.0))

    blocked : NoFastQuorum g w s p
    blocked = go (f.proposers p) refl
      where
        by_answer : f.scores p ≤ f.scores b → (c : Bool) → f.answered b ≡ c → NoFastQuorum g w s p
        by_answer le true e = if_answered le (passes (f.answered b) e)
        by_answer le false e = if_silent le (subst (λ (c : Bool). T (not c)) (sym e) tt)

        go : (c : Bool) → f.proposers p ≡ c → NoFastQuorum g w s p
        go true e = by_answer (best p (passes (f.proposers p) e)) (f.answered b) refl
        go false e = if_unnamed (subst (λ (c : Bool). T (not c)) (sym e) tt)

  -- a fast commit by p, if there is one, is of the value of b, which is adopted at the round of i
  pub adopt_clear : (p : ℕ) → Clear g w s (suc i) (f.values b) p
  adopt_clear p = go (ℕ_discrete p b)
    where
      answered : (p ≡ b → ⊥) → (c : Bool) → f.answered p ≡ c → Clear g w s (suc i) (f.values b) p
      answered ne true e = inr (inl (o.came p (passes (f.answered p) e)))
      answered ne false e = inr (inr (blocked p (subst (λ (c : Bool). T (not c)) (sym e) tt) ne))

      go : Dec (p ≡ b) → Clear g w s (suc i) (f.values b) p
      go (yes e) = inl (subst (λ (j : ℕ). w.First j s (suc j) (f.values b)) (sym e) first_b)
      go (no ne) = answered ne (f.answered p) refl

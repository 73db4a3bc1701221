-- Two values chosen in a slot are equal, by votes or on the fast path, and what is chosen was proposed; two majorities of the live members
-- share a member.
-- Assumes nothing.
use Rattle.std.specs.Bool.{passes}
use Prim.Native.Nat.{ℕ, zero, suc, ◌+◌, ◌≤◌, ◌<◌}
use mathlib.Core.Path.{◌≡◌, sym, subst}
use mathlib.Core.Bool.{Bool, true, false, not}
use mathlib.Core.Logic.{◌⊎◌, inl, inr}
use lib.Dec.{T}
use native.Mathlib.Omega.{arith}
use native.Mathlib.Decide.{dec_le, ℕ_discrete}
use Rattle.basics.specs.sets.Sets.{count}
use Rattle.basics.proofs.sets.Counting.{count_meet, count_mono}
use Rattle.agreement.specs.Voting.{Voters, QuorumsMeet, World, Voted, Clear, SafeByQuorum, Safe, Consistent, ChosenAt, FastChosen, Chosen, VotersRules}
use Rattle.agreement.proofs.Tests.{is_true}

-- two sets of live members that are together larger than the live set, which is no larger than r, share a member
pub majority_meets : (g : Voters) (r : ℕ) → r < g.quorum + g.quorum → count g.live g.count ≤ r → QuorumsMeet g
majority_meets g r lt le f h fl hl cf ch =
    let k = count_meet f h g.live g.count
    (λ m l e. is_true (g.live m) (fl m (passes (f m) e))) (λ m l e. is_true (g.live m) (hl m (passes (h m) e))) (omega arith) in
    (k.0, passes (f k.0) k.2, passes (h k.0) k.3)

-- a set within another has no more members
pub count_within : (f h : ℕ → Bool) (n : ℕ) → ((m : ℕ) → T (f m) → T (h m)) → count f n ≤ count h n
count_within f h n k = count_mono f h n (λ m l e. is_true (h m) (k m (passes (f m) e)))

module _ (g : Voters) (rules : VotersRules g) (w : World) (ok : Consistent g w) where
  meets : QuorumsMeet g
  meets = majority_meets g rules.replicas rules.majority rules.few

  -- what is chosen was voted: a quorum meets itself
  chosen_voted : (s r v : ℕ) → ChosenAt g w s r v → Voted w s r v
  chosen_voted s r v c =
      let k = meets c.0 c.0 (λ m t. ok.live m s r v (c.2 m t)) (λ m t. ok.live m s r v (c.2 m t)) c.1 c.1 in
      (k.0, c.2 k.0 k.1)

  -- ---- votes alone

  -- for the rounds below k: whatever is voted at or above a round in which v0 was chosen is v0
  Above : ℕ → Type 0
  Above k = (r : ℕ) → r < k → (s r0 v v0 : ℕ) → ChosenAt g w s r0 v0 → r0 ≤ r → Voted w s r v → v ≡ v0

  -- what is safe by a quorum in a later round: a member of that quorum has voted for v0, so the value is of no earlier round than v0
  by_quorum : (k r : ℕ) → Above k → r < suc k → (s r0 v v0 : ℕ) → ChosenAt g w s r0 v0 → r0 < r → SafeByQuorum g w s r v → v ≡ v0
  unfolding Above
  by_quorum k r rest lt s r0 v v0 c l b =
      let x = meets b.0 c.0 (λ m t. (b.3 m t).0) (λ m t. ok.live m s r0 v0 (c.2 m t)) b.2 c.1 in
      let vote1 = c.2 x.0 x.2 in
      let bound : r0 ≤ b.1 = (b.3 x.0 x.1).2 r0 v0 vote1 l in
      let p = ok.in_round x.0 s r0 v0 vote1 in
      let z = b.4 (omega (arith, p.0)) in
      rest b.1 (omega (arith, z.0)) s r0 v v0 c bound z.1

  above : (k : ℕ) → Above k
  unfolding Above
  above zero r lt s r0 v v0 c le d = absurd (omega arith)
  above (suc k) r lt s r0 v v0 c le d = go (above k) (ℕ_discrete r0 r)
    where
      voted0 : Voted w s r0 v0
      voted0 = chosen_voted s r0 v0 c

      by_safe : Above k → (r0 < r) → Safe g w s r v → v ≡ v0
      by_safe rest l (inl a) = let p = ok.in_round voted0.0 s r0 v0 voted0.1 in absurd (omega (arith, p.1))
      by_safe rest l (inr b) = by_quorum k r rest lt s r0 v v0 c l b

      go : Above k → Dec (r0 ≡ r) → v ≡ v0
      go rest (yes e) = ok.one_value d.0 voted0.0 s r v v0 d.1 (subst (λ (x : ℕ). w.Votes voted0.0 s x v0) e voted0.1)
      go rest (no h) = by_safe rest (omega arith) (ok.safe d.0 s r v d.1)

  votes_agree : (s r v r' v' : ℕ) → ChosenAt g w s r v → ChosenAt g w s r' v' → v ≡ v'
  unfolding Above
  votes_agree s r v r' v' c d = go (dec_le r r')
    where
      go : Dec (r ≤ r') → v ≡ v'
      go (yes le) = sym (above (suc r') r' (omega arith) s r v' v c le (chosen_voted s r' v' d))
      go (no h) = above (suc r) r (omega arith) s r' v v' d (omega arith) (chosen_voted s r v c)

  -- ---- the fast path

  -- who held the proposal of a fast commit first is live; so there is a fast path
  holders_live : (s p v : ℕ) (c : FastChosen g w s p v) (m : ℕ) → T (c.0 m) → T (g.live m)
  holders_live s p v c m t = ok.first_live m s (suc p) v (c.2 m t)

  fast_path_lem : (s p v : ℕ) → FastChosen g w s p v → T g.fast_path
  fast_path_lem s p v c = go g.fast_path (λ n. rules.no_fast n)
    where
      go : (b : Bool) → (T (not b) → count g.live g.count < g.fast_quorum) → T b
      go true h = tt
      go false h =
          let few = h tt in let enough = c.1 in
          let le = count_within c.0 g.live g.count (holders_live s p v c) in absurd (omega arith)

  -- so a quorum held it first
  quorum_held : (s p v : ℕ) (c : FastChosen g w s p v) → g.quorum ≤ count c.0 g.count
  quorum_held s p v c = let le = rules.fast_large (fast_path_lem s p v c) in let enough = c.1 in omega arith

  -- two fast commits share a holder, which held one thing first
  fast_agree : (s p v p' v' : ℕ) → FastChosen g w s p v → FastChosen g w s p' v' → v ≡ v'
  fast_agree s p v p' v' c d =
      let x = meets c.0 d.0 (holders_live s p v c) (holders_live s p' v' d) (quorum_held s p v c) (quorum_held s p' v' d) in
      (ok.first_once x.0 s (suc p) v (suc p') v' (c.2 x.0 x.1) (d.2 x.0 x.2)).1

  -- p itself held it
  fast_own : (s p v : ℕ) → FastChosen g w s p v → w.First p s (suc p) v
  fast_own s p v c =
      let x = meets c.0 c.0 (holders_live s p v c) (holders_live s p v c) (quorum_held s p v c) (quorum_held s p v c) in
      ok.first_owner x.0 s p v (c.2 x.0 x.1)

  -- a quorum that has come to r shares a holder with a fast commit, whose round is no later than r
  fast_before : (s r v p v' : ℕ) → SafeByQuorum g w s r v → FastChosen g w s p v' → suc p ≤ r
  fast_before s r v p v' b c =
      let x = meets b.0 c.0 (λ m t. (b.3 m t).0) (holders_live s p v' c) b.2 (quorum_held s p v' c) in
      let h = (b.3 x.0 x.1).3 in
      let same = (ok.first_once x.0 s h.0 h.1 (suc p) v' h.2 (c.2 x.0 x.2)).0 in
      let le = h.3 in omega arith

  -- so a fast commit by p is of v
  clear_same : (s r v p v' : ℕ) → suc p < r → FastChosen g w s p v' → Clear g w s r v p → v ≡ v'
  clear_same s r v p v' lt c (inl h) = (ok.first_once p s (suc p) v (suc p) v' h (fast_own s p v' c)).1
  clear_same s r v p v' lt c (inr (inl h)) = let le = c.5 r h in absurd (omega arith)
  clear_same s r v p v' lt c (inr (inr b)) =
      let few = b.1 in let enough = c.1 in
      let le = count_within c.0 b.0 g.count (λ m t. left m t (b.2 m (holders_live s p v' c m t))) in
      absurd (omega arith)
    where
      left : (m : ℕ) → T (c.0 m) → T (b.0 m) ⊎ ((c : ℕ) × (u : ℕ) × w.First m s c u × (c ≡ suc p → ⊥)) → T (b.0 m)
      left m t (inl h) = h
      left m t (inr h) = absurd (h.3 (ok.first_once m s h.0 h.1 (suc p) v' h.2 (c.2 m t)).0)

  -- for the rounds below k: whatever is voted is the value of every fast commit
  VotesFast : ℕ → Type 0
  VotesFast k = (r : ℕ) → r < k → (s v p v' : ℕ) → Voted w s r v → FastChosen g w s p v' → v ≡ v'

  votes_fast : (k : ℕ) → VotesFast k
  unfolding VotesFast
  votes_fast zero r lt s v p v' d c = absurd (omega arith)
  votes_fast (suc k) r lt s v p v' d c = by_safe (votes_fast k) (ok.safe d.0 s r v d.1)
    where
      by_round : VotesFast k → SafeByQuorum g w s r v → suc p ≤ r → Dec (suc p ≡ r) → v ≡ v'
      by_round rest b le (yes e) = absurd (c.6 d.0 v (subst (λ (j : ℕ). w.Votes d.0 s j v) (sym e) d.1))
      by_round rest b le (no ne) = go (ℕ_discrete b.1 0)
        where
          go : Dec (b.1 ≡ 0) → v ≡ v'
          go (yes e) = clear_same s r v p v' (omega arith) c (b.5 e p (omega arith))
          go (no n) = let z = b.4 (omega arith) in rest b.1 (omega (arith, z.0)) s v p v' z.1 c

      by_safe : VotesFast k → Safe g w s r v → v ≡ v'
      by_safe rest (inl a) =
          let none = rules.no_start (fast_path_lem s p v' c) in let l = (ok.in_round d.0 s r v d.1).0 in absurd (omega arith)
      by_safe rest (inr b) = let le = fast_before s r v p v' b c in by_round rest b le (ℕ_discrete (suc p) r)

  vote_fast_agree : (s r v p v' : ℕ) → ChosenAt g w s r v → FastChosen g w s p v' → v ≡ v'
  unfolding VotesFast
  vote_fast_agree s r v p v' c d = votes_fast (suc r) r (omega arith) s v p v' (chosen_voted s r v c) d

  -- ---- both

  -- two values chosen in a slot are equal
  pub chosen_agree : (s v v' : ℕ) → Chosen g w s v → Chosen g w s v' → v ≡ v'
  chosen_agree s v v' (inl c) (inl d) = votes_agree s c.0 v d.0 v' c.1 d.1
  chosen_agree s v v' (inl c) (inr d) = vote_fast_agree s c.0 v d.0 v' c.1 d.1
  chosen_agree s v v' (inr c) (inl d) = sym (vote_fast_agree s d.0 v' c.0 v d.1 c.1)
  chosen_agree s v v' (inr c) (inr d) = fast_agree s c.0 v d.0 v' c.1 d.1

  pub chosen_proposed : (s v : ℕ) → Chosen g w s v → w.Proposed s v
  chosen_proposed s v (inl c) = let d = chosen_voted s c.0 v c.1 in ok.proposed d.0 s c.0 v d.1
  chosen_proposed s v (inr c) = ok.first_proposed c.0 s (suc c.0) v (fast_own s c.0 v c.1)

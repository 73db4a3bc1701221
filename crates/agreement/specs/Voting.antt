-- Votes of a group: who votes, what has been voted, and when a value is safe to vote for or chosen.
-- A set of members is a test. Slots, rounds, members and values are numbers.
-- Assumes nothing.
use Rattle.std.specs.Prelude.{ℕ, suc, ◌+◌, ◌≤◌, ◌<◌, ◌≡◌, Bool, not, ◌⊎◌, T}
use Rattle.basics.specs.sets.Sets.{count}

-- who votes: the number of processes, the size of a quorum, whether there is a fast path and the size of its quorum, the round that every
-- slot starts in, who is live, and the delegate of a round, which alone may pick the round's value. On the fast path the round of member p
-- is p + 1.
pub record Voters : Type 0 where
  pub count : ℕ
  pub quorum : ℕ
  pub fast_path : Bool
  pub fast_quorum : ℕ
  pub start : ℕ
  pub live : ℕ → Bool
  pub delegate : ℕ → ℕ

-- two quorums of live members share a member
abbrev pub QuorumsMeet : Voters → Type 0
QuorumsMeet g = (f h : ℕ → Bool) → ((m : ℕ) → T (f m) → T (g.live m)) → ((m : ℕ) → T (h m) → T (g.live m))
    → g.quorum ≤ count f g.count → g.quorum ≤ count h g.count → (m : ℕ) × T (f m) × T (h m)

-- what has happened: votes (member, slot, round, value); positions (slot, round) that a member has reached; what a member held first in a
-- slot (member, slot, proposer, value; the proposer counted from 1, and 0 where no proposer is named); and values proposed in a slot. No
-- member has it: it stands in the proofs alone.
pub record World : Type 1 where
  pub Votes : ℕ → ℕ → ℕ → ℕ → Type 0
  pub Reached : ℕ → ℕ → ℕ → Type 0
  pub First : ℕ → ℕ → ℕ → ℕ → Type 0
  pub Proposed : ℕ → ℕ → Type 0

-- the position (s, r) is not after (s', r')
abbrev pub NotAfter : ℕ → ℕ → ℕ → ℕ → Type 0
NotAfter s r s' r' = (s ≤ s') × (s ≡ s' → r ≤ r')

-- someone has voted for v at (s, r)
abbrev pub Voted : World → ℕ → ℕ → ℕ → Type 0
Voted w s r v = (m : ℕ) × w.Votes m s r v

-- m is live, has reached (s, r), and has voted in s in no round between a and r; nor will it, for it votes only where it stands. It holds
-- something in s, and what it held first is of no later round than r.
abbrev pub ModelPromise : Voters → World → ℕ → ℕ → ℕ → ℕ → Type 0
ModelPromise g w m s r a = T (g.live m) × w.Reached m s r × ((r' v' : ℕ) → w.Votes m s r' v' → r' < r → r' ≤ a)
    × ((c : ℕ) × (u : ℕ) × w.First m s c u × (c ≤ r))

-- a fast quorum for the proposal of p in s cannot come about: too few are left besides those that held something else first
abbrev pub NoFastQuorum : Voters → World → ℕ → ℕ → Type 0
NoFastQuorum g w s p = (f : ℕ → Bool) × (count f g.count < g.fast_quorum)
    × ((m : ℕ) → T (g.live m) → T (f m) ⊎ ((c : ℕ) × (u : ℕ) × w.First m s c u × (c ≡ suc p → ⊥)))

-- why a fast commit by p, if there is one, is of v, where v is voted for at (s, r): v is what p proposed; or p has come to r without one; or there
-- can be none
abbrev pub Clear : Voters → World → ℕ → ℕ → ℕ → ℕ → Type 0
Clear g w s r v p = w.First p s (suc p) v ⊎ (w.Reached p s r ⊎ NoFastQuorum g w s p)

-- a quorum promises that its votes in s below r are at most at a; v is what was voted at a, where a is a round at all, and else every
-- earlier fast commit is of v
abbrev pub SafeByQuorum : Voters → World → ℕ → ℕ → ℕ → Type 0
SafeByQuorum g w s r v = (f : ℕ → Bool) × (a : ℕ) × (g.quorum ≤ count f g.count) × ((m : ℕ) → T (f m) → ModelPromise g w m s r a)
    × (1 ≤ a → (a < r) × Voted w s a v) × (a ≡ 0 → (p : ℕ) → suc p < r → Clear g w s r v p)

-- no other value is chosen in s below r, now or later: there is no earlier round, or a quorum says so
abbrev pub Safe : Voters → World → ℕ → ℕ → ℕ → Type 0
Safe g w s r v = (r ≤ g.start) ⊎ SafeByQuorum g w s r v

-- the rules of voting: one value in a round, and it is safe; a vote is cast in a round, no earlier than the starting one, by a live
-- member that has reached it; its value was proposed in the slot; and the round's delegate has reached the round too. What a member held first in a
-- slot is one thing: the member is live and has come to the slot, the value was proposed there, and a proposer that is named held it first
-- too. On the fast path every round is its delegate's own.
pub record Consistent (g : Voters) (w : World) : Type 0 where
  pub one_value : (m m' s r v v' : ℕ) → w.Votes m s r v → w.Votes m' s r v' → v ≡ v'
  pub safe : (m s r v : ℕ) → w.Votes m s r v → Safe g w s r v
  pub in_round : (m s r v : ℕ) → w.Votes m s r v → (1 ≤ r) × (g.start ≤ r)
  pub live : (m s r v : ℕ) → w.Votes m s r v → T (g.live m)
  pub reached : (m s r v : ℕ) → w.Votes m s r v → w.Reached m s r
  pub proposed : (m s r v : ℕ) → w.Votes m s r v → w.Proposed s v
  pub delegate_reached : (m s r v : ℕ) → w.Votes m s r v → w.Reached (g.delegate r) s r
  pub first_once : (m s c v c' v' : ℕ) → w.First m s c v → w.First m s c' v' → (c ≡ c') × (v ≡ v')
  pub first_live : (m s c v : ℕ) → w.First m s c v → T (g.live m)
  pub first_reached : (m s c v : ℕ) → w.First m s c v → (r : ℕ) × w.Reached m s r
  pub first_proposed : (m s c v : ℕ) → w.First m s c v → w.Proposed s v
  pub first_owner : (m s p v : ℕ) → w.First m s (suc p) v → w.First p s (suc p) v
  pub own_rounds : T g.fast_path → (m s r : ℕ) → w.Reached m s r → 1 ≤ r → r ≡ suc (g.delegate r)

-- a quorum has voted for v at (s, r)
abbrev pub ChosenAt : Voters → World → ℕ → ℕ → ℕ → Type 0
ChosenAt g w s r v = (f : ℕ → Bool) × (g.quorum ≤ count f g.count) × ((m : ℕ) → T (f m) → w.Votes m s r v)

-- p has committed its own proposal v on the fast path: a fast quorum held it first; p has gone on to the next slot and was in no later round
-- of s than its own; and nobody votes in that round
abbrev pub FastChosen : Voters → World → ℕ → ℕ → ℕ → Type 0
FastChosen g w s p v = (f : ℕ → Bool) × (g.fast_quorum ≤ count f g.count) × ((m : ℕ) → T (f m) → w.First m s (suc p) v)
    × (p ≡ g.delegate (suc p)) × w.Reached p (suc s) g.start × ((r : ℕ) → w.Reached p s r → r ≤ suc p)
    × ((m v' : ℕ) → w.Votes m s (suc p) v' → ⊥)

-- v is chosen in s, in some round or on the fast path
abbrev pub Chosen : Voters → World → ℕ → ℕ → Type 0
Chosen g w s v = ((r : ℕ) × ChosenAt g w s r v) ⊎ ((p : ℕ) × FastChosen g w s p v)

-- what is asked of the voters: there are no more live ones than replicas, and a quorum is a majority of these; with a fast path, a slot
-- starts in no round, the round of p is led by p, a fast quorum is no smaller than a quorum, and what it lacks of the replicas is less
-- than half a quorum and one; without, no fast quorum comes about
pub record VotersRules (g : Voters) : Type 0 where
  pub replicas : ℕ
  pub few : count g.live g.count ≤ replicas
  pub majority : replicas < g.quorum + g.quorum
  pub below : T g.fast_path → (m : ℕ) → T (g.live m) → m < g.count
  pub no_start : T g.fast_path → g.start ≡ 0
  pub leads : T g.fast_path → (p : ℕ) → p < g.count → g.delegate (suc p) ≡ p
  pub fast_large : T g.fast_path → g.quorum ≤ g.fast_quorum
  pub fast_enough : T g.fast_path → replicas + replicas < g.fast_quorum + g.fast_quorum + g.quorum + 2
  pub no_fast : T (not g.fast_path) → count g.live g.count < g.fast_quorum

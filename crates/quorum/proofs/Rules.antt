-- What holds of the quorums of every number of replicas: their order, and which of them must share a process.
-- Assumes nothing.
use mathlib.Core.Path.{◌≡◌, refl, ap}
use Prim.Native.Nat.{ℕ, zero, suc, ◌+◌, ◌*◌, ◌≤◌, ◌<◌, max, min}
use native.Mathlib.Omega.{arith}
use Rattle.quorum.specs.Quorum.{majority_of, epaxos_of, fast_of, rule_of, row_of}

pub majority_le_epaxos : (n : ℕ) → majority_of n ≤ epaxos_of n
majority_le_epaxos n = omega arith

pub epaxos_le_fast : (n : ℕ) → epaxos_of n ≤ fast_of n
epaxos_le_fast n = omega arith

pub epaxos_le : (n : ℕ) → 1 ≤ n → epaxos_of n ≤ n
epaxos_le n h = omega arith

pub fast_le : (n : ℕ) → 1 ≤ n → fast_of n ≤ n
fast_le n h = omega arith

-- two majorities are more than all
pub two_majorities : (n : ℕ) → n < majority_of n + majority_of n
two_majorities n = omega arith

-- two fast quorums and a majority are more than twice all, so that the three share a process
pub fast_fast_majority : (n : ℕ) → 1 ≤ n → 2 * n < fast_of n + fast_of n + majority_of n
fast_fast_majority n h = omega arith

-- and it is the least such number that is no less than a majority; the EPaxos quorum is the least by the rule of its own path
pub fast_least : (n f : ℕ) → majority_of n ≤ f → 2 * n < f + f + majority_of n → fast_of n ≤ f
fast_least n f h k = omega arith

pub epaxos_least : (n f : ℕ) → majority_of n ≤ f → 2 * n < f + f + majority_of n + 2 → epaxos_of n ≤ f
epaxos_least n f h k = omega arith

-- up to 64 replicas the row is the rule's, and above it that of 64
pub row_rule : (n : ℕ) → n ≤ 64 → row_of n ≡ rule_of n
row_rule n h = let e : min n 64 ≡ n = omega arith in ap rule_of e

pub row_above : (n : ℕ) → 64 ≤ n → row_of n ≡ rule_of 64
row_above n h = let e : min n 64 ≡ 64 = omega arith in ap rule_of e

-- a count of 0 takes the row of 1
pub row_zero : row_of 0 ≡ row_of 1
row_zero = refl

-- the rule takes 0 as it takes 1
pub same_rule : (m k : ℕ) → k ≡ max 1 m → rule_of k ≡ rule_of m
same_rule zero k e = ap rule_of e
same_rule (suc m) k e = let h : k ≡ suc m = omega arith in ap rule_of h

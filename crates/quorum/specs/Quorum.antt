-- The quorums for n replicas (document 01, "Quorum row"; document 02, E4).
-- Assumes nothing.
use Rattle.std.specs.Prelude.{ℕ, ◌+◌, ◌-◌, ◌*◌, ◌/◌, max, min}
use Rattle.quorum.specs.declared.QuorumRow.{QuorumRow}

-- divisions drop the rest
abbrev pub majority_of : ℕ → ℕ
majority_of n = n / 2 + 1

-- the EPaxos quorum and the fast one: neither is less than a majority
abbrev pub epaxos_of : ℕ → ℕ
epaxos_of n = max ((3 * n - 1) / 4) (majority_of n)

abbrev pub fast_of : ℕ → ℕ
fast_of n = max ((3 * n - 1) / 4 + 1) (majority_of n)

-- the row of n replicas
abbrev pub rule_of : ℕ → QuorumRow
rule_of n = record { majority = majority_of n; epaxos = epaxos_of n; fast = fast_of n }

-- The settings refuse a count above 64: such a count takes the row of 64.
-- The rule gives the row of 1 for a count of 0 too (`row_zero`): a difference of natural numbers stops at 0, and divisions drop the rest.
abbrev pub row_of : ℕ → QuorumRow
row_of n = rule_of (min n 64)

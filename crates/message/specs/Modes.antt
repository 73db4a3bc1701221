-- What the modes have in common (the Rust's is_multi_paxos, has_fast_path, and its matches on SwiftPaxos).
-- Assumes nothing.
use Rattle.std.specs.Prelude.{Bool, true, false, cond, ℕ, eqb}
use Rattle.message.specs.declared.PFMode.{PFMode}
use Rattle.message.specs.declared.PFMode.TheVariants.{Paxos, MultiPaxos, MultiPaxos3P, EPaxos, Pando, SwiftPaxos}

-- the mode that a number stands for in the flat forms of hosts and in the lines of calls. Any other number stands for Paxos here, and is refused where it
-- is read (`mode ≤ 5`).
unfoldable pub mode_of_number : ℕ → PFMode
mode_of_number n =
    cond (eqb n 1) MultiPaxos (cond (eqb n 2) MultiPaxos3P (cond (eqb n 3) EPaxos (cond (eqb n 4) Pando (cond (eqb n 5) SwiftPaxos Paxos))))

-- is_multi_paxos: a leader is there from the start of each slot
abbrev pub is_multi_paxos : PFMode → Bool
is_multi_paxos Paxos = false
is_multi_paxos MultiPaxos = true
is_multi_paxos MultiPaxos3P = true
is_multi_paxos EPaxos = false
is_multi_paxos Pando = false
is_multi_paxos SwiftPaxos = false

-- clients that are no replicas take part
abbrev pub is_swift_paxos : PFMode → Bool
is_swift_paxos Paxos = false
is_swift_paxos MultiPaxos = false
is_swift_paxos MultiPaxos3P = false
is_swift_paxos EPaxos = false
is_swift_paxos Pando = false
is_swift_paxos SwiftPaxos = true

-- has_fast_path: a slot can commit before a majority has accepted
abbrev pub has_fast_path : PFMode → Bool
has_fast_path Paxos = false
has_fast_path MultiPaxos = false
has_fast_path MultiPaxos3P = false
has_fast_path EPaxos = true
has_fast_path Pando = false
has_fast_path SwiftPaxos = true

-- Values, rounds and promises (docs/ORACLE.md, "Answer lines", 2 and 5). Each text begins with a space.
-- Assumes nothing.
use Rattle.std.specs.Prelude.{List, [], ◌∷◌, ◌++◌, ℕ, Option, None, Some}
use Rattle.message.specs.declared.PaxosRound.{PaxosRound}
use Rattle.message.specs.declared.RoundV.{RoundV}
use Rattle.message.specs.declared.RoundV.TheVariants.{FastV, PaxosV}
use Rattle.texts.specs.Text.{ascii, field, fields}

-- LAST, SWIFT
unfoldable pub optional_value_text : Option ℕ → List ℕ
optional_value_text None = ascii " -"
optional_value_text (Some v) = field v

-- ROUND
unfoldable pub optional_round_text : Option PaxosRound → List ℕ
optional_round_text None = ascii " -"
optional_round_text (Some r) = field r.round_group ++ field r.leader

-- PROMISE
unfoldable pub promise_text : RoundV → List ℕ
promise_text (FastV proposer v) = fields (ascii " fast") (proposer ∷ v ∷ [])
promise_text (PaxosV accept_round v) = ascii " paxos" ++ optional_round_text accept_round ++ field v

-- HELD
unfoldable pub held_text : Option RoundV → List ℕ
held_text None = ascii " -"
held_text (Some rv) = promise_text rv

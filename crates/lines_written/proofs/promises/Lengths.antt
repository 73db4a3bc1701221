-- How long values, rounds and promises are.
-- Assumes nothing.
use Rattle.std.specs.Prelude.{ℕ, Option, None, Some}
use Rattle.message.specs.declared.PaxosRound.{PaxosRound}
use mathlib.Core.List.{[], ◌∷◌}
use Prim.Native.Nat.{◌≤◌}
use native.Mathlib.Omega.{arith}
use lib.ListN.{length, length-append}
use Rattle.message.specs.declared.RoundV.{RoundV}
use Rattle.message.specs.declared.RoundV.TheVariants.{FastV, PaxosV}
use Rattle.texts.specs.Text.{ascii}
use Rattle.lines_written.specs.promises.Promises.{optional_value_text, optional_round_text, promise_text, held_text}
use Rattle.texts.proofs.Lengths.{number, fields_length}

pub value : (v : Option ℕ) → length (optional_value_text v) ≤ 21
unfolding optional_value_text
value None = omega arith
value (Some v) = number v

pub round : (r : Option PaxosRound) → length (optional_round_text r) ≤ 42
unfolding optional_round_text
round None = omega arith
round (Some r) = simp length-append (omega (arith, number r.round_group, number r.leader))

pub promise : (rv : RoundV) → length (promise_text rv) ≤ 69
unfolding promise_text
promise (FastV p v) = omega (arith, fields_length (ascii " fast") (p ∷ v ∷ []))
promise (PaxosV r v) = simp length-append (omega (arith, round r, number v))

pub held : (h : Option RoundV) → length (held_text h) ≤ 69
unfolding held_text
held None = omega arith
held (Some rv) = promise rv

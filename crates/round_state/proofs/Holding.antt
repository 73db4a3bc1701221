-- What is held: a promise or an accept replaces it only by a later one, and a new round keeps it, so that within a slot the held accept
-- round never falls.
-- Assumes nothing.
use Rattle.std.specs.Prelude.{Option, None, Some}
use mathlib.Core.Path.{◌≡◌, refl, ap, ◌∙◌}
use mathlib.Core.Logic.{◌⊎◌, inl, inr}
use mathlib.Core.Bool.{Bool, true, false, cond}
use Prim.Native.Nat.{ℕ}
use lib.Dec.{eqb}
use borrow.Author.Tests.{eqb-true}
use Rattle.basics.proofs.Tests.{either, not_both, fails, or_cases, and_left, and_right}
use Rattle.message.specs.Promises.{accept_round_of}
use Rattle.message.specs.Rounds.{before, equal}
use Rattle.message.proofs.Order.{optional_rounds_ordered, equal_rounds}
use Rattle.message.specs.declared.PaxosRound.{PaxosRound}
use Rattle.message.specs.declared.RoundV.{RoundV}
use Rattle.message.specs.declared.RoundV.TheVariants.{FastV, PaxosV}
use Rattle.round_state.specs.Paxos.{get_last_accepted_round, goto_round, held_after_promise, held_is, accept_fits}
use Rattle.round_state.specs.declared.PaxosState.{PaxosState}

-- a later promise replaces what is held, and any other leaves it
pub promise_later : (old rv : RoundV) → before (accept_round_of old) (accept_round_of rv) ≡ true → held_after_promise (Some old) rv ≡ Some rv
unfolding held_after_promise
promise_later old rv e = ap (λ (t : Bool). cond t (Some rv) (Some old)) e

pub promise_not_later : (old rv : RoundV) → before (accept_round_of old) (accept_round_of rv) ≡ false → held_after_promise (Some old) rv ≡ Some old
unfolding held_after_promise
promise_not_later old rv e = ap (λ (t : Bool). cond t (Some rv) (Some old)) e

pub promise_first : (rv : RoundV) → held_after_promise None rv ≡ Some rv
unfolding held_after_promise
promise_first rv = refl

-- what is held as accepted is what was compared
pub held_is_lem : (held : Option RoundV) (round : PaxosRound) (v : ℕ) → held_is held round v ≡ true → held ≡ Some (PaxosV (Some round) v)
held_is_lem None round v e = absurd (not_both e refl)
held_is_lem (Some (FastV proposer w)) round v e = absurd (not_both e refl)
held_is_lem (Some (PaxosV at w)) round v e =
    let r : at ≡ Some round = equal_rounds at (Some round) (and_left (equal at (Some round)) (eqb w v) e) in
    let x : w ≡ v = eqb-true w v (and_right (equal at (Some round)) (eqb w v) e) in cc

-- an accept that fits is later than the last accepted round, or is what is held
pub accept_fits_lem : (held : Option RoundV) (round : PaxosRound) (v : ℕ) → accept_fits held round v ≡ true
    → (before (get_last_accepted_round held) (Some round) ≡ true) ⊎ (held ≡ Some (PaxosV (Some round) v))
unfolding accept_fits
accept_fits_lem held round v e = go (or_cases (before (get_last_accepted_round held) (Some round)) (held_is held round v) e)
  where
    go : (before (get_last_accepted_round held) (Some round) ≡ true) ⊎ (held_is held round v ≡ true)
        → (before (get_last_accepted_round held) (Some round) ≡ true) ⊎ (held ≡ Some (PaxosV (Some round) v))
    go (inl l) = inl l
    go (inr s) = inr (held_is_lem held round v s)

later_not_before : (a b : Option PaxosRound) → before a b ≡ true → before b a ≡ false
later_not_before a b e =
    fails (λ d. not_both (optional_rounds_ordered.transitive a b a e d) (optional_rounds_ordered.irreflexive a))

-- the held accept round never falls: by a promise
pub promise_not_back : (held : Option RoundV) (rv : RoundV) → before (get_last_accepted_round (held_after_promise held rv)) (get_last_accepted_round held) ≡ false
promise_not_back None rv = ap (λ (h : Option RoundV). before (get_last_accepted_round h) None) (promise_first rv) ∙ none (accept_round_of rv)
  where
    none : (a : Option PaxosRound) → before a None ≡ false
    none None = refl
    none (Some a) = refl
promise_not_back (Some old) rv = go (either (before (accept_round_of old) (accept_round_of rv)))
  where
    go : (before (accept_round_of old) (accept_round_of rv) ≡ true) ⊎ (before (accept_round_of old) (accept_round_of rv) ≡ false)
        → before (get_last_accepted_round (held_after_promise (Some old) rv)) (accept_round_of old) ≡ false
    go (inl e) = ap (λ (h : Option RoundV). before (get_last_accepted_round h) (accept_round_of old)) (promise_later old rv e) ∙ later_not_before (accept_round_of old) (accept_round_of rv) e
    go (inr e) = ap (λ (h : Option RoundV). before (get_last_accepted_round h) (accept_round_of old)) (promise_not_later old rv e) ∙ optional_rounds_ordered.irreflexive (accept_round_of old)

-- and by an accept that fits
pub accept_not_back : (held : Option RoundV) (round : PaxosRound) (v : ℕ) → accept_fits held round v ≡ true
    → before (Some round) (get_last_accepted_round held) ≡ false
accept_not_back held round v e = go (accept_fits_lem held round v e)
  where
    go : (before (get_last_accepted_round held) (Some round) ≡ true) ⊎ (held ≡ Some (PaxosV (Some round) v)) → before (Some round) (get_last_accepted_round held) ≡ false
    go (inl l) = later_not_before (get_last_accepted_round held) (Some round) l
    go (inr s) = ap (λ (h : Option RoundV). before (Some round) (get_last_accepted_round h)) s ∙ optional_rounds_ordered.irreflexive (Some round)

-- and by a new round
pub round_not_back : (round : Option PaxosRound) (s : PaxosState) → before (get_last_accepted_round (goto_round round s).max_rv) (get_last_accepted_round s.max_rv) ≡ false
round_not_back round s = optional_rounds_ordered.irreflexive (get_last_accepted_round s.max_rv)

-- A message that is plain fits: its numbers, and its processes.
-- Assumes nothing.
use Rattle.std.specs.Prelude.{Option, Ok}
use Rattle.message.specs.declared.PaxosRound.{PaxosRound}
use mathlib.Core.Bool.{true, ◌&&◌}
use mathlib.Core.Path.{◌≡◌, refl}
use Prim.Native.Nat.{ℕ}
use native.Mathlib.Omega.{arith}
use borrow.Author.Tests.{leb-true, le-leb}
use lib.Bits.{bit_or, or_add_and, and_le_l, and_le_r}
use lib.Dec.{eqb, leb, ltb}
use Rattle.basics.proofs.Tests.{and_left, and_right, and_both, of-both}
use Rattle.calls.specs.delivery.Limits.{numbers_fit, processes_fit}
use Rattle.message.specs.limits.Limits.{is_number, is_slot, round_numbers, rv_numbers, msg_numbers, number_given, rv_processes, msg_processes, requester_below}
use Rattle.message.specs.declared.ConsensusMsg.{ConsensusMsg}
use Rattle.message.specs.declared.RoundV.{RoundV}
use Rattle.message.specs.declared.RoundV.TheVariants.{PaxosV}
use Rattle.flat.specs.Decode.{decoded_delivery, decoded_msg, decoded_option, decoded_promise, decoded_round, decoded_source}
use Rattle.flat.specs.declared.FlatCall.{FlatCall}
use Rattle.flat.specs.declared.FlatOption.{FlatOption}
use Rattle.flat.specs.declared.FlatPromise.{FlatPromise}
use Rattle.questions.specs.decided.Refusals.{round_bits, promise_bits, own_bits, added_bits, is_small, is_below, is_plain, unfit}

-- ---- both numbers are small whose bits together are

left_small : (a b : ℕ) → is_number (bit_or a b) ≡ true → is_number a ≡ true
left_small a b e = le-leb a 9223372036854775807 (omega (arith, leb-true (bit_or a b) 9223372036854775807 e, or_add_and a b, and_le_r a b))

right_small : (a b : ℕ) → is_number (bit_or a b) ≡ true → is_number b ≡ true
right_small a b e = le-leb b 9223372036854775807 (omega (arith, leb-true (bit_or a b) 9223372036854775807 e, or_add_and a b, and_le_l a b))

-- ---- what is given or not

value_fits : (o : FlatOption) → is_number o.n ≡ true → number_given (decoded_option o) ≡ true
unfolding number_given decoded_option
value_fits o e = of-both (λ (x : Option ℕ). number_given x ≡ true) (eqb o.given 0) refl e

process_fits : (o : FlatOption) → is_number o.n ≡ true → number_given (decoded_option o) ≡ true
unfolding number_given decoded_option
process_fits o e = of-both (λ (x : Option ℕ). number_given x ≡ true) (eqb o.given 0) refl e

process_below : (n : ℕ) (o : FlatOption) → ltb o.n n ≡ true → requester_below n (decoded_option o) ≡ true
unfolding requester_below decoded_option
process_below n o e = of-both (λ (x : Option ℕ). requester_below n x ≡ true) (eqb o.given 0) refl e

promise_fits_lem : (p : FlatPromise) → is_number p.proposer ≡ true → is_number p.accept_round.round_group ≡ true → is_number p.accept_round.leader ≡ true
    → is_number p.v ≡ true
    → rv_numbers (decoded_promise p) ≡ true
unfolding rv_numbers round_numbers decoded_promise decoded_round
promise_fits_lem p proposer group leader v =
    of-both (λ (x : RoundV). rv_numbers x ≡ true) (eqb p.fast 0)
    (of-both (λ (x : Option PaxosRound). rv_numbers (PaxosV x p.v) ≡ true) (eqb p.accept_round.given 0) v (and_both (and_both group leader) v))
    (and_both proposer v)

promise_below : (n : ℕ) (p : FlatPromise) → ltb p.proposer n ≡ true → ltb p.accept_round.leader n ≡ true → rv_processes n (decoded_promise p) ≡ true
unfolding rv_processes decoded_promise decoded_round
promise_below n p proposer leader =
    of-both (λ (x : RoundV). rv_processes n x ≡ true) (eqb p.fast 0)
    (of-both (λ (x : Option PaxosRound). rv_processes n (PaxosV x p.v) ≡ true) (eqb p.accept_round.given 0) refl leader)
    proposer

-- ---- the message

module _ (n own : ℕ) (f : FlatCall) where
  abbrev Fits : ConsensusMsg → Type 0
  Fits x = msg_numbers x ≡ true

  abbrev Below : ConsensusMsg → Type 0
  Below x = msg_processes n x ≡ true

  module _ (small : is_small f ≡ true) where
    abbrev three : ℕ
    three = bit_or (bit_or (round_bits f) (promise_bits f)) (own_bits f)

    all : is_number (bit_or three (added_bits f)) ≡ true
    unfolding is_small
    all = and_left (is_number (bit_or three (added_bits f))) _ small

    slot : is_slot f.message.slot ≡ true
    unfolding is_small
    slot = and_right (is_number (bit_or three (added_bits f))) _ small

    first_three : is_number three ≡ true
    first_three = left_small three (added_bits f) all

    added : is_number (added_bits f) ≡ true
    added = right_small three (added_bits f) all

    first_two : is_number (bit_or (round_bits f) (promise_bits f)) ≡ true
    first_two = left_small (bit_or (round_bits f) (promise_bits f)) (own_bits f) first_three

    owned : is_number (own_bits f) ≡ true
    owned = right_small (bit_or (round_bits f) (promise_bits f)) (own_bits f) first_three

    in_round_lem : is_number (round_bits f) ≡ true
    in_round_lem = left_small (round_bits f) (promise_bits f) first_two

    promised : is_number (promise_bits f) ≡ true
    promised = right_small (round_bits f) (promise_bits f) first_two

    round_fits : (is_number f.message.round_group && is_number f.message.leader) ≡ true
    round_fits = and_both (left_small f.message.round_group f.message.leader in_round_lem) (right_small f.message.round_group f.message.leader in_round_lem)

    rv_fits : rv_numbers (decoded_promise f.message.rv) ≡ true
    rv_fits =
        let p = f.message.rv in
        let rest = left_small (bit_or (bit_or p.proposer p.accept_round.round_group) p.accept_round.leader) p.v promised in
        let two = left_small (bit_or p.proposer p.accept_round.round_group) p.accept_round.leader rest in
        promise_fits_lem p (left_small p.proposer p.accept_round.round_group two) (right_small p.proposer p.accept_round.round_group two)
        (right_small (bit_or p.proposer p.accept_round.round_group) p.accept_round.leader rest)
        (right_small (bit_or (bit_or p.proposer p.accept_round.round_group) p.accept_round.leader) p.v promised)

    own_three : is_number (bit_or (bit_or f.message.v f.message.id) f.message.next_readable_slot) ≡ true
    own_three = left_small (bit_or (bit_or f.message.v f.message.id) f.message.next_readable_slot) f.message.src owned

    own_two : is_number (bit_or f.message.v f.message.id) ≡ true
    own_two = left_small (bit_or f.message.v f.message.id) f.message.next_readable_slot own_three

    v_fits : is_number f.message.v ≡ true
    v_fits = left_small f.message.v f.message.id own_two

    id_fits : is_number f.message.id ≡ true
    id_fits = right_small f.message.v f.message.id own_two

    next_fits : is_number f.message.next_readable_slot ≡ true
    next_fits = right_small (bit_or f.message.v f.message.id) f.message.next_readable_slot own_three

    src_fits : is_number f.message.src ≡ true
    src_fits = right_small (bit_or (bit_or f.message.v f.message.id) f.message.next_readable_slot) f.message.src owned

    added_two : is_number (bit_or f.message.last_v.n f.requester.n) ≡ true
    added_two = left_small (bit_or f.message.last_v.n f.requester.n) f.held_requester.n added

    msg_fits : Fits (decoded_msg f.message)
    unfolding decoded_msg msg_numbers round_numbers
    msg_fits =
        of-both Fits (eqb f.message.kind 1) (simp (slot, round_fits, rv_fits))
        (of-both Fits (eqb f.message.kind 2) (simp (slot, round_fits, v_fits))
        (of-both Fits (eqb f.message.kind 3) v_fits
        (of-both Fits (eqb f.message.kind 4) (and_both slot v_fits) (of-both Fits (eqb f.message.kind 6) (and_both id_fits next_fits) id_fits))))

  module _ (below : is_below n f ≡ true) where
    src_below : ltb f.message.src n ≡ true
    unfolding is_below
    src_below = and_left (ltb f.message.src n) _ below

    rest1 : (ltb f.message.leader n && (ltb f.message.rv.proposer n && (ltb f.message.rv.accept_round.leader n && (ltb f.requester.n n && ltb f.held_requester.n n)))) ≡ true
    unfolding is_below
    rest1 = and_right (ltb f.message.src n) _ below

    rest2 : (ltb f.message.rv.proposer n && (ltb f.message.rv.accept_round.leader n && (ltb f.requester.n n && ltb f.held_requester.n n))) ≡ true
    rest2 = and_right (ltb f.message.leader n) _ rest1

    rest3 : (ltb f.message.rv.accept_round.leader n && (ltb f.requester.n n && ltb f.held_requester.n n)) ≡ true
    rest3 = and_right (ltb f.message.rv.proposer n) _ rest2

    rest4 : (ltb f.requester.n n && ltb f.held_requester.n n) ≡ true
    rest4 = and_right (ltb f.message.rv.accept_round.leader n) _ rest3

    leader_below : ltb f.message.leader n ≡ true
    leader_below = and_left (ltb f.message.leader n) _ rest1

    rv_below : rv_processes n (decoded_promise f.message.rv) ≡ true
    rv_below = promise_below n f.message.rv (and_left (ltb f.message.rv.proposer n) _ rest2) (and_left (ltb f.message.rv.accept_round.leader n) _ rest3)

    msg_below : Below (decoded_msg f.message)
    unfolding decoded_msg msg_processes
    msg_below =
        of-both Below (eqb f.message.kind 1) (and_both leader_below rv_below)
        (of-both Below (eqb f.message.kind 2) leader_below
        (of-both Below (eqb f.message.kind 3) refl (of-both Below (eqb f.message.kind 4) refl (of-both Below (eqb f.message.kind 6) refl refl))))

  pub plain_fits : is_plain n f ≡ true → Ok tt ≡ unfit (numbers_fit (decoded_delivery n own f)) (processes_fit n (decoded_delivery n own f))
  unfolding is_plain decoded_source numbers_fit processes_fit
  plain_fits e =
      let low = and_left (leb 1 f.message.kind) _ e in
      let rest = and_right (leb 1 f.message.kind) _ e in
      let high = and_left (leb f.message.kind 6) _ rest in
      let last = and_right (leb f.message.kind 6) _ rest in
      let small = and_left (is_small f) _ last in
      let below = and_right (is_small f) _ last in
      let requesters = rest4 below in
      let held = right_small (bit_or f.message.last_v.n f.requester.n) f.held_requester.n (added small) in
      simp (
        low,
        high,
        msg_fits small,
        src_fits small,
        value_fits f.message.last_v (left_small f.message.last_v.n f.requester.n (added_two small)),
        process_fits f.requester (right_small f.message.last_v.n f.requester.n (added_two small)),
        process_fits f.held_requester held,
        src_below below,
        msg_below below,
        process_below n f.requester (and_left (ltb f.requester.n n) _ requesters),
        process_below n f.held_requester (and_right (ltb f.requester.n n) _ requesters),
      )

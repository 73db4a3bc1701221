-- Admission by the causes of document 01: 2, 3, 5, 4 and the first form of 6 are the definitions' tests.
-- Assumes nothing.
use Rattle.std.specs.Prelude.{Option, None, Some}
use mathlib.Core.Path.{◌≡◌, refl, sym, ap, ◌∙◌}
use mathlib.Core.Bool.{Bool, true, false, not, ◌&&◌, ◌||◌, and-true, and_comm, and_assoc}
use mathlib.Core.List.{List, [], ◌∷◌}
use Prim.Native.Nat.{ℕ}
use lib.Dec.{ltb, leb}
use borrow.Author.Tests.{ltb-true, ltb-false, lt-ltb, le-ltb, leb-true, leb-false, le-leb, lt-leb}
use Rattle.message.specs.Messages.{msg_slot}
use Rattle.message.specs.declared.ConsensusMsg.{ConsensusMsg}
use Rattle.message.specs.declared.ConsensusMsg.TheVariants.{Prepare, Accept, ForwardRequest, Commit, ReadRequest, ReadResponse}
use Rattle.message.specs.declared.RoundV.{RoundV}
use Rattle.message.specs.declared.RoundV.TheVariants.{FastV, PaxosV}
use Rattle.steps.specs.declared.Core.{Core}
use Rattle.basics.proofs.Tests.{by_cases}
use Rattle.calls.specs.delivery.Admit.{is_ahead, is_own_slot, is_other_last, needs_value}
use Rattle.calls.specs.delivery.Limits.{round_numbers, rv_numbers, msg_numbers, number_given, rv_processes, msg_processes, requester_below, numbers_fit, processes_fit}
use Rattle.calls.specs.declared.delivery.Delivery.{Delivery}
use Rattle.consensus.specs.FirstCause.{any_above, any_from, numbers_too_large, given_number, message_slots, promise_processes, message_processes, promise_numbers, other_numbers, appended, all_processes, all_numbers, ahead_of, of_slot, given_and_different, waits_for_value}

-- ---- tests

and_left : (a b c : Bool) → (a && (b && c)) ≡ (b && (a && c))
and_left true b c = refl
and_left false true c = refl
and_left false false c = refl

or_not : (a b : Bool) → (not a || not b) ≡ not (a && b)
or_not true b = refl
or_not false b = refl

-- a number is above a limit where it is not at most that, and not below a count where it is at least that
pub above_test : (limit n : ℕ) → ltb limit n ≡ not (leb n limit)
above_test limit n = by_cases (leb n limit)
    (λ e. le-ltb limit n (leb-true n limit e) ∙ ap not (sym e))
    (λ e. lt-ltb limit n (leb-false n limit e) ∙ ap not (sym e))

pub from_test : (count n : ℕ) → leb count n ≡ not (ltb n count)
from_test count n = by_cases (ltb n count)
    (λ e. lt-leb count n (ltb-true n count e) ∙ ap not (sym e))
    (λ e. le-leb count n (ltb-false n count e) ∙ ap not (sym e))

-- ---- all numbers of a list pass a test

unfoldable every : (ℕ → Bool) → List ℕ → Bool
every test [] = true
every test (n ∷ ns) = test n && every test ns

every_joined : (test : ℕ → Bool) (ms ns : List ℕ) → every test (appended ms ns) ≡ (every test ms && every test ns)
unfolding every appended
every_joined test [] ns = refl
every_joined test (m ∷ ms) ns = ap (λ (t : Bool). test m && t) (every_joined test ms ns) ∙ sym (and_assoc (test m) (every test ms) (every test ns))

any_above_lem : (limit : ℕ) (ns : List ℕ) → any_above limit ns ≡ not (every (λ n. leb n limit) ns)
unfolding every any_above
any_above_lem limit [] = refl
any_above_lem limit (n ∷ ns) = simp (above_test limit n, any_above_lem limit ns, or_not)

any_from_lem : (count : ℕ) (ns : List ℕ) → any_from count ns ≡ not (every (λ n. ltb n count) ns)
unfolding every any_from
any_from_lem count [] = refl
any_from_lem count (n ∷ ns) = simp (from_test count n, any_from_lem count ns, or_not)

-- ---- 2

abbrev small : ℕ → Bool
small n = leb n 9223372036854775807

abbrev small_slot : ℕ → Bool
small_slot n = leb n 9223372036854775806

any_large : (ns : List ℕ) → any_above 9223372036854775807 ns ≡ not (every small ns)
any_large ns = any_above_lem 9223372036854775807 ns

any_large_slot : (ns : List ℕ) → any_above 9223372036854775806 ns ≡ not (every small_slot ns)
any_large_slot ns = any_above_lem 9223372036854775806 ns

given_small : (o : Option ℕ) → number_given o ≡ every small (given_number o)
unfolding every number_given
given_small None = refl
given_small (Some n) = sym (and-true (small n))

promise_small : (rv : RoundV) → rv_numbers rv ≡ (every small (promise_processes rv) && every small (promise_numbers rv))
unfolding every rv_numbers round_numbers
promise_small (FastV proposer v) = simp (and-true)
promise_small (PaxosV None v) = simp (and-true)
promise_small (PaxosV (Some round) v) = simp (and-true, and_assoc, and_comm, and_left)

message_small : (m : ConsensusMsg) → msg_numbers m ≡ (every small_slot (message_slots m) && every small (message_processes m) && every small (other_numbers m))
unfolding every msg_numbers round_numbers
message_small (Prepare slot round rv) = simp (promise_small rv, and-true, and_assoc, and_comm)
message_small (Accept slot round v) = simp (and-true, and_assoc, and_comm, and_left)
message_small (ForwardRequest v) = simp (and-true)
message_small (Commit slot v) = simp (and-true)
message_small (ReadRequest id) = simp (and-true)
message_small (ReadResponse id next) = simp (and-true)

-- the tests of a message in the order of the causes and in that of the code
reordered : (a v n s h r p : Bool) → (a && (v && (n && (s && (h && (r && p)))))) ≡ (a && (h && (v && (r && (p && (n && s))))))
reordered a v n s h r p = simp (and_comm, and_left)

pub numbers_cause : (d : Delivery) → numbers_too_large (message_slots d.message.msg) (all_numbers d) ≡ not (numbers_fit d)
unfolding numbers_fit every
numbers_cause d =
    simp (any_large, any_large_slot, or_not, every_joined, message_small, given_small, and_assoc, and_comm, and_left)
    (ap not
    (reordered (small d.message.src) (every small (given_number d.message.last_v)) (every small (other_numbers d.message.msg))
    (every small_slot (message_slots d.message.msg)) (every small (given_number d.held_requester)) (every small (given_number d.said.requester))
    (every small (message_processes d.message.msg))))

-- ---- 3

requester_below_lem : (n : ℕ) (o : Option ℕ) → requester_below n o ≡ every (λ p. ltb p n) (given_number o)
unfolding every requester_below
requester_below_lem n None = refl
requester_below_lem n (Some p) = sym (and-true (ltb p n))

promise_below : (n : ℕ) (rv : RoundV) → rv_processes n rv ≡ every (λ p. ltb p n) (promise_processes rv)
unfolding every rv_processes
promise_below n (FastV proposer v) = sym (and-true (ltb proposer n))
promise_below n (PaxosV None v) = refl
promise_below n (PaxosV (Some round) v) = sym (and-true (ltb round.leader n))

message_below : (n : ℕ) (m : ConsensusMsg) → msg_processes n m ≡ every (λ p. ltb p n) (message_processes m)
unfolding every msg_processes
message_below n (Prepare slot round rv) = ap (λ (t : Bool). ltb round.leader n && t) (promise_below n rv)
message_below n (Accept slot round v) = sym (and-true (ltb round.leader n))
message_below n (ForwardRequest v) = refl
message_below n (Commit slot v) = refl
message_below n (ReadRequest id) = refl
message_below n (ReadResponse id next) = refl

pub processes_cause : (n : ℕ) (d : Delivery) → any_from n (all_processes d) ≡ not (processes_fit n d)
unfolding processes_fit every
processes_cause n d = simp (any_from_lem, every_joined, message_below, requester_below_lem, and_assoc)

-- ---- 5, 4, 6

pub ahead_cause : (core : Core) (m : ConsensusMsg) → ahead_of core.slot m ≡ is_ahead core (msg_slot m)
ahead_cause core (Prepare slot round rv) = refl
ahead_cause core (Accept slot round v) = refl
ahead_cause core (ForwardRequest v) = refl
ahead_cause core (Commit slot v) = refl
ahead_cause core (ReadRequest id) = refl
ahead_cause core (ReadResponse id next) = refl

pub slot_cause : (core : Core) (m : ConsensusMsg) → of_slot core.slot m ≡ is_own_slot core (msg_slot m)
slot_cause core (Prepare slot round rv) = refl
slot_cause core (Accept slot round v) = refl
slot_cause core (ForwardRequest v) = refl
slot_cause core (Commit slot v) = refl
slot_cause core (ReadRequest id) = refl
slot_cause core (ReadResponse id next) = refl

different : (o own : Option ℕ) (core : Core) → core.last_v ≡ own → given_and_different o own ≡ is_other_last core o
different None own core e = refl
different (Some v) None core e = simp e
different (Some v) (Some w) core e = simp e

pub last_cause : (core : Core) (o : Option ℕ) → given_and_different o core.last_v ≡ is_other_last core o
last_cause core o = different o core.last_v core refl

pub waits_cause : (own : ℕ) (m : ConsensusMsg) → waits_for_value own m ≡ needs_value own m
waits_cause own (Prepare slot round rv) = refl
waits_cause own (Accept slot round v) = refl
waits_cause own (ForwardRequest v) = refl
waits_cause own (Commit slot v) = refl
waits_cause own (ReadRequest id) = refl
waits_cause own (ReadResponse id next) = refl

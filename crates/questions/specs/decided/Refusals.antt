-- Why a call is refused before it is handled, and a test that most messages pass, by which nothing else is to be asked of their numbers.
-- Assumes nothing.
use Rattle.std.specs.Prelude.{Bool, cond, ◌&&◌, ℕ, leb, ltb, Ok, Err}
use Rattle.std.specs.Int.Bits.{bit_or}
use Rattle.arrays.specs.declared.Setup.{Setup}
use Rattle.calls.specs.Decision.{unless_unmade}
use Rattle.message.specs.Outcomes.{Outcome}
use Rattle.message.specs.declared.Refusal.TheVariants.{NumberTooLarge, NoSuchProcess}
use Rattle.message.specs.limits.Limits.{is_number, is_slot}
use Rattle.flat.specs.Decode.{decoded_call, decoded_core, decoded_made}
use Rattle.flat.specs.declared.FlatCall.{FlatCall}
use Rattle.flat.specs.declared.FlatCore.{FlatCore}

-- why the call is refused, if it is
abbrev pub refusal_of : Setup → FlatCore → FlatCall → Outcome
refusal_of s core f =
    unless_unmade (decoded_made s.made s.mode) s.process_count s.my_pid (decoded_core core) (decoded_call s.process_count s.my_pid f)

-- numbers before processes
abbrev pub unfit : Bool → Bool → Outcome
unfit numbers processes = cond numbers (cond processes (Ok tt) (Err NoSuchProcess)) (Err NumberTooLarge)

-- ---- messages that fit whatever their kind

abbrev pub round_bits : FlatCall → ℕ
round_bits f = bit_or f.message.round_group f.message.leader

abbrev pub promise_bits : FlatCall → ℕ
promise_bits f =
    bit_or
    (bit_or (bit_or f.message.rv.proposer f.message.rv.accept_round.round_group) f.message.rv.accept_round.leader)
    f.message.rv.v

abbrev pub own_bits : FlatCall → ℕ
own_bits f = bit_or (bit_or (bit_or f.message.v f.message.id) f.message.next_readable_slot) f.message.src

abbrev pub added_bits : FlatCall → ℕ
added_bits f = bit_or (bit_or f.message.last_v.n f.requester.n) f.held_requester.n

-- no number is too large
unfoldable pub is_small : FlatCall → Bool
is_small f = is_number (bit_or (bit_or (bit_or (round_bits f) (promise_bits f)) (own_bits f)) (added_bits f)) && is_slot f.message.slot

-- no number that can be a process is too large
unfoldable pub is_below : ℕ → FlatCall → Bool
is_below n f =
    ltb f.message.src n
    && (ltb f.message.leader n
    && (ltb f.message.rv.proposer n
    && (ltb f.message.rv.accept_round.leader n && (ltb f.requester.n n && ltb f.held_requester.n n))))

-- of a kind that there is
unfoldable pub is_plain : ℕ → FlatCall → Bool
is_plain n f = leb 1 f.message.kind && (leb f.message.kind 6 && (is_small f && is_below n f))

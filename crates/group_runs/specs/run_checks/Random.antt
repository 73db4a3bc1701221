-- Marsaglia's generator xorshift64, with the shifts 13, 7 and 17.
-- Assumes nothing.
use Rattle.std.specs.Prelude.{ℕ, ◌*◌, ◌/◌, ◌%◌, ◌^◌}
use Rattle.std.specs.Int.Bits.{bit_xor}

-- a number with itself shifted to the left, or to the right, by k bits of 64
abbrev pub left_xor : ℕ → ℕ → ℕ
left_xor k x = bit_xor x ((x * 2 ^ k) % 2 ^ 64)

abbrev pub right_xor : ℕ → ℕ → ℕ
right_xor k x = bit_xor x (x / 2 ^ k)

abbrev pub next_random : ℕ → ℕ
next_random x = left_xor 17 (right_xor 7 (left_xor 13 x))

-- Refusals 2 and 3: the numbers of a message (document 01, the table of "Message and answer").
-- "slot above 2^63−2, or other number above 2^63−1"; "A ReadResponse's slot field may be 2^63−1"; "process number not below the count".
-- Assumes nothing.
use Rattle.std.specs.Prelude.{Bool, true, ◌&&◌, ℕ, leb, ltb, Option, None, Some}
use Rattle.message.specs.declared.ConsensusMsg.{ConsensusMsg}
use Rattle.message.specs.declared.ConsensusMsg.TheVariants.{Prepare, Accept, ForwardRequest, Commit, ReadRequest, ReadResponse}
use Rattle.message.specs.declared.PaxosRound.{PaxosRound}
use Rattle.message.specs.declared.RoundV.{RoundV}
use Rattle.message.specs.declared.RoundV.TheVariants.{FastV, PaxosV}

-- ---- numbers

abbrev pub is_number : ℕ → Bool
is_number n = leb n 9223372036854775807

abbrev pub is_slot : ℕ → Bool
is_slot n = leb n 9223372036854775806

unfoldable pub round_numbers : PaxosRound → Bool
round_numbers round = is_number round.round_group && is_number round.leader

unfoldable pub rv_numbers : RoundV → Bool
rv_numbers (FastV proposer v) = is_number proposer && is_number v
rv_numbers (PaxosV None v) = is_number v
rv_numbers (PaxosV (Some round) v) = round_numbers round && is_number v

unfoldable pub msg_numbers : ConsensusMsg → Bool
msg_numbers (Prepare slot round rv) = is_slot slot && round_numbers round && rv_numbers rv
msg_numbers (Accept slot round v) = is_slot slot && round_numbers round && is_number v
msg_numbers (ForwardRequest v) = is_number v
msg_numbers (Commit slot v) = is_slot slot && is_number v
msg_numbers (ReadRequest id) = is_number id.0
msg_numbers (ReadResponse id next) = is_number id.0 && is_number next

-- a value or a process number, where one is given
unfoldable pub number_given : Option ℕ → Bool
number_given None = true
number_given (Some n) = is_number n

-- ---- process numbers, below the count n

unfoldable pub rv_processes : ℕ → RoundV → Bool
rv_processes n (FastV proposer v) = ltb proposer n
rv_processes n (PaxosV None v) = true
rv_processes n (PaxosV (Some round) v) = ltb round.leader n

unfoldable pub msg_processes : ℕ → ConsensusMsg → Bool
msg_processes n (Prepare slot round rv) = ltb round.leader n && rv_processes n rv
msg_processes n (Accept slot round v) = ltb round.leader n
msg_processes n (ForwardRequest v) = true
msg_processes n (Commit slot v) = true
msg_processes n (ReadRequest id) = true
msg_processes n (ReadResponse id next) = true

unfoldable pub requester_below : ℕ → Option ℕ → Bool
requester_below n None = true
requester_below n (Some p) = ltb p n

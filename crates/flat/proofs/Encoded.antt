-- What the engine writes stands for what it is: decoded again it is the same.
-- Assumes nothing.
use Rattle.std.specs.Prelude.{Option, None, Some}
use Rattle.message.specs.declared.PaxosRound.{PaxosRound}
use mathlib.Core.Path.{◌≡◌, refl, ap}
use mathlib.Core.Bool.{Bool, true, false}
use mathlib.Core.Logic.{inl, inr}
use Prim.Native.Nat.{ℕ}
use lib.Dec.{leb}
use Rattle.message.specs.Outcomes.{Outcome}
use Rattle.message.specs.declared.ConsensusMessage.{ConsensusMessage}
use Rattle.message.specs.declared.ConsensusMsg.{ConsensusMsg}
use Rattle.message.specs.declared.ConsensusMsg.TheVariants.{Prepare, Accept, ForwardRequest, Commit, ReadRequest, ReadResponse}
use Rattle.message.specs.declared.RoundV.{RoundV}
use Rattle.message.specs.declared.RoundV.TheVariants.{FastV, PaxosV}
use Rattle.steps.specs.declared.Core.{Core}
use Rattle.flat.specs.Encode.{encoded_bool, encoded_outcome, encoded_made, encoded_option, encoded_round, encoded_promise, encoded_held, encoded_core, encoded_msg, with_source, encoded_message}
use Rattle.flat.specs.Decode.{is_yes, decoded_option, decoded_round, decoded_promise, decoded_held, decoded_made, IsMark, decoded_core, decoded_msg, decoded_source, decoded_message}
use Rattle.flat.specs.declared.FlatOption.{FlatOption}

-- in a mode that there is, the mark that a shard begins with crosses to numbers and back: 1 comes back as 1, and 17 as 17
pub mark_encoded : (o : Outcome) (mode : ℕ) → IsMark o → leb mode 5 ≡ true → decoded_made (encoded_made o mode) mode ≡ o
unfolding decoded_made encoded_made encoded_outcome
mark_encoded o mode (inl made) known = simp (made, known)
mark_encoded o mode (inr (inl outside)) known = simp (outside, known)
mark_encoded o mode (inr (inr unfit)) known = simp (unfit, known)

pub yes_encoded : (b : Bool) → is_yes (encoded_bool b) ≡ b
yes_encoded true = refl
yes_encoded false = refl

pub value_encoded : (o : Option ℕ) → decoded_option (encoded_option o) ≡ o
unfolding decoded_option encoded_option
value_encoded None = refl
value_encoded (Some n) = refl

round_encoded : (o : Option PaxosRound) → decoded_round (encoded_round o) ≡ o
unfolding decoded_round encoded_round
round_encoded None = refl
round_encoded (Some r) = refl

promise_encoded : (rv : RoundV) → decoded_promise (encoded_promise rv) ≡ rv
unfolding decoded_promise encoded_promise
promise_encoded (FastV proposer v) = refl
promise_encoded (PaxosV at v) = ap (λ (o : Option PaxosRound). PaxosV o v) (round_encoded at)

held_encoded : (h : Option RoundV) → decoded_held (encoded_held h) ≡ h
unfolding decoded_held encoded_held
held_encoded None = refl
held_encoded (Some rv) = ap Some (promise_encoded rv)

pub core_encoded : (c : Core) → decoded_core (encoded_core c) ≡ c
core_encoded c =
    simp (value_encoded c.last_v, yes_encoded c.slot_left_fast_path, round_encoded c.paxos.round, held_encoded c.paxos.max_rv)

-- ---- messages

-- the message's own fields, with whatever source and last value
msg_encoded : (msg : ConsensusMsg) (src : ℕ) (last : FlatOption) → decoded_msg (with_source (encoded_msg msg) src last) ≡ msg
unfolding decoded_msg encoded_msg
msg_encoded (Prepare slot round rv) src last = ap (Prepare slot round) (promise_encoded rv)
msg_encoded (Accept slot round v) src last = refl
msg_encoded (ForwardRequest v) src last = refl
msg_encoded (Commit slot v) src last = refl
msg_encoded (ReadRequest id) src last = refl
msg_encoded (ReadResponse id next) src last = refl

source_encoded : (count own : ℕ) (msg : ConsensusMsg) (src : ℕ) (last : FlatOption) → decoded_source count own (with_source (encoded_msg msg) src last) ≡ src
unfolding decoded_source encoded_msg
source_encoded count own (Prepare slot round rv) src last = refl
source_encoded count own (Accept slot round v) src last = refl
source_encoded count own (ForwardRequest v) src last = refl
source_encoded count own (Commit slot v) src last = refl
source_encoded count own (ReadRequest id) src last = refl
source_encoded count own (ReadResponse id next) src last = refl

-- a message that one member sends, handed in as it stands at another, is the message that was sent
pub message_encoded : (count own : ℕ) (m : ConsensusMessage) → decoded_message count own (encoded_message m) ≡ m
message_encoded count own m = simp (msg_encoded m.msg, source_encoded count own m.msg, value_encoded m.last_v)

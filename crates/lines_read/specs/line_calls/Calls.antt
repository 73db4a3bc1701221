-- The calls of the lines of kind 3 to 10, from their numbers (docs/ORACLE.md, "Call lines").
-- Assumes nothing.
use Rattle.std.specs.Prelude.{cond, List, ℕ, ◌+◌, eqb, get_or, Option, None, Some, unwrap_or}
use Rattle.message.specs.Rounds.{round_of}
use Rattle.message.specs.declared.ConsensusMsg.{ConsensusMsg}
use Rattle.message.specs.declared.ConsensusMsg.TheVariants.{Prepare, Accept, ForwardRequest, Commit, ReadRequest, ReadResponse}
use Rattle.message.specs.declared.RoundV.{RoundV}
use Rattle.message.specs.declared.RoundV.TheVariants.{FastV, PaxosV}
use Rattle.read_tracker.specs.Reads.{read_id}
use Rattle.calls.specs.declared.Call.{Call}
use Rattle.calls.specs.declared.Call.TheVariants.{Propose, StartRead, Receive}
use Rattle.calls.specs.declared.delivery.Delivery.{Delivery}
use Rattle.calls.specs.declared.delivery.Said.{Said}

-- the number at place i of a line, and 0 past its end
abbrev pub line_number_at : List ℕ → ℕ → ℕ
line_number_at numbers i = get_or numbers i 0

-- `x?`: the value counts where the flag is 1
abbrev pub optional : {A : Type 0} → ℕ → A → Option A
optional flag value = cond (eqb flag 1) (Some value) None

-- PROMISE
unfoldable pub promise_of : ℕ → ℕ → ℕ → ℕ → RoundV
promise_of kind a b v = cond (eqb kind 0) (FastV a v) (cond (eqb kind 1) (PaxosV None v) (PaxosV (Some (round_of a b)) v))

-- ---- messages

unfoldable pub prepare_of : List ℕ → ConsensusMsg
prepare_of ns = Prepare (line_number_at ns 4) (round_of (line_number_at ns 5) (line_number_at ns 6)) (promise_of (line_number_at ns 7) (line_number_at ns 8) (line_number_at ns 9) (line_number_at ns 10))

unfoldable pub accept_of : List ℕ → ConsensusMsg
accept_of ns = Accept (line_number_at ns 4) (round_of (line_number_at ns 5) (line_number_at ns 6)) (line_number_at ns 7)

unfoldable pub line_message : List ℕ → ConsensusMsg
line_message ns =
    cond (eqb (line_number_at ns 0) 5) (prepare_of ns) (cond (eqb (line_number_at ns 0) 6) (accept_of ns) (cond (eqb (line_number_at ns 0) 7) (ForwardRequest (line_number_at ns 4))
    (cond (eqb (line_number_at ns 0) 8) (Commit (line_number_at ns 4) (line_number_at ns 5)) (cond (eqb (line_number_at ns 0) 9) (ReadRequest (read_id (line_number_at ns 4)))
    (ReadResponse (read_id (line_number_at ns 4)) (line_number_at ns 5))))))

-- where WORDS begins on a line of this kind, if it has them
unfoldable pub words_place : ℕ → Option ℕ
words_place kind =
    cond (eqb kind 5) (Some 11) (cond (eqb kind 6) (Some 8) (cond (eqb kind 7) (Some 5) (cond (eqb kind 8) (Some 6)
    (cond (eqb kind 9) (Some 5) (cond (eqb kind 10) (Some 6) None)))))

unfoldable pub said_at : List ℕ → ℕ → Said
said_at ns w =
    record { value_held = eqb (line_number_at ns w) 1; requester = optional (line_number_at ns (w + 1)) (line_number_at ns (w + 2)); fast = eqb (line_number_at ns (w + 3)) 1 }

unfoldable pub delivery_at : List ℕ → ℕ → Delivery
delivery_at ns w =
    record {
      message = record { msg = line_message ns; src = line_number_at ns 1; last_v = optional (line_number_at ns 2) (line_number_at ns 3) };
      said = said_at ns w;
      held_requester = optional (line_number_at ns (w + 4)) (line_number_at ns (w + 5));
    }

-- ---- calls

unfoldable pub call_of_numbers : List ℕ → Call
call_of_numbers ns =
    cond (eqb (line_number_at ns 0) 3) (Propose (line_number_at ns 1)) (cond (eqb (line_number_at ns 0) 4) (StartRead (line_number_at ns 1) (line_number_at ns 2))
    (Receive (delivery_at ns (unwrap_or (words_place (line_number_at ns 0)) 0))))

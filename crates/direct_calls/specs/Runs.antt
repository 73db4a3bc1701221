-- Runs of a group whose hosts lend arrays (document 01, "Group runs": "A shard goes from one call of its member to the next, by value or lent, and has
-- no other writer").
-- Assumes nothing.
use Rattle.std.specs.Prelude.{cond, List, [], ◌∷◌, ℕ, eqb}
pub use Rattle.direct.specs.Stands.{Memory, shard_of, call_in, HostAnswer, told_by, by_direct}
use Rattle.direct.specs.handlers.Handled.{passed_on}
use Rattle.direct.specs.declared.handlers.ReplyInArrays.{ReplyInArrays}
pub use Rattle.direct_fast.specs.FastStands.{by_fast}
use Rattle.group.specs.Claim.{MemberCallOf, MemberCall, CallMade, engine_call_types, after_made}
use Rattle.message.specs.Modes.{has_fast_path, mode_of_number}
use Rattle.flat.specs.declared.FlatCall.{FlatCall}

-- ---- a call

-- as the header and the Rust crate make a call: in a mode with a fast path `chanbook_fast_call` is asked first
unfoldable pub call_by_host : Memory → FlatCall → ReplyInArrays → HostAnswer
call_by_host m f w =
    cond (has_fast_path (mode_of_number m.setup.mode))
    (cond (eqb (by_fast m f w).number passed_on) (by_direct m f w) (by_fast m f w))
    (by_direct m f w)

-- ---- runs

-- a call, and what stood in the arrays of the reply before
pub record HandedIn : Type 0 where
  pub call : FlatCall
  pub reply_before : ReplyInArrays

abbrev pub HostCall : Type 0
HostCall = MemberCallOf HandedIn

-- on the memory of a member: the memory that is left, and the call with what its host is told
abbrev pub host_made : Memory → HandedIn → CallMade engine_call_types Memory
host_made m c =
    record {
      shard = (call_by_host m c.call c.reply_before).memory;
      call = call_in m c.call;
      reply = told_by (call_by_host m c.call c.reply_before);
    }

-- each call is made on the memory that its member's last call left
abbrev pub memories_after : (ℕ → Memory) → HostCall → ℕ → Memory
memories_after memories c = after_made host_made memories c

-- the calls that are made
unfoldable pub calls_from : (ℕ → Memory) → List HostCall → List MemberCall
calls_from memories [] = []
calls_from memories (c ∷ cs) = record { member = c.member; call = call_in (memories c.member) c.call.call } ∷ calls_from (memories_after memories c) cs

-- A call as a host makes it is the call on the shard that its memory stands for. The arrays in which a shard begins stand for it.
-- Assumes nothing.
use Rattle.std.specs.Prelude.{Ok, Err}
use Rattle.message.specs.Outcomes.{Outcome}
use mathlib.Core.Path.{◌≡◌, refl, sym, ap, ◌∙◌}
use mathlib.Core.Logic.{◌⊎◌, inl, inr}
use mathlib.Core.Bool.{Bool, true, false, cond}
use Prim.Native.Nat.{ℕ}
use lib.Dec.{eqb, leb}
use borrow.Author.Tests.{eqb-true}
use Rattle.basics.proofs.Tests.{either, not_both}
use Rattle.calls.specs.declared.Call.{Call}
use Rattle.consensus.specs.Call.{call_of}
use Rattle.consensus.specs.FirstCause.{number_of_outcome, ByFirstCause}
use Rattle.consensus.specs.declared.Answer.{Answer}
use Rattle.consensus.specs.declared.Shard.{Shard}
use Rattle.consensus.proofs.Refusals.{by_first_cause, unmade_refuses}
use Rattle.direct.specs.Direct.{fast_half_acts}
use Rattle.direct.specs.Stands.{Memory, shard_of, call_in, HostAnswer, told_by, unwritten, Stands, answer_to, CallIsMade, by_direct}
use Rattle.direct.specs.handlers.Handled.{passed_on}
use Rattle.direct.specs.declared.handlers.ReplyInArrays.{ReplyInArrays}
use Rattle.direct_fast.specs.FastStands.{by_fast}
use Rattle.direct_fast.proofs.FastCalls.{one_of_both, declined_is_direct, classic_is_direct}
use Rattle.fast_state.specs.Adopt.{lowest_best}
use Rattle.group_settings.specs.GroupSettings.{decoded_group_settings, flat_settings_number}
use Rattle.group_settings.specs.declared.FlatGroupSettings.{FlatGroupSettings}
use Rattle.group_settings.specs.declared.GroupSettings.{GroupSettings}
use Rattle.group_shard.specs.Begin.{begin_shard}
use Rattle.group_settings_runs.specs.Groups.{member_group_settings, begun_from}
use Rattle.host.specs.Begun.{new_memory}
use Rattle.host.proofs.Begun.{new_stands, MarkedBy, marked_by_number}
use Rattle.message.specs.Modes.{has_fast_path, mode_of_number}
use Rattle.message.specs.Refusals.{refusal_number}
use Rattle.message.specs.declared.Refusal.{Refusal}
use Rattle.flat.specs.declared.FlatCall.{FlatCall}
use Rattle.direct_calls.specs.Runs.{call_by_host}

-- ---- refusals

abbrev is_done : Outcome → Bool
is_done (Ok tt) = true
is_done (Err why) = false

not_refused : {o : Outcome} {why : Refusal} → o ≡ Ok tt → o ≡ Err why → ⊥
not_refused p q = not_both (ap is_done p) (ap is_done q)

pub refusal_leaves : (shard : Shard) (c : Call) (why : Refusal) → (call_of shard c).reply.outcome ≡ Err why → (call_of shard c).shard ≡ shard
refusal_leaves shard c why e = go (by_first_cause lowest_best shard c)
  where
    go : ByFirstCause lowest_best shard c (call_of shard c) → (call_of shard c).shard ≡ shard
    go (inl (done, none)) = absurd (not_refused done e)
    go (inr (w, r, first)) = ap (λ (a : Answer). a.shard) r

-- ---- a call

module _ (m : Memory) (f : FlatCall) (w : ReplyInArrays) where
  abbrev made : Answer
  made = answer_to m f

  -- the memory afterwards stands for the new shard, and the host reads the call's reply; a refusal gives its number and writes nothing
  pub record IsCall (x : HostAnswer) : Type 0 where
    pub stands : shard_of x.memory ≡ made.shard
    pub told : told_by x ≡ made.reply
    pub left : (why : Refusal) → made.reply.outcome ≡ Err why → x ≡ unwritten m w (refusal_number why)

  is_call_by : (o : Outcome) → made.reply.outcome ≡ o → (x : HostAnswer) → Stands m w made o x → told_by x ≡ made.reply → IsCall x
  is_call_by (Ok tt) e x (n, s, r) told =
      record {
        stands = s;
        told = told;
        left = λ why refused. (let same : Ok tt ≡ Err why = sym e ∙ refused in cc);
      }
  is_call_by (Err why) e x same told =
      record {
        stands = ap (λ (y : HostAnswer). shard_of y.memory) same ∙ sym (refusal_leaves (shard_of m) (call_in m f) why e);
        told = told;
        left = λ other refused. same ∙ ap (λ (o : Outcome). unwritten m w (number_of_outcome o)) (sym e ∙ refused);
      }

  is_made : {x : HostAnswer} → CallIsMade m f w x → IsCall x
  is_made {x} s = is_call_by made.reply.outcome refl x s.0 s.1

  -- the fast half has no part in the call
  direct_is : fast_half_acts m.setup f ≡ false → IsCall (by_direct m f w)
  direct_is none = is_made ((one_of_both m f w).1 none).1

  -- it has a part, or `chanbook_fast_call` would have given `passed_on`
  fast_is : eqb (by_fast m f w).number passed_on ≡ false → IsCall (by_fast m f w)
  fast_is given = go (either (fast_half_acts m.setup f))
    where
      go : (fast_half_acts m.setup f ≡ true) ⊎ (fast_half_acts m.setup f ≡ false) → IsCall (by_fast m f w)
      go (inl acts) = is_made ((one_of_both m f w).0 acts)
      go (inr none) = absurd (not_both (ap (λ (x : HostAnswer). eqb x.number passed_on) ((one_of_both m f w).1 none).0) given)

  pub host_is_call : IsCall (call_by_host m f w)
  unfolding call_by_host
  host_is_call = go (has_fast_path (mode_of_number m.setup.mode)) (eqb (by_fast m f w).number passed_on) refl refl
    where
      go : (t u : Bool) → has_fast_path (mode_of_number m.setup.mode) ≡ t → eqb (by_fast m f w).number passed_on ≡ u
          → IsCall (cond t (cond u (by_direct m f w) (by_fast m f w)) (by_direct m f w))
      go true true e given = direct_is (declined_is_direct m f w (eqb-true _ _ given))
      go true false e given = fast_is given
      go false u e given = direct_is (classic_is_direct m.setup f e)

-- ---- how memory begins

-- memory that `chanbook_shard_new` fills stands for the shard that begins from the same group settings
pub host_begins : (g : GroupSettings) (j : ℕ) (t : FlatGroupSettings) → leb t.settings.mode 5 ≡ true → decoded_group_settings t ≡ member_group_settings g j
    → shard_of (new_memory t) ≡ begun_from g j
host_begins g j t known e = new_stands t known ∙ ap begin_shard e

-- Where it gives a number other than 0, which is 1 or 17, a call in place gives the same, writes nothing of a reply and leaves each number of the memory: so does
-- every call after it.
pub host_refuses : (t : FlatGroupSettings) → (flat_settings_number t ≡ 0 → ⊥) → (f : FlatCall) (w : ReplyInArrays)
    → ((call_by_host (new_memory t) f w).number ≡ flat_settings_number t) × ((call_by_host (new_memory t) f w).reply ≡ w)
    × ((call_by_host (new_memory t) f w).memory ≡ new_memory t)
host_refuses t refused f w = go (marked_by_number t)
  where
    m : Memory
    m = new_memory t

    is_call : IsCall m f w (call_by_host m f w)
    is_call = host_is_call m f w

    refused_with : (why : Refusal) → (shard_of m).made ≡ Err why → (made m f w).reply.outcome ≡ Err why
    refused_with why e = ap (λ (r : Answer). r.reply.outcome) (unmade_refuses lowest_best (shard_of m) (call_in m f) why e)

    go : MarkedBy (shard_of m).made (flat_settings_number t)
        → ((call_by_host m f w).number ≡ flat_settings_number t) × ((call_by_host m f w).reply ≡ w) × ((call_by_host m f w).memory ≡ m)
    go (inl (_, none)) = absurd (refused none)
    go (inr (why, (e, number))) =
        let left = is_call.left why (refused_with why e) in
        (ap (λ (x : HostAnswer). x.number) left ∙ sym number, ap (λ (x : HostAnswer). x.reply) left, ap (λ (x : HostAnswer). x.memory) left)

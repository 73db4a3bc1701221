-- A Prepare or an Accept of an older slot, or of an older round, changes nothing and is not answered, in every mode.
-- Assumes nothing.
use Rattle.std.specs.Prelude.{Some, Result, Ok}
use mathlib.Core.Path.{◌≡◌, refl, ap, ◌∙◌}
use mathlib.Core.Logic.{◌⊎◌, inl, inr}
use mathlib.Core.Bool.{Bool, true, cond, ◌||◌}
use mathlib.Core.List.{List}
use Prim.Native.Nat.{ℕ}
use lib.Dec.{ltb}
use Rattle.basics.proofs.Tests.{or_left, or_right, of-both}
use Rattle.message.specs.Modes.{is_swift_paxos}
use Rattle.message.specs.Rounds.{before}
use Rattle.message.specs.declared.ConsensusMsg.TheVariants.{Prepare, Accept}
use Rattle.message.specs.declared.PaxosRound.{PaxosRound}
use Rattle.message.specs.declared.Refusal.{Refusal}
use Rattle.message.specs.declared.RoundV.{RoundV}
use Rattle.fast_state.specs.Adopt.{ProposerChoice}
use Rattle.fast_state.specs.Fast.{unchanged, to_v_after, epaxos_scores_after, swift_scores_after}
use Rattle.fast_state.specs.declared.FastAnswers.{FastAnswers}
use Rattle.steps.specs.enter.Enter.{is_older, from_live, enter}
use Rattle.paxos_family.specs.Process.{process_classic, on_prepare, on_accept, process_change, process_fast, on_fast_prepare, on_fast_accept}
use Rattle.steps.specs.Steps.{CoreStep, no_messages, stays, map_step, with_change, on_rounds, change_rounds}
use Rattle.steps.specs.declared.Asked.{Asked}
use Rattle.steps.specs.declared.Core.{Core}
use Rattle.steps.specs.declared.Heard.{Heard}
use Rattle.steps.specs.declared.Rounds.{Rounds}

-- the slot is older, or the round is
abbrev pub Older : ℕ → PaxosRound → Core → Type 0
Older slot round core = (ltb slot core.slot ≡ true) ⊎ (before (Some round) core.paxos.round ≡ true)

older_test : (slot : ℕ) (round : PaxosRound) (core : Core) → Older slot round core → is_older slot round core ≡ true
unfolding is_older
older_test slot round core (inl e) = or_left (before (Some round) core.paxos.round) e
older_test slot round core (inr e) = or_right (ltb slot core.slot) e

module _ (a : Asked) (h : Heard) (slot : ℕ) (round : PaxosRound) where
  older_enter : (core : Core) → Older slot round core → enter a h slot round core ≡ Ok (stays core no_messages)
  unfolding enter
  older_enter core o =
      ap (λ (t : Bool). cond (a.member.replica || is_swift_paxos a.mode) (cond t (Ok (stays core no_messages)) (from_live a h round core)) (Ok (stays core no_messages)))
      (older_test slot round core o)
      ∙ of-both (λ (r : Result CoreStep Refusal). r ≡ Ok (stays core no_messages)) (a.member.replica || is_swift_paxos a.mode) refl refl

  -- the classic modes
  pub older_prepare : (rv : RoundV) (core : Core) → Older slot round core → process_classic a h (Prepare slot round rv) core ≡ Ok (stays core no_messages)
  unfolding process_classic on_prepare
  older_prepare rv core o = let e = older_enter core o in simp e

  pub older_accept : (v : ℕ) (core : Core) → Older slot round core → process_classic a h (Accept slot round v) core ≡ Ok (stays core no_messages)
  unfolding process_classic on_accept
  older_accept v core o = let e = older_enter core o in simp e

  -- EPaxos and SwiftPaxos
  module _ (choose : ProposerChoice) where
    module _ (f : FastAnswers) (values epaxos swift : List ℕ) where
      pub older_prepare_change : (rv : RoundV) (core : Core) → Older slot round core
          → process_change choose a h (Prepare slot round rv) core f values epaxos swift ≡ Ok (with_change (unchanged f) (stays core no_messages))
      unfolding process_change on_fast_prepare
      older_prepare_change rv core o = let e = older_enter core o in simp e

      pub older_accept_change : (v : ℕ) (core : Core) → Older slot round core
          → process_change choose a h (Accept slot round v) core f values epaxos swift ≡ Ok (with_change (unchanged f) (stays core no_messages))
      unfolding process_change on_fast_accept
      older_accept_change v core o = let e = older_enter core o in simp e

    pub older_fast_prepare : (rv : RoundV) (s : Rounds) → Older slot round s.core
        → process_fast choose a h (Prepare slot round rv) s ≡ Ok (on_rounds s.fast (stays s.core no_messages))
    unfolding process_fast to_v_after epaxos_scores_after swift_scores_after
    older_fast_prepare rv s o = ap (map_step (change_rounds s.fast)) (older_prepare_change _ _ _ _ rv s.core o)

    pub older_fast_accept : (v : ℕ) (s : Rounds) → Older slot round s.core
        → process_fast choose a h (Accept slot round v) s ≡ Ok (on_rounds s.fast (stays s.core no_messages))
    unfolding process_fast to_v_after epaxos_scores_after swift_scores_after
    older_fast_accept v s o = ap (map_step (change_rounds s.fast)) (older_accept_change _ _ _ _ v s.core o)

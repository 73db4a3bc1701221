-- What a commit clears and what a new round keeps (document 01, "Round state": "A new round clears both sets, not the held promise, not the
-- fast answers. A commit clears everything.").
-- Assumes nothing.
use Rattle.std.specs.Prelude.{Some, Result, Ok, Err}
use mathlib.Core.Path.{◌≡◌, refl, ap}
use mathlib.Core.Logic.{◌⊎◌, inl, inr}
use mathlib.Core.Bool.{Bool, true, false, cond}
use Prim.Native.Nat.{ℕ}
use Rattle.basics.proofs.Tests.{of-both}
use Rattle.message.specs.Modes.{has_fast_path}
use Rattle.message.specs.Rounds.{before}
use Rattle.message.specs.declared.PaxosRound.{PaxosRound}
use Rattle.message.specs.declared.Refusal.{Refusal}
use Rattle.fast_state.specs.Fast.{answers_of, unchanged, changed, no_answers, to_v_after, epaxos_scores_after, swift_scores_after}
use Rattle.fast_state.specs.RoundState.{new_round_state}
use Rattle.fast_state.specs.declared.FastState.{FastState}
use Rattle.fast_state.specs.declared.PaxosFamilyRoundState.{PaxosFamilyRoundState}
use Rattle.steps.specs.enter.Enter.{can_propose, source_taken, in_round, is_older, from_live, enter}
use Rattle.steps.specs.Steps.{CoreStep, no_messages, stays, with_change, change_rounds}
use Rattle.steps.specs.declared.Asked.{Asked}
use Rattle.steps.specs.declared.Core.{Core}
use Rattle.steps.specs.declared.Heard.{Heard}
use Rattle.steps.specs.declared.Rounds.{Rounds}
use Rattle.paxos_family.specs.Commit.{commit_slot}

-- the two halves of the round state in a shard
abbrev pub round_state : Rounds → PaxosFamilyRoundState
round_state s = record { paxos = s.core.paxos; fast = s.fast }

-- A commit leaves a new round state, in a mode with a fast path or where the fast half is clear; in the other modes nothing changes that half.
pub commit_clears : (a : Asked) (v : ℕ) (s : Rounds) → (has_fast_path a.mode ≡ true) ⊎ (s.fast ≡ no_answers)
    → round_state (commit_slot a v s) ≡ new_round_state a.starting_round
unfolding commit_slot
commit_clears a v s h = ap (λ (f : FastState). record { paxos = (new_round_state a.starting_round).paxos; fast = f }) (fast_clear h)
  where
    go : (t : Bool) → s.fast ≡ no_answers → cond t no_answers s.fast ≡ no_answers
    go true e = refl
    go false e = e

    fast_clear : (has_fast_path a.mode ≡ true) ⊎ (s.fast ≡ no_answers) → cond (has_fast_path a.mode) no_answers s.fast ≡ no_answers
    fast_clear (inl e) = ap (λ (t : Bool). cond t no_answers s.fast) e
    fast_clear (inr e) = go (has_fast_path a.mode) e

-- A new round keeps what is held.
pub in_round_held : (round : PaxosRound) (core : Core) → (in_round round core).paxos.max_rv ≡ core.paxos.max_rv
unfolding in_round
in_round_held round core = of-both (λ (c : Core). c.paxos.max_rv ≡ core.paxos.max_rv) (before core.paxos.round (Some round)) refl refl

nothing_changed : (f : FastState) → changed (unchanged (answers_of f)) f ≡ f
unfolding to_v_after epaxos_scores_after swift_scores_after
nothing_changed f = refl

-- So a call that enters a round keeps what is held and the fast answers, up to where the handlers take over.
module _ (a : Asked) (h : Heard) (slot : ℕ) (round : PaxosRound) (s : Rounds) where
  -- where the call is refused, the rounds stay
  abbrev rounds_left : Result CoreStep Refusal → Rounds
  rounds_left (Ok step) = (change_rounds s.fast (with_change (unchanged (answers_of s.fast)) step)).state
  rounds_left (Err why) = s

  abbrev Keeps : Result CoreStep Refusal → Type 0
  Keeps r = ((rounds_left r).core.paxos.max_rv ≡ s.core.paxos.max_rv) × ((rounds_left r).fast ≡ s.fast)

  abbrev pub entered_rounds : Rounds
  entered_rounds = rounds_left (enter a h slot round s.core)

  pub new_round_keeps : (entered_rounds.core.paxos.max_rv ≡ s.core.paxos.max_rv) × (entered_rounds.fast ≡ s.fast)
  unfolding enter from_live
  new_round_keeps =
      of-both Keeps (can_propose a)
      (of-both Keeps (is_older slot round s.core) same
      (of-both Keeps (source_taken a h) (in_round_held round s.core, nothing_changed s.fast) (refl, refl)))
      same
    where
      same : Keeps (Ok (stays s.core no_messages))
      same = (refl, nothing_changed s.fast)

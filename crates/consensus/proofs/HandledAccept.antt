-- The handler of an Accept gives the numbers of the table of panics (specs/Panics.antt), row by row.
-- Assumes nothing.
use Rattle.std.specs.Prelude.{Ok}
use mathlib.Core.Path.{◌≡◌, ap, ◌∙◌}
use mathlib.Core.Bool.{Bool, false, cond}
use mathlib.Core.List.{List}
use Prim.Native.Nat.{ℕ}
use lib.Dec.{eqb, leb}
use Rattle.basics.proofs.Tests.{by_cases}
use Rattle.message.specs.Modes.{is_swift_paxos}
use Rattle.message.specs.declared.PaxosRound.{PaxosRound}
use Rattle.round_state.specs.Paxos.{paxos_can_commit, receive_accept, after_accept}
use Rattle.round_state.specs.declared.Member.{Member}
use Rattle.fast_state.specs.declared.FastAnswers.{FastAnswers}
use Rattle.steps.specs.Steps.{with_paxos, no_messages}
use Rattle.steps.specs.declared.Asked.{Asked}
use Rattle.steps.specs.declared.Core.{Core}
use Rattle.steps.specs.declared.Heard.{Heard}
use Rattle.classic.specs.accept.Accept.{is_committer, answer_accept, try_commit, answered_delegate, follower, accept_taken, accepting}
use Rattle.classic.specs.prepare.Prepare.{off_fast_path}
use Rattle.steps.specs.declared.SentMessages.{SentMessages}
use Rattle.consensus.specs.Panics.{Facts, oneself_leads, from_delegate, accepts_enough, classic_accept, fits_held}
use Rattle.consensus.specs.Rows.{first_of}
use Rattle.consensus.proofs.Handled.{facts_in, step_number, number_after_step, stop_number, eqb_sym, if_enough, accept_table, fits_same, counted_size}

module _ (a : Asked) (h : Heard) (value_held : Bool) (round : PaxosRound) (v : ℕ) where
  abbrev pub me : Member
  me = a.member

  -- the core with the accept counted
  abbrev pub accepted_core : Core → Core
  accepted_core core = off_fast_path a (with_paxos (after_accept me h.src round v core.paxos) core)

  pub try_commit_number : (rest : Core → ℕ) (core : Core) (ms : SentMessages)
      → number_after_step value_held rest (Ok (try_commit a h round v core ms)) ≡ if_enough value_held (paxos_can_commit me core.paxos)
  unfolding try_commit
  try_commit_number rest core ms = by_cases (paxos_can_commit me core.paxos) (λ e. simp e) (λ e. simp e)

  pub accepted_number : (rest : Core → ℕ) (core : Core)
      → number_after_step value_held rest (accept_taken a h round v core)
      ≡ cond (eqb round.leader me.my_pid) (if_enough value_held (paxos_can_commit me core.paxos))
      (cond (eqb h.src h.delegate)
      (cond (is_committer a h) (cond (is_swift_paxos a.mode) (rest core) (if_enough value_held (paxos_can_commit me core.paxos))) 0)
      (cond (is_committer a h) (if_enough value_held (paxos_can_commit me core.paxos)) 8))
  unfolding accept_taken follower answered_delegate
  accepted_number rest core =
      by_cases (eqb round.leader me.my_pid)
      (λ l. simp (eqb_sym me.my_pid round.leader, l) (try_commit_number rest core no_messages))
      (λ l. by_cases (eqb h.src h.delegate)
      (λ d. by_cases (is_committer a h)
      (λ c. by_cases (is_swift_paxos a.mode) (λ s. simp (eqb_sym me.my_pid round.leader, l, d, c, s))
      (λ s. simp (eqb_sym me.my_pid round.leader, l, d, c, s) (try_commit_number rest core (answer_accept a round core h.committer))))
      (λ c. simp (eqb_sym me.my_pid round.leader, l, d, c)))
      (λ d. by_cases (is_committer a h) (λ c. simp (eqb_sym me.my_pid round.leader, l, d, c) (try_commit_number rest core no_messages))
      (λ c. simp (eqb_sym me.my_pid round.leader, l, d, c))))

  -- in the modes in which accepts are all that is counted
  module _ (answers : FastAnswers) (scores : List ℕ) (core : Core) where
    abbrev pub known : Facts
    known = facts_in a h value_held round core.paxos answers scores

    pub off_path : (c : Core) → (off_fast_path a c).paxos ≡ c.paxos
    off_path c = by_cases (is_swift_paxos a.mode) (λ e. simp e) (λ e. simp e)

    pub accepts_enough_lem : paxos_can_commit me (accepted_core core).paxos ≡ accepts_enough known
    accepts_enough_lem =
        ap (paxos_can_commit me) (off_path (with_paxos (after_accept me h.src round v core.paxos) core))
        ∙ ap (leb me.quorums.majority) (counted_size a h value_held round core.paxos answers scores core.paxos.accepted_set)

    pub accepting_number : (rest : Core → ℕ)
        → number_after_step value_held rest (accepting a h round v core)
        ≡ cond (fits_held core.paxos.max_rv round v)
        (cond (oneself_leads known) (if_enough value_held (accepts_enough known))
        (cond (from_delegate known)
        (cond (is_committer a h) (cond (is_swift_paxos a.mode) (rest (accepted_core core)) (if_enough value_held (accepts_enough known))) 0)
        (cond (is_committer a h) (if_enough value_held (accepts_enough known)) 8)))
        9
    unfolding accepting receive_accept
    accepting_number rest =
        by_cases (fits_held core.paxos.max_rv round v)
        (λ e. simp (fits_same, e) (accepted_number rest (accepted_core core) ∙ simp accepts_enough_lem))
        (λ e. simp (fits_same, e))

    -- whatever would come behind: nothing does, but in SwiftPaxos
    pub accept_ends : is_swift_paxos a.mode ≡ false → (rest : Core → ℕ) → number_after_step value_held rest (accepting a h round v core) ≡ first_of (classic_accept known (is_committer a h) v)
    unfolding first_of
    accept_ends c rest =
        accepting_number rest
        ∙ simp c (accept_table (fits_held core.paxos.max_rv round v) (oneself_leads known) (from_delegate known) (is_committer a h) (accepts_enough known) value_held)

    pub classic_accept_lem : is_swift_paxos a.mode ≡ false → step_number value_held (accepting a h round v core) ≡ first_of (classic_accept known (is_committer a h) v)
    classic_accept_lem c = stop_number value_held (accepting a h round v core) ∙ accept_ends c (λ x. 0)

-- A Prepare or an Accept, from the moment that it comes to the table of panics: who ignores it, 7, and what is known in its round.
-- Assumes nothing.
use Rattle.basics.proofs.Tests.{by_cases, not_both}
use Rattle.std.specs.Prelude.{Option, None, Some, Result}
use mathlib.Core.Path.{◌≡◌, refl, sym, ap, ◌∙◌}
use mathlib.Core.Bool.{Bool, true, false, cond, not, ◌&&◌, ◌||◌}
use mathlib.Core.List.{List, [], ◌∷◌}
use Prim.Native.Nat.{ℕ}
use lib.Dec.{eqb, ltb}
use Rattle.basics.specs.sets.Sets.{contains}
use Rattle.basics.specs.tables.Tables.{look_up}
use Rattle.message.specs.Modes.{has_fast_path, is_swift_paxos}
use Rattle.message.specs.Rounds.{before}
use Rattle.message.specs.declared.ConsensusMsg.{ConsensusMsg}
use Rattle.message.specs.declared.ConsensusMsg.TheVariants.{Prepare, Accept, ForwardRequest}
use Rattle.message.specs.declared.PFMode.{PFMode}
use Rattle.message.specs.declared.PFMode.TheVariants.{Paxos, MultiPaxos, MultiPaxos3P, EPaxos, Pando, SwiftPaxos}
use Rattle.message.specs.declared.PaxosRound.{PaxosRound}
use Rattle.message.specs.declared.Refusal.{Refusal}
use Rattle.message.specs.declared.RoundV.{RoundV}
use Rattle.message.specs.declared.RoundV.TheVariants.{FastV, PaxosV}
use Rattle.settings.specs.Questions.{delegate_in, committer_for, committer_in, committer_of as get_committer}
use Rattle.settings.specs.declared.Settings.{Settings}
use Rattle.fast_state.specs.Adopt.{ProposerChoice}
use Rattle.fast_state.specs.Fast.{answers_of}
use Rattle.steps.specs.enter.Enter.{in_round, is_older, from_live, enter}
use Rattle.paxos_family.specs.Process.{entered_prepare, on_prepare, on_accept, process_classic, entered_fast_prepare, on_fast_prepare, entered_fast_accept, on_fast_accept, replica_accept, process_change, process_fast}
use Rattle.classic.specs.accept.Accept.{is_committer, accepting}
use Rattle.fast.specs.swift.Swift.{swift_client_accept}
use Rattle.fast_state.specs.declared.FastAnswers.{FastAnswers}
use Rattle.message.specs.Promises.{is_process}
use Rattle.quorum.specs.Quorum.{row_of}
use Rattle.round_state.specs.Paxos.{goto_round}
use Rattle.round_state.specs.declared.PaxosState.{PaxosState}
use Rattle.steps.specs.Steps.{CoreStep, with_paxos, map_step, on_rounds, change_rounds}
use Rattle.steps.specs.declared.Asked.{Asked}
use Rattle.steps.specs.declared.ChangeStep.{ChangeStep}
use Rattle.steps.specs.declared.Core.{Core}
use Rattle.steps.specs.declared.Heard.{Heard}
use Rattle.steps.specs.declared.Rounds.{Rounds}
use Rattle.calls.specs.Asked.{asked_of, heard_of, gatherer_in, gatherer_of}
use Rattle.calls.specs.declared.delivery.Delivery.{Delivery}
use Rattle.consensus.specs.Handle.{processed}
use Rattle.consensus.specs.FirstCause.{value_committer, leader_delegate, promise_delegate, facts_of, is_ignored, source_not_live, handling_causes}
use Rattle.consensus.specs.Panics.{Facts, classic_prepare, epaxos_prepare, swift_prepare, classic_accept, swift_replica_accept_rows, swift_client_accept_rows}
use Rattle.consensus.specs.Rows.{Row, gives, first_of}
use Rattle.consensus.proofs.Handled.{facts_in, step_number, change_number, rounds_number, mapped_number, number_after_step, and_then_number, and_then_change_number, classic_prepare_lem}
use Rattle.consensus.proofs.HandledAccept.{classic_accept_lem, accept_ends}
use Rattle.consensus.proofs.HandledEPaxos.{epaxos_prepare_lem}
use Rattle.consensus.proofs.HandledSwift.{behind, replica_number, swift_prepare_lem, swift_accept_lem}

-- ---- who takes part, and 7

-- SwiftPaxos has a fast path
pub not_swift_without_fast_path : (m : PFMode) → has_fast_path m ≡ false → is_swift_paxos m ≡ false
not_swift_without_fast_path Paxos e = refl
not_swift_without_fast_path MultiPaxos e = refl
not_swift_without_fast_path MultiPaxos3P e = refl
not_swift_without_fast_path EPaxos e = refl
not_swift_without_fast_path Pando e = refl
not_swift_without_fast_path SwiftPaxos e = absurd (not_both refl e)

enter_table : (part older before live swift : Bool) (x : ℕ) (rows : List Row) → (part ≡ true → x ≡ first_of rows)
    → cond part (cond (older || before) 0 (cond (live || swift) x 7)) 0 ≡ first_of (cond (not part || older || before) [] (gives 7 (not live && not swift) ∷ rows))
unfolding first_of
enter_table false o b l s x rows e = refl
enter_table true true b l s x rows e = refl
enter_table true false true l s x rows e = refl
enter_table true false false true s x rows e = e refl
enter_table true false false false true x rows e = e refl
enter_table true false false false false x rows e = refl

enter_number : (a : Asked) (h : Heard) (value_held : Bool) (slot : ℕ) (round : PaxosRound) (core : Core) (rest : Core → ℕ) (rows : List Row)
    → ((a.member.replica || is_swift_paxos a.mode) ≡ true → rest (in_round round core) ≡ first_of rows)
    → number_after_step value_held rest (enter a h slot round core)
    ≡ first_of (cond (not (a.member.replica || is_swift_paxos a.mode) || ltb slot core.slot || before (Some round) core.paxos.round) []
    (gives 7 (not h.source_live && not (is_swift_paxos a.mode)) ∷ rows))
unfolding enter is_older from_live
enter_number a h value_held slot round core rest rows e =
    shape
    ∙ enter_table (a.member.replica || is_swift_paxos a.mode) (ltb slot core.slot) (before (Some round) core.paxos.round) h.source_live (is_swift_paxos a.mode)
    (rest (in_round round core)) rows e
  where
    shape : number_after_step value_held rest (enter a h slot round core)
        ≡ cond (a.member.replica || is_swift_paxos a.mode)
        (cond (ltb slot core.slot || before (Some round) core.paxos.round) 0 (cond (h.source_live || is_swift_paxos a.mode) (rest (in_round round core)) 7)) 0
    shape =
        by_cases (a.member.replica || is_swift_paxos a.mode)
        (λ p. by_cases (ltb slot core.slot || before (Some round) core.paxos.round) (λ o. simp (p, o))
        (λ o. by_cases (h.source_live || is_swift_paxos a.mode) (λ l. simp (p, o, l)) (λ l. simp (p, o, l))))
        (λ p. simp p)

-- ---- what is known

pub committer_same : (s : Settings) (requester : Option ℕ) → get_committer s requester ≡ value_committer s requester
unfolding committer_in committer_for
committer_same s None = refl
committer_same s (Some p) = refl

delegate_same : (s : Settings) (m : PFMode) (leader : ℕ) → delegate_in s.delegates m leader ≡ leader_delegate s m leader
unfolding delegate_in
delegate_same s Paxos leader = refl
delegate_same s MultiPaxos leader = refl
delegate_same s MultiPaxos3P leader = refl
delegate_same s EPaxos leader = refl
delegate_same s Pando leader = refl
delegate_same s SwiftPaxos leader = refl

pub prepare_delegate : (s : Settings) (slot : ℕ) (round : PaxosRound) (rv : RoundV) → gatherer_of s (Prepare slot round rv) ≡ promise_delegate s round.leader rv
unfolding gatherer_in
prepare_delegate s slot round (FastV proposer v) =
    ap (cond (is_swift_paxos s.mode && not (eqb round.leader s.my_pid)) proposer) (delegate_same s s.mode round.leader)
prepare_delegate s slot round (PaxosV at v) = delegate_same s s.mode round.leader

pub accept_delegate : (s : Settings) (slot : ℕ) (round : PaxosRound) (v : ℕ) → gatherer_of s (Accept slot round v) ≡ leader_delegate s s.mode round.leader
unfolding gatherer_in
accept_delegate s slot round v = delegate_same s s.mode round.leader

entered_facts : (s : Settings) (rounds : Rounds) (d : Delivery) (round : PaxosRound)
    → facts_in (asked_of s) (heard_of s d) d.said.value_held round (in_round round rounds.core).paxos (answers_of rounds.fast) rounds.fast.epaxos_proposer_scores
    ≡ facts_of s rounds d round (gatherer_of s d.message.msg)
unfolding in_round
entered_facts s rounds d round =
    go (before rounds.core.paxos.round (Some round)) (get_committer s d.said.requester)
    ∙ ap (counted (before rounds.core.paxos.round (Some round))) (committer_same s d.said.requester)
  where
    known : PaxosState → Option ℕ → Facts
    known p committer =
        record {
          own = s.my_pid;
          replica = contains s.alive_replicas s.my_pid;
          source = d.message.src;
          round = round;
          delegate = gatherer_of s d.message.msg;
          committer = is_process committer s.my_pid;
          value_held = d.said.value_held;
          quorums = row_of s.replica_count;
          fixed = s.quorum;
          held = p.max_rv;
          promises = p.prepared_set;
          accepts = p.accepted_set;
          answers = answers_of rounds.fast;
          scores = λ p. look_up rounds.fast.epaxos_proposer_scores p;
        }

    counted : Bool → Option ℕ → Facts
    counted later committer =
        known
        (record {
          round = rounds.core.paxos.round;
          max_rv = rounds.core.paxos.max_rv;
          prepared_set = cond later 0 rounds.core.paxos.prepared_set;
          accepted_set = cond later 0 rounds.core.paxos.accepted_set;
        })
        committer

    go : (later : Bool) (committer : Option ℕ)
        → known (cond later (with_paxos (goto_round (Some round) rounds.core.paxos) rounds.core) rounds.core).paxos committer ≡ counted later committer
    go true committer = refl
    go false committer = refl

-- ---- a Prepare or an Accept, by the table

module _ (choose : ProposerChoice) (s : Settings) (rounds : Rounds) (d : Delivery) where
  abbrev a : Asked
  a = asked_of s

  abbrev h : Heard
  h = heard_of s d

  abbrev value_held : Bool
  value_held = d.said.value_held

  abbrev core : Core
  core = rounds.core

  abbrev answers : FastAnswers
  answers = answers_of rounds.fast

  abbrev values : List ℕ
  values = rounds.fast.fast_proposer_to_v

  abbrev scores : List ℕ
  scores = rounds.fast.epaxos_proposer_scores

  abbrev swift_scores : List ℕ
  swift_scores = rounds.fast.swift_proposer_scores

  replica_part : is_swift_paxos s.mode ≡ false → (a.member.replica || is_swift_paxos a.mode) ≡ true → a.member.replica ≡ true
  replica_part c p = go a.member.replica (is_swift_paxos a.mode) c p
    where
      go : (t u : Bool) → u ≡ false → (t || u) ≡ true → t ≡ true
      go true u e f = refl
      go false u e f = sym e ∙ f

  abbrev unless_ignored : ℕ → PaxosRound → List Row → ℕ
  unless_ignored slot round rows = first_of (cond (is_ignored s rounds slot round) [] (gives 7 (source_not_live s d.message.src) ∷ rows))

  module _ (slot : ℕ) (round : PaxosRound) (rv : RoundV) (e : d.message.msg ≡ Prepare slot round rv) where
    abbrev known : Facts
    known = facts_of s rounds d round (promise_delegate s round.leader rv)

    facts_prepare : facts_in a h value_held round (in_round round core).paxos answers scores ≡ known
    facts_prepare = entered_facts s rounds d round ∙ ap (facts_of s rounds d round) (ap (gatherer_of s) e ∙ prepare_delegate s slot round rv)

    on_prepare_lem : is_swift_paxos s.mode ≡ false → step_number value_held (on_prepare a h slot round rv core) ≡ unless_ignored slot round (classic_prepare known rv)
    unfolding on_prepare
    on_prepare_lem c =
        and_then_number value_held (enter a h slot round core) (entered_prepare a h round rv)
        ∙ enter_number a h value_held slot round core (λ x. step_number value_held (entered_prepare a h round rv x)) (classic_prepare known rv)
        (λ p. classic_prepare_lem a h value_held round answers scores rv (in_round round core) c (replica_part c p) ∙ ap (λ (f : Facts). first_of (classic_prepare f rv)) facts_prepare)

    on_fast_prepare_lem : (rows : Facts → List Row)
        → ((a.member.replica || is_swift_paxos a.mode) ≡ true
        → change_number value_held (entered_fast_prepare choose a h round rv (in_round round core) answers values scores swift_scores)
        ≡ first_of (rows (facts_in a h value_held round (in_round round core).paxos answers scores)))
        → change_number value_held (on_fast_prepare choose a h slot round rv core answers values scores swift_scores) ≡ unless_ignored slot round (rows known)
    unfolding on_fast_prepare
    on_fast_prepare_lem rows q =
        and_then_change_number value_held answers (enter a h slot round core) (λ x. entered_fast_prepare choose a h round rv x answers values scores swift_scores)
        ∙ enter_number a h value_held slot round core (λ x. change_number value_held (entered_fast_prepare choose a h round rv x answers values scores swift_scores)) (rows known)
        (λ p. q p ∙ ap (λ (f : Facts). first_of (rows f)) facts_prepare)

    on_epaxos_prepare : is_swift_paxos s.mode ≡ false
        → change_number value_held (on_fast_prepare choose a h slot round rv core answers values scores swift_scores) ≡ unless_ignored slot round (epaxos_prepare choose known rv)
    on_epaxos_prepare c =
        on_fast_prepare_lem (λ f. epaxos_prepare choose f rv)
        (λ p. epaxos_prepare_lem a h value_held round choose answers values scores swift_scores rv (in_round round core) c (replica_part c p))

    on_swift_prepare : is_swift_paxos s.mode ≡ true
        → change_number value_held (on_fast_prepare choose a h slot round rv core answers values scores swift_scores) ≡ unless_ignored slot round (swift_prepare known rv)
    on_swift_prepare c =
        on_fast_prepare_lem (λ f. swift_prepare f rv) (λ p. swift_prepare_lem a h value_held round choose answers values scores swift_scores rv (in_round round core) c)

  module _ (slot : ℕ) (round : PaxosRound) (v : ℕ) (e : d.message.msg ≡ Accept slot round v) where
    abbrev heard : Facts
    heard = facts_of s rounds d round (leader_delegate s s.mode round.leader)

    facts_accept : facts_in a h value_held round (in_round round core).paxos answers scores ≡ heard
    facts_accept = entered_facts s rounds d round ∙ ap (facts_of s rounds d round) (ap (gatherer_of s) e ∙ accept_delegate s slot round v)

    on_accept_lem : is_swift_paxos s.mode ≡ false → step_number value_held (on_accept a h slot round v core) ≡ unless_ignored slot round (classic_accept heard (is_committer a h) v)
    unfolding on_accept
    on_accept_lem c =
        and_then_number value_held (enter a h slot round core) (accepting a h round v)
        ∙ enter_number a h value_held slot round core (λ x. step_number value_held (accepting a h round v x)) (classic_accept heard (is_committer a h) v)
        (λ p. classic_accept_lem a h value_held round v answers scores (in_round round core) c ∙ ap (λ (f : Facts). first_of (classic_accept f (is_committer a h) v)) facts_accept)

    on_fast_accept_lem : (rows : Facts → List Row)
        → ((a.member.replica || is_swift_paxos a.mode) ≡ true
        → change_number value_held (entered_fast_accept a h round v (in_round round core) answers swift_scores)
        ≡ first_of (rows (facts_in a h value_held round (in_round round core).paxos answers scores)))
        → change_number value_held (on_fast_accept a h slot round v core answers swift_scores) ≡ unless_ignored slot round (rows heard)
    unfolding on_fast_accept
    on_fast_accept_lem rows q =
        and_then_change_number value_held answers (enter a h slot round core) (λ x. entered_fast_accept a h round v x answers swift_scores)
        ∙ enter_number a h value_held slot round core (λ x. change_number value_held (entered_fast_accept a h round v x answers swift_scores)) (rows heard)
        (λ p. q p ∙ ap (λ (f : Facts). first_of (rows f)) facts_accept)

    epaxos_accept : is_swift_paxos s.mode ≡ false → a.member.replica ≡ true → (x : Core)
        → change_number value_held (entered_fast_accept a h round v x answers swift_scores) ≡ first_of (classic_accept (facts_in a h value_held round x.paxos answers scores) (is_committer a h) v)
    unfolding entered_fast_accept replica_accept
    epaxos_accept c l x =
        ap (λ (t : Bool). change_number value_held (cond t (replica_accept a h round v x answers swift_scores) (swift_client_accept a h round v x answers swift_scores))) l
        ∙ replica_number a h value_held round v answers x.paxos scores swift_scores (accepting a h round v x)
        ∙ accept_ends a h value_held round v answers scores x c (behind a h value_held round v answers x.paxos scores swift_scores)

    on_epaxos_accept : is_swift_paxos s.mode ≡ false
        → change_number value_held (on_fast_accept a h slot round v core answers swift_scores) ≡ unless_ignored slot round (classic_accept heard (is_committer a h) v)
    on_epaxos_accept c = on_fast_accept_lem (λ f. classic_accept f (is_committer a h) v) (λ p. epaxos_accept c (replica_part c p) (in_round round core))

    on_swift_accept : is_swift_paxos s.mode ≡ true
        → change_number value_held (on_fast_accept a h slot round v core answers swift_scores)
        ≡ unless_ignored slot round (cond heard.replica (swift_replica_accept_rows heard v) (swift_client_accept_rows heard v))
    on_swift_accept c =
        on_fast_accept_lem (λ f. cond f.replica (swift_replica_accept_rows f v) (swift_client_accept_rows f v))
        (λ p. swift_accept_lem a h value_held round v answers scores swift_scores (in_round round core) c)

-- ---- by mode

abbrev pub with_mode : PFMode → Settings → Settings
with_mode m s =
    record {
      process_count = s.process_count;
      replica_count = s.replica_count;
      my_pid = s.my_pid;
      alive_replicas = s.alive_replicas;
      first_leader = s.first_leader;
      mode = m;
      quorum = s.quorum;
      committers = s.committers;
      delegates = s.delegates;
    }

module _ (choose : ProposerChoice) (s : Settings) (rounds : Rounds) (d : Delivery) where
  -- what is handled gives the number of the first of its causes
  abbrev Handled : PFMode → ConsensusMsg → Type 0
  Handled m msg =
      rounds_number d.said.value_held (processed choose (asked_of (with_mode m s)) (heard_of (with_mode m s) d) msg rounds)
      ≡ first_of (handling_causes choose (with_mode m s) rounds d msg)

  -- the rounds that a step leads to do not change its number
  on_core : (step : Result CoreStep Refusal) → rounds_number d.said.value_held (map_step (on_rounds rounds.fast) step) ≡ step_number d.said.value_held step
  on_core step = mapped_number (on_rounds rounds.fast) (λ r. r.next) d.said.value_held step

  on_change : (step : Result ChangeStep Refusal) → rounds_number d.said.value_held (map_step (change_rounds rounds.fast) step) ≡ change_number d.said.value_held step
  on_change step = mapped_number (change_rounds rounds.fast) (λ r. r.next) d.said.value_held step

  prepare_handled : (m : PFMode) (slot : ℕ) (round : PaxosRound) (rv : RoundV) → d.message.msg ≡ Prepare slot round rv → Handled m (Prepare slot round rv)
  unfolding processed process_classic process_fast process_change
  prepare_handled Paxos slot round rv e = on_core _ ∙ on_prepare_lem choose (with_mode Paxos s) rounds d slot round rv e refl
  prepare_handled MultiPaxos slot round rv e = on_core _ ∙ on_prepare_lem choose (with_mode MultiPaxos s) rounds d slot round rv e refl
  prepare_handled MultiPaxos3P slot round rv e = on_core _ ∙ on_prepare_lem choose (with_mode MultiPaxos3P s) rounds d slot round rv e refl
  prepare_handled EPaxos slot round rv e = on_change _ ∙ on_epaxos_prepare choose (with_mode EPaxos s) rounds d slot round rv e refl
  prepare_handled Pando slot round rv e = on_core _ ∙ on_prepare_lem choose (with_mode Pando s) rounds d slot round rv e refl
  prepare_handled SwiftPaxos slot round rv e = on_change _ ∙ on_swift_prepare choose (with_mode SwiftPaxos s) rounds d slot round rv e refl

  accept_handled : (m : PFMode) (slot : ℕ) (round : PaxosRound) (v : ℕ) → d.message.msg ≡ Accept slot round v → Handled m (Accept slot round v)
  unfolding processed process_classic process_fast process_change is_committer
  accept_handled Paxos slot round v e = on_core _ ∙ on_accept_lem choose (with_mode Paxos s) rounds d slot round v e refl
  accept_handled MultiPaxos slot round v e = on_core _ ∙ on_accept_lem choose (with_mode MultiPaxos s) rounds d slot round v e refl
  accept_handled MultiPaxos3P slot round v e =
      on_core _ ∙ on_accept_lem choose (with_mode MultiPaxos3P s) rounds d slot round v e refl
      ∙ ap (λ (c : Option ℕ). unless_ignored choose (with_mode MultiPaxos3P s) rounds d slot round
      (classic_accept (facts_of (with_mode MultiPaxos3P s) rounds d round round.leader) (is_process c s.my_pid) v)) (committer_same (with_mode MultiPaxos3P s) d.said.requester)
  accept_handled EPaxos slot round v e = on_change _ ∙ on_epaxos_accept choose (with_mode EPaxos s) rounds d slot round v e refl
  accept_handled Pando slot round v e = on_core _ ∙ on_accept_lem choose (with_mode Pando s) rounds d slot round v e refl
  accept_handled SwiftPaxos slot round v e = on_change _ ∙ on_swift_accept choose (with_mode SwiftPaxos s) rounds d slot round v e refl

  forward_handled : (m : PFMode) (v : ℕ) → Handled m (ForwardRequest v)
  unfolding processed process_classic process_fast process_change first_of
  forward_handled Paxos v = refl
  forward_handled MultiPaxos v = refl
  forward_handled MultiPaxos3P v = refl
  forward_handled EPaxos v = refl
  forward_handled Pando v = refl
  forward_handled SwiftPaxos v = refl

module _ (choose : ProposerChoice) (s : Settings) (rounds : Rounds) (d : Delivery) where
  abbrev Number : ConsensusMsg → Type 0
  Number msg = rounds_number d.said.value_held (processed choose (asked_of s) (heard_of s d) msg rounds) ≡ first_of (handling_causes choose s rounds d msg)

  pub prepare_number : (slot : ℕ) (round : PaxosRound) (rv : RoundV) → d.message.msg ≡ Prepare slot round rv → Number (Prepare slot round rv)
  prepare_number slot round rv e = prepare_handled choose s rounds d s.mode slot round rv e

  pub accept_number_lem : (slot : ℕ) (round : PaxosRound) (v : ℕ) → d.message.msg ≡ Accept slot round v → Number (Accept slot round v)
  accept_number_lem slot round v e = accept_handled choose s rounds d s.mode slot round v e

  pub forward_number : (v : ℕ) → Number (ForwardRequest v)
  forward_number v = forward_handled choose s rounds d s.mode v

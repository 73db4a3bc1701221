-- A Prepare or an Accept in SwiftPaxos gives the numbers of the table of panics (specs/Panics.antt), row by row.
-- Assumes nothing.
use Rattle.std.specs.Prelude.{Option, None, Some, Result, Ok, Err, is_some}
use mathlib.Core.Path.{◌≡◌, refl, sym, ap, ◌∙◌}
use mathlib.Core.Bool.{Bool, true, false, cond, not, ◌&&◌, ◌||◌}
use mathlib.Core.List.{List, ◌∷◌}
use Prim.Native.Nat.{ℕ}
use lib.Dec.{eqb, leb}
use Rattle.basics.specs.sets.Sets.{contains, is_empty}
use Rattle.message.specs.Modes.{is_swift_paxos}
use Rattle.message.specs.Promises.{value_of, accept_round_of, is_process}
use Rattle.message.specs.Refusals.{refusal_number}
use Rattle.message.specs.declared.PFMode.{PFMode}
use Rattle.message.specs.declared.PFMode.TheVariants.{Paxos, MultiPaxos, MultiPaxos3P, EPaxos, Pando, SwiftPaxos}
use Rattle.message.specs.declared.PaxosRound.{PaxosRound}
use Rattle.message.specs.declared.Refusal.{Refusal}
use Rattle.message.specs.declared.Refusal.TheVariants.{Panic, SecondFastAnswer}
use Rattle.message.specs.declared.RoundV.{RoundV}
use Rattle.message.specs.declared.RoundV.TheVariants.{FastV, PaxosV}
use Rattle.round_state.specs.Paxos.{paxos_can_commit, receive_accept, after_accept}
use Rattle.round_state.specs.declared.Member.{Member}
use Rattle.round_state.specs.declared.PaxosState.{PaxosState}
use Rattle.fast_state.specs.declared.FastAnswers.{FastAnswers}
use Rattle.classic.specs.prepare.Prepare.{with_promise}
use Rattle.steps.specs.declared.Asked.{Asked}
use Rattle.steps.specs.declared.Core.{Core}
use Rattle.steps.specs.declared.Heard.{Heard}
use Rattle.classic.specs.accept.Accept.{tells_committer, is_committer, try_commit, accept_taken, accepting}
use Rattle.steps.specs.Steps.{CoreStep, no_messages, continues, goes_on}
use Rattle.consensus.proofs.HandledEPaxos.{has_accepted_lem, gather_shape, counts, replica_prepares}
use Rattle.steps.specs.declared.SentMessages.{SentMessages}
use Rattle.consensus.specs.Panics.{Facts, is_delegate, own_accept_fits, fits_held, held_then, prepare_rows, unopposed, may_count, answered_before, answers_again, swift_needs, answer_commits, leader_answer_commits, accepted_then, swift_answer_rows, swift_prepare, oneself_leads, is_from_leader, from_delegate, accepts_enough, swift_replica_accept_rows, swift_client_accept_rows}
use Rattle.consensus.specs.Rows.{Row, asserts, first_of, then}
use Rattle.paxos_family.specs.Process.{fast_prepared, fast_promised, leads_round, starts_accept, waits, fast_answered, fast_gather, entered_fast_prepare, after_replica_accept, replica_accept, entered_fast_accept}
use Rattle.consensus.proofs.Handled.{next_number, facts_in, change_number, with_change_number, step_number, number_after_step, and_then_change_number, own_accept_number, first, counted_size, fits_same, if_enough, stop_number}
use Rattle.basics.proofs.Tests.{by_cases, not_both}
use Rattle.fast_state.specs.Adopt.{ProposerChoice}
use Rattle.fast_state.specs.Fast.{swift_counted, swift_recorded, unchanged, preaccepted_after, leader_answer_after, second_answer, swift_uncounted, swift_first, swift_answered, swift_quorum, swift_can_commit, in_quorum}
use Rattle.fast_state.specs.declared.FastChange.{FastChange}
use Rattle.fast.specs.swift.Swift.{after_step as after_fast_step, after_swift_answer, after_client_accept, after_accept_answer, after_replica_answer, swift_commits, swift_answer, swift_client_prepare, leader_answered, accept_answered, client_accept, swift_accept, swift_client_accept, swift_answered_accept}
use Rattle.consensus.proofs.HandledAccept.{accepted_core, accepts_enough_lem, try_commit_number, accepting_number}

in_quorum_lem : (q : Option ℕ) (p : ℕ) → in_quorum q p ≡ may_count q p
in_quorum_lem None p = refl
in_quorum_lem (Some quorum) p = refl

fresh_fits : (x : RoundV) (round : PaxosRound) → is_some (accept_round_of x) ≡ false → fits_held (Some x) round (value_of x) ≡ true
fresh_fits (FastV proposer v) round e = refl
fresh_fits (PaxosV None v) round e = refl
fresh_fits (PaxosV (Some r) v) round e = absurd (not_both refl e)

-- ---- rows of tests

client_table : (committer leader second commits held : Bool)
    → ◌≡◌ {A = ℕ} (cond committer (cond leader 8 (cond second 10 (if_enough held commits))) 0)
    (cond (true && committer && not (not leader)) 8 (cond (true && committer && second) 10 (cond (not held && true && committer && commits) 6 0)))
client_table true true s c h = refl
client_table true false true c h = refl
client_table true false false true true = refl
client_table true false false true false = refl
client_table true false false false true = refl
client_table true false false false false = refl
client_table false l s c true = refl
client_table false l s c false = refl

off_six : (t committer commits : Bool) → ◌≡◌ {A = ℕ} (cond (t && false && committer && commits) 6 0) 0
off_six true committer commits = refl
off_six false committer commits = refl

swift_table : (leads accepted empty fit : Bool) (answer : Bool → ℕ) → answer false ≡ 0 → (accepted ≡ false → fit ≡ true)
    → cond (leads && not accepted) (cond empty (cond fit 0 9) 9) (cond leads 0 (answer true)) ≡ cond (true && leads && not accepted && not empty) 9 (answer (true && not leads))
swift_table false accepted empty fit answer e f = refl
swift_table true true empty fit answer e f = sym e
swift_table true false false fit answer e f = refl
swift_table true false true true answer e f = sym e
swift_table true false true false answer e f = absurd (not_both (f refl) refl)

replica_table : (fit leads delegate committer second before inside fast enough held : Bool)
    → ◌≡◌ {A = ℕ}
    (cond fit
    (cond leads (if_enough held enough)
    (cond delegate (cond committer (cond second 10 (cond (not before && not inside) 8 (cond fast (cond held 0 6) (if_enough held enough)))) 0)
    (cond committer (if_enough held enough) 8)))
    9)
    (cond (true && not fit) 9
    (cond (not leads && delegate && committer && second) 10
    (cond (not leads && delegate && committer && not before && not inside) 8
    (cond (not leads && not delegate && not committer) 8
    (cond (not held && ((not leads && delegate && committer && fast) || ((leads || committer) && enough))) 6 0)))))
replica_table false l d c s b i f e h = refl
replica_table true true d c s b i f true true = refl
replica_table true true d c s b i f true false = refl
replica_table true true d c s b i f false true = refl
replica_table true true d c s b i f false false = refl
replica_table true false true true true b i f e h = refl
replica_table true false true true false false false f e h = refl
replica_table true false true true false false true true e true = refl
replica_table true false true true false false true true e false = refl
replica_table true false true true false false true false true true = refl
replica_table true false true true false false true false true false = refl
replica_table true false true true false false true false false true = refl
replica_table true false true true false false true false false false = refl
replica_table true false true true false true i true e true = refl
replica_table true false true true false true i true e false = refl
replica_table true false true true false true i false true true = refl
replica_table true false true true false true i false true false = refl
replica_table true false true true false true i false false true = refl
replica_table true false true true false true i false false false = refl
replica_table true false true false s b i f e true = refl
replica_table true false true false s b i f e false = refl
replica_table true false false true s b i f true true = refl
replica_table true false false true s b i f true false = refl
replica_table true false false true s b i f false true = refl
replica_table true false false true s b i f false false = refl
replica_table true false false false s b i f e h = refl

client_accept_table : (committer leader second before inside fast fit enough held : Bool)
    → ◌≡◌ {A = ℕ}
    (cond committer
    (cond leader (cond second 10 (cond (not before && not inside) 8 (cond fast (cond held 0 6) (cond fit (if_enough held enough) 9)))) (cond fit (if_enough held enough) 9))
    0)
    (cond (committer && leader && second) 10
    (cond (committer && leader && not before && not inside) 8
    (cond (committer && not (leader && fast) && not fit) 9
    (cond (not held && committer && ((leader && fast) || enough)) 6 0))))
client_accept_table false l s b i f t e true = refl
client_accept_table false l s b i f t e false = refl
client_accept_table true true true b i f t e h = refl
client_accept_table true true false false false f t e h = refl
client_accept_table true true false false true true t e true = refl
client_accept_table true true false false true true t e false = refl
client_accept_table true true false false true false false e h = refl
client_accept_table true true false false true false true true true = refl
client_accept_table true true false false true false true true false = refl
client_accept_table true true false false true false true false true = refl
client_accept_table true true false false true false true false false = refl
client_accept_table true true false true i true t e true = refl
client_accept_table true true false true i true t e false = refl
client_accept_table true true false true i false false e h = refl
client_accept_table true true false true i false true true true = refl
client_accept_table true true false true i false true true false = refl
client_accept_table true true false true i false true false true = refl
client_accept_table true true false true i false true false false = refl
client_accept_table true false s b i f false e h = refl
client_accept_table true false s b i f true true true = refl
client_accept_table true false s b i f true true false = refl
client_accept_table true false s b i f true false true = refl
client_accept_table true false s b i f true false false = refl

-- ---- answers on the fast path

module _ (a : Asked) (h : Heard) (value_held : Bool) (round : PaxosRound) (answers : FastAnswers) (p : PaxosState) (scores swift_scores : List ℕ) where
  abbrev me : Member
  me = a.member

  abbrev known : Facts
  known = facts_in a h value_held round p answers scores

  needs : (q : Option ℕ) → swift_quorum me (is_some q) ≡ swift_needs me.quorums q
  unfolding swift_quorum
  needs None = refl
  needs (Some quorum) = refl

  commits_by_lem : (f : FastAnswers) → swift_commits a f ≡ (is_some f.swift_leader_answer && unopposed (swift_needs me.quorums a.quorum) f)
  unfolding swift_can_commit
  commits_by_lem f = simp (needs a.quorum)

  -- swift_answered, by whether the source has answered before and is in the quorum
  module _ (proposer v : ℕ) (leader : Bool) where
    abbrev step : Result FastChange Refusal
    step = swift_answered me h.src proposer v a.quorum leader answers swift_scores

    own_again : contains answers.fast_answer_set h.src ≡ true → eqb h.src me.my_pid ≡ true → step ≡ Ok (unchanged answers)
    unfolding swift_answered second_answer
    own_again c s = simp (c, s)

    other_again : contains answers.fast_answer_set h.src ≡ true → eqb h.src me.my_pid ≡ false → step ≡ Err SecondFastAnswer
    unfolding swift_answered second_answer
    other_again c s = simp (c, s)

    counted_first : contains answers.fast_answer_set h.src ≡ false → may_count a.quorum h.src ≡ true
        → step ≡ Ok (swift_counted me h.src proposer v leader answers swift_scores)
    unfolding swift_answered swift_first
    counted_first c q = simp (c, in_quorum_lem, q)

    outside_first : contains answers.fast_answer_set h.src ≡ false → may_count a.quorum h.src ≡ false
        → step ≡ cond leader (Err Panic) (Ok (swift_recorded h.src proposer v answers))
    unfolding swift_answered swift_first swift_uncounted
    outside_first c q = simp (c, in_quorum_lem, q)

  -- of another than the leader
  abbrev answer_number : ℕ → ℕ
  answer_number proposer = cond (answers_again known) 10 (if_enough value_held (answer_commits known proposer))

  abbrev after_answer : ℕ → Core → Result FastChange Refusal → ℕ
  after_answer v core s = change_number value_held (after_fast_step (λ after. Ok (after_swift_answer a v core after)) s)

  commit_number : (v : ℕ) (core : Core) (f : FastAnswers) → step_number value_held (Ok (after_swift_answer a v core f)) ≡ if_enough value_held (swift_commits a f)
  commit_number v core f = by_cases (swift_commits a f) (λ e. simp e) (λ e. simp e)

  swift_answer_number : (proposer v : ℕ) (core : Core) → after_answer v core (step proposer v false) ≡ answer_number proposer
  unfolding preaccepted_after leader_answer_after
  swift_answer_number proposer v core =
      by_cases (contains answers.fast_answer_set h.src)
      (λ c. by_cases (eqb h.src me.my_pid)
      (λ s. ap (after_answer v core) (own_again proposer v false c s) ∙ commit_number v core answers ∙ ap (if_enough value_held) (commits_by_lem answers) ∙ simp (c, s))
      (λ s. ap (after_answer v core) (other_again proposer v false c s) ∙ simp (c, s)))
      (λ c. by_cases (may_count a.quorum h.src)
      (λ q. ap (after_answer v core) (counted_first proposer v false c q) ∙ commit_number v core (swift_counted me h.src proposer v false answers swift_scores).answers
      ∙ ap (if_enough value_held) (commits_by_lem (swift_counted me h.src proposer v false answers swift_scores).answers) ∙ simp (c, q))
      (λ q. ap (after_answer v core) (outside_first proposer v false c q) ∙ commit_number v core (swift_recorded h.src proposer v answers).answers
      ∙ ap (if_enough value_held) (commits_by_lem (swift_recorded h.src proposer v answers).answers) ∙ simp (c, q)))

  -- process_answers_at_swift_paxos_client, Prepare
  client_shape : (proposer v : ℕ) (core : Core)
      → change_number value_held (swift_client_prepare a h round (FastV proposer v) core answers swift_scores)
      ≡ cond (is_process h.committer me.my_pid) (cond (eqb h.src round.leader) 8 (after_answer v core (step proposer v false))) 0
  unfolding swift_client_prepare swift_answer
  client_shape proposer v core =
      by_cases (is_process h.committer me.my_pid) (λ c. by_cases (eqb h.src round.leader) (λ l. simp (c, l)) (λ l. simp (c, l))) (λ c. simp c)

  pub client_prepare : (rv : RoundV) (core : Core) → change_number value_held (swift_client_prepare a h round rv core answers swift_scores) ≡ first_of (swift_answer_rows known true rv)
  unfolding swift_client_prepare swift_answer first_of
  client_prepare (PaxosV at v) core = by_cases (is_process h.committer me.my_pid) (λ c. simp c) (λ c. simp c)
  client_prepare (FastV proposer v) core =
      client_shape proposer v core
      ∙ ap (λ (x : ℕ). cond (is_process h.committer me.my_pid) (cond (eqb h.src round.leader) 8 x) 0) (swift_answer_number proposer v core)
      ∙ client_table known.committer (is_from_leader known) (answers_again known) (answer_commits known proposer) value_held

  -- ---- the leader's Accept

  abbrev pub leader_number : ℕ → ℕ
  leader_number x = cond (answers_again known) 10 (cond (not (answered_before known) && not (may_count a.quorum h.src)) 8 (cond (leader_answer_commits known) (cond value_held 0 6) x))

  -- for what comes behind the answer, by its number
  pub leader_number_lem : (v : ℕ) (rest : FastAnswers → Result CoreStep Refusal) (x : ℕ)
      → ((f : FastAnswers) → step_number value_held (rest f) ≡ cond (swift_commits a f) (cond value_held 0 6) x)
      → change_number value_held (after_fast_step rest (leader_answered a h v answers swift_scores)) ≡ leader_number x
  unfolding leader_answered preaccepted_after leader_answer_after
  leader_number_lem v rest x done =
      shape (leader_answered a h v answers swift_scores)
      ∙ by_cases (contains answers.fast_answer_set h.src)
      (λ c. by_cases (eqb h.src me.my_pid)
      (λ s. ap after (own_again me.my_pid v true c s) ∙ done answers ∙ ap (λ (t : Bool). cond t (cond value_held 0 6) x) (commits_by_lem answers) ∙ simp (c, s))
      (λ s. ap after (other_again me.my_pid v true c s) ∙ simp (c, s)))
      (λ c. by_cases (may_count a.quorum h.src)
      (λ q. ap after (counted_first me.my_pid v true c q) ∙ done counted_answers ∙ ap (λ (t : Bool). cond t (cond value_held 0 6) x) (commits_by_lem counted_answers) ∙ simp (c, q))
      (λ q. ap after (outside_first me.my_pid v true c q) ∙ simp (c, q)))
    where
      after : Result FastChange Refusal → ℕ
      after (Ok change) = step_number value_held (rest change.answers)
      after (Err why) = refusal_number why

      shape : (s : Result FastChange Refusal) → change_number value_held (after_fast_step rest s) ≡ after s
      shape (Ok change) = with_change_number value_held change (rest change.answers)
      shape (Err why) = refl

      counted_answers : FastAnswers
      counted_answers = (swift_counted me h.src me.my_pid v true answers swift_scores).answers

-- ---- a Prepare

module _ (a : Asked) (h : Heard) (value_held : Bool) (round : PaxosRound) (choose : ProposerChoice) (answers : FastAnswers) (values scores swift_scores : List ℕ) (rv : RoundV) (core : Core)
    (c : is_swift_paxos a.mode ≡ true) where
  abbrev facts : Facts
  facts = facts_in a h value_held round core.paxos answers scores

  abbrev start_score : Core
  start_score = first a h value_held round answers scores rv core

  abbrev promised : Core
  promised = with_promise a h rv start_score

  abbrev gathered : Core → ℕ
  gathered x = change_number value_held (fast_gather choose a h round rv x answers values scores swift_scores)

  abbrev delegate_rows : Bool → List Row
  delegate_rows g = asserts 9 (g && oneself_leads facts && not (accepted_then facts rv)) (is_empty facts.accepts) ∷ swift_answer_rows facts (g && not (oneself_leads facts)) rv

  off_answer : (x : RoundV) → first_of (swift_answer_rows facts false x) ≡ 0
  unfolding first_of
  off_answer (PaxosV at v) = refl
  off_answer (FastV proposer v) = off_six (not value_held) facts.committer (answer_commits facts proposer)

  answers_client : (x : Core)
      → change_number value_held (fast_answered choose a h round rv x answers values scores swift_scores) ≡ first_of (swift_answer_rows facts true rv)
  unfolding fast_answered
  answers_client x = simp c (client_prepare a h value_held round answers core.paxos scores swift_scores rv x)

  -- at a replica
  module _ (l : a.member.replica ≡ true) where
    starts : starts_accept a round start_score promised ≡ (oneself_leads facts && not (accepted_then facts rv))
    unfolding starts_accept leads_round
    starts = simp (c, l, has_accepted_lem a h value_held round choose answers values scores swift_scores rv core)

    waits_leader : waits a round promised ≡ oneself_leads facts
    unfolding waits leads_round
    waits_leader = simp (c, l)

    delegate_number : gathered start_score ≡ first_of (delegate_rows true)
    unfolding first_of
    delegate_number =
        gather_shape a h value_held round choose answers values scores swift_scores rv core start_score promised (counts a h value_held round choose answers values scores swift_scores rv core l)
        ∙ simp (starts, waits_leader, own_accept_number a h value_held round answers scores rv core, answers_client promised)
        (swift_table (oneself_leads facts) (accepted_then facts rv) (is_empty facts.accepts) (own_accept_fits facts rv) (λ path. first_of (swift_answer_rows facts path rv)) (off_answer rv)
        (fresh_fits (held_then core.paxos.max_rv rv) round))

    replica_prepare : change_number value_held (entered_fast_prepare choose a h round rv core answers values scores swift_scores)
        ≡ first_of (then (prepare_rows facts true rv) (delegate_rows (is_delegate facts)))
    unfolding first_of
    replica_prepare = replica_prepares a h value_held round choose answers values scores swift_scores rv core l true c delegate_rows delegate_number (off_answer rv)

  -- at a client
  module _ (l : a.member.replica ≡ false) where
    counts_nothing : fast_promised a h rv core ≡ core
    unfolding fast_promised
    counts_nothing = simp l

    starts_nothing : starts_accept a round core core ≡ false
    unfolding starts_accept leads_round
    starts_nothing = simp (c, l)

    waits_not : waits a round core ≡ false
    unfolding waits leads_round
    waits_not = simp (c, l)

    prepares_nothing : fast_prepared a h round rv core ≡ Ok (continues core no_messages)
    unfolding fast_prepared
    prepares_nothing = simp l

    client_gathers : gathered core ≡ first_of (swift_answer_rows facts true rv)
    client_gathers =
        gather_shape a h value_held round choose answers values scores swift_scores rv core core core counts_nothing ∙ simp (starts_nothing, waits_not) (answers_client core)

    client_prepares : change_number value_held (entered_fast_prepare choose a h round rv core answers values scores swift_scores) ≡ first_of (swift_answer_rows facts true rv)
    unfolding entered_fast_prepare
    client_prepares =
        and_then_change_number value_held answers (fast_prepared a h round rv core) (λ x. fast_gather choose a h round rv x answers values scores swift_scores)
        ∙ ap (number_after_step value_held gathered) prepares_nothing ∙ client_gathers

  pub swift_prepare_lem : change_number value_held (entered_fast_prepare choose a h round rv core answers values scores swift_scores) ≡ first_of (swift_prepare facts rv)
  swift_prepare_lem = by_cases a.member.replica
      (λ l. replica_prepare l ∙ ap (λ (t : Bool). first_of (cond t (then (prepare_rows facts true rv) (delegate_rows (is_delegate facts))) (swift_answer_rows facts true rv))) (sym l))
      (λ l. client_prepares l ∙ ap (λ (t : Bool). first_of (cond t (then (prepare_rows facts true rv) (delegate_rows (is_delegate facts))) (swift_answer_rows facts true rv))) (sym l))

-- ---- an Accept

swift_tells : (m : PFMode) → is_swift_paxos m ≡ true → tells_committer m ≡ true
swift_tells Paxos e = e
swift_tells MultiPaxos e = e
swift_tells MultiPaxos3P e = refl
swift_tells EPaxos e = e
swift_tells Pando e = e
swift_tells SwiftPaxos e = refl

-- what comes behind the accept at a replica: the leader's Accept at a committer
module _ (a : Asked) (h : Heard) (value_held : Bool) (round : PaxosRound) (v : ℕ) (answers : FastAnswers) (p : PaxosState) (scores swift_scores : List ℕ) where
  abbrev pub behind : Core → ℕ
  behind x = leader_number a h value_held round answers p scores swift_scores (if_enough value_held (paxos_can_commit a.member x.paxos))

  replica_done : (ms : SentMessages) (x : Core) (f : FastAnswers)
      → step_number value_held (Ok (after_replica_answer a h round v x ms f)) ≡ cond (swift_commits a f) (cond value_held 0 6) (if_enough value_held (paxos_can_commit a.member x.paxos))
  replica_done ms x f = by_cases (swift_commits a f) (λ e. simp e)
      (λ e. simp e (stop_number value_held (Ok (try_commit a h round v x ms)) ∙ try_commit_number a h value_held round v (λ y. 0) x ms))

  replica_answered : (ms : SentMessages) (x : Core) → change_number value_held (swift_answered_accept a h round v x ms answers swift_scores) ≡ behind x
  unfolding swift_answered_accept
  replica_answered ms x =
      leader_number_lem a h value_held round answers p scores swift_scores v (λ after. Ok (after_replica_answer a h round v x ms after))
      (if_enough value_held (paxos_can_commit a.member x.paxos)) (replica_done ms x)

  -- whatever was sent with it
  pub replica_number : (step : Result CoreStep Refusal)
      → change_number value_held (after_replica_accept a h round v answers swift_scores step) ≡ number_after_step value_held behind step
  replica_number (Ok step) =
      and_then_change_number value_held answers (Ok step) (λ x. swift_answered_accept a h round v x step.messages answers swift_scores)
      ∙ ap (λ (n : ℕ). cond (goes_on step.next) n (next_number value_held step.next)) (replica_answered step.messages step.state)
  replica_number (Err why) = refl

module _ (a : Asked) (h : Heard) (value_held : Bool) (round : PaxosRound) (v : ℕ) (answers : FastAnswers) (scores swift_scores : List ℕ) (core : Core)
    (c : is_swift_paxos a.mode ≡ true) where
  abbrev now : Facts
  now = facts_in a h value_held round core.paxos answers scores

  committer_hears_lem : is_committer a h ≡ now.committer
  unfolding is_committer
  committer_hears_lem = ap (λ (t : Bool). t && is_process h.committer a.member.my_pid) (swift_tells a.mode c)

  -- at a replica
  replica_accept_lem : change_number value_held (replica_accept a h round v core answers swift_scores) ≡ first_of (swift_replica_accept_rows now v)
  unfolding replica_accept first_of then
  replica_accept_lem =
      replica_number a h value_held round v answers core.paxos scores swift_scores (accepting a h round v core)
      ∙ accepting_number a h value_held round v answers scores core later
      ∙ ap (λ (s : Bool). shape (is_committer a h) s (later (accepted_core a h value_held round v core))) c
      ∙ ap (λ (t : Bool). shape t true (later (accepted_core a h value_held round v core))) committer_hears_lem
      ∙ ap (λ (e : Bool). shape now.committer true (leader_number a h value_held round answers core.paxos scores swift_scores (if_enough value_held e)))
      (accepts_enough_lem a h value_held round v answers scores core)
      ∙ replica_table (fits_held core.paxos.max_rv round v) (oneself_leads now) (from_delegate now) now.committer (answers_again now) (answered_before now) (may_count a.quorum h.src)
      (leader_answer_commits now) (accepts_enough now) value_held
    where
      later : Core → ℕ
      later x = behind a h value_held round v answers core.paxos scores swift_scores x

      enough : ℕ
      enough = if_enough value_held (accepts_enough now)

      shape : Bool → Bool → ℕ → ℕ
      shape committer swift x =
          cond (fits_held core.paxos.max_rv round v)
          (cond (oneself_leads now) enough (cond (from_delegate now) (cond committer (cond swift x enough) 0) (cond committer enough 8)))
          9

  -- at a client
  client_accepts : step_number value_held (client_accept a h round v core) ≡ cond (fits_held core.paxos.max_rv round v) (if_enough value_held (accepts_enough now)) 9
  unfolding client_accept receive_accept
  client_accepts =
      by_cases (fits_held core.paxos.max_rv round v)
      (λ e. simp (fits_same, e) (enough_number ∙ ap (if_enough value_held) (ap (leb a.member.quorums.majority) (counted_size a h value_held round core.paxos answers scores core.paxos.accepted_set))))
      (λ e. simp (fits_same, e))
    where
      p : PaxosState
      p = after_accept a.member h.src round v core.paxos

      enough_number : step_number value_held (after_client_accept a v core (Ok p)) ≡ if_enough value_held (paxos_can_commit a.member p)
      enough_number = by_cases (paxos_can_commit a.member p) (λ e. simp e) (λ e. simp e)

  abbrev accept_number : ℕ
  accept_number = cond (fits_held core.paxos.max_rv round v) (if_enough value_held (accepts_enough now)) 9

  from_leader_lem : is_from_leader now ≡ true → change_number value_held (swift_accept a h round v core answers swift_scores) ≡ leader_number a h value_held round answers core.paxos scores swift_scores accept_number
  unfolding swift_accept accept_answered
  from_leader_lem l =
      simp l
      (leader_number_lem a h value_held round answers core.paxos scores swift_scores v (after_accept_answer a h round v core) accept_number
      (λ f. by_cases (swift_commits a f) (λ e. simp (l, e)) (λ e. simp (l, e) client_accepts)))

  from_other : is_from_leader now ≡ false → change_number value_held (swift_accept a h round v core answers swift_scores) ≡ accept_number
  unfolding swift_accept accept_answered
  from_other l = simp l (with_change_number value_held (unchanged answers) (client_accept a h round v core) ∙ client_accepts)

  accept_number_lem : change_number value_held (swift_accept a h round v core answers swift_scores)
      ≡ cond (is_from_leader now) (leader_number a h value_held round answers core.paxos scores swift_scores accept_number) accept_number
  accept_number_lem = by_cases (is_from_leader now) (λ l. from_leader_lem l ∙ simp l) (λ l. from_other l ∙ simp l)

  client_shape_accept : change_number value_held (swift_client_accept a h round v core answers swift_scores)
      ≡ cond now.committer (change_number value_held (swift_accept a h round v core answers swift_scores)) 0
  unfolding swift_client_accept
  client_shape_accept = by_cases (is_process h.committer a.member.my_pid) (λ e. simp e) (λ e. simp e)

  client_accept_lem : change_number value_held (swift_client_accept a h round v core answers swift_scores) ≡ first_of (swift_client_accept_rows now v)
  unfolding first_of then
  client_accept_lem =
      client_shape_accept ∙ ap (λ (x : ℕ). cond now.committer x 0) accept_number_lem
      ∙ client_accept_table now.committer (is_from_leader now) (answers_again now) (answered_before now) (may_count a.quorum h.src) (leader_answer_commits now)
      (fits_held core.paxos.max_rv round v) (accepts_enough now) value_held

  pub swift_accept_lem : change_number value_held (entered_fast_accept a h round v core answers swift_scores) ≡ first_of (cond now.replica (swift_replica_accept_rows now v) (swift_client_accept_rows now v))
  unfolding entered_fast_accept
  swift_accept_lem =
      by_cases a.member.replica
      (λ l. ap handled l ∙ replica_accept_lem ∙ ap rows (sym l))
      (λ l. ap handled l ∙ client_accept_lem ∙ ap rows (sym l))
    where
      handled : Bool → ℕ
      handled t = change_number value_held (cond t (replica_accept a h round v core answers swift_scores) (swift_client_accept a h round v core answers swift_scores))

      rows : Bool → ℕ
      rows t = first_of (cond t (swift_replica_accept_rows now v) (swift_client_accept_rows now v))

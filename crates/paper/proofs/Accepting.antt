-- What is seen of the engine's handler of an Accept is what the paper's rules make of the replica: who is told of the acceptance, who counts it, and who is
-- informed of a commit.
-- Assumes nothing.
use Rattle.calls.specs.Commits.{committed_slot}
use Rattle.std.specs.Prelude.{Option as Optional, None, Some, Result, Ok, Err}
use mathlib.Core.Path.{◌≡◌, refl, sym, ap, subst, ◌∙◌}
use mathlib.Core.Bool.{Bool, true, false, cond, not, ◌&&◌, ◌||◌}
use mathlib.Core.List.{List, [], ◌∷◌, ◌++◌, append-nil}
use mathlib.Core.Option.{none, some}
use Prim.Native.Nat.{ℕ}
use lib.Dec.{eqb, leb}
use borrow.Author.Tests.{eqb-true}
use Rattle.basics.proofs.Tests.{not_both}
use Rattle.basics.specs.sets.Sets.{size}
use Rattle.paxos.specs.PaxosMadeSimple.{Proposal, is_majority, learns}
use Rattle.paxos.specs.PaxosMadeSimple.Message.{acceptance}
use Rattle.message.specs.Modes.{is_swift_paxos, has_fast_path}
use Rattle.message.specs.Promises.{is_process}
use Rattle.message.specs.Rounds.{increment, before}
use Rattle.message.specs.declared.ConsensusMsg.TheVariants.{Commit}
use Rattle.message.specs.declared.PaxosRound.{PaxosRound}
use Rattle.message.specs.declared.PFMode.{PFMode}
use Rattle.message.specs.declared.PFMode.TheVariants.{Paxos, MultiPaxos, MultiPaxos3P, EPaxos, Pando, SwiftPaxos}
use Rattle.message.specs.declared.Refusal.{Refusal}
use Rattle.message.specs.declared.Refusal.TheVariants.{Panic}
use Rattle.round_state.specs.Paxos.{receive_accept, accept_fits, after_accept, paxos_can_commit}
use Rattle.round_state.specs.declared.PaxosState.{PaxosState}
use Rattle.classic.specs.accept.Accept.{tells_committer, is_committer, accept_to, committer_hears, answer_accept, tells_commit, with_commit_message, try_commit, answered_delegate, follower, accept_taken as accepted_step, after_accepted, accepting}
use Rattle.paxos_family.specs.Commit.{commit_slot}
use Rattle.steps.specs.Steps.{CoreStep, no_messages, one_message, two_messages, also, first_served, with_paxos, left_fast_path, stays, continues, commits_with as commits_step}
use Rattle.steps.specs.declared.Asked.{Asked}
use Rattle.steps.specs.declared.Core.{Core}
use Rattle.steps.specs.declared.Destination.TheVariants.{All}
use Rattle.steps.specs.declared.Outgoing.{Outgoing}
use Rattle.steps.specs.declared.Heard.{Heard}
use Rattle.steps.specs.declared.SentMessages.{SentMessages}
use Rattle.consensus.specs.Answers.{committed}
use Rattle.consensus.specs.FirstCause.{is_oneself}
use Rattle.consensus.specs.declared.State.{State}
use Rattle.consensus.proofs.Entered.{not_swift_without_fast_path}
use Rattle.consensus.proofs.Handled.{eqb_sym}
use Rattle.paper.specs.Replica.{Replica, replica_of}
use Rattle.paper.specs.PaperCall.{Seen, Place, Known, in_places, is_one_of, all_but, leaves, commits_learned, addressed, learners, is_learner, to_each, served_first, informs, learning, counts_and_learns, committers_as_learners}
use Rattle.paper.proofs.Views.{place_in, known_in, state_seen, seen_after, taken_no, push, AgreesIfTaken, agrees_if_taken, through, no_refusal, agree_both, agree_unless, accept_counted}
use Rattle.paper.proofs.InOrder.{then_accept}
use Rattle.paper.proofs.Handlers.{off_paxos}

or_same : (s t : Bool) → t ≡ s → (s || false) ≡ (s || t)
or_same true t e = refl
or_same false t e = sym e

or_turned : (s t : Bool) → (s || (t || false)) ≡ (t || s)
or_turned true true = refl
or_turned true false = refl
or_turned false true = refl
or_turned false false = refl

module _ (state : State) (a : Asked) (h : Heard) (there : Bool) (acceptors : ℕ) (classic : has_fast_path a.mode ≡ false)
    (quorum : (k : ℕ) → leb a.member.quorums.majority k ≡ is_majority acceptors k) where
  abbrev core : Core
  core = state.rounds.core

  abbrev me : ℕ
  me = a.member.my_pid

  abbrev here : Place
  here = place_in a acceptors core

  abbrev known : Known
  known = known_in a h

  -- what is seen of the call that ends with a step
  abbrev seen_step : Result CoreStep Refusal → Seen
  seen_step step = seen_after state a there step

  abbrev seen_taken : CoreStep → Seen
  seen_taken step = seen_step (Ok step)

  swift : is_swift_paxos a.mode ≡ false
  swift = not_swift_without_fast_path a.mode classic

  module _ (replica : a.member.replica ≡ true) (n : PaxosRound) (v : ℕ) (p : PaxosState) where
    abbrev after : PaxosState
    after = after_accept a.member h.src n v p

    abbrev off : Core
    off = left_fast_path (with_paxos after core)

    abbrev proposal : Proposal PaxosRound ℕ
    proposal = record { number = n; value = v }

    -- an acceptance to each of a list of processes
    abbrev acceptances : List ℕ → List Outgoing
    acceptances ps = to_each here known ps (some (acceptance proposal))

    -- what the engine sends is a list, with room for one more
    abbrev Lists : SentMessages → List Outgoing → Type 0
    Lists x ms = (x ≡ in_places ms) × ((m : Outgoing) → also x m ≡ in_places (ms ++ (m ∷ [])))

    module _ (other : eqb me n.leader ≡ false) where
      abbrev to_leader : Outgoing
      to_leader = accept_to a off n n.leader

      leader_told : Lists (one_message to_leader) (acceptances (all_but me (n.leader ∷ [])))
      leader_told = subst (λ (t : Bool). Lists (one_message to_leader) (acceptances (cond t [] (n.leader ∷ [])))) (sym other) (refl, λ m. refl)

      committer_told : (q : ℕ)
          → Lists (cond (true && (not (eqb q n.leader) && not (eqb q me))) (two_messages (accept_to a off n q) to_leader) (one_message to_leader))
          (acceptances (all_but me (all_but n.leader (q ∷ []) ++ (n.leader ∷ []))))
      committer_told q =
          subst (λ (s : Bool). Lists (sent s (eqb q me)) (acceptances (all_but me (cond (eqb n.leader q) [] (q ∷ []) ++ (n.leader ∷ [])))))
          (eqb_sym n.leader q)
          (subst (λ (t : Bool). Lists (sent (eqb n.leader q) t) (acceptances (all_but me (cond (eqb n.leader q) [] (q ∷ []) ++ (n.leader ∷ [])))))
          (eqb_sym me q) (by_leader (eqb n.leader q)))
        where
          sent : Bool → Bool → SentMessages
          sent s t = cond (not s && not t) (two_messages (accept_to a off n q) to_leader) (one_message to_leader)

          both_told : Lists (two_messages (accept_to a off n q) to_leader) (acceptances (q ∷ all_but me (n.leader ∷ [])))
          both_told =
              subst (λ (t : Bool). Lists (two_messages (accept_to a off n q) to_leader) (acceptances (q ∷ cond t [] (n.leader ∷ [])))) (sym other) (refl, λ m. refl)

          by_self : (t : Bool)
              → Lists (sent false t)
              (acceptances (cond t (all_but me (n.leader ∷ [])) (q ∷ all_but me (n.leader ∷ []))))
          by_self true = leader_told
          by_self false = both_told

          by_leader : (s : Bool)
              → Lists (sent s (eqb me q)) (acceptances (all_but me (cond s [] (q ∷ []) ++ (n.leader ∷ []))))
          by_leader true = leader_told
          by_leader false = by_self (eqb me q)

      -- the engine's answer tells each of the learners but itself
      answer_paper : Lists (answer_accept a n off h.committer) (acceptances (all_but me (learners here known n)))
      unfolding answer_accept committer_hears
      answer_paper = by_committer h.committer
        where
          Tells : SentMessages → List ℕ → Type 0
          Tells x committers = Lists x (acceptances (all_but me (all_but n.leader committers ++ (n.leader ∷ []))))

          no_committer : (m : PFMode) → Tells (one_message to_leader) (committers_as_learners m None)
          no_committer Paxos = leader_told
          no_committer MultiPaxos = leader_told
          no_committer MultiPaxos3P = leader_told
          no_committer EPaxos = leader_told
          no_committer Pando = leader_told
          no_committer SwiftPaxos = leader_told

          by_mode : (q : ℕ) (m : PFMode) → has_fast_path m ≡ false
              → Tells (cond (tells_committer m && (not (eqb q n.leader) && not (eqb q me)))
              (two_messages (accept_to a off n q) to_leader) (one_message to_leader)) (committers_as_learners m (Some q))
          by_mode q Paxos e = leader_told
          by_mode q MultiPaxos e = leader_told
          by_mode q MultiPaxos3P e = committer_told q
          by_mode q EPaxos e = absurd (not_both refl e)
          by_mode q Pando e = leader_told
          by_mode q SwiftPaxos e = absurd (not_both refl e)

          by_committer : (q : Optional ℕ) → Tells (answer_accept a n off q) (committers_as_learners a.mode q)
          by_committer None = no_committer a.mode
          by_committer (Some q) = by_mode q a.mode classic

    -- a learner is the leader or the committer
    learner_same : is_learner here known n ≡ (eqb me n.leader || is_committer a h)
    unfolding is_committer
    learner_same = go a.mode h.committer classic
      where
        by_leader : (q : ℕ) (s : Bool) → eqb n.leader q ≡ s
            → is_one_of me (cond s [] (q ∷ []) ++ (n.leader ∷ [])) ≡ (eqb me n.leader || eqb me q)
        by_leader q true e = or_same (eqb me n.leader) (eqb me q) (ap (eqb me) (sym (eqb-true n.leader q e)))
        by_leader q false e = or_turned (eqb me q) (eqb me n.leader)

        go : (m : PFMode) (q : Optional ℕ) → has_fast_path m ≡ false
            → is_one_of me (all_but n.leader (committers_as_learners m q) ++ (n.leader ∷ [])) ≡ (eqb me n.leader || (tells_committer m && is_process q me))
        go Paxos q e = refl
        go MultiPaxos q e = refl
        go MultiPaxos3P None e = refl
        go MultiPaxos3P (Some q) e =
            by_leader q (eqb n.leader q) refl ∙ ap (λ (t : Bool). eqb me n.leader || t) (eqb_sym me q)
        go EPaxos q e = absurd (not_both refl e)
        go Pando q e = refl
        go SwiftPaxos q e = absurd (not_both refl e)

    tells_paper : (x : SentMessages) (ms : List Outgoing) → Lists x ms → with_commit_message a h n off x ≡ in_places (ms ++ informs here known proposal)
    unfolding with_commit_message tells_commit informs
    tells_paper x ms (same, room) =
        ap (λ (p : Optional ℕ). cond tells (also x (addressed here (All p) (Commit core.slot v))) x) (first_served_lem h.requester)
        ∙ ap (λ (l : Bool). by l (is_process h.requester me)) (eqb_sym n.leader me)
        ∙ ap (by (eqb me n.leader)) (requester_same h.requester)
        ∙ go (eqb me n.leader) (is_oneself h.requester me)
      where
        told_all : Outgoing
        told_all = addressed here (All (served_first here known h.requester)) (Commit core.slot v)

        tells : Bool
        tells = cond (eqb n.leader me) true (not (is_process h.requester me))

        by : Bool → Bool → SentMessages
        by l k = cond (cond l true (not k)) (also x told_all) x

        first_served_lem : (p : Optional ℕ) → first_served a p ≡ served_first here known p
        first_served_lem None = refl
        first_served_lem (Some p) = refl

        requester_same : (p : Optional ℕ) → is_process p me ≡ is_oneself p me
        requester_same None = refl
        requester_same (Some p) = refl

        go : (l k : Bool) → by l k ≡ in_places (ms ++ cond (k && not l) [] (told_all ∷ []))
        go true true = room told_all
        go true false = room told_all
        go false true = same ∙ ap in_places (sym (append-nil ms))
        go false false = room told_all

    commit_paper : (ms : List Outgoing) → AgreesIfTaken (seen_taken (commits_step v (left_fast_path off) (in_places ms))) (commits_learned here v ms)
    unfolding committed commit_slot
    commit_paper ms =
        agree_unless state_seen there
        (λ e. agrees_if_taken (ap (λ (t : Bool). record {
          outcome = 0;
          slot = increment
              core.slot;
          last = Some v;
          replica = (commits_learned here v ms).replica;
          messages = in_places ms;
          commit = committed_slot core.slot v (t && false);
        }) classic))
        (λ e. no_refusal refl)

    learns_paper : (x : SentMessages) (ms : List Outgoing) → Lists x ms
        → AgreesIfTaken (seen_taken (try_commit a h n v off x)) (counts_and_learns here known proposal (replica_of after) ms)
    unfolding try_commit learning learns
    learns_paper x ms lists =
        through refl
        (agree_both seen_taken (paxos_can_commit a.member after) (is_majority acceptors (size after.accepted_set)) (quorum (size after.accepted_set))
        (λ e. through (ap (λ (y : SentMessages). seen_taken (commits_step v (left_fast_path off) y)) (tells_paper x ms lists))
        (commit_paper (ms ++ informs here known proposal)) refl)
        (λ e. agrees_if_taken (ap (λ (y : SentMessages). seen_taken (stays off y)) lists.0)))
        (push (learning here known proposal (replica_of after) ms) (is_majority acceptors (size after.accepted_set)) (some v) none)

    abbrev answers : SentMessages
    answers = answer_accept a n off h.committer

    abbrev leads : Bool
    leads = eqb me n.leader

    abbrev from_proposer : Bool
    from_proposer = eqb h.src h.delegate

    -- by whether oneself leads, the proposer sent it, and oneself is the committer
    abbrev step : Bool → Bool → Bool → Result CoreStep Refusal
    step l d c =
        cond l (Ok (try_commit a h n v off no_messages))
        (cond d
        (Ok (cond c (cond (is_swift_paxos a.mode) (continues off answers) (try_commit a h n v off answers)) (stays off answers)))
        (cond c (Ok (try_commit a h n v off no_messages)) (Err Panic)))

    abbrev announced : Bool → Bool → List Outgoing
    announced l d = cond d (acceptances (cond l [] (all_but me (learners here known n)))) []

    abbrev rule : Replica → List Outgoing → Bool → Seen
    rule r ms learner = cond learner (counts_and_learns here known proposal r ms) (leaves here r ms)

    by_roles : (l d c : Bool) → leads ≡ l → AgreesIfTaken (seen_step (step l d c)) (rule (replica_of after) (announced l d) (l || c))
    by_roles true true c e = learns_paper no_messages [] (refl, λ m. refl)
    by_roles true false c e = learns_paper no_messages [] (refl, λ m. refl)
    by_roles false true true e =
        through (taken_no seen_taken (is_swift_paxos a.mode) (continues off answers) (try_commit a h n v off answers) swift)
        (learns_paper answers (announced false true) (answer_paper e)) refl
    by_roles false true false e = agrees_if_taken (ap (λ (x : SentMessages). seen_taken (stays off x)) (answer_paper e).0)
    by_roles false false true e = learns_paper no_messages [] (refl, λ m. refl)
    by_roles false false false e = no_refusal refl

    accepted_paper : AgreesIfTaken (seen_step (accepted_step a h n v off)) (rule (replica_of after) (announced leads from_proposer) (is_learner here known n))
    unfolding accepted_step follower answered_delegate
    accepted_paper =
        through refl (by_roles leads from_proposer (is_committer a h) refl)
        (ap (rule (replica_of after) (announced leads from_proposer)) (sym learner_same))

    pub accepting_paper : before (Some n) p.round ≡ false
        → AgreesIfTaken (seen_step (accepting a h n v (with_paxos p core))) (then_accept here known proposal (replica_of p))
    unfolding accepting receive_accept
    accepting_paper free =
        agree_unless g (accept_fits p.max_rv n v)
        (λ fit.
        through (ap (λ (c : Core). seen_step (accepted_step a h n v c)) (off_paxos state a h there acceptors classic quorum (with_paxos after core)))
        accepted_paper
        (ap (λ (r : Replica). rule r (announced leads from_proposer) (is_learner here known n)) (accept_counted a replica h.src n v p free fit)))
        (λ fit. no_refusal refl)
      where
        g : Result PaxosState Refusal → Seen
        g result = seen_step (after_accepted a h n v (with_paxos p core) result)

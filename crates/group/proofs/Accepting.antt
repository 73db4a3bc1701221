-- Handling an Accept, in the classic modes and in EPaxos, is the model's `model_on_accept`.
-- Assumes nothing.
use Rattle.std.specs.Prelude.{Option, None, Some, Result, Ok}
use Rattle.message.specs.declared.RoundV.{RoundV}
use mathlib.Core.Path.{◌≡◌, refl, sym, ap, ap₂, subst, ◌∙◌}
use mathlib.Core.Bool.{Bool, true, false, cond, not, ◌&&◌, ◌||◌}
use mathlib.Core.List.{List, [], ◌∷◌, ◌++◌}
use Prim.Native.Nat.{ℕ, suc, pred, ◌≤◌, ◌<◌}
use native.Mathlib.Nat.{zero-lt-suc}
use lib.Dec.{eqb, ltb, leb, eqb-zero-suc, eqb-suc-suc, eqb-suc-zero}
use borrow.Author.Tests.{lt-ltb}
use Rattle.basics.proofs.Tests.{and_left, not_both, of-both}
use Rattle.basics.specs.sets.Sets.{contains, count, size}
use Rattle.message.specs.Modes.{is_swift_paxos}
use Rattle.message.specs.Promises.{is_process}
use Rattle.message.specs.declared.PaxosRound.{PaxosRound}
use Rattle.message.specs.declared.Refusal.{Refusal}
use Rattle.message.specs.declared.RoundV.TheVariants.{FastV, PaxosV}
use Rattle.round_state.specs.Paxos.{get_last_accepted_round, paxos_can_commit, accept_fits, after_accept, receive_accept}
use Rattle.round_state.specs.declared.PaxosState.{PaxosState}
use Rattle.settings.specs.Questions.{quorums_of, delegate_of, committer_of, committer_in}
use Rattle.settings.specs.declared.Settings.{Settings}
use Rattle.classic.specs.accept.Accept.{tells_committer, is_committer, accept_to, committer_hears, answer_accept, commit_message, tells_commit, with_commit_message, try_commit, answered_delegate, follower, accept_taken, after_accepted, accepting}
use Rattle.steps.specs.enter.Enter.{in_round, enter}
use Rattle.steps.specs.Steps.{CoreStep, no_messages, one_message, two_messages, also, held_value, with_paxos, left_fast_path, goes_on, then_in, map_step}
use Rattle.steps.specs.declared.Core.{Core}
use Rattle.steps.specs.declared.Heard.{Heard}
use Rattle.steps.specs.declared.SentMessages.{SentMessages}
use Rattle.steps.specs.declared.Next.{Next}
use Rattle.steps.specs.declared.Next.TheVariants.{Stays, Continues, Commits}
use Rattle.steps.specs.declared.Outgoing.{Outgoing}
use Rattle.consensus.proofs.Handled.{eqb_sym}
use Rattle.agreement.proofs.Tests.{by_choice, by_both, by_turned}
use Rattle.agreement.specs.Model.{View, ModelAnswers, ModelOutcome, Host, accepted_by, model_voted, model_refused, model_sends, ModelSetup, ModelOutgoing, model_on_accept, model_after_accept, model_commits}
use Rattle.agreement.specs.Model as model
use Rattle.agreement.specs.Refinement.{meanings}
use Rattle.group.specs.Claim.{member_settings}
use Rattle.group.proofs.View.{round_number, LeaderFits, leader_of, leader_of_lem, before_number, equal_number, process_number, process_of_lem, meaning_of, envelope, envelopes, view_of, Leaders, model_setup_of, SeenAs, Follows}
use Rattle.group.proofs.Entering.{add_other_way, counted_add, in_round_leaders, in_round_round, enter_follows}
use Rattle.group.proofs.Preparing.{asked_by, view_with_accepted, follows_both}

-- ---- whether an accept fits

fits_number : (held : Option RoundV) (round : PaxosRound) (v : ℕ) → LeaderFits (get_last_accepted_round held) → round.leader < 64
    → accept_fits held round v
    ≡ (ltb (round_number (get_last_accepted_round held)) (round_number (Some round)) || (eqb (round_number (get_last_accepted_round held)) (round_number (Some round)) && eqb (held_value held) v))
unfolding accept_fits
fits_number None round v ok l = sym (ap (λ (t : Bool). t || (eqb 0 (round_number (Some round)) && eqb 0 v)) (lt-ltb 0 (round_number (Some round)) (zero-lt-suc _)))
fits_number (Some (FastV p w)) round v ok l = sym (ap (λ (t : Bool). t || (eqb 0 (round_number (Some round)) && eqb w v)) (lt-ltb 0 (round_number (Some round)) (zero-lt-suc _)))
fits_number (Some (PaxosV at w)) round v ok l =
    ap₂ (λ (a b : Bool). a || (b && eqb w v)) (before_number at (Some round) ok l) (equal_number at (Some round) ok l)

-- ---- one message more

-- another message comes behind these
pub record Appends (ms : SentMessages) : Type 0 where
  pub behind : (m : Outgoing) → meanings meaning_of (envelopes (also ms m))
      ≡ meanings meaning_of (envelopes ms) ++ (record { destination = (envelope m).destination; message = meaning_of m.message } ∷ [])

none_appends : Appends no_messages
none_appends = record { behind = λ m. refl }

one_appends : (a : Outgoing) → Appends (one_message a)
one_appends a = record { behind = λ m. refl }

two_appends : (a b : Outgoing) → Appends (two_messages a b)
two_appends a b = record { behind = λ m. refl }

-- ---- committers as numbers

is_committer_number : (t : Bool) (p : Option ℕ) (i : ℕ) → (t && is_process p i) ≡ eqb (cond t (process_number p) 0) (suc i)
is_committer_number false p i = sym (eqb-zero-suc i)
is_committer_number true None i = sym (eqb-zero-suc i)
is_committer_number true (Some q) i = sym (eqb-suc-suc q i)

is_process_number : (p : Option ℕ) (i : ℕ) → is_process p i ≡ eqb (process_number p) (suc i)
is_process_number None i = sym (eqb-zero-suc i)
is_process_number (Some q) i = sym (eqb-suc-suc q i)

pub committer_same : (s : Settings) (i : ℕ) (p : Option ℕ) → committer_of (member_settings s i) p ≡ committer_of s p
unfolding committer_in
committer_same s i p = refl

module _ (ans : ModelAnswers) (s : Settings) (i : ℕ) (no-swift : is_swift_paxos s.mode ≡ false) (alive : contains s.alive_replicas i ≡ true) (small : i < 64) (h : Heard) (src-small : h.src < 64) (by-requester : h.committer ≡ committer_of s h.requester) (round : PaxosRound) (below : round.leader < 64) where
  -- what the host says, as the model's host
  abbrev host : Host
  host = record { allows = true; requester = process_number h.requester; adoptee = 0 }

  -- the committer as the model has it
  abbrev third : ℕ
  third = cond (tells_committer s.mode) ((model_setup_of s).committer host.requester) 0

  third_number : third ≡ cond (tells_committer s.mode) (process_number h.committer) 0
  third_number = ap (λ (p : Option ℕ). cond (tells_committer s.mode) (process_number p) 0) (ap (committer_of s) (process_of_lem h.requester) ∙ sym by-requester)

  committer_number : is_committer (asked_by s i) h ≡ eqb third (suc i)
  unfolding is_committer
  committer_number = is_committer_number (tells_committer s.mode) h.committer i ∙ ap (λ (c : ℕ). eqb c (suc i)) (sym third_number)

  leader_number_lem : (core : Core) → core.paxos.round ≡ Some round → leader_of (view_of ans core).round ≡ round.leader
  leader_number_lem core at = ap (λ (r : Option PaxosRound). leader_of (round_number r)) at ∙ leader_of_lem round below

  -- ---- the commit

  commit_messages_lem : (core : Core) (ms : SentMessages) → Appends ms → (tell : Bool) → tells_commit (asked_by s i) h round ≡ tell
      → meanings meaning_of (envelopes (with_commit_message (asked_by s i) h round core ms))
      ≡ cond tell (meanings meaning_of (envelopes ms) ++ (record { destination = model.all; message = model.commit core.slot (held_value core.paxos.max_rv) } ∷ [])) (meanings meaning_of (envelopes ms))
  unfolding with_commit_message
  commit_messages_lem core ms app tell e =
      by_both (λ (x : SentMessages) (os : List ModelOutgoing). meanings meaning_of (envelopes x) ≡ os) (tells_commit (asked_by s i) h round) tell e
      (λ t. app.behind (commit_message (asked_by s i) core h.requester)) (λ t. refl)

  try_commit_follows : (v : ℕ) (core : Core) (ms : SentMessages) → Appends ms → held_value core.paxos.max_rv ≡ v → (tell : Bool) → tells_commit (asked_by s i) h round ≡ tell
      → Follows (model_setup_of s) ans (Ok (try_commit (asked_by s i) h round v core ms)) (model_commits (model_setup_of s) (view_of ans core) (meanings meaning_of (envelopes ms)) tell)
  unfolding try_commit model_commits size
  try_commit_follows v core ms app same tell e =
      by_both (λ (step : CoreStep) (r : ModelOutcome). Follows (model_setup_of s) ans (Ok step) r) (paxos_can_commit (asked_by s i).member core.paxos)
      (leb (quorums_of s).majority (count (contains core.paxos.accepted_set) 64)) refl
      (λ f. record {
        seen_as =
            ap₂
            (λ (l : List ModelOutgoing) (w : ℕ).
            record { view = model.advanced (model_setup_of s).voters.start (view_of ans core); outgoing = l; decision = model.decided core.slot w; taken = true })
            (commit_messages_lem core ms app tell e)
            (sym same);
      })
      (λ f. record { seen_as = refl })

  -- ---- the answers to an Accept

  -- one message to the leader l, in the round of number r
  abbrev to_leader : Core → ℕ → ℕ → List ModelOutgoing
  to_leader core l r = record { destination = model.to l; message = model.accept core.slot r (held_value core.paxos.max_rv) } ∷ []

  abbrev answers_at : Core → ℕ → ℕ → ℕ → List ModelOutgoing
  answers_at core c l r =
      cond (eqb c 0 || eqb c (suc i) || eqb c (suc l)) (to_leader core l r)
      (record { destination = model.to (pred c); message = model.accept core.slot r (held_value core.paxos.max_rv) } ∷ to_leader core l r)

  -- the third does not hear it exactly where the model says so
  third_told : (t : Bool) (p : ℕ) (a b : Bool) → not (t && (not b && not a)) ≡ (eqb (cond t (suc p) 0) 0 || cond t a false || cond t b false)
  third_told false p a b = refl
  third_told true p true true = sym (ap (λ (x : Bool). x || true || true) (eqb-suc-zero p))
  third_told true p true false = sym (ap (λ (x : Bool). x || true || false) (eqb-suc-zero p))
  third_told true p false true = sym (ap (λ (x : Bool). x || false || true) (eqb-suc-zero p))
  third_told true p false false = sym (ap (λ (x : Bool). x || false || false) (eqb-suc-zero p))

  test_third : (t : Bool) (p q : ℕ) → eqb (cond t (suc p) 0) (suc q) ≡ cond t (eqb p q) false
  test_third true p q = eqb-suc-suc p q
  test_third false p q = eqb-zero-suc q

  -- the committer as the model has it, by the committer of the engine
  abbrev third_of : Option ℕ → ℕ
  third_of p = cond (tells_committer s.mode) (process_number p) 0

  committer_hears_number : (p : ℕ)
      → not (committer_hears (asked_by s i) round p) ≡ (eqb (third_of (Some p)) 0 || eqb (third_of (Some p)) (suc i) || eqb (third_of (Some p)) (suc round.leader))
  unfolding committer_hears
  committer_hears_number p =
      third_told (tells_committer s.mode) p (eqb p i) (eqb p round.leader)
      ∙ ap₂ (λ (x y : Bool). eqb (third_of (Some p)) 0 || x || y) (sym (test_third (tells_committer s.mode) p i)) (sym (test_third (tells_committer s.mode) p round.leader))

  answers_at_lem : (core : Core) (p : Option ℕ)
      → meanings meaning_of (envelopes (answer_accept (asked_by s i) round core p)) ≡ answers_at core (third_of p) round.leader (round_number (Some round))
  unfolding answer_accept committer_hears
  answers_at_lem core None = of-both (λ (c : ℕ). to_leader core round.leader (round_number (Some round)) ≡ answers_at core c round.leader (round_number (Some round))) (tells_committer s.mode) refl refl
  answers_at_lem core (Some p) =
      by_turned (λ (x : SentMessages) (os : List ModelOutgoing). meanings meaning_of (envelopes x) ≡ os) (committer_hears (asked_by s i) round p)
      (eqb (third_of (Some p)) 0 || eqb (third_of (Some p)) (suc i) || eqb (third_of (Some p)) (suc round.leader)) (committer_hears_number p)
      (λ t. ap
      (λ (tells : Bool).
      record { destination = model.to (pred (cond tells (suc p) 0)); message = model.accept core.slot (round_number (Some round)) (held_value core.paxos.max_rv) } ∷ to_leader core round.leader (round_number (Some round)))
      (sym (and_left (tells_committer s.mode) (not (eqb p round.leader) && not (eqb p i)) t)))
      (λ t. refl)

  answer_appends : (core : Core) (p : Option ℕ) → Appends (answer_accept (asked_by s i) round core p)
  unfolding answer_accept
  answer_appends core None = one_appends (accept_to (asked_by s i) core round round.leader)
  answer_appends core (Some p) =
      of-both Appends (committer_hears (asked_by s i) round p) (two_appends (accept_to (asked_by s i) core round p) (accept_to (asked_by s i) core round round.leader))
      (one_appends (accept_to (asked_by s i) core round round.leader))

  answers_model : (core : Core) → core.paxos.round ≡ Some round
      → meanings meaning_of (envelopes (answer_accept (asked_by s i) round core h.committer)) ≡ model.replies (model_setup_of s) i third (view_of ans core)
  unfolding model.replies
  answers_model core at =
      answers_at_lem core h.committer ∙ ap (λ (c : ℕ). answers_at core c round.leader (round_number (Some round))) (sym third_number)
      ∙ ap₂ (answers_at core third) (sym (leader_number_lem core at)) (ap round_number (sym at))

  -- ---- the accept

  tells_leader : eqb i round.leader ≡ true → tells_commit (asked_by s i) h round ≡ true
  unfolding tells_commit
  tells_leader e = simp (eqb_sym round.leader i ∙ e)

  tells_other : eqb i round.leader ≡ false → tells_commit (asked_by s i) h round ≡ not (eqb host.requester (suc i))
  unfolding tells_commit
  tells_other e = simp (eqb_sym round.leader i ∙ e) (ap not (is_process_number h.requester i))

  -- the accepted core: in the round, with the value held
  pub record Accepted (v : ℕ) (core : Core) : Type 0 where
    pub at : core.paxos.round ≡ Some round
    pub value : held_value core.paxos.max_rv ≡ v

  abbrev outcome_of : View → Core → ModelOutcome
  outcome_of x0 core = model_after_accept (model_setup_of s) i h.src host x0 (view_of ans core)

  module _ (delegate_of_lem : h.delegate ≡ delegate_of s s.mode round.leader) (x0 : View) (v : ℕ) (core : Core) (acc : Accepted v core) where
    abbrev leads : Bool
    leads = eqb i (leader_of (view_of ans core).round)

    abbrev answers_it : Bool
    answers_it = eqb h.src ((model_setup_of s).voters.delegate (view_of ans core).round)

    leads_number : leads ≡ eqb i round.leader
    leads_number = ap (eqb i) (leader_number_lem core acc.at)

    delegate_same : answers_it ≡ eqb h.src h.delegate
    delegate_same = ap (eqb h.src) (ap (delegate_of s s.mode) (leader_number_lem core acc.at) ∙ sym delegate_of_lem)

    accepted_follows : Follows (model_setup_of s) ans (accept_taken (asked_by s i) h round v core) (outcome_of x0 core)
    unfolding accept_taken follower answered_delegate model_after_accept
    accepted_follows =
        by_both (Follows (model_setup_of s) ans) (eqb i round.leader) leads (sym leads_number)
        (λ e. try_commit_follows v core no_messages none_appends acc.value true (tells_leader e))
        (λ e. by_both (Follows (model_setup_of s) ans) (eqb h.src h.delegate) answers_it (sym delegate_same)
        (λ d. by_both (λ (step : CoreStep) (r : ModelOutcome). Follows (model_setup_of s) ans (Ok step) r) (is_committer (asked_by s i) h) (eqb third (suc i)) committer_number
        (λ c. by_choice (λ (step : CoreStep). Follows (model_setup_of s) ans (Ok step) (commits_after (model.replies (model_setup_of s) i third (view_of ans core)))) (is_swift_paxos s.mode)
        (λ t. absurd (not_both t no-swift))
        (λ t. follows_both refl (ap (commits_after) (sym (answers_model core acc.at)))
        (try_commit_follows v core (answer_accept (asked_by s i) round core h.committer) (answer_appends core h.committer) acc.value (not (eqb host.requester (suc i))) (tells_other e))))
        (λ c. record { seen_as = ap (model_sends (view_of ans core)) (answers_model core acc.at) }))
        (λ d. by_both (Follows (model_setup_of s) ans) (is_committer (asked_by s i) h) (eqb third (suc i)) committer_number
        (λ c. try_commit_follows v core no_messages none_appends acc.value (not (eqb host.requester (suc i))) (tells_other e))
        (λ c. record { seen_as = tt })))
      where
        commits_after : List ModelOutgoing → ModelOutcome
        commits_after os = model_commits (model_setup_of s) (view_of ans core) os (not (eqb host.requester (suc i)))

  -- ---- an Accept in the round of the core

  abbrev accepted_core : ℕ → Core → Core
  accepted_core v core = left_fast_path (with_paxos (after_accept (asked_by s i).member h.src round v core.paxos) core)

  accepted_view_lem : (v : ℕ) (core : Core) → core.paxos.round ≡ Some round → view_of ans (accepted_core v core) ≡ accepted_by h.src (model_voted i v (view_of ans core))
  accepted_view_lem v core at =
      ap₂ (view_with_accepted ans core v) (ap round_number (sym at))
      (counted_add (asked_by s i).member h.src core.paxos.accepted_set alive small src-small ∙ add_other_way i h.src (contains core.paxos.accepted_set))

  abbrev fits_model : ℕ → View → Bool
  fits_model v y = ltb y.held_round y.round || (eqb y.held_round y.round && eqb y.held_value v)

  accepting_follows : h.delegate ≡ delegate_of s s.mode round.leader → (v : ℕ) (core : Core) → Leaders core → core.paxos.round ≡ Some round → (x0 : View)
      → Follows (model_setup_of s) ans (accepting (asked_by s i) h round v core)
      (cond (fits_model v (view_of ans core)) (model_after_accept (model_setup_of s) i h.src host x0 (accepted_by h.src (model_voted i v (view_of ans core)))) (model_refused x0))
  unfolding accepting receive_accept
  accepting_follows d v core ok at x0 =
      by_both (λ (p : Result PaxosState Refusal) (r : ModelOutcome). Follows (model_setup_of s) ans (after_accepted (asked_by s i) h round v core p) r) (accept_fits core.paxos.max_rv round v)
      (fits_model v (view_of ans core))
      (fits_number core.paxos.max_rv round v ok.in_held below
      ∙ ap (λ (r : ℕ). ltb (view_of ans core).held_round r || (eqb (view_of ans core).held_round r && eqb (view_of ans core).held_value v)) (ap round_number (sym at)))
      (λ e. follows_both
      (ap (λ (t : Bool). accept_taken (asked_by s i) h round v (cond t (with_paxos (after_accept (asked_by s i).member h.src round v core.paxos) core) (accepted_core v core))) no-swift)
      (ap (model_after_accept (model_setup_of s) i h.src host x0) (sym (accepted_view_lem v core at)))
      (accepted_follows d x0 v (accepted_core v core) (record { at = at; value = refl })))
      (λ e. record { seen_as = tt })

-- a step that is the model's does not go on
pub ends : (S : ModelSetup) (ans : ModelAnswers) (X : Type 0) (lift : CoreStep → X) (Fits : Result X Refusal → ModelOutcome → Type 0)
    → ((step : Result CoreStep Refusal) (r : ModelOutcome) → Follows S ans step r → Fits (map_step lift step) r)
    → (step : CoreStep) (r : ModelOutcome) (rest : Core → Result X Refusal) → Follows S ans (Ok step) r → Fits (then_in lift (Ok step) rest) r
ends S ans X lift Fits lifted step r rest f = go step.next refl f.seen_as
  where
    stops : (n : Next) → step.next ≡ n → goes_on n ≡ false → Fits (then_in lift (Ok step) rest) r
    stops n e d = subst (λ (t : Bool). Fits (cond t (rest step.state) (Ok (lift step))) r) (sym (ap (λ (n : Next). goes_on n) e ∙ d)) (lifted (Ok step) r f)

    go : (n : Next) → step.next ≡ n → SeenAs S ans step.state step.messages n r → Fits (then_in lift (Ok step) rest) r
    go Stays e g = stops Stays e refl
    go Continues e g = absurd g
    go (Commits v) e g = stops (Commits v) e refl

-- An Accept is the model's, with the host's requester; X is what the handler makes of it, as in Entering.antt.
module _ (ans : ModelAnswers) (s : Settings) (i : ℕ) (no-swift : is_swift_paxos s.mode ≡ false) (small : i < 64) (h : Heard) (src : h.src < 64) (slot : ℕ) (round : PaxosRound) (below : round.leader < 64) (v : ℕ)
    (live : h.source_live ≡ contains s.alive_replicas h.src) (delegate_of_lem : h.delegate ≡ delegate_of s s.mode round.leader) (by-requester : h.committer ≡ committer_of s h.requester)
    (X : Type 0) (lift : CoreStep → X) (Fits : Result X Refusal → ModelOutcome → Type 0) (lifted : (step : Result CoreStep Refusal) (r : ModelOutcome) → Follows (model_setup_of s) ans step r → Fits (map_step lift step) r)
    (rest : Core → Result X Refusal) (rest-follows : contains s.alive_replicas i ≡ true → (core : Core) (r : ModelOutcome) → Follows (model_setup_of s) ans (accepting (asked_by s i) h round v core) r → Fits (rest core) r) where
  pub on_accept_follows : (core : Core) → Leaders core → slot ≤ core.slot
      → Fits (then_in lift (enter (asked_by s i) h slot round core) rest)
      (model_on_accept (model_setup_of s) i (view_of ans core) h.src slot (round_number (Some round)) v (record { allows = true; requester = process_number h.requester; adoptee = 0 }))
  unfolding model_on_accept
  on_accept_follows core ok le =
      enter_follows ans s i no-swift core h slot round X lift Fits lifted ok below live le rest _
      (λ alive same no-older.
      rest-follows alive (in_round round core) _
      (accepting_follows ans s i no-swift alive small h src by-requester round below delegate_of_lem v (in_round round core) (in_round_leaders round core ok below) (in_round_round round core no-older) (view_of ans core)))

-- What the leader knows in a run: where it has proposed v in its slot it holds v, as accepted in the starting round, and those that have accepted,
-- as far as it was told, are itself and those that it has heard; these are fewer than a majority.
-- Assumes nothing.
use Rattle.std.specs.Prelude.{Option, None, Ok, Some, is_some}
use Rattle.calls.specs.Commits.{committed_slot}
use Rattle.calls.specs.declared.CommittedSlot.{CommittedSlot}
use mathlib.Core.Path.{◌≡◌, refl, sym, ap, ap₂, subst, ◌∙◌}
use mathlib.Core.Logic.{◌⊎◌, inl, inr}
use mathlib.Core.Bool.{Bool, true, false, not, ◌&&◌, and-true}
use mathlib.Core.List.{List, [], ◌∷◌}
use Prim.Native.Nat.{ℕ, suc, ◌+◌, ◌≤◌, ◌<◌}
use native.Mathlib.Nat.{le_refl, le_trans}
use native.Mathlib.Omega.{arith}
use lib.Dec.{eqb, ltb, leb}
use borrow.Author.Tests.{lt-leb, le-leb, le-ltb, eqb-true, eq-eqb, ne_eqb}
use Rattle.basics.proofs.Tests.{either, not_both, and_right, or_cases, of-both}
use Rattle.basics.specs.sets.Sets.{contains, count, size, insert}
use Rattle.basics.proofs.sets.Laws.{size_empty}
use Rattle.message.specs.declared.ConsensusMsg.TheVariants.{Accept}
use Rattle.message.specs.declared.PaxosRound.{PaxosRound}
use Rattle.settings.specs.Questions.{is_live_replica, quorums_of}
use Rattle.settings.specs.declared.Settings.{Settings}
use Rattle.calls.specs.declared.delivery.Delivery.{Delivery}
use Rattle.calls.specs.declared.Call.{Call}
use Rattle.calls.specs.declared.Call.TheVariants.{Propose, StartRead, Receive}
use Rattle.agreement.specs.Model.{View, undecided, decided, Decision, empty, add, advanced, accepted_by, model_voted, enough_accepted, model_commits, ModelOutcome}
use Rattle.group.specs.Claim.{At, plus_commit, slot_at}
use Rattle.group.specs.Steps.{RunStep, reply_of, is_done, delivery_in, delivered, entries_of_steps}
use Rattle.group.proofs.Calls.{model_decision_of}
use Rattle.group.proofs.Entering.{add_again, add_other_way}
use Rattle.group.proofs.View.{no_member, insert_add, model_setup_of}
use Rattle.leader_commits.specs.Answers.{is_accept_of, is_answer, source_of, leader_hears, sources, answers_heard, LeaderProposed}
use Rattle.leader_commits.proofs.Led.{fits_held_view, proposed_view, Accepting}
use Rattle.leader_commits.proofs.Calls.{seen_in}
use Rattle.leader_commits.proofs.Hearing.{sources_same, sources_more, leader_not_counted, with_leader}

-- ---- slots of the leader

pub slot_of_other : (i : ℕ) (x : RunStep) (past : List RunStep) → (x.member ≡ i → ⊥) → slot_at i (entries_of_steps (x ∷ past)) ≡ slot_at i (entries_of_steps past)
slot_of_other i x past other = simp (ne_eqb i x.member (λ e. other (sym e)))

pub slot_of_own : (i : ℕ) (x : RunStep) (past : List RunStep) → x.member ≡ i
    → slot_at i (entries_of_steps (x ∷ past)) ≡ plus_commit (reply_of x).commit (slot_at i (entries_of_steps past))
slot_of_own i x past own = simp (eq-eqb i x.member (sym own))

-- what the model sees of a commit
abbrev pub is_decided : Decision → Bool
is_decided undecided = false
is_decided (decided slot v) = true

abbrev pub slot_in_view : Decision → ℕ
slot_in_view undecided = 0
slot_in_view (decided slot v) = slot

abbrev pub value_in_view : Decision → ℕ
value_in_view undecided = 0
value_in_view (decided slot v) = v

pub no_commit_in : (c : Option CommittedSlot) → model_decision_of c ≡ undecided → (n : ℕ) → plus_commit c n ≡ n
no_commit_in None e n = refl
no_commit_in (Some commit) e n = absurd (not_both refl (ap is_decided e))

pub commit_in : (c : Option CommittedSlot) (slot v : ℕ) → model_decision_of c ≡ decided slot v → (fast : Bool) × (c ≡ committed_slot slot v fast)
commit_in None slot v e = absurd (not_both refl (ap is_decided (sym e)))
commit_in (Some commit) slot v e = (commit.fast, λ z. committed_slot (ap slot_in_view e z) (ap value_in_view e z) commit.fast)

-- a member's slot grows
grows : (c : Option CommittedSlot) (n : ℕ) → n ≤ plus_commit c n
grows None n = le_refl n
grows (Some commit) n = omega arith

slot_grows : (i : ℕ) (x : RunStep) (past : List RunStep) → slot_at i (entries_of_steps past) ≤ slot_at i (entries_of_steps (x ∷ past))
slot_grows i x past =
    of-both (λ (n : ℕ). slot_at i (entries_of_steps past) ≤ n) (eqb i x.member) (grows (reply_of x).commit (slot_at i (entries_of_steps past))) (le_refl (slot_at i (entries_of_steps past)))

pub slot_before : (i : ℕ) (x : RunStep) (earlier past : List RunStep) → At x earlier past → slot_at i (entries_of_steps earlier) ≤ slot_at i (entries_of_steps past)
slot_before i x earlier [] a = absurd a
slot_before i x earlier (y ∷ past) (inl a) =
    subst (λ (l : List RunStep). slot_at i (entries_of_steps l) ≤ slot_at i (entries_of_steps (y ∷ past))) (sym a.1) (slot_grows i y past)
slot_before i x earlier (y ∷ past) (inr a) = le_trans (slot_before i x earlier past a) (slot_grows i y past)

-- ---- proposals

-- a proposal is the latest step or an earlier one
pub proposed_before : (s : Settings) (t v : ℕ) (x : RunStep) (past : List RunStep) → LeaderProposed s t v (x ∷ past)
    → ((x.member ≡ s.first_leader) × (x.call ≡ Propose v) × ((reply_of x).outcome ≡ Ok tt)) ⊎ LeaderProposed s t v past
proposed_before s t v x past (z, earlier, inl a, own, is, done, slot) =
    let same = sym a.0 in
    inl (ap (λ (y : RunStep). y.member) same ∙ own, ap (λ (y : RunStep). y.call) same ∙ is, ap (λ (y : RunStep). (reply_of y).outcome) same ∙ done)
proposed_before s t v x past (z, earlier, inr a, own, is, done, slot) = inr (z, earlier, a, own, is, done, slot)

-- ---- the leader's part of the invariant

module _ (s : Settings) where
  abbrev l : ℕ
  l = s.first_leader

  abbrev majority : ℕ
  majority = (quorums_of s).majority

  abbrev start : ℕ
  start = (model_setup_of s).voters.start

  -- what the leader knows, x, after these steps
  pub record Leading (x : View) (past : List RunStep) : Type 0 where
    pub slot : x.slot ≡ slot_at s.first_leader (entries_of_steps past)
    -- of a later slot it has heard nothing
    pub nothing_ahead : (t : ℕ) → x.slot < t → sources (leader_hears s t) past ≡ 0
    -- nor of its own as long as it holds nothing
    pub nothing_free : x.holds ≡ false → sources (leader_hears s x.slot) past ≡ 0
    pub counted : add s.first_leader x.accepted ≡ add s.first_leader (contains (sources (leader_hears s x.slot) past))
    pub too_few : x.holds ≡ true → answers_heard s x.slot past + 1 < (quorums_of s).majority
    pub in_start : x.holds ≡ true → x.held_round ≡ (model_setup_of s).voters.start
    pub holds_own : (v : ℕ) → LeaderProposed s x.slot v past → (x.holds ≡ true) × (x.held_value ≡ v)

  -- a step after which it knows no more, and by which it has heard nothing and proposed nothing
  pub leading_same : (x : View) (y : RunStep) (past : List RunStep) → Leading x past → slot_at l (entries_of_steps (y ∷ past)) ≡ slot_at l (entries_of_steps past)
      → ((t : ℕ) → x.slot ≤ t → leader_hears s t y ≡ false) → ((v : ℕ) → y.member ≡ l → y.call ≡ Propose v → (reply_of y).outcome ≡ Ok tt → ⊥) → Leading x (y ∷ past)
  leading_same x y past k same unheard no-proposal =
      record {
        slot = k.slot ∙ sym same;
        nothing_ahead = λ t after. sources_same (leader_hears s t) y past (unheard t (omega (arith, after))) ∙ k.nothing_ahead t after;
        nothing_free = λ free. own ∙ k.nothing_free free;
        counted = k.counted ∙ ap (λ (a : ℕ). add l (contains a)) (sym own);
        too_few = λ held. subst (λ (a : ℕ). size a + 1 < majority) (sym own) (k.too_few held);
        in_start = k.in_start;
        holds_own = λ v p. go v (proposed_before s x.slot v y past p);
      }
    where
      own : sources (leader_hears s x.slot) (y ∷ past) ≡ sources (leader_hears s x.slot) past
      own = sources_same (leader_hears s x.slot) y past (unheard x.slot (le_refl x.slot))

      go : (v : ℕ) → ((y.member ≡ l) × (y.call ≡ Propose v) × ((reply_of y).outcome ≡ Ok tt)) ⊎ LeaderProposed s x.slot v past
          → (x.holds ≡ true) × (x.held_value ≡ v)
      go v (inl p) = absurd (no-proposal v p.0 p.1 p.2)
      go v (inr p) = k.holds_own v p

  -- a proposal
  abbrev proposed_value : Call → ℕ
  proposed_value (Propose v) = v
  proposed_value (StartRead tag arrival) = 0
  proposed_value (Receive d) = 0

  pub leading_proposed : 2 ≤ (quorums_of s).majority → (x : View) (y : RunStep) (past : List RunStep) (v : ℕ) → Leading x past → x.round ≡ (model_setup_of s).voters.start
      → slot_at l (entries_of_steps (y ∷ past)) ≡ slot_at l (entries_of_steps past) → x.holds ≡ false → y.call ≡ Propose v → Leading (proposed_view l x v) (y ∷ past)
  leading_proposed two x y past v k at same free is =
      record {
        slot = k.slot ∙ sym same;
        nothing_ahead = λ t after. sources_same (leader_hears s t) y past (unheard t) ∙ k.nothing_ahead t after;
        nothing_free = λ e. absurd (not_both refl e);
        counted = add_again l empty ∙ ap (add l) (sym no_member) ∙ ap (λ (a : ℕ). add l (contains a)) (sym none);
        too_few = λ e. let zero : answers_heard s x.slot (y ∷ past) ≡ 0 = ap size none ∙ size_empty in omega arith;
        in_start = λ e. at;
        holds_own = λ w p. (refl, go w (proposed_before s x.slot w y past p));
      }
    where
      unheard : (t : ℕ) → leader_hears s t y ≡ false
      unheard t = ap (λ (c : Call). (is_answer s t (delivery_in c) && eqb y.member l) && is_done (reply_of y).outcome) is

      none : sources (leader_hears s x.slot) (y ∷ past) ≡ 0
      none = sources_same (leader_hears s x.slot) y past (unheard x.slot) ∙ k.nothing_free free

      go : (w : ℕ) → ((y.member ≡ l) × (y.call ≡ Propose w) × ((reply_of y).outcome ≡ Ok tt)) ⊎ LeaderProposed s x.slot w past → v ≡ w
      go w (inl p) = ap proposed_value (sym is ∙ p.1)
      go w (inr p) = absurd (not_both (k.holds_own w p).0 free)

  -- ---- an accept of the leader's slot that is taken

  -- where something is held in the round, an accept that fits it is of the same value
  pub fit_same : (x : View) (v : ℕ) → fits_held_view x v ≡ true → x.held_round ≡ x.round → x.held_value ≡ v
  fit_same x v e same = go (or_cases (ltb x.held_round x.round) (eqb x.held_round x.round && eqb x.held_value v) e)
    where
      go : (ltb x.held_round x.round ≡ true) ⊎ ((eqb x.held_round x.round && eqb x.held_value v) ≡ true) → x.held_value ≡ v
      go (inl f) = absurd (not_both f (le-ltb x.held_round x.round (omega (arith, same))))
      go (inr f) = eqb-true x.held_value v (and_right (eqb x.held_round x.round) (eqb x.held_value v) f)

  module _ (small : s.first_leader < 64) (live_small : (p : ℕ) → is_live_replica s p ≡ true → p < 64)
      (x : View) (y : RunStep) (past : List RunStep) (k : Leading x past) (own : y.member ≡ s.first_leader)
      (d : Delivery) (slot : ℕ) (round : PaxosRound) (v : ℕ) (is : delivered y ≡ Some d) (accept : d.message.msg ≡ Accept slot round v)
      (a : Accepting (model_setup_of s) s.first_leader x d.message.src slot v (seen_in y)) where
    abbrev source : ℕ
    source = d.message.src

    -- what the leader then knows, unless it commits
    abbrev pub accepted_view : View
    accepted_view = accepted_by d.message.src (model_voted s.first_leader v x)

    abbrev before : ℕ
    before = sources (leader_hears s x.slot) past

    abbrev after : ℕ
    after = sources (leader_hears s x.slot) (y ∷ past)

    commits_taken : (z : View) → (model_commits (model_setup_of s) z [] true).taken ≡ true
    unfolding model_commits
    commits_taken z = of-both (λ (o : ModelOutcome). o.taken ≡ true) (enough_accepted (model_setup_of s) z) refl refl

    done : is_done (reply_of y).outcome ≡ true
    done = ap (λ (o : ModelOutcome). o.taken) a.result ∙ commits_taken accepted_view

    is_answer_lem : (t : ℕ) → is_answer s t (delivered y) ≡ (eqb slot t && not (eqb source l))
    is_answer_lem t =
        ap (is_answer s t) is
        ∙ ap (λ (b : Bool). b && (is_live_replica s source && not (eqb source l))) (ap (is_accept_of t) accept)
        ∙ ap (λ (b : Bool). eqb slot t && (b && not (eqb source l))) a.live_source

    hears_it : (t : ℕ) → leader_hears s t y ≡ (eqb slot t && not (eqb source l))
    hears_it t =
        ap₂ (λ (b c : Bool). (is_answer s t (delivered y) && b) && c) (eq-eqb y.member l own) done
        ∙ and-true (is_answer s t (delivered y) && true) ∙ and-true (is_answer s t (delivered y)) ∙ is_answer_lem t

    -- it is of no other slot
    hears_other : (t : ℕ) → (x.slot ≡ t → ⊥) → leader_hears s t y ≡ false
    hears_other t other = hears_it t ∙ ap (λ (b : Bool). b && not (eqb source l)) (ne_eqb slot t (λ e. other (sym a.own_slot ∙ e)))

    hears_own : leader_hears s x.slot y ≡ not (eqb source l)
    hears_own = hears_it x.slot ∙ ap (λ (b : Bool). b && not (eqb source l)) (eq-eqb slot x.slot a.own_slot)

    -- those that have accepted are the leader and those that it has heard
    accepted_now : add source (add l x.accepted) ≡ add l (contains after)
    accepted_now = go (either (eqb source l))
      where
        go : (eqb source l ≡ true) ⊎ (eqb source l ≡ false) → add source (add l x.accepted) ≡ add l (contains after)
        go (inl e) =
            ap (λ (p : ℕ). add p (add l x.accepted)) (eqb-true source l e) ∙ add_again l x.accepted ∙ k.counted
            ∙ ap (λ (b : ℕ). add l (contains b)) (sym (sources_same (leader_hears s x.slot) y past (hears_own ∙ ap not e)))
        go (inr e) =
            ap (add source) k.counted ∙ add_other_way source l (contains before)
            ∙ ap (add l) (sym (insert_add before source (live_small source a.live_source)))
            ∙ ap (λ (b : ℕ). add l (contains b)) (sym heard_now)
          where
            heard_now : after ≡ insert before source
            heard_now = sources_more (leader_hears s x.slot) y past (hears_own ∙ ap not e) ∙ ap (λ (o : Option Delivery). insert before (source_of o)) is

    enough : enough_accepted (model_setup_of s) accepted_view ≡ leb majority (size after + 1)
    enough = ap (leb majority) (ap (λ (f : ℕ → Bool). count f 64) accepted_now ∙ with_leader after l small (leader_not_counted s x.slot (y ∷ past)))

    commit_yes : enough_accepted (model_setup_of s) accepted_view ≡ true
        → ((model_commits (model_setup_of s) accepted_view [] true).view ≡ advanced start accepted_view) × ((model_commits (model_setup_of s) accepted_view [] true).decision ≡ decided x.slot v)
    unfolding model_commits
    commit_yes e = (simp e, simp e)

    commit_no : enough_accepted (model_setup_of s) accepted_view ≡ false
        → ((model_commits (model_setup_of s) accepted_view [] true).view ≡ accepted_view) × ((model_commits (model_setup_of s) accepted_view [] true).decision ≡ undecided)
    unfolding model_commits
    commit_no e = (simp e, simp e)

    -- it commits its value where the leader has heard majority less one
    pub accept_commits : (quorums_of s).majority ≤ answers_heard s x.slot (y ∷ past) + 1
        → ((seen_in y).view ≡ advanced (model_setup_of s).voters.start accepted_view) × ((seen_in y).decision ≡ decided x.slot v)
    accept_commits h =
        let c = commit_yes (enough ∙ le-leb majority (size after + 1) h) in
        (ap (λ (o : ModelOutcome). o.view) a.result ∙ c.0, ap (λ (o : ModelOutcome). o.decision) a.result ∙ c.1)

    pub accept_waits : answers_heard s x.slot (y ∷ past) + 1 < (quorums_of s).majority → ((seen_in y).view ≡ accepted_view) × ((seen_in y).decision ≡ undecided)
    accept_waits h =
        let c = commit_no (enough ∙ lt-leb majority (size after + 1) h) in
        (ap (λ (o : ModelOutcome). o.view) a.result ∙ c.0, ap (λ (o : ModelOutcome). o.decision) a.result ∙ c.1)

    not_proposal : (w : ℕ) → y.call ≡ Propose w → ⊥
    not_proposal w e = not_both (ap is_some is) (ap (λ (c : Call). is_some (delivery_in c)) e)

    pub leading_waits : x.round ≡ (model_setup_of s).voters.start → answers_heard s x.slot (y ∷ past) + 1 < (quorums_of s).majority → Leading accepted_view (y ∷ past)
    leading_waits at h =
        record {
          slot = k.slot ∙ sym (slot_of_own l y past own ∙ no_commit_in (reply_of y).commit (accept_waits h).1 (slot_at l (entries_of_steps past)));
          nothing_ahead = λ t later. sources_same (leader_hears s t) y past (hears_other t (λ e. omega (arith, later, e))) ∙ k.nothing_ahead t later;
          nothing_free = λ e. absurd (not_both refl e);
          counted = ap (add l) accepted_now ∙ add_again l (contains after);
          too_few = λ e. h;
          in_start = λ e. at;
          holds_own = λ w p. (refl, go w (proposed_before s x.slot w y past p));
        }
      where
        go : (w : ℕ) → ((y.member ≡ l) × (y.call ≡ Propose w) × ((reply_of y).outcome ≡ Ok tt)) ⊎ LeaderProposed s x.slot w past → v ≡ w
        go w (inl p) = absurd (not_proposal w p.1)
        go w (inr p) = let held = k.holds_own w p in sym (fit_same x v a.fitting (k.in_start held.0 ∙ sym at)) ∙ held.1

    next_slot_lem : (c : Option CommittedSlot) → model_decision_of c ≡ decided x.slot v → (n : ℕ) → plus_commit c n ≡ suc n
    next_slot_lem c e n = let f = commit_in c x.slot v e in ap (λ (c : Option CommittedSlot). plus_commit c n) f.1

    pub leading_commits : (quorums_of s).majority ≤ answers_heard s x.slot (y ∷ past) + 1
        → Leading (advanced (model_setup_of s).voters.start accepted_view) (y ∷ past)
    leading_commits h =
        record {
          slot = ap suc k.slot ∙ sym (slot_of_own l y past own ∙ next_slot_lem (reply_of y).commit (accept_commits h).1 (slot_at l (entries_of_steps past)));
          nothing_ahead = λ t later. nothing t (omega (arith, later));
          nothing_free = λ e. none;
          counted = ap (add l) (sym no_member) ∙ ap (λ (b : ℕ). add l (contains b)) (sym none);
          too_few = λ e. absurd (not_both e refl);
          in_start = λ e. absurd (not_both e refl);
          holds_own = λ w p. absurd (go w (proposed_before s (suc x.slot) w y past p));
        }
      where
        nothing : (t : ℕ) → x.slot < t → sources (leader_hears s t) (y ∷ past) ≡ 0
        nothing t later = sources_same (leader_hears s t) y past (hears_other t (λ e. omega (arith, later, e))) ∙ k.nothing_ahead t later

        none : sources (leader_hears s (suc x.slot)) (y ∷ past) ≡ 0
        none = nothing (suc x.slot) (le_refl (suc x.slot))

        go : (w : ℕ) → ((y.member ≡ l) × (y.call ≡ Propose w) × ((reply_of y).outcome ≡ Ok tt)) ⊎ LeaderProposed s (suc x.slot) w past → ⊥
        go w (inl p) = not_proposal w p.1
        go w (inr (z, earlier, at, p, q, r, e)) =
            let most : slot_at l (entries_of_steps earlier) ≤ slot_at l (entries_of_steps past) = slot_before l z earlier past at in
            let here : x.slot ≡ slot_at l (entries_of_steps past) = k.slot in
            omega (arith, most, here, e)

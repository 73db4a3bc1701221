-- What a Prepare and an Accept have in common is the model's `enter`; and the views of a round entered, of a promise and of an accept.
-- Assumes nothing.
use Rattle.std.specs.Prelude.{Option, Some, is_some, Result, Ok, Err}
use Rattle.std.proofs.Math.Bool.{or_assoc, or_comm, or_self_left}
use mathlib.Core.Path.{◌≡◌, refl, sym, ap, subst, fun_ext, ◌∙◌}
use mathlib.Core.Bool.{Bool, true, false, cond, not, ◌||◌}
use Prim.Native.Nat.{ℕ, ◌≤◌, ◌<◌}
use native.Mathlib.Omega.{arith}
use lib.Dec.{eqb, ltb}
use borrow.Author.Tests.{ltb-false, eq-eqb, eqb-true}
use Rattle.basics.proofs.Tests.{of-both, not_both, fails, or_left, or_right}
use Rattle.basics.specs.sets.Sets.{contains}
use Rattle.message.specs.Modes.{is_swift_paxos}
use Rattle.message.specs.Rounds.{before}
use Rattle.message.proofs.Order.{optional_rounds_ordered}
use Rattle.message.specs.declared.PaxosRound.{PaxosRound}
use Rattle.message.specs.declared.Refusal.{Refusal}
use Rattle.message.specs.declared.Refusal.TheVariants.{SourceNotLive}
use Rattle.round_state.specs.Paxos.{get_last_accepted_round, goto_round, with_sender, counted}
use Rattle.round_state.specs.declared.Member.{Member}
use Rattle.round_state.proofs.Counting.{with_own_replica}
use Rattle.settings.specs.declared.Settings.{Settings}
use Rattle.calls.specs.Asked.{asked_of}
use Rattle.steps.specs.enter.Enter.{in_round, is_older, from_live, enter}
use Rattle.steps.specs.Steps.{CoreStep, no_messages, held_rv, held_value, with_paxos, stays, then_in, map_step}
use Rattle.steps.specs.declared.Core.{Core}
use Rattle.steps.specs.declared.Heard.{Heard}
use Rattle.agreement.proofs.Tests.{by_choice, by_both, by_turned}
use Rattle.agreement.specs.Model.{View, ModelAnswers, ModelOutcome, add, in_later_round, quiet, model_enter}
use Rattle.group.specs.Claim.{member_settings}
use Rattle.group.proofs.View.{round_number, before_number, no_member, insert_add, proposer_of, view_of, Leaders, model_setup_of, Follows}

-- ---- views

-- a later round
pub goto_view : (ans : ModelAnswers) (round : Option PaxosRound) (core : Core) → view_of ans (with_paxos (goto_round round core.paxos) core) ≡ in_later_round (round_number round) (view_of ans core)
goto_view ans round core =
    ap
    (λ (f : ℕ → Bool).
    record {
      slot = core.slot;
      round = round_number round;
      holds = is_some core.paxos.max_rv;
      held_round = round_number (get_last_accepted_round core.paxos.max_rv);
      held_proposer = proposer_of (held_rv core.paxos.max_rv);
      held_value = held_value core.paxos.max_rv;
      prepared = f;
      accepted = f;
      answers = ans;
    })
    no_member

pub in_round_view : (ans : ModelAnswers) (round : PaxosRound) (core : Core) → Leaders core → round.leader < 64
    → view_of ans (in_round round core)
    ≡ cond (ltb (view_of ans core).round (round_number (Some round))) (in_later_round (round_number (Some round)) (view_of ans core)) (view_of ans core)
unfolding in_round
in_round_view ans round core ok l =
    by_both (λ (c : Core) (x : View). view_of ans c ≡ x) (before core.paxos.round (Some round)) (ltb (view_of ans core).round (round_number (Some round))) (before_number core.paxos.round (Some round) ok.in_round_lem l)
    (λ t. goto_view ans (Some round) core) (λ t. refl)

pub in_round_leaders : (round : PaxosRound) (core : Core) → Leaders core → round.leader < 64 → Leaders (in_round round core)
unfolding in_round
in_round_leaders round core ok l = of-both Leaders (before core.paxos.round (Some round)) (record { in_round_lem = l; in_held = ok.in_held }) ok

-- what is not older is then in the round
pub in_round_round : (round : PaxosRound) (core : Core) → before (Some round) core.paxos.round ≡ false → (in_round round core).paxos.round ≡ Some round
unfolding in_round
in_round_round round core no-older =
    by_choice (λ (c : Core). c.paxos.round ≡ Some round) (before core.paxos.round (Some round)) (λ e. refl) (λ e. optional_rounds_ordered.connected core.paxos.round (Some round) e no-older)

-- ---- counting

pub add_again : (p : ℕ) (f : ℕ → Bool) → add p (add p f) ≡ add p f
add_again p f = fun_ext (λ q. or_self_left (eqb q p) (f q))

pub add_other_way : (p q : ℕ) (f : ℕ → Bool) → add p (add q f) ≡ add q (add p f)
add_other_way p q f =
    fun_ext (λ k. sym (or_assoc (eqb k p) (eqb k q) (f k)) ∙ ap (λ (t : Bool). t || f k) (or_comm (eqb k p) (eqb k q)) ∙ or_assoc (eqb k q) (eqb k p) (f k))

pub counted_add : (me : Member) (src set : ℕ) → me.replica ≡ true → me.my_pid < 64 → src < 64
    → contains (counted me src set) ≡ add me.my_pid (add src (contains set))
unfolding with_sender
counted_add me src set r l k =
    ap contains (with_own_replica me src (with_sender me src set) r) ∙ insert_add (with_sender me src set) me.my_pid l
    ∙ by_choice (λ (x : ℕ). add me.my_pid (contains x) ≡ add me.my_pid (add src (contains set))) (eqb src me.my_pid)
    (λ e. sym (add_again me.my_pid (contains set)) ∙ ap (λ (p : ℕ). add me.my_pid (add p (contains set))) (sym (eqb-true src me.my_pid e)))
    (λ e. ap (add me.my_pid) (insert_add set src k))

-- ---- entering

module _ (ans : ModelAnswers) (s : Settings) (i : ℕ) (no-swift : is_swift_paxos s.mode ≡ false) (core : Core) (h : Heard) (slot : ℕ) (round : PaxosRound) where
  older_number : Leaders core → round.leader < 64
      → is_older slot round core ≡ (ltb slot core.slot || ltb (round_number (Some round)) (view_of ans core).round)
  unfolding is_older
  older_number ok l = ap (λ (t : Bool). ltb slot core.slot || t) (before_number (Some round) core.paxos.round l ok.in_round_lem)

  -- what is not older is of the own slot, and not of an earlier round
  not_older : slot ≤ core.slot → is_older slot round core ≡ false → (slot ≡ core.slot) × (before (Some round) core.paxos.round ≡ false)
  unfolding is_older
  not_older le e =
      let low : ltb slot core.slot ≡ false = fails (λ t. not_both (or_left (before (Some round) core.paxos.round) t) e) in
      let ge : core.slot ≤ slot = ltb-false slot core.slot low in
      (omega arith, fails (λ t. not_both (or_right (ltb slot core.slot) t) e))

  -- entering is the model's, where the rest is; X is what the handler makes, of which Fits says that it is the model's
  module _ (X : Type 0) (lift : CoreStep → X) (Fits : Result X Refusal → ModelOutcome → Type 0) (lifted : (step : Result CoreStep Refusal) (r : ModelOutcome) → Follows (model_setup_of s) ans step r → Fits (map_step lift step) r) where
    pub enter_follows : Leaders core → round.leader < 64 → h.source_live ≡ contains s.alive_replicas h.src → slot ≤ core.slot
        → (rest : Core → Result X Refusal) (k : View → ModelOutcome)
        → (contains s.alive_replicas i ≡ true → slot ≡ core.slot → before (Some round) core.paxos.round ≡ false → Fits (rest (in_round round core)) (k (view_of ans (in_round round core))))
        → Fits (then_in lift (enter (asked_of (member_settings s i)) h slot round core) rest)
        (model_enter (model_setup_of s) i (view_of ans core) h.src slot (round_number (Some round)) k)
    unfolding enter from_live model_enter
    enter_follows ok l live le rest k go_on =
        by_turned ThenFits (contains s.alive_replicas i || is_swift_paxos s.mode) (not (contains s.alive_replicas i)) (ap not (or_swift (contains s.alive_replicas i)))
        (λ p. by_both ThenFits (is_older slot round core) (ltb slot core.slot || ltb (round_number (Some round)) (view_of ans core).round) (older_number ok l)
        (λ o. quiet_follows)
        (λ o. by_turned ThenFits (h.source_live || is_swift_paxos s.mode) (not (eqb slot core.slot) || not (contains s.alive_replicas h.src)) (taken_number o)
        (λ t. subst (λ (y : View). Fits (rest (in_round round core)) (k y)) (in_round_view ans round core ok l) (go_on (sym (or_swift (contains s.alive_replicas i)) ∙ p) (not_older le o).0 (not_older le o).1))
        (λ t. lifted (Err SourceNotLive) _ (record { seen_as = tt }))))
        (λ p. quiet_follows)
      where
        ThenFits : Result CoreStep Refusal → ModelOutcome → Type 0
        ThenFits step r = Fits (then_in lift step rest) r

        quiet_follows : ThenFits (Ok (stays core no_messages)) (quiet (view_of ans core))
        quiet_follows = lifted (Ok (stays core no_messages)) (quiet (view_of ans core)) (record { seen_as = refl })

        or_swift : (t : Bool) → (t || is_swift_paxos s.mode) ≡ t
        or_swift t = ap (λ (x : Bool). t || x) no-swift ∙ or_comm t false

        -- the slot is the own one
        taken_number : is_older slot round core ≡ false → not (h.source_live || is_swift_paxos s.mode) ≡ (not (eqb slot core.slot) || not (contains s.alive_replicas h.src))
        taken_number o =
            ap not (or_swift h.source_live ∙ live) ∙ sym (ap (λ (x : Bool). not x || not (contains s.alive_replicas h.src)) (eq-eqb slot core.slot (not_older le o).0))

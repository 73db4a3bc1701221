-- Demand 1, of the definitions: a call is taken exactly where no cause of document 01 holds (specs/FirstCause.antt), and else hands back the number of the
-- first cause alone and leaves the shard. A shard that is unmade or whose slot is spent refuses every call.
-- Assumes nothing.
use Rattle.std.specs.Prelude.{Option, None, Some, Ok, Err}
use Rattle.message.specs.Outcomes.{Outcome}
use mathlib.Core.Path.{◌≡◌, refl, sym, ap, subst, ◌∙◌}
use mathlib.Core.Logic.{◌⊎◌, inl, inr}
use mathlib.Core.Bool.{Bool, true, false, cond, not, ◌&&◌, ◌||◌, not-not}
use mathlib.Core.List.{List, [], ◌∷◌}
use Prim.Native.Nat.{ℕ, zero, suc, min}
use lib.Dec.{eqb, ltb, leb}
use lib.ListN.{get_or}
use Rattle.basics.proofs.Tests.{not_both, of-both, and_left, and_right, and_both}
use Rattle.message.specs.Refusals.{refusal_number}
use Rattle.message.specs.declared.ConsensusMsg.{ConsensusMsg}
use Rattle.message.specs.declared.ConsensusMsg.TheVariants.{Prepare, Accept, ForwardRequest, Commit, ReadRequest, ReadResponse}
use Rattle.message.specs.declared.PFMode.{PFMode}
use Rattle.message.specs.declared.PFMode.TheVariants.{Paxos, MultiPaxos, MultiPaxos3P, EPaxos, Pando, SwiftPaxos}
use Rattle.message.specs.declared.Refusal.{Refusal}
use Rattle.message.specs.declared.Refusal.TheVariants.{SettingsOutsideLimits, NumberTooLarge, NoSuchProcess, OtherLastValue, SlotAhead, ValueNotHeld, SourceNotLive, Panic, AcceptUnlikeHeld, SecondFastAnswer, ProposalNotAllowed, NoRoomForRead, NotInCalendar}
use Rattle.message.specs.declared.RoundV.{RoundV}
use Rattle.message.specs.declared.RoundV.TheVariants.{FastV, PaxosV}
use Rattle.settings.specs.declared.Settings.{Settings}
use Rattle.fast_state.specs.Adopt.{ProposerChoice, lowest_best}
use Rattle.steps.specs.declared.Rounds.{Rounds}
use Rattle.calls.specs.declared.delivery.Delivery.{Delivery}
use Rattle.calls.specs.declared.Call.{Call}
use Rattle.calls.specs.declared.Call.TheVariants.{Propose, StartRead, Receive}
use Rattle.calls.specs.Decision.{admission_of, unless_spent, unless_unmade, decision_for, decision_of}
use Rattle.consensus.specs.Call.{state_call, in_shard, call_with, call_of, shard_after_calls, new_shard}
use Rattle.consensus.specs.FirstCause.{number_alone, number_of_outcome, committers_outside, quorum_outside, mode_outside, some_outside, settings_causes, admission_causes, handling_causes, causes, first_cause, is_spent, unmade, is_ignored, all_causes, ByFirstCause, MadeBySettings, OfSettings}
use Rattle.consensus.specs.Panics.{Facts, prepare_panics, accept_panics}
use Rattle.consensus.specs.Rows.{Row, then, NoneHolds, FirstHolds, first_of}
use Rattle.consensus.specs.declared.Answer.{Answer}
use Rattle.consensus.specs.declared.Shard.{Shard}
use Rattle.consensus.proofs.Decided.{mark_kept}
use Rattle.consensus.proofs.FirstCause.{GivesNumber, first_cause_lem}
use Rattle.settings.specs.Settings.{counts_fit, members_fit, committers_fit, quorum_fits, mode_fits, within_limits}
use Rattle.basics.specs.sets.Sets.{size, fits}
use Rattle.basics.specs.tables.Tables.{every}
use Rattle.consensus.proofs.Admitted.{above_test, from_test}

-- ---- a list of causes: none holds, or the first that does

none_or_first : (rows : List Row) → (NoneHolds rows × (first_of rows ≡ 0)) ⊎ FirstHolds rows (first_of rows)
unfolding first_of
none_or_first [] = inl (tt, refl)
none_or_first (row ∷ rows) = go row.cause refl (none_or_first rows)
  where
    go : (t : Bool) → row.cause ≡ t → (NoneHolds rows × (first_of rows ≡ 0)) ⊎ FirstHolds rows (first_of rows)
        → (((row.cause ≡ false) × NoneHolds rows) × (cond t row.number (first_of rows) ≡ 0))
        ⊎ (((row.cause ≡ true) × (row.number ≡ cond t row.number (first_of rows))) ⊎ ((row.cause ≡ false) × FirstHolds rows (cond t row.number (first_of rows))))
    go true e r = inr (inl (e, refl))
    go false e (inl (none, z)) = inl ((e, none), z)
    go false e (inr r) = inr (inr (e, r))

-- not both, and the first has one number
not_none : (rows : List Row) (n : ℕ) → FirstHolds rows n → NoneHolds rows → ⊥
not_none [] n h _ = elim h [ ]
not_none (row ∷ rows) n (inl (c, e)) (f, none) = not_both c f
not_none (row ∷ rows) n (inr (c, first)) (f, none) = not_none rows n first none

first_same : (rows : List Row) (m n : ℕ) → FirstHolds rows m → FirstHolds rows n → m ≡ n
first_same [] m n h _ = elim h [ ]
first_same (row ∷ rows) m n (inl (c, e)) (inl (d, f)) = sym e ∙ f
first_same (row ∷ rows) m n (inl (c, e)) (inr (d, f)) = absurd (not_both c d)
first_same (row ∷ rows) m n (inr (c, e)) (inl (d, f)) = absurd (not_both d c)
first_same (row ∷ rows) m n (inr (c, e)) (inr (d, f)) = first_same rows m n e f

-- each refusal has a number of its own
refusal_of : ℕ → Refusal
refusal_of n =
    cond (eqb n 1) SettingsOutsideLimits
    (cond (eqb n 2) NumberTooLarge
    (cond (eqb n 3) NoSuchProcess
    (cond (eqb n 4) OtherLastValue
    (cond (eqb n 5) SlotAhead
    (cond (eqb n 6) ValueNotHeld
    (cond (eqb n 7) SourceNotLive
    (cond (eqb n 8) Panic (cond (eqb n 9) AcceptUnlikeHeld (cond (eqb n 10) SecondFastAnswer (cond (eqb n 11) ProposalNotAllowed (cond (eqb n 12) NoRoomForRead NotInCalendar)))))))))))

refusal_of_lem : (why : Refusal) → refusal_of (refusal_number why) ≡ why
unfolding refusal_of
refusal_of_lem SettingsOutsideLimits = refl
refusal_of_lem NumberTooLarge = refl
refusal_of_lem NoSuchProcess = refl
refusal_of_lem OtherLastValue = refl
refusal_of_lem SlotAhead = refl
refusal_of_lem ValueNotHeld = refl
refusal_of_lem SourceNotLive = refl
refusal_of_lem Panic = refl
refusal_of_lem AcceptUnlikeHeld = refl
refusal_of_lem SecondFastAnswer = refl
refusal_of_lem ProposalNotAllowed = refl
refusal_of_lem NoRoomForRead = refl
refusal_of_lem NotInCalendar = refl

same_refusal : (a b : Refusal) → refusal_number a ≡ refusal_number b → a ≡ b
same_refusal a b e = sym (refusal_of_lem a) ∙ ap refusal_of e ∙ refusal_of_lem b

-- every number of the list is above 0
unfoldable numbered : List Row → Bool
numbered [] = true
numbered (row ∷ rows) = ltb 0 row.number && numbered rows

numbered_then : (xs ys : List Row) → numbered xs ≡ true → numbered ys ≡ true → numbered (then xs ys) ≡ true
unfolding numbered then
numbered_then [] ys p q = q
numbered_then (x ∷ xs) ys p q =
    and_both (and_left (ltb 0 x.number) (numbered xs) p) (numbered_then xs ys (and_right (ltb 0 x.number) (numbered xs) p) q)

abbrev Numbered : List Row → Type 0
Numbered rows = numbered rows ≡ true

module _ (choose : ProposerChoice) where
  prepare_numbered : (m : PFMode) (f : Facts) (rv : RoundV) → Numbered (prepare_panics choose m f rv)
  unfolding numbered then
  prepare_numbered Paxos f rv = refl
  prepare_numbered MultiPaxos f rv = refl
  prepare_numbered MultiPaxos3P f rv = refl
  prepare_numbered Pando f rv = refl
  prepare_numbered EPaxos f (FastV proposer v) = refl
  prepare_numbered EPaxos f (PaxosV at v) = refl
  prepare_numbered SwiftPaxos f (FastV proposer v) = of-both Numbered f.replica refl refl
  prepare_numbered SwiftPaxos f (PaxosV at v) = of-both Numbered f.replica refl refl

  accept_numbered : (m : PFMode) (f : Facts) (v : ℕ) → Numbered (accept_panics m f v)
  unfolding numbered then
  accept_numbered Paxos f v = refl
  accept_numbered MultiPaxos f v = refl
  accept_numbered MultiPaxos3P f v = refl
  accept_numbered Pando f v = refl
  accept_numbered EPaxos f v = refl
  accept_numbered SwiftPaxos f v = of-both Numbered f.replica refl refl

  handling_numbered : (s : Settings) (rounds : Rounds) (d : Delivery) (m : ConsensusMsg) → Numbered (handling_causes choose s rounds d m)
  unfolding numbered
  handling_numbered s rounds d (Prepare slot round rv) = of-both Numbered (is_ignored s rounds slot round) refl (prepare_numbered s.mode _ rv)
  handling_numbered s rounds d (Accept slot round v) = of-both Numbered (is_ignored s rounds slot round) refl (accept_numbered s.mode _ v)
  handling_numbered s rounds d (ForwardRequest v) = refl
  handling_numbered s rounds d (Commit slot v) = refl
  handling_numbered s rounds d (ReadRequest id) = refl
  handling_numbered s rounds d (ReadResponse id next) = refl

  causes_numbered : (shard : Shard) (c : Call) → Numbered (causes choose shard c)
  unfolding numbered
  causes_numbered shard (Propose v) = refl
  causes_numbered shard (StartRead tag arrival) = refl
  causes_numbered shard (Receive d) = numbered_then (admission_causes shard d) _ refl (handling_numbered shard.settings shard.state.rounds d d.message.msg)

pub refusal_numbered : (why : Refusal) → ltb 0 (refusal_number why) ≡ true
refusal_numbered SettingsOutsideLimits = refl
refusal_numbered NumberTooLarge = refl
refusal_numbered NoSuchProcess = refl
refusal_numbered OtherLastValue = refl
refusal_numbered SlotAhead = refl
refusal_numbered ValueNotHeld = refl
refusal_numbered SourceNotLive = refl
refusal_numbered Panic = refl
refusal_numbered AcceptUnlikeHeld = refl
refusal_numbered SecondFastAnswer = refl
refusal_numbered ProposalNotAllowed = refl
refusal_numbered NoRoomForRead = refl
refusal_numbered NotInCalendar = refl

unmade_numbered : (o : Outcome) → Numbered (unmade o)
unfolding numbered
unmade_numbered (Ok tt) = refl
unmade_numbered (Err why) = and_both (refusal_numbered why) refl

-- a list of such numbers gives 0 only where none holds
first_above : (rows : List Row) (n : ℕ) → Numbered rows → FirstHolds rows n → ltb 0 n ≡ true
unfolding numbered
first_above [] n p h = elim h [ ]
first_above (row ∷ rows) n p (inl (c, e)) = ap (ltb 0) (sym e) ∙ and_left (ltb 0 row.number) (numbered rows) p
first_above (row ∷ rows) n p (inr (c, r)) = first_above rows n (and_right (ltb 0 row.number) (numbered rows) p) r

-- ---- every call

module _ (choose : ProposerChoice) (shard : Shard) where
  all_numbered : (c : Call) → Numbered (all_causes choose shard c)
  unfolding numbered
  all_numbered c = numbered_then (unmade shard.made) _ (unmade_numbered shard.made) (causes_numbered choose shard c)

  -- Every call on every shard, whatever stands in it, and whichever of the best proposers of EPaxos is chosen.
  pub by_first_cause : (c : Call) → ByFirstCause choose shard c (call_with choose shard c)
  unfolding first_cause
  by_first_cause c = go (first_cause_lem choose shard c) (none_or_first (all_causes choose shard c))
    where
      go : GivesNumber shard (call_with choose shard c) (first_of (all_causes choose shard c))
          → (NoneHolds (all_causes choose shard c) × (first_of (all_causes choose shard c) ≡ 0)) ⊎ FirstHolds (all_causes choose shard c) (first_of (all_causes choose shard c))
          → ByFirstCause choose shard c (call_with choose shard c)
      go (inl (e, z)) (inl (none, _)) = inl (e, none)
      go (inl (e, z)) (inr first) = absurd (not_both (first_above (all_causes choose shard c) _ (all_numbered c) first) (ap (ltb 0) z))
      go (inr (why, e, n)) (inl (none, z)) = absurd (not_both (refusal_numbered why) (ap (ltb 0) (sym n ∙ z)))
      go (inr (why, e, n)) (inr first) = inr (why, e, subst (FirstHolds (all_causes choose shard c)) n first)

  -- So it is taken where no cause holds,
  pub taken_where_none : (c : Call) → NoneHolds (all_causes choose shard c) → (call_with choose shard c).reply.outcome ≡ Ok tt
  taken_where_none c none = go (by_first_cause c)
    where
      go : ByFirstCause choose shard c (call_with choose shard c) → (call_with choose shard c).reply.outcome ≡ Ok tt
      go (inl (e, _)) = e
      go (inr (why, e, first)) = absurd (not_none (all_causes choose shard c) (refusal_number why) first none)

  -- and refused with each number where that is the first cause's.
  pub refused_where_first : (c : Call) (why : Refusal) → FirstHolds (all_causes choose shard c) (refusal_number why) → call_with choose shard c ≡ number_alone why shard
  refused_where_first c why first = go (by_first_cause c)
    where
      go : ByFirstCause choose shard c (call_with choose shard c) → call_with choose shard c ≡ number_alone why shard
      go (inl (_, none)) = absurd (not_none (all_causes choose shard c) (refusal_number why) first none)
      go (inr (w, e, other)) = e ∙ ap (λ (x : Refusal). number_alone x shard) (same_refusal w why (first_same (all_causes choose shard c) (refusal_number w) (refusal_number why) other first))

  -- what is made of a call by what is decided of it
  abbrev answered : Call → Outcome → Answer
  answered c o = in_shard shard (state_call choose shard.state (decision_for shard.settings c o))

  -- An unmade shard refuses every call with the number that it was marked with.
  pub unmade_refuses : (c : Call) (why : Refusal) → shard.made ≡ Err why → call_with choose shard c ≡ number_alone why shard
  unfolding call_with decision_of state_call
  unmade_refuses c why e =
      ap (λ (o : Outcome). answered c (unless_unmade o shard.settings.process_count shard.settings.my_pid shard.state.rounds.core c)) e

  -- A spent slot refuses every call with 2.
  pub spent_refuses : (c : Call) → shard.made ≡ Ok tt → is_spent shard ≡ true → call_with choose shard c ≡ number_alone NumberTooLarge shard
  unfolding call_with decision_of state_call unless_spent
  spent_refuses c e f =
      ap (λ (o : Outcome). answered c (unless_unmade o shard.settings.process_count shard.settings.my_pid shard.state.rounds.core c)) e
      ∙ ap
      (λ (t : Bool).
      answered c (cond t (Err NumberTooLarge) (admission_of shard.settings.process_count shard.settings.my_pid shard.state.rounds.core c)))
      f

-- ---- settings

quorum_limits : (o : Option ℕ) (count : ℕ) → quorum_fits o count ≡ not (quorum_outside o count)
unfolding quorum_fits
quorum_limits None count = refl
quorum_limits (Some s) count = sym (not-not (fits s count))

neither : (a b : Bool) → (not a && b) ≡ not (a || not b)
neither true b = refl
neither false b = sym (not-not b)

table_limits : (table : List ℕ) (count p : ℕ) → every (λ (n : ℕ). ltb n count) table p ≡ not (some_outside table count p)
unfolding every some_outside
table_limits table count zero = refl
table_limits table count (suc p) =
    ap (λ (t : Bool). t && ltb (get_or table p 0) count) (table_limits table count p)
    ∙ neither (some_outside table count p) (ltb (get_or table p 0) count)
    ∙ ap (λ (t : Bool). not (some_outside table count p || t)) (sym (from_test count (get_or table p 0)))

committers_limits : (o : Option (List ℕ)) (count : ℕ) → committers_fit o count ≡ not (committers_outside o count)
unfolding committers_fit
committers_limits None count = refl
committers_limits (Some table) count = table_limits table count (min count 64)

mode_limits : (s : Settings) (m : PFMode) → mode_fits s m ≡ not (mode_outside s m)
unfolding mode_fits
mode_limits s Paxos = refl
mode_limits s MultiPaxos = refl
mode_limits s MultiPaxos3P = refl
mode_limits s EPaxos = refl
mode_limits s Pando = table_limits s.delegates s.process_count (min s.process_count 64)
mode_limits s SwiftPaxos = quorum_limits s.quorum s.process_count

limits_table : (a b c d e f g h entry outside : Bool)
    → number_of_outcome (cond (a && b && c && d && (e && f && g && h) && not entry && not outside) (Ok tt) (Err SettingsOutsideLimits))
    ≡ cond (not a) 1
    (cond (not b) 1
    (cond (not c) 1
    (cond (not d) 1
    (cond (not e) 1 (cond (not f) 1 (cond (not g) 1 (cond (not h) 1 (cond entry 1 (cond outside 1 0)))))))))
limits_table false b c d e f g h entry outside = refl
limits_table true false c d e f g h entry outside = refl
limits_table true true false d e f g h entry outside = refl
limits_table true true true false e f g h entry outside = refl
limits_table true true true true false f g h entry outside = refl
limits_table true true true true true false g h entry outside = refl
limits_table true true true true true true false h entry outside = refl
limits_table true true true true true true true false entry outside = refl
limits_table true true true true true true true true true outside = refl
limits_table true true true true true true true true false true = refl
limits_table true true true true true true true true false false = refl

settings_number_lem : (s : Settings) → number_of_outcome (new_shard s).made ≡ first_of (settings_causes s)
unfolding new_shard within_limits counts_fit members_fit first_of
settings_number_lem s =
    simp (
      above_test s.process_count 1,
      above_test 64 s.process_count,
      above_test s.replica_count 1,
      above_test s.process_count s.replica_count,
      above_test s.replica_count (size s.alive_replicas),
      from_test s.process_count s.my_pid,
      from_test s.process_count s.first_leader,
      committers_limits s.committers s.process_count,
      mode_limits s s.mode,
    )
    (limits_table (leb 1 s.process_count) (leb s.process_count 64) (leb 1 s.replica_count) (leb s.replica_count s.process_count)
    (ltb s.my_pid s.process_count) (ltb s.first_leader s.process_count) (fits s.alive_replicas s.process_count)
    (leb (size s.alive_replicas) s.replica_count) (committers_outside s.committers s.process_count) (mode_outside s s.mode))

-- A new shard is made exactly where no cause holds in its settings, and else marked with 1.
pub new_by_settings : (s : Settings) → MadeBySettings s (new_shard s).made
unfolding new_shard numbered
new_by_settings s = go (within_limits s) (settings_number_lem s) (none_or_first (settings_causes s))
  where
    go : (t : Bool) → number_of_outcome (cond t (Ok tt) (Err SettingsOutsideLimits)) ≡ first_of (settings_causes s)
        → (NoneHolds (settings_causes s) × (first_of (settings_causes s) ≡ 0)) ⊎ FirstHolds (settings_causes s) (first_of (settings_causes s))
        → MadeBySettings s (cond t (Ok tt) (Err SettingsOutsideLimits))
    go true e (inl (none, _)) = inl (refl, none)
    go true e (inr first) = absurd (not_both (first_above (settings_causes s) _ refl first) (ap (ltb 0) (sym e)))
    go false e (inl (none, z)) = absurd (not_both refl (ap (ltb 0) (e ∙ z)))
    go false e (inr first) = inr (refl, subst (FirstHolds (settings_causes s)) (sym e) first)

-- ---- a shard from its making on, through any list of calls

-- no list of calls changes the mark
pub marked_once : (shard : Shard) (cs : List Call) → (shard_after_calls shard cs).made ≡ shard.made
unfolding shard_after_calls
marked_once shard [] = refl
marked_once shard (c ∷ cs) = marked_once (call_of shard c).shard cs ∙ mark_kept lowest_best shard c

-- what refuses every call stays as it is
refusing_stays : (shard : Shard) (why : Refusal) → ((c : Call) → call_of shard c ≡ number_alone why shard) → (cs : List Call) → shard_after_calls shard cs ≡ shard
unfolding shard_after_calls
refusing_stays shard why all [] = refl
refusing_stays shard why all (c ∷ cs) =
    ap (λ (r : Answer). shard_after_calls r.shard cs) (all c) ∙ refusing_stays shard why all cs

-- "a shard marked unmade; all its calls give 1"; "own slot 2^63−1, which is spent (then every call)". There is no other mark, whatever calls came before.
pub made_or_unmade : (s : Settings) (cs : List Call) → OfSettings s (shard_after_calls (new_shard s) cs)
made_or_unmade s cs = go (new_by_settings s)
  where
    go : MadeBySettings s (new_shard s).made → OfSettings s (shard_after_calls (new_shard s) cs)
    go (inl (e, none)) =
        let made = marked_once (new_shard s) cs ∙ e in inl (none, made, λ spent c. spent_refuses lowest_best (shard_after_calls (new_shard s) cs) c made spent)
    go (inr (e, first)) = subst (OfSettings s) (sym (refusing_stays (new_shard s) SettingsOutsideLimits all cs)) (inr (first, refl, all))
      where
        all : (c : Call) → call_of (new_shard s) c ≡ number_alone SettingsOutsideLimits (new_shard s)
        all c = unmade_refuses lowest_best (new_shard s) c SettingsOutsideLimits e

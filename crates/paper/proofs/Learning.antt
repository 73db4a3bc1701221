-- The learner over a list of calls: those that are counted as having accepted in a number have accepted one proposal, and what is committed is its
-- value, accepted by a majority. That a second proposal of the number is not counted is a cause of demand 1 (9).
-- Assumes nothing.
use Rattle.std.specs.Prelude.{Option as Optional, None, Some}
use Rattle.message.specs.declared.RoundV.{RoundV}
use mathlib.Core.Path.{◌≡◌, refl, sym, ap, subst, ◌∙◌}
use mathlib.Core.Logic.{◌⊎◌, inl, inr}
use mathlib.Core.Bool.{Bool, true, false, cond, not, ◌||◌}
use mathlib.Core.List.{List, [], ◌∷◌, ◌++◌}
use mathlib.Core.Option.{Option, none, some}
use Prim.Native.Nat.{ℕ}
use lib.Dec.{ltb}
use Rattle.basics.proofs.Tests.{not_both}
use Rattle.basics.specs.Lists.{In}
use Rattle.basics.specs.sets.Sets.{contains, size}
use Rattle.paxos.specs.PaxosMadeSimple.{Proposal, Acceptor, is_majority, greater, exceeded, higher, responds, prepare, accepts_proposal, accept}
use Rattle.message.specs.Modes.{is_swift_paxos, has_fast_path}
use Rattle.message.specs.Rounds.{round_before, before}
use Rattle.message.proofs.Order.{rounds_ordered}
use Rattle.message.specs.declared.ConsensusMsg.{ConsensusMsg}
use Rattle.message.specs.declared.PFMode.{PFMode}
use Rattle.message.specs.declared.PFMode.TheVariants.{Paxos, MultiPaxos, MultiPaxos3P, EPaxos, Pando, SwiftPaxos}
use Rattle.message.specs.declared.PaxosRound.{PaxosRound}
use Rattle.fast_state.specs.Adopt.{lowest_best}
use Rattle.settings.specs.Settings.{within_limits}
use Rattle.settings.specs.declared.Settings.{Settings}
use Rattle.calls.specs.declared.delivery.Delivery.{Delivery}
use Rattle.calls.specs.Commits.{committed_slot}
use Rattle.calls.specs.declared.Call.{Call}
use Rattle.calls.specs.declared.Call.TheVariants.{Receive}
use Rattle.consensus.specs.Call.{call_of}
use Rattle.consensus.specs.FirstCause.{number_of_outcome, leader_delegate, facts_of, is_ignored, source_not_live, unmade, admission_causes, handling_causes, all_causes, first_cause, ByFirstCause}
use Rattle.consensus.specs.Panics.{Facts, fits_held, accept_panics}
use Rattle.consensus.specs.Rows.{Row, gives, then, NoneHolds}
use Rattle.consensus.proofs.FirstCause.{number_is_first_cause}
use Rattle.consensus.proofs.Handled.{fits_same}
use Rattle.consensus.proofs.Refusals.{by_first_cause, refusal_numbered}
use Rattle.consensus.specs.declared.Answer.{Answer}
use Rattle.consensus.specs.declared.Shard.{Shard}
use Rattle.consensus.proofs.Decided.{settings_kept}
use Rattle.paper.specs.Replica.{Replica, enters_number, also_self, accepts_with}
use Rattle.paper.specs.PaperCall.{replica_in}
use Rattle.paper.specs.Runs.{Acceptance, accepts_all, Announced, acceptance_of, AcceptancesTaken, none_yet, one_counted}
use Rattle.paper.proofs.Views.{exceeded_older, accept_higher}
use Rattle.paper.proofs.Consequences.{counted_by, also_members}
use Rattle.paper.proofs.Roles.{accepted_acceptor, entered_acceptor, accept_leaves, learner_learns}

-- ---- the cause of 9

-- where a call is taken, no cause holds
none_holds : (shard : Shard) (c : Call) → first_cause lowest_best shard c ≡ 0 → NoneHolds (all_causes lowest_best shard c)
none_holds shard c e = go (by_first_cause lowest_best shard c)
  where
    go : ByFirstCause lowest_best shard c (call_of shard c) → NoneHolds (all_causes lowest_best shard c)
    go (inl (done, holds)) = holds
    go (inr (why, d, first)) =
        absurd
        (not_both (refusal_numbered why)
        (ap (ltb 0) (sym (ap (λ (r : Answer). number_of_outcome r.reply.outcome) d) ∙ number_is_first_cause lowest_best shard c ∙ e)))

none_behind : (xs ys : List Row) → NoneHolds (then xs ys) → NoneHolds ys
unfolding then
none_behind [] ys h = h
none_behind (x ∷ xs) ys h = none_behind xs ys h.1

not-false : (t : Bool) → not t ≡ false → t ≡ true
not-false true e = refl
not-false false e = sym e

-- the first of them in the classic modes
fits_in : (m : PFMode) → has_fast_path m ≡ false → (f : Facts) (v : ℕ) → NoneHolds (accept_panics m f v) → fits_held f.held f.round v ≡ true
fits_in Paxos e f v h = not-false _ h.0
fits_in MultiPaxos e f v h = not-false _ h.0
fits_in MultiPaxos3P e f v h = not-false _ h.0
fits_in EPaxos e f v h = absurd (not_both refl e)
fits_in Pando e f v h = not-false _ h.0
fits_in SwiftPaxos e f v h = absurd (not_both refl e)

module _ (shard : Shard) (classic : has_fast_path shard.settings.mode ≡ false) (d : Delivery) (n : PaxosRound) (v : ℕ) (a : Announced n shard d v)
    (newer : exceeded round_before (replica_in shard).acceptor.responded n ≡ false) where
  abbrev held : Optional RoundV
  held = shard.state.rounds.core.paxos.max_rv

  abbrev old : Replica
  old = replica_in shard

  not_ignored : is_ignored shard.settings shard.state.rounds a.slot n ≡ false
  not_ignored =
      ap (λ (t : Bool). not (t || is_swift_paxos shard.settings.mode) || ltb a.slot shard.state.rounds.core.slot || later) a.handled.replica
      ∙ ap (λ (t : Bool). t || later) a.handled.own
      ∙ exceeded_older shard.state.rounds.core.paxos.round n
      ∙ newer
    where
      later : Bool
      later = before (Some n) shard.state.rounds.core.paxos.round

  taken_fits : fits_held held n v ≡ true
  taken_fits = fits_in shard.settings.mode classic facts v go.1
    where
      facts : Facts
      facts = facts_of shard.settings shard.state.rounds d n (leader_delegate shard.settings shard.settings.mode n.leader)

      handling : NoneHolds (handling_causes lowest_best shard.settings shard.state.rounds d d.message.msg)
      handling = none_behind (admission_causes shard d) _ (none_behind (unmade shard.made) _ (none_holds shard (Receive d) a.handled.free)).1

      go : NoneHolds (gives 7 (source_not_live shard.settings d.message.src) ∷ accept_panics shard.settings.mode facts v)
      go =
          subst (λ (t : Bool). NoneHolds (cond t []
          (gives 7 (source_not_live shard.settings d.message.src) ∷ accept_panics shard.settings.mode facts v))) not_ignored
          (subst (λ (m : ConsensusMsg). NoneHolds (handling_causes lowest_best shard.settings shard.state.rounds d m)) a.message handling)

  -- so the proposal is then the highest-numbered that was accepted
  taken_higher : higher round_before old.acceptor.accepted (some (record { number = n; value = v })) ≡ some (record { number = n; value = v })
  taken_higher = sym (accept_higher held n v (fits_same held n v ∙ taken_fits))

-- ---- steps of the replica

accept_responded : (x : Acceptor PaxosRound ℕ) (p : Proposal PaxosRound ℕ) → (accept round_before x p).responded ≡ x.responded
unfolding accept
accept_responded x p = go (accepts_proposal round_before x p)
  where
    go : (t : Bool) → (cond t (record { responded = x.responded; accepted = higher round_before x.accepted (some p) }) x).responded ≡ x.responded
    go true = refl
    go false = refl

-- what is entered has responded to the number, and is not entered again
entered_number : (n : PaxosRound) (r : Replica) → exceeded round_before r.acceptor.responded n ≡ false → (enters_number n r).acceptor.responded ≡ some n
unfolding enters_number prepare responds
entered_number n r free = go r.acceptor.responded refl free
  where
    entry : Bool → Replica
    entry t =
        cond t (record {
          acceptor =
              cond t (record { responded = some n; accepted = r.acceptor.accepted }) r.acceptor;
          wish = r.wish;
          promised = 0;
          agreed = 0;
        }) r

    by_test : (m : PaxosRound) → r.acceptor.responded ≡ some m → round_before n m ≡ false → (t : Bool) → round_before m n ≡ t
        → (entry t).acceptor.responded ≡ some n
    by_test m e f true d = refl
    by_test m e f false d = e ∙ ap some (rounds_ordered.connected m n d f)

    go : (o : Option PaxosRound) → r.acceptor.responded ≡ o → exceeded round_before o n ≡ false
        → (entry (greater round_before n r.acceptor.responded)).acceptor.responded ≡ some n
    go none e f = ap (λ (o : Option PaxosRound). (entry (greater round_before n o)).acceptor.responded) e
    go (some m) e f = ap (λ (o : Option PaxosRound). (entry (greater round_before n o)).acceptor.responded) e ∙ by_test m e f (round_before m n) refl

stays_in : (n : PaxosRound) (r : Replica) → r.acceptor.responded ≡ some n → enters_number n r ≡ r
unfolding enters_number responds
stays_in n r e =
    ap (λ (t : Bool). cond t (record { acceptor = prepare round_before r.acceptor n; wish = r.wish; promised = 0; agreed = 0 }) r)
    (ap (greater round_before n) e ∙ rounds_ordered.irreflexive n)

entered_accepted : (n : PaxosRound) (r : Replica) → (enters_number n r).acceptor.accepted ≡ r.acceptor.accepted
unfolding prepare
entered_accepted n r = ap (λ (x : Acceptor PaxosRound ℕ). x.accepted) (entered_acceptor n r) ∙ go (responds round_before r.acceptor n)
  where
    go : (t : Bool) → (cond t (record { responded = some n; accepted = r.acceptor.accepted }) r.acceptor).accepted ≡ r.acceptor.accepted
    go true = refl
    go false = refl

-- one that has responded to the number accepts in it
accepts_in : (x : Acceptor PaxosRound ℕ) (p : Proposal PaxosRound ℕ) → x.responded ≡ some p.number
    → (accept round_before x p).accepted ≡ higher round_before x.accepted (some p)
unfolding accept accepts_proposal
accepts_in x p e =
    ap (λ (t : Bool). (cond (not t) (record { responded = x.responded; accepted = higher round_before x.accepted (some p) }) x).accepted)
    (ap (λ (o : Option PaxosRound). exceeded round_before o p.number) e ∙ rounds_ordered.irreflexive p.number)

-- two proposals of one number that were accepted one after the other are one
same_value_lem : (n : PaxosRound) (w v : ℕ)
    → higher round_before (some (record { number = n; value = w })) (some (record { number = n; value = v })) ≡ some (record { number = n; value = v })
    → w ≡ v
same_value_lem n w v e =
    ap value_in
    (sym (ap (λ (t : Bool). cond t (some (record { number = n; value = v })) (some (record { number = n; value = w }))) (rounds_ordered.irreflexive n)) ∙ e)
  where
    value_in : Option (Proposal PaxosRound ℕ) → ℕ
    value_in none = 0
    value_in (some p) = p.value

-- ---- a list of Accepts

abbrev one_more : List Acceptance → Acceptance → List Acceptance
one_more xs x = xs ++ (x ∷ [])

accepted_last : (me : ℕ) (n : PaxosRound) (r : Replica) (xs : List Acceptance) (x : Acceptance)
    → accepts_with me x.src (record { number = n; value = x.value }) (accepts_all me n r xs) ≡ accepts_all me n r (one_more xs x)
accepted_last me n r [] x = refl
accepted_last me n r (y ∷ ys) x = accepted_last me n (accepts_with me y.src (record { number = n; value = y.value }) r) ys x

in_last : (xs : List Acceptance) (x y : Acceptance) → In y (one_more xs x) → In y xs ⊎ (y ≡ x)
in_last [] x y (inl e) = inr e
in_last [] x y (inr i) = elim i [ ]
in_last (z ∷ zs) x y (inl e) = inl (inl e)
in_last (z ∷ zs) x y (inr i) = go (in_last zs x y i)
  where
    go : In y zs ⊎ (y ≡ x) → In y (z ∷ zs) ⊎ (y ≡ x)
    go (inl j) = inl (inr j)
    go (inr e) = inr e

-- those alone are counted that have sent one, and oneself
agreed_heard : (me : ℕ) (n : PaxosRound) (r : Replica) (xs : List Acceptance) (q : ℕ) → contains (accepts_all me n r xs).agreed q ≡ true
    → (contains r.agreed q ≡ true) ⊎ (q ≡ me) ⊎ ((x : Acceptance) × In x xs × (q ≡ x.src))
unfolding accepts_with
agreed_heard me n r [] q e = inl e
agreed_heard me n r (x ∷ xs) q e =
    counted_by (λ (y : Acceptance). y.src) me q x xs (taken (accepts_proposal round_before r.acceptor (record { number = n; value = x.value })))
    (agreed_heard me n (accepts_with me x.src (record { number = n; value = x.value }) r) xs q e)
  where
    taken : (t : Bool) → contains (cond t (record {
      acceptor = accept round_before r.acceptor (record { number = n; value = x.value });
      wish = none;
      promised = r.promised;
      agreed = also_self me x.src r.agreed;
    }) r).agreed q ≡ true → (contains r.agreed q ≡ true) ⊎ (q ≡ me) ⊎ (q ≡ x.src)
    taken true f = also_members me x.src r.agreed q f
    taken false f = inl f

module _ (n : PaxosRound) (first : Shard) (classic : has_fast_path first.settings.mode ≡ false) (within : within_limits first.settings ≡ true)
    (newer : exceeded round_before (replica_in first).acceptor.responded n ≡ false) where
  abbrev me : ℕ
  me = first.settings.my_pid

  abbrev acceptors : ℕ
  acceptors = first.settings.replica_count

  -- the replica in the number, with nobody else counted than before
  abbrev pub begin : Replica
  begin = enters_number n (replica_in first)

  record Since (xs : List Acceptance) (shard : Shard) : Type 0 where
    settings : shard.settings ≡ first.settings
    counted : enters_number n (replica_in shard) ≡ accepts_all me n begin xs
    free : exceeded round_before (replica_in shard).acceptor.responded n ≡ false
    one : (x : Acceptance) → In x xs → (replica_in shard).acceptor.accepted ≡ some (record { number = n; value = x.value })

  module _ (xs : List Acceptance) (shard : Shard) (s : Since xs shard) (d : Delivery) (v : ℕ) (a : Announced n shard d v) where
    abbrev p : Proposal PaxosRound ℕ
    p = record { number = n; value = v }

    classic_since : has_fast_path shard.settings.mode ≡ false
    classic_since = ap (λ (x : Settings). has_fast_path x.mode) s.settings ∙ classic

    within_since : within_limits shard.settings ≡ true
    within_since = ap within_limits s.settings ∙ within

    highest_now : higher round_before (replica_in shard).acceptor.accepted (some p) ≡ some p
    highest_now = taken_higher shard classic_since d n v a s.free

    -- those before it were of the same value
    same_since : (x : Acceptance) → In x xs → x.value ≡ v
    same_since x i = same_value_lem n x.value v (ap (λ (o : Option (Proposal PaxosRound ℕ)). higher round_before o (some p)) (sym (s.one x i)) ∙ highest_now)

    abbrev next : Replica
    next = accepts_with shard.settings.my_pid d.message.src p (enters_number n (replica_in shard))

    next_counted : next ≡ accepts_all me n begin (one_more xs (acceptance_of d v))
    next_counted =
        ap (λ (x : Settings). accepts_with x.my_pid d.message.src p (enters_number n (replica_in shard))) s.settings
        ∙ ap (accepts_with me d.message.src p) s.counted
        ∙ accepted_last me n begin xs (acceptance_of d v)

    next_acceptor : next.acceptor ≡ accept round_before (enters_number n (replica_in shard)).acceptor p
    next_acceptor = accepted_acceptor shard.settings.my_pid d.message.src p (enters_number n (replica_in shard))

    next_number_lem : next.acceptor.responded ≡ some n
    next_number_lem =
        ap (λ (x : Acceptor PaxosRound ℕ). x.responded) next_acceptor ∙ accept_responded (enters_number n (replica_in shard)).acceptor p ∙ entered_number n (replica_in shard) s.free

    next_accepted : next.acceptor.accepted ≡ some p
    next_accepted =
        ap (λ (x : Acceptor PaxosRound ℕ). x.accepted) next_acceptor
        ∙ accepts_in (enters_number n (replica_in shard)).acceptor p (entered_number n (replica_in shard) s.free)
        ∙ ap (λ (o : Option (Proposal PaxosRound ℕ)). higher round_before o (some p)) (entered_accepted n (replica_in shard))
        ∙ highest_now

    counted_more : (call_of shard (Receive d)).reply.commit ≡ None → Since (one_more xs (acceptance_of d v)) (call_of shard (Receive d)).shard
    counted_more c =
        record {
          settings = settings_kept lowest_best shard (Receive d) ∙ s.settings;
          counted = ap (enters_number n) after ∙ stays_in n next next_number_lem ∙ next_counted;
          free =
              ap (λ (r : Replica). exceeded round_before r.acceptor.responded n) after ∙ ap
              (λ (o : Option PaxosRound). exceeded round_before o n) next_number_lem ∙ rounds_ordered.irreflexive n;
          one = λ x i. ap (λ (r : Replica). r.acceptor.accepted) after ∙ next_accepted ∙ go x (in_last xs (acceptance_of d v) x i);
        }
      where
        after : replica_in (call_of shard (Receive d)).shard ≡ next
        after = accept_leaves shard classic_since within_since d a.slot n a.handled v a.message s.free c

        go : (x : Acceptance) → In x xs ⊎ (x ≡ acceptance_of d v) → some p ≡ some (record { number = n; value = x.value })
        go x (inl i) = ap (λ (w : ℕ). some (record { number = n; value = w })) (sym (same_since x i))
        go x (inr e) = ap (λ (y : Acceptance). some (record { number = n; value = y.value })) (sym e)

  counted_since : (xs : List Acceptance) (shard : Shard) → AcceptancesTaken n first xs shard → Since xs shard
  counted_since xs shard none_yet = record { settings = refl; counted = refl; free = newer; one = λ x i. absurd i }
  counted_since xs shard (one_counted {xs = ys} {shard = earlier} d v c a quiet) = counted_more ys earlier (counted_since ys earlier c) d v a quiet

  -- Those that are counted in one number have accepted one proposal, the one that the replica has accepted itself.
  pub counted_one_proposal : (xs : List Acceptance) (shard : Shard) → AcceptancesTaken n first xs shard → (x : Acceptance) → In x xs
      → (replica_in shard).acceptor.accepted ≡ some (record { number = n; value = x.value })
  counted_one_proposal xs shard c = (counted_since xs shard c).one

  -- Section 2.3 over a list of calls: a replica that has since taken the Accepts xs, and committed nothing, takes one more and commits. What it commits is
  -- the value of that one, a majority is counted, and each of those was counted before the list, or is the replica itself, or has sent an Accept of that
  -- value in the number.
  pub learned_from_majority : (xs : List Acceptance) (shard : Shard) → AcceptancesTaken n first xs shard → (d : Delivery) (v : ℕ) → Announced n shard d v
      → (at w : ℕ) (fast : Bool) → (call_of shard (Receive d)).reply.commit ≡ committed_slot at w fast
      → (w ≡ v) × (is_majority acceptors (size (accepts_all me n begin (xs ++ (acceptance_of d v ∷ []))).agreed) ≡ true)
      × ((q : ℕ) → contains (accepts_all me n begin (xs ++ (acceptance_of d v ∷ []))).agreed q ≡ true
      → (contains begin.agreed q ≡ true) ⊎ (q ≡ me) ⊎ ((x : Acceptance) × In x (xs ++ (acceptance_of d v ∷ [])) × (q ≡ x.src) × (x.value ≡ v)))
  learned_from_majority xs shard c d v a at w fast e = (learned.0, majority, members)
    where
      s : Since xs shard
      s = counted_since xs shard c

      learned : (w ≡ v) × (is_majority shard.settings.replica_count (size (next xs shard s d v a).agreed) ≡ true)
      learned = learner_learns shard (classic_since xs shard s d v a) (within_since xs shard s d v a) d a.slot n a.handled v a.message at w fast e

      majority : is_majority acceptors (size (accepts_all me n begin (one_more xs (acceptance_of d v))).agreed) ≡ true
      majority =
          ap (λ (r : Replica). is_majority acceptors (size r.agreed)) (sym (next_counted xs shard s d v a))
          ∙ ap (λ (x : Settings). is_majority x.replica_count (size (next xs shard s d v a).agreed)) (sym s.settings)
          ∙ learned.1

      of_value : (x : Acceptance) → In x xs ⊎ (x ≡ acceptance_of d v) → x.value ≡ v
      of_value x (inl i) = same_since xs shard s d v a x i
      of_value x (inr f) = ap (λ (y : Acceptance). y.value) f

      members : (q : ℕ) → contains (accepts_all me n begin (one_more xs (acceptance_of d v))).agreed q ≡ true
          → (contains begin.agreed q ≡ true) ⊎ (q ≡ me) ⊎ ((x : Acceptance) × In x (one_more xs (acceptance_of d v)) × (q ≡ x.src) × (x.value ≡ v))
      members q i = go (agreed_heard me n begin (one_more xs (acceptance_of d v)) q i)
        where
          go : (contains begin.agreed q ≡ true) ⊎ (q ≡ me) ⊎ ((x : Acceptance) × In x (one_more xs (acceptance_of d v)) × (q ≡ x.src))
              → (contains begin.agreed q ≡ true) ⊎ (q ≡ me) ⊎ ((x : Acceptance) × In x (one_more xs (acceptance_of d v)) × (q ≡ x.src) × (x.value ≡ v))
          go (inl f) = inl f
          go (inr (inl f)) = inr (inl f)
          go (inr (inr (x, j, f))) = inr (inr (x, j, f, of_value x (in_last xs (acceptance_of d v) x j)))

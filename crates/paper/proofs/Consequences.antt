-- What follows from `call_as_paper`: the Paxos half of the new shard, and the proposer's choice of all the promises that it has heard.
-- Assumes nothing.
use Rattle.std.specs.Prelude.{Option as Optional, None, Some}
use mathlib.Core.Path.{◌≡◌, refl, sym, ap, ◌∙◌}
use mathlib.Core.Logic.{◌⊎◌, inl, inr}
use mathlib.Core.Bool.{Bool, true, false, cond, ◌||◌}
use mathlib.Core.List.{List, [], ◌∷◌, ◌++◌}
use mathlib.Core.Option.{Option, none, some}
use Prim.Native.Nat.{ℕ}
use lib.Dec.{eqb}
use borrow.Author.Tests.{eqb-true, eqb-false}
use Rattle.basics.proofs.Tests.{not_both}
use Rattle.basics.specs.Lists.{In}
use Rattle.basics.specs.sets.Sets.{contains, insert, size}
use Rattle.basics.proofs.sets.Laws.{contains_insert_other}
use Rattle.paxos.specs.PaxosMadeSimple.{Proposal, higher, highest, value_or_own, choice, is_majority, proposes}
use Rattle.message.specs.Modes.{has_fast_path}
use Rattle.message.specs.Rounds.{round_before}
use Rattle.message.specs.declared.PaxosRound.{PaxosRound}
use Rattle.message.specs.declared.RoundV.{RoundV}
use Rattle.message.specs.declared.RoundV.TheVariants.{FastV, PaxosV}
use Rattle.round_state.specs.declared.PaxosState.{PaxosState}
use Rattle.settings.specs.Settings.{within_limits}
use Rattle.calls.specs.declared.Call.{Call}
use Rattle.consensus.specs.Call.{call_of}
use Rattle.consensus.specs.declared.Shard.{Shard}
use Rattle.paper.specs.Replica.{Replica, report_of, accepted_of, wish_of, responded_of, replica_of, engine_round, engine_held, engine_state, own_value, first_wish, unless_accepted, is_there, keeps_something, proposer_in, also_self, hears}
use Rattle.paper.specs.PaperCall.{Seen, InPaxos, paper_call}
use Rattle.paper.specs.Runs.{HeardPromise, reports_of, hears_all, with_all}
use Rattle.paper.proofs.Calls.{call_as_paper}

-- ---- the new shard

round_back : (o : Optional PaxosRound) → engine_round (responded_of o) ≡ o
round_back None = refl
round_back (Some n) = refl

held_back : (held : Optional RoundV) → engine_held (accepted_of held) (wish_of held) ≡ held
held_back None = refl
held_back (Some (FastV proposer v)) = refl
held_back (Some (PaxosV None v)) = refl
held_back (Some (PaxosV (Some n) v)) = refl

pub state_back : (p : PaxosState) → engine_state (replica_of p) ≡ p
state_back p =
    ap (λ (o : Optional PaxosRound). record {
      round = o;
      max_rv = engine_held (accepted_of p.max_rv)
          (wish_of p.max_rv);
      prepared_set = p.prepared_set;
      accepted_set = p.accepted_set;
    }) (round_back p.round)
    ∙ ap (λ (held : Optional RoundV). record { round = p.round; max_rv = held; prepared_set = p.prepared_set; accepted_set = p.accepted_set })
    (held_back p.max_rv)

-- the round, what is held, and who is counted, in the shard that a call leaves
pub call_leaves : (shard : Shard) → has_fast_path shard.settings.mode ≡ false → within_limits shard.settings ≡ true → (c : Call) → InPaxos c
    → (call_of shard c).shard.state.rounds.core.paxos ≡ engine_state (paper_call shard c).replica
call_leaves shard classic within c paxos =
    sym (state_back (call_of shard c).shard.state.rounds.core.paxos) ∙ ap (λ (s : Seen). engine_state s.replica) (call_as_paper shard classic within c paxos)

-- ---- the proposer's choice

-- where a proposal was reported, the own value does not count
own_unused : (x y : ℕ) (p : Proposal PaxosRound ℕ) (rs : List (Option (Proposal PaxosRound ℕ)))
    → value_or_own round_before x (highest round_before (some p) rs) ≡ value_or_own round_before y (highest round_before (some p) rs)
unfolding highest
own_unused x y p [] = refl
own_unused x y p (none ∷ rs) = own_unused x y p rs
own_unused x y p (some q ∷ rs) = go (round_before p.number q.number) (own_unused x y q rs) (own_unused x y p rs)
  where
    value : ℕ → Option (Proposal PaxosRound ℕ) → ℕ
    value v best = value_or_own round_before v (highest round_before best rs)

    go : (t : Bool) → value x (some q) ≡ value y (some q) → value x (some p) ≡ value y (some p)
        → value x (cond t (some q) (some p)) ≡ value y (cond t (some q) (some p))
    go true d e = d
    go false d e = e

abbrev KeepsOwn : Option RoundV → RoundV → List (Option (Proposal PaxosRound ℕ)) → Option (Proposal PaxosRound ℕ) → Type 0
KeepsOwn wish rv rs best =
    value_or_own round_before (own_value (unless_accepted best (first_wish wish rv))) (highest round_before best rs) ≡ value_or_own round_before (own_value wish)
    (highest round_before best rs)

own_kept : (accepted : Option (Proposal PaxosRound ℕ)) (wish : Option RoundV) (rv : RoundV) (rs : List (Option (Proposal PaxosRound ℕ)))
    → (is_there accepted || is_there wish) ≡ true → KeepsOwn wish rv rs (higher round_before accepted (report_of rv))
own_kept none none rv rs e = absurd (not_both e refl)
own_kept none (some w) rv rs e = go (report_of rv)
  where
    go : (x : Option (Proposal PaxosRound ℕ)) → KeepsOwn (some w) rv rs x
    go none = refl
    go (some p) = own_unused _ _ p rs
own_kept (some p) wish rv rs e = go (report_of rv)
  where
    test : (t : Bool) (q : Proposal PaxosRound ℕ) → KeepsOwn wish rv rs (cond t (some q) (some p))
    test true q = own_unused _ _ q rs
    test false q = own_unused _ _ p rs

    go : (x : Option (Proposal PaxosRound ℕ)) → KeepsOwn wish rv rs (higher round_before (some p) x)
    go none = own_unused _ _ p rs
    go (some q) = test (round_before p.number q.number) q

still_keeps : (best : Option (Proposal PaxosRound ℕ)) (wish : Option RoundV) (rv : RoundV)
    → (is_there best || is_there (unless_accepted best (first_wish wish rv))) ≡ true
still_keeps (some p) wish rv = refl
still_keeps none none rv = refl
still_keeps none (some w) rv = refl

-- who is counted was so before, is oneself, or has sent one of a list: with one more in front
pub counted_by : {X A B : Type 0} (src : X → ℕ) (me q : ℕ) (x : X) (xs : List X) → (A → B ⊎ (q ≡ me) ⊎ (q ≡ src x))
    → A ⊎ (q ≡ me) ⊎ ((y : X) × In y xs × (q ≡ src y)) → B ⊎ (q ≡ me) ⊎ ((y : X) × In y (x ∷ xs) × (q ≡ src y))
counted_by {X} {A} {B} src me q x xs one = go
  where
    first : B ⊎ (q ≡ me) ⊎ (q ≡ src x) → B ⊎ (q ≡ me) ⊎ ((y : X) × In y (x ∷ xs) × (q ≡ src y))
    first (inl f) = inl f
    first (inr (inl f)) = inr (inl f)
    first (inr (inr f)) = inr (inr (x, inl refl, f))

    go : A ⊎ (q ≡ me) ⊎ ((y : X) × In y xs × (q ≡ src y)) → B ⊎ (q ≡ me) ⊎ ((y : X) × In y (x ∷ xs) × (q ≡ src y))
    go (inl f) = first (one f)
    go (inr (inl f)) = inr (inl f)
    go (inr (inr (y, i, f))) = inr (inr (y, inr i, f))

module _ (me : ℕ) where
  heard_value : (r : Replica) (ps : List HeardPromise) → keeps_something r ≡ true
      → value_or_own round_before (own_value (hears_all me r ps).wish) (hears_all me r ps).acceptor.accepted
      ≡ value_or_own round_before (own_value r.wish) (highest round_before r.acceptor.accepted (reports_of ps))
  unfolding highest hears
  heard_value r [] e = refl
  heard_value r (p ∷ ps) e =
      heard_value (hears me p.src p.brought r) ps
      (still_keeps (higher round_before r.acceptor.accepted (report_of p.brought)) r.wish p.brought)
      ∙ own_kept r.acceptor.accepted r.wish p.brought (reports_of ps) e

  heard_keeps_one : (r : Replica) (p : HeardPromise) → keeps_something (hears me p.src p.brought r) ≡ true
  unfolding hears
  heard_keeps_one r p = still_keeps (higher round_before r.acceptor.accepted (report_of p.brought)) r.wish p.brought

  pub heard_keeps : (r : Replica) (ps : List HeardPromise) → keeps_something r ≡ true → keeps_something (hears_all me r ps) ≡ true
  heard_keeps r [] e = e
  heard_keeps r (p ∷ ps) e = heard_keeps (hears me p.src p.brought r) ps (heard_keeps_one r p)

  -- one promise more, behind the others
  pub heard_last : (r : Replica) (ps : List HeardPromise) (src : ℕ) (rv : RoundV)
      → hears me src rv (hears_all me r ps) ≡ hears_all me r (ps ++ (record { src = src; brought = rv } ∷ []))
  heard_last r [] src rv = refl
  heard_last r (p ∷ ps) src rv = heard_last (hears me p.src p.brought r) ps src rv

  -- A gatherer that has heard some promises proposes as the paper's proposer that remembers every report.
  pub proposes_of_all : (acceptors : ℕ) (n : PaxosRound) (r : Replica) (ps : List HeardPromise) → keeps_something r ≡ true
      → proposes round_before acceptors (proposer_in n (hears_all me r ps)) ≡ proposes round_before acceptors (with_all me n r ps)
  unfolding proposes choice highest
  proposes_of_all acceptors n r ps e =
      ap (λ (v : ℕ). cond (is_majority acceptors (size (hears_all me r ps).promised)) (some (record { number = n; value = v })) none) (heard_value r ps e)

  -- one more is counted, and oneself
  pub also_members : (src set q : ℕ) → contains (also_self me src set) q ≡ true → (contains set q ≡ true) ⊎ (q ≡ me) ⊎ (q ≡ src)
  also_members src set q e = by_self (eqb me q) refl
    where
      Goal : Type 0
      Goal = (contains set q ≡ true) ⊎ (q ≡ me) ⊎ (q ≡ src)

      by_sender : (t : Bool) → eqb src q ≡ t → contains (insert set src) q ≡ true → Goal
      by_sender true d f = inr (inr (sym (eqb-true src q d)))
      by_sender false d f = inl (sym (contains_insert_other set src q (eqb-false src q d)) ∙ f)

      by_self : (t : Bool) → eqb me q ≡ t → Goal
      by_self true d = inr (inl (sym (eqb-true me q d)))
      by_self false d = by_sender (eqb src q) refl (sym (contains_insert_other (insert set src) me q (eqb-false me q d)) ∙ e)

  -- it counts those alone that it has heard, and itself
  pub responders_heard : (r : Replica) (ps : List HeardPromise) (q : ℕ) → contains (hears_all me r ps).promised q ≡ true
      → (contains r.promised q ≡ true) ⊎ (q ≡ me) ⊎ ((p : HeardPromise) × In p ps × (q ≡ p.src))
  unfolding hears
  responders_heard r [] q e = inl e
  responders_heard r (p ∷ ps) q e =
      counted_by (λ (x : HeardPromise). x.src) me q p ps (also_members p.src r.promised q) (responders_heard (hears me p.src p.brought r) ps q e)

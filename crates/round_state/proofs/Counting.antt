-- Counting a promise or an accept: the sender and, at a replica, oneself are in the set, once each, and nobody else is added.
-- Assumes nothing.
use mathlib.Core.Path.{◌≡◌, sym, ap, ◌∙◌}
use mathlib.Core.Logic.{◌⊎◌, inl, inr}
use mathlib.Core.Bool.{Bool, true, false, cond, not}
use Prim.Native.Nat.{ℕ, ◌+◌, ◌^◌, ◌<◌}
use lib.Dec.{eqb}
use borrow.Author.Tests.{eq-eqb}
use Rattle.basics.proofs.Tests.{either}
use Rattle.basics.specs.sets.Sets.{contains, insert, size, one, Within}
use Rattle.basics.proofs.sets.Laws.{contains_insert_same, contains_insert_other, size_insert, insert_old, within_insert, within_trans, insert_within}
use Rattle.round_state.specs.Paxos.{with_sender, with_own, counted}
use Rattle.round_state.specs.declared.Member.{Member}

module _ (me : Member) (src : ℕ) where
  pub with_sender_other : (set : ℕ) → eqb src me.my_pid ≡ false → with_sender me src set ≡ insert set src
  unfolding with_sender
  with_sender_other set e = ap (λ (t : Bool). cond t set (insert set src)) e

  pub with_sender_own : (set : ℕ) → eqb src me.my_pid ≡ true → with_sender me src set ≡ set
  unfolding with_sender
  with_sender_own set e = ap (λ (t : Bool). cond t set (insert set src)) e

  pub with_own_replica : (set : ℕ) → me.replica ≡ true → with_own me set ≡ insert set me.my_pid
  unfolding with_own
  with_own_replica set e = ap (λ (t : Bool). cond t (insert set me.my_pid) set) e

  with_own_client : (set : ℕ) → me.replica ≡ false → with_own me set ≡ set
  unfolding with_own
  with_own_client set e = ap (λ (t : Bool). cond t (insert set me.my_pid) set) e

  -- who was counted stays counted
  pub counted_keeps : (set : ℕ) → Within set (counted me src set)
  counted_keeps set = within_trans set (with_sender me src set) (counted me src set) (sender (either (eqb src me.my_pid))) (own (either me.replica))
    where
      sender : (eqb src me.my_pid ≡ true) ⊎ (eqb src me.my_pid ≡ false) → Within set (with_sender me src set)
      sender (inl e) p h = ap (λ (x : ℕ). contains x p) (with_sender_own set e) ∙ h
      sender (inr e) p h = ap (λ (x : ℕ). contains x p) (with_sender_other set e) ∙ within_insert set src p h

      own : (me.replica ≡ true) ⊎ (me.replica ≡ false) → Within (with_sender me src set) (counted me src set)
      own (inl e) p h = ap (λ (x : ℕ). contains x p) (with_own_replica (with_sender me src set) e) ∙ within_insert (with_sender me src set) me.my_pid p h
      own (inr e) p h = ap (λ (x : ℕ). contains x p) (with_own_client (with_sender me src set) e) ∙ h

  -- only the sender and oneself are added
  pub counted_others : (set p : ℕ) → (src ≡ p → ⊥) → (me.my_pid ≡ p → ⊥) → contains (counted me src set) p ≡ contains set p
  counted_others set p no-sender no_own = own (either me.replica) ∙ sender (either (eqb src me.my_pid))
    where
      sender : (eqb src me.my_pid ≡ true) ⊎ (eqb src me.my_pid ≡ false) → contains (with_sender me src set) p ≡ contains set p
      sender (inl e) = ap (λ (x : ℕ). contains x p) (with_sender_own set e)
      sender (inr e) = ap (λ (x : ℕ). contains x p) (with_sender_other set e) ∙ contains_insert_other set src p no-sender

      own : (me.replica ≡ true) ⊎ (me.replica ≡ false) → contains (counted me src set) p ≡ contains (with_sender me src set) p
      own (inl e) = ap (λ (x : ℕ). contains x p) (with_own_replica (with_sender me src set) e) ∙ contains_insert_other (with_sender me src set) me.my_pid p no_own
      own (inr e) = ap (λ (x : ℕ). contains x p) (with_own_client (with_sender me src set) e)

  -- a replica counts oneself
  pub counted_own : (set : ℕ) → me.replica ≡ true → me.my_pid < 64 → contains (counted me src set) me.my_pid ≡ true
  counted_own set e l =
      ap (λ (x : ℕ). contains x me.my_pid) (with_own_replica (with_sender me src set) e) ∙ contains_insert_same (with_sender me src set) me.my_pid l

  -- another sender is counted
  pub counted_sender : (set : ℕ) → eqb src me.my_pid ≡ false → src < 64 → contains (counted me src set) src ≡ true
  counted_sender set e l = go (either me.replica)
    where
      there : contains (with_sender me src set) src ≡ true
      there = ap (λ (x : ℕ). contains x src) (with_sender_other set e) ∙ contains_insert_same set src l

      go : (me.replica ≡ true) ⊎ (me.replica ≡ false) → contains (counted me src set) src ≡ true
      go (inl d) = ap (λ (x : ℕ). contains x src) (with_own_replica (with_sender me src set) d) ∙ within_insert (with_sender me src set) me.my_pid src there
      go (inr d) = ap (λ (x : ℕ). contains x src) (with_own_client (with_sender me src set) d) ∙ there

  -- each once: oneself as the source adds at most one member
  pub counted_once_own : (set : ℕ) → src ≡ me.my_pid → me.replica ≡ true → me.my_pid < 64
      → size (counted me src set) ≡ size set + one (not (contains set me.my_pid))
  counted_once_own set s e l =
      ap size (with_own_replica (with_sender me src set) e ∙ ap (λ (x : ℕ). insert x me.my_pid) (with_sender_own set (eq-eqb src me.my_pid s)))
      ∙ size_insert set me.my_pid l

  -- who was counted is not counted again
  pub counted_again : (set : ℕ) → set < 2 ^ 64 → contains set src ≡ true → contains set me.my_pid ≡ true → counted me src set ≡ set
  counted_again set h s o = own (either me.replica) ∙ sender (either (eqb src me.my_pid))
    where
      sender : (eqb src me.my_pid ≡ true) ⊎ (eqb src me.my_pid ≡ false) → with_sender me src set ≡ set
      sender (inl e) = with_sender_own set e
      sender (inr e) = with_sender_other set e ∙ insert_old set src h s

      own : (me.replica ≡ true) ⊎ (me.replica ≡ false) → counted me src set ≡ with_sender me src set
      own (inl e) =
          with_own_replica (with_sender me src set) e ∙ ap (λ (x : ℕ). insert x me.my_pid) (sender (either (eqb src me.my_pid)))
          ∙ insert_old set me.my_pid h o ∙ sym (sender (either (eqb src me.my_pid)))
      own (inr e) = with_own_client (with_sender me src set) e

-- a set of live processes stays one where sender and oneself are live
pub counted_within : (me : Member) (src set live : ℕ) → Within set live → contains live src ≡ true → (me.replica ≡ true → contains live me.my_pid ≡ true)
    → Within (counted me src set) live
counted_within me src set live h s o = own (either me.replica)
  where
    sender : (eqb src me.my_pid ≡ true) ⊎ (eqb src me.my_pid ≡ false) → Within (with_sender me src set) live
    sender (inl e) p m = h p (sym (ap (λ (x : ℕ). contains x p) (with_sender_own me src set e)) ∙ m)
    sender (inr e) p m = insert_within set src live h s p (sym (ap (λ (x : ℕ). contains x p) (with_sender_other me src set e)) ∙ m)

    own : (me.replica ≡ true) ⊎ (me.replica ≡ false) → Within (counted me src set) live
    own (inl e) p m =
        insert_within (with_sender me src set) me.my_pid live (sender (either (eqb src me.my_pid))) (o e) p
        (sym (ap (λ (x : ℕ). contains x p) (with_own_replica me src (with_sender me src set) e)) ∙ m)
    own (inr e) p m =
        sender (either (eqb src me.my_pid)) p (sym (ap (λ (x : ℕ). contains x p) (with_own_client me src (with_sender me src set) e)) ∙ m)

-- A run whose entries stand beside those of another has the claim where the other has it. Each entry is of the same member, hands back the same commit and no
-- other message, and proposes what the other proposes; or it hands back neither a message nor a commit, and the other run has none for it. The calls
-- of the two may be of different types: those of a layer that makes some of its calls on the engine, and answers the others by itself, and the engine's.
-- Assumes nothing.
use Rattle.std.specs.Prelude.{Option, None, Some}
use Rattle.calls.specs.Commits.{committed_slot}
use Rattle.calls.specs.declared.CommittedSlot.{CommittedSlot}
use mathlib.Core.Path.{◌≡◌, refl, sym, ap, subst, ◌∙◌}
use mathlib.Core.Bool.{Bool, true, false, cond}
use mathlib.Core.Logic.{inl, inr}
use mathlib.Core.List.{List, [], ◌∷◌}
use Prim.Native.Nat.{ℕ}
use lib.Dec.{eqb}
use Rattle.basics.specs.Lists.{In}
use Rattle.message.specs.declared.ConsensusMessage.{ConsensusMessage}
use Rattle.steps.specs.declared.Outgoing.{Outgoing}
use Rattle.agreement.proofs.Tests.{neqb→ne}
use Rattle.group.specs.Claim.{CallTypes, EntryOf, MayHandIn, At, plus_commit, slot_at, Proposed, CommitAt, Claim}

both_same : (b : Bool) (n : ℕ) → cond b n n ≡ n
both_same true n = refl
both_same false n = refl

module _ {T U : CallTypes} where
  pub record FitsEntry (e : EntryOf T) (f : EntryOf U) : Type 0 where
    pub member : e.member ≡ f.member
    pub proposes : (v : ℕ) → f.call ≡ U.proposal v → U.NotRefused f.reply → (e.call ≡ T.proposal v) × T.NotRefused e.reply
    pub commit : T.commit e.reply ≡ U.commit f.reply
    pub messages : (o : Outgoing) → In o (T.messages e.reply) → In o (U.messages f.reply)

  pub data RunBeside : List (EntryOf T) → List (EntryOf U) → Type 0 where
    no_entry : RunBeside [] []
    both_entries : {u : List (EntryOf T)} {c : List (EntryOf U)} (e : EntryOf T) (f : EntryOf U) → FitsEntry e f → RunBeside u c → RunBeside (e ∷ u) (f ∷ c)
    silent_entry : {u : List (EntryOf T)} {c : List (EntryOf U)} (e : EntryOf T) → T.messages e.reply ≡ [] → T.commit e.reply ≡ None → RunBeside u c
        → RunBeside (e ∷ u) c

  -- ---- messages

  -- what is handed back in the one is handed back in the other, by the same member
  sent_there : {u : List (EntryOf T)} {c : List (EntryOf U)} → RunBeside u c → (e : EntryOf T) (o : Outgoing) → In e u → In o (T.messages e.reply)
      → (f : EntryOf U) × In f c × (f.member ≡ e.member) × In o (U.messages f.reply)
  sent_there no_entry e o h m = absurd h
  sent_there (both_entries x y fits b) e o (inl h) m = (
    y,
    inl refl,
    sym fits.member ∙ ap (λ (z : EntryOf T). z.member) (sym h),
    fits.messages o (subst (λ (z : EntryOf T). In o (T.messages z.reply)) h m),
  )
  sent_there (both_entries x y fits b) e o (inr h) m = let t = sent_there b e o h m in (t.0, inr t.1, t.2, t.3)
  sent_there (silent_entry x q n b) e o (inl h) m = absurd (subst (In o) (ap (λ (y : EntryOf T). T.messages y.reply) h ∙ q) m)
  sent_there (silent_entry x q n b) e o (inr h) m = sent_there b e o h m

  -- so what may be handed in behind the one may be handed in behind the other
  pub may_there : {u : List (EntryOf T)} {c : List (EntryOf U)} → RunBeside u c → (member : ℕ) (message : Option ConsensusMessage)
      → MayHandIn u member message → MayHandIn c member message
  may_there b member None m = m
  may_there b member (Some message) (e, o, here, of_source, sent, is, to) =
      let t = sent_there b e o here sent in (t.0, o, t.1, t.2 ∙ of_source, t.3, is, to)

  -- ---- the claim

  slots : {u : List (EntryOf T)} {c : List (EntryOf U)} → RunBeside u c → (i : ℕ) → slot_at i u ≡ slot_at i c
  slots no_entry i = refl
  slots (both_entries {u} {c} x y fits b) i =
      ap (λ (m : ℕ). cond (eqb i m) (plus_commit (T.commit x.reply) (slot_at i u)) (slot_at i u)) fits.member
      ∙ ap (λ (k : Option CommittedSlot). cond (eqb i y.member) (plus_commit k (slot_at i u)) (slot_at i u)) fits.commit
      ∙ ap (λ (n : ℕ). cond (eqb i y.member) (plus_commit (U.commit y.reply) n) n) (slots b i)
  slots (silent_entry {u} {c} x q n b) i =
      ap (λ (k : Option CommittedSlot). cond (eqb i x.member) (plus_commit k (slot_at i u)) (slot_at i u)) n
      ∙ both_same (eqb i x.member) (slot_at i u) ∙ slots b i

  -- a commit of the one stands in the other, and every entry of the other in the one
  down : {u : List (EntryOf T)} {c : List (EntryOf U)} → RunBeside u c → (e : EntryOf T) (r : List (EntryOf T)) → At e r u → (slot v : ℕ) (fast : Bool)
      → T.commit e.reply ≡ committed_slot slot v fast → (f : EntryOf U) × (s : List (EntryOf U)) × At f s c × FitsEntry e f × RunBeside r s
  down no_entry e r h slot v fast k = absurd h
  down (both_entries {u} {c} x y fits b) e r (inl (p, q)) slot v fast k =
      (y, c, inl (refl, refl), subst (λ (z : EntryOf T). FitsEntry z y) (sym p) fits, subst (λ (z : List (EntryOf T)). RunBeside z c) (sym q) b)
  down (both_entries x y fits b) e r (inr h) slot v fast k = let d = down b e r h slot v fast k in (d.0, d.1, inr d.2, d.3, d.4)
  down (silent_entry x q n b) e r (inl (p, w)) slot v fast k =
      absurd (neqb→ne 1 0 tt (ap (λ (z : Option CommittedSlot). plus_commit z 0) (sym k ∙ ap (λ (y : EntryOf T). T.commit y.reply) p ∙ n)))
  down (silent_entry x q n b) e r (inr h) slot v fast k = down b e r h slot v fast k

  up : {u : List (EntryOf T)} {c : List (EntryOf U)} → RunBeside u c → (f : EntryOf U) (s : List (EntryOf U)) → At f s c
      → (e : EntryOf T) × (r : List (EntryOf T)) × At e r u × FitsEntry e f × RunBeside r s
  up no_entry f s h = absurd h
  up (both_entries {u} {c} x y fits b) f s (inl (p, q)) =
      (x, u, inl (refl, refl), subst (λ (z : EntryOf U). FitsEntry x z) (sym p) fits, subst (λ (z : List (EntryOf U)). RunBeside u z) (sym q) b)
  up (both_entries x y fits b) f s (inr h) = let d = up b f s h in (d.0, d.1, inr d.2, d.3, d.4)
  up (silent_entry x q n b) f s h = let d = up b f s h in (d.0, d.1, inr d.2, d.3, d.4)

  pub claim_beside : {u : List (EntryOf T)} {c : List (EntryOf U)} → RunBeside u c → Claim c → Claim u
  claim_beside {u} {c} b claim =
      record {
        agree = λ slot v slot' v' x y. claim.agree slot v slot' v' (moved slot v x) (moved slot' v' y);
        proposed = λ slot v x.
            let d = under slot v x in raised slot v (both_entries x.entry d.0 d.3 d.4) (claim.proposed slot v (moved slot v x));
        own_slot = λ slot v x.
            let d = under slot v x in
            claim.own_slot slot v (moved slot v x) ∙ sym (slots d.4 d.0.member) ∙ ap (λ (m : ℕ). slot_at m x.earlier) (sym d.3.member);
      }
    where
      under : (slot v : ℕ) (x : CommitAt slot v u)
          → (f : EntryOf U) × (s : List (EntryOf U)) × At f s c × FitsEntry x.entry f × RunBeside x.earlier s
      under slot v x = down b x.entry x.earlier x.stands slot v x.fast x.commit

      moved : (slot v : ℕ) → CommitAt slot v u → CommitAt slot v c
      moved slot v x =
          let d = under slot v x in record { entry = d.0; earlier = d.1; stands = d.2; fast = x.fast; commit = sym d.3.commit ∙ x.commit }

      raised : {p : List (EntryOf T)} {q : List (EntryOf U)} (slot v : ℕ) → RunBeside p q → Proposed slot v q → Proposed slot v p
      raised slot v w (f, s, at, call, done, own) =
          let d = up w f s at in
          let k = d.3.proposes v call done in
          (d.0, d.1, d.2, k.0, k.1, ap (λ (m : ℕ). slot_at m d.1) d.3.member ∙ slots d.4 f.member ∙ own)

-- An engine that does less than the right one has demand 3: it answers as the right one does, but for messages that it leaves out, until it falls silent, if it
-- does, and then sends and commits nothing. Its legal runs are, without the silent calls, legal runs of the right engine, and so have the claim.
-- Assumes nothing.
use Rattle.std.specs.Prelude.{None}
use mathlib.Core.Path.{◌≡◌, refl, subst, ◌∙◌}
use mathlib.Core.Bool.{Bool, true, false, cond}
use mathlib.Core.Logic.{◌⊎◌, inl, inr}
use mathlib.Core.List.{List, [], ◌∷◌}
use Prim.Native.Nat.{ℕ}
use lib.Dec.{eqb}
use Rattle.basics.specs.Lists.{In}
use Rattle.steps.specs.declared.Outgoing.{Outgoing}
use Rattle.calls.specs.declared.Call.{Call}
use Rattle.consensus.specs.Call.{call_of}
use Rattle.consensus.specs.declared.Answer.{Answer}
use Rattle.consensus.specs.declared.Shard.{Shard}
use Rattle.group.specs.Claim.{begun, message_of_call, MemberCall, Entry, messages_of, LegalMade, entries_made}
use Rattle.group.proofs.Beside.{FitsEntry, RunBeside, no_entry, both_entries, silent_entry, may_there, claim_beside}
use Rattle.wrong_engines.specs.Laws.{AnyEngine, entry_by, after_call_by, entries_by, LegalBy, InAgreement}
use Rattle.wrong_engines.proofs.Right.{right_has_all}

-- ---- an engine that does less

-- `Silent` is of the shards on which nothing is sent or committed any more
module _ (engine : AnyEngine) (Silent : Shard → Type 0) where
  -- the shard of the right engine, or a silent one
  abbrev pub RightOrSilent : Shard → Shard → Type 0
  RightOrSilent x y = (x ≡ y) ⊎ Silent x

  -- the answer of the engine, and that of the right one
  pub record DoesLess (r s : Answer) : Type 0 where
    pub outcome : r.reply.outcome ≡ s.reply.outcome
    pub commit : r.reply.commit ≡ s.reply.commit
    pub messages : (o : Outgoing) → In o (messages_of r.reply.messages) → In o (messages_of s.reply.messages)
    pub left : RightOrSilent r.shard s.shard

  -- an answer on a silent shard
  pub record SaysNothing (r : Answer) : Type 0 where
    pub no_messages : messages_of r.reply.messages ≡ []
    pub no_commit : r.reply.commit ≡ None
    pub still_silent : Silent r.shard

  module _ (less : (shard : Shard) (c : Call) → DoesLess (engine shard c) (call_of shard c) ⊎ Silent shard)
      (says_nothing : (shard : Shard) → Silent shard → (c : Call) → SaysNothing (engine shard c)) where
    -- a run of the right engine beside this one
    abbrev Matched : ℕ → (ℕ → Shard) → List Entry → List Entry → Type 0
    Matched n shards past run = (ds : List MemberCall) × LegalBy call_of n shards past ds × RunBeside run (entries_by call_of shards past ds)

    matched : (n : ℕ) (cs : List MemberCall) (us shards : ℕ → Shard) → ((j : ℕ) → RightOrSilent (us j) (shards j)) → (p q : List Entry) → RunBeside p q
        → LegalBy engine n us p cs → Matched n shards q (entries_by engine us p cs)
    unfolding LegalMade entries_made
    matched n [] us shards st p q b legal = ([], tt, b)
    matched n (x ∷ xs) us shards st p q b legal = go (λ us' shards' st' p' q' b' l'. matched n xs us' shards' st' p' q' b' l') (st x.member)
      where
        r : Answer
        r = engine (us x.member) x.call

        s : Answer
        s = call_of (shards x.member) x.call

        -- the call stands in both runs
        both_left : RightOrSilent r.shard s.shard → (j : ℕ) (t : Bool) → RightOrSilent (cond t r.shard (us j)) (cond t s.shard (shards j))
        both_left l j true = l
        both_left l j false = st j

        -- or only here
        here_left : Silent r.shard → (j : ℕ) (t : Bool) → RightOrSilent (cond t r.shard (us j)) (shards j)
        here_left l j true = inr l
        here_left l j false = st j

        Rest : Type 0
        Rest = (us' shards' : ℕ → Shard) → ((j : ℕ) → RightOrSilent (us' j) (shards' j)) → (p' q' : List Entry) → RunBeside p' q' → LegalBy engine n us' p' xs
            → Matched n shards' q' (entries_by engine us' p' xs)

        goes : Rest → DoesLess r s → Matched n shards q (entries_by engine us p (x ∷ xs))
        goes rec l =
            let fits : FitsEntry (entry_by engine us x) (entry_by call_of shards x) =
            record { member = refl; proposes = λ v proposal done. (proposal, l.outcome ∙ done); commit = l.commit; messages = l.messages } in
            let rest = rec (after_call_by engine us x) (after_call_by call_of shards x) (λ j. both_left l.left j (eqb j x.member))
            (entry_by engine us x ∷ p) (entry_by call_of shards x ∷ q) (both_entries (entry_by engine us x) (entry_by call_of shards x) fits b) legal.2 in
            (x ∷ rest.0, (legal.0, may_there b x.member (message_of_call x.call) legal.1, rest.1), rest.2)

        stops : Rest → SaysNothing r → Matched n shards q (entries_by engine us p (x ∷ xs))
        stops rec l =
            rec (after_call_by engine us x) shards (λ j. here_left l.still_silent j (eqb j x.member)) (entry_by engine us x ∷ p) q
            (silent_entry (entry_by engine us x) l.no_messages l.no_commit b) legal.2

        at_right : Rest → us x.member ≡ shards x.member → DoesLess r (call_of (us x.member) x.call) ⊎ Silent (us x.member)
            → Matched n shards q (entries_by engine us p (x ∷ xs))
        at_right rec e (inl l) = goes rec (subst (λ (y : Shard). DoesLess r (call_of y x.call)) e l)
        at_right rec e (inr l) = stops rec (says_nothing (us x.member) l x.call)

        go : Rest → RightOrSilent (us x.member) (shards x.member) → Matched n shards q (entries_by engine us p (x ∷ xs))
        go rec (inl e) = at_right rec e (less (us x.member) x.call)
        go rec (inr l) = stops rec (says_nothing (us x.member) l x.call)

    pub less_in_agreement : InAgreement engine
    less_in_agreement s mode cs legal =
        let r = matched s.process_count cs (begun s) (begun s) (λ j. inl refl) [] [] no_entry legal in
        claim_beside r.2 (right_has_all.agreement s mode r.0 r.1)

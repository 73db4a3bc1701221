-- What the first events say of one, by the library's words for lists.
-- Assumes nothing.
use Rattle.std.proofs.Common.{◌≡◌, ◌∙◌, refl, sym, ap, ap₂, ℕ, zero, suc, ◌+◌, ◌≤◌, List, [], ◌∷◌, length, take, Bool, true, false, cond, ◌&&◌, ◌||◌, arith}
use Rattle.std.specs.List.{list_all, list_any, count_by, sum_by}
use Rattle.std.proofs.lemmas.List.Folds.{list_all-append, list_any-append}
use Rattle.std.proofs.lemmas.List.Sums.{sum_by-append}
use lib.Seq.{take-suc, take_all}
use Rattle.group_runs.specs.declared.run_checks.Event.{Event}
use Rattle.group_runs.specs.run_checks.Log.{event_at, no_event, is_commit_of, agrees_with_commit, is_proposal_of, all_agree, one_proposes, slot_of, events_allow}

alone_and : (b : Bool) → (b && true) ≡ b
alone_and true = refl
alone_and false = refl

alone_or : (b : Bool) → (b || false) ≡ b
alone_or true = refl
alone_or false = refl

all_taken : (e : Event) (es : List Event) (i : ℕ) → i ≤ length es → list_all (agrees_with_commit e) (take i es) ≡ all_agree e es i
unfolding all_agree
all_taken e es zero h = refl
all_taken e es (suc i) h =
    ap (list_all (agrees_with_commit e)) (take-suc es i no_event (omega (arith, h)))
    ∙ list_all-append (agrees_with_commit e) (take i es) (event_at es i ∷ [])
    ∙ ap₂ ◌&&◌ (all_taken e es i (omega (arith, h))) (alone_and (agrees_with_commit e (event_at es i)))

any_taken : (e : Event) (es : List Event) (i : ℕ) → i ≤ length es → list_any (is_proposal_of e) (take i es) ≡ one_proposes e es i
unfolding one_proposes
any_taken e es zero h = refl
any_taken e es (suc i) h =
    ap (list_any (is_proposal_of e)) (take-suc es i no_event (omega (arith, h)))
    ∙ list_any-append (is_proposal_of e) (take i es) (event_at es i ∷ [])
    ∙ ap₂ ◌||◌ (any_taken e es i (omega (arith, h))) (alone_or (is_proposal_of e (event_at es i)))

one_more : (b : Bool) (n m : ℕ) → n ≡ m → n + (0 + cond b 1 0) ≡ cond b (m + 1) m
one_more true n m h = omega (arith, h)
one_more false n m h = omega (arith, h)

count_taken : (p : ℕ) (es : List Event) (i : ℕ) → i ≤ length es → sum_by (λ x. cond (is_commit_of p x) 1 0) (take i es) ≡ slot_of p es i
unfolding slot_of
count_taken p es zero h = refl
count_taken p es (suc i) h =
    ap (sum_by (λ x. cond (is_commit_of p x) 1 0)) (take-suc es i no_event (omega (arith, h)))
    ∙ sum_by-append (λ x. cond (is_commit_of p x) 1 0) (take i es) (event_at es i ∷ [])
    ∙ one_more (is_commit_of p (event_at es i)) _ (slot_of p es i) (count_taken p es i (omega (arith, h)))

module _ (es : List Event) where
  pub all_listed : (e : Event) → list_all (agrees_with_commit e) es ≡ all_agree e es (length es)
  all_listed e = ap (list_all (agrees_with_commit e)) (sym (take_all (length es) es (omega arith))) ∙ all_taken e es (length es) (omega arith)

  pub any_listed : (e : Event) → list_any (is_proposal_of e) es ≡ one_proposes e es (length es)
  any_listed e = ap (list_any (is_proposal_of e)) (sym (take_all (length es) es (omega arith))) ∙ any_taken e es (length es) (omega arith)

  pub count_listed : (p : ℕ) → count_by (is_commit_of p) es ≡ slot_of p es (length es)
  count_listed p = ap (count_by (is_commit_of p)) (sym (take_all (length es) es (omega arith))) ∙ count_taken p es (length es) (omega arith)

-- the first events as a list of their own
pub allowed_first : (e : Event) (es : List Event) (i : ℕ) → i ≤ length es → events_allow e (take i es) (length (take i es)) ≡ events_allow e es i
unfolding events_allow
allowed_first e es i h =
    let a : all_agree e (take i es) (length (take i es)) ≡ all_agree e es i = sym (all_listed (take i es) e) ∙ all_taken e es i h in
    let b : one_proposes e (take i es) (length (take i es)) ≡ one_proposes e es i = sym (any_listed (take i es) e) ∙ any_taken e es i h in
    let n : slot_of e.member (take i es) (length (take i es)) ≡ slot_of e.member es i = sym (count_listed (take i es) e.member) ∙ count_taken e.member es i h in
    cc

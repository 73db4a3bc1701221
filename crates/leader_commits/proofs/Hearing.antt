-- The sets of those that the leader has heard: they grow by one answer at a time, and the leader is not in them.
-- Assumes nothing.
use Rattle.std.specs.Prelude.{Option, None, Some}
use mathlib.Core.Path.{◌≡◌, refl, sym, ap, ◌∙◌}
use mathlib.Core.Logic.{◌⊎◌, inl, inr}
use mathlib.Core.Bool.{Bool, true, false, not, ◌&&◌, ◌||◌}
use mathlib.Core.List.{List, [], ◌∷◌}
use Prim.Native.Nat.{ℕ, ◌+◌, ◌≤◌, ◌<◌}
use native.Mathlib.Decide.{dec_le}
use native.Mathlib.Nat.{lt_of_not-le}
use native.Mathlib.Omega.{arith}
use lib.Dec.{eqb}
use borrow.Author.Tests.{eqb-false, eq-eqb, ne_eqb, not-true}
use Rattle.basics.proofs.Tests.{either, not_both, and_left, and_right, or_left}
use Rattle.basics.specs.sets.Sets.{contains, count, size, insert, one}
use Rattle.basics.proofs.sets.Counting.{count_one_more}
use Rattle.basics.proofs.sets.Laws.{contains_empty, contains_insert_other, insert_none, size_insert}
use Rattle.settings.specs.Questions.{is_live_replica}
use Rattle.settings.specs.declared.Settings.{Settings}
use Rattle.calls.specs.declared.delivery.Delivery.{Delivery}
use Rattle.agreement.specs.Model.{add}
use Rattle.group.specs.Steps.{RunStep, reply_of, is_done, delivered}
use Rattle.leader_commits.specs.Answers.{is_accept_of, is_answer, source_of, comes, leader_hears, sources}

-- ---- one step more

pub sources_same : (test : RunStep → Bool) (x : RunStep) (past : List RunStep) → test x ≡ false → sources test (x ∷ past) ≡ sources test past
unfolding sources
sources_same test x past e = simp e

pub sources_more : (test : RunStep → Bool) (x : RunStep) (past : List RunStep) → test x ≡ true
    → sources test (x ∷ past) ≡ insert (sources test past) (source_of (delivered x))
unfolding sources
sources_more test x past e = simp e

one_most : (b : Bool) → one b ≤ 1
one_most true = omega arith
one_most false = omega arith

-- a set grows by one at most
size_insert_most : (a p : ℕ) → size (insert a p) ≤ size a + 1
size_insert_most a p = go (dec_le 64 p)
  where
    go : Dec (64 ≤ p) → size (insert a p) ≤ size a + 1
    go (yes h) = let same : size (insert a p) ≡ size a = ap size (insert_none a p h) in omega arith
    go (no h) =
        let grown : size (insert a p) ≡ size a + one (not (contains a p)) = size_insert a p (lt_of_not-le h) in
        let most = one_most (not (contains a p)) in
        omega arith

pub grows_by_one : (test : RunStep → Bool) (x : RunStep) (past : List RunStep) → size (sources test (x ∷ past)) ≤ size (sources test past) + 1
grows_by_one test x past = go (either (test x))
  where
    go : (test x ≡ true) ⊎ (test x ≡ false) → size (sources test (x ∷ past)) ≤ size (sources test past) + 1
    go (inl e) =
        let more : size (sources test (x ∷ past)) ≡ size (insert (sources test past) (source_of (delivered x))) = ap size (sources_more test x past e) in
        let most = size_insert_most (sources test past) (source_of (delivered x)) in
        omega arith
    go (inr e) = let same : size (sources test (x ∷ past)) ≡ size (sources test past) = ap size (sources_same test x past e) in omega arith

-- ---- the leader is not counted

other_source : (s : Settings) (t : ℕ) (o : Option Delivery) → is_answer s t o ≡ true → source_of o ≡ s.first_leader → ⊥
other_source s t None e = absurd (not_both e refl)
other_source s t (Some d) e =
    eqb-false d.message.src s.first_leader
    (not-true (eqb d.message.src s.first_leader)
    (and_right (is_live_replica s d.message.src) (not (eqb d.message.src s.first_leader))
    (and_right (is_accept_of t d.message.msg) (is_live_replica s d.message.src && not (eqb d.message.src s.first_leader)) e)))

-- an answer is an accept, of a live replica
pub is_accept : (s : Settings) (t : ℕ) (d : Delivery) → is_answer s t (Some d) ≡ true → is_accept_of t d.message.msg ≡ true
is_accept s t d e = and_left (is_accept_of t d.message.msg) (is_live_replica s d.message.src && not (eqb d.message.src s.first_leader)) e

pub live_source : (s : Settings) (t : ℕ) (o : Option Delivery) → is_answer s t o ≡ true → is_live_replica s (source_of o) ≡ true
live_source s t None e = absurd (not_both e refl)
live_source s t (Some d) e =
    and_left (is_live_replica s d.message.src) (not (eqb d.message.src s.first_leader))
    (and_right (is_accept_of t d.message.msg) (is_live_replica s d.message.src && not (eqb d.message.src s.first_leader)) e)

pub leader_not_counted : (s : Settings) (t : ℕ) (past : List RunStep) → contains (sources (leader_hears s t) past) s.first_leader ≡ false
unfolding sources
leader_not_counted s t [] = contains_empty s.first_leader
leader_not_counted s t (x ∷ past) = go (leader_not_counted s t past) (either (leader_hears s t x))
  where
    go : contains (sources (leader_hears s t) past) s.first_leader ≡ false → (leader_hears s t x ≡ true) ⊎ (leader_hears s t x ≡ false)
        → contains (sources (leader_hears s t) (x ∷ past)) s.first_leader ≡ false
    go rest (inl e) =
        ap (λ (a : ℕ). contains a s.first_leader) (sources_more (leader_hears s t) x past e)
        ∙ contains_insert_other (sources (leader_hears s t) past) (source_of (delivered x)) s.first_leader
        (other_source s t (delivered x) (and_left (is_answer s t (delivered x)) (eqb x.member s.first_leader)
        (and_left (comes s t x) (is_done (reply_of x).outcome) e)))
        ∙ rest
    go rest (inr e) = ap (λ (a : ℕ). contains a s.first_leader) (sources_same (leader_hears s t) x past e) ∙ rest

-- the leader and those that it has heard
pub with_leader : (a l : ℕ) → l < 64 → contains a l ≡ false → count (add l (contains a)) 64 ≡ size a + 1
unfolding size
with_leader a l small out =
    count_one_more (contains a) (add l (contains a)) l out (or_left (contains a l) (eq-eqb l l refl))
    (λ q differs. ap (λ (b : Bool). b || contains a q) (ne_eqb q l (λ same. differs (sym same)))) 64 small

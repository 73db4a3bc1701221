-- The tests of specs/Reach.antt say what document 02 says (specs/Conflict.antt).
-- Assumes nothing.
use mathlib.Core.Path.{◌≡◌, refl, sym, ap, ◌∙◌}
use mathlib.Core.Logic.{◌⊎◌, inl, inr}
use mathlib.Core.Bool.{Bool, true, false, ◌&&◌}
use mathlib.Core.List.{List, [], ◌∷◌}
use Prim.Native.Nat.{ℕ, ◌+◌, ◌*◌, ◌-◌, ◌≤◌, max}
use native.Mathlib.Omega.{arith}
use lib.Dec.{ltb, leb}
use lib.IntN.{ℤ, pos, negsuc, ◌*ℤ◌, negsuc-*ℤ-negsuc}
use borrow.Author.Tests.{ltb-true, leb-true, lt-ltb, le-leb, eq-eqb}
use Rattle.std.specs.Prelude.{Option, Some, None, unsigned_abs}
use Rattle.basics.specs.Lists.{In}
use Rattle.basics.proofs.Tests.{either, not_both, and_left, and_right, and_both, or_cases, or_left, or_right}
use Rattle.raster.specs.Raster.{frequency_of, raster_refusal}
use Rattle.raster.proofs.ByTable.{on_raster_frequency}
use Rattle.register.specs.Register.{assignable}
use Rattle.register.specs.declared.Assignment.{Assignment}
use Rattle.register.proofs.Agreement.{within_limits_lem}
use Rattle.positions.specs.Grid.{within_grid}
use Rattle.positions.specs.declared.Position.{Position}
use Rattle.reach.specs.Conflict.{Overlap, squared, Near, Conflict, CarrierTaken, Named, QuestionWithinLimits, MayAssign, Assigned, RisingPlaced, Rising}
use Rattle.reach.specs.Reach.{question_within_limits, is_near, khz_at, overlaps, clashes, clashing, blocked, may_ask}
use Rattle.reach.specs.declared.PlacedCell.{PlacedCell}
use Rattle.reach.specs.declared.Question.{Question}
use Rattle.reach.proofs.Raster.{khz_is, on_raster}

-- the square of a signed number is its product with itself
pub squared_is : (z : ℤ) → z *ℤ z ≡ pos (squared z)
squared_is (pos n) = refl
squared_is (negsuc n) = negsuc-*ℤ-negsuc n n

-- ---- overlaps: both carriers occupy some half kHz
pub overlap_of_test : (f w g v : ℕ) → 1 ≤ w → 1 ≤ v → overlaps f w g v ≡ true → Overlap f w g v
unfolding overlaps
overlap_of_test f w g v some other t =
    let low = ltb-true (2 * f) (2 * g + (w + v)) (and_left (ltb (2 * f) (2 * g + (w + v))) (ltb (2 * g) (2 * f + (w + v))) t) in
    let high = ltb-true (2 * g) (2 * f + (w + v)) (and_right (ltb (2 * f) (2 * g + (w + v))) (ltb (2 * g) (2 * f + (w + v))) t) in
    record {
      shared = max (2 * f - w) (2 * g - v);
      one = record { from = omega arith; to = omega arith };
      other = record { from = omega arith; to = omega arith };
    }

pub test_of_overlap : (f w g v : ℕ) → Overlap f w g v → overlaps f w g v ≡ true
unfolding overlaps
test_of_overlap f w g v both =
    and_both (lt-ltb (2 * f) (2 * g + (w + v)) (omega (arith, both.one.from, both.other.to)))
    (lt-ltb (2 * g) (2 * f + (w + v)) (omega (arith, both.other.from, both.one.to)))

-- ---- near
near_of_test : (q : Question) (p : Option Position) → is_near q p ≡ true → Near q p
unfolding is_near
near_of_test q None t = tt
near_of_test q (Some other) t = leb-true _ _ t

test_of_near : (q : Question) (p : Option Position) → Near q p → is_near q p ≡ true
unfolding is_near
test_of_near q None t = refl
test_of_near q (Some other) t = le-leb _ _ t

-- ---- limits
module _ (q : Question) where
  abbrev in_x : Bool
  in_x = leb (unsigned_abs q.position.x) 2000000

  abbrev in_y : Bool
  in_y = leb (unsigned_abs q.position.y) 2000000

  abbrev in_distance : Bool
  in_distance = leb q.distance 6000000

  pub limits_of_test : question_within_limits q ≡ true → QuestionWithinLimits q
  unfolding question_within_limits within_grid
  limits_of_test t =
      let both = and_left (in_x && in_y) in_distance t in
      record {
        x = leb-true (unsigned_abs q.position.x) 2000000 (and_left in_x in_y both);
        y = leb-true (unsigned_abs q.position.y) 2000000 (and_right in_x in_y both);
        distance = leb-true q.distance 6000000 (and_right (in_x && in_y) in_distance t);
      }

  pub test_of_limits : QuestionWithinLimits q → question_within_limits q ≡ true
  unfolding question_within_limits within_grid
  test_of_limits l =
      and_both (and_both (le-leb (unsigned_abs q.position.x) 2000000 l.x) (le-leb (unsigned_abs q.position.y) 2000000 l.y))
      (le-leb q.distance 6000000 l.distance)

module _ (n w : ℕ) where
  abbrev assignment : Assignment
  assignment = record { carrier = n; width = w }

  -- by document 02's limits: the three ranges of the raster leave no gap
  by_limits : may_ask n w ≡ true → (leb n 3279165 && leb 1 w && leb w 400000) ≡ true
  by_limits t = within_limits_lem assignment ∙ t

  pub number_most : may_ask n w ≡ true → n ≤ 3279165
  number_most t = leb-true n 3279165 (and_left (leb n 3279165) (leb 1 w) (and_left (leb n 3279165 && leb 1 w) (leb w 400000) (by_limits t)))

  pub width_most : may_ask n w ≡ true → w ≤ 400000
  width_most t = leb-true w 400000 (and_right (leb n 3279165 && leb 1 w) (leb w 400000) (by_limits t))

  pub may_of_test : may_ask n w ≡ true → MayAssign n w
  may_of_test t =
      record {
        khz = khz_at n;
        on_raster = on_raster n (number_most t);
        from = leb-true 1 w (and_right (leb n 3279165) (leb 1 w) (and_left (leb n 3279165 && leb 1 w) (leb w 400000) (by_limits t)));
        to = width_most t;
      }

  pub test_of_may : MayAssign n w → may_ask n w ≡ true
  unfolding assignable
  test_of_may may =
      and_both
      (and_both (eq-eqb (raster_refusal (frequency_of n)) 0 (ap raster_refusal (on_raster_frequency n may.khz may.on_raster))) (le-leb 1 w may.from))
      (le-leb w 400000 may.to)

-- ---- a conflict with one cell
module _ (q : Question) (n : ℕ) (asked : MayAssign n q.width) (c : PlacedCell) (assigned : MayAssign c.assignment.carrier c.assignment.width) where
  abbrev cell_khz : ℕ
  cell_khz = khz_at c.assignment.carrier

  pub conflict_of_test : clashes q (khz_at n) c ≡ true → Conflict q n c
  unfolding clashes
  conflict_of_test t =
      let over = and_left (overlaps (khz_at n) q.width cell_khz c.assignment.width) (is_near q c.position) t in
      record {
        khz = khz_at n;
        on_raster = rw (khz_is n asked.khz asked.on_raster) asked.on_raster;
        cell_khz = cell_khz;
        cell_on_raster = rw (khz_is c.assignment.carrier assigned.khz assigned.on_raster) assigned.on_raster;
        overlap = overlap_of_test (khz_at n) q.width cell_khz c.assignment.width asked.from assigned.from over;
        near =
            near_of_test q c.position
            (and_right (overlaps (khz_at n) q.width cell_khz c.assignment.width) (is_near q c.position) t);
      }

pub test_of_conflict : (q : Question) (n : ℕ) (c : PlacedCell) → Conflict q n c → clashes q (khz_at n) c ≡ true
unfolding clashes
test_of_conflict q n c k =
    let mine : khz_at n ≡ k.khz = khz_is n k.khz k.on_raster in
    let theirs : khz_at c.assignment.carrier ≡ k.cell_khz = khz_is c.assignment.carrier k.cell_khz k.cell_on_raster in
    and_both
    (ap (λ (f : ℕ). overlaps f q.width (khz_at c.assignment.carrier) c.assignment.width) mine
    ∙ ap (λ (g : ℕ). overlaps k.khz q.width g c.assignment.width) theirs
    ∙ test_of_overlap k.khz q.width k.cell_khz c.assignment.width k.overlap)
    (test_of_near q c.position k.near)

-- ---- with some cell
pub taken_of_test : (q : Question) (n : ℕ) → MayAssign n q.width → (cs : List PlacedCell) → Assigned cs → blocked q cs n ≡ true → CarrierTaken q n cs
unfolding blocked
taken_of_test q n asked [] assigned t = absurd (not_both t refl)
taken_of_test q n asked (c ∷ cs) assigned t = go (or_cases (clashes q (khz_at n) c) (blocked q cs n) t) (taken_of_test q n asked cs (λ d i. assigned d (inr i)))
  where
    go : (clashes q (khz_at n) c ≡ true) ⊎ (blocked q cs n ≡ true) → (blocked q cs n ≡ true → CarrierTaken q n cs) → CarrierTaken q n (c ∷ cs)
    go (inl h) rest = record { cell = c; live = inl refl; conflict = conflict_of_test q n asked c (assigned c (inl refl)) h }
    go (inr h) rest = let later = rest h in record { cell = later.cell; live = inr later.live; conflict = later.conflict }

pub test_of_taken : (q : Question) (n : ℕ) (cs : List PlacedCell) (c : PlacedCell) → In c cs → Conflict q n c → blocked q cs n ≡ true
unfolding blocked
test_of_taken q n [] c i k = absurd i
test_of_taken q n (d ∷ cs) c (inl same) k =
    or_left (blocked q cs n) (ap (clashes q (khz_at n)) (sym same) ∙ test_of_conflict q n c k)
test_of_taken q n (d ∷ cs) c (inr later) k = or_right (clashes q (khz_at n) d) (test_of_taken q n cs c later k)

-- ---- the list
pub named_of_list : (q : Question) (n : ℕ) → MayAssign n q.width → (cs : List PlacedCell) → Assigned cs → (m : ℕ) → In m (clashing q (khz_at n) cs)
    → Named q n cs m
named_of_list q n asked [] assigned m i = absurd i
named_of_list q n asked (c ∷ cs) assigned m i = go (either (clashes q (khz_at n) c)) (named_of_list q n asked cs (λ d j. assigned d (inr j)) m)
  where
    further : Named q n cs m → Named q n (c ∷ cs) m
    further d = record { cell = d.cell; live = inr d.live; number = d.number; conflict = d.conflict }

    go : (clashes q (khz_at n) c ≡ true) ⊎ (clashes q (khz_at n) c ≡ false) → (In m (clashing q (khz_at n) cs) → Named q n cs m) → Named q n (c ∷ cs) m
    go (inl t) rest = either_place (simp t at i)
      where
        either_place : In m (c.number ∷ clashing q (khz_at n) cs) → Named q n (c ∷ cs) m
        either_place (inl e) = record { cell = c; live = inl refl; number = sym e; conflict = conflict_of_test q n asked c (assigned c (inl refl)) t }
        either_place (inr j) = further (rest j)
    go (inr t) rest = further (rest (simp t at i))

pub list_of_conflict : (q : Question) (n : ℕ) (cs : List PlacedCell) (c : PlacedCell) → In c cs → Conflict q n c → In c.number (clashing q (khz_at n) cs)
list_of_conflict q n [] c i k = absurd i
list_of_conflict q n (d ∷ cs) c (inl same) k =
    let t : clashes q (khz_at n) d ≡ true = ap (clashes q (khz_at n)) (sym same) ∙ test_of_conflict q n c k in
    simp t (inl (ap (λ (x : PlacedCell). x.number) same))
list_of_conflict q n (d ∷ cs) c (inr later) k = go (either (clashes q (khz_at n) d)) (list_of_conflict q n cs c later k)
  where
    go : (clashes q (khz_at n) d ≡ true) ⊎ (clashes q (khz_at n) d ≡ false) → In c.number (clashing q (khz_at n) cs)
        → In c.number (clashing q (khz_at n) (d ∷ cs))
    go (inl t) rest = simp t (inr rest)
    go (inr t) rest = simp t rest

-- ---- order
lower_start : (a b : ℕ) (ns : List ℕ) → a ≤ b → Rising b ns → Rising a ns
lower_start a b [] h r = tt
lower_start a b (n ∷ ns) h r = (let z = r.0 in omega arith, r.1)

pub list_rises : (q : Question) (f low : ℕ) (cs : List PlacedCell) → RisingPlaced low cs → Rising low (clashing q f cs)
list_rises q f low [] r = tt
list_rises q f low (c ∷ cs) r = go (either (clashes q f c)) (list_rises q f (c.number + 1) cs r.1)
  where
    go : (clashes q f c ≡ true) ⊎ (clashes q f c ≡ false) → Rising (c.number + 1) (clashing q f cs) → Rising low (clashing q f (c ∷ cs))
    go (inl t) rest = simp t (r.0, rest)
    go (inr t) rest = simp t (lower_start low (c.number + 1) (clashing q f cs) (let z = r.0 in omega arith) rest)

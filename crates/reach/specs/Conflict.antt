-- What document 02 says of conflicts (E11), without a computation.
-- Assumes nothing.
use Rattle.std.specs.Prelude.{◌≡◌, ℕ, ◌+◌, ◌*◌, ◌≤◌, ◌<◌, ℤ, ◌-ℤ◌, unsigned_abs, List, [], ◌∷◌, Option, Some, None}
use Rattle.basics.specs.Lists.{In}
use Rattle.raster.specs.Table.{OnRaster}
use Rattle.positions.specs.declared.Position.{Position}
use Rattle.reach.specs.declared.PlacedCell.{PlacedCell}
use Rattle.reach.specs.declared.Question.{Question}

-- ---- "A carrier occupies its centre less half its width up to, not including, its centre plus half its width, counted in half kHz."
-- A centre of f kHz is 2f half kHz, and half a width of w kHz is w half kHz. h is counted from 0: two carriers that overlap share one from
-- 0 on, also where both begin below it.
pub record Occupies (f w h : ℕ) : Type 0 where
  pub from : 2 * f ≤ h + w
  pub to : h < 2 * f + w

-- two carriers overlap: both occupy some half kHz
pub record Overlap (f w g v : ℕ) : Type 0 where
  pub shared : ℕ
  pub one : Occupies f w shared
  pub other : Occupies g v shared

-- ---- "lie within the distance of the position, equality included, squares compared"
-- the square of a signed number
abbrev pub squared : ℤ → ℕ
squared z = unsigned_abs z * unsigned_abs z

-- "Cells without a position always count as near."
abbrev pub Near : Question → Option Position → Type 0
Near q None = Unit {0}
Near q (Some p) = squared (q.position.x -ℤ p.x) + squared (q.position.y -ℤ p.y) ≤ q.distance * q.distance

-- ---- carrier number n, of the width asked, is in conflict with a cell: "overlap the carrier and lie within the distance of the position"
pub record Conflict (q : Question) (n : ℕ) (c : PlacedCell) : Type 0 where
  pub khz : ℕ
  pub on_raster : OnRaster n khz
  pub cell_khz : ℕ
  pub cell_on_raster : OnRaster c.assignment.carrier cell_khz
  pub overlap : Overlap khz q.width cell_khz c.assignment.width
  pub near : Near q c.position

-- with some cell
pub record CarrierTaken (q : Question) (n : ℕ) (cs : List PlacedCell) : Type 0 where
  pub cell : PlacedCell
  pub live : In cell cs
  pub conflict : Conflict q n cell

-- with a cell of number m
pub record Named (q : Question) (n : ℕ) (cs : List PlacedCell) (m : ℕ) : Type 0 where
  pub cell : PlacedCell
  pub live : In cell cs
  pub number : cell.number ≡ m
  pub conflict : Conflict q n cell

-- "the lowest that conflicts with none" of a range
pub record Lowest (q : Question) (cs : List PlacedCell) (first last n : ℕ) : Type 0 where
  pub from : first ≤ n
  pub to : n ≤ last
  pub free : (c : PlacedCell) → In c cs → Conflict q n c → ⊥
  pub lower : (m : ℕ) → first ≤ m → m < n → CarrierTaken q m cs

-- ---- limits: a position "within 2,000,000 either way", "a distance from 0 to 6,000,000 metres"
pub record QuestionWithinLimits (q : Question) : Type 0 where
  pub x : unsigned_abs q.position.x ≤ 2000000
  pub y : unsigned_abs q.position.y ≤ 2000000
  pub distance : q.distance ≤ 6000000

-- a carrier number of the raster, and a width "from 1 to 400,000" (E5, E6)
pub record MayAssign (n w : ℕ) : Type 0 where
  pub khz : ℕ
  pub on_raster : OnRaster n khz
  pub from : 1 ≤ w
  pub to : w ≤ 400000

-- the cells are assigned as E6 allows: an entry with another assignment is refused
abbrev pub Assigned : List PlacedCell → Type 0
Assigned cs = (c : PlacedCell) → In c cs → MayAssign c.assignment.carrier c.assignment.width

-- ---- order: numbers of cells, and numbers, rise from `low` on, so none stands twice
abbrev pub RisingPlaced : ℕ → List PlacedCell → Type 0
RisingPlaced low [] = Unit {0}
RisingPlaced low (c ∷ cs) = (low ≤ c.number) × RisingPlaced (c.number + 1) cs

abbrev pub Rising : ℕ → List ℕ → Type 0
Rising low [] = Unit {0}
Rising low (n ∷ ns) = (low ≤ n) × Rising (n + 1) ns

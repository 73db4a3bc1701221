-- What the code of this crate computes on the way. No law speaks of it.
-- Assumes nothing.
use Rattle.std.specs.Prelude.{Bool, cond, ◌&&◌, ℕ, ◌+◌, ◌*◌, ◌-◌, ◌≤◌, ◌<◌, min, ltb, leb, List, [], ◌∷◌, map, Option, Some, None, is_some}
use Rattle.std.specs.List.{filter}
use Rattle.raster.specs.Table.{OnRaster}
use Rattle.reach.specs.Reach.{is_near, khz_at}
use Rattle.reach.specs.declared.Edges.{Edges}
use Rattle.reach.specs.declared.PlacedCell.{PlacedCell}
use Rattle.reach.specs.declared.Question.{Question}

-- what is known of a question that is not refused, and of the frequency of its carrier
pub record Askable (f : ℕ) (q : Question) : Type 0 where
  pub on_raster : f ≤ 99999960
  pub narrow : q.width ≤ 400000
  pub within : q.distance ≤ 6000000

-- where the centre of a carrier of width w, in half kHz, may not be; a width counts up to 200,000,000, further than the raster is wide
unfoldable pub edges_of : ℕ → PlacedCell → Edges
edges_of w c =
    record {
      from = 2 * khz_at c.assignment.carrier + 1 - (w + min c.assignment.width 200000000);
      to = 2 * khz_at c.assignment.carrier + (w + min c.assignment.width 200000000);
    }

unfoldable pub edges_contain : Edges → ℕ → Bool
edges_contain e centre = leb e.from centre && ltb centre e.to

-- of the near cells
abbrev pub near_edges : Question → List PlacedCell → List Edges
near_edges q cs = map (edges_of q.width) (filter (λ c. is_near q c.position) cs)

-- the end of the first that contain a centre
unfoldable pub in_the_way : ℕ → List Edges → Option ℕ
in_the_way centre [] = None
in_the_way centre (e ∷ es) = cond (edges_contain e centre) (Some e.to) (in_the_way centre es)

-- a carrier number is in one of them
abbrev pub is_in_the_way : List Edges → ℕ → Bool
is_in_the_way es n = is_some (in_the_way (2 * khz_at n) es)

-- r is the first raster number at the edge or above it, in half kHz, or the number after the last
pub record FirstFrom (edge r : ℕ) : Type 0 where
  pub below : (n f : ℕ) → OnRaster n f → n < r → 2 * f < edge
  pub from : (n f : ℕ) → OnRaster n f → r ≤ n → edge ≤ 2 * f
  pub within : r ≤ 3279166

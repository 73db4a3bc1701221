-- The limits of a position (document 02, E11).
-- Assumes nothing.
use Rattle.std.specs.Prelude.{Bool, ◌&&◌, ℤ, unsigned_abs, leb}
use Rattle.positions.specs.declared.Position.{Position}

-- "within 2,000,000 either way"
abbrev pub coordinate_within_limit : ℤ → Bool
coordinate_within_limit x = leb (unsigned_abs x) 2000000

unfoldable pub within_grid : Position → Bool
within_grid p = coordinate_within_limit p.x && coordinate_within_limit p.y

-- The rule of whole MHz (document 02, E13): "From a slot named in the settings .., an assignment must have a width that is a multiple of 1,000 kHz."
-- Assumes nothing.
use Rattle.std.specs.Prelude.{Bool, true, ◌&&◌, not, ℕ, ◌%◌, leb, eqb}
use Rattle.register.specs.declared.Change.{Change}
use Rattle.register.specs.declared.Change.TheVariants.{Assign, Release}
use Rattle.register.specs.declared.CellEntry.{CellEntry}

-- "a multiple of 1,000 kHz"
abbrev pub in_whole_mhz : Change → Bool
in_whole_mhz (Assign a) = eqb (a.width % 1000) 0
in_whole_mhz Release = true

-- "a width not in whole MHz at or after that slot"
unfoldable pub is_odd : ℕ → CellEntry → Bool
is_odd from e = leb from e.slot && not (in_whole_mhz e.change)

-- Carrier numbers to kHz and back (document 02, E5), and the number of document 02 that an answer stands for. That the conversions are the table's
-- (Table.antt) is proved: proofs/ByTable.antt.
-- Assumes nothing.
use Rattle.std.specs.Prelude.{cond, ℕ, ◌+◌, ◌*◌, ◌-◌, ◌/◌, ◌%◌, ltb, leb, eqb, Option, Some, None, unwrap_or}
use Rattle.raster.specs.declared.NotOnRaster.{NotOnRaster}

-- "Numbers 0 to 599999 step 5 kHz from 0. Numbers 600000 to 2016666 step 15 kHz from 3,000,000 kHz. Numbers 2016667 to 3279165 step
-- 60 kHz from 24,250,080 kHz."
unfoldable pub frequency_of : ℕ → Option ℕ
frequency_of n =
    cond (leb n 599999) (Some (5 * n))
    (cond (leb n 2016666) (Some (3000000 + 15 * (n - 600000)))
    (cond (leb n 3279165) (Some (24250080 + 60 * (n - 2016667)))
    None))

-- the number that lies a whole number of steps behind the first one of a range, by how many kHz a frequency is above that one's
unfoldable pub whole_steps : ℕ → ℕ → ℕ → Option ℕ
whole_steps first step above = cond (eqb (above % step) 0) (Some (first + above / step)) None

-- the way back; the second range ends with 24,249,990 kHz, the third with 99,999,960
unfoldable pub number_of : ℕ → Option ℕ
number_of f =
    cond (ltb f 3000000) (whole_steps 0 5 f)
    (cond (leb f 24249990) (whole_steps 600000 15 (f - 3000000))
    (cond (ltb f 24250080) None
    (cond (leb f 99999960) (whole_steps 2016667 60 (f - 24250080))
    None)))

-- "14, no raster number or no raster frequency"
abbrev pub not_on_raster : NotOnRaster → ℕ
not_on_raster why = 14

-- document 02's number for an answer, and 0 for one that has a value
abbrev pub raster_refusal : Option ℕ → ℕ
raster_refusal (Some x) = 0
raster_refusal None = 14

-- the value of an answer, and 0 for a refusal
abbrev pub raster_value : Option ℕ → ℕ
raster_value answer = unwrap_or answer 0
